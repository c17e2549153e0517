-- The line of a step.
use Rattle.std.proofs.Common.{◌≡◌, true, false, refl, sym, ◌∙◌, subst}
use Rattle.std.specs.Prelude.{Option, Some, None}
use Rattle.blob.specs.Records.{MediumView}
use Rattle.cta_model.specs.declared.answers.Answer.{Answer}
use Rattle.cta_model.specs.declared.answers.Answer.TheVariants as answer
use Rattle.cta_model.specs.declared.asks.Ask.{Ask}
use Rattle.cta_model.specs.declared.hands.Hand.{Hand}
use Rattle.cta_model.specs.declared.hands.Hand.TheVariants as hand
use Rattle.media.specs.Drives.{DriveView}
use Rattle.drive_session.specs.declared.reports.Done.{Done}
use Rattle.drive_session.specs.declared.reports.Report.{Report}
use Rattle.drive_session.specs.declared.reports.StepLine.{StepLine}
use Rattle.drive_session.specs.declared.reports.StepLine.TheVariants as line
use Rattle.drive_session.specs.declared.session.Memo.{Memo}
use Rattle.drive_session.specs.declared.states.Asked.{Asked}
use Rattle.drive_session.specs.declared.states.Asked.TheVariants as asked
use Rattle.drive_session.specs.declared.states.State.{State}
use Rattle.drive_session.specs.Answers.{is_asking, line_after, said, state_after}
use Rattle.drive_session.specs.Lawful.{Again, Follows, IsSaid, Standing, standing_of}
use Rattle.drive_session.specs.Steps.{LeadsOn}
use Rattle.drive_session.specs.Works.{IsWorkBy}
use Rattle.drive_turns.specs.Turns.{IsLine, StandsAt, StandsBy, answered_in}

-- the line and the state of a step that asked nothing
quiet_line : {M : Type 0} (w : Asked) (s : State M) (a : Answer) (k : Hand M) → is_asking w ≡ false → line_after w s a k ≡ said w
quiet_line (asked.Nothing l) s a k is = refl
quiet_line asked.Next s a k is = absurd (let no : true ≡ false = is in cc)
quiet_line asked.Claim s a k is = absurd (let no : true ≡ false = is in cc)
quiet_line asked.Flushed s a k is = absurd (let no : true ≡ false = is in cc)
quiet_line (asked.Recalled n) s a k is = absurd (let no : true ≡ false = is in cc)
quiet_line (asked.Known o) s a k is = absurd (let no : true ≡ false = is in cc)

quiet_state : {M : Type 0} (w : Asked) (s : State M) (a : Answer) (k : Hand M) → is_asking w ≡ false → state_after w s a k ≡ s
quiet_state (asked.Nothing l) s a k is = refl
quiet_state asked.Next s a k is = absurd (let no : true ≡ false = is in cc)
quiet_state asked.Claim s a k is = absurd (let no : true ≡ false = is in cc)
quiet_state asked.Flushed s a k is = absurd (let no : true ≡ false = is in cc)
quiet_state (asked.Recalled n) s a k is = absurd (let no : true ≡ false = is in cc)
quiet_state (asked.Known o) s a k is = absurd (let no : true ≡ false = is in cc)

module _ {M : Type 0} (told : M → MediumView) (d d' : DriveView) (m s : Memo M) (r : Report M) where
  -- behind its work a session's lines lead on from where they stood
  leads : (o : Option (Ask × Hand M)) → IsWorkBy told d d' m s r o → (from : Standing) (e : Option Done) → StandsBy m o from e → LeadsOn from s.asked s.state (answered_in o e r.device)
  leads None work from e at = subst (λ f. LeadsOn f s.asked s.state r.device) (sym at) work.2.lawful
  leads (Some q) work from e at = rw work.0 at

  module _ (work : IsWorkBy told d d' m s r m.kept) (none : s.kept ≡ None) (from : Standing) (e : Option Done) (at : StandsAt m from e) where
    -- an answer leads to the next standing
    pub answered_line : (a : Answer) (k : Hand M) (l : StepLine) → l ≡ line_after s.asked s.state a k → IsLine m (record s { state = state_after s.asked s.state a k; asked = asked.Nothing l }) r.device l from e
    answered_line a k l is =
        let lead = leads m.kept work from e at a k in
        record {
          to = standing_of (state_after s.asked s.state a k);
          follows = subst (λ x. Follows from x (standing_of (state_after s.asked s.state a k))) (sym is) lead.0;
          says = subst (λ x. IsSaid x (answered_in m.kept e r.device)) (sym is) lead.1;
          stands = subst
              (λ o. StandsBy (record s { state = state_after s.asked s.state a k; asked = asked.Nothing l }) o (standing_of (state_after s.asked s.state a k)) (answered_in m.kept e r.device)) (sym none)
              refl;
        }

    -- a want of memory leaves the lines where they stood
    pub wanting_line : (q : Ask × Hand M) (l : StepLine) → l ≡ line.Memory → IsLine m (record s { kept = Some q }) r.device l from e
    wanting_line q l is = record {
      to = from;
      follows = subst (λ x. Follows from x from) (sym is) (Again from);
      says = subst (λ x. IsSaid x (answered_in m.kept e r.device)) (sym is) tt;
      stands = leads m.kept work from e at;
    }

    -- a step that asked nothing has its own line
    pub quiet_step : is_asking s.asked ≡ false → (l : StepLine) → l ≡ said s.asked → IsLine m s r.device l from e
    quiet_step quiet l is =
        let lead = leads m.kept work from e at answer.Idle hand.Nothing in
        let same = quiet_line s.asked s.state answer.Idle hand.Nothing quiet ∙ sym is in
        let stays = quiet_state s.asked s.state answer.Idle hand.Nothing quiet in
        record {
          to = standing_of s.state;
          follows = subst (λ x. Follows from x (standing_of s.state)) same (subst (λ x. Follows from (line_after s.asked s.state answer.Idle hand.Nothing) (standing_of x)) stays lead.0);
          says = subst (λ x. IsSaid x (answered_in m.kept e r.device)) same lead.1;
          stands = subst (λ o. StandsBy s o (standing_of s.state) (answered_in m.kept e r.device)) (sym none) refl;
        }
