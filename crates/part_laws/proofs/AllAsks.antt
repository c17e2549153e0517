-- Each of the eighteen asks moves the job book, the queues and the counts.
use Rattle.std.proofs.Common.{◌≡◌, ◌∙◌, ℕ, ◌+◌, inl, inr, [], ◌∷◌, true, refl, sym, ap, subst, length}
use Rattle.std.specs.Prelude.{Option}
use Rattle.cta_site.specs.declared.site.Site.{Site}
use Rattle.cta_site.specs.Listed.{rows}
use Rattle.cta_model.specs.declared.entries.Entry.{Entry}
use Rattle.cta_model.specs.declared.asks.Ask.{Ask}
use Rattle.cta_model.specs.declared.asks.Ask.TheVariants as ask
use Rattle.cta_model.specs.declared.asks.Fate.TheVariants as fate
use Rattle.cta_model.specs.declared.answers.Answer.{Answer}
use Rattle.cta_model.specs.declared.answers.Answer.TheVariants as answer
use Rattle.cta_model.specs.declared.states.Mount.{Mount}
use Rattle.cta_model.specs.History.{History, moment_of}
use Rattle.cta_model.specs.Files.{live_file}
use Rattle.cta_model.specs.Mounts.{mount_of}
use Rattle.cta_model.specs.RepackItems.{repack_items}
use Rattle.cta_model.specs.Stages.{request_of}
use Rattle.cta_model.specs.Answers.{retried_jobs, is_accepted}
use Rattle.cta_model.specs.Batches.{batch_of}
use Rattle.cta_model.specs.Legal.{IsLegal, IsFit}
use Rattle.cta_laws.specs.Changes.{may_change_claims, may_change_jobs, may_change_keys, may_change_mounts, may_charge}
use Rattle.cta_laws.proofs.Accepted.{answer_is, fate_by, some_batch, some_file, some_mount, some_request}
use Rattle.cta_laws.specs.Asks.{AnswerIs}
use Rattle.part_laws.specs.JobParts.{JobParts, JobPartsStand}
use Rattle.part_laws.proofs.PartSteps.{parts_claim, parts_delete, parts_end, parts_failed, parts_flushed, parts_next, parts_put, parts_stay}
use Rattle.part_laws.proofs.StaleParts.{parts_recalled_stale}
use Rattle.part_laws.specs.AllAsks.{JobPartsMove, claim_of_mount, delete_named, drop_request, end_of_mount, parts_after}
use Rattle.part_laws.specs.StateLists.{ended_recalls, moved_recalls}
use Rattle.part_laws.proofs.CancelParts.{parts_cancel_by}
use Rattle.part_laws.proofs.RetryParts.{parts_retry}
use Rattle.part_laws.proofs.RepackLists.{parts_recalled_by, tape_state_moves_parts}
use Rattle.part_laws.proofs.RepackParts.{parts_repack_by}
use Rattle.part_laws.proofs.StageParts.{parts_stage}
use Rattle.part_laws.proofs.StateLists.{state_lists}
use Rattle.part_laws.proofs.Waits.{parts_drop_by}

moved : (site : Site) (h : History) (e : Entry) (k : Ask) (a : Answer) (p : JobParts) → IsLegal site (e ∷ h) → e.ask ≡ k → e.answer ≡ a → AnswerIs site h (moment_of h e.at) k a → JobPartsStand site h p → JobPartsStand site (e ∷ h) (parts_after site h e k a p)
moved site h e (ask.Put who path sum) a p legal ek ea is s = parts_put site h e who path sum p legal ek s
moved site h e (ask.Delete who path) a p legal ek ea is s =
    (let g = some_file (live_file h path) is.1 in subst (λ (o : Option ℕ). JobPartsStand site (e ∷ h) (delete_named site h o p)) (sym g.1) (parts_delete site h e who path g.0 p legal ek g.1 s))
moved site h e (ask.Stage who files) a p legal ek ea is s = parts_stage site h e who files p legal ek s
moved site h e (ask.Cancel who id paths) a p legal ek ea is s = parts_cancel_by site h e who id paths p legal ek s
moved site h e (ask.DropStage who id) a p legal ek ea is s =
    (let r = some_request (request_of site h id) is.1 in subst (λ o. JobPartsStand site (e ∷ h) (drop_request site h id o p)) (sym r.1) (parts_drop_by site h e who id r.0 p legal ek r.1 s))
moved site h e (ask.Next d) a p legal ek ea is s =
    subst (λ (x : Answer). JobPartsStand site (e ∷ h) (parts_after site h e (ask.Next d) x p)) (sym is.2) (parts_next site h e d (length h + 1) is.0.direction is.0.tape p legal ek (ea ∙ is.2) s)
moved site h e (ask.Claim m) a p legal ek ea is s =
    (let b = some_batch site h (moment_of h e.at) is.0.direction (batch_of site h (moment_of h e.at) is.0) a is.2 (subst (λ (x : Answer). is_accepted x ≡ true) ea legal.1.accepted) in
    subst (λ (x : Answer). JobPartsStand site (e ∷ h) (parts_after site h e (ask.Claim m) x p)) (sym b.2)
    (subst (λ (o : Option Mount). JobPartsStand site (e ∷ h) (claim_of_mount site m o b.0.items p)) (sym is.1) (parts_claim site h e m is.0 b.0 b.1 p legal ek (ea ∙ b.2) is.1 s)))
moved site h e (ask.Flushed m items) a p legal ek ea is s = parts_flushed site h e m items p legal ek s
moved site h e (ask.Recalled m job) a p legal ek ea is s =
    elim (fate_by site h job) [
      | inl done ↦ (let told : a ≡ answer.Arrived fate.Done = is ∙ ap (λ f. answer.Arrived f) done in subst (λ (x : Answer). JobPartsStand site (e ∷ h) (parts_after site h e (ask.Recalled m job) x p)) (sym told) (parts_recalled_by site h e m job p legal ek (ea ∙ told) s))
      | inr stale ↦ (let told : a ≡ answer.Arrived fate.Stale = is ∙ ap (λ f. answer.Arrived f) stale in subst (λ (x : Answer). JobPartsStand site (e ∷ h) (parts_after site h e (ask.Recalled m job) x p)) (sym told) (parts_recalled_stale site h e m job p legal ek (ea ∙ told) s))
    ]
moved site h e (ask.Failed m fault charged returned) a p legal ek ea is s = parts_failed site h e m fault charged returned p legal ek s
moved site h e (ask.End m fault) a p legal ek ea is s =
    (let fit : IsFit site h (ask.End m fault) = subst (λ (k : Ask). IsFit site h k) ek legal.1.fit in
    let x = some_mount (mount_of h m) fit.0 in
    subst (λ (o : Option Mount). JobPartsStand site (e ∷ h) (end_of_mount site o p)) (sym x.1) (parts_end site h e m fault x.0 p legal ek x.1 s))
moved site h e (ask.TapeState who v st) a p legal ek ea is s = tape_state_moves_parts site h e who v st (moved_recalls site h v) (ended_recalls site h e v) p legal ek (state_lists site h e who v st legal ek) s
moved site h e (ask.Repack who v) a p legal ek ea is s =
    subst (λ (x : Answer). JobPartsStand site (e ∷ h) (parts_after site h e (ask.Repack who v) x p)) (sym is.0) (parts_repack_by site h e who v (length h + 1) (rows (repack_items h v)) p legal ek (ea ∙ is.0) s)
moved site h e (ask.Retry who paths) a p legal ek ea is s =
    subst (λ (x : Answer). JobPartsStand site (e ∷ h) (parts_after site h e (ask.Retry who paths) x p)) (sym is) (parts_retry site h e who paths (rows (retried_jobs site h [] paths.items)) p legal ek (ea ∙ is) s)
moved site h e k a p legal ek ea is s = parts_stay site h e p legal (ap may_change_jobs ek) (ap may_change_claims ek) (ap may_change_keys ek) (ap may_charge ek) (ap may_change_mounts ek) s

pub job_parts_move : JobPartsMove
job_parts_move site h e p legal s = moved site h e e.ask e.answer p legal refl refl (answer_is site h e.at e.ask e.answer legal.1.answered legal.1.accepted) s
