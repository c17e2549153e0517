-- What a drive's pass adds to the account of links: nothing.
use Rattle.std.proofs.Common.{◌≡◌, ℕ, Bool, false, List, [], ◌∷◌, refl, ap, ◌∙◌, arith}
use Rattle.std.specs.Prelude.{Option, cond, count_by}
use Rattle.cta_model.specs.declared.asks.Ask.{Ask}
use Rattle.cta_model.specs.declared.hands.Hand.{Hand}
use Rattle.wire_http.specs.declared.request.Request.{Request}
use Rattle.turn_hall.specs.declared.view.Made.{Made}
use Rattle.turn_hall.specs.Calls.{merged}
use Rattle.link_loop.specs.declared.front.Routed.{Routed}
use Rattle.drive_turns.specs.Turns.{AreOfSessions}
use Rattle.link_crew.specs.Accounts.{Accounted, asks_of}
use Rattle.link_pool.specs.declared.views.Passed.{Passed}
use Rattle.link_pool.specs.Entries.{links_of}
use Rattle.link_crew.proofs.Accounts.{none_asked as no_link_asked}
use Rattle.link_crew.proofs.Counts.{count-left, sum-merged, weight}
use Rattle.server_crew.specs.Jobs.{AreApart}

module _ {C B K M : Type 0} (question : C → K) (is_callers : K → Bool) (asking : ℕ → Ask → Hand M → C) where
  -- the calls of sessions ask nothing that callers ask
  none_asked : AreApart question is_callers asking → (ms : List (Made C B)) → AreOfSessions asking ms → asks_of question is_callers ms ≡ []
  none_asked apart [] all = refl
  none_asked apart (m ∷ ms) all =
      let one : is_callers (question m.call) ≡ false = ap (λ c. is_callers (question c)) all.0.4 ∙ apart all.0.0 all.0.1 all.0.2 all.0.3 in
      ap (λ b. cond b (question m.call ∷ asks_of question is_callers ms) (asks_of question is_callers ms)) one ∙ none_asked apart ms all.1

module _ {L C B K M : Type 0} (question : C → K) (is_callers : K → Bool) (asking : ℕ → Ask → Hand M → C) (left : L → Option (List ℕ)) (firm : L → Bool) (limit : ℕ) (needs : Request → Routed K) where
  -- a pass of links, joined with that of a drive
  pub with_drive : (ms ds : List (Made C B)) (links : List L) (n : ℕ) → AreApart question is_callers asking → AreOfSessions asking ds → Accounted question is_callers left firm limit needs ms links n
      → Accounted question is_callers left firm limit needs (merged ms ds) links n
  with_drive ms ds links n apart all a = record {
    asked = a.asked;
    taken = a.taken;
    calls = λ p.
        let g = λ (m : Made C B). question m.call in
        let u = count-left g is_callers p (merged ms ds) in
        let v = count-left g is_callers p ms in
        let w = count-left g is_callers p ds in
        let s = sum-merged (weight g is_callers p) ms ds in
        let z = ap (count_by p) (none_asked question is_callers asking apart ds all) in
        let c = a.calls p in
        omega (arith, u, v, w, s, z, c);
    whole = a.whole;
  }

  -- a pass of a drive alone
  pub only_sessions : (ds : List (Made C B)) (got : List (Passed L)) → AreApart question is_callers asking → AreOfSessions asking ds → got ≡ [] → Accounted question is_callers left firm limit needs ds (links_of got) 0
  only_sessions ds got apart all g = with_drive [] ds (links_of got) 0 apart all (no_link_asked question is_callers left firm limit needs [] got refl g)
