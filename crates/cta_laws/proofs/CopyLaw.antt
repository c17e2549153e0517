-- No later entry reclaims the tape on which a copy has its place.
use Rattle.std.proofs.Common.{◌≡◌, ℕ, ◌+◌, ◌≤◌, inl, inr, List, [], ◌∷◌, ◌++◌, Bool, true, false, ◌||◌, refl, sym, ap, subst, arith, length, ◌∙◌}
use Rattle.std.specs.Prelude.{Option, Some, None, is_some, if◌then◌else◌, ◌==◌}
use Rattle.std.specs.List.{list_any}
use Rattle.std.proofs.lemmas.Bool.{eqb-true}
use Rattle.cta_site.specs.declared.site.Site.{Site}
use Rattle.cta_model.specs.declared.entries.Entry.{Entry}
use Rattle.cta_model.specs.declared.asks.Ask.{Ask}
use Rattle.cta_model.specs.declared.asks.Ask.TheVariants as ask
use Rattle.cta_model.specs.declared.asks.Fate.{Fate}
use Rattle.cta_model.specs.declared.asks.Item.{Item}
use Rattle.cta_model.specs.declared.answers.Answer.{Answer}
use Rattle.cta_model.specs.declared.states.Place.{Place}
use Rattle.cta_model.specs.History.{History, moment_of, is_empty}
use Rattle.cta_model.specs.Files.{is_live}
use Rattle.cta_model.specs.Mounts.{tape_of_mount, asked_mount}
use Rattle.cta_model.specs.Tapes.{tape_items}
use Rattle.cta_model.specs.Places.{place_of, place_after, last_flushed, fseq_after, flushed_in, is_copy_of, live_items_on}
use Rattle.cta_model.specs.Legal.{IsLegal}
use Rattle.cta_laws.specs.Places.{PlacesAreNeverReclaimed, flushes, reclaims}
use Rattle.cta_laws.proofs.Tests.{bool_cases}
use Rattle.cta_laws.proofs.PlaceLaw.{live_place, live_before, flushed_below, places_on_tape, found_there}
use Rattle.cta_laws.proofs.FseqLaw.{places_below}
use Rattle.cta_laws.proofs.Accepted.{answer_is}
use Rattle.cta_laws.specs.Asks.{AnswerIs}

neither : (a b : Bool) → (a || b) ≡ false → (a ≡ false) × (b ≡ false)
neither true b e = absurd (cc)
neither false b e = (refl, e)

-- ---- the entry that made a place

none_flushed : (f c : ℕ) (xs : List (Item × Fate)) (before : Option ℕ) → list_any (is_copy_of f c) xs ≡ false → fseq_after xs f c before ≡ before
none_flushed f c [] before none = refl
none_flushed f c (x ∷ xs) before none =
    let p = neither (is_copy_of f c x) (list_any (is_copy_of f c) xs) none in
    rw p.0 (none_flushed f c xs before p.1)

some_kept : (f c : ℕ) (xs : List (Item × Fate)) (before : Option ℕ) → is_some before ≡ true → is_some (fseq_after xs f c before) ≡ true
some_kept f c [] before some = some
some_kept f c (x ∷ xs) before some =
    elim (is_copy_of f c x) as (λ b. is_some (fseq_after xs f c (if b then Some x.0.fseq else before)) ≡ true)
    [ true ↦ some_kept f c xs (Some x.0.fseq) refl | false ↦ some_kept f c xs before some ]

some_flushed : (f c : ℕ) (xs : List (Item × Fate)) (before : Option ℕ) → list_any (is_copy_of f c) xs ≡ true → is_some (fseq_after xs f c before) ≡ true
some_flushed f c [] before some = absurd (cc)
some_flushed f c (x ∷ xs) before some =
    elim (bool_cases (is_copy_of f c x))
    [ inl hit ↦ rw hit (some_kept f c xs (Some x.0.fseq) refl) | inr miss ↦ rw miss (some_flushed f c xs before (rw miss at some)) ]

place_or : Place → Option Place → Place
place_or q None = q
place_or q (Some p) = p

made_there : (c v : ℕ) (o : Option ℕ) (before : Option Place) (p : Place) → is_some o ≡ true → place_after c v o before ≡ Some p → p.tape ≡ v
unfolding place_or
made_there c v None before p some e = absurd (cc)
made_there c v (Some s) before p some e = sym (ap (λ (q : Option Place). (place_or p q).tape) e)

flushed_as_before : (newer g : History) (f c : ℕ) → list_any (flushes f c) newer ≡ false → last_flushed (newer ++ g) f c ≡ last_flushed g f c
flushed_as_before [] g f c none = refl
flushed_as_before (x ∷ newer) g f c none =
    let p = neither (flushes f c x) (list_any (flushes f c) newer) none in
    ap (λ (o : Option ℕ). place_after c (tape_of_mount (newer ++ g) (asked_mount x.ask)) o (last_flushed (newer ++ g) f c)) (none_flushed f c (flushed_in x.ask x.answer) None p.0)
    ∙ flushed_as_before newer g f c p.1

-- ---- no later Reclaim

reclaim_free : (site : Site) (h : History) (t v : ℕ) (k : Ask) (a : Answer) → AnswerIs site h t k a → reclaims v k ≡ true → is_empty (live_items_on h v) ≡ true
reclaim_free site h t v (ask.Reclaim who u) a is e = subst (λ (n : ℕ). is_empty (live_items_on h n) ≡ true) (eqb-true u v e) is.2
reclaim_free site h t v _ a is e = absurd (cc)

no_reclaim : (site : Site) (newer g : History) → IsLegal site (newer ++ g) → (f c : ℕ) (p : Place) → last_flushed g f c ≡ Some p → is_live (newer ++ g) f ≡ true → list_any (flushes f c) newer ≡ false → list_any (λ (x : Entry). reclaims p.tape x.ask) newer ≡ false
no_reclaim site [] g legal f c p last live none = refl
no_reclaim site (x ∷ newer) g legal f c p last live none =
    let parts = neither (flushes f c x) (list_any (flushes f c) newer) none in
    let there : last_flushed (newer ++ g) f c ≡ Some p = flushed_as_before newer g f c parts.1 ∙ last in
    let low : f ≤ length (newer ++ g) = flushed_below site (newer ++ g) legal.0 f c p there in
    let was : is_live (newer ++ g) f ≡ true = live_before x (newer ++ g) f low live in
    let is : place_of (newer ++ g) f c ≡ Some p = rw was there in
    let rest : list_any (λ (y : Entry). reclaims p.tape y.ask) newer ≡ false = no_reclaim site newer g legal.0 f c p last was parts.1 in
    elim (bool_cases (reclaims p.tape x.ask)) [
      | inl hit ↦
          (let free : is_empty (live_items_on (newer ++ g) p.tape) ≡ true = reclaim_free site (newer ++ g) (moment_of (newer ++ g) x.at) p.tape x.ask x.answer (answer_is site (newer ++ g) x.at x.ask x.answer legal.1.answered legal.1.accepted) hit in
          let taken : is_empty (live_items_on (newer ++ g) p.tape) ≡ false = found_there (newer ++ g) f c p is (tape_items (newer ++ g) p.tape) (places_on_tape site (newer ++ g) legal.0 f c p is) in
          absurd (cc))
      | inr miss ↦ rw (miss, rest) refl
    ]

older_part : (site : Site) (newer g : History) → IsLegal site (newer ++ g) → IsLegal site g
older_part site [] g legal = legal
older_part site (x ∷ newer) g legal = older_part site newer g legal.0

pub places_are_never_reclaimed : PlacesAreNeverReclaimed
places_are_never_reclaimed site newer h e legal f c p is made none =
    let parts = live_place (newer ++ e ∷ h) f c p is in
    let last : last_flushed (e ∷ h) f c ≡ Some p = sym (flushed_as_before newer (e ∷ h) f c none) ∙ parts.1 in (
      made_there c (tape_of_mount h (asked_mount e.ask)) (fseq_after (flushed_in e.ask e.answer) f c None) (last_flushed h f c) p (some_flushed f c (flushed_in e.ask e.answer) None made) last,
      no_reclaim site newer (e ∷ h) legal f c p last parts.0 none,
      places_below site (newer ++ e ∷ h) legal f c p is,
    )
