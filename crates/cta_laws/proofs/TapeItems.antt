-- The items of a tape: their fSeqs, their sums, and the places that they are.
use Rattle.std.proofs.Common.{◌≡◌, ℕ, zero, suc, ◌+◌, ◌≤◌, ◌<◌, inl, inr, List, [], ◌∷◌, ◌++◌, Bool, true, false, ◌&&◌, not, refl, sym, ap, subst, arith, length, ◌∙◌}
use Rattle.std.specs.Prelude.{Option, Some, None, if◌then◌else◌, ◌==◌, filter, zip}
use Rattle.std.specs.List.{list_any, AllByRecursion}
use Rattle.std.proofs.lemmas.Bool.{and_parts, and_from, eqb-true, eq-eqb}
use Rattle.std.proofs.lemmas.Slice.Eq.{bytes_eq-Decides}
use Rattle.cta_site.specs.declared.site.Site.{Site}
use Rattle.cta_site.specs.Listed.{Listed}
use Rattle.blob.specs.declared.sum.Sum256.{Sum256}
use Rattle.cta_model.specs.declared.entries.Entry.{Entry}
use Rattle.cta_model.specs.declared.asks.Ask.{Ask}
use Rattle.cta_model.specs.declared.asks.Ask.TheVariants as ask
use Rattle.cta_model.specs.declared.asks.Item.{Item}
use Rattle.cta_model.specs.declared.answers.Answer.{Answer}
use Rattle.cta_model.specs.declared.answers.Answer.TheVariants as answer
use Rattle.cta_model.specs.declared.states.Place.{Place}
use Rattle.cta_model.specs.History.{History, moment_of, is_empty}
use Rattle.cta_model.specs.Files.{is_live, sum_of, entry_sum}
use Rattle.cta_model.specs.Mounts.{tape_of_mount, asked_mount, last_batch, batch_in, batch_or, item_jobs, same_job, mount_of}
use Rattle.cta_model.specs.Tapes.{tape_items, items_after, next_fseq}
use Rattle.cta_model.specs.Places.{place_of, place_after, last_flushed, fseq_after, flushed_in, is_copy_of, is_at, live_items_on}
use Rattle.cta_model.specs.Answers.{answer_of, is_accepted, is_known, is_last_batch, same_items, same_item}
use Rattle.cta_model.specs.Legal.{IsLegal, IsFit}
use Rattle.cta_laws.specs.Places.{AreInTurn, AreRising, AreLiveItems, ItemsInTurn, FlushedInTurn, IsOfItsFile, ItemsAreOfFiles, PlacesAreApart, LiveItemsInOrder, PlacesAreNeverReclaimed, is_item_of, flushes, reclaims}
use Rattle.cta_laws.proofs.Tests.{bool_cases, or_left, or_right, or_cases}
use Rattle.cta_laws.proofs.Claims.{AllOf, all_append, all_mono}
use Rattle.cta_laws.proofs.Sums.{entry_older}
use Rattle.cta_laws.proofs.PlaceLaw.{flushed_known, live_place, live_before, flushed_below, place_cases, places_on_tape, found_there}
use Rattle.cta_laws.proofs.FseqLaw.{places_below}
use Rattle.cta_laws.proofs.FlushedNumbers.{flushed_numbered}
use Rattle.cta_laws.proofs.FlushedLaw.{flushed_done}
use Rattle.cta_laws.proofs.Accepted.{answer_is}
use Rattle.cta_laws.specs.Asks.{AnswerIs}

-- ---- fSeqs in turn

turn_append : (s : ℕ) (xs ys : List Item) → AreInTurn s xs → AreInTurn (s + length xs) ys → AreInTurn s (xs ++ ys)
unfolding AreInTurn
turn_append s [] ys a b = subst (λ (n : ℕ). AreInTurn n ys) (omega arith) b
turn_append s (x ∷ xs) ys a b = (a.0, turn_append (s + 1) xs ys a.1 (subst (λ (n : ℕ). AreInTurn n ys) (omega arith) b))

pub flushed_in_turn : FlushedInTurn
flushed_in_turn site h e legal m items ek =
    flushed_numbered site h legal.0 e.at m items e.answer (legal.1.answered ∙ ap (answer_of site h e.at) ek) legal.1.accepted (subst (λ (k : Ask). IsFit site h k) ek legal.1.fit)

turn_step : (site : Site) (h : History) (e : Entry) → IsLegal site (e ∷ h) → (k : Ask) → e.ask ≡ k → (v : ℕ) → AreInTurn 1 (tape_items h v) → AreInTurn 1 (items_after k v (tape_of_mount h (asked_mount k)) (tape_items h v))
unfolding AreInTurn
turn_step site h e legal (ask.Flushed m items) ek v before =
    elim (bool_cases (tape_of_mount h m == v)) [
      | inl hit ↦
          (let new : AreInTurn (next_fseq h (tape_of_mount h m)) items.items = flushed_in_turn site h e legal m items ek in
          let there : AreInTurn (next_fseq h v) items.items = subst (λ (u : ℕ). AreInTurn (next_fseq h u) items.items) (eqb-true _ _ hit) new in
          rw hit (turn_append 1 (tape_items h v) items.items before (subst (λ (n : ℕ). AreInTurn n items.items) (omega arith) there)))
      | inr miss ↦ rw miss before
    ]
turn_step site h e legal (ask.Reclaim who u) ek v before = elim (u == v) as (λ b. AreInTurn 1 (if b then [] else tape_items h v)) [ true ↦ tt | false ↦ before ]
turn_step site h e legal _ ek v before = before

pub items_in_turn : ItemsInTurn
unfolding AreInTurn
items_in_turn site [] legal v = tt
items_in_turn site (e ∷ h) legal v = turn_step site h e legal e.ask refl v (items_in_turn site h legal.0 v)

-- ---- places apart

-- an item in turn has one of the fSeqs from s on
pub turn_low : (s f c n : ℕ) (items : List Item) → AreInTurn s items → list_any (is_item_of f c n) items ≡ true → s ≤ n
unfolding AreInTurn
turn_low s f c n [] turn e = absurd (cc)
turn_low s f c n (i ∷ items) turn e =
    elim (or_cases (is_item_of f c n i) _ e) [
      | inl this ↦ (let fseq : i.fseq ≡ n = eqb-true _ _ (and_parts (i.job.copy == c) _ (and_parts (i.job.file == f) _ this).1).1 in let first : i.fseq ≡ s = turn.0 in omega arith)
      | inr rest ↦ (let low : s + 1 ≤ n = turn_low (s + 1) f c n items turn.1 rest in omega arith)
    ]

one_item : (s f c g d n : ℕ) (items : List Item) → AreInTurn s items → list_any (is_item_of f c n) items ≡ true → list_any (is_item_of g d n) items ≡ true → (f ≡ g) × (c ≡ d)
unfolding AreInTurn
one_item s f c g d n [] turn a b = absurd (cc)
one_item s f c g d n (i ∷ items) turn a b =
    elim (or_cases (is_item_of f c n i) _ a) [
      | inl this ↦
          (let x = and_parts (i.job.file == f) _ this in
          let y = and_parts (i.job.copy == c) _ x.1 in
          let fseq : i.fseq ≡ n = eqb-true _ _ y.1 in
          elim (or_cases (is_item_of g d n i) _ b) [
            | inl that ↦
                (let u = and_parts (i.job.file == g) _ that in
                let w = and_parts (i.job.copy == d) _ u.1 in
                (sym (eqb-true _ _ x.0) ∙ eqb-true _ _ u.0, sym (eqb-true _ _ y.0) ∙ eqb-true _ _ w.0))
            | inr later ↦ (let low : s + 1 ≤ n = turn_low (s + 1) g d n items turn.1 later in let first : i.fseq ≡ s = turn.0 in absurd (omega arith))
          ])
      | inr rest ↦
          elim (or_cases (is_item_of g d n i) _ b) [
            | inl that ↦
                (let fseq : i.fseq ≡ n = eqb-true _ _ (and_parts (i.job.copy == d) _ (and_parts (i.job.file == g) _ that).1).1 in
                let low : s + 1 ≤ n = turn_low (s + 1) f c n items turn.1 rest in
                let first : i.fseq ≡ s = turn.0 in
                absurd (omega arith))
            | inr later ↦ one_item (s + 1) f c g d n items turn.1 rest later
          ]
    ]

pub places_are_apart : PlacesAreApart
places_are_apart site h legal f c g d p q fp gq tape fseq =
    let a : list_any (is_item_of f c p.fseq) (tape_items h p.tape) ≡ true = places_on_tape site h legal f c p fp in
    let b : list_any (is_item_of g d q.fseq) (tape_items h q.tape) ≡ true = places_on_tape site h legal g d q gq in
    let b' : list_any (is_item_of g d p.fseq) (tape_items h p.tape) ≡ true = subst (λ (v : ℕ). list_any (is_item_of g d p.fseq) (tape_items h v) ≡ true) (sym tape) (subst (λ (s : ℕ). list_any (is_item_of g d s) (tape_items h q.tape) ≡ true) (sym fseq) b) in
    one_item 1 f c g d p.fseq (tape_items h p.tape) (items_in_turn site h legal p.tape) a b'

-- ---- the live items

above_filter : (n : ℕ) (keep : Item → Bool) (items : List Item) → AllByRecursion (λ (k : Item). n < k.fseq) items → AllByRecursion (λ (k : Item). n < k.fseq) (filter keep items)
above_filter n keep [] all = tt
above_filter n keep (i ∷ items) all =
    elim (keep i) as (λ b. AllByRecursion (λ (k : Item). n < k.fseq) (if b then i ∷ filter keep items else filter keep items))
    [ true ↦ (all.0, above_filter n keep items all.1) | false ↦ above_filter n keep items all.1 ]

pub turn_above : (n s : ℕ) (items : List Item) → n < s → AreInTurn s items → AllByRecursion (λ (k : Item). n < k.fseq) items
unfolding AreInTurn
turn_above n s [] low turn = tt
turn_above n s (i ∷ items) low turn = (let first : i.fseq ≡ s = turn.0 in (omega arith, turn_above n (s + 1) items (omega arith) turn.1))

rising_filter : (s : ℕ) (keep : Item → Bool) (items : List Item) → AreInTurn s items → AreRising (filter keep items)
unfolding AreInTurn
rising_filter s keep [] turn = tt
rising_filter s keep (i ∷ items) turn =
    let above : AllByRecursion (λ (k : Item). i.fseq < k.fseq) items = (let first : i.fseq ≡ s = turn.0 in turn_above i.fseq (s + 1) items (omega arith) turn.1) in
    elim (keep i) as (λ b. AreRising (if b then i ∷ filter keep items else filter keep items))
    [ true ↦ (above_filter i.fseq keep items above, rising_filter (s + 1) keep items turn.1) | false ↦ rising_filter (s + 1) keep items turn.1 ]

-- the item of a place passes the filter
live_there : (h : History) (f c : ℕ) (p : Place) → place_of h f c ≡ Some p → (items : List Item) → list_any (is_item_of f c p.fseq) items ≡ true → list_any (is_item_of f c p.fseq) (filter (λ (i : Item). is_at p.tape i.fseq (place_of h i.job.file i.job.copy)) items) ≡ true
live_there h f c p is [] e = absurd (cc)
live_there h f c p is (i ∷ items) e =
    elim (or_cases (is_item_of f c p.fseq i) _ e) [
      | inl this ↦
          (let file : i.job.file ≡ f = eqb-true _ _ (and_parts (i.job.file == f) _ this).0 in
          let rest = and_parts (i.job.copy == c) _ (and_parts (i.job.file == f) _ this).1 in
          let copy : i.job.copy ≡ c = eqb-true _ _ rest.0 in
          let fseq : i.fseq ≡ p.fseq = eqb-true _ _ rest.1 in
          let there : place_of h i.job.file i.job.copy ≡ Some p = ap (λ (n : ℕ). place_of h n i.job.copy) file ∙ (ap (place_of h f) copy ∙ is) in
          let here : is_at p.tape i.fseq (place_of h i.job.file i.job.copy) ≡ true = rw there (and_from _ _ (eq-eqb p.tape p.tape refl) (eq-eqb p.fseq i.fseq (sym fseq))) in
          rw here (or_left (is_item_of f c p.fseq i) _ this))
      | inr more ↦
          elim (bool_cases (is_at p.tape i.fseq (place_of h i.job.file i.job.copy))) [
            | inl hit ↦ rw hit (or_right (is_item_of f c p.fseq i) _ (live_there h f c p is items more))
            | inr miss ↦ rw miss (live_there h f c p is items more)
          ]
    ]

pub live_items_in_order : LiveItemsInOrder
live_items_in_order site h legal v = record {
  rising = rising_filter 1 (λ (i : Item). is_at v i.fseq (place_of h i.job.file i.job.copy)) (tape_items h v) (items_in_turn site h legal v);
  all = λ f c p is on. subst (λ (u : ℕ). list_any (is_item_of f c p.fseq) (live_items_on h u) ≡ true) on (live_there h f c p is (tape_items h p.tape) (places_on_tape site h legal f c p is));
}
