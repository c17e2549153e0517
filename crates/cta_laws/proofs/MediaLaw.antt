-- A medium that is true stays true.
use Rattle.std.proofs.Common.{◌≡◌, ℕ, ◌+◌, ◌-◌, ◌≤◌, inl, inr, List, [], ◌∷◌, ◌++◌, Bool, true, false, ◌&&◌, refl, sym, ◌∙◌, ap, subst, arith, length, length-append}
use Rattle.std.specs.Prelude.{Option, Some, None, zip, if◌then◌else◌, ◌==◌, slice_get}
use Rattle.std.specs.List.{list_any, AllByRecursion}
use Rattle.std.proofs.lemmas.Bool.{and_parts, eqb-true, eq-eqb}
use Rattle.blob.specs.Records.{TapeRecords}
use Rattle.blob.specs.declared.sum.Sum256.{Sum256}
use Rattle.cta_site.specs.declared.site.Site.{Site}
use Rattle.cta_site.specs.Listed.{Listed}
use Rattle.cta_model.specs.declared.entries.Entry.{Entry}
use Rattle.cta_model.specs.declared.asks.Ask.{Ask}
use Rattle.cta_model.specs.declared.asks.Ask.TheVariants as ask
use Rattle.cta_model.specs.declared.asks.Fate.{Fate}
use Rattle.cta_model.specs.declared.asks.Item.{Item}
use Rattle.cta_model.specs.declared.answers.Answer.{Answer}
use Rattle.cta_model.specs.declared.answers.Answer.TheVariants as answer
use Rattle.cta_model.specs.declared.states.Place.{Place}
use Rattle.cta_model.specs.History.{History}
use Rattle.cta_model.specs.Files.{sum_of, is_live}
use Rattle.cta_model.specs.Mounts.{is_open, is_mounted, asked_mount, tape_of_mount, last_batch}
use Rattle.cta_model.specs.Tapes.{tape_items, items_after}
use Rattle.cta_model.specs.Places.{place_of, last_flushed, fseq_after, flushed_in, is_copy_of, is_done}
use Rattle.cta_model.specs.Media.{IsTrueMedium}
use Rattle.cta_model.specs.Answers.{answer_of, is_accepted}
use Rattle.cta_model.specs.Legal.{IsLegal}
use Rattle.cta_laws.specs.Mounts.{are_about_others, IsMountKept}
use Rattle.cta_laws.specs.Places.{IsOfItsFile, is_item_of}
use Rattle.cta_laws.specs.Media.{puts_on, HasItem, TrueMediumStays, ShelfStaysTrue, MountedStaysTrue, FlushedIsTrue}
use Rattle.cta_laws.proofs.Tests.{bool_cases}
use Rattle.cta_laws.proofs.Claims.{AllOf}
use Rattle.cta_laws.proofs.PlaceLaw.{place_cases, flushed_below, entry_below, live_before, live_place, flushed_known, places_on_tape}
use Rattle.cta_laws.proofs.FseqLaw.{places_below}
use Rattle.cta_laws.proofs.MountLaw.{open_mount_stays, tape_is_mounted}
use Rattle.cta_laws.proofs.OpenMounts.{legal_older}
use Rattle.cta_laws.proofs.FileFrames.{sum_older}
use Rattle.cta_laws.proofs.TapeItems.{items_in_turn, turn_low}
use Rattle.cta_laws.proofs.ItemLaw.{flushed_of_files}

-- in a legal history a place's fSeq is one of its tape's items'
within_items : (site : Site) (h : History) → IsLegal site h → (f c v : ℕ) (p : Place) → p.tape ≡ v → place_of h f c ≡ Some p → (1 ≤ p.fseq) × (p.fseq ≤ length (tape_items h v))
within_items site h legal f c v p on is =
    let from : 1 ≤ p.fseq = turn_low 1 f c p.fseq (tape_items h p.tape) (items_in_turn site h legal p.tape) (places_on_tape site h legal f c p is) in
    let to : p.fseq ≤ length (tape_items h p.tape) = omega (arith, places_below site h legal f c p is) in
    (from, subst (λ (u : ℕ). p.fseq ≤ length (tape_items h u)) on to)

sum_long : (newer h : History) (f : ℕ) → f ≤ length h → sum_of (newer ++ h) f ≡ sum_of h f
sum_long [] h f low = refl
sum_long (e ∷ newer) h f low = sum_older e (newer ++ h) f (omega (arith, length-append newer h)) ∙ sum_long newer h f low

-- a place that was there before names the record that it named
named_before : (h h' : History) (f c v : ℕ) (p : Place) (t : TapeRecords) → IsTrueMedium h v t → p.tape ≡ v → place_of h f c ≡ Some p → sum_of h' f ≡ sum_of h f → slice_get t.records (p.fseq - 1) ≡ Some (sum_of h' f)
named_before h h' f c v p t is on was sum = (is.named f c p on was).2 ∙ ap (λ (s : Sum256). Some s) (sym sum)

-- ---- one entry that puts nothing on the tape

items_less : (h : History) (k : Ask) (v : ℕ) → puts_on h k v ≡ false → length (items_after k v (tape_of_mount h (asked_mount k)) (tape_items h v)) ≤ length (tape_items h v)
items_less h (ask.Flushed m items) v d = rw d (omega arith)
items_less h (ask.Reclaim who u) v d = elim (u == v) as (λ b. length (if b then [] else tape_items h v) ≤ length (tape_items h v)) [ true ↦ omega arith | false ↦ omega arith ]
items_less h _ v d = omega arith

not_put : (h : History) (k : Ask) (a : Answer) (v f c s : ℕ) → puts_on h k v ≡ false → fseq_after (flushed_in k a) f c None ≡ Some s → (tape_of_mount h (asked_mount k) == v) ≡ false
not_put h (ask.Flushed m items) a v f c s d e = d
not_put h _ a v f c s d e = absurd (cc)

old_place : (site : Site) (h : History) (e : Entry) (v : ℕ) → IsLegal site (e ∷ h) → puts_on h e.ask v ≡ false → (f c : ℕ) (p : Place) → p.tape ≡ v → place_of (e ∷ h) f c ≡ Some p → (place_of h f c ≡ Some p) × (sum_of (e ∷ h) f ≡ sum_of h f)
old_place site h e v legal d f c p on is =
    let parts = live_place (e ∷ h) f c p is in
    elim (place_cases c (tape_of_mount h (asked_mount e.ask)) (fseq_after (flushed_in e.ask e.answer) f c None) (last_flushed h f c) p parts.1) [
      | inl new ↦
          (let other : (tape_of_mount h (asked_mount e.ask) == v) ≡ false = not_put h e.ask e.answer v f c p.fseq d new.0 in
          let same : (tape_of_mount h (asked_mount e.ask) == v) ≡ true = eq-eqb _ _ (new.1 ∙ on) in
          absurd (cc))
      | inr old ↦
          (let low : f ≤ length h = flushed_below site h legal.0 f c p old.1 in
          let live : is_live h f ≡ true = live_before e h f low parts.0 in
          (rw live old.1, sum_older e h f low))
    ]

pub true_medium_stays : TrueMediumStays
true_medium_stays site h e v t legal d is = record {
  within = is.within;
  enough = (let less : length (tape_items (e ∷ h) v) ≤ length (tape_items h v) = items_less h e.ask v d in omega (arith, is.enough));
  named = λ f c p on there.
      (let low = within_items site (e ∷ h) legal f c v p on there in
      let was = old_place site h e v legal d f c p on there in
      (low.0, low.1, named_before h (e ∷ h) f c v p t is on was.0 was.1));
}

-- ---- a tape that is not mounted

free_by : (site : Site) (h : History) → IsLegal site h → (t : ℕ) (k : Ask) (a : Answer) (v : ℕ) → a ≡ answer_of site h t k → is_accepted a ≡ true → is_mounted h v ≡ false → puts_on h k v ≡ false
free_by site h legal t (ask.Flushed m items) a v is y free =
    let known = (flushed_known site h t m items a is y).0 in
    let up : is_mounted h (tape_of_mount h m) ≡ true = tape_is_mounted site h legal m (and_parts (is_open h m) _ known).0 in
    elim (bool_cases (tape_of_mount h m == v)) [
      | inl hit ↦ (let bad : is_mounted h v ≡ true = subst (λ (x : ℕ). is_mounted h x ≡ true) (eqb-true _ _ hit) up in absurd (cc))
      | inr miss ↦ miss
    ]
free_by site h legal t _ a v is y free = refl

pub shelf_stays_true : ShelfStaysTrue
shelf_stays_true site h e v t legal free is = true_medium_stays site h e v t legal (free_by site h legal.0 e.at e.ask e.answer v legal.1.answered legal.1.accepted free) is

-- ---- an open mount, through entries about others

pub mounted_stays_true : MountedStaysTrue
mounted_stays_true site newer h m t legal op others is =
    let kept : IsMountKept (newer ++ h) h m = open_mount_stays site newer h m legal op others in
    record {
      within = is.within;
      enough = (let same : length (tape_items (newer ++ h) (tape_of_mount h m)) ≡ length (tape_items h (tape_of_mount h m)) = ap length kept.same_items in omega (arith, is.enough));
      named = λ f c p on there.
          (let low = within_items site (newer ++ h) legal f c (tape_of_mount h m) p on there in
          let old : place_of h f c ≡ Some p = kept.old_places f c p on there in
          let sum : sum_of (newer ++ h) f ≡ sum_of h f = sum_long newer h f (flushed_below site h (legal_older site newer h legal) f c p (live_place h f c p old).1) in
          (low.0, low.1, named_before h (newer ++ h) f c (tape_of_mount h m) p t is on old sum));
    }

-- ---- the entry of a flush

-- a record at this fSeq with the sum of the file
abbrev HasFile : History → TapeRecords → ℕ → ℕ → Type 0
HasFile h t f s = slice_get t.records (s - 1) ≡ Some (sum_of h f)

put_on : (h : History) (t : TapeRecords) (xs : List Item) (fs : List Fate) (f c s : ℕ) (before : Option ℕ) → AllOf (IsOfItsFile h) xs → AllByRecursion (HasItem t) xs → (before ≡ Some s → HasFile h t f s) → fseq_after (zip xs fs) f c before ≡ Some s → HasFile h t f s
put_on h t [] fs f c s before files all was e = was e
put_on h t (x ∷ xs) [] f c s before files all was e = was e
put_on h t (x ∷ xs) (y ∷ fs) f c s before files all was e =
    put_on h t xs fs f c s (if is_copy_of f c (x, y) then Some x.fseq else before) files.1 all.1
    (λ q. elim (bool_cases (is_copy_of f c (x, y))) [
      | inl hit ↦
          (let p = and_parts (x.job.file == f) _ (and_parts (is_done y) _ hit).1 in
          let there : Some x.fseq ≡ Some s = rw hit at q in
          let fseq : x.fseq ≡ s = cc in
          let file : x.job.file ≡ f = eqb-true _ _ p.0 in
          let sum : x.sum ≡ sum_of h f = files.0.1 ∙ ap (sum_of h) file in
          subst (λ (n : ℕ). slice_get t.records (n - 1) ≡ Some (sum_of h f)) fseq (all.0 ∙ ap (λ (u : Sum256). Some u) sum))
      | inr miss ↦ was (rw miss at q)
    ])
    e

new_on : (h : History) (t : TapeRecords) (k : Ask) (a : Answer) (m f c s : ℕ) (items : Listed Item) → k ≡ ask.Flushed m items → AllOf (IsOfItsFile h) items.items → AllByRecursion (HasItem t) items.items → fseq_after (flushed_in k a) f c None ≡ Some s → HasFile h t f s
new_on h t k a m f c s items ek files all e = by a (ap (λ (x : Ask). fseq_after (flushed_in x a) f c None) (sym ek) ∙ e)
  where
    by : (a : Answer) → fseq_after (flushed_in (ask.Flushed m items) a) f c None ≡ Some s → HasFile h t f s
    by (answer.Told fates) e = put_on h t items.items fates.items f c s None files all (λ q. absurd (cc)) e
    by _ e = absurd (cc)

pub flushed_is_true : FlushedIsTrue
flushed_is_true site h e m items t legal ek is long all = record {
  within = is.within;
  enough =
      (let more : length (tape_items (e ∷ h) (tape_of_mount h m)) ≡ length (tape_items h (tape_of_mount h m) ++ items.items) =
      ap (λ (k : Ask). length (items_after k (tape_of_mount h m) (tape_of_mount h (asked_mount k)) (tape_items h (tape_of_mount h m)))) ek ∙ ap length (here (tape_of_mount h m == tape_of_mount h m) (eq-eqb _ _ refl)) in
      omega (arith, length-append (tape_items h (tape_of_mount h m)) items.items));
  named = λ f c p on there.
      (let low = within_items site (e ∷ h) legal f c (tape_of_mount h m) p on there in
      let parts = live_place (e ∷ h) f c p there in (
        low.0,
        low.1,
        elim (place_cases c (tape_of_mount h (asked_mount e.ask)) (fseq_after (flushed_in e.ask e.answer) f c None) (last_flushed h f c) p parts.1) [
          | inl new ↦
              (let older : f ≤ length h = entry_below site h legal.0 e.at f c e.ask e.answer p.fseq legal.1.answered new.0 in
              let known = flushed_known site h e.at m items e.answer (legal.1.answered ∙ ap (answer_of site h e.at) ek) legal.1.accepted in
              let files : AllOf (IsOfItsFile h) items.items = flushed_of_files site h legal.0 m items.items (last_batch h m) refl known.1 in
              new_on h t e.ask e.answer m f c p.fseq items ek files all new.0 ∙ ap (λ (s : Sum256). Some s) (sym (sum_older e h f older)))
          | inr old ↦
              (let older : f ≤ length h = flushed_below site h legal.0 f c p old.1 in
              let live : is_live h f ≡ true = live_before e h f older parts.0 in
              let was : place_of h f c ≡ Some p = rw live old.1 in
              named_before h (e ∷ h) f c (tape_of_mount h m) p t is on was (sum_older e h f older))
        ],
      ));
}
  where
    here : (b : Bool) → b ≡ true → (if b then tape_items h (tape_of_mount h m) ++ items.items else tape_items h (tape_of_mount h m)) ≡ tape_items h (tape_of_mount h m) ++ items.items
    here true x = refl
    here false x = absurd (cc)
