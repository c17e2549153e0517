-- One call of the table for each item of a flush moves it as the entry does.
use Rattle.std.proofs.Common.{◌≡◌, ℕ, suc, ◌+◌, ◌<◌, inl, inr, List, [], ◌∷◌, Bool, true, false, refl, sym, ◌∙◌, ap, subst, arith, length}
use Rattle.std.specs.Prelude.{zip, Option, Some, None, if◌then◌else◌, ◌==◌, map}
use Rattle.std.proofs.lemmas.Bool.{eqb-true, eq-eqb}
use Rattle.cta_site.specs.declared.site.Site.{Site}
use Rattle.cta_site.specs.declared.site.TapeState.{TapeState}
use Rattle.cta_site.specs.Listed.{Listed}
use Rattle.cta_model.specs.declared.entries.Entry.{Entry}
use Rattle.cta_model.specs.declared.asks.Ask.{Ask}
use Rattle.cta_model.specs.declared.asks.Ask.TheVariants as ask
use Rattle.cta_model.specs.declared.asks.Direction.TheVariants as direction
use Rattle.cta_model.specs.declared.asks.Fate.{Fate}
use Rattle.cta_model.specs.declared.asks.Item.{Item}
use Rattle.cta_model.specs.declared.answers.Answer.{Answer}
use Rattle.cta_model.specs.declared.answers.Answer.TheVariants as answer
use Rattle.cta_model.specs.declared.states.Place.{Place}
use Rattle.cta_model.specs.History.{History}
use Rattle.cta_model.specs.Mounts.{mount_of, tape_of_mount}
use Rattle.cta_model.specs.Tapes.{next_fseq, state_after}
use Rattle.cta_model.specs.Places.{fseq_after, is_copy_of, place_after}
use Rattle.cta_model.specs.Answers.{answer_of, fate_of}
use Rattle.cta_model.specs.Legal.{IsLegal, IsMountOf, IsFit}
use Rattle.cta_laws.specs.Places.{AreInTurn}
use Rattle.cta_laws.proofs.Tests.{bool_cases}
use Rattle.cta_laws.proofs.Bools.{turned}
use Rattle.cta_laws.proofs.FlushedCopies.{flushed_told}
use Rattle.cta_laws.proofs.FlushedNumbers.{flushed_numbered}
use Rattle.part_model.specs.declared.space.TapeRow.{TapeRow}
use Rattle.part_model.specs.Tapes.{AreDistinct, HaveFlushed, Table, place_in, row_in}
use Rattle.part_laws.specs.Tapes.{IsTable}
use Rattle.part_laws.proofs.After.{TableMoved, next_after, placed_after, row_after, used_after}

-- ---- one call for each item

pub after_after : (c v f : ℕ) (xs : List (Item × Fate)) (o : Option ℕ) (b : Option Place) → place_after c v (fseq_after xs f c o) b ≡ place_after c v (fseq_after xs f c None) (place_after c v o b)
after_after c v f [] o b = refl
after_after c v f (x ∷ xs) o b =
    elim (bool_cases (is_copy_of f c x)) [
      | inl hit ↦ rw hit (after_after c v f xs (Some x.0.fseq) b ∙ sym (after_after c v f xs (Some x.0.fseq) (place_after c v o b)))
      | inr miss ↦ rw miss (after_after c v f xs o b)
    ]

abbrev pub next_row : ℕ → TapeRow → TapeRow
next_row n r = record { used = r.used; next = n; state = r.state }

-- the table after all calls
pub record Flushed (tape : ℕ) (xs : List (Item × Fate)) (v v' : Table) : Type 0 where
  pub rows : (t : ℕ) → row_in v' t ≡ (if t == tape then next_row ((row_in v t).next + length xs) (row_in v t) else row_in v t)
  pub places : (f c : ℕ) → place_in v' f c ≡ place_after c tape (fseq_after xs f c None) (place_in v f c)
  pub distinct : AreDistinct v.places → AreDistinct v'.places

pub to_row : (n n' : ℕ) (r : TapeRow) → n ≡ n' → next_row n r ≡ next_row n' r
to_row n n' r e = ap (λ (k : ℕ). next_row k r) e

pub no_more : (b : Bool) (r : TapeRow) → r ≡ (if b then next_row (r.next + 0) r else r)
no_more true r = (let e : r.next ≡ r.next + 0 = omega arith in to_row r.next (r.next + 0) r e)
no_more false r = refl

pub one_more : (b : Bool) (n : ℕ) (r r' r'' : TapeRow) → r' ≡ (if b then next_row (r.next + 1) r else r) → r'' ≡ (if b then next_row (r'.next + n) r' else r') → r'' ≡ (if b then next_row (r.next + suc n) r else r)
one_more true n r r' r'' e e' =
    let next : r'.next + n ≡ r.next + suc n = (let x : r'.next ≡ r.next + 1 = ap (λ (y : TapeRow). y.next) e in omega arith) in
    e' ∙ ap (λ (y : TapeRow). next_row (y.next + n) y) e ∙ to_row (r.next + 1 + n) (r.next + suc n) r (omega arith)
one_more false n r r' r'' e e' = e' ∙ e

pub placed : (b : Bool) (c v s n : ℕ) (f : ℕ) (xs : List (Item × Fate)) (before : Option Place) → s ≡ n → place_after c v (fseq_after xs f c None) (if b then Some (record { copy = c; tape = v; fseq = n }) else before) ≡ place_after c v (fseq_after xs f c (if b then Some s else None)) before
placed true c v s n f xs before e =
    ap (λ (k : ℕ). place_after c v (fseq_after xs f c None) (Some (record { copy = c; tape = v; fseq = k }))) (sym e) ∙ sym (after_after c v f xs (Some s) before)
placed false c v s n f xs before e = refl

-- one call for each item in turn puts the copies where the entry says, and gives each item its fSeq
pub have_flushed : (tape : ℕ) (xs : List (Item × Fate)) (v v' : Table) → HaveFlushed tape xs v v' → AreInTurn (row_in v tape).next (map (λ (x : Item × Fate). x.0) xs) → Flushed tape xs v v'
unfolding HaveFlushed AreInTurn
have_flushed tape [] v v' same all = record {
  rows = λ t. subst (λ (w : Table). row_in w t ≡ (if t == tape then next_row ((row_in v t).next + 0) (row_in v t) else row_in v t)) same (no_more (t == tape) (row_in v t));
  places = λ f c. ap (λ (w : Table). place_in w f c) (sym same);
  distinct = λ d. subst (λ (w : Table). AreDistinct w.places) same d;
}
have_flushed tape (x ∷ xs) v v' calls all =
    let u : Table = calls.0 in
    let next : (row_in u tape).next ≡ (row_in v tape).next + 1 = ap (λ (r : TapeRow). r.next) (calls.1.rows tape) ∙ first (tape == tape) (eq-eqb tape tape refl) in
    let rest : Flushed tape xs u v' = have_flushed tape xs u v' calls.2 (subst (λ (s : ℕ). AreInTurn s (map (λ (x : Item × Fate). x.0) xs)) (sym next) all.1) in
    record {
      rows = λ t. one_more (t == tape) (length xs) (row_in v t) (row_in u t) (row_in v' t) (calls.1.rows t) (rest.rows t);
      places = λ f c. rest.places f c ∙ ap (place_after c tape (fseq_after xs f c None)) (calls.1.places f c) ∙ placed (is_copy_of f c x) c tape x.0.fseq (row_in v tape).next f xs (place_in v f c) all.0;
      distinct = λ d. rest.distinct calls.1.distinct;
    }
  where
    first : (b : Bool) → b ≡ true → TapeRow.next (if b then next_row ((row_in v tape).next + 1) (row_in v tape) else row_in v tape) ≡ (row_in v tape).next + 1
    first true e = refl
    first false e = absurd (cc)

-- ---- a Flushed is one call for each of its items

abbrev row : ℕ → ℕ → TapeState → TapeRow
row u n s = record { used = u; next = n; state = s }

zip_first : (g : Item → Fate) (xs : List Item) → map (λ (x : Item × Fate). x.0) (zip xs (map g xs)) ≡ xs
zip_first g [] = refl
zip_first g (x ∷ xs) = ap (λ (ys : List Item). x ∷ ys) (zip_first g xs)

zip_length : (g : Item → Fate) (xs : List Item) → length (zip xs (map g xs)) ≡ length xs
zip_length g [] = refl
zip_length g (x ∷ xs) = ap suc (zip_length g xs)

turned_row : (t tape n n' : ℕ) (r : TapeRow) → n ≡ n' → (if t == tape then next_row (r.next + n) r else r) ≡ record { used = r.used; next = if tape == t then r.next + n' else r.next; state = r.state }
turned_row t tape n n' r e =
    elim (bool_cases (t == tape)) [
      | inl hit ↦ (let back : (tape == t) ≡ true = eq-eqb tape t (sym (eqb-true t tape hit)) in rw (hit, back) (ap (λ (k : ℕ). next_row (r.next + k) r) e))
      | inr miss ↦ rw (miss, turned t tape miss) refl
    ]

pub flushed_table : (site : Site) (h : History) (e : Entry) (m : ℕ) (items : Listed Item) (fates : Listed Fate) (v v' : Table) → IsLegal site (e ∷ h) → e.ask ≡ ask.Flushed m items → e.answer ≡ answer.Told fates → IsTable site h v → tape_of_mount h m < length site.tapes.items
    → HaveFlushed (tape_of_mount h m) (zip items.items fates.items) v v' → TableMoved site h e v v'
flushed_table site h e m items fates v v' legal ek ea is low calls =
    let told : answer.Told fates ≡ answer_of site h e.at (ask.Flushed m items) = sym ea ∙ legal.1.answered ∙ ap (answer_of site h e.at) ek in
    let way : IsMountOf direction.Archive (mount_of h m) = subst (λ (k : Ask). IsFit site h k) ek legal.1.fit in
    let fate_is : fates.items ≡ map (λ (i : Item). fate_of site h i.job) items.items = flushed_told site h e.at m items fates told in
    let items_are : map (λ (x : Item × Fate). x.0) (zip items.items fates.items) ≡ items.items = ap (λ (fs : List Fate). map (λ (x : Item × Fate). x.0) (zip items.items fs)) fate_is ∙ zip_first (λ (i : Item). fate_of site h i.job) items.items in
    let many : length (zip items.items fates.items) ≡ length items.items = ap (λ (fs : List Fate). length (zip items.items fs)) fate_is ∙ zip_length (λ (i : Item). fate_of site h i.job) items.items in
    let next : (row_in v (tape_of_mount h m)).next ≡ next_fseq h (tape_of_mount h m) = ap (λ (r : TapeRow). r.next) (is.rows (tape_of_mount h m) low) in
    let from : AreInTurn (next_fseq h (tape_of_mount h m)) items.items = flushed_numbered site h legal.0 e.at m items (answer.Told fates) told refl way in
    let all : AreInTurn (row_in v (tape_of_mount h m)).next (map (λ (x : Item × Fate). x.0) (zip items.items fates.items)) = subst (λ (s : ℕ). AreInTurn s (map (λ (x : Item × Fate). x.0) (zip items.items fates.items))) (sym next) (subst (λ (xs : List Item). AreInTurn (next_fseq h (tape_of_mount h m)) xs) (sym items_are) from) in
    let f : Flushed (tape_of_mount h m) (zip items.items fates.items) v v' = have_flushed (tape_of_mount h m) (zip items.items fates.items) v v' calls all in
    record {
      rows = λ t below. f.rows t ∙ turned_row t (tape_of_mount h m) _ (length items.items) (row_in v t) many ∙ sym (after t);
      places = λ g c. f.places g c ∙ sym (ap (λ (k : Ask). placed_after h k e.answer g c (place_in v g c)) ek ∙ ap (λ (a : Answer). placed_after h (ask.Flushed m items) a g c (place_in v g c)) ea);
      distinct = f.distinct is.distinct;
    }
  where
    after : (t : ℕ) → row_after h e t (row_in v t) ≡ record { used = (row_in v t).used; next = if tape_of_mount h m == t then (row_in v t).next + length items.items else (row_in v t).next; state = (row_in v t).state }
    after t = ap (λ (k : Ask). row (used_after h k e.answer t (row_in v t).used) (next_after h k t (row_in v t).next) (state_after k t (row_in v t).state)) ek
