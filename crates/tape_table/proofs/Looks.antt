-- What the rows and the index of places tell.
use Rattle.std.proofs.Common.{◌≡◌, ◌∙◌, ℕ, List, [], ◌∷◌, Bool, true, false, ◌&&◌, ◌||◌, refl, sym, ap, subst, None, Some, ◌+◌, ◌<◌, ◌≤◌, length, arith}
use Rattle.std.specs.Prelude.{Option, if◌then◌else◌, ◌==◌, filter, nat_lt, slice_get}
use Rattle.std.proofs.lemmas.Bool.{eqb-true, eq-eqb}
use Rattle.std.proofs.lemmas.Bool.Decides.{nat_tests}
use Rattle.cta_model.specs.declared.states.Place.{Place}
use Rattle.cta_model.specs.declared.asks.Item.{Item}
use Rattle.cta_model.specs.declared.asks.Fate.{Fate}
use Rattle.cta_model.specs.Places.{is_done}
use Rattle.part_model.specs.declared.space.Placed.{Placed}
use Rattle.part_model.specs.declared.space.TapeRow.{TapeRow}
use Rattle.part_model.specs.Tapes.{Table, TablesAgree, HasTurned, HasDropped, HasFlushed, AreDistinct, is_placed, place_among, row_or}
use Rattle.tape_table.specs.Indexed.{AreFiled, Indexed}

eq_flip : (a b : ℕ) → (a == b) ≡ (b == a)
eq_flip a b = grind arith

-- ---- loops

-- copy 0 has no place
pub none_taken : (ps : List Placed) (file : ℕ) → place_among ps file 0 ≡ None → (f k : ℕ) → place_among ps f k ≡ (if file == f && nat_lt k 1 then None else place_among ps f k)
none_taken ps file none f k = by (file == f) refl (nat_lt k 1) refl
  where
    zero_is : nat_lt k 1 ≡ true → k ≡ 0
    zero_is e = grind (arith, nat_tests)

    by : (a : Bool) → (file == f) ≡ a → (b : Bool) → nat_lt k 1 ≡ b → place_among ps f k ≡ (if a && b then None else place_among ps f k)
    by true ea true eb = sym (ap (λ n. place_among ps n k) (eqb-true file f ea)) ∙ ap (λ n. place_among ps file n) (zero_is eb) ∙ none
    by true ea false eb = refl
    by false ea b eb = refl

bools : (a b c d : Bool) (x m n : Option Place) → d ≡ (b || c) → m ≡ (if a && b then None else x) → n ≡ (if a && c then None else m) → n ≡ (if a && d then None else x)
bools false b c d x m n split old new = new ∙ old
bools true true true d x m n split old new = rw split new
bools true true false d x m n split old new = rw split (new ∙ old)
bools true false true d x m n split old new = rw split new
bools true false false d x m n split old new = rw split (new ∙ old)

pub one_taken : (a : Bool) (k copy : ℕ) (x m n : Option Place) → m ≡ (if a && nat_lt k copy then None else x) → n ≡ (if a && (copy == k) then None else m) → n ≡ (if a && nat_lt k (copy + 1) then None else x)
one_taken a k copy x m n old new = bools a (nat_lt k copy) (copy == k) (nat_lt k (copy + 1)) x m n (split (copy == k) refl) old new
  where
    split : (t : Bool) → (copy == k) ≡ t → nat_lt k (copy + 1) ≡ (nat_lt k copy || t)
    split true e = (let same : copy ≡ k = eqb-true copy k e in let low : nat_lt k (copy + 1) ≡ true = grind (arith, nat_tests) in let high : nat_lt k copy ≡ false = grind (arith, nat_tests) in rw (low, high) refl)
    split false e = by (nat_lt k copy) refl
      where
        by : (t : Bool) → nat_lt k copy ≡ t → nat_lt k (copy + 1) ≡ (t || false)
        by true low = grind (arith, nat_tests)
        by false high = grind (arith, nat_tests)

-- ---- calls

-- the table that rows and places tell
abbrev pub table_of : List TapeRow → List Placed → Table
table_of rows ps = record { rows = rows; places = ps }

-- each row but this one stays
abbrev pub RowPut : List TapeRow → List TapeRow → ℕ → TapeRow → Type 0
RowPut old new tape row = (t : ℕ) → row_or (slice_get new t) ≡ (if t == tape then row else row_or (slice_get old t))

-- a row that is put is the turned one
pub turned_rows : (old new : List TapeRow) (tape : ℕ) (row : TapeRow) (turn : TapeRow → TapeRow) → ((t : ℕ) → row_or (slice_get new t) ≡ (if t == tape then row else row_or (slice_get old t))) → row ≡ turn (row_or (slice_get old tape))
    → (t : ℕ) → row_or (slice_get new t) ≡ (if t == tape then turn (row_or (slice_get old t)) else row_or (slice_get old t))
turned_rows old new tape row turn each is t = each t ∙ by (t == tape) refl
  where
    by : (b : Bool) → (t == tape) ≡ b → (if b then row else row_or (slice_get old t)) ≡ (if b then turn (row_or (slice_get old t)) else row_or (slice_get old t))
    by true hit = is ∙ ap (λ (n : ℕ). turn (row_or (slice_get old n))) (sym (eqb-true t tape hit))
    by false miss = refl

pub has_turned : (old new : List TapeRow) (ps : List Placed) (v : Table) (tape : ℕ) (row : TapeRow) (turn : TapeRow → TapeRow) → table_of old ps ≡ v → AreDistinct ps → RowPut old new tape row → row ≡ turn (row_or (slice_get old tape)) → HasTurned tape turn v (table_of new ps)
has_turned old new ps v tape row turn is distinct each same = subst (λ (u : Table). HasTurned tape turn u (table_of new ps)) is (record {
  rows = turned_rows old new tape row turn each same;
  places = λ f c. refl;
  distinct = distinct;
})

pub tables_agree : (rows : List TapeRow) (old new : List Placed) (v : Table) → table_of rows old ≡ v → AreDistinct old → new ≡ old → TablesAgree (table_of rows new) v
tables_agree rows old new v is distinct same = subst (λ (u : Table). TablesAgree (table_of rows new) u) is (record {
  rows = λ t. refl;
  places = λ f c. ap (λ l. place_among l f c) same;
  distinct = subst AreDistinct (sym same) distinct;
})

-- the places of a file are gone
abbrev pub FileGone : ℕ → List Placed → List Placed → Type 0
FileGone file old new = (f c : ℕ) → place_among new f c ≡ (if file == f && nat_lt c 5 then None else place_among old f c)

pub has_dropped : (rows : List TapeRow) (old new : List Placed) (v : Table) (file : ℕ) → table_of rows old ≡ v → AreDistinct new → ((f c : ℕ) → 4 < c → place_among old f c ≡ None) → FileGone file old new → HasDropped file v (table_of rows new)
has_dropped rows old new v file is distinct few gone = subst (λ (u : Table). HasDropped file u (table_of rows new)) is (record {
  rows = λ t. refl;
  places = λ f c. gone f c ∙ by f c (file == f) (nat_lt c 5) refl ∙ ap (λ (b : Bool). if b then None else place_among old f c) (eq_flip file f);
  distinct = distinct;
})
  where
    high : (c : ℕ) → nat_lt c 5 ≡ false → 4 < c
    high c e = grind (arith, nat_tests)

    by : (f c : ℕ) (a b : Bool) → nat_lt c 5 ≡ b → (if a && b then None else place_among old f c) ≡ (if a then None else place_among old f c)
    by f c true true e = refl
    by f c true false e = few f c (high c e)
    by f c false b e = refl

-- the copy has this place, and the others stay
abbrev pub PlacePut : ℕ → Place → List Placed → List Placed → Type 0
PlacePut file p old new = (f c : ℕ) → place_among new f c ≡ (if file == f && p.copy == c then Some p else place_among old f c)

-- an item that was flushed, whose fate is Done
pub has_flushed : (old new : List TapeRow) (ps qs : List Placed) (v : Table) (tape : ℕ) (item : Item) (how : Fate) (row : TapeRow) (p : Place) → table_of old ps ≡ v → is_done how ≡ true → AreDistinct qs → RowPut old new tape row
    → row ≡ (let r = row_or (slice_get old tape) in record r { next = r.next + 1 }) → p ≡ record { copy = item.job.copy; tape = tape; fseq = (row_or (slice_get old tape)).next } → PlacePut item.job.file p ps qs → HasFlushed tape (item, how) v (table_of new qs)
has_flushed old new ps qs v tape item how row p is done distinct each same place put = subst (λ (u : Table). HasFlushed tape (item, how) u (table_of new qs)) is (record {
  rows = turned_rows old new tape row (λ (r : TapeRow). record r { next = r.next + 1 }) each same;
  places = λ f c. put f c ∙ ap (λ (q : Place). if item.job.file == f && q.copy == c then Some q else place_among ps f c) place ∙ by f c (item.job.file == f) (item.job.copy == c) refl
      ∙ ap (λ (b : Bool). if b && ((item.job.file == f) && (item.job.copy == c)) then Some (record { copy = c; tape = tape; fseq = (row_or (slice_get old tape)).next }) else place_among ps f c) (sym done);
  distinct = distinct;
})
  where
    by : (f c : ℕ) (a b : Bool) → (item.job.copy == c) ≡ b → (if a && b then Some (record { copy = item.job.copy; tape = tape; fseq = (row_or (slice_get old tape)).next }) else place_among ps f c) ≡ (if a && b then Some (record { copy = c; tape = tape; fseq = (row_or (slice_get old tape)).next }) else place_among ps f c)
    by f c true true e = ap (λ (n : ℕ). Some (record { copy = n; tape = tape; fseq = (row_or (slice_get old tape)).next })) (eqb-true item.job.copy c e)
    by f c true false e = refl
    by f c false b e = refl

-- an item that was flushed too late
pub has_flushed_late : (old new : List TapeRow) (ps : List Placed) (v : Table) (tape : ℕ) (item : Item) (how : Fate) (row : TapeRow) → table_of old ps ≡ v → is_done how ≡ false → AreDistinct ps → RowPut old new tape row
    → row ≡ (let r = row_or (slice_get old tape) in record r { next = r.next + 1 }) → HasFlushed tape (item, how) v (table_of new ps)
has_flushed_late old new ps v tape item how row is late distinct each same = subst (λ (u : Table). HasFlushed tape (item, how) u (table_of new ps)) is (record {
  rows = turned_rows old new tape row (λ (r : TapeRow). record r { next = r.next + 1 }) each same;
  places = λ f c. ap (λ (b : Bool). if b && ((item.job.file == f) && (item.job.copy == c)) then Some (record { copy = c; tape = tape; fseq = (row_or (slice_get old tape)).next }) else place_among ps f c) (sym late);
  distinct = distinct;
})

-- ---- what stays true of the rows and the index

next_kept : (n m : ℕ) (old new : List TapeRow) (t tape : ℕ) (row : TapeRow) → RowPut old new tape row → (row_or (slice_get old tape)).next ≤ row.next → n < (row_or (slice_get old t)).next → n < (row_or (slice_get new t)).next
next_kept n m old new t tape row each least less = subst (λ (r : TapeRow). n < r.next) (sym (each t)) (by (t == tape) refl)
  where
    by : (b : Bool) → (t == tape) ≡ b → n < (if b then row else row_or (slice_get old t)).next
    by true e = (let less_there : n < (row_or (slice_get old tape)).next = subst (λ k. n < (row_or (slice_get old k)).next) (eqb-true t tape e) less in omega arith)
    by false e = less

-- a row turns whose next fSeq is not lowered
pub filed_turned : (old new : List TapeRow) (x : Indexed) (tape : ℕ) (row : TapeRow) → AreFiled old x → length new ≡ length old → RowPut old new tape row → (row_or (slice_get old tape)).next ≤ row.next → AreFiled new x
filed_turned old new x tape row filed len each least = record {
  as_many = filed.as_many ∙ sym len;
  distinct = filed.distinct;
  below = λ t f c p e at. next_kept p.fseq 0 old new t tape row each least (filed.below t f c p e at);
  none = filed.none;
  few = filed.few;
}

some_there : (ps : List Placed) (f c tape : ℕ) (p : Place) → place_among ps f c ≡ Some p → p.tape ≡ tape → 0 < length (filter (λ (q : Placed). q.place.tape == tape) ps)
some_there [] f c tape p e at = absurd (cc)
some_there (q ∷ ps) f c tape p e at = by (is_placed f c q) e (λ h. some_there ps f c tape p h at)
  where
    more : (b : Bool) (n : ℕ) (xs : List Placed) → length xs ≡ n → 0 < n → 0 < length (if b then q ∷ xs else xs)
    more true n xs is h = omega arith
    more false n xs is h = omega arith

    head : (b : Bool) (xs : List Placed) → b ≡ true → 0 < length (if b then q ∷ xs else xs)
    head true xs h = omega arith
    head false xs h = absurd (cc)

    by : (b : Bool) → (if b then Some q.place else place_among ps f c) ≡ Some p → (place_among ps f c ≡ Some p → 0 < length (filter (λ (r : Placed). r.place.tape == tape) ps)) → 0 < length (filter (λ (r : Placed). r.place.tape == tape) (q ∷ ps))
    by true h go = (let same : q.place ≡ p = cc in head (q.place.tape == tape) _ (eq-eqb q.place.tape tape (ap (λ (z : Place). z.tape) same ∙ at)))
    by false h go = more (q.place.tape == tape) _ (filter (λ (r : Placed). r.place.tape == tape) ps) refl (go h)

-- a row turns on whose tape nothing is live
pub filed_reclaimed : (old new : List TapeRow) (x : Indexed) (tape : ℕ) (row : TapeRow) → AreFiled old x → length new ≡ length old → RowPut old new tape row → length (filter (λ (q : Placed). q.place.tape == tape) x.places) ≡ 0 → AreFiled new x
filed_reclaimed old new x tape row filed len each empty = record {
  as_many = filed.as_many ∙ sym len;
  distinct = filed.distinct;
  below = λ t f c p e at. subst (λ (r : TapeRow). p.fseq < r.next) (sym (each t)) (by t f c p (t == tape) refl e at (filed.below t f c p e at));
  none = filed.none;
  few = filed.few;
}
  where
    by : (t f c : ℕ) (p : Place) (b : Bool) → (t == tape) ≡ b → place_among x.places f c ≡ Some p → p.tape ≡ t → p.fseq < (row_or (slice_get old t)).next → p.fseq < (if b then row else row_or (slice_get old t)).next
    by t f c p true hit e at less = absurd (let there : 0 < length (filter (λ (q : Placed). q.place.tape == tape) x.places) = some_there x.places f c tape p e (at ∙ eqb-true t tape hit) in omega arith)
    by t f c p false miss e at less = less

pub filed_dropped : (rows : List TapeRow) (x y : Indexed) (file : ℕ) → AreFiled rows x → y.tapes ≡ x.tapes → AreDistinct y.places → FileGone file x.places y.places → AreFiled rows y
filed_dropped rows x y file filed tapes distinct gone = record {
  as_many = tapes ∙ filed.as_many;
  distinct = distinct;
  below = λ t f c p e at. filed.below t f c p (kept f c p (file == f && nat_lt c 5) (sym (gone f c) ∙ e)) at;
  none = λ f. gone f 0 ∙ absent (file == f && nat_lt 0 5) _ (filed.none f);
  few = λ f c high. gone f c ∙ absent (file == f && nat_lt c 5) _ (filed.few f c high);
}
  where
    kept : (f c : ℕ) (p : Place) (b : Bool) → (if b then None else place_among x.places f c) ≡ Some p → place_among x.places f c ≡ Some p
    kept f c p true e = absurd (cc)
    kept f c p false e = e

    absent : (b : Bool) (o : Option Place) → o ≡ None → (if b then None else o) ≡ None
    absent true o e = refl
    absent false o e = e

-- an item has its place
pub filed_put : (old new : List TapeRow) (x y : Indexed) (tape file : ℕ) (row : TapeRow) (p : Place) → AreFiled old x → length new ≡ length old → RowPut old new tape row → row.next ≡ (row_or (slice_get old tape)).next + 1
    → p.tape ≡ tape → p.fseq ≡ (row_or (slice_get old tape)).next → 1 ≤ p.copy → p.copy ≤ 4 → y.tapes ≡ x.tapes → AreDistinct y.places → PlacePut file p x.places y.places → AreFiled new y
filed_put old new x y tape file row p filed len each next at fseq first last tapes distinct put = record {
  as_many = tapes ∙ filed.as_many ∙ sym len;
  distinct = distinct;
  below = λ t f c q e there. by t f c q (file == f && p.copy == c) (sym (put f c) ∙ e) there;
  none = λ f. put f 0 ∙ absent (file == f) (p.copy == 0) _ (apart 0 (omega arith)) (filed.none f);
  few = λ f c high. put f c ∙ absent (file == f) (p.copy == c) _ (apart_high c high) (filed.few f c high);
}
  where
    apart : (c : ℕ) → c < p.copy → (p.copy == c) ≡ false
    apart c less = grind arith

    apart_high : (c : ℕ) → 4 < c → (p.copy == c) ≡ false
    apart_high c high = grind arith

    absent : (a b : Bool) (o : Option Place) → b ≡ false → o ≡ None → (if a && b then Some p else o) ≡ None
    absent true true o e f = absurd (cc)
    absent true false o e f = f
    absent false b o e f = f

    itself : (t : ℕ) → p.tape ≡ t → p.fseq < (row_or (slice_get new t)).next
    itself t there = subst (λ k. p.fseq < (row_or (slice_get new k)).next) (sym at ∙ there) (subst (λ (r : TapeRow). p.fseq < r.next) (sym (each tape)) (hit (tape == tape) (eq-eqb tape tape refl)))
      where
        hit : (b : Bool) → b ≡ true → p.fseq < (if b then row else row_or (slice_get old tape)).next
        hit true e = omega arith
        hit false e = absurd (cc)

    by : (t f c : ℕ) (q : Place) (b : Bool) → (if b then Some p else place_among x.places f c) ≡ Some q → q.tape ≡ t → q.fseq < (row_or (slice_get new t)).next
    by t f c q true e there = (let same : p ≡ q = cc in subst (λ (z : Place). z.fseq < (row_or (slice_get new t)).next) same (itself t (ap (λ (z : Place). z.tape) same ∙ there)))
    by t f c q false e there = next_kept q.fseq 0 old new t tape row each (omega arith) (filed.below t f c q e there)

pub filed_none : (rows : List TapeRow) (x : Indexed) → x.places ≡ [] → x.tapes ≡ length rows → AreFiled rows x
unfolding AreDistinct
filed_none rows x none tapes = record {
  as_many = tapes;
  distinct = subst AreDistinct (sym none) tt;
  below = λ t f c p e at. absurd (clash f c p (sym (ap (λ l. place_among l f c) none) ∙ e));
  none = λ f. ap (λ l. place_among l f 0) none;
  few = λ f c high. ap (λ l. place_among l f c) none;
}
  where
    clash : (f c : ℕ) (p : Place) → None ≡ Some p → ⊥
    clash f c p e = cc
