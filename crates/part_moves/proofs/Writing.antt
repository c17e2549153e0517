-- Copies that repacks were WRITING, whose items end in a state z that isn't live.
use Rattle.std.proofs.Common.{◌≡◌, ◌∙◌, ◌+◌, ◌<◌, ◌≤◌, ◌⊎◌, ℕ, inl, inr, List, [], ◌∷◌, ◌++◌, length, Bool, true, false, ◌||◌, not, refl, sym, ap, subst, arith, take}
use Rattle.std.specs.Prelude.{Option, Some, None, option_map, if◌then◌else◌, ◌==◌, ◌&&◌, get_or, map}
use Rattle.std.specs.List.{list_any}
use Rattle.std.proofs.lemmas.Bool.{and_parts, cases_lt, eqb-true, eq-eqb}
use Rattle.std.proofs.lemmas.List.{take_more}
use Rattle.std.proofs.lemmas.List.Folds.{list_any-append}
use Rattle.cta_model.specs.declared.asks.Job.{Job}
use Rattle.cta_model.specs.declared.reports.ItemState.{ItemState}
use Rattle.cta_model.specs.declared.reports.ItemState.TheVariants as item
use Rattle.cta_model.specs.declared.states.RepackCopy.{RepackCopy}
use Rattle.cta_model.specs.History.{has_number}
use Rattle.cta_model.specs.Mounts.{has_copy}
use Rattle.cta_model.specs.Repacks.{Repack, is_live_item}
use Rattle.cta_laws.proofs.Tests.{bool_cases}
use Rattle.cta_laws.proofs.Bools.{eq_flip}
use Rattle.part_model.specs.Repacks.{Repacks, RepacksAgree, has_item_by, is_writing, repack_in, set_item, set_state, set_states, writers_in}
use Rattle.part_laws.specs.BookCalls.{writers}
use Rattle.part_laws.proofs.RepackTurns.{all_set, items_same, items_stay, items_twice, set_is, set_live, set_off, sets_are, with_items, writers_are, writers_hit}
use Rattle.repack_book.specs.Walks.{IsFirstFrom}

-- ---- one item

-- whether an item is of this copy, and WRITING
abbrev pub is_written : ℕ → ℕ → RepackCopy → Bool
is_written f c i = (i.file == f && i.copy == c) && is_writing i.state

-- whether the repack of this number is WRITING the copy
abbrev pub writes : Repacks → ℕ → ℕ → ℕ → Bool
writes v f c k = has_item_by (is_written f c) (repack_in v k)

-- an item that has ended in this state where this holds and it was live
abbrev pub ended_if : ItemState → Bool → RepackCopy → RepackCopy
ended_if z b i = if b && is_live_item i.state then record i { state = z } else i

-- whether an item is of one of these copies, which its repack is WRITING
abbrev pub ends : Repacks → List Job → ℕ → RepackCopy → Bool
ends v js k i = has_copy i.file i.copy js && writes v i.file i.copy k

no_set : (x : Bool) (a b : RepackCopy) → (if x && false then a else b) ≡ b
no_set true a b = refl
no_set false a b = refl

pub all_is : (z : ItemState) → (v : Repacks) (js : List Job) (k : ℕ) (i : RepackCopy) → all_set z k (writers v js) i ≡ ended_if z (ends v js k i) i
all_is z v js k i =
    elim (bool_cases (is_live_item i.state)) [
      | inl on ↦
          (set_live z k (writers v js) i on
          ∙ ap (λ (b : Bool). if b then record i { state = z } else i) (writers_hit v k i.file i.copy js ∙ ap (λ (b : Bool). has_copy i.file i.copy js && b) (writers_are v k i.file i.copy))
          ∙ by (ends v js k i) (is_live_item i.state) on)
      | inr off ↦
          (set_off z k (writers v js) i off
          ∙ sym (ap (λ (b : Bool). if ends v js k i && b then record i { state = z } else i) off ∙ no_set (ends v js k i) (record i { state = z }) i))
    ]
  where
    by : (x l : Bool) → l ≡ true → (if x then record i { state = z } else i) ≡ (if x && l then record i { state = z } else i)
    by x false e = absurd (cc)
    by true true e = refl
    by false true e = refl

-- what the calls for all that write copies leave of a repack
pub book_is : (z : ItemState) → (v : Repacks) (js : List Job) (k : ℕ) → repack_in (set_states z (writers v js) v) k ≡ option_map (with_items (λ i. ended_if z (ends v js k i) i)) (repack_in v k)
book_is z v js k = sets_are z k (writers v js) v ∙ items_same (all_set z k (writers v js)) (λ i. ended_if z (ends v js k i) i) (repack_in v k) (all_is z v js k)

-- ---- what is WRITING still

off : (m w : Bool) → (m && false) ≡ ((m && w) && false)
off true true = refl
off true false = refl
off false w = refl

no_writing : (z : ItemState) → is_live_item z ≡ false → is_writing z ≡ false
no_writing item.Reading dead = refl
no_writing item.Writing dead = absurd (cc)
no_writing item.Failed dead = refl
no_writing item.Done dead = refl
no_writing item.Gone dead = refl

written_one : (z : ItemState) → is_live_item z ≡ false → (b : Bool) (g d : ℕ) (s : ItemState) (f c : ℕ) → is_written f c (ended_if z b (record { file = g; copy = d; state = s })) ≡ (is_written f c (record { file = g; copy = d; state = s }) && not b)
written_one z dead true g d item.Reading f c = ap (λ (w : Bool). (g == f && d == c) && w) (no_writing z dead) ∙ off (g == f && d == c) false
written_one z dead true g d item.Writing f c = ap (λ (w : Bool). (g == f && d == c) && w) (no_writing z dead) ∙ off (g == f && d == c) true
written_one z dead true g d item.Failed f c = off (g == f && d == c) false
written_one z dead true g d item.Done f c = off (g == f && d == c) false
written_one z dead true g d item.Gone f c = off (g == f && d == c) false
written_one z dead false g d s f c = on ((g == f && d == c) && is_writing s)
  where
    on : (m : Bool) → m ≡ (m && true)
    on true = refl
    on false = refl

written_is : (z : ItemState) → is_live_item z ≡ false → (out : ℕ → ℕ → Bool) (i : RepackCopy) (f c : ℕ) → is_written f c (ended_if z (out i.file i.copy) i) ≡ (is_written f c i && not (out f c))
written_is z dead out i f c =
    written_one z dead (out i.file i.copy) i.file i.copy i.state f c
    ∙ elim (bool_cases (is_written f c i)) [
      | inl hit ↦
          (let m = and_parts (i.file == f) _ (and_parts (i.file == f && i.copy == c) _ hit).0 in
          ap (λ (n : ℕ). is_written f c i && not (out n i.copy)) (eqb-true _ _ m.0) ∙ ap (λ (n : ℕ). is_written f c i && not (out f n)) (eqb-true _ _ m.1))
      | inr miss ↦ rw miss refl
    ]

still_written : (z : ItemState) → is_live_item z ≡ false → (out : ℕ → ℕ → Bool) (is : List RepackCopy) (f c : ℕ) → list_any (is_written f c) (map (λ i. ended_if z (out i.file i.copy) i) is) ≡ (list_any (is_written f c) is && not (out f c))
still_written z dead out [] f c = refl
still_written z dead out (i ∷ is) f c = rw (written_is z dead out i f c, still_written z dead out is f c) (by (is_written f c i) (list_any (is_written f c) is) (not (out f c)))
  where
    by : (a b n : Bool) → ((a && n) || (b && n)) ≡ ((a || b) && n)
    by true b true = refl
    by true true false = refl
    by true false false = refl
    by false b n = refl

pub still_writes : (z : ItemState) → is_live_item z ≡ false → (out : ℕ → ℕ → Bool) (o : Option Repack) (f c : ℕ) → has_item_by (is_written f c) (option_map (with_items (λ i. ended_if z (out i.file i.copy) i)) o) ≡ (has_item_by (is_written f c) o && not (out f c))
still_writes z dead out None f c = refl
still_writes z dead out (Some r) f c = still_written z dead out r.items f c

-- ---- copies, and then one more

ended_twice : (z : ItemState) → is_live_item z ≡ false → (out : ℕ → ℕ → Bool) (b : Bool) (g d : ℕ) (s : ItemState)
    → ended_if z (out (RepackCopy.file (ended_if z b (record { file = g; copy = d; state = s }))) (RepackCopy.copy (ended_if z b (record { file = g; copy = d; state = s })))) (ended_if z b (record { file = g; copy = d; state = s })) ≡ ended_if z (b || out g d) (record { file = g; copy = d; state = s })
ended_twice z dead out false g d s = refl
ended_twice z dead out true g d item.Reading = rw dead (no_set (out g d) _ _)
ended_twice z dead out true g d item.Writing = rw dead (no_set (out g d) _ _)
ended_twice z dead out true g d item.Failed = no_set (out g d) _ _
ended_twice z dead out true g d item.Done = no_set (out g d) _ _
ended_twice z dead out true g d item.Gone = no_set (out g d) _ _

both_ways : (h n w : Bool) → ((h && w) || (n && (w && not (h && w)))) ≡ ((h || n) && w)
both_ways true true true = refl
both_ways true true false = refl
both_ways true false true = refl
both_ways true false false = refl
both_ways false true true = refl
both_ways false true false = refl
both_ways false false w = refl

-- the calls for copies, and then for one more, are the calls for all of them
pub copies_more : (z : ItemState) → is_live_item z ≡ false → (js : List Job) (j : Job) (v u w : Repacks) → RepacksAgree u (set_states z (writers v js) v) → RepacksAgree w (set_states z (writers u (j ∷ [])) u)
    → RepacksAgree w (set_states z (writers v (js ++ j ∷ [])) v)
copies_more z dead js j v u w before call k =
    call k
    ∙ book_is z u (j ∷ []) k
    ∙ ap (option_map (with_items (λ i. ended_if z (ends u (j ∷ []) k i) i))) was
    ∙ items_twice (λ i. ended_if z (ends u (j ∷ []) k i) i) (λ i. ended_if z (ends v js k i) i) (repack_in v k)
    ∙ items_same (λ i. ended_if z (ends u (j ∷ []) k (ended_if z (ends v js k i) i)) (ended_if z (ends v js k i) i)) (λ i. ended_if z (ends v (js ++ j ∷ []) k i) i) (repack_in v k) each
    ∙ sym (book_is z v (js ++ j ∷ []) k)
  where
    was : repack_in u k ≡ option_map (with_items (λ i. ended_if z (ends v js k i) i)) (repack_in v k)
    was = before k ∙ book_is z v js k

    left : (f c : ℕ) → writes u f c k ≡ (writes v f c k && not (has_copy f c js && writes v f c k))
    left f c = ap (has_item_by (is_written f c)) was ∙ still_writes z dead (λ g d. has_copy g d js && writes v g d k) (repack_in v k) f c

    both : (i : RepackCopy) → (ends v js k i || ends u (j ∷ []) k i) ≡ ends v (js ++ j ∷ []) k i
    both i =
        ap (λ (b : Bool). ends v js k i || (has_copy i.file i.copy (j ∷ []) && b)) (left i.file i.copy)
        ∙ both_ways (has_copy i.file i.copy js) (has_copy i.file i.copy (j ∷ [])) (writes v i.file i.copy k)
        ∙ ap (λ (b : Bool). b && writes v i.file i.copy k) (sym (list_any-append (λ (x : Job). x.file == i.file && x.copy == i.copy) js (j ∷ [])))

    each : (i : RepackCopy) → ended_if z (ends u (j ∷ []) k (ended_if z (ends v js k i) i)) (ended_if z (ends v js k i) i) ≡ ended_if z (ends v (js ++ j ∷ []) k i) i
    each i = ended_twice z dead (λ g d. has_copy g d (j ∷ []) && writes u g d k) (ends v js k i) i.file i.copy i.state ∙ ap (λ (b : Bool). ended_if z b i) (both i)

-- one copy more of a loop
pub ended_more : (z : ItemState) → is_live_item z ≡ false → (jobs : List Job) (n : ℕ) (d : Job) (v u w : Repacks) → n < length jobs → RepacksAgree u (set_states z (writers v (take n jobs)) v)
    → RepacksAgree w (set_states z (writers u (get_or jobs n d ∷ [])) u) → RepacksAgree w (set_states z (writers v (take (n + 1) jobs)) v)
ended_more z dead jobs n d v u w low before call =
    subst (λ (js : List Job). RepacksAgree w (set_states z (writers v js) v)) (sym (take_more jobs n d low)) (copies_more z dead (take n jobs) (get_or jobs n d) v u w before call)

-- ---- one copy, repack by repack

-- what the calls for one copy leave
abbrev pub ended_copy : ItemState → Repacks → Job → ℕ → Option Repack
ended_copy z v j k = repack_in (set_states z (writers v (j ∷ [])) v) k

one_copy : (j : Job) (f c : ℕ) → has_copy f c (j ∷ []) ≡ (f == j.file && c == j.copy)
one_copy j f c = rw (eq_flip f j.file, eq_flip c j.copy) (by (j.file == f && j.copy == c))
  where
    by : (b : Bool) → (b || false) ≡ b
    by true = refl
    by false = refl

-- a repack that is not WRITING the copy stays
pub copy_skipped : (z : ItemState) → (v : Repacks) (j : Job) (k : ℕ) → writes v j.file j.copy k ≡ false → ended_copy z v j k ≡ repack_in v k
copy_skipped z v j k miss = book_is z v (j ∷ []) k ∙ items_same (λ i. ended_if z (ends v (j ∷ []) k i) i) (λ i. i) (repack_in v k) each ∙ items_stay (repack_in v k)
  where
    none : (i : RepackCopy) → ends v (j ∷ []) k i ≡ false
    none i =
        ap (λ (b : Bool). b && writes v i.file i.copy k) (one_copy j i.file i.copy)
        ∙ elim (bool_cases (i.file == j.file && i.copy == j.copy)) [
          | inl hit ↦
              (let m = and_parts (i.file == j.file) _ hit in
              rw hit (ap (λ (n : ℕ). writes v n i.copy k) (eqb-true _ _ m.0) ∙ ap (λ (n : ℕ). writes v j.file n k) (eqb-true _ _ m.1) ∙ miss))
          | inr other ↦ rw other refl
        ]

    each : (i : RepackCopy) → ended_if z (ends v (j ∷ []) k i) i ≡ i
    each i = ap (λ (b : Bool). ended_if z b i) (none i)

-- an item of the copy ends in a repack that is WRITING it
pub copy_set : (z : ItemState) → (v : Repacks) (j : Job) (k : ℕ) → writes v j.file j.copy k ≡ true → ended_copy z v j k ≡ option_map (with_items (set_item j.file j.copy z)) (repack_in v k)
copy_set z v j k hit = book_is z v (j ∷ []) k ∙ items_same (λ i. ended_if z (ends v (j ∷ []) k i) i) (set_item j.file j.copy z) (repack_in v k) each
  where
    same : (i : RepackCopy) → ends v (j ∷ []) k i ≡ (i.file == j.file && i.copy == j.copy)
    same i =
        ap (λ (b : Bool). b && writes v i.file i.copy k) (one_copy j i.file i.copy)
        ∙ elim (bool_cases (i.file == j.file && i.copy == j.copy)) [
          | inl here ↦
              (let m = and_parts (i.file == j.file) _ here in
              rw here (ap (λ (n : ℕ). writes v n i.copy k) (eqb-true _ _ m.0) ∙ ap (λ (n : ℕ). writes v j.file n k) (eqb-true _ _ m.1) ∙ hit))
          | inr other ↦ rw other refl
        ]

    each : (i : RepackCopy) → ended_if z (ends v (j ∷ []) k i) i ≡ set_item j.file j.copy z i
    each i = ap (λ (b : Bool). ended_if z b i) (same i)

-- a book that became v: the copy has ended in all repacks below the next one that is WRITING it, and no other has changed
abbrev pub AreEndedBelow : ItemState → Repacks → Repacks → Job → Option ℕ → Type 0
AreEndedBelow z was v j None = (q : ℕ) → repack_in v q ≡ ended_copy z was j q
AreEndedBelow z was v j (Some n) = ((q : ℕ) → q < n → repack_in v q ≡ ended_copy z was j q) × ((q : ℕ) → n ≤ q → repack_in v q ≡ repack_in was q) × (writes was j.file j.copy n ≡ true)

-- from a number on: those below have ended, and none from there on has changed
record AreEndedTo (z : ItemState) (was v : Repacks) (j : Job) (from : ℕ) : Type 0 where
  below : (q : ℕ) → q < from → repack_in v q ≡ ended_copy z was j q
  above : (q : ℕ) → from ≤ q → repack_in v q ≡ repack_in was q

no_writer : (v : Repacks) (f c k : ℕ) → (has_number k (writers_in v f c) ≡ true → ⊥) → writes v f c k ≡ false
no_writer v f c k none =
    elim (bool_cases (writes v f c k)) [
      | inl hit ↦ absurd (none (writers_are v k f c ∙ hit))
      | inr miss ↦ miss
    ]

walked : (z : ItemState) → (was v : Repacks) (j : Job) (from : ℕ) (r : Option ℕ) → AreEndedTo z was v j from → IsFirstFrom (λ q. has_number q (writers_in v j.file j.copy)) from r → AreEndedBelow z was v j r
walked z was v j from None to first = λ q. by q (cases_lt q from)
  where
    by : (q : ℕ) → (q < from) ⊎ (from ≤ q) → repack_in v q ≡ ended_copy z was j q
    by q (inl low) = to.below q low
    by q (inr high) =
        (let none : writes v j.file j.copy q ≡ false = no_writer v j.file j.copy q (λ e. (let low : q < from = first q e in omega arith)) in
        to.above q high ∙ sym (copy_skipped z was j q (ap (has_item_by (is_written j.file j.copy)) (sym (to.above q high)) ∙ none)))
walked z was v j from (Some m) to first = (
  λ q low. by q low (cases_lt q from),
  λ q high. to.above q (let least : from ≤ m = first.1 in omega arith),
  ap (has_item_by (is_written j.file j.copy)) (sym (to.above m first.1)) ∙ sym (writers_are v m j.file j.copy) ∙ first.0,
)
  where
    by : (q : ℕ) → q < m → (q < from) ⊎ (from ≤ q) → repack_in v q ≡ ended_copy z was j q
    by q less (inl low) = to.below q low
    by q less (inr high) =
        (let none : writes v j.file j.copy q ≡ false = no_writer v j.file j.copy q (λ e. (let least : m ≤ q = first.2 q e high in omega arith)) in
        to.above q high ∙ sym (copy_skipped z was j q (ap (has_item_by (is_written j.file j.copy)) (sym (to.above q high)) ∙ none)))

-- the walk begins
pub walk_begins : (z : ItemState) → (was : Repacks) (j : Job) (r : Option ℕ) → IsFirstFrom (λ q. has_number q (writers_in was j.file j.copy)) 0 r → AreEndedBelow z was was j r
walk_begins z was j r first = walked z was was j 0 r (record { below = λ q low. absurd (omega arith); above = λ q high. refl }) first

-- one repack more is passed
pub walk_steps : (z : ItemState) → (was v u : Repacks) (j : Job) (n : ℕ) (r : Option ℕ) → AreEndedBelow z was v j (Some n) → RepacksAgree u (set_state n j.file j.copy z v)
    → IsFirstFrom (λ q. has_number q (writers_in u j.file j.copy)) (n + 1) r → AreEndedBelow z was u j r
walk_steps z was v u j n r done call first = walked z was u j (n + 1) r (record { below = λ q low. below q (cases_lt q n) low; above = λ q high. other q (omega arith) ∙ done.1 q (omega arith) }) first
  where
    other : (q : ℕ) → (n ≡ q → ⊥) → repack_in u q ≡ repack_in v q
    other q apart =
        call q ∙ set_is n q j.file j.copy z v
        ∙ elim (bool_cases (n == q)) [
          | inl hit ↦ absurd (apart (eqb-true n q hit))
          | inr miss ↦ rw miss refl
        ]

    here : repack_in u n ≡ ended_copy z was j n
    here =
        call n ∙ set_is n n j.file j.copy z v
        ∙ rw (eq-eqb n n refl) (ap (option_map (with_items (set_item j.file j.copy z))) (done.1 n (omega arith)))
        ∙ sym (copy_set z was j n done.2)

    below : (q : ℕ) → (q < n) ⊎ (n ≤ q) → q < n + 1 → repack_in u q ≡ ended_copy z was j q
    below q (inl low) less = other q (λ e. omega arith) ∙ done.0 q low
    below q (inr high) less = (let same : n ≡ q = omega arith in subst (λ (k : ℕ). repack_in u k ≡ ended_copy z was j k) same here)
