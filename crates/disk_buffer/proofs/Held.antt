-- What the buffer holds after the calls of its parts.
use Rattle.std.proofs.Common.{◌≡◌, ◌∙◌, ◌<◌, ◌≤◌, ◌+◌, ℕ, zero, suc, List, [], ◌∷◌, ◌++◌, length, Option, None, Bool, true, false, ◌||◌, ◌&&◌, refl, sym, ap, subst, arith, take, drop}
use Rattle.std.specs.Prelude.{◌==◌, not, filter, map, max, nat_lt, if◌then◌else◌}
use Rattle.std.specs.List.{slice_index_or}
use Rattle.blob.specs.declared.sum.Sum256.{Sum256}
use Rattle.cta_model.specs.History.{has_number}
use Rattle.part_model.specs.declared.space.HeldPin.{HeldPin}
use Rattle.part_model.specs.declared.space.Resident.{Resident}
use Rattle.part_model.specs.Held.{Held, bytes_of, evictable_in, numbers, pinned_in, pins_without, without}
use Rattle.sum_trees.proofs.Orders.{clash}
use Rattle.disk_buffer.specs.PinRows.{end_in}
use Rattle.disk_buffer.specs.Stays.{Stay, going, may_go, resident_of, residents, with_end, with_flag, without_file}
use Rattle.disk_buffer.specs.Stored.{AreEnds}
use Rattle.disk_buffer.proofs.Found.{flip_nat, is_same}

-- ---- pins and their ends

lt_zero : (t : ℕ) → false ≡ nat_lt t 0
lt_zero t = grind arith

lt_max : (t m n : ℕ) → (nat_lt t m || nat_lt t n) ≡ nat_lt t (max m n)
lt_max t m n = grind arith

pin_step : (a : Bool) (t m n : ℕ) → ((a && nat_lt t m) || nat_lt t n) ≡ nat_lt t (if a then max m n else n)
pin_step true t m n = lt_max t m n
pin_step false t m n = refl

pub pinned_is : (ps : List HeldPin) (t f : ℕ) → pinned_in ps t f ≡ nat_lt t (end_in ps f)
pinned_is [] t f = lt_zero t
pinned_is (p ∷ ps) t f = ap (λ b. (p.file == f && nat_lt t p.until) || b) (pinned_is ps t f) ∙ pin_step (p.file == f) t p.until (end_in ps f)

same_step : (s : Stay) (us : List Resident) (fs : List Stay) (c d : Bool) → c ≡ d → us ≡ residents fs → (if c then resident_of s ∷ us else us) ≡ residents (if d then s ∷ fs else fs)
same_step s us fs true true e h = ap (λ l. resident_of s ∷ l) h
same_step s us fs true false e h = absurd (cc)
same_step s us fs false true e h = absurd (cc)
same_step s us fs false false e h = h

going_are : (t : ℕ) (ps : List HeldPin) (ss : List Stay) → AreEnds ps ss → filter (λ (r : Resident). not (pinned_in ps t r.file) && r.safe) (residents ss) ≡ going t ss
going_are t ps [] a = refl
going_are t ps (s ∷ ss) a =
    same_step s (filter (λ (r : Resident). not (pinned_in ps t r.file) && r.safe) (residents ss)) (filter (may_go t) ss) (not (pinned_in ps t s.file) && s.safe) (not (nat_lt t s.until) && s.safe)
    (ap (λ b. not b && s.safe) (pinned_is ps t s.file ∙ ap (nat_lt t) (sym a.0))) (going_are t ps ss a.1)

-- the evictable files are those that may go
pub evictable_is : (t : ℕ) (ps : List HeldPin) (ss : List Stay) (v : Held) → AreEnds ps ss → residents ss ≡ v.files → ps ≡ v.pins → going t ss ≡ evictable_in v t
evictable_is t ps ss v a ef ep = sym (going_are t ps ss a) ∙ (λ i. filter (λ (r : Resident). not (pinned_in (ep i) t r.file) && r.safe) (ef i))

-- ---- files after a change

pub residents_end : (f u : ℕ) (ss : List Stay) → residents (with_end f u ss) ≡ residents ss
residents_end f u [] = refl
residents_end f u (s ∷ ss) = (λ i. elim (s.file == f) as (λ c. resident_of (if c then record s { until = u } else s) ≡ resident_of s) [ true ↦ refl | false ↦ refl ] i ∷ residents_end f u ss i)

pub residents_flag : (f : ℕ) (b : Bool) (ss : List Stay) → residents (with_flag f b ss) ≡ map (λ (r : Resident). if r.file == f then record r { safe = b } else r) (residents ss)
residents_flag f b [] = refl
residents_flag f b (s ∷ ss) =
    (λ i. elim (s.file == f) as (λ c. resident_of (if c then record s { safe = b } else s) ≡ (if c then record (resident_of s) { safe = b } else resident_of s)) [ true ↦ refl | false ↦ refl ] i ∷ residents_flag f b ss i)

pub flag_bytes : (f : ℕ) (b : Bool) (ss : List Stay) → bytes_of (residents (with_flag f b ss)) ≡ bytes_of (residents ss)
flag_bytes f b [] = refl
flag_bytes f b (s ∷ ss) = (λ i. elim (s.file == f) as (λ c. (if c then record s { safe = b } else s).len ≡ s.len) [ true ↦ refl | false ↦ refl ] i + flag_bytes f b ss i)

pub residents_without : (f : ℕ) (ss : List Stay) → residents (without_file f ss) ≡ without (f ∷ []) (residents ss)
residents_without f [] = refl
residents_without f (s ∷ ss) =
    elim (not (s.file == f || false)) as (λ c. residents (if c then s ∷ without_file f ss else without_file f ss) ≡ (if c then resident_of s ∷ without (f ∷ []) (residents ss) else without (f ∷ []) (residents ss)))
    [ true ↦ ap (λ l. resident_of s ∷ l) (residents_without f ss) | false ↦ residents_without f ss ]

pub without_bytes : (f : ℕ) (ss : List Stay) → bytes_of (residents (without_file f ss)) ≤ bytes_of (residents ss)
without_bytes f [] = omega arith
without_bytes f (s ∷ ss) =
    (let rest = without_bytes f ss in
    elim (not (s.file == f || false)) as (λ c. bytes_of (residents (if c then s ∷ without_file f ss else without_file f ss)) ≤ s.len + bytes_of (residents ss))
    [ true ↦ omega arith | false ↦ omega arith ])

pub last_bytes : (s : Stay) (ss : List Stay) → bytes_of (residents (ss ++ s ∷ [])) ≡ bytes_of (residents ss) + s.len
last_bytes s [] = omega arith
last_bytes s (x ∷ xs) = (let rest = last_bytes s xs in omega arith)

-- ---- ends after a change

pub ends_last : (ps : List HeldPin) (s : Stay) (ss : List Stay) → AreEnds ps ss → s.until ≡ end_in ps s.file → AreEnds ps (ss ++ s ∷ [])
ends_last ps s [] a e = (e, tt)
ends_last ps s (x ∷ xs) a e = (a.0, ends_last ps s xs a.1 e)

pub ends_flag : (ps : List HeldPin) (f : ℕ) (b : Bool) (ss : List Stay) → AreEnds ps ss → AreEnds ps (with_flag f b ss)
ends_flag ps f b [] a = tt
ends_flag ps f b (s ∷ ss) a = (elim (s.file == f) as (λ c. (if c then record s { safe = b } else s).until ≡ end_in ps (if c then record s { safe = b } else s).file) [ true ↦ a.0 | false ↦ a.0 ], ends_flag ps f b ss a.1)

pub ends_set : (ps qs : List HeldPin) (f e : ℕ) (ss : List Stay) → ((g : ℕ) → (g == f) ≡ false → end_in qs g ≡ end_in ps g) → e ≡ end_in qs f → AreEnds ps ss → AreEnds qs (with_end f e ss)
ends_set ps qs f e [] others is a = tt
ends_set ps qs f e (s ∷ ss) others is a = (
  elim (s.file == f) as (λ c. (s.file == f) ≡ c → (if c then record s { until = e } else s).until ≡ end_in qs (if c then record s { until = e } else s).file) [
    | true ↦ λ k. is ∙ ap (end_in qs) (sym (is_same s.file f k))
    | false ↦ λ k. a.0 ∙ sym (others s.file k)
  ] refl,
  ends_set ps qs f e ss others is a.1,
)

pick_no : (c : Bool) (m n : ℕ) → c ≡ false → (if c then m else n) ≡ n
pick_no true m n e = absurd (clash e refl)
pick_no false m n e = refl

-- a pin that is set is one of its file alone
pub set_others : (ps qs : List HeldPin) (f o u : ℕ) → ((g : ℕ) → end_in qs g ≡ end_in (record { file = f; owner = o; until = u } ∷ ps) g) → (g : ℕ) → (g == f) ≡ false → end_in qs g ≡ end_in ps g
set_others ps qs f o u h g e = h g ∙ pick_no (f == g) (max u (end_in ps g)) (end_in ps g) (flip_nat f g ∙ e)

not_one : (m f g : ℕ) → (m == f) ≡ true → (g == f) ≡ false → (m == g) ≡ false
not_one m f g e h = grind arith

both_first : (a b : Bool) → not (a && b) ≡ false → a ≡ true
both_first true b e = refl
both_first false b e = absurd (clash e refl)

kept_end : (p : HeldPin) (ps qs : List HeldPin) (g : ℕ) (c : Bool) → (c ≡ false → (p.file == g) ≡ false) → end_in qs g ≡ end_in ps g → end_in (if c then p ∷ qs else qs) g ≡ end_in (p ∷ ps) g
kept_end p ps qs g true h e = ap (λ n. if p.file == g then max p.until n else n) e
kept_end p ps qs g false h e = e ∙ sym (pick_no (p.file == g) (max p.until (end_in ps g)) (end_in ps g) (h refl))

-- a pin that is taken off is one of its file alone
unset_end : (f o : ℕ) (ps : List HeldPin) (g : ℕ) → (g == f) ≡ false → end_in (filter (λ (p : HeldPin). not (p.file == f && p.owner == o)) ps) g ≡ end_in ps g
unset_end f o [] g e = refl
unset_end f o (p ∷ ps) g e =
    kept_end p ps (filter (λ (p : HeldPin). not (p.file == f && p.owner == o)) ps) g (not (p.file == f && p.owner == o)) (λ k. not_one p.file f g (both_first (p.file == f) (p.owner == o) k) e) (unset_end f o ps g e)

pub unset_others : (ps qs : List HeldPin) (f o : ℕ) → qs ≡ filter (λ (p : HeldPin). not (p.file == f && p.owner == o)) ps → (g : ℕ) → (g == f) ≡ false → end_in qs g ≡ end_in ps g
unset_others ps qs f o is g e = ap (λ l. end_in l g) is ∙ unset_end f o ps g e

or_first : (a : Bool) → not (a || false) ≡ false → a ≡ true
or_first true e = refl
or_first false e = absurd (clash e refl)

end_without : (f : ℕ) (ps : List HeldPin) (g : ℕ) → (g == f) ≡ false → end_in (pins_without (f ∷ []) ps) g ≡ end_in ps g
end_without f [] g e = refl
end_without f (p ∷ ps) g e = kept_end p ps (pins_without (f ∷ []) ps) g (not (p.file == f || false)) (λ k. not_one p.file f g (or_first (p.file == f) k) e) (end_without f ps g e)

stay_out : (a : Bool) → not (a || false) ≡ true → a ≡ false
stay_out true e = absurd (clash refl e)
stay_out false e = refl

pub ends_without : (ps qs : List HeldPin) (f : ℕ) (ss : List Stay) → qs ≡ pins_without (f ∷ []) ps → AreEnds ps ss → AreEnds qs (without_file f ss)
ends_without ps qs f [] is a = tt
ends_without ps qs f (s ∷ ss) is a =
    elim (not (s.file == f || false)) as (λ c. not (s.file == f || false) ≡ c → AreEnds qs (if c then s ∷ without_file f ss else without_file f ss)) [
      | true ↦ λ k. (a.0 ∙ sym (ap (λ l. end_in l s.file) is ∙ end_without f ps s.file (stay_out (s.file == f) k)), ends_without ps qs f ss is a.1)
      | false ↦ λ k. ends_without ps qs f ss is a.1
    ] refl

pub ends_as : (ps : List HeldPin) (ss us : List Stay) → us ≡ ss → AreEnds ps ss → AreEnds ps us
ends_as ps ss us e a = subst (AreEnds ps) (sym e) a

-- ---- files that leave one by one

has_append : (x : ℕ) (xs ys : List ℕ) → has_number x (xs ++ ys) ≡ (has_number x xs || has_number x ys)
has_append x [] ys = refl
has_append x (y ∷ xs) ys = ap (λ b. x == y || b) (has_append x xs ys) ∙ three (x == y) (has_number x xs) (has_number x ys)
  where
    three : (a b c : Bool) → (a || (b || c)) ≡ ((a || b) || c)
    three true b c = refl
    three false b c = refl

two_steps : {A : Type 0} (p : A → Bool) (x : A) (us vs : List A) (a b : Bool) → p x ≡ not b → filter p us ≡ vs → filter p (if not a then x ∷ us else us) ≡ (if not (a || b) then x ∷ vs else vs)
two_steps p x us vs true b e h = h
two_steps p x us vs false b e h = (λ i. if e i then x ∷ h i else h i)

without_two : (gone more : List ℕ) (rs : List Resident) → without more (without gone rs) ≡ without (gone ++ more) rs
without_two gone more [] = refl
without_two gone more (r ∷ rs) =
    two_steps (λ (q : Resident). not (has_number q.file more)) r (without gone rs) (without (gone ++ more) rs) (has_number r.file gone) (has_number r.file more) refl (without_two gone more rs)
    ∙ ap (λ b. if not b then r ∷ without (gone ++ more) rs else without (gone ++ more) rs) (sym (has_append r.file gone more))

pins_without_two : (gone more : List ℕ) (ps : List HeldPin) → pins_without more (pins_without gone ps) ≡ pins_without (gone ++ more) ps
pins_without_two gone more [] = refl
pins_without_two gone more (p ∷ ps) =
    two_steps (λ (q : HeldPin). not (has_number q.file more)) p (pins_without gone ps) (pins_without (gone ++ more) ps) (has_number p.file gone) (has_number p.file more) refl (pins_without_two gone more ps)
    ∙ ap (λ b. if not b then p ∷ pins_without (gone ++ more) ps else pins_without (gone ++ more) ps) (sym (has_append p.file gone more))

-- what the buffer holds without these files
abbrev pub held_without : List ℕ → Held → Held
held_without gone v = record { size = v.size; files = without gone v.files; aside = v.aside; pins = pins_without gone v.pins }

pub held_two : (gone more : List ℕ) (v : Held) → held_without more (held_without gone v) ≡ held_without (gone ++ more) v
held_two gone more v = (λ i. record { size = v.size; files = without_two gone more v.files i; aside = v.aside; pins = pins_without_two gone more v.pins i })

all_kept : {A : Type 0} (xs : List A) → filter (λ x. not false) xs ≡ xs
all_kept [] = refl
all_kept (x ∷ xs) = ap (λ l. x ∷ l) (all_kept xs)

pub held_all : (v : Held) → v ≡ held_without [] v
held_all v = (λ i. record { size = v.size; files = sym (all_kept v.files) i; aside = v.aside; pins = sym (all_kept v.pins) i })

pub take_next : (xs : List ℕ) (k d : ℕ) → k < length xs → take (k + 1) xs ≡ take k xs ++ slice_index_or xs k d ∷ []
take_next xs k d h = subst (λ (n : ℕ). take n xs ≡ take k xs ++ slice_index_or xs k d ∷ []) next (more xs k h)
  where
    next : suc k ≡ k + 1
    next = omega arith

    more : (xs : List ℕ) (k : ℕ) → k < length xs → take (suc k) xs ≡ take k xs ++ slice_index_or xs k d ∷ []
    more [] k h = absurd (omega arith)
    more (x ∷ xs) zero h = refl
    more (x ∷ xs) (suc k) h = ap (λ l. x ∷ l) (more xs k (omega arith))

pub take_all : (xs : List ℕ) (k : ℕ) → length xs ≤ k → take k xs ≡ xs
take_all [] zero h = refl
take_all [] (suc k) h = refl
take_all (x ∷ xs) zero h = absurd (omega arith)
take_all (x ∷ xs) (suc k) h = ap (λ l. x ∷ l) (take_all xs k (omega arith))

pub drop_front : (xs ys : List ℕ) (k : ℕ) → k ≡ length xs → drop k (xs ++ ys) ≡ ys
drop_front xs ys k e = ap (λ n. drop n (xs ++ ys)) e ∙ all xs
  where
    all : (xs : List ℕ) → drop (length xs) (xs ++ ys) ≡ ys
    all [] = refl
    all (x ∷ xs) = all xs

-- contents without these files
pub gone_step : (g : ℕ) (gone : List ℕ) (f : ℕ) (a b c : Option Sum256) → a ≡ (if g == f then None else b) → b ≡ (if has_number g gone then None else c) → a ≡ (if has_number g (gone ++ f ∷ []) then None else c)
gone_step g gone f a b c ea eb = ea ∙ ap (λ o. if g == f then None else o) eb ∙ swapped (g == f) (has_number g gone) ∙ ap (λ d. if d then None else c) (sym (has_append g gone (f ∷ [])))
  where
    swapped : (d e : Bool) → (if d then None else (if e then None else c)) ≡ (if e || (d || false) then None else c)
    swapped true true = refl
    swapped true false = refl
    swapped false true = refl
    swapped false false = refl

pub numbers_many : (rs : List Resident) → length rs ≡ length (numbers rs)
numbers_many [] = refl
numbers_many (r ∷ rs) = ap suc (numbers_many rs)
