-- Rows that become ready.
use Rattle.std.proofs.Common.{◌≡◌, ◌∙◌, ◌<◌, ◌≤◌, ◌+◌, ◌^◌, ℕ, suc, List, [], ◌∷◌, length, Option, Some, None, Bool, true, false, ◌||◌, ◌&&◌, refl, sym, ap, subst, arith}
use Rattle.std.specs.Prelude.{◌==◌, not, filter, nat_lt, nat_le, if◌then◌else◌}
use Rattle.part_model.specs.Held.{bytes_of}
use Rattle.sum_trees.specs.Sums.{Sums, led, sum_of}
use Rattle.sum_trees.specs.Order.{GoesFirst, IsSorted, first_of, has_like, is_like, replaced}
use Rattle.sum_trees.proofs.Orders.{clash}
use Rattle.disk_buffer.specs.declared.row.Row.{Row}
use Rattle.disk_buffer.specs.declared.row.Readiness.{Readiness}
use Rattle.disk_buffer.specs.declared.row.Wanted.{Wanted}
use Rattle.disk_buffer.specs.Rows.{both_readiness, has_wanted, own_readiness, row_before}
use Rattle.disk_buffer.specs.Stays.{AreApart, AreEarly, AreKept, AreReady, Stay, arrival_in, going, is_free, may_go, residents, stay_of, stays_of}
use Rattle.disk_buffer.specs.Walks.{ended_by, sought}
use Rattle.disk_buffer.specs.Settling.{AreSettled, IsSettled, NoneWaits, Ready, Same, ready_rows, settled}
use Rattle.std.proofs.Math.ListN.{set}
use Rattle.sum_trees.specs.Forests.{items_in}
use Rattle.disk_buffer.proofs.PinLists.{first_set}
use Rattle.disk_buffer.proofs.Changed.{bytes_in}

abbrev pub waiting_at : ℕ → Wanted
waiting_at t = record { at = t; ready = false }

-- whether a row is safe and not ready and ends up to t
abbrev pub waits : ℕ → Row → Bool
waits t r = has_wanted (waiting_at t) (own_readiness r)

-- ---- one row

abbrev pub IsAt : Row → List Row → Type 0
IsAt r [] = Unit {0}
IsAt r (x ∷ xs) = (is_like row_before r x ≡ true → x ≡ r) × IsAt r xs

less_unlike : (x z : Row) → row_before x z ≡ true → is_like row_before x z ≡ false
less_unlike x z e = grind arith

more_unlike : (x z : Row) → row_before x z ≡ true → is_like row_before z x ≡ false
more_unlike x z e = grind arith

behind_at : (r x : Row) (zs : List Row) → r ≡ x → GoesFirst row_before x zs → IsAt r zs
behind_at r x [] e g = tt
behind_at r x (z ∷ zs) e g = (λ l. absurd (clash (ap (λ y. is_like row_before y z) e ∙ less_unlike x z g.0) l), behind_at r x zs e g.1)

first_goes : (p : Row → Bool) (x r : Row) (xs : List Row) → Some r ≡ first_of (filter p xs) → GoesFirst row_before x xs → row_before x r ≡ true
first_goes p x r [] e g = absurd (cc)
first_goes p x r (z ∷ zs) e g =
    elim (p z) as (λ c. Some r ≡ first_of (if c then z ∷ filter p zs else filter p zs) → row_before x r ≡ true)
    [ true ↦ λ k. (let same : r ≡ z = cc in ap (row_before x) same ∙ g.0) | false ↦ λ k. first_goes p x r zs k g.1 ] e

-- the first that passes is the only one of its number, is there, and passes
pub record IsOnly (p : Row → Bool) (r : Row) (us : List Row) : Type 0 where
  pub only : IsAt r us
  pub there : has_like row_before r us ≡ true
  pub passes : p r ≡ true

self_like : (r : Row) → is_like row_before r r ≡ true
self_like r = grind arith

pub only_one : (p : Row → Bool) (r : Row) (us : List Row) → IsSorted row_before us → Some r ≡ first_of (filter p us) → IsOnly p r us
only_one p r [] s e = absurd (cc)
only_one p r (x ∷ xs) s e =
    elim (p x) as (λ c. p x ≡ c → Some r ≡ first_of (if c then x ∷ filter p xs else filter p xs) → IsOnly p r (x ∷ xs)) [
      | true ↦ λ k h. (let same : r ≡ x = cc in
          record { only = (λ l. sym same, behind_at r x xs same s.0); there = ap (λ y. is_like row_before y x || has_like row_before r xs) same ∙ ap (λ b. b || has_like row_before r xs) (self_like x); passes = ap p same ∙ k })
      | false ↦ λ k h. (let q = only_one p r xs s.1 h in
          let out : is_like row_before r x ≡ false = more_unlike x r (first_goes p x r xs h s.0) in
          record { only = (λ l. absurd (clash out l), q.only); there = ap (λ b. b || has_like row_before r xs) out ∙ q.there; passes = q.passes })
    ] refl e

free_is : (s r a : Bool) → (false || ((s && not r) && a)) ≡ true → (s && a) ≡ true
free_is true true a e = absurd (clash refl e)
free_is true false a e = e
free_is false r a e = absurd (clash refl e)

unready_is : (s r a : Bool) → (false || ((s && not r) && a)) ≡ true → not r ≡ true
unready_is s false a e = refl
unready_is true true a e = absurd (clash refl e)
unready_is false true a e = absurd (clash refl e)

settled_row : (t : ℕ) (r x u : Row) → is_free t u ≡ true → x ≡ u → IsSettled t r x → IsSettled t r (settled u)
settled_row t r x u f e (Same h) = Ready (ap settled (sym e ∙ h)) (ap (is_free t) (sym h ∙ e) ∙ f)
settled_row t r x u f e (Ready h g) = Ready (ap settled (sym e ∙ h)) g

settle_step : (t : ℕ) (r x u : Row) (c : Bool) → is_free t u ≡ true → (c ≡ true → x ≡ u) → IsSettled t r x → IsSettled t r (if c then settled u else x)
settle_step t r x u true f e s = settled_row t r x u f (e refl) s
settle_step t r x u false f e s = s

settle_one : (t : ℕ) (u : Row) (rs us : List Row) → is_free t u ≡ true → IsAt u us → AreSettled t rs us → AreSettled t rs (replaced row_before (settled u) us)
settle_one t u [] [] f a s = tt
settle_one t u [] (x ∷ xs) f a s = s
settle_one t u (r ∷ rs) [] f a s = s
settle_one t u (r ∷ rs) (x ∷ xs) f a s = (settle_step t r x u (is_like row_before u x) f a.0 s.0, settle_one t u rs xs f a.1 s.1)

pub settled_more : (t : ℕ) (u : Row) (rs us : List Row) → IsSorted row_before us → Some u ≡ first_of (filter (waits t) us) → AreSettled t rs us → AreSettled t rs (replaced row_before (settled u) us)
settled_more t u rs us s e a = let q = only_one (waits t) u us s e in settle_one t u rs us (free_is u.safe u.ready (nat_le u.until t) q.passes) q.only a

pub has_settled : (t : ℕ) (u : Row) (us : List Row) → IsSorted row_before us → Some u ≡ first_of (filter (waits t) us) → has_like row_before (settled u) us ≡ true
has_settled t u us s e = same u us ∙ (only_one (waits t) u us s e).there
  where
    same : (u : Row) (us : List Row) → has_like row_before (settled u) us ≡ has_like row_before u us
    same u [] = refl
    same u (x ∷ xs) = ap (λ b. is_like row_before u x || b) (same u xs)

-- ---- fewer that are not ready

abbrev pub unready : List Row → ℕ
unready us = length (filter (λ (r : Row). not r.ready) us)

abbrev pub one_if : Bool → ℕ → ℕ
one_if c n = if c then suc n else n

count_if : (c : Bool) (x : Row) (xs : List Row) → length (if c then x ∷ xs else xs) ≡ one_if c (length xs)
count_if true x xs = refl
count_if false x xs = refl

most_step : (c d : Bool) (m n : ℕ) → m ≤ n → one_if (not (if c then true else d)) m ≤ one_if (not d) n
most_step true true m n h = h
most_step true false m n h = omega arith
most_step false true m n h = h
most_step false false m n h = omega arith

ready_if : (u x : Row) (c : Bool) → (if c then settled u else x).ready ≡ (if c then true else x.ready)
ready_if u x true = refl
ready_if u x false = refl

count_replaced : (u x : Row) (xs : List Row) → unready (replaced row_before (settled u) (x ∷ xs)) ≡ one_if (not (if is_like row_before u x then true else x.ready)) (unready (replaced row_before (settled u) xs))
count_replaced u x xs =
    count_if (not (if is_like row_before u x then settled u else x).ready) _ (filter (λ (r : Row). not r.ready) (replaced row_before (settled u) xs))
    ∙ ap (λ b. one_if (not b) (unready (replaced row_before (settled u) xs))) (ready_if u x (is_like row_before u x))

at_most : (u : Row) (us : List Row) → unready (replaced row_before (settled u) us) ≤ unready us
at_most u [] = omega arith
at_most u (x ∷ xs) =
    (let rest = at_most u xs in
    let a = count_replaced u x xs in
    let b : unready (x ∷ xs) ≡ one_if (not x.ready) (unready xs) = count_if (not x.ready) x (filter (λ (r : Row). not r.ready) xs) in
    let m = most_step (is_like row_before u x) x.ready (unready (replaced row_before (settled u) xs)) (unready xs) rest in
    omega arith)

less_here : (d : Bool) (m n : ℕ) → not d ≡ true → m ≤ n → one_if (not (if true then true else d)) m < one_if (not d) n
less_here true m n e h = absurd (clash refl e)
less_here false m n e h = omega arith

less_there : (d : Bool) (m n : ℕ) → m < n → one_if (not (if false then true else d)) m < one_if (not d) n
less_there true m n h = h
less_there false m n h = omega arith

fewer : (u : Row) (us : List Row) → not u.ready ≡ true → IsAt u us → has_like row_before u us ≡ true → unready (replaced row_before (settled u) us) < unready us
fewer u [] n a h = absurd (clash refl h)
fewer u (x ∷ xs) n a h =
    (let r = count_replaced u x xs in
    let b : unready (x ∷ xs) ≡ one_if (not x.ready) (unready xs) = count_if (not x.ready) x (filter (λ (r : Row). not r.ready) xs) in
    let less : one_if (not (if is_like row_before u x then true else x.ready)) (unready (replaced row_before (settled u) xs)) < one_if (not x.ready) (unready xs) =
    elim (is_like row_before u x) as (λ c. is_like row_before u x ≡ c → (c || has_like row_before u xs) ≡ true → one_if (not (if c then true else x.ready)) (unready (replaced row_before (settled u) xs)) < one_if (not x.ready) (unready xs)) [
      | true ↦ λ l k. less_here x.ready (unready (replaced row_before (settled u) xs)) (unready xs) (ap (λ (y : Row). not y.ready) (a.0 l) ∙ n) (at_most u xs)
      | false ↦ λ l k. less_there x.ready (unready (replaced row_before (settled u) xs)) (unready xs) (fewer u xs n a.1 k)
    ] refl h in
    omega arith)

pub fewer_unready : (t : ℕ) (u : Row) (us : List Row) → IsSorted row_before us → Some u ≡ first_of (filter (waits t) us) → unready (replaced row_before (settled u) us) < unready us
fewer_unready t u us s e = let q = only_one (waits t) u us s e in fewer u us (unready_is u.safe u.ready (nat_le u.until t) q.passes) q.only q.there

-- ---- no row waits

pub none_waits : (t : ℕ) (us : List Row) → None ≡ first_of (filter (waits t) us) → NoneWaits t us
none_waits t [] e = tt
none_waits t (x ∷ xs) e =
    elim (waits t x) as (λ c. waits t x ≡ c → None ≡ first_of (if c then x ∷ filter (waits t) xs else filter (waits t) xs) → NoneWaits t (x ∷ xs))
    [ true ↦ λ k h. absurd (cc) | false ↦ λ k h. (k, none_waits t xs h) ] refl e

pub all_same : (t : ℕ) (rs : List Row) → AreSettled t rs rs
all_same t [] = tt
all_same t (r ∷ rs) = (Same refl, all_same t rs)

-- ---- what stays

stay_same : (t : ℕ) (r u : Row) → IsSettled t r u → stay_of u ≡ stay_of r
stay_same t r u (Same e) = ap stay_of e
stay_same t r u (Ready e f) = ap stay_of e

arrival_same : (t : ℕ) (r u : Row) → IsSettled t r u → u.arrival ≡ r.arrival
arrival_same t r u (Same e) = ap (λ (x : Row). x.arrival) e
arrival_same t r u (Ready e f) = ap (λ (x : Row). x.arrival) e

pub stays_same : (t : ℕ) (rs us : List Row) → AreSettled t rs us → stays_of us ≡ stays_of rs
stays_same t [] [] s = refl
stays_same t [] (u ∷ us) s = absurd s
stays_same t (r ∷ rs) [] s = absurd s
stays_same t (r ∷ rs) (u ∷ us) s = (λ i. stay_same t r u s.0 i ∷ stays_same t rs us s.1 i)

arrivals_same : (t : ℕ) (rs us : List Row) (g : ℕ) → AreSettled t rs us → arrival_in us g ≡ arrival_in rs g
arrivals_same t [] [] g s = refl
arrivals_same t [] (u ∷ us) g s = absurd s
arrivals_same t (r ∷ rs) [] g s = absurd s
arrivals_same t (r ∷ rs) (u ∷ us) g s = (λ i. if (stay_same t r u s.0 i).file == g then Some (arrival_same t r u s.0 i) else arrivals_same t rs us g s.1 i)

apart_same : (t : ℕ) (rs us : List Row) → AreSettled t rs us → AreApart rs → AreApart us
apart_same t [] [] s a = tt
apart_same t [] (u ∷ us) s a = absurd s
apart_same t (r ∷ rs) [] s a = absurd s
apart_same t (r ∷ rs) (u ∷ us) s a = (ap (λ (x : Stay). arrival_in us x.file) (stay_same t r u s.0) ∙ arrivals_same t rs us r.file s.1 ∙ a.0, apart_same t rs us s.1 a.1)

early_same : (t n : ℕ) (rs us : List Row) → AreSettled t rs us → AreEarly n rs → AreEarly n us
early_same t n [] [] s a = tt
early_same t n [] (u ∷ us) s a = absurd s
early_same t n (r ∷ rs) [] s a = absurd s
early_same t n (r ∷ rs) (u ∷ us) s a = (subst (λ (m : ℕ). m < n) (sym (arrival_same t r u s.0)) a.0, early_same t n rs us s.1 a.1)

reaches : (m n t : ℕ) → n ≤ t → nat_le m n ≡ true → nat_le m t ≡ true
reaches m n t h e = grind arith

flag_same : (s k a r : Bool) → r ≡ (s && k) → (k ≡ true → a ≡ true) → (false || ((s && not r) && a)) ≡ false → r ≡ (s && a)
flag_same true true a true e h n = sym (h refl)
flag_same true true a false e h n = absurd (clash (sym e) refl)
flag_same true false a true e h n = absurd (clash refl (sym e))
flag_same true false a false e h n = sym n
flag_same false k a r e h n = e

ready_same : (t clock : ℕ) (r u : Row) → clock ≤ t → IsSettled t r u → r.ready ≡ is_free clock r → waits t u ≡ false → u.ready ≡ is_free t u
ready_same t clock r u le (Same e) a n =
    flag_same u.safe (nat_le u.until clock) (nat_le u.until t) u.ready (subst (λ (x : Row). x.ready ≡ is_free clock x) (sym e) a) (λ k. reaches u.until clock t le k) n
ready_same t clock r u le (Ready e f) a n = ap (λ (x : Row). x.ready) e ∙ sym f ∙ sym (ap (is_free t) e)

flags_same : (t clock : ℕ) (rs us : List Row) → clock ≤ t → AreSettled t rs us → AreReady clock rs → NoneWaits t us → AreReady t us
flags_same t clock [] [] le s a n = tt
flags_same t clock [] (u ∷ us) le s a n = absurd s
flags_same t clock (r ∷ rs) [] le s a n = absurd s
flags_same t clock (r ∷ rs) (u ∷ us) le s a n = (ready_same t clock r u le s.0 a.0 n.0, flags_same t clock rs us le s.1 a.1 n.1)

pub kept_settled : (t clock : ℕ) (rs us : List Row) (places : ℕ → Option ℕ) (n b : ℕ) → clock ≤ t → AreSettled t rs us → NoneWaits t us → AreKept rs places clock n b → AreKept us places t n b
kept_settled t clock rs us places n b le s w a = record {
  apart = apart_same t rs us s a.apart;
  found = λ g. a.found g ∙ sym (arrivals_same t rs us g s);
  flags = flags_same t clock rs us le s a.flags w;
  early = early_same t n rs us s a.early;
  total = a.total ∙ ap (λ l. bytes_of (residents l)) (sym (stays_same t rs us s));
}

-- ---- the bytes of those that are ready

abbrev pub weigh : Bool → ℕ → ℕ
weigh c n = if c then n else 0

abbrev pub readiness : Sums Row Readiness
readiness = record { own = own_readiness; joined = both_readiness }

abbrev pub sum_bytes : Option Readiness → ℕ
sum_bytes None = 0
sum_bytes (Some s) = s.bytes

led_bytes : (s : Readiness) (o : Option Readiness) (n : ℕ) → sum_bytes o ≡ n → s.bytes + n < 2 ^ 64 → sum_bytes (Some (led readiness s o)) ≡ s.bytes + n
led_bytes s None n e h = omega (arith, e)
led_bytes s (Some t) n e h = (let f : t.bytes ≡ n = e in omega arith)

weigh_rows : (c : Bool) (x : Row) (xs : List Row) → bytes_in (if c then x ∷ xs else xs) ≡ weigh c x.len + bytes_in xs
weigh_rows true x xs = refl
weigh_rows false x xs = zero_plus (bytes_in xs)
  where
    zero_plus : (n : ℕ) → n ≡ 0 + n
    zero_plus n = omega arith

weigh_most : (c : Bool) (n : ℕ) → weigh c n ≤ n
weigh_most true n = omega arith
weigh_most false n = omega arith

ready_most : (rs : List Row) → bytes_in (ready_rows rs) ≤ bytes_in rs
ready_most [] = omega arith
ready_most (x ∷ xs) = (let rest = ready_most xs in let e = weigh_rows x.ready x (ready_rows xs) in let m = weigh_most x.ready x.len in omega arith)

pub ready_sum : (rs : List Row) → bytes_in rs < 2 ^ 64 → sum_bytes (sum_of readiness rs) ≡ bytes_in (ready_rows rs)
ready_sum [] h = refl
ready_sum (x ∷ xs) h =
    (let most = ready_most xs in
    let one = weigh_most x.ready x.len in
    let all : x.len + bytes_in xs < 2 ^ 64 = h in
    let rest : sum_bytes (sum_of readiness xs) ≡ bytes_in (ready_rows xs) = ready_sum xs (omega arith) in
    led_bytes (own_readiness x) (sum_of readiness xs) (bytes_in (ready_rows xs)) rest (omega arith))
    ∙ sym (weigh_rows x.ready x (ready_rows xs))

-- ---- the bytes of the files that may go

weigh_stays : (c : Bool) (s : Stay) (ss : List Stay) → bytes_of (residents (if c then s ∷ ss else ss)) ≡ weigh c s.len + bytes_of (residents ss)
weigh_stays true s ss = refl
weigh_stays false s ss = zero_plus (bytes_of (residents ss))
  where
    zero_plus : (n : ℕ) → n ≡ 0 + n
    zero_plus n = omega arith

not_less : (m t : ℕ) → not (nat_lt t m) ≡ nat_le m t
not_less m t = grind arith

turned : (a s r k : Bool) → r ≡ (s && k) → a ≡ k → (a && s) ≡ r
turned a true true k e h = ap (λ b. b && true) (h ∙ sym e)
turned a true false k e h = ap (λ b. b && true) (h ∙ sym e)
turned true false r k e h = sym e
turned false false r k e h = sym e

pub ready_go : (clock : ℕ) (rs : List Row) → AreReady clock rs → bytes_in (ready_rows rs) ≡ bytes_of (going clock (stays_of rs))
ready_go clock [] a = refl
ready_go clock (x ∷ xs) a =
    weigh_rows x.ready x (ready_rows xs)
    ∙ (λ i. weigh (sym (turned (not (nat_lt clock x.until)) x.safe x.ready (nat_le x.until clock) a.0 (not_less x.until clock)) i) x.len + ready_go clock xs a.1 i)
    ∙ sym (weigh_stays (not (nat_lt clock x.until) && x.safe) (stay_of x) (filter (may_go clock) (stays_of xs)))

parts : (a s k r : Bool) (n : ℕ) → r ≡ (s && k) → (k ≡ true → a ≡ true) → weigh (a && s) n ≡ weigh r n + weigh ((false || ((s && not r) && a)) && a) n
parts true true k true n e h = omega arith
parts true true k false n e h = omega arith
parts false true true r n e h = absurd (clash refl (h refl))
parts false true false true n e h = absurd (clash refl (sym e))
parts false true false false n e h = omega arith
parts true false k true n e h = absurd (clash refl (sym e))
parts true false k false n e h = omega arith
parts false false k true n e h = absurd (clash refl (sym e))
parts false false k false n e h = omega arith

weigh_ended : (t : ℕ) (p q : Bool) (x : Row) (us : List Row) → nat_le x.until t ≡ q → bytes_of (ended_by t (if p then x ∷ us else us)) ≡ weigh (p && q) x.len + bytes_of (ended_by t us)
weigh_ended t true q x us e = weigh_rows (nat_le x.until t) x (filter (λ (r : Row). nat_le r.until t) us) ∙ ap (λ c. weigh c x.len + bytes_of (ended_by t us)) e
weigh_ended t false q x us e = zero_plus (bytes_of (ended_by t us))
  where
    zero_plus : (n : ℕ) → n ≡ 0 + n
    zero_plus n = omega arith

pub later_go : (clock t : ℕ) (rs : List Row) → clock ≤ t → AreReady clock rs → bytes_of (going t (stays_of rs)) ≡ bytes_in (ready_rows rs) + bytes_of (ended_by t (sought (waiting_at t) rs))
later_go clock t [] le a = refl
later_go clock t (x ∷ xs) le a =
    (let rest = later_go clock t xs le a.1 in
    let g : bytes_of (going t (stays_of (x ∷ xs))) ≡ weigh (not (nat_lt t x.until) && x.safe) x.len + bytes_of (going t (stays_of xs)) = weigh_stays (not (nat_lt t x.until) && x.safe) (stay_of x) (filter (may_go t) (stays_of xs)) in
    let r : bytes_in (ready_rows (x ∷ xs)) ≡ weigh x.ready x.len + bytes_in (ready_rows xs) = weigh_rows x.ready x (ready_rows xs) in
    let w : bytes_of (ended_by t (sought (waiting_at t) (x ∷ xs))) ≡ weigh (waits t x && nat_le x.until t) x.len + bytes_of (ended_by t (sought (waiting_at t) xs)) = weigh_ended t (waits t x) (nat_le x.until t) x (sought (waiting_at t) xs) refl in
    let one : weigh (not (nat_lt t x.until) && x.safe) x.len ≡ weigh x.ready x.len + weigh (waits t x && nat_le x.until t) x.len =
    ap (λ c. weigh (c && x.safe) x.len) (not_less x.until t) ∙ parts (nat_le x.until t) x.safe (nat_le x.until clock) x.ready x.len a.0 (λ k. reaches x.until clock t le k) in
    omega arith)

-- ---- the one tree

pub settle_tree : (t : ℕ) (u q : Row) (rs : List Row) (trees now : List (List Row)) → length trees ≡ 1 → q ≡ settled u → IsSorted row_before (items_in trees 0) → Some u ≡ first_of (filter (waits t) (items_in trees 0)) → now ≡ set trees 0 (replaced row_before q (items_in trees 0))
    → AreSettled t rs (items_in trees 0) → AreSettled t rs (items_in now 0)
settle_tree t u q rs trees now one e s f is a =
    subst (AreSettled t rs) (sym (first_set trees now _ one is ∙ ap (λ x. replaced row_before x (items_in trees 0)) e)) (settled_more t u rs (items_in trees 0) s f a)

pub fewer_tree : (t : ℕ) (u q : Row) (trees now : List (List Row)) → length trees ≡ 1 → q ≡ settled u → IsSorted row_before (items_in trees 0) → Some u ≡ first_of (filter (waits t) (items_in trees 0)) → now ≡ set trees 0 (replaced row_before q (items_in trees 0))
    → unready (items_in now 0) < unready (items_in trees 0)
fewer_tree t u q trees now one e s f is =
    let n : unready (items_in now 0) ≡ unready (replaced row_before (settled u) (items_in trees 0)) = ap unready (first_set trees now _ one is ∙ ap (λ x. replaced row_before x (items_in trees 0)) e) in
    let less = fewer_unready t u (items_in trees 0) s f in
    omega arith

pub has_one : (t : ℕ) (u q : Row) (us : List Row) → q ≡ settled u → IsSorted row_before us → Some u ≡ first_of (filter (waits t) us) → has_like row_before q us ≡ true
has_one t u q us e s f = ap (λ x. has_like row_before x us) e ∙ has_settled t u us s f

pub going_most : (t : ℕ) (ss : List Stay) → bytes_of (going t ss) ≤ bytes_of (residents ss)
going_most t [] = omega arith
going_most t (x ∷ xs) = (let rest = going_most t xs in let e = weigh_stays (not (nat_lt t x.until) && x.safe) x (filter (may_go t) xs) in let m = weigh_most (not (nat_lt t x.until) && x.safe) x.len in omega arith)
