-- What the states of a repack tell of its items.
use Rattle.std.proofs.Common.{◌≡◌, ◌∙◌, ◌<◌, ◌+◌, ℕ, zero, suc, List, [], ◌∷◌, length, take, get_or, Some, None, Bool, true, false, ◌||◌, refl, sym, ap, subst, arith}
use Rattle.std.specs.Prelude.{Option, ◌==◌, ◌&&◌, map, filter, if◌then◌else◌, is_some, option_map, unwrap_or}
use Rattle.std.specs.List.{list_any}
use Rattle.std.proofs.lemmas.Bool.{eqb-true, eq-eqb}
use Rattle.cta_model.specs.declared.asks.Job.{Job}
use Rattle.cta_model.specs.declared.reports.ItemState.{ItemState}
use Rattle.cta_model.specs.declared.reports.ItemState.TheVariants as item
use Rattle.cta_model.specs.declared.states.RepackCopy.{RepackCopy}
use Rattle.cta_model.specs.History.{has_number}
use Rattle.cta_model.specs.Mounts.{has_copy}
use Rattle.cta_model.specs.Repacks.{is_live_item}
use Rattle.part_model.specs.Repacks.{is_reading, set_item}
use Rattle.repack_book.specs.States.{States, state_at, item_at, items_of, turned_if}
use Rattle.repack_book.specs.Live.{has_live, has_state}
use Rattle.repack_book.specs.NamedRepacks.{NamedRepacks, KeptRepack, fresh_repack, kept_in}

pub flip : (x y : ℕ) → (x == y) ≡ (y == x)
flip x y = grind arith

pub and_left : (a c : Bool) → (a && c) ≡ true → a ≡ true
and_left true c e = refl
and_left false c e = absurd (cc)

pub and_right : (a c : Bool) → (a && c) ≡ true → c ≡ true
and_right true c e = e
and_right false c e = absurd (cc)

or_left : (a c : Bool) → a ≡ true → (a || c) ≡ true
or_left true c e = refl
or_left false c e = absurd (cc)

or_right : (a c : Bool) → c ≡ true → (a || c) ≡ true
or_right true c e = refl
or_right false c e = e

-- ---- new states

if_some : (b : Bool) → is_some {T = ItemState} (if b then Some item.Reading else None) ≡ b
if_some true = refl
if_some false = refl

pub known_new : (states : States) (jobs : List Job) → ((f c : ℕ) → state_at states f c ≡ (if has_copy f c jobs then Some item.Reading else None)) → (f c : ℕ) → is_some (state_at states f c) ≡ has_copy f c jobs
known_new states jobs each f c = ap is_some (each f c) ∙ if_some (has_copy f c jobs)

all_read : (states : States) (jobs : List Job) → ((f c : ℕ) → has_copy f c jobs ≡ true → state_at states f c ≡ Some item.Reading) → items_of states jobs ≡ (fresh_repack 0 jobs).items
all_read states [] each = refl
all_read states (j ∷ js) each =
    (let here : has_copy j.file j.copy (j ∷ js) ≡ true = or_left (j.file == j.file && j.copy == j.copy) _ (both j.file j.copy) in
    let state : unwrap_or (state_at states j.file j.copy) item.Gone ≡ item.Reading = ap (λ o. unwrap_or o item.Gone) (each j.file j.copy here) in
    (λ i. record { file = j.file; copy = j.copy; state = state i } ∷ all_read states js (λ f c h. each f c (or_right (j.file == f && j.copy == c) _ h)) i))
  where
    both : (m n : ℕ) → (m == m && n == n) ≡ true
    both m n = (λ i. eq-eqb m m refl i && n == n) ∙ eq-eqb n n refl

pub items_new : (states : States) (jobs : List Job) → ((f c : ℕ) → state_at states f c ≡ (if has_copy f c jobs then Some item.Reading else None)) → items_of states jobs ≡ (fresh_repack 0 jobs).items
items_new states jobs each = all_read states jobs (λ f c h. each f c ∙ ap (λ (b : Bool). if b then Some item.Reading else None) h)

-- ---- a state that is turned

pub known_turned : (old new : States) (jobs : List Job) (g : ℕ → ℕ → ItemState → ItemState) → ((f c : ℕ) → state_at new f c ≡ option_map (g f c) (state_at old f c)) → ((f c : ℕ) → is_some (state_at old f c) ≡ has_copy f c jobs)
    → (f c : ℕ) → is_some (state_at new f c) ≡ has_copy f c jobs
known_turned old new jobs g each known f c = ap is_some (each f c) ∙ same (state_at old f c) ∙ known f c
  where
    same : (o : Option ItemState) → is_some (option_map (g f c) o) ≡ is_some o
    same None = refl
    same (Some s) = refl

turned_item : (f c : ℕ) (o : Option ItemState) (b : Bool) (s : ItemState)
    → ◌≡◌ {A = RepackCopy} (record { file = f; copy = c; state = unwrap_or (option_map (turned_if b s) o) item.Gone }) (if b && is_live_item (unwrap_or o item.Gone) then record { file = f; copy = c; state = s } else record { file = f; copy = c; state = unwrap_or o item.Gone })
turned_item f c None true s = refl
turned_item f c None false s = refl
turned_item f c (Some st) true s = elim (is_live_item st) as (λ d. ◌≡◌ {A = RepackCopy} (record { file = f; copy = c; state = (if d then s else st) }) (if d then record { file = f; copy = c; state = s } else record { file = f; copy = c; state = st })) [ true ↦ refl | false ↦ refl ]
turned_item f c (Some st) false s = refl

pub items_turned : (old new : States) (jobs : List Job) (f c : ℕ) (s : ItemState) → ((q r : ℕ) → state_at new q r ≡ option_map (turned_if (f == q && c == r) s) (state_at old q r)) → items_of new jobs ≡ map (set_item f c s) (items_of old jobs)
items_turned old new [] f c s each = refl
items_turned old new (j ∷ js) f c s each = (λ i. one i ∷ items_turned old new js f c s each i)
  where
    one : item_at new j ≡ set_item f c s (item_at old j)
    one = ap (λ (o : Option ItemState). record { file = j.file; copy = j.copy; state = unwrap_or o item.Gone }) (each j.file j.copy ∙ ap (λ (b : Bool). option_map (turned_if b s) (state_at old j.file j.copy)) (λ i. flip f j.file i && flip c j.copy i))
        ∙ turned_item j.file j.copy (state_at old j.file j.copy) (j.file == f && j.copy == c) s

-- ---- items of a copy

pub any_item : (states : States) (f c : ℕ) (t : ItemState → Bool) (jobs : List Job) → has_state f c t (items_of states jobs) ≡ (has_copy f c jobs && t (unwrap_or (state_at states f c) item.Gone))
any_item states f c t [] = refl
any_item states f c t (j ∷ js) = by (j.file == f && j.copy == c) refl (any_item states f c t js)
  where
    at : ℕ → ℕ → Bool
    at q r = t (unwrap_or (state_at states q r) item.Gone)

    same : (j.file == f && j.copy == c) ≡ true → at j.file j.copy ≡ at f c
    same e = (λ i. at (eqb-true j.file f (and_left (j.file == f) (j.copy == c) e) i) (eqb-true j.copy c (and_right (j.file == f) (j.copy == c) e) i))

    again : (a b : Bool) → (a || (b && a)) ≡ a
    again true b = refl
    again false true = refl
    again false false = refl

    by : (b : Bool) → (j.file == f && j.copy == c) ≡ b → has_state f c t (items_of states js) ≡ (has_copy f c js && at f c) → ((b && at j.file j.copy) || has_state f c t (items_of states js)) ≡ ((b || has_copy f c js) && at f c)
    by true e ih = (λ i. same e i || ih i) ∙ again (at f c) (has_copy f c js)
    by false e ih = ih

-- the test of a state where there is one
abbrev pub passes : (ItemState → Bool) → Option ItemState → Bool
passes t None = false
passes t (Some s) = t s

pub any_known : (states : States) (jobs : List Job) (f c : ℕ) (t : ItemState → Bool) → ((q r : ℕ) → is_some (state_at states q r) ≡ has_copy q r jobs) → has_state f c t (items_of states jobs) ≡ passes t (state_at states f c)
any_known states jobs f c t known = any_item states f c t jobs ∙ ap (λ (b : Bool). b && t (unwrap_or (state_at states f c) item.Gone)) (sym (known f c)) ∙ by (state_at states f c)
  where
    by : (o : Option ItemState) → (is_some o && t (unwrap_or o item.Gone)) ≡ passes t o
    by None = refl
    by (Some s) = refl

pub low_copy : (states : States) (jobs : List Job) (f c : ℕ) (t : ItemState → Bool) → ((q r : ℕ) → has_copy q r jobs ≡ true → r < 256) → has_state f c t (items_of states jobs) ≡ true → c < 256
low_copy states jobs f c t low h = low f c (and_left (has_copy f c jobs) _ (sym (any_item states f c t jobs) ∙ h))

-- ---- copies that are READING

pub reading_is : (f k : ℕ) (items : List RepackCopy) → has_number k (map (λ (i : RepackCopy). i.copy) (filter (λ (i : RepackCopy). i.file == f && is_reading i.state) items)) ≡ has_state f k is_reading items
reading_is f k [] = refl
reading_is f k (x ∷ xs) = by (x.file == f) (is_reading x.state) (reading_is f k xs)
  where
    rest : List ℕ
    rest = map (λ (i : RepackCopy). i.copy) (filter (λ (i : RepackCopy). i.file == f && is_reading i.state) xs)

    by : (a b : Bool) → has_number k rest ≡ has_state f k is_reading xs → has_number k (map (λ (i : RepackCopy). i.copy) (if a && b then x ∷ filter (λ (i : RepackCopy). i.file == f && is_reading i.state) xs else filter (λ (i : RepackCopy). i.file == f && is_reading i.state) xs)) ≡ (((a && x.copy == k) && b) || has_state f k is_reading xs)
    by true true ih = (λ i. (flip k x.copy ∙ yes (x.copy == k)) i || ih i)
      where
        yes : (d : Bool) → d ≡ (d && true)
        yes true = refl
        yes false = refl
    by true false ih = ih ∙ no (x.copy == k) (has_state f k is_reading xs)
      where
        no : (d e : Bool) → e ≡ ((d && false) || e)
        no true e = refl
        no false e = refl
    by false b ih = ih

-- ---- live items of a file

pub some_copy : (f : ℕ) (items : List RepackCopy) → ((k : ℕ) → has_live f k items ≡ false) → list_any (λ (i : RepackCopy). i.file == f && is_live_item i.state) items ≡ false
some_copy f [] none = refl
some_copy f (x ∷ xs) none = by (x.file == f) (is_live_item x.state) (x.copy == x.copy) (eq-eqb x.copy x.copy refl) (none x.copy) (some_copy f xs (λ k. right _ _ (none k)))
  where
    right : (a c : Bool) → (a || c) ≡ false → c ≡ false
    right true c e = absurd (cc)
    right false c e = e

    by : (a b s : Bool) → s ≡ true → (((a && s) && b) || has_live f x.copy xs) ≡ false → list_any (λ (i : RepackCopy). i.file == f && is_live_item i.state) xs ≡ false → ((a && b) || list_any (λ (i : RepackCopy). i.file == f && is_live_item i.state) xs) ≡ false
    by true true true e h ih = absurd (cc)
    by true b false e h ih = absurd (cc)
    by true false true e h ih = ih
    by false b s e h ih = ih

pub of_some_copy : (f k : ℕ) (items : List RepackCopy) → has_live f k items ≡ true → list_any (λ (i : RepackCopy). i.file == f && is_live_item i.state) items ≡ true
of_some_copy f k [] h = absurd (cc)
of_some_copy f k (x ∷ xs) h = by (x.file == f) (x.copy == k) (is_live_item x.state) h (of_some_copy f k xs)
  where
    by : (a s b : Bool) → (((a && s) && b) || has_live f k xs) ≡ true → (has_live f k xs ≡ true → list_any (λ (i : RepackCopy). i.file == f && is_live_item i.state) xs ≡ true) → ((a && b) || list_any (λ (i : RepackCopy). i.file == f && is_live_item i.state) xs) ≡ true
    by true true true h ih = refl
    by true true false h ih = ih h
    by true false true h ih = refl
    by true false false h ih = ih h
    by false s b h ih = ih h

-- ---- one more copy

pub has_copy_more : (f c : ℕ) (jobs : List Job) (n : ℕ) (d : Job) → n < length jobs → has_copy f c (take (n + 1) jobs) ≡ (((get_or jobs n d).file == f && (get_or jobs n d).copy == c) || has_copy f c (take n jobs))
has_copy_more f c jobs n d h = ap (λ (m : ℕ). has_copy f c (take m jobs)) next ∙ more jobs n h
  where
    next : n + 1 ≡ suc n
    next = omega arith

    swap : (p q r : Bool) → (p || (q || r)) ≡ (q || (p || r))
    swap true true r = refl
    swap true false r = refl
    swap false q r = refl

    more : (js : List Job) (m : ℕ) → m < length js → has_copy f c (take (suc m) js) ≡ (((get_or js m d).file == f && (get_or js m d).copy == c) || has_copy f c (take m js))
    more [] m h = absurd (omega arith)
    more (j ∷ js) zero h = refl
    more (j ∷ js) (suc m) h = ap (λ (b : Bool). (j.file == f && j.copy == c) || b) (more js m (omega arith)) ∙ swap (j.file == f && j.copy == c) ((get_or js m d).file == f && (get_or js m d).copy == c) (has_copy f c (take m js))

-- ---- copies that a loop has passed

pub states_more : (old new : States) (jobs : List Job) (n : ℕ) (d : Job) → n < length jobs
    → ((f c : ℕ) → state_at old f c ≡ (if has_copy f c (take n jobs) then Some item.Reading else None))
    → ((k : ℕ × ℕ) → state_at new k.0 k.1 ≡ (if (get_or jobs n d).file == k.0 && (get_or jobs n d).copy == k.1 then Some item.Reading else state_at old k.0 k.1))
    → (f c : ℕ) → state_at new f c ≡ (if has_copy f c (take (n + 1) jobs) then Some item.Reading else None)
states_more old new jobs n d h was each f c = each (f, c) ∙ by ((get_or jobs n d).file == f && (get_or jobs n d).copy == c) (was f c) ∙ ap (λ (b : Bool). if b then Some item.Reading else None) (sym (has_copy_more f c jobs n d h))
  where
    by : (b : Bool) → state_at old f c ≡ (if has_copy f c (take n jobs) then Some item.Reading else None) → (if b then Some item.Reading else state_at old f c) ≡ (if b || has_copy f c (take n jobs) then Some item.Reading else None)
    by true e = refl
    by false e = e

pub low_more : (jobs : List Job) (n : ℕ) (d : Job) → n < length jobs → (get_or jobs n d).copy < 256 → ((f c : ℕ) → has_copy f c (take n jobs) ≡ true → c < 256) → (f c : ℕ) → has_copy f c (take (n + 1) jobs) ≡ true → c < 256
low_more jobs n d h here low f c e = by ((get_or jobs n d).file == f) ((get_or jobs n d).copy == c) refl (sym (has_copy_more f c jobs n d h) ∙ e)
  where
    by : (a b : Bool) → ((get_or jobs n d).copy == c) ≡ b → ((a && b) || has_copy f c (take n jobs)) ≡ true → c < 256
    by true true k g = subst (λ (m : ℕ). m < 256) (eqb-true _ _ k) here
    by true false k g = low f c g
    by false b k g = low f c g

pub write_row : (v : NamedRepacks) (id q : ℕ) (g : KeptRepack → KeptRepack) (old new : KeptRepack) → kept_in v id ≡ Some old → new ≡ g old → (if id == q then Some new else kept_in v q) ≡ (if id == q then option_map g (kept_in v q) else kept_in v q)
write_row v id q g old new here is = by (id == q) refl
  where
    by : (b : Bool) → (id == q) ≡ b → (if b then Some new else kept_in v q) ≡ (if b then option_map g (kept_in v q) else kept_in v q)
    by true e = ap (λ (k : KeptRepack). Some k) is ∙ sym (ap (option_map g) (ap (kept_in v) (sym (eqb-true id q e)) ∙ here))
    by false e = refl
