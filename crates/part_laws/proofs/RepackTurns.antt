-- Calls in turn over the book of repacks, told for one repack, and for one of its items.
use Rattle.std.proofs.Common.{◌≡◌, ℕ, inl, inr, List, [], ◌∷◌, Bool, true, false, ◌||◌, refl, sym, ◌∙◌, ap, subst}
use Rattle.std.specs.Prelude.{Option, Some, None, is_some, option_map, if◌then◌else◌, ◌==◌, ◌&&◌, filter, map}
use Rattle.std.specs.List.{list_any, flat_map}
use Rattle.std.proofs.lemmas.Bool.{eqb-true, eq-eqb}
use Rattle.std.proofs.lemmas.List.Folds.{list_any-append}
use Rattle.cta_site.specs.declared.site.Site.{Site}
use Rattle.cta_model.specs.declared.asks.Job.{Job}
use Rattle.cta_model.specs.declared.reports.ItemState.{ItemState}
use Rattle.cta_model.specs.declared.states.RepackCopy.{RepackCopy}
use Rattle.cta_model.specs.History.{History, has_number}
use Rattle.cta_model.specs.Mounts.{has_copy}
use Rattle.cta_model.specs.Buffer.{is_resident}
use Rattle.cta_model.specs.Recalls.{live_recall}
use Rattle.cta_model.specs.RepackItems.{waiting_for}
use Rattle.cta_model.specs.Repacks.{Repack, is_live_item}
use Rattle.cta_laws.proofs.Tests.{bool_cases, or_left, or_right}
use Rattle.cta_laws.proofs.Bools.{and_none, eq_flip, turned}
use Rattle.part_model.specs.Repacks.{Repacks, Target, has_item_by, is_writing, reading_copies, repack_in, set_item, set_state, set_states, writers_in}
use Rattle.part_laws.specs.BookCalls.{items_here, readers, readers_of, writers, writers_of}

-- ---- one call, told for one repack

-- a repack with each of its items turned
abbrev pub with_items : (RepackCopy → RepackCopy) → Repack → Repack
with_items turn r = record { tape = r.tape; items = map turn r.items }

pub set_is : (id k f c : ℕ) (s : ItemState) (v : Repacks) → repack_in (set_state id f c s v) k ≡ (if id == k then option_map (with_items (set_item f c s)) (repack_in v k) else repack_in v k)
set_is id k f c s [] = either (id == k)
  where
    either : (b : Bool) → ◌≡◌ {A = Option Repack} None (if b then option_map (with_items (set_item f c s)) None else None)
    either true = refl
    either false = refl
set_is id k f c s (x ∷ xs) = by (x.0 == id) refl (x.0 == k) refl (set_is id k f c s xs)
  where
    by : (a : Bool) → (x.0 == id) ≡ a → (b : Bool) → (x.0 == k) ≡ b → repack_in (set_state id f c s xs) k ≡ (if id == k then option_map (with_items (set_item f c s)) (repack_in xs k) else repack_in xs k)
        → repack_in ((if a then (x.0, with_items (set_item f c s) x.1) else x) ∷ set_state id f c s xs) k ≡ (if id == k then option_map (with_items (set_item f c s)) (if b then Some x.1 else repack_in xs k) else (if b then Some x.1 else repack_in xs k))
    by true ea true eb rest = (let same : (id == k) ≡ true = subst (λ (n : ℕ). (n == k) ≡ true) (eqb-true _ _ ea) eb in rw (eb, same) refl)
    by true ea false eb rest = rw eb rest
    by false ea true eb rest = (let other : (id == k) ≡ false = subst (λ (n : ℕ). (id == n) ≡ false) (eqb-true _ _ eb) (turned x.0 id ea) in rw (eb, other) refl)
    by false ea false eb rest = rw eb rest

-- ---- calls in turn, told for one repack

-- an item of the repack of this number after calls for these items
abbrev pub all_set : ItemState → ℕ → List Target → RepackCopy → RepackCopy
all_set s k [] i = i
all_set s k (x ∷ xs) i = all_set s k xs (if x.0 == k then set_item x.1 x.2 s i else i)

map_same : (p q : RepackCopy → RepackCopy) (xs : List RepackCopy) → ((i : RepackCopy) → p i ≡ q i) → map p xs ≡ map q xs
map_same p q [] same = refl
map_same p q (i ∷ xs) same = rw (same i, map_same p q xs same) refl

map_twice : (p q : RepackCopy → RepackCopy) (xs : List RepackCopy) → map p (map q xs) ≡ map (λ i. p (q i)) xs
map_twice p q [] = refl
map_twice p q (i ∷ xs) = ap (λ (ys : List RepackCopy). p (q i) ∷ ys) (map_twice p q xs)

pub items_same : (p q : RepackCopy → RepackCopy) (o : Option Repack) → ((i : RepackCopy) → p i ≡ q i) → option_map (with_items p) o ≡ option_map (with_items q) o
items_same p q None same = refl
items_same p q (Some r) same = ap (λ (xs : List RepackCopy). Some (record { tape = r.tape; items = xs })) (map_same p q r.items same)

pub items_twice : (p q : RepackCopy → RepackCopy) (o : Option Repack) → option_map (with_items p) (option_map (with_items q) o) ≡ option_map (with_items (λ i. p (q i))) o
items_twice p q None = refl
items_twice p q (Some r) = ap (λ (xs : List RepackCopy). Some (record { tape = r.tape; items = xs })) (map_twice p q r.items)

pub items_stay : (o : Option Repack) → option_map (with_items (λ i. i)) o ≡ o
items_stay None = refl
items_stay (Some r) = ap (λ (xs : List RepackCopy). Some (record { tape = r.tape; items = xs })) (same r.items)
  where
    same : (xs : List RepackCopy) → map (λ (i : RepackCopy). i) xs ≡ xs
    same [] = refl
    same (i ∷ xs) = ap (λ (ys : List RepackCopy). i ∷ ys) (same xs)

pub sets_are : (s : ItemState) (k : ℕ) (xs : List Target) (v : Repacks) → repack_in (set_states s xs v) k ≡ option_map (with_items (all_set s k xs)) (repack_in v k)
sets_are s k [] v = sym (items_stay (repack_in v k))
sets_are s k (x ∷ xs) v = sets_are s k xs (set_state x.0 x.1 x.2 s v) ∙ ap (option_map (with_items (all_set s k xs))) (set_is x.0 k x.1 x.2 s v) ∙ by (x.0 == k)
  where
    by : (b : Bool) → option_map (with_items (all_set s k xs)) (if b then option_map (with_items (set_item x.1 x.2 s)) (repack_in v k) else repack_in v k) ≡ option_map (with_items (λ i. all_set s k xs (if b then set_item x.1 x.2 s i else i))) (repack_in v k)
    by true = items_twice (all_set s k xs) (set_item x.1 x.2 s) (repack_in v k)
    by false = refl

-- ---- calls in turn, told for one item

-- whether a call is made for this repack, file and copy
abbrev pub has_target : ℕ → ℕ → ℕ → List Target → Bool
has_target k f c xs = list_any (λ (x : Target). x.0 == k && (f == x.1 && c == x.2)) xs

-- an item that is not called for stays
pub set_miss : (s : ItemState) (k : ℕ) (xs : List Target) (i : RepackCopy) → has_target k i.file i.copy xs ≡ false → all_set s k xs i ≡ i
set_miss s k [] i miss = refl
set_miss s k (x ∷ xs) i miss = by (x.0 == k) (i.file == x.1 && i.copy == x.2) miss (λ rest. set_miss s k xs i rest)
  where
    by : (a b : Bool) → ((a && b) || has_target k i.file i.copy xs) ≡ false → (has_target k i.file i.copy xs ≡ false → all_set s k xs i ≡ i) → all_set s k xs (if a then (if b && is_live_item i.state then record i { state = s } else i) else i) ≡ i
    by true true e rest = absurd (cc)
    by true false e rest = rest e
    by false b e rest = rest e

-- an item that has ended stays
pub set_off : (s : ItemState) (k : ℕ) (xs : List Target) (i : RepackCopy) → is_live_item i.state ≡ false → all_set s k xs i ≡ i
set_off s k [] i off = refl
set_off s k (x ∷ xs) i off = ap (all_set s k xs) (by (x.0 == k) (i.file == x.1 && i.copy == x.2) (is_live_item i.state) off) ∙ set_off s k xs i off
  where
    by : (a b l : Bool) → l ≡ false → (if a then (if b && l then record i { state = s } else i) else i) ≡ i
    by true true true e = absurd (cc)
    by true true false e = refl
    by true false l e = refl
    by false b l e = refl

set_again : (s : ItemState) (k : ℕ) (xs : List Target) (i : RepackCopy) → all_set s k xs (record i { state = s }) ≡ record i { state = s }
set_again s k [] i = refl
set_again s k (x ∷ xs) i = ap (all_set s k xs) (by (x.0 == k) ((i.file == x.1 && i.copy == x.2) && is_live_item s)) ∙ set_again s k xs i
  where
    by : (a b : Bool) → (if a then (if b then record i { state = s } else record i { state = s }) else record i { state = s }) ≡ record i { state = s }
    by true true = refl
    by true false = refl
    by false b = refl

-- a live item takes the state exactly where it is called for
pub set_live : (s : ItemState) (k : ℕ) (xs : List Target) (i : RepackCopy) → is_live_item i.state ≡ true → all_set s k xs i ≡ (if has_target k i.file i.copy xs then record i { state = s } else i)
set_live s k [] i on = refl
set_live s k (x ∷ xs) i on = ap (λ (l : Bool). all_set s k xs (if x.0 == k then (if (i.file == x.1 && i.copy == x.2) && l then record i { state = s } else i) else i)) on ∙ by (x.0 == k) (i.file == x.1 && i.copy == x.2) (set_live s k xs i on)
  where
    by : (a b : Bool) → all_set s k xs i ≡ (if has_target k i.file i.copy xs then record i { state = s } else i) → all_set s k xs (if a then (if b && true then record i { state = s } else i) else i) ≡ (if (a && b) || has_target k i.file i.copy xs then record i { state = s } else i)
    by true true rest = set_again s k xs i
    by true false rest = rest
    by false b rest = rest

-- ---- for which items the calls are made

copies_hit : (k f c id g : ℕ) (cs : List ℕ) → has_target k f c (map (λ (m : ℕ). (id, g, m)) cs) ≡ ((id == k && f == g) && has_number c cs)
copies_hit k f c id g [] = sym (and_none (id == k && f == g))
copies_hit k f c id g (m ∷ cs) = rw (copies_hit k f c id g cs) (by (id == k) (f == g) (c == m) (has_number c cs))
  where
    by : (a b x y : Bool) → ((a && (b && x)) || ((a && b) && y)) ≡ ((a && b) && (x || y))
    by true true x y = refl
    by true false x y = refl
    by false b x y = refl

ids_hit : (v : Repacks) (k f c g : ℕ) (ids : List ℕ) → has_target k f c (flat_map (λ (id : ℕ). map (λ (m : ℕ). (id, g, m)) (reading_copies g (repack_in v id))) ids) ≡ ((f == g && has_number c (reading_copies g (repack_in v k))) && has_number k ids)
ids_hit v k f c g [] = sym (and_none (f == g && has_number c (reading_copies g (repack_in v k))))
ids_hit v k f c g (id ∷ ids) =
    list_any-append (λ (x : Target). x.0 == k && (f == x.1 && c == x.2)) (map (λ (m : ℕ). (id, g, m)) (reading_copies g (repack_in v id))) _
    ∙ rw (copies_hit k f c id g (reading_copies g (repack_in v id)), ids_hit v k f c g ids)
    (elim (bool_cases (id == k)) [
      | inr miss ↦ rw (miss, turned id k miss) refl
      | inl hit ↦
          rw (hit, eq-eqb k id (sym (eqb-true id k hit)))
          (ap (λ (n : ℕ). (f == g && has_number c (reading_copies g (repack_in v n))) || ((f == g && has_number c (reading_copies g (repack_in v k))) && has_number k ids)) (eqb-true id k hit)
          ∙ by (f == g && has_number c (reading_copies g (repack_in v k))) (has_number k ids))
    ])
  where
    by : (a b : Bool) → (a || (a && b)) ≡ (a && true)
    by true b = refl
    by false b = refl

-- a copy that a repack is READING is called for where its file is listed and the repack waits for the recall
pub readers_hit : (site : Site) (h : History) (v : Repacks) (k f c : ℕ) (fs : List ℕ) → has_target k f c (readers site h v fs) ≡ (has_number f fs && (has_number c (reading_copies f (repack_in v k)) && has_number k (waiting_for (live_recall site h f))))
readers_hit site h v k f c [] = refl
readers_hit site h v k f c (g ∷ gs) =
    list_any-append (λ (x : Target). x.0 == k && (f == x.1 && c == x.2)) (readers_of site h v g) (readers site h v gs)
    ∙ rw (ids_hit v k f c g (waiting_for (live_recall site h g)), readers_hit site h v k f c gs)
    (elim (bool_cases (f == g)) [
      | inr miss ↦ rw miss refl
      | inl hit ↦
          rw hit
          (ap (λ (n : ℕ). (has_number c (reading_copies n (repack_in v k)) && has_number k (waiting_for (live_recall site h n))) || (has_number f gs && (has_number c (reading_copies f (repack_in v k)) && has_number k (waiting_for (live_recall site h f))))) (sym (eqb-true f g hit))
          ∙ by (has_number c (reading_copies f (repack_in v k)) && has_number k (waiting_for (live_recall site h f))) (has_number f gs))
    ])
  where
    by : (a b : Bool) → (a || (b && a)) ≡ a
    by true b = refl
    by false b = and_none b

-- what passes a test has a key
pub key_there : (v : Repacks) (k : ℕ) → is_some (repack_in v k) ≡ true → list_any (λ (x : ℕ × Repack). x.0 == k) v ≡ true
key_there [] k on = absurd (cc)
key_there (x ∷ xs) k on = elim (bool_cases (x.0 == k)) [ inl hit ↦ or_left (x.0 == k) _ hit | inr miss ↦ or_right (x.0 == k) _ (key_there xs k (rw miss at on)) ]

keys_hit : (p : ℕ → Bool) (k : ℕ) (v : Repacks) → has_number k (map (λ (x : ℕ × Repack). x.0) (filter (λ (x : ℕ × Repack). p x.0) v)) ≡ (p k && list_any (λ (x : ℕ × Repack). x.0 == k) v)
keys_hit p k [] = sym (and_none (p k))
keys_hit p k (x ∷ xs) = by (p x.0) refl (x.0 == k) refl (keys_hit p k xs)
  where
    by : (a : Bool) → p x.0 ≡ a → (b : Bool) → (x.0 == k) ≡ b → has_number k (map (λ (x : ℕ × Repack). x.0) (filter (λ (x : ℕ × Repack). p x.0) xs)) ≡ (p k && list_any (λ (x : ℕ × Repack). x.0 == k) xs)
        → has_number k (map (λ (x : ℕ × Repack). x.0) (if a then x ∷ filter (λ (x : ℕ × Repack). p x.0) xs else filter (λ (x : ℕ × Repack). p x.0) xs)) ≡ (p k && (b || list_any (λ (x : ℕ × Repack). x.0 == k) xs))
    by true ea true eb rest = (let mine : p k ≡ true = subst (λ (n : ℕ). p n ≡ true) (eqb-true _ _ eb) ea in let same : (k == x.0) ≡ true = eq-eqb k x.0 (sym (eqb-true _ _ eb)) in rw (mine, same) refl)
    by true ea false eb rest = (let other : (k == x.0) ≡ false = turned x.0 k eb in rw other rest)
    by false ea true eb rest = (let mine : p k ≡ false = subst (λ (n : ℕ). p n ≡ false) (eqb-true _ _ eb) ea in rw mine (rw mine at rest))
    by false ea false eb rest = rest

-- the repacks that are WRITING a copy
pub writers_are : (v : Repacks) (k f c : ℕ) → has_number k (writers_in v f c) ≡ has_item_by (λ (i : RepackCopy). (i.file == f && i.copy == c) && is_writing i.state) (repack_in v k)
writers_are v k f c = keys_hit (λ n. has_item_by (λ (i : RepackCopy). (i.file == f && i.copy == c) && is_writing i.state) (repack_in v n)) k v ∙ by (repack_in v k) refl
  where
    by : (o : Option Repack) → repack_in v k ≡ o → (has_item_by (λ (i : RepackCopy). (i.file == f && i.copy == c) && is_writing i.state) o && list_any (λ (x : ℕ × Repack). x.0 == k) v) ≡ has_item_by (λ (i : RepackCopy). (i.file == f && i.copy == c) && is_writing i.state) o
    by None is = refl
    by (Some r) is = rw (key_there v k (ap is_some is)) (all (list_any (λ (i : RepackCopy). (i.file == f && i.copy == c) && is_writing i.state) r.items))
      where
        all : (b : Bool) → (b && true) ≡ b
        all true = refl
        all false = refl

ids_of_hit : (k f c g m : ℕ) (ids : List ℕ) → has_target k f c (map (λ (id : ℕ). (id, g, m)) ids) ≡ ((g == f && m == c) && has_number k ids)
ids_of_hit k f c g m [] = sym (and_none (g == f && m == c))
ids_of_hit k f c g m (id ∷ ids) = rw (ids_of_hit k f c g m ids, eq_flip id k, eq_flip f g, eq_flip c m) (by (k == id) (g == f && m == c) (has_number k ids))
  where
    by : (a b d : Bool) → ((a && b) || (b && d)) ≡ (b && (a || d))
    by true true d = refl
    by true false d = refl
    by false b d = refl

-- a copy that a repack is WRITING is called for where it is listed
pub writers_hit : (v : Repacks) (k f c : ℕ) (jobs : List Job) → has_target k f c (writers v jobs) ≡ (has_copy f c jobs && has_number k (writers_in v f c))
writers_hit v k f c [] = refl
writers_hit v k f c (j ∷ js) =
    list_any-append (λ (x : Target). x.0 == k && (f == x.1 && c == x.2)) (writers_of v j) (writers v js)
    ∙ rw (ids_of_hit k f c j.file j.copy (writers_in v j.file j.copy), writers_hit v k f c js)
    (elim (bool_cases (j.file == f)) [
      | inr miss ↦ rw miss refl
      | inl one ↦
          elim (bool_cases (j.copy == c)) [
            | inr miss ↦ rw (one, miss) refl
            | inl two ↦
                rw (one, two)
                (ap (λ (n : ℕ). has_number k (writers_in v n j.copy) || (has_copy f c js && has_number k (writers_in v f c))) (eqb-true _ _ one)
                ∙ ap (λ (n : ℕ). has_number k (writers_in v f n) || (has_copy f c js && has_number k (writers_in v f c))) (eqb-true _ _ two)
                ∙ by (has_number k (writers_in v f c)) (has_copy f c js))
          ]
    ])
  where
    by : (a b : Bool) → (a || (b && a)) ≡ a
    by true b = refl
    by false b = and_none b

-- an item of the new repack is called for where its file is resident
pub here_hit : (h : History) (id k f c : ℕ) (jobs : List Job) → has_target k f c (items_here h id jobs) ≡ (id == k && (is_resident h f && has_copy f c jobs))
here_hit h id k f c [] = by (id == k) (is_resident h f)
  where
    by : (a b : Bool) → false ≡ (a && (b && false))
    by true true = refl
    by true false = refl
    by false b = refl
here_hit h id k f c (j ∷ js) = by (is_resident h j.file) refl (here_hit h id k f c js)
  where
    hit : (b : Bool) → is_resident h j.file ≡ b → (j.file == f && j.copy == c) ≡ true → is_resident h f ≡ b
    hit b here e = subst (λ (n : ℕ). is_resident h n ≡ b) (eqb-true _ _ (first (j.file == f) (j.copy == c) e)) here
      where
        first : (x y : Bool) → (x && y) ≡ true → x ≡ true
        first true y e = refl
        first false y e = absurd (cc)

    flips : (f == j.file && c == j.copy) ≡ (j.file == f && j.copy == c)
    flips = rw (eq_flip f j.file, eq_flip c j.copy) refl

    by : (b : Bool) → is_resident h j.file ≡ b → has_target k f c (items_here h id js) ≡ (id == k && (is_resident h f && has_copy f c js)) → has_target k f c (map (λ (j : Job). (id, j.file, j.copy)) (if b then j ∷ filter (λ (j : Job). is_resident h j.file) js else filter (λ (j : Job). is_resident h j.file) js)) ≡ (id == k && (is_resident h f && has_copy f c (j ∷ js)))
    by true here rest =
        rw (rest, flips)
        (elim (bool_cases (j.file == f && j.copy == c)) [
          | inl e ↦ rw (e, hit true here e) (ors (id == k) (has_copy f c js))
          | inr e ↦ rw e (none (id == k) (is_resident h f && has_copy f c js))
        ])
      where
        ors : (a b : Bool) → ((a && true) || (a && b)) ≡ (a && true)
        ors true b = refl
        ors false b = refl

        none : (a b : Bool) → ((a && false) || (a && b)) ≡ (a && b)
        none true b = refl
        none false b = refl
    by false away rest =
        rest
        ∙ elim (bool_cases (j.file == f && j.copy == c)) [
          | inl e ↦ rw (e, hit false away e) refl
          | inr e ↦ rw e refl
        ]
