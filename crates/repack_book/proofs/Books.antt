-- What a book tells after its calls.
use Rattle.std.proofs.Common.{◌≡◌, ◌∙◌, ℕ, List, [], ◌∷◌, Some, None, Bool, true, false, ◌||◌, refl, sym, ap, subst}
use Rattle.std.specs.Prelude.{Option, ◌==◌, ◌&&◌, not, map, filter, if◌then◌else◌, is_some, option_map}
use Rattle.std.specs.List.{list_any}
use Rattle.std.proofs.lemmas.Bool.{eqb-true, eq-eqb}
use Rattle.cta_model.specs.declared.asks.Job.{Job}
use Rattle.cta_model.specs.declared.reports.ItemState.{ItemState}
use Rattle.cta_model.specs.declared.reports.ItemState.TheVariants as item
use Rattle.cta_model.specs.declared.states.RepackCopy.{RepackCopy}
use Rattle.cta_model.specs.History.{has_number}
use Rattle.cta_model.specs.Mounts.{has_copy}
use Rattle.cta_model.specs.Repacks.{Repack, is_live_item, is_live_on}
use Rattle.part_model.specs.Repacks.{Repacks, RepacksAgree, add_repack, has_item_by, is_live_in, is_writing, reading_copies, repack_in, set_item, set_state, writers_in}
use Rattle.repack_book.specs.declared.items.LiveItem.{LiveItem}
use Rattle.repack_book.specs.declared.holders.Holder.{Holder}
use Rattle.repack_book.specs.Order.{is_item, has_item, is_holder, has_holder}
use Rattle.repack_book.specs.NamedRepacks.{NamedRepacks, KeptRepack, NamesAgree, RepackNames, fresh_repack, kept_in, names_in, names_of, repacks_of, set_in, tape_of}
use Rattle.repack_book.specs.Live.{AreIndexed, has_live, has_state, holds_by, holds_on}
use Rattle.repack_book.specs.Walks.{IsFirstFrom}
use Rattle.repack_book.proofs.Rows.{flip, and_left, and_right}

clash : {b : Bool} → b ≡ true → b ≡ false → ⊥
clash e f = cc

-- the repack of a kept one
abbrev pub repack_of : KeptRepack → Repack
repack_of k = k.repack

pub repack_is : (v : NamedRepacks) (q : ℕ) → repack_in (repacks_of v) q ≡ option_map repack_of (kept_in v q)
repack_is [] q = refl
repack_is (x ∷ xs) q = ap (λ (b : Bool). if b then Some x.1.repack else repack_in (repacks_of xs) q) (flip x.0 q) ∙ by (q == x.0) (repack_is xs q)
  where
    by : (b : Bool) → repack_in (repacks_of xs) q ≡ option_map repack_of (kept_in xs q) → (if b then Some x.1.repack else repack_in (repacks_of xs) q) ≡ option_map repack_of (if b then Some x.1 else kept_in xs q)
    by true ih = refl
    by false ih = ih

-- ---- one repack more

pub add_agrees : (v w : NamedRepacks) (id tape : ℕ) (jobs : List Job) (k : KeptRepack) → k.repack ≡ fresh_repack tape jobs → ((q : ℕ) → kept_in w q ≡ (if id == q then Some k else kept_in v q)) → RepacksAgree (repacks_of w) (add_repack id tape jobs (repacks_of v))
add_agrees v w id tape jobs k is each q = repack_is w q ∙ ap (option_map repack_of) (each q) ∙ by (id == q)
  where
    by : (b : Bool) → option_map repack_of (if b then Some k else kept_in v q) ≡ (if b then Some (fresh_repack tape jobs) else repack_in (repacks_of v) q)
    by true = ap (λ (r : Repack). Some r) is
    by false = sym (repack_is v q)

pub add_names : (v w : NamedRepacks) (id : ℕ) (k : KeptRepack) (n : RepackNames) → names_of k ≡ n → ((q : ℕ) → kept_in w q ≡ (if id == q then Some k else kept_in v q)) → (q : ℕ) → names_in w q ≡ (if id == q then Some n else names_in v q)
add_names v w id k n is each q = ap (option_map names_of) (each q) ∙ by (id == q)
  where
    by : (b : Bool) → option_map names_of (if b then Some k else kept_in v q) ≡ (if b then Some n else names_in v q)
    by true = ap (λ (m : RepackNames). Some m) is
    by false = refl

pub same_agrees : (v w : NamedRepacks) → ((q : ℕ) → kept_in w q ≡ kept_in v q) → RepacksAgree (repacks_of w) (repacks_of v)
same_agrees v w each q = repack_is w q ∙ ap (option_map repack_of) (each q) ∙ sym (repack_is v q)

pub same_names : (v w : NamedRepacks) → ((q : ℕ) → kept_in w q ≡ kept_in v q) → NamesAgree w v
same_names v w each q = ap (option_map names_of) (each q)

-- ---- an item that is set

-- a repack with an item set
abbrev turned : ℕ → ℕ → ItemState → Repack → Repack
turned f c s r = record { tape = r.tape; items = map (set_item f c s) r.items }

set_state_is : (id f c : ℕ) (s : ItemState) (r : Repacks) (q : ℕ) → repack_in (set_state id f c s r) q ≡ (if id == q then option_map (turned f c s) (repack_in r q) else repack_in r q)
set_state_is id f c s [] q = none (id == q)
  where
    none : (b : Bool) → ◌≡◌ {A = Option Repack} None (if b then None else None)
    none true = refl
    none false = refl
set_state_is id f c s (x ∷ xs) q = by (x.0 == id) refl (x.0 == q) refl (set_state_is id f c s xs q)
  where
    by : (a : Bool) → (x.0 == id) ≡ a → (b : Bool) → (x.0 == q) ≡ b → repack_in (set_state id f c s xs) q ≡ (if id == q then option_map (turned f c s) (repack_in xs q) else repack_in xs q)
        → repack_in ((if a then (x.0, turned f c s x.1) else x) ∷ set_state id f c s xs) q ≡ (if id == q then option_map (turned f c s) (if b then Some x.1 else repack_in xs q) else (if b then Some x.1 else repack_in xs q))
    by true ea true eb ih = (let here : (id == q) ≡ true = ap (λ (n : ℕ). n == q) (sym (eqb-true x.0 id ea)) ∙ eb in rw (here, eb) refl)
    by true ea false eb ih = rw eb ih
    by false ea true eb ih = (let other : (id == q) ≡ false = flip id q ∙ ap (λ (n : ℕ). n == id) (sym (eqb-true x.0 q eb)) ∙ ea in rw (other, eb) refl)
    by false ea false eb ih = rw eb ih

pub set_agrees : (v w : NamedRepacks) (id f c : ℕ) (s : ItemState) → ((q : ℕ) → kept_in w q ≡ (if id == q then option_map (set_in f c s) (kept_in v q) else kept_in v q)) → RepacksAgree (repacks_of w) (set_state id f c s (repacks_of v))
set_agrees v w id f c s each q = repack_is w q ∙ ap (option_map repack_of) (each q) ∙ by (id == q) (kept_in v q) ∙ ap (λ (o : Option Repack). if id == q then option_map (turned f c s) o else o) (sym (repack_is v q)) ∙ sym (set_state_is id f c s (repacks_of v) q)
  where
    by : (b : Bool) (o : Option KeptRepack) → option_map repack_of (if b then option_map (set_in f c s) o else o) ≡ (if b then option_map (turned f c s) (option_map repack_of o) else option_map repack_of o)
    by true None = refl
    by true (Some k) = refl
    by false o = refl

pub set_names : (v w : NamedRepacks) (id f c : ℕ) (s : ItemState) → ((q : ℕ) → kept_in w q ≡ (if id == q then option_map (set_in f c s) (kept_in v q) else kept_in v q)) → NamesAgree w v
set_names v w id f c s each q = ap (option_map names_of) (each q) ∙ by (id == q) (kept_in v q)
  where
    by : (b : Bool) (o : Option KeptRepack) → option_map names_of (if b then option_map (set_in f c s) o else o) ≡ option_map names_of o
    by true None = refl
    by true (Some k) = refl
    by false o = refl

-- ---- live items of a repack with an item set

pick : (p : RepackCopy → Bool) (d : Bool) (x y : RepackCopy) → p (if d then x else y) ≡ (if d then p x else p y)
pick p true x y = refl
pick p false x y = refl

stays : (x b l sl : Bool) → sl ≡ true → (if b && l then x && sl else x && l) ≡ (x && l)
stays x true true sl e = ap (λ d. x && d) e
stays x true false sl e = refl
stays x false l sl e = refl

ends : (x b a l sl : Bool) → sl ≡ false → (x ≡ true → b ≡ a) → (if b && l then x && sl else x && l) ≡ (not a && (x && l))
ends true b a l sl e same = (let k : b ≡ a = same refl in subst (λ (z : Bool). (if b && l then sl else l) ≡ (not z && l)) k (at b l sl e))
  where
    at : (b l sl : Bool) → sl ≡ false → (if b && l then sl else l) ≡ (not b && l)
    at true true sl e = e
    at true false sl e = refl
    at false true sl e = refl
    at false false sl e = refl
ends false b a l sl e same = both (b && l) ∙ none a
  where
    both : (d : Bool) → (if d then false else false) ≡ false
    both true = refl
    both false = refl

    none : (a : Bool) → false ≡ (not a && false)
    none true = refl
    none false = refl

spread : (a h r : Bool) → ((not a && h) || (not a && r)) ≡ (not a && (h || r))
spread true h r = refl
spread false h r = refl

live_stays : (g k f c : ℕ) (s : ItemState) → is_live_item s ≡ true → (items : List RepackCopy) → has_live g k (map (set_item f c s) items) ≡ has_live g k items
live_stays g k f c s e [] = refl
live_stays g k f c s e (i ∷ is) =
    (let one = pick (λ (y : RepackCopy). (y.file == g && y.copy == k) && is_live_item y.state) ((i.file == f && i.copy == c) && is_live_item i.state) (record i { state = s }) i ∙ stays (i.file == g && i.copy == k) (i.file == f && i.copy == c) (is_live_item i.state) (is_live_item s) e in
    (λ j. one j || live_stays g k f c s e is j))

live_ends : (g k f c : ℕ) (s : ItemState) → is_live_item s ≡ false → (items : List RepackCopy) → has_live g k (map (set_item f c s) items) ≡ (not (g == f && k == c) && has_live g k items)
live_ends g k f c s e [] = none (g == f && k == c)
  where
    none : (a : Bool) → false ≡ (not a && false)
    none true = refl
    none false = refl
live_ends g k f c s e (i ∷ is) =
    (let one = pick (λ (y : RepackCopy). (y.file == g && y.copy == k) && is_live_item y.state) ((i.file == f && i.copy == c) && is_live_item i.state) (record i { state = s }) i
    ∙ ends (i.file == g && i.copy == k) (i.file == f && i.copy == c) (g == f && k == c) (is_live_item i.state) (is_live_item s) e (λ h. (λ j. eqb-true i.file g (and_left (i.file == g) _ h) j == f && eqb-true i.copy k (and_right (i.file == g) _ h) j == c)) in
    (λ j. one j || live_ends g k f c s e is j) ∙ spread (g == f && k == c) _ (has_live g k is))

-- ---- what is kept of live items

pub indexed_same : (v w : NamedRepacks) (items : List LiveItem) (holders : List Holder) → ((q : ℕ) → kept_in w q ≡ kept_in v q) → AreIndexed v items holders → AreIndexed w items holders
indexed_same v w items holders each x = record {
  on_tape = λ t r f c. x.on_tape t r f c ∙ ap (holds_on t f c) (sym (each r));
  of_copy = λ f c r. x.of_copy f c r ∙ ap (holds_by f c) (sym (each r));
}

pub indexed_stays : (v w : NamedRepacks) (items : List LiveItem) (holders : List Holder) (id f c : ℕ) (s : ItemState) → is_live_item s ≡ true → ((q : ℕ) → kept_in w q ≡ (if id == q then option_map (set_in f c s) (kept_in v q) else kept_in v q)) → AreIndexed v items holders → AreIndexed w items holders
indexed_stays v w items holders id f c s e each x = record {
  on_tape = λ t r g k. x.on_tape t r g k ∙ sym (ap (holds_on t g k) (each r) ∙ on (id == r) t g k (kept_in v r));
  of_copy = λ g k r. x.of_copy g k r ∙ sym (ap (holds_by g k) (each r) ∙ by (id == r) g k (kept_in v r));
}
  where
    on : (b : Bool) (t g k : ℕ) (o : Option KeptRepack) → holds_on t g k (if b then option_map (set_in f c s) o else o) ≡ holds_on t g k o
    on true t g k None = refl
    on true t g k (Some r) = ap (λ d. t == r.repack.tape && d) (live_stays g k f c s e r.repack.items)
    on false t g k o = refl

    by : (b : Bool) (g k : ℕ) (o : Option KeptRepack) → holds_by g k (if b then option_map (set_in f c s) o else o) ≡ holds_by g k o
    by true g k None = refl
    by true g k (Some r) = live_stays g k f c s e r.repack.items
    by false g k o = refl

pub indexed_ends : (v w : NamedRepacks) (items items' : List LiveItem) (holders holders' : List Holder) (id tape f c : ℕ) (s : ItemState) → is_live_item s ≡ false → Some tape ≡ option_map tape_of (kept_in v id)
    → ((q : ℕ) → kept_in w q ≡ (if id == q then option_map (set_in f c s) (kept_in v q) else kept_in v q))
    → ((t r g k : ℕ) → has_item items' t r g k ≡ (not (is_item t r g k (record { tape = tape; repack = id; file = f; copy = c })) && has_item items t r g k))
    → ((g k r : ℕ) → has_holder holders' g k r ≡ (not (is_holder g k r (record { file = f; copy = c; repack = id })) && has_holder holders g k r))
    → AreIndexed v items holders → AreIndexed w items' holders'
indexed_ends v w items items' holders holders' id tape f c s e its each each_item each_holder x = record {
  on_tape = λ t r g k. each_item t r g k ∙ ap (λ d. not (is_item t r g k (record { tape = tape; repack = id; file = f; copy = c })) && d) (x.on_tape t r g k) ∙ sym (ap (holds_on t g k) (each r) ∙ on t r g k (id == r) refl (kept_in v r) refl);
  of_copy = λ g k r. each_holder g k r ∙ ap (λ d. not (is_holder g k r (record { file = f; copy = c; repack = id })) && d) (x.of_copy g k r) ∙ sym (ap (holds_by g k) (each r) ∙ by g k r (id == r) refl (kept_in v r));
}
  where
    tape_is : (r : ℕ) → (id == r) ≡ true → (k : KeptRepack) → kept_in v r ≡ Some k → k.repack.tape ≡ tape
    tape_is r h k o = (let here : Some tape ≡ Some k.repack.tape = its ∙ ap (λ (n : ℕ). option_map tape_of (kept_in v n)) (eqb-true id r h) ∙ ap (option_map tape_of) o in sym (inside tape k.repack.tape here))
      where
        inside : (m n : ℕ) → Some m ≡ Some n → m ≡ n
        inside m n g = cc

    both : (t b l : Bool) → (t && (not b && l)) ≡ (not ((t && true) && b) && (t && l))
    both true b l = refl
    both false b l = refl

    apart : (t b h : Bool) → h ≡ (not ((t && false) && b) && h)
    apart true b h = refl
    apart false b h = refl

    none : (b : Bool) → false ≡ (not b && false)
    none true = refl
    none false = refl

    on : (t r g k : ℕ) (b : Bool) → (id == r) ≡ b → (o : Option KeptRepack) → kept_in v r ≡ o → holds_on t g k (if b then option_map (set_in f c s) o else o) ≡ (not ((t == tape && r == id) && (g == f && k == c)) && holds_on t g k o)
    on t r g k true h None is = none ((t == tape && r == id) && (g == f && k == c))
    on t r g k true h (Some q) is =
        ap (λ d. t == q.repack.tape && d) (live_ends g k f c s e q.repack.items)
        ∙ both (t == q.repack.tape) (g == f && k == c) (has_live g k q.repack.items)
        ∙ (λ i. not ((t == tape_is r h q is i && (sym h ∙ flip id r) i) && (g == f && k == c)) && (t == q.repack.tape && has_live g k q.repack.items))
    on t r g k false h o is = apart (t == tape) (g == f && k == c) (holds_on t g k o) ∙ (λ i. not ((t == tape && (sym h ∙ flip id r) i) && (g == f && k == c)) && holds_on t g k o)

    with : (b l : Bool) → (not b && l) ≡ (not (b && true) && l)
    with true l = refl
    with false l = refl

    without : (b h : Bool) → h ≡ (not (b && false) && h)
    without true h = refl
    without false h = refl

    by : (g k r : ℕ) (b : Bool) → (id == r) ≡ b → (o : Option KeptRepack) → holds_by g k (if b then option_map (set_in f c s) o else o) ≡ (not ((g == f && k == c) && r == id) && holds_by g k o)
    by g k r true h None = none ((g == f && k == c) && r == id)
    by g k r true h (Some q) = live_ends g k f c s e q.repack.items ∙ with (g == f && k == c) (has_live g k q.repack.items) ∙ (λ i. not ((g == f && k == c) && (sym h ∙ flip id r) i) && has_live g k q.repack.items)
    by g k r false h o = without (g == f && k == c) (holds_by g k o) ∙ (λ i. not ((g == f && k == c) && (sym h ∙ flip id r) i) && holds_by g k o)

fresh_live : (f c tape : ℕ) (jobs : List Job) → has_live f c (fresh_repack tape jobs).items ≡ has_copy f c jobs
fresh_live f c tape [] = refl
fresh_live f c tape (j ∷ js) = (λ i. yes (j.file == f && j.copy == c) i || fresh_live f c tape js i)
  where
    yes : (b : Bool) → (b && true) ≡ b
    yes true = refl
    yes false = refl

pub indexed_added : (v w : NamedRepacks) (items items' : List LiveItem) (holders holders' : List Holder) (id tape : ℕ) (jobs : List Job) (kept : KeptRepack) → kept.repack ≡ fresh_repack tape jobs → kept_in v id ≡ None
    → ((q : ℕ) → kept_in w q ≡ (if id == q then Some kept else kept_in v q))
    → ((t r g k : ℕ) → has_item items' t r g k ≡ (((t == tape && r == id) && has_copy g k jobs) || has_item items t r g k))
    → ((g k r : ℕ) → has_holder holders' g k r ≡ ((r == id && has_copy g k jobs) || has_holder holders g k r))
    → AreIndexed v items holders → AreIndexed w items' holders'
indexed_added v w items items' holders holders' id tape jobs kept is new each each_item each_holder x = record {
  on_tape = λ t r g k. each_item t r g k ∙ ap (λ d. ((t == tape && r == id) && has_copy g k jobs) || d) (x.on_tape t r g k) ∙ sym (ap (holds_on t g k) (each r) ∙ on t r g k (id == r) refl);
  of_copy = λ g k r. each_holder g k r ∙ ap (λ d. (r == id && has_copy g k jobs) || d) (x.of_copy g k r) ∙ sym (ap (holds_by g k) (each r) ∙ by g k r (id == r) refl);
}
  where
    was : (r : ℕ) → (id == r) ≡ true → kept_in v r ≡ None
    was r h = ap (kept_in v) (sym (eqb-true id r h)) ∙ new

    fits : (t c : Bool) → (t && c) ≡ (((t && true) && c) || false)
    fits true true = refl
    fits true false = refl
    fits false c = refl

    other : (t c h : Bool) → h ≡ (((t && false) && c) || h)
    other true c h = refl
    other false c h = refl

    last : (c : Bool) → c ≡ ((true && c) || false)
    last true = refl
    last false = refl

    on : (t r g k : ℕ) (b : Bool) → (id == r) ≡ b → holds_on t g k (if b then Some kept else kept_in v r) ≡ (((t == tape && r == id) && has_copy g k jobs) || holds_on t g k (kept_in v r))
    on t r g k true h =
        (λ i. t == (is i).tape && has_live g k (is i).items) ∙ ap (λ d. t == tape && d) (fresh_live g k tape jobs) ∙ fits (t == tape) (has_copy g k jobs)
        ∙ (λ i. ((t == tape && (sym h ∙ flip id r) i) && has_copy g k jobs) || holds_on t g k (sym (was r h) i))
    on t r g k false h = other (t == tape) (has_copy g k jobs) (holds_on t g k (kept_in v r)) ∙ (λ i. ((t == tape && (sym h ∙ flip id r) i) && has_copy g k jobs) || holds_on t g k (kept_in v r))

    by : (g k r : ℕ) (b : Bool) → (id == r) ≡ b → holds_by g k (if b then Some kept else kept_in v r) ≡ ((r == id && has_copy g k jobs) || holds_by g k (kept_in v r))
    by g k r true h = (λ i. has_live g k (is i).items) ∙ fresh_live g k tape jobs ∙ last (has_copy g k jobs) ∙ (λ i. ((sym h ∙ flip id r) i && has_copy g k jobs) || holds_by g k (sym (was r h) i))
    by g k r false h = (λ i. ((sym h ∙ flip id r) i && has_copy g k jobs) || holds_by g k (kept_in v r))

-- ---- copies that are noted

pub note_more : (t j c o : Bool) → ((t && j) || ((t && c) || o)) ≡ ((t && (j || c)) || o)
note_more true true c o = refl
note_more true false c o = refl
note_more false j c o = refl

-- ---- tapes with a live repack

-- a live item of a tape
record Found (xs : List LiveItem) (t : ℕ) : Type 0 where
  repack : ℕ
  file : ℕ
  copy : ℕ
  there : has_item xs t repack file copy ≡ true

some_item : (xs : List LiveItem) (t : ℕ) → list_any (λ (x : LiveItem). x.tape == t) xs ≡ true → Found xs t
some_item [] t h = absurd (cc)
some_item (x ∷ xs) t h = by (x.tape == t) refl h (λ k. some_item xs t k)
  where
    all : (a b c d : Bool) → a ≡ true → b ≡ true → c ≡ true → d ≡ true → ((a && b) && (c && d)) ≡ true
    all true true true true e f g h = refl
    all false b c d e f g h = absurd (cc)
    all true false c d e f g h = absurd (cc)
    all true true false d e f g h = absurd (cc)
    all true true true false e f g h = absurd (cc)

    or_left : (a b : Bool) → a ≡ true → (a || b) ≡ true
    or_left true b e = refl
    or_left false b e = absurd (cc)

    or_right : (a b : Bool) → b ≡ true → (a || b) ≡ true
    or_right true b e = refl
    or_right false b e = e

    by : (b : Bool) → (x.tape == t) ≡ b → (b || list_any (λ (y : LiveItem). y.tape == t) xs) ≡ true → (list_any (λ (y : LiveItem). y.tape == t) xs ≡ true → Found xs t) → Found (x ∷ xs) t
    by true e k ih = record { repack = x.repack; file = x.file; copy = x.copy; there = or_left _ _ (all _ _ _ _ (flip t x.tape ∙ e) (eq-eqb x.repack x.repack refl) (eq-eqb x.file x.file refl) (eq-eqb x.copy x.copy refl)) }
    by false e k ih = (let w : Found xs t = ih k in record { repack = w.repack; file = w.file; copy = w.copy; there = or_right (is_item t w.repack w.file w.copy x) _ w.there })

item_on : (xs : List LiveItem) (t r f c : ℕ) → has_item xs t r f c ≡ true → list_any (λ (x : LiveItem). x.tape == t) xs ≡ true
item_on [] t r f c h = absurd (cc)
item_on (x ∷ xs) t r f c h = by (is_item t r f c x) refl h (λ k. item_on xs t r f c k)
  where
    or_left : (a b : Bool) → a ≡ true → (a || b) ≡ true
    or_left true b e = refl
    or_left false b e = absurd (cc)

    or_right : (a b : Bool) → b ≡ true → (a || b) ≡ true
    or_right true b e = refl
    or_right false b e = e

    by : (b : Bool) → is_item t r f c x ≡ b → (b || has_item xs t r f c) ≡ true → (has_item xs t r f c ≡ true → list_any (λ (y : LiveItem). y.tape == t) xs ≡ true) → ((x.tape == t) || list_any (λ (y : LiveItem). y.tape == t) xs) ≡ true
    by true e k ih = or_left _ _ (flip x.tape t ∙ and_left (t == x.tape) _ (and_left (t == x.tape && r == x.repack) _ e))
    by false e k ih = or_right _ _ (ih k)

any_live : (f c : ℕ) (items : List RepackCopy) → has_live f c items ≡ true → list_any (λ (i : RepackCopy). is_live_item i.state) items ≡ true
any_live f c [] h = absurd (cc)
any_live f c (i ∷ is) h = by (i.file == f && i.copy == c) (is_live_item i.state) h (λ k. any_live f c is k)
  where
    by : (a b : Bool) → ((a && b) || has_live f c is) ≡ true → (has_live f c is ≡ true → list_any (λ (j : RepackCopy). is_live_item j.state) is ≡ true) → (b || list_any (λ (j : RepackCopy). is_live_item j.state) is) ≡ true
    by true true k ih = refl
    by true false k ih = ih k
    by false true k ih = refl
    by false false k ih = ih k

-- a live item of a repack
record Held (items : List RepackCopy) : Type 0 where
  file : ℕ
  copy : ℕ
  there : has_live file copy items ≡ true

some_live : (items : List RepackCopy) → list_any (λ (i : RepackCopy). is_live_item i.state) items ≡ true → Held items
some_live [] h = absurd (cc)
some_live (i ∷ is) h = by (is_live_item i.state) refl h (λ k. some_live is k)
  where
    here : (a b c d : Bool) → a ≡ true → b ≡ true → c ≡ true → (((a && b) && c) || d) ≡ true
    here true true true d e f g = refl
    here false b c d e f g = absurd (cc)
    here true false c d e f g = absurd (cc)
    here true true false d e f g = absurd (cc)

    or_right : (a b : Bool) → b ≡ true → (a || b) ≡ true
    or_right true b e = refl
    or_right false b e = e

    by : (b : Bool) → is_live_item i.state ≡ b → (b || list_any (λ (j : RepackCopy). is_live_item j.state) is) ≡ true → (list_any (λ (j : RepackCopy). is_live_item j.state) is ≡ true → Held is) → Held (i ∷ is)
    by true e k ih = record { file = i.file; copy = i.copy; there = here _ _ _ _ (eq-eqb i.file i.file refl) (eq-eqb i.copy i.copy refl) e }
    by false e k ih = (let w : Held is = ih k in record { file = w.file; copy = w.copy; there = or_right ((i.file == w.file && i.copy == w.copy) && is_live_item i.state) _ w.there })

live_on : (t f c : ℕ) (o : Option KeptRepack) → holds_on t f c o ≡ true → is_live_on t (option_map repack_of o) ≡ true
live_on t f c None h = absurd (cc)
live_on t f c (Some k) h = both (k.repack.tape == t) _ (flip k.repack.tape t ∙ and_left (t == k.repack.tape) _ h) (any_live f c k.repack.items (and_right (t == k.repack.tape) _ h))
  where
    both : (a b : Bool) → a ≡ true → b ≡ true → (a && b) ≡ true
    both true b e f = f
    both false b e f = absurd (cc)

-- a live item of a kept repack on a tape
record OnTape (t : ℕ) (o : Option KeptRepack) : Type 0 where
  file : ℕ
  copy : ℕ
  there : holds_on t file copy o ≡ true

on_tape : (t : ℕ) (o : Option KeptRepack) → is_live_on t (option_map repack_of o) ≡ true → OnTape t o
on_tape t None h = absurd (cc)
on_tape t (Some k) h = (let w : Held k.repack.items = some_live k.repack.items (and_right (k.repack.tape == t) _ h) in record { file = w.file; copy = w.copy; there = both (t == k.repack.tape) _ (flip t k.repack.tape ∙ and_left (k.repack.tape == t) _ h) w.there })
  where
    both : (a b : Bool) → a ≡ true → b ≡ true → (a && b) ≡ true
    both true b e f = f
    both false b e f = absurd (cc)

present : (w : Repacks) (g : ℕ → Bool) (r : ℕ) → is_some (repack_in w r) ≡ true → g r ≡ true → list_any (λ (x : ℕ × Repack). g x.0) w ≡ true
present [] g r h k = absurd (cc)
present (x ∷ xs) g r h k = by (x.0 == r) refl h (λ m. present xs g r m k)
  where
    or_left : (a b : Bool) → a ≡ true → (a || b) ≡ true
    or_left true b e = refl
    or_left false b e = absurd (cc)

    or_right : (a b : Bool) → b ≡ true → (a || b) ≡ true
    or_right true b e = refl
    or_right false b e = e

    by : (b : Bool) → (x.0 == r) ≡ b → is_some (if b then Some x.1 else repack_in xs r) ≡ true → (is_some (repack_in xs r) ≡ true → list_any (λ (y : ℕ × Repack). g y.0) xs ≡ true) → (g x.0 || list_any (λ (y : ℕ × Repack). g y.0) xs) ≡ true
    by true e m ih = or_left _ _ (ap g (eqb-true x.0 r e) ∙ k)
    by false e m ih = or_right _ _ (ih m)

-- a number that passes a test
record Number (g : ℕ → Bool) : Type 0 where
  number : ℕ
  passes : g number ≡ true

some_number : (w : Repacks) (g : ℕ → Bool) → list_any (λ (x : ℕ × Repack). g x.0) w ≡ true → Number g
some_number [] g h = absurd (cc)
some_number (x ∷ xs) g h = by (g x.0) refl h (λ k. some_number xs g k)
  where
    by : (b : Bool) → g x.0 ≡ b → (b || list_any (λ (y : ℕ × Repack). g y.0) xs) ≡ true → (list_any (λ (y : ℕ × Repack). g y.0) xs ≡ true → Number g) → Number g
    by true e k ih = record { number = x.0; passes = e }
    by false e k ih = ih k

is_there : (t : ℕ) (o : Option Repack) → is_live_on t o ≡ true → is_some o ≡ true
is_there t None h = absurd (cc)
is_there t (Some r) h = refl

same_bool : (a b : Bool) → (a ≡ true → b ≡ true) → (b ≡ true → a ≡ true) → a ≡ b
same_bool true true f g = refl
same_bool true false f g = (let k : false ≡ true = f refl in absurd (cc))
same_bool false true f g = (let k : false ≡ true = g refl in absurd (cc))
same_bool false false f g = refl

pub live_tells : (v : NamedRepacks) (items : List LiveItem) (holders : List Holder) (t : ℕ) → AreIndexed v items holders → list_any (λ (x : LiveItem). x.tape == t) items ≡ is_live_in (repacks_of v) t
live_tells v items holders t x = same_bool _ _ forth back
  where
    test : ℕ → Bool
    test r = is_live_on t (repack_in (repacks_of v) r)

    forth : list_any (λ (y : LiveItem). y.tape == t) items ≡ true → is_live_in (repacks_of v) t ≡ true
    forth h =
        (let w : Found items t = some_item items t h in
        let live : test w.repack ≡ true = ap (is_live_on t) (repack_is v w.repack) ∙ live_on t w.file w.copy (kept_in v w.repack) (sym (x.on_tape t w.repack w.file w.copy) ∙ w.there) in
        present (repacks_of v) (λ r. is_live_on t (repack_in (repacks_of v) r)) w.repack (is_there t (repack_in (repacks_of v) w.repack) live) live)

    back : is_live_in (repacks_of v) t ≡ true → list_any (λ (y : LiveItem). y.tape == t) items ≡ true
    back h =
        (let n : Number (λ r. is_live_on t (repack_in (repacks_of v) r)) = some_number (repacks_of v) (λ r. is_live_on t (repack_in (repacks_of v) r)) h in
        let w : OnTape t (kept_in v n.number) = on_tape t (kept_in v n.number) (sym (ap (is_live_on t) (repack_is v n.number)) ∙ n.passes) in
        item_on items t n.number w.file w.copy (x.on_tape t n.number w.file w.copy ∙ w.there))

-- ---- writers

-- whether a repack has an item of the copy that is WRITING
abbrev pub writes : ℕ → ℕ → Option Repack → Bool
writes f c o = has_item_by (λ (i : RepackCopy). (i.file == f && i.copy == c) && is_writing i.state) o

abbrev has_key : ℕ → Repacks → Bool
has_key r w = list_any (λ (x : ℕ × Repack). r == x.0) w

key_is : (w : Repacks) (r : ℕ) → has_key r w ≡ is_some (repack_in w r)
key_is [] r = refl
key_is (x ∷ xs) r = (λ i. flip r x.0 i || key_is xs r i) ∙ by (x.0 == r)
  where
    by : (b : Bool) → (b || is_some (repack_in xs r)) ≡ is_some (if b then Some x.1 else repack_in xs r)
    by true = refl
    by false = refl

number_passes : (xs : Repacks) (g : ℕ → Bool) (r : ℕ) → has_number r (map (λ (x : ℕ × Repack). x.0) (filter (λ (x : ℕ × Repack). g x.0) xs)) ≡ (has_key r xs && g r)
number_passes [] g r = refl
number_passes (x ∷ xs) g r = by (g x.0) refl (r == x.0) refl (number_passes xs g r)
  where
    rest : List ℕ
    rest = map (λ (y : ℕ × Repack). y.0) (filter (λ (y : ℕ × Repack). g y.0) xs)

    at : (r == x.0) ≡ true → g r ≡ g x.0
    at e = ap g (eqb-true r x.0 e)

    by : (b : Bool) → g x.0 ≡ b → (d : Bool) → (r == x.0) ≡ d → has_number r rest ≡ (list_any (λ (y : ℕ × Repack). r == y.0) xs && g r)
        → has_number r (map (λ (y : ℕ × Repack). y.0) (if b then x ∷ filter (λ (y : ℕ × Repack). g y.0) xs else filter (λ (y : ℕ × Repack). g y.0) xs)) ≡ ((d || list_any (λ (y : ℕ × Repack). r == y.0) xs) && g r)
    by true eg true e ih = ap (λ d. d || has_number r rest) e ∙ sym (at e ∙ eg)
    by true eg false e ih = ap (λ d. d || has_number r rest) e ∙ ih
    by false eg true e ih = ih ∙ ap (λ d. list_any (λ (y : ℕ × Repack). r == y.0) xs && d) (at e ∙ eg) ∙ none (list_any (λ (y : ℕ × Repack). r == y.0) xs) ∙ sym (at e ∙ eg)
      where
        none : (d : Bool) → (d && false) ≡ false
        none true = refl
        none false = refl
    by false eg false e ih = ih

pub writer_is : (w : Repacks) (f c r : ℕ) → has_number r (writers_in w f c) ≡ writes f c (repack_in w r)
writer_is w f c r = number_passes w (λ q. writes f c (repack_in w q)) r ∙ ap (λ d. d && writes f c (repack_in w r)) (key_is w r) ∙ by (repack_in w r)
  where
    by : (o : Option Repack) → (is_some o && writes f c o) ≡ writes f c o
    by None = refl
    by (Some k) = refl

writing_lives : (f c : ℕ) (items : List RepackCopy) → has_state f c is_writing items ≡ true → has_live f c items ≡ true
writing_lives f c [] h = absurd (cc)
writing_lives f c (i ∷ is) h = by (i.file == f && i.copy == c) i.state h (λ k. writing_lives f c is k)
  where
    or_right : (a b : Bool) → b ≡ true → (a || b) ≡ true
    or_right true b e = refl
    or_right false b e = e

    by : (a : Bool) (s : ItemState) → ((a && is_writing s) || has_state f c is_writing is) ≡ true → (has_state f c is_writing is ≡ true → has_live f c is ≡ true) → ((a && is_live_item s) || has_live f c is) ≡ true
    by true item.Reading k ih = refl
    by true item.Writing k ih = refl
    by true item.Done k ih = ih k
    by true item.Failed k ih = ih k
    by true item.Gone k ih = ih k
    by false s k ih = ih k

pub writer_holds : (v : NamedRepacks) (items : List LiveItem) (holders : List Holder) (f c r : ℕ) → AreIndexed v items holders → has_number r (writers_in (repacks_of v) f c) ≡ true → has_holder holders f c r ≡ true
writer_holds v items holders f c r x h = x.of_copy f c r ∙ by (kept_in v r) (sym (writer_is (repacks_of v) f c r ∙ ap (writes f c) (repack_is v r)) ∙ h)
  where
    by : (o : Option KeptRepack) → writes f c (option_map repack_of o) ≡ true → holds_by f c o ≡ true
    by None k = absurd (cc)
    by (Some q) k = writing_lives f c q.repack.items k

-- ---- one repack

-- the live items of a kept repack, on its tape, are its copies that are live
pub items_of_row : (v : NamedRepacks) (items : List LiveItem) (holders : List Holder) (id f : ℕ) (k : KeptRepack) → AreIndexed v items holders → kept_in v id ≡ Some k → (c : ℕ) → has_item items k.repack.tape id f c ≡ has_live f c k.repack.items
items_of_row v items holders id f k x here c = x.on_tape k.repack.tape id f c ∙ ap (holds_on k.repack.tape f c) here ∙ ap (λ b. b && has_live f c k.repack.items) (eq-eqb k.repack.tape k.repack.tape refl)

pub some_of : (o : Option KeptRepack) → is_some (option_map repack_of o) ≡ is_some o
some_of None = refl
some_of (Some k) = refl

pub nothing_read : (f from : ℕ) → IsFirstFrom (λ k. has_number k (reading_copies f None)) from None
nothing_read f from n h = absurd (clash h refl)

pub indexed_at : (v w : NamedRepacks) (items items' : List LiveItem) (holders holders' : List Holder) → ((q : ℕ) → kept_in w q ≡ kept_in v q) → items' ≡ items → holders' ≡ holders → AreIndexed v items holders → AreIndexed w items' holders'
indexed_at v w items items' holders holders' each i h x = subst (λ (hs : List Holder). AreIndexed w items' hs) (sym h) (subst (λ (is : List LiveItem). AreIndexed w is holders) (sym i) (indexed_same v w items holders each x))

pub new_kept : (v : NamedRepacks) (id : ℕ) → repack_in (repacks_of v) id ≡ None → kept_in v id ≡ None
new_kept v id e = by (kept_in v id) (sym (repack_is v id) ∙ e)
  where
    by : (o : Option KeptRepack) → option_map repack_of o ≡ None → o ≡ None
    by None h = refl
    by (Some k) h = absurd (cc)
