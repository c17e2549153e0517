-- Pins of repacks that are taken off, one by one.
use Rattle.std.proofs.Common.{◌≡◌, ◌∙◌, ◌⊎◌, ℕ, inl, inr, List, [], ◌∷◌, ◌++◌, Bool, true, false, ◌||◌, not, refl, sym, ap, subst}
use Rattle.std.specs.Prelude.{Option, Some, None, option_map, if◌then◌else◌, ◌==◌, ◌&&◌, get_or, map}
use Rattle.std.specs.List.{list_any}
use Rattle.std.proofs.lemmas.Bool.{and_parts, eqb-true}
use Rattle.std.proofs.lemmas.List.Folds.{list_any-append}
use Rattle.cta_model.specs.declared.asks.Job.{Job}
use Rattle.cta_model.specs.declared.reports.ItemState.{ItemState}
use Rattle.cta_model.specs.declared.reports.ItemState.TheVariants as item
use Rattle.cta_model.specs.declared.states.RepackCopy.{RepackCopy}
use Rattle.cta_model.specs.Repacks.{Repack, is_live_item}
use Rattle.cta_laws.proofs.Tests.{bool_cases, or_cases, or_left, or_right}
use Rattle.part_model.specs.Held.{Held, HeldAgree, unpin, unpin_all}
use Rattle.part_model.specs.Repacks.{Repacks, RepacksAgree, has_item_by, is_writing, repack_in, set_item, set_state, set_states}
use Rattle.part_laws.specs.BookCalls.{writers}
use Rattle.part_laws.proofs.RepackTurns.{set_is, with_items}
use Rattle.part_laws.specs.BufferCalls.{has_pair}
use Rattle.part_laws.proofs.SameBuffers.{buffer_calls_agree}
use Rattle.part_moves.specs.Unpinned.{AreTakenOff, is_pinned_by, unpin_if}
use Rattle.part_moves.proofs.Marks.{held_chain, held_self}
use Rattle.part_moves.proofs.Writing.{book_is, ended_if, ends, is_written, writes}

-- whether an item is of the file, and live
abbrev pub is_pinning : ℕ → RepackCopy → Bool
is_pinning f i = i.file == f && is_live_item i.state

-- ---- which repacks pin a file

writing_pins : (f c : ℕ) (is : List RepackCopy) → list_any (is_written f c) is ≡ true → list_any (is_pinning f) is ≡ true
writing_pins f c [] e = absurd (cc)
writing_pins f c (i ∷ is) e =
    elim (or_cases (is_written f c i) (list_any (is_written f c) is) e) [
      | inl hit ↦ (let parts = and_parts (i.file == f && i.copy == c) _ hit in or_left (is_pinning f i) _ (both (i.file == f) (i.copy == c) i.state parts.0 parts.1))
      | inr rest ↦ or_right (is_pinning f i) _ (writing_pins f c is rest)
    ]
  where
    both : (a b : Bool) (s : ItemState) → (a && b) ≡ true → is_writing s ≡ true → (a && is_live_item s) ≡ true
    both true b item.Writing e w = refl
    both true b item.Reading e w = refl
    both true b item.Failed e w = absurd (cc)
    both true b item.Done e w = absurd (cc)
    both true b item.Gone e w = absurd (cc)
    both false b s e w = absurd (cc)

-- a repack that is WRITING a copy of the file pins it
pub writer_pins : (v : Repacks) (f c k : ℕ) → writes v f c k ≡ true → is_pinned_by v f k ≡ true
writer_pins v f c k e = by (repack_in v k) e
  where
    by : (o : Option Repack) → has_item_by (is_written f c) o ≡ true → has_item_by (is_pinning f) o ≡ true
    by None e = absurd (cc)
    by (Some r) e = writing_pins f c r.items e

pinned_less : (turn : RepackCopy → RepackCopy) (f : ℕ) (is : List RepackCopy) → ((i : RepackCopy) → is_pinning f (turn i) ≡ true → is_pinning f i ≡ true) → list_any (is_pinning f) (map turn is) ≡ true → list_any (is_pinning f) is ≡ true
pinned_less turn f [] each e = absurd (cc)
pinned_less turn f (i ∷ is) each e =
    elim (or_cases (is_pinning f (turn i)) (list_any (is_pinning f) (map turn is)) e)
    [ inl hit ↦ or_left (is_pinning f i) _ (each i hit) | inr rest ↦ or_right (is_pinning f i) _ (pinned_less turn f is each rest) ]

off : (m : Bool) → (m && false) ≡ true → (m && true) ≡ true
off true e = absurd (cc)
off false e = absurd (cc)

one_less : (z : ItemState) → is_live_item z ≡ false → (b : Bool) (g d : ℕ) (s : ItemState) (f : ℕ) → is_pinning f (ended_if z b (record { file = g; copy = d; state = s })) ≡ true → is_pinning f (record { file = g; copy = d; state = s }) ≡ true
one_less z dead false g d s f e = e
one_less z dead true g d item.Reading f e = off (g == f) (sym (ap (λ (l : Bool). g == f && l) dead) ∙ e)
one_less z dead true g d item.Writing f e = off (g == f) (sym (ap (λ (l : Bool). g == f && l) dead) ∙ e)
one_less z dead true g d item.Failed f e = e
one_less z dead true g d item.Done f e = e
one_less z dead true g d item.Gone f e = e

-- what pins a file behind the calls for copies pinned it before them
pub pins_less : (z : ItemState) → is_live_item z ≡ false → (js : List Job) (v u : Repacks) (f k : ℕ) → RepacksAgree u (set_states z (writers v js) v) → is_pinned_by u f k ≡ true → is_pinned_by v f k ≡ true
pins_less z dead js v u f k call e = by (repack_in v k) (sym (ap (has_item_by (is_pinning f)) (call k ∙ book_is z v js k)) ∙ e)
  where
    by : (o : Option Repack) → has_item_by (is_pinning f) (option_map (with_items (λ i. ended_if z (ends v js k i) i)) o) ≡ true → has_item_by (is_pinning f) o ≡ true
    by None e = absurd (cc)
    by (Some r) e = pinned_less (λ i. ended_if z (ends v js k i) i) f r.items (λ i. one_less z dead (ends v js k i) i.file i.copy i.state f) e

-- a call for an item of a repack leaves what others pin, and which other files it pins
pub other_pins : (z : ItemState) → (v u : Repacks) (n f c g k : ℕ) → RepacksAgree u (set_state n f c z v) → (f == g && n == k) ≡ false → is_pinned_by u g k ≡ is_pinned_by v g k
other_pins z v u n f c g k call apart =
    ap (has_item_by (is_pinning g)) (call k ∙ set_is n k f c z v)
    ∙ elim (bool_cases (n == k)) [
      | inl hit ↦ rw hit (by (repack_in v k) (first (f == g) (n == k) hit apart))
      | inr miss ↦ rw miss refl
    ]
  where
    first : (a b : Bool) → b ≡ true → (a && b) ≡ false → a ≡ false
    first true b e x = absurd (cc)
    first false b e x = refl

    same : (i : RepackCopy) → (f == g) ≡ false → is_pinning g (set_item f c z i) ≡ is_pinning g i
    same i other =
        elim (bool_cases (i.file == f && i.copy == c)) [
          | inl hit ↦
              (let file : i.file ≡ f = eqb-true _ _ (and_parts (i.file == f) _ hit).0 in
              let miss : (i.file == g) ≡ false = ap (λ (m : ℕ). m == g) file ∙ other in
              rw hit (set (is_live_item i.state) miss))
          | inr miss ↦ rw miss refl
        ]
      where
        set : (l : Bool) → (i.file == g) ≡ false → is_pinning g (if true && l then record i { state = z } else i) ≡ is_pinning g i
        set true e = rw e refl
        set false e = refl

    all : (is : List RepackCopy) → (f == g) ≡ false → list_any (is_pinning g) (map (set_item f c z) is) ≡ list_any (is_pinning g) is
    all [] other = refl
    all (i ∷ is) other = rw (same i other, all is other) refl

    by : (o : Option Repack) → (f == g) ≡ false → has_item_by (is_pinning g) (option_map (with_items (set_item f c z)) o) ≡ has_item_by (is_pinning g) o
    by None other = refl
    by (Some r) other = all r.items other

-- ---- pins that are taken off

unpin_same : (xs : List (ℕ × ℕ)) (a b : Held) → HeldAgree a b → HeldAgree (unpin_all xs a) (unpin_all xs b)
unpin_same [] a b same = same
unpin_same (x ∷ xs) a b same = unpin_same xs (unpin a x.0 x.1) (unpin b x.0 x.1) ((buffer_calls_agree a b same).takes x.0 x.1)

unpin_both : (xs ys : List (ℕ × ℕ)) (a : Held) → unpin_all ys (unpin_all xs a) ≡ unpin_all (xs ++ ys) a
unpin_both [] ys a = refl
unpin_both (x ∷ xs) ys a = unpin_both xs ys (unpin a x.0 x.1)

has_both : (f id : ℕ) (xs ys : List (ℕ × ℕ)) → has_pair f id (xs ++ ys) ≡ (has_pair f id xs || has_pair f id ys)
has_both f id xs ys = list_any-append (λ (x : ℕ × ℕ). x.0 == f && x.1 == id) xs ys

-- nothing is taken off where nothing changes
pub taken_none : (v : Repacks) (a : Held) → AreTakenOff v v a a
taken_none v a = record { outs = []; told = λ f id. by (is_pinned_by v f id); held = held_self a }
  where
    by : (p : Bool) → false ≡ (p && not p)
    by true = refl
    by false = refl

-- pins that are taken off, and then more
pub taken_both : (v u w : Repacks) (a b c : Held) → ((f id : ℕ) → is_pinned_by u f id ≡ true → is_pinned_by v f id ≡ true) → ((f id : ℕ) → is_pinned_by w f id ≡ true → is_pinned_by u f id ≡ true)
    → AreTakenOff v u a b → AreTakenOff u w b c → AreTakenOff v w a c
taken_both v u w a b c less more x y = record {
  outs = x.outs ++ y.outs;
  told = λ f id.
      has_both f id x.outs y.outs
      ∙ ap (λ (t : Bool). t || has_pair f id y.outs) (x.told f id)
      ∙ ap (λ (t : Bool). (is_pinned_by v f id && not (is_pinned_by u f id)) || t) (y.told f id)
      ∙ by (is_pinned_by v f id) (is_pinned_by u f id) (is_pinned_by w f id) (less f id) (more f id);
  held = subst (λ (h : Held). HeldAgree c h) (unpin_both x.outs y.outs a) (held_chain c (unpin_all y.outs b) _ y.held (unpin_same y.outs b (unpin_all x.outs a) x.held));
}
  where
    by : (p q r : Bool) → (q ≡ true → p ≡ true) → (r ≡ true → q ≡ true) → ((p && not q) || (q && not r)) ≡ (p && not r)
    by true true r less more = refl
    by true false true less more = (let bad : false ≡ true = more refl in absurd (cc))
    by true false false less more = refl
    by false true r less more = (let bad : false ≡ true = less refl in absurd (cc))
    by false false r less more = refl

-- an item of a repack that pinned the file has ended, and the pin is taken off where the repack pins the file no more
taken_one : (v u : Repacks) (n f : ℕ) (a b : Held) → is_pinned_by v f n ≡ true → ((g k : ℕ) → (f == g && n == k) ≡ false → is_pinned_by u g k ≡ is_pinned_by v g k)
    → HeldAgree b (unpin_if (not (is_pinned_by u f n)) f n a) → AreTakenOff v u a b
taken_one v u n f a b on others call =
    elim (bool_cases (is_pinned_by u f n)) [
      | inl stays ↦
          record {
            outs = [];
            told = λ g k. none g k (bool_cases (f == g && n == k)) stays;
            held = subst (λ (t : Bool). HeldAgree b (unpin_if (not t) f n a)) stays call;
          }
      | inr goes ↦
          record {
            outs = (f, n) ∷ [];
            told = λ g k. one g k (bool_cases (f == g && n == k)) goes;
            held = subst (λ (t : Bool). HeldAgree b (unpin_if (not t) f n a)) goes call;
          }
    ]
  where
    as_file : (w : Repacks) (g k : ℕ) (t : Bool) → (f == g && n == k) ≡ true → is_pinned_by w f n ≡ t → is_pinned_by w g k ≡ t
    as_file w g k t hit is =
        (let m = and_parts (f == g) _ hit in
        subst (λ (i : ℕ). is_pinned_by w g i ≡ t) (eqb-true n k m.1) (subst (λ (i : ℕ). is_pinned_by w i n ≡ t) (eqb-true f g m.0) is))

    none : (g k : ℕ) → ((f == g && n == k) ≡ true) ⊎ ((f == g && n == k) ≡ false) → is_pinned_by u f n ≡ true → false ≡ (is_pinned_by v g k && not (is_pinned_by u g k))
    none g k (inl hit) stays = rw (as_file v g k true hit on, as_file u g k true hit stays) refl
    none g k (inr miss) stays = rw (others g k miss) (no (is_pinned_by v g k))
      where
        no : (p : Bool) → false ≡ (p && not p)
        no true = refl
        no false = refl

    one : (g k : ℕ) → ((f == g && n == k) ≡ true) ⊎ ((f == g && n == k) ≡ false) → is_pinned_by u f n ≡ false → ((f == g && n == k) || false) ≡ (is_pinned_by v g k && not (is_pinned_by u g k))
    one g k (inl hit) goes = rw (hit, as_file v g k true hit on, as_file u g k false hit goes) refl
    one g k (inr miss) goes = rw (miss, others g k miss) (no (is_pinned_by v g k))
      where
        no : (p : Bool) → false ≡ (p && not p)
        no true = refl
        no false = refl

set_less : (z : ItemState) → (v u : Repacks) (n f c g k : ℕ) → RepacksAgree u (set_state n f c z v) → is_pinned_by v f n ≡ true → is_pinned_by u g k ≡ true → is_pinned_by v g k ≡ true
set_less z v u n f c g k call on e =
    elim (bool_cases (f == g && n == k)) [
      | inl hit ↦
          (let m = and_parts (f == g) _ hit in
          subst (λ (i : ℕ). is_pinned_by v g i ≡ true) (eqb-true n k m.1) (subst (λ (i : ℕ). is_pinned_by v i n ≡ true) (eqb-true f g m.0) on))
      | inr miss ↦ sym (other_pins z v u n f c g k call miss) ∙ e
    ]

-- what a walk has taken off so far, and that nothing pins more than before
pub record AreLeft (v u : Repacks) (a b : Held) : Type 0 where
  pub taken : AreTakenOff v u a b
  pub less : (f id : ℕ) → is_pinned_by u f id ≡ true → is_pinned_by v f id ≡ true

pub left_none : (v : Repacks) (a : Held) → AreLeft v v a a
left_none v a = record { taken = taken_none v a; less = λ f id e. e }

-- one repack more is passed, which was WRITING a copy of the file
pub left_steps : (z : ItemState) → (v u w : Repacks) (n f c : ℕ) (a b d : Held) → AreLeft v u a b → is_pinned_by u f n ≡ true → RepacksAgree w (set_state n f c z u)
    → HeldAgree d (unpin_if (not (is_pinned_by w f n)) f n b) → AreLeft v w a d
left_steps z v u w n f c a b d so on call held = record {
  taken = taken_both v u w a b d so.less (λ g k. set_less z u w n f c g k call on) so.taken (taken_one u w n f b d on (λ g k miss. other_pins z u w n f c g k call miss) held);
  less = λ g k e. so.less g k (set_less z u w n f c g k call on e);
}

-- one copy more is passed
left_more : (z : ItemState) → is_live_item z ≡ false → (js : List Job) (v u w : Repacks) (a b d : Held) → AreLeft v u a b → RepacksAgree w (set_states z (writers u js) u) → AreTakenOff u w b d → AreLeft v w a d
left_more z dead js v u w a b d so call taken = record {
  taken = taken_both v u w a b d so.less (λ g k. pins_less z dead js u w g k call) so.taken taken;
  less = λ g k e. so.less g k (pins_less z dead js u w g k call e);
}

-- one copy more of a loop is passed
pub left_next : (z : ItemState) → is_live_item z ≡ false → (jobs : List Job) (n : ℕ) (j : Job) (v u w : Repacks) (a b d : Held) → AreLeft v u a b → RepacksAgree w (set_states z (writers u (get_or jobs n j ∷ [])) u) → AreTakenOff u w b d → AreLeft v w a d
left_next z dead jobs n j v u w a b d so call taken = left_more z dead (get_or jobs n j ∷ []) v u w a b d so call taken
