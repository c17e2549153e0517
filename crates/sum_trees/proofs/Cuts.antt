-- An entry that is cut out of a tree.
use Rattle.std.proofs.Common.{◌≡◌, ◌∙◌, ◌<◌, ◌^◌, ℕ, List, [], ◌∷◌, ◌++◌, length, Some, None, Bool, true, false, ◌||◌, refl, sym, ap, subst, arith, append_assoc, append-nil, length-append}
use Rattle.std.specs.Prelude.{◌==◌, is_some}
use Rattle.sum_trees.specs.Sums.{Sums}
use Rattle.sum_trees.specs.Nodes.{Entry, node_at, has_place, AreApart, items_of}
use Rattle.sum_trees.specs.Order.{IsSorted, has_like}
use Rattle.sum_trees.specs.Trees.{IsTree, HasTree, IsRoot, HasParts, CanFork, CanSettle, Becomes, Forks, Settles}
use Rattle.sum_trees.specs.Changes.{HasBoth, CanJoin, Joined, IsCut, CutFirst, CutLike}
use Rattle.sum_trees.specs.declared.nodes.Node.{Node}
use Rattle.sum_trees.specs.declared.change.Cut as change
use Rattle.sum_trees.proofs.Places.{place_append, not_right, neither, Cut, cut_of, apart_from, apart_right}
use Rattle.sum_trees.proofs.Standing.{tree_stays, Opened, opens, is_empty, items_append}
use Rattle.sum_trees.proofs.Turns.{not_low, not_high, not_middle, still_place, after_that, opened_parts, left_root, right_root}
use Rattle.sum_trees.proofs.Orders.{IsOrder, none_low, none_high, sorted_low, sorted_high, like_is}

apart_drop : {T : Type 0} (xs : List (Entry T)) (e : Entry T) (ys : List (Entry T)) → AreApart (xs ++ e ∷ ys) → AreApart (xs ++ ys)
apart_drop [] e ys a = a.1
apart_drop (x ∷ xs) e ys a =
    (place_append x.0 xs ys ∙ neither _ _ (not_low x.0 xs (e ∷ ys) a.0) (not_middle x.0 xs e ys a.0), apart_drop xs e ys a.1)

not_both : {T : Type 0} (j : ℕ) (xs ys : List (Entry T)) → has_place j xs ≡ false → has_place j ys ≡ false → has_place j (xs ++ ys) ≡ false
not_both j xs ys e f = place_append j xs ys ∙ neither _ _ e f

-- ---- cut in the left tree

left_was : {T S : Type 0} (m : Sums T S) (old mid : List (Node T S)) (root : ℕ) (n : Node T S) (cut : change.Cut) (y : T) (low high es : List (Entry T)) (o : Opened m old root n es) → IsCut m old mid cut y low high o.low
    → es ≡ low ++ (cut.place, y) ∷ (high ++ (root, n.item) ∷ o.high)
left_was m old mid root n cut y low high es o q = o.whole ∙ ap (λ l. l ++ (root, n.item) ∷ o.high) q.was ∙ append_assoc low ((cut.place, y) ∷ high) ((root, n.item) ∷ o.high)

left_cut_parts : {T S : Type 0} (m : Sums T S) (old mid : List (Node T S)) (root : ℕ) (n : Node T S) (cut : change.Cut) (y : T) (low high es : List (Entry T)) → HasTree m old root es → node_at old root ≡ Some n
    → (o : Opened m old root n es) → IsCut m old mid cut y low high o.low → HasParts m mid root n.item cut.rest n.right (low ++ high) o.high
left_cut_parts m old mid root n cut y low high es t is o q =
    let p : HasParts m old root n.item n.left n.right o.low o.high = opened_parts m old root n es t is o in
    let c : Cut o.low (root, n.item) o.high = cut_of o.low (root, n.item) o.high p.apart in
    let was = left_was m old mid root n cut y low high es o q in
    let apart : AreApart (low ++ (cut.place, y) ∷ (high ++ (root, n.item) ∷ o.high)) = subst AreApart was t.apart in
    let few : length (low ++ (cut.place, y) ∷ (high ++ (root, n.item) ∷ o.high)) < 2 ^ 32 = subst (λ (l : List (Entry _)). length l < 2 ^ 32) was t.few in
    record {
      is_place = still_place o.low old mid root q.same c.not_low p.is_place;
      left_tree = q.stands;
      right_tree = tree_stays o.right_tree (λ j h. q.same j (c.high_not j (right_or (root == j) _ h)));
      apart = subst AreApart (sym (append_assoc low high ((root, n.item) ∷ o.high))) (apart_drop low (cut.place, y) (high ++ (root, n.item) ∷ o.high) apart);
      few = omega (arith, length-append low ((cut.place, y) ∷ (high ++ (root, n.item) ∷ o.high)), length-append high ((root, n.item) ∷ o.high), length-append (low ++ high) ((root, n.item) ∷ o.high), length-append low high);
    }
  where
    right_or : (a b : Bool) → b ≡ true → (a || b) ≡ true
    right_or true b e = refl
    right_or false b e = e

left_cut : {T S : Type 0} (m : Sums T S) (old mid new : List (Node T S)) (root : ℕ) (n : Node T S) (cut : change.Cut) (y : T) (rest : ℕ) (low high es : List (Entry T)) → HasTree m old root es → node_at old root ≡ Some n
    → (o : Opened m old root n es) → IsCut m old mid cut y low high o.low → Forks m mid new root n.item cut.rest n.right rest
    → IsCut m old new (record { place = cut.place; rest = rest }) y low (high ++ (root, n.item) ∷ o.high) es
left_cut m old mid new root n cut y rest low high es t is o q f =
    let was = left_was m old mid root n cut y low high es o q in
    let assoc = append_assoc low high ((root, n.item) ∷ o.high) in
    let apart : AreApart (low ++ (cut.place, y) ∷ (high ++ (root, n.item) ∷ o.high)) = subst AreApart was t.apart in
    let c : Cut low (cut.place, y) (high ++ (root, n.item) ∷ o.high) = cut_of low (cut.place, y) _ apart in
    let b : Becomes m mid new rest (low ++ (high ++ (root, n.item) ∷ o.high)) = subst (λ l. Becomes m mid new rest l) assoc (f (low ++ high) o.high (left_cut_parts m old mid root n cut y low high es t is o q)) in
    let rest_out : (j : ℕ) → has_place j es ≡ false → has_place j (low ++ (high ++ (root, n.item) ∷ o.high)) ≡ false =
    λ j out. not_both j low _ (not_low j low _ (subst (λ l. has_place j l ≡ false) was out)) (not_middle j low (cut.place, y) _ (subst (λ l. has_place j l ≡ false) was out)) in
    record {
      was = was;
      stands = b.stands;
      same = λ j out. b.same j (rest_out j out) ∙ q.same j (not_low j o.low _ (subst (λ l. has_place j l ≡ false) o.whole out));
      kept = (q.kept.0, b.same cut.place (not_both cut.place low _ c.not_low c.not_high) ∙ q.kept.1, q.kept.2);
    }

-- ---- cut in the right tree

right_was : {T S : Type 0} (m : Sums T S) (old mid : List (Node T S)) (root : ℕ) (n : Node T S) (cut : change.Cut) (y : T) (low high es : List (Entry T)) (o : Opened m old root n es) → IsCut m old mid cut y low high o.high
    → es ≡ (o.low ++ (root, n.item) ∷ low) ++ (cut.place, y) ∷ high
right_was m old mid root n cut y low high es o q = o.whole ∙ ap (λ l. o.low ++ (root, n.item) ∷ l) q.was ∙ sym (append_assoc o.low ((root, n.item) ∷ low) ((cut.place, y) ∷ high))

right_cut_parts : {T S : Type 0} (m : Sums T S) (old mid : List (Node T S)) (root : ℕ) (n : Node T S) (cut : change.Cut) (y : T) (low high es : List (Entry T)) → HasTree m old root es → node_at old root ≡ Some n
    → (o : Opened m old root n es) → IsCut m old mid cut y low high o.high → HasParts m mid root n.item n.left cut.rest o.low (low ++ high)
right_cut_parts m old mid root n cut y low high es t is o q =
    let p : HasParts m old root n.item n.left n.right o.low o.high = opened_parts m old root n es t is o in
    let c : Cut o.low (root, n.item) o.high = cut_of o.low (root, n.item) o.high p.apart in
    let was = right_was m old mid root n cut y low high es o q in
    let apart : AreApart ((o.low ++ (root, n.item) ∷ low) ++ (cut.place, y) ∷ high) = subst AreApart was t.apart in
    let few : length ((o.low ++ (root, n.item) ∷ low) ++ (cut.place, y) ∷ high) < 2 ^ 32 = subst (λ (l : List (Entry _)). length l < 2 ^ 32) was t.few in
    let back : length ((o.low ++ (root, n.item) ∷ low) ++ high) ≡ length (o.low ++ (root, n.item) ∷ (low ++ high)) = ap length (append_assoc o.low ((root, n.item) ∷ low) high) in
    record {
      is_place = still_place o.high old mid root q.same c.not_high p.is_place;
      left_tree = tree_stays o.left_tree (λ j h. q.same j (not_right _ _ (c.low_not j h)));
      right_tree = q.stands;
      apart = subst AreApart (append_assoc o.low ((root, n.item) ∷ low) high) (apart_drop (o.low ++ (root, n.item) ∷ low) (cut.place, y) high apart);
      few = omega (arith, length-append (o.low ++ (root, n.item) ∷ low) ((cut.place, y) ∷ high), length-append (o.low ++ (root, n.item) ∷ low) high);
    }

right_cut : {T S : Type 0} (m : Sums T S) (old mid new : List (Node T S)) (root : ℕ) (n : Node T S) (cut : change.Cut) (y : T) (rest : ℕ) (low high es : List (Entry T)) → HasTree m old root es → node_at old root ≡ Some n
    → (o : Opened m old root n es) → IsCut m old mid cut y low high o.high → Forks m mid new root n.item n.left cut.rest rest
    → IsCut m old new (record { place = cut.place; rest = rest }) y (o.low ++ (root, n.item) ∷ low) high es
right_cut m old mid new root n cut y rest low high es t is o q f =
    let was = right_was m old mid root n cut y low high es o q in
    let assoc = append_assoc o.low ((root, n.item) ∷ low) high in
    let apart : AreApart ((o.low ++ (root, n.item) ∷ low) ++ (cut.place, y) ∷ high) = subst AreApart was t.apart in
    let c : Cut (o.low ++ (root, n.item) ∷ low) (cut.place, y) high = cut_of (o.low ++ (root, n.item) ∷ low) (cut.place, y) high apart in
    let b : Becomes m mid new rest ((o.low ++ (root, n.item) ∷ low) ++ high) = subst (λ l. Becomes m mid new rest l) (sym assoc) (f o.low (low ++ high) (right_cut_parts m old mid root n cut y low high es t is o q)) in
    let rest_out : (j : ℕ) → has_place j es ≡ false → has_place j ((o.low ++ (root, n.item) ∷ low) ++ high) ≡ false =
    λ j out. not_both j (o.low ++ (root, n.item) ∷ low) high (not_low j (o.low ++ (root, n.item) ∷ low) _ (subst (λ l. has_place j l ≡ false) was out)) (not_middle j (o.low ++ (root, n.item) ∷ low) (cut.place, y) high (subst (λ l. has_place j l ≡ false) was out)) in
    record {
      was = was;
      stands = b.stands;
      same = λ j out. b.same j (rest_out j out) ∙ q.same j (not_middle j o.low (root, n.item) o.high (subst (λ l. has_place j l ≡ false) o.whole out));
      kept = (q.kept.0, b.same cut.place (not_both cut.place (o.low ++ (root, n.item) ∷ low) high c.not_low c.not_high) ∙ q.kept.1, q.kept.2);
    }

-- ---- cut at the root

root_both : {T S : Type 0} (m : Sums T S) (ns : List (Node T S)) (root : ℕ) (n : Node T S) (es : List (Entry T)) → HasTree m ns root es → (o : Opened m ns root n es) → HasBoth m ns n.left n.right o.low o.high
root_both m ns root n es t o =
    let few : length (o.low ++ (root, n.item) ∷ o.high) < 2 ^ 32 = subst (λ (l : List (Entry _)). length l < 2 ^ 32) o.whole t.few in
    record {
      left_tree = o.left_tree;
      right_tree = o.right_tree;
      apart = apart_drop o.low (root, n.item) o.high (subst AreApart o.whole t.apart);
      few = omega (arith, length-append o.low ((root, n.item) ∷ o.high), length-append o.low o.high);
    }

root_cut : {T S : Type 0} (m : Sums T S) (old new : List (Node T S)) (root : ℕ) (n : Node T S) (rest : ℕ) (es : List (Entry T)) → HasTree m old root es → node_at old root ≡ Some n
    → (o : Opened m old root n es) → Joined m old new n.left n.right rest → IsCut m old new (record { place = root; rest = rest }) n.item o.low o.high es
root_cut m old new root n rest es t is o f =
    let b : Becomes m old new rest (o.low ++ o.high) = f o.low o.high (root_both m old root n es t o) in
    let c : Cut o.low (root, n.item) o.high = cut_of o.low (root, n.item) o.high (subst AreApart o.whole t.apart) in
    record {
      was = o.whole;
      stands = b.stands;
      same = λ j out. b.same j (not_both j o.low o.high (not_low j o.low _ (subst (λ l. has_place j l ≡ false) o.whole out)) (not_middle j o.low (root, n.item) o.high (subst (λ l. has_place j l ≡ false) o.whole out)));
      kept = (n, b.same root (not_both root o.low o.high c.not_low c.not_high) ∙ is, refl);
    }

-- ---- the first

pub can_cut_left : {T S : Type 0} (m : Sums T S) (ns : List (Node T S)) (root : ℕ) (n : Node T S) → node_at ns root ≡ Some n → IsRoot m ns root → IsRoot m ns n.left
can_cut_left m ns root n is r =
    let o : Opened m ns root n r.0 = opens n r.1.stands is in
    (o.low, left_root m ns root n.item n.left n.right o.low o.high (opened_parts m ns root n r.0 r.1 is o))

pub can_cut_right : {T S : Type 0} (m : Sums T S) (ns : List (Node T S)) (root : ℕ) (n : Node T S) → node_at ns root ≡ Some n → IsRoot m ns root → IsRoot m ns n.right
can_cut_right m ns root n is r =
    let o : Opened m ns root n r.0 = opens n r.1.stands is in
    (o.high, right_root m ns root n.item n.left n.right o.low o.high (opened_parts m ns root n r.0 r.1 is o))

pub none_first : {T S : Type 0} (m : Sums T S) (ns : List (Node T S)) (root : ℕ) → node_at ns root ≡ None → CutFirst m ns ns root None
none_first m ns root is = (refl, λ es t. is_empty t is)

pub root_first : {T S : Type 0} (m : Sums T S) (old mid : List (Node T S)) (root : ℕ) (n : Node T S) → node_at old root ≡ Some n → CutFirst m old mid n.left None → CutFirst m old mid root (Some (record { place = root; rest = n.right }))
root_first {T = T} m old mid root n is f es t =
    let o : Opened m old root n es = opens n t.stands is in
    let empty : o.low ≡ [] = f.1 o.low o.left_tree in
    let same : (j : ℕ) → node_at mid j ≡ node_at old j = λ j. ap (λ l. node_at l j) f.0 in (
      n.item,
      o.high,
      record {
        was = o.whole ∙ ap (λ (l : List (Entry T)). l ++ (root, n.item) ∷ o.high) empty;
        stands = tree_stays o.right_tree (λ j h. same j);
        same = λ j out. same j;
        kept = (n, same root ∙ is, refl);
      },
    )

pub can_fork_first : {T S : Type 0} (m : Sums T S) (old mid : List (Node T S)) (root : ℕ) (n : Node T S) (cut : change.Cut) → node_at old root ≡ Some n → IsRoot m old root → CutFirst m old mid n.left (Some cut) → CanFork m mid root n.item cut.rest n.right
can_fork_first m old mid root n cut is r f =
    let o : Opened m old root n r.0 = opens n r.1.stands is in
    let q = f o.low (left_root m old root n.item n.left n.right o.low o.high (opened_parts m old root n r.0 r.1 is o)) in
    (q.1, o.high, left_cut_parts m old mid root n cut q.0 [] q.1 r.0 r.1 is o q.2)

pub first_held : {T S : Type 0} (m : Sums T S) (old mid : List (Node T S)) (root : ℕ) (n : Node T S) (cut : change.Cut) → node_at old root ≡ Some n → IsRoot m old root → CutFirst m old mid n.left (Some cut) → node_at mid root ≡ Some n
first_held m old mid root n cut is r f =
    let o : Opened m old root n r.0 = opens n r.1.stands is in
    let p : HasParts m old root n.item n.left n.right o.low o.high = opened_parts m old root n r.0 r.1 is o in
    let c : Cut o.low (root, n.item) o.high = cut_of o.low (root, n.item) o.high p.apart in
    let q = f o.low (left_root m old root n.item n.left n.right o.low o.high p) in
    q.2.same root c.not_low ∙ is

pub left_first_cut : {T S : Type 0} (m : Sums T S) (old mid new : List (Node T S)) (root : ℕ) (n : Node T S) (cut : change.Cut) (rest : ℕ) → node_at old root ≡ Some n → CutFirst m old mid n.left (Some cut) → Forks m mid new root n.item cut.rest n.right rest
    → CutFirst m old new root (Some (record { place = cut.place; rest = rest }))
left_first_cut m old mid new root n cut rest is f forks es t =
    let o : Opened m old root n es = opens n t.stands is in
    let q = f o.low (left_root m old root n.item n.left n.right o.low o.high (opened_parts m old root n es t is o)) in
    (q.0, q.1 ++ (root, n.item) ∷ o.high, left_cut m old mid new root n cut q.0 rest [] q.1 es t is o q.2 forks)

-- ---- two trees as one

pub join_root : {T S : Type 0} (m : Sums T S) (ns : List (Node T S)) (left right : ℕ) → CanJoin m ns left right → IsRoot m ns right
join_root m ns left right p =
    let few : length (p.0 ++ p.1) < 2 ^ 32 = p.2.few in
    (p.1, record { stands = p.2.right_tree; apart = apart_right p.0 p.1 p.2.apart; few = omega (arith, length-append p.0 p.1) })

both_high : {T S : Type 0} (m : Sums T S) (ns : List (Node T S)) (left right : ℕ) (low high : List (Entry T)) → HasBoth m ns left right low high → HasTree m ns right high
both_high m ns left right low high p =
    let few : length (low ++ high) < 2 ^ 32 = p.few in
    record { stands = p.right_tree; apart = apart_right low high p.apart; few = omega (arith, length-append low high) }

join_parts : {T S : Type 0} (m : Sums T S) (old mid : List (Node T S)) (left right : ℕ) (cut : change.Cut) (y : T) (low high rest : List (Entry T)) → HasBoth m old left right low high → IsCut m old mid cut y [] rest high
    → HasParts m mid cut.place y left cut.rest low rest
join_parts m old mid left right cut y low high rest p q = record {
  is_place = ap is_some q.kept.1;
  left_tree = tree_stays p.left_tree (λ j h. q.same j (apart_from low high p.apart j h));
  right_tree = q.stands;
  apart = subst (λ l. AreApart (low ++ l)) q.was p.apart;
  few = subst (λ (l : List (Entry _)). length (low ++ l) < 2 ^ 32) q.was p.few;
}

pub join_settles : {T S : Type 0} (m : Sums T S) (old mid : List (Node T S)) (left right : ℕ) (cut : change.Cut) → CanJoin m old left right → CutFirst m old mid right (Some cut) → CanSettle m mid cut.place left cut.rest
join_settles m old mid left right cut p f =
    let q = f p.1 (both_high m old left right p.0 p.1 p.2) in
    (q.2.kept.0, q.2.kept.1, subst (λ x. CanFork m mid cut.place x left cut.rest) (sym q.2.kept.2) (p.0, q.1, join_parts m old mid left right cut q.0 p.0 p.1 q.1 p.2 q.2))

pub joined_none : {T S : Type 0} (m : Sums T S) (old mid : List (Node T S)) (left right : ℕ) → CutFirst m old mid right None → Joined m old mid left right left
joined_none {T = T} m old mid left right f low high p =
    let empty : high ≡ [] = f.1 high p.right_tree in
    let same : (j : ℕ) → node_at mid j ≡ node_at old j = λ j. ap (λ l. node_at l j) f.0 in
    let whole : low ≡ low ++ high = sym (append-nil low) ∙ ap (λ (l : List (Entry T)). low ++ l) (sym empty) in
    record { stands = subst (λ l. IsTree m mid left l) whole (tree_stays p.left_tree (λ j h. same j)); same = λ j out. same j }

pub joined_some : {T S : Type 0} (m : Sums T S) (old mid new : List (Node T S)) (left right root : ℕ) (cut : change.Cut) → CutFirst m old mid right (Some cut) → Settles m mid new cut.place left cut.rest root → Joined m old new left right root
joined_some {T = T} m old mid new left right root cut f settles low high p =
    let q = f high (both_high m old left right low high p) in
    let forks : Forks m mid new cut.place q.0 left cut.rest root = subst (λ x. Forks m mid new cut.place x left cut.rest root) q.2.kept.2 (settles q.2.kept.0 q.2.kept.1) in
    let b : Becomes m mid new root (low ++ (cut.place, q.0) ∷ q.1) = forks low q.1 (join_parts m old mid left right cut q.0 low high q.1 p q.2) in
    after_that m old mid new high (low ++ high) root q.2.same (λ j out. not_high j low high out)
    (subst (λ (l : List (Entry T)). Becomes m mid new root (low ++ l)) (sym q.2.was) b)

-- ---- the one that is like another

pub none_like : {T S : Type 0} (m : Sums T S) (b : T → T → Bool) (x : T) (ns : List (Node T S)) (root : ℕ) → node_at ns root ≡ None → CutLike m b x ns ns root None
none_like {T = T} m b x ns root is = (refl, λ es t s. ap (λ (l : List (Entry T)). has_like b x (items_of l)) (is_empty t is))

pub sorted_parts : {T S : Type 0} (m : Sums T S) (b : T → T → Bool) (ns : List (Node T S)) (root : ℕ) (n : Node T S) (es : List (Entry T)) → (o : Opened m ns root n es) → IsSorted b (items_of es) → IsSorted b (items_of o.low ++ n.item ∷ items_of o.high)
sorted_parts m b ns root n es o s = subst (IsSorted b) (items_append o.low ((root, n.item) ∷ o.high)) (subst (λ l. IsSorted b (items_of l)) o.whole s)

pub whole_items : {T S : Type 0} (m : Sums T S) (ns : List (Node T S)) (root : ℕ) (n : Node T S) (es : List (Entry T)) → (o : Opened m ns root n es) → items_of es ≡ items_of o.low ++ n.item ∷ items_of o.high
whole_items m ns root n es o = ap items_of o.whole ∙ items_append o.low ((root, n.item) ∷ o.high)

pub none_like_left : {T S : Type 0} (m : Sums T S) {b : T → T → Bool} → IsOrder b → (x : T) (old mid : List (Node T S)) (root : ℕ) (n : Node T S) → node_at old root ≡ Some n → b x n.item ≡ true
    → CutLike m b x old mid n.left None → CutLike m b x old mid root None
none_like_left {T = T} m {b = b} order x old mid root n is before f = (
  f.0,
  λ es t s.
      let o : Opened m old root n es = opens n t is in
      let sorted = sorted_parts m b old root n es o s in
      ap (has_like b x) (whole_items m old root n es o) ∙ none_low order x (items_of o.low) n.item (items_of o.high) before (f.1 o.low o.left_tree (sorted_low b (items_of o.low) _ sorted)) sorted,
)

pub none_like_right : {T S : Type 0} (m : Sums T S) {b : T → T → Bool} → IsOrder b → (x : T) (old mid : List (Node T S)) (root : ℕ) (n : Node T S) → node_at old root ≡ Some n → b n.item x ≡ true
    → CutLike m b x old mid n.right None → CutLike m b x old mid root None
none_like_right {T = T} m {b = b} order x old mid root n is behind f = (
  f.0,
  λ es t s.
      let o : Opened m old root n es = opens n t is in
      let sorted = sorted_parts m b old root n es o s in
      ap (has_like b x) (whole_items m old root n es o) ∙ none_high order x (items_of o.low) n.item (items_of o.high) behind (f.1 o.high o.right_tree (sorted_high b (items_of o.low) (n.item ∷ items_of o.high) sorted).1) sorted,
)

pub can_fork_left_cut : {T S : Type 0} (m : Sums T S) (b : T → T → Bool) (x : T) (old mid : List (Node T S)) (root : ℕ) (n : Node T S) (cut : change.Cut) → node_at old root ≡ Some n → IsRoot m old root
    → CutLike m b x old mid n.left (Some cut) → CanFork m mid root n.item cut.rest n.right
can_fork_left_cut m b x old mid root n cut is r f =
    let o : Opened m old root n r.0 = opens n r.1.stands is in
    let q = f o.low (left_root m old root n.item n.left n.right o.low o.high (opened_parts m old root n r.0 r.1 is o)) in
    (q.1 ++ q.2, o.high, left_cut_parts m old mid root n cut q.0 q.1 q.2 r.0 r.1 is o q.3)

pub can_fork_right_cut : {T S : Type 0} (m : Sums T S) (b : T → T → Bool) (x : T) (old mid : List (Node T S)) (root : ℕ) (n : Node T S) (cut : change.Cut) → node_at old root ≡ Some n → IsRoot m old root
    → CutLike m b x old mid n.right (Some cut) → CanFork m mid root n.item n.left cut.rest
can_fork_right_cut m b x old mid root n cut is r f =
    let o : Opened m old root n r.0 = opens n r.1.stands is in
    let q = f o.high (right_root m old root n.item n.left n.right o.low o.high (opened_parts m old root n r.0 r.1 is o)) in
    (o.low, q.1 ++ q.2, right_cut_parts m old mid root n cut q.0 q.1 q.2 r.0 r.1 is o q.3)

pub left_held_cut : {T S : Type 0} (m : Sums T S) (b : T → T → Bool) (x : T) (old mid : List (Node T S)) (root : ℕ) (n : Node T S) (cut : change.Cut) → node_at old root ≡ Some n → IsRoot m old root
    → CutLike m b x old mid n.left (Some cut) → node_at mid root ≡ Some n
left_held_cut m b x old mid root n cut is r f =
    let o : Opened m old root n r.0 = opens n r.1.stands is in
    let p : HasParts m old root n.item n.left n.right o.low o.high = opened_parts m old root n r.0 r.1 is o in
    let c : Cut o.low (root, n.item) o.high = cut_of o.low (root, n.item) o.high p.apart in
    let q = f o.low (left_root m old root n.item n.left n.right o.low o.high p) in
    q.3.same root c.not_low ∙ is

pub right_held_cut : {T S : Type 0} (m : Sums T S) (b : T → T → Bool) (x : T) (old mid : List (Node T S)) (root : ℕ) (n : Node T S) (cut : change.Cut) → node_at old root ≡ Some n → IsRoot m old root
    → CutLike m b x old mid n.right (Some cut) → node_at mid root ≡ Some n
right_held_cut m b x old mid root n cut is r f =
    let o : Opened m old root n r.0 = opens n r.1.stands is in
    let p : HasParts m old root n.item n.left n.right o.low o.high = opened_parts m old root n r.0 r.1 is o in
    let c : Cut o.low (root, n.item) o.high = cut_of o.low (root, n.item) o.high p.apart in
    let q = f o.high (right_root m old root n.item n.left n.right o.low o.high p) in
    q.3.same root c.not_high ∙ is

pub left_like_cut : {T S : Type 0} (m : Sums T S) (b : T → T → Bool) (x : T) (old mid new : List (Node T S)) (root : ℕ) (n : Node T S) (cut : change.Cut) (rest : ℕ) → node_at old root ≡ Some n
    → CutLike m b x old mid n.left (Some cut) → Forks m mid new root n.item cut.rest n.right rest → CutLike m b x old new root (Some (record { place = cut.place; rest = rest }))
left_like_cut m b x old mid new root n cut rest is f forks es t =
    let o : Opened m old root n es = opens n t.stands is in
    let q = f o.low (left_root m old root n.item n.left n.right o.low o.high (opened_parts m old root n es t is o)) in
    (q.0, q.1, q.2 ++ (root, n.item) ∷ o.high, left_cut m old mid new root n cut q.0 rest q.1 q.2 es t is o q.3 forks, q.4)

pub right_like_cut : {T S : Type 0} (m : Sums T S) (b : T → T → Bool) (x : T) (old mid new : List (Node T S)) (root : ℕ) (n : Node T S) (cut : change.Cut) (rest : ℕ) → node_at old root ≡ Some n
    → CutLike m b x old mid n.right (Some cut) → Forks m mid new root n.item n.left cut.rest rest → CutLike m b x old new root (Some (record { place = cut.place; rest = rest }))
right_like_cut m b x old mid new root n cut rest is f forks es t =
    let o : Opened m old root n es = opens n t.stands is in
    let q = f o.high (right_root m old root n.item n.left n.right o.low o.high (opened_parts m old root n es t is o)) in
    (q.0, o.low ++ (root, n.item) ∷ q.1, q.2, right_cut m old mid new root n cut q.0 rest q.1 q.2 es t is o q.3 forks, q.4)

pub can_join_root : {T S : Type 0} (m : Sums T S) (ns : List (Node T S)) (root : ℕ) (n : Node T S) → node_at ns root ≡ Some n → IsRoot m ns root → CanJoin m ns n.left n.right
can_join_root m ns root n is r = let o : Opened m ns root n r.0 = opens n r.1.stands is in (o.low, o.high, root_both m ns root n r.0 r.1 o)

pub root_like_cut : {T S : Type 0} (m : Sums T S) (b : T → T → Bool) (x : T) (old new : List (Node T S)) (root : ℕ) (n : Node T S) (rest : ℕ) → node_at old root ≡ Some n → b x n.item ≡ false → b n.item x ≡ false
    → Joined m old new n.left n.right rest → CutLike m b x old new root (Some (record { place = root; rest = rest }))
root_like_cut m b x old new root n rest is before behind f es t =
    let o : Opened m old root n es = opens n t.stands is in
    (n.item, o.low, o.high, root_cut m old new root n rest es t is o f, like_is (b x n.item) (b n.item x) before behind)
