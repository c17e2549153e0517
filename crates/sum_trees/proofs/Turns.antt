-- Trees that are turned and put together.
use Rattle.std.proofs.Common.{◌≡◌, ◌∙◌, ◌<◌, ◌≤◌, ◌+◌, ◌^◌, ℕ, List, ◌∷◌, ◌++◌, length, Option, Some, None, Bool, true, false, ◌||◌, refl, sym, ap, subst, arith, append_assoc, length-append}
use Rattle.std.specs.Prelude.{◌==◌, is_some}
use Rattle.sum_trees.specs.Sums.{Sums}
use Rattle.sum_trees.specs.Nodes.{Entry, node_at, height_at, has_place, AreApart, AreSame}
use Rattle.sum_trees.specs.Trees.{IsTree, HasTree, IsRoot, HasParts, CanFork, Becomes, Forks, IsMoved, CanSettle, Settles}
use Rattle.sum_trees.specs.declared.nodes.Node.{Node}
use Rattle.sum_trees.proofs.Places.{place_append, not_left, not_right, Cut, cut_of, apart_left}
use Rattle.sum_trees.proofs.Standing.{tree_stays, Opened, opens, height_is_most}

-- ---- places of a part and of the whole

pub not_low : {T : Type 0} (j : ℕ) (low high : List (Entry T)) → has_place j (low ++ high) ≡ false → has_place j low ≡ false
not_low j low high h = not_left _ _ (sym (place_append j low high) ∙ h)

pub not_high : {T : Type 0} (j : ℕ) (low high : List (Entry T)) → has_place j (low ++ high) ≡ false → has_place j high ≡ false
not_high j low high h = not_right _ _ (sym (place_append j low high) ∙ h)

pub not_middle : {T : Type 0} (j : ℕ) (low : List (Entry T)) (e : Entry T) (high : List (Entry T)) → has_place j (low ++ e ∷ high) ≡ false → has_place j high ≡ false
not_middle j low e high h = not_right _ _ (not_high j low (e ∷ high) h)

pub still_place : {T S : Type 0} (es : List (Entry T)) (old new : List (Node T S)) (k : ℕ) → AreSame es old new → has_place k es ≡ false → is_some (node_at old k) ≡ true → is_some (node_at new k) ≡ true
still_place es old new k same out is = ap is_some (same k out) ∙ is

is_there : {A : Type 0} (o : Option A) (a : A) → o ≡ Some a → is_some o ≡ true
is_there o a e = ap is_some e

-- ---- one change after another

pub after_that : {T S : Type 0} (m : Sums T S) (old mid new : List (Node T S)) (es all : List (Entry T)) (root : ℕ)
    → AreSame es old mid → ((j : ℕ) → has_place j all ≡ false → has_place j es ≡ false) → Becomes m mid new root all → Becomes m old new root all
after_that m old mid new es all root same in_all b = record { stands = b.stands; same = λ j out. b.same j out ∙ same j (in_all j out) }

-- ---- a tree as its parts

pub height_fits : {T S : Type 0} (m : Sums T S) (ns : List (Node T S)) (k : ℕ) (x : T) (left right : ℕ) → (p : CanFork m ns k x left right) → (height_at ns left + 1 < 2 ^ 32) × (height_at ns right + 1 < 2 ^ 32)
height_fits m ns k x left right p =
    let low = p.0 in
    let high = p.1 in
    let l : height_at ns left ≤ length low = height_is_most p.2.left_tree in
    let r : height_at ns right ≤ length high = height_is_most p.2.right_tree in
    let few : length (low ++ (k, x) ∷ high) < 2 ^ 32 = p.2.few in
    (omega (arith, length-append low ((k, x) ∷ high)), omega (arith, length-append low ((k, x) ∷ high)))

pub opened_parts : {T S : Type 0} (m : Sums T S) (ns : List (Node T S)) (k : ℕ) (n : Node T S) (es : List (Entry T)) → HasTree m ns k es → node_at ns k ≡ Some n
    → (o : Opened m ns k n es) → HasParts m ns k n.item n.left n.right o.low o.high
opened_parts m ns k n es t e o = record {
  is_place = is_there _ _ e;
  left_tree = o.left_tree;
  right_tree = o.right_tree;
  apart = subst AreApart o.whole t.apart;
  few = subst (λ (l : List (Entry _)). length l < 2 ^ 32) o.whole t.few;
}

pub root_forks : {T S : Type 0} (m : Sums T S) (ns : List (Node T S)) (k : ℕ) (n : Node T S) → IsRoot m ns k → node_at ns k ≡ Some n → CanFork m ns k n.item n.left n.right
root_forks m ns k n r e = let o : Opened m ns k n r.0 = opens n r.1.stands e in (o.low, o.high, opened_parts m ns k n r.0 r.1 e o)

pub fork_moves : {T S : Type 0} (m : Sums T S) (old new : List (Node T S)) (k root : ℕ) (n : Node T S) → node_at old k ≡ Some n → Forks m old new k n.item n.left n.right root → IsMoved m old new k root
fork_moves m old new k root n e f es t =
    let o : Opened m old k n es = opens n t.stands e in
    subst (λ l. Becomes m old new root l) (sym o.whole) (f o.low o.high (opened_parts m old k n es t e o))

pub stays_moved : {T S : Type 0} (m : Sums T S) (ns : List (Node T S)) (k : ℕ) → IsMoved m ns ns k k
stays_moved m ns k es t = record { stands = t.stands; same = λ j out. refl }

pub left_root : {T S : Type 0} (m : Sums T S) (ns : List (Node T S)) (k : ℕ) (x : T) (left right : ℕ) (low high : List (Entry T)) → HasParts m ns k x left right low high → HasTree m ns left low
left_root m ns k x left right low high p = record {
  stands = p.left_tree;
  apart = apart_left low _ p.apart;
  few = (let few : length (low ++ (k, x) ∷ high) < 2 ^ 32 = p.few in omega (arith, length-append low ((k, x) ∷ high)));
}

pub right_root : {T S : Type 0} (m : Sums T S) (ns : List (Node T S)) (k : ℕ) (x : T) (left right : ℕ) (low high : List (Entry T)) → HasParts m ns k x left right low high → HasTree m ns right high
right_root m ns k x left right low high p = record {
  stands = p.right_tree;
  apart = (cut_of low (k, x) high p.apart).high_apart;
  few = (let few : length (low ++ (k, x) ∷ high) < 2 ^ 32 = p.few in omega (arith, length-append low ((k, x) ∷ high)));
}

-- ---- one of the two trees is another one now

pub left_is_other : {T S : Type 0} (m : Sums T S) (old mid : List (Node T S)) (k : ℕ) (x : T) (left right root : ℕ) (low now high : List (Entry T)) → HasParts m old k x left right low high
    → IsTree m mid root now → AreSame low old mid → AreApart (now ++ (k, x) ∷ high) → length (now ++ (k, x) ∷ high) < 2 ^ 32 → HasParts m mid k x root right now high
left_is_other m old mid k x left right root low now high p t same apart few =
    let c : Cut low (k, x) high = cut_of low (k, x) high p.apart in
    record {
      is_place = still_place low old mid k same c.not_low p.is_place;
      left_tree = t;
      right_tree = tree_stays p.right_tree (λ j h. same j (c.high_not j (right_or (k == j) _ h)));
      apart = apart;
      few = few;
    }
  where
    right_or : (a b : Bool) → b ≡ true → (a || b) ≡ true
    right_or true b e = refl
    right_or false b e = e

pub right_is_other : {T S : Type 0} (m : Sums T S) (old mid : List (Node T S)) (k : ℕ) (x : T) (left right root : ℕ) (low high now : List (Entry T)) → HasParts m old k x left right low high
    → IsTree m mid root now → AreSame high old mid → AreApart (low ++ (k, x) ∷ now) → length (low ++ (k, x) ∷ now) < 2 ^ 32 → HasParts m mid k x left root low now
right_is_other m old mid k x left right root low high now p t same apart few =
    let c : Cut low (k, x) high = cut_of low (k, x) high p.apart in
    record {
      is_place = still_place high old mid k same c.not_high p.is_place;
      left_tree = tree_stays p.left_tree (λ j h. same j (not_right _ _ (c.low_not j h)));
      right_tree = t;
      apart = apart;
      few = few;
    }

pub left_moved : {T S : Type 0} (m : Sums T S) (old mid : List (Node T S)) (k : ℕ) (x : T) (left right root : ℕ) (low high : List (Entry T)) → HasParts m old k x left right low high
    → IsMoved m old mid left root → HasParts m mid k x root right low high
left_moved m old mid k x left right root low high p moved =
    let b : Becomes m old mid root low = moved low (left_root m old k x left right low high p) in
    left_is_other m old mid k x left right root low low high p b.stands b.same p.apart p.few

pub right_moved : {T S : Type 0} (m : Sums T S) (old mid : List (Node T S)) (k : ℕ) (x : T) (left right root : ℕ) (low high : List (Entry T)) → HasParts m old k x left right low high
    → IsMoved m old mid right root → HasParts m mid k x left root low high
right_moved m old mid k x left right root low high p moved =
    let b : Becomes m old mid root high = moved high (right_root m old k x left right low high p) in
    right_is_other m old mid k x left right root low high high p b.stands b.same p.apart p.few

pub left_moved_forks : {T S : Type 0} (m : Sums T S) (old mid new : List (Node T S)) (k : ℕ) (x : T) (left right other root : ℕ)
    → IsMoved m old mid left other → Forks m mid new k x other right root → Forks m old new k x left right root
left_moved_forks m old mid new k x left right other root moved f low high p =
    let b : Becomes m old mid other low = moved low (left_root m old k x left right low high p) in
    after_that m old mid new low (low ++ (k, x) ∷ high) root b.same (λ j out. not_low j low _ out) (f low high (left_moved m old mid k x left right other low high p moved))

pub right_moved_forks : {T S : Type 0} (m : Sums T S) (old mid new : List (Node T S)) (k : ℕ) (x : T) (left right other root : ℕ)
    → IsMoved m old mid right other → Forks m mid new k x left other root → Forks m old new k x left right root
right_moved_forks m old mid new k x left right other root moved f low high p =
    let b : Becomes m old mid other high = moved high (right_root m old k x left right low high p) in
    after_that m old mid new high (low ++ (k, x) ∷ high) root b.same (λ j out. not_middle j low (k, x) high out) (f low high (right_moved m old mid k x left right other low high p moved))

-- ---- the left tree's item on top

left_whole : {T S : Type 0} (m : Sums T S) (ns : List (Node T S)) (k : ℕ) (x : T) (left : ℕ) (low high : List (Entry T)) (top : Node T S) (o : Opened m ns left top low)
    → low ++ (k, x) ∷ high ≡ o.low ++ (left, top.item) ∷ (o.high ++ (k, x) ∷ high)
left_whole m ns k x left low high top o = ap (λ l. l ++ (k, x) ∷ high) o.whole ∙ append_assoc o.low ((left, top.item) ∷ o.high) ((k, x) ∷ high)

pub left_first : {T S : Type 0} (m : Sums T S) (ns : List (Node T S)) (k : ℕ) (x : T) (left right : ℕ) (low high : List (Entry T)) (top : Node T S) → HasParts m ns k x left right low high
    → (o : Opened m ns left top low) → HasParts m ns k x top.right right o.high high
left_first m ns k x left right low high top p o =
    let w = left_whole m ns k x left low high top o in
    let apart : AreApart (o.low ++ (left, top.item) ∷ (o.high ++ (k, x) ∷ high)) = subst AreApart w p.apart in
    let few : length (o.low ++ (left, top.item) ∷ (o.high ++ (k, x) ∷ high)) < 2 ^ 32 = subst (λ (l : List (Entry _)). length l < 2 ^ 32) w p.few in
    record {
      is_place = p.is_place;
      left_tree = o.right_tree;
      right_tree = p.right_tree;
      apart = (cut_of o.low (left, top.item) _ apart).high_apart;
      few = omega (arith, length-append o.low ((left, top.item) ∷ (o.high ++ (k, x) ∷ high)));
    }

pub left_second : {T S : Type 0} (m : Sums T S) (ns mid : List (Node T S)) (k : ℕ) (x : T) (left right : ℕ) (low high : List (Entry T)) (top : Node T S) → HasParts m ns k x left right low high
    → node_at ns left ≡ Some top → (o : Opened m ns left top low) → Becomes m ns mid k (o.high ++ (k, x) ∷ high) → HasParts m mid left top.item top.left k o.low (o.high ++ (k, x) ∷ high)
left_second m ns mid k x left right low high top p e o b =
    let w = left_whole m ns k x left low high top o in
    let apart : AreApart (o.low ++ (left, top.item) ∷ (o.high ++ (k, x) ∷ high)) = subst AreApart w p.apart in
    let few : length (o.low ++ (left, top.item) ∷ (o.high ++ (k, x) ∷ high)) < 2 ^ 32 = subst (λ (l : List (Entry _)). length l < 2 ^ 32) w p.few in
    let c : Cut o.low (left, top.item) (o.high ++ (k, x) ∷ high) = cut_of o.low (left, top.item) _ apart in
    record {
      is_place = still_place _ ns mid left b.same c.not_high (is_there _ _ e);
      left_tree = tree_stays o.left_tree (λ j h. b.same j (not_right _ _ (c.low_not j h)));
      right_tree = b.stands;
      apart = apart;
      few = few;
    }

pub left_on_top : {T S : Type 0} (m : Sums T S) (old mid new : List (Node T S)) (k : ℕ) (x : T) (left right : ℕ) (top : Node T S)
    → node_at old left ≡ Some top → Forks m old mid k x top.right right k → Forks m mid new left top.item top.left k left → Forks m old new k x left right left
left_on_top m old mid new k x left right top e f1 f2 low high p =
    let o : Opened m old left top low = opens top p.left_tree e in
    let b1 : Becomes m old mid k (o.high ++ (k, x) ∷ high) = f1 o.high high (left_first m old k x left right low high top p o) in
    let b2 : Becomes m mid new left (o.low ++ (left, top.item) ∷ (o.high ++ (k, x) ∷ high)) = f2 o.low (o.high ++ (k, x) ∷ high) (left_second m old mid k x left right low high top p e o b1) in
    subst (λ l. Becomes m old new left l) (sym (left_whole m old k x left low high top o))
    (after_that m old mid new (o.high ++ (k, x) ∷ high) (o.low ++ (left, top.item) ∷ (o.high ++ (k, x) ∷ high)) left b1.same
    (λ j out. not_middle j o.low (left, top.item) (o.high ++ (k, x) ∷ high) out) b2)

-- ---- the right tree's item on top

right_whole : {T S : Type 0} (m : Sums T S) (ns : List (Node T S)) (k : ℕ) (x : T) (right : ℕ) (low high : List (Entry T)) (top : Node T S) (o : Opened m ns right top high)
    → low ++ (k, x) ∷ high ≡ (low ++ (k, x) ∷ o.low) ++ (right, top.item) ∷ o.high
right_whole m ns k x right low high top o = ap (λ l. low ++ (k, x) ∷ l) o.whole ∙ sym (append_assoc low ((k, x) ∷ o.low) ((right, top.item) ∷ o.high))

pub right_first : {T S : Type 0} (m : Sums T S) (ns : List (Node T S)) (k : ℕ) (x : T) (left right : ℕ) (low high : List (Entry T)) (top : Node T S) → HasParts m ns k x left right low high
    → (o : Opened m ns right top high) → HasParts m ns k x left top.left low o.low
right_first m ns k x left right low high top p o =
    let w = right_whole m ns k x right low high top o in
    let apart : AreApart ((low ++ (k, x) ∷ o.low) ++ (right, top.item) ∷ o.high) = subst AreApart w p.apart in
    let few : length ((low ++ (k, x) ∷ o.low) ++ (right, top.item) ∷ o.high) < 2 ^ 32 = subst (λ (l : List (Entry _)). length l < 2 ^ 32) w p.few in
    record {
      is_place = p.is_place;
      left_tree = p.left_tree;
      right_tree = o.left_tree;
      apart = apart_left (low ++ (k, x) ∷ o.low) _ apart;
      few = omega (arith, length-append (low ++ (k, x) ∷ o.low) ((right, top.item) ∷ o.high));
    }

pub right_second : {T S : Type 0} (m : Sums T S) (ns mid : List (Node T S)) (k : ℕ) (x : T) (left right : ℕ) (low high : List (Entry T)) (top : Node T S) → HasParts m ns k x left right low high
    → node_at ns right ≡ Some top → (o : Opened m ns right top high) → Becomes m ns mid k (low ++ (k, x) ∷ o.low) → HasParts m mid right top.item k top.right (low ++ (k, x) ∷ o.low) o.high
right_second m ns mid k x left right low high top p e o b =
    let w = right_whole m ns k x right low high top o in
    let apart : AreApart ((low ++ (k, x) ∷ o.low) ++ (right, top.item) ∷ o.high) = subst AreApart w p.apart in
    let few : length ((low ++ (k, x) ∷ o.low) ++ (right, top.item) ∷ o.high) < 2 ^ 32 = subst (λ (l : List (Entry _)). length l < 2 ^ 32) w p.few in
    let c : Cut (low ++ (k, x) ∷ o.low) (right, top.item) o.high = cut_of (low ++ (k, x) ∷ o.low) (right, top.item) _ apart in
    record {
      is_place = still_place _ ns mid right b.same c.not_low (is_there _ _ e);
      left_tree = b.stands;
      right_tree = tree_stays o.right_tree (λ j h. b.same j (c.high_not j (right_or (right == j) _ h)));
      apart = apart;
      few = few;
    }
  where
    right_or : (a b : Bool) → b ≡ true → (a || b) ≡ true
    right_or true b e = refl
    right_or false b e = e

pub right_on_top : {T S : Type 0} (m : Sums T S) (old mid new : List (Node T S)) (k : ℕ) (x : T) (left right : ℕ) (top : Node T S)
    → node_at old right ≡ Some top → Forks m old mid k x left top.left k → Forks m mid new right top.item k top.right right → Forks m old new k x left right right
right_on_top m old mid new k x left right top e f1 f2 low high p =
    let o : Opened m old right top high = opens top p.right_tree e in
    let b1 : Becomes m old mid k (low ++ (k, x) ∷ o.low) = f1 low o.low (right_first m old k x left right low high top p o) in
    let b2 : Becomes m mid new right ((low ++ (k, x) ∷ o.low) ++ (right, top.item) ∷ o.high) = f2 (low ++ (k, x) ∷ o.low) o.high (right_second m old mid k x left right low high top p e o b1) in
    subst (λ l. Becomes m old new right l) (sym (right_whole m old k x right low high top o))
    (after_that m old mid new (low ++ (k, x) ∷ o.low) ((low ++ (k, x) ∷ o.low) ++ (right, top.item) ∷ o.high) right b1.same
    (λ j out. not_low j (low ++ (k, x) ∷ o.low) _ out) b2)

-- ---- the same, of some trees

pub can_left_first : {T S : Type 0} (m : Sums T S) (ns : List (Node T S)) (k : ℕ) (x : T) (left right : ℕ) (top : Node T S) → node_at ns left ≡ Some top
    → CanFork m ns k x left right → CanFork m ns k x top.right right
can_left_first m ns k x left right top e p =
    let o : Opened m ns left top p.0 = opens top p.2.left_tree e in
    (o.high, p.1, left_first m ns k x left right p.0 p.1 top p.2 o)

pub can_left_second : {T S : Type 0} (m : Sums T S) (ns mid : List (Node T S)) (k : ℕ) (x : T) (left right : ℕ) (top : Node T S) → node_at ns left ≡ Some top
    → CanFork m ns k x left right → Forks m ns mid k x top.right right k → CanFork m mid left top.item top.left k
can_left_second m ns mid k x left right top e p f =
    let o : Opened m ns left top p.0 = opens top p.2.left_tree e in
    let b : Becomes m ns mid k (o.high ++ (k, x) ∷ p.1) = f o.high p.1 (left_first m ns k x left right p.0 p.1 top p.2 o) in
    (o.low, o.high ++ (k, x) ∷ p.1, left_second m ns mid k x left right p.0 p.1 top p.2 e o b)

pub can_right_first : {T S : Type 0} (m : Sums T S) (ns : List (Node T S)) (k : ℕ) (x : T) (left right : ℕ) (top : Node T S) → node_at ns right ≡ Some top
    → CanFork m ns k x left right → CanFork m ns k x left top.left
can_right_first m ns k x left right top e p =
    let o : Opened m ns right top p.1 = opens top p.2.right_tree e in
    (p.0, o.low, right_first m ns k x left right p.0 p.1 top p.2 o)

pub can_right_second : {T S : Type 0} (m : Sums T S) (ns mid : List (Node T S)) (k : ℕ) (x : T) (left right : ℕ) (top : Node T S) → node_at ns right ≡ Some top
    → CanFork m ns k x left right → Forks m ns mid k x left top.left k → CanFork m mid right top.item k top.right
can_right_second m ns mid k x left right top e p f =
    let o : Opened m ns right top p.1 = opens top p.2.right_tree e in
    let b : Becomes m ns mid k (p.0 ++ (k, x) ∷ o.low) = f p.0 o.low (right_first m ns k x left right p.0 p.1 top p.2 o) in
    (p.0 ++ (k, x) ∷ o.low, o.high, right_second m ns mid k x left right p.0 p.1 top p.2 e o b)

pub can_left_moved : {T S : Type 0} (m : Sums T S) (old mid : List (Node T S)) (k : ℕ) (x : T) (left right root : ℕ) → CanFork m old k x left right → IsMoved m old mid left root → CanFork m mid k x root right
can_left_moved m old mid k x left right root p moved = (p.0, p.1, left_moved m old mid k x left right root p.0 p.1 p.2 moved)

pub can_right_moved : {T S : Type 0} (m : Sums T S) (old mid : List (Node T S)) (k : ℕ) (x : T) (left right root : ℕ) → CanFork m old k x left right → IsMoved m old mid right root → CanFork m mid k x left root
can_right_moved m old mid k x left right root p moved = (p.0, p.1, right_moved m old mid k x left right root p.0 p.1 p.2 moved)

pub left_is_root : {T S : Type 0} (m : Sums T S) (ns : List (Node T S)) (k : ℕ) (x : T) (left right : ℕ) → CanFork m ns k x left right → IsRoot m ns left
left_is_root m ns k x left right p = (p.0, left_root m ns k x left right p.0 p.1 p.2)

pub right_is_root : {T S : Type 0} (m : Sums T S) (ns : List (Node T S)) (k : ℕ) (x : T) (left right : ℕ) → CanFork m ns k x left right → IsRoot m ns right
right_is_root m ns k x left right p = (p.1, right_root m ns k x left right p.0 p.1 p.2)

-- ---- a node that settles

abbrev node_or : {N : Type 0} → N → Option N → N
node_or other None = other
node_or other (Some n) = n

same_node : {N : Type 0} (a b : N) → Some a ≡ Some b → a ≡ b
same_node a b e = ap (node_or a) e

-- of the item that stands there
pub can_here : {T S : Type 0} (m : Sums T S) (ns : List (Node T S)) (k : ℕ) (n : Node T S) (left right : ℕ) → CanSettle m ns k left right → node_at ns k ≡ Some n → CanFork m ns k n.item left right
can_here m ns k n left right p e = subst (λ i. CanFork m ns k i.item left right) (same_node p.0 n (sym p.1 ∙ e)) p.2

pub settled : {T S : Type 0} (m : Sums T S) (old new : List (Node T S)) (k : ℕ) (n : Node T S) (left right root : ℕ) → node_at old k ≡ Some n → Forks m old new k n.item left right root → Settles m old new k left right root
settled m old new k n left right root e f i is = subst (λ i. Forks m old new k i.item left right root) (same_node n i (sym e ∙ is)) f
