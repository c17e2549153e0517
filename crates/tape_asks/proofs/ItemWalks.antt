-- The walk along a tape, copy by copy.
use Rattle.std.proofs.Common.{◌≡◌, ◌∙◌, ◌+◌, ◌-◌, ◌<◌, ◌≤◌, ◌^◌, ℕ, List, [], ◌∷◌, ◌++◌, refl, sym, ap, subst, arith}
use Rattle.std.specs.Prelude.{Option, Some, None}
use Rattle.std.proofs.lemmas.List.{append-nil, append_assoc, map-append}
use Rattle.cta_model.specs.declared.asks.Job.{Job}
use Rattle.cta_model.specs.Mounts.{job_of}
use Rattle.part_model.specs.declared.space.Placed.{Placed}
use Rattle.part_model.specs.Tapes.{Table, place_among}
use Rattle.part_laws.specs.Operators.{items_told}
use Rattle.tape_table.specs.Live.{IsNextLive, IsWalk, WalksPassAll}
use Rattle.tape_asks.specs.Items.{AreItemsOn}

-- a walk that begins with this copy, where there is one
abbrev pub IsWalkOf : List Placed → ℕ → Option Placed → List Placed → Type 0
IsWalkOf places tape None rest = rest ≡ []
IsWalkOf places tape (Some p) rest = (r : List Placed) × (rest ≡ p ∷ r) × IsWalk places tape (p.place.fseq + 1) r

-- a copy, where there is one, has its place
abbrev pub IsPlacedNext : List Placed → Option Placed → Type 0
IsPlacedNext places None = Unit {0}
IsPlacedNext places (Some p) = place_among places p.file p.copy ≡ Some p.place

-- the walk has passed the copies of these items, and this is the next
pub record IsPassed (v : Table) (tape : ℕ) (items : List Job) (next : Option Placed) : Type 0 where
  pub walk : List Placed
  pub passed : items ≡ items_told walk
  pub goes : (rest : List Placed) → IsWalkOf v.places tape next rest → IsWalk v.places tape 0 (walk ++ rest)
  pub placed : IsPlacedNext v.places next

begins_with : (places : List Placed) (tape s : ℕ) (next : Option Placed) (rest : List Placed) → IsNextLive places tape s next → IsWalkOf places tape next rest → IsWalk places tape s rest
unfolding IsWalk
begins_with places tape s None rest is w = subst (IsWalk places tape s) (sym w) is
begins_with places tape s (Some p) rest is w = subst (IsWalk places tape s) (sym w.1) (is, w.2)

next_placed : (places : List Placed) (tape s : ℕ) (next : Option Placed) → IsNextLive places tape s next → IsPlacedNext places next
next_placed places tape s None is = tt
next_placed places tape s (Some p) is = is.0.placed

pub walk_begins : (v : Table) (tape : ℕ) (items : List Job) (next : Option Placed) → items ≡ [] → IsNextLive v.places tape 0 next → IsPassed v tape items next
walk_begins v tape items next none is = record { walk = []; passed = none; goes = λ rest w. begins_with v.places tape 0 next rest is w; placed = next_placed v.places tape 0 next is }

pub walk_steps : (v : Table) (tape : ℕ) (items now : List Job) (p : Placed) (j : Job) (next : Option Placed) → IsPassed v tape items (Some p) → now ≡ items ++ j ∷ [] → j ≡ job_of 0 p.file p.copy → IsNextLive v.places tape (p.place.fseq + 1) next → IsPassed v tape now next
walk_steps v tape items now p j next was pushed item is = record {
  walk = was.walk ++ p ∷ [];
  passed = pushed ∙ ap (λ (js : List Job). js ++ j ∷ []) was.passed ∙ ap (λ (i : Job). items_told was.walk ++ i ∷ []) item ∙ sym (map-append (λ (q : Placed). job_of 0 q.file q.copy) was.walk (p ∷ []));
  goes = λ rest w. subst (IsWalk v.places tape 0) (sym (append_assoc was.walk (p ∷ []) rest)) (was.goes (p ∷ rest) (rest, refl, begins_with v.places tape (p.place.fseq + 1) next rest is w));
  placed = next_placed v.places tape (p.place.fseq + 1) next is;
}

pub walk_ends : (v : Table) (tape : ℕ) (items : List Job) → WalksPassAll → IsPassed v tape items None → AreItemsOn v tape items
walk_ends v tape items law was = record { walk = was.walk; all = law v.places tape 0 was.walk (subst (IsWalk v.places tape 0) (append-nil was.walk) (was.goes [] refl)); told = was.passed }

-- how many fSeqs are not passed
abbrev pub fseqs_from : Option Placed → ℕ
fseqs_from None = 0
fseqs_from (Some p) = 4294967296 - p.place.fseq

pub walk_shrinks : (places : List Placed) (tape : ℕ) (p : Placed) (next : Option Placed) → p.place.fseq + 1 < 2 ^ 32 → IsNextLive places tape (p.place.fseq + 1) next → fseqs_from next < fseqs_from (Some p)
walk_shrinks places tape p None low is = omega (arith, low)
walk_shrinks places tape p (Some q) low is = (let far : p.place.fseq + 1 ≤ q.place.fseq = is.0.behind in omega (arith, low, far))
