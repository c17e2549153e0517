-- The repacks that are kept, each with its tape's VID and the paths of its items' files.
use Rattle.std.specs.Prelude.{ℕ, ◌≡◌, List, Option, option_map, ◌==◌, map}
use Rattle.std.specs.Map.{lookup}
use Rattle.cta_model.specs.declared.asks.Job.{Job}
use Rattle.cta_model.specs.declared.reports.ItemState.{ItemState}
use Rattle.cta_model.specs.declared.reports.ItemState.TheVariants as item
use Rattle.cta_model.specs.Repacks.{Repack}
use Rattle.part_model.specs.Repacks.{Repacks, set_item}

-- a repack, the VID of its tape, and the path of each item's file, in the order of the items
pub record KeptRepack : Type 0 where
  pub repack : Repack
  pub vid : List ℕ
  pub paths : List (List ℕ)

-- the kept repacks, by number
abbrev pub NamedRepacks : Type 0
NamedRepacks = List (ℕ × KeptRepack)

-- the kept repack of a number
abbrev pub kept_in : NamedRepacks → ℕ → Option KeptRepack
kept_in v id = lookup (λ k. id == k) v

-- the repacks by number, without the names
abbrev pub repacks_of : NamedRepacks → Repacks
repacks_of v = map (λ (x : ℕ × KeptRepack). (x.0, x.1.repack)) v

-- the VID of a repack's tape and the paths of its items' files
pub record RepackNames : Type 0 where
  pub vid : List ℕ
  pub paths : List (List ℕ)

-- the names of a kept repack
abbrev pub names_of : KeptRepack → RepackNames
names_of k = record { vid = k.vid; paths = k.paths }

-- the names of the repack of a number, none where there is no such repack
abbrev pub names_in : NamedRepacks → ℕ → Option RepackNames
names_in v id = option_map names_of (kept_in v id)

-- both tell the same names of each number
abbrev pub NamesAgree : NamedRepacks → NamedRepacks → Type 0
NamesAgree v w = (id : ℕ) → names_in v id ≡ names_in w id

-- the tape of a kept repack
abbrev pub tape_of : KeptRepack → ℕ
tape_of k = k.repack.tape

-- a repack of a tape with these copies as its items, all READING
abbrev pub fresh_repack : ℕ → List Job → Repack
fresh_repack tape jobs = record { tape = tape; items = map (λ (j : Job). record { file = j.file; copy = j.copy; state = item.Reading }) jobs }

-- a kept repack with an item that takes this state where it is live
abbrev pub set_in : ℕ → ℕ → ItemState → KeptRepack → KeptRepack
set_in f c s k = record { repack = record { tape = k.repack.tape; items = map (set_item f c s) k.repack.items }; vid = k.vid; paths = k.paths }
