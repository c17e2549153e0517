-- Items of repacks that are GONE.
use Rattle.std.specs.Prelude.{ℕ, ◌≡◌, ◌==◌, ◌&&◌, Option, option_map, Bool, if◌then◌else◌, map, nat_le}
use Rattle.cta_model.specs.declared.reports.ItemState.TheVariants as item
use Rattle.cta_model.specs.declared.states.RepackCopy.{RepackCopy}
use Rattle.cta_model.specs.Repacks.{Repack, is_live_item}
use Rattle.part_model.specs.Repacks.{Repacks, has_item_by, is_writing, repack_in}

-- an item that is GONE where it passes the test and is live
abbrev pub gone_item : (ℕ → ℕ → Bool) → RepackCopy → RepackCopy
gone_item hit i = if hit i.file i.copy && is_live_item i.state then record i { state = item.Gone } else i

-- a repack with its items GONE that pass the test and are live
abbrev pub gone_items : (ℕ → ℕ → Bool) → Repack → Repack
gone_items hit r = record { tape = r.tape; items = map (gone_item hit) r.items }

-- the live items that pass a test of repack, file and copy are GONE, and nothing else has changed
abbrev pub AreGone : (ℕ → ℕ → ℕ → Bool) → Repacks → Repacks → Type 0
AreGone hit v w = (k : ℕ) → repack_in w k ≡ option_map (gone_items (hit k)) (repack_in v k)

-- whether there is a repack and it is WRITING this copy of the file
abbrev pub writes_copy : ℕ → ℕ → Option Repack → Bool
writes_copy f c o = has_item_by (λ (i : RepackCopy). (i.file == f && i.copy == c) && is_writing i.state) o

-- a copy from 1 to n of the file
abbrev pub is_copy_to : ℕ → ℕ → ℕ → ℕ → Bool
is_copy_to f n g c = (g == f) && (nat_le 1 c && nat_le c n)
