-- What a drive that asks for a mount sees of the parts.
use Rattle.std.specs.Prelude.{ℕ, ◌≡◌, List, []}
use Rattle.cta_site.specs.declared.site.Site.{Site}
use Rattle.part_model.specs.declared.mounts.OpenMount.{OpenMount}
use Rattle.part_model.specs.Counts.{Counts}
use Rattle.part_model.specs.JobRows.{no_rows}
use Rattle.part_model.specs.Queues.{Queues}
use Rattle.part_model.specs.Tapes.{Table}
use Rattle.part_laws.specs.AllParts.{AllParts}
use Rattle.part_laws.specs.Choices.{choice_told, room_told}

-- all parts, where those that the choice does not read are empty: the table of tapes, the open mounts, the drives that are down, the counts of
-- open mounts, the queues by pool and by tape, and a buffer of which so many bytes are free
abbrev pub seen_parts : Table → List OpenMount → List ℕ → Counts → Queues → Queues → ℕ → AllParts
seen_parts table mounts downs counts pools tapes room = record {
  space = record { names = []; tapes = table; buffer = record { size = room; files = []; aside = 0; pins = [] }; requests = []; repacks = [] };
  book = no_rows;
  pools = pools;
  recalls = tapes;
  counts = counts;
  mounts = mounts;
  downs = downs;
  failed = [];
}

-- the choice of all parts is that of what is seen of them, where the room is what is free or may be evicted
abbrev pub ChoiceIsSeen : Type 0
ChoiceIsSeen =
    (site : Site) (v : AllParts) (t d : ℕ)
    → choice_told site (seen_parts v.space.tapes v.mounts v.downs v.counts v.pools v.recalls (room_told v t)) t d ≡ choice_told site v t d
