-- What is told of a kept repack.
use Rattle.std.specs.Prelude.{ℕ, List, [], ◌∷◌, Option, option_map}
use Rattle.cta_site.specs.Listed.{rows}
use Rattle.cta_model.specs.declared.reports.RepackInfo.{RepackInfo}
use Rattle.cta_model.specs.declared.reports.RepackItem.{RepackItem}
use Rattle.cta_model.specs.declared.states.RepackCopy.{RepackCopy}
use Rattle.cta_model.specs.Bare.{bare_rows}
use Rattle.repack_book.specs.NamedRepacks.{NamedRepacks, KeptRepack, kept_in}

-- what is told of an item whose file has this path
abbrev pub item_told : RepackCopy → List ℕ → RepackItem
item_told i path = record { path = path; copy = i.copy; state = i.state }

-- what is told of items whose files have these paths, in their order
abbrev pub items_told : List RepackCopy → List (List ℕ) → List RepackItem
items_told [] paths = []
items_told (i ∷ is) [] = []
items_told (i ∷ is) (p ∷ ps) = item_told i p ∷ items_told is ps

-- what is told of a kept repack
abbrev pub repack_told : ℕ → KeptRepack → RepackInfo
repack_told id k = record { id = id; vid = k.vid; items = rows (items_told k.repack.items k.paths) }

-- what is told of the repack of a number, none where there is no such repack
abbrev pub info_in : NamedRepacks → ℕ → Option RepackInfo
info_in v id = option_map (repack_told id) (kept_in v id)

-- a report with no room to spare in its list
abbrev pub bare_info : RepackInfo → RepackInfo
bare_info r = record r { items = bare_rows r.items }
