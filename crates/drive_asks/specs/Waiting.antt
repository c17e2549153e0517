-- The files of items.
use Rattle.std.specs.Prelude.{ℕ, List, map}
use Rattle.cta_model.specs.declared.asks.Item.{Item}

-- the files of items
abbrev pub files_in : List Item → List ℕ
files_in items = map (λ (i : Item). i.job.file) items
