-- Contents that a mount writes.
use Rattle.std.specs.Prelude.{◌≡◌, List, Some}
use Rattle.std.specs.List.{AllByRecursion}
use Rattle.cta_model.specs.declared.asks.Item.{Item}
use Rattle.cta_model.specs.History.{History}
use Rattle.part_laws.specs.Contents.{content_of}

-- the file of each item is in the buffer, with the item's sum
abbrev pub AreInBuffer : History → List Item → Type 0
AreInBuffer h items = AllByRecursion (λ (i : Item). content_of h i.job.file ≡ Some i.sum) items
