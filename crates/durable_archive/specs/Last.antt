-- Which content the record of the last entry has, as the buffer tells it.
use Rattle.std.specs.Prelude.{◌≡◌, ℕ, Option, None, option_map}
use Rattle.std.specs.declared.alloc.Global.{Global}
use Rattle.std.specs.declared.sync.Arc.{Arc}
use Rattle.blob.specs.declared.blobs.Blob.{Blob}
use Rattle.cta_model.specs.declared.answers.Answer.{Answer}
use Rattle.cta_model.specs.declared.answers.Answer.TheVariants as answer
use Rattle.cta_model.specs.declared.asks.Ask.{Ask}
use Rattle.cta_model.specs.declared.asks.Ask.TheVariants as ask
use Rattle.cta_model.specs.declared.asks.Fate.TheVariants as fate
use Rattle.cta_model.specs.Hands.{sum_of_blob}
use Rattle.cta_model.specs.History.{History}
use Rattle.part_laws.specs.Contents.{content_of}

-- of a Recalled: the content of its file, where it was told Done
abbrev pub RecalledHas : History → ℕ → Answer → Option (Arc Blob Global) → Type 0
RecalledHas h f (answer.Arrived fate.Done) blob = option_map sum_of_blob blob ≡ content_of h f
RecalledHas h f _ blob = blob ≡ None

-- of a Put, which is the entry of this number: the content of its file
abbrev pub LastHas : History → ℕ → Ask → Answer → Option (Arc Blob Global) → Type 0
LastHas h n (ask.Put who path sum) a blob = option_map sum_of_blob blob ≡ content_of h n
LastHas h n (ask.Recalled m job) a blob = RecalledHas h job.file a blob
LastHas h n _ a blob = blob ≡ None
