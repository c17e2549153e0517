-- Contents that come along with an ask, and go out with an answer.
use Rattle.std.specs.Prelude.{Option, Some, None}
use Rattle.std.specs.declared.alloc.Global.{Global}
use Rattle.std.specs.declared.sync.Arc.{Arc}
use Rattle.blob.specs.declared.blobs.Blob.{Blob}
use Rattle.cta_model.specs.declared.hands.Hand.{Hand}
use Rattle.cta_model.specs.declared.hands.Hand.TheVariants as hand

-- the hand of an ask that comes with this content
abbrev pub hand_with : {M : Type 0} → Option (Arc Blob Global) → Hand M
hand_with None = hand.Nothing
hand_with (Some blob) = hand.Blob blob

-- the content that a hand has
abbrev pub content_in : {M : Type 0} → Hand M → Option (Arc Blob Global)
content_in (hand.Blob blob) = Some blob
content_in _ = None
