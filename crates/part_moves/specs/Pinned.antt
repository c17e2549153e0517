-- The pins of a file, as the books tell them.
use Rattle.std.specs.Prelude.{ℕ, List, [], ◌∷◌, Option, Some, None, option_map}
use Rattle.part_model.specs.declared.space.HeldPin.{HeldPin}
use Rattle.part_model.specs.Held.{kept_end}
use Rattle.part_model.specs.Requests.{Requests, pin_end_in}

-- the pin of a file with this end, none where there is none
abbrev pub pin_until : ℕ → ℕ → Option ℕ → List HeldPin
pin_until id f None = []
pin_until id f (Some end) = record { file = f; owner = id; until = end } ∷ []

-- the pin of a file by a request
abbrev pub request_pin : Requests → ℕ → ℕ → List HeldPin
request_pin v id f = pin_until id f (option_map kept_end (pin_end_in v id f))
