-- Pins: what keeps a file in the buffer.
use Rattle.std.specs.Prelude.{ℕ, ◌+◌, List, [], ◌∷◌, ◌++◌, Option, Some, None, option_map, Bool, true, false, if◌then◌else◌, ◌==◌, ◌&&◌, not, nat_lt}
use Rattle.std.specs.List.{list_any, filter_map, flat_map}
use Rattle.cta_site.specs.declared.site.Site.{Site}
use Rattle.cta_model.specs.declared.reports.FileState.{FileState}
use Rattle.cta_model.specs.declared.reports.FileState.TheVariants as file
use Rattle.cta_model.specs.declared.states.RequestFile.{RequestFile}
use Rattle.cta_model.specs.declared.states.RepackCopy.{RepackCopy}
use Rattle.cta_model.specs.History.{History, is_number}
use Rattle.cta_model.specs.Stages.{StageRequest, request_of, requests_made}
use Rattle.cta_model.specs.Repacks.{Repack, is_live_item, repack_of, repacks_made}

-- a pin of a file: the Stage or Repack that keeps it in the buffer, and the moment until which it does, none where it has no end
pub record Pin : Type 0 where
  pub owner : ℕ
  pub until : Option ℕ

-- whether a file of a request is COMPLETED
abbrev pub is_completed : FileState → Bool
is_completed file.Completed = true
is_completed _ = false

-- the pin by a request of a file that it names, where it is this file, COMPLETED and not released: until its finish and its lifetime are over
abbrev pub pin_by : ℕ → ℕ → RequestFile → Option Pin
pin_by f id s =
    if is_number f s.file && (is_completed s.state && not s.released)
    then Some (record { owner = id; until = option_map (λ at. at + s.lifetime) s.finished })
    else None

-- the pins of a file by this request
abbrev pub stage_pins : ℕ → ℕ → Option StageRequest → List Pin
stage_pins f id None = []
stage_pins f id (Some r) = filter_map (pin_by f id) r.files

-- the pin of a file by this repack, while an item of the file is live
abbrev pub repack_pins : ℕ → ℕ → Option Repack → List Pin
repack_pins f id None = []
repack_pins f id (Some r) =
    if list_any (λ (i : RepackCopy). i.file == f && is_live_item i.state) r.items then record { owner = id; until = None } ∷ [] else []

-- the pins of a file
abbrev pub pins_of : Site → History → ℕ → List Pin
pins_of site h f =
    flat_map (λ id. stage_pins f id (request_of site h id)) (requests_made h)
    ++ flat_map (λ id. repack_pins f id (repack_of site h id)) (repacks_made h)

-- whether an end is above the moment t; where there is no end, it is
abbrev pub is_above : ℕ → Option ℕ → Bool
is_above t None = true
is_above t (Some end) = nat_lt t end

-- a file is pinned at t where one of its pins has not ended then
abbrev pub is_pinned : Site → History → ℕ → ℕ → Bool
is_pinned site h t f = list_any (λ (p : Pin). is_above t p.until) (pins_of site h f)
