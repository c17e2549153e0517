-- What the entry of a number pins.
use Rattle.std.specs.Prelude.{ℕ, ◌+◌, List, option_map, Bool, not, nat_lt, ◌&&◌, ◌||◌}
use Rattle.std.specs.List.{list_any}
use Rattle.cta_site.specs.declared.site.Site.{Site}
use Rattle.cta_model.specs.declared.asks.Ask.{Ask}
use Rattle.cta_model.specs.declared.states.RequestFile.{RequestFile}
use Rattle.cta_model.specs.History.{History, is_number, is_empty}
use Rattle.cta_model.specs.Stages.{request_of, releases, drops}
use Rattle.cta_model.specs.Repacks.{repack_of}
use Rattle.cta_model.specs.Pins.{Pin, is_above, is_completed, stage_pins, repack_pins}
use Rattle.cta_laws.specs.Stages.{waits_for_file}

-- whether one of these pins has not ended at t
abbrev pub some_lasts : ℕ → List Pin → Bool
some_lasts t ps = list_any (λ (p : Pin). is_above t p.until) ps

-- whether the request of this number pins the file at t
abbrev pub stage_pins_by : Site → History → ℕ → ℕ → ℕ → Bool
stage_pins_by site h t f id = some_lasts t (stage_pins f id (request_of site h id))

-- whether the repack of this number pins the file; its pin has no end
abbrev pub repack_pins_by : Site → History → ℕ → ℕ → Bool
repack_pins_by site h f id = not (is_empty (repack_pins f id (repack_of site h id)))

-- whether the Stage or Repack of this number pins the file at t
abbrev pub pins_by : Site → History → ℕ → ℕ → ℕ → Bool
pins_by site h t f id = stage_pins_by site h t f id || repack_pins_by site h f id

-- whether a file of a request pins this file at t: it is this file, COMPLETED and not released, and its lifetime since its finish is not over
abbrev pub keeps : ℕ → ℕ → RequestFile → Bool
keeps t f s = (is_number f s.file && (is_completed s.state && not s.released)) && is_above t (option_map (λ at. at + s.lifetime) s.finished)

-- whether a file of a request that waits for this file will pin it at t, where its recall completes at the moment `at`
abbrev pub will_keep : ℕ → ℕ → ℕ → RequestFile → Bool
will_keep at t f s = waits_for_file f s && (not s.released && nat_lt t (at + s.lifetime))

-- whether an ask takes off the pin of a request at this path: it releases the path, or drops the request
abbrev pub frees_path : Ask → ℕ → List ℕ → Bool
frees_path k id path = releases k id path || drops id k
