-- What a Failed of a mount that reads leaves: the next sources of recalls, and what those find that waited for recalls which ended.
use Rattle.std.specs.Prelude.{ℕ, zero, suc, ◌%◌, List, [], ◌∷◌, ◌++◌, Option, Some, None, option_map, length, slice_get, map}
use Rattle.std.specs.List.{flat_map}
use Rattle.cta_site.specs.declared.site.Site.{Site}
use Rattle.cta_model.specs.declared.asks.Job.{Job}
use Rattle.cta_model.specs.declared.states.Charge.{Charge}
use Rattle.cta_model.specs.declared.states.Place.{Place}
use Rattle.cta_model.specs.Recalls.{Recall, recall_job}
use Rattle.cta_model.specs.Stages.{charge_text, joined_texts}
use Rattle.part_model.specs.declared.space.FileEnd.TheVariants as end
use Rattle.part_model.specs.JobBook.{Book}
use Rattle.part_model.specs.Repacks.{Target}
use Rattle.part_model.specs.Requests.{Requests, finish}
use Rattle.part_model.specs.Tapes.{Table}
use Rattle.tape_table.specs.Sources.{sources_in}
use Rattle.fault_asks.specs.declared.endings.Ending.{Ending}

-- the tape that a recall is read from, none where its file has no source
abbrev pub source_in : Table → Book → Job → Option ℕ
source_in v b j = option_map (λ (p : Place). p.tape) (slice_get (sources_in v j.file) (length (b.charges j) % length (sources_in v j.file)))

-- the error of a recall that is charged once more, where there is a recall
abbrev pub error_with : Site → Book → Charge → ℕ → Option Recall → List ℕ
error_with site b charge f None = []
error_with site b charge f (Some r) = joined_texts (map (charge_text site) (b.charges (recall_job r.birth f) ++ charge ∷ []))

-- the error of the live recall of a file that is charged once more
abbrev pub error_told : Site → Book → Charge → ℕ → List ℕ
error_told site b charge f = error_with site b charge f (b.recall f)

-- how the file of a recall that is charged once more ends for an entry that waits for it
abbrev pub ending_of : Site → Book → Charge → ℕ × ℕ → Ending
ending_of site b charge x = record { id = x.0; file = x.1; error = error_told site b charge x.1 }

-- a file of a request fails for each of these, the last first
abbrev pub failed_all : ℕ → List Ending → Requests → Requests
failed_all at [] v = v
failed_all at (x ∷ xs) v = finish x.id x.file at (end.Failed x.error) (failed_all at xs v)

-- the copies of a file from n down to 1, in a repack
abbrev pub targets_down : ℕ → ℕ → ℕ → List Target
targets_down id f zero = []
targets_down id f (suc n) = (id, f, suc n) ∷ targets_down id f n

-- the copies from 4 down to 1 of the file, in each of these
abbrev pub pair_targets : List (ℕ × ℕ) → List Target
pair_targets xs = flat_map (λ (x : ℕ × ℕ). targets_down x.0 x.1 4) xs
