-- The files that a request wants, as the parts tell them.
use Rattle.std.specs.Prelude.{ℕ, ◌≡◌, List, [], ◌∷◌, Option, Some, None, is_none, is_some, option_map, Bool, false, ◌||◌, ◌&&◌, not, slice_get, unwrap_or}
use Rattle.cta_site.specs.declared.site.Site.{Site}
use Rattle.cta_model.specs.declared.asks.Direction.TheVariants as direction
use Rattle.cta_model.specs.declared.asks.Job.{Job}
use Rattle.cta_model.specs.declared.asks.Wanted.{Wanted}
use Rattle.cta_model.specs.declared.states.Place.{Place}
use Rattle.cta_model.specs.declared.states.StageFile.{StageFile}
use Rattle.cta_model.specs.History.{History, has_number}
use Rattle.cta_model.specs.Recalls.{Recall, recall_job}
use Rattle.part_model.specs.Held.{Held, is_held}
use Rattle.part_model.specs.JobBook.{Book}
use Rattle.part_model.specs.Names.{Names, file_in}
use Rattle.part_model.specs.Queues.{Lines, add_at}
use Rattle.part_model.specs.Tapes.{Table}
use Rattle.part_laws.specs.Lines.{line_of}
use Rattle.tape_table.specs.Sources.{sources_in}

-- a wanted file as a request is made of it, where this is the lifetime of those that say none
abbrev pub asked_in : Names → ℕ → Wanted → StageFile
asked_in names lifetime w = record { path = w.path; file = file_in names w.path; lifetime = unwrap_or w.lifetime lifetime }

-- no number is listed twice
abbrev pub AreOnce : List ℕ → Type 0
AreOnce [] = Unit {0}
AreOnce (f ∷ fs) = (has_number f fs ≡ false) × AreOnce fs

-- ---- how a file stands

-- whether a file may be read from a tape
abbrev pub has_source : Table → ℕ → Bool
has_source v f = is_some (slice_get (sources_in v f) 0)

-- whether a Claim has named the recall of a file, where there is a recall
abbrev pub named_with : (Job → Bool) → ℕ → Option Recall → Bool
named_with named f None = false
named_with named f (Some r) = named (recall_job r.birth f)

-- whether a Claim has named the live recall of a file
abbrev pub claimed_by : Book → ℕ → Bool
claimed_by b f = named_with b.named f (b.recall f)

-- whether a file is in no buffer and on no tape
abbrev pub lost_by : Held → Table → ℕ → Bool
lost_by held v f = not (is_held held f) && not (has_source v f)

-- whether a file is STARTED at once
abbrev pub starts_by : Held → Table → Book → ℕ → Bool
starts_by held v b f = is_held held f || (has_source v f && claimed_by b f)

-- whether a recall of a file is born
abbrev pub bears_by : Held → Table → Book → ℕ → Bool
bears_by held v b f = is_none (b.recall f) && (not (is_held held f) && has_source v f)

-- ---- queues

-- the tape that a new recall of a file is read from
abbrev pub source_in : Table → ℕ → Option ℕ
source_in v f = option_map (λ (p : Place). p.tape) (slice_get (sources_in v f) 0)

-- a new recall of each of these files, born by the entry of this number, is added under its tape
abbrev pub add_recalls : Site → History → Table → ℕ → List ℕ → Lines → Lines
add_recalls site h v n [] lines = lines
add_recalls site h v n (f ∷ fs) lines = add_at (source_in v f) (line_of site h direction.Retrieve (recall_job n f)) (add_recalls site h v n fs lines)
