-- Jobs that live, by what a job book tells.
use Rattle.std.specs.Prelude.{◌==◌, option_map, Bool, if◌then◌else◌}
use Rattle.cta_model.specs.declared.asks.Job.{Job}
use Rattle.cta_model.specs.History.{is_number}
use Rattle.cta_model.specs.Recalls.{Recall}
use Rattle.part_model.specs.JobBook.{Book}

-- whether a job lives: its birth is that of its file's live recall where its copy is 0, and else that of its copy's live archive job
abbrev pub lives : Job → Book → Bool
lives j b = if j.copy == 0 then is_number j.birth (option_map (λ (r : Recall). r.birth) (b.recall j.file)) else is_number j.birth (b.archive j.file j.copy)
