-- The recalls that a TapeState moves and ends.
use Rattle.std.specs.Prelude.{ℕ, suc, ◌≡◌, ◌&&◌, List, [], ◌∷◌, Option, option_map, is_none, is_some, true, false, filter}
use Rattle.std.specs.List.{filter_map}
use Rattle.cta_site.specs.declared.site.Site.{Site}
use Rattle.cta_model.specs.declared.entries.Entry.{Entry}
use Rattle.cta_model.specs.declared.asks.Job.{Job}
use Rattle.cta_model.specs.History.{History, is_empty}
use Rattle.cta_model.specs.Mounts.{claimer_of, has_copy, has_job}
use Rattle.cta_model.specs.Places.{all_places, has_place_on, places_of}
use Rattle.cta_model.specs.Recalls.{Recall, live_recall, recall_job}
use Rattle.cta_model.specs.RepackItems.{repack_items}
use Rattle.cta_model.specs.Answers.{names_twice}
use Rattle.part_laws.specs.Queued.{waits_in_queue}
use Rattle.part_laws.specs.Births.{files_of}

-- the live recall of a file as a job, none where there is none
abbrev pub recall_of : Site → History → ℕ → Option Job
recall_of site h f = option_map (λ (r : Recall). recall_job r.birth f) (live_recall site h f)

-- the live recalls of the files that have a place on the tape: the files of the tape's items, each once
abbrev pub recalls_on : Site → History → ℕ → List Job
recalls_on site h v = filter_map (recall_of site h) (files_of (repack_items h v) [])

-- of these, the recalls that no mount claims: a TapeState of the tape takes them out of their queues
abbrev pub moved_recalls : Site → History → ℕ → List Job
moved_recalls site h v = filter (λ j. is_none (claimer_of h j)) (recalls_on site h v)

-- of these, the recalls of files that have no place behind the entry e: they end
abbrev pub ended_recalls : Site → History → Entry → ℕ → List Job
ended_recalls site h e v = filter (λ (j : Job). is_empty (places_of site (e ∷ h) j.file)) (recalls_on site h v)

-- what a core may take instead, of a TapeState of tape v: the recalls that leave their queues, which are those queued whose file has a
-- place there, and the recalls that end, which are those whose file has no place left
pub record AreRecallsOf (site : Site) (h : History) (e : Entry) (v : ℕ) (moved ended : List Job) : Type 0 where
  pub once : names_twice moved ≡ false
  pub queued : (j : Job) → has_job j moved ≡ (waits_in_queue site h j && has_place_on v (all_places site h j.file))
  pub recalls_alone : (f c : ℕ) → has_copy f (suc c) ended ≡ false
  pub placeless : (f : ℕ) → is_some (live_recall site h f) ≡ true → has_copy f 0 ended ≡ is_empty (places_of site (e ∷ h) f)
