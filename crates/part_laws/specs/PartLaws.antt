-- How the calls of a core move the parts together, and what the parts answer.
use Rattle.std.specs.Prelude.{ℕ, ◌≡◌, ◌≤◌, ◌<◌, List, [], ◌∷◌, length}
use Rattle.cta_site.specs.declared.site.Site.{Site}
use Rattle.cta_model.specs.declared.entries.Entry.{Entry}
use Rattle.cta_model.specs.declared.asks.Look.TheVariants as look
use Rattle.cta_model.specs.History.{History, last_moment}
use Rattle.cta_model.specs.Files.{path_of}
use Rattle.cta_model.specs.Answers.{delete_answer, drop_answer, put_answer, request_answer}
use Rattle.cta_model.specs.Looks.{look_answer_of}
use Rattle.cta_model.specs.Reports.{tape_report}
use Rattle.cta_model.specs.Stages.{request_of}
use Rattle.cta_model.specs.Legal.{IsLegal, greatest_moment}
use Rattle.part_model.specs.Requests.{request_in}
use Rattle.part_model.specs.Repacks.{repack_in}
use Rattle.part_laws.specs.SpaceParts.{AreParts, ArePartsCalled, Parts, first_parts}
use Rattle.part_laws.specs.Told.{delete_told, drop_told, paths_told, put_told, repack_told, stage_told, tape_told}

-- the parts at the start stand for the empty history
abbrev pub FirstPartsStand : Type 0
FirstPartsStand = (site : Site) → AreParts site [] (first_parts site)

-- parts that stand for a legal history stand for it with one entry more once the calls for the entry are made, whatever the ask is
abbrev pub CallsMoveParts : Type 0
CallsMoveParts = (site : Site) (h : History) (e : Entry) (v v' : Parts) → IsLegal site (e ∷ h) → AreParts site h v → ArePartsCalled site h e v v' → AreParts site (e ∷ h) v'

-- at a moment t the parts tell what a Put and a Delete are answered
pub record AreFilesTold (site : Site) (h : History) (v : Parts) (t : ℕ) : Type 0 where
  pub put : (path : List ℕ) (size : ℕ) → put_answer site h t path size ≡ put_told site v.names v.buffer t path size
  pub delete : (path : List ℕ) → delete_answer h path ≡ delete_told v.names path

-- from the last moment on, files are told so by parts that stand for a history
abbrev pub PartsTellFiles : Type 0
PartsTellFiles = (site : Site) (h : History) (v : Parts) (t : ℕ) → AreParts site h v → last_moment h ≤ t → t ≤ greatest_moment → AreFilesTold site h v t

-- the parts tell what a StageInfo, and a Cancel, Release or DropStage of a request are answered
pub record AreRequestsTold (site : Site) (h : History) (v : Parts) (t id : ℕ) : Type 0 where
  pub look : look_answer_of site h t (look.StageInfo id) ≡ stage_told v.buffer id (request_in v.requests id)
  pub paths : (paths : List (List ℕ)) → request_answer (request_of site h id) paths ≡ paths_told v.requests id paths
  pub drop : drop_answer site h id ≡ drop_told v.requests id

-- requests are told so by parts that stand for a history
abbrev pub PartsTellRequests : Type 0
PartsTellRequests = (site : Site) (h : History) (v : Parts) (t id : ℕ) → AreParts site h v → AreRequestsTold site h v t id

-- parts that stand for a history tell what a RepackInfo is answered, the paths being those of the history's files
abbrev pub PartsTellRepacks : Type 0
PartsTellRepacks = (site : Site) (h : History) (v : Parts) (t id : ℕ) → AreParts site h v → look_answer_of site h t (look.RepackInfo id) ≡ repack_told site (path_of h) id (repack_in v.repacks id)

-- parts that stand for a legal history tell how a tape of the site stands
abbrev pub PartsTellTapes : Type 0
PartsTellTapes = (site : Site) (h : History) (v : Parts) (t : ℕ) → IsLegal site h → AreParts site h v → t < length site.tapes.items → tape_report site h t ≡ tape_told site v.tapes t
