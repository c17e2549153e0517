-- What parts that stand for a legal history answer.
use Rattle.std.specs.Prelude.{ℕ, ◌≡◌, ◌≤◌, List}
use Rattle.cta_site.specs.declared.site.Site.{Site}
use Rattle.cta_model.specs.declared.asks.Item.{Item}
use Rattle.cta_model.specs.declared.asks.Job.{Job}
use Rattle.cta_model.specs.declared.asks.Look.TheVariants as look
use Rattle.cta_model.specs.declared.answers.Answer.TheVariants as answer
use Rattle.cta_model.specs.History.{History, last_moment, next_number}
use Rattle.cta_model.specs.Answers.{claim_answer, end_answer, failed_answer, flushed_answer, next_answer, on_free_tape, recalled_answer, reclaim_answer, repack_answer, retry_answer}
use Rattle.cta_model.specs.Looks.{look_answer_of}
use Rattle.cta_model.specs.Legal.{IsLegal, greatest_moment}
use Rattle.cta_model.specs.Reports.{failed_copies, place_infos, queue_reports}
use Rattle.part_model.specs.declared.space.Placed.{Placed}
use Rattle.part_laws.specs.AllParts.{AllParts}
use Rattle.part_laws.specs.Stands.{Stands}
use Rattle.part_laws.specs.Batches.{claim_told}
use Rattle.part_laws.specs.Choices.{next_told}
use Rattle.part_laws.specs.Files.{files_of}
use Rattle.part_laws.specs.Operators.{AreCopiesOn, on_free_tape_told, reclaim_told, repack_answer_told, retry_told}
use Rattle.part_laws.specs.Reports.{failed_copies_told, fetch_told, places_told, queues_told, tape_info_told}
use Rattle.part_laws.specs.Sessions.{end_told, failed_told, flushed_told, recalled_told}

-- at a moment t the parts tell what a Next and a Claim are answered
pub record AreMountsTold (site : Site) (h : History) (v : AllParts) (t : ℕ) : Type 0 where
  pub next : (d : ℕ) → next_answer site h t d ≡ next_told site v (next_number h) t d
  pub claim : (m : ℕ) → claim_answer site h t m ≡ claim_told site v (files_of h) t m

-- from the last moment on parts that stand for a legal history tell of mounts so
abbrev pub PartsTellMounts : Type 0
PartsTellMounts =
    (site : Site) (h : History) (v : AllParts) (t : ℕ) → IsLegal site h → Stands site h v → last_moment h ≤ t → t ≤ greatest_moment
    → AreMountsTold site h v t

-- the parts tell what the asks that end claims, and an End, are answered
pub record AreEndsTold (site : Site) (h : History) (v : AllParts) : Type 0 where
  pub flushed : (m : ℕ) (items : List Item) → flushed_answer site h m items ≡ flushed_told v m items
  pub recalled : (m : ℕ) (j : Job) → recalled_answer site h m j ≡ recalled_told v m j
  pub failed : (m : ℕ) (jobs : List Job) → failed_answer h m jobs ≡ failed_told v m jobs
  pub closed : (m : ℕ) → end_answer h m ≡ end_told v m

-- parts that stand for a legal history tell of the ends of claims so
abbrev pub PartsTellEnds : Type 0
PartsTellEnds = (site : Site) (h : History) (v : AllParts) → IsLegal site h → Stands site h v → AreEndsTold site h v

-- the parts tell what the asks of operators are answered
pub record AreOperatorsTold (site : Site) (h : History) (v : AllParts) : Type 0 where
  pub state : (tape : ℕ) → on_free_tape site h tape answer.Done ≡ on_free_tape_told site v tape answer.Done
  pub reclaim : (tape : ℕ) → reclaim_answer site h tape ≡ reclaim_told site v tape
  pub repack : (tape : ℕ) (ps : List Placed) → AreCopiesOn v.space.tapes tape ps → repack_answer site h tape ≡ repack_answer_told site v (next_number h) tape ps
  pub retry : (paths : List (List ℕ)) → retry_answer site h paths ≡ retry_told v (next_number h) paths

-- parts that stand for a legal history tell of operators' asks so
abbrev pub PartsTellOperators : Type 0
PartsTellOperators = (site : Site) (h : History) (v : AllParts) → IsLegal site h → Stands site h v → AreOperatorsTold site h v

-- the parts tell what looks are answered
pub record AreLooksTold (site : Site) (h : History) (v : AllParts) (t : ℕ) : Type 0 where
  pub fetch : (path : List ℕ) → look_answer_of site h t (look.Fetch path) ≡ fetch_told v (files_of h) path
  pub places : (paths : List (List ℕ)) → place_infos site h paths ≡ places_told site v (files_of h) paths
  pub failed : failed_copies site h ≡ failed_copies_told site v (files_of h)
  pub tape : (tape : ℕ) → look_answer_of site h t (look.TapeInfo tape) ≡ tape_info_told site v tape
  pub queues : queue_reports site h ≡ queues_told site v

-- parts that stand for a legal history tell of looks so
abbrev pub PartsTellLooks : Type 0
PartsTellLooks = (site : Site) (h : History) (v : AllParts) (t : ℕ) → IsLegal site h → Stands site h v → AreLooksTold site h v t
