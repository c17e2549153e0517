-- The entries that wait for recalls, and calls for each of them.
use Rattle.std.proofs.Common.{◌≡◌, ◌∙◌, ◌+◌, ◌*◌, ◌<◌, ◌≤◌, ℕ, List, [], ◌∷◌, ◌++◌, Bool, true, false, refl, sym, ap, subst, arith, length, length-append, take, append-nil, append_assoc}
use Rattle.std.specs.Prelude.{Option, Some, None, is_some, option_map, ◌==◌, if◌then◌else◌, not, filter, get_or}
use Rattle.std.proofs.lemmas.List.{take_more}
use Rattle.std.proofs.lemmas.Bool.{eqb-true}
use Rattle.cta_site.specs.declared.site.Site.{Site}
use Rattle.cta_site.specs.WellFormed.{IsWellFormed}
use Rattle.cta_model.specs.declared.asks.Item.{Item}
use Rattle.cta_model.specs.declared.asks.Job.{Job}
use Rattle.cta_model.specs.declared.states.RequestFile.{RequestFile}
use Rattle.cta_model.specs.Files.{path_of}
use Rattle.cta_model.specs.History.{History}
use Rattle.cta_model.specs.Jobs.{subscribers_of, subscribes}
use Rattle.cta_model.specs.Legal.{IsLegal}
use Rattle.cta_model.specs.Recalls.{Recall, live_recall, recall_job}
use Rattle.cta_model.specs.RepackItems.{waiting_for}
use Rattle.cta_model.specs.Stages.{StageRequest, started}
use Rattle.cta_laws.specs.Lengths.{StaysShort}
use Rattle.cta_laws.specs.Stages.{SubscribersWait, has_left}
use Rattle.cta_laws.proofs.JobLists.{filter_le}
use Rattle.part_model.specs.Requests.{Requests, RequestsAgree, request_in, start, start_all, turned_file}
use Rattle.part_laws.specs.BookCalls.{waiters}
use Rattle.part_laws.proofs.RequestTurns.{all_turned, started_are, with_files, with_same}
use Rattle.part_laws.proofs.SameBooks.{request_calls_agree}
use Rattle.drive_asks.specs.Waiting.{files_in}
use Rattle.part_moves.specs.Waiting.{waits_for_all, with_file}
use Rattle.part_moves.proofs.WaitLists.{all_last, waiters_turned}
use Rattle.part_moves.proofs.LastOnes.{start_last}

-- ---- lists of those that wait

files_last : (items : List Item) (i : Item) → files_in (items ++ i ∷ []) ≡ files_in items ++ i.job.file ∷ []
files_last [] i = refl
files_last (k ∷ items) i = ap (λ (fs : List ℕ). k.job.file ∷ fs) (files_last items i)

-- the entries that wait for one recall more
pub waiters_more : (recalls : ℕ → Option Recall) (items : List Item) (n : ℕ) (d : Item) (before after : List (ℕ × ℕ)) → n < length items → before ≡ waits_for_all recalls (files_in (take n items))
    → after ≡ before ++ with_file (get_or items n d).job.file (waiting_for (recalls (get_or items n d).job.file)) → after ≡ waits_for_all recalls (files_in (take (n + 1) items))
waiters_more recalls items n d before after low was now =
    now ∙ ap (λ (xs : List (ℕ × ℕ)). xs ++ with_file (get_or items n d).job.file (waiting_for (recalls (get_or items n d).job.file))) was
    ∙ sym (ap (λ (is : List Item). waits_for_all recalls (files_in is)) (take_more items n d low)
    ∙ ap (waits_for_all recalls) (files_last (take n items) (get_or items n d))
    ∙ all_last recalls (files_in (take n items)) (get_or items n d).job.file)

-- ---- starts, one by one

pub start_more : (at i : ℕ) (xs : List (ℕ × ℕ)) (d : ℕ × ℕ) (v mid now : Requests) → i < length xs → RequestsAgree mid (start_all at (take i xs) v) → RequestsAgree now (start (get_or xs i d).0 (get_or xs i d).1 at mid)
    → RequestsAgree now (start_all at (take (i + 1) xs) v)
start_more at i xs d v mid now low before then_one id =
    then_one id
    ∙ (request_calls_agree mid (start_all at (take i xs) v) before).turned (get_or xs i d).0 (turned_file (get_or xs i d).1 (λ s. started s at)) id
    ∙ sym (ap (λ (w : Requests). request_in w id) (ap (λ (ys : List (ℕ × ℕ)). start_all at ys v) (take_more xs i d low) ∙ start_last at (take i xs) (get_or xs i d) v))

-- starts for entries that are no requests do nothing
pub started_alone : (at : ℕ) (site : Site) (h : History) (fs : List ℕ) (v : Requests) → RequestsAgree (start_all at (waits_for_all (live_recall site h) fs) v) (start_all at (waiters site h v fs) v)
started_alone at site h fs v k = started_are at k (waits_for_all (live_recall site h) fs) v ∙ by (request_in v k) refl ∙ sym (started_are at k (waiters site h v fs) v)
  where
    by : (o : Option StageRequest) → request_in v k ≡ o
        → ◌≡◌ {A = Option StageRequest} (option_map (with_files (all_turned (λ f s. started s at) k (waits_for_all (live_recall site h) fs))) o) (option_map (with_files (all_turned (λ f s. started s at) k (waiters site h v fs))) o)
    by None is = refl
    by (Some r) is =
        with_same (all_turned (λ f s. started s at) k (waits_for_all (live_recall site h) fs)) (all_turned (λ f s. started s at) k (waiters site h v fs)) (Some r)
        (λ s. waiters_turned (λ f s. started s at) site h v k fs s (ap is_some is))
