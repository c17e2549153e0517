-- Files of requests that are COMPLETED, one by one.
use Rattle.std.proofs.Common.{◌≡◌, ◌∙◌, ◌+◌, ◌<◌, ℕ, List, [], ◌∷◌, ◌++◌, refl, sym, ap, length, take, append-nil}
use Rattle.std.specs.Prelude.{Option, Some, None, is_some, option_map, filter, get_or}
use Rattle.std.proofs.lemmas.List.{take_more}
use Rattle.cta_site.specs.declared.site.Site.{Site}
use Rattle.cta_model.specs.History.{History}
use Rattle.cta_model.specs.Recalls.{live_recall}
use Rattle.cta_model.specs.RepackItems.{waiting_for}
use Rattle.cta_model.specs.Stages.{StageRequest}
use Rattle.part_model.specs.declared.space.FileEnd.TheVariants as ends
use Rattle.part_model.specs.Requests.{Requests, RequestsAgree, ended_file, finish, finish_all, request_in, turned_file}
use Rattle.part_laws.specs.BookCalls.{waiters}
use Rattle.part_laws.proofs.RequestTurns.{all_turned, finished_are, with_files, with_same}
use Rattle.part_laws.proofs.SameBooks.{request_calls_agree}
use Rattle.part_moves.specs.Waiting.{with_file}
use Rattle.part_moves.proofs.WaitLists.{files_more, known_turned}

finish_last : (at : ℕ) (xs : List (ℕ × ℕ)) (x : ℕ × ℕ) (v : Requests) → finish_all at (λ f. ends.Completed) (xs ++ x ∷ []) v ≡ finish x.0 x.1 at ends.Completed (finish_all at (λ f. ends.Completed) xs v)
finish_last at [] x v = refl
finish_last at (y ∷ xs) x v = finish_last at xs x (finish y.0 y.1 at ends.Completed v)

pub completed_more : (at f i : ℕ) (ids : List ℕ) (d : ℕ) (v mid now : Requests) → i < length ids → RequestsAgree mid (finish_all at (λ g. ends.Completed) (with_file f (take i ids)) v) → RequestsAgree now (finish (get_or ids i d) f at ends.Completed mid)
    → RequestsAgree now (finish_all at (λ g. ends.Completed) (with_file f (take (i + 1) ids)) v)
completed_more at f i ids d v mid now low before then_one id =
    then_one id
    ∙ (request_calls_agree mid (finish_all at (λ g. ends.Completed) (with_file f (take i ids)) v) before).turned (get_or ids i d) (turned_file f (ended_file at ends.Completed)) id
    ∙ sym (ap (λ (w : Requests). request_in w id)
    (ap (λ (ns : List ℕ). finish_all at (λ g. ends.Completed) (with_file f ns) v) (take_more ids i d low)
    ∙ ap (λ (xs : List (ℕ × ℕ)). finish_all at (λ g. ends.Completed) xs v) (files_more f (take i ids) (get_or ids i d))
    ∙ finish_last at (with_file f (take i ids)) (get_or ids i d, f) v))

completed_known : (at f : ℕ) (ids : List ℕ) (v : Requests) → RequestsAgree (finish_all at (λ g. ends.Completed) (with_file f ids) v) (finish_all at (λ g. ends.Completed) (with_file f (filter (λ id. is_some (request_in v id)) ids)) v)
completed_known at f ids v k = finished_are at k (λ g. ends.Completed) (with_file f ids) v ∙ by (request_in v k) refl ∙ sym (finished_are at k (λ g. ends.Completed) (with_file f (filter (λ id. is_some (request_in v id)) ids)) v)
  where
    by : (o : Option StageRequest) → request_in v k ≡ o
        → ◌≡◌ {A = Option StageRequest} (option_map (with_files (all_turned (λ g. ended_file at ends.Completed) k (with_file f ids))) o) (option_map (with_files (all_turned (λ g. ended_file at ends.Completed) k (with_file f (filter (λ id. is_some (request_in v id)) ids)))) o)
    by None is = refl
    by (Some r) is =
        with_same (all_turned (λ g. ended_file at ends.Completed) k (with_file f ids)) (all_turned (λ g. ended_file at ends.Completed) k (with_file f (filter (λ id. is_some (request_in v id)) ids))) (Some r)
        (λ s. known_turned (λ g. ended_file at ends.Completed) k f (λ id. is_some (request_in v id)) ids s (ap is_some is))

-- those that wait for the recall and are no requests are called for nothing
pub completed_are : (site : Site) (h : History) (t g : ℕ) (ids : List ℕ) (v w : Requests) → ids ≡ waiting_for (live_recall site h g) → RequestsAgree w (finish_all t (λ f. ends.Completed) (with_file g ids) v)
    → RequestsAgree w (finish_all t (λ f. ends.Completed) (waiters site h v (g ∷ [])) v)
completed_are site h t g ids v w is agree id =
    agree id
    ∙ completed_known t g ids v id
    ∙ ap (λ (ns : List ℕ). request_in (finish_all t (λ f. ends.Completed) (with_file g (filter (λ i. is_some (request_in v i)) ns)) v) id) is
    ∙ ap (λ (xs : List (ℕ × ℕ)). request_in (finish_all t (λ f. ends.Completed) xs v) id) (sym (append-nil (with_file g (filter (λ i. is_some (request_in v i)) (waiting_for (live_recall site h g))))))
