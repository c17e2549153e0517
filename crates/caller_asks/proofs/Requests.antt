-- Requests that wait for a file, one by one.
use Rattle.std.proofs.Common.{◌≡◌, ◌∙◌, ◌+◌, ◌<◌, ℕ, List, [], ◌∷◌, ◌++◌, Bool, true, false, refl, sym, ap, subst, arith, length, length-append, take}
use Rattle.std.specs.Prelude.{Option, Some, None, is_some, option_map, ◌==◌, if◌then◌else◌, filter, get_or}
use Rattle.std.proofs.lemmas.List.{take_more}
use Rattle.std.proofs.lemmas.Bool.{eqb-true}
use Rattle.cta_model.specs.declared.states.RequestFile.{RequestFile}
use Rattle.cta_model.specs.Stages.{StageRequest}
use Rattle.part_model.specs.declared.space.FileEnd.{FileEnd}
use Rattle.part_model.specs.declared.space.FileEnd.TheVariants as ends
use Rattle.part_model.specs.Requests.{Requests, RequestsAgree, ended_file, finish, finish_all, request_in, turned_file}
use Rattle.part_laws.proofs.RequestTurns.{all_turned, finished_are, with_files, with_same}
use Rattle.part_laws.proofs.SameBooks.{request_calls_agree}
use Rattle.part_moves.specs.Texts.{AreAll}
use Rattle.part_moves.specs.Waiting.{with_file}
use Rattle.part_moves.proofs.LastOnes.{all_same_front, all_same_last, all_same_more, finish_last, one_longer}
use Rattle.part_moves.proofs.WaitLists.{files_more, known_turned}
use Rattle.caller_asks.proofs.RequestLoops.{all_same_popped}

-- ---- texts that are all the same

-- ---- one request more

pub finish_next : (at f i : ℕ) (how : FileEnd) (ids : List ℕ) (d : ℕ) (v mid now : Requests) → i < length ids → RequestsAgree mid (finish_all at (λ g. how) (with_file f (take i ids)) v) → RequestsAgree now (finish (get_or ids i d) f at how mid)
    → RequestsAgree now (finish_all at (λ g. how) (with_file f (take (i + 1) ids)) v)
finish_next at f i how ids d v mid now low before then_one id =
    then_one id
    ∙ (request_calls_agree mid (finish_all at (λ g. how) (with_file f (take i ids)) v) before).turned (get_or ids i d) (turned_file f (ended_file at how)) id
    ∙ sym (ap (λ (w : Requests). request_in w id)
    (ap (λ (ns : List ℕ). finish_all at (λ g. how) (with_file f ns) v) (take_more ids i d low)
    ∙ ap (λ (xs : List (ℕ × ℕ)). finish_all at (λ g. how) xs v) (files_more f (take i ids) (get_or ids i d))
    ∙ finish_last at (λ g. how) (with_file f (take i ids)) (get_or ids i d, f) v))

-- ---- entries that are no requests

-- calls for entries that are no requests do nothing
pub known_alone : (at f : ℕ) (how : ℕ → FileEnd) (ids : List ℕ) (v : Requests) → RequestsAgree (finish_all at how (with_file f ids) v) (finish_all at how (with_file f (filter (λ id. is_some (request_in v id)) ids)) v)
known_alone at f how ids v k = finished_are at k how (with_file f ids) v ∙ by (request_in v k) refl ∙ sym (finished_are at k how (with_file f (filter (λ id. is_some (request_in v id)) ids)) v)
  where
    by : (o : Option StageRequest) → request_in v k ≡ o
        → ◌≡◌ {A = Option StageRequest} (option_map (with_files (all_turned (λ g. ended_file at (how g)) k (with_file f ids))) o) (option_map (with_files (all_turned (λ g. ended_file at (how g)) k (with_file f (filter (λ id. is_some (request_in v id)) ids)))) o)
    by None is = refl
    by (Some r) is = with_same (all_turned (λ g. ended_file at (how g)) k (with_file f ids)) (all_turned (λ g. ended_file at (how g)) k (with_file f (filter (λ id. is_some (request_in v id)) ids))) (Some r) (λ s. known_turned (λ g. ended_file at (how g)) k f (λ id. is_some (request_in v id)) ids s (ap is_some is))

-- ---- the steps of the loops

-- one request more has its error
pub finish_text : (at f i : ℕ) (t x : List ℕ) (ids : List ℕ) (d : ℕ) (left old : List (List ℕ)) (v mid now : Requests) → i < length ids → old ≡ left ++ x ∷ [] → length old + i ≡ length ids → AreAll t old
    → RequestsAgree mid (finish_all at (λ g. ends.Failed t) (with_file f (take i ids)) v) → RequestsAgree now (finish (get_or ids i d) f at (ends.Failed x) mid)
    → (length left + (i + 1) ≡ length ids) × AreAll t left × RequestsAgree now (finish_all at (λ g. ends.Failed t) (with_file f (take (i + 1) ids)) v)
finish_text at f i t x ids d left old v mid now low popped many same before last =
    let rest : AreAll t left × (x ≡ t) = all_same_popped t x left old popped same in
    let shorter : length (left ++ x ∷ []) ≡ length left + 1 = length-append left (x ∷ []) in
    let count : length old ≡ length left + 1 = ap length popped ∙ shorter in
    let then_one : RequestsAgree now (finish (get_or ids i d) f at (ends.Failed t) mid) = subst (λ (y : List ℕ). RequestsAgree now (finish (get_or ids i d) f at (ends.Failed y) mid)) rest.1 last in
    (omega arith, rest.0, finish_next at f i (ends.Failed t) ids d v mid now low before then_one)
