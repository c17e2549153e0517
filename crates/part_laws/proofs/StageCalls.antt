-- The calls of the book of stage requests for a Stage, and for an entry whatever its ask is.
use Rattle.std.proofs.Common.{◌≡◌, ℕ, ◌+◌, List, [], ◌∷◌, Bool, true, false, ◌||◌, not, refl, sym, ◌∙◌, ap, length}
use Rattle.std.specs.Prelude.{Option, Some, None, option_map, if◌then◌else◌, ◌==◌, ◌&&◌, filter, map, codes}
use Rattle.std.specs.List.{filter_map}
use Rattle.std.proofs.lemmas.Bool.{eq-eqb}
use Rattle.cta_site.specs.declared.site.Site.{Site}
use Rattle.cta_site.specs.Listed.{Listed}
use Rattle.cta_model.specs.declared.entries.Entry.{Entry}
use Rattle.cta_model.specs.declared.asks.Ask.{Ask}
use Rattle.cta_model.specs.declared.asks.Ask.TheVariants as ask
use Rattle.cta_model.specs.declared.asks.Wanted.{Wanted}
use Rattle.cta_model.specs.declared.asks.Who.{Who}
use Rattle.cta_model.specs.declared.reports.FileState.TheVariants as file
use Rattle.cta_model.specs.declared.states.RequestFile.{RequestFile}
use Rattle.cta_model.specs.declared.states.StageFile.{StageFile}
use Rattle.cta_model.specs.History.{History, has_number, is_empty}
use Rattle.cta_model.specs.Places.{places_of}
use Rattle.cta_model.specs.Buffer.{is_resident}
use Rattle.cta_model.specs.Recalls.{live_recall}
use Rattle.cta_model.specs.Stages.{StageRequest, drops, file_asked_for, finished, is_claimed_before, moved_by, new_file, releases, released_if, request_after, request_by, request_of, stage_files, started, submitted}
use Rattle.cta_model.specs.Legal.{IsLegal}
use Rattle.cta_laws.specs.Stages.{files_staged}
use Rattle.cta_laws.proofs.Tests.{or_left, or_right}
use Rattle.cta_laws.proofs.Bools.{and_true}
use Rattle.cta_laws.proofs.Claims.{AllOf}
use Rattle.cta_laws.proofs.WaitLists.{number_kept}
use Rattle.part_model.specs.declared.space.FileEnd.TheVariants as end
use Rattle.part_model.specs.Requests.{Requests, RequestsAgree, add_request, added_file, turned_file, ended_file, finish_all, request_in, start_all, where_waiting}
use Rattle.part_laws.specs.Books.{AreRequests}
use Rattle.part_laws.specs.BookCalls.{RequestsCalled, after_stage, asked_by, is_lost, starts_at_once}
use Rattle.part_laws.specs.BookLaws.{CallsMoveRequests}
use Rattle.part_laws.proofs.RequestTurns.{all_turned, asked_call, finish_settled, finished_are, has_call, not_called, settled, start_settled, started_are, with_files, with_none, with_same}
use Rattle.cta_laws.proofs.Claims.{all_mono}
use Rattle.std.specs.List.{cons_option}
use Rattle.part_laws.proofs.RequestCalls.{cancel_moves, claim_moves, drop_moves, old_stands, recalls_move, release_moves, request_turned, still_file}

-- ---- Stage

staged_file : (site : Site) (h : History) (e : Entry) (fs : List ℕ) (s : StageFile) → (f : ℕ) → s.file ≡ Some f → has_number f fs ≡ true
    → all_turned (λ f. ended_file e.at (end.Failed (codes "no tape is left"))) (length h + 1) (asked_by (length h + 1) (filter (is_lost site h) fs))
    (all_turned (λ f. ended_file e.at end.Completed) (length h + 1) (asked_by (length h + 1) (filter (is_resident h) fs))
    (all_turned (λ f s. started s e.at) (length h + 1) (asked_by (length h + 1) (filter (starts_at_once site h e) fs)) (submitted s)))
    ≡ file_asked_for site h e (submitted s) (Some f)
staged_file site h e fs s f is among =
    ap (λ (x : RequestFile). all_turned (λ f. ended_file e.at (end.Failed (codes "no tape is left"))) (length h + 1) (asked_by (length h + 1) (filter (is_lost site h) fs)) (all_turned (λ f. ended_file e.at end.Completed) (length h + 1) (asked_by (length h + 1) (filter (is_resident h) fs)) x))
    (settled (λ f s. started s e.at) (start_settled e.at) (length h + 1) f (asked_by (length h + 1) (filter (starts_at_once site h e) fs)) (submitted s) is ∙ ap (λ (b : Bool). if b then started (submitted s) e.at else submitted s) (call (starts_at_once site h e)))
    ∙ ap (all_turned (λ f. ended_file e.at (end.Failed (codes "no tape is left"))) (length h + 1) (asked_by (length h + 1) (filter (is_lost site h) fs)))
    (settled (λ f. ended_file e.at end.Completed) (finish_settled e.at (λ f. end.Completed)) (length h + 1) f (asked_by (length h + 1) (filter (is_resident h) fs)) (if starts_at_once site h e f then started (submitted s) e.at else submitted s) (named (starts_at_once site h e f)) ∙ ap (λ (b : Bool). if b then where_waiting (ended_file e.at end.Completed) (RequestFile.state (if starts_at_once site h e f then started (submitted s) e.at else submitted s)) (if starts_at_once site h e f then started (submitted s) e.at else submitted s) else (if starts_at_once site h e f then started (submitted s) e.at else submitted s)) (call (is_resident h)))
    ∙ last
  where
    call : (p : ℕ → Bool) → has_call (length h + 1) f (asked_by (length h + 1) (filter p fs)) ≡ p f
    call p =
        asked_call (length h + 1) (length h + 1) f (filter p fs)
        ∙ ap (λ (b : Bool). b && has_number f (filter p fs)) (eq-eqb (length h + 1) (length h + 1) refl)
        ∙ number_kept p f fs ∙ ap (λ (b : Bool). p f && b) among ∙ and_true (p f)

    named : (b : Bool) → RequestFile.file (if b then started (submitted s) e.at else submitted s) ≡ Some f
    named true = is
    named false = is

    done : (a b c : Bool) → RequestFile
    done a b c = (let x : RequestFile = (if a || (not b && c) then started (submitted s) e.at else submitted s) in if a then where_waiting (ended_file e.at end.Completed) x.state x else x)

    done_named : (a b c : Bool) → (done a b c).file ≡ Some f
    done_named true b c = is
    done_named false true c = is
    done_named false false true = is
    done_named false false false = is

    all : (a b c : Bool) → (if not a && b then where_waiting (ended_file e.at (end.Failed (codes "no tape is left"))) (done a b c).state (done a b c) else done a b c) ≡ (if a then finished (started (submitted s) e.at) file.Completed e.at None else if b then finished (submitted s) file.Failed e.at (Some (codes "no tape is left")) else if c then started (submitted s) e.at else submitted s)
    all true true c = refl
    all true false c = refl
    all false true c = refl
    all false false true = refl
    all false false false = refl

    last : all_turned (λ f. ended_file e.at (end.Failed (codes "no tape is left"))) (length h + 1) (asked_by (length h + 1) (filter (is_lost site h) fs)) (done (is_resident h f) (is_empty (places_of site h f)) (is_claimed_before h f (live_recall site (e ∷ h) f))) ≡ file_asked_for site h e (submitted s) (Some f)
    last =
        settled (λ f. ended_file e.at (end.Failed (codes "no tape is left"))) (finish_settled e.at (λ f. end.Failed (codes "no tape is left"))) (length h + 1) f (asked_by (length h + 1) (filter (is_lost site h) fs)) (done (is_resident h f) (is_empty (places_of site h f)) (is_claimed_before h f (live_recall site (e ∷ h) f))) (done_named (is_resident h f) (is_empty (places_of site h f)) (is_claimed_before h f (live_recall site (e ∷ h) f)))
        ∙ ap (λ (b : Bool). if b then where_waiting (ended_file e.at (end.Failed (codes "no tape is left"))) (done (is_resident h f) (is_empty (places_of site h f)) (is_claimed_before h f (live_recall site (e ∷ h) f))).state (done (is_resident h f) (is_empty (places_of site h f)) (is_claimed_before h f (live_recall site (e ∷ h) f))) else done (is_resident h f) (is_empty (places_of site h f)) (is_claimed_before h f (live_recall site (e ∷ h) f))) (call (is_lost site h))
        ∙ all (is_resident h f) (is_empty (places_of site h f)) (is_claimed_before h f (live_recall site (e ∷ h) f))

-- a file of the request is told by the calls, whether its path names a file or not
new_is : (site : Site) (h : History) (e : Entry) (fs : List ℕ) (s : StageFile) → ((f : ℕ) → s.file ≡ Some f → has_number f fs ≡ true)
    → all_turned (λ f. ended_file e.at (end.Failed (codes "no tape is left"))) (length h + 1) (asked_by (length h + 1) (filter (is_lost site h) fs))
    (all_turned (λ f. ended_file e.at end.Completed) (length h + 1) (asked_by (length h + 1) (filter (is_resident h) fs))
    (all_turned (λ f s. started s e.at) (length h + 1) (asked_by (length h + 1) (filter (starts_at_once site h e) fs)) (added_file e.at s s.file)))
    ≡ new_file site h e s
new_is site h e fs s among = by s.file refl
  where
    by : (o : Option ℕ) → s.file ≡ o
        → all_turned (λ f. ended_file e.at (end.Failed (codes "no tape is left"))) (length h + 1) (asked_by (length h + 1) (filter (is_lost site h) fs))
        (all_turned (λ f. ended_file e.at end.Completed) (length h + 1) (asked_by (length h + 1) (filter (is_resident h) fs))
        (all_turned (λ f s. started s e.at) (length h + 1) (asked_by (length h + 1) (filter (starts_at_once site h e) fs)) (added_file e.at s o)))
        ≡ file_asked_for site h e (submitted s) o
    by None is =
        ap (λ (x : RequestFile). all_turned (λ f. ended_file e.at (end.Failed (codes "no tape is left"))) (length h + 1) (asked_by (length h + 1) (filter (is_lost site h) fs)) (all_turned (λ f. ended_file e.at end.Completed) (length h + 1) (asked_by (length h + 1) (filter (is_resident h) fs)) x))
        (not_called (λ f s. started s e.at) (length h + 1) (asked_by (length h + 1) (filter (starts_at_once site h e) fs)) (finished (submitted s) file.Failed e.at (Some (codes "no such file"))) is)
        ∙ ap (all_turned (λ f. ended_file e.at (end.Failed (codes "no tape is left"))) (length h + 1) (asked_by (length h + 1) (filter (is_lost site h) fs)))
        (not_called (λ f. ended_file e.at end.Completed) (length h + 1) (asked_by (length h + 1) (filter (is_resident h) fs)) (finished (submitted s) file.Failed e.at (Some (codes "no such file"))) is)
        ∙ not_called (λ f. ended_file e.at (end.Failed (codes "no tape is left"))) (length h + 1) (asked_by (length h + 1) (filter (is_lost site h) fs)) (finished (submitted s) file.Failed e.at (Some (codes "no such file"))) is
    by (Some f) is = staged_file site h e fs s f is (among f is)

-- the files of the new request, all together
new_files : (site : Site) (h : History) (e : Entry) (fs : List ℕ) (ss : List StageFile) → AllOf (λ (s : StageFile). (f : ℕ) → s.file ≡ Some f → has_number f fs ≡ true) ss
    → map (all_turned (λ f. ended_file e.at (end.Failed (codes "no tape is left"))) (length h + 1) (asked_by (length h + 1) (filter (is_lost site h) fs)))
    (map (all_turned (λ f. ended_file e.at end.Completed) (length h + 1) (asked_by (length h + 1) (filter (is_resident h) fs)))
    (map (all_turned (λ f s. started s e.at) (length h + 1) (asked_by (length h + 1) (filter (starts_at_once site h e) fs))) (map (λ (s : StageFile). added_file e.at s s.file) ss)))
    ≡ map (new_file site h e) ss
new_files site h e fs [] all = refl
new_files site h e fs (s ∷ ss) all = rw (new_is site h e fs s all.0, new_files site h e fs ss all.1) refl

each_named : (ss : List StageFile) → AllOf (λ (s : StageFile). (f : ℕ) → s.file ≡ Some f → has_number f (filter_map (λ (s : StageFile). s.file) ss) ≡ true) ss
each_named [] = tt
each_named (s ∷ ss) = (λ f is. by f s.file is, all_mono (λ (s : StageFile). (f : ℕ) → s.file ≡ Some f → has_number f (filter_map (λ (s : StageFile). s.file) ss) ≡ true) (λ (x : StageFile). (f : ℕ) → x.file ≡ Some f → has_number f (filter_map (λ (s : StageFile). s.file) (s ∷ ss)) ≡ true) ss (λ x old f is. more s.file f (old f is)) (each_named ss))
  where
    by : (f : ℕ) (o : Option ℕ) → o ≡ Some f → has_number f (cons_option o (filter_map (λ (s : StageFile). s.file) ss)) ≡ true
    by f None e = absurd (cc)
    by f (Some g) e = (let same : g ≡ f = cc in or_left (f == g) _ (eq-eqb f g (sym same)))

    more : (o : Option ℕ) (f : ℕ) → has_number f (filter_map (λ (s : StageFile). s.file) ss) ≡ true → has_number f (cons_option o (filter_map (λ (s : StageFile). s.file) ss)) ≡ true
    more None f x = x
    more (Some g) f x = or_right (f == g) _ x

-- calls for one request leave the others
others_stay : (turn : ℕ → RequestFile → RequestFile) (k id : ℕ) (fs : List ℕ) (s : RequestFile) → (id == k) ≡ false → all_turned turn k (asked_by id fs) s ≡ s
others_stay turn k id [] s other = refl
others_stay turn k id (f ∷ fs) s other = ap (λ (b : Bool). all_turned turn k (asked_by id fs) (if b then turned_file f (turn f) s else s)) other ∙ others_stay turn k id fs s other

after_stage_is : (site : Site) (h : History) (e : Entry) (fs : List ℕ) (k : ℕ) (v : Requests) → request_in (after_stage site h e fs v) k
    ≡ option_map (with_files (all_turned (λ f. ended_file e.at (end.Failed (codes "no tape is left"))) k (asked_by (length h + 1) (filter (is_lost site h) fs))))
    (option_map (with_files (all_turned (λ f. ended_file e.at end.Completed) k (asked_by (length h + 1) (filter (is_resident h) fs))))
    (option_map (with_files (all_turned (λ f s. started s e.at) k (asked_by (length h + 1) (filter (starts_at_once site h e) fs)))) (request_in v k)))
after_stage_is site h e fs k v =
    finished_are e.at k (λ f. end.Failed (codes "no tape is left")) (asked_by (length h + 1) (filter (is_lost site h) fs)) (finish_all e.at (λ f. end.Completed) (asked_by (length h + 1) (filter (is_resident h) fs)) (start_all e.at (asked_by (length h + 1) (filter (starts_at_once site h e) fs)) v))
    ∙ ap (option_map (with_files (all_turned (λ f. ended_file e.at (end.Failed (codes "no tape is left"))) k (asked_by (length h + 1) (filter (is_lost site h) fs)))))
    (finished_are e.at k (λ f. end.Completed) (asked_by (length h + 1) (filter (is_resident h) fs)) (start_all e.at (asked_by (length h + 1) (filter (starts_at_once site h e) fs)) v)
    ∙ ap (option_map (with_files (all_turned (λ f. ended_file e.at end.Completed) k (asked_by (length h + 1) (filter (is_resident h) fs))))) (started_are e.at k (asked_by (length h + 1) (filter (starts_at_once site h e) fs)) v))

stage_moves : (site : Site) (h : History) (e : Entry) (who : Who) (files : Listed Wanted) (v v' : Requests) → IsLegal site (e ∷ h) → e.ask ≡ ask.Stage who files → AreRequests site h v → RequestsAgree v' (after_stage site h e (files_staged site h files.items) (add_request (length h + 1) e.at (stage_files site h files.items) v)) → AreRequests site (e ∷ h) v'
stage_moves site h e who files v v' legal ek is c = old_stands site h e v' older newest
  where
    older : (id : ℕ) → (length h + 1 == id) ≡ false → request_in v' id ≡ request_after site h e id (request_of site h id)
    older id old =
        c id ∙ after_stage_is site h e (files_staged site h files.items) id (add_request (length h + 1) e.at (stage_files site h files.items) v)
        ∙ stays (λ f. ended_file e.at (end.Failed (codes "no tape is left"))) (is_lost site h) _
        ∙ stays (λ f. ended_file e.at end.Completed) (is_resident h) _
        ∙ stays (λ f s. started s e.at) (starts_at_once site h e) _
        ∙ ap (λ (b : Bool). if b then Some (record { at = e.at; files = map (λ (s : StageFile). added_file e.at s s.file) (stage_files site h files.items) }) else request_in v id) old
        ∙ is id
        ∙ sym (request_turned site h e id (λ s. s) legal.0 (ap (drops id) ek) (λ there s stands.
        ap (λ (x : Ask). released_if (releases x id s.path) (moved_by site h e id s s.state)) ek
        ∙ still_file site h e (ask.Stage who files) id s legal ek refl (λ p. refl) (λ p. refl) (λ j. refl) stands)
        ∙ with_none (request_of site h id))
      where
        stays : (turn : ℕ → RequestFile → RequestFile) (p : ℕ → Bool) (o : Option StageRequest) → option_map (with_files (all_turned turn id (asked_by (length h + 1) (filter p (files_staged site h files.items))))) o ≡ o
        stays turn p o = with_same (all_turned turn id (asked_by (length h + 1) (filter p (files_staged site h files.items)))) (λ s. s) o (λ s. others_stay turn id (length h + 1) (filter p (files_staged site h files.items)) s old) ∙ with_none o

    newest : request_in v' (length h + 1) ≡ request_by site h e e.ask
    newest =
        c (length h + 1) ∙ after_stage_is site h e (files_staged site h files.items) (length h + 1) (add_request (length h + 1) e.at (stage_files site h files.items) v)
        ∙ ap (λ (o : Option StageRequest). option_map (with_files (all_turned (λ f. ended_file e.at (end.Failed (codes "no tape is left"))) (length h + 1) (asked_by (length h + 1) (filter (is_lost site h) (files_staged site h files.items))))) (option_map (with_files (all_turned (λ f. ended_file e.at end.Completed) (length h + 1) (asked_by (length h + 1) (filter (is_resident h) (files_staged site h files.items))))) (option_map (with_files (all_turned (λ f s. started s e.at) (length h + 1) (asked_by (length h + 1) (filter (starts_at_once site h e) (files_staged site h files.items))))) o)))
        (ap (λ (b : Bool). if b then Some (record { at = e.at; files = map (λ (s : StageFile). added_file e.at s s.file) (stage_files site h files.items) }) else request_in v (length h + 1)) (eq-eqb (length h + 1) (length h + 1) refl))
        ∙ ap (λ (ss : List RequestFile). Some (record { at = e.at; files = ss })) (new_files site h e (files_staged site h files.items) (stage_files site h files.items) (each_named (stage_files site h files.items)))
        ∙ sym (ap (request_by site h e) ek)

-- ---- whatever the ask is

pub requests_step : (site : Site) (h : History) (e : Entry) (v v' : Requests) (k : Ask) → IsLegal site (e ∷ h) → e.ask ≡ k → AreRequests site h v → RequestsCalled site h e k e.answer v v' → AreRequests site (e ∷ h) v'
requests_step site h e v v' (ask.Stage who files) legal ek is c = stage_moves site h e who files v v' legal ek is c
requests_step site h e v v' (ask.Cancel who id paths) legal ek is c = cancel_moves site h e who id paths v v' legal ek is c
requests_step site h e v v' (ask.DropStage who id) legal ek is c = drop_moves site h e who id v v' legal ek is c
requests_step site h e v v' (ask.Release who id paths) legal ek is c = release_moves site h e who id paths v v' legal ek is c
requests_step site h e v v' (ask.Claim m) legal ek is c = claim_moves site h e m v v' legal ek is c
requests_step site h e v v' (ask.Put who path sum) legal ek is c = recalls_move site h e (ask.Put who path sum) v v' legal ek is refl (λ i p. refl) (λ i p. refl) (λ i. refl) (λ i p. refl) (λ j. refl) c
requests_step site h e v v' (ask.Delete who path) legal ek is c = recalls_move site h e (ask.Delete who path) v v' legal ek is refl (λ i p. refl) (λ i p. refl) (λ i. refl) (λ i p. refl) (λ j. refl) c
requests_step site h e v v' (ask.Next d) legal ek is c = recalls_move site h e (ask.Next d) v v' legal ek is refl (λ i p. refl) (λ i p. refl) (λ i. refl) (λ i p. refl) (λ j. refl) c
requests_step site h e v v' (ask.Flushed m items) legal ek is c = recalls_move site h e (ask.Flushed m items) v v' legal ek is refl (λ i p. refl) (λ i p. refl) (λ i. refl) (λ i p. refl) (λ j. refl) c
requests_step site h e v v' (ask.Recalled m job) legal ek is c = recalls_move site h e (ask.Recalled m job) v v' legal ek is refl (λ i p. refl) (λ i p. refl) (λ i. refl) (λ i p. refl) (λ j. refl) c
requests_step site h e v v' (ask.Failed m x charged returned) legal ek is c = recalls_move site h e (ask.Failed m x charged returned) v v' legal ek is refl (λ i p. refl) (λ i p. refl) (λ i. refl) (λ i p. refl) (λ j. refl) c
requests_step site h e v v' (ask.End m x) legal ek is c = recalls_move site h e (ask.End m x) v v' legal ek is refl (λ i p. refl) (λ i p. refl) (λ i. refl) (λ i p. refl) (λ j. refl) c
requests_step site h e v v' (ask.DriveUp who d) legal ek is c = recalls_move site h e (ask.DriveUp who d) v v' legal ek is refl (λ i p. refl) (λ i p. refl) (λ i. refl) (λ i p. refl) (λ j. refl) c
requests_step site h e v v' (ask.DriveDown who d) legal ek is c = recalls_move site h e (ask.DriveDown who d) v v' legal ek is refl (λ i p. refl) (λ i p. refl) (λ i. refl) (λ i p. refl) (λ j. refl) c
requests_step site h e v v' (ask.TapeState who tape s) legal ek is c = recalls_move site h e (ask.TapeState who tape s) v v' legal ek is refl (λ i p. refl) (λ i p. refl) (λ i. refl) (λ i p. refl) (λ j. refl) c
requests_step site h e v v' (ask.Reclaim who tape) legal ek is c = recalls_move site h e (ask.Reclaim who tape) v v' legal ek is refl (λ i p. refl) (λ i p. refl) (λ i. refl) (λ i p. refl) (λ j. refl) c
requests_step site h e v v' (ask.Repack who tape) legal ek is c = recalls_move site h e (ask.Repack who tape) v v' legal ek is refl (λ i p. refl) (λ i p. refl) (λ i. refl) (λ i p. refl) (λ j. refl) c
requests_step site h e v v' (ask.Retry who paths) legal ek is c = recalls_move site h e (ask.Retry who paths) v v' legal ek is refl (λ i p. refl) (λ i p. refl) (λ i. refl) (λ i p. refl) (λ j. refl) c

pub calls_move_requests : CallsMoveRequests
calls_move_requests site h e v v' legal is c = requests_step site h e v v' e.ask legal refl is c
