-- The calls of the book of stage requests move it as the entry does.
use Rattle.std.proofs.Common.{◌≡◌, ℕ, ◌+◌, ◌≤◌, ◌⊎◌, inl, inr, List, [], ◌∷◌, Bool, true, false, ◌||◌, refl, sym, ◌∙◌, ap, subst, arith, length}
use Rattle.std.specs.Prelude.{Option, Some, None, is_some, is_none, option_map, if◌then◌else◌, ◌==◌, ◌&&◌, map}
use Rattle.std.specs.List.{list_any}
use Rattle.std.proofs.lemmas.Bool.{and_parts, and_from, eqb-true, eq-eqb}
use Rattle.cta_site.specs.declared.site.Site.{Site}
use Rattle.cta_site.specs.Listed.{Listed}
use Rattle.cta_model.specs.declared.entries.Entry.{Entry}
use Rattle.cta_model.specs.declared.asks.Ask.{Ask}
use Rattle.cta_model.specs.declared.asks.Ask.TheVariants as ask
use Rattle.cta_model.specs.declared.asks.Job.{Job}
use Rattle.cta_model.specs.declared.asks.Who.{Who}
use Rattle.cta_model.specs.declared.answers.Answer.{Answer}
use Rattle.cta_model.specs.declared.answers.Answer.TheVariants as answer
use Rattle.cta_model.specs.declared.reports.FileState.{FileState}
use Rattle.cta_model.specs.declared.reports.FileState.TheVariants as file
use Rattle.cta_model.specs.declared.states.RequestFile.{RequestFile}
use Rattle.cta_model.specs.History.{History, has_number, has_text, is_number}
use Rattle.cta_model.specs.Files.{path_of}
use Rattle.cta_model.specs.Mounts.{claim_names, has_copy, has_job, item_jobs, job_of, same_job}
use Rattle.cta_model.specs.Jobs.{is_live_job, live_birth}
use Rattle.cta_model.specs.RepackItems.{waiting_for}
use Rattle.cta_model.specs.Answers.{answer_of}
use Rattle.cta_model.specs.Recalls.{Recall, live_recall, recall_after, recall_goes_on, recall_job}
use Rattle.cta_model.specs.Stages.{StageRequest, after_recall, cancels, drops, file_after, finished, moved_by, releases, released_if, request_after, request_by, request_of, started, waiting_after, with_recall}
use Rattle.cta_model.specs.Legal.{IsLegal}
use Rattle.cta_laws.specs.Stages.{takes_path, waits, waits_for_file}
use Rattle.cta_laws.proofs.Tests.{bool_cases, or_left, or_right, or_cases}
use Rattle.cta_laws.proofs.Bools.{or_none, same_bool}
use Rattle.cta_laws.proofs.Claims.{AllOf}
use Rattle.cta_laws.proofs.JobLaw.{not_true}
use Rattle.cta_laws.proofs.JobLists.{job_self}
use Rattle.cta_laws.proofs.EndLaw.{claim_live}
use Rattle.cta_laws.proofs.OnceLaw.{birth_in, same_job_eq}
use Rattle.cta_laws.proofs.PinLaw.{request_made}
use Rattle.cta_laws.proofs.Ranges.{any_filter_map, is_some_where}
use Rattle.cta_laws.proofs.Requests.{request_low}
use Rattle.cta_laws.proofs.Waiting.{FileStands, asked_has_waiting, files_stand}
use Rattle.part_model.specs.declared.space.FileEnd.TheVariants as end
use Rattle.part_model.specs.Requests.{Requests, RequestsAgree, ended_file, finish_all, release_all, remove_request, request_in, start_all, where_waiting}
use Rattle.part_laws.specs.Books.{AreRequests}
use Rattle.part_laws.specs.BookCalls.{asked_by, recall_end, recalls_claimed, recalls_ended, waiters, waiting_at, waiting_files}
use Rattle.part_laws.proofs.Ended.{live_same, recall_among, recalls_end_as_told, some_number}
use Rattle.part_laws.proofs.RequestTurns.{IsSettled, all_turned, asked_call, finish_settled, finished_are, has_call, not_called, released_are, released_in, removed_is, settled, start_settled, started_are, waiters_call, with_files, with_none}

-- ---- a file behind the entry

where_on : (turn : RequestFile → RequestFile) (state : FileState) (s : RequestFile) → waits state ≡ true → where_waiting turn state s ≡ turn s
where_on turn file.Submitted s w = refl
where_on turn file.Started s w = refl
where_on turn file.Completed s w = absurd (cc)
where_on turn file.Failed s w = absurd (cc)
where_on turn file.Cancelled s w = absurd (cc)

pub where_off : (turn : RequestFile → RequestFile) (state : FileState) (s : RequestFile) → waits state ≡ false → where_waiting turn state s ≡ s
where_off turn file.Submitted s w = absurd (cc)
where_off turn file.Started s w = absurd (cc)
where_off turn _ s w = refl

moved_where : (site : Site) (h : History) (e : Entry) (id : ℕ) (s : RequestFile) (state : FileState) → moved_by site h e id s state ≡ where_waiting (λ x. waiting_after site h e id s s.file) state s
moved_where site h e id s file.Submitted = refl
moved_where site h e id s file.Started = refl
moved_where site h e id s _ = refl

-- what a waiting file turns to, where it is f and this is its recall, is what the call makes of it, where there is one
abbrev pub Turns : Site → History → Entry → ℕ → (ℕ → RequestFile → RequestFile) → List (ℕ × ℕ) → Type 0
Turns site h e id turn xs =
    (f : ℕ) (s : RequestFile) (r : Recall) → waits s.state ≡ true → path_of h f ≡ s.path → live_recall site h f ≡ Some r → has_number id r.waiting ≡ true → waiting_after site h e id s (Some f) ≡ (if has_call id f xs then turn f s else s)

if_same : {A : Type 0} (b : Bool) (x : A) → x ≡ (if b then x else x)
if_same true x = refl
if_same false x = refl

file_turned : (site : Site) (h : History) (e : Entry) (id : ℕ) (turn : ℕ → RequestFile → RequestFile) (xs : List (ℕ × ℕ)) (s : RequestFile) → IsSettled turn → Turns site h e id turn xs → FileStands site h id s → moved_by site h e id s s.state ≡ all_turned turn id xs s
file_turned site h e id turn xs s ok turns stands = moved_where site h e id s s.state ∙ by s.file refl
  where
    there : (f : ℕ) → s.file ≡ Some f → waits s.state ≡ true → waiting_after site h e id s s.file ≡ (if has_call id f xs then turn f s else s)
    there f is w =
        (let r = stands.waiting w in
        let same : r.number ≡ f = (let both : Some r.number ≡ Some f = sym r.names ∙ is in cc) in
        ap (waiting_after site h e id s) is ∙ turns f s r.recall w (stands.named f is).1 (subst (λ (n : ℕ). live_recall site h n ≡ Some r.recall) same r.on) r.among)

    by : (o : Option ℕ) → s.file ≡ o → where_waiting (λ x. waiting_after site h e id s s.file) s.state s ≡ all_turned turn id xs s
    by None is =
        (let still : (state : FileState) → where_waiting (λ x. waiting_after site h e id s s.file) state s ≡ s = λ state. none state is in
        still s.state ∙ sym (not_called turn id xs s is))
      where
        none : (state : FileState) → s.file ≡ None → where_waiting (λ x. waiting_after site h e id s s.file) state s ≡ s
        none file.Submitted n = ap (waiting_after site h e id s) n
        none file.Started n = ap (waiting_after site h e id s) n
        none _ n = refl
    by (Some f) is =
        elim (bool_cases (waits s.state)) [
          | inl w ↦ where_on _ s.state s w ∙ there f is w ∙ ap (λ (x : RequestFile). if has_call id f xs then x else s) (sym (where_on (turn f) s.state s w)) ∙ sym (settled turn ok id f xs s is)
          | inr w ↦ where_off _ s.state s w ∙ if_same (has_call id f xs) s ∙ ap (λ (x : RequestFile). if has_call id f xs then x else s) (sym (where_off (turn f) s.state s w)) ∙ sym (settled turn ok id f xs s is)
        ]

-- ---- a request behind the entry

pub map_files : (p q : RequestFile → RequestFile) (P : RequestFile → Type 0) (ss : List RequestFile) → ((s : RequestFile) → P s → p s ≡ q s) → AllOf P ss → map p ss ≡ map q ss
map_files p q P [] same all = refl
map_files p q P (s ∷ ss) same all = rw (same s all.0, map_files p q P ss same all.1) refl

-- each file of a request that is not dropped is turned by this
pub request_turned : (site : Site) (h : History) (e : Entry) (id : ℕ) (turn : RequestFile → RequestFile) → IsLegal site h → drops id e.ask ≡ false → (is_some (request_of site h id) ≡ true → (s : RequestFile) → FileStands site h id s → file_after site h e id s ≡ turn s) → request_after site h e id (request_of site h id) ≡ option_map (with_files turn) (request_of site h id)
request_turned site h e id turn legal stays same = by (request_of site h id) refl
  where
    by : (o : Option StageRequest) → request_of site h id ≡ o → request_after site h e id o ≡ option_map (with_files turn) o
    by None is = refl
    by (Some r) is = rw stays (ap (λ (ss : List RequestFile). Some (record { at = r.at; files = ss })) (map_files (file_after site h e id) turn (FileStands site h id) r.files (same (ap is_some is)) (files_stand site h legal id r is)))

-- the entry's number is no request, unless the entry is a Stage
pub none_made : (site : Site) (h : History) → request_of site h (length h + 1) ≡ None
none_made site h = by (request_of site h (length h + 1)) refl
  where
    by : (o : Option StageRequest) → request_of site h (length h + 1) ≡ o → o ≡ None
    by None is = refl
    by (Some r) is = (let low : length h + 1 ≤ length h = (request_low site h (length h + 1) (ap is_some is)).1 in absurd (omega arith))

-- a book that tells this of each older request, and nothing of the entry's number, stands for the longer history
pub old_stands : (site : Site) (h : History) (e : Entry) (v' : Requests) → ((id : ℕ) → (length h + 1 == id) ≡ false → request_in v' id ≡ request_after site h e id (request_of site h id)) → request_in v' (length h + 1) ≡ request_by site h e e.ask → AreRequests site (e ∷ h) v'
old_stands site h e v' old new id =
    elim (bool_cases (length h + 1 == id)) [
      | inl hit ↦ rw hit (subst (λ (n : ℕ). request_in v' n ≡ request_by site h e e.ask) (eqb-true _ _ hit) new)
      | inr miss ↦ rw miss (old id miss)
    ]

-- ---- how the waiting files of a recall are turned

end_is : (site : Site) (h : History) (e : Entry) (k : Ask) (f : ℕ) (s : RequestFile) → after_recall site h e k f s ≡ ended_file e.at (recall_end site h e k f) s
end_is site h e (ask.Recalled m job) f s = refl
end_is site h e (ask.Failed m fault charged returned) f s = refl
end_is site h e (ask.Delete who path) f s = refl
end_is site h e _ f s = refl

-- where no path is taken and no recall is claimed, a file ends exactly where its recall does
ended_turns : (site : Site) (h : History) (e : Entry) (id f : ℕ) (s : RequestFile) (r : Recall) (b : Bool) → IsLegal site (e ∷ h) → live_recall site h f ≡ Some r → has_number id r.waiting ≡ true → takes_path e.ask id (path_of h f) ≡ false → cancels e.ask id s.path ≡ false → ((j : Job) → claim_names e.ask e.answer j ≡ false) → b ≡ has_number f (recalls_ended site h e e.ask e.answer) → waiting_after site h e id s (Some f) ≡ (if b then ended_file e.at (recall_end site h e e.ask f) s else s)
ended_turns site h e id f s r b legal on among stays not_cancelled unclaimed call =
    ap (λ (x : Bool). if x then finished s file.Cancelled e.at None else with_recall site h e f s (live_recall site (e ∷ h) f)) not_cancelled
    ∙ by (live_recall site (e ∷ h) f) b (call ∙ recalls_end_as_told site h e f id r legal on among stays)
  where
    by : (o : Option Recall) (b : Bool) → b ≡ is_none o → with_recall site h e f s o ≡ (if b then ended_file e.at (recall_end site h e e.ask f) s else s)
    by None true x = end_is site h e e.ask f s
    by None false x = absurd (cc)
    by (Some q) true x = absurd (cc)
    by (Some q) false x = ap (λ (y : Bool). if y then started s e.at else s) (unclaimed (recall_job q.birth f))

-- ---- asks that end recalls, or none

pub recalls_move : (site : Site) (h : History) (e : Entry) (k : Ask) (v v' : Requests) → IsLegal site (e ∷ h) → e.ask ≡ k → AreRequests site h v → request_by site h e k ≡ None → ((id : ℕ) (path : List ℕ) → takes_path k id path ≡ false) → ((id : ℕ) (path : List ℕ) → cancels k id path ≡ false) → ((id : ℕ) → drops id k ≡ false) → ((id : ℕ) (path : List ℕ) → releases k id path ≡ false) → ((j : Job) → claim_names k e.answer j ≡ false)
    → RequestsAgree v' (finish_all e.at (recall_end site h e k) (waiters site h v (recalls_ended site h e k e.answer)) v) → AreRequests site (e ∷ h) v'
recalls_move site h e k v v' legal ek is none takes no_cancel no_drop no_release unclaimed c =
    old_stands site h e v' (λ id old. told id ∙ sym (request_turned site h e id (all_turned (λ f. ended_file e.at (recall_end site h e k f)) id (waiters site h v (recalls_ended site h e k e.answer))) legal.0 (ap (drops id) ek ∙ no_drop id) (λ there s stands. file_is id there s stands)))
    (told (length h + 1) ∙ ap (option_map (with_files (all_turned (λ f. ended_file e.at (recall_end site h e k f)) (length h + 1) (waiters site h v (recalls_ended site h e k e.answer))))) (none_made site h) ∙ sym (ap (request_by site h e) ek ∙ none))
  where
    told : (id : ℕ) → request_in v' id ≡ option_map (with_files (all_turned (λ f. ended_file e.at (recall_end site h e k f)) id (waiters site h v (recalls_ended site h e k e.answer)))) (request_of site h id)
    told id =
        c id ∙ finished_are e.at id (recall_end site h e k) (waiters site h v (recalls_ended site h e k e.answer)) v
        ∙ ap (option_map (with_files (all_turned (λ f. ended_file e.at (recall_end site h e k f)) id (waiters site h v (recalls_ended site h e k e.answer))))) (is id)

    turns : (id : ℕ) → is_some (request_of site h id) ≡ true → Turns site h e id (λ f. ended_file e.at (recall_end site h e k f)) (waiters site h v (recalls_ended site h e k e.answer))
    turns id there f s r w path on among =
        ended_turns site h e id f s r _ legal on among (ap (λ (x : Ask). takes_path x id (path_of h f)) ek ∙ takes id (path_of h f)) (ap (λ (x : Ask). cancels x id s.path) ek ∙ no_cancel id s.path) (λ j. ap (λ (x : Ask). claim_names x e.answer j) ek ∙ unclaimed j)
        (waiters_call site h v id f (recalls_ended site h e k e.answer) (ap is_some (is id) ∙ there) (ap (λ (o : Option Recall). has_number id (waiting_for o)) on ∙ among) ∙ ap (λ (x : Ask). has_number f (recalls_ended site h e x e.answer)) (sym ek))
        ∙ ap (λ (x : Ask). if has_call id f (waiters site h v (recalls_ended site h e k e.answer)) then ended_file e.at (recall_end site h e x f) s else s) ek

    file_is : (id : ℕ) → is_some (request_of site h id) ≡ true → (s : RequestFile) → FileStands site h id s → file_after site h e id s ≡ all_turned (λ f. ended_file e.at (recall_end site h e k f)) id (waiters site h v (recalls_ended site h e k e.answer)) s
    file_is id there s stands =
        ap (λ (x : Ask). released_if (releases x id s.path) (moved_by site h e id s s.state)) ek ∙ ap (λ (b : Bool). released_if b (moved_by site h e id s s.state)) (no_release id s.path)
        ∙ file_turned site h e id (λ f. ended_file e.at (recall_end site h e k f)) (waiters site h v (recalls_ended site h e k e.answer)) s (finish_settled e.at (recall_end site h e k)) (turns id there) stands

-- ---- Claim

-- among live jobs one is of the copy exactly where the live job of the copy is
live_copy : (site : Site) (h : History) (b f c : ℕ) (js : List Job) → live_birth site h f c ≡ Some b → ((j : Job) → has_job j js ≡ true → is_live_job site h j ≡ true) → has_copy f c js ≡ has_job (job_of b f c) js
live_copy site h b f c [] born live = refl
live_copy site h b f c (j ∷ js) born live =
    rw (live_copy site h b f c js born (λ i x. live i (or_right (same_job i j) _ x)))
    (ap (λ (x : Bool). x || has_job (job_of b f c) js)
    (same_bool (j.file == f && j.copy == c) (same_job (job_of b f c) j)
    (λ x. (let p = and_parts (j.file == f) _ x in live_same site h j b f c born (eqb-true _ _ p.0) (eqb-true _ _ p.1) (live j (or_left (same_job j j) _ (job_self j)))))
    (λ x. (let is : job_of b f c ≡ j = same_job_eq (job_of b f c) j x in and_from _ _ (eq-eqb j.file f (ap (λ (y : Job). y.file) (sym is))) (eq-eqb j.copy c (ap (λ (y : Job). y.copy) (sym is)))))))

claimed_is : (site : Site) (h : History) (t m : ℕ) (a : Answer) (f : ℕ) (r : Recall) → a ≡ answer_of site h t (ask.Claim m) → live_recall site h f ≡ Some r → has_number f (recalls_claimed (ask.Claim m) a) ≡ claim_names (ask.Claim m) a (recall_job r.birth f)
claimed_is site h t m (answer.Batch items evicted) f r is on =
    recall_among f (item_jobs items.items) ∙ live_copy site h r.birth f 0 (item_jobs items.items) (ap birth_in on) (λ j x. claim_live site h t (ask.Claim m) (answer.Batch items evicted) j is x)
claimed_is site h t m _ f r is on = refl

pub claim_moves : (site : Site) (h : History) (e : Entry) (m : ℕ) (v v' : Requests) → IsLegal site (e ∷ h) → e.ask ≡ ask.Claim m → AreRequests site h v → RequestsAgree v' (start_all e.at (waiters site h v (recalls_claimed (ask.Claim m) e.answer)) v) → AreRequests site (e ∷ h) v'
claim_moves site h e m v v' legal ek is c =
    old_stands site h e v' (λ id old. told id ∙ sym (request_turned site h e id (all_turned (λ f s. started s e.at) id (waiters site h v (recalls_claimed (ask.Claim m) e.answer))) legal.0 (ap (drops id) ek) (λ there s stands. file_is id there s stands)))
    (told (length h + 1) ∙ ap (option_map (with_files (all_turned (λ f s. started s e.at) (length h + 1) (waiters site h v (recalls_claimed (ask.Claim m) e.answer))))) (none_made site h) ∙ sym (ap (request_by site h e) ek))
  where
    told : (id : ℕ) → request_in v' id ≡ option_map (with_files (all_turned (λ f s. started s e.at) id (waiters site h v (recalls_claimed (ask.Claim m) e.answer)))) (request_of site h id)
    told id =
        c id ∙ started_are e.at id (waiters site h v (recalls_claimed (ask.Claim m) e.answer)) v
        ∙ ap (option_map (with_files (all_turned (λ f s. started s e.at) id (waiters site h v (recalls_claimed (ask.Claim m) e.answer))))) (is id)

    turns : (id : ℕ) → is_some (request_of site h id) ≡ true → Turns site h e id (λ f s. started s e.at) (waiters site h v (recalls_claimed (ask.Claim m) e.answer))
    turns id there f s r w path on among =
        (let goes : live_recall site (e ∷ h) f ≡ Some r = ap (recall_after site h e f) on ∙ ap (λ (x : Ask). recall_goes_on site h e f r x e.answer) ek in
        let answered : e.answer ≡ answer_of site h e.at (ask.Claim m) = legal.1.answered ∙ ap (answer_of site h e.at) ek in
        let call : has_call id f (waiters site h v (recalls_claimed (ask.Claim m) e.answer)) ≡ claim_names e.ask e.answer (recall_job r.birth f) =
        waiters_call site h v id f (recalls_claimed (ask.Claim m) e.answer) (ap is_some (is id) ∙ there) (ap (λ (o : Option Recall). has_number id (waiting_for o)) on ∙ among)
        ∙ claimed_is site h e.at m e.answer f r answered on ∙ ap (λ (x : Ask). claim_names x e.answer (recall_job r.birth f)) (sym ek) in
        ap (λ (x : Ask). if cancels x id s.path then finished s file.Cancelled e.at None else with_recall site h e f s (live_recall site (e ∷ h) f)) ek
        ∙ ap (with_recall site h e f s) goes
        ∙ ap (λ (b : Bool). if b then started s e.at else s) (sym call))

    file_is : (id : ℕ) → is_some (request_of site h id) ≡ true → (s : RequestFile) → FileStands site h id s → file_after site h e id s ≡ all_turned (λ f s. started s e.at) id (waiters site h v (recalls_claimed (ask.Claim m) e.answer)) s
    file_is id there s stands =
        ap (λ (x : Ask). released_if (releases x id s.path) (moved_by site h e id s s.state)) ek
        ∙ file_turned site h e id (λ f s. started s e.at) (waiters site h v (recalls_claimed (ask.Claim m) e.answer)) s (start_settled e.at) (turns id there) stands

-- ---- asks by which no waiting file moves

-- where the entry neither ends nor claims the recall of a file, and no path of the request is taken, the file stays
pub still_file : (site : Site) (h : History) (e : Entry) (k : Ask) (id : ℕ) (s : RequestFile) → IsLegal site (e ∷ h) → e.ask ≡ k → recalls_ended site h e k e.answer ≡ [] → ((path : List ℕ) → takes_path k id path ≡ false) → ((path : List ℕ) → cancels k id path ≡ false) → ((j : Job) → claim_names k e.answer j ≡ false) → FileStands site h id s → moved_by site h e id s s.state ≡ s
still_file site h e k id s legal ek none takes no_cancel unclaimed stands =
    file_turned site h e id (λ f. ended_file e.at (recall_end site h e e.ask f)) [] s (finish_settled e.at (recall_end site h e e.ask))
    (λ f s r w path on among.
    ended_turns site h e id f s r false legal on among (ap (λ (x : Ask). takes_path x id (path_of h f)) ek ∙ takes (path_of h f)) (ap (λ (x : Ask). cancels x id s.path) ek ∙ no_cancel s.path) (λ j. ap (λ (x : Ask). claim_names x e.answer j) ek ∙ unclaimed j)
    (sym (ap (λ (x : Ask). has_number f (recalls_ended site h e x e.answer)) ek ∙ ap (has_number f) none)))
    stands

-- ---- Release

pub release_moves : (site : Site) (h : History) (e : Entry) (who : Who) (k : ℕ) (paths : Listed (List ℕ)) (v v' : Requests) → IsLegal site (e ∷ h) → e.ask ≡ ask.Release who k paths → AreRequests site h v → RequestsAgree v' (release_all k paths.items v) → AreRequests site (e ∷ h) v'
release_moves site h e who k paths v v' legal ek is c =
    old_stands site h e v' (λ id old. told id ∙ sym (request_turned site h e id (λ s. if k == id then released_in paths.items s else s) legal.0 (ap (drops id) ek) (λ there s stands. file_is id s stands) ∙ spread id))
    (told (length h + 1) ∙ ap (λ (o : Option StageRequest). if k == length h + 1 then option_map (with_files (released_in paths.items)) o else o) (none_made site h) ∙ either (k == length h + 1) ∙ sym (ap (request_by site h e) ek))
  where
    told : (id : ℕ) → request_in v' id ≡ (if k == id then option_map (with_files (released_in paths.items)) (request_of site h id) else request_of site h id)
    told id = c id ∙ released_are k id paths.items v ∙ ap (λ (o : Option StageRequest). if k == id then option_map (with_files (released_in paths.items)) o else o) (is id)

    either : (b : Bool) → ◌≡◌ {A = Option StageRequest} (if b then None else None) None
    either true = refl
    either false = refl

    spread : (id : ℕ) → option_map (with_files (λ s. if k == id then released_in paths.items s else s)) (request_of site h id) ≡ (if k == id then option_map (with_files (released_in paths.items)) (request_of site h id) else request_of site h id)
    spread id = by (k == id)
      where
        by : (b : Bool) → option_map (with_files (λ s. if b then released_in paths.items s else s)) (request_of site h id) ≡ (if b then option_map (with_files (released_in paths.items)) (request_of site h id) else request_of site h id)
        by true = refl
        by false = with_none (request_of site h id)

    one : (a b : Bool) (s : RequestFile) → released_if (a && b) s ≡ (if a then (if b then record s { released = true } else s) else s)
    one true true s = refl
    one true false s = refl
    one false b s = refl

    file_is : (id : ℕ) (s : RequestFile) → FileStands site h id s → file_after site h e id s ≡ (if k == id then released_in paths.items s else s)
    file_is id s stands =
        ap (released_if (releases e.ask id s.path)) (still_file site h e (ask.Release who k paths) id s legal ek refl (λ p. refl) (λ p. refl) (λ j. refl) stands)
        ∙ ap (λ (x : Ask). released_if (releases x id s.path) s) ek
        ∙ one (k == id) (has_text s.path paths.items) s

-- ---- DropStage

pub drop_moves : (site : Site) (h : History) (e : Entry) (who : Who) (k : ℕ) (v v' : Requests) → IsLegal site (e ∷ h) → e.ask ≡ ask.DropStage who k → AreRequests site h v → RequestsAgree v' (remove_request k v) → AreRequests site (e ∷ h) v'
drop_moves site h e who k v v' legal ek is c =
    old_stands site h e v' (λ id old. told id ∙ by id (bool_cases (k == id)))
    (told (length h + 1) ∙ ap (λ (o : Option StageRequest). if k == length h + 1 then None else o) (none_made site h) ∙ either (k == length h + 1) ∙ sym (ap (request_by site h e) ek))
  where
    told : (id : ℕ) → request_in v' id ≡ (if k == id then None else request_of site h id)
    told id = c id ∙ removed_is k id v ∙ ap (λ (o : Option StageRequest). if k == id then None else o) (is id)

    either : (b : Bool) → ◌≡◌ {A = Option StageRequest} (if b then None else None) None
    either true = refl
    either false = refl

    gone : (id : ℕ) (o : Option StageRequest) → drops id e.ask ≡ true → request_after site h e id o ≡ None
    gone id None d = refl
    gone id (Some r) d = rw d refl

    by : (id : ℕ) → ((k == id) ≡ true) ⊎ ((k == id) ≡ false) → (if k == id then None else request_of site h id) ≡ request_after site h e id (request_of site h id)
    by id (inl hit) = rw hit (sym (gone id (request_of site h id) (ap (drops id) ek ∙ hit)))
    by id (inr miss) =
        rw miss
        (sym (request_turned site h e id (λ s. s) legal.0 (ap (drops id) ek ∙ miss) (λ there s stands.
        ap (λ (x : Ask). released_if (releases x id s.path) (moved_by site h e id s s.state)) ek
        ∙ still_file site h e (ask.DropStage who k) id s legal ek refl (λ p. miss) (λ p. refl) (λ j. refl) stands)
        ∙ with_none (request_of site h id)))

-- ---- Cancel

pub waiting_some : (paths : List (List ℕ)) (f : ℕ) (s : RequestFile) → is_some_where (λ m. f == m) (waiting_at paths s) ≡ ((waits s.state && has_text s.path paths) && is_number f s.file)
waiting_some paths f s = by (waits s.state && has_text s.path paths) s.file
  where
    by : (b : Bool) (o : Option ℕ) → is_some_where (λ m. f == m) (if b then o else None) ≡ (b && is_number f o)
    by true None = refl
    by true (Some g) = refl
    by false o = refl

-- among the files of a request one waits for f at a listed path exactly where the path of f is listed, if one waits for f at all
pub listed_waits : (site : Site) (h : History) (id f : ℕ) (paths : List (List ℕ)) (ss : List RequestFile) → AllOf (FileStands site h id) ss → list_any (waits_for_file f) ss ≡ true → list_any (λ s. is_some_where (λ m. f == m) (waiting_at paths s)) ss ≡ has_text (path_of h f) paths
listed_waits site h id f paths ss all on =
    elim (bool_cases (has_text (path_of h f) paths)) [
      | inl hit ↦ there ss all on hit ∙ sym hit
      | inr miss ↦ not_true _ (λ x. (let bad : has_text (path_of h f) paths ≡ true = back ss all x in absurd (cc))) ∙ sym miss
    ]
  where
    there : (ss : List RequestFile) → AllOf (FileStands site h id) ss → list_any (waits_for_file f) ss ≡ true → has_text (path_of h f) paths ≡ true → list_any (λ s. is_some_where (λ m. f == m) (waiting_at paths s)) ss ≡ true
    there [] all x hit = absurd (cc)
    there (s ∷ ss) all x hit =
        elim (or_cases (waits_for_file f s) _ x) [
          | inl here ↦
              (let p = and_parts (waits s.state) _ here in
              let path : path_of h f ≡ s.path = (all.0.named f (some_number f s.file p.1)).1 in
              or_left (is_some_where (λ m. f == m) (waiting_at paths s)) _ (waiting_some paths f s ∙ and_from _ _ (and_from _ _ p.0 (ap (λ (q : List ℕ). has_text q paths) (sym path) ∙ hit)) p.1))
          | inr rest ↦ or_right (is_some_where (λ m. f == m) (waiting_at paths s)) _ (there ss all.1 rest hit)
        ]

    back : (ss : List RequestFile) → AllOf (FileStands site h id) ss → list_any (λ s. is_some_where (λ m. f == m) (waiting_at paths s)) ss ≡ true → has_text (path_of h f) paths ≡ true
    back [] all x = absurd (cc)
    back (s ∷ ss) all x =
        elim (or_cases (is_some_where (λ m. f == m) (waiting_at paths s)) _ x) [
          | inl here ↦
              (let p = and_parts (waits s.state && has_text s.path paths) _ (sym (waiting_some paths f s) ∙ here) in
              let path : path_of h f ≡ s.path = (all.0.named f (some_number f s.file p.1)).1 in
              ap (λ (q : List ℕ). has_text q paths) path ∙ (and_parts (waits s.state) _ p.0).1)
          | inr rest ↦ back ss all.1 rest
        ]

pub cancel_moves : (site : Site) (h : History) (e : Entry) (who : Who) (k : ℕ) (paths : Listed (List ℕ)) (v v' : Requests) → IsLegal site (e ∷ h) → e.ask ≡ ask.Cancel who k paths → AreRequests site h v → RequestsAgree v' (finish_all e.at (λ f. end.Cancelled) (asked_by k (waiting_files paths.items (request_in v k))) v) → AreRequests site (e ∷ h) v'
cancel_moves site h e who k paths v v' legal ek is c =
    old_stands site h e v' (λ id old. told id ∙ sym (request_turned site h e id (all_turned (λ f. ended_file e.at end.Cancelled) id (asked_by k (waiting_files paths.items (request_in v k)))) legal.0 (ap (drops id) ek) (λ there s stands. file_is id there s stands)))
    (told (length h + 1) ∙ ap (option_map (with_files (all_turned (λ f. ended_file e.at end.Cancelled) (length h + 1) (asked_by k (waiting_files paths.items (request_in v k)))))) (none_made site h) ∙ sym (ap (request_by site h e) ek))
  where
    told : (id : ℕ) → request_in v' id ≡ option_map (with_files (all_turned (λ f. ended_file e.at end.Cancelled) id (asked_by k (waiting_files paths.items (request_in v k))))) (request_of site h id)
    told id =
        c id ∙ finished_are e.at id (λ f. end.Cancelled) (asked_by k (waiting_files paths.items (request_in v k))) v
        ∙ ap (option_map (with_files (all_turned (λ f. ended_file e.at end.Cancelled) id (asked_by k (waiting_files paths.items (request_in v k)))))) (is id)

    -- the request that is asked cancels a waiting file exactly where its path is listed
    listed : (id f : ℕ) (r : Recall) (o : Option StageRequest) → request_of site h id ≡ o → is_some o ≡ true → live_recall site h f ≡ Some r → has_number id r.waiting ≡ true → has_number f (waiting_files paths.items o) ≡ has_text (path_of h f) paths.items
    listed id f r None is there on among = absurd (cc)
    listed id f r (Some q) is there on among =
        (let w = asked_has_waiting site h legal.0 f id r on among (request_made site h id (ap is_some is)) in
        let same : w.0 ≡ q = (let both : Some w.0 ≡ Some q = sym w.1 ∙ is in cc) in
        any_filter_map (λ m. f == m) (waiting_at paths.items) q.files ∙ listed_waits site h id f paths.items q.files (files_stand site h legal.0 id q is) (subst (λ (x : StageRequest). list_any (waits_for_file f) x.files ≡ true) same w.2))

    called : (id f : ℕ) (r : Recall) → is_some (request_of site h id) ≡ true → live_recall site h f ≡ Some r → has_number id r.waiting ≡ true → has_call id f (asked_by k (waiting_files paths.items (request_in v k))) ≡ ((k == id) && has_text (path_of h f) paths.items)
    called id f r there on among =
        asked_call id k f (waiting_files paths.items (request_in v k))
        ∙ elim (bool_cases (k == id)) [
          | inr miss ↦ rw miss refl
          | inl hit ↦
              ap (λ (b : Bool). (k == id) && b)
              (ap (λ (o : Option StageRequest). has_number f (waiting_files paths.items o)) (is k ∙ ap (request_of site h) (eqb-true k id hit))
              ∙ listed id f r (request_of site h id) refl there on among)
        ]

    turns : (id : ℕ) → is_some (request_of site h id) ≡ true → Turns site h e id (λ f. ended_file e.at end.Cancelled) (asked_by k (waiting_files paths.items (request_in v k)))
    turns id there f s r w path on among =
        (let call : has_call id f (asked_by k (waiting_files paths.items (request_in v k))) ≡ cancels e.ask id s.path =
        called id f r there on among ∙ ap (λ (p : List ℕ). (k == id) && has_text p paths.items) path ∙ sym (ap (λ (x : Ask). cancels x id s.path) ek) in
        by (cancels e.ask id s.path) refl (λ stays. (let kept : is_none (live_recall site (e ∷ h) f) ≡ false = sym (sym (ap (λ (x : Ask). has_number f (recalls_ended site h e x e.answer)) ek) ∙ recalls_end_as_told site h e f id r legal on among stays) in kept)) path
        ∙ ap (λ (b : Bool). if b then finished s file.Cancelled e.at None else s) (sym call))
      where
        goes : (o : Option Recall) → is_none o ≡ false → with_recall site h e f s o ≡ s
        goes None x = absurd (cc)
        goes (Some q) x = ap (λ (y : Bool). if y then started s e.at else s) (ap (λ (x : Ask). claim_names x e.answer (recall_job q.birth f)) ek)

        by : (b : Bool) → cancels e.ask id s.path ≡ b → (takes_path e.ask id (path_of h f) ≡ false → is_none (live_recall site (e ∷ h) f) ≡ false) → path_of h f ≡ s.path → (if b then finished s file.Cancelled e.at None else with_recall site h e f s (live_recall site (e ∷ h) f)) ≡ (if b then finished s file.Cancelled e.at None else s)
        by true x kept same = refl
        by false x kept same =
            goes (live_recall site (e ∷ h) f)
            (kept (ap (λ (y : Ask). takes_path y id (path_of h f)) ek ∙ or_none ((k == id) && has_text (path_of h f) paths.items) ∙ ap (λ (p : List ℕ). (k == id) && has_text p paths.items) same ∙ sym (ap (λ (y : Ask). cancels y id s.path) ek) ∙ x))

    file_is : (id : ℕ) → is_some (request_of site h id) ≡ true → (s : RequestFile) → FileStands site h id s → file_after site h e id s ≡ all_turned (λ f. ended_file e.at end.Cancelled) id (asked_by k (waiting_files paths.items (request_in v k))) s
    file_is id there s stands =
        ap (λ (x : Ask). released_if (releases x id s.path) (moved_by site h e id s s.state)) ek
        ∙ file_turned site h e id (λ f. ended_file e.at end.Cancelled) (asked_by k (waiting_files paths.items (request_in v k))) s (finish_settled e.at (λ f. end.Cancelled)) (turns id there) stands
