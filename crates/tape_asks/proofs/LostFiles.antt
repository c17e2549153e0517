-- Files of requests that fail, and the files that have no place left.
use Rattle.std.proofs.Common.{◌≡◌, ◌∙◌, ◌+◌, ◌<◌, ℕ, List, [], ◌∷◌, ◌++◌, Bool, true, false, ◌||◌, not, refl, sym, ap, subst, arith, length, length-append, take}
use Rattle.std.specs.Prelude.{Option, Some, None, is_some, option_map, ◌==◌, ◌&&◌, if◌then◌else◌, filter, get_or, map}
use Rattle.std.specs.List.{cons_option, filter_map, list_any}
use Rattle.std.proofs.lemmas.List.{take_more}
use Rattle.std.proofs.lemmas.Bool.{and_parts, eqb-true}
use Rattle.cta_site.specs.declared.site.Site.{Site}
use Rattle.cta_site.specs.declared.site.TapeState.{TapeState}
use Rattle.cta_model.specs.declared.asks.Item.{Item}
use Rattle.cta_model.specs.declared.asks.Job.{Job}
use Rattle.cta_model.specs.declared.entries.Entry.{Entry}
use Rattle.cta_model.specs.declared.states.Place.{Place}
use Rattle.cta_model.specs.declared.states.RequestFile.{RequestFile}
use Rattle.cta_model.specs.History.{History, has_number, is_empty}
use Rattle.cta_model.specs.Mounts.{job_of}
use Rattle.cta_model.specs.Places.{live_items_on, places_of}
use Rattle.cta_model.specs.Recalls.{Recall, live_recall, recall_job}
use Rattle.cta_model.specs.RepackItems.{repack_items}
use Rattle.cta_model.specs.Stages.{StageRequest}
use Rattle.cta_model.specs.Tapes.{is_broken}
use Rattle.part_model.specs.declared.space.FileEnd.{FileEnd}
use Rattle.part_model.specs.declared.space.FileEnd.TheVariants as ends
use Rattle.part_model.specs.declared.space.TapeRow.{TapeRow}
use Rattle.part_model.specs.Requests.{Requests, RequestsAgree, ended_file, finish, finish_all, request_in, turned_file, where_waiting}
use Rattle.part_model.specs.Tapes.{HasTurned, Table, place_in, row_in, row_in_state}
use Rattle.part_laws.specs.Births.{files_of}
use Rattle.part_laws.specs.StateLists.{ended_recalls, recall_of}
use Rattle.part_laws.specs.BookCalls.{files_lost, waiters}
use Rattle.part_laws.proofs.RequestTurns.{all_turned, finish_settled, finished_are, not_called, settled, with_files, with_same}
use Rattle.part_laws.proofs.SameBooks.{request_calls_agree}
use Rattle.tape_table.specs.Sources.{copies_in, is_whole, place_if, somes}
use Rattle.part_moves.specs.Flags.{job_files}
use Rattle.part_moves.specs.Waiting.{waits_for_all}
use Rattle.fault_asks.proofs.EndedFiles.{waits_call}
use Rattle.tape_asks.specs.Losses.{is_left_on, is_lost_in, state_once}
use Rattle.part_moves.specs.Texts.{AreAll}
use Rattle.part_moves.proofs.LastOnes.{all_same_front, all_same_last, all_same_more, finish_last, one_longer}

-- ---- texts that are all the same

-- ---- one file more fails

finish_next : (at i : ℕ) (how : FileEnd) (pairs : List (ℕ × ℕ)) (d : ℕ × ℕ) (v mid now : Requests) → i < length pairs → RequestsAgree mid (finish_all at (λ g. how) (take i pairs) v)
    → RequestsAgree now (finish (get_or pairs i d).0 (get_or pairs i d).1 at how mid) → RequestsAgree now (finish_all at (λ g. how) (take (i + 1) pairs) v)
finish_next at i how pairs d v mid now low before last id =
    last id
    ∙ (request_calls_agree mid (finish_all at (λ g. how) (take i pairs) v) before).turned (get_or pairs i d).0 (turned_file (get_or pairs i d).1 (ended_file at how)) id
    ∙ sym (ap (λ (w : Requests). request_in w id) (ap (λ (xs : List (ℕ × ℕ)). finish_all at (λ g. how) xs v) (take_more pairs i d low) ∙ finish_last at (λ g. how) (take i pairs) (get_or pairs i d) v))

pub finish_text : (at i : ℕ) (t x : List ℕ) (pairs : List (ℕ × ℕ)) (d : ℕ × ℕ) (rest old : List (List ℕ)) (v mid now : Requests) → i < length pairs → old ≡ rest ++ x ∷ [] → length old + i ≡ length pairs → AreAll t old
    → RequestsAgree mid (finish_all at (λ g. ends.Failed t) (take i pairs) v) → RequestsAgree now (finish (get_or pairs i d).0 (get_or pairs i d).1 at (ends.Failed x) mid)
    → (length rest + (i + 1) ≡ length pairs) × AreAll t rest × RequestsAgree now (finish_all at (λ g. ends.Failed t) (take (i + 1) pairs) v)
finish_text at i t x pairs d rest old v mid now low popped many same before last =
    let whole : AreAll t (rest ++ x ∷ []) = subst (AreAll t) popped same in
    let text : x ≡ t = all_same_last t x rest whole in
    let shorter : length (rest ++ x ∷ []) ≡ length rest + 1 = length-append rest (x ∷ []) in
    let count : length old ≡ length rest + 1 = ap length popped ∙ shorter in (
      omega (arith, count, many),
      all_same_front t rest (x ∷ []) whole,
      finish_next at i (ends.Failed t) pairs d v mid now low before (subst (λ (y : List ℕ). RequestsAgree now (finish (get_or pairs i d).0 (get_or pairs i d).1 at (ends.Failed y) mid)) text last),
    )

-- ---- the calls for those that are no requests do nothing

pub waiting_fail : (site : Site) (h : History) (at : ℕ) (how : ℕ → FileEnd) (fs : List ℕ) (v w : Requests) → RequestsAgree w (finish_all at how (waits_for_all (live_recall site h) fs) v) → RequestsAgree w (finish_all at how (waiters site h v fs) v)
waiting_fail site h at how fs v w call k = call k ∙ finished_are at k how (waits_for_all (live_recall site h) fs) v ∙ by (request_in v k) refl ∙ sym (finished_are at k how (waiters site h v fs) v)
  where
    file : (o : Option ℕ) (s : RequestFile) → s.file ≡ o → is_some (request_in v k) ≡ true
        → all_turned (λ f. ended_file at (how f)) k (waits_for_all (live_recall site h) fs) s ≡ all_turned (λ f. ended_file at (how f)) k (waiters site h v fs) s
    file None s e there = not_called (λ f. ended_file at (how f)) k (waits_for_all (live_recall site h) fs) s e ∙ sym (not_called (λ f. ended_file at (how f)) k (waiters site h v fs) s e)
    file (Some f) s e there =
        settled (λ f. ended_file at (how f)) (finish_settled at how) k f (waits_for_all (live_recall site h) fs) s e
        ∙ ap (λ (t : Bool). if t then where_waiting (ended_file at (how f)) s.state s else s) (waits_call site h v k f (live_recall site h) fs there (λ g. refl))
        ∙ sym (settled (λ f. ended_file at (how f)) (finish_settled at how) k f (waiters site h v fs) s e)

    by : (o : Option StageRequest) → request_in v k ≡ o
        → ◌≡◌ {A = Option StageRequest} (option_map (with_files (all_turned (λ f. ended_file at (how f)) k (waits_for_all (live_recall site h) fs))) o) (option_map (with_files (all_turned (λ f. ended_file at (how f)) k (waiters site h v fs))) o)
    by None e = refl
    by (Some r) e = with_same (all_turned (λ f. ended_file at (how f)) k (waits_for_all (live_recall site h) fs)) (all_turned (λ f. ended_file at (how f)) k (waiters site h v fs)) (Some r) (λ s. file s.file s refl (ap is_some e))

-- ---- the files of recalls that end

ended_files : (site : Site) (h : History) (q : ℕ → Bool) (fs : List ℕ) → job_files (filter (λ (j : Job). q j.file) (filter_map (recall_of site h) fs)) ≡ filter (λ f. is_some (live_recall site h f) && q f) fs
ended_files site h q [] = refl
ended_files site h q (f ∷ fs) = by (live_recall site h f) (ended_files site h q fs)
  where
    by : (o : Option Recall) → job_files (filter (λ (j : Job). q j.file) (filter_map (recall_of site h) fs)) ≡ filter (λ f. is_some (live_recall site h f) && q f) fs
        → job_files (filter (λ (j : Job). q j.file) (cons_option (option_map (λ (r : Recall). recall_job r.birth f) o) (filter_map (recall_of site h) fs))) ≡ (if is_some o && q f then f ∷ filter (λ f. is_some (live_recall site h f) && q f) fs else filter (λ f. is_some (live_recall site h f) && q f) fs)
    by None rest = rest
    by (Some r) rest = one (q f)
      where
        one : (b : Bool) → job_files (if b then recall_job r.birth f ∷ filter (λ (j : Job). q j.file) (filter_map (recall_of site h) fs) else filter (λ (j : Job). q j.file) (filter_map (recall_of site h) fs)) ≡ (if b then f ∷ filter (λ f. is_some (live_recall site h f) && q f) fs else filter (λ f. is_some (live_recall site h f) && q f) fs)
        one true = ap (λ (xs : List ℕ). f ∷ xs) rest
        one false = rest

item_files : (xs : List Item) → job_files (map (λ (i : Item). job_of 0 i.job.file i.job.copy) xs) ≡ map (λ (i : Item). i.job.file) xs
item_files [] = refl
item_files (x ∷ xs) = ap (λ (fs : List ℕ). x.job.file ∷ fs) (item_files xs)

pub lost_files : (site : Site) (h : History) (e : Entry) (v : ℕ) → files_of (repack_items h v) [] ≡ job_files (repack_items h v) → job_files (ended_recalls site h e v) ≡ files_lost site h e v
lost_files site h e v once =
    ended_files site h (λ f. is_empty (places_of site (e ∷ h) f)) (files_of (repack_items h v) [])
    ∙ ap (filter (λ f. is_some (live_recall site h f) && is_empty (places_of site (e ∷ h) f))) (once ∙ item_files (live_items_on h v))

number_passes : (q : ℕ → Bool) (f : ℕ) (xs : List ℕ) → has_number f (filter q xs) ≡ true → q f ≡ true
number_passes q f [] e = absurd (cc)
number_passes q f (x ∷ xs) e = by (q x) refl e (λ more. number_passes q f xs more)
  where
    here : (a : Bool) → (f == x) ≡ a → q x ≡ true → (a || has_number f (filter q xs)) ≡ true → (has_number f (filter q xs) ≡ true → q f ≡ true) → q f ≡ true
    here true is on e rest = ap q (eqb-true f x is) ∙ on
    here false is on e rest = rest e

    by : (b : Bool) → q x ≡ b → has_number f (if b then x ∷ filter q xs else filter q xs) ≡ true → (has_number f (filter q xs) ≡ true → q f ≡ true) → q f ≡ true
    by true on e rest = here (f == x) refl on e rest
    by false off e rest = rest e

-- each has a live recall
pub lost_live : (site : Site) (h : History) (e : Entry) (v f : ℕ) → has_number f (files_lost site h e v) ≡ true → is_some (live_recall site h f) ≡ true
lost_live site h e v f there = (and_parts (is_some (live_recall site h f)) _ (number_passes (λ g. is_some (live_recall site h g) && is_empty (places_of site (e ∷ h) g)) f (map (λ (i : Item). i.job.file) (live_items_on h v)) there)).0

-- the files of jobs, one by one
pub file_among : (f : ℕ) (js : List Job) → has_number f (job_files js) ≡ list_any (λ (j : Job). f == j.file) js
file_among f [] = refl
file_among f (j ∷ js) = ap (λ (b : Bool). (f == j.file) || b) (file_among f js)

-- ---- files that have no place left

module _ (v : ℕ) (s : TapeState) (old new : Table) (change : HasTurned v (row_in_state s) old new) where
  state_is : (k : ℕ) → (row_in new k).state ≡ state_once old v s k
  state_is k = ap (λ (r : TapeRow). r.state) (change.rows k) ∙ by (k == v)
    where
      by : (b : Bool) → TapeRow.state (if b then row_in_state s (row_in old k) else row_in old k) ≡ (if b then s else (row_in old k).state)
      by true = refl
      by false = refl

  left_is : (a b : Option Place) → a ≡ b → is_some (place_if is_whole new a) ≡ is_left_on old v s b
  left_is a b same = ap (λ (o : Option Place). is_some (place_if is_whole new o)) same ∙ by b
    where
      on : (x : Bool) (q : Place) → is_some (if x then Some q else None) ≡ x
      on true q = refl
      on false q = refl

      by : (o : Option Place) → is_some (place_if is_whole new o) ≡ is_left_on old v s o
      by None = refl
      by (Some q) = on (is_whole (row_in new q.tape).state) q ∙ ap (λ (x : TapeState). not (is_broken x)) (state_is q.tape)

  none_of_four : (a b c d : Option Place) → is_empty (somes (a ∷ b ∷ c ∷ d ∷ [])) ≡ not (is_some a || (is_some b || (is_some c || is_some d)))
  none_of_four None None None None = refl
  none_of_four None None None (Some d) = refl
  none_of_four None None (Some c) d = refl
  none_of_four None (Some b) c d = refl
  none_of_four (Some a) b c d = refl

  pub lost_is : (f : ℕ) → is_empty (somes (map (place_if is_whole new) (copies_in new f))) ≡ is_lost_in old v s f
  lost_is f =
      none_of_four (place_if is_whole new (place_in new f 1)) (place_if is_whole new (place_in new f 2)) (place_if is_whole new (place_in new f 3)) (place_if is_whole new (place_in new f 4))
      ∙ rw (left_is (place_in new f 1) (place_in old f 1) (change.places f 1), left_is (place_in new f 2) (place_in old f 2) (change.places f 2), left_is (place_in new f 3) (place_in old f 3) (change.places f 3), left_is (place_in new f 4) (place_in old f 4) (change.places f 4)) refl
