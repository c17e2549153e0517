-- The files of a request that wait at paths are those of its files which the paths name.
use Rattle.std.proofs.Common.{◌≡◌, ◌∙◌, ℕ, inl, inr, List, [], ◌∷◌, Bool, true, false, refl, sym, ap, subst}
use Rattle.std.specs.Prelude.{Option, Some, None, is_some, option_map, if◌then◌else◌, ◌==◌, ◌&&◌, map}
use Rattle.std.specs.List.{cons_option, filter_map, list_any}
use Rattle.std.proofs.lemmas.Bool.{and_from, eqb-true}
use Rattle.cta_site.specs.declared.site.Site.{Site}
use Rattle.cta_model.specs.declared.reports.FileState.{FileState}
use Rattle.cta_model.specs.declared.reports.FileState.TheVariants as file
use Rattle.cta_model.specs.declared.states.RequestFile.{RequestFile}
use Rattle.cta_model.specs.Files.{live_file, path_of}
use Rattle.cta_model.specs.History.{History, has_number, has_text, is_number}
use Rattle.cta_model.specs.Legal.{IsLegal}
use Rattle.cta_model.specs.Recalls.{Recall, live_recall}
use Rattle.cta_model.specs.Stages.{StageRequest, request_of}
use Rattle.cta_laws.specs.Stages.{waits, waits_for_file}
use Rattle.cta_laws.proofs.JobLaw.{not_true}
use Rattle.cta_laws.proofs.PinLaw.{request_made}
use Rattle.cta_laws.proofs.Ranges.{any_filter_map}
use Rattle.cta_laws.proofs.ResidentLaw.{recall_live}
use Rattle.cta_laws.proofs.Tests.{bool_cases, or_left, or_right}
use Rattle.cta_laws.proofs.Waiting.{FileStands, asked_has_waiting, files_stand}
use Rattle.part_model.specs.declared.space.FileEnd.TheVariants as ends
use Rattle.part_model.specs.Names.{Names, file_in}
use Rattle.part_model.specs.Requests.{Requests, RequestsAgree, ended_file, finish_all, request_in, where_waiting}
use Rattle.part_laws.specs.Books.{AreRequests}
use Rattle.part_laws.specs.BookCalls.{asked_by, waiting_at, waiting_files}
use Rattle.part_laws.specs.Names.{AreNames}
use Rattle.part_laws.proofs.RequestTurns.{all_turned, asked_call, finish_settled, finished_are, has_call, not_called, settled, with_files}
use Rattle.part_laws.specs.Ends.{file_before, named_files}
use Rattle.part_laws.proofs.CancelParts.{named_has}
use Rattle.part_laws.proofs.RequestCalls.{listed_waits, map_files, where_off}

-- ---- the files that paths name

pub before_is : (o : Option ℕ) (fs gs : List ℕ) → fs ≡ gs → cons_option o fs ≡ file_before o gs
before_is None fs gs same = same
before_is (Some f) fs gs same = ap (λ (xs : List ℕ). f ∷ xs) same

pub names_are : (h : History) (names : Names) (ps : List (List ℕ)) → AreNames h names → filter_map (file_in names) ps ≡ named_files h ps
names_are h names [] are = refl
names_are h names (p ∷ ps) are = ap (λ (o : Option ℕ). cons_option o (filter_map (file_in names) ps)) (are p) ∙ before_is (live_file h p) (filter_map (file_in names) ps) (named_files h ps) (names_are h names ps are)

-- ---- waiting files

-- a file for whose recall the request waits is among its waiting files at the paths exactly where its path is listed
waiting_has : (site : Site) (h : History) (id f : ℕ) (r : Recall) (paths : List (List ℕ)) (o : Option StageRequest) → IsLegal site h → request_of site h id ≡ o → is_some o ≡ true → live_recall site h f ≡ Some r → has_number id r.waiting ≡ true
    → has_number f (waiting_files paths o) ≡ has_text (path_of h f) paths
waiting_has site h id f r paths None legal is there on among = absurd (cc)
waiting_has site h id f r paths (Some q) legal is there on among =
    let w = asked_has_waiting site h legal f id r on among (request_made site h id (ap is_some is)) in
    let same : w.0 ≡ q = (let both : Some w.0 ≡ Some q = sym w.1 ∙ is in cc) in
    any_filter_map (λ m. f == m) (waiting_at paths) q.files ∙ listed_waits site h id f paths q.files (files_stand site h legal id q is) (subst (λ (x : StageRequest). list_any (waits_for_file f) x.files ≡ true) same w.2)

-- ---- ends of the files that are named, and of those that wait

module _ (site : Site) (h : History) (legal : IsLegal site h) (v : Requests) (is : AreRequests site h v) (at id : ℕ) (paths : List (List ℕ)) where
  -- the files that the paths name, and those that wait at them
  named : List ℕ
  named = named_files h paths

  waiting : List ℕ
  waiting = waiting_files paths (request_in v id)

  same_calls : (k f : ℕ) (r : Recall) → is_some (request_of site h k) ≡ true → live_recall site h f ≡ Some r → has_number k r.waiting ≡ true → has_call k f (asked_by id named) ≡ has_call k f (asked_by id waiting)
  unfolding named waiting
  same_calls k f r there on among =
      asked_call k id f (named_files h paths)
      ∙ elim (bool_cases (id == k)) [
        | inr miss ↦ ap (λ (b : Bool). b && has_number f (named_files h paths)) miss ∙ sym (ap (λ (b : Bool). b && has_number f (waiting_files paths (request_in v id))) miss)
        | inl hit ↦
            ap (λ (b : Bool). (id == k) && b)
            (named_has h f paths (recall_live site h legal f (ap is_some on))
            ∙ sym (ap (λ (o : Option StageRequest). has_number f (waiting_files paths o)) (is id ∙ ap (request_of site h) (eqb-true id k hit))
            ∙ waiting_has site h k f r paths (request_of site h k) legal refl there on among))
      ]
      ∙ sym (asked_call k id f (waiting_files paths (request_in v id)))

  file_same : (k : ℕ) (s : RequestFile) (o : Option ℕ) → is_some (request_of site h k) ≡ true → FileStands site h k s → s.file ≡ o
      → all_turned (λ f. ended_file at ends.Cancelled) k (asked_by id named) s ≡ all_turned (λ f. ended_file at ends.Cancelled) k (asked_by id waiting) s
  file_same k s None there stands none = not_called (λ f. ended_file at ends.Cancelled) k (asked_by id named) s none ∙ sym (not_called (λ f. ended_file at ends.Cancelled) k (asked_by id waiting) s none)
  file_same k s (Some f) there stands some =
      settled (λ f. ended_file at ends.Cancelled) (finish_settled at (λ f. ends.Cancelled)) k f (asked_by id named) s some
      ∙ elim (bool_cases (waits s.state)) [
        | inl w ↦
            (let r = stands.waiting w in
            let same : r.number ≡ f = (let both : Some r.number ≡ Some f = sym r.names ∙ some in cc) in
            ap (λ (b : Bool). if b then where_waiting (ended_file at ends.Cancelled) s.state s else s) (same_calls k f r.recall there (subst (λ (n : ℕ). live_recall site h n ≡ Some r.recall) same r.on) r.among))
        | inr w ↦ still (has_call k f (asked_by id named)) (has_call k f (asked_by id waiting)) (where_off (ended_file at ends.Cancelled) s.state s w)
      ]
      ∙ sym (settled (λ f. ended_file at ends.Cancelled) (finish_settled at (λ f. ends.Cancelled)) k f (asked_by id waiting) s some)
    where
      still : (a b : Bool) → where_waiting (ended_file at ends.Cancelled) s.state s ≡ s → (if a then where_waiting (ended_file at ends.Cancelled) s.state s else s) ≡ (if b then where_waiting (ended_file at ends.Cancelled) s.state s else s)
      still true true e = refl
      still true false e = e
      still false true e = sym e
      still false false e = refl

  request_same : (k : ℕ) (o : Option StageRequest) → request_of site h k ≡ o
      → option_map (with_files (all_turned (λ f. ended_file at ends.Cancelled) k (asked_by id named))) o ≡ option_map (with_files (all_turned (λ f. ended_file at ends.Cancelled) k (asked_by id waiting))) o
  request_same k None of = refl
  request_same k (Some r) of =
      ap (λ (ss : List RequestFile). Some (record { at = r.at; files = ss }))
      (map_files (all_turned (λ f. ended_file at ends.Cancelled) k (asked_by id named)) (all_turned (λ f. ended_file at ends.Cancelled) k (asked_by id waiting)) (FileStands site h k) r.files
      (λ s stands. file_same k s s.file (ap is_some of) stands refl) (files_stand site h legal k r of))

  -- the ends of the named files are those of the waiting ones
  pub cancelled_same : (w : Requests) → RequestsAgree w (finish_all at (λ f. ends.Cancelled) (asked_by id (named_files h paths)) v)
      → RequestsAgree w (finish_all at (λ f. ends.Cancelled) (asked_by id (waiting_files paths (request_in v id))) v)
  unfolding named waiting
  cancelled_same w agree k =
      agree k
      ∙ finished_are at k (λ f. ends.Cancelled) (asked_by id (named_files h paths)) v
      ∙ request_same k (request_in v k) (sym (is k))
      ∙ sym (finished_are at k (λ f. ends.Cancelled) (asked_by id (waiting_files paths (request_in v id))) v)
