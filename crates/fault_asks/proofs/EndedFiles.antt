-- Files of requests that fail with their recalls.
use Rattle.std.proofs.Common.{◌≡◌, ◌∙◌, ℕ, List, [], ◌∷◌, ◌++◌, Bool, true, false, ◌||◌, refl, sym, ap}
use Rattle.std.specs.Prelude.{Option, Some, None, is_some, option_map, map, filter, ◌==◌, ◌&&◌, if◌then◌else◌}
use Rattle.std.proofs.lemmas.Bool.{eqb-true, eq-eqb}
use Rattle.std.proofs.lemmas.List.Folds.{list_any-append}
use Rattle.cta_site.specs.declared.site.Site.{Site}
use Rattle.cta_model.specs.History.{History, has_number}
use Rattle.cta_model.specs.Recalls.{Recall, live_recall}
use Rattle.cta_model.specs.RepackItems.{waiting_for}
use Rattle.cta_model.specs.declared.states.Charge.{Charge}
use Rattle.cta_model.specs.declared.states.RequestFile.{RequestFile}
use Rattle.cta_laws.proofs.Bools.{eq_flip}
use Rattle.part_model.specs.JobBook.{Book}
use Rattle.part_model.specs.Requests.{where_waiting}
use Rattle.part_laws.specs.BookCalls.{waiters, waiters_of}
use Rattle.part_laws.proofs.RequestTurns.{all_turned, finish_settled, finished_are, has_call, not_called, settled, with_files, with_same}
use Rattle.cta_model.specs.Stages.{StageRequest}
use Rattle.part_model.specs.declared.space.FileEnd.{FileEnd}
use Rattle.part_model.specs.declared.space.FileEnd.TheVariants as end
use Rattle.part_model.specs.Requests.{Requests, RequestsAgree, ended_file, finish, finish_all, request_in, turned_file}
use Rattle.part_laws.proofs.SameBooks.{request_calls_agree}
use Rattle.fault_asks.specs.declared.endings.Ending.{Ending}
use Rattle.fault_asks.specs.Reading.{ending_of, error_told, failed_all}
use Rattle.part_moves.specs.Waiting.{waits_for_all, with_file}
use Rattle.part_moves.proofs.LastOnes.{finish_last}

failed_same : (at : ℕ) (xs : List Ending) (v w : Requests) → RequestsAgree v w → RequestsAgree (failed_all at xs v) (failed_all at xs w)
failed_same at [] v w same = same
failed_same at (x ∷ xs) v w same = λ id. (request_calls_agree (failed_all at xs v) (failed_all at xs w) (failed_same at xs v w same)).turned x.id (turned_file x.file (ended_file at (end.Failed x.error))) id

failed_last : (at : ℕ) (xs : List Ending) (x : Ending) (v : Requests) → failed_all at (xs ++ x ∷ []) v ≡ failed_all at xs (finish x.id x.file at (end.Failed x.error) v)
failed_last at [] x v = refl
failed_last at (y ∷ xs) x v = ap (λ (w : Requests). finish y.id y.file at (end.Failed y.error) w) (failed_last at xs x v)

-- the last of them is called for
pub failed_more : (at : ℕ) (x : Ending) (xs all : List Ending) (v u w : Requests) → all ≡ xs ++ x ∷ [] → RequestsAgree u (finish x.id x.file at (end.Failed x.error) v) → RequestsAgree (failed_all at all v) w → RequestsAgree (failed_all at xs u) w
failed_more at x xs all v u w is call before id =
    failed_same at xs u (finish x.id x.file at (end.Failed x.error) v) call id
    ∙ ap (λ (r : Requests). request_in r id) (sym (failed_last at xs x v))
    ∙ ap (λ (ys : List Ending). request_in (failed_all at ys v) id) (sym is)
    ∙ before id

-- ---- for all that wait

-- calls for each of these, the last first
back_all : ℕ → (ℕ → FileEnd) → List (ℕ × ℕ) → Requests → Requests
back_all at how [] v = v
back_all at how (x ∷ xs) v = finish x.0 x.1 at (how x.1) (back_all at how xs v)

turned_round : List (ℕ × ℕ) → List (ℕ × ℕ)
turned_round [] = []
turned_round (x ∷ xs) = turned_round xs ++ x ∷ []

back_is : (at : ℕ) (how : ℕ → FileEnd) (xs : List (ℕ × ℕ)) (v : Requests) → back_all at how xs v ≡ finish_all at how (turned_round xs) v
unfolding back_all turned_round
back_is at how [] v = refl
back_is at how (x ∷ xs) v = ap (λ (w : Requests). finish x.0 x.1 at (how x.1) w) (back_is at how xs v) ∙ sym (finish_last at how (turned_round xs) x v)

-- the errors that are told are these
AreErrors : Site → Book → Charge → (ℕ → FileEnd) → List (ℕ × ℕ) → Type 0
AreErrors site b charge how [] = Unit {0}
AreErrors site b charge how (x ∷ xs) = (end.Failed (error_told site b charge x.1) ≡ how x.1) × AreErrors site b charge how xs

errors_by : (site : Site) (b : Book) (charge : Charge) (how : ℕ → FileEnd) (f : ℕ) (ids : List ℕ) (xs : List (ℕ × ℕ)) → end.Failed (error_told site b charge f) ≡ how f → AreErrors site b charge how xs → AreErrors site b charge how (with_file f ids ++ xs)
unfolding AreErrors
errors_by site b charge how f [] xs is rest = rest
errors_by site b charge how f (id ∷ ids) xs is rest = (is, errors_by site b charge how f ids xs is rest)

errors_all : (site : Site) (b : Book) (charge : Charge) (how : ℕ → FileEnd) (recalls : ℕ → Option Recall) (fs : List ℕ) → ((f : ℕ) → has_number f fs ≡ true → end.Failed (error_told site b charge f) ≡ how f) → AreErrors site b charge how (waits_for_all recalls fs)
unfolding AreErrors
errors_all site b charge how recalls [] each = tt
errors_all site b charge how recalls (f ∷ fs) each =
    errors_by site b charge how f (waiting_for (recalls f)) (waits_for_all recalls fs) (each f (first (f == f) (has_number f fs) (eq-eqb f f refl)))
    (errors_all site b charge how recalls fs (λ g there. each g (later (g == f) (has_number g fs) there)))
  where
    first : (a b : Bool) → a ≡ true → (a || b) ≡ true
    first true b e = refl
    first false b e = absurd (cc)

    later : (a b : Bool) → b ≡ true → (a || b) ≡ true
    later true b e = refl
    later false b e = e

ended_is : (site : Site) (b : Book) (charge : Charge) (at : ℕ) (how : ℕ → FileEnd) (xs : List (ℕ × ℕ)) (v : Requests) → AreErrors site b charge how xs → failed_all at (map (ending_of site b charge) xs) v ≡ back_all at how xs v
unfolding AreErrors back_all
ended_is site b charge at how [] v all = refl
ended_is site b charge at how (x ∷ xs) v all =
    ap (λ (w : Requests). finish x.0 x.1 at (end.Failed (error_told site b charge x.1)) w) (ended_is site b charge at how xs v all.1)
    ∙ ap (λ (f : FileEnd). finish x.0 x.1 at f (back_all at how xs v)) all.0

-- ---- which calls are made

or_turned : (a b : Bool) → (a || (b || false)) ≡ (b || a)
or_turned true true = refl
or_turned true false = refl
or_turned false true = refl
or_turned false false = refl

round_call : (k f : ℕ) (xs : List (ℕ × ℕ)) → has_call k f (turned_round xs) ≡ has_call k f xs
unfolding turned_round
round_call k f [] = refl
round_call k f (x ∷ xs) =
    list_any-append (λ (y : ℕ × ℕ). y.0 == k && y.1 == f) (turned_round xs) (x ∷ [])
    ∙ or_turned (has_call k f (turned_round xs)) (x.0 == k && x.1 == f)
    ∙ ap (λ (b : Bool). (x.0 == k && x.1 == f) || b) (round_call k f xs)

known_call : (k f g : ℕ) (known : ℕ → Bool) (ids : List ℕ) → known k ≡ true → has_call k f (with_file g ids) ≡ has_call k f (with_file g (filter known ids))
known_call k f g known [] on = refl
known_call k f g known (id ∷ ids) on = by (known id) refl (known_call k f g known ids on)
  where
    no : (a b : Bool) → (id == k) ≡ a → known id ≡ false → ((a && b) ≡ false)
    no true b e off = (let same : id ≡ k = eqb-true id k e in let bad : known id ≡ true = ap known same ∙ on in absurd (cc))
    no false b e off = refl

    by : (a : Bool) → known id ≡ a → has_call k f (with_file g ids) ≡ has_call k f (with_file g (filter known ids)) → ((id == k && g == f) || has_call k f (with_file g ids)) ≡ has_call k f (with_file g (if a then id ∷ filter known ids else filter known ids))
    by true e rest = ap (λ (b : Bool). (id == k && g == f) || b) rest
    by false e rest = ap (λ (b : Bool). b || has_call k f (with_file g ids)) (no (id == k) (g == f) refl e) ∙ rest

pub waits_call : (site : Site) (h : History) (v : Requests) (k f : ℕ) (recalls : ℕ → Option Recall) (fs : List ℕ) → is_some (request_in v k) ≡ true → ((g : ℕ) → recalls g ≡ live_recall site h g) → has_call k f (waits_for_all recalls fs) ≡ has_call k f (waiters site h v fs)
waits_call site h v k f recalls [] known same = refl
waits_call site h v k f recalls (g ∷ fs) known same =
    list_any-append (λ (y : ℕ × ℕ). y.0 == k && y.1 == f) (with_file g (waiting_for (recalls g))) (waits_for_all recalls fs)
    ∙ ap (λ (b : Bool). b || has_call k f (waits_for_all recalls fs)) (ap (λ (o : Option Recall). has_call k f (with_file g (waiting_for o))) (same g) ∙ known_call k f g (λ id. is_some (request_in v id)) (waiting_for (live_recall site h g)) known)
    ∙ ap (λ (b : Bool). has_call k f (waiters_of site h v g) || b) (waits_call site h v k f recalls fs known same)
    ∙ sym (list_any-append (λ (y : ℕ × ℕ). y.0 == k && y.1 == f) (waiters_of site h v g) (waiters site h v fs))

-- the files of those that wait fail, and the calls for those that are no requests do nothing
pub failed_are : (site : Site) (h : History) (b : Book) (charge : Charge) (at : ℕ) (how : ℕ → FileEnd) (pairs : List (ℕ × ℕ)) (fs : List ℕ) (v w : Requests) → ((g : ℕ) → b.recall g ≡ live_recall site h g) → pairs ≡ waits_for_all b.recall fs
    → ((f : ℕ) → has_number f fs ≡ true → end.Failed (error_told site b charge f) ≡ how f) → RequestsAgree w (failed_all at (map (ending_of site b charge) pairs) v) → RequestsAgree w (finish_all at how (waiters site h v fs) v)
failed_are site h b charge at how pairs fs v w same is errors call k =
    call k
    ∙ ap (λ (xs : List (ℕ × ℕ)). request_in (failed_all at (map (ending_of site b charge) xs) v) k) is
    ∙ ap (λ (r : Requests). request_in r k) (ended_is site b charge at how (waits_for_all b.recall fs) v (errors_all site b charge how b.recall fs errors) ∙ back_is at how (waits_for_all b.recall fs) v)
    ∙ finished_are at k how (turned_round (waits_for_all b.recall fs)) v
    ∙ by (request_in v k) refl
    ∙ sym (finished_are at k how (waiters site h v fs) v)
  where
    file : (o : Option ℕ) (s : RequestFile) → s.file ≡ o → is_some (request_in v k) ≡ true → all_turned (λ f. ended_file at (how f)) k (turned_round (waits_for_all b.recall fs)) s ≡ all_turned (λ f. ended_file at (how f)) k (waiters site h v fs) s
    file None s e there = not_called (λ f. ended_file at (how f)) k (turned_round (waits_for_all b.recall fs)) s e ∙ sym (not_called (λ f. ended_file at (how f)) k (waiters site h v fs) s e)
    file (Some f) s e there =
        settled (λ f. ended_file at (how f)) (finish_settled at how) k f (turned_round (waits_for_all b.recall fs)) s e
        ∙ ap (λ (t : Bool). if t then where_waiting (ended_file at (how f)) s.state s else s) (round_call k f (waits_for_all b.recall fs) ∙ waits_call site h v k f b.recall fs there same)
        ∙ sym (settled (λ f. ended_file at (how f)) (finish_settled at how) k f (waiters site h v fs) s e)

    by : (o : Option StageRequest) → request_in v k ≡ o
        → ◌≡◌ {A = Option StageRequest} (option_map (with_files (all_turned (λ f. ended_file at (how f)) k (turned_round (waits_for_all b.recall fs)))) o) (option_map (with_files (all_turned (λ f. ended_file at (how f)) k (waiters site h v fs))) o)
    by None e = refl
    by (Some r) e = with_same (all_turned (λ f. ended_file at (how f)) k (turned_round (waits_for_all b.recall fs))) (all_turned (λ f. ended_file at (how f)) k (waiters site h v fs)) (Some r) (λ s. file s.file s refl (ap is_some e))

-- whether one of these entries waits with the file
pub pair_call : (recalls : ℕ → Option Recall) (k f : ℕ) (fs : List ℕ) → has_call k f (waits_for_all recalls fs) ≡ (has_number f fs && has_number k (waiting_for (recalls f)))
pair_call recalls k f [] = refl
pair_call recalls k f (g ∷ fs) =
    list_any-append (λ (y : ℕ × ℕ). y.0 == k && y.1 == f) (with_file g (waiting_for (recalls g))) (waits_for_all recalls fs)
    ∙ ap (λ (b : Bool). b || has_call k f (waits_for_all recalls fs)) (one (waiting_for (recalls g)))
    ∙ ap (λ (b : Bool). (f == g && has_number k (waiting_for (recalls g))) || b) (pair_call recalls k f fs)
    ∙ by (f == g) refl
  where
    one : (ids : List ℕ) → has_call k f (with_file g ids) ≡ (f == g && has_number k ids)
    one [] = none (f == g)
      where
        none : (a : Bool) → false ≡ (a && false)
        none true = refl
        none false = refl
    one (id ∷ ids) = rw (eq_flip id k, eq_flip g f) (ap (λ (b : Bool). (k == id && f == g) || b) (one ids) ∙ ors (k == id) (f == g) (has_number k ids))
      where
        ors : (a b x : Bool) → ((a && b) || (b && x)) ≡ (b && (a || x))
        ors true true x = refl
        ors false true x = refl
        ors true false x = refl
        ors false false x = refl

    by : (t : Bool) → (f == g) ≡ t → ((t && has_number k (waiting_for (recalls g))) || (has_number f fs && has_number k (waiting_for (recalls f)))) ≡ ((t || has_number f fs) && has_number k (waiting_for (recalls f)))
    by true e = ap (λ (n : ℕ). has_number k (waiting_for (recalls n)) || (has_number f fs && has_number k (waiting_for (recalls f)))) (sym (eqb-true f g e)) ∙ all (has_number k (waiting_for (recalls f))) (has_number f fs)
      where
        all : (a b : Bool) → (a || (b && a)) ≡ a
        all true b = refl
        all false true = refl
        all false false = refl
    by false e = refl
