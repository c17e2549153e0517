-- The recalls that a TapeState moves and ends are those of the files that have a place on its tape.
use Rattle.std.proofs.Common.{◌≡◌, ◌∙◌, ℕ, zero, suc, ◌≤◌, inl, inr, List, [], ◌∷◌, Bool, true, false, ◌&&◌, ◌||◌, refl, sym, ap, subst, arith, length}
use Rattle.std.specs.Prelude.{Option, Some, None, option_map, is_none, is_some, if◌then◌else◌, ◌==◌, filter}
use Rattle.std.specs.List.{filter_map, list_any, cons_option}
use Rattle.std.proofs.lemmas.Bool.{eqb-true, eq-eqb}
use Rattle.cta_site.specs.declared.site.Site.{Site}
use Rattle.cta_model.specs.declared.asks.Direction.TheVariants as direction
use Rattle.cta_model.specs.declared.asks.Job.{Job}
use Rattle.cta_model.specs.History.{History, has_number, is_empty, is_number}
use Rattle.cta_model.specs.Mounts.{claimer_of, has_copy, has_job, same_direction, same_job}
use Rattle.cta_model.specs.Places.{all_places, has_place_on, places_of}
use Rattle.cta_model.specs.Recalls.{Recall, live_recall, recall_job}
use Rattle.cta_model.specs.RepackItems.{repack_items}
use Rattle.cta_model.specs.Jobs.{is_live_job, live_birth}
use Rattle.cta_model.specs.Queues.{direction_of, way_by}
use Rattle.cta_model.specs.Answers.{names_twice}
use Rattle.cta_model.specs.Legal.{IsLegal}
use Rattle.cta_laws.proofs.Bools.{same_bool}
use Rattle.cta_laws.proofs.OnceLaw.{birth_in}
use Rattle.cta_laws.proofs.PlaceLaw.{named_within}
use Rattle.cta_laws.proofs.Ranges.{any_filter, any_same, is_some_where}
use Rattle.cta_laws.proofs.RepackedCopies.{repacked_file}
use Rattle.cta_laws.proofs.ResidentLaw.{recall_live}
use Rattle.cta_laws.proofs.Sums.{IsDistinct}
use Rattle.cta_laws.proofs.Tests.{bool_cases}
use Rattle.cta_model.specs.Files.{path_of}
use Rattle.part_laws.proofs.Orders.{has_filter}
use Rattle.part_laws.proofs.FailSteps.{twice_filter}
use Rattle.part_laws.specs.Births.{files_of}
use Rattle.part_laws.specs.RecallLaws.{StateListsAreRecalls}
use Rattle.part_laws.specs.StateLists.{recall_of, recalls_on}
use Rattle.part_laws.proofs.RepackLists.{recall_has_place, state_leaves}
use Rattle.part_laws.proofs.RepackParts.{files_has, files_once}

-- whether a job is the live recall of its file
abbrev is_recall : Site → History → Job → Bool
is_recall site h j = (j.copy == 0) && is_number j.birth (birth_in (live_recall site h j.file))

-- ---- the recalls of files

one_recall : (site : Site) (h : History) (j : Job) (f : ℕ) → is_some_where (same_job j) (recall_of site h f) ≡ ((j.file == f) && is_recall site h j)
one_recall site h j f =
    elim (bool_cases (j.file == f)) [
      | inl hit ↦ subst (λ (n : ℕ). is_some_where (same_job j) (recall_of site h n) ≡ ((j.file == n) && is_recall site h j)) (eqb-true j.file f hit) (here (live_recall site h j.file) ∙ ap (λ (b : Bool). b && is_recall site h j) (sym (eq-eqb j.file j.file refl)))
      | inr miss ↦ rw miss (other (live_recall site h f) miss)
    ]
  where
    here : (o : Option Recall) → is_some_where (same_job j) (option_map (λ (r : Recall). recall_job r.birth j.file) o) ≡ ((j.copy == 0) && is_number j.birth (birth_in o))
    here None = none (j.copy == 0)
      where
        none : (a : Bool) → false ≡ (a && false)
        none true = refl
        none false = refl
    here (Some r) = same_bool (same_job j (recall_job r.birth j.file)) ((j.copy == 0) && (j.birth == r.birth)) (λ e. grind arith) (λ e. grind arith)

    other : (o : Option Recall) → (j.file == f) ≡ false → is_some_where (same_job j) (option_map (λ (r : Recall). recall_job r.birth f) o) ≡ false
    other None d = refl
    other (Some r) d = elim (bool_cases (same_job j (recall_job r.birth f))) [ inl hit ↦ absurd (grind arith) | inr miss ↦ miss ]

recalls_has : (site : Site) (h : History) (j : Job) (fs : List ℕ) → has_job j (filter_map (recall_of site h) fs) ≡ (has_number j.file fs && is_recall site h j)
recalls_has site h j [] = refl
recalls_has site h j (f ∷ fs) =
    head (recall_of site h f) ∙ ap (λ (b : Bool). b || has_job j (filter_map (recall_of site h) fs)) (one_recall site h j f) ∙ ap (λ (b : Bool). ((j.file == f) && is_recall site h j) || b) (recalls_has site h j fs)
    ∙ merge (j.file == f) (has_number j.file fs) (is_recall site h j)
  where
    head : (o : Option Job) → has_job j (cons_option o (filter_map (recall_of site h) fs)) ≡ (is_some_where (same_job j) o || has_job j (filter_map (recall_of site h) fs))
    head None = refl
    head (Some k) = refl

    merge : (a b c : Bool) → ((a && c) || (b && c)) ≡ ((a || b) && c)
    merge true b true = refl
    merge true true false = refl
    merge true false false = refl
    merge false b c = refl

recalls_twice : (site : Site) (h : History) (fs : List ℕ) → IsDistinct fs → names_twice (filter_map (recall_of site h) fs) ≡ false
recalls_twice site h [] dis = refl
recalls_twice site h (f ∷ fs) dis = by (live_recall site h f) (recalls_twice site h fs dis.1)
  where
    by : (o : Option Recall) → names_twice (filter_map (recall_of site h) fs) ≡ false → names_twice (cons_option (option_map (λ (r : Recall). recall_job r.birth f) o) (filter_map (recall_of site h) fs)) ≡ false
    by None rest = rest
    by (Some r) rest = (let new : has_job (recall_job r.birth f) (filter_map (recall_of site h) fs) ≡ false = recalls_has site h (recall_job r.birth f) fs ∙ ap (λ (b : Bool). b && is_recall site h (recall_job r.birth f)) dis.0 in rw new rest)

recalls_no_copy : (site : Site) (h : History) (f c : ℕ) (test : Job → Bool) (fs : List ℕ) → has_copy f (suc c) (filter test (filter_map (recall_of site h) fs)) ≡ false
recalls_no_copy site h f c test [] = refl
recalls_no_copy site h f c test (g ∷ fs) = by (live_recall site h g) (recalls_no_copy site h f c test fs)
  where
    none : (x : Bool) → ((x && false) || false) ≡ false
    none true = refl
    none false = refl

    by : (o : Option Recall) → has_copy f (suc c) (filter test (filter_map (recall_of site h) fs)) ≡ false → has_copy f (suc c) (filter test (cons_option (option_map (λ (r : Recall). recall_job r.birth g) o) (filter_map (recall_of site h) fs))) ≡ false
    by None rest = rest
    by (Some r) rest =
        elim (test (recall_job r.birth g)) as (λ b. has_copy f (suc c) (if b then recall_job r.birth g ∷ filter test (filter_map (recall_of site h) fs) else filter test (filter_map (recall_of site h) fs)) ≡ false) [
          | true ↦ (let other : (0 == suc c) ≡ false = grind arith in rw (other, rest) (none (g == f)))
          | false ↦ rest
        ]

recalls_copy : (site : Site) (h : History) (f : ℕ) (fs : List ℕ) → has_copy f 0 (filter_map (recall_of site h) fs) ≡ (has_number f fs && is_some (live_recall site h f))
recalls_copy site h f [] = refl
recalls_copy site h f (g ∷ fs) = by (live_recall site h g) refl ∙ ap (λ (b : Bool). ((f == g) && is_some (live_recall site h f)) || b) (recalls_copy site h f fs) ∙ merge (f == g) (has_number f fs) (is_some (live_recall site h f))
  where
    merge : (a b c : Bool) → ((a && c) || (b && c)) ≡ ((a || b) && c)
    merge true b true = refl
    merge true true false = refl
    merge true false false = refl
    merge false b c = refl

    here : (t : Bool) → (f == g) ≡ t → (o : Option Recall) → live_recall site h g ≡ o → (t && is_some (live_recall site h f)) ≡ (t && is_some o)
    here true hit o is = ap is_some (ap (live_recall site h) (eqb-true f g hit) ∙ is)
    here false miss o is = refl

    drop : (a b : Bool) → b ≡ ((a && false) || b)
    drop true b = refl
    drop false b = refl

    keep : (a b c : Bool) → a ≡ c → ((a && true) || b) ≡ ((c && true) || b)
    keep a b c e = ap (λ (x : Bool). (x && true) || b) e

    by : (o : Option Recall) → live_recall site h g ≡ o → has_copy f 0 (cons_option (option_map (λ (r : Recall). recall_job r.birth g) o) (filter_map (recall_of site h) fs)) ≡ (((f == g) && is_some (live_recall site h f)) || has_copy f 0 (filter_map (recall_of site h) fs))
    by None is = drop (f == g) (has_copy f 0 (filter_map (recall_of site h) fs)) ∙ ap (λ (b : Bool). b || has_copy f 0 (filter_map (recall_of site h) fs)) (sym (here (f == g) refl None is))
    by (Some r) is =
        keep (g == f) (has_copy f 0 (filter_map (recall_of site h) fs)) (f == g) (same_bool (g == f) (f == g) (λ e. eq-eqb f g (sym (eqb-true g f e))) (λ e. eq-eqb g f (sym (eqb-true f g e))))
        ∙ ap (λ (b : Bool). b || has_copy f 0 (filter_map (recall_of site h) fs)) (sym (here (f == g) refl (Some r) is))

-- ---- the files of the tape

files_on : (site : Site) (h : History) → IsLegal site h → (v f : ℕ) → has_number f (files_of (repack_items h v) []) ≡ has_place_on v (all_places site h f)
files_on site h legal v f = files_has (repack_items h v) [] f ∙ and_true (list_any (λ (j : Job). f == j.file) (repack_items h v)) ∙ repacked_file site h legal v f
  where
    and_true : (x : Bool) → (x && true) ≡ x
    and_true true = refl
    and_true false = refl

-- a live recall is a live job that goes the way of recalls
recall_waits : (site : Site) (h : History) (j : Job) → is_recall site h j ≡ (is_live_job site h j && same_direction direction.Retrieve (direction_of j))
recall_waits site h j = by j.copy
  where
    and_true : (x : Bool) → x ≡ (x && true)
    and_true true = refl
    and_true false = refl

    none : (x : Bool) → false ≡ (x && false)
    none true = refl
    none false = refl

    by : (c : ℕ) → ((c == 0) && is_number j.birth (birth_in (live_recall site h j.file))) ≡ (is_number j.birth (live_birth site h j.file c) && same_direction direction.Retrieve (way_by c))
    by zero = and_true (is_number j.birth (birth_in (live_recall site h j.file)))
    by (suc c) = (let other : (suc c == 0) ≡ false = grind arith in rw other (none (is_number j.birth (live_birth site h j.file (suc c)))))

filter_by_file : (test : ℕ → Bool) (f : ℕ) (js : List Job) → has_copy f 0 (filter (λ (j : Job). test j.file) js) ≡ (has_copy f 0 js && test f)
filter_by_file test f js =
    any_filter (λ (j : Job). j.file == f && j.copy == 0) (λ (j : Job). test j.file) js ∙ any_same (λ (j : Job). test j.file && (j.file == f && j.copy == 0)) (λ (j : Job). (j.file == f && j.copy == 0) && test f) js (λ j. one j) ∙ out js
  where
    one : (j : Job) → (test j.file && (j.file == f && j.copy == 0)) ≡ ((j.file == f && j.copy == 0) && test f)
    one j =
        elim (bool_cases (j.file == f)) [
          | inl hit ↦ rw hit (ap (λ (n : ℕ). test n && (j.copy == 0)) (eqb-true j.file f hit) ∙ swap (test f) (j.copy == 0))
          | inr miss ↦ rw miss (none (test j.file))
        ]
      where
        swap : (a b : Bool) → (a && b) ≡ (b && a)
        swap true true = refl
        swap true false = refl
        swap false true = refl
        swap false false = refl

        none : (a : Bool) → (a && false) ≡ false
        none true = refl
        none false = refl

    merge : (a b c : Bool) → ((a && c) || (b && c)) ≡ ((a || b) && c)
    merge true b true = refl
    merge true true false = refl
    merge true false false = refl
    merge false b c = refl

    out : (ks : List Job) → list_any (λ (j : Job). (j.file == f && j.copy == 0) && test f) ks ≡ (has_copy f 0 ks && test f)
    out [] = refl
    out (k ∷ ks) = ap (λ (b : Bool). ((k.file == f && k.copy == 0) && test f) || b) (out ks) ∙ merge (k.file == f && k.copy == 0) (has_copy f 0 ks) (test f)

-- ---- the two lists

pub state_lists : StateListsAreRecalls
state_lists site h e who v s legal ek = record {
  once = twice_filter (λ j. is_none (claimer_of h j)) (recalls_on site h v) (recalls_twice site h (files_of (repack_items h v) []) (files_once (repack_items h v) []));
  queued = λ j. has_filter (λ j. is_none (claimer_of h j)) j (recalls_on site h v) ∙ ap (λ (b : Bool). b && is_none (claimer_of h j)) (recalls_has site h j (files_of (repack_items h v) []))
      ∙ ap (λ (b : Bool). (b && is_recall site h j) && is_none (claimer_of h j)) (files_on site h legal.0 v j.file) ∙ ap (λ (b : Bool). (has_place_on v (all_places site h j.file) && b) && is_none (claimer_of h j)) (recall_waits site h j)
      ∙ shift (has_place_on v (all_places site h j.file)) (is_live_job site h j) (same_direction direction.Retrieve (direction_of j)) (is_none (claimer_of h j));
  recalls_alone = λ f c. recalls_no_copy site h f c (λ (j : Job). is_empty (places_of site (e ∷ h) j.file)) (files_of (repack_items h v) []);
  placeless = λ f on. filter_by_file (λ n. is_empty (places_of site (e ∷ h) n)) f (recalls_on site h v) ∙ ap (λ (b : Bool). b && is_empty (places_of site (e ∷ h) f)) (recalls_copy site h f (files_of (repack_items h v) []))
      ∙ ap (λ (b : Bool). (b && is_some (live_recall site h f)) && is_empty (places_of site (e ∷ h) f)) (files_on site h legal.0 v f) ∙ ap (λ (b : Bool). (has_place_on v (all_places site h f) && b) && is_empty (places_of site (e ∷ h) f)) on
      ∙ by f (has_place_on v (all_places site h f)) refl on;
}
  where
    shift : (p a d n : Bool) → ((p && (a && d)) && n) ≡ ((a && (d && n)) && p)
    shift true true true true = refl
    shift true true true false = refl
    shift true true false n = refl
    shift true false d n = refl
    shift false true true true = refl
    shift false true true false = refl
    shift false true false n = refl
    shift false false d n = refl

    stays : (f : ℕ) (o : Option Recall) → live_recall site h f ≡ o → is_some o ≡ true → has_place_on v (all_places site h f) ≡ false → is_empty (places_of site (e ∷ h) f) ≡ false
    stays f None is on none = absurd (cc)
    stays f (Some r) is on none =
        (let low : f ≤ length h = (named_within h f (path_of h f) (recall_live site h legal.0 f (ap is_some is))).1 in
        ap is_empty (state_leaves site h e who v s f ek low none).0 ∙ recall_has_place site h legal.0 f r is)

    by : (f : ℕ) (t : Bool) → has_place_on v (all_places site h f) ≡ t → is_some (live_recall site h f) ≡ true → ((t && true) && is_empty (places_of site (e ∷ h) f)) ≡ is_empty (places_of site (e ∷ h) f)
    by f true is on = refl
    by f false is on = sym (stays f (live_recall site h f) refl on is)
