-- A Repack moves the parts by its items.
use Rattle.std.proofs.Common.{◌≡◌, ◌∙◌, ℕ, zero, suc, ◌+◌, inl, inr, List, [], ◌∷◌, ◌++◌, Bool, true, false, ◌&&◌, ◌||◌, not, refl, sym, ap, subst, length}
use Rattle.std.specs.Prelude.{Option, Some, None, is_none, is_some, if◌then◌else◌, ◌==◌, filter}
use Rattle.std.specs.List.{list_any}
use Rattle.std.proofs.lemmas.Bool.{and_parts, eqb-true, eq-eqb}
use Rattle.cta_site.specs.declared.site.Site.{Site}
use Rattle.cta_site.specs.declared.site.TapeState.{TapeState}
use Rattle.cta_site.specs.Listed.{Listed, rows}
use Rattle.cta_model.specs.declared.entries.Entry.{Entry}
use Rattle.cta_model.specs.declared.asks.Ask.{Ask}
use Rattle.cta_model.specs.declared.answers.Answer.{Answer}
use Rattle.cta_model.specs.declared.asks.Who.{Who}
use Rattle.cta_model.specs.declared.asks.Job.{Job}
use Rattle.cta_model.specs.declared.states.Place.{Place}
use Rattle.cta_model.specs.History.{History, has_number, is_empty}
use Rattle.cta_model.specs.Mounts.{has_job, has_copy, job_of}
use Rattle.cta_model.specs.Tapes.{tape_state, is_broken, may_be_repacked}
use Rattle.cta_model.specs.Places.{places_of, all_places, has_place_on}
use Rattle.cta_model.specs.Buffer.{is_resident}
use Rattle.cta_model.specs.Recalls.{Recall, live_recall, waits_for, bears_recall}
use Rattle.cta_model.specs.Jobs.{archive_birth, bears_archive, live_birth}
use Rattle.cta_model.specs.Answers.{refuse, answer_of, names_twice}
use Rattle.cta_model.specs.RepackItems.{repack_items}
use Rattle.cta_model.specs.Legal.{IsLegal}
use Rattle.cta_laws.proofs.Tests.{bool_cases}
use Rattle.cta_laws.proofs.Claims.{AllOf, all_append}
use Rattle.cta_laws.proofs.OnceLaw.{birth_in}
use Rattle.cta_laws.proofs.Sums.{IsDistinct}
use Rattle.cta_site.specs.declared.site.TapeState.TheVariants as state
use Rattle.cta_model.specs.declared.asks.Ask.TheVariants as ask
use Rattle.cta_model.specs.declared.answers.Answer.TheVariants as answer
use Rattle.cta_model.specs.declared.answers.Refusal.TheVariants as refusal
use Rattle.part_laws.specs.Births.{archives_of, bearing, files_of, recalled, recalls_of, repack_births}
use Rattle.cta_laws.proofs.RepackedJobs.{no_birth_is_lost}
use Rattle.cta_laws.proofs.RepackedCopies.{repacked_file, repacked_none}
use Rattle.part_laws.proofs.BirthSteps.{has_job_copy}
use Rattle.part_laws.proofs.StageParts.{distinct_filter, number_filter, parts_births, recalls_births, recalls_copy, recalls_no_copy, recalls_once}
use Rattle.part_laws.proofs.RetryParts.{twice_both}
use Rattle.part_laws.specs.BirthParts.{after_births}
use Rattle.part_laws.specs.JobParts.{JobParts, JobPartsStand}
use Rattle.cta_laws.specs.Changes.{may_change_claims, may_change_keys, may_change_mounts}
use Rattle.part_laws.proofs.BookSteps.{has_copy_both}
use Rattle.part_laws.proofs.BookMoves.{book_repack}

-- ---- the files of items

abbrev pub has_file : ℕ → List Job → Bool
has_file f js = list_any (λ (j : Job). f == j.file) js

pub drop : (x a b : Bool) → (x ≡ true → b ≡ false) → (a && b) ≡ ((x || a) && b)
drop true true b f = refl
drop true false b f = sym (f refl)
drop false a b f = refl

take : (x a b : Bool) → (x ≡ true → b ≡ false) → (x || (a && not (x || b))) ≡ ((x || a) && not b)
take true a b f = sym (rw (f refl) refl)
take false a b f = refl

pub files_has : (js : List Job) (seen : List ℕ) (f : ℕ) → has_number f (files_of js seen) ≡ (has_file f js && not (has_number f seen))
files_has [] seen f = refl
files_has (j ∷ js) seen f =
    elim (bool_cases (has_number j.file seen)) [
      | inl there ↦ rw there (files_has js seen f ∙ drop (f == j.file) (has_file f js) (not (has_number f seen)) (λ hit. ap not (subst (λ (n : ℕ). has_number n seen ≡ true) (sym (eqb-true f j.file hit)) there)))
      | inr new ↦ rw new (ap (λ (b : Bool). (f == j.file) || b) (files_has js (j.file ∷ seen) f) ∙ take (f == j.file) (has_file f js) (has_number f seen) (λ hit. subst (λ (n : ℕ). has_number n seen ≡ false) (sym (eqb-true f j.file hit)) new))
    ]

pub and_false : (x : Bool) → (x && false) ≡ false
and_false true = refl
and_false false = refl

pub files_once : (js : List Job) (seen : List ℕ) → IsDistinct (files_of js seen)
files_once [] seen = tt
files_once (j ∷ js) seen =
    elim (has_number j.file seen) as (λ b. IsDistinct (if b then files_of js seen else j.file ∷ files_of js (j.file ∷ seen)))
    [ true ↦ files_once js seen | false ↦ (files_has js (j.file ∷ seen) j.file ∙ rw (eq-eqb j.file j.file refl) (and_false (has_file j.file js)), files_once js (j.file ∷ seen)) ]

-- ---- the items of a Repack

whole_tape : (site : Site) (h : History) (v : ℕ) (ps : List Place) → is_broken (tape_state site h v) ≡ false → has_place_on v (filter (λ (p : Place). not (is_broken (tape_state site h p.tape))) ps) ≡ has_place_on v ps
whole_tape site h v [] whole = refl
whole_tape site h v (p ∷ ps) whole =
    elim (bool_cases (p.tape == v)) [
      | inl hit ↦ (let here : is_broken (tape_state site h p.tape) ≡ false = subst (λ (u : ℕ). is_broken (tape_state site h u) ≡ false) (sym (eqb-true p.tape v hit)) whole in rw here (rw hit refl))
      | inr miss ↦ elim (is_broken (tape_state site h p.tape)) as (λ b. has_place_on v (if not b then p ∷ filter (λ (p : Place). not (is_broken (tape_state site h p.tape))) ps else filter (λ (p : Place). not (is_broken (tape_state site h p.tape))) ps) ≡ ((p.tape == v) || has_place_on v ps)) [
        | true ↦ rw miss (whole_tape site h v ps whole)
        | false ↦ rw miss (whole_tape site h v ps whole)
      ]
    ]

-- ---- the archive jobs

-- whether a copy is of a resident file
abbrev wants_archive : Site → History → ℕ → ℕ → Bool
wants_archive site h f c = is_resident h f

archives_has : (site : Site) (h : History) (n f c : ℕ) (js seen : List Job) → has_copy f c (archives_of h n js seen) ≡ ((has_copy f c js && wants_archive site h f c) && not (has_copy f c seen))
archives_has site h n f c [] seen = refl
archives_has site h n f c (j ∷ js) seen =
    elim (bool_cases (wants_archive site h j.file j.copy && not (has_copy j.file j.copy seen))) [
      | inl hit ↦
          rw hit (ap (λ (b : Bool). (j.file == f && j.copy == c) || b) (archives_has site h n f c js (job_of n j.file j.copy ∷ seen))
          ∙ taken (j.file == f && j.copy == c) (has_copy f c js) (wants_archive site h f c) (has_copy f c seen) (λ same. moved true same hit))
      | inr miss ↦ rw miss (archives_has site h n f c js seen ∙ skipped (j.file == f && j.copy == c) (has_copy f c js) (wants_archive site h f c) (has_copy f c seen) (λ same. moved false same miss))
    ]
  where
    moved : (t : Bool) → (j.file == f && j.copy == c) ≡ true → (wants_archive site h j.file j.copy && not (has_copy j.file j.copy seen)) ≡ t → (wants_archive site h f c && not (has_copy f c seen)) ≡ t
    moved t same e =
        (let parts : (j.file == f ≡ true) × (j.copy == c ≡ true) = and_parts (j.file == f) (j.copy == c) same in
        ap (λ (x : ℕ). wants_archive site h f x && not (has_copy f x seen)) (sym (eqb-true j.copy c parts.1)) ∙ ap (λ (x : ℕ). wants_archive site h x j.copy && not (has_copy x j.copy seen)) (sym (eqb-true j.file f parts.0)) ∙ e)

    taken : (m x w s : Bool) → (m ≡ true → (w && not s) ≡ true) → (m || ((x && w) && not (m || s))) ≡ (((m || x) && w) && not s)
    taken true x w s f = sym (f refl)
    taken false x w s f = refl

    skipped : (m x w s : Bool) → (m ≡ true → (w && not s) ≡ false) → ((x && w) && not s) ≡ (((m || x) && w) && not s)
    skipped true true w s f = refl
    skipped true false w s f = sym (f refl)
    skipped false x w s f = refl

archives_births : (site : Site) (h : History) (n : ℕ) (js seen : List Job) → AllOf (λ (j : Job). j.birth ≡ n) (archives_of h n js seen)
archives_births site h n [] seen = tt
archives_births site h n (j ∷ js) seen =
    elim (wants_archive site h j.file j.copy && not (has_copy j.file j.copy seen)) as (λ b. AllOf (λ (j : Job). j.birth ≡ n) (if b then job_of n j.file j.copy ∷ archives_of h n js (job_of n j.file j.copy ∷ seen) else archives_of h n js seen))
    [ true ↦ (refl, archives_births site h n js (job_of n j.file j.copy ∷ seen)) | false ↦ archives_births site h n js seen ]

archives_once : (site : Site) (h : History) (n : ℕ) (js seen : List Job) → names_twice (archives_of h n js seen) ≡ false
archives_once site h n [] seen = refl
archives_once site h n (j ∷ js) seen =
    elim (wants_archive site h j.file j.copy && not (has_copy j.file j.copy seen)) as (λ b. names_twice (if b then job_of n j.file j.copy ∷ archives_of h n js (job_of n j.file j.copy ∷ seen) else archives_of h n js seen) ≡ false)
    [ true ↦ rw new (archives_once site h n js (job_of n j.file j.copy ∷ seen)) | false ↦ archives_once site h n js seen ]
  where
    lacks : has_copy j.file j.copy (archives_of h n js (job_of n j.file j.copy ∷ seen)) ≡ false
    lacks =
        archives_has site h n j.file j.copy js (job_of n j.file j.copy ∷ seen)
        ∙ rw (eq-eqb j.file j.file refl, eq-eqb j.copy j.copy refl) (and_false (has_copy j.file j.copy js && wants_archive site h j.file j.copy))

    new : has_job (job_of n j.file j.copy) (archives_of h n js (job_of n j.file j.copy ∷ seen)) ≡ false
    new = elim (bool_cases (has_job (job_of n j.file j.copy) (archives_of h n js (job_of n j.file j.copy ∷ seen)))) [ inl hit ↦ (let bad : has_copy j.file j.copy (archives_of h n js (job_of n j.file j.copy ∷ seen)) ≡ true = has_job_copy (job_of n j.file j.copy) _ hit in let flat : true ≡ false = sym bad ∙ lacks in absurd (cc)) | inr miss ↦ miss ]

-- ---- Repack

told_jobs : Answer → List Job
told_jobs (answer.Repacking id items) = items.items
told_jobs _ = []

repacking_is : (heavy none ok live : Bool) (n id : ℕ) (xs : List Job) (items : Listed Job) → answer.Repacking id items ≡ refuse refusal.HistoryFull heavy (refuse refusal.NoTape none (refuse refusal.NotRepacking (not ok) (refuse refusal.RepackLive live (answer.Repacking n (rows xs))))) → (items.items ≡ xs) × (ok ≡ true)
unfolding told_jobs
repacking_is true none ok live n id xs items e = absurd (cc)
repacking_is false true ok live n id xs items e = absurd (cc)
repacking_is false false false live n id xs items e = absurd (cc)
repacking_is false false true true n id xs items e = absurd (cc)
repacking_is false false true false n id xs items e = (ap told_jobs e, refl)

repacked_whole : (s : TapeState) → may_be_repacked s ≡ true → is_broken s ≡ false
repacked_whole state.Repacking e = refl
repacked_whole _ e = absurd (cc)

no_copy_zero : (site : Site) (h : History) (n f : ℕ) (js : List Job) → has_copy f 0 js ≡ false → has_copy f 0 (archives_of h n js []) ≡ false
no_copy_zero site h n f js none = archives_has site h n f 0 js [] ∙ rw none refl

all_both : (n : ℕ) (xs ys : List Job) → AllOf (λ (j : Job). j.birth ≡ n) xs → AllOf (λ (j : Job). j.birth ≡ n) ys → AllOf (λ (j : Job). j.birth ≡ n) (xs ++ ys)
all_both n xs ys a b = all_append (λ (j : Job). j.birth ≡ n) xs ys a b

-- a Repack moves the parts by its items
pub parts_repack_by : (site : Site) (h : History) (e : Entry) (who : Who) (v id : ℕ) (items : Listed Job) (p : JobParts) → IsLegal site (e ∷ h) → e.ask ≡ ask.Repack who v → e.answer ≡ answer.Repacking id items
    → JobPartsStand site h p → JobPartsStand site (e ∷ h) (after_births site (e ∷ h) (repack_births site h e.ask (length h + 1) items.items) (recalled site h (files_of items.items [])) p)
parts_repack_by site h e who v id items p legal ek ea s =
    parts_births site h e (repack_births site h e.ask (length h + 1) items.items) (recalled site h (files_of items.items [])) p legal
    (book_repack site h e who v id items (repack_births site h e.ask (length h + 1) items.items) (recalled site h (files_of items.items [])) legal ek ea (λ f c. copies f c) (λ f. born f) (λ f. old f))
    (all_both (length h + 1) (recalls_of (length h + 1) (bearing site h e.ask (files_of items.items []))) (archives_of h (length h + 1) items.items []) (recalls_births (length h + 1) (bearing site h e.ask (files_of items.items []))) (archives_births site h (length h + 1) items.items []))
    (twice_both (recalls_of (length h + 1) (bearing site h e.ask (files_of items.items []))) (archives_of h (length h + 1) items.items [])
    (recalls_once (length h + 1) (bearing site h e.ask (files_of items.items [])) (distinct_filter (λ f. is_none (live_recall site h f) && bears_recall site h e.ask f) (files_of items.items []) (files_once items.items [])))
    (archives_once site h (length h + 1) items.items []) (λ j there. apart j there))
    (λ f c there. new f c there)
    (ap may_change_claims ek) (ap may_change_keys ek) (ap may_change_mounts ek) s
  where
    told : (items.items ≡ repack_items h v) × (may_be_repacked (tape_state site h v) ≡ true)
    told = repacking_is _ _ (may_be_repacked (tape_state site h v)) _ (length h + 1) id (repack_items h v) items (sym ea ∙ legal.1.answered ∙ ap (answer_of site h e.at) ek)

    zero_none : (f : ℕ) → has_copy f 0 items.items ≡ false
    zero_none f = ap (has_copy f 0) told.0 ∙ repacked_none site h legal.0 v f

    named : (f : ℕ) → has_number f (files_of items.items []) ≡ waits_for site h e.ask f
    named f =
        files_has items.items [] f ∙ and_true (has_file f items.items) ∙ ap (has_file f) told.0 ∙ repacked_file site h legal.0 v f
        ∙ sym (ap (λ (k : Ask). waits_for site h k f) ek ∙ whole_tape site h v (all_places site h f) (repacked_whole (tape_state site h v) told.1))
      where
        and_true : (x : Bool) → (x && true) ≡ x
        and_true true = refl
        and_true false = refl

    -- no birth is lost: an item of a resident file has no live archive job
    dead : (f c : ℕ) → (is_resident h f && has_copy f (suc c) items.items) ≡ true → is_none (archive_birth site h f (suc c)) ≡ true
    dead f c both =
        (let bears : bears_archive site h e.ask e.answer f (suc c) ≡ true = ap (λ (k : Ask). bears_archive site h k e.answer f (suc c)) ek ∙ ap (λ (a : Answer). bears_archive site h (ask.Repack who v) a f (suc c)) ea ∙ both in
        ap is_none (no_birth_is_lost site h e legal f c bears))

    copies : (f c : ℕ) → has_copy f (suc c) (repack_births site h e.ask (length h + 1) items.items) ≡ (is_none (archive_birth site h f (suc c)) && (is_resident h f && has_copy f (suc c) items.items))
    copies f c =
        has_copy_both f (suc c) (recalls_of (length h + 1) (bearing site h e.ask (files_of items.items []))) (archives_of h (length h + 1) items.items [])
        ∙ rw (recalls_no_copy (length h + 1) f c (bearing site h e.ask (files_of items.items []))) (archives_has site h (length h + 1) f (suc c) items.items [] ∙ by (has_copy f (suc c) items.items) (is_resident h f) (λ both. dead f c both))
      where
        by : (x r : Bool) → ((r && x) ≡ true → is_none (archive_birth site h f (suc c)) ≡ true) → ((x && r) && true) ≡ (is_none (archive_birth site h f (suc c)) && (r && x))
        by true true none = sym (rw (none refl) refl)
        by true false none = sym (and_false (is_none (archive_birth site h f (suc c))))
        by false true none = sym (and_false (is_none (archive_birth site h f (suc c))))
        by false false none = sym (and_false (is_none (archive_birth site h f (suc c))))

    shift_born : (w n r : Bool) → (w && (n && (w && r))) ≡ (n && (w && r))
    shift_born true n r = refl
    shift_born false true r = refl
    shift_born false false r = refl

    or_false : (x : Bool) → (x || false) ≡ x
    or_false true = refl
    or_false false = refl

    born : (f : ℕ) → has_copy f 0 (repack_births site h e.ask (length h + 1) items.items) ≡ (is_none (live_recall site h f) && bears_recall site h e.ask f)
    born f =
        has_copy_both f 0 (recalls_of (length h + 1) (bearing site h e.ask (files_of items.items []))) (archives_of h (length h + 1) items.items [])
        ∙ ap (λ (b : Bool). has_copy f 0 (recalls_of (length h + 1) (bearing site h e.ask (files_of items.items []))) || b) (no_copy_zero site h (length h + 1) f items.items (zero_none f))
        ∙ or_false (has_copy f 0 (recalls_of (length h + 1) (bearing site h e.ask (files_of items.items []))))
        ∙ recalls_copy (length h + 1) f (bearing site h e.ask (files_of items.items []))
        ∙ number_filter (λ f. is_none (live_recall site h f) && bears_recall site h e.ask f) f (files_of items.items [])
        ∙ ap (λ (b : Bool). b && (is_none (live_recall site h f) && bears_recall site h e.ask f)) (named f)
        ∙ shift_born (waits_for site h e.ask f) (is_none (live_recall site h f)) (not (is_resident h f) && not (is_empty (places_of site h f)))

    swap : (a b : Bool) → (a && b) ≡ (b && a)
    swap true true = refl
    swap true false = refl
    swap false true = refl
    swap false false = refl

    old : (f : ℕ) → has_number f (recalled site h (files_of items.items [])) ≡ (is_some (live_recall site h f) && waits_for site h e.ask f)
    old f = number_filter (λ f. is_some (live_recall site h f)) f (files_of items.items []) ∙ ap (λ (b : Bool). b && is_some (live_recall site h f)) (named f) ∙ swap (waits_for site h e.ask f) (is_some (live_recall site h f))

    none_there : (o : Option Recall) → is_none o ≡ true → birth_in o ≡ None
    none_there None x = refl
    none_there (Some r) x = absurd (cc)

    none_born : (o : Option ℕ) → is_none o ≡ true → o ≡ None
    none_born None x = refl
    none_born (Some b) x = absurd (cc)

    new : (f c : ℕ) → has_copy f c (repack_births site h e.ask (length h + 1) items.items) ≡ true → live_birth site h f c ≡ None
    new f zero there = none_there (live_recall site h f) (and_parts (is_none (live_recall site h f)) _ (sym (born f) ∙ there)).0
    new f (suc c) there = none_born (archive_birth site h f (suc c)) (and_parts (is_none (archive_birth site h f (suc c))) _ (sym (copies f c) ∙ there)).0

    apart : (j : Job) → has_job j (recalls_of (length h + 1) (bearing site h e.ask (files_of items.items []))) ≡ true → has_job j (archives_of h (length h + 1) items.items []) ≡ false
    apart j there =
        elim (bool_cases (has_job j (archives_of h (length h + 1) items.items []))) [
          | inr miss ↦ miss
          | inl hit ↦ absurd (by j.copy (has_job_copy j _ there) (has_job_copy j _ hit))
        ]
      where
        by : (c : ℕ) → has_copy j.file c (recalls_of (length h + 1) (bearing site h e.ask (files_of items.items []))) ≡ true → has_copy j.file c (archives_of h (length h + 1) items.items []) ≡ true → ⊥
        by zero a b = (let none : has_copy j.file 0 (archives_of h (length h + 1) items.items []) ≡ false = no_copy_zero site h (length h + 1) j.file items.items (zero_none j.file) in absurd (cc))
        by (suc c) a b = (let none : has_copy j.file (suc c) (recalls_of (length h + 1) (bearing site h e.ask (files_of items.items []))) ≡ false = recalls_no_copy (length h + 1) j.file c (bearing site h e.ask (files_of items.items [])) in absurd (cc))
