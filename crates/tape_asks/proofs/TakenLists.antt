-- The jobs that a repack bears and the recalls that it joins are those of the history.
use Rattle.std.proofs.Common.{◌≡◌, ◌∙◌, ◌⊎◌, ℕ, inl, inr, List, [], ◌∷◌, Bool, true, false, ◌||◌, not, refl, sym, ap, arith}
use Rattle.std.specs.Prelude.{Option, Some, None, is_none, is_some, ◌==◌, ◌&&◌, if◌then◌else◌, filter, map}
use Rattle.std.specs.List.{cons_option, filter_map, list_any}
use Rattle.std.proofs.lemmas.Bool.{eq-eqb, eqb-true}
use Rattle.cta_site.specs.declared.site.Site.{Site}
use Rattle.cta_site.specs.declared.site.TapeState.{TapeState}
use Rattle.cta_site.specs.declared.site.TapeState.TheVariants as state
use Rattle.cta_model.specs.declared.asks.Ask.TheVariants as ask
use Rattle.cta_model.specs.declared.asks.Job.{Job}
use Rattle.cta_model.specs.declared.asks.Who.{Who}
use Rattle.cta_model.specs.declared.states.Place.{Place}
use Rattle.cta_model.specs.Answers.{names_twice}
use Rattle.cta_model.specs.Buffer.{is_resident}
use Rattle.cta_model.specs.History.{History, has_number, is_empty}
use Rattle.cta_model.specs.Mounts.{has_copy, has_job, job_of, same_job}
use Rattle.cta_model.specs.Places.{has_place_on, places_of}
use Rattle.cta_model.specs.Recalls.{Recall, live_recall, recall_job}
use Rattle.cta_model.specs.Tapes.{is_broken, may_be_repacked, tape_state}
use Rattle.cta_laws.proofs.Sums.{IsDistinct}
use Rattle.cta_laws.proofs.Tests.{bool_cases, or_left, or_right}
use Rattle.part_model.specs.Held.{Held, is_held}
use Rattle.part_model.specs.JobBook.{Book}
use Rattle.part_model.specs.Repacks.{Target}
use Rattle.part_laws.specs.QueueBooks.{IsBook}
use Rattle.part_laws.specs.Births.{archives_of, bearing, recalled, recalls_of}
use Rattle.part_laws.specs.BookCalls.{items_here}
use Rattle.part_moves.specs.Flags.{job_files}
use Rattle.tape_asks.specs.Lists.{AreOnce, joined_by, newborn_by, targets_of, written_by}

-- ---- a REPACKING tape has its places

pub not_broken : (s : TapeState) → may_be_repacked s ≡ true → is_broken s ≡ false
not_broken state.Active e = absurd (cc)
not_broken state.Disabled e = absurd (cc)
not_broken state.Broken e = absurd (cc)
not_broken state.Repacking e = refl

pub whole_there : (site : Site) (h : History) (v : ℕ) (ps : List Place) → is_broken (tape_state site h v) ≡ false → has_place_on v ps ≡ true → has_place_on v (filter (λ (p : Place). not (is_broken (tape_state site h p.tape))) ps) ≡ true
whole_there site h v [] whole e = absurd (cc)
whole_there site h v (p ∷ ps) whole e = by (p.tape == v) refl e (λ more. whole_there site h v ps whole more)
  where
    kept : (b : Bool) → (list_any (λ (q : Place). q.tape == v) (filter (λ (p : Place). not (is_broken (tape_state site h p.tape))) ps) ≡ true)
        → has_place_on v (if b then p ∷ filter (λ (p : Place). not (is_broken (tape_state site h p.tape))) ps else filter (λ (p : Place). not (is_broken (tape_state site h p.tape))) ps) ≡ true
    kept true more = or_right (p.tape == v) _ more
    kept false more = more

    by : (b : Bool) → (p.tape == v) ≡ b → (b || has_place_on v ps) ≡ true → (has_place_on v ps ≡ true → has_place_on v (filter (λ (p : Place). not (is_broken (tape_state site h p.tape))) ps) ≡ true)
        → has_place_on v (if not (is_broken (tape_state site h p.tape)) then p ∷ filter (λ (p : Place). not (is_broken (tape_state site h p.tape))) ps else filter (λ (p : Place). not (is_broken (tape_state site h p.tape))) ps) ≡ true
    by true is x rest =
        (let here : is_broken (tape_state site h p.tape) ≡ false = ap (λ (n : ℕ). is_broken (tape_state site h n)) (eqb-true p.tape v is) ∙ whole in
        rw here (or_left (p.tape == v) _ is))
    by false is x rest = kept (not (is_broken (tape_state site h p.tape))) (rest x)

pub some_there : (v : ℕ) (ps : List Place) → has_place_on v ps ≡ true → is_empty ps ≡ false
some_there v [] e = absurd (cc)
some_there v (p ∷ ps) e = refl

-- ---- what is joined

pub joined_are : (site : Site) (h : History) (b : Book) (items : List Job) → IsBook site h b → filter_map (joined_by b) items ≡ recalled site h (job_files items)
joined_are site h b [] is = refl
joined_are site h b (j ∷ js) is =
    ap (λ (o : Option Recall). cons_option (if is_some o then Some j.file else None) (filter_map (joined_by b) js)) (is.recall j.file) ∙ by (is_some (live_recall site h j.file)) (joined_are site h b js is)
  where
    by : (t : Bool) → filter_map (joined_by b) js ≡ recalled site h (job_files js) → cons_option (if t then Some j.file else None) (filter_map (joined_by b) js) ≡ (if t then j.file ∷ recalled site h (job_files js) else recalled site h (job_files js))
    by true rest = ap (λ (fs : List ℕ). j.file ∷ fs) rest
    by false rest = rest

-- ---- what is born

pub newborn_are : (site : Site) (h : History) (who : Who) (v n : ℕ) (held : Held) (b : Book) (items : List Job) → IsBook site h b → ((f : ℕ) → is_held held f ≡ is_resident h f)
    → ((f : ℕ) → has_number f (job_files items) ≡ true → has_place_on v (places_of site h f) ≡ true)
    → filter_map (newborn_by held b n) items ≡ recalls_of n (bearing site h (ask.Repack who v) (job_files items))
newborn_are site h who v n held b [] is same there = refl
newborn_are site h who v n held b (j ∷ js) is same there =
    (let placed : has_place_on v (places_of site h j.file) ≡ true = there j.file (or_left (j.file == j.file) (has_number j.file (job_files js)) (eq-eqb j.file j.file refl)) in
    let some : is_empty (places_of site h j.file) ≡ false = some_there v (places_of site h j.file) placed in
    ap (λ (o : Option Recall). cons_option (if is_none o && not (is_held held j.file) then Some (recall_job n j.file) else None) (filter_map (newborn_by held b n) js)) (is.recall j.file)
    ∙ ap (λ (t : Bool). cons_option (if is_none (live_recall site h j.file) && not t then Some (recall_job n j.file) else None) (filter_map (newborn_by held b n) js)) (same j.file)
    ∙ by (is_none (live_recall site h j.file)) (is_resident h j.file) (has_place_on v (places_of site h j.file)) (is_empty (places_of site h j.file)) placed some
    (newborn_are site h who v n held b js is same (λ f more. there f (or_right (f == j.file) (has_number f (job_files js)) more))))
  where
    by : (a r w e : Bool) → w ≡ true → e ≡ false → filter_map (newborn_by held b n) js ≡ recalls_of n (bearing site h (ask.Repack who v) (job_files js))
        → cons_option (if a && not r then Some (recall_job n j.file) else None) (filter_map (newborn_by held b n) js)
        ≡ recalls_of n (if a && (w && (not r && not e)) then j.file ∷ bearing site h (ask.Repack who v) (job_files js) else bearing site h (ask.Repack who v) (job_files js))
    by true true true false ew ee rest = rest
    by true false true false ew ee rest = ap (λ (xs : List Job). recall_job n j.file ∷ xs) rest
    by false r true false ew ee rest = rest
    by a r false e ew ee rest = absurd (cc)
    by a r w true ew ee rest = absurd (cc)

pub written_are : (h : History) (n : ℕ) (held : Held) (items seen : List Job) → ((f : ℕ) → is_held held f ≡ is_resident h f) → AreOnce (job_files items) → ((f c : ℕ) → has_number f (job_files items) ≡ true → has_copy f c seen ≡ false)
    → filter_map (written_by held n) items ≡ archives_of h n items seen
written_are h n held [] seen same once new = refl
written_are h n held (j ∷ js) seen same once new =
    ap (λ (t : Bool). cons_option (if t then Some (job_of n j.file j.copy) else None) (filter_map (written_by held n) js)) (same j.file)
    ∙ by (is_resident h j.file) (has_copy j.file j.copy seen) (new j.file j.copy (or_left (j.file == j.file) (has_number j.file (job_files js)) (eq-eqb j.file j.file refl)))
    (written_are h n held js (job_of n j.file j.copy ∷ seen) same once.1 (λ f c more. later f c more (j.file == f) refl)) (written_are h n held js seen same once.1 (λ f c more. new f c (or_right (f == j.file) (has_number f (job_files js)) more)))
  where
    later : (f c : ℕ) → has_number f (job_files js) ≡ true → (t : Bool) → (j.file == f) ≡ t → ((t && j.copy == c) || has_copy f c seen) ≡ false
    later f c more true is = (let bad : has_number j.file (job_files js) ≡ true = ap (λ (m : ℕ). has_number m (job_files js)) (eqb-true j.file f is) ∙ more in let no : has_number j.file (job_files js) ≡ false = once.0 in absurd (cc))
    later f c more false is = new f c (or_right (f == j.file) (has_number f (job_files js)) more)

    by : (r s : Bool) → s ≡ false → filter_map (written_by held n) js ≡ archives_of h n js (job_of n j.file j.copy ∷ seen) → filter_map (written_by held n) js ≡ archives_of h n js seen
        → cons_option (if r then Some (job_of n j.file j.copy) else None) (filter_map (written_by held n) js) ≡ (if r && not s then job_of n j.file j.copy ∷ archives_of h n js (job_of n j.file j.copy ∷ seen) else archives_of h n js seen)
    by true false es on off = ap (λ (xs : List Job). job_of n j.file j.copy ∷ xs) on
    by false false es on off = off
    by r true es on off = absurd (cc)

pub files_here : (h : History) (n : ℕ) (held : Held) (items : List Job) → ((f : ℕ) → is_held held f ≡ is_resident h f) → job_files (filter_map (written_by held n) items) ≡ filter (is_resident h) (job_files items)
files_here h n held [] same = refl
files_here h n held (j ∷ js) same =
    ap (λ (t : Bool). job_files (cons_option (if t then Some (job_of n j.file j.copy) else None) (filter_map (written_by held n) js))) (same j.file) ∙ by (is_resident h j.file) (files_here h n held js same)
  where
    by : (t : Bool) → job_files (filter_map (written_by held n) js) ≡ filter (is_resident h) (job_files js) → job_files (cons_option (if t then Some (job_of n j.file j.copy) else None) (filter_map (written_by held n) js)) ≡ (if t then j.file ∷ filter (is_resident h) (job_files js) else filter (is_resident h) (job_files js))
    by true rest = ap (λ (fs : List ℕ). j.file ∷ fs) rest
    by false rest = rest

pub targets_here : (h : History) (n : ℕ) (held : Held) (items : List Job) → ((f : ℕ) → is_held held f ≡ is_resident h f) → targets_of n (filter_map (written_by held n) items) ≡ items_here h n items
targets_here h n held [] same = refl
targets_here h n held (j ∷ js) same =
    ap (λ (t : Bool). targets_of n (cons_option (if t then Some (job_of n j.file j.copy) else None) (filter_map (written_by held n) js))) (same j.file) ∙ by (is_resident h j.file) (targets_here h n held js same)
  where
    by : (t : Bool) → targets_of n (filter_map (written_by held n) js) ≡ items_here h n js
        → targets_of n (cons_option (if t then Some (job_of n j.file j.copy) else None) (filter_map (written_by held n) js)) ≡ map (λ (k : Job). (n, k.file, k.copy)) (if t then j ∷ filter (λ (k : Job). is_resident h k.file) js else filter (λ (k : Job). is_resident h k.file) js)
    by true rest = ap (λ (ts : List Target). (n, j.file, j.copy) ∷ ts) rest
    by false rest = rest

-- ---- each once

pub once_of : (fs : List ℕ) → IsDistinct fs → AreOnce fs
once_of [] dis = tt
once_of (f ∷ fs) dis = (dis.0, once_of fs dis.1)

none_filtered : (q : ℕ → Bool) (f : ℕ) (fs : List ℕ) → has_number f fs ≡ false → has_number f (filter q fs) ≡ false
none_filtered q f [] e = refl
none_filtered q f (g ∷ fs) e = by (f == g) refl (q g) e (λ x. none_filtered q f fs x)
  where
    by : (a : Bool) → (f == g) ≡ a → (b : Bool) → (a || has_number f fs) ≡ false → (has_number f fs ≡ false → has_number f (filter q fs) ≡ false) → has_number f (if b then g ∷ filter q fs else filter q fs) ≡ false
    by true is b x rest = absurd (cc)
    by false is true x rest = rw is (rest x)
    by false is false x rest = rest x

pub once_filtered : (q : ℕ → Bool) (fs : List ℕ) → AreOnce fs → AreOnce (filter q fs)
once_filtered q [] once = tt
once_filtered q (f ∷ fs) once = by (q f) (once_filtered q fs once.1)
  where
    by : (b : Bool) → AreOnce (filter q fs) → AreOnce (if b then f ∷ filter q fs else filter q fs)
    by true rest = (none_filtered q f fs once.0, rest)
    by false rest = rest

-- jobs that are made of items, of the same files
abbrev pub OfFile : (Job → Option Job) → Type 0
OfFile g = (i k : Job) → g i ≡ Some k → k.file ≡ i.file

none_mapped : (g : Job → Option Job) (f : ℕ) (js : List Job) → OfFile g → has_number f (job_files js) ≡ false → has_number f (job_files (filter_map g js)) ≡ false
none_mapped g f [] of e = refl
none_mapped g f (j ∷ js) of e = by (f == j.file) refl e (g j) refl (λ x. none_mapped g f js of x)
  where
    by : (a : Bool) → (f == j.file) ≡ a → (a || has_number f (job_files js)) ≡ false → (o : Option Job) → g j ≡ o → (has_number f (job_files js) ≡ false → has_number f (job_files (filter_map g js)) ≡ false) → has_number f (job_files (cons_option o (filter_map g js))) ≡ false
    by true is x o io rest = absurd (cc)
    by false is x None io rest = rest x
    by false is x (Some k) io rest = (let other : (f == k.file) ≡ false = ap (λ (m : ℕ). f == m) (of j k io) ∙ is in rw other (rest x))

pub once_mapped : (g : Job → Option Job) (js : List Job) → OfFile g → AreOnce (job_files js) → AreOnce (job_files (filter_map g js))
once_mapped g [] of once = tt
once_mapped g (j ∷ js) of once = by (g j) refl (once_mapped g js of once.1)
  where
    by : (o : Option Job) → g j ≡ o → AreOnce (job_files (filter_map g js)) → AreOnce (job_files (cons_option o (filter_map g js)))
    by None is rest = rest
    by (Some k) is rest = (ap (λ (m : ℕ). has_number m (job_files (filter_map g js))) (of j k is) ∙ none_mapped g j.file js of once.0, rest)

job_among : (j : Job) (js : List Job) → has_number j.file (job_files js) ≡ false → has_job j js ≡ false
job_among j [] e = refl
job_among j (k ∷ js) e = by (j.file == k.file) refl e (λ x. job_among j js x)
  where
    apart : (same_job j k ≡ true) ⊎ (same_job j k ≡ false) → (j.file == k.file) ≡ false → same_job j k ≡ false
    apart (inr no_same) d = no_same
    apart (inl same) d = absurd (grind arith)

    by : (a : Bool) → (j.file == k.file) ≡ a → (a || has_number j.file (job_files js)) ≡ false → (has_number j.file (job_files js) ≡ false → has_job j js ≡ false) → has_job j (k ∷ js) ≡ false
    by true is x rest = absurd (cc)
    by false is x rest = (let other : same_job j k ≡ false = apart (bool_cases (same_job j k)) is in rw (other, rest x) refl)

pub once_jobs : (js : List Job) → AreOnce (job_files js) → names_twice js ≡ false
once_jobs [] once = refl
once_jobs (j ∷ js) once = rw (job_among j js once.0, once_jobs js once.1) refl

-- ---- what is known of each

pub mapped_from : (g : Job → Option Job) (j : Job) (js : List Job) → has_job j (filter_map g js) ≡ true → (i : Job) × (k : Job) × (has_job i js ≡ true) × (g i ≡ Some k) × (same_job j k ≡ true)
mapped_from g j [] e = absurd (cc)
mapped_from g j (i ∷ js) e = by (g i) refl e (λ more. mapped_from g j js more)
  where
    later : (x : Job) × (k : Job) × (has_job x js ≡ true) × (g x ≡ Some k) × (same_job j k ≡ true) → (x : Job) × (k : Job) × (has_job x (i ∷ js) ≡ true) × (g x ≡ Some k) × (same_job j k ≡ true)
    later r = (r.0, r.1, or_right (same_job r.0 i) (has_job r.0 js) r.2, r.3, r.4)

    here : (k : Job) → g i ≡ Some k → (b : Bool) → same_job j k ≡ b → (b || has_job j (filter_map g js)) ≡ true → (has_job j (filter_map g js) ≡ true → (x : Job) × (k : Job) × (has_job x js ≡ true) × (g x ≡ Some k) × (same_job j k ≡ true))
        → (x : Job) × (k : Job) × (has_job x (i ∷ js) ≡ true) × (g x ≡ Some k) × (same_job j k ≡ true)
    here k is true same x rest = (i, k, or_left (same_job i i) (has_job i js) (grind arith), is, same)
    here k is false same x rest = later (rest x)

    by : (o : Option Job) → g i ≡ o → has_job j (cons_option o (filter_map g js)) ≡ true → (has_job j (filter_map g js) ≡ true → (x : Job) × (k : Job) × (has_job x js ≡ true) × (g x ≡ Some k) × (same_job j k ≡ true))
        → (x : Job) × (k : Job) × (has_job x (i ∷ js) ≡ true) × (g x ≡ Some k) × (same_job j k ≡ true)
    by None is x rest = later (rest x)
    by (Some k) is x rest = here k is (same_job j k) refl x rest

pub newborn_file : (held : Held) (b : Book) (n : ℕ) → OfFile (newborn_by held b n)
newborn_file held b n i k is = by (is_none (b.recall i.file) && not (is_held held i.file)) is
  where
    by : (t : Bool) → (if t then Some (recall_job n i.file) else None) ≡ Some k → k.file ≡ i.file
    by true e = (let same : recall_job n i.file ≡ k = cc in ap (λ (x : Job). x.file) (sym same))
    by false e = absurd (cc)

pub newborn_job : (held : Held) (b : Book) (n : ℕ) (i k : Job) → newborn_by held b n i ≡ Some k → (k.birth ≡ n) × (k.copy ≡ 0)
newborn_job held b n i k is = by (is_none (b.recall i.file) && not (is_held held i.file)) is
  where
    by : (t : Bool) → (if t then Some (recall_job n i.file) else None) ≡ Some k → (k.birth ≡ n) × (k.copy ≡ 0)
    by true e = (let same : recall_job n i.file ≡ k = cc in (ap (λ (x : Job). x.birth) (sym same), ap (λ (x : Job). x.copy) (sym same)))
    by false e = absurd (cc)

pub written_file : (held : Held) (n : ℕ) → OfFile (written_by held n)
written_file held n i k is = by (is_held held i.file) is
  where
    by : (t : Bool) → (if t then Some (job_of n i.file i.copy) else None) ≡ Some k → k.file ≡ i.file
    by true e = (let same : job_of n i.file i.copy ≡ k = cc in ap (λ (x : Job). x.file) (sym same))
    by false e = absurd (cc)

pub written_job : (held : Held) (n : ℕ) (i k : Job) → written_by held n i ≡ Some k → (k.birth ≡ n) × (k.copy ≡ i.copy)
written_job held n i k is = by (is_held held i.file) is
  where
    by : (t : Bool) → (if t then Some (job_of n i.file i.copy) else None) ≡ Some k → (k.birth ≡ n) × (k.copy ≡ i.copy)
    by true e = (let same : job_of n i.file i.copy ≡ k = cc in (ap (λ (x : Job). x.birth) (sym same), ap (λ (x : Job). x.copy) (sym same)))
    by false e = absurd (cc)
