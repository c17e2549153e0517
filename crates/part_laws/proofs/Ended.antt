-- Which live recalls and live archive jobs an entry ends.
use Rattle.std.proofs.Common.{◌≡◌, ℕ, suc, ◌≤◌, inl, inr, List, [], ◌∷◌, Bool, true, false, ◌||◌, not, refl, sym, ◌∙◌, ap, subst, arith, length}
use Rattle.std.specs.Prelude.{Option, Some, None, is_some, is_none, option_to_list, if◌then◌else◌, ◌==◌, ◌&&◌, filter, map, zip, bytes_eq}
use Rattle.std.specs.List.{list_any}
use Rattle.std.proofs.lemmas.Bool.{and_parts, and_from, eqb-true, eq-eqb}
use Rattle.cta_site.specs.declared.site.Site.{Site}
use Rattle.cta_site.specs.declared.site.TapeState.{TapeState}
use Rattle.cta_site.specs.Listed.{Listed}
use Rattle.cta_model.specs.declared.entries.Entry.{Entry}
use Rattle.cta_model.specs.declared.asks.Ask.{Ask}
use Rattle.cta_model.specs.declared.asks.Ask.TheVariants as ask
use Rattle.cta_model.specs.declared.asks.Fate.{Fate}
use Rattle.cta_model.specs.declared.asks.Fate.TheVariants as fate
use Rattle.cta_model.specs.declared.asks.Fault.{Fault}
use Rattle.cta_model.specs.declared.asks.Item.{Item}
use Rattle.cta_model.specs.declared.asks.Job.{Job}
use Rattle.cta_model.specs.declared.asks.Who.{Who}
use Rattle.cta_model.specs.declared.answers.Answer.{Answer}
use Rattle.cta_model.specs.declared.answers.Answer.TheVariants as answer
use Rattle.cta_model.specs.declared.states.Place.{Place}
use Rattle.cta_model.specs.History.{History, has_number, has_text, is_empty, is_number, moment_of}
use Rattle.cta_model.specs.Files.{copies_of_file, copy_numbers, is_live, live_file, path_of}
use Rattle.cta_model.specs.Mounts.{has_copy, has_job, job_of, same_job}
use Rattle.cta_model.specs.Tapes.{state_after, tape_items, tape_state}
use Rattle.cta_model.specs.Places.{flushed_in, is_at, is_done, last_flushed, live_items_on, place_of, places_of}
use Rattle.cta_model.specs.Charges.{is_last_charge}
use Rattle.cta_model.specs.Recalls.{Recall, left_with, live_recall, lives_unless, recall_after, recall_goes_on, recall_job, unsubscribed}
use Rattle.cta_model.specs.Jobs.{archive_after, archive_birth, ends_archive, is_live_job, live_birth}
use Rattle.cta_model.specs.Answers.{answer_of, fate_of}
use Rattle.cta_model.specs.Legal.{IsLegal}
use Rattle.cta_laws.specs.Places.{is_item_of}
use Rattle.cta_laws.specs.Stages.{takes_path}
use Rattle.cta_laws.proofs.Tests.{bool_cases, or_left, or_right, or_cases}
use Rattle.cta_laws.proofs.Bools.{and_none, and_true, eq_flip, or_none, same_bool, turned}
use Rattle.cta_laws.proofs.Accepted.{answer_is}
use Rattle.cta_laws.specs.Asks.{AnswerIs}
use Rattle.cta_laws.proofs.JobLaw.{not_true}
use Rattle.cta_laws.proofs.KeyLaw.{HasPlace, place_there, recall_place, there_some}
use Rattle.cta_laws.proofs.OnceLaw.{birth_in, same_job_eq}
use Rattle.cta_laws.proofs.Paths.{bytes_self, known_path, same_bytes}
use Rattle.cta_laws.proofs.PlaceLaw.{named_within, places_on_tape}
use Rattle.cta_laws.proofs.Frames.{flushed_same, is_live_same}
use Rattle.cta_laws.proofs.FileFrames.{copies_older}
use Rattle.cta_laws.proofs.JobFiles.{archive_resident, resident_parts}
use Rattle.cta_laws.proofs.JobLists.{job_self}
use Rattle.cta_laws.specs.Changes.{may_change_files, may_flush}
use Rattle.cta_laws.proofs.RangeLaw.{archive_range, done_live as fate_live}
use Rattle.cta_laws.proofs.Ranges.{any_in_range}
use Rattle.cta_laws.proofs.RecalledCopy.{done_live, fit_reads, recalled_copy, same_recall}
use Rattle.cta_laws.proofs.ResidentLaw.{recall_live}
use Rattle.cta_laws.proofs.WaitLists.{number_kept}
use Rattle.part_laws.specs.BookCalls.{copies_ended, copies_named, files_lost, jobs_done, jobs_failed, recalls_ended, recalls_in}
use Rattle.part_laws.specs.BookLaws.{CopiesEndAsTold, RecallsEndAsTold}

-- ---- a recall that somebody still waits for

left_some : (b id : ℕ) (ws : List ℕ) → has_number id ws ≡ true → is_none (left_with b ws) ≡ false
left_some b id [] e = absurd (cc)
left_some b id (w ∷ ws) e = refl

still_waited : (k id : ℕ) (r : Recall) → has_number id r.waiting ≡ true → (k == id) ≡ false → is_none (unsubscribed k r) ≡ false
still_waited k id r there other = left_some r.birth id (filter (λ s. not (s == k)) r.waiting) (number_kept (λ s. not (s == k)) id r.waiting ∙ rw (turned k id other, there) refl)

unless_none : (b : Bool) (r : Recall) → is_none (lives_unless b r) ≡ b
unless_none true r = refl
unless_none false r = refl

and_first : (a b : Bool) → (a && b) ≡ false → b ≡ true → a ≡ false
and_first true true x y = absurd (cc)
and_first true false x y = absurd (cc)
and_first false b x y = refl

-- ---- a completed recall

number_is : (b : ℕ) (r : Recall) (o : Option Recall) → o ≡ Some r → is_number b (birth_in o) ≡ true → b ≡ r.birth
number_is b r None is e = absurd (cc)
number_is b r (Some q) is e = (let same : q ≡ r = cc in eqb-true b q.birth e ∙ ap (λ (x : Recall). x.birth) same)

done_ends : (site : Site) (h : History) (e : Entry) (m : ℕ) (job : Job) (f : ℕ) (r : Recall) → IsLegal site (e ∷ h) → e.ask ≡ ask.Recalled m job → e.answer ≡ answer.Arrived fate.Done → live_recall site h f ≡ Some r → has_number f (job.file ∷ []) ≡ same_job job (recall_job r.birth f)
done_ends site h e m job f r legal ek ea on =
    let told : answer.Arrived fate.Done ≡ answer_of site h e.at (ask.Recalled m job) = sym ea ∙ legal.1.answered ∙ ap (answer_of site h e.at) ek in
    let copy : job.copy ≡ 0 = recalled_copy site h legal.0 e.at m job (answer.Arrived fate.Done) told refl (fit_reads site h e legal.1 (ask.Recalled m job) ek m job refl) in
    let live : is_number job.birth (birth_in (live_recall site h job.file)) ≡ true = done_live site h e.at m job told copy in
    or_none (f == job.file)
    ∙ same_bool (f == job.file) (same_job job (recall_job r.birth f))
    (λ hit. (let same : job.file ≡ f = sym (eqb-true f job.file hit) in same_recall job r.birth f (number_is job.birth r (live_recall site h job.file) (ap (live_recall site h) same ∙ on) live) same copy))
    (λ hit. eq-eqb f job.file (sym (eqb-true job.file f (and_parts (job.file == f) _ (and_parts (job.birth == r.birth) _ hit).1).0)))

-- ---- jobs that are charged for the last time

-- the only live job of a recall or a copy is the one of its birth
pub live_same : (site : Site) (h : History) (j : Job) (b f c : ℕ) → live_birth site h f c ≡ Some b → j.file ≡ f → j.copy ≡ c → is_live_job site h j ≡ true → same_job (job_of b f c) j ≡ true
live_same site h j b f c born file copy live =
    let here : is_number j.birth (live_birth site h f c) ≡ true = subst (λ (n : ℕ). is_number j.birth (live_birth site h n c) ≡ true) file (subst (λ (n : ℕ). is_number j.birth (live_birth site h j.file n) ≡ true) copy live) in
    let birth : j.birth ≡ b = eqb-true j.birth b (sym (ap (is_number j.birth) born) ∙ here) in
    and_from _ _ (eq-eqb b j.birth (sym birth)) (and_from _ _ (eq-eqb f j.file (sym file)) (eq-eqb c j.copy (sym copy)))

live_one : (site : Site) (h : History) (b f c : ℕ) → live_birth site h f c ≡ Some b → is_live_job site h (job_of b f c) ≡ true
live_one site h b f c born = ap (is_number b) born ∙ eq-eqb b b refl

-- of the live jobs that pass, one has the copy exactly where the live job of the copy is listed and passes
one_if : (f c : ℕ) (keep : Bool) (j : Job) (js : List Job) → has_copy f c (if keep then j ∷ js else js) ≡ ((keep && (j.file == f && j.copy == c)) || has_copy f c js)
one_if f c true j js = refl
one_if f c false j js = refl

kept_copy : (site : Site) (h : History) (test : Job → Bool) (b f c : ℕ) (js : List Job) → live_birth site h f c ≡ Some b → has_copy f c (filter (λ j. is_live_job site h j && test j) js) ≡ (has_job (job_of b f c) js && test (job_of b f c))
kept_copy site h test b f c [] born = refl
kept_copy site h test b f c (j ∷ js) born =
    one_if f c (is_live_job site h j && test j) j (filter (λ j. is_live_job site h j && test j) js)
    ∙ rw (kept_copy site h test b f c js born) (ap (λ (x : Bool). x || (has_job (job_of b f c) js && test (job_of b f c))) here ∙ spread (same_job (job_of b f c) j) (has_job (job_of b f c) js) (test (job_of b f c)))
  where
    spread : (x y t : Bool) → ((x && t) || (y && t)) ≡ ((x || y) && t)
    spread true y true = refl
    spread true true false = refl
    spread true false false = refl
    spread false y t = refl

    none : (l t m : Bool) → (m ≡ true → l ≡ false) → ((l && t) && m) ≡ false
    none true t true o = (let bad : true ≡ false = o refl in absurd (cc))
    none true t false o = and_none t
    none false t m o = refl

    here : ((is_live_job site h j && test j) && (j.file == f && j.copy == c)) ≡ (same_job (job_of b f c) j && test (job_of b f c))
    here =
        elim (bool_cases (same_job (job_of b f c) j)) [
          | inl hit ↦
              (let is : job_of b f c ≡ j = same_job_eq (job_of b f c) j hit in
              let live : is_live_job site h j ≡ true = ap (is_live_job site h) (sym is) ∙ live_one site h b f c born in
              let mine : (j.file == f && j.copy == c) ≡ true = and_from _ _ (eq-eqb j.file f (ap (λ (x : Job). x.file) (sym is))) (eq-eqb j.copy c (ap (λ (x : Job). x.copy) (sym is))) in
              ap (λ (x : Bool). (x && test j) && (j.file == f && j.copy == c)) live
              ∙ ap (λ (x : Bool). test j && x) mine ∙ and_true (test j)
              ∙ ap test (sym is)
              ∙ sym (ap (λ (x : Bool). x && test (job_of b f c)) hit))
          | inr miss ↦
              none (is_live_job site h j) (test j) (j.file == f && j.copy == c) (λ x.
              (let p = and_parts (j.file == f) _ x in
              not_true (is_live_job site h j) (λ live. (let bad : same_job (job_of b f c) j ≡ true = live_same site h j b f c born (eqb-true _ _ p.0) (eqb-true _ _ p.1) live in absurd (cc)))))
              ∙ sym (ap (λ (x : Bool). x && test (job_of b f c)) miss)
        ]

-- the files of recalls among jobs
pub recall_among : (f : ℕ) (js : List Job) → has_number f (recalls_in js) ≡ has_copy f 0 js
recall_among f [] = refl
recall_among f (j ∷ js) = by (j.copy == 0) (recall_among f js) ∙ ap (λ (b : Bool). b || has_copy f 0 js) (flip_and (f == j.file) (j.file == f) (j.copy == 0) (eq_flip f j.file))
  where
    by : (b : Bool) → has_number f (recalls_in js) ≡ has_copy f 0 js → has_number f (map (λ (j : Job). j.file) (if b then j ∷ filter (λ (j : Job). j.copy == 0) js else filter (λ (j : Job). j.copy == 0) js)) ≡ (((f == j.file) && b) || has_copy f 0 js)
    by true rest = ap (λ (b : Bool). (f == j.file) || b) rest ∙ ap (λ (b : Bool). b || has_copy f 0 js) (sym (and_true (f == j.file)))
    by false rest = rest ∙ ap (λ (b : Bool). b || has_copy f 0 js) (sym (and_none (f == j.file)))

    flip_and : (x y z : Bool) → x ≡ y → (x && z) ≡ (y && z)
    flip_and x y z e = ap (λ (b : Bool). b && z) e

failed_ends : (site : Site) (h : History) (m : ℕ) (fault : Fault) (charged returned : Listed Job) (b f c : ℕ) → live_birth site h f c ≡ Some b → has_copy f c (jobs_failed site h (ask.Failed m fault charged returned)) ≡ is_last_charge site h (ask.Failed m fault charged returned) (job_of b f c)
failed_ends site h m fault charged returned b f c born =
    kept_copy site h (is_last_charge site h (ask.Failed m fault charged returned)) b f c charged.items born ∙ twice (has_job (job_of b f c) charged.items) _
  where
    twice : (x y : Bool) → (x && (x && y)) ≡ (x && y)
    twice true y = refl
    twice false y = refl

-- ---- a deleted file

pub some_number : (f : ℕ) (o : Option ℕ) → is_number f o ≡ true → o ≡ Some f
some_number f None x = absurd (cc)
some_number f (Some g) x = ap (λ (n : ℕ). Some n) (sym (eqb-true f g x))

named_path : (h : History) (path : List ℕ) (f : ℕ) → is_live h f ≡ true → is_number f (live_file h path) ≡ bytes_eq path (path_of h f)
named_path h path f live =
    same_bool (is_number f (live_file h path)) (bytes_eq path (path_of h f))
    (λ on. (let known : path_of h f ≡ path = (known_path h path f (some_number f (live_file h path) on)).1 in ap (bytes_eq path) known ∙ bytes_self path))
    (λ on. ap (λ (p : List ℕ). is_number f (live_file h p)) (same_bytes path (path_of h f) on) ∙ live)

listed_number : (f : ℕ) (o : Option ℕ) → has_number f (option_to_list o) ≡ is_number f o
listed_number f None = refl
listed_number f (Some g) = or_none (f == g)

named_copy : (site : Site) (h : History) (f c : ℕ) (o : Option ℕ) → 1 ≤ c → c ≤ copies_of_file site h f → has_copy f c (copies_named site h o) ≡ is_number f o
named_copy site h f c None low high = refl
named_copy site h f c (Some g) low high =
    elim (bool_cases (f == g)) [
      | inl hit ↦ (let same : g ≡ f = sym (eqb-true f g hit) in subst (λ (n : ℕ). has_copy f c (map (job_of 0 n) (copy_numbers site h n)) ≡ true) (sym same) (there (copy_numbers site h f) (any_in_range (λ k. c == k) 1 (copies_of_file site h f) c low (omega arith) (eq-eqb c c refl))) ∙ sym hit)
      | inr miss ↦ none (copy_numbers site h g) (turned f g miss) ∙ sym miss
    ]
  where
    there : (cs : List ℕ) → list_any (λ k. c == k) cs ≡ true → has_copy f c (map (job_of 0 f) cs) ≡ true
    there [] e = absurd (cc)
    there (k ∷ cs) e =
        elim (or_cases (c == k) _ e)
        [ inl hit ↦ or_left (f == f && k == c) _ (and_from _ _ (eq-eqb f f refl) (eq-eqb k c (sym (eqb-true c k hit)))) | inr rest ↦ or_right (f == f && k == c) _ (there cs rest) ]

    none : (cs : List ℕ) → (g == f) ≡ false → has_copy f c (map (job_of 0 g) cs) ≡ false
    none [] d = refl
    none (k ∷ cs) d = rw d (none cs d)

-- ---- a file that a TapeState leaves without a place

empty_not : (site : Site) (h : History) (f : ℕ) → is_empty (places_of site h f) ≡ true → HasPlace site h f → ⊥
empty_not site h f none has = (let some : is_empty (places_of site h f) ≡ false = there_some site h f has in absurd (cc))

item_file : (f c s : ℕ) (v : ℕ) (h : History) (p : Place) (xs : List Item) → place_of h f c ≡ Some p → p.tape ≡ v → p.fseq ≡ s → list_any (is_item_of f c s) xs ≡ true → has_number f (map (λ (i : Item). i.job.file) (filter (λ (i : Item). is_at v i.fseq (place_of h i.job.file i.job.copy)) xs)) ≡ true
item_file f c s v h p [] is tape fseq e = absurd (cc)
item_file f c s v h p (i ∷ xs) is tape fseq e =
    elim (or_cases (is_item_of f c s i) _ e) [
      | inl hit ↦
          (let a = and_parts (i.job.file == f) _ hit in
          let b = and_parts (i.job.copy == c) _ a.1 in
          let live : is_at v i.fseq (place_of h i.job.file i.job.copy) ≡ true =
          ap (λ (n : ℕ). is_at v i.fseq (place_of h n i.job.copy)) (eqb-true _ _ a.0) ∙ ap (λ (n : ℕ). is_at v i.fseq (place_of h f n)) (eqb-true _ _ b.0) ∙ ap (is_at v i.fseq) is ∙ and_from _ _ (eq-eqb p.tape v tape) (eq-eqb p.fseq i.fseq (fseq ∙ sym (eqb-true _ _ b.1))) in
          rw live (or_left (f == i.job.file) _ (eq-eqb f i.job.file (sym (eqb-true _ _ a.0)))))
      | inr rest ↦ more (is_at v i.fseq (place_of h i.job.file i.job.copy)) (item_file f c s v h p xs is tape fseq rest)
    ]
  where
    more : (b : Bool) → has_number f (map (λ (i : Item). i.job.file) (filter (λ (i : Item). is_at v i.fseq (place_of h i.job.file i.job.copy)) xs)) ≡ true → has_number f (map (λ (i : Item). i.job.file) (if b then i ∷ filter (λ (i : Item). is_at v i.fseq (place_of h i.job.file i.job.copy)) xs else filter (λ (i : Item). is_at v i.fseq (place_of h i.job.file i.job.copy)) xs)) ≡ true
    more true x = or_right (f == i.job.file) _ x
    more false x = x

-- a file that loses its last place had it on the tape
lost_on : (site : Site) (h : History) (e : Entry) (who : Who) (v : ℕ) (s : TapeState) (f : ℕ) → IsLegal site (e ∷ h) → e.ask ≡ ask.TapeState who v s → is_live h f ≡ true → HasPlace site h f → is_empty (places_of site (e ∷ h) f) ≡ true → has_number f (map (λ (i : Item). i.job.file) (live_items_on h v)) ≡ true
lost_on site h e who v s f legal ek live has gone =
    elim (bool_cases (v == has.1.tape)) [
      | inl hit ↦
          (let tape : has.1.tape ≡ v = sym (eqb-true _ _ hit) in
          item_file f has.0 has.1.fseq v h has.1 (tape_items h v) has.4 tape refl (subst (λ (n : ℕ). list_any (is_item_of f has.0 has.1.fseq) (tape_items h n) ≡ true) tape (places_on_tape site h legal.0 f has.0 has.1 has.4)))
      | inr miss ↦
          (let low : f ≤ length h = (named_within h f (path_of h f) live).1 in
          let same : is_live (e ∷ h) f ≡ is_live h f = is_live_same e h f low (ap may_change_files ek) in
          let flushed : last_flushed (e ∷ h) f has.0 ≡ last_flushed h f has.0 = flushed_same e h f has.0 (ap may_flush ek) in
          let place : place_of (e ∷ h) f has.0 ≡ Some has.1 = rw (same, flushed) has.4 in
          let state : tape_state site (e ∷ h) has.1.tape ≡ tape_state site h has.1.tape = ap (λ (k : Ask). state_after k has.1.tape (tape_state site h has.1.tape)) ek ∙ rw miss refl in
          let fits : has.0 ≤ copies_of_file site (e ∷ h) f = (let was : has.0 ≤ copies_of_file site h f = has.3 in omega (arith, copies_older site e h f low)) in
          absurd (empty_not site (e ∷ h) f gone (has.0, has.1, has.2, fits, place, rw state has.5)))
    ]

lost_ends : (site : Site) (h : History) (e : Entry) (who : Who) (v : ℕ) (s : TapeState) (f : ℕ) (r : Recall) → IsLegal site (e ∷ h) → e.ask ≡ ask.TapeState who v s → live_recall site h f ≡ Some r → has_number f (files_lost site h e v) ≡ is_empty (places_of site (e ∷ h) f)
lost_ends site h e who v s f r legal ek on =
    let some : is_some (live_recall site h f) ≡ true = ap is_some on in
    number_kept (λ g. is_some (live_recall site h g) && is_empty (places_of site (e ∷ h) g)) f (map (λ (i : Item). i.job.file) (live_items_on h v))
    ∙ ap (λ (b : Bool). (b && is_empty (places_of site (e ∷ h) f)) && has_number f (map (λ (i : Item). i.job.file) (live_items_on h v))) some
    ∙ by (is_empty (places_of site (e ∷ h) f)) (λ gone. lost_on site h e who v s f legal ek (recall_live site h legal.0 f some) (place_there site h f (recall_place site h legal.0 f some)) gone)
  where
    by : (b : Bool) → (b ≡ true → has_number f (map (λ (i : Item). i.job.file) (live_items_on h v)) ≡ true) → (b && has_number f (map (λ (i : Item). i.job.file) (live_items_on h v))) ≡ b
    by true x = x refl
    by false x = refl

-- ---- the law of recalls

recall_by : (site : Site) (h : History) (e : Entry) (k : Ask) (a : Answer) (f id : ℕ) (r : Recall) → IsLegal site (e ∷ h) → e.ask ≡ k → e.answer ≡ a → live_recall site h f ≡ Some r → has_number id r.waiting ≡ true → takes_path k id (path_of h f) ≡ false → has_number f (recalls_ended site h e k a) ≡ is_none (recall_goes_on site h e f r k a)
recall_by site h e (ask.Cancel who k paths) a f id r legal ek ea on there stays =
    sym (elim (bool_cases (has_text (path_of h f) paths.items)) [
      | inl hit ↦ rw hit (still_waited k id r there (and_first (k == id) (has_text (path_of h f) paths.items) (sym (or_none ((k == id) && has_text (path_of h f) paths.items)) ∙ stays) hit))
      | inr miss ↦ rw miss refl
    ])
recall_by site h e (ask.DropStage who k) a f id r legal ek ea on there stays = sym (still_waited k id r there stays)
recall_by site h e (ask.Recalled m job) (answer.Arrived fate.Done) f id r legal ek ea on there stays = done_ends site h e m job f r legal ek ea on ∙ sym (unless_none (same_job job (recall_job r.birth f)) r)
recall_by site h e (ask.Failed m fault charged returned) a f id r legal ek ea on there stays =
    recall_among f (jobs_failed site h (ask.Failed m fault charged returned))
    ∙ failed_ends site h m fault charged returned r.birth f 0 (ap birth_in on)
    ∙ sym (unless_none (is_last_charge site h (ask.Failed m fault charged returned) (recall_job r.birth f)) r)
recall_by site h e (ask.Delete who path) a f id r legal ek ea on there stays =
    listed_number f (live_file h path) ∙ named_path h path f (recall_live site h legal.0 f (ap is_some on)) ∙ sym (unless_none (bytes_eq path (path_of h f)) r)
recall_by site h e (ask.TapeState who v s) a f id r legal ek ea on there stays = lost_ends site h e who v s f r legal ek on ∙ sym (unless_none (is_empty (places_of site (e ∷ h) f)) r)
recall_by site h e _ a f id r legal ek ea on there stays = refl

pub recalls_end_as_told : RecallsEndAsTold
recalls_end_as_told site h e f id r legal on there stays = recall_by site h e e.ask e.answer f id r legal refl refl on there stays ∙ sym (ap is_none (ap (recall_after site h e f) on))

-- ---- the law of archive jobs

-- the jobs of items that are told Done are live
done_copy : (site : Site) (h : History) (b f c : ℕ) (items : List Item) → live_birth site h f c ≡ Some b → has_copy f c (jobs_done (zip items (map (λ (i : Item). fate_of site h i.job) items))) ≡ list_any (λ (x : Item × Fate). is_done x.1 && same_job x.0.job (job_of b f c)) (zip items (map (λ (i : Item). fate_of site h i.job) items))
done_copy site h b f c [] born = refl
done_copy site h b f c (i ∷ items) born =
    one_done (is_done (fate_of site h i.job))
    ∙ rw (done_copy site h b f c items born) (ap (λ (x : Bool). x || list_any (λ (x : Item × Fate). is_done x.1 && same_job x.0.job (job_of b f c)) (zip items (map (λ (i : Item). fate_of site h i.job) items))) here)
  where
    one_done : (d : Bool) → has_copy f c (map (λ (x : Item × Fate). x.0.job) (if d then (i, fate_of site h i.job) ∷ filter (λ (x : Item × Fate). is_done x.1) (zip items (map (λ (i : Item). fate_of site h i.job) items)) else filter (λ (x : Item × Fate). is_done x.1) (zip items (map (λ (i : Item). fate_of site h i.job) items)))) ≡ ((d && (i.job.file == f && i.job.copy == c)) || has_copy f c (jobs_done (zip items (map (λ (i : Item). fate_of site h i.job) items))))
    one_done true = refl
    one_done false = refl

    job_flip : (x y : Job) → same_job x y ≡ true → same_job y x ≡ true
    job_flip x y e = (let same : x ≡ y = same_job_eq x y e in subst (λ (z : Job). same_job y z ≡ true) (sym same) (job_self y))

    here : (is_done (fate_of site h i.job) && (i.job.file == f && i.job.copy == c)) ≡ (is_done (fate_of site h i.job) && same_job i.job (job_of b f c))
    here =
        elim (bool_cases (is_done (fate_of site h i.job))) [
          | inr miss ↦ rw miss refl
          | inl hit ↦
              (let live : is_live_job site h i.job ≡ true = fate_live (is_live_job site h i.job) hit in
              ap (λ (x : Bool). is_done (fate_of site h i.job) && x)
              (same_bool (i.job.file == f && i.job.copy == c) (same_job i.job (job_of b f c))
              (λ x. (let p = and_parts (i.job.file == f) _ x in job_flip (job_of b f c) i.job (live_same site h i.job b f c born (eqb-true _ _ p.0) (eqb-true _ _ p.1) live)))
              (λ x. (and_parts (i.job.birth == b) _ x).1)))
        ]

after_none : (b : Bool) (n : ℕ) → is_none (if b then None else Some n) ≡ b
after_none true n = refl
after_none false n = refl

copy_by : (site : Site) (h : History) (e : Entry) (k : Ask) (a : Answer) (f c b : ℕ) → IsLegal site (e ∷ h) → AnswerIs site h (moment_of h e.at) k a → archive_birth site h f (suc c) ≡ Some b → has_copy f (suc c) (copies_ended site h k a) ≡ ends_archive site h k a (job_of b f (suc c))
copy_by site h e (ask.Flushed m items) a f c b legal is born =
    subst (λ (x : Answer). has_copy f (suc c) (jobs_done (flushed_in (ask.Flushed m items) x)) ≡ list_any (λ (x : Item × Fate). is_done x.1 && same_job x.0.job (job_of b f (suc c))) (flushed_in (ask.Flushed m items) x)) (sym is) (done_copy site h b f (suc c) items.items born)
copy_by site h e (ask.Failed m fault charged returned) a f c b legal is born = failed_ends site h m fault charged returned b f (suc c) born
copy_by site h e (ask.Delete who path) a f c b legal is born =
    let range : (1 ≤ f) × (f ≤ length h) × (suc c ≤ copies_of_file site h f) = archive_range site h legal.0 f (suc c) (ap is_some born) in
    let live : is_live h f ≡ true = (resident_parts h f (archive_resident site h legal.0 f c (ap is_some born))).0 in
    named_copy site h f (suc c) (live_file h path) (omega arith) range.2 ∙ named_path h path f live
copy_by site h e _ a f c b legal is born = refl

pub copies_end_as_told : CopiesEndAsTold
copies_end_as_told site h e f c legal on = by (archive_birth site h f (suc c)) refl on
  where
    by : (o : Option ℕ) → archive_birth site h f (suc c) ≡ o → is_some o ≡ true → has_copy f (suc c) (copies_ended site h e.ask e.answer) ≡ is_none (archive_birth site (e ∷ h) f (suc c))
    by None is x = absurd (cc)
    by (Some b) is x =
        copy_by site h e e.ask e.answer f c b legal (answer_is site h e.at e.ask e.answer legal.1.answered legal.1.accepted) is
        ∙ sym (ap (λ (o : Option ℕ). is_none (archive_after site h e f (suc c) o)) is ∙ after_none (ends_archive site h e.ask e.answer (job_of b f (suc c))) b)
