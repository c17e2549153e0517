-- Recalls for which a request waits no longer, file by file.
use Rattle.std.proofs.Common.{◌≡◌, ◌∙◌, ◌+◌, ◌<◌, ℕ, inl, inr, List, [], ◌∷◌, ◌++◌, Bool, true, false, ◌||◌, not, refl, sym, ap, subst, length, take, append-nil, append_assoc}
use Rattle.std.specs.Prelude.{Option, Some, None, is_some, is_none, option_map, ◌==◌, ◌&&◌, if◌then◌else◌, filter, get_or}
use Rattle.std.proofs.lemmas.Bool.{eqb-true, eq-eqb}
use Rattle.std.proofs.lemmas.List.{take_more}
use Rattle.cta_model.specs.declared.asks.Job.{Job}
use Rattle.cta_model.specs.History.{has_number}
use Rattle.cta_model.specs.Mounts.{has_job}
use Rattle.cta_model.specs.Recalls.{Recall, left_with, recall_job}
use Rattle.cta_laws.proofs.Tests.{or_cases, or_left, or_right}
use Rattle.part_model.specs.declared.jobs.Line.{Line}
use Rattle.part_model.specs.JobBook.{Book, TellSame, drop_files, drop_from}
use Rattle.part_model.specs.Queues.{Lines, drop_jobs}
use Rattle.part_model.specs.Tapes.{Table}
use Rattle.part_laws.proofs.Births.{has_both}
use Rattle.part_laws.specs.Ends.{last_of}
use Rattle.job_queues.specs.Waiting.{jobs_of}
use Rattle.caller_asks.specs.Recalls.{StandsOnPlaces, lasts_of}
use Rattle.caller_asks.proofs.Leaves.{dropped_none}
use Rattle.part_moves.proofs.LeftLines.{left, was_there}
use Rattle.caller_asks.proofs.BirthLoops.{number_both, or_off}

-- ---- one file

-- what a recall is turned to that a request leaves
left_now : (b : Book) (f id : ℕ) → (drop_files (f ∷ []) id b).recall f ≡ drop_from id (b.recall f)
left_now b f id = ap (λ (t : Bool). if t || false then drop_from id (b.recall f) else b.recall f) (eq-eqb f f refl)

-- the request was not the last that waited, or nobody waited
pub not_last : (id f : ℕ) (old new : Book) (r : Bool) → TellSame new (drop_files (f ∷ []) id old) → r ≡ (is_some (old.recall f) && is_none (new.recall f)) → r ≡ false → last_of id f (old.recall f) ≡ []
not_last id f old new r book is off = by (old.recall f) (new.recall f) (book.recall f ∙ left_now old f id) (sym is ∙ off)
  where
    by : (o q : Option Recall) → q ≡ drop_from id o → (is_some o && is_none q) ≡ false → last_of id f o ≡ []
    by None q turned none = refl
    by (Some x) q turned none = ap (λ (t : Bool). if t then recall_job x.birth f ∷ [] else []) (ap is_none (sym turned) ∙ none)

-- the request was the last that waited
pub was_last : (id f birth : ℕ) (old new : Book) (r : Bool) → TellSame new (drop_files (f ∷ []) id old) → r ≡ (is_some (old.recall f) && is_none (new.recall f)) → r ≡ true → Some birth ≡ option_map (λ (x : Recall). x.birth) (old.recall f)
    → last_of id f (old.recall f) ≡ recall_job birth f ∷ []
was_last id f birth old new r book is on live = by (old.recall f) (new.recall f) (book.recall f ∙ left_now old f id) (sym is ∙ on) live
  where
    by : (o q : Option Recall) → q ≡ drop_from id o → (is_some o && is_none q) ≡ true → Some birth ≡ option_map (λ (x : Recall). x.birth) o → last_of id f o ≡ recall_job birth f ∷ []
    by None q turned ended born = absurd (cc)
    by (Some x) q turned ended born =
        (let same : birth ≡ x.birth = cc in
        ap (λ (t : Bool). if t then recall_job x.birth f ∷ [] else []) (ap is_none (sym turned) ∙ ended) ∙ ap (λ (n : ℕ). recall_job n f ∷ []) (sym same))

-- a recall that was live is there
pub some_live : (id f : ℕ) (old new : Book) (r : Bool) → r ≡ (is_some (old.recall f) && is_none (new.recall f)) → r ≡ true → None ≡ option_map (λ (x : Recall). x.birth) (old.recall f) → ⊥
some_live id f old new r is on none = by (old.recall f) (sym is ∙ on) none
  where
    by : (o : Option Recall) → (is_some o && is_none (new.recall f)) ≡ true → None ≡ option_map (λ (x : Recall). x.birth) o → ⊥
    by None ended born = absurd (cc)
    by (Some x) ended born = absurd (cc)

-- nothing leaves a queue
pub none_leaves : (js : List Job) (lines : Lines) (k : ℕ) → js ≡ [] → lines k ≡ drop_jobs js lines k
none_leaves js lines k is = dropped_none lines k ∙ ap (λ (is : List Job). drop_jobs is lines k) (sym is)

-- ---- a request leaves a recall once

filter_again : (test : ℕ → Bool) (xs : List ℕ) → filter test (filter test xs) ≡ filter test xs
filter_again test [] = refl
filter_again test (x ∷ xs) = by (test x) refl (filter_again test xs)
  where
    by : (b : Bool) → test x ≡ b → filter test (filter test xs) ≡ filter test xs → filter test (if b then x ∷ filter test xs else filter test xs) ≡ (if b then x ∷ filter test xs else filter test xs)
    by true is rest = rw is (ap (λ (ys : List ℕ). x ∷ ys) rest)
    by false is rest = rest

-- what is left of a recall once a request has left it
left_of : (id birth : ℕ) (ws : List ℕ) → filter (λ s. not (s == id)) ws ≡ ws → drop_from id (left_with birth ws) ≡ left_with birth ws
left_of id birth [] e = refl
left_of id birth (w ∷ ws) e = ap (left_with birth) e

dropped_again : (id : ℕ) (o : Option Recall) → drop_from id (drop_from id o) ≡ drop_from id o
dropped_again id None = refl
dropped_again id (Some r) = left_of id r.birth (filter (λ s. not (s == id)) r.waiting) (filter_again (λ s. not (s == id)) r.waiting)

none_last : (id f birth : ℕ) (ws : List ℕ) → filter (λ s. not (s == id)) ws ≡ ws → last_of id f (left_with birth ws) ≡ []
none_last id f birth [] e = refl
none_last id f birth (w ∷ ws) e = ap (λ (xs : List ℕ). if is_none (left_with birth xs) then recall_job birth f ∷ [] else []) e

last_once : (id f : ℕ) (o : Option Recall) → last_of id f (drop_from id o) ≡ []
last_once id f None = refl
last_once id f (Some r) = none_last id f r.birth (filter (λ s. not (s == id)) r.waiting) (filter_again (λ s. not (s == id)) r.waiting)

-- ---- one file more: the book

dropped_more : (id f : ℕ) (fs : List ℕ) (old mid new : Book) → TellSame mid (drop_files fs id old) → TellSame new (drop_files (f ∷ []) id mid) → TellSame new (drop_files (fs ++ f ∷ []) id old)
dropped_more id f fs old mid new first then_one = record {
  recall = λ g.
      then_one.recall g
      ∙ ap (λ (o : Option Recall). if (g == f) || false then drop_from id o else o) (first.recall g)
      ∙ by g (g == f) (has_number g fs)
      ∙ ap (λ (b : Bool). if b then drop_from id (old.recall g) else old.recall g) (sym (number_both g fs f));
  archive = λ g c. then_one.archive g c ∙ first.archive g c;
  claimer = λ j. then_one.claimer j ∙ first.claimer j;
  charges = λ j. then_one.charges j ∙ first.charges j;
  last_birth = λ g c. then_one.last_birth g c ∙ first.last_birth g c;
  named = λ j. then_one.named j ∙ first.named j;
}
  where
    by : (g : ℕ) (a b : Bool) → (if a || false then drop_from id (if b then drop_from id (old.recall g) else old.recall g) else (if b then drop_from id (old.recall g) else old.recall g)) ≡ (if b || a then drop_from id (old.recall g) else old.recall g)
    by g true true = dropped_again id (old.recall g)
    by g true false = refl
    by g false true = refl
    by g false false = refl

-- ---- one file more: the queues

lasts_more : (recalls : ℕ → Option Recall) (id f : ℕ) (fs : List ℕ) → lasts_of recalls id (fs ++ f ∷ []) ≡ lasts_of recalls id fs ++ last_of id f (recalls f)
lasts_more recalls id f [] = append-nil (last_of id f (recalls f))
lasts_more recalls id f (g ∷ fs) = ap (λ (js : List Job). last_of id g (recalls g) ++ js) (lasts_more recalls id f fs) ∙ sym (append_assoc (last_of id g (recalls g)) (lasts_of recalls id fs) (last_of id f (recalls f)))

-- the recall of a file that was passed is among those that ended, where it ended
lasts_have : (recalls : ℕ → Option Recall) (id f : ℕ) (fs : List ℕ) (j : Job) → has_number f fs ≡ true → has_job j (last_of id f (recalls f)) ≡ true → has_job j (lasts_of recalls id fs) ≡ true
lasts_have recalls id f [] j among there = absurd (cc)
lasts_have recalls id f (g ∷ fs) j among there =
    has_both j (last_of id g (recalls g)) (lasts_of recalls id fs)
    ∙ elim (or_cases (f == g) (has_number f fs) among) [
      | inl here ↦
          (let same : f ≡ g = eqb-true f g here in
          or_left (has_job j (last_of id g (recalls g))) _ (subst (λ (n : ℕ). has_job j (last_of id n (recalls n)) ≡ true) same there))
      | inr rest ↦ or_right (has_job j (last_of id g (recalls g))) _ (lasts_have recalls id f fs j rest there)
    ]

left_same : (is js : List Job) (ls : List Line) → ((j : Job) → has_job j is ≡ has_job j js) → left is ls ≡ left js ls
left_same is js [] same = refl
left_same is js (l ∷ ls) same = rw (same l.job, left_same is js ls same) refl

-- what leaves in two steps leaves at once
left_both : (is js : List Job) (ls : List Line) → left js (left is ls) ≡ left (is ++ js) ls
left_both is js [] = refl
left_both is js (l ∷ ls) = by (has_job l.job is) (has_job l.job js) refl (left_both is js ls) ∙ ap (λ (b : Bool). if not b then l ∷ left (is ++ js) ls else left (is ++ js) ls) (sym (has_both l.job is js))
  where
    by : (a b : Bool) → has_job l.job js ≡ b → left js (left is ls) ≡ left (is ++ js) ls → left js (if not a then l ∷ left is ls else left is ls) ≡ (if not (a || b) then l ∷ left (is ++ js) ls else left (is ++ js) ls)
    by true b e rest = rest
    by false true e rest = rw e rest
    by false false e rest = rw e (ap (λ (ks : List Line). l ∷ ks) rest)

known_adds_none : (is js : List Job) (ls : List Line) → ((j : Job) → has_job j js ≡ true → has_job j is ≡ true) → left (is ++ js) ls ≡ left is ls
known_adds_none is js ls known = left_same (is ++ js) is ls (λ j. has_both j is js ∙ by (has_job j is) (has_job j js) (known j))
  where
    by : (a b : Bool) → (b ≡ true → a ≡ true) → (a || b) ≡ a
    by true b f = refl
    by false true f = (let bad : false ≡ true = f refl in absurd (cc))
    by false false f = refl

left_once : (recalls : ℕ → Option Recall) (id f : ℕ) (fs : List ℕ) (o : Option Recall) (ls : List Line) (b : Bool) → has_number f fs ≡ b → o ≡ (if b then drop_from id (recalls f) else recalls f)
    → left (last_of id f o) (left (lasts_of recalls id fs) ls) ≡ left (lasts_of recalls id fs ++ last_of id f (recalls f)) ls
left_once recalls id f fs o ls true among is =
    ap (λ (js : List Job). left js (left (lasts_of recalls id fs) ls)) (ap (last_of id f) is ∙ last_once id f (recalls f))
    ∙ left_both (lasts_of recalls id fs) [] ls
    ∙ ap (λ (js : List Job). left js ls) (append-nil (lasts_of recalls id fs))
    ∙ sym (known_adds_none (lasts_of recalls id fs) (last_of id f (recalls f)) ls (λ j there. lasts_have recalls id f fs j among there))
left_once recalls id f fs o ls false among is = ap (λ (p : Option Recall). left (last_of id f p) (left (lasts_of recalls id fs) ls)) is ∙ left_both (lasts_of recalls id fs) (last_of id f (recalls f)) ls

-- ---- the steps of the loop

pub record AreLeft (id : ℕ) (files : List ℕ) (old now : Book) (was are : Lines) : Type 0 where
  pub book : TellSame now (drop_files files id old)
  pub lines : (k : ℕ) → are k ≡ drop_jobs (lasts_of old.recall id files) was k

pub left_none : (id : ℕ) (old : Book) (was : Lines) → AreLeft id [] old old was was
left_none id old was = record {
  book = record { recall = λ f. refl; archive = λ f c. refl; claimer = λ j. refl; charges = λ j. refl; last_birth = λ f c. refl; named = λ j. refl };
  lines = λ k. dropped_none was k;
}

pub left_more : (id i : ℕ) (fs : List ℕ) (d : ℕ) (old mid new : Book) (was between now : Lines) → i < length fs → AreLeft id (take i fs) old mid was between → TellSame new (drop_files (get_or fs i d ∷ []) id mid)
    → ((k : ℕ) → now k ≡ drop_jobs (last_of id (get_or fs i d) (mid.recall (get_or fs i d))) between k) → AreLeft id (take (i + 1) fs) old new was now
left_more id i fs d old mid new was between now low before book lines = record {
  book = subst (λ (gs : List ℕ). TellSame new (drop_files gs id old)) (sym (take_more fs i d low)) (dropped_more id (get_or fs i d) (take i fs) old mid new before.book book);
  lines = λ k.
      lines k
      ∙ ap (left (last_of id (get_or fs i d) (mid.recall (get_or fs i d)))) (before.lines k)
      ∙ left_once old.recall id (get_or fs i d) (take i fs) (mid.recall (get_or fs i d)) (was k) (has_number (get_or fs i d) (take i fs)) refl (before.book.recall (get_or fs i d))
      ∙ ap (λ (js : List Job). left js (was k)) (sym (lasts_more old.recall id (get_or fs i d) (take i fs)))
      ∙ ap (λ (gs : List ℕ). left (lasts_of old.recall id gs) (was k)) (sym (take_more fs i d low));
}

-- recalls that are left stand where they stood
pub stand_still : (v : Table) (n : ℕ) (js : List Job) (was are : Lines) → StandsOnPlaces v n was → ((k : ℕ) → are k ≡ drop_jobs js was k) → StandsOnPlaces v n are
stand_still v n js was are stands lines b f k there =
    stands b f k (was_there (recall_job b f) js (was k) (sym (ap (λ (ls : List Line). has_job (recall_job b f) (jobs_of ls)) (lines k)) ∙ there))
