-- What the calls of a job book do to what it tells.
use Rattle.std.proofs.Common.{◌≡◌, ◌≢◌, ◌∙◌, ℕ, suc, List, [], ◌∷◌, ◌++◌, Bool, true, false, not, ◌&&◌, ◌||◌, refl, sym, ap, subst, None, Some, length, ◌+◌, ◌<◌, ◌≤◌, arith}
use Rattle.std.specs.Prelude.{Option, is_some, is_none, option_map, if◌then◌else◌, ◌==◌, filter, nat_lt, unwrap_or}
use Rattle.std.specs.Map.{lookup}
use Rattle.std.proofs.lemmas.Bool.{eqb-true, eq-eqb}
use Rattle.std.proofs.lemmas.Bool.Decides.{nat_tests}
use Rattle.cta_model.specs.declared.asks.Job.{Job}
use Rattle.cta_model.specs.declared.states.Charge.{Charge}
use Rattle.cta_model.specs.Mounts.{has_job, has_copy}
use Rattle.cta_model.specs.Recalls.{Recall, subscribed, left_with}
use Rattle.part_model.specs.JobBook.{TellSame, claim_jobs, give_back_jobs, end_jobs, bear_jobs, charge_jobs, subscribe_files, drop_files, drop_from}
use Rattle.part_model.specs.JobRows.{JobRows, book_in}
use Rattle.job_book.specs.declared.book.RecallRow.{RecallRow}
use Rattle.job_book.specs.Maps.{Maps, CopyKey, JobKey, key_of, is_pair, is_key, is_place, waiting_in, waits_at, charge_at, charges_in, listed, left_out, rows_of, no_charge, places_in, places_or}
use Rattle.job_book.proofs.Looks.{recall_of, recall_in-map, birth_in-map, claimer_in-map, charges_in-map, has_job-map, has_job-one, has_copy-one, has_number-one, waiting_in-more, waiting_same, waiting_left, charges_in-more, charges_same, key_is}

-- the claimer of a job, after the claims were changed at one key
claimer_put : (old new : List (JobKey × ℕ)) (w : Option ℕ) (job j : Job) → ((k : JobKey) → lookup (is_key k) new ≡ (if is_key (key_of job) k then w else lookup (is_key k) old))
    → lookup (is_key (key_of j)) new ≡ (if has_job j (job ∷ []) then w else lookup (is_key (key_of j)) old)
claimer_put old new w job j each = each (key_of j) ∙ ap (λ (b : Bool). if b then w else lookup (is_key (key_of j)) old) (sym (has_job-one job j))

some_if : (b : Bool) (n : ℕ) (o : Option ℕ) → is_some (if b then Some n else o) ≡ (b || is_some o)
some_if true n o = refl
some_if false n o = refl

-- a claim
pub claim-tells : (m : Maps) (v : JobRows) (claims named : List (JobKey × ℕ)) (job : Job) (mount : ℕ) → rows_of m ≡ v
    → ((k : JobKey) → lookup (is_key k) claims ≡ (if is_key (key_of job) k then Some mount else lookup (is_key k) m.claims))
    → ((k : JobKey) → lookup (is_key k) named ≡ (if is_key (key_of job) k then Some mount else lookup (is_key k) m.named))
    → TellSame (book_in (rows_of (record m { claims = claims; named = named }))) (claim_jobs (job ∷ []) mount (book_in v))
claim-tells m v claims named job mount is each_claim each_name = subst (λ (u : JobRows). TellSame (book_in (rows_of (record m { claims = claims; named = named }))) (claim_jobs (job ∷ []) mount (book_in u))) is (record {
  recall = λ f. refl;
  archive = λ f c. refl;
  claimer = λ j. claimer_in-map j claims ∙ claimer_put m.claims claims (Some mount) job j each_claim ∙ ap (λ (o : Option ℕ). if has_job j (job ∷ []) then Some mount else o) (sym (claimer_in-map j m.claims));
  charges = λ j. refl;
  last_birth = λ f c. refl;
  named = λ j. has_job-map j named ∙ ap is_some (claimer_put m.named named (Some mount) job j each_name) ∙ some_if (has_job j (job ∷ [])) mount (lookup (is_key (key_of j)) m.named) ∙ ap (λ (b : Bool). has_job j (job ∷ []) || b) (sym (has_job-map j m.named));
})

-- a job that is given back
pub give_back-tells : (m : Maps) (v : JobRows) (claims : List (JobKey × ℕ)) (job : Job) → rows_of m ≡ v
    → ((k : JobKey) → lookup (is_key k) claims ≡ (if is_key (key_of job) k then None else lookup (is_key k) m.claims))
    → TellSame (book_in (rows_of (record m { claims = claims }))) (give_back_jobs (job ∷ []) (book_in v))
give_back-tells m v claims job is each = subst (λ (u : JobRows). TellSame (book_in (rows_of (record m { claims = claims }))) (give_back_jobs (job ∷ []) (book_in u))) is (record {
  recall = λ f. refl;
  archive = λ f c. refl;
  claimer = λ j. claimer_in-map j claims ∙ claimer_put m.claims claims None job j each ∙ ap (λ (o : Option ℕ). if has_job j (job ∷ []) then None else o) (sym (claimer_in-map j m.claims));
  charges = λ j. refl;
  last_birth = λ f c. refl;
  named = λ j. refl;
})

-- the birth of a copy, after the births were changed at one copy
birth_put : (old new : List (CopyKey × ℕ)) (w : Option ℕ) (job : Job) (f c : ℕ) → ((k : CopyKey) → lookup (is_pair k.0 k.1) new ≡ (if is_pair job.file job.copy k then w else lookup (is_pair k.0 k.1) old))
    → lookup (is_pair f c) new ≡ (if has_copy f c (job ∷ []) then w else lookup (is_pair f c) old)
birth_put old new w job f c each = each (f, c) ∙ ap (λ (b : Bool). if b then w else lookup (is_pair f c) old) (sym (has_copy-one job f c))

-- ---- copies

not_recall : (job : Job) (f : ℕ) → job.copy ≢ 0 → has_copy f 0 (job ∷ []) ≡ false
not_recall job f other = has_copy-one job f 0 ∙ by (job.file == f) (job.copy == 0) (apart (job.copy == 0) refl)
  where
    apart : (b : Bool) → (job.copy == 0) ≡ b → b ≡ false
    apart true e = absurd (other (eqb-true job.copy 0 e))
    apart false e = refl

    by : (a b : Bool) → b ≡ false → (a && b) ≡ false
    by true b e = e
    by false b e = refl

only_recall : (job : Job) (f c : ℕ) → job.copy ≡ 0 → has_copy f (suc c) (job ∷ []) ≡ false
only_recall job f c is = has_copy-one job f (suc c) ∙ by (job.file == f) (job.copy == suc c) (apart (job.copy == suc c) refl)
  where
    apart : (b : Bool) → (job.copy == suc c) ≡ b → b ≡ false
    apart true e = (let same : job.copy ≡ suc c = eqb-true job.copy (suc c) e in absurd (omega arith))
    apart false e = refl

    by : (a b : Bool) → b ≡ false → (a && b) ≡ false
    by true b e = e
    by false b e = refl

recall_file : (job : Job) (f : ℕ) → job.copy ≡ 0 → has_copy f 0 (job ∷ []) ≡ (job.file == f)
recall_file job f is = has_copy-one job f 0 ∙ by (job.file == f) (job.copy == 0) (eq-eqb job.copy 0 is)
  where
    by : (a b : Bool) → b ≡ true → (a && b) ≡ a
    by true b e = e
    by false b e = refl

-- ---- births and ends of archive jobs

pub bear_archive-tells : (m : Maps) (v : JobRows) (archives births : List (CopyKey × ℕ)) (job : Job) → rows_of m ≡ v → job.copy ≢ 0
    → ((k : CopyKey) → lookup (is_pair k.0 k.1) archives ≡ (if is_pair job.file job.copy k then Some job.birth else lookup (is_pair k.0 k.1) m.archives))
    → ((k : CopyKey) → lookup (is_pair k.0 k.1) births ≡ (if is_pair job.file job.copy k then Some job.birth else lookup (is_pair k.0 k.1) m.births))
    → TellSame (book_in (rows_of (record m { archives = archives; births = births }))) (bear_jobs (job ∷ []) job.birth (book_in v))
bear_archive-tells m v archives births job is other each_archive each_birth = subst (λ (u : JobRows). TellSame (book_in (rows_of (record m { archives = archives; births = births }))) (bear_jobs (job ∷ []) job.birth (book_in u))) is (record {
  recall = λ f. sym (ap (λ (b : Bool). if b then Some (record { birth = job.birth; waiting = job.birth ∷ [] }) else (book_in (rows_of m)).recall f) (not_recall job f other));
  archive = λ f c. birth_in-map f (suc c) archives ∙ birth_put m.archives archives (Some job.birth) job f (suc c) each_archive ∙ ap (λ (o : Option ℕ). if has_copy f (suc c) (job ∷ []) then Some job.birth else o) (sym (birth_in-map f (suc c) m.archives));
  claimer = λ j. refl;
  charges = λ j. refl;
  last_birth = λ f c. birth_in-map f c births ∙ birth_put m.births births (Some job.birth) job f c each_birth ∙ ap (λ (o : Option ℕ). if has_copy f c (job ∷ []) then Some job.birth else o) (sym (birth_in-map f c m.births));
  named = λ j. refl;
})

pub end_archive-tells : (m : Maps) (v : JobRows) (archives : List (CopyKey × ℕ)) (job : Job) → rows_of m ≡ v → job.copy ≢ 0
    → ((k : CopyKey) → lookup (is_pair k.0 k.1) archives ≡ (if is_pair job.file job.copy k then None else lookup (is_pair k.0 k.1) m.archives))
    → TellSame (book_in (rows_of (record m { archives = archives }))) (end_jobs (job ∷ []) (book_in v))
end_archive-tells m v archives job is other each = subst (λ (u : JobRows). TellSame (book_in (rows_of (record m { archives = archives }))) (end_jobs (job ∷ []) (book_in u))) is (record {
  recall = λ f. sym (ap (λ (b : Bool). if b then None else (book_in (rows_of m)).recall f) (not_recall job f other));
  archive = λ f c. birth_in-map f (suc c) archives ∙ birth_put m.archives archives None job f (suc c) each ∙ ap (λ (o : Option ℕ). if has_copy f (suc c) (job ∷ []) then None else o) (sym (birth_in-map f (suc c) m.archives));
  claimer = λ j. refl;
  charges = λ j. refl;
  last_birth = λ f c. refl;
  named = λ j. refl;
})

-- ---- recalls

-- a file's recall after the row of one file was put or taken out, where those that wait for other files are the same
recall_put : (waits waits' : List (CopyKey × ℕ)) (old new : List (ℕ × RecallRow)) (w : Option RecallRow) (r : Option Recall) (file f : ℕ)
    → ((q : ℕ) → lookup (λ k. q == k) new ≡ (if file == q then w else lookup (λ k. q == k) old))
    → ((i : ℕ) → (file == f) ≡ false → waits_at waits' f i ≡ waits_at waits f i)
    → option_map (recall_of waits' file) w ≡ r
    → option_map (recall_of waits' f) (lookup (λ k. f == k) new) ≡ (if file == f then r else option_map (recall_of waits f) (lookup (λ k. f == k) old))
recall_put waits waits' old new w r file f each same here = ap (option_map (recall_of waits' f)) (each f) ∙ by (file == f) refl
  where
    others : (file == f) ≡ false → (o : Option RecallRow) → option_map (recall_of waits' f) o ≡ option_map (recall_of waits f) o
    others miss None = refl
    others miss (Some row) = ap (λ (xs : List ℕ). Some (record { birth = row.birth; waiting = xs })) (waiting_same (waits_at waits f) (waits_at waits' f) row.places (λ i low. same i miss))

    by : (b : Bool) → (file == f) ≡ b → option_map (recall_of waits' f) (if b then w else lookup (λ k. f == k) old) ≡ (if b then r else option_map (recall_of waits f) (lookup (λ k. f == k) old))
    by true hit = subst (λ (q : ℕ). option_map (recall_of waits' q) w ≡ r) (eqb-true file f hit) here
    by false miss = others miss (lookup (λ k. f == k) old)

pub bear_recall-tells : (m : Maps) (v : JobRows) (waits births : List (CopyKey × ℕ)) (recalls : List (ℕ × RecallRow)) (job : Job) → rows_of m ≡ v → job.copy ≡ 0
    → ((k : CopyKey) → lookup (is_pair k.0 k.1) waits ≡ (if is_pair job.file 0 k then Some job.birth else lookup (is_pair k.0 k.1) m.waiting))
    → ((q : ℕ) → lookup (λ k. q == k) recalls ≡ (if job.file == q then Some (record { birth = job.birth; places = 1 }) else lookup (λ k. q == k) m.recalls))
    → ((k : CopyKey) → lookup (is_pair k.0 k.1) births ≡ (if is_pair job.file job.copy k then Some job.birth else lookup (is_pair k.0 k.1) m.births))
    → TellSame (book_in (rows_of (record m { waiting = waits; recalls = recalls; births = births }))) (bear_jobs (job ∷ []) job.birth (book_in v))
bear_recall-tells m v waits births recalls job is zeroth each_wait each_recall each_birth = subst (λ (u : JobRows). TellSame (book_in (rows_of (record m { waiting = waits; recalls = recalls; births = births }))) (bear_jobs (job ∷ []) job.birth (book_in u))) is (record {
  recall = λ f. recall_in-map waits f recalls
      ∙ recall_put m.waiting waits m.recalls recalls (Some (record { birth = job.birth; places = 1 })) (Some (record { birth = job.birth; waiting = job.birth ∷ [] })) job.file f each_recall (λ i miss. others f i miss) here
      ∙ ap (λ (o : Option Recall). if job.file == f then Some (record { birth = job.birth; waiting = job.birth ∷ [] }) else o) (sym (recall_in-map m.waiting f m.recalls))
      ∙ ap (λ (b : Bool). if b then Some (record { birth = job.birth; waiting = job.birth ∷ [] }) else (book_in (rows_of m)).recall f) (sym (recall_file job f zeroth));
  archive = λ f c. sym (ap (λ (b : Bool). if b then Some job.birth else (book_in (rows_of m)).archive f (suc c)) (only_recall job f c zeroth));
  claimer = λ j. refl;
  charges = λ j. refl;
  last_birth = λ f c. birth_in-map f c births ∙ birth_put m.births births (Some job.birth) job f c each_birth ∙ ap (λ (o : Option ℕ). if has_copy f c (job ∷ []) then Some job.birth else o) (sym (birth_in-map f c m.births));
  named = λ j. refl;
})
  where
    others : (f i : ℕ) → (job.file == f) ≡ false → waits_at waits f i ≡ waits_at m.waiting f i
    others f i miss = each_wait (f, i) ∙ ap (λ (b : Bool). if b && (0 == i) then Some job.birth else waits_at m.waiting f i) miss

    first : waits_at waits job.file 0 ≡ Some job.birth
    first = each_wait (job.file, 0) ∙ ap (λ (b : Bool). if b && (0 == 0) then Some job.birth else waits_at m.waiting job.file 0) (eq-eqb job.file job.file refl)

    here : option_map (recall_of waits job.file) (Some (record { birth = job.birth; places = 1 })) ≡ Some (record { birth = job.birth; waiting = job.birth ∷ [] })
    here = ap (λ (o : Option ℕ). Some (record { birth = job.birth; waiting = listed o })) first

pub end_recall-tells : (m : Maps) (v : JobRows) (waits : List (CopyKey × ℕ)) (recalls : List (ℕ × RecallRow)) (job : Job) → rows_of m ≡ v → job.copy ≡ 0
    → ((f i : ℕ) → (job.file == f) ≡ false → waits_at waits f i ≡ waits_at m.waiting f i)
    → ((q : ℕ) → lookup (λ k. q == k) recalls ≡ (if job.file == q then None else lookup (λ k. q == k) m.recalls))
    → TellSame (book_in (rows_of (record m { waiting = waits; recalls = recalls }))) (end_jobs (job ∷ []) (book_in v))
end_recall-tells m v waits recalls job is zeroth others each = subst (λ (u : JobRows). TellSame (book_in (rows_of (record m { waiting = waits; recalls = recalls }))) (end_jobs (job ∷ []) (book_in u))) is (record {
  recall = λ f. recall_in-map waits f recalls
      ∙ recall_put m.waiting waits m.recalls recalls None None job.file f each (λ i miss. others f i miss) refl
      ∙ ap (λ (o : Option Recall). if job.file == f then None else o) (sym (recall_in-map m.waiting f m.recalls))
      ∙ ap (λ (b : Bool). if b then None else (book_in (rows_of m)).recall f) (sym (recall_file job f zeroth));
  archive = λ f c. sym (ap (λ (b : Bool). if b then None else (book_in (rows_of m)).archive f (suc c)) (only_recall job f c zeroth));
  claimer = λ j. refl;
  charges = λ j. refl;
  last_birth = λ f c. refl;
  named = λ j. refl;
})

-- an entry waits for a live recall too
pub subscribe-tells : (m : Maps) (v : JobRows) (waits : List (CopyKey × ℕ)) (recalls : List (ℕ × RecallRow)) (file owner : ℕ) (row : RecallRow) → rows_of m ≡ v → lookup (λ k. file == k) m.recalls ≡ Some row
    → ((k : CopyKey) → lookup (is_pair k.0 k.1) waits ≡ (if is_pair file row.places k then Some owner else lookup (is_pair k.0 k.1) m.waiting))
    → ((q : ℕ) → lookup (λ k. q == k) recalls ≡ (if file == q then Some (record { birth = row.birth; places = row.places + 1 }) else lookup (λ k. q == k) m.recalls))
    → TellSame (book_in (rows_of (record m { waiting = waits; recalls = recalls }))) (subscribe_files (file ∷ []) owner (book_in v))
subscribe-tells m v waits recalls file owner row is there each_wait each = subst (λ (u : JobRows). TellSame (book_in (rows_of (record m { waiting = waits; recalls = recalls }))) (subscribe_files (file ∷ []) owner (book_in u))) is (record {
  recall = λ f. recall_in-map waits f recalls
      ∙ recall_put m.waiting waits m.recalls recalls (Some (record { birth = row.birth; places = row.places + 1 })) (option_map (subscribed true owner) (Some (recall_of m.waiting file row))) file f each (λ i miss. others f i miss) here
      ∙ by f (file == f) refl;
  archive = λ f c. refl;
  claimer = λ j. refl;
  charges = λ j. refl;
  last_birth = λ f c. refl;
  named = λ j. refl;
})
  where
    others : (f i : ℕ) → (file == f) ≡ false → waits_at waits f i ≡ waits_at m.waiting f i
    others f i miss = each_wait (f, i) ∙ ap (λ (b : Bool). if b && (row.places == i) then Some owner else waits_at m.waiting f i) miss

    below : (i : ℕ) → i < row.places → waits_at waits file i ≡ waits_at m.waiting file i
    below i low = each_wait (file, i) ∙ pick (file == file) (row.places == i) (apart (row.places == i) refl)
      where
        apart : (b : Bool) → (row.places == i) ≡ b → b ≡ false
        apart true e = (let same : row.places ≡ i = eqb-true row.places i e in absurd (omega arith))
        apart false e = refl

        pick : (a b : Bool) → b ≡ false → (if a && b then Some owner else waits_at m.waiting file i) ≡ waits_at m.waiting file i
        pick true b e = ap (λ (t : Bool). if t then Some owner else waits_at m.waiting file i) e
        pick false b e = refl

    last : waits_at waits file row.places ≡ Some owner
    last = each_wait (file, row.places) ∙ ap (λ (b : Bool). if b && (row.places == row.places) then Some owner else waits_at m.waiting file row.places) (eq-eqb file file refl) ∙ ap (λ (b : Bool). if b then Some owner else waits_at m.waiting file row.places) (eq-eqb row.places row.places refl)

    here : option_map (recall_of waits file) (Some (record { birth = row.birth; places = row.places + 1 })) ≡ option_map (subscribed true owner) (Some (recall_of m.waiting file row))
    here = ap (λ (xs : List ℕ). Some (record { birth = row.birth; waiting = xs })) (waiting_in-more (waits_at waits file) row.places ∙ ap (λ (o : Option ℕ). waiting_in (waits_at waits file) row.places ++ listed o) last ∙ ap (λ (xs : List ℕ). xs ++ owner ∷ []) (waiting_same (waits_at m.waiting file) (waits_at waits file) row.places below))

    by : (f : ℕ) (b : Bool) → (file == f) ≡ b → (if b then option_map (subscribed true owner) (Some (recall_of m.waiting file row)) else option_map (recall_of m.waiting f) (lookup (λ k. f == k) m.recalls)) ≡ (subscribe_files (file ∷ []) owner (book_in (rows_of m))).recall f
    by f true hit =
        subst (λ (q : ℕ). option_map (subscribed true owner) (Some (recall_of m.waiting file row)) ≡ option_map (subscribed true owner) (option_map (recall_of m.waiting q) (lookup (λ k. q == k) m.recalls))) (eqb-true file f hit) (ap (λ (o : Option RecallRow). option_map (subscribed true owner) (option_map (recall_of m.waiting file) o)) (sym there))
        ∙ ap (option_map (subscribed true owner)) (sym (recall_in-map m.waiting f m.recalls))
        ∙ sym (ap (λ (b : Bool). if b then option_map (subscribed true owner) ((book_in (rows_of m)).recall f) else (book_in (rows_of m)).recall f) (has_number-one file f ∙ hit))
    by f false miss = sym (recall_in-map m.waiting f m.recalls) ∙ sym (ap (λ (b : Bool). if b then option_map (subscribed true owner) ((book_in (rows_of m)).recall f) else (book_in (rows_of m)).recall f) (has_number-one file f ∙ miss))

-- where no recall is live, none is waited for
pub subscribe_none-tells : (m : Maps) (v : JobRows) (file owner : ℕ) → rows_of m ≡ v → lookup (λ k. file == k) m.recalls ≡ None → TellSame (book_in v) (subscribe_files (file ∷ []) owner (book_in v))
subscribe_none-tells m v file owner is none = subst (λ (u : JobRows). TellSame (book_in u) (subscribe_files (file ∷ []) owner (book_in u))) is (record {
  recall = λ f. by f (file == f) refl;
  archive = λ f c. refl;
  claimer = λ j. refl;
  charges = λ j. refl;
  last_birth = λ f c. refl;
  named = λ j. refl;
})
  where
    by : (f : ℕ) (b : Bool) → (file == f) ≡ b → (book_in (rows_of m)).recall f ≡ (subscribe_files (file ∷ []) owner (book_in (rows_of m))).recall f
    by f true hit =
        (let gone : (book_in (rows_of m)).recall f ≡ None = recall_in-map m.waiting f m.recalls ∙ subst (λ (q : ℕ). option_map (recall_of m.waiting q) (lookup (λ k. q == k) m.recalls) ≡ None) (eqb-true file f hit) (ap (option_map (recall_of m.waiting file)) none) in
        gone ∙ ap (option_map (subscribed true owner)) (sym gone) ∙ sym (ap (λ (b : Bool). if b then option_map (subscribed true owner) ((book_in (rows_of m)).recall f) else (book_in (rows_of m)).recall f) (has_number-one file f ∙ hit)))
    by f false miss = sym (ap (λ (b : Bool). if b then option_map (subscribed true owner) ((book_in (rows_of m)).recall f) else (book_in (rows_of m)).recall f) (has_number-one file f ∙ miss))

pub unsubscribe_none-tells : (m : Maps) (v : JobRows) (file owner : ℕ) → rows_of m ≡ v → lookup (λ k. file == k) m.recalls ≡ None → TellSame (book_in v) (drop_files (file ∷ []) owner (book_in v))
unsubscribe_none-tells m v file owner is none = subst (λ (u : JobRows). TellSame (book_in u) (drop_files (file ∷ []) owner (book_in u))) is (record {
  recall = λ f. by f (file == f) refl;
  archive = λ f c. refl;
  claimer = λ j. refl;
  charges = λ j. refl;
  last_birth = λ f c. refl;
  named = λ j. refl;
})
  where
    by : (f : ℕ) (b : Bool) → (file == f) ≡ b → (book_in (rows_of m)).recall f ≡ (drop_files (file ∷ []) owner (book_in (rows_of m))).recall f
    by f true hit =
        (let gone : (book_in (rows_of m)).recall f ≡ None = recall_in-map m.waiting f m.recalls ∙ subst (λ (q : ℕ). option_map (recall_of m.waiting q) (lookup (λ k. q == k) m.recalls) ≡ None) (eqb-true file f hit) (ap (option_map (recall_of m.waiting file)) none) in
        gone ∙ ap (drop_from owner) (sym gone) ∙ sym (ap (λ (b : Bool). if b then drop_from owner ((book_in (rows_of m)).recall f) else (book_in (rows_of m)).recall f) (has_number-one file f ∙ hit)))
    by f false miss = sym (ap (λ (b : Bool). if b then drop_from owner ((book_in (rows_of m)).recall f) else (book_in (rows_of m)).recall f) (has_number-one file f ∙ miss))

-- ---- an entry waits no longer

-- of those that waited for a file's recall, the entry is left out
left_is : (waits waits' : List (CopyKey × ℕ)) (file owner : ℕ) (row : RecallRow) → ((f i : ℕ) → waits_at waits' f i ≡ (if file == f && nat_lt i row.places then left_out owner (waits_at waits f i) else waits_at waits f i))
    → waiting_in (waits_at waits' file) row.places ≡ filter (λ s. not (s == owner)) (waiting_in (waits_at waits file) row.places)
left_is waits waits' file owner row each = waiting_left owner (waits_at waits file) (waits_at waits' file) row.places (λ i low. each file i ∙ pick i (file == file) (nat_lt i row.places) (eq-eqb file file refl) (below i low))
  where
    below : (i : ℕ) → i < row.places → nat_lt i row.places ≡ true
    below i low = grind (arith, nat_tests)

    pick : (i : ℕ) (a b : Bool) → a ≡ true → b ≡ true → (if a && b then left_out owner (waits_at waits file i) else waits_at waits file i) ≡ left_out owner (waits_at waits file i)
    pick i a b ea eb = rw (ea, eb) refl

left_others : (waits waits' : List (CopyKey × ℕ)) (file owner : ℕ) (row : RecallRow) → ((f i : ℕ) → waits_at waits' f i ≡ (if file == f && nat_lt i row.places then left_out owner (waits_at waits f i) else waits_at waits f i))
    → (f i : ℕ) → (file == f) ≡ false → waits_at waits' f i ≡ waits_at waits f i
left_others waits waits' file owner row each f i miss = each f i ∙ ap (λ (b : Bool). if b && nat_lt i row.places then left_out owner (waits_at waits f i) else waits_at waits f i) miss

-- the recall of the file where the entry waits no longer
dropped : (m : Maps) (file owner f : ℕ) (row : RecallRow) → lookup (λ k. file == k) m.recalls ≡ Some row
    → (if file == f then left_with row.birth (filter (λ s. not (s == owner)) (waiting_in (waits_at m.waiting file) row.places)) else option_map (recall_of m.waiting f) (lookup (λ k. f == k) m.recalls)) ≡ (drop_files (file ∷ []) owner (book_in (rows_of m))).recall f
dropped m file owner f row there = by (file == f) refl
  where
    by : (b : Bool) → (file == f) ≡ b → (if b then left_with row.birth (filter (λ s. not (s == owner)) (waiting_in (waits_at m.waiting file) row.places)) else option_map (recall_of m.waiting f) (lookup (λ k. f == k) m.recalls)) ≡ (drop_files (file ∷ []) owner (book_in (rows_of m))).recall f
    by true hit =
        subst (λ (q : ℕ). left_with row.birth (filter (λ s. not (s == owner)) (waiting_in (waits_at m.waiting file) row.places)) ≡ drop_from owner (option_map (recall_of m.waiting q) (lookup (λ k. q == k) m.recalls))) (eqb-true file f hit) (ap (λ (o : Option RecallRow). drop_from owner (option_map (recall_of m.waiting file) o)) (sym there))
        ∙ ap (drop_from owner) (sym (recall_in-map m.waiting f m.recalls))
        ∙ sym (ap (λ (b : Bool). if b then drop_from owner ((book_in (rows_of m)).recall f) else (book_in (rows_of m)).recall f) (has_number-one file f ∙ hit))
    by false miss = sym (recall_in-map m.waiting f m.recalls) ∙ sym (ap (λ (b : Bool). if b then drop_from owner ((book_in (rows_of m)).recall f) else (book_in (rows_of m)).recall f) (has_number-one file f ∙ miss))

left_some : (birth : ℕ) (xs : List ℕ) → 0 < length xs → left_with birth xs ≡ Some (record { birth = birth; waiting = xs })
left_some birth [] low = absurd (omega arith)
left_some birth (x ∷ xs) low = refl

left_none : (birth : ℕ) (xs : List ℕ) → length xs ≡ 0 → left_with birth xs ≡ None
left_none birth [] e = refl
left_none birth (x ∷ xs) e = absurd (omega arith)

-- others wait still
pub unsubscribe-tells : (m : Maps) (v : JobRows) (waits : List (CopyKey × ℕ)) (file owner : ℕ) (row : RecallRow) → rows_of m ≡ v → lookup (λ k. file == k) m.recalls ≡ Some row
    → ((f i : ℕ) → waits_at waits f i ≡ (if file == f && nat_lt i row.places then left_out owner (waits_at m.waiting f i) else waits_at m.waiting f i))
    → 0 < length (waiting_in (waits_at waits file) row.places)
    → TellSame (book_in (rows_of (record m { waiting = waits }))) (drop_files (file ∷ []) owner (book_in v))
unsubscribe-tells m v waits file owner row is there each some = subst (λ (u : JobRows). TellSame (book_in (rows_of (record m { waiting = waits }))) (drop_files (file ∷ []) owner (book_in u))) is (record {
  recall = λ f. recall_in-map waits f m.recalls
      ∙ recall_put m.waiting waits m.recalls m.recalls (Some row) (left_with row.birth (filter (λ s. not (s == owner)) (waiting_in (waits_at m.waiting file) row.places))) file f (λ q. same q (file == q) refl) (λ i miss. left_others m.waiting waits file owner row each f i miss) here
      ∙ dropped m file owner f row there;
  archive = λ f c. refl;
  claimer = λ j. refl;
  charges = λ j. refl;
  last_birth = λ f c. refl;
  named = λ j. refl;
})
  where
    same : (q : ℕ) (b : Bool) → (file == q) ≡ b → lookup (λ k. q == k) m.recalls ≡ (if b then Some row else lookup (λ k. q == k) m.recalls)
    same q true hit = subst (λ (n : ℕ). lookup (λ k. n == k) m.recalls ≡ Some row) (eqb-true file q hit) there
    same q false miss = refl

    here : option_map (recall_of waits file) (Some row) ≡ left_with row.birth (filter (λ s. not (s == owner)) (waiting_in (waits_at m.waiting file) row.places))
    here = sym (left_some row.birth (waiting_in (waits_at waits file) row.places) some) ∙ ap (left_with row.birth) (left_is m.waiting waits file owner row each)

-- it was the last that waited
pub unsubscribe_last-tells : (m : Maps) (v : JobRows) (waits : List (CopyKey × ℕ)) (recalls : List (ℕ × RecallRow)) (file owner : ℕ) (row : RecallRow) → rows_of m ≡ v → lookup (λ k. file == k) m.recalls ≡ Some row
    → ((f i : ℕ) → waits_at waits f i ≡ (if file == f && nat_lt i row.places then left_out owner (waits_at m.waiting f i) else waits_at m.waiting f i))
    → length (waiting_in (waits_at waits file) row.places) ≡ 0
    → ((q : ℕ) → lookup (λ k. q == k) recalls ≡ (if file == q then None else lookup (λ k. q == k) m.recalls))
    → TellSame (book_in (rows_of (record m { waiting = waits; recalls = recalls }))) (drop_files (file ∷ []) owner (book_in v))
unsubscribe_last-tells m v waits recalls file owner row is there each none gone = subst (λ (u : JobRows). TellSame (book_in (rows_of (record m { waiting = waits; recalls = recalls }))) (drop_files (file ∷ []) owner (book_in u))) is (record {
  recall = λ f. recall_in-map waits f recalls
      ∙ recall_put m.waiting waits m.recalls recalls None (left_with row.birth (filter (λ s. not (s == owner)) (waiting_in (waits_at m.waiting file) row.places))) file f gone (λ i miss. left_others m.waiting waits file owner row each f i miss) here
      ∙ dropped m file owner f row there;
  archive = λ f c. refl;
  claimer = λ j. refl;
  charges = λ j. refl;
  last_birth = λ f c. refl;
  named = λ j. refl;
})
  where
    here : ◌≡◌ {A = Option Recall} None (left_with row.birth (filter (λ s. not (s == owner)) (waiting_in (waits_at m.waiting file) row.places)))
    here = sym (ap (left_with row.birth) (sym (left_is m.waiting waits file owner row each)) ∙ left_none row.birth (waiting_in (waits_at waits file) row.places) none)

-- what is told of the recall of a file
pub recall_is : (m : Maps) (v : JobRows) (f : ℕ) → rows_of m ≡ v → (book_in v).recall f ≡ option_map (recall_of m.waiting f) (lookup (λ k. f == k) m.recalls)
recall_is m v f is = subst (λ (u : JobRows). (book_in u).recall f ≡ option_map (recall_of m.waiting f) (lookup (λ k. f == k) m.recalls)) is (recall_in-map m.waiting f m.recalls)

-- ---- charges

-- the charges of a job
pub charges_is : (m : Maps) (v : JobRows) (j : Job) → rows_of m ≡ v → (book_in v).charges j ≡ charges_in (charge_at m.charges (key_of j)) (unwrap_or (lookup (is_key (key_of j)) m.counts) 0)
charges_is m v j is = subst (λ (u : JobRows). (book_in u).charges j ≡ charges_in (charge_at m.charges (key_of j)) (unwrap_or (lookup (is_key (key_of j)) m.counts) 0)) is (charges_in-map m.charges j m.counts)

pub charge-tells : (m : Maps) (v : JobRows) (charges : List ((JobKey × ℕ) × Charge)) (counts : List (JobKey × ℕ)) (job : Job) (charge : Charge) (n : ℕ) → rows_of m ≡ v → n ≡ unwrap_or (lookup (is_key (key_of job)) m.counts) 0
    → ((k : JobKey × ℕ) → lookup (is_place k.0 k.1) charges ≡ (if is_place (key_of job) n k then Some charge else lookup (is_place k.0 k.1) m.charges))
    → ((k : JobKey) → lookup (is_key k) counts ≡ (if is_key (key_of job) k then Some (n + 1) else lookup (is_key k) m.counts))
    → TellSame (book_in (rows_of (record m { charges = charges; counts = counts }))) (charge_jobs (job ∷ []) charge (book_in v))
charge-tells m v charges counts job charge n is count each_charge each_count = subst (λ (u : JobRows). TellSame (book_in (rows_of (record m { charges = charges; counts = counts }))) (charge_jobs (job ∷ []) charge (book_in u))) is (record {
  recall = λ f. refl;
  archive = λ f c. refl;
  claimer = λ j. refl;
  charges = λ j. charges_in-map charges j counts ∙ ap (λ (o : Option ℕ). charges_in (charge_at charges (key_of j)) (unwrap_or o 0)) (each_count (key_of j)) ∙ by j (is_key (key_of job) (key_of j)) refl;
  last_birth = λ f c. refl;
  named = λ j. refl;
})
  where
    apart : (i : ℕ) → i < n → (n == i) ≡ false
    apart i low = off (n == i) refl
      where
        off : (b : Bool) → (n == i) ≡ b → (n == i) ≡ false
        off true e = (let same : n ≡ i = eqb-true n i e in absurd (omega arith))
        off false e = e

    others : (j : Job) (i : ℕ) → (is_key (key_of job) (key_of j) && (n == i)) ≡ false → charge_at charges (key_of j) i ≡ charge_at m.charges (key_of j) i
    others j i miss = ap (λ (o : Option Charge). unwrap_or o no_charge) (each_charge (key_of j, i) ∙ ap (λ (b : Bool). if b then Some charge else lookup (is_place (key_of j) i) m.charges) miss)

    second : (a b : Bool) → b ≡ false → (a && b) ≡ false
    second true b e = e
    second false b e = refl

    last : (j : Job) → is_key (key_of job) (key_of j) ≡ true → charge_at charges (key_of j) n ≡ charge
    last j hit = ap (λ (o : Option Charge). unwrap_or o no_charge) (each_charge (key_of j, n) ∙ ap (λ (b : Bool). if b && (n == n) then Some charge else lookup (is_place (key_of j) n) m.charges) hit ∙ ap (λ (b : Bool). if b then Some charge else lookup (is_place (key_of j) n) m.charges) (eq-eqb n n refl))

    by : (j : Job) (b : Bool) → is_key (key_of job) (key_of j) ≡ b → charges_in (charge_at charges (key_of j)) (unwrap_or (if b then Some (n + 1) else lookup (is_key (key_of j)) m.counts) 0) ≡ (charge_jobs (job ∷ []) charge (book_in (rows_of m))).charges j
    by j true hit =
        charges_in-more (charge_at charges (key_of j)) n
        ∙ ap (λ (x : Charge). charges_in (charge_at charges (key_of j)) n ++ x ∷ []) (last j hit)
        ∙ ap (λ (xs : List Charge). xs ++ charge ∷ []) (charges_same (charge_at m.charges (key_of j)) (charge_at charges (key_of j)) n (λ i low. others j i (second (is_key (key_of job) (key_of j)) (n == i) (apart i low))))
        ∙ ap (λ (k : ℕ). charges_in (charge_at m.charges (key_of j)) k ++ charge ∷ []) (count ∙ ap (λ (k : JobKey). unwrap_or (lookup (is_key k) m.counts) 0) (key_is (key_of job) (key_of j) hit))
        ∙ ap (λ (xs : List Charge). xs ++ charge ∷ []) (sym (charges_in-map m.charges j m.counts))
        ∙ sym (ap (λ (b : Bool). if b then (book_in (rows_of m)).charges j ++ charge ∷ [] else (book_in (rows_of m)).charges j) (has_job-one job j ∙ hit))
    by j false miss =
        charges_same (charge_at m.charges (key_of j)) (charge_at charges (key_of j)) (unwrap_or (lookup (is_key (key_of j)) m.counts) 0) (λ i low. others j i (ap (λ (b : Bool). b && (n == i)) miss))
        ∙ sym (charges_in-map m.charges j m.counts)
        ∙ sym (ap (λ (b : Bool). if b then (book_in (rows_of m)).charges j ++ charge ∷ [] else (book_in (rows_of m)).charges j) (has_job-one job j ∙ miss))

-- ---- room

-- maps with the same look-ups tell the same
pub same-tells : (m n : Maps) (v : JobRows) → rows_of m ≡ v
    → ((k : CopyKey) → lookup (is_pair k.0 k.1) n.waiting ≡ lookup (is_pair k.0 k.1) m.waiting) → ((q : ℕ) → lookup (λ k. q == k) n.recalls ≡ lookup (λ k. q == k) m.recalls)
    → ((k : CopyKey) → lookup (is_pair k.0 k.1) n.archives ≡ lookup (is_pair k.0 k.1) m.archives) → ((k : CopyKey) → lookup (is_pair k.0 k.1) n.births ≡ lookup (is_pair k.0 k.1) m.births)
    → ((k : JobKey) → lookup (is_key k) n.claims ≡ lookup (is_key k) m.claims) → ((k : JobKey) → lookup (is_key k) n.counts ≡ lookup (is_key k) m.counts)
    → ((k : JobKey × ℕ) → lookup (is_place k.0 k.1) n.charges ≡ lookup (is_place k.0 k.1) m.charges) → ((k : JobKey) → lookup (is_key k) n.named ≡ lookup (is_key k) m.named)
    → TellSame (book_in (rows_of n)) (book_in v)
same-tells m n v is waits recalls archives births claims counts charges named = subst (λ (u : JobRows). TellSame (book_in (rows_of n)) (book_in u)) is (record {
  recall = λ f. recall_in-map n.waiting f n.recalls ∙ ap (option_map (recall_of n.waiting f)) (recalls f) ∙ told f (lookup (λ k. f == k) m.recalls) ∙ sym (recall_in-map m.waiting f m.recalls);
  archive = λ f c. birth_in-map f (suc c) n.archives ∙ archives (f, suc c) ∙ sym (birth_in-map f (suc c) m.archives);
  claimer = λ j. claimer_in-map j n.claims ∙ claims (key_of j) ∙ sym (claimer_in-map j m.claims);
  charges = λ j. charges_in-map n.charges j n.counts ∙ ap (λ (o : Option ℕ). charges_in (charge_at n.charges (key_of j)) (unwrap_or o 0)) (counts (key_of j))
      ∙ charges_same (charge_at m.charges (key_of j)) (charge_at n.charges (key_of j)) (unwrap_or (lookup (is_key (key_of j)) m.counts) 0) (λ i low. ap (λ (o : Option Charge). unwrap_or o no_charge) (charges (key_of j, i))) ∙ sym (charges_in-map m.charges j m.counts);
  last_birth = λ f c. birth_in-map f c n.births ∙ births (f, c) ∙ sym (birth_in-map f c m.births);
  named = λ j. has_job-map j n.named ∙ ap is_some (named (key_of j)) ∙ sym (has_job-map j m.named);
})
  where
    told : (f : ℕ) (o : Option RecallRow) → option_map (recall_of n.waiting f) o ≡ option_map (recall_of m.waiting f) o
    told f None = refl
    told f (Some row) = ap (λ (xs : List ℕ). Some (record { birth = row.birth; waiting = xs })) (waiting_same (waits_at m.waiting f) (waits_at n.waiting f) row.places (λ i low. waits (f, i)))

-- ---- places

places_or_some : (es : List (ℕ × RecallRow)) (f : ℕ) (row : RecallRow) → lookup (λ k. f == k) es ≡ Some row → places_in es f ≡ row.places
places_or_some es f row e = ap places_or e

-- a row has no more places than were added
pub few_places : (es : List (ℕ × RecallRow)) (f added : ℕ) (row : RecallRow) → lookup (λ k. f == k) es ≡ Some row → ((f : ℕ) → places_in es f ≤ added) → row.places ≤ added
few_places es f added row e few = subst (λ (n : ℕ). n ≤ added) (places_or_some es f row e) (few f)

-- so it stays when one row is put
pub places_put : (old new : List (ℕ × RecallRow)) (w : Option RecallRow) (file low high : ℕ) → ((q : ℕ) → lookup (λ k. q == k) new ≡ (if file == q then w else lookup (λ k. q == k) old)) → places_or w ≤ high → ((f : ℕ) → places_in old f ≤ low) → low ≤ high → (f : ℕ) → places_in new f ≤ high
places_put old new w file low high each here few more f = subst (λ (o : Option RecallRow). places_or o ≤ high) (sym (each f)) (by (file == f))
  where
    by : (b : Bool) → places_or (if b then w else lookup (λ k. f == k) old) ≤ high
    by true = here
    by false = (let small : places_in old f ≤ low = few f in omega arith)

-- where no recall is live, its end changes nothing
pub end_none-tells : (m : Maps) (v : JobRows) (job : Job) → rows_of m ≡ v → job.copy ≡ 0 → lookup (λ k. job.file == k) m.recalls ≡ None → TellSame (book_in v) (end_jobs (job ∷ []) (book_in v))
end_none-tells m v job is zeroth none = subst (λ (u : JobRows). TellSame (book_in u) (end_jobs (job ∷ []) (book_in u))) is (record {
  recall = λ f. by f (job.file == f) refl ∙ ap (λ (b : Bool). if b then None else (book_in (rows_of m)).recall f) (sym (recall_file job f zeroth));
  archive = λ f c. sym (ap (λ (b : Bool). if b then None else (book_in (rows_of m)).archive f (suc c)) (only_recall job f c zeroth));
  claimer = λ j. refl;
  charges = λ j. refl;
  last_birth = λ f c. refl;
  named = λ j. refl;
})
  where
    by : (f : ℕ) (b : Bool) → (job.file == f) ≡ b → (book_in (rows_of m)).recall f ≡ (if b then None else (book_in (rows_of m)).recall f)
    by f true hit = recall_in-map m.waiting f m.recalls ∙ subst (λ (q : ℕ). option_map (recall_of m.waiting q) (lookup (λ k. q == k) m.recalls) ≡ None) (eqb-true job.file f hit) (ap (option_map (recall_of m.waiting job.file)) none)
    by f false miss = refl

-- a recall that was live ends where its row is gone
pub last_is : (m : Maps) (v : JobRows) (waits : List (CopyKey × ℕ)) (recalls : List (ℕ × RecallRow)) (f : ℕ) (row : RecallRow) (w : Option RecallRow) → rows_of m ≡ v → lookup (λ k. f == k) m.recalls ≡ Some row → lookup (λ k. f == k) recalls ≡ w
    → (is_some ((book_in v).recall f) && is_none ((book_in (rows_of (record m { waiting = waits; recalls = recalls }))).recall f)) ≡ is_none w
last_is m v waits recalls f row w is live now =
    ap (λ (o : Option Recall). is_some o && is_none ((book_in (rows_of (record m { waiting = waits; recalls = recalls }))).recall f)) (recall_is m v f is ∙ ap (option_map (recall_of m.waiting f)) live)
    ∙ ap is_none (recall_in-map waits f recalls ∙ ap (option_map (recall_of waits f)) now) ∙ none_is w
  where
    none_is : (o : Option RecallRow) → is_none (option_map (recall_of waits f) o) ≡ is_none o
    none_is None = refl
    none_is (Some x) = refl

-- rows that are told alike have as many places
pub places_same : (old new : List (ℕ × RecallRow)) (added : ℕ) → ((q : ℕ) → lookup (λ k. q == k) new ≡ lookup (λ k. q == k) old) → ((f : ℕ) → places_in old f ≤ added) → (f : ℕ) → places_in new f ≤ added
places_same old new added each few f = subst (λ (o : Option RecallRow). places_or o ≤ added) (sym (each f)) (few f)
