-- How an ask moves the parts.
use Rattle.std.proofs.Common.{◌≡◌, ◌∙◌, ℕ, zero, suc, ◌+◌, ◌≤◌, inl, inr, List, [], ◌∷◌, ◌++◌, Bool, true, false, ◌&&◌, ◌||◌, not, refl, sym, ap, subst, arith, length}
use Rattle.std.specs.Prelude.{Option, Some, None, if◌then◌else◌, ◌==◌, filter, map}
use Rattle.std.proofs.lemmas.Bool.{and_parts, eqb-true, cases_lt}
use Rattle.cta_site.specs.declared.site.Site.{Site}
use Rattle.cta_site.specs.Listed.{Listed}
use Rattle.cta_site.specs.Lookups.{copies_of}
use Rattle.blob.specs.declared.sum.Sum256.{Sum256}
use Rattle.cta_model.specs.declared.entries.Entry.{Entry}
use Rattle.cta_model.specs.declared.asks.Direction.{Direction}
use Rattle.cta_model.specs.declared.asks.Fault.{Fault}
use Rattle.cta_model.specs.declared.asks.Who.{Who}
use Rattle.cta_model.specs.declared.asks.Item.{Item}
use Rattle.cta_model.specs.declared.asks.Job.{Job}
use Rattle.cta_model.specs.declared.states.Mount.{Mount}
use Rattle.cta_model.specs.History.{History, is_number}
use Rattle.cta_model.specs.Files.{live_file, copies_of_file}
use Rattle.cta_model.specs.Mounts.{mount_of, same_direction, has_job, item_jobs, same_job, tape_of_mount, drive_of_mount, job_of}
use Rattle.cta_model.specs.Jobs.{archive_birth, live_birth, is_live_job}
use Rattle.cta_model.specs.Queues.{queue_of, key_of, direction_of, is_queued}
use Rattle.cta_model.specs.Choice.{key_of_mount}
use Rattle.cta_model.specs.Answers.{names_twice}
use Rattle.cta_model.specs.Legal.{IsLegal}
use Rattle.cta_laws.proofs.Tests.{bool_cases, or_left, or_right}
use Rattle.cta_laws.proofs.Claims.{AllOf, all_append}
use Rattle.cta_laws.proofs.JobLists.{job_self}
use Rattle.cta_laws.proofs.RangeLaw.{job_range}
use Rattle.cta_model.specs.declared.asks.Ask.TheVariants as ask
use Rattle.cta_model.specs.declared.answers.Answer.TheVariants as answer
use Rattle.cta_model.specs.declared.asks.Direction.TheVariants as direction
use Rattle.part_model.specs.declared.jobs.Line.{Line}
use Rattle.part_model.specs.Queues.{Lines, add_at, insert_line, taken_out}
use Rattle.part_model.specs.Order.{InOrder, insert_jobs}
use Rattle.part_laws.proofs.LineSteps.{claim_others, lines_claim, lines_leave, lines_older, lines_stay, map_inserts}
use Rattle.part_laws.specs.Lines.{AreLines, add_jobs, line_of, of_way}
use Rattle.part_laws.proofs.BirthSteps.{is_of_key}
use Rattle.part_laws.proofs.Orders.{has_filter, not_after}
use Rattle.part_laws.proofs.QueueMoves.{queue_enters}
use Rattle.part_laws.proofs.PutSteps.{has_put, is_put_job, not_live_yet, put_goes, put_key, put_order, put_point, put_recalls}
use Rattle.part_laws.specs.Queued.{is_of_pool, put_jobs}
use Rattle.part_laws.proofs.FailSteps.{failed_queue, twice_filter}
use Rattle.part_laws.specs.JobParts.{JobParts, JobPartsStand, after_claim, after_delete, after_end, after_failed, after_flushed, after_next, after_put, charged_out, still_live, take_batch}
use Rattle.part_laws.proofs.CountSteps.{counts_end, counts_next, counts_stay}
use Rattle.part_laws.proofs.BookSteps.{OfFile, archive_of_file, bear_same, charge_same, claim_same, end_same, give_back_same, if_of_file, tell_chain}
use Rattle.part_laws.proofs.BookMoves.{book_claim, book_delete, book_failed, book_flushed, book_put, book_stays}
use Rattle.cta_laws.specs.Changes.{may_change_claims, may_change_jobs, may_change_keys, may_change_mounts, may_charge}
use Rattle.part_laws.specs.QueueBooks.{archive_jobs, book_of, jobs_of_file}
use Rattle.part_laws.proofs.QueueSteps.{queue_same}
use Rattle.part_laws.proofs.EndSteps.{delete_file_queue, flushed_queue}
use Rattle.part_model.specs.JobBook.{claim_jobs, job_if}
use Rattle.part_laws.proofs.Births.{has_both}
use Rattle.part_laws.proofs.Members.{queue_members}

-- ---- adding jobs

pub insert_lines : List Line → List Line → List Line
insert_lines [] ls = ls
insert_lines (l ∷ new) ls = insert_line l (insert_lines new ls)

pub map_all : (site : Site) (h : History) (way : Direction) (js q : List Job) → map (line_of site h way) (insert_jobs js q) ≡ insert_lines (map (line_of site h way) js) (map (line_of site h way) q)
unfolding insert_lines
map_all site h way [] q = refl
map_all site h way (j ∷ js) q = map_inserts site h way j (insert_jobs js q) ∙ ap (insert_line (line_of site h way j)) (map_all site h way js q)

-- what is added under a key is what has it
pub add_is : (site : Site) (h : History) (way : Direction) (js : List Job) (lines : Lines) (k : ℕ) → add_jobs site h way js lines k ≡ insert_lines (map (line_of site h way) (filter (λ j. is_number k (key_of site h j)) js)) (lines k)
unfolding insert_lines
add_is site h way [] lines k = refl
add_is site h way (j ∷ js) lines k = by (key_of site h j) (add_is site h way js lines k)
  where
    rest : List Job
    rest = filter (λ j. is_number k (key_of site h j)) js

    into : (b : Bool) → {ls : List Line} → ls ≡ insert_lines (map (line_of site h way) rest) (lines k) → (if b then insert_line (line_of site h way j) ls else ls) ≡ insert_lines (map (line_of site h way) (if b then j ∷ rest else rest)) (lines k)
    into true is = ap (insert_line (line_of site h way j)) is
    into false is = is

    by : (o : Option ℕ) → add_jobs site h way js lines k ≡ insert_lines (map (line_of site h way) rest) (lines k) → add_at o (line_of site h way j) (add_jobs site h way js lines) k ≡ insert_lines (map (line_of site h way) (if is_number k o then j ∷ rest else rest)) (lines k)
    by None is = is
    by (Some n) is = into (k == n) {ls = add_jobs site h way js lines k} is

pub filter_of_key : (site : Site) (h : History) (way : Direction) (k : ℕ) (js : List Job) → filter (λ j. is_number k (key_of site h j)) (of_way way js) ≡ filter (is_of_key site h way k) js
filter_of_key site h way k [] = refl
filter_of_key site h way k (j ∷ js) =
    elim (bool_cases (same_direction way (direction_of j))) [
      | inr other ↦ rw other (filter_of_key site h way k js)
      | inl goes ↦ rw goes (elim (is_number k (key_of site h j)) as (λ b. (if b then j ∷ filter (λ j. is_number k (key_of site h j)) (of_way way js) else filter (λ j. is_number k (key_of site h j)) (of_way way js)) ≡ (if b then j ∷ filter (is_of_key site h way k) js else filter (is_of_key site h way k) js)) [ true ↦ ap (λ (xs : List Job). j ∷ xs) (filter_of_key site h way k js) | false ↦ filter_of_key site h way k js ])
    ]

-- where jobs enter the queues of their keys, their lines are added
pub lines_add : (site : Site) (e : Entry) (h : History) (way : Direction) (js : List Job) (lines : Lines) → ((key : ℕ) → queue_of site (e ∷ h) way key ≡ insert_jobs (filter (is_of_key site (e ∷ h) way key) js) (queue_of site h way key))
    → AreLines site h way lines → AreLines site (e ∷ h) way (add_jobs site (e ∷ h) way (of_way way js) lines)
lines_add site e h way js lines enters are key =
    add_is site (e ∷ h) way (of_way way js) lines key
    ∙ ap (λ (xs : List Job). insert_lines (map (line_of site (e ∷ h) way) xs) (lines key)) (filter_of_key site (e ∷ h) way key js)
    ∙ ap (insert_lines (map (line_of site (e ∷ h) way) (filter (is_of_key site (e ∷ h) way key) js))) (are key ∙ sym (lines_older site e h way key))
    ∙ sym (ap (map (line_of site (e ∷ h) way)) (enters key) ∙ map_all site (e ∷ h) way (filter (is_of_key site (e ∷ h) way key) js) (queue_of site h way key))

-- ---- Put

-- jobs in order are named once
pub order_once : (js : List Job) → InOrder js → names_twice js ≡ false
order_once [] o = refl
order_once (j ∷ js) o = rw (not_after j js o.0) (order_once js o.1)

put_enters : (site : Site) (h : History) (e : Entry) (who : Who) (path : List ℕ) (sum : Sum256) → IsLegal site (e ∷ h) → e.ask ≡ ask.Put who path sum → (pool : ℕ)
    → queue_of site (e ∷ h) direction.Archive pool ≡ insert_jobs (filter (is_of_key site (e ∷ h) direction.Archive pool) (put_jobs (length h + 1) (copies_of site path))) (queue_of site h direction.Archive pool)
put_enters site h e who path sum legal ek pool =
    queue_enters site h (e ∷ h) direction.Archive pool (filter (is_of_key site (e ∷ h) direction.Archive pool) (put_jobs (length h + 1) (copies_of site path))) legal.0 legal
    (twice_filter (is_of_key site (e ∷ h) direction.Archive pool) (put_jobs (length h + 1) (copies_of site path)) (order_once (put_jobs (length h + 1) (copies_of site path)) (put_order (length h + 1) (copies_of site path))))
    (λ j there. apart j (sym (has_put (length h + 1) (copies_of site path) j) ∙ first (has_job j (put_jobs (length h + 1) (copies_of site path))) (is_of_key site (e ∷ h) direction.Archive pool j) (sym (has_filter (is_of_key site (e ∷ h) direction.Archive pool) j (put_jobs (length h + 1) (copies_of site path))) ∙ there)))
    (λ j. put_point site h e who path sum legal ek direction.Archive pool j ∙ swap (is_queued site h direction.Archive pool j) _
    ∙ ap (λ (b : Bool). b || is_queued site h direction.Archive pool j) (key j (is_put_job (length h + 1) (copies_of site path) j) refl
    ∙ sym (has_filter (is_of_key site (e ∷ h) direction.Archive pool) j (put_jobs (length h + 1) (copies_of site path)) ∙ ap (λ (b : Bool). b && is_of_key site (e ∷ h) direction.Archive pool j) (has_put (length h + 1) (copies_of site path) j))))
  where
    first : (a b : Bool) → (a && b) ≡ true → a ≡ true
    first true b x = refl
    first false b x = absurd (cc)

    swap : (a b : Bool) → (a || b) ≡ (b || a)
    swap true true = refl
    swap true false = refl
    swap false true = refl
    swap false false = refl

    apart : (j : Job) → is_put_job (length h + 1) (copies_of site path) j ≡ true → is_queued site h direction.Archive pool j ≡ false
    apart j hit = (let file : j.file ≡ length h + 1 = eqb-true _ _ (and_parts (j.file == length h + 1) _ (and_parts (j.birth == length h + 1) _ hit).1).0 in rw (not_live_yet site h j legal.0 file) refl)

    key : (j : Job) (t : Bool) → is_put_job (length h + 1) (copies_of site path) j ≡ t → (t && (true && is_of_pool site path pool j)) ≡ (t && is_of_key site (e ∷ h) direction.Archive pool j)
    key j true hit = sym (rw (put_goes (length h + 1) (copies_of site path) j hit, put_key site h e who path sum (copies_of site path) j ek hit) refl)
    key j false miss = refl

of_way_all : (way : Direction) (js : List Job) → AllOf (λ (j : Job). direction_of j ≡ way) js → of_way way js ≡ js
of_way_all way [] all = refl
of_way_all way (j ∷ js) all = (let goes : same_direction way (direction_of j) ≡ true = ap (same_direction way) all.0 ∙ same_self way in rw goes (ap (λ (xs : List Job). j ∷ xs) (of_way_all way js all.1)))
  where
    same_self : (way : Direction) → same_direction way way ≡ true
    same_self direction.Archive = refl
    same_self direction.Retrieve = refl

put_ways : (n c : ℕ) → AllOf (λ (j : Job). direction_of j ≡ direction.Archive) (put_jobs n c)
put_ways n zero = tt
put_ways n (suc c) = all_append (λ (j : Job). direction_of j ≡ direction.Archive) (put_jobs n c) (job_of n n (suc c) ∷ []) (put_ways n c) (refl, tt)

-- a Put moves the parts so
pub parts_put : (site : Site) (h : History) (e : Entry) (who : Who) (path : List ℕ) (sum : Sum256) (p : JobParts) → IsLegal site (e ∷ h) → e.ask ≡ ask.Put who path sum → JobPartsStand site h p → JobPartsStand site (e ∷ h) (after_put site h (e ∷ h) path p)
parts_put site h e who path sum p legal ek s = record {
  book = tell_chain _ _ _ (bear_same (put_jobs (length h + 1) (copies_of site path)) (length h + 1) p.book (book_of site h) s.book) (book_put site h e who path sum legal ek);
  pools = subst (λ (js : List Job). AreLines site (e ∷ h) direction.Archive (add_jobs site (e ∷ h) direction.Archive js p.pools)) (of_way_all direction.Archive (put_jobs (length h + 1) (copies_of site path)) (put_ways (length h + 1) (copies_of site path)))
      (lines_add site e h direction.Archive (put_jobs (length h + 1) (copies_of site path)) p.pools (put_enters site h e who path sum legal ek) s.pools);
  recalls = lines_stay site e h direction.Retrieve p.recalls (put_recalls site h e who path sum legal ek) s.recalls;
  counts = counts_stay site e h p.counts (ap may_change_mounts ek) s.counts;
}

-- ---- Next, End, Flushed, Claim

pub parts_stay : (site : Site) (h : History) (e : Entry) (p : JobParts) → IsLegal site (e ∷ h) → may_change_jobs e.ask ≡ false → may_change_claims e.ask ≡ false → may_change_keys e.ask ≡ false → may_charge e.ask ≡ false → may_change_mounts e.ask ≡ false → JobPartsStand site h p → JobPartsStand site (e ∷ h) p
parts_stay site h e p legal jobs claims keys charge mounts s = record {
  book = tell_chain _ _ _ s.book (book_stays site h e legal jobs claims charge);
  pools = lines_stay site e h direction.Archive p.pools (queue_same site h e legal jobs claims keys direction.Archive) s.pools;
  recalls = lines_stay site e h direction.Retrieve p.recalls (queue_same site h e legal jobs claims keys direction.Retrieve) s.recalls;
  counts = counts_stay site e h p.counts mounts s.counts;
}

pub parts_next : (site : Site) (h : History) (e : Entry) (d m : ℕ) (way : Direction) (v : ℕ) (p : JobParts) → IsLegal site (e ∷ h) → e.ask ≡ ask.Next d → e.answer ≡ answer.Mounted m way v → JobPartsStand site h p
    → JobPartsStand site (e ∷ h) (after_next site (record { drive = d; direction = way; tape = v }) p)
parts_next site h e d m way v p legal ek ea s = record {
  book = tell_chain _ _ _ s.book (book_stays site h e legal (ap may_change_jobs ek) (ap may_change_claims ek) (ap may_charge ek));
  pools = lines_stay site e h direction.Archive p.pools (queue_same site h e legal (ap may_change_jobs ek) (ap may_change_claims ek) (ap may_change_keys ek) direction.Archive) s.pools;
  recalls = lines_stay site e h direction.Retrieve p.recalls (queue_same site h e legal (ap may_change_jobs ek) (ap may_change_claims ek) (ap may_change_keys ek) direction.Retrieve) s.recalls;
  counts = counts_next site e h d m way v p.counts ek ea s.counts;
}

pub parts_end : (site : Site) (h : History) (e : Entry) (m : ℕ) (fault : Option Fault) (x : Mount) (p : JobParts) → IsLegal site (e ∷ h) → e.ask ≡ ask.End m fault → mount_of h m ≡ Some x → JobPartsStand site h p → JobPartsStand site (e ∷ h) (after_end site x p)
parts_end site h e m fault x p legal ek mounted s = record {
  book = tell_chain _ _ _ s.book (book_stays site h e legal (ap may_change_jobs ek) (ap may_change_claims ek) (ap may_charge ek));
  pools = lines_stay site e h direction.Archive p.pools (queue_same site h e legal (ap may_change_jobs ek) (ap may_change_claims ek) (ap may_change_keys ek) direction.Archive) s.pools;
  recalls = lines_stay site e h direction.Retrieve p.recalls (queue_same site h e legal (ap may_change_jobs ek) (ap may_change_claims ek) (ap may_change_keys ek) direction.Retrieve) s.recalls;
  counts = counts_end site e h m fault x p.counts legal ek mounted s.counts;
}

pub parts_flushed : (site : Site) (h : History) (e : Entry) (m : ℕ) (items : Listed Item) (p : JobParts) → IsLegal site (e ∷ h) → e.ask ≡ ask.Flushed m items → JobPartsStand site h p → JobPartsStand site (e ∷ h) (after_flushed site h items.items p)
parts_flushed site h e m items p legal ek s = record {
  book = tell_chain _ _ _ (end_same (filter (is_live_job site h) (item_jobs items.items)) _ _ (give_back_same (item_jobs items.items) p.book (book_of site h) s.book)) (book_flushed site h e m items legal ek);
  pools = lines_stay site e h direction.Archive p.pools (flushed_queue site h e m items legal ek direction.Archive) s.pools;
  recalls = lines_stay site e h direction.Retrieve p.recalls (flushed_queue site h e m items legal ek direction.Retrieve) s.recalls;
  counts = counts_stay site e h p.counts (ap may_change_mounts ek) s.counts;
}

claim_by_way : (site : Site) (h : History) (e : Entry) (m : ℕ) (x : Mount) (items : Listed Item) (evicted : Listed ℕ) (p : JobParts) → IsLegal site (e ∷ h) → e.ask ≡ ask.Claim m → e.answer ≡ answer.Batch items evicted → mount_of h m ≡ Some x → JobPartsStand site h p
    → (way : Direction) → x.direction ≡ way → JobPartsStand site (e ∷ h) (take_batch site way x.tape (item_jobs items.items) (record p { book = claim_jobs (item_jobs items.items) m p.book }))
claim_by_way site h e m x items evicted p legal ek ea mounted s direction.Archive is = record {
  book = tell_chain _ _ _ (claim_same (item_jobs items.items) m p.book (book_of site h) s.book) (book_claim site h e m items evicted legal ek ea);
  pools = subst (λ (way : Direction). AreLines site (e ∷ h) way (taken_out (key_of_mount site way x.tape) (item_jobs items.items) p.pools)) is (lines_claim site h e m x items evicted p.pools legal ek ea mounted (subst (λ (way : Direction). AreLines site h way p.pools) (sym is) s.pools));
  recalls = lines_stay site e h direction.Retrieve p.recalls (λ key. claim_others site h e m x items evicted legal ek ea mounted direction.Retrieve key (λ q. (let bad : direction.Retrieve ≡ direction.Archive = q.0 ∙ is in absurd (cc)))) s.recalls;
  counts = counts_stay site e h p.counts (ap may_change_mounts ek) s.counts;
}
claim_by_way site h e m x items evicted p legal ek ea mounted s direction.Retrieve is = record {
  book = tell_chain _ _ _ (claim_same (item_jobs items.items) m p.book (book_of site h) s.book) (book_claim site h e m items evicted legal ek ea);
  pools = lines_stay site e h direction.Archive p.pools (λ key. claim_others site h e m x items evicted legal ek ea mounted direction.Archive key (λ q. (let bad : direction.Archive ≡ direction.Retrieve = q.0 ∙ is in absurd (cc)))) s.pools;
  recalls = subst (λ (way : Direction). AreLines site (e ∷ h) way (taken_out (key_of_mount site way x.tape) (item_jobs items.items) p.recalls)) is (lines_claim site h e m x items evicted p.recalls legal ek ea mounted (subst (λ (way : Direction). AreLines site h way p.recalls) (sym is) s.recalls));
  counts = counts_stay site e h p.counts (ap may_change_mounts ek) s.counts;
}

pub parts_claim : (site : Site) (h : History) (e : Entry) (m : ℕ) (x : Mount) (items : Listed Item) (evicted : Listed ℕ) (p : JobParts) → IsLegal site (e ∷ h) → e.ask ≡ ask.Claim m → e.answer ≡ answer.Batch items evicted → mount_of h m ≡ Some x → JobPartsStand site h p
    → JobPartsStand site (e ∷ h) (after_claim site m x items.items p)
parts_claim site h e m x items evicted p legal ek ea mounted s = claim_by_way site h e m x items evicted p legal ek ea mounted s x.direction refl

-- ---- Failed

pub filter_filter : (p q : Job → Bool) (js : List Job) → filter p (filter q js) ≡ filter (λ j. q j && p j) js
filter_filter p q [] = refl
filter_filter p q (j ∷ js) =
    elim (bool_cases (q j)) [
      | inr miss ↦ rw miss (filter_filter p q js)
      | inl hit ↦ rw hit (elim (p j) as (λ b. (if b then j ∷ filter p (filter q js) else filter p (filter q js)) ≡ (if b then j ∷ filter (λ j. q j && p j) js else filter (λ j. q j && p j) js)) [ true ↦ ap (λ (xs : List Job). j ∷ xs) (filter_filter p q js) | false ↦ filter_filter p q js ])
    ]

failed_enters : (site : Site) (h : History) (e : Entry) (m : ℕ) (fault : Fault) (charged returned : Listed Job) → IsLegal site (e ∷ h) → e.ask ≡ ask.Failed m fault charged returned → (way : Direction) (key : ℕ)
    → queue_of site (e ∷ h) way key ≡ insert_jobs (filter (is_of_key site (e ∷ h) way key) (still_live site (e ∷ h) (charged.items ++ returned.items))) (queue_of site h way key)
failed_enters site h e m fault charged returned legal ek way key =
    failed_queue site h e m fault charged returned legal ek way key
    ∙ ap (λ (js : List Job). insert_jobs js (queue_of site h way key)) (sym (filter_filter (is_of_key site (e ∷ h) way key) (is_live_job site (e ∷ h)) (charged.items ++ returned.items)))

pub parts_failed : (site : Site) (h : History) (e : Entry) (m : ℕ) (fault : Fault) (charged returned : Listed Job) (p : JobParts) → IsLegal site (e ∷ h) → e.ask ≡ ask.Failed m fault charged returned → JobPartsStand site h p
    → JobPartsStand site (e ∷ h) (after_failed site h (e ∷ h) (ask.Failed m fault charged returned) m fault charged.items returned.items p)
parts_failed site h e m fault charged returned p legal ek s = record {
  book = tell_chain _ _ _ (end_same (charged_out site h (ask.Failed m fault charged returned) charged.items) _ _ (charge_same charged.items (record { drive = drive_of_mount h m; tape = tape_of_mount h m; fault = fault }) _ _ (give_back_same (charged.items ++ returned.items) p.book (book_of site h) s.book))) (book_failed site h e m fault charged returned legal ek);
  pools = lines_add site e h direction.Archive (still_live site (e ∷ h) (charged.items ++ returned.items)) p.pools (failed_enters site h e m fault charged returned legal ek direction.Archive) s.pools;
  recalls = lines_add site e h direction.Retrieve (still_live site (e ∷ h) (charged.items ++ returned.items)) p.recalls (failed_enters site h e m fault charged returned legal ek direction.Retrieve) s.recalls;
  counts = counts_stay site e h p.counts (ap may_change_mounts ek) s.counts;
}

-- ---- Delete

in_if : (j : Job) (g c : ℕ) (o : Option ℕ) → j.file ≡ g → j.copy ≡ c → is_number j.birth o ≡ true → has_job j (job_if g c o) ≡ true
in_if j g c None file copy e = absurd (cc)
in_if j g c (Some b) file copy e = or_left (same_job j (job_of b g c)) false (grind arith)

in_archives : (site : Site) (h : History) (j : Job) (g c n : ℕ) → suc c ≤ n → j.file ≡ g → j.copy ≡ suc c → is_number j.birth (archive_birth site h g (suc c)) ≡ true → has_job j (archive_jobs site h g n) ≡ true
in_archives site h j g c zero low file copy e = absurd (omega arith)
in_archives site h j g c (suc n) low file copy e =
    has_both j (archive_jobs site h g n) (job_if g (suc n) (archive_birth site h g (suc n)))
    ∙ elim (cases_lt (suc c) (suc n)) [
      | inl less ↦ or_left (has_job j (archive_jobs site h g n)) _ (in_archives site h j g c n (omega arith) file copy e)
      | inr more ↦ (let same : c ≡ n = omega arith in or_right (has_job j (archive_jobs site h g n)) (has_job j (job_if g (suc n) (archive_birth site h g (suc n)))) (subst (λ (k : ℕ). has_job j (job_if g (suc k) (archive_birth site h g (suc k))) ≡ true) same (in_if j g (suc c) (archive_birth site h g (suc c)) file copy e)))
    ]

-- a live job of the file is one of its live jobs
live_in_file : (site : Site) (h : History) (j : Job) (g : ℕ) → IsLegal site h → is_live_job site h j ≡ true → j.file ≡ g → has_job j (jobs_of_file site h g) ≡ true
live_in_file site h j g legal live file = has_both j (job_if g 0 (live_birth site h g 0)) (archive_jobs site h g (copies_of_file site h g)) ∙ by j.copy refl
  where
    here : (c : ℕ) → j.copy ≡ c → is_number j.birth (live_birth site h g c) ≡ true
    here c is = subst (λ (n : ℕ). is_number j.birth (live_birth site h g n) ≡ true) is (subst (λ (f : ℕ). is_number j.birth (live_birth site h f j.copy) ≡ true) file live)

    fits : j.copy ≤ copies_of_file site h g
    fits = subst (λ (f : ℕ). j.copy ≤ copies_of_file site h f) file (job_range site h legal j live).2

    by : (c : ℕ) → j.copy ≡ c → (has_job j (job_if g 0 (live_birth site h g 0)) || has_job j (archive_jobs site h g (copies_of_file site h g))) ≡ true
    by zero is = or_left (has_job j (job_if g 0 (live_birth site h g 0))) _ (in_if j g 0 (live_birth site h g 0) file is (here 0 is))
    by (suc c) is = or_right (has_job j (job_if g 0 (live_birth site h g 0))) (has_job j (archive_jobs site h g (copies_of_file site h g))) (in_archives site h j g c (copies_of_file site h g) (low c is fits) file is (here (suc c) is))
      where
        low : (c : ℕ) → j.copy ≡ suc c → j.copy ≤ copies_of_file site h g → suc c ≤ copies_of_file site h g
        low c is fits = omega arith

of_other_file : (j : Job) (g : ℕ) (js : List Job) → AllOf (OfFile g) js → (j.file == g) ≡ false → has_job j js ≡ false
of_other_file j g [] all d = refl
of_other_file j g (k ∷ js) all d = (let file : k.file ≡ g = all.0 in let miss : same_job j k ≡ false = grind arith in rw miss (of_other_file j g js all.1 d))

pub filter_on : (p q : Job → Bool) (js : List Job) → ((j : Job) → has_job j js ≡ true → p j ≡ q j) → filter p js ≡ filter q js
filter_on p q [] same = refl
filter_on p q (j ∷ js) same = rw (same j (or_left (same_job j j) (has_job j js) (job_self j))) (rw (filter_on p q js (λ i there. same i (or_right (same_job i j) (has_job i js) there))) refl)

delete_leaves : (site : Site) (h : History) (e : Entry) (who : Who) (path : List ℕ) (g : ℕ) → IsLegal site (e ∷ h) → e.ask ≡ ask.Delete who path → live_file h path ≡ Some g → (way : Direction) (key : ℕ)
    → queue_of site (e ∷ h) way key ≡ filter (λ j. not (has_job j (jobs_of_file site h g))) (queue_of site h way key)
delete_leaves site h e who path g legal ek is way key =
    delete_file_queue site h e who path g legal ek is way key
    ∙ filter_on (λ (j : Job). not (j.file == g)) (λ j. not (has_job j (jobs_of_file site h g))) (queue_of site h way key) (λ j there. same j (live (is_live_job site h j) _ (sym (queue_members site h legal.0 way key j) ∙ there)))
  where
    live : (a b : Bool) → (a && b) ≡ true → a ≡ true
    live true b x = refl
    live false b x = absurd (cc)

    all : AllOf (OfFile g) (jobs_of_file site h g)
    all = all_append (OfFile g) (job_if g 0 (live_birth site h g 0)) (archive_jobs site h g (copies_of_file site h g)) (if_of_file g 0 (live_birth site h g 0)) (archive_of_file site h g (copies_of_file site h g))

    same : (j : Job) → is_live_job site h j ≡ true → not (j.file == g) ≡ not (has_job j (jobs_of_file site h g))
    same j on =
        elim (bool_cases (j.file == g)) [
          | inl hit ↦ ap not (hit ∙ sym (live_in_file site h j g legal.0 on (eqb-true j.file g hit)))
          | inr miss ↦ ap not (miss ∙ sym (of_other_file j g (jobs_of_file site h g) all miss))
        ]

pub parts_delete : (site : Site) (h : History) (e : Entry) (who : Who) (path : List ℕ) (g : ℕ) (p : JobParts) → IsLegal site (e ∷ h) → e.ask ≡ ask.Delete who path → live_file h path ≡ Some g → JobPartsStand site h p → JobPartsStand site (e ∷ h) (after_delete site h g p)
parts_delete site h e who path g p legal ek is s = record {
  book = tell_chain _ _ _ (end_same (jobs_of_file site h g) p.book (book_of site h) s.book) (book_delete site h e who path g legal ek is);
  pools = lines_leave site e h direction.Archive p.pools (λ j. not (has_job j (jobs_of_file site h g))) (delete_leaves site h e who path g legal ek is direction.Archive) s.pools;
  recalls = lines_leave site e h direction.Retrieve p.recalls (λ j. not (has_job j (jobs_of_file site h g))) (delete_leaves site h e who path g legal ek is direction.Retrieve) s.recalls;
  counts = counts_stay site e h p.counts (ap may_change_mounts ek) s.counts;
}
