-- How a Recalled, a Cancel, a DropStage and a TapeState move the parts.
use Rattle.std.proofs.Common.{◌≡◌, ◌∙◌, ℕ, zero, suc, ◌+◌, inl, inr, List, [], ◌∷◌, Bool, true, false, ◌&&◌, ◌||◌, not, refl, sym, ap, subst, arith, length}
use Rattle.std.specs.Prelude.{Option, Some, None, is_none, is_some, if◌then◌else◌, ◌==◌, filter, map}
use Rattle.std.proofs.lemmas.Bool.{and_parts}
use Rattle.cta_site.specs.declared.site.Site.{Site}
use Rattle.cta_site.specs.declared.site.TapeState.{TapeState}
use Rattle.cta_site.specs.Listed.{Listed}
use Rattle.cta_model.specs.declared.entries.Entry.{Entry}
use Rattle.cta_model.specs.declared.asks.Direction.{Direction}
use Rattle.cta_model.specs.declared.asks.Who.{Who}
use Rattle.cta_model.specs.declared.asks.Job.{Job}
use Rattle.cta_model.specs.History.{History, is_number, has_number, has_text, is_empty}
use Rattle.cta_model.specs.Files.{path_of}
use Rattle.cta_model.specs.Mounts.{claimer_of, same_direction, has_job, has_copy, job_of}
use Rattle.cta_model.specs.Places.{places_of}
use Rattle.cta_model.specs.Recalls.{Recall, live_recall, unsubscribed, left_with}
use Rattle.cta_model.specs.Jobs.{live_birth, is_live_job}
use Rattle.cta_model.specs.RepackItems.{is_repacked}
use Rattle.cta_model.specs.Queues.{queue_of, key_of, direction_of, way_by, is_queued}
use Rattle.cta_model.specs.Answers.{answer_of, is_known, names_twice}
use Rattle.cta_model.specs.Legal.{IsLegal}
use Rattle.cta_laws.proofs.Tests.{bool_cases}
use Rattle.cta_laws.proofs.Claims.{AllOf}
use Rattle.cta_laws.proofs.OnceLaw.{birth_in}
use Rattle.cta_model.specs.declared.asks.Ask.TheVariants as ask
use Rattle.cta_model.specs.declared.asks.Fate.TheVariants as fate
use Rattle.cta_model.specs.declared.answers.Answer.TheVariants as answer
use Rattle.cta_model.specs.declared.asks.Direction.TheVariants as direction
use Rattle.part_model.specs.JobBook.{Book, TellSame, bear_jobs, drop_files, drop_from, end_jobs, give_back_jobs}
use Rattle.part_laws.proofs.PartSteps.{add_is, filter_of_key, filter_on, insert_lines, lines_add, map_all}
use Rattle.part_laws.proofs.CountSteps.{counts_stay}
use Rattle.part_laws.specs.RecallParts.{AreLast, after_recalled, after_state, after_unsubscribed}
use Rattle.part_laws.proofs.BookSteps.{bear_same, end_same, give_back_same, tell_chain}
use Rattle.part_laws.proofs.ReadSteps.{recalled_queue, state_point, state_pools}
use Rattle.part_laws.specs.JobParts.{JobParts, JobPartsStand, still_live}
use Rattle.cta_laws.proofs.JobFiles.{arrived_live}
use Rattle.cta_laws.specs.Changes.{may_change_mounts}
use Rattle.part_laws.specs.QueueBooks.{book_of}
use Rattle.part_laws.proofs.BookMoves.{book_cancel, book_drop, book_recalled, book_tape_state}
use Rattle.part_model.specs.declared.jobs.Line.{Line}
use Rattle.part_model.specs.Queues.{Lines, drop_jobs}
use Rattle.part_laws.proofs.LineSteps.{filter_all, lines_leave, lines_older, lines_stay, map_leaves}
use Rattle.part_laws.proofs.Members.{queue_members}
use Rattle.part_laws.specs.Lines.{AreLines, add_jobs, line_of, of_way}
use Rattle.part_laws.proofs.BirthSteps.{birth_said, birth_told, cancel_queue, drop_queue, is_of_key}
use Rattle.part_laws.specs.Queued.{waits_in_queue}
use Rattle.part_model.specs.Order.{insert_jobs}
use Rattle.part_laws.proofs.Orders.{has_filter}
use Rattle.part_laws.proofs.FailSteps.{twice_filter}
use Rattle.part_laws.proofs.QueueMoves.{queue_moves}

-- ---- Recalled

pub parts_recalled : (site : Site) (h : History) (e : Entry) (m : ℕ) (job : Job) (born : List Job) (p : JobParts) → IsLegal site (e ∷ h) → e.ask ≡ ask.Recalled m job → e.answer ≡ answer.Arrived fate.Done
    → AllOf (λ (j : Job). j.birth ≡ length h + 1) born → names_twice born ≡ false → ((f : ℕ) → has_copy f 0 born ≡ false) → ((f c : ℕ) → has_copy f (suc c) born ≡ ((job.file == f) && is_repacked site h f (suc c)))
    → JobPartsStand site h p → JobPartsStand site (e ∷ h) (after_recalled site h (e ∷ h) job born p)
parts_recalled site h e m job born p legal ek ea births once no_recall copies s = record {
  book = subst (λ (n : ℕ). TellSame (bear_jobs born n (end_jobs (filter (is_live_job site h) (job ∷ [])) (give_back_jobs (job ∷ []) p.book))) (book_of site (e ∷ h))) longer
      (tell_chain _ _ _ (bear_same born (length h + 1) _ _ (end_same (filter (is_live_job site h) (job ∷ [])) _ _ (give_back_same (job ∷ []) p.book (book_of site h) s.book))) (book_recalled site h e m job born legal ek ea no_recall copies live));
  pools = lines_add site e h direction.Archive born p.pools (recalled_queue site h e m job born legal ek ea births once no_recall copies direction.Archive) s.pools;
  recalls = lines_add site e h direction.Retrieve born p.recalls (recalled_queue site h e m job born legal ek ea births once no_recall copies direction.Retrieve) s.recalls;
  counts = counts_stay site e h p.counts (ap may_change_mounts ek) s.counts;
}
  where
    longer : length h + 1 ≡ length (e ∷ h)
    longer = omega arith

    live : is_live_job site h job ≡ true
    live = arrived_live (is_live_job site h job) (not (is_known h m (job ∷ []))) (sym ea ∙ legal.1.answered ∙ ap (answer_of site h e.at) ek)

-- ---- Cancel and DropStage

drop_same : (files : List ℕ) (id : ℕ) (a b : Book) → TellSame a b → TellSame (drop_files files id a) (drop_files files id b)
drop_same files id a b x = record { recall = λ f. ap (λ (o : Option Recall). if has_number f files then drop_from id o else o) (x.recall f); archive = x.archive; claimer = x.claimer; charges = x.charges; last_birth = x.last_birth; named = x.named }

-- the lines that leave are of the recalls that end
lines_end : (site : Site) (e : Entry) (h : History) (way : Direction) (gone : List Job) (lines : Lines) → IsLegal site h → ((key : ℕ) → queue_of site (e ∷ h) way key ≡ filter (is_live_job site (e ∷ h)) (queue_of site h way key))
    → ((j : Job) → is_live_job site h j ≡ true → is_live_job site (e ∷ h) j ≡ not (has_job j gone)) → AreLines site h way lines → AreLines site (e ∷ h) way (drop_jobs gone lines)
lines_end site e h way gone lines legal leave live are =
    lines_leave site e h way lines (λ j. not (has_job j gone))
    (λ key. leave key ∙ filter_on (is_live_job site (e ∷ h)) (λ j. not (has_job j gone)) (queue_of site h way key) (λ j there. live j (first (is_live_job site h j) _ (sym (queue_members site h legal way key j) ∙ there))))
    are
  where
    first : (a b : Bool) → (a && b) ≡ true → a ≡ true
    first true b x = refl
    first false b x = absurd (cc)

birth_or : Option Recall → ℕ
birth_or None = 0
birth_or (Some r) = r.birth

left_birth : (birth : ℕ) (ss : List ℕ) (q : Recall) → left_with birth ss ≡ Some q → birth ≡ q.birth
unfolding birth_or
left_birth birth [] q is = absurd (cc)
left_birth birth (s ∷ ss) q is = ap birth_or is

dropped_number : (id birth : ℕ) (r : Recall) → is_number birth (Some r.birth) ≡ true → is_number birth (birth_in (unsubscribed id r)) ≡ not (is_none (unsubscribed id r))
dropped_number id birth r e = by (unsubscribed id r) refl
  where
    by : (o : Option Recall) → unsubscribed id r ≡ o → is_number birth (birth_in o) ≡ not (is_none o)
    by None is = refl
    by (Some q) is = subst (λ (n : ℕ). (birth == n) ≡ true) (left_birth r.birth (filter (λ s. not (s == id)) r.waiting) q is) e

last_live : (site : Site) (h : History) (e : Entry) (id : ℕ) (files : List ℕ) (gone : List Job) → TellSame (drop_files files id (book_of site h)) (book_of site (e ∷ h)) → AreLast site h id files gone
    → (j : Job) → is_live_job site h j ≡ true → is_live_job site (e ∷ h) j ≡ not (has_job j gone)
last_live site h e id files gone book last j live = by j.copy refl live
  where
    told : (c : ℕ) → j.copy ≡ c → is_live_job site (e ∷ h) j ≡ is_number j.birth (birth_said (drop_files files id (book_of site h)) j.file c)
    told c is = ap (λ (n : ℕ). is_number j.birth (live_birth site (e ∷ h) j.file n)) is ∙ sym (ap (is_number j.birth) (birth_told site (e ∷ h) (drop_files files id (book_of site h)) book j.file c))

    recall : (o : Option Recall) → live_recall site h j.file ≡ o → j.copy ≡ 0 → is_number j.birth (birth_in o) ≡ true → is_number j.birth (birth_in (if has_number j.file files then drop_from id o else o)) ≡ not (has_job j gone)
    recall None is copy on = absurd (cc)
    recall (Some r) is copy on =
        (let named : has_job j gone ≡ (has_number j.file files && is_none (unsubscribed id r)) = ap (λ (n : ℕ). has_job (job_of j.birth j.file n) gone) copy ∙ last.recalls j.file j.birth r is ∙ ap (λ (b : Bool). b && (has_number j.file files && is_none (unsubscribed id r))) on in
        split (has_number j.file files) r on ∙ ap not (sym named))
      where
        split : (t : Bool) (r : Recall) → is_number j.birth (Some r.birth) ≡ true → is_number j.birth (birth_in (if t then unsubscribed id r else Some r)) ≡ not (t && is_none (unsubscribed id r))
        split true r on = dropped_number id j.birth r on
        split false r on = on

    by : (c : ℕ) → j.copy ≡ c → is_number j.birth (live_birth site h j.file c) ≡ true → is_live_job site (e ∷ h) j ≡ not (has_job j gone)
    by zero is on = told 0 is ∙ recall (live_recall site h j.file) refl is on
    by (suc c) is on = told (suc c) is ∙ on ∙ sym (ap not (ap (λ (n : ℕ). has_job (job_of j.birth j.file n) gone) is ∙ last.no_archive_job j.file j.birth c))

unsubscribed_parts : (site : Site) (h : History) (e : Entry) (id : ℕ) (files : List ℕ) (gone : List Job) (p : JobParts) → IsLegal site (e ∷ h) → TellSame (drop_files files id (book_of site h)) (book_of site (e ∷ h))
    → ((way : Direction) (key : ℕ) → queue_of site (e ∷ h) way key ≡ filter (is_live_job site (e ∷ h)) (queue_of site h way key)) → AreLast site h id files gone → may_change_mounts e.ask ≡ false
    → JobPartsStand site h p → JobPartsStand site (e ∷ h) (after_unsubscribed id files gone p)
unsubscribed_parts site h e id files gone p legal book leave last mounts s = record {
  book = tell_chain _ _ _ (drop_same files id p.book (book_of site h) s.book) book;
  pools = lines_stay site e h direction.Archive p.pools (λ key. leave direction.Archive key ∙ filter_all (is_live_job site (e ∷ h)) (queue_of site h direction.Archive key) (λ j there. lives_on j key there)) s.pools;
  recalls = lines_end site e h direction.Retrieve gone p.recalls legal.0 (leave direction.Retrieve) (last_live site h e id files gone book last) s.recalls;
  counts = counts_stay site e h p.counts mounts s.counts;
}
  where
    first : (a b : Bool) → (a && b) ≡ true → a ≡ true
    first true b x = refl
    first false b x = absurd (cc)

    archive : (c : ℕ) → same_direction direction.Archive (way_by c) ≡ true → (d : ℕ) × (c ≡ suc d)
    archive zero x = absurd (cc)
    archive (suc c) x = (c, refl)

    lives_on : (j : Job) (key : ℕ) → has_job j (queue_of site h direction.Archive key) ≡ true → is_live_job site (e ∷ h) j ≡ true
    lives_on j key there =
        (let queued : is_queued site h direction.Archive key j ≡ true = sym (queue_members site h legal.0 direction.Archive key j) ∙ there in
        let live : is_live_job site h j ≡ true = first (is_live_job site h j) _ queued in
        let copy : (d : ℕ) × (j.copy ≡ suc d) = archive j.copy (first (same_direction direction.Archive (direction_of j)) _ (and_parts (is_live_job site h j) _ queued).1) in
        last_live site h e id files gone book last j live ∙ ap not (ap (λ (n : ℕ). has_job (job_of j.birth j.file n) gone) copy.1 ∙ last.no_archive_job j.file j.birth copy.0))

pub parts_cancel : (site : Site) (h : History) (e : Entry) (who : Who) (id : ℕ) (paths : Listed (List ℕ)) (files : List ℕ) (gone : List Job) (p : JobParts) → IsLegal site (e ∷ h) → e.ask ≡ ask.Cancel who id paths
    → ((f : ℕ) → is_some (live_recall site h f) ≡ true → has_number f files ≡ has_text (path_of h f) paths.items) → AreLast site h id files gone → JobPartsStand site h p → JobPartsStand site (e ∷ h) (after_unsubscribed id files gone p)
parts_cancel site h e who id paths files gone p legal ek named last s = unsubscribed_parts site h e id files gone p legal (book_cancel site h e who id paths files legal ek named) (cancel_queue site h e who id paths legal ek) last (ap may_change_mounts ek) s

pub parts_drop : (site : Site) (h : History) (e : Entry) (who : Who) (id : ℕ) (files : List ℕ) (gone : List Job) (p : JobParts) → IsLegal site (e ∷ h) → e.ask ≡ ask.DropStage who id
    → ((f : ℕ) (r : Recall) → live_recall site h f ≡ Some r → has_number f files ≡ false → unsubscribed id r ≡ Some r) → AreLast site h id files gone → JobPartsStand site h p → JobPartsStand site (e ∷ h) (after_unsubscribed id files gone p)
parts_drop site h e who id files gone p legal ek others last s = unsubscribed_parts site h e id files gone p legal (book_drop site h e who id files legal ek others) (drop_queue site h e who id legal ek) last (ap may_change_mounts ek) s

-- ---- TapeState

state_moves : (site : Site) (h : History) (e : Entry) (who : Who) (v : ℕ) (s : TapeState) (moved : List Job) (tape : ℕ) → IsLegal site (e ∷ h) → e.ask ≡ ask.TapeState who v s → names_twice moved ≡ false
    → ((j : Job) → has_job j moved ≡ true → waits_in_queue site h j ≡ true)
    → ((j : Job) → waits_in_queue site h j ≡ true → has_job j moved ≡ false → (is_live_job site (e ∷ h) j ≡ true) × (key_of site (e ∷ h) j ≡ key_of site h j))
    → queue_of site (e ∷ h) direction.Retrieve tape ≡ insert_jobs (filter (is_of_key site (e ∷ h) direction.Retrieve tape) (still_live site (e ∷ h) moved)) (filter (λ j. not (has_job j moved)) (queue_of site h direction.Retrieve tape))
state_moves site h e who v s moved tape legal ek once waits others =
    queue_moves site h (e ∷ h) direction.Retrieve tape (λ j. not (has_job j moved)) (filter (is_of_key site (e ∷ h) direction.Retrieve tape) (still_live site (e ∷ h) moved)) legal.0 legal
    (twice_filter (is_of_key site (e ∷ h) direction.Retrieve tape) (still_live site (e ∷ h) moved) (twice_filter (is_live_job site (e ∷ h)) moved once))
    (λ j there. apart (has_job j moved) (is_live_job site (e ∷ h) j) (is_of_key site (e ∷ h) direction.Retrieve tape j) (is_queued site h direction.Retrieve tape j) (sym (enters j) ∙ there))
    (λ j. point j ∙ ap (λ (b : Bool). b || (is_queued site h direction.Retrieve tape j && not (has_job j moved))) (sym (enters j)))
  where
    enters : (j : Job) → has_job j (filter (is_of_key site (e ∷ h) direction.Retrieve tape) (still_live site (e ∷ h) moved)) ≡ ((has_job j moved && is_live_job site (e ∷ h) j) && is_of_key site (e ∷ h) direction.Retrieve tape j)
    enters j = has_filter (is_of_key site (e ∷ h) direction.Retrieve tape) j (still_live site (e ∷ h) moved) ∙ ap (λ (b : Bool). b && is_of_key site (e ∷ h) direction.Retrieve tape j) (has_filter (is_live_job site (e ∷ h)) j moved)

    apart : (m l k q : Bool) → ((m && l) && k) ≡ true → (q && not m) ≡ false
    apart true l k true e = refl
    apart true l k false e = refl
    apart false l k q e = absurd (cc)

    shift : (a d n k : Bool) → (a && (d && (n && k))) ≡ ((a && (d && n)) && k)
    shift true true n k = refl
    shift true false n k = refl
    shift false d n k = refl

    queued : (j : Job) → is_queued site h direction.Retrieve tape j ≡ (waits_in_queue site h j && is_number tape (key_of site h j))
    queued j = shift (is_live_job site h j) (same_direction direction.Retrieve (direction_of j)) (is_none (claimer_of h j)) (is_number tape (key_of site h j))

    way : (a d n : Bool) → (a && (d && n)) ≡ true → d ≡ true
    way true true n e = refl
    way true false n e = absurd (cc)
    way false d n e = absurd (cc)

    or_none : (b q : Bool) → b ≡ (b || (q && false))
    or_none true q = refl
    or_none false true = refl
    or_none false false = refl

    and_true : (b : Bool) → b ≡ (b && true)
    and_true true = refl
    and_true false = refl

    stays : (j : Job) → has_job j moved ≡ false → (w : Bool) → waits_in_queue site h j ≡ w → (w && (is_live_job site (e ∷ h) j && is_number tape (key_of site (e ∷ h) j))) ≡ (w && is_number tape (key_of site h j))
    stays j none true is = (let same : (is_live_job site (e ∷ h) j ≡ true) × (key_of site (e ∷ h) j ≡ key_of site h j) = others j is none in rw (same.0, same.1) refl)
    stays j none false is = refl

    point : (j : Job) → is_queued site (e ∷ h) direction.Retrieve tape j ≡ (((has_job j moved && is_live_job site (e ∷ h) j) && is_of_key site (e ∷ h) direction.Retrieve tape j) || (is_queued site h direction.Retrieve tape j && not (has_job j moved)))
    point j =
        state_point site h e who v s legal ek tape j
        ∙ elim (bool_cases (has_job j moved)) [
          | inl there ↦
              (let waiting : waits_in_queue site h j ≡ true = waits j there in
              let goes : same_direction direction.Retrieve (direction_of j) ≡ true = way (is_live_job site h j) (same_direction direction.Retrieve (direction_of j)) (is_none (claimer_of h j)) waiting in
              ap (λ (b : Bool). b && (is_live_job site (e ∷ h) j && is_number tape (key_of site (e ∷ h) j))) waiting
              ∙ or_none (is_live_job site (e ∷ h) j && is_number tape (key_of site (e ∷ h) j)) (is_queued site h direction.Retrieve tape j)
              ∙ sym (ap (λ (m : Bool). ((m && is_live_job site (e ∷ h) j) && is_of_key site (e ∷ h) direction.Retrieve tape j) || (is_queued site h direction.Retrieve tape j && not m)) there
              ∙ ap (λ (d : Bool). (is_live_job site (e ∷ h) j && (d && is_number tape (key_of site (e ∷ h) j))) || (is_queued site h direction.Retrieve tape j && false)) goes))
          | inr none ↦
              (stays j none (waits_in_queue site h j) refl ∙ sym (queued j) ∙ and_true (is_queued site h direction.Retrieve tape j)
              ∙ sym (ap (λ (m : Bool). ((m && is_live_job site (e ∷ h) j) && is_of_key site (e ∷ h) direction.Retrieve tape j) || (is_queued site h direction.Retrieve tape j && not m)) none))
        ]

-- a TapeState moves the parts so, where the moved recalls are among those queued, and the others live on and keep their keys
pub parts_tape_state : (site : Site) (h : History) (e : Entry) (who : Who) (v : ℕ) (s : TapeState) (moved ended : List Job) (p : JobParts) → IsLegal site (e ∷ h) → e.ask ≡ ask.TapeState who v s → names_twice moved ≡ false
    → ((j : Job) → has_job j moved ≡ true → waits_in_queue site h j ≡ true)
    → ((j : Job) → waits_in_queue site h j ≡ true → has_job j moved ≡ false → (is_live_job site (e ∷ h) j ≡ true) × (key_of site (e ∷ h) j ≡ key_of site h j))
    → ((f c : ℕ) → has_copy f (suc c) ended ≡ false) → ((f : ℕ) → is_some (live_recall site h f) ≡ true → has_copy f 0 ended ≡ is_empty (places_of site (e ∷ h) f))
    → JobPartsStand site h p → JobPartsStand site (e ∷ h) (after_state site (e ∷ h) moved ended p)
parts_tape_state site h e who v s moved ended p legal ek once waits others no_archive_job lost stand = record {
  book = tell_chain _ _ _ (end_same ended p.book (book_of site h) stand.book) (book_tape_state site h e who v s ended legal ek no_archive_job lost);
  pools = lines_stay site e h direction.Archive p.pools (state_pools site h e who v s legal ek) stand.pools;
  recalls = λ key. moved_lines key;
  counts = counts_stay site e h p.counts (ap may_change_mounts ek) stand.counts;
}
  where
    moved_lines : (key : ℕ) → add_jobs site (e ∷ h) direction.Retrieve (of_way direction.Retrieve (still_live site (e ∷ h) moved)) (drop_jobs moved p.recalls) key ≡ map (line_of site (e ∷ h) direction.Retrieve) (queue_of site (e ∷ h) direction.Retrieve key)
    moved_lines key =
        add_is site (e ∷ h) direction.Retrieve (of_way direction.Retrieve (still_live site (e ∷ h) moved)) (drop_jobs moved p.recalls) key
        ∙ ap (λ (xs : List Job). insert_lines (map (line_of site (e ∷ h) direction.Retrieve) xs) (drop_jobs moved p.recalls key)) (filter_of_key site (e ∷ h) direction.Retrieve key (still_live site (e ∷ h) moved))
        ∙ ap (insert_lines (map (line_of site (e ∷ h) direction.Retrieve) (filter (is_of_key site (e ∷ h) direction.Retrieve key) (still_live site (e ∷ h) moved))))
        (ap (filter (λ (l : Line). not (has_job l.job moved))) (stand.recalls key ∙ sym (lines_older site e h direction.Retrieve key)) ∙ sym (map_leaves (line_of site (e ∷ h) direction.Retrieve) (λ j. refl) (λ j. not (has_job j moved)) (queue_of site h direction.Retrieve key)))
        ∙ sym (ap (map (line_of site (e ∷ h) direction.Retrieve)) (state_moves site h e who v s moved key legal ek once waits others)
        ∙ map_all site (e ∷ h) direction.Retrieve (filter (is_of_key site (e ∷ h) direction.Retrieve key) (still_live site (e ∷ h) moved)) (filter (λ j. not (has_job j moved)) (queue_of site h direction.Retrieve key)))
