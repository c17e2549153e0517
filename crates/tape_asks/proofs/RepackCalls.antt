-- A Repack, carried out on all parts.
use Rattle.std.proofs.Common.{◌≡◌, ◌∙◌, ◌+◌, ℕ, zero, suc, List, [], ◌∷◌, ◌++◌, length, Bool, true, false, ◌||◌, not, refl, sym, ap, subst, arith}
use Rattle.std.specs.Prelude.{Some, ◌==◌, ◌&&◌, if◌then◌else◌, filter, map}
use Rattle.std.specs.List.{flat_map, list_any}
use Rattle.std.proofs.lemmas.Bool.{and_from, eq-eqb, eqb-true}
use Rattle.std.proofs.lemmas.List.Elements.{filter-append}
use Rattle.blob.specs.declared.sum.Sum256.{Sum256}
use Rattle.cta_site.specs.declared.site.Site.{Site}
use Rattle.cta_site.specs.Lookups.{vid_of}
use Rattle.cta_model.specs.declared.asks.Direction.TheVariants as direction
use Rattle.cta_model.specs.declared.asks.Job.{Job}
use Rattle.cta_model.specs.declared.asks.Who.{Who}
use Rattle.cta_model.specs.declared.reports.ItemState.TheVariants as item
use Rattle.cta_model.specs.declared.states.RepackCopy.{RepackCopy}
use Rattle.cta_model.specs.Buffer.{is_resident}
use Rattle.cta_model.specs.Files.{copies_of_file, path_of}
use Rattle.cta_model.specs.History.{History, has_number, next_number}
use Rattle.cta_model.specs.Legal.{IsLegal}
use Rattle.cta_model.specs.Mounts.{has_copy, has_job, job_of, same_direction, same_job}
use Rattle.cta_model.specs.Queues.{direction_of, key_of, way_by}
use Rattle.cta_model.specs.Recalls.{recall_job}
use Rattle.cta_model.specs.RepackItems.{repack_items}
use Rattle.cta_model.specs.Repacks.{is_live_item, new_item}
use Rattle.cta_model.specs.Space.{is_safe}
use Rattle.cta_laws.specs.Places.{PlacesAreOfCopies, PlacesAreOnSite}
use Rattle.cta_laws.proofs.FileFrames.{copies_older}
use Rattle.cta_laws.proofs.JobFiles.{older_live, resident_parts}
use Rattle.cta_laws.proofs.OnceLaw.{same_job_eq}
use Rattle.cta_laws.proofs.RepackedCopies.{repacked_none}
use Rattle.cta_laws.proofs.Tests.{or_left, or_right}
use Rattle.part_model.specs.declared.space.HeldPin.{HeldPin}
use Rattle.part_model.specs.declared.space.Resident.{Resident}
use Rattle.part_model.specs.Held.{Held, HeldAgree, no_end, numbers, pin, pin_all, set_all, set_safe}
use Rattle.part_model.specs.JobBook.{Book, TellSame, bear_jobs, subscribe_files}
use Rattle.part_model.specs.JobRows.{book_in}
use Rattle.part_model.specs.Queues.{Lines, lines_in}
use Rattle.part_model.specs.Repacks.{RepacksAgree, Target, add_repack, set_states}
use Rattle.part_model.specs.Tapes.{TablesAgree, safe_in}
use Rattle.part_laws.specs.QueueBooks.{IsBook, book_of}
use Rattle.part_laws.specs.Lines.{add_jobs, line_of, of_way}
use Rattle.part_laws.specs.Births.{archives_of, bearing, files_of, recalled, recalls_of, repack_births}
use Rattle.part_laws.proofs.BookSteps.{has_copy_both, tell_chain}
use Rattle.part_laws.proofs.PartSteps.{filter_on}
use Rattle.part_laws.specs.BookCalls.{items_here}
use Rattle.part_laws.specs.BufferCalls.{AreTouched, files_repacked, pins_told}
use Rattle.part_laws.specs.Tapes.{IsTable}
use Rattle.part_laws.proofs.PinLists.{pin_all_is}
use Rattle.part_laws.proofs.TableMoves.{calls_move_table}
use Rattle.part_laws.proofs.Told.{held_is}
use Rattle.repack_book.specs.NamedRepacks.{NamedRepacks, names_in, repacks_of}
use Rattle.disk_buffer.specs.Stays.{content_in}
use Rattle.archive_parts.specs.Called.{AreKeptCalled}
use Rattle.archive_parts.specs.declared.parts.ArchiveParts.{ArchiveParts}
use Rattle.job_book.specs.Live.{lives}
use Rattle.part_moves.specs.Flags.{job_files}
use Rattle.fault_asks.specs.Failing.{add_by, jobs_live}
use Rattle.fault_asks.specs.Reading.{source_in}
use Rattle.fault_asks.proofs.AddedLines.{all_way, by_jobs, none_way}
use Rattle.fault_asks.proofs.EndedJobs.{files_are}
use Rattle.fault_asks.proofs.WrittenCalls.{flag_is, flags_on}
use Rattle.tape_asks.proofs.StateFacts.{source_is}
use Rattle.tape_asks.specs.Lists.{pins_of, targets_of}
use Rattle.tape_asks.specs.Settled.{AreSettled}
use Rattle.tape_asks.specs.RepackTakings.{IsTaken}
use Rattle.tape_asks.specs.declared.ready.Found.{Found}
use Rattle.tape_asks.proofs.RepackFacts.{IsPacking, born_live, jobs_stand, longer, packed, packed_entry}
use Rattle.part_moves.proofs.ItemsLeft.{states_same}
use Rattle.part_moves.proofs.Charged.{lives_is}

-- ---- lists of jobs

pub recalls_have : (n : ℕ) (j : Job) (fs : List ℕ) → has_job j (recalls_of n fs) ≡ true → (j.birth ≡ n) × (j.copy ≡ 0)
recalls_have n j [] e = absurd (cc)
recalls_have n j (f ∷ fs) e = by (same_job j (recall_job n f)) refl e (λ more. recalls_have n j fs more)
  where
    by : (b : Bool) → same_job j (recall_job n f) ≡ b → (b || has_job j (recalls_of n fs)) ≡ true → (has_job j (recalls_of n fs) ≡ true → (j.birth ≡ n) × (j.copy ≡ 0)) → (j.birth ≡ n) × (j.copy ≡ 0)
    by true is x rest = (let eq : j ≡ recall_job n f = same_job_eq j (recall_job n f) is in (ap (λ (y : Job). y.birth) eq, ap (λ (y : Job). y.copy) eq))
    by false is x rest = rest x

pub archives_have : (h : History) (n : ℕ) (j : Job) (items seen : List Job) → has_job j (archives_of h n items seen) ≡ true → (j.birth ≡ n) × (has_copy j.file j.copy items ≡ true)
archives_have h n j [] seen e = absurd (cc)
archives_have h n j (i ∷ items) seen e = by (is_resident h i.file && not (has_copy i.file i.copy seen)) e (λ more. archives_have h n j items (job_of n i.file i.copy ∷ seen) more) (λ more. archives_have h n j items seen more)
  where
    later : (j.birth ≡ n) × (has_copy j.file j.copy items ≡ true) → (j.birth ≡ n) × (has_copy j.file j.copy (i ∷ items) ≡ true)
    later r = (r.0, or_right (i.file == j.file && i.copy == j.copy) (has_copy j.file j.copy items) r.1)

    here : (b : Bool) → same_job j (job_of n i.file i.copy) ≡ b → (b || has_job j (archives_of h n items (job_of n i.file i.copy ∷ seen))) ≡ true
        → (has_job j (archives_of h n items (job_of n i.file i.copy ∷ seen)) ≡ true → (j.birth ≡ n) × (has_copy j.file j.copy items ≡ true)) → (j.birth ≡ n) × (has_copy j.file j.copy (i ∷ items) ≡ true)
    here true is x rest =
        (let eq : j ≡ job_of n i.file i.copy = same_job_eq j (job_of n i.file i.copy) is in
        (ap (λ (y : Job). y.birth) eq, or_left (i.file == j.file && i.copy == j.copy) (has_copy j.file j.copy items) (and_from (i.file == j.file) (i.copy == j.copy) (eq-eqb i.file j.file (ap (λ (y : Job). y.file) (sym eq))) (eq-eqb i.copy j.copy (ap (λ (y : Job). y.copy) (sym eq))))))
    here false is x rest = later (rest x)

    by : (b : Bool) → has_job j (if b then job_of n i.file i.copy ∷ archives_of h n items (job_of n i.file i.copy ∷ seen) else archives_of h n items seen) ≡ true
        → (has_job j (archives_of h n items (job_of n i.file i.copy ∷ seen)) ≡ true → (j.birth ≡ n) × (has_copy j.file j.copy items ≡ true)) → (has_job j (archives_of h n items seen) ≡ true → (j.birth ≡ n) × (has_copy j.file j.copy items ≡ true))
        → (j.birth ≡ n) × (has_copy j.file j.copy (i ∷ items) ≡ true)
    by true x on off = here (same_job j (job_of n i.file i.copy)) refl x on
    by false x on off = later (off x)

pub in_both : (j : Job) (xs ys : List Job) → (has_job j xs || has_job j ys) ≡ true → has_job j (xs ++ ys) ≡ true
in_both j [] ys e = e
in_both j (x ∷ xs) ys e = by (same_job j x) e (λ more. in_both j xs ys more)
  where
    by : (b : Bool) → ((b || has_job j xs) || has_job j ys) ≡ true → ((has_job j xs || has_job j ys) ≡ true → has_job j (xs ++ ys) ≡ true) → (b || has_job j (xs ++ ys)) ≡ true
    by true y rest = refl
    by false y rest = rest y

whole : (xs : List Job) → filter (λ (j : Job). true) xs ≡ xs
whole [] = refl
whole (x ∷ xs) = ap (λ (ys : List Job). x ∷ ys) (whole xs)

one_then : {A : Type 0} (a b : Bool) (x y : A) → (if b then x else (if a then x else y)) ≡ (if a || b then x else y)
one_then true true x y = refl
one_then true false x y = refl
one_then false b x y = refl

bear_both : (xs ys : List Job) (n : ℕ) (b : Book) → TellSame (bear_jobs ys n (bear_jobs xs n b)) (bear_jobs (xs ++ ys) n b)
bear_both xs ys n b = record {
  recall = λ f. one_then (has_copy f 0 xs) (has_copy f 0 ys) (Some (record { birth = n; waiting = n ∷ [] })) (b.recall f) ∙ ap (λ (t : Bool). if t then Some (record { birth = n; waiting = n ∷ [] }) else b.recall f) (sym (has_copy_both f 0 xs ys));
  archive = λ f c. one_then (has_copy f (suc c) xs) (has_copy f (suc c) ys) (Some n) (b.archive f (suc c)) ∙ ap (λ (t : Bool). if t then Some n else b.archive f (suc c)) (sym (has_copy_both f (suc c) xs ys));
  claimer = λ j. refl;
  charges = λ j. refl;
  last_birth = λ f c. one_then (has_copy f c xs) (has_copy f c ys) (Some n) (b.last_birth f c) ∙ ap (λ (t : Bool). if t then Some n else b.last_birth f c) (sym (has_copy_both f c xs ys));
  named = λ j. refl;
}

-- ---- pins and flags

flag_past : (ps : List HeldPin) (v : Held) (f : ℕ) (s : Bool) → set_safe (pin_all ps v) f s ≡ pin_all ps (set_safe v f s)
flag_past [] v f s = refl
flag_past (p ∷ ps) v f s = ap (λ (x : Held). pin x p.file p.owner p.until) (flag_past ps v f s)

flags_past : (ps : List HeldPin) (safe : ℕ → Bool) (fs : List ℕ) (v : Held) → set_all safe fs (pin_all ps v) ≡ pin_all ps (set_all safe fs v)
flags_past ps safe [] v = refl
flags_past ps safe (f ∷ fs) v = ap (set_all safe fs) (flag_past ps v f (safe f)) ∙ flags_past ps safe fs (set_safe v f (safe f))

live_new : (h : History) (f : ℕ) (js : List Job) → has_number f (job_files js) ≡ true → list_any (λ (i : RepackCopy). i.file == f && is_live_item i.state) (map (new_item h) js) ≡ true
live_new h f [] e = absurd (cc)
live_new h f (j ∷ js) e = by (f == j.file) refl e (λ more. live_new h f js more)
  where
    alive : (r : Bool) → is_live_item (if r then item.Writing else item.Reading) ≡ true
    alive true = refl
    alive false = refl

    by : (b : Bool) → (f == j.file) ≡ b → (b || has_number f (job_files js)) ≡ true → (has_number f (job_files js) ≡ true → list_any (λ (i : RepackCopy). i.file == f && is_live_item i.state) (map (new_item h) js) ≡ true)
        → list_any (λ (i : RepackCopy). i.file == f && is_live_item i.state) (map (new_item h) (j ∷ js)) ≡ true
    by true is x rest =
        (let same : (j.file == f) ≡ true = eq-eqb j.file f (sym (eqb-true f j.file is)) in
        or_left (j.file == f && is_live_item (if is_resident h j.file then item.Writing else item.Reading)) _ (and_from (j.file == f) _ same (alive (is_resident h j.file))))
    by false is x rest = or_right (j.file == f && is_live_item (if is_resident h j.file then item.Writing else item.Reading)) _ (rest x)

-- a pin without an end
abbrev pub endless : ℕ → ℕ → HeldPin
endless n f = record { file = f; owner = n; until = no_end }

pins_by_file : (n : ℕ) (js : List Job) → pins_of n js ≡ map (endless n) (job_files js)
pins_by_file n [] = refl
pins_by_file n (j ∷ js) = ap (λ (ps : List HeldPin). endless n j.file ∷ ps) (pins_by_file n js)

flat_pins : (g : ℕ → List HeldPin) (n : ℕ) (fs : List ℕ) → ((f : ℕ) → has_number f fs ≡ true → g f ≡ endless n f ∷ []) → flat_map g fs ≡ map (endless n) fs
flat_pins g n [] each = refl
flat_pins g n (f ∷ fs) each =
    ap (λ (ps : List HeldPin). ps ++ flat_map g fs) (each f (or_left (f == f) (has_number f fs) (eq-eqb f f refl))) ∙ ap (λ (ps : List HeldPin). endless n f ∷ ps) (flat_pins g n fs (λ k more. each k (or_right (k == f) (has_number k fs) more)))

kept_number : (q : ℕ → Bool) (f : ℕ) (fs : List ℕ) → has_number f (filter q fs) ≡ true → has_number f fs ≡ true
kept_number q f [] e = absurd (cc)
kept_number q f (g ∷ fs) e = by (q g) e (λ more. kept_number q f fs more)
  where
    here : (a : Bool) → (a || has_number f (filter q fs)) ≡ true → (has_number f (filter q fs) ≡ true → has_number f fs ≡ true) → (a || has_number f fs) ≡ true
    here true x rest = refl
    here false x rest = rest x

    by : (b : Bool) → has_number f (if b then g ∷ filter q fs else filter q fs) ≡ true → (has_number f (filter q fs) ≡ true → has_number f fs ≡ true) → ((f == g) || has_number f fs) ≡ true
    by true x rest = here (f == g) x rest
    by false x rest = or_right (f == g) (has_number f fs) (rest x)

-- ---- what was done to each part

-- what the calls for a Repack have done, where added is the book of repacks once the repack is there
pub record IsRepacked (site : Site) (h : History) (t : ℕ) (who : Who) (v n : ℕ) (x : Found) (vid : List ℕ) (paths : List (List ℕ)) (p : ArchiveParts) (added : NamedRepacks) (q : ArchiveParts) : Type 0 where
  pub packing : IsPacking site h t who v p
  pub number : n ≡ length h + 1
  pub taken : IsTaken site h who v x
  pub vid_is : vid ≡ vid_of site v
  pub paths_are : paths ≡ map (λ (j : Job). path_of h j.file) x.items.items
  pub there : RepacksAgree (repacks_of added) (add_repack n v x.items.items (repacks_of p.repacks))
  pub names : (id : ℕ) → names_in added id ≡ (if n == id then Some (record { vid = vid; paths = paths }) else names_in p.repacks id)
  pub settled : AreSettled site (packed_entry h t who v ∷ h) n x.items.items x.joined.items x.newborn.items x.written.items (record p { repacks = added }) q

module _ (of_copies : PlacesAreOfCopies) (on_site : PlacesAreOnSite) (site : Site) (h : History) (t : ℕ) (who : Who) (v n : ℕ) (x : Found) (vid : List ℕ) (paths : List (List ℕ)) (p : ArchiveParts) (added : NamedRepacks) (q : ArchiveParts)
    (w : IsRepacked site h t who v n x vid paths p added q) where
  legal : IsLegal site (packed_entry h t who v ∷ h)
  legal = longer site h t who v p w.packing

  next_is : n ≡ length (packed_entry h t who v ∷ h)
  next_is = w.number ∙ (let e : length (packed_entry h t who v ∷ h) ≡ length h + 1 = omega arith in sym e)

  same_table : TablesAgree p.tapes.value p.tapes.value
  same_table = record { rows = λ k. refl; places = λ f c. refl; distinct = w.packing.kept.stand.space.tapes.distinct }

  table_stands : IsTable site (packed_entry h t who v ∷ h) p.tapes.value
  table_stands = calls_move_table site h (packed_entry h t who v) p.tapes.value p.tapes.value legal w.packing.kept.stand.space.tapes same_table

  -- ---- the book

  both_are : x.newborn.items ++ x.written.items ≡ repack_births site h (packed who v) (length h + 1) (repack_items h v)
  both_are = ap (λ (js : List Job). js ++ x.written.items) w.taken.newborn ∙ ap (λ (js : List Job). recalls_of (length h + 1) (bearing site h (packed who v) (files_of (repack_items h v) [])) ++ js) w.taken.written

  book_called : TellSame (book_in q.book.value) (bear_jobs (repack_births site h (packed who v) (length h + 1) (repack_items h v)) (length (packed_entry h t who v ∷ h)) (subscribe_files (recalled site h (files_of (repack_items h v) [])) (length (packed_entry h t who v ∷ h)) (book_in p.book.value)))
  book_called =
      subst (λ (k : ℕ). TellSame (book_in q.book.value) (bear_jobs (repack_births site h (packed who v) (length h + 1) (repack_items h v)) k (subscribe_files (recalled site h (files_of (repack_items h v) [])) k (book_in p.book.value)))) next_is
      (subst (λ (fs : List ℕ). TellSame (book_in q.book.value) (bear_jobs (repack_births site h (packed who v) (length h + 1) (repack_items h v)) n (subscribe_files fs n (book_in p.book.value)))) w.taken.joined
      (subst (λ (js : List Job). TellSame (book_in q.book.value) (bear_jobs js n (subscribe_files x.joined.items n (book_in p.book.value)))) both_are
      (tell_chain (book_in q.book.value) _ _ w.settled.book (bear_both x.newborn.items x.written.items n (subscribe_files x.joined.items n (book_in p.book.value))))))

  book_stands : IsBook site (packed_entry h t who v ∷ h) (book_in q.book.value)
  book_stands = tell_chain (book_in q.book.value) _ (book_of site (packed_entry h t who v ∷ h)) book_called (jobs_stand site h t who v p w.packing).book

  -- ---- queues

  newborn_has : (j : Job) → has_job j x.newborn.items ≡ true → (j.birth ≡ length h + 1) × (j.copy ≡ 0)
  newborn_has j there = recalls_have (length h + 1) j (bearing site h (packed who v) (files_of (repack_items h v) [])) (subst (λ (js : List Job). has_job j js ≡ true) w.taken.newborn there)

  written_has : (j : Job) → has_job j x.written.items ≡ true → (j.birth ≡ length h + 1) × (has_copy j.file j.copy (repack_items h v) ≡ true)
  written_has j there = archives_have h (length h + 1) j (repack_items h v) [] (subst (λ (js : List Job). has_job j js ≡ true) w.taken.written there)

  in_births : (j : Job) → (has_job j x.newborn.items || has_job j x.written.items) ≡ true → has_job j (repack_births site h (packed who v) (length h + 1) (repack_items h v)) ≡ true
  in_births j there = subst (λ (js : List Job). has_job j js ≡ true) both_are (in_both j x.newborn.items x.written.items there)

  newborn_live : jobs_live (book_in q.book.value) x.newborn.items ≡ x.newborn.items
  newborn_live =
      filter_on (λ j. lives j (book_in q.book.value)) (λ j. true) x.newborn.items
      (λ j there. lives_is site (packed_entry h t who v ∷ h) q.book.value j book_stands ∙ born_live site h t who v p w.packing j (in_births j (or_left (has_job j x.newborn.items) (has_job j x.written.items) there)) (newborn_has j there).0)
      ∙ whole x.newborn.items

  written_live : jobs_live (book_in q.book.value) x.written.items ≡ x.written.items
  written_live =
      filter_on (λ j. lives j (book_in q.book.value)) (λ j. true) x.written.items
      (λ j there. lives_is site (packed_entry h t who v ∷ h) q.book.value j book_stands ∙ born_live site h t who v p w.packing j (in_births j (or_right (has_job j x.newborn.items) (has_job j x.written.items) there)) (written_has j there).0)
      ∙ whole x.written.items

  recall_way : (c : ℕ) → c ≡ 0 → (same_direction direction.Retrieve (way_by c) ≡ true) × (same_direction direction.Archive (way_by c) ≡ false)
  recall_way zero e = (refl, refl)
  recall_way (suc c) e = absurd (omega (arith, e))

  archive_way : (j : Job) (c : ℕ) → j.copy ≡ c → has_copy j.file j.copy (repack_items h v) ≡ true → (same_direction direction.Archive (way_by c) ≡ true) × (same_direction direction.Retrieve (way_by c) ≡ false)
  archive_way j zero is there =
      (let none : has_copy j.file 0 (repack_items h v) ≡ false = repacked_none site h w.packing.legal v j.file in
      let some : has_copy j.file 0 (repack_items h v) ≡ true = ap (λ (c : ℕ). has_copy j.file c (repack_items h v)) (sym is) ∙ there in
      absurd (cc))
  archive_way j (suc c) is there = (refl, refl)

  reads_of : of_way direction.Retrieve (repack_births site h (packed who v) (length h + 1) (repack_items h v)) ≡ x.newborn.items
  reads_of =
      ap (of_way direction.Retrieve) (sym both_are)
      ∙ filter-append (λ j. same_direction direction.Retrieve (direction_of j)) x.newborn.items x.written.items
      ∙ ap (λ (js : List Job). js ++ of_way direction.Retrieve x.written.items) (all_way direction.Retrieve x.newborn.items (λ j there. (recall_way j.copy (newborn_has j there).1).0))
      ∙ ap (λ (js : List Job). x.newborn.items ++ js) (none_way direction.Retrieve x.written.items (λ j there. (archive_way j j.copy refl (written_has j there).1).1))
      ∙ nothing x.newborn.items
    where
      nothing : (js : List Job) → js ++ [] ≡ js
      nothing [] = refl
      nothing (j ∷ js) = ap (λ (ks : List Job). j ∷ ks) (nothing js)

  writes_of : of_way direction.Archive (repack_births site h (packed who v) (length h + 1) (repack_items h v)) ≡ x.written.items
  writes_of =
      ap (of_way direction.Archive) (sym both_are)
      ∙ filter-append (λ j. same_direction direction.Archive (direction_of j)) x.newborn.items x.written.items
      ∙ ap (λ (js : List Job). js ++ of_way direction.Archive x.written.items) (none_way direction.Archive x.newborn.items (λ j there. (recall_way j.copy (newborn_has j there).1).1))
      ∙ all_way direction.Archive x.written.items (λ j there. (archive_way j j.copy refl (written_has j there).1).0)

  tapes_called : (k : ℕ) → lines_in q.recalls.value k ≡ add_jobs site (packed_entry h t who v ∷ h) direction.Retrieve (of_way direction.Retrieve (repack_births site h (packed who v) (length h + 1) (repack_items h v))) (lines_in p.recalls.value) k
  tapes_called k =
      w.settled.recalls k
      ∙ ap (λ (js : List Job). add_by (source_in p.tapes.value (book_in q.book.value)) (line_of site (packed_entry h t who v ∷ h) direction.Retrieve) js (lines_in p.recalls.value) k) newborn_live
      ∙ ap (λ (ls : Lines). ls k) (by_jobs site (packed_entry h t who v ∷ h) direction.Retrieve (source_in p.tapes.value (book_in q.book.value)) (line_of site (packed_entry h t who v ∷ h) direction.Retrieve) x.newborn.items (lines_in p.recalls.value)
      (λ j there. (source_is of_copies on_site site (packed_entry h t who v ∷ h) p.tapes.value (book_in q.book.value) j w.packing.classes legal table_stands book_stands (newborn_has j there).1, refl)))
      ∙ ap (λ (js : List Job). add_jobs site (packed_entry h t who v ∷ h) direction.Retrieve js (lines_in p.recalls.value) k) (sym reads_of)

  pools_called : (k : ℕ) → lines_in q.pools.value k ≡ add_jobs site (packed_entry h t who v ∷ h) direction.Archive (of_way direction.Archive (repack_births site h (packed who v) (length h + 1) (repack_items h v))) (lines_in p.pools.value) k
  pools_called k =
      w.settled.lines k
      ∙ ap (λ (js : List Job). add_by (key_of site (packed_entry h t who v ∷ h)) (line_of site (packed_entry h t who v ∷ h) direction.Archive) js (lines_in p.pools.value) k) written_live
      ∙ ap (λ (ls : Lines). ls k) (by_jobs site (packed_entry h t who v ∷ h) direction.Archive (key_of site (packed_entry h t who v ∷ h)) (line_of site (packed_entry h t who v ∷ h) direction.Archive) x.written.items (lines_in p.pools.value) (λ j there. (refl, refl)))
      ∙ ap (λ (js : List Job). add_jobs site (packed_entry h t who v ∷ h) direction.Archive js (lines_in p.pools.value) k) (sym writes_of)

  -- ---- the repacks

  repacks_called : RepacksAgree (repacks_of q.repacks) (set_states item.Writing (items_here h (next_number h) (repack_items h v)) (add_repack (next_number h) v (repack_items h v) (repacks_of p.repacks)))
  repacks_called =
      subst (λ (js : List Job). RepacksAgree (repacks_of q.repacks) (set_states item.Writing (items_here h (length h + 1) (repack_items h v)) (add_repack (length h + 1) v js (repacks_of p.repacks)))) w.taken.items
      (subst (λ (ts : List Target). RepacksAgree (repacks_of q.repacks) (set_states item.Writing ts (add_repack (length h + 1) v x.items.items (repacks_of p.repacks)))) w.taken.targets
      (subst (λ (k : ℕ). RepacksAgree (repacks_of q.repacks) (set_states item.Writing (targets_of k x.written.items) (add_repack k v x.items.items (repacks_of p.repacks)))) w.number
      (λ id. w.settled.states id ∙ states_same item.Writing (targets_of n x.written.items) (repacks_of added) (add_repack n v x.items.items (repacks_of p.repacks)) w.there id)))

  names_called : (id : ℕ) → names_in q.repacks id ≡ (if length h + 1 == id then Some (record { vid = vid_of site v; paths = map (λ (j : Job). path_of h j.file) (repack_items h v) }) else names_in p.repacks id)
  names_called id =
      w.settled.names id ∙ w.names id
      ∙ ap (λ (k : ℕ). if k == id then Some (record { vid = vid; paths = paths }) else names_in p.repacks id) w.number
      ∙ ap (λ (s : List ℕ). if length h + 1 == id then Some (record { vid = s; paths = paths }) else names_in p.repacks id) w.vid_is
      ∙ ap (λ (ss : List (List ℕ)). if length h + 1 == id then Some (record { vid = vid_of site v; paths = ss }) else names_in p.repacks id) (w.paths_are ∙ ap (map (λ (j : Job). path_of h j.file)) w.taken.items)

  -- ---- the buffer

  touched : AreTouched site h (packed_entry h t who v) (job_files x.items.items)
  touched f = ap (λ (js : List Job). has_number f (job_files js)) w.taken.items ∙ files_are f (repack_items h v)

  pin_told : (f : ℕ) → has_number f (files_repacked h (repack_items h v)) ≡ true → pins_told site (packed_entry h t who v ∷ h) (next_number h) f ≡ endless (length h + 1) f ∷ []
  pin_told f there =
      (let here : (length h + 1 == length h + 1) ≡ true = eq-eqb (length h + 1) (length h + 1) refl in
      let live : list_any (λ (i : RepackCopy). i.file == f && is_live_item i.state) (map (new_item h) (repack_items h v)) ≡ true = live_new h f (repack_items h v) (kept_number (is_resident h) f (job_files (repack_items h v)) there) in
      rw here (rw live refl))

  pins_are : pins_of n x.written.items ≡ flat_map (pins_told site (packed_entry h t who v ∷ h) (next_number h)) (files_repacked h (repack_items h v))
  pins_are =
      ap (λ (k : ℕ). pins_of k x.written.items) w.number
      ∙ pins_by_file (length h + 1) x.written.items
      ∙ ap (map (endless (length h + 1))) w.taken.here
      ∙ sym (flat_pins (pins_told site (packed_entry h t who v ∷ h) (next_number h)) (length h + 1) (files_repacked h (repack_items h v)) pin_told)

  flag_told : (f : ℕ) → has_number f (numbers p.buffer.held.value.files) ≡ true → safe_in p.tapes.value (book_in q.book.value).archive f (copies_of_file site (packed_entry h t who v ∷ h) f) ≡ is_safe site (packed_entry h t who v ∷ h) f
  flag_told f there =
      (let live = (resident_parts h f (sym (held_is site h p.buffer.held.value f w.packing.kept.stand.space.buffer) ∙ there)).0 in
      ap (safe_in p.tapes.value (book_in q.book.value).archive f) (copies_older site (packed_entry h t who v) h f (older_live h f live))
      ∙ flag_is site h (packed_entry h t who v) p.tapes.value q.book.value f legal table_stands book_stands (λ path. refl) live)

  held_called : HeldAgree q.buffer.held.value (pin_all (flat_map (pins_told site (packed_entry h t who v ∷ h) (next_number h)) (files_repacked h (repack_items h v))) (set_all (is_safe site (packed_entry h t who v ∷ h)) (job_files x.items.items) p.buffer.held.value))
  held_called =
      subst (λ (ps : List HeldPin). HeldAgree q.buffer.held.value (pin_all ps (set_all (is_safe site (packed_entry h t who v ∷ h)) (job_files x.items.items) p.buffer.held.value))) pins_are
      (subst (λ (b : Held). HeldAgree q.buffer.held.value b) (flags_past (pins_of n x.written.items) (is_safe site (packed_entry h t who v ∷ h)) (job_files x.items.items) p.buffer.held.value)
      (subst (λ (b : Held). HeldAgree q.buffer.held.value b)
      (flags_on (λ f. safe_in p.tapes.value (book_in q.book.value).archive f (copies_of_file site (packed_entry h t who v ∷ h) f)) (is_safe site (packed_entry h t who v ∷ h)) (job_files x.items.items) (pin_all (pins_of n x.written.items) p.buffer.held.value)
      (λ f there. flag_told f (sym (ap (λ (rs : List Resident). has_number f (numbers rs)) (pin_all_is (pins_of n x.written.items) p.buffer.held.value).1) ∙ there)))
      w.settled.held))

  -- ---- all parts

  -- what was done is what the calls for the entry do
  pub packed_called : AreKeptCalled site h (packed_entry h t who v) p q
  packed_called =
      subst (λ (r : ArchiveParts). AreKeptCalled site h (packed_entry h t who v) p r) (sym w.settled.rest)
      (record {
        parts = record {
          space = record {
            names = λ path. refl;
            tapes = same_table;
            buffer = (job_files x.items.items, touched, held_called);
            requests = λ id. refl;
            repacks = repacks_called;
          };
          jobs = record { book = book_called; pools = pools_called; recalls = tapes_called; counts = λ way vo. refl };
          mounts = refl;
          downs = λ d. refl;
          failed = refl;
        };
        contents = λ g. ap (λ (xs : List (ℕ × Sum256)). content_in xs g) w.settled.contents;
        fit = record { tapes = w.packing.kept.fit.tapes; pools = w.settled.pool_keys ∙ w.packing.kept.fit.pools; recalls = w.settled.recall_keys ∙ w.packing.kept.fit.recalls; vos = w.packing.kept.fit.vos; drives = w.packing.kept.fit.drives };
        named = names_called;
      })
