-- What was found of the parts is what a Repack takes along, and it can settle.
use Rattle.std.proofs.Common.{◌≡◌, ◌∙◌, ◌+◌, ◌<◌, ◌≤◌, ℕ, zero, suc, List, [], ◌∷◌, ◌++◌, Bool, true, false, ◌||◌, refl, sym, ap, subst, arith, length}
use Rattle.std.specs.Prelude.{Option, Some, None, is_none, is_some, ◌&&◌, map}
use Rattle.std.specs.List.{cons_option, filter_map}
use Rattle.cta_site.specs.declared.site.Site.{Site}
use Rattle.cta_site.specs.WellFormed.{IsWellFormed}
use Rattle.cta_model.specs.declared.asks.Direction.TheVariants as direction
use Rattle.cta_model.specs.declared.asks.Item.{Item}
use Rattle.cta_model.specs.declared.asks.Job.{Job}
use Rattle.cta_model.specs.declared.asks.Who.{Who}
use Rattle.cta_model.specs.Answers.{names_twice}
use Rattle.cta_model.specs.Buffer.{is_resident}
use Rattle.cta_model.specs.History.{History}
use Rattle.cta_model.specs.Legal.{IsLegal}
use Rattle.cta_model.specs.Mounts.{has_copy, has_job, job_of}
use Rattle.cta_model.specs.Places.{is_at, live_items_on, place_of}
use Rattle.cta_model.specs.Recalls.{bears_recall, live_recall}
use Rattle.cta_model.specs.RepackItems.{repack_items}
use Rattle.cta_model.specs.Tapes.{next_fseq, tape_items}
use Rattle.cta_laws.specs.Lengths.{FseqsAreLow}
use Rattle.cta_laws.specs.Places.{PlacesAreOnSite}
use Rattle.cta_laws.proofs.JobLists.{filter_le}
use Rattle.cta_laws.proofs.RepackedCopies.{repacked_none}
use Rattle.part_model.specs.Held.{is_held}
use Rattle.part_model.specs.JobRows.{book_in}
use Rattle.part_model.specs.Queues.{lines_in}
use Rattle.part_laws.specs.Laws.{FilesFitBuffer, LinesAreSmall}
use Rattle.job_queues.specs.Waiting.{bytes_of}
use Rattle.part_laws.specs.Births.{bearing, files_of, recalled, recalls_of, repack_births}
use Rattle.part_laws.proofs.RepackParts.{files_once as each_once}
use Rattle.part_laws.proofs.Told.{held_is}
use Rattle.repack_book.specs.NamedRepacks.{NamedRepacks}
use Rattle.archive_parts.specs.declared.parts.ArchiveParts.{ArchiveParts}
use Rattle.part_moves.specs.Flags.{job_files}
use Rattle.fault_asks.proofs.FailFacts.{all_from, room_in, small_files}
use Rattle.part_moves.proofs.Sources.{source_placed}
use Rattle.tape_asks.specs.Items.{AreItemsOn}
use Rattle.tape_asks.proofs.TapeItems.{HasOnePlace, files_once, repacked}
use Rattle.tape_asks.specs.Lists.{AreOnce, joined_by, newborn_by, targets_of, written_by}
use Rattle.tape_asks.specs.Settled.{CanSettle}
use Rattle.tape_asks.specs.RepackTakings.{IsTaken}
use Rattle.tape_asks.specs.declared.ready.Found.{Found}
use Rattle.tape_asks.proofs.RepackCalls.{archives_have, in_both, recalls_have}
use Rattle.tape_asks.proofs.RepackFacts.{IsPacking, all_back, born_back, items_placed, longer, packed, packed_entry}
use Rattle.tape_asks.proofs.TakenLists.{files_here, joined_are, newborn_are, once_filtered, once_jobs, once_of, targets_here, written_are}
use Rattle.tape_asks.proofs.FoundLists.{items_few}

-- ---- how many

few_mapped : {A : Type 0} (g : Job → Option A) (js : List Job) → length (filter_map g js) ≤ length js
few_mapped g [] = omega arith
few_mapped {A} g (j ∷ js) = by (g j) (few_mapped g js)
  where
    by : (o : Option A) → length (filter_map g js) ≤ length js → length (cons_option o (filter_map g js)) ≤ length (j ∷ js)
    by None rest = omega (arith, rest)
    by (Some k) rest = omega (arith, rest)

-- what is made of the items is few
pub made_few : {A : Type 0} (site : Site) (h : History) (v : ℕ) (g : Job → Option A) (items : List Job) (made : List A) → FseqsAreLow → IsWellFormed site → IsLegal site h → items ≡ repack_items h v → made ≡ filter_map g items → length made ≤ 1000000
made_few site h v g items made law good legal is mapped =
    let low : length (repack_items h v) ≤ 1000000 = items_few site h v law good legal in
    let all : length items ≡ length (repack_items h v) = ap length is in
    let less : length (filter_map g items) ≤ length items = few_mapped g items in
    let same : length made ≡ length (filter_map g items) = ap length mapped in
    omega (arith, low, all, less, same)

-- ---- what is taken along

module _ (site : Site) (h : History) (t : ℕ) (who : Who) (v : ℕ) (p : ArchiveParts) (w : IsPacking site h t who v p) where
  same_held : (f : ℕ) → is_held p.buffer.held.value f ≡ is_resident h f
  same_held f = held_is site h p.buffer.held.value f w.kept.stand.space.buffer

  pub items_are : (items : List Job) → AreItemsOn p.tapes.value v items → items ≡ repack_items h v
  items_are items are = repacked site h p.tapes.value v items w.legal w.kept.stand.space.tapes are

  pub taken_are : FseqsAreLow → (n : ℕ) (x : Found) → HasOnePlace p.tapes.value v → n ≡ length h + 1 → AreItemsOn p.tapes.value v x.items.items → x.joined.items ≡ filter_map (joined_by (book_in p.book.value)) x.items.items
      → x.newborn.items ≡ filter_map (newborn_by p.buffer.held.value (book_in p.book.value) n) x.items.items → x.written.items ≡ filter_map (written_by p.buffer.held.value n) x.items.items → IsTaken site h who v x
  taken_are law n x one number are joined newborn written =
      let same : x.items.items ≡ repack_items h v = items_are x.items.items are in
      let once : files_of (repack_items h v) [] ≡ job_files (repack_items h v) = ap (λ (js : List Job). files_of js []) (sym same) ∙ files_once p.tapes.value v x.items.items one are ∙ ap job_files same in
      let each : AreOnce (job_files (repack_items h v)) = subst AreOnce once (once_of (files_of (repack_items h v) []) (each_once (repack_items h v) [])) in
      let all : x.newborn.items ≡ filter_map (newborn_by p.buffer.held.value (book_in p.book.value) (length h + 1)) (repack_items h v) =
      newborn ∙ ap (filter_map (newborn_by p.buffer.held.value (book_in p.book.value) n)) same ∙ ap (λ (k : ℕ). filter_map (newborn_by p.buffer.held.value (book_in p.book.value) k) (repack_items h v)) number in
      let here : x.written.items ≡ filter_map (written_by p.buffer.held.value (length h + 1)) (repack_items h v) =
      written ∙ ap (filter_map (written_by p.buffer.held.value n)) same ∙ ap (λ (k : ℕ). filter_map (written_by p.buffer.held.value k) (repack_items h v)) number in
      record {
        items = same;
        once = once;
        joined = joined ∙ ap (filter_map (joined_by (book_in p.book.value))) same ∙ joined_are site h (book_in p.book.value) (repack_items h v) w.kept.stand.jobs.book ∙ ap (recalled site h) (sym once);
        newborn = all
            ∙ newborn_are site h who v (length h + 1) p.buffer.held.value (book_in p.book.value) (repack_items h v) w.kept.stand.jobs.book same_held (items_placed site h t who v p w)
            ∙ ap (λ (fs : List ℕ). recalls_of (length h + 1) (bearing site h (packed who v) fs)) (sym once);
        written = here ∙ written_are h (length h + 1) p.buffer.held.value (repack_items h v) [] same_held each (λ f c there. refl);
        here = ap job_files here ∙ files_here h (length h + 1) p.buffer.held.value (repack_items h v) same_held;
        targets = ap (targets_of (length h + 1)) here ∙ targets_here h (length h + 1) p.buffer.held.value (repack_items h v) same_held;
        few_reads = made_few site h v (newborn_by p.buffer.held.value (book_in p.book.value) n) x.items.items x.newborn.items law w.good w.legal same newborn;
        few_writes = made_few site h v (written_by p.buffer.held.value n) x.items.items x.written.items law w.good w.legal same written;
      }

  -- ---- it can settle

  module _ (x : Found) (taken : IsTaken site h who v x) where
    both_are : x.newborn.items ++ x.written.items ≡ repack_births site h (packed who v) (length h + 1) (repack_items h v)
    both_are = ap (λ (js : List Job). js ++ x.written.items) taken.newborn ∙ ap (λ (js : List Job). recalls_of (length h + 1) (bearing site h (packed who v) (files_of (repack_items h v) [])) ++ js) taken.written

    first_of : (a b : Bool) → a ≡ true → (a || b) ≡ true
    first_of true b e = refl
    first_of false b e = absurd (cc)

    last_of : (a b : Bool) → b ≡ true → (a || b) ≡ true
    last_of true b e = refl
    last_of false b e = e

    newborn_has : (j : Job) → has_job j x.newborn.items ≡ true → (j.birth ≡ length h + 1) × (j.copy ≡ 0)
    newborn_has j there = recalls_have (length h + 1) j (bearing site h (packed who v) (files_of (repack_items h v) [])) (subst (λ (js : List Job). has_job j js ≡ true) taken.newborn there)

    written_has : (j : Job) → has_job j x.written.items ≡ true → (j.birth ≡ length h + 1) × (has_copy j.file j.copy (repack_items h v) ≡ true)
    written_has j there = archives_have h (length h + 1) j (repack_items h v) [] (subst (λ (js : List Job). has_job j js ≡ true) taken.written there)

    in_births : (j : Job) → (has_job j x.newborn.items || has_job j x.written.items) ≡ true → has_job j (repack_births site h (packed who v) (length h + 1) (repack_items h v)) ≡ true
    in_births j there = subst (λ (js : List Job). has_job j js ≡ true) both_are (in_both j x.newborn.items x.written.items there)

    some_copy : (j : Job) → has_job j x.written.items ≡ true → 1 ≤ j.copy
    some_copy j there = by j.copy refl
      where
        by : (c : ℕ) → j.copy ≡ c → 1 ≤ c
        by zero is =
            (let none : has_copy j.file 0 (repack_items h v) ≡ false = repacked_none site h w.legal v j.file in
            let some : has_copy j.file 0 (repack_items h v) ≡ true = ap (λ (c : ℕ). has_copy j.file c (repack_items h v)) (sym is) ∙ (written_has j there).1 in
            absurd (cc))
        by (suc c) is = omega arith

    all_once : AreOnce (files_of (repack_items h v) [])
    all_once = once_of (files_of (repack_items h v) []) (each_once (repack_items h v) [])

    recall_files : (n : ℕ) (fs : List ℕ) → job_files (recalls_of n fs) ≡ fs
    recall_files n [] = refl
    recall_files n (f ∷ fs) = ap (λ (gs : List ℕ). f ∷ gs) (recall_files n fs)

    newborn_once : names_twice x.newborn.items ≡ false
    newborn_once =
        once_jobs x.newborn.items
        (subst AreOnce (sym (ap job_files taken.newborn ∙ recall_files (length h + 1) (bearing site h (packed who v) (files_of (repack_items h v) []))))
        (once_filtered (λ f. is_none (live_recall site h f) && bears_recall site h (packed who v) f) (files_of (repack_items h v) []) all_once))

    written_once : names_twice x.written.items ≡ false
    written_once = once_jobs x.written.items (subst AreOnce (sym taken.here) (once_filtered (is_resident h) (job_files (repack_items h v)) (subst AreOnce taken.once all_once)))

    pub can_settle : FilesFitBuffer → LinesAreSmall → PlacesAreOnSite → (added : NamedRepacks) → length x.joined.items + (length x.newborn.items + length x.written.items) ≤ p.book.room → length x.newborn.items ≤ p.recalls.room → length x.written.items ≤ p.pools.room
        → length x.written.items ≤ p.buffer.held.room → CanSettle site (packed_entry h t who v ∷ h) x.joined.items x.newborn.items x.written.items (record p { repacks = added })
    can_settle files lines on_site added jobs reads writes pins = record {
      once = subst AreOnce (sym taken.joined) (once_filtered (λ f. is_some (live_recall site h f)) (files_of (repack_items h v) []) all_once);
      jobs = jobs;
      reads = reads;
      writes = writes;
      pins = pins;
      keys = λ f n q at.
          (let c = source_placed p.tapes.value f n q at in
          let low : q.tape < length site.tapes.items = on_site site h w.legal f c.0 q (sym (w.kept.stand.space.tapes.places f c.0) ∙ c.1) in
          let sized : length p.recalls.value ≡ length site.tapes.items = w.kept.fit.recalls in
          omega (arith, low, sized));
      pools = w.kept.fit.pools;
      copies = all_from (λ (j : Job). 1 ≤ j.copy) x.written.items some_copy;
      can_read = λ b. all_back site (packed_entry h t who v ∷ h) b (lines_in p.recalls.value) x.newborn.items newborn_once
          (λ j there. born_back site h t who v p w direction.Retrieve (lines_in p.recalls.value) w.kept.stand.jobs.recalls j (in_births j (first_of (has_job j x.newborn.items) (has_job j x.written.items) there)) (newborn_has j there).0);
      can_write = λ b. all_back site (packed_entry h t who v ∷ h) b (lines_in p.pools.value) x.written.items written_once
          (λ j there. born_back site h t who v p w direction.Archive (lines_in p.pools.value) w.kept.stand.jobs.pools j (in_births j (last_of (has_job j x.newborn.items) (has_job j x.written.items) there)) (written_has j there).0);
      small = small_files files site (packed_entry h t who v ∷ h) w.good (longer site h t who v p w);
      read_fits = λ k. room_in site (bytes_of (lines_in p.recalls.value k)) (length x.newborn.items) (length x.newborn.items) (lines site h direction.Retrieve (lines_in p.recalls.value) w.valid w.legal w.kept.stand.jobs.recalls k) (omega arith) (let few = taken.few_reads in omega (arith, few));
      write_fits = λ k. room_in site (bytes_of (lines_in p.pools.value k)) (length x.written.items) (length x.written.items) (lines site h direction.Archive (lines_in p.pools.value) w.valid w.legal w.kept.stand.jobs.pools k) (omega arith) (let few = taken.few_writes in omega (arith, few));
    }
