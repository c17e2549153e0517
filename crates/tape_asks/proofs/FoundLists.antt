-- What was found of the parts is what a TapeState takes along.
use Rattle.std.proofs.Common.{◌≡◌, ◌∙◌, ◌+◌, ◌^◌, ◌<◌, ◌≤◌, ℕ, List, [], ◌∷◌, ◌++◌, not, refl, sym, ap, arith, length}
use Rattle.std.specs.Prelude.{Option, Some, None, option_map, is_none, ◌==◌, if◌then◌else◌, filter, map, codes}
use Rattle.std.specs.List.{cons_option, filter_map}
use Rattle.cta_site.specs.declared.site.Site.{Site}
use Rattle.cta_site.specs.declared.site.TapeState.{TapeState}
use Rattle.cta_site.specs.WellFormed.{IsWellFormed}
use Rattle.cta_model.specs.declared.asks.Item.{Item}
use Rattle.cta_model.specs.declared.asks.Job.{Job}
use Rattle.cta_model.specs.declared.states.Place.{Place}
use Rattle.cta_model.specs.History.{History}
use Rattle.cta_model.specs.Legal.{IsLegal}
use Rattle.cta_model.specs.Mounts.{claimer_of, job_of}
use Rattle.cta_model.specs.Places.{is_at, live_items_on, place_of}
use Rattle.cta_model.specs.Recalls.{Recall, live_recall, recall_job}
use Rattle.cta_model.specs.RepackItems.{repack_items, waiting_for}
use Rattle.cta_model.specs.Tapes.{is_broken, next_fseq, tape_items}
use Rattle.cta_laws.specs.Lengths.{FseqsAreLow}
use Rattle.cta_laws.specs.Places.{PlacesBelow}
use Rattle.cta_laws.proofs.JobLists.{filter_le}
use Rattle.part_model.specs.declared.space.TapeRow.{TapeRow}
use Rattle.part_model.specs.JobBook.{Book}
use Rattle.part_model.specs.Tapes.{Table, TablesAgree, place_in}
use Rattle.part_laws.specs.Tapes.{IsTable}
use Rattle.part_laws.specs.QueueBooks.{IsBook}
use Rattle.part_laws.specs.Births.{files_of}
use Rattle.part_laws.specs.StateLists.{moved_recalls, recall_of, recalls_on}
use Rattle.part_laws.proofs.PartSteps.{filter_on}
use Rattle.part_moves.specs.Flags.{job_files}
use Rattle.part_moves.specs.Waiting.{waits_for_all, with_file}
use Rattle.tape_asks.specs.declared.found.Found.{Found}
use Rattle.tape_asks.specs.Items.{AreItemsOn}
use Rattle.tape_asks.specs.Losses.{is_left_on, is_lost_in, recall_in, recalls_in}
use Rattle.tape_asks.specs.Takings.{IsFound}
use Rattle.part_moves.specs.Texts.{AreAll}
use Rattle.tape_asks.proofs.TapeItems.{HasOnePlace, files_once, repacked}

-- ---- recalls

maps_same : (g k : ℕ → Option Job) (js : List Job) → ((f : ℕ) → g f ≡ k f) → filter_map (λ (j : Job). g j.file) js ≡ filter_map k (job_files js)
maps_same g k [] same = refl
maps_same g k (j ∷ js) same = ap (λ (o : Option Job). cons_option o (filter_map (λ (i : Job). g i.file) js)) (same j.file) ∙ ap (cons_option (k j.file)) (maps_same g k js same)

pub recalls_are : (site : Site) (h : History) (b : Book) (v : ℕ) (items : List Job) → IsBook site h b → items ≡ repack_items h v → files_of items [] ≡ job_files items → recalls_in b items ≡ recalls_on site h v
recalls_are site h b v items is same once =
    maps_same (recall_in b) (recall_of site h) items (λ f. ap (option_map (λ (r : Recall). recall_job r.birth f)) (is.recall f))
    ∙ ap (filter_map (recall_of site h)) (sym once ∙ ap (λ (js : List Job). files_of js []) same)

pub moved_are : (site : Site) (h : History) (b : Book) (v : ℕ) (recalls : List Job) → IsBook site h b → recalls ≡ recalls_on site h v → filter (λ (j : Job). is_none (b.claimer j)) recalls ≡ moved_recalls site h v
moved_are site h b v recalls is same =
    filter_on (λ (j : Job). is_none (b.claimer j)) (λ j. is_none (claimer_of h j)) recalls (λ j there. ap is_none (is.claimer j)) ∙ ap (filter (λ j. is_none (claimer_of h j))) same

waits_same : (a b : ℕ → Option Recall) (fs : List ℕ) → ((f : ℕ) → a f ≡ b f) → waits_for_all a fs ≡ waits_for_all b fs
waits_same a b [] same = refl
waits_same a b (f ∷ fs) same = ap (λ (o : Option Recall). with_file f (waiting_for o) ++ waits_for_all a fs) (same f) ∙ ap (λ (xs : List (ℕ × ℕ)). with_file f (waiting_for (b f)) ++ xs) (waits_same a b fs same)

-- ---- files that have no place left

left_same : (v w : Table) (tape : ℕ) (s : TapeState) (a b : Option Place) → TablesAgree w v → a ≡ b → is_left_on v tape s b ≡ is_left_on w tape s a
left_same v w tape s a b agree same = by b ∙ ap (is_left_on w tape s) (sym same)
  where
    by : (o : Option Place) → is_left_on v tape s o ≡ is_left_on w tape s o
    by None = refl
    by (Some p) = ap (λ (r : TapeRow). not (is_broken (if p.tape == tape then s else r.state))) (sym (agree.rows p.tape))

lost_same : (v w : Table) (tape : ℕ) (s : TapeState) (f : ℕ) → TablesAgree w v → is_lost_in v tape s f ≡ is_lost_in w tape s f
lost_same v w tape s f agree =
    rw (left_same v w tape s (place_in w f 1) (place_in v f 1) agree (agree.places f 1), left_same v w tape s (place_in w f 2) (place_in v f 2) agree (agree.places f 2), left_same v w tape s (place_in w f 3) (place_in v f 3) agree (agree.places f 3), left_same v w tape s (place_in w f 4) (place_in v f 4) agree (agree.places f 4))
    refl

-- ---- all of it

pub found_are : (site : Site) (h : History) (v w : Table) (b : Book) (tape : ℕ) (s : TapeState) (x : Found) → IsLegal site h → IsTable site h v → IsBook site h b → TablesAgree w v → HasOnePlace v tape → AreItemsOn v tape x.items.items
    → x.moved.items ≡ filter (λ (j : Job). is_none (b.claimer j)) (recalls_in b x.items.items) → x.ended.items ≡ filter (λ (j : Job). is_lost_in v tape s j.file) (recalls_in b x.items.items)
    → x.waiters.items ≡ waits_for_all b.recall (job_files x.ended.items) → length x.errors.items ≡ length x.waiters.items → AreAll (codes "no tape is left") x.errors.items
    → IsFound site h w tape s x
found_are site h v w b tape s x legal table book agree one items moved ended waiters many same =
    let all : x.items.items ≡ repack_items h tape = repacked site h v tape x.items.items legal table items in
    let recalls : recalls_in b x.items.items ≡ recalls_on site h tape = recalls_are site h b tape x.items.items book all (files_once v tape x.items.items one items) in
    record {
      items = all;
      once = ap (λ (js : List Job). files_of js []) (sym all) ∙ files_once v tape x.items.items one items ∙ ap job_files all;
      moved = moved ∙ moved_are site h b tape (recalls_in b x.items.items) book recalls;
      ended = ended ∙ filter_on (λ (j : Job). is_lost_in v tape s j.file) (λ (j : Job). is_lost_in w tape s j.file) (recalls_in b x.items.items) (λ j there. lost_same v w tape s j.file agree) ∙ ap (filter (λ (j : Job). is_lost_in w tape s j.file)) recalls;
      waiters = waiters ∙ waits_same b.recall (live_recall site h) (job_files x.ended.items) book.recall;
      many = many;
      same = same;
    }

-- ---- how many, and how far

mapped_few : (g : Job → Option Job) (js : List Job) → length (filter_map g js) ≤ length js
mapped_few g [] = omega arith
mapped_few g (j ∷ js) = by (g j) (mapped_few g js)
  where
    by : (o : Option Job) → length (filter_map g js) ≤ length js → length (cons_option o (filter_map g js)) ≤ length (j ∷ js)
    by None rest = omega (arith, rest)
    by (Some k) rest = omega (arith, rest)

pub items_few : (site : Site) (h : History) (v : ℕ) → FseqsAreLow → IsWellFormed site → IsLegal site h → length (repack_items h v) ≤ 1000000
items_few site h v law good legal =
    let top : site.limits.history ≤ 1000000 = good.limits.history_to in
    let next : next_fseq h v ≤ site.limits.history + 1 = law site h legal v in
    let less : length (live_items_on h v) ≤ length (tape_items h v) = filter_le (λ (i : Item). is_at v i.fseq (place_of h i.job.file i.job.copy)) (tape_items h v) in
    let same : length (repack_items h v) ≡ length (live_items_on h v) = mapped (live_items_on h v) in
    omega (arith, top, next, less, same)
  where
    mapped : (xs : List Item) → length (map (λ (i : Item). job_of 0 i.job.file i.job.copy) xs) ≡ length xs
    mapped [] = refl
    mapped (x ∷ xs) = (let rest = mapped xs in omega (arith, rest))

-- the recalls that wait in queues are few
pub moved_few : (site : Site) (h : History) (v : Table) (b : Book) (tape : ℕ) (items moved : List Job) → FseqsAreLow → IsWellFormed site → IsLegal site h → IsTable site h v → AreItemsOn v tape items
    → moved ≡ filter (λ (j : Job). is_none (b.claimer j)) (recalls_in b items) → length moved ≤ 1000000
moved_few site h v b tape items moved law good legal table are is =
    let low : length (repack_items h tape) ≤ 1000000 = items_few site h tape law good legal in
    let all : length items ≡ length (repack_items h tape) = ap length (repacked site h v tape items legal table are) in
    let some : length (recalls_in b items) ≤ length items = mapped_few (λ (j : Job). recall_in b j.file) items in
    let less : length (filter (λ (j : Job). is_none (b.claimer j)) (recalls_in b items)) ≤ length (recalls_in b items) = filter_le (λ (j : Job). is_none (b.claimer j)) (recalls_in b items) in
    let same : length moved ≡ length (filter (λ (j : Job). is_none (b.claimer j)) (recalls_in b items)) = ap length is in
    omega (arith, low, all, some, less, same)

mapped_files : (g : ℕ → Option Job) (fs : List ℕ) → length (filter_map g fs) ≤ length fs
mapped_files g [] = omega arith
mapped_files g (f ∷ fs) = by (g f) (mapped_files g fs)
  where
    by : (o : Option Job) → length (filter_map g fs) ≤ length fs → length (cons_option o (filter_map g fs)) ≤ length (f ∷ fs)
    by None rest = omega (arith, rest)
    by (Some k) rest = omega (arith, rest)

files_many : (js : List Job) → length (job_files js) ≡ length js
files_many [] = refl
files_many (j ∷ js) = (let rest = files_many js in omega (arith, rest))

pub waits_few : (site : Site) (h : History) (v : ℕ) (js : List Job) → FseqsAreLow → IsWellFormed site → IsLegal site h → files_of (repack_items h v) [] ≡ job_files (repack_items h v) → js ≡ moved_recalls site h v → length js ≤ 1000000
waits_few site h v js law good legal once is =
    let low : length (repack_items h v) ≤ 1000000 = items_few site h v law good legal in
    let many : length (files_of (repack_items h v) []) ≡ length (repack_items h v) = ap length once ∙ files_many (repack_items h v) in
    let some : length (recalls_on site h v) ≤ length (files_of (repack_items h v) []) = mapped_files (recall_of site h) (files_of (repack_items h v) []) in
    let less : length (moved_recalls site h v) ≤ length (recalls_on site h v) = filter_le (λ j. is_none (claimer_of h j)) (recalls_on site h v) in
    let same : length js ≡ length (moved_recalls site h v) = ap length is in
    omega (arith, low, many, some, less, same)

-- the fSeq of a place has a next
pub fseqs_low : (site : Site) (h : History) (v : Table) → PlacesBelow → FseqsAreLow → IsWellFormed site → IsLegal site h → IsTable site h v → (f c : ℕ) (p : Place) → place_in v f c ≡ Some p → p.fseq + 1 < 2 ^ 32
fseqs_low site h v below law good legal table f c p at =
    let low : p.fseq < next_fseq h p.tape = below site h legal f c p (sym (table.places f c) ∙ at) in
    let next : next_fseq h p.tape ≤ site.limits.history + 1 = law site h legal p.tape in
    let top : site.limits.history ≤ 1000000 = good.limits.history_to in
    omega (arith, low, next, top)
