-- The calls of the book of repacks move it as the entry does. And it tells which tapes have a live repack.
use Rattle.std.proofs.Common.{◌≡◌, ℕ, zero, suc, ◌+◌, ◌≤◌, inl, inr, List, [], ◌∷◌, Bool, true, false, refl, sym, ◌∙◌, ap, subst, arith, length}
use Rattle.std.specs.Prelude.{Option, Some, None, is_some, is_none, option_map, if◌then◌else◌, ◌==◌, ◌&&◌, filter, map}
use Rattle.std.specs.List.{list_any}
use Rattle.std.proofs.lemmas.Bool.{and_parts, and_from, eqb-true, eq-eqb}
use Rattle.cta_site.specs.declared.site.Site.{Site}
use Rattle.cta_site.specs.Listed.{Listed}
use Rattle.cta_model.specs.declared.entries.Entry.{Entry}
use Rattle.cta_model.specs.declared.asks.Ask.{Ask}
use Rattle.cta_model.specs.declared.asks.Ask.TheVariants as ask
use Rattle.cta_model.specs.declared.asks.Job.{Job}
use Rattle.cta_model.specs.declared.asks.Who.{Who}
use Rattle.cta_model.specs.declared.answers.Answer.{Answer}
use Rattle.cta_model.specs.declared.answers.Answer.TheVariants as answer
use Rattle.cta_model.specs.declared.reports.ItemState.{ItemState}
use Rattle.cta_model.specs.declared.reports.ItemState.TheVariants as item
use Rattle.cta_model.specs.declared.states.RepackCopy.{RepackCopy}
use Rattle.cta_model.specs.History.{History, has_number}
use Rattle.cta_model.specs.Files.{path_of}
use Rattle.cta_model.specs.Mounts.{has_copy}
use Rattle.cta_model.specs.Buffer.{is_resident}
use Rattle.cta_model.specs.Recalls.{Recall, live_recall}
use Rattle.cta_model.specs.Jobs.{archive_birth}
use Rattle.cta_model.specs.RepackItems.{waiting_for}
use Rattle.cta_model.specs.Repacks.{Repack, after_reading, after_writing, is_live_item, is_live_on, is_repack_live, item_after, new_item, repack_after, repack_by, repack_of, repacks_made, state_behind}
use Rattle.cta_model.specs.Legal.{IsLegal}
use Rattle.cta_laws.specs.Stages.{takes_path}
use Rattle.cta_laws.specs.Repacks.{WaitsForRecall}
use Rattle.cta_laws.proofs.Tests.{bool_cases, or_left, or_right, or_cases}
use Rattle.cta_laws.proofs.Bools.{and_none, and_true, same_bool}
use Rattle.cta_laws.proofs.Claims.{AllOf, all_mono}
use Rattle.cta_laws.proofs.JobLaw.{not_true}
use Rattle.cta_laws.proofs.Accepted.{answer_is}
use Rattle.cta_laws.proofs.JobFiles.{archive_resident, recall_absent}
use Rattle.cta_laws.proofs.PinLaw.{among, repack_made, some_of}
use Rattle.cta_laws.proofs.RepackLaw.{ItemHas, ItemStands, each_copy, items_stand, no_request, none_takes, repack_low}
use Rattle.part_model.specs.Repacks.{Repacks, RepacksAgree, add_repack, has_item_by, is_live_in, is_reading, is_writing, reading_copies, repack_in, set_states, writers_in}
use Rattle.part_laws.specs.Books.{AreRepacks}
use Rattle.part_laws.specs.BookCalls.{RepacksCalled, copies_ended, items_here, readers, recalls_ended, writers}
use Rattle.part_laws.specs.BookLaws.{CallsMoveRepacks, RepacksTellLive}
use Rattle.part_laws.proofs.Ended.{copies_end_as_told, recalls_end_as_told}
use Rattle.part_laws.proofs.RepackTurns.{all_set, has_target, here_hit, items_same, items_twice, key_there, readers_hit, set_live, set_miss, set_off, sets_are, with_items, writers_are, writers_hit}

-- ---- an item behind the entry, told by the recalls and archive jobs that the entry ends

abbrev pub told_state : Site → History → Entry → ℕ → ℕ → ItemState → ItemState
told_state site h e f c item.Reading = if has_number f (recalls_ended site h e e.ask e.answer) then after_reading false e.ask else item.Reading
told_state site h e f c item.Writing = if has_copy f c (copies_ended site h e.ask e.answer) then after_writing false e.ask else item.Writing
told_state site h e f c s = s

-- nobody takes a path from a repack
untaken : (site : Site) (h : History) (e : Entry) (id : ℕ) (path : List ℕ) → IsLegal site (e ∷ h) → is_some (repack_of site h id) ≡ true → takes_path e.ask id path ≡ false
untaken site h e id path legal there = none_takes site h _ e.ask e.answer id path (answer_is site h e.at e.ask e.answer legal.1.answered legal.1.accepted) (no_request site h id there)

part_moves : (site : Site) (h : History) (e : Entry) (f c : ℕ) → IsLegal site (e ∷ h) → 1 ≤ c → is_some (archive_birth site h f c) ≡ true → has_copy f c (copies_ended site h e.ask e.answer) ≡ is_none (archive_birth site (e ∷ h) f c)
part_moves site h e f zero legal low on = absurd (omega arith)
part_moves site h e f (suc c) legal low on = copies_end_as_told site h e f c legal on

reading_told : (o : Option Recall) (b : Bool) (k : Ask) → b ≡ is_none o → after_reading (is_some o) k ≡ (if b then after_reading false k else item.Reading)
reading_told None true k is = refl
reading_told None false k is = absurd (cc)
reading_told (Some r) true k is = absurd (cc)
reading_told (Some r) false k is = refl

writing_told : (o : Option ℕ) (b : Bool) (k : Ask) → b ≡ is_none o → after_writing (is_some o) k ≡ (if b then after_writing false k else item.Writing)
writing_told None true k is = refl
writing_told None false k is = absurd (cc)
writing_told (Some n) true k is = absurd (cc)
writing_told (Some n) false k is = refl

state_told : (site : Site) (h : History) (e : Entry) (id f c : ℕ) (s : ItemState) → IsLegal site (e ∷ h) → is_some (repack_of site h id) ≡ true → 1 ≤ c → ItemHas site h id f c s → state_behind site (e ∷ h) e.ask f c s ≡ told_state site h e f c s
state_told site h e id f c item.Reading legal there low has =
    reading_told (live_recall site (e ∷ h) f) (has_number f (recalls_ended site h e e.ask e.answer)) e.ask (recalls_end_as_told site h e f id has.0 legal has.1 has.2 (untaken site h e id (path_of h f) legal there))
state_told site h e id f c item.Writing legal there low has = writing_told (archive_birth site (e ∷ h) f c) (has_copy f c (copies_ended site h e.ask e.answer)) e.ask (part_moves site h e f c legal low has)
state_told site h e id f c item.Done legal there low has = refl
state_told site h e id f c item.Failed legal there low has = refl
state_told site h e id f c item.Gone legal there low has = refl

item_told : (site : Site) (h : History) (e : Entry) (id : ℕ) (i : RepackCopy) → IsLegal site (e ∷ h) → is_some (repack_of site h id) ≡ true → ItemStands site h id i → item_after site (e ∷ h) e.ask i ≡ record i { state = told_state site h e i.file i.copy i.state }
item_told site h e id i legal there stands = ap (λ (s : ItemState). record i { state = s }) (state_told site h e id i.file i.copy i.state legal there stands.from stands.has)

-- ---- what a book tells of the items

-- no copy of a file is written that waits for its recall
not_both : (site : Site) (h : History) (f c : ℕ) → IsLegal site h → 1 ≤ c → is_some (live_recall site h f) ≡ true → is_some (archive_birth site h f c) ≡ false
not_both site h f zero legal low on = absurd (omega arith)
not_both site h f (suc c) legal low on =
    not_true _ (λ x. (let here : is_resident h f ≡ true = archive_resident site h legal f c x in let away : is_resident h f ≡ false = recall_absent site h legal f on in absurd (cc)))

-- a copy that some item is READING has a recall, and one that some item is WRITING an archive job
reads : (site : Site) (h : History) (id f c : ℕ) (xs : List RepackCopy) → AllOf (ItemStands site h id) xs → has_number c (map (λ (i : RepackCopy). i.copy) (filter (λ (i : RepackCopy). i.file == f && is_reading i.state) xs)) ≡ true → is_some (live_recall site h f) ≡ true
reads site h id f c [] all on = absurd (cc)
reads site h id f c (i ∷ xs) all on = by (i.file == f) refl i.state refl (λ x. reads site h id f c xs all.1 x) on
  where
    by : (b : Bool) → (i.file == f) ≡ b → (s : ItemState) → i.state ≡ s → (has_number c (map (λ (i : RepackCopy). i.copy) (filter (λ (i : RepackCopy). i.file == f && is_reading i.state) xs)) ≡ true → is_some (live_recall site h f) ≡ true) → has_number c (map (λ (i : RepackCopy). i.copy) (if b && is_reading s then i ∷ filter (λ (i : RepackCopy). i.file == f && is_reading i.state) xs else filter (λ (i : RepackCopy). i.file == f && is_reading i.state) xs)) ≡ true → is_some (live_recall site h f) ≡ true
    by true same item.Reading is rest x =
        (let w : WaitsForRecall site h id i.file = subst (ItemHas site h id i.file i.copy) is all.0.has in
        subst (λ (n : ℕ). is_some (live_recall site h n) ≡ true) (eqb-true _ _ same) (ap is_some w.1))
    by true same item.Writing is rest x = rest x
    by true same item.Done is rest x = rest x
    by true same item.Failed is rest x = rest x
    by true same item.Gone is rest x = rest x
    by false same s is rest x = rest x

writes : (site : Site) (h : History) (id f c : ℕ) (xs : List RepackCopy) → AllOf (ItemStands site h id) xs → list_any (λ (i : RepackCopy). (i.file == f && i.copy == c) && is_writing i.state) xs ≡ true → is_some (archive_birth site h f c) ≡ true
writes site h id f c [] all on = absurd (cc)
writes site h id f c (i ∷ xs) all on =
    elim (or_cases ((i.file == f && i.copy == c) && is_writing i.state) _ on) [
      | inl here ↦
          (let p = and_parts (i.file == f && i.copy == c) _ here in
          let q = and_parts (i.file == f) _ p.0 in
          let job : is_some (archive_birth site h i.file i.copy) ≡ true = by i.state refl p.1 in
          subst (λ (n : ℕ). is_some (archive_birth site h n c) ≡ true) (eqb-true _ _ q.0) (subst (λ (n : ℕ). is_some (archive_birth site h i.file n) ≡ true) (eqb-true _ _ q.1) job))
      | inr rest ↦ writes site h id f c xs all.1 rest
    ]
  where
    by : (s : ItemState) → i.state ≡ s → is_writing s ≡ true → is_some (archive_birth site h i.file i.copy) ≡ true
    by item.Reading is x = absurd (cc)
    by item.Writing is x = subst (ItemHas site h id i.file i.copy) is all.0.has
    by item.Done is x = absurd (cc)
    by item.Failed is x = absurd (cc)
    by item.Gone is x = absurd (cc)

-- an item is found among those of its repack
record IsFound (xs : List RepackCopy) (i : RepackCopy) : Type 0 where
  pub reading : i.state ≡ item.Reading → has_number i.copy (map (λ (j : RepackCopy). j.copy) (filter (λ (j : RepackCopy). j.file == i.file && is_reading j.state) xs)) ≡ true
  pub writing : i.state ≡ item.Writing → list_any (λ (j : RepackCopy). (j.file == i.file && j.copy == i.copy) && is_writing j.state) xs ≡ true

found_more : (j : RepackCopy) (xs : List RepackCopy) (i : RepackCopy) → IsFound xs i → IsFound (j ∷ xs) i
found_more j xs i was = record { reading = λ is. by (j.file == i.file && is_reading j.state) (was.reading is); writing = λ is. or_right ((j.file == i.file && j.copy == i.copy) && is_writing j.state) _ (was.writing is) }
  where
    by : (b : Bool) → has_number i.copy (map (λ (j : RepackCopy). j.copy) (filter (λ (j : RepackCopy). j.file == i.file && is_reading j.state) xs)) ≡ true
        → has_number i.copy (map (λ (j : RepackCopy). j.copy) (if b then j ∷ filter (λ (j : RepackCopy). j.file == i.file && is_reading j.state) xs else filter (λ (j : RepackCopy). j.file == i.file && is_reading j.state) xs)) ≡ true
    by true x = or_right (i.copy == j.copy) _ x
    by false x = x

found_here : (i : RepackCopy) (xs : List RepackCopy) → IsFound (i ∷ xs) i
found_here i xs =
    record {
      reading = λ is. ap (λ (b : Bool). has_number i.copy (map (λ (j : RepackCopy). j.copy) (if b then i ∷ filter (λ (j : RepackCopy). j.file == i.file && is_reading j.state) xs else filter (λ (j : RepackCopy). j.file == i.file && is_reading j.state) xs))) (and_from _ _ (eq-eqb i.file i.file refl) (ap is_reading is)) ∙ or_left (i.copy == i.copy) _ (eq-eqb i.copy i.copy refl);
      writing = λ is. or_left ((i.file == i.file && i.copy == i.copy) && is_writing i.state) _ (and_from _ _ (and_from _ _ (eq-eqb i.file i.file refl) (eq-eqb i.copy i.copy refl)) (ap is_writing is));
    }

all_found : (xs : List RepackCopy) → AllOf (IsFound xs) xs
all_found [] = tt
all_found (i ∷ xs) = (found_here i xs, all_mono (IsFound xs) (IsFound (i ∷ xs)) xs (λ j was. found_more i xs j was) (all_found xs))

-- ---- an item behind the calls

-- the calls for an item
abbrev pub turned_item : Site → History → Entry → Repacks → ℕ → RepackCopy → RepackCopy
turned_item site h e v id i =
    all_set (after_writing false e.ask) id (writers v (copies_ended site h e.ask e.answer)) (all_set (after_reading false e.ask) id (readers site h v (recalls_ended site h e e.ask e.answer)) i)

if_state : (b : Bool) (i : RepackCopy) (s t : ItemState) → i.state ≡ t → (if b then record i { state = s } else i) ≡ record i { state = (if b then s else t) }
if_state true i s t is = refl
if_state false i s t is = ap (λ (x : ItemState). record i { state = x }) is

item_turned : (site : Site) (h : History) (e : Entry) (v : Repacks) (id : ℕ) (q : Repack) (i : RepackCopy) → IsLegal site (e ∷ h) → repack_in v id ≡ Some q → AllOf (ItemStands site h id) q.items → IsFound q.items i → ItemStands site h id i → record i { state = told_state site h e i.file i.copy i.state } ≡ turned_item site h e v id i
item_turned site h e v id q i legal is all found stands = by i.state refl
  where
    read_at : has_number i.copy (reading_copies i.file (repack_in v id)) ≡ has_number i.copy (map (λ (j : RepackCopy). j.copy) (filter (λ (j : RepackCopy). j.file == i.file && is_reading j.state) q.items))
    read_at = ap (λ (o : Option Repack). has_number i.copy (reading_copies i.file o)) is

    write_at : has_number id (writers_in v i.file i.copy) ≡ list_any (λ (j : RepackCopy). (j.file == i.file && j.copy == i.copy) && is_writing j.state) q.items
    write_at = writers_are v id i.file i.copy ∙ ap (has_item_by (λ (j : RepackCopy). (j.file == i.file && j.copy == i.copy) && is_writing j.state)) is

    over : (s : ItemState) → i.state ≡ s → is_live_item i.state ≡ false → record i { state = s } ≡ turned_item site h e v id i
    over s here off =
        ap (λ (x : ItemState). record i { state = x }) (sym here)
        ∙ sym (set_off (after_writing false e.ask) id (writers v (copies_ended site h e.ask e.answer)) i off)
        ∙ ap (all_set (after_writing false e.ask) id (writers v (copies_ended site h e.ask e.answer))) (sym (set_off (after_reading false e.ask) id (readers site h v (recalls_ended site h e e.ask e.answer)) i off))

    by : (s : ItemState) → i.state ≡ s → record i { state = told_state site h e i.file i.copy s } ≡ turned_item site h e v id i
    by item.Reading here =
        (let w : WaitsForRecall site h id i.file = subst (ItemHas site h id i.file i.copy) here stands.has in
        let waits : has_number id (waiting_for (live_recall site h i.file)) ≡ true = ap (λ (o : Option Recall). has_number id (waiting_for o)) w.1 ∙ w.2 in
        let hit : has_target id i.file i.copy (readers site h v (recalls_ended site h e e.ask e.answer)) ≡ has_number i.file (recalls_ended site h e e.ask e.answer) =
        readers_hit site h v id i.file i.copy (recalls_ended site h e e.ask e.answer) ∙ ap (λ (b : Bool). has_number i.file (recalls_ended site h e e.ask e.answer) && b) (and_from _ _ (read_at ∙ found.reading here) waits) ∙ and_true _ in
        let none : has_number id (writers_in v i.file i.copy) ≡ false = write_at ∙ not_true _ (λ x. (let job : is_some (archive_birth site h i.file i.copy) ≡ true = writes site h id i.file i.copy q.items all x in let no : is_some (archive_birth site h i.file i.copy) ≡ false = not_both site h i.file i.copy legal.0 stands.from (ap is_some w.1) in absurd (cc))) in
        let miss : has_target id i.file i.copy (writers v (copies_ended site h e.ask e.answer)) ≡ false = writers_hit v id i.file i.copy (copies_ended site h e.ask e.answer) ∙ ap (λ (b : Bool). has_copy i.file i.copy (copies_ended site h e.ask e.answer) && b) none ∙ and_none _ in
        sym (if_state (has_number i.file (recalls_ended site h e e.ask e.answer)) i (after_reading false e.ask) item.Reading here)
        ∙ ap (λ (b : Bool). if b then record i { state = after_reading false e.ask } else i) (sym hit)
        ∙ sym (set_live (after_reading false e.ask) id (readers site h v (recalls_ended site h e e.ask e.answer)) i (ap is_live_item here))
        ∙ sym (set_miss (after_writing false e.ask) id (writers v (copies_ended site h e.ask e.answer)) (all_set (after_reading false e.ask) id (readers site h v (recalls_ended site h e e.ask e.answer)) i)
        (kept miss _ _ (set_live (after_reading false e.ask) id (readers site h v (recalls_ended site h e e.ask e.answer)) i (ap is_live_item here)))))
      where
        kept : has_target id i.file i.copy (writers v (copies_ended site h e.ask e.answer)) ≡ false → (b : Bool) (x : RepackCopy) → x ≡ (if b then record i { state = after_reading false e.ask } else i) → has_target id x.file x.copy (writers v (copies_ended site h e.ask e.answer)) ≡ false
        kept miss b x same = subst (λ (y : RepackCopy). has_target id y.file y.copy (writers v (copies_ended site h e.ask e.answer)) ≡ false) (sym same) (either b)
          where
            either : (b : Bool) → has_target id (RepackCopy.file (if b then record i { state = after_reading false e.ask } else i)) (RepackCopy.copy (if b then record i { state = after_reading false e.ask } else i)) (writers v (copies_ended site h e.ask e.answer)) ≡ false
            either true = miss
            either false = miss
    by item.Writing here =
        (let job : is_some (archive_birth site h i.file i.copy) ≡ true = subst (ItemHas site h id i.file i.copy) here stands.has in
        let none : has_number i.copy (reading_copies i.file (repack_in v id)) ≡ false = read_at ∙ not_true _ (λ x. (let no : is_some (archive_birth site h i.file i.copy) ≡ false = not_both site h i.file i.copy legal.0 stands.from (reads site h id i.file i.copy q.items all x) in absurd (cc))) in
        let miss : has_target id i.file i.copy (readers site h v (recalls_ended site h e e.ask e.answer)) ≡ false =
        readers_hit site h v id i.file i.copy (recalls_ended site h e e.ask e.answer) ∙ ap (λ (b : Bool). has_number i.file (recalls_ended site h e e.ask e.answer) && (b && has_number id (waiting_for (live_recall site h i.file)))) none ∙ and_none _ in
        let hit : has_target id i.file i.copy (writers v (copies_ended site h e.ask e.answer)) ≡ has_copy i.file i.copy (copies_ended site h e.ask e.answer) =
        writers_hit v id i.file i.copy (copies_ended site h e.ask e.answer) ∙ ap (λ (b : Bool). has_copy i.file i.copy (copies_ended site h e.ask e.answer) && b) (write_at ∙ found.writing here) ∙ and_true _ in
        sym (if_state (has_copy i.file i.copy (copies_ended site h e.ask e.answer)) i (after_writing false e.ask) item.Writing here)
        ∙ ap (λ (b : Bool). if b then record i { state = after_writing false e.ask } else i) (sym hit)
        ∙ sym (set_live (after_writing false e.ask) id (writers v (copies_ended site h e.ask e.answer)) i (ap is_live_item here))
        ∙ ap (all_set (after_writing false e.ask) id (writers v (copies_ended site h e.ask e.answer))) (sym (set_miss (after_reading false e.ask) id (readers site h v (recalls_ended site h e e.ask e.answer)) i miss)))
    by item.Done here = over item.Done here (ap is_live_item here)
    by item.Failed here = over item.Failed here (ap is_live_item here)
    by item.Gone here = over item.Gone here (ap is_live_item here)

-- ---- an older repack behind the entry

map_items : (p q : RepackCopy → RepackCopy) (P Q : RepackCopy → Type 0) (xs : List RepackCopy) → ((i : RepackCopy) → P i → Q i → p i ≡ q i) → AllOf P xs → AllOf Q xs → map p xs ≡ map q xs
map_items p q P Q [] same all all' = refl
map_items p q P Q (i ∷ xs) same all all' = rw (same i all.0 all'.0, map_items p q P Q xs same all.1 all'.1) refl

old_repack : (site : Site) (h : History) (e : Entry) (v : Repacks) (id : ℕ) → IsLegal site (e ∷ h) → AreRepacks site h v → option_map (with_items (turned_item site h e v id)) (repack_in v id) ≡ option_map (repack_after site (e ∷ h) e.ask) (repack_of site h id)
old_repack site h e v id legal is = ap (option_map (with_items (turned_item site h e v id))) (is id) ∙ by (repack_of site h id) refl
  where
    by : (o : Option Repack) → repack_of site h id ≡ o → option_map (with_items (turned_item site h e v id)) o ≡ option_map (repack_after site (e ∷ h) e.ask) o
    by None at = refl
    by (Some q) at =
        (let all : AllOf (ItemStands site h id) q.items = items_stand site h legal.0 id q at in
        ap (λ (xs : List RepackCopy). Some (record { tape = q.tape; items = xs }))
        (map_items (turned_item site h e v id) (item_after site (e ∷ h) e.ask) (IsFound q.items) (ItemStands site h id) q.items
        (λ i found stands. sym (item_turned site h e v id q i legal (is id ∙ at) all found stands) ∙ sym (item_told site h e id i legal (ap is_some at) stands)) (all_found q.items) all))

none_repacked : (site : Site) (h : History) → repack_of site h (length h + 1) ≡ None
none_repacked site h = by (repack_of site h (length h + 1)) refl
  where
    by : (o : Option Repack) → repack_of site h (length h + 1) ≡ o → o ≡ None
    by None is = refl
    by (Some r) is = (let low : length h + 1 ≤ length h = repack_low site h (length h + 1) (ap is_some is) in absurd (omega arith))

repacks_stand : (site : Site) (h : History) (e : Entry) (v' : Repacks) → ((id : ℕ) → (length h + 1 == id) ≡ false → repack_in v' id ≡ option_map (repack_after site (e ∷ h) e.ask) (repack_of site h id)) → repack_in v' (length h + 1) ≡ repack_by h e.ask e.answer → AreRepacks site (e ∷ h) v'
repacks_stand site h e v' old new id =
    elim (bool_cases (length h + 1 == id)) [
      | inl hit ↦ rw hit (subst (λ (n : ℕ). repack_in v' n ≡ repack_by h e.ask e.answer) (eqb-true _ _ hit) new)
      | inr miss ↦ rw miss (old id miss)
    ]

-- ---- asks that make no repack

sets_move : (site : Site) (h : History) (e : Entry) (v v' : Repacks) → IsLegal site (e ∷ h) → AreRepacks site h v → repack_by h e.ask e.answer ≡ None
    → RepacksAgree v' (set_states (after_writing false e.ask) (writers v (copies_ended site h e.ask e.answer)) (set_states (after_reading false e.ask) (readers site h v (recalls_ended site h e e.ask e.answer)) v)) → AreRepacks site (e ∷ h) v'
sets_move site h e v v' legal is none c =
    repacks_stand site h e v' (λ id old. told id ∙ old_repack site h e v id legal is) (told (length h + 1) ∙ ap (option_map (with_items (turned_item site h e v (length h + 1)))) (is (length h + 1) ∙ none_repacked site h) ∙ sym none)
  where
    told : (id : ℕ) → repack_in v' id ≡ option_map (with_items (turned_item site h e v id)) (repack_in v id)
    told id =
        c id ∙ sets_are (after_writing false e.ask) id (writers v (copies_ended site h e.ask e.answer)) (set_states (after_reading false e.ask) (readers site h v (recalls_ended site h e e.ask e.answer)) v)
        ∙ ap (option_map (with_items (all_set (after_writing false e.ask) id (writers v (copies_ended site h e.ask e.answer))))) (sets_are (after_reading false e.ask) id (readers site h v (recalls_ended site h e e.ask e.answer)) v)
        ∙ items_twice (all_set (after_writing false e.ask) id (writers v (copies_ended site h e.ask e.answer))) (all_set (after_reading false e.ask) id (readers site h v (recalls_ended site h e e.ask e.answer))) (repack_in v id)

-- ---- Repack

added_item : Job → RepackCopy
added_item j = record { file = j.file; copy = j.copy; state = item.Reading }

new_repack : (site : Site) (h : History) (jobs js : List Job) → AllOf (λ (j : Job). has_copy j.file j.copy jobs ≡ true) js → map (all_set item.Writing (length h + 1) (items_here h (length h + 1) jobs)) (map added_item js) ≡ map (new_item h) js
unfolding added_item
new_repack site h jobs [] all = refl
new_repack site h jobs (j ∷ js) all =
    rw (new_repack site h jobs js all.1)
    (ap (λ (i : RepackCopy). i ∷ map (new_item h) js)
    (set_live item.Writing (length h + 1) (items_here h (length h + 1) jobs) (added_item j) refl
    ∙ ap (λ (b : Bool). if b then record (added_item j) { state = item.Writing } else added_item j) called
    ∙ if_state (is_resident h j.file) (added_item j) item.Writing item.Reading refl))
  where
    called : has_target (length h + 1) j.file j.copy (items_here h (length h + 1) jobs) ≡ is_resident h j.file
    called =
        here_hit h (length h + 1) (length h + 1) j.file j.copy jobs
        ∙ rw (eq-eqb (length h + 1) (length h + 1) refl, all.0) (and_true (is_resident h j.file))

repack_moves : (site : Site) (h : History) (e : Entry) (who : Who) (t id : ℕ) (jobs : Listed Job) (v v' : Repacks) → IsLegal site (e ∷ h) → e.ask ≡ ask.Repack who t → e.answer ≡ answer.Repacking id jobs → AreRepacks site h v
    → RepacksAgree v' (set_states item.Writing (items_here h (length h + 1) jobs.items) (add_repack (length h + 1) t jobs.items v)) → AreRepacks site (e ∷ h) v'
unfolding added_item
repack_moves site h e who t id jobs v v' legal ek ea is c =
    repacks_stand site h e v' (λ k old. older k old) (told (length h + 1) ∙ ap (λ (b : Bool). option_map (with_items (all_set item.Writing (length h + 1) (items_here h (length h + 1) jobs.items))) (if b then Some (record { tape = t; items = map added_item jobs.items }) else repack_in v (length h + 1))) (eq-eqb (length h + 1) (length h + 1) refl)
    ∙ ap (λ (xs : List RepackCopy). Some (record { tape = t; items = xs })) (new_repack site h jobs.items jobs.items (each_copy jobs.items))
    ∙ sym (ap (λ (k : Ask). repack_by h k e.answer) ek ∙ ap (repack_by h (ask.Repack who t)) ea))
  where
    told : (k : ℕ) → repack_in v' k ≡ option_map (with_items (all_set item.Writing k (items_here h (length h + 1) jobs.items))) (repack_in (add_repack (length h + 1) t jobs.items v) k)
    told k = c k ∙ sets_are item.Writing k (items_here h (length h + 1) jobs.items) (add_repack (length h + 1) t jobs.items v)

    older : (k : ℕ) → (length h + 1 == k) ≡ false → repack_in v' k ≡ option_map (repack_after site (e ∷ h) e.ask) (repack_of site h k)
    older k old =
        told k ∙ ap (λ (b : Bool). option_map (with_items (all_set item.Writing k (items_here h (length h + 1) jobs.items))) (if b then Some (record { tape = t; items = map added_item jobs.items }) else repack_in v k)) old
        ∙ items_same (all_set item.Writing k (items_here h (length h + 1) jobs.items)) (λ i. i) (repack_in v k) (λ i. set_miss item.Writing k (items_here h (length h + 1) jobs.items) i (here_hit h (length h + 1) k i.file i.copy jobs.items ∙ ap (λ (b : Bool). b && (is_resident h i.file && has_copy i.file i.copy jobs.items)) old))
        ∙ items_same (λ i. i) (turned_item site h e v k) (repack_in v k) (λ i. sym (stays i))
        ∙ old_repack site h e v k legal is
      where
        stays : (i : RepackCopy) → turned_item site h e v k i ≡ i
        stays i =
            ap (λ (js : List Job). all_set (after_writing false e.ask) k (writers v js) (all_set (after_reading false e.ask) k (readers site h v (recalls_ended site h e e.ask e.answer)) i)) (ap (λ (x : Ask). copies_ended site h x e.answer) ek)
            ∙ ap (λ (fs : List ℕ). all_set (after_reading false e.ask) k (readers site h v fs) i) (ap (λ (x : Ask). recalls_ended site h e x e.answer) ek)

-- ---- whatever the ask is

-- the calls for an ask that makes no repack
abbrev sets_called : Site → History → Entry → Repacks → Ask → Answer → Repacks
sets_called site h e v k a = set_states (after_writing false k) (writers v (copies_ended site h k a)) (set_states (after_reading false k) (readers site h v (recalls_ended site h e k a)) v)

sets_by : (site : Site) (h : History) (e : Entry) (v v' : Repacks) (k : Ask) (a : Answer) → IsLegal site (e ∷ h) → e.ask ≡ k → e.answer ≡ a → AreRepacks site h v → repack_by h k a ≡ None → RepacksAgree v' (sets_called site h e v k a) → AreRepacks site (e ∷ h) v'
sets_by site h e v v' k a legal ek ea is none c =
    sets_move site h e v v' legal is (ap (λ (x : Ask). repack_by h x e.answer) ek ∙ ap (repack_by h k) ea ∙ none)
    (λ id. c id ∙ sym (ap (λ (x : Ask). repack_in (sets_called site h e v x e.answer) id) ek ∙ ap (λ (y : Answer). repack_in (sets_called site h e v k y) id) ea))

repacks_step : (site : Site) (h : History) (e : Entry) (v v' : Repacks) (k : Ask) (a : Answer) → IsLegal site (e ∷ h) → e.ask ≡ k → e.answer ≡ a → AreRepacks site h v → RepacksCalled site h e k a v v' → AreRepacks site (e ∷ h) v'
repacks_step site h e v v' (ask.Repack who t) (answer.Repacking id jobs) legal ek ea is c = repack_moves site h e who t id jobs v v' legal ek ea is c
repacks_step site h e v v' (ask.Repack who t) a legal ek ea is c = sets_by site h e v v' (ask.Repack who t) a legal ek ea is refl c
repacks_step site h e v v' k a legal ek ea is c = sets_by site h e v v' k a legal ek ea is refl c

pub calls_move_repacks : CallsMoveRepacks
calls_move_repacks site h e v v' legal is c = repacks_step site h e v v' e.ask e.answer legal refl refl is c

-- ---- whether a repack is live

live_some : (t : ℕ) (o : Option Repack) → is_live_on t o ≡ true → is_some o ≡ true
live_some t None e = absurd (cc)
live_some t (Some r) e = refl

pub repacks_tell_live : RepacksTellLive
repacks_tell_live site h v t is =
    same_bool (is_live_in v t) (is_repack_live site h t)
    (λ on. there v on)
    (λ on.
    (let id = some_of (λ id. is_live_on t (repack_of site h id)) (repacks_made h) on in
    let live : is_live_on t (repack_in v id.0) ≡ true = ap (is_live_on t) (is id.0) ∙ id.1 in
    back id.0 v live (key_there v id.0 (live_some t (repack_in v id.0) live))))
  where
    there : (xs : Repacks) → list_any (λ (x : ℕ × Repack). is_live_on t (repack_in v x.0)) xs ≡ true → is_repack_live site h t ≡ true
    there [] on = absurd (cc)
    there (x ∷ xs) on =
        elim (or_cases (is_live_on t (repack_in v x.0)) _ on) [
          | inl hit ↦
              (let live : is_live_on t (repack_of site h x.0) ≡ true = ap (is_live_on t) (sym (is x.0)) ∙ hit in
              among (λ id. is_live_on t (repack_of site h id)) x.0 (repacks_made h) (repack_made site h x.0 (live_some t (repack_of site h x.0) live)) live)
          | inr rest ↦ there xs rest
        ]

    back : (id : ℕ) (xs : Repacks) → is_live_on t (repack_in v id) ≡ true → list_any (λ (x : ℕ × Repack). x.0 == id) xs ≡ true → list_any (λ (x : ℕ × Repack). is_live_on t (repack_in v x.0)) xs ≡ true
    back id [] live on = absurd (cc)
    back id (x ∷ xs) live on =
        elim (or_cases (x.0 == id) _ on) [
          | inl hit ↦ or_left (is_live_on t (repack_in v x.0)) _ (subst (λ (n : ℕ). is_live_on t (repack_in v n) ≡ true) (sym (eqb-true _ _ hit)) live)
          | inr rest ↦ or_right (is_live_on t (repack_in v x.0)) _ (back id xs live rest)
        ]
