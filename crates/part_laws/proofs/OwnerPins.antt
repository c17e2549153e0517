-- What pins a resident file, one entry after the other, owner by owner.
use Rattle.std.proofs.Common.{◌≡◌, ℕ, ◌+◌, ◌≤◌, inl, inr, List, [], ◌∷◌, Bool, true, false, ◌||◌, not, refl, sym, ◌∙◌, ap, subst, arith, length}
use Rattle.std.specs.Prelude.{Option, Some, None, is_some, is_none, option_map, if◌then◌else◌, ◌==◌, ◌&&◌}
use Rattle.std.specs.List.{list_any}
use Rattle.std.proofs.lemmas.Bool.{and_parts, eqb-true, eq-eqb}
use Rattle.cta_site.specs.declared.site.Site.{Site}
use Rattle.cta_model.specs.declared.entries.Entry.{Entry}
use Rattle.cta_model.specs.declared.asks.Ask.{Ask}
use Rattle.cta_model.specs.declared.asks.Ask.TheVariants as ask
use Rattle.cta_model.specs.declared.asks.Job.{Job}
use Rattle.cta_model.specs.declared.answers.Answer.{Answer}
use Rattle.cta_model.specs.declared.answers.Answer.TheVariants as answer
use Rattle.cta_model.specs.declared.reports.ItemState.{ItemState}
use Rattle.cta_model.specs.declared.reports.ItemState.TheVariants as item
use Rattle.cta_model.specs.declared.states.RepackCopy.{RepackCopy}
use Rattle.cta_model.specs.declared.states.RequestFile.{RequestFile}
use Rattle.cta_model.specs.History.{History, is_empty, is_number}
use Rattle.cta_model.specs.Files.{path_of}
use Rattle.cta_model.specs.Buffer.{is_resident, brings_in}
use Rattle.cta_model.specs.Mounts.{job_of}
use Rattle.cta_model.specs.Recalls.{live_recall}
use Rattle.cta_model.specs.Jobs.{archive_birth, archive_after, ends_archive}
use Rattle.cta_model.specs.RepackItems.{items_named}
use Rattle.cta_model.specs.Stages.{StageRequest, request_of}
use Rattle.cta_model.specs.Repacks.{Repack, is_live_item, new_item, after_writing, state_behind, item_after, repack_by, repack_after, repack_of}
use Rattle.cta_model.specs.Pins.{Pin, repack_pins, stage_pins}
use Rattle.cta_model.specs.Legal.{IsLegal}
use Rattle.cta_laws.specs.Pins.{some_lasts, stage_pins_by, repack_pins_by, pins_by, keeps, frees_path}
use Rattle.cta_laws.proofs.Tests.{bool_cases, or_left, or_right, or_cases}
use Rattle.cta_laws.proofs.Claims.{AllOf}
use Rattle.cta_laws.proofs.Ranges.{any_map}
use Rattle.cta_laws.proofs.Accepted.{answer_is}
use Rattle.cta_laws.specs.Asks.{AnswerIs}
use Rattle.cta_laws.proofs.Requests.{files_in, request_low}
use Rattle.cta_laws.proofs.JobFiles.{recall_absent}
use Rattle.cta_laws.proofs.JobLaw.{not_true}
use Rattle.cta_laws.proofs.RepackLaw.{ItemHas, ItemStands, items_stand, no_request, repack_low}
use Rattle.cta_laws.proofs.PinLaw.{repack_there, stage_there}
use Rattle.cta_laws.proofs.StagePins.{pins_are, stage_pins_older}
use Rattle.cta_laws.proofs.Waiting.{FileStands, files_stand}
use Rattle.part_laws.specs.Buffer.{is_file_of}
use Rattle.part_laws.specs.Held.{is_unpinned}

-- ---- the pins of repacks

-- whether an item of the file is live
abbrev pub pins_file : ℕ → RepackCopy → Bool
pins_file f i = i.file == f && is_live_item i.state

-- whether there is a repack that has a live item of the file
abbrev pub pins_some : ℕ → Option Repack → Bool
pins_some f None = false
pins_some f (Some r) = list_any (pins_file f) r.items

pins_if : (b : Bool) (p : Pin) → not (is_empty (if b then p ∷ [] else [])) ≡ b
pins_if true p = refl
pins_if false p = refl

pins_some_is : (f id : ℕ) (o : Option Repack) → not (is_empty (repack_pins f id o)) ≡ pins_some f o
pins_some_is f id None = refl
pins_some_is f id (Some r) = pins_if (list_any (pins_file f) r.items) (record { owner = id; until = None })

pub repack_pins_are : (site : Site) (h : History) (f id : ℕ) → repack_pins_by site h f id ≡ pins_some f (repack_of site h id)
repack_pins_are site h f id = pins_some_is f id (repack_of site h id)

-- an item that is live behind an entry was live before it
live_less : (site : Site) (g : History) (k : Ask) (f c : ℕ) (s : ItemState) → is_live_item (state_behind site g k f c s) ≡ true → is_live_item s ≡ true
live_less site g k f c item.Reading x = refl
live_less site g k f c item.Writing x = refl
live_less site g k f c item.Done x = x
live_less site g k f c item.Failed x = x
live_less site g k f c item.Gone x = x

any_less : (site : Site) (g : History) (k : Ask) (f : ℕ) (xs : List RepackCopy) → list_any (λ i. pins_file f (item_after site g k i)) xs ≡ true → list_any (pins_file f) xs ≡ true
any_less site g k f [] e = absurd (cc)
any_less site g k f (i ∷ xs) e =
    elim (or_cases (pins_file f (item_after site g k i)) _ e) [
      | inl hit ↦ (let p = and_parts (i.file == f) _ hit in or_left (pins_file f i) _ (rw p.0 (live_less site g k i.file i.copy i.state p.1)))
      | inr rest ↦ or_right (pins_file f i) _ (any_less site g k f xs rest)
    ]

-- a repack that pins a file behind an entry pinned it before, or is the entry's own
pub repack_less : (site : Site) (h : History) (e : Entry) (f id : ℕ) → (length h + 1 == id) ≡ false → repack_pins_by site (e ∷ h) f id ≡ true → repack_pins_by site h f id ≡ true
repack_less site h e f id old on = repack_pins_are site h f id ∙ by (repack_of site h id) (sym (repack_pins_are site (e ∷ h) f id ∙ rw old refl) ∙ on)
  where
    by : (o : Option Repack) → pins_some f (option_map (repack_after site (e ∷ h) e.ask) o) ≡ true → pins_some f o ≡ true
    by None x = absurd (cc)
    by (Some r) x = any_less site (e ∷ h) e.ask f r.items (sym (any_map (pins_file f) (item_after site (e ∷ h) e.ask) r.items) ∙ x)

-- where an entry ends no archive job of a resident file, its live items stay
still_some : (site : Site) (h : History) (e : Entry) (f c : ℕ) (o : Option ℕ) → is_some o ≡ true → ((b : ℕ) → ends_archive site h e.ask e.answer (job_of b f c) ≡ false) → is_some (archive_after site h e f c o) ≡ true
still_some site h e f c None some ends = absurd (cc)
still_some site h e f c (Some b) some ends = ap (λ (x : Bool). is_some (if x then None else Some b)) (ends b)

state_stays : (site : Site) (h : History) (e : Entry) (id f c : ℕ) (s : ItemState) → is_some (live_recall site h f) ≡ false → ItemHas site h id f c s → ((b : ℕ) → ends_archive site h e.ask e.answer (job_of b f c) ≡ false) → is_live_item (state_behind site (e ∷ h) e.ask f c s) ≡ is_live_item s
state_stays site h e id f c item.Reading none has ends = (let bad : is_some (live_recall site h f) ≡ true = ap is_some has.1 in absurd (cc))
state_stays site h e id f c item.Writing none has ends = ap (λ (b : Bool). is_live_item (after_writing b e.ask)) (still_some site h e f c (archive_birth site h f c) has ends)
state_stays site h e id f c item.Done none has ends = refl
state_stays site h e id f c item.Failed none has ends = refl
state_stays site h e id f c item.Gone none has ends = refl

any_stays : (site : Site) (h : History) (e : Entry) (f id : ℕ) (xs : List RepackCopy) → AllOf (ItemStands site h id) xs → is_some (live_recall site h f) ≡ false → ((c b : ℕ) → ends_archive site h e.ask e.answer (job_of b f c) ≡ false) → list_any (λ i. pins_file f (item_after site (e ∷ h) e.ask i)) xs ≡ list_any (pins_file f) xs
any_stays site h e f id [] all none ends = refl
any_stays site h e f id (i ∷ xs) all none ends = rw (any_stays site h e f id xs all.1 none ends) (ap (λ (b : Bool). b || list_any (pins_file f) xs) here)
  where
    here : pins_file f (item_after site (e ∷ h) e.ask i) ≡ pins_file f i
    here =
        elim (bool_cases (i.file == f)) [
          | inr miss ↦ rw miss refl
          | inl hit ↦
              (let same : i.file ≡ f = eqb-true _ _ hit in
              let stays : is_live_item (state_behind site (e ∷ h) e.ask i.file i.copy i.state) ≡ is_live_item i.state = state_stays site h e id i.file i.copy i.state (ap (λ (n : ℕ). is_some (live_recall site h n)) same ∙ none) all.0.has (λ b. ap (λ (n : ℕ). ends_archive site h e.ask e.answer (job_of b n i.copy)) same ∙ ends i.copy b) in
              ap (λ (b : Bool). i.file == f && b) stays)
        ]

no_recall : (site : Site) (h : History) → IsLegal site h → (f : ℕ) → is_resident h f ≡ true → is_some (live_recall site h f) ≡ false
no_recall site h legal f here = not_true (is_some (live_recall site h f)) (λ on. (let away : is_resident h f ≡ false = recall_absent site h legal f on in absurd (cc)))

pub repack_stays : (site : Site) (h : History) (e : Entry) (f id : ℕ) → IsLegal site (e ∷ h) → (length h + 1 == id) ≡ false → is_resident h f ≡ true → ((c b : ℕ) → ends_archive site h e.ask e.answer (job_of b f c) ≡ false) → repack_pins_by site (e ∷ h) f id ≡ repack_pins_by site h f id
repack_stays site h e f id legal old here ends = repack_pins_are site (e ∷ h) f id ∙ rw old (by (repack_of site h id) refl) ∙ sym (repack_pins_are site h f id)
  where
    by : (o : Option Repack) → repack_of site h id ≡ o → pins_some f (option_map (repack_after site (e ∷ h) e.ask) o) ≡ pins_some f o
    by None is = refl
    by (Some r) is = any_map (pins_file f) (item_after site (e ∷ h) e.ask) r.items ∙ any_stays site h e f id r.items (items_stand site h legal.0 id r is) (no_recall site h legal.0 f here) ends

-- a new repack pins the file of each of its items
pub repack_new : (site : Site) (h : History) (e : Entry) (f : ℕ) → repack_pins_by site (e ∷ h) f (length h + 1) ≡ is_file_of f (items_named e.ask e.answer)
repack_new site h e f = repack_pins_are site (e ∷ h) f (length h + 1) ∙ rw (eq-eqb (length h + 1) (length h + 1) refl) (by e.ask e.answer)
  where
    alive : (b : Bool) → is_live_item (if b then item.Writing else item.Reading) ≡ true
    alive true = refl
    alive false = refl

    and_true : (a b : Bool) → b ≡ true → (a && b) ≡ a
    and_true true b e = e
    and_true false b e = refl

    all : (js : List Job) → list_any (λ j. pins_file f (new_item h j)) js ≡ is_file_of f js
    all [] = refl
    all (j ∷ js) = rw (and_true (j.file == f) (is_live_item (if is_resident h j.file then item.Writing else item.Reading)) (alive (is_resident h j.file)), all js) refl

    by : (k : Ask) (a : Answer) → pins_some f (repack_by h k a) ≡ is_file_of f (items_named k a)
    by (ask.Repack who v) (answer.Repacking id items) = any_map (pins_file f) (new_item h) items.items ∙ all items.items
    by (ask.Repack who v) _ = refl
    by _ a = refl

-- ---- an owner is a request or a repack

pub none_frees : (site : Site) (h : History) (t : ℕ) (k : Ask) (a : Answer) (id : ℕ) (path : List ℕ) → AnswerIs site h t k a → request_of site h id ≡ None → frees_path k id path ≡ false
none_frees site h t (ask.Release who k paths) a id path is none =
    elim (bool_cases (k == id)) [
      | inl hit ↦ (let bad : is_some (request_of site h id) ≡ true = subst (λ (n : ℕ). is_some (request_of site h n) ≡ true) (eqb-true k id hit) is.1 in let worse : is_some (request_of site h id) ≡ false = ap is_some none in absurd (cc))
      | inr miss ↦ rw miss refl
    ]
none_frees site h t (ask.DropStage who k) a id path is none =
    elim (bool_cases (k == id)) [
      | inl hit ↦ (let bad : is_none (request_of site h id) ≡ false = subst (λ (n : ℕ). is_none (request_of site h n) ≡ false) (eqb-true k id hit) is.1 in let worse : is_none (request_of site h id) ≡ true = ap is_none none in absurd (cc))
      | inr miss ↦ miss
    ]
none_frees site h t _ a id path is none = refl

-- what pins as a repack is no request, and nobody frees a path of it
pub one_kind : (site : Site) (h : History) (f id : ℕ) → repack_pins_by site h f id ≡ true → request_of site h id ≡ None
one_kind site h f id on = no_request site h id (repack_there f id (repack_of site h id) on)

-- ---- the pins of an older owner

older_bools : (s r r' x : Bool) → (r ≡ true → (s ≡ false) × (x ≡ false)) → (r' ≡ true → r ≡ true) → ((not x && s) || r') ≡ ((s || r) && (not x && not (r && not r')))
older_bools s true true x one less = (let o = one refl in rw (o.0, o.1) refl)
older_bools s true false x one less = (let o = one refl in rw (o.0, o.1) refl)
older_bools s false true x one less = (let bad : false ≡ true = less refl in absurd (cc))
older_bools true false false true one less = refl
older_bools true false false false one less = refl
older_bools false false false true one less = refl
older_bools false false false false one less = refl

-- an older owner pins a file that the entry does not bring in as before, unless its path is freed or its last live item has ended
pub pins_older : (site : Site) (h : History) (e : Entry) (t f id : ℕ) → IsLegal site (e ∷ h) → (length h + 1 == id) ≡ false → brings_in e.ask e.answer (length h + 1) f ≡ false → pins_by site (e ∷ h) t f id ≡ (pins_by site h t f id && (not (frees_path e.ask id (path_of h f)) && not (is_unpinned site h e f id)))
pins_older site h e t f id legal old out =
    ap (λ (b : Bool). b || repack_pins_by site (e ∷ h) f id) (stage_pins_older site h e t f id legal old out)
    ∙ older_bools (stage_pins_by site h t f id) (repack_pins_by site h f id) (repack_pins_by site (e ∷ h) f id) (frees_path e.ask id (path_of h f))
    (λ on.
    (let none : request_of site h id ≡ None = one_kind site h f id on in
    (ap (λ (o : Option StageRequest). some_lasts t (stage_pins f id o)) none, none_frees site h _ e.ask e.answer id (path_of h f) (answer_is site h e.at e.ask e.answer legal.1.answered legal.1.accepted) none)))
    (λ on. repack_less site h e f id old on)

-- ---- owners and files that are yet to come

pub none_yet : (site : Site) (h : History) (t f : ℕ) → pins_by site h t f (length h + 1) ≡ false
none_yet site h t f =
    not_true (pins_by site h t f (length h + 1)) (λ on. elim (or_cases (stage_pins_by site h t f (length h + 1)) _ on) [
      | inl s ↦ (let low : length h + 1 ≤ length h = (request_low site h (length h + 1) (stage_there t f (length h + 1) (request_of site h (length h + 1)) s)).1 in absurd (omega arith))
      | inr r ↦ (let low : length h + 1 ≤ length h = repack_low site h (length h + 1) (repack_there f (length h + 1) (repack_of site h (length h + 1)) r) in absurd (omega arith))
    ])

file_bound : (site : Site) (h : History) (id t f : ℕ) (ss : List RequestFile) → AllOf (FileStands site h id) ss → list_any (keeps t f) ss ≡ true → f ≤ length h
file_bound site h id t f [] all e = absurd (cc)
file_bound site h id t f (s ∷ ss) all e =
    elim (or_cases (keeps t f s) _ e) [
      | inl hit ↦ (all.0.named f (some_number s.file (and_parts (is_number f s.file) _ (and_parts (is_number f s.file && _) _ hit).0).0)).0
      | inr rest ↦ file_bound site h id t f ss all.1 rest
    ]
  where
    some_number : (o : Option ℕ) → is_number f o ≡ true → o ≡ Some f
    some_number None x = absurd (cc)
    some_number (Some g) x = ap (λ (n : ℕ). Some n) (sym (eqb-true f g x))

item_bound : (site : Site) (h : History) (id f : ℕ) (xs : List RepackCopy) → AllOf (ItemStands site h id) xs → list_any (pins_file f) xs ≡ true → f ≤ length h
item_bound site h id f [] all e = absurd (cc)
item_bound site h id f (i ∷ xs) all e =
    elim (or_cases (pins_file f i) _ e)
    [ inl hit ↦ (let same : i.file ≡ f = eqb-true _ _ (and_parts (i.file == f) _ hit).0 in subst (λ (n : ℕ). n ≤ length h) same all.0.low) | inr rest ↦ item_bound site h id f xs all.1 rest ]

-- what is pinned is a file of the history
pub pinned_low : (site : Site) (h : History) (t f id : ℕ) → IsLegal site h → pins_by site h t f id ≡ true → f ≤ length h
pinned_low site h t f id legal on =
    elim (or_cases (stage_pins_by site h t f id) _ on) [ inl s ↦ staged (request_of site h id) refl (sym (pins_are t f id (request_of site h id)) ∙ s) | inr r ↦ repacked (repack_of site h id) refl (sym (repack_pins_are site h f id) ∙ r) ]
  where
    staged : (o : Option StageRequest) → request_of site h id ≡ o → list_any (keeps t f) (files_in o) ≡ true → f ≤ length h
    staged None is e = absurd (cc)
    staged (Some q) is e = file_bound site h id t f q.files (files_stand site h legal id q is) e

    repacked : (o : Option Repack) → repack_of site h id ≡ o → pins_some f o ≡ true → f ≤ length h
    repacked None is e = absurd (cc)
    repacked (Some r) is e = item_bound site h id f r.items (items_stand site h legal id r is) e
