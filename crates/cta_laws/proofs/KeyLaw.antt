-- A live job has a key.
use Rattle.std.proofs.Common.{◌≡◌, ℕ, zero, suc, ◌+◌, ◌≤◌, ◌<◌, ◌⊎◌, inl, inr, List, [], ◌∷◌, ◌++◌, Bool, true, false, ◌&&◌, not, refl, sym, ◌∙◌, ap, subst, arith, length}
use Rattle.std.specs.Prelude.{Option, Some, None, is_some, option_map, slice_get, ◌%◌, ◌==◌, filter, find, nat_le, nat_lt}
use Rattle.std.specs.List.{list_any, range_with_len}
use Rattle.std.proofs.lemmas.Bool.{and_parts, eqb-true}
use Rattle.std.proofs.lemmas.Nat.{mod_below}
use Rattle.std.proofs.lemmas.Option.{slice_get-get_or}
use Rattle.cta_site.specs.declared.site.Site.{Site}
use Rattle.cta_site.specs.declared.site.TapeState.{TapeState}
use Rattle.cta_site.specs.declared.site.TapeState.TheVariants as state
use Rattle.cta_site.specs.Lookups.{class_of, copies_of, copies_of_class, pool_of, pool_of_tape}
use Rattle.cta_model.specs.declared.entries.Entry.{Entry}
use Rattle.cta_model.specs.declared.asks.Ask.{Ask}
use Rattle.cta_model.specs.declared.asks.Ask.TheVariants as ask
use Rattle.cta_model.specs.declared.asks.Direction.{Direction}
use Rattle.cta_model.specs.declared.asks.Direction.TheVariants as direction
use Rattle.cta_model.specs.declared.answers.Answer.{Answer}
use Rattle.cta_model.specs.declared.answers.Answer.TheVariants as answer
use Rattle.cta_model.specs.declared.answers.Refusal.TheVariants as refusal
use Rattle.cta_model.specs.declared.asks.Job.{Job}
use Rattle.cta_model.specs.declared.states.Mount.{Mount}
use Rattle.cta_model.specs.declared.states.Place.{Place}
use Rattle.cta_model.specs.History.{History, has_number, is_number, is_empty}
use Rattle.cta_model.specs.Files.{is_live, path_of, copies_of_file, copy_numbers}
use Rattle.cta_model.specs.Mounts.{mount_of, mount_in, asked_mount, tape_by, tape_of_mount, is_open, is_mounted, last_batch, item_jobs}
use Rattle.cta_model.specs.Tapes.{tape_state, state_after, is_broken, may_be_written, may_be_read, used_bytes}
use Rattle.cta_model.specs.Places.{place_of, places_of, all_places, last_flushed, fseq_after, flushed_in}
use Rattle.cta_model.specs.Charges.{charges_of}
use Rattle.cta_model.specs.Buffer.{is_resident}
use Rattle.cta_model.specs.Recalls.{Recall, live_recall, recall_after, recall_goes_on, bears_recall, waits_for}
use Rattle.cta_model.specs.Jobs.{live_birth, is_live_job}
use Rattle.cta_model.specs.Queues.{key_of, key_by, sources_of, or_else}
use Rattle.cta_model.specs.Choice.{tape_for, may_write_on, may_read_from, all_tapes, mount_choice}
use Rattle.cta_model.specs.Answers.{refuse, answer_of, is_accepted, is_too_heavy, is_known, is_last_batch, on_free_tape}
use Rattle.cta_model.specs.Legal.{IsLegal, IsNext, IsFit, IsMountOf}
use Rattle.cta_laws.specs.Jobs.{RecallKeyIsTape}
use Rattle.cta_laws.proofs.Tests.{bool_cases, or_left, or_right, or_cases}
use Rattle.cta_laws.proofs.OpenMounts.{mount_older, mount_newest, open_older}
use Rattle.cta_laws.proofs.Claims.{AllOf, all_filter}
use Rattle.cta_laws.proofs.QuotaLaw.{choice_all, or_found, Chosen, choice_at}
use Rattle.cta_laws.proofs.PlaceLaw.{flushed_known, place_cases, path_older, live_place, named_within}
use Rattle.cta_laws.proofs.ResidentLaw.{recall_live, born_live, not_some, birth_some}
use Rattle.cta_laws.proofs.MountLaw.{opened, tape_is_mounted}
use Rattle.cta_laws.proofs.Ranges.{any_filter_map, all_filter_map, any_in_range, some_in_range, range_all, is_some_where}
use Rattle.cta_laws.proofs.RangeLaw.{job_range}
use Rattle.cta_laws.proofs.StandLaw.{found}

-- ---- a mounted tape is not BROKEN

-- a tape that is mounted this way: it is not BROKEN, and where it is written it is one of the site
abbrev pub IsGood : Site → History → Direction → ℕ → Type 0
IsGood site h way v = (is_broken (tape_state site h v) ≡ false) × (way ≡ direction.Archive → v < length site.tapes.items)

pub written_whole : (s : TapeState) → may_be_written s ≡ true → is_broken s ≡ false
written_whole state.Active e = refl
written_whole _ e = absurd (cc)

pub read_whole : (s : TapeState) → may_be_read s ≡ true → is_broken s ≡ false
read_whole state.Active e = refl
read_whole state.Repacking e = refl
read_whole _ e = absurd (cc)

pub range_low : (v a n : ℕ) → has_number v (range_with_len a n) ≡ true → v < a + n
range_low v a zero e = absurd (cc)
range_low v a (suc n) e =
    elim (or_cases (v == a) (has_number v (range_with_len (a + 1) n)) e) [
      | inl hit ↦ (let same : v ≡ a = eqb-true v a hit in omega arith)
      | inr rest ↦ (let low : v < (a + 1) + n = range_low v (a + 1) n rest in omega arith)
    ]

pub write_good : (site : Site) (h : History) (d key : ℕ) (q : List Job) (v : ℕ) → may_write_on site h d key q v ≡ true → has_number v (all_tapes site) ≡ true → IsGood site h direction.Archive v
write_good site h d key q v w there = (
  written_whole (tape_state site h v) (and_parts (may_be_written (tape_state site h v)) _ (and_parts (pool_of_tape site v == key) _ w).1).0,
  λ way. (let low : v < 0 + length site.tapes.items = range_low v 0 (length site.tapes.items) there in omega arith),
)

pub tape_good : (site : Site) (h : History) (t d : ℕ) (way : Direction) (key : ℕ) (q : List Job) (v : ℕ) → tape_for site h t d way key q ≡ Some v → IsGood site h way v
tape_good site h t d direction.Archive key q v = λ e.
    elim (or_found (find (λ u. nat_lt 0 (used_bytes h u) && may_write_on site h d key q u) (all_tapes site)) (find (may_write_on site h d key q) (all_tapes site)) v e) [
      | inl a ↦
          (let x : (has_number v (all_tapes site) ≡ true) × ((nat_lt 0 (used_bytes h v) && may_write_on site h d key q v) ≡ true) = found (λ u. nat_lt 0 (used_bytes h u) && may_write_on site h d key q u) (all_tapes site) v a in
          write_good site h d key q v (and_parts (nat_lt 0 (used_bytes h v)) _ x.1).1 x.0)
      | inr a ↦
          (let x : (has_number v (all_tapes site) ≡ true) × (may_write_on site h d key q v ≡ true) = found (may_write_on site h d key q) (all_tapes site) v a in
          write_good site h d key q v x.1 x.0)
    ]
tape_good site h t d direction.Retrieve key q v = λ e.
    elim (bool_cases (may_read_from site h t d q key)) [
      | inl may ↦
          (let there : Some key ≡ Some v = rw may at e in
          let same : key ≡ v = cc in
          let whole : is_broken (tape_state site h key) ≡ false = read_whole (tape_state site h key) (and_parts (may_be_read (tape_state site h key)) _ may).0 in
          (subst (λ (u : ℕ). is_broken (tape_state site h u) ≡ false) same whole, λ way. absurd (cc)))
      | inr miss ↦ (let there : None ≡ Some v = rw miss at e in absurd (cc))
    ]

pub mounted_good : (site : Site) (h : History) (e : Entry) (d m : ℕ) (w : Direction) (v : ℕ) → IsNext site h e → e.ask ≡ ask.Next d → e.answer ≡ answer.Mounted m w v → IsGood site h w v
mounted_good site h e d m w v next ek ea =
    let chosen : Chosen (mount_choice site h e.at d) (length h + 1) e.answer = choice_at site h e d next ek in
    let same : answer.Mounted (length h + 1) chosen.0.direction chosen.0.tape ≡ answer.Mounted m w v = sym chosen.2 ∙ ea in
    let ways : chosen.0.direction ≡ w = cc in
    let tapes : chosen.0.tape ≡ v = cc in
    let good : IsGood site h chosen.0.direction chosen.0.tape = choice_all (λ way u. IsGood site h way u) site h e.at d (tape_good site h e.at d) chosen.0 chosen.1 in
    subst (λ (u : ℕ). IsGood site h w u) tapes (subst (λ (x : Direction). IsGood site h x chosen.0.tape) ways good)

pub no_mount : Mount
no_mount = record { drive = 0; direction = direction.Archive; tape = 0 }

pub mount_or : Option Mount → Mount
mount_or None = no_mount
mount_or (Some x) = x

pub same_mount : (x y : Mount) → Some x ≡ Some y → x ≡ y
unfolding mount_or
same_mount x y e = ap mount_or e

pub good_by : (site : Site) (h : History) (e : Entry) (way : Direction) (v : ℕ) → tape_state site (e ∷ h) v ≡ tape_state site h v → IsGood site h way v → IsGood site (e ∷ h) way v
good_by site h e way v same good = (subst (λ (s : TapeState). is_broken s ≡ false) (sym same) good.0, good.1)

pub new_good : (site : Site) (h : History) (e : Entry) (x : Mount) (k : Ask) (a : Answer) → e.ask ≡ k → e.answer ≡ a → IsNext site h e → mount_in k a ≡ Some x → IsGood site (e ∷ h) x.direction x.tape
new_good site h e x (ask.Next d) (answer.Mounted m w v) ek ea next is =
    let good : IsGood site (e ∷ h) w v = good_by site h e w v (ap (λ (k : Ask). state_after k v (tape_state site h v)) ek) (mounted_good site h e d m w v next ek ea) in
    subst (λ (y : Mount). IsGood site (e ∷ h) y.direction y.tape) (same_mount (record { drive = d; direction = w; tape = v }) x is) good
new_good site h e x _ a ek ea next is = absurd (cc)

pub unmounted_by : (heavy none mounted broken : Bool) (a : Answer) → a ≡ refuse refusal.HistoryFull heavy (refuse refusal.NoTape none (refuse refusal.TapeMounted mounted (refuse refusal.TapeBroken broken answer.Done))) → is_accepted a ≡ true → mounted ≡ false
unmounted_by true none mounted broken a e y = absurd (cc)
unmounted_by false true mounted broken a e y = absurd (cc)
unmounted_by false false true broken a e y = absurd (cc)
unmounted_by false false false broken a e y = refl

-- a mounted tape keeps its state
pub state_kept : (site : Site) (h : History) (t : ℕ) (k : Ask) (a : Answer) (v : ℕ) → a ≡ answer_of site h t k → is_accepted a ≡ true → is_mounted h v ≡ true → state_after k v (tape_state site h v) ≡ tape_state site h v
state_kept site h t (ask.TapeState who u s) a v is y up =
    elim (bool_cases (u == v)) [
      | inl hit ↦
          (let free : is_mounted h u ≡ false = unmounted_by (is_too_heavy site h (ask.TapeState who u s) (on_free_tape site h u answer.Done)) (nat_le (length site.tapes.items) u) (is_mounted h u) (is_broken (tape_state site h u)) a is y in
          let here : is_mounted h v ≡ false = subst (λ (x : ℕ). is_mounted h x ≡ false) (eqb-true u v hit) free in
          absurd (cc))
      | inr miss ↦ rw miss refl
    ]
state_kept site h t _ a v is y up = refl

abbrev pub OpenIsGood : Site → History → ℕ → Type 0
OpenIsGood site h m = (x : Mount) × (mount_of h m ≡ Some x) × IsGood site h x.direction x.tape

pub open_good : (site : Site) (h : History) → IsLegal site h → (m : ℕ) → is_open h m ≡ true → OpenIsGood site h m
open_good site [] legal m op = absurd (cc)
open_good site (e ∷ h) legal m op =
    elim (opened site h e m e.ask e.answer refl refl legal.1 op) [
      | inl old ↦
          (let x : OpenIsGood site h m = open_good site h legal.0 m old in
          let up : is_mounted h x.0.tape ≡ true = subst (λ (v : ℕ). is_mounted h v ≡ true) (ap tape_by x.1) (tape_is_mounted site h legal.0 m old) in
          (x.0, mount_older e h m (open_older h m old) ∙ x.1, good_by site h e x.0.direction x.0.tape (state_kept site h e.at e.ask e.answer x.0.tape legal.1.answered legal.1.accepted up) x.2))
      | inr new ↦ (new.1.0, ap (mount_of (e ∷ h)) new.0 ∙ mount_newest e h ∙ new.1.1, new_good site h e new.1.0 e.ask e.answer refl refl legal.1 new.1.1)
    ]

-- ---- where a Flushed puts a copy

pub way_of : (o : Option Mount) (x : Mount) → o ≡ Some x → IsMountOf direction.Archive o → x.direction ≡ direction.Archive
way_of o x is way = subst (λ (p : Option Mount). IsMountOf direction.Archive p) is way

pub put_good : (site : Site) (h : History) → IsLegal site h → (t f c s : ℕ) (k : Ask) (a : Answer) → a ≡ answer_of site h t k → is_accepted a ≡ true → IsFit site h k → fseq_after (flushed_in k a) f c None ≡ Some s → (is_broken (tape_state site h (tape_of_mount h (asked_mount k))) ≡ false) × (tape_of_mount h (asked_mount k) < length site.tapes.items)
put_good site h legal t f c s (ask.Flushed m items) (answer.Told fates) is y fit e =
    let known : (is_known h m (item_jobs items.items) ≡ true) × (is_last_batch (last_batch h m) items.items ≡ true) = flushed_known site h t m items (answer.Told fates) is y in
    let x : OpenIsGood site h m = open_good site h legal m (and_parts (is_open h m) _ known.0).0 in
    let tape : tape_of_mount h m ≡ x.0.tape = ap tape_by x.1 in
    subst (λ (v : ℕ). (is_broken (tape_state site h v) ≡ false) × (v < length site.tapes.items)) (sym tape) (x.2.0, x.2.1 (way_of (mount_of h m) x.0 x.1 fit))
put_good site h legal t f c s _ a is y fit e = absurd (cc)

-- each copy was flushed on a tape of the site
pub flushed_tape : (site : Site) (h : History) → IsLegal site h → (f c : ℕ) (p : Place) → last_flushed h f c ≡ Some p → p.tape < length site.tapes.items
flushed_tape site [] legal f c p is = absurd (cc)
flushed_tape site (e ∷ h) legal f c p is =
    elim (place_cases c (tape_of_mount h (asked_mount e.ask)) (fseq_after (flushed_in e.ask e.answer) f c None) (last_flushed h f c) p is) [
      | inl new ↦ subst (λ (v : ℕ). v < length site.tapes.items) new.1 (put_good site h legal.0 e.at f c p.fseq e.ask e.answer legal.1.answered legal.1.accepted legal.1.fit new.0).1
      | inr old ↦ flushed_tape site h legal.0 f c p old.1
    ]

-- ---- the file of a live recall has a place

abbrev pub is_whole : Site → History → Place → Bool
is_whole site h p = not (is_broken (tape_state site h p.tape))

abbrev pub HasPlace : Site → History → ℕ → Type 0
HasPlace site h f = (c : ℕ) × (p : Place) × (1 ≤ c) × (c ≤ copies_of_file site h f) × (place_of h f c ≡ Some p) × (is_whole site h p ≡ true)

pub some_filter : (test : Place → Bool) (xs : List Place) → list_any test xs ≡ true → is_empty (filter test xs) ≡ false
some_filter test [] e = absurd (cc)
some_filter test (x ∷ xs) e = elim (bool_cases (test x)) [ inl hit ↦ rw hit refl | inr miss ↦ rw miss (some_filter test xs (rw miss at e)) ]

pub filter_some : (test : Place → Bool) (xs : List Place) → is_empty (filter test xs) ≡ false → list_any test xs ≡ true
filter_some test [] e = absurd (cc)
filter_some test (x ∷ xs) e = elim (bool_cases (test x)) [ inl hit ↦ or_left (test x) _ hit | inr miss ↦ or_right (test x) _ (filter_some test xs (rw miss at e)) ]

pub any_split : (test : Place → Bool) (xs ys : List Place) → list_any test (xs ++ ys) ≡ true → (list_any test xs ≡ true) ⊎ (list_any test ys ≡ true)
any_split test [] ys e = inr e
any_split test (x ∷ xs) ys e =
    elim (or_cases (test x) (list_any test (xs ++ ys)) e)
    [ inl a ↦ inl (or_left (test x) _ a) | inr b ↦ elim (any_split test xs ys b) [ inl c ↦ inl (or_right (test x) _ c) | inr c ↦ inr c ] ]

pub place_any : (test : Place → Bool) (site : Site) (h : History) (f c : ℕ) (p : Place) → 1 ≤ c → c ≤ copies_of_file site h f → place_of h f c ≡ Some p → test p ≡ true → list_any test (all_places site h f) ≡ true
place_any test site h f c p low high is e =
    any_filter_map test (place_of h f) (copy_numbers site h f)
    ∙ any_in_range (λ k. is_some_where test (place_of h f k)) 1 (copies_of_file site h f) c low (omega arith) (ap (is_some_where test) is ∙ e)

pub one_place : (test : Place → Bool) (o : Option Place) → is_some_where test o ≡ true → (p : Place) × (o ≡ Some p) × (test p ≡ true)
one_place test None e = absurd (cc)
one_place test (Some p) e = (p, refl, e)

pub any_place : (test : Place → Bool) (site : Site) (h : History) (f : ℕ) → list_any test (all_places site h f) ≡ true → (c : ℕ) × (p : Place) × (1 ≤ c) × (c ≤ copies_of_file site h f) × (place_of h f c ≡ Some p) × (test p ≡ true)
any_place test site h f e =
    let c = some_in_range (λ k. is_some_where test (place_of h f k)) 1 (copies_of_file site h f) (sym (any_filter_map test (place_of h f) (copy_numbers site h f)) ∙ e) in
    let p = one_place test (place_of h f c.0) c.3 in
    (c.0, p.0, c.1, omega (arith, c.2), p.1, p.2)

pub place_there : (site : Site) (h : History) (f : ℕ) → is_empty (places_of site h f) ≡ false → HasPlace site h f
place_there site h f some = any_place (is_whole site h) site h f (filter_some (is_whole site h) (all_places site h f) some)

pub there_some : (site : Site) (h : History) (f : ℕ) → HasPlace site h f → is_empty (places_of site h f) ≡ false
there_some site h f x = some_filter (is_whole site h) (all_places site h f) (place_any (is_whole site h) site h f x.0 x.1 x.2 x.3 x.4 x.5)

pub not_whole : (b : Bool) → not b ≡ true → b ≡ false
not_whole true y = absurd (cc)
not_whole false y = refl

-- a place stays, or a new one comes, on a tape that is not BROKEN
pub keeps_place : (site : Site) (h : History) (e : Entry) (f : ℕ) → IsLegal site (e ∷ h) → ((v : ℕ) → tape_state site (e ∷ h) v ≡ tape_state site h v) → is_live h f ≡ true → is_live (e ∷ h) f ≡ true → HasPlace site h f → HasPlace site (e ∷ h) f
keeps_place site h e f legal states was live x =
    let low : f ≤ length h = (named_within h f (path_of h f) was).1 in
    let copies : copies_of_file site (e ∷ h) f ≡ copies_of_file site h f = ap (copies_of site) (path_older e h f low) in
    let fits : x.0 ≤ copies_of_file site (e ∷ h) f = subst (λ (n : ℕ). x.0 ≤ n) (sym copies) x.3 in
    let old : last_flushed h f x.0 ≡ Some x.1 = (live_place h f x.0 x.1 x.4).1 in
    after (fseq_after (flushed_in e.ask e.answer) f x.0 None) refl live fits old
  where
    whole : (p : Place) → is_broken (tape_state site h p.tape) ≡ false → is_whole site (e ∷ h) p ≡ true
    whole p b = rw (states p.tape, b) refl

    after : (o : Option ℕ) → fseq_after (flushed_in e.ask e.answer) f x.0 None ≡ o → is_live (e ∷ h) f ≡ true → x.0 ≤ copies_of_file site (e ∷ h) f → last_flushed h f x.0 ≡ Some x.1 → HasPlace site (e ∷ h) f
    after None is live fits old = (x.0, x.1, x.2, fits, rw (live, is) old, whole x.1 (not_whole (is_broken (tape_state site h x.1.tape)) x.5))
    after (Some s) is live fits old = (x.0, record { copy = x.0; tape = tape_of_mount h (asked_mount e.ask); fseq = s }, x.2, fits, rw (live, is) refl, whole (record { copy = x.0; tape = tape_of_mount h (asked_mount e.ask); fseq = s }) (put_good site h legal.0 e.at f x.0 s e.ask e.answer legal.1.answered legal.1.accepted legal.1.fit is).0)

pub goes_place : (site : Site) (h : History) (e : Entry) (f : ℕ) (r : Recall) (k : Ask) (a : Answer) → IsLegal site (e ∷ h) → e.ask ≡ k → is_live h f ≡ true → is_live (e ∷ h) f ≡ true → is_empty (places_of site h f) ≡ false → is_some (recall_goes_on site h e f r k a) ≡ true → is_empty (places_of site (e ∷ h) f) ≡ false
goes_place site h e f r (ask.TapeState who v s) a legal ek was live some on = not_some (is_empty (places_of site (e ∷ h) f)) r on
goes_place site h e f r k a legal ek was live some on = there_some site (e ∷ h) f (keeps_place site h e f legal (λ v. ap (λ (x : Ask). state_after x v (tape_state site h v)) ek) was live (place_there site h f some))

pub born_place : (site : Site) (h : History) (e : Entry) (f : ℕ) (k : Ask) → IsLegal site (e ∷ h) → e.ask ≡ k → is_live h f ≡ true → is_live (e ∷ h) f ≡ true → bears_recall site h k f ≡ true → is_empty (places_of site (e ∷ h) f) ≡ false
born_place site h e f (ask.TapeState who v s) legal ek was live b = absurd (cc)
born_place site h e f k legal ek was live b =
    there_some site (e ∷ h) f (keeps_place site h e f legal (λ v. ap (λ (x : Ask). state_after x v (tape_state site h v)) ek) was live (place_there site h f (not_whole (is_empty (places_of site h f)) (and_parts (not (is_resident h f)) _ (and_parts (waits_for site h k f) _ b).1).1)))

pub recall_step : (site : Site) (h : History) (e : Entry) (f : ℕ) (o : Option Recall) → IsLegal site (e ∷ h) → o ≡ live_recall site h f → (is_some o ≡ true → is_empty (places_of site h f) ≡ false) → is_live (e ∷ h) f ≡ true → is_some (recall_after site h e f o) ≡ true → is_empty (places_of site (e ∷ h) f) ≡ false
recall_step site h e f None legal is some live =
    elim (bool_cases (bears_recall site h e.ask f)) [
      | inl b ↦ λ on. born_place site h e f e.ask legal refl (born_live site h e.ask f b) live b
      | inr d ↦ λ on. (let bad : false ≡ true = rw d at on in absurd (cc))
    ]
recall_step site h e f (Some r) legal is some live =
    λ on.
    (let here : is_some (live_recall site h f) ≡ true = subst (λ (o : Option Recall). is_some o ≡ true) is refl in
    goes_place site h e f r e.ask e.answer legal refl (recall_live site h legal.0 f here) live (some refl) on)

pub recall_place : (site : Site) (h : History) → IsLegal site h → (f : ℕ) → is_some (live_recall site h f) ≡ true → is_empty (places_of site h f) ≡ false
recall_place site [] legal f on = absurd (cc)
recall_place site (e ∷ h) legal f on = recall_step site h e f (live_recall site h f) legal refl (λ x. recall_place site h legal.0 f x) (recall_live site (e ∷ h) legal f on) on

-- ---- keys

pub some_sources : (xs ys : List Place) → is_empty ys ≡ false → 0 < length (or_else xs ys)
some_sources [] [] e = absurd (cc)
some_sources [] (y ∷ ys) e = omega arith
some_sources (x ∷ xs) ys e = omega arith

pub some_tape : (xs : List Place) (n : ℕ) → 0 < length xs → is_some (option_map (λ (p : Place). p.tape) (slice_get xs (n % length xs))) ≡ true
some_tape xs n some = rw (slice_get-get_or xs (n % length xs) (record { copy = 0; tape = 0; fseq = 0 }) (mod_below n (length xs) some)) refl

pub class_some : (site : Site) (o : Option ℕ) (c : ℕ) → suc c ≤ copies_of_class site o → is_some (option_map (λ class. pool_of site class (suc c)) o) ≡ true
class_some site None c low = absurd (omega arith)
class_some site (Some class) c low = refl

pub key_some : (site : Site) (h : History) → IsLegal site h → (j : Job) (c : ℕ) → j.copy ≡ c → is_number j.birth (live_birth site h j.file c) ≡ true → j.copy ≤ copies_of_file site h j.file → is_some (key_by c site h j) ≡ true
key_some site h legal j zero is live fits =
    some_tape (sources_of site h j.file) (length (charges_of h j))
    (some_sources (filter (λ (p : Place). may_be_read (tape_state site h p.tape)) (places_of site h j.file)) (places_of site h j.file) (recall_place site h legal j.file (birth_some j.birth (live_recall site h j.file) live)))
key_some site h legal j (suc c) is live fits =
    let low : suc c ≤ copies_of_class site (class_of site (path_of h j.file)) = subst (λ (n : ℕ). n ≤ copies_of_file site h j.file) is fits in
    subst (λ (n : ℕ). is_some (option_map (λ class. pool_of site class n) (class_of site (path_of h j.file))) ≡ true) (sym is) (class_some site (class_of site (path_of h j.file)) c low)

pub live_job_has_key : (site : Site) (h : History) → IsLegal site h → (j : Job) → is_live_job site h j ≡ true → is_some (key_of site h j) ≡ true
live_job_has_key site h legal j live = key_some site h legal j j.copy refl live (job_range site h legal j live).2

-- ---- the key of a recall is a tape of the site

abbrev pub OnTape : Site → Place → Type 0
OnTape site p = p.tape < length site.tapes.items

pub on_tapes : (site : Site) (h : History) → IsLegal site h → (f : ℕ) → AllOf (OnTape site) (all_places site h f)
on_tapes site h legal f =
    all_filter_map (OnTape site) (place_of h f) (copy_numbers site h f)
    (range_all (λ c. (p : Place) → place_of h f c ≡ Some p → OnTape site p) 1 (copies_of_file site h f) (λ c low high p is. flushed_tape site h legal f c p (live_place h f c p is).1))

pub else_all : (P : Place → Type 0) (xs ys : List Place) → AllOf P xs → AllOf P ys → AllOf P (or_else xs ys)
else_all P [] ys a b = b
else_all P (x ∷ xs) ys a b = a

pub sources_on : (site : Site) (h : History) → IsLegal site h → (f : ℕ) → AllOf (OnTape site) (sources_of site h f)
sources_on site h legal f =
    let all : AllOf (OnTape site) (places_of site h f) = all_filter (OnTape site) (is_whole site h) (all_places site h f) (on_tapes site h legal f) in
    else_all (OnTape site) (filter (λ (p : Place). may_be_read (tape_state site h p.tape)) (places_of site h f)) (places_of site h f) (all_filter (OnTape site) (λ (p : Place). may_be_read (tape_state site h p.tape)) (places_of site h f) all) all

pub got_tape : (site : Site) (xs : List Place) (i key : ℕ) → AllOf (OnTape site) xs → option_map (λ (p : Place). p.tape) (slice_get xs i) ≡ Some key → key < length site.tapes.items
got_tape site [] i key all e = absurd (cc)
got_tape site (x ∷ xs) zero key all e = (let same : x.tape ≡ key = cc in subst (λ (v : ℕ). v < length site.tapes.items) same all.0)
got_tape site (x ∷ xs) (suc i) key all e = got_tape site xs i key all.1 e

pub recall_key_is_tape : RecallKeyIsTape
recall_key_is_tape site h legal j key recall is =
    let there : key_by 0 site h j ≡ Some key = subst (λ (c : ℕ). key_by c site h j ≡ Some key) recall is in
    got_tape site (sources_of site h j.file) (length (charges_of h j) % length (sources_of site h j.file)) key (sources_on site h legal j.file) there
