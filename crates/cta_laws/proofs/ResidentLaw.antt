-- The file of a recall is live as long as the recall is, and resident once it is completed.
use Rattle.std.proofs.Common.{◌≡◌, ℕ, ◌+◌, inl, inr, List, [], ◌∷◌, Bool, true, false, not, refl, sym, subst, length}
use Rattle.std.specs.Prelude.{Option, Some, None, is_some, is_none, if◌then◌else◌, ◌==◌, bytes_eq, filter, nat_lt, filter_map}
use Rattle.std.proofs.lemmas.Bool.{and_parts}
use Rattle.std.proofs.lemmas.Slice.Eq.{bytes_eq-Decides}
use Rattle.cta_site.specs.declared.site.Site.{Site}
use Rattle.cta_site.specs.Listed.{rows}
use Rattle.cta_site.specs.Lookups.{class_of}
use Rattle.cta_model.specs.declared.entries.Entry.{Entry}
use Rattle.cta_model.specs.declared.asks.Ask.{Ask}
use Rattle.cta_model.specs.declared.asks.Ask.TheVariants as ask
use Rattle.cta_model.specs.declared.answers.Answer.{Answer}
use Rattle.cta_model.specs.declared.answers.Answer.TheVariants as answer
use Rattle.cta_model.specs.declared.answers.Refusal.TheVariants as refusal
use Rattle.cta_model.specs.declared.asks.Fate.TheVariants as fate
use Rattle.cta_model.specs.declared.states.Place.{Place}
use Rattle.cta_model.specs.History.{History, is_number, moment_of, is_empty}
use Rattle.cta_model.specs.Files.{live_file, live_after, is_live, path_of, copy_numbers}
use Rattle.cta_model.specs.Tapes.{is_broken, tape_state}
use Rattle.cta_model.specs.Places.{places_of, place_of, all_places}
use Rattle.cta_model.specs.Buffer.{brings_in, evicts, arrival_after, last_arrival, is_resident}
use Rattle.cta_model.specs.Recalls.{Recall, live_recall, recall_after, recall_goes_on, recall_job, bears_recall, waits_for, lives_unless}
use Rattle.cta_model.specs.Space.{free_space, evictable_size, evicted_for}
use Rattle.cta_site.specs.Paths.{is_path}
use Rattle.cta_model.specs.Answers.{refuse, answer_of, is_accepted, is_too_heavy, put_answer}
use Rattle.cta_model.specs.Legal.{IsLegal, IsNext}
use Rattle.cta_laws.specs.Recalls.{RecalledIsResident, completes}
use Rattle.cta_laws.proofs.Tests.{bool_cases}
use Rattle.cta_laws.proofs.OnceLaw.{birth_in, lives}
use Rattle.cta_laws.proofs.PlaceLaw.{named_within, path_older}
use Rattle.cta_laws.proofs.LostLaw.{resident_by}

-- ---- a file with a place is live

pub no_places : (h : History) (f : ℕ) (copies : List ℕ) → is_live h f ≡ false → filter_map (place_of h f) copies ≡ []
no_places h f [] d = refl
no_places h f (c ∷ copies) d = rw d (no_places h f copies d)

pub empty_filter : (test : Place → Bool) (xs : List Place) → xs ≡ [] → is_empty (filter test xs) ≡ true
empty_filter test [] e = refl
empty_filter test (x ∷ xs) e = absurd (cc)

pub place_live : (site : Site) (h : History) (f : ℕ) → is_empty (places_of site h f) ≡ false → is_live h f ≡ true
place_live site h f some =
    elim (bool_cases (is_live h f)) [
      | inl live ↦ live
      | inr d ↦ (let bad : is_empty (places_of site h f) ≡ true = empty_filter (λ (p : Place). not (is_broken (tape_state site h p.tape))) (all_places site h f) (no_places h f (copy_numbers site h f) d) in absurd (cc))
    ]

-- ---- what stays live

pub put_free : (a b c d heavy : Bool) (x y : Answer) → y ≡ refuse refusal.HistoryFull heavy (refuse refusal.BadPath a (refuse refusal.NoDirectory b (refuse refusal.PathTaken c (refuse refusal.NoSpace d x)))) → is_accepted y ≡ true → c ≡ false
put_free a b c d true x y e ok = absurd (cc)
put_free true b c d false x y e ok = absurd (cc)
put_free false true c d false x y e ok = absurd (cc)
put_free false false true d false x y e ok = absurd (cc)
put_free false false false d false x y e ok = refl

pub number_some : (f : ℕ) (o : Option ℕ) → is_number f o ≡ true → is_some o ≡ true
number_some f None e = absurd (cc)
number_some f (Some n) e = refl

pub same_path : (p q : List ℕ) → bytes_eq p q ≡ true → p ≡ q
same_path p q e = (bytes_eq-Decides p q).0 e

pub not_some : (b : Bool) (r : Recall) → is_some (lives_unless b r) ≡ true → b ≡ false
not_some true r e = absurd (cc)
not_some false r e = refl

-- an entry after which a recall goes on leaves its file live
pub named_stays : (site : Site) (h : History) (t : ℕ) (e : Entry) (f : ℕ) (r : Recall) (n : ℕ) (k : Ask) (a : Answer) → a ≡ answer_of site h t k → is_accepted a ≡ true → is_some (recall_goes_on site h e f r k a) ≡ true → is_number f (live_file h (path_of h f)) ≡ true → is_number f (live_after k n (path_of h f) (live_file h (path_of h f))) ≡ true
named_stays site h t e f r n (ask.Put who q sum) a is ok on live =
    elim (bool_cases (bytes_eq q (path_of h f))) [
      | inl hit ↦
          (let free : is_some (live_file h q) ≡ false = put_free (not (is_path q)) (is_none (class_of site q)) (is_some (live_file h q)) (nat_lt (free_space site h + evictable_size site h (moment_of h t)) sum.len) (is_too_heavy site h (ask.Put who q sum) (put_answer site h (moment_of h t) q sum.len)) (answer.Stored (rows (evicted_for site h (moment_of h t) sum.len))) a is ok in
          let taken : is_some (live_file h (path_of h f)) ≡ true = number_some f (live_file h (path_of h f)) live in
          let bad : is_some (live_file h q) ≡ true = subst (λ (p : List ℕ). is_some (live_file h p) ≡ true) (sym (same_path q (path_of h f) hit)) taken in
          absurd (cc))
      | inr miss ↦ rw miss live
    ]
named_stays site h t e f r n (ask.Delete who q) a is ok on live = rw (not_some (bytes_eq q (path_of h f)) r on) live
named_stays site h t e f r n _ a is ok on live = live

-- so does an entry that bears a recall
pub named_born : (site : Site) (h : History) (f n : ℕ) (k : Ask) → bears_recall site h k f ≡ true → is_number f (live_file h (path_of h f)) ≡ true → is_number f (live_after k n (path_of h f) (live_file h (path_of h f))) ≡ true
named_born site h f n (ask.Put who q sum) b live = absurd (cc)
named_born site h f n (ask.Delete who q) b live = absurd (cc)
named_born site h f n _ b live = live

pub live_by : (e : Entry) (h : History) (f : ℕ) → is_live h f ≡ true → is_number f (live_after e.ask (length h + 1) (path_of h f) (live_file h (path_of h f))) ≡ true → is_live (e ∷ h) f ≡ true
live_by e h f was named = subst (λ (p : List ℕ). is_number f (live_file (e ∷ h) p) ≡ true) (sym (path_older e h f (named_within h f (path_of h f) was).1)) named

pub not_not : (b : Bool) → not b ≡ true → b ≡ false
not_not true e = absurd (cc)
not_not false e = refl

pub born_live : (site : Site) (h : History) (k : Ask) (f : ℕ) → bears_recall site h k f ≡ true → is_live h f ≡ true
born_live site h k f b = place_live site h f (not_not (is_empty (places_of site h f)) (and_parts (not (is_resident h f)) _ (and_parts (waits_for site h k f) _ b).1).1)

pub not_born : (b : Bool) (r : Recall) → b ≡ false → is_some (if b then Some r else None) ≡ true → ⊥
not_born true r d on = absurd (cc)
not_born false r d on = absurd (cc)

pub recall_live_step : (site : Site) (h : History) (e : Entry) (f : ℕ) (o : Option Recall) → IsNext site h e → (is_some o ≡ true → is_live h f ≡ true) → is_some (recall_after site h e f o) ≡ true → is_live (e ∷ h) f ≡ true
recall_live_step site h e f None next was on =
    elim (bool_cases (bears_recall site h e.ask f)) [
      | inl b ↦ (let live : is_live h f ≡ true = born_live site h e.ask f b in live_by e h f live (named_born site h f (length h + 1) e.ask b live))
      | inr d ↦ absurd (not_born (bears_recall site h e.ask f) _ d on)
    ]
recall_live_step site h e f (Some r) next was on =
    let live : is_live h f ≡ true = was refl in
    live_by e h f live (named_stays site h e.at e f r (length h + 1) e.ask e.answer next.answered next.accepted on live)

-- the file of a live recall is live
pub recall_live : (site : Site) (h : History) → IsLegal site h → (f : ℕ) → is_some (live_recall site h f) ≡ true → is_live h f ≡ true
recall_live site [] legal f e = absurd (cc)
recall_live site (e ∷ h) legal f on = recall_live_step site h e f (live_recall site h f) legal.1 (λ x. recall_live site h legal.0 f x) on

-- ---- a completed recall

pub birth_some : (b : ℕ) (o : Option Recall) → is_number b (birth_in o) ≡ true → is_some o ≡ true
birth_some b None e = absurd (cc)
birth_some b (Some r) e = refl

pub completed_brings : (k : Ask) (a : Answer) (b f n : ℕ) → completes k a (recall_job b f) ≡ true → brings_in k a n f ≡ true
completed_brings (ask.Recalled m job) (answer.Arrived fate.Done) b f n c = (and_parts (job.file == f) _ (and_parts (job.birth == b) _ c).1).0
completed_brings _ a b f n c = absurd (cc)

pub completed_named : (k : Ask) (a : Answer) (b f n : ℕ) (p : List ℕ) (o : Option ℕ) → completes k a (recall_job b f) ≡ true → is_number f o ≡ true → is_number f (live_after k n p o) ≡ true
completed_named (ask.Recalled m job) a b f n p o c live = live
completed_named _ a b f n p o c live = absurd (cc)

pub arrives : (brings out : Bool) (n : ℕ) (o : Option ℕ) → brings ≡ true → is_some (arrival_after brings out n o) ≡ true
arrives true out n o e = refl
arrives false out n o e = absurd (cc)

pub recalled_is_resident : RecalledIsResident
recalled_is_resident site h e legal b f c =
    let on : is_some (live_recall site h f) ≡ true = birth_some b (live_recall site h f) (lives site h e.at b f e.ask e.answer legal.1.answered c) in
    let was : is_live h f ≡ true = recall_live site h legal.0 f on in
    let live : is_live (e ∷ h) f ≡ true = live_by e h f was (completed_named e.ask e.answer b f (length h + 1) (path_of h f) (live_file h (path_of h f)) c was) in
    resident_by (e ∷ h) f live (arrives (brings_in e.ask e.answer (length h + 1) f) (evicts e.ask e.answer f) (length h + 1) (last_arrival h f) (completed_brings e.ask e.answer b f (length h + 1) c))
