-- The resident files, ask by ask.
use Rattle.std.proofs.Common.{◌≡◌, ℕ, ◌+◌, List, [], ◌∷◌, ◌++◌, Bool, false, refl, ◌∙◌, ap, arith, length, append-nil}
use Rattle.std.specs.Prelude.{Option, Some, None, map, zip, option_to_list}
use Rattle.std.specs.List.{list_any, filter_map}
use Rattle.cta_laws.proofs.Bools.{and_none}
use Rattle.blob.specs.declared.sum.Sum256.{Sum256}
use Rattle.cta_site.specs.declared.site.Site.{Site}
use Rattle.cta_site.specs.Listed.{Listed, rows}
use Rattle.cta_model.specs.declared.entries.Entry.{Entry}
use Rattle.cta_model.specs.declared.asks.Ask.{Ask}
use Rattle.cta_model.specs.declared.asks.Who.{Who}
use Rattle.cta_model.specs.declared.asks.Item.{Item}
use Rattle.cta_model.specs.declared.asks.Fault.{Fault}
use Rattle.cta_model.specs.declared.asks.Job.{Job}
use Rattle.cta_model.specs.declared.answers.Answer.{Answer}
use Rattle.cta_model.specs.declared.asks.Fate.{Fate}
use Rattle.cta_model.specs.History.{History, moment_of}
use Rattle.cta_model.specs.Files.{live_file, size_of, sum_in, copy_numbers}
use Rattle.cta_model.specs.Places.{place_of, is_taped}
use Rattle.cta_model.specs.Space.{evicted_for}
use Rattle.cta_model.specs.Answers.{answer_of}
use Rattle.cta_model.specs.Legal.{IsLegal}
use Rattle.cta_laws.proofs.BufferLaw.{newest_size}
use Rattle.cta_model.specs.declared.asks.Ask.TheVariants as ask
use Rattle.cta_model.specs.declared.answers.Answer.TheVariants as answer
use Rattle.cta_model.specs.declared.asks.Fate.TheVariants as fate
use Rattle.part_laws.proofs.Residents.{put_tells, residents_are}
use Rattle.cta_model.specs.Space.{is_safe}
use Rattle.part_laws.specs.Buffer.{entering, is_put_of, leaving, resident_at, residents, touches}
use Rattle.part_laws.proofs.After.{placed_after}
use Rattle.part_model.specs.declared.space.Resident.{Resident}
use Rattle.part_model.specs.Held.{flagged, without}
use Rattle.part_laws.proofs.Places.{dead_none, new_dead, new_place}

pub residents_of : (site : Site) (h : History) (e : Entry) (k : Ask) (a : Answer) → IsLegal site (e ∷ h) → e.ask ≡ k → e.answer ≡ a → residents site (e ∷ h) ≡ flagged (touches site h k a) (is_safe site (e ∷ h)) (without (leaving h k a) (residents site h)) ++ map (resident_at site (e ∷ h)) (entering h k a)
residents_of site h e k a legal ek ea =
    residents_are site h e legal
    ∙ ap (λ (k : Ask). flagged (touches site h k e.answer) (is_safe site (e ∷ h)) (without (leaving h k e.answer) (residents site h)) ++ map (resident_at site (e ∷ h)) (entering h k e.answer)) ek
    ∙ ap (λ (a : Answer). flagged (touches site h k a) (is_safe site (e ∷ h)) (without (leaving h k a) (residents site h)) ++ map (resident_at site (e ∷ h)) (entering h k a)) ea

-- no flag is touched
pub untouched : (safe : ℕ → Bool) (rs : List Resident) → flagged (λ f. false) safe rs ≡ rs
untouched safe [] = refl
untouched safe (r ∷ rs) = ap (λ (xs : List Resident). r ∷ xs) (untouched safe rs)

-- no file leaves
pub none_leaves : (rs : List Resident) → without [] rs ≡ rs
none_leaves [] = refl
none_leaves (r ∷ rs) = ap (λ (xs : List Resident). r ∷ xs) (none_leaves rs)

-- ---- Put

no_places : (h : History) (f : ℕ) (copies : List ℕ) → ((c : ℕ) → place_of h f c ≡ None) → filter_map (place_of h f) copies ≡ []
no_places h f [] none = refl
no_places h f (c ∷ copies) none = rw (none c) (no_places h f copies none)

pub unsafe : (site : Site) (h : History) (f : ℕ) → ((c : ℕ) → place_of h f c ≡ None) → is_safe site h f ≡ false
unsafe site h f none = rw (no_places h f (copy_numbers site h f) none) (and_none (is_taped site h f))

pub put_files : (site : Site) (h : History) (e : Entry) (who : Who) (path : List ℕ) (sum : Sum256) → IsLegal site (e ∷ h) → e.ask ≡ ask.Put who path sum
    → residents site (e ∷ h) ≡ without (evicted_for site h (moment_of h e.at) sum.len) (residents site h) ++ record { file = length h + 1; len = sum.len; safe = false } ∷ []
put_files site h e who path sum legal ek =
    let tells = put_tells site h e.at who path sum e.answer (legal.1.answered ∙ ap (answer_of site h e.at) ek) legal.1.accepted in
    let none : (c : ℕ) → place_of (e ∷ h) (length h + 1) c ≡ None = λ c. new_place site h e (length h + 1) c legal (omega arith) ∙ ap (λ (k : Ask). placed_after h k e.answer (length h + 1) c (place_of h (length h + 1) c)) ek ∙ dead_none h (length h + 1) c (new_dead h (length h + 1) (omega arith)) in
    let len : size_of (e ∷ h) (length h + 1) ≡ sum.len = newest_size e h ∙ ap (λ (k : Ask). (sum_in k).len) ek in
    residents_of site h e (ask.Put who path sum) (answer.Stored (rows (evicted_for site h (moment_of h e.at) sum.len))) legal ek tells.2
    ∙ ap (λ (rs : List Resident). rs ++ resident_at site (e ∷ h) (length h + 1) ∷ []) (untouched (is_safe site (e ∷ h)) (without (evicted_for site h (moment_of h e.at) sum.len) (residents site h)))
    ∙ ap (λ (r : Resident). without (evicted_for site h (moment_of h e.at) sum.len) (residents site h) ++ r ∷ []) (made (length h + 1) _ _ _ _ len (unsafe site (e ∷ h) (length h + 1) none))
  where
    made : (f n n' : ℕ) (s s' : Bool) → n ≡ n' → s ≡ s' → ◌≡◌ {A = Resident} (record { file = f; len = n; safe = s }) (record { file = f; len = n'; safe = s' })
    made f n n' s s' x y = ap (λ (k : ℕ). record { file = f; len = k; safe = s }) x ∙ ap (λ (b : Bool). record { file = f; len = n'; safe = b }) y

-- ---- Delete

pub delete_files : (site : Site) (h : History) (e : Entry) (who : Who) (path : List ℕ) (g : ℕ) → IsLegal site (e ∷ h) → e.ask ≡ ask.Delete who path → live_file h path ≡ Some g
    → residents site (e ∷ h) ≡ without (g ∷ []) (residents site h)
delete_files site h e who path g legal ek is =
    residents_of site h e (ask.Delete who path) e.answer legal ek refl
    ∙ append-nil _
    ∙ untouched (is_safe site (e ∷ h)) (without (option_to_list (live_file h path)) (residents site h))
    ∙ ap (λ (o : Option ℕ). without (option_to_list o) (residents site h)) is

-- ---- Claim

pub claim_files : (site : Site) (h : History) (e : Entry) (m : ℕ) (items : Listed Item) (evicted : Listed ℕ) → IsLegal site (e ∷ h) → e.ask ≡ ask.Claim m → e.answer ≡ answer.Batch items evicted
    → residents site (e ∷ h) ≡ without evicted.items (residents site h)
claim_files site h e m items evicted legal ek ea =
    residents_of site h e (ask.Claim m) (answer.Batch items evicted) legal ek ea ∙ append-nil _ ∙ untouched (is_safe site (e ∷ h)) (without evicted.items (residents site h))

-- ---- Flushed

pub flushed_files : (site : Site) (h : History) (e : Entry) (m : ℕ) (items : Listed Item) (fates : Listed Fate) → IsLegal site (e ∷ h) → e.ask ≡ ask.Flushed m items → e.answer ≡ answer.Told fates
    → residents site (e ∷ h) ≡ flagged (λ f. list_any (is_put_of f) (zip items.items fates.items)) (is_safe site (e ∷ h)) (residents site h)
flushed_files site h e m items fates legal ek ea =
    residents_of site h e (ask.Flushed m items) (answer.Told fates) legal ek ea ∙ append-nil _ ∙ ap (flagged (λ f. list_any (is_put_of f) (zip items.items fates.items)) (is_safe site (e ∷ h))) (none_leaves (residents site h))

-- ---- Recalled

pub recalled_files : (site : Site) (h : History) (e : Entry) (m : ℕ) (job : Job) → IsLegal site (e ∷ h) → e.ask ≡ ask.Recalled m job → e.answer ≡ answer.Arrived fate.Done
    → residents site (e ∷ h) ≡ residents site h ++ record { file = job.file; len = size_of (e ∷ h) job.file; safe = is_safe site (e ∷ h) job.file } ∷ []
recalled_files site h e m job legal ek ea =
    residents_of site h e (ask.Recalled m job) (answer.Arrived fate.Done) legal ek ea
    ∙ ap (λ (rs : List Resident). rs ++ resident_at site (e ∷ h) job.file ∷ []) (untouched (is_safe site (e ∷ h)) (without [] (residents site h)) ∙ none_leaves (residents site h))

-- a late read changes nothing
pub stale_files : (site : Site) (h : History) (e : Entry) (m : ℕ) (job : Job) → IsLegal site (e ∷ h) → e.ask ≡ ask.Recalled m job → e.answer ≡ answer.Arrived fate.Stale → residents site (e ∷ h) ≡ residents site h
stale_files site h e m job legal ek ea =
    residents_of site h e (ask.Recalled m job) (answer.Arrived fate.Stale) legal ek ea ∙ append-nil _ ∙ untouched (is_safe site (e ∷ h)) (without [] (residents site h)) ∙ none_leaves (residents site h)

-- nor does an End
pub end_files : (site : Site) (h : History) (e : Entry) (m : ℕ) (fault : Option Fault) → IsLegal site (e ∷ h) → e.ask ≡ ask.End m fault → e.answer ≡ answer.Done → residents site (e ∷ h) ≡ residents site h
end_files site h e m fault legal ek ea =
    residents_of site h e (ask.End m fault) answer.Done legal ek ea ∙ append-nil _ ∙ untouched (is_safe site (e ∷ h)) (without [] (residents site h)) ∙ none_leaves (residents site h)
