-- The places of copies after one more entry.
use Rattle.std.proofs.Common.{◌≡◌, ℕ, ◌+◌, ◌≤◌, ◌<◌, inl, inr, ◌∷◌, Bool, true, false, ◌||◌, not, refl, sym, ◌∙◌, ap, arith, length}
use Rattle.std.specs.Prelude.{Option, Some, None, is_some, option_to_list, if◌then◌else◌, ◌==◌, ◌&&◌, zip}
use Rattle.std.proofs.lemmas.Bool.{cases_lt}
use Rattle.cta_site.specs.declared.site.Site.{Site}
use Rattle.cta_model.specs.declared.entries.Entry.{Entry}
use Rattle.cta_model.specs.declared.asks.Ask.{Ask}
use Rattle.cta_model.specs.declared.answers.Answer.{Answer}
use Rattle.cta_model.specs.declared.states.Place.{Place}
use Rattle.cta_model.specs.History.{History, is_number, has_number}
use Rattle.cta_model.specs.Files.{live_file, live_after, is_live, path_of}
use Rattle.cta_model.specs.Mounts.{asked_mount, tape_of_mount}
use Rattle.cta_model.specs.Places.{last_flushed, fseq_after, flushed_in, place_after, place_of}
use Rattle.cta_model.specs.Answers.{answer_of, is_accepted}
use Rattle.cta_model.specs.Legal.{IsLegal, IsFit}
use Rattle.cta_laws.proofs.Tests.{bool_cases}
use Rattle.cta_laws.proofs.PlaceLaw.{flushed_below, entry_below, named_within}
use Rattle.cta_model.specs.declared.asks.Ask.TheVariants as ask
use Rattle.cta_model.specs.declared.answers.Answer.TheVariants as answer
use Rattle.part_laws.proofs.Residents.{delete_live, delete_tells, live_is, put_live, put_tells}
use Rattle.cta_laws.proofs.FlushedCopies.{done_copy}
use Rattle.part_laws.proofs.After.{placed_after}

pub was_live : (live : Bool) (o : Option ℕ) → is_some (if live then o else None) ≡ true → live ≡ true
was_live true o e = refl
was_live false o e = absurd (cc)

-- ---- the place of a copy

pub not_some : (o : Option Place) → ((p : Place) → o ≡ Some p → ⊥) → o ≡ None
not_some None no_way = refl
not_some (Some p) no_way = absurd (no_way p refl)

pub flushed_none : (site : Site) (h : History) → IsLegal site h → (f c : ℕ) → length h < f → last_flushed h f c ≡ None
flushed_none site h legal f c high = not_some (last_flushed h f c) (λ p e. (let low : f ≤ length h = flushed_below site h legal f c p e in omega arith))

pub put_other : (site : Site) (h : History) → IsLegal site h → (t : ℕ) (k : Ask) (a : Answer) → a ≡ answer_of site h t k → (f c : ℕ) → length h < f → fseq_after (flushed_in k a) f c None ≡ None
put_other site h legal t k a is f c high = by (fseq_after (flushed_in k a) f c None) (λ s e. entry_below site h legal t f c k a s is e)
  where
    by : (o : Option ℕ) → ((s : ℕ) → o ≡ Some s → f ≤ length h) → o ≡ None
    by None w = refl
    by (Some s) w = (let low : f ≤ length h = w s refl in absurd (omega arith))

pub dead_none : (h : History) (f c : ℕ) → is_live h f ≡ false → place_of h f c ≡ None
dead_none h f c d = rw d refl

pub new_dead : (h : History) (f : ℕ) → length h < f → is_live h f ≡ false
new_dead h f high = elim (bool_cases (is_live h f)) [ inl live ↦ (let w = named_within h f (path_of h f) live in absurd (omega (arith, w.1))) | inr d ↦ d ]

pub none_after : (h : History) (k : Ask) (a : Answer) (f c : ℕ) → fseq_after (flushed_in k a) f c None ≡ None → placed_after h k a f c None ≡ None
none_after h (ask.Flushed m items) a f c none = rw none refl
none_after h (ask.Delete who path) a f c none = elim (is_number f (live_file h path)) as (λ b. ◌≡◌ {A = Option Place} (if b then None else None) None) [ true ↦ refl | false ↦ refl ]
none_after h _ a f c none = refl

pub if_live : (b : Bool) (o : Option Place) → o ≡ None → ◌≡◌ {A = Option Place} (if b then o else None) None
if_live true o e = e
if_live false o e = refl

pub new_place : (site : Site) (h : History) (e : Entry) (f c : ℕ) → IsLegal site (e ∷ h) → length h < f → place_of (e ∷ h) f c ≡ placed_after h e.ask e.answer f c (place_of h f c)
new_place site h e f c legal high =
    let none : fseq_after (flushed_in e.ask e.answer) f c None ≡ None = put_other site h legal.0 e.at e.ask e.answer legal.1.answered f c high in
    let flushed : last_flushed (e ∷ h) f c ≡ None = ap (λ (o : Option ℕ). place_after c (tape_of_mount h (asked_mount e.ask)) o (last_flushed h f c)) none ∙ flushed_none site h legal.0 f c high in
    if_live (is_live (e ∷ h) f) (last_flushed (e ∷ h) f c) flushed
    ∙ sym (ap (placed_after h e.ask e.answer f c) (dead_none h f c (new_dead h f high)) ∙ none_after h e.ask e.answer f c none)

pub flush_cases : (live : Bool) (c v : ℕ) (s : Option ℕ) (last : Option Place) → (is_some s ≡ true → live ≡ true) → (if live then place_after c v s last else None) ≡ place_after c v s (if live then last else None)
flush_cases true c v s last h = refl
flush_cases false c v None last h = refl
flush_cases false c v (Some n) last h = (let bad : false ≡ true = h refl in absurd (cc))

pub delete_same : (b live : Bool) (o : Option Place) → (if not b && live then o else None) ≡ (if b then None else (if live then o else None))
delete_same true live o = refl
delete_same false live o = refl

pub in_option : (f : ℕ) (o : Option ℕ) → has_number f (option_to_list o) ≡ is_number f o
in_option f None = refl
in_option f (Some g) = or_false (f == g)
  where
    or_false : (b : Bool) → (b || false) ≡ b
    or_false true = refl
    or_false false = refl

pub old_by : (site : Site) (h : History) → IsLegal site h → (t : ℕ) (k : Ask) (a : Answer) (f c : ℕ) → a ≡ answer_of site h t k → is_accepted a ≡ true → IsFit site h k → f ≤ length h → (if is_number f (live_after k (length h + 1) (path_of h f) (live_file h (path_of h f))) then place_after c (tape_of_mount h (asked_mount k)) (fseq_after (flushed_in k a) f c None) (last_flushed h f c) else None) ≡ placed_after h k a f c (place_of h f c)
old_by site h legal t (ask.Put who path sum) a f c is y fit low = rw (put_live h path f (put_tells site h t who path sum a is y).0 low (path_of h f)) refl
old_by site h legal t (ask.Delete who path) a f c is y fit low =
    let tells = delete_tells site h t who path a is y in
    rw (delete_live h path f tells.0 tells.1, in_option f (live_file h path)) (delete_same (is_number f (live_file h path)) (is_live h f) (last_flushed h f c))
old_by site h legal t (ask.Flushed m items) (answer.Told fates) f c is y fit low =
    flush_cases (is_live h f) c (tape_of_mount h m) (fseq_after (zip items.items fates.items) f c None) (last_flushed h f c) (λ some. by (fseq_after (zip items.items fates.items) f c None) (λ s e. (done_copy site h legal t m items fates is fit f c s e).live) some)
  where
    by : (o : Option ℕ) → ((s : ℕ) → o ≡ Some s → is_live h f ≡ true) → is_some o ≡ true → is_live h f ≡ true
    by None w some = absurd (cc)
    by (Some s) w some = w s refl
old_by site h legal t _ a f c is y fit low = refl

pub old_place : (site : Site) (h : History) (e : Entry) (f c : ℕ) → IsLegal site (e ∷ h) → f ≤ length h → place_of (e ∷ h) f c ≡ placed_after h e.ask e.answer f c (place_of h f c)
old_place site h e f c legal low =
    ap (λ (b : Bool). if b then last_flushed (e ∷ h) f c else None) (live_is e h f low)
    ∙ old_by site h legal.0 e.at e.ask e.answer f c legal.1.answered legal.1.accepted legal.1.fit low

-- the place of a copy after an entry
pub place_is : (site : Site) (h : History) (e : Entry) (f c : ℕ) → IsLegal site (e ∷ h) → place_of (e ∷ h) f c ≡ placed_after h e.ask e.answer f c (place_of h f c)
place_is site h e f c legal = elim (cases_lt (length h) f) [ inl high ↦ new_place site h e f c legal high | inr low ↦ old_place site h e f c legal low ]
