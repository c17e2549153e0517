-- Places of copies are the same without what mismatches have found.
use Rattle.std.proofs.Common.{refl, ◌≡◌, ◌∷◌, [], ℕ}
use Rattle.std.specs.Prelude.{None, is_some, if◌then◌else◌, not, filter}
use Rattle.std.specs.List.{list_all, filter_map}
use Rattle.cta_site.specs.declared.site.Site.{Site}
use Rattle.cta_model.specs.declared.asks.Ask.{Ask}
use Rattle.cta_model.specs.declared.asks.Ask.TheVariants as ask
use Rattle.cta_model.specs.declared.answers.Answer.{Answer}
use Rattle.cta_model.specs.declared.answers.Answer.TheVariants as answer
use Rattle.cta_model.specs.declared.asks.Item.{Item}
use Rattle.cta_model.specs.declared.states.Place.{Place}
use Rattle.cta_model.specs.History.{History}
use Rattle.cta_model.specs.Tapes.{is_broken}
use Rattle.cta_model.specs.Places.{all_places, flushed_in, fseq_after, is_at, is_taped, last_flushed, live_items_on, place_after, place_of, places_of, was_flushed}
use Rattle.mismatch_laws.specs.Alike.{ask_without_found, history_without_found}
use Rattle.mismatch_laws.proofs.Files.{copy_numbers_same, is_live_same}
use Rattle.mismatch_laws.proofs.Mounts.{asked_mount_same, tape_of_mount_same}
use Rattle.mismatch_laws.proofs.Tapes.{tape_items_same, tape_state_same}

pub flushed_in_same : (k : Ask) (a : Answer) → flushed_in (ask_without_found k) a ≡ flushed_in k a
flushed_in_same (ask.Flushed m items) (answer.Told fates) = refl
flushed_in_same _ _ = refl

pub last_flushed_same : (h : History) (f : ℕ) (c : ℕ) → last_flushed (history_without_found h) f c ≡ last_flushed h f c
last_flushed_same [] f c = refl
last_flushed_same (e ∷ h) f c = λ z. place_after c (tape_of_mount_same h (asked_mount_same e.ask z) z) (fseq_after (flushed_in_same e.ask e.answer z) f c None) (last_flushed_same h f c z)

pub was_flushed_same : (h : History) (f : ℕ) (c : ℕ) → was_flushed (history_without_found h) f c ≡ was_flushed h f c
was_flushed_same h f c = λ z. is_some (last_flushed_same h f c z)

pub place_of_same : (h : History) (f : ℕ) (c : ℕ) → place_of (history_without_found h) f c ≡ place_of h f c
place_of_same h f c = λ z. if (is_live_same h f z) then (last_flushed_same h f c z) else None

pub all_places_same : (site : Site) (h : History) (f : ℕ) → all_places site (history_without_found h) f ≡ all_places site h f
all_places_same site h f = λ z. filter_map (λ z1. place_of_same h f z1 z) (copy_numbers_same site h f z)

pub places_of_same : (site : Site) (h : History) (f : ℕ) → places_of site (history_without_found h) f ≡ places_of site h f
places_of_same site h f = λ z. filter (λ (p : Place). not (is_broken (tape_state_same site h p.tape z))) (all_places_same site h f z)

pub is_taped_same : (site : Site) (h : History) (f : ℕ) → is_taped site (history_without_found h) f ≡ is_taped site h f
is_taped_same site h f = λ z. list_all (λ z1. was_flushed_same h f z1 z) (copy_numbers_same site h f z)

pub live_items_on_same : (h : History) (v : ℕ) → live_items_on (history_without_found h) v ≡ live_items_on h v
live_items_on_same h v = λ z. filter (λ (i : Item). is_at v i.fseq (place_of_same h i.job.file i.job.copy z)) (tape_items_same h v z)
