-- Repacks are the same without what mismatches have found.
use Rattle.std.proofs.Common.{refl, ◌≡◌, ◌∷◌, [], option_map, map, ℕ, Bool, true, false}
use Rattle.std.specs.Prelude.{Some, is_some, if◌then◌else◌, ◌==◌}
use Rattle.std.specs.List.{list_any}
use Rattle.cta_site.specs.declared.site.Site.{Site}
use Rattle.cta_model.specs.declared.asks.Ask.{Ask}
use Rattle.cta_model.specs.declared.asks.Ask.TheVariants as ask
use Rattle.cta_model.specs.declared.answers.Answer.{Answer}
use Rattle.cta_model.specs.declared.answers.Answer.TheVariants as answer
use Rattle.cta_model.specs.declared.reports.ItemState.{ItemState}
use Rattle.cta_model.specs.declared.reports.ItemState.TheVariants as item
use Rattle.cta_model.specs.declared.asks.Job.{Job}
use Rattle.cta_model.specs.declared.states.RepackCopy.{RepackCopy}
use Rattle.cta_model.specs.History.{History}
use Rattle.cta_model.specs.Repacks.{Repack, after_reading, after_writing, is_live_on, is_repack_live, item_after, makes_repack, new_item, repack_after, repack_by, repack_of, repacks_made, state_behind}
use Rattle.mismatch_laws.specs.Alike.{ask_without_found, history_without_found}
use Rattle.mismatch_laws.proofs.History.{next_number_same}
use Rattle.mismatch_laws.proofs.Buffer.{is_resident_same}
use Rattle.mismatch_laws.proofs.Recalls.{live_recall_same}
use Rattle.mismatch_laws.proofs.Jobs.{archive_birth_same}

pub new_item_same : (h : History) (j : Job) → new_item (history_without_found h) j ≡ new_item h j
new_item_same h j = λ z. record { file = j.file; copy = j.copy; state = (if (is_resident_same h j.file z) then item.Writing else item.Reading) }

pub after_reading_same : (true : Bool) (k : Ask) → after_reading true (ask_without_found k) ≡ after_reading true k
after_reading_same true k = refl
after_reading_same false (ask.Recalled m job) = refl
after_reading_same false (ask.Delete who path) = refl
after_reading_same false _ = refl

pub after_writing_same : (true : Bool) (k : Ask) → after_writing true (ask_without_found k) ≡ after_writing true k
after_writing_same true k = refl
after_writing_same false (ask.Flushed m items) = refl
after_writing_same false (ask.Delete who path) = refl
after_writing_same false _ = refl

pub state_behind_same : (site : Site) (h : History) (k : Ask) (f : ℕ) (c : ℕ) (state : ItemState) → state_behind site (history_without_found h) (ask_without_found k) f c state ≡ state_behind site h k f c state
state_behind_same site h k f c item.Reading = λ z. after_reading_same (is_some (live_recall_same site h f z)) k z
state_behind_same site h k f c item.Writing = λ z. after_writing_same (is_some (archive_birth_same site h f c z)) k z
state_behind_same site h k f c item.Done = refl
state_behind_same site h k f c item.Failed = refl
state_behind_same site h k f c item.Gone = refl

pub item_after_same : (site : Site) (h : History) (k : Ask) (i : RepackCopy) → item_after site (history_without_found h) (ask_without_found k) i ≡ item_after site h k i
item_after_same site h k i = λ z. record i { state = (state_behind_same site h k i.file i.copy i.state z) }

pub repack_by_same : (h : History) (k : Ask) (a : Answer) → repack_by (history_without_found h) (ask_without_found k) a ≡ repack_by h k a
repack_by_same h (ask.Repack who v) (answer.Repacking id items) = λ z. Some (record { tape = v; items = map (λ z1. new_item_same h z1 z) items.items })
repack_by_same h _ _ = refl

pub repack_after_same : (site : Site) (h : History) (k : Ask) (r : Repack) → repack_after site (history_without_found h) (ask_without_found k) r ≡ repack_after site h k r
repack_after_same site h k r = λ z. record r { items = map (λ z1. item_after_same site h k z1 z) r.items }

pub repack_of_same : (site : Site) (h : History) (id : ℕ) → repack_of site (history_without_found h) id ≡ repack_of site h id
repack_of_same site [] id = refl
repack_of_same site (e ∷ h) id = λ z. if (next_number_same h z) == id then (repack_by_same h e.ask e.answer z) else option_map (λ z1. repack_after_same site (e ∷ h) e.ask z1 z) (repack_of_same site h id z)

pub makes_repack_same : (k : Ask) → makes_repack (ask_without_found k) ≡ makes_repack k
makes_repack_same (ask.Repack who v) = refl
makes_repack_same _ = refl

pub repacks_made_same : (h : History) → repacks_made (history_without_found h) ≡ repacks_made h
repacks_made_same [] = refl
repacks_made_same (e ∷ h) = λ z. if (makes_repack_same e.ask z) then (next_number_same h z) ∷ (repacks_made_same h z) else (repacks_made_same h z)

pub is_repack_live_same : (site : Site) (h : History) (v : ℕ) → is_repack_live site (history_without_found h) v ≡ is_repack_live site h v
is_repack_live_same site h v = λ z. list_any (λ id. is_live_on v (repack_of_same site h id z)) (repacks_made_same h z)
