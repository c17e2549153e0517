-- The items of repacks are the same without what mismatches have found.
use Rattle.std.proofs.Common.{refl, ap, ◌∙◌, ◌≡◌, option_map, map, ℕ}
use Rattle.std.specs.Prelude.{Option, Some, None}
use Rattle.std.specs.List.{list_any}
use Rattle.cta_site.specs.declared.site.Site.{Site}
use Rattle.cta_model.specs.declared.entries.Entry.{Entry}
use Rattle.cta_model.specs.declared.asks.Ask.{Ask}
use Rattle.cta_model.specs.declared.asks.Ask.TheVariants as ask
use Rattle.cta_model.specs.declared.answers.Answer.{Answer}
use Rattle.cta_model.specs.declared.answers.Answer.TheVariants as answer
use Rattle.cta_model.specs.declared.asks.Item.{Item}
use Rattle.cta_model.specs.History.{History, entry_of}
use Rattle.cta_model.specs.Mounts.{job_of, has_copy}
use Rattle.cta_model.specs.RepackItems.{is_repacked, items_in, items_named, repack_items, waiting_for}
use Rattle.mismatch_laws.specs.Alike.{ask_without_found, entry_without_found, history_without_found}
use Rattle.mismatch_laws.proofs.History.{entry_of_same}
use Rattle.mismatch_laws.proofs.Places.{live_items_on_same}
use Rattle.mismatch_laws.proofs.Recalls.{live_recall_same}

pub repack_items_same : (h : History) (v : ℕ) → repack_items (history_without_found h) v ≡ repack_items h v
repack_items_same h v = λ z. map (λ (i : Item). job_of 0 i.job.file i.job.copy) (live_items_on_same h v z)

pub items_named_same : (k : Ask) (a : Answer) → items_named (ask_without_found k) a ≡ items_named k a
items_named_same (ask.Repack who v) (answer.Repacking id items) = refl
items_named_same _ _ = refl

pub items_in_same : (o : Option Entry) → items_in (option_map entry_without_found o) ≡ items_in o
items_in_same None = refl
items_in_same (Some e) = λ z. items_named_same e.ask e.answer z

items_of_same : (h : History) (s : ℕ) → items_in (entry_of (history_without_found h) s) ≡ items_in (entry_of h s)
items_of_same h s = ap items_in (entry_of_same h s) ∙ items_in_same (entry_of h s)

pub is_repacked_same : (site : Site) (h : History) (f c : ℕ) → is_repacked site (history_without_found h) f c ≡ is_repacked site h f c
is_repacked_same site h f c = λ i. list_any (λ s. has_copy f c (items_of_same h s i)) (waiting_for (live_recall_same site h f i))
