-- The items of repacks: which copies a repack moves. How they stand is said in Repacks.
use Rattle.std.specs.Prelude.{ℕ, List, [], Option, Some, None, Bool, map}
use Rattle.std.specs.List.{list_any}
use Rattle.cta_site.specs.declared.site.Site.{Site}
use Rattle.cta_model.specs.declared.entries.Entry.{Entry}
use Rattle.cta_model.specs.declared.asks.Ask.{Ask}
use Rattle.cta_model.specs.declared.asks.Ask.TheVariants as ask
use Rattle.cta_model.specs.declared.answers.Answer.{Answer}
use Rattle.cta_model.specs.declared.answers.Answer.TheVariants as answer
use Rattle.cta_model.specs.declared.asks.Item.{Item}
use Rattle.cta_model.specs.declared.asks.Job.{Job}
use Rattle.cta_model.specs.History.{History, entry_of}
use Rattle.cta_model.specs.Mounts.{job_of, has_copy}
use Rattle.cta_model.specs.Places.{live_items_on}
use Rattle.cta_model.specs.Recalls.{Recall, live_recall}

-- the items of a repack of a tape, each as a job with birth 0: the copies of live files that have their place on the tape, by fSeq
abbrev pub repack_items : History → ℕ → List Job
repack_items h v = map (λ (i : Item). job_of 0 i.job.file i.job.copy) (live_items_on h v)

-- the items of the repack that an ask and its answer make; only a Repack makes one
abbrev pub items_named : Ask → Answer → List Job
items_named (ask.Repack who v) (answer.Repacking id items) = items.items
items_named _ _ = []

-- the items of the repack that an entry makes, none where there is no entry or it makes no repack
abbrev pub items_in : Option Entry → List Job
items_in None = []
items_in (Some e) = items_named e.ask e.answer

-- the entries that wait for a recall, none where there is no recall
abbrev pub waiting_for : Option Recall → List ℕ
waiting_for None = []
waiting_for (Some r) = r.waiting

-- whether a repack that waits for the file's recall has the copy among its items
abbrev pub is_repacked : Site → History → ℕ → ℕ → Bool
is_repacked site h f c = list_any (λ s. has_copy f c (items_in (entry_of h s))) (waiting_for (live_recall site h f))
