-- Repacks. A repack is named by the number of its Repack entry; its items are copies of files that had a place on its tape.
use Rattle.std.specs.Prelude.{ℕ, List, [], ◌∷◌, Option, Some, None, option_map, is_some, Bool, true, false, if◌then◌else◌, ◌==◌, ◌&&◌, map}
use Rattle.std.specs.List.{list_any}
use Rattle.cta_site.specs.declared.site.Site.{Site}
use Rattle.cta_model.specs.declared.asks.Ask.{Ask}
use Rattle.cta_model.specs.declared.asks.Ask.TheVariants as ask
use Rattle.cta_model.specs.declared.answers.Answer.{Answer}
use Rattle.cta_model.specs.declared.answers.Answer.TheVariants as answer
use Rattle.cta_model.specs.declared.reports.ItemState.{ItemState}
use Rattle.cta_model.specs.declared.reports.ItemState.TheVariants as item
use Rattle.cta_model.specs.declared.asks.Job.{Job}
use Rattle.cta_model.specs.declared.states.RepackCopy.{RepackCopy}
use Rattle.cta_model.specs.History.{History, next_number}
use Rattle.cta_model.specs.Buffer.{is_resident}
use Rattle.cta_model.specs.Recalls.{live_recall}
use Rattle.cta_model.specs.Jobs.{archive_birth}

-- ---- an item

-- an item at its Repack, where h are the entries before it: WRITING where its file is resident, and READING otherwise
abbrev pub new_item : History → Job → RepackCopy
new_item h j = record { file = j.file; copy = j.copy; state = (if is_resident h j.file then item.Writing else item.Reading) }

-- an item that was READING: it is so while its recall is live, and is WRITING once the file was recalled
abbrev pub after_reading : Bool → Ask → ItemState
after_reading true k = item.Reading
after_reading false (ask.Recalled m job) = item.Writing
after_reading false (ask.Delete who path) = item.Gone
after_reading false _ = item.Failed

-- an item that was WRITING: it is so while its archive job is live, and is DONE once it was flushed
abbrev pub after_writing : Bool → Ask → ItemState
after_writing true k = item.Writing
after_writing false (ask.Flushed m items) = item.Done
after_writing false (ask.Delete who path) = item.Gone
after_writing false _ = item.Failed

-- the state of an item that was in this state, behind the newest entry of h, whose ask is k: DONE, FAILED and GONE stay as they are
abbrev pub state_behind : Site → History → Ask → ℕ → ℕ → ItemState → ItemState
state_behind site h k f c item.Reading = after_reading (is_some (live_recall site h f)) k
state_behind site h k f c item.Writing = after_writing (is_some (archive_birth site h f c)) k
state_behind site h k f c item.Done = item.Done
state_behind site h k f c item.Failed = item.Failed
state_behind site h k f c item.Gone = item.Gone

-- an item behind the newest entry of h, whose ask is k
abbrev pub item_after : Site → History → Ask → RepackCopy → RepackCopy
item_after site h k i = record i { state = state_behind site h k i.file i.copy i.state }

-- an item is live while it is READING or WRITING
abbrev pub is_live_item : ItemState → Bool
is_live_item item.Reading = true
is_live_item item.Writing = true
is_live_item _ = false

-- ---- repacks

-- a repack: its tape, and its items by fSeq
pub record Repack : Type 0 where
  pub tape : ℕ
  pub items : List RepackCopy

-- the repack that an ask and its answer make; only a Repack makes one
abbrev pub repack_by : History → Ask → Answer → Option Repack
repack_by h (ask.Repack who v) (answer.Repacking id items) = Some (record { tape = v; items = map (new_item h) items.items })
repack_by h _ _ = None

-- a repack behind the newest entry of h, whose ask is k: each of its items behind it
abbrev pub repack_after : Site → History → Ask → Repack → Repack
repack_after site h k r = record r { items = map (item_after site h k) r.items }

-- the repack of this number
abbrev pub repack_of : Site → History → ℕ → Option Repack
repack_of site [] id = None
repack_of site (e ∷ h) id = if next_number h == id then repack_by h e.ask e.answer else option_map (repack_after site (e ∷ h) e.ask) (repack_of site h id)

-- whether an ask makes a repack
abbrev pub makes_repack : Ask → Bool
makes_repack (ask.Repack who v) = true
makes_repack _ = false

-- the numbers of the repacks that were ever made, newest first
abbrev pub repacks_made : History → List ℕ
repacks_made [] = []
repacks_made (e ∷ h) = if makes_repack e.ask then next_number h ∷ repacks_made h else repacks_made h

-- whether there is a repack, it is of this tape, and one of its items is live
abbrev pub is_live_on : ℕ → Option Repack → Bool
is_live_on v None = false
is_live_on v (Some r) = r.tape == v && list_any (λ (i : RepackCopy). is_live_item i.state) r.items

-- whether a repack of the tape is live: one of its items is
abbrev pub is_repack_live : Site → History → ℕ → Bool
is_repack_live site h v = list_any (λ id. is_live_on v (repack_of site h id)) (repacks_made h)
