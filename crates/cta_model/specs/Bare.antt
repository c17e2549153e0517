-- A history has no rooms: asks and answers with no room to spare in their lists, so that two are equal where they say the same.
use Rattle.std.specs.Prelude.{map}
use Rattle.cta_site.specs.Listed.{Listed, rows}
use Rattle.cta_model.specs.declared.entries.Entry.{Entry}
use Rattle.cta_model.specs.declared.asks.Ask.{Ask}
use Rattle.cta_model.specs.declared.asks.Ask.TheVariants as ask
use Rattle.cta_model.specs.declared.asks.Look.{Look}
use Rattle.cta_model.specs.declared.asks.Look.TheVariants as look
use Rattle.cta_model.specs.declared.answers.Answer.{Answer}
use Rattle.cta_model.specs.declared.answers.Answer.TheVariants as answer
use Rattle.cta_model.specs.declared.reports.FailedCopy.{FailedCopy}

-- the same list with no room to spare
abbrev pub bare_rows : {T : Type 0} → Listed T → Listed T
bare_rows r = rows r.items

-- an ask with no room to spare in its lists
abbrev pub bare_ask : Ask → Ask
bare_ask (ask.Stage who files) = ask.Stage who (bare_rows files)
bare_ask (ask.Cancel who id paths) = ask.Cancel who id (bare_rows paths)
bare_ask (ask.Release who id paths) = ask.Release who id (bare_rows paths)
bare_ask (ask.Flushed m items) = ask.Flushed m (bare_rows items)
bare_ask (ask.Failed m fault charged returned) = ask.Failed m fault (bare_rows charged) (bare_rows returned)
bare_ask (ask.Retry who paths) = ask.Retry who (bare_rows paths)
bare_ask k = k

-- a look with no room to spare in its lists
abbrev pub bare_look : Look → Look
bare_look (look.ArchiveInfo paths) = look.ArchiveInfo (bare_rows paths)
bare_look k = k

-- what is told of a failed copy, with no room to spare in its list of errors
abbrev pub bare_copy : FailedCopy → FailedCopy
bare_copy f = record f { errors = bare_rows f.errors }

-- an answer with no room to spare in its lists
abbrev pub bare_answer : Answer → Answer
bare_answer (answer.Stored evicted) = answer.Stored (bare_rows evicted)
bare_answer (answer.Batch items evicted) = answer.Batch (bare_rows items) (bare_rows evicted)
bare_answer (answer.Told fates) = answer.Told (bare_rows fates)
bare_answer (answer.Repacking id items) = answer.Repacking id (bare_rows items)
bare_answer (answer.Retried jobs) = answer.Retried (bare_rows jobs)
bare_answer (answer.Stage info) = answer.Stage (record info { files = bare_rows info.files })
bare_answer (answer.Places infos) = answer.Places (bare_rows infos)
bare_answer (answer.RepackSeen info) = answer.RepackSeen (record info { items = bare_rows info.items })
bare_answer (answer.FailedSeen copies) = answer.FailedSeen (rows (map bare_copy copies.items))
bare_answer (answer.QueuesSeen infos) = answer.QueuesSeen (bare_rows infos)
bare_answer a = a

-- an entry with no room to spare in the lists of its ask and its answer
abbrev pub bare_entry : Entry → Entry
bare_entry e = record e { ask = bare_ask e.ask; answer = bare_answer e.answer }
