-- A mount that reads the one record of its tape, for the test of a read that is altered.
use Rattle.std.specs.Prelude.{◌≡◌, [], ◌∷◌, Option, Some, None, false}
use Rattle.blob.specs.Records.{MediumView}
use Rattle.blob.specs.declared.sum.Sum256.{Sum256}
use Rattle.cta_site.specs.Listed.{rows}
use Rattle.cta_site.specs.declared.site.Site.{Site}
use Rattle.cta_model.specs.declared.answers.Answer.{Answer}
use Rattle.cta_model.specs.declared.answers.Answer.TheVariants as answer
use Rattle.cta_model.specs.declared.asks.Ask.{Ask}
use Rattle.cta_model.specs.declared.asks.Ask.TheVariants as ask
use Rattle.cta_model.specs.declared.asks.Direction.TheVariants as direction
use Rattle.cta_model.specs.declared.asks.Fate.TheVariants as fate
use Rattle.cta_model.specs.declared.asks.Item.{Item}
use Rattle.cta_model.specs.declared.entries.Actor.TheVariants as actor
use Rattle.cta_model.specs.declared.entries.Entry.{Entry}
use Rattle.cta_model.specs.declared.hands.Hand.{Hand}
use Rattle.cta_model.specs.History.{History}
use Rattle.media.specs.declared.mem_medium.MemMedium.{MemMedium}
use Rattle.media.specs.Memory.{mem_medium}
use Rattle.drive_session.specs.Answers.{is_asking}
use Rattle.drive_session.specs.Fits.{FitsState}
use Rattle.drive_session.specs.declared.session.Memo.{Memo}

-- the medium of the tape 0, with one record, which has this sum and is safe
abbrev pub one_record : Sum256 → MediumView
one_record s = record { label = 0; records = Some (record { records = s ∷ []; safe = 1 }) }

-- copy 1 of file 1, at fSeq 1
abbrev pub written_item : Sum256 → Item
written_item s = record { job = record { birth = 1; file = 1; copy = 1 }; fseq = 1; sum = s }

-- the recall of file 1, at fSeq 1
abbrev pub read_item : Sum256 → Item
read_item s = record { job = record { birth = 4; file = 1; copy = 0 }; fseq = 1; sum = s }

-- an entry of the drive 0
abbrev pub by_drive : Ask → Answer → Entry
by_drive k a = record { at = 0; actor = actor.Drive 0; ask = k; answer = a }

-- file 1 was put and mount 2 wrote it on tape 0; mount 4, which reads that tape, has asked for a batch and got this answer
abbrev pub history : Sum256 → Answer → History
history s a =
    by_drive (ask.Claim 4) a
    ∷ by_drive (ask.Next 0) (answer.Mounted 4 direction.Retrieve 0)
    ∷ by_drive (ask.Flushed 2 (rows (written_item s ∷ []))) (answer.Told (rows (fate.Done ∷ [])))
    ∷ by_drive (ask.Next 0) (answer.Mounted 2 direction.Archive 0)
    ∷ by_drive (ask.Put (record { requester = []; group = [] }) [] s) (answer.Stored (rows []))
    ∷ []

-- a session of the drive 0 without an open ask fits the history in which its mount got this answer
pub record Fits (site : Site) (s : Sum256) (a : Answer) (m : Memo MemMedium) : Type 0 where
  pub number : m.number ≡ 0
  pub kept : m.kept ≡ None
  pub still : is_asking m.asked ≡ false
  pub state : FitsState mem_medium site (history s a) 0 m.state

-- a Claim of the mount 4 is asked
abbrev pub IsClaim : Option (Ask × Hand MemMedium) → Type 0
IsClaim (Some (ask.Claim m, k)) = m ≡ 4
IsClaim _ = ⊥
