-- Records: what is kept of an entry, as bytes.
use Rattle.std.specs.Prelude.{ℕ, List, [], ◌∷◌, ◌++◌, length}
use Rattle.std.specs.Arc.{arc_value}
use Rattle.std.specs.declared.alloc.Global.{Global}
use Rattle.std.specs.declared.sync.Arc.{Arc}
use Rattle.record_fields.specs.Numbers.{number, long_number, IsNumber, IsLong}
use Rattle.record_fields.specs.Lists.{option_before, OptionFits}
use Rattle.record_fields.specs.Values.{who_before, WhoFits}
use Rattle.cta_model.specs.declared.entries.Actor.{Actor}
use Rattle.cta_model.specs.declared.entries.Actor.TheVariants as actor
use Rattle.cta_model.specs.declared.entries.Entry.{Entry}
use Rattle.cta_records.specs.Asks.{ask_before, AskFits}
use Rattle.cta_records.specs.Answers.{answer_before, AnswerFits}
use Rattle.cta_records.specs.declared.kept.Kept.{Kept}

-- who made an entry: a byte 0 and the number of a drive, or a byte 1 and who asked
abbrev pub actor_before : Actor → List ℕ → List ℕ
actor_before (actor.Drive drive) rest = 0 ∷ number drive rest
actor_before (actor.Caller who) rest = 1 ∷ who_before who rest

abbrev pub ActorFits : Actor → Type 0
ActorFits (actor.Drive drive) = IsNumber drive
ActorFits (actor.Caller who) = WhoFits who

-- an entry: its moment, its actor, its ask and its answer
abbrev pub entry_before : Entry → List ℕ → List ℕ
entry_before entry rest = long_number entry.at (actor_before entry.actor (ask_before entry.ask (answer_before entry.answer rest)))

abbrev pub EntryFits : Entry → Type 0
EntryFits entry = IsLong entry.at × ActorFits entry.actor × AskFits entry.ask × AnswerFits entry.answer

-- a content: its length in eight bytes, and its bytes
abbrev pub content : List ℕ → List ℕ → List ℕ
content bytes rest = long_number (length bytes) (bytes ++ rest)

abbrev pub ContentFits : List ℕ → Type 0
ContentFits bytes = IsLong (length bytes)

-- the content of a blob
abbrev pub content_before : Arc (List ℕ) Global → List ℕ → List ℕ
content_before blob rest = content (arc_value blob) rest

abbrev pub BlobFits : Arc (List ℕ) Global → Type 0
BlobFits blob = ContentFits (arc_value blob)

-- the body of a record: the entry, and the content if there is one
abbrev pub kept_before : Kept → List ℕ → List ℕ
kept_before kept rest = entry_before kept.entry (option_before content_before kept.blob rest)

abbrev pub PartsFit : Kept → Type 0
PartsFit kept = EntryFits kept.entry × OptionFits BlobFits kept.blob

abbrev pub body_of : Kept → List ℕ
body_of kept = kept_before kept []

-- a record: the length of its body in eight bytes, and the body
abbrev pub record_of : Kept → List ℕ
record_of kept = long_number (length (body_of kept)) (body_of kept)

-- it has a record: its numbers, texts and lists have the widths that they are given
abbrev pub KeptFits : Kept → Type 0
KeptFits kept = PartsFit kept × IsLong (length (body_of kept))
