-- A script, and how one that was cut somewhere reads.
use Rattle.std.specs.Prelude.{◌≡◌, ◌≢◌, ℕ, ◌≤◌, List, [], ◌∷◌, ◌++◌, length, codes}
use Rattle.std.specs.List.{flat_map, AllByRecursion}
use Rattle.cta_site.specs.declared.site.Site.{Site}
use Rattle.links.specs.Run.{Feed}
use Rattle.cta_site.specs.Bytes.{Without}
use Rattle.replay.specs.Line.{text, http_text, IsHttp, IsDriveStep, IsLine}
use Rattle.replay.specs.declared.line.ScriptLine.{ScriptLine}
use Rattle.replay.specs.declared.line.ScriptLine.TheVariants.{Step}

-- a line with its LF
abbrev pub ended : List ℕ → List ℕ
ended line = line ++ 10 ∷ []

-- the line of an `http` record, and those of its bytes that have come
abbrev pub feeding : ℕ → ℕ → ℕ → List ℕ → List ℕ
feeding link moment len held = ended (http_text link moment len) ++ held

-- these bytes for this link, at this moment
abbrev pub feed : ℕ → ℕ → List ℕ → Feed
feed link moment bytes = record { link = link; moment = moment; bytes = bytes }

-- a whole record of a script: bytes for a link, or a step of a drive, at a moment
pub data Record : Type 0 where
  OfLink : (bytes : Feed) → Record
  OfDrive : (drive moment : ℕ) → Record

-- the bytes of a record
abbrev pub spelling : Site → Record → List ℕ
spelling site (OfLink f) = feeding f.link f.moment (length f.bytes) f.bytes ++ 10 ∷ []
spelling site (OfDrive drive moment) = ended (text site (Step drive moment))

-- its numbers are in their ranges
abbrev pub IsRecord : Site → Record → Type 0
IsRecord site (OfLink f) = IsHttp f.link f.moment (length f.bytes)
IsRecord site (OfDrive drive moment) = IsDriveStep site drive moment

-- what stands behind the last whole record
pub data ScriptTail : Type 0 where
  -- the line `end`
  Ended : ScriptTail
  -- part of a line that no LF has ended
  InLine : (part : List ℕ) → ScriptTail
  -- an `http` record up to some of its bytes
  InBytes : (link moment len : ℕ) (held : List ℕ) → ScriptTail
  -- a line that is none of a script's
  BadLine : (line : List ℕ) → ScriptTail
  -- one byte more than a line may have
  LongLine : (part : List ℕ) → ScriptTail
  -- an `http` record with another byte where its last LF should stand
  NoLf : (link moment : ℕ) (bytes : List ℕ) (byte : ℕ) → ScriptTail

-- the bytes of a tail
abbrev pub tail_bytes : Site → ScriptTail → List ℕ
tail_bytes site Ended = ended (codes "end")
tail_bytes site (InLine part) = part
tail_bytes site (InBytes link moment len held) = feeding link moment len held
tail_bytes site (BadLine line) = ended line
tail_bytes site (LongLine part) = part
tail_bytes site (NoLf link moment bytes byte) = feeding link moment (length bytes) bytes ++ byte ∷ []

-- a tail that is what it says
abbrev pub IsScriptTail : Site → ScriptTail → Type 0
IsScriptTail site Ended = Unit {0}
IsScriptTail site (InLine part) = Without 10 part × (length part ≤ 256)
IsScriptTail site (InBytes link moment len held) = IsHttp link moment len × (length held ≤ len)
IsScriptTail site (BadLine line) = Without 10 line × (length line ≤ 256) × ((l : ScriptLine) → IsLine site l → text site l ≢ line)
IsScriptTail site (LongLine part) = Without 10 part × (length part ≡ 257)
IsScriptTail site (NoLf link moment bytes byte) = IsHttp link moment (length bytes) × (byte ≢ 10)

-- the bytes of a cut record come to its link as they are, as a record of their own would bring them
abbrev pub tail_records : ScriptTail → List Record
tail_records Ended = []
tail_records (InLine part) = []
tail_records (InBytes link moment len held) = OfLink (feed link moment held) ∷ []
tail_records (BadLine line) = []
tail_records (LongLine part) = []
tail_records (NoLf link moment bytes byte) = OfLink (feed link moment bytes) ∷ []

-- more may come
abbrev pub MayGoOn : ScriptTail → Type 0
MayGoOn Ended = ⊥
MayGoOn (InLine part) = Unit {0}
MayGoOn (InBytes link moment len held) = Unit {0}
MayGoOn (BadLine line) = ⊥
MayGoOn (LongLine part) = ⊥
MayGoOn (NoLf link moment bytes byte) = ⊥

-- no record goes on so, and this many bytes of the tail stand before the fault
abbrev pub IsRefusedAt : ScriptTail → ℕ → Type 0
IsRefusedAt Ended at = ⊥
IsRefusedAt (InLine part) at = ⊥
IsRefusedAt (InBytes link moment len held) at = ⊥
IsRefusedAt (BadLine line) at = at ≡ 0
IsRefusedAt (LongLine part) at = at ≡ 0
IsRefusedAt (NoLf link moment bytes byte) at = at ≡ length (feeding link moment (length bytes) bytes)

-- a script that was cut somewhere: its whole records, and what stands behind them
pub record ScriptCut : Type 0 where
  pub whole : List Record
  pub tail : ScriptTail

-- the bytes of whole records
abbrev pub whole_bytes : Site → List Record → List ℕ
whole_bytes site records = flat_map (spelling site) records

-- the bytes of a cut script
abbrev pub cut_bytes : Site → ScriptCut → List ℕ
cut_bytes site c = whole_bytes site c.whole ++ tail_bytes site c.tail

-- all that a cut script brings, the bytes of a cut record among it
abbrev pub cut_records : ScriptCut → List Record
cut_records c = c.whole ++ tail_records c.tail

-- each of its parts is what it says
abbrev pub IsScriptCut : Site → ScriptCut → Type 0
IsScriptCut site c = AllByRecursion (IsRecord site) c.whole × IsScriptTail site c.tail

-- a script is read in one way: of two cuts with the same bytes, both are one
abbrev pub HasOneReading : Site → Type 0
HasOneReading site = (c d : ScriptCut) → IsScriptCut site c → IsScriptCut site d → cut_bytes site c ≡ cut_bytes site d → c ≡ d
