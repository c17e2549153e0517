-- What is seen of the objects that a run is handed, at a moment.
use Rattle.std.specs.Prelude.{ℕ, ◌-◌, List, length, Option}
use Rattle.archive_opening.specs.Seen.{SourceView}

-- a sink: what was written to it, where it tells, and its count of faults
pub record SinkView : Type 0 where
  pub written : Option (List ℕ)
  pub faults : ℕ

-- a sink by its parts
abbrev pub sink_view : Option (List ℕ) → ℕ → SinkView
sink_view written faults = record { written = written; faults = faults }

-- a script: its source, and how many bytes of it were taken
pub record ScriptView : Type 0 where
  pub left : Option (List ℕ)
  pub taken : ℕ
  pub faults : ℕ

-- a script by its parts
abbrev pub script_view : Option (List ℕ) → ℕ → ℕ → ScriptView
script_view left taken faults = record { left = left; taken = taken; faults = faults }

-- a script of which nothing was taken yet
abbrev pub unread : SourceView → ScriptView
unread s = script_view s.left 0 s.faults

-- a script and what is written for it
pub record World : Type 0 where
  pub script : ScriptView
  pub out : SinkView

-- a world by its parts
abbrev pub world : ScriptView → SinkView → World
world script out = record { script = script; out = out }

-- a world as it was before these bytes were taken
abbrev pub begun : World → List ℕ → World
begun a front = world (record a.script { taken = a.script.taken - length front }) a.out
