-- What a source and a sink in memory show: their bytes, their counts, and the calls that they are to fail at.
use Rattle.std.specs.Prelude.{ℕ, List, drop}
use Rattle.outside.specs.declared.memory_source.MemSource.{MemSource}
use Rattle.outside.specs.declared.memory_sink.MemSink.{MemSink}

-- the bytes that a source has left
abbrev pub source_left : MemSource → List ℕ
source_left s = drop s.at s.bytes.items

-- how often a source has failed
abbrev pub source_faults : MemSource → ℕ
source_faults s = s.faults

-- how many reads of a source were made
abbrev pub source_calls : MemSource → ℕ
source_calls s = s.calls

-- the numbers of the reads that a source is to fail at
abbrev pub source_failing : MemSource → List ℕ
source_failing s = s.failing.items

-- the bytes that a sink holds
abbrev pub sink_written : MemSink → List ℕ
sink_written s = s.bytes.items

-- how often a sink has failed
abbrev pub sink_faults : MemSink → ℕ
sink_faults s = s.faults

-- how many writes of a sink were made
abbrev pub sink_calls : MemSink → ℕ
sink_calls s = s.calls

-- the numbers of the writes that a sink is to fail at
abbrev pub sink_failing : MemSink → List ℕ
sink_failing s = s.failing.items
