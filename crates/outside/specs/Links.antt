-- What a link and a listener in memory show.
use Rattle.std.specs.Prelude.{ℕ, List, Bool, ◌==◌, ◌&&◌, length, Some, None, cond}
use Rattle.std.specs.declared.option.Option.{Option}
use Rattle.outside.specs.Memory.{source_left, source_faults, source_calls, source_failing}
use Rattle.outside.specs.declared.memory_link.MemLink.{MemLink}

-- the bytes that a link has left
abbrev pub link_left : MemLink → List ℕ
link_left l = source_left l.source

-- the bytes that were written to a link, as long as there was memory for them
abbrev pub link_written : MemLink → Option (List ℕ)
link_written l = cond l.tells (Some l.written.items) None

-- how often a link has failed at a read, and at a write
abbrev pub link_read_faults : MemLink → ℕ
link_read_faults l = source_faults l.source

abbrev pub link_write_faults : MemLink → ℕ
link_write_faults l = l.faults

-- how many reads and writes of a link were made
abbrev pub link_reads : MemLink → ℕ
link_reads l = source_calls l.source

abbrev pub link_writes : MemLink → ℕ
link_writes l = l.calls

-- the numbers of the reads and of the writes that a link is to fail at
abbrev pub link_failing_reads : MemLink → List ℕ
link_failing_reads l = source_failing l.source

abbrev pub link_failing_writes : MemLink → List ℕ
link_failing_writes l = l.failing.items

-- a link is firm exactly where it is to fail nowhere
abbrev pub link_firm : MemLink → Bool
link_firm l = (length (link_failing_reads l) == 0) && (length (link_failing_writes l) == 0)

-- whether a link was closed
abbrev pub link_closed : MemLink → Bool
link_closed l = l.closed
