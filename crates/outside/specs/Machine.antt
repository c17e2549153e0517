-- What the ends over std's readers, writers and connections show: the bytes that those tell, and counts of faults. A file, a standard
-- stream and a TCP connection tell no bytes.
use Rattle.std.specs.Prelude.{◌≡◌, ℕ, ◌/◌, List, None, option_and_then}
use Rattle.std.specs.declared.option.Option.{Option}
use Rattle.std.specs.declared.io.BufReader.{BufReader}
use Rattle.std.specs.declared.alloc.Global.{Global}
use Rattle.std.specs.Io.Buffered.{reader_remaining}
use Rattle.std.specs.declared.time.Duration.{Duration}
use Rattle.std.specs.declared.time.SystemTime.{SystemTime}
use Rattle.std.specs.Time.{system_time_nanos}
use Rattle.outside.specs.declared.stream_source.StreamSource.{StreamSource}
use Rattle.outside.specs.declared.stream_sink.StreamSink.{StreamSink}
use Rattle.outside.specs.declared.stream_link.StreamLink.{StreamLink}
use Rattle.outside.specs.declared.stream_door.StreamDoor.{StreamDoor}

-- the reader of a source, behind its buffer, where it has one
abbrev pub stream_reader : {R : Type 0} → StreamSource R → Option (BufReader R Global)
stream_reader s = s.reader

-- the bytes that a source has left: those that it holds, and then its reader's
abbrev pub stream_left : {R : Type 0} → (R → Option (List ℕ)) → StreamSource R → Option (List ℕ)
stream_left remaining s = option_and_then (reader_remaining remaining) s.reader

-- how often a source has failed
abbrev pub stream_read_faults : {R : Type 0} → StreamSource R → ℕ
stream_read_faults s = s.faults

-- the bytes that a sink's writer holds
abbrev pub stream_written : {W : Type 0} → (W → Option (List ℕ)) → StreamSink W → Option (List ℕ)
stream_written contents s = contents s.writer

-- how often a sink has failed
abbrev pub stream_write_faults : {W : Type 0} → StreamSink W → ℕ
stream_write_faults s = s.faults

-- a side of a link over std tells no bytes, before a call and after it
abbrev pub TellsNothing : Type 0
TellsNothing = ◌≡◌ {A = Option (List ℕ)} None None

-- the connection of a link, where it has one
abbrev pub connection : {S R : Type 0} → StreamLink S R → Option S
connection l = l.stream

-- the bytes that a link's connection has left
abbrev pub connection_left : {S R : Type 0} → (S → Option (List ℕ)) → StreamLink S R → Option (List ℕ)
connection_left remaining l = option_and_then remaining l.stream

-- the bytes that were written to a link's connection
abbrev pub connection_written : {S R : Type 0} → (S → Option (List ℕ)) → StreamLink S R → Option (List ℕ)
connection_written contents l = option_and_then contents l.stream

-- how often a link has failed at a read, and at a write
abbrev pub connection_read_faults : {S R : Type 0} → StreamLink S R → ℕ
connection_read_faults l = l.read_faults

abbrev pub connection_write_faults : {S R : Type 0} → StreamLink S R → ℕ
connection_write_faults l = l.write_faults

-- the listener of std under a door, where it has one
abbrev pub door_listener : {T R : Type 0} → StreamDoor T R → Option T
door_listener d = d.listener

-- how long the reads and writes of a door's links may wait
abbrev pub door_longest : {T R : Type 0} → StreamDoor T R → Duration
door_longest d = d.longest

-- how often a door has failed
abbrev pub door_faults : {T R : Type 0} → StreamDoor T R → ℕ
door_faults d = d.faults

-- the whole seconds from the begin of 1970 to a time
abbrev pub whole_seconds : SystemTime → ℕ
whole_seconds time = system_time_nanos time / 1_000_000_000
