use Rattle.std.proofs.Common.{◌-◌, ◌≡◌, ◌<◌, ◌≤◌, length, take}
use Rattle.outside.specs.Streams.{StillAppends}
use Rattle.link_loop.proofs.writing.write_blob.Given as goal

abbrev pub invariant-pieces : goal.invariant-pieces
invariant-pieces g l = record {
  buffer : 0 < length l.buffer;
  within : l.from ≤ l.len;
  written : StillAppends (g.L.Link.written l.fn.link) (g.L.Link.written l.link) (take l.from l.blob);
  writes : g.L.Link.write_faults l.fn.link ≤ g.L.Link.write_faults l.link;
  left : g.L.Link.left l.link ≡ g.L.Link.left l.fn.link;
  reads : g.L.Link.read_faults l.link ≡ g.L.Link.read_faults l.fn.link;
  firm : g.L.Link.firm l.link ≡ g.L.Link.firm l.fn.link;
}

abbrev pub decreases-pieces : goal.decreases-pieces
decreases-pieces g l = l.len - l.from
