use Rattle.std.proofs.Common.{◌≡◌, map, drop}
use Rattle.httparse.specs.Spans.{header_bytes}
use Rattle.wire_http.specs.Fields.{values, first_of}
use Rattle.wire_http.proofs.fields.first_of.Given as goal

abbrev pub invariant-loop-header : goal.invariant-loop-header
invariant-loop-header l =
    first_of (values l.name (map (header_bytes l.buf) (drop l.header-index l.headers)))
    ≡ first_of (values l.name (map (header_bytes l.buf) l.headers))
