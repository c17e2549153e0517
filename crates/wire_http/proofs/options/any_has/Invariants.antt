use Rattle.std.proofs.Common.{◌≡◌, map, drop}
use Rattle.std.specs.List.{list_any}
use Rattle.httparse.specs.Spans.{header_bytes}
use Rattle.wire_http.specs.Fields.{values}
use Rattle.wire_http.specs.Options.{has_option}
use Rattle.wire_http.proofs.options.any_has.Given as goal

abbrev pub invariant-loop-header : goal.invariant-loop-header
invariant-loop-header l =
    list_any (has_option l.word) (values l.name (map (header_bytes l.buf) (drop l.header-index l.headers)))
    ≡ list_any (has_option l.word) (values l.name (map (header_bytes l.buf) l.headers))
