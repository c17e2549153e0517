use Rattle.std.proofs.Common.{◌≡◌, map, drop}
use Rattle.std.specs.List.{list_all}
use Rattle.httparse.specs.Spans.{header_bytes}
use Rattle.wire_http.specs.Fields.{values, is_word}
use Rattle.wire_http.proofs.fields.all_are.Given as goal

abbrev pub invariant-loop-header : goal.invariant-loop-header
invariant-loop-header l =
    list_all (is_word l.word) (values l.name (map (header_bytes l.buf) (drop l.header-index l.headers)))
    ≡ list_all (is_word l.word) (values l.name (map (header_bytes l.buf) l.headers))
