use Rattle.std.proofs.Common.{◌≡◌, ◌+◌, ◌≤◌, length, map, drop}
use Rattle.httparse.specs.Spans.{header_bytes}
use Rattle.wire_http.specs.Fields.{values}
use Rattle.wire_http.proofs.fields.count_of.Given as goal

abbrev pub invariant-loop-header : goal.invariant-loop-header
invariant-loop-header l = record {
  within : l.count ≤ l.header-index;
  rest : l.count + length (values l.name (map (header_bytes l.buf) (drop l.header-index l.headers))) ≡ length (values l.name (map (header_bytes l.buf) l.headers));
}
