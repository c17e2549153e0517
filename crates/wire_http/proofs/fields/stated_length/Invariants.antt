use Rattle.std.proofs.Common.{◌≡◌, true, map, drop}
use Rattle.std.specs.List.{list_all}
use Rattle.httparse.specs.Spans.{header_bytes}
use Rattle.wire_http.specs.Fields.{lengths, number, is_length}
use Rattle.wire_http.proofs.fields.stated_length.Given as goal

abbrev pub invariant-loop-header : goal.invariant-loop-header
invariant-loop-header l = record {
  same : number (lengths (map (header_bytes l.buf) (drop l.header-index l.headers))) ≡ number (lengths (map (header_bytes l.buf) l.headers));
  each : list_all is_length (lengths (map (header_bytes l.buf) (drop l.header-index l.headers))) ≡ true;
}
