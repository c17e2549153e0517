use Rattle.std.proofs.Common.{◌≡◌, ◌++◌, drop}
use Rattle.cta_site.specs.Keys.{closed_text}
use Rattle.cta_site.proofs.keys.closed_text.Given as goal

abbrev pub invariant-loop-byte : goal.invariant-loop-byte
invariant-loop-byte l = l.bytes.items ++ closed_text (drop l.byte-index l.text) ≡ closed_text l.text
