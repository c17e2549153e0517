use Rattle.std.proofs.Common.{◌≡◌, length}
use Rattle.wire_http.specs.Options.{has_option}
use Rattle.wire_http.proofs.options.has_option.Given as goal

abbrev pub invariant-options : goal.invariant-options
invariant-options l = has_option l.word l.rest ≡ has_option l.word l.value

abbrev pub decreases-options : goal.decreases-options
decreases-options l = length l.rest
