use Rattle.std.proofs.Common.{[], unwrap_or, sym, ap}
use Rattle.wire_http.proofs.Codes.{no_phrase}
use Rattle.wire_http.proofs.phrases.phrase.Goals as goal

pub returns-in-Err : goal.returns-in-Err
returns-in-Err c = sym (ap (λ p. unwrap_or p []) (no_phrase c.args.code c.in-Err.ensures))
