use Rattle.std.proofs.Common.{◌≡◌, ◌≤◌, false, subst, arith}
use Rattle.std.specs.Prelude.{IsTrue}
use Rattle.cta_words.proofs.Spelled.{one_number}
use Rattle.cta_words.proofs.numbers.number_in.Goals as goal

pub returns-else-is_within : goal.returns-else-is_within
returns-else-is_within c = λ n s.
    let same : n ≡ c.in-Some.n = one_number c.args.text.now c.args.least c.args.most c.in-Some.n n (omega arith) (omega arith) c.in-Some.ensures s in
    let no : IsTrue false = c.if-is_within.ensures.1 (subst (λ m. c.args.least ≤ m) same s.0, subst (λ m. m ≤ c.args.most) same s.1) in
    cc
