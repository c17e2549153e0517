use Rattle.std.proofs.Common.{arith}
use Rattle.replay.proofs.Parts.{same_words, no_word, Without-decimal}
use Rattle.replay.proofs.line.http_of.Goals as goal

pub returns-in_default : goal.returns-in_default
returns-in_default c = λ link moment len valid e. no_word 32 _ _ _ e c.in_default.ensures

pub returns-in_default-first_part : goal.returns-in_default-first_part
returns-in_default-first_part c = λ link moment len valid e.
    let s = same_words 32 _ _ _ _ (Without-decimal 32 link (omega arith) (omega arith)) c.in-Some.ensures.0 (rw c.in-Some.ensures.1 at e) in
    no_word 32 _ _ _ s.1 c.in_default-first_part.ensures

pub returns-in_default-number_of : goal.returns-in_default-number_of
returns-in_default-number_of c = λ link moment len valid e.
    let s = same_words 32 _ _ _ _ (Without-decimal 32 link (omega arith) (omega arith)) c.in-Some.ensures.0 (rw c.in-Some.ensures.1 at e) in
    c.in_default-number_of.ensures link (omega arith) s.0

pub returns-in_default-number_of-2 : goal.returns-in_default-number_of-2
returns-in_default-number_of-2 c = λ link moment len valid e.
    let s = same_words 32 _ _ _ _ (Without-decimal 32 link (omega arith) (omega arith)) c.in-Some.ensures.0 (rw c.in-Some.ensures.1 at e) in
    let t = same_words 32 _ _ _ _ (Without-decimal 32 moment (omega arith) (omega arith)) c.in-Some-first_part.ensures.0 (rw c.in-Some-first_part.ensures.1 at s.1) in
    c.in_default-number_of-2.ensures moment (omega arith) t.0

pub returns-in_default-number_of-3 : goal.returns-in_default-number_of-3
returns-in_default-number_of-3 c = λ link moment len valid e.
    let s = same_words 32 _ _ _ _ (Without-decimal 32 link (omega arith) (omega arith)) c.in-Some.ensures.0 (rw c.in-Some.ensures.1 at e) in
    let t = same_words 32 _ _ _ _ (Without-decimal 32 moment (omega arith) (omega arith)) c.in-Some-first_part.ensures.0 (rw c.in-Some-first_part.ensures.1 at s.1) in
    c.in_default-number_of-3.ensures len (omega arith) t.1
