-- Answers that are refusals.
use Rattle.std.proofs.Common.{◌≡◌, not, refl, sym, ap}
use Rattle.std.specs.Prelude.{Option, Some, None, is_none, is_some}
use Rattle.cta_model.specs.declared.answers.Answer.{Answer}
use Rattle.cta_model.specs.declared.answers.Answer.TheVariants as answer
use Rattle.cta_model.specs.declared.answers.Refusal.{Refusal}
use Rattle.archive.specs.Refusals.{refusal_of}

-- an answer that is this refusal
pub is_refused : (a : Answer) (r : Refusal) → refusal_of a ≡ Some r → answer.Refused r ≡ a
is_refused (answer.Refused q) r is = ap answer.Refused (inner r q (sym is))
  where
    inner : (x y : Refusal) → Some x ≡ Some y → x ≡ y
    inner x y e = cc
is_refused _ r is = absurd (cc)

pub none_is : {A : Type 0} (o : Option A) → not (is_some o) ≡ is_none o
none_is None = refl
none_is (Some x) = refl
