-- The files in the buffer are the same without what mismatches have found.
use Rattle.std.proofs.Common.{refl, ◌≡◌, ◌∷◌, [], ℕ}
use Rattle.std.specs.Prelude.{None, is_some, if◌then◌else◌}
use Rattle.cta_model.specs.declared.asks.Ask.{Ask}
use Rattle.cta_model.specs.declared.asks.Ask.TheVariants as ask
use Rattle.cta_model.specs.declared.answers.Answer.{Answer}
use Rattle.cta_model.specs.declared.answers.Answer.TheVariants as answer
use Rattle.cta_model.specs.declared.asks.Fate.TheVariants as fate
use Rattle.cta_model.specs.History.{History, has_number}
use Rattle.cta_model.specs.Buffer.{arrival_after, arrival_of, brings_in, evicted_in, evicts, is_resident, last_arrival}
use Rattle.mismatch_laws.specs.Alike.{ask_without_found, history_without_found}
use Rattle.mismatch_laws.proofs.History.{next_number_same}
use Rattle.mismatch_laws.proofs.Files.{is_live_same}

pub brings_in_same : (k : Ask) (a : Answer) (n : ℕ) (f : ℕ) → brings_in (ask_without_found k) a n f ≡ brings_in k a n f
brings_in_same (ask.Put who path sum) a n f = refl
brings_in_same (ask.Recalled m job) (answer.Arrived fate.Done) n f = refl
brings_in_same _ _ n f = refl

pub evicted_in_same : (k : Ask) (a : Answer) → evicted_in (ask_without_found k) a ≡ evicted_in k a
evicted_in_same (ask.Put who path sum) (answer.Stored evicted) = refl
evicted_in_same (ask.Claim m) (answer.Batch items evicted) = refl
evicted_in_same _ _ = refl

pub evicts_same : (k : Ask) (a : Answer) (f : ℕ) → evicts (ask_without_found k) a f ≡ evicts k a f
evicts_same k a f = λ z. has_number f (evicted_in_same k a z)

pub last_arrival_same : (h : History) (f : ℕ) → last_arrival (history_without_found h) f ≡ last_arrival h f
last_arrival_same [] f = refl
last_arrival_same (e ∷ h) f = λ z. arrival_after (brings_in_same e.ask e.answer (next_number_same h z) f z) (evicts_same e.ask e.answer f z) (next_number_same h z) (last_arrival_same h f z)

pub arrival_of_same : (h : History) (f : ℕ) → arrival_of (history_without_found h) f ≡ arrival_of h f
arrival_of_same h f = λ z. if (is_live_same h f z) then (last_arrival_same h f z) else None

pub is_resident_same : (h : History) (f : ℕ) → is_resident (history_without_found h) f ≡ is_resident h f
is_resident_same h f = λ z. is_some (arrival_of_same h f z)
