-- Entries, moments and weights are the same without what mismatches have found.
use Rattle.std.proofs.Common.{refl, ◌∙◌, ◌≡◌, ◌∷◌, [], option_map, ℕ, Bool, true, false}
use Rattle.std.specs.Prelude.{◌+◌, max, length, Option, Some, None, if◌then◌else◌, ◌==◌}
use Rattle.std.specs.List.{range_with_len}
use Rattle.cta_model.specs.declared.entries.Entry.{Entry}
use Rattle.cta_model.specs.declared.asks.Ask.{Ask}
use Rattle.cta_model.specs.declared.asks.Ask.TheVariants as ask
use Rattle.cta_model.specs.declared.answers.Answer.{Answer}
use Rattle.std.proofs.lemmas.List.{length-map}
use Rattle.cta_model.specs.History.{History, answer_elements, ask_elements, entry_numbers, entry_of, last_moment, moment_by, moment_of, next_number, weight_of, weight_of_entry}
use Rattle.mismatch_laws.specs.Alike.{ask_without_found, entry_without_found, history_without_found}

length_same : (h : History) → length (history_without_found h) ≡ length h
length_same h = length-map h entry_without_found

pub next_number_same : (h : History) → next_number (history_without_found h) ≡ next_number h
next_number_same h = λ i. length_same h i + 1

pub entry_numbers_same : (h : History) → entry_numbers (history_without_found h) ≡ entry_numbers h
entry_numbers_same h = λ i. range_with_len 1 (length_same h i)

push_same : (b : Bool) (e : Entry) (o : Option Entry) → (if b then Some (entry_without_found e) else option_map entry_without_found o) ≡ option_map entry_without_found (if b then Some e else o)
push_same true e o = refl
push_same false e o = refl

pub entry_of_same : (h : History) (n : ℕ) → entry_of (history_without_found h) n ≡ option_map entry_without_found (entry_of h n)
entry_of_same [] n = refl
entry_of_same (e ∷ h) n = (λ i. if n == next_number_same h i then Some (entry_without_found e) else entry_of_same h n i) ∙ push_same (n == next_number h) e (entry_of h n)

pub last_moment_same : (h : History) → last_moment (history_without_found h) ≡ last_moment h
last_moment_same [] = refl
last_moment_same (e ∷ h) = refl

pub moment_by_same : (o : Option Entry) → moment_by (option_map entry_without_found o) ≡ moment_by o
moment_by_same None = refl
moment_by_same (Some e) = refl

pub moment_of_same : (h : History) (t : ℕ) → moment_of (history_without_found h) t ≡ moment_of h t
moment_of_same h t = λ z. max t (last_moment_same h z)

pub ask_elements_same : (k : Ask) → ask_elements (ask_without_found k) ≡ ask_elements k
ask_elements_same (ask.Stage who files) = refl
ask_elements_same (ask.Cancel who id paths) = refl
ask_elements_same (ask.Release who id paths) = refl
ask_elements_same (ask.Flushed m items) = refl
ask_elements_same (ask.Failed m fault charged returned) = refl
ask_elements_same (ask.Retry who paths) = refl
ask_elements_same _ = refl

pub weight_of_entry_same : (k : Ask) (a : Answer) → weight_of_entry (ask_without_found k) a ≡ weight_of_entry k a
weight_of_entry_same k a = λ z. 1 + ((ask_elements_same k z) + answer_elements a)

pub weight_of_same : (h : History) → weight_of (history_without_found h) ≡ weight_of h
weight_of_same [] = refl
weight_of_same (e ∷ h) = λ z. (weight_of_entry_same e.ask e.answer z) + (weight_of_same h z)
