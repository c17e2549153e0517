-- The history, newest entry first. The oldest entry has number 1, so the number of an entry is 1 plus how many are older.
use Rattle.std.specs.Prelude.{ℕ, ◌+◌, max, length, List, [], ◌∷◌, Option, Some, None, Bool, true, false, if◌then◌else◌, ◌==◌, bytes_eq}
use Rattle.std.specs.List.{list_any, range_with_len}
use Rattle.cta_model.specs.declared.entries.Entry.{Entry}
use Rattle.cta_model.specs.declared.asks.Ask.{Ask}
use Rattle.cta_model.specs.declared.asks.Ask.TheVariants as ask
use Rattle.cta_model.specs.declared.answers.Answer.{Answer}
use Rattle.cta_model.specs.declared.answers.Answer.TheVariants as answer

-- a history is the list of accepted asks with their answers, newest first
abbrev pub History : Type 0
History = List Entry

-- the number of the entry that comes next
abbrev pub next_number : History → ℕ
next_number h = length h + 1

-- the numbers of the entries, from 1
abbrev pub entry_numbers : History → List ℕ
entry_numbers h = range_with_len 1 (length h)

-- the entry of this number
abbrev pub entry_of : History → ℕ → Option Entry
entry_of [] n = None
entry_of (e ∷ h) n = if n == next_number h then Some e else entry_of h n

-- ---- moments

-- the moment of the newest entry
abbrev pub last_moment : History → ℕ
last_moment [] = 0
last_moment (e ∷ h) = e.at

-- the moment of an entry, 0 where there is no entry
abbrev pub moment_by : Option Entry → ℕ
moment_by None = 0
moment_by (Some e) = e.at

-- the moment of a call that is given this one: moments never fall
abbrev pub moment_of : History → ℕ → ℕ
moment_of h t = max t (last_moment h)

-- ---- weight

-- how many elements the lists of an ask have
abbrev pub ask_elements : Ask → ℕ
ask_elements (ask.Stage who files) = length files.items
ask_elements (ask.Cancel who id paths) = length paths.items
ask_elements (ask.Release who id paths) = length paths.items
ask_elements (ask.Flushed m items) = length items.items
ask_elements (ask.Failed m fault charged returned) = length charged.items + length returned.items
ask_elements (ask.Retry who paths) = length paths.items
ask_elements _ = 0

-- how many elements the lists of an accepted answer have
abbrev pub answer_elements : Answer → ℕ
answer_elements (answer.Stored evicted) = length evicted.items
answer_elements (answer.Batch items evicted) = length items.items + length evicted.items
answer_elements (answer.Told fates) = length fates.items
answer_elements (answer.Repacking id items) = length items.items
answer_elements (answer.Retried jobs) = length jobs.items
answer_elements _ = 0

-- an entry weighs 1, and 1 for each element of its lists
abbrev pub weight_of_entry : Ask → Answer → ℕ
weight_of_entry k a = 1 + (ask_elements k + answer_elements a)

-- the weight of a history is the sum of its entries'
abbrev pub weight_of : History → ℕ
weight_of [] = 0
weight_of (e ∷ h) = weight_of_entry e.ask e.answer + weight_of h

-- ---- tests that other definitions make

-- whether it is this number
abbrev pub is_number : ℕ → Option ℕ → Bool
is_number n None = false
is_number n (Some m) = n == m

-- whether the number is in the list
abbrev pub has_number : ℕ → List ℕ → Bool
has_number n numbers = list_any (λ m. n == m) numbers

-- whether the text is in the list
abbrev pub has_text : List ℕ → List (List ℕ) → Bool
has_text text texts = list_any (λ t. bytes_eq text t) texts

-- whether the list has no element
abbrev pub is_empty : {A : Type 0} → List A → Bool
is_empty [] = true
is_empty (x ∷ xs) = false
