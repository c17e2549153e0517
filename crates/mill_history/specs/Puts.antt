-- What a history says of Puts.
use Rattle.std.specs.Prelude.{ℕ, List, [], ◌∷◌, Option, Some, None, if◌then◌else◌, bytes_eq, map}
use Rattle.blob.specs.declared.sum.Sum256.{Sum256}
use Rattle.cta_model.specs.declared.entries.Entry.{Entry}
use Rattle.cta_model.specs.declared.asks.Ask.{Ask}
use Rattle.cta_model.specs.declared.asks.Ask.TheVariants as ask
use Rattle.cta_model.specs.History.{History, next_number, entry_of}
use Rattle.cta_model.specs.Buffer.{evicted_in}

-- the path and the sum of a Put
abbrev pub put_in : Ask → Option (List ℕ × Sum256)
put_in (ask.Put who path sum) = Some (path, sum)
put_in _ = None

-- a Put of this path joins those before it
abbrev pub puts_by : Option (List ℕ × Sum256) → ℕ → List ℕ → List (ℕ × Sum256) → List (ℕ × Sum256)
puts_by None n path before = before
puts_by (Some p) n path before = if bytes_eq p.0 path then (n, p.1) ∷ before else before

-- the Puts of a path, newest first: the number of each, and the sum that it put
abbrev pub puts_of : History → List ℕ → List (ℕ × Sum256)
puts_of [] path = []
puts_of (e ∷ h) path = puts_by (put_in e.ask) (next_number h) path (puts_of h path)

-- the numbers of Puts
abbrev pub numbers_of : List (ℕ × Sum256) → List ℕ
numbers_of puts = map (λ (p : ℕ × Sum256). p.0) puts

-- the files that an entry lists as evicted, none where there is no entry
abbrev pub evicted_by : Option Entry → List ℕ
evicted_by None = []
evicted_by (Some e) = evicted_in e.ask e.answer

-- the files that the entry of this number lists as evicted
abbrev pub evicted_at : History → ℕ → List ℕ
evicted_at h n = evicted_by (entry_of h n)
