-- Files. A file is named by the number of its Put.
use Rattle.std.specs.Prelude.{ℕ, List, [], ◌∷◌, Option, Some, None, Bool, if◌then◌else◌, bytes_eq, filter}
use Rattle.std.specs.List.{range_with_len}
use Rattle.cta_site.specs.declared.site.Site.{Site}
use Rattle.cta_site.specs.Lookups.{copies_of}
use Rattle.blob.specs.declared.sum.Sum256.{Sum256}
use Rattle.cta_model.specs.declared.entries.Entry.{Entry}
use Rattle.cta_model.specs.declared.asks.Ask.{Ask}
use Rattle.cta_model.specs.declared.asks.Ask.TheVariants as ask
use Rattle.cta_model.specs.History.{History, next_number, entry_numbers, entry_of, is_number}

-- what a path names after the ask of the entry of this number
abbrev pub live_after : Ask → ℕ → List ℕ → Option ℕ → Option ℕ
live_after (ask.Put who put sum) n path before = if bytes_eq put path then Some n else before
live_after (ask.Delete who gone) n path before = if bytes_eq gone path then None else before
live_after _ n path before = before

-- the file that a path names: its last Put that no later Delete of the path follows
abbrev pub live_file : History → List ℕ → Option ℕ
live_file [] path = None
live_file (e ∷ h) path = live_after e.ask (next_number h) path (live_file h path)

-- the path of a Put, empty for any other ask
abbrev pub path_in : Ask → List ℕ
path_in (ask.Put who path sum) = path
path_in _ = []

-- the path in the Put of an entry, empty where there is no entry or it has another ask
abbrev pub entry_path : Option Entry → List ℕ
entry_path None = []
entry_path (Some e) = path_in e.ask

-- the path in a file's Put
abbrev pub path_of : History → ℕ → List ℕ
path_of h f = entry_path (entry_of h f)

-- the length and SHA-256 of a Put, 0 and empty for any other ask
abbrev pub sum_in : Ask → Sum256
sum_in (ask.Put who path sum) = sum
sum_in _ = record { len = 0; digest = [] }

-- the length and SHA-256 in the Put of an entry, 0 and empty where there is no entry or it has another ask
abbrev pub entry_sum : Option Entry → Sum256
entry_sum None = record { len = 0; digest = [] }
entry_sum (Some e) = sum_in e.ask

-- the length and SHA-256 in a file's Put
abbrev pub sum_of : History → ℕ → Sum256
sum_of h f = entry_sum (entry_of h f)

-- a file's size in bytes
abbrev pub size_of : History → ℕ → ℕ
size_of h f = (sum_of h f).len

-- a file is live where its path names it
abbrev pub is_live : History → ℕ → Bool
is_live h f = is_number f (live_file h (path_of h f))

-- how many copies the class of a file has
abbrev pub copies_of_file : Site → History → ℕ → ℕ
copies_of_file site h f = copies_of site (path_of h f)

-- the numbers of a file's copies, from 1
abbrev pub copy_numbers : Site → History → ℕ → List ℕ
copy_numbers site h f = range_with_len 1 (copies_of_file site h f)

-- the live files, in the order of their Puts
abbrev pub live_files : History → List ℕ
live_files h = filter (is_live h) (entry_numbers h)
