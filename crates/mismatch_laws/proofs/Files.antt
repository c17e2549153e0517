-- Files are the same without what mismatches have found.
use Rattle.std.proofs.Common.{refl, ap, ◌∙◌, ◌≡◌, ◌∷◌, [], List, option_map, ℕ}
use Rattle.std.specs.Prelude.{Option, Some, None, filter}
use Rattle.std.specs.List.{range_with_len}
use Rattle.cta_site.specs.declared.site.Site.{Site}
use Rattle.cta_site.specs.Lookups.{copies_of}
use Rattle.cta_model.specs.declared.entries.Entry.{Entry}
use Rattle.cta_model.specs.declared.asks.Ask.{Ask}
use Rattle.cta_model.specs.declared.asks.Ask.TheVariants as ask
use Rattle.cta_model.specs.History.{History, entry_of, is_number}
use Rattle.cta_model.specs.Files.{copies_of_file, copy_numbers, entry_path, entry_sum, is_live, live_after, live_file, live_files, path_in, path_of, size_of, sum_in, sum_of}
use Rattle.mismatch_laws.specs.Alike.{ask_without_found, entry_without_found, history_without_found}
use Rattle.mismatch_laws.proofs.History.{entry_numbers_same, entry_of_same, next_number_same}

pub live_after_same : (k : Ask) (n : ℕ) (path : List ℕ) (before : Option ℕ) → live_after (ask_without_found k) n path before ≡ live_after k n path before
live_after_same (ask.Put who put sum) n path before = refl
live_after_same (ask.Delete who gone) n path before = refl
live_after_same _ n path before = refl

pub live_file_same : (h : History) (path : List ℕ) → live_file (history_without_found h) path ≡ live_file h path
live_file_same [] path = refl
live_file_same (e ∷ h) path = λ z. live_after_same e.ask (next_number_same h z) path (live_file_same h path z) z

pub path_in_same : (k : Ask) → path_in (ask_without_found k) ≡ path_in k
path_in_same (ask.Put who path sum) = refl
path_in_same _ = refl

pub entry_path_same : (o : Option Entry) → entry_path (option_map entry_without_found o) ≡ entry_path o
entry_path_same None = refl
entry_path_same (Some e) = λ z. path_in_same e.ask z

pub path_of_same : (h : History) (f : ℕ) → path_of (history_without_found h) f ≡ path_of h f
path_of_same h f = ap entry_path (entry_of_same h f) ∙ entry_path_same (entry_of h f)

pub sum_in_same : (k : Ask) → sum_in (ask_without_found k) ≡ sum_in k
sum_in_same (ask.Put who path sum) = refl
sum_in_same _ = refl

pub entry_sum_same : (o : Option Entry) → entry_sum (option_map entry_without_found o) ≡ entry_sum o
entry_sum_same None = refl
entry_sum_same (Some e) = λ z. sum_in_same e.ask z

pub sum_of_same : (h : History) (f : ℕ) → sum_of (history_without_found h) f ≡ sum_of h f
sum_of_same h f = ap entry_sum (entry_of_same h f) ∙ entry_sum_same (entry_of h f)

pub size_of_same : (h : History) (f : ℕ) → size_of (history_without_found h) f ≡ size_of h f
size_of_same h f = λ z. (sum_of_same h f z).len

pub is_live_same : (h : History) (f : ℕ) → is_live (history_without_found h) f ≡ is_live h f
is_live_same h f = λ z. is_number f (live_file_same h (path_of_same h f z) z)

pub copies_of_file_same : (site : Site) (h : History) (f : ℕ) → copies_of_file site (history_without_found h) f ≡ copies_of_file site h f
copies_of_file_same site h f = λ z. copies_of site (path_of_same h f z)

pub copy_numbers_same : (site : Site) (h : History) (f : ℕ) → copy_numbers site (history_without_found h) f ≡ copy_numbers site h f
copy_numbers_same site h f = λ z. range_with_len 1 (copies_of_file_same site h f z)

pub live_files_same : (h : History) → live_files (history_without_found h) ≡ live_files h
live_files_same h = λ z. filter (λ z1. is_live_same h z1 z) (entry_numbers_same h z)
