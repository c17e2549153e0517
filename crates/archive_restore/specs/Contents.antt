-- Which content a record has; and a table of contents, by the numbers of their files.
use Rattle.std.specs.Prelude.{◌≡◌, ℕ, ◌+◌, List, length, Option, Some, None, Bool, true, false, option_map}
use Rattle.std.specs.List.{slice_index_or}
use Rattle.std.specs.Arc.{arc_value}
use Rattle.std.specs.declared.alloc.Global.{Global}
use Rattle.std.specs.declared.sync.Arc.{Arc}
use Rattle.blob.specs.declared.blobs.Blob.{Blob}
use Rattle.blob.specs.declared.sum.Sum256.{Sum256}
use Rattle.cta_model.specs.declared.entries.Entry.{Entry}
use Rattle.cta_model.specs.declared.asks.Ask.{Ask}
use Rattle.cta_model.specs.declared.asks.Ask.TheVariants as ask
use Rattle.cta_model.specs.declared.asks.Fate.TheVariants as fate
use Rattle.cta_model.specs.declared.answers.Answer.{Answer}
use Rattle.cta_model.specs.declared.answers.Answer.TheVariants as answer
use Rattle.cta_model.specs.Files.{sum_of}
use Rattle.cta_model.specs.Hands.{sum_of_blob}
use Rattle.cta_model.specs.History.{History, entry_of}

-- the length and SHA-256 of the content that an entry's record has: that of a Put's own, and that of the file of a Recalled which was told Done; any other record has no content
abbrev pub content_sum : History → Ask → Answer → Option Sum256
content_sum h (ask.Put who path sum) a = Some sum
content_sum h (ask.Recalled m job) (answer.Arrived fate.Done) = Some (sum_of h job.file)
content_sum h _ _ = None

-- the length and SHA-256 in a Put, none in any other ask
abbrev pub put_sum : Ask → Option Sum256
put_sum (ask.Put who path sum) = Some sum
put_sum _ = None

-- the length and SHA-256 in the Put of an entry, none where there is no entry or it has another ask
abbrev pub put_sum_by : Option Entry → Option Sum256
put_sum_by None = None
put_sum_by (Some e) = put_sum e.ask

-- the content at a place, none where there is none or no such place
abbrev pub content_at : List (Option (Arc Blob Global)) → ℕ → Option (Arc Blob Global)
content_at contents f = slice_index_or contents f None

-- what is kept of an ask that came with this content, if with one: the content of a Put
abbrev pub IsPutContent : Ask → Option (Arc Blob Global) → Option (Arc Blob Global) → Type 0
IsPutContent (ask.Put who path sum) blob kept = option_map arc_value kept ≡ option_map arc_value blob
IsPutContent _ blob kept = kept ≡ None

-- the table has the content of each file of the history at the place of its Put's number, and no other; place 0 is of no file
pub record AreContents (h : History) (contents : List (Option (Arc Blob Global))) : Type 0 where
  pub count : length contents ≡ length h + 1
  pub each : (f : ℕ) → option_map sum_of_blob (content_at contents f) ≡ put_sum_by (entry_of h f)

-- no entry of this number is a Put
abbrev pub IsUnput : History → ℕ → Type 0
IsUnput h f = put_sum_by (entry_of h f) ≡ None

-- the ask is a Recalled of a file that was not put
abbrev pub IsOfUnput : History → Ask → Type 0
IsOfUnput h (ask.Recalled m job) = IsUnput h job.file
IsOfUnput h _ = ⊥

-- true: this is the sum of the file; false: it isn't, or the file was not put
abbrev pub HasSumOf : Bool → History → ℕ → Option Sum256 → Type 0
HasSumOf true h f sum = sum ≡ Some (sum_of h f)
HasSumOf false h f sum = sum ≡ Some (sum_of h f) → IsUnput h f

-- true: this is the sum of the content that the record of an entry is to have; false: it isn't, or the entry is of a Recalled of a file that was not put
abbrev pub HasContent : Bool → History → Ask → Answer → Option Sum256 → Type 0
HasContent true h k a sum = sum ≡ content_sum h k a
HasContent false h k a sum = sum ≡ content_sum h k a → IsOfUnput h k
