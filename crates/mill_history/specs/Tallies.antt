-- What the history of a mill's run tells.
use Rattle.std.specs.Prelude.{ℕ, ◌≡◌, ◌≢◌, ◌<◌, List, [], ◌∷◌, length, true, get_or, Some, slice_get}
use Rattle.blob.specs.declared.sum.Sum256.{Sum256}
use Rattle.cta_model.specs.History.{History, has_number}
use Rattle.load_mill.specs.Files.{big_path, file_path}
use Rattle.mill_history.specs.Paths.{IsMillPath, file_paths}
use Rattle.mill_history.specs.Puts.{puts_of, numbers_of, evicted_at}
use Rattle.mill_history.specs.Stages.{stages_of}
use Rattle.mill_history.specs.Counts.{done_items, completed_recalls}

-- each file with one of these sums was put once, with its path and sum, these are the numbers of their Puts, and no path was put but theirs
-- and the big one
pub record ArePut (h : History) (sums : List Sum256) (numbers : List ℕ) : Type 0 where
  pub count : length numbers ≡ length sums
  pub puts : (k : ℕ) (s : Sum256) → slice_get sums k ≡ Some s → puts_of h (file_path k) ≡ (get_or numbers k 0, s) ∷ []
  pub others : (path : List ℕ) → puts_of h path ≢ [] → IsMillPath path (length sums)

-- the one Put of the big path lists each of these files as evicted
pub record AreEvicted (h : History) (numbers : List ℕ) : Type 0 where
  pub big : ℕ
  pub put : numbers_of (puts_of h big_path) ≡ big ∷ []
  pub evicted : (k : ℕ) → k < length numbers → has_number (get_or numbers k 0) (evicted_at h big) ≡ true

-- the files with these sums were put once and evicted for the big one; one Stage, the request, names them all in order; and so many of their
-- flushed items were done, and so many of their recalls completed
pub record IsTallied (h : History) (sums : List Sum256) (request archived recalled : ℕ) : Type 0 where
  pub numbers : List ℕ
  pub puts : ArePut h sums numbers
  pub evicted : AreEvicted h numbers
  pub staged : stages_of h ≡ (request, file_paths (length sums)) ∷ []
  pub flushed : archived ≡ length (done_items numbers h)
  pub completed : recalled ≡ length (completed_recalls numbers h)
