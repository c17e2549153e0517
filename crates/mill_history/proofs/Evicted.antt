-- The files that were evicted for the big one.
use Rattle.std.specs.Prelude.{ℕ, ◌≡◌, List, [], ◌∷◌, Some, Bool, true, false, get_or}
use Rattle.std.specs.List.{list_all}
use Rattle.std.proofs.Common.{ap, sym, ◌∙◌}
use Rattle.std.proofs.lemmas.Bool.{true_from_ne_false, false≢true}
use Rattle.std.proofs.lemmas.List.Folds.{list_all_at}
use Rattle.cta_model.specs.declared.entries.Entry.{Entry}
use Rattle.cta_model.specs.History.{History, entry_of, has_number}
use Rattle.cta_model.specs.Buffer.{evicted_in}
use Rattle.load_mill.specs.Files.{big_path}
use Rattle.mill_history.specs.Puts.{evicted_at, evicted_by, numbers_of, puts_of}
use Rattle.mill_history.specs.Marks.{AreMarks}
use Rattle.mill_history.specs.Tallies.{AreEvicted}

-- the files whose numbers are marked where the Put's evicted files are
pub are_evicted : (h : History) (numbers : List ℕ) (big : ℕ) (e : Entry) (marks : List Bool) → numbers_of (puts_of h big_path) ≡ big ∷ [] → entry_of h big ≡ Some e
    → AreMarks marks (evicted_in e.ask e.answer) → list_all (λ n. get_or marks n false) numbers ≡ true → AreEvicted h numbers
are_evicted h numbers big e marks put found marked all = record {
  big = big;
  put = put;
  evicted = λ k within.
      let here : evicted_at h big ≡ evicted_in e.ask e.answer = ap evicted_by found in
      let is : get_or marks (get_or numbers k 0) false ≡ true = true_from_ne_false (get_or marks (get_or numbers k 0) false) (λ not. false≢true (sym (list_all_at (λ n. get_or marks n false) numbers k 0 within not) ∙ all)) in
      ap (has_number (get_or numbers k 0)) here ∙ (sym (marked (get_or numbers k 0)) ∙ is);
}
