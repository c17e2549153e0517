-- A run that went to its end.
use Rattle.std.specs.Prelude.{ℕ, ◌≡◌, List, Option, Some}
use Rattle.std.proofs.Common.{subst}
use Rattle.std.specs.Io.KnownBytes.{Appends}
use Rattle.cta_model.specs.Kept.{Kept}
use Rattle.cta_model.specs.Legal.{IsLegal}
use Rattle.cta_words.specs.Numbers.{SpellsRun}
use Rattle.cta_words.specs.declared.numbers.MillNumbers.{MillNumbers}
use Rattle.load_mill.specs.Sites.{mill_site}
use Rattle.mill_crew.specs.Contents.{AreFetched, bytes_of, file_sums}
use Rattle.mill.specs.Milled.{IsMilled}
use Rattle.mill.specs.Top.{HasMilled, summary}

pub has_milled : (words : List (List ℕ)) (archive : Kept) (before after : Option (List ℕ)) (n : MillNumbers) (bytes archived recalled total : ℕ) (text : List ℕ) → SpellsRun words n → archive.site ≡ mill_site → IsLegal archive.site archive.history
    → IsMilled archive.site archive.history (file_sums n.seed 0 n.files) archived recalled → AreFetched (file_sums n.seed 0 n.files) total → bytes ≡ bytes_of n.seed n.files → text ≡ summary n.files bytes archived recalled total → Appends before after text
    → HasMilled words archive before after
has_milled words archive before after n bytes archived recalled total text spelled site legal milled fetched sizes is printed = record {
  numbers = n;
  spelled = spelled;
  site = site;
  legal = legal;
  archived = archived;
  recalled = recalled;
  total = total;
  milled = milled;
  fetched = fetched;
  printed = subst (λ b. Appends before after (summary n.files b archived recalled total)) sizes (subst (λ t. Appends before after t) is printed);
}
