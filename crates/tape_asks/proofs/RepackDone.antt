-- What a Repack leaves where its parts are added, and where there is no memory for them.
use Rattle.std.proofs.Common.{◌≡◌, ◌∙◌, ◌+◌, ◌<◌, ℕ, List, [], ◌∷◌, Bool, false, refl, ap, arith, length}
use Rattle.std.specs.Prelude.{None, option_map, ◌==◌, if◌then◌else◌, map}
use Rattle.cta_site.specs.declared.site.Site.{Site}
use Rattle.cta_site.specs.Listed.{rows}
use Rattle.cta_model.specs.declared.answers.Answer.{Answer}
use Rattle.cta_model.specs.declared.answers.Answer.TheVariants as answer
use Rattle.cta_model.specs.declared.asks.Job.{Job}
use Rattle.cta_model.specs.declared.asks.Who.{Who}
use Rattle.cta_model.specs.History.{History}
use Rattle.cta_model.specs.Legal.{new_entry}
use Rattle.cta_model.specs.Repacks.{repack_after, repack_by, repack_of}
use Rattle.cta_model.specs.RepackItems.{repack_items}
use Rattle.part_model.specs.Repacks.{repack_in}
use Rattle.repack_book.specs.NamedRepacks.{repacks_of}
use Rattle.archive_parts.specs.PartsKept.{ArePartsKept}
use Rattle.archive_parts.specs.declared.parts.ArchiveParts.{ArchiveParts}
use Rattle.tape_asks.proofs.RepackFacts.{packed, packed_answer, packed_entry}

-- a number that no entry has yet is of no repack
none_yet : (site : Site) (h : History) (n : ℕ) → length h < n → repack_of site h n ≡ None
none_yet site [] n late = refl
none_yet site (e ∷ h) n late =
    (let other : (length h + 1 == n) ≡ false = grind (arith, late) in
    let before : length h < n = omega (arith, late) in
    ap (λ (b : Bool). if b then repack_by h e.ask e.answer else option_map (repack_after site (e ∷ h) e.ask) (repack_of site h n)) other ∙ ap (option_map (repack_after site (e ∷ h) e.ask)) (none_yet site h n before))

pub new_repack : (site : Site) (h : History) (p : ArchiveParts) (n : ℕ) → ArePartsKept site h p → n ≡ length h + 1 → repack_in (repacks_of p.repacks) n ≡ None
new_repack site h p n kept is = kept.stand.space.repacks n ∙ none_yet site h n (omega (arith, is))

pub many_paths : (f : Job → List ℕ) (js : List Job) → length (map f js) ≡ length js
many_paths f [] = refl
many_paths f (j ∷ js) = (let rest = many_paths f js in omega (arith, rest))

-- the answer that is told is that of the entry
pub told_is : (h : History) (v n : ℕ) (js : List Job) → n ≡ length h + 1 → js ≡ repack_items h v → answer.Repacking n (rows js) ≡ packed_answer h v
told_is h v n js number items = ap (λ (k : ℕ). answer.Repacking k (rows js)) number ∙ ap (λ (ks : List Job). answer.Repacking (length h + 1) (rows ks)) items

pub grown : (h g : History) (t : ℕ) (who : Who) (v n : ℕ) (js : List Job) → g ≡ new_entry h t (packed who v) (answer.Repacking n (rows js)) ∷ h → n ≡ length h + 1 → js ≡ repack_items h v → g ≡ packed_entry h t who v ∷ h
grown h g t who v n js is number items = is ∙ ap (λ (a : Answer). new_entry h t (packed who v) a ∷ h) (told_is h v n js number items)
