-- All that is kept, together.
use Rattle.std.proofs.Common.{◌≡◌, ◌∙◌, ℕ, ◌+◌, ◌∷◌, false, refl, sym, ap, subst, length}
use Rattle.cta_site.specs.declared.site.Site.{Site}
use Rattle.cta_model.specs.declared.asks.Ask.{Ask}
use Rattle.cta_model.specs.declared.asks.Ask.TheVariants as ask
use Rattle.cta_model.specs.declared.answers.Answer.{Answer}
use Rattle.cta_model.specs.declared.answers.Answer.TheVariants as answer
use Rattle.cta_model.specs.declared.entries.Entry.{Entry}
use Rattle.cta_model.specs.History.{History}
use Rattle.cta_model.specs.Mounts.{is_mounted}
use Rattle.cta_model.specs.Legal.{IsLegal, new_entry}
use Rattle.cta_model.specs.Choice.{mount_choice}
use Rattle.cta_model.proofs.Appends.{is_next}
use Rattle.cta_laws.specs.Changes.{may_change_mounts}
use Rattle.cta_laws.proofs.QuotaLaw.{Chosen, choice_at}
use Rattle.part_laws.proofs.EntryMoves.{calls_move_all_parts, empty_parts_stand}
use Rattle.part_laws.specs.Shelf.{IsPlaceOf, IsShelf, IsTaken, Shelf}
use Rattle.part_laws.proofs.ContentLaw.{contents_move, contents_start_empty}
use Rattle.part_laws.proofs.ShelfLaw.{end_brings_medium, next_takes_medium, shelf_stays, shelf_starts_full}
use Rattle.part_laws.specs.Whole.{ShelfCalled}
use Rattle.part_laws.specs.KeptLaws.{AcceptedAskMovesKept, KeptBegins, KeptMoves}

-- shelves with the same places
shelf_same : (site : Site) (h : History) (s s' : Shelf) → ((t : ℕ) → s' t ≡ s t) → IsShelf site h s → IsShelf site h s'
shelf_same site h s s' same is v low = subst (IsPlaceOf h v (is_mounted h v)) (sym (same v)) (is v low)

-- an entry that is neither a Next that mounts nor an End
shelf_quiet : (site : Site) (h : History) (e : Entry) (s s' : Shelf) → IsLegal site (e ∷ h) → may_change_mounts e.ask ≡ false → ((t : ℕ) → s' t ≡ s t) → IsShelf site h s → IsShelf site (e ∷ h) s'
shelf_quiet site h e s s' legal quiet same is = shelf_same site (e ∷ h) s s' same (shelf_stays site h e s legal quiet is)

pub shelf_moves : (site : Site) (h : History) (e : Entry) (s s' : Shelf) (k : Ask) (a : Answer) → e.ask ≡ k → e.answer ≡ a → IsLegal site (e ∷ h) → ShelfCalled h k a s s' → IsShelf site h s → IsShelf site (e ∷ h) s'
shelf_moves site h e s s' (ask.Next d) (answer.Mounted m way v) ek ea legal called is =
    let taken : IsTaken site h e v s = next_takes_medium site h e d m v way s legal ek ea is in shelf_same site (e ∷ h) _ s' called taken.rest
shelf_moves site h e s s' (ask.Next d) a ek ea legal called is =
    let chosen : Chosen (mount_choice site h e.at d) (length h + 1) e.answer = choice_at site h e d legal.1 ek in
    let bad : answer.Mounted (length h + 1) chosen.0.direction chosen.0.tape ≡ a = sym chosen.2 ∙ ea in
    absurd (cc)
shelf_moves site h e s s' (ask.End m fault) a ek ea legal called is = shelf_same site (e ∷ h) _ s' called.2 (end_brings_medium site h e m fault called.0 s legal ek called.1 is)
shelf_moves site h e s s' _ a ek ea legal called is = shelf_quiet site h e s s' legal (ap may_change_mounts ek) called is

pub kept_begins : KeptBegins
kept_begins site shelf media = record {
  legal = tt;
  parts = empty_parts_stand site;
  contents = contents_start_empty;
  shelf = shelf_starts_full site shelf media;
}

pub kept_moves : KeptMoves
kept_moves site h e k k' next is called =
    let legal : IsLegal site (e ∷ h) = (is.legal, next) in
    record {
      legal = legal;
      parts = calls_move_all_parts site h e k.parts k'.parts legal is.parts called.parts;
      contents = λ f. called.contents f ∙ contents_move site h e k.contents legal is.contents f;
      shelf = shelf_moves site h e k.shelf k'.shelf e.ask e.answer refl refl legal called.shelf is.shelf;
    }

pub accepted_ask_moves_kept : AcceptedAskMovesKept
accepted_ask_moves_kept site h t k a v v' low fit answered accepted is called =
    kept_moves site h (new_entry h t k a) v v' (is_next site h t k a is.legal low fit answered accepted) is called
