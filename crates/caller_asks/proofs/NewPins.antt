-- The pins of files by a new request, as its book tells them.
use Rattle.std.proofs.Common.{◌≡◌, ◌∙◌, ◌+◌, ℕ, inl, inr, List, [], ◌∷◌, ◌++◌, Bool, true, false, ◌||◌, refl, sym, ap, subst, length, append-nil}
use Rattle.std.specs.Prelude.{Option, Some, None, option_map, ◌==◌, ◌&&◌, if◌then◌else◌, not, map, bytes_eq, unwrap_or}
use Rattle.std.specs.List.{filter_map, flat_map}
use Rattle.std.proofs.lemmas.Bool.{and_parts, eqb-true, eq-eqb}
use Rattle.std.proofs.lemmas.Slice.Eq.{bytes_eq-Decides}
use Rattle.cta_site.specs.declared.site.Site.{Site}
use Rattle.cta_site.specs.Listed.{Listed}
use Rattle.cta_model.specs.declared.asks.Ask.{Ask}
use Rattle.cta_model.specs.declared.asks.Ask.TheVariants as ask
use Rattle.cta_model.specs.declared.asks.Wanted.{Wanted}
use Rattle.cta_model.specs.declared.asks.Who.{Who}
use Rattle.cta_model.specs.declared.entries.Entry.{Entry}
use Rattle.cta_model.specs.declared.states.RequestFile.{RequestFile}
use Rattle.cta_model.specs.Files.{live_file, path_of}
use Rattle.cta_model.specs.History.{History, has_text, is_number}
use Rattle.cta_model.specs.Legal.{IsLegal}
use Rattle.cta_model.specs.Pins.{Pin, is_completed, pin_by, repack_pins, stage_pins}
use Rattle.cta_model.specs.Repacks.{Repack, repack_after, repack_by, repack_of}
use Rattle.cta_model.specs.Stages.{StageRequest, drops, file_after, first_named, new_file, request_after, request_by, request_of}
use Rattle.cta_laws.proofs.Claims.{AllOf}
use Rattle.cta_laws.proofs.Requests.{files_in}
use Rattle.cta_laws.proofs.Tests.{bool_cases}
use Rattle.cta_laws.proofs.Waiting.{FileStands, after_same, files_stand, new_same}
use Rattle.part_model.specs.declared.space.HeldPin.{HeldPin}
use Rattle.part_model.specs.Held.{held_pins, kept_end}
use Rattle.part_model.specs.Requests.{Requests, first_end}
use Rattle.part_laws.specs.Books.{AreRequests}
use Rattle.part_laws.specs.BufferCalls.{pins_told}
use Rattle.part_moves.specs.Pinned.{pin_until, request_pin}
use Rattle.part_moves.proofs.OncePaths.{stage_told}

-- a Stage makes no repack
no_repack : (site : Site) (h : History) (e : Entry) (who : Who) (wanted : Listed Wanted) → e.ask ≡ ask.Stage who wanted → repack_of site (e ∷ h) (length h + 1) ≡ None
no_repack site h e who wanted ek =
    ap (λ (b : Bool). if b then repack_by h e.ask e.answer else option_map (repack_after site (e ∷ h) e.ask) (repack_of site h (length h + 1))) (eq-eqb (length h + 1) (length h + 1) refl)
    ∙ ap (λ (k : Ask). repack_by h k e.answer) ek

-- a book that stands for the history with the entry of a Stage tells its pins
pub pins_are : (site : Site) (h : History) (e : Entry) (who : Who) (wanted : Listed Wanted) (r : Requests) (f : ℕ) → IsLegal site (e ∷ h) → e.ask ≡ ask.Stage who wanted → AreRequests site (e ∷ h) r
    → request_pin r (length h + 1) f ≡ pins_told site (e ∷ h) (length h + 1) f
pins_are site h e who wanted r f legal ek requests =
    ap (λ (o : Option StageRequest). pin_until (length h + 1) f (option_map kept_end (first_end (stage_pins f (length h + 1) o)))) (requests (length h + 1))
    ∙ sym (stage_told site (e ∷ h) (length h + 1) f legal (request_of site (e ∷ h) (length h + 1)) refl)
    ∙ ap (held_pins f) (sym (append-nil (stage_pins f (length h + 1) (request_of site (e ∷ h) (length h + 1)))))
    ∙ ap (λ (o : Option Repack). held_pins f (stage_pins f (length h + 1) (request_of site (e ∷ h) (length h + 1)) ++ repack_pins f (length h + 1) o)) (sym (no_repack site h e who wanted ek))

pub all_pins_are : (site : Site) (h : History) (e : Entry) (who : Who) (wanted : Listed Wanted) (r : Requests) (fs : List ℕ) → IsLegal site (e ∷ h) → e.ask ≡ ask.Stage who wanted → AreRequests site (e ∷ h) r
    → flat_map (request_pin r (length h + 1)) fs ≡ flat_map (pins_told site (e ∷ h) (length h + 1)) fs
all_pins_are site h e who wanted r [] legal ek requests = refl
all_pins_are site h e who wanted r (f ∷ fs) legal ek requests =
    ap (λ (ps : List HeldPin). ps ++ flat_map (request_pin r (length h + 1)) fs) (pins_are site h e who wanted r f legal ek requests)
    ∙ ap (λ (ps : List HeldPin). pins_told site (e ∷ h) (length h + 1) f ++ ps) (all_pins_are site h e who wanted r fs legal ek requests)
