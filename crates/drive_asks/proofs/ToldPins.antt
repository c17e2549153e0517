-- The pins of a file by a request or a repack, as the books tell them.
use Rattle.std.proofs.Common.{◌≡◌, ◌∙◌, ◌+◌, ℕ, inl, inr, List, [], ◌∷◌, ◌++◌, Bool, true, false, ◌||◌, refl, sym, ap, subst, length}
use Rattle.std.specs.Prelude.{Option, Some, None, option_map, ◌==◌, ◌&&◌, if◌then◌else◌, not, map, bytes_eq, unwrap_or}
use Rattle.std.specs.List.{filter_map, flat_map, list_any}
use Rattle.std.proofs.lemmas.Bool.{and_parts, eqb-true}
use Rattle.std.proofs.lemmas.List.{map-append}
use Rattle.std.proofs.lemmas.Slice.Eq.{bytes_eq-Decides}
use Rattle.cta_site.specs.declared.site.Site.{Site}
use Rattle.cta_model.specs.declared.asks.Ask.{Ask}
use Rattle.cta_model.specs.declared.asks.Ask.TheVariants as ask
use Rattle.cta_model.specs.declared.asks.Wanted.{Wanted}
use Rattle.cta_model.specs.declared.entries.Entry.{Entry}
use Rattle.cta_model.specs.declared.states.RepackCopy.{RepackCopy}
use Rattle.cta_model.specs.declared.states.RequestFile.{RequestFile}
use Rattle.cta_model.specs.Files.{live_file, path_of}
use Rattle.cta_model.specs.History.{History, has_text, is_number}
use Rattle.cta_model.specs.Legal.{IsLegal}
use Rattle.cta_model.specs.Pins.{Pin, is_completed, pin_by, repack_pins, stage_pins}
use Rattle.cta_model.specs.Repacks.{Repack, is_live_item, repack_of}
use Rattle.cta_model.specs.Stages.{StageRequest, drops, file_after, first_named, new_file, request_after, request_by, request_of}
use Rattle.cta_laws.proofs.Claims.{AllOf}
use Rattle.cta_laws.proofs.Requests.{files_in}
use Rattle.cta_laws.proofs.Tests.{bool_cases}
use Rattle.cta_laws.proofs.Waiting.{FileStands, after_same, files_stand, new_same}
use Rattle.part_model.specs.declared.space.HeldPin.{HeldPin}
use Rattle.part_model.specs.Held.{held_pins, kept_end, no_end}
use Rattle.part_model.specs.Repacks.{Repacks, has_item_by}
use Rattle.part_model.specs.Requests.{Requests, first_end}
use Rattle.part_laws.specs.Books.{AreRepacks, AreRequests}
use Rattle.part_laws.specs.BufferCalls.{pins_told}
use Rattle.drive_asks.specs.Reading.{pins_by, repack_pin}
use Rattle.part_moves.specs.Pinned.{pin_until}
use Rattle.part_moves.proofs.OncePaths.{stage_told}

repack_told : (id f : ℕ) (o : Option Repack) → ◌≡◌ {A = List HeldPin} (held_pins f (repack_pins f id o)) (if has_item_by (λ (i : RepackCopy). i.file == f && is_live_item i.state) o then record { file = f; owner = id; until = no_end } ∷ [] else [])
repack_told id f None = refl
repack_told id f (Some r) = by (list_any (λ (i : RepackCopy). i.file == f && is_live_item i.state) r.items)
  where
    by : (b : Bool) → ◌≡◌ {A = List HeldPin} (held_pins f (if b then record { owner = id; until = None } ∷ [] else [])) (if b then record { file = f; owner = id; until = no_end } ∷ [] else [])
    by true = refl
    by false = refl

-- books that stand for a history tell the pins of a file by a number
pins_are : (site : Site) (h : History) (r : Requests) (v : Repacks) (id f : ℕ) → IsLegal site h → AreRequests site h r → AreRepacks site h v → pins_by r v f id ≡ pins_told site h id f
pins_are site h r v id f legal requests repacks =
    ap (λ (o : Option StageRequest). pin_until id f (option_map kept_end (first_end (stage_pins f id o))) ++ repack_pin v id f) (requests id)
    ∙ ap (λ (ps : List HeldPin). ps ++ repack_pin v id f) (sym (stage_told site h id f legal (request_of site h id) refl))
    ∙ ap (λ (ps : List HeldPin). held_pins f (stage_pins f id (request_of site h id)) ++ ps)
    (ap (λ (o : Option Repack). if has_item_by (λ (i : RepackCopy). i.file == f && is_live_item i.state) o then record { file = f; owner = id; until = no_end } ∷ [] else []) (repacks id) ∙ sym (repack_told id f (repack_of site h id)))
    ∙ sym (map-append (λ (p : Pin). record { file = f; owner = p.owner; until = kept_end p.until }) (stage_pins f id (request_of site h id)) (repack_pins f id (repack_of site h id)))

pub all_pins_are : (site : Site) (h : History) (r : Requests) (v : Repacks) (f : ℕ) (ids : List ℕ) → IsLegal site h → AreRequests site h r → AreRepacks site h v → flat_map (pins_by r v f) ids ≡ flat_map (λ id. pins_told site h id f) ids
all_pins_are site h r v f [] legal requests repacks = refl
all_pins_are site h r v f (id ∷ ids) legal requests repacks =
    ap (λ (ps : List HeldPin). ps ++ flat_map (pins_by r v f) ids) (pins_are site h r v id f legal requests repacks) ∙ ap (λ (ps : List HeldPin). pins_told site h id f ++ ps) (all_pins_are site h r v f ids legal requests repacks)
