-- The places, the sources and the locality of a file are told by the table of tapes and the buffer.
use Rattle.std.proofs.Common.{◌≡◌, ◌∙◌, ℕ, List, [], ◌∷◌, Bool, true, not, refl, sym, ap}
use Rattle.std.specs.Prelude.{Option, is_some, ◌==◌, filter, find}
use Rattle.std.specs.List.{filter_map, list_any}
use Rattle.cta_site.specs.declared.site.Site.{Site}
use Rattle.cta_site.specs.declared.site.TapeState.{TapeState}
use Rattle.cta_model.specs.declared.states.Place.{Place}
use Rattle.cta_model.specs.History.{History}
use Rattle.cta_model.specs.Files.{copies_of_file, copy_numbers, is_live}
use Rattle.cta_model.specs.Tapes.{is_broken, is_disabled, may_be_read, tape_state}
use Rattle.cta_model.specs.Places.{all_places, is_taped, place_of, places_of, was_flushed}
use Rattle.cta_model.specs.Buffer.{is_resident}
use Rattle.cta_model.specs.Queues.{or_else, sources_of}
use Rattle.cta_model.specs.Batches.{fseq_by, fseq_on}
use Rattle.cta_model.specs.Localities.{has_place_where, locality_by, locality_of}
use Rattle.cta_model.specs.Legal.{IsLegal}
use Rattle.cta_laws.proofs.Claims.{AllOf, all_filter}
use Rattle.cta_laws.proofs.KeyLaw.{OnTape, on_tapes}
use Rattle.part_model.specs.declared.space.TapeRow.{TapeRow}
use Rattle.part_model.specs.Held.{Held, is_held}
use Rattle.part_model.specs.Tapes.{Table, place_in, row_in}
use Rattle.part_laws.specs.Held.{IsHeld}
use Rattle.part_laws.specs.Tapes.{IsTable}
use Rattle.part_laws.proofs.Told.{held_is}
use Rattle.part_laws.proofs.Flags.{all_same, flushed_is}
use Rattle.part_laws.specs.Files.{fseq_told, has_place_told, locality_told, sources_told, whole_places}

-- ---- two tests that agree on all members

filter_same : (P : Place → Type 0) (p q : Place → Bool) (xs : List Place) → AllOf P xs → ((x : Place) → P x → p x ≡ q x) → filter p xs ≡ filter q xs
filter_same P p q [] all same = refl
filter_same P p q (x ∷ xs) all same = rw (same x all.0) (rw (filter_same P p q xs all.1 same) refl)

any_same : (P : Place → Type 0) (p q : Place → Bool) (xs : List Place) → AllOf P xs → ((x : Place) → P x → p x ≡ q x) → list_any p xs ≡ list_any q xs
any_same P p q [] all same = refl
any_same P p q (x ∷ xs) all same = rw (same x all.0) (rw (any_same P p q xs all.1 same) refl)

map_same : (f g : ℕ → Option Place) (cs : List ℕ) → ((c : ℕ) → f c ≡ g c) → filter_map f cs ≡ filter_map g cs
map_same f g [] same = refl
map_same f g (c ∷ cs) same = rw (same c) (rw (map_same f g cs same) refl)

-- ---- places

-- the table tells the state of the tape of a place
state_is : (site : Site) (h : History) (v : Table) → IsTable site h v → (test : TapeState → Bool) (p : Place) → OnTape site p → test (row_in v p.tape).state ≡ test (tape_state site h p.tape)
state_is site h v is test p on = ap (λ (r : TapeRow). test r.state) (is.rows p.tape on)

wholes_are : (site : Site) (h : History) (v : Table) (f : ℕ) → IsLegal site h → IsTable site h v → whole_places v f (copies_of_file site h f) ≡ places_of site h f
wholes_are site h v f legal is =
    ap (filter (λ (p : Place). not (is_broken (row_in v p.tape).state))) (map_same (place_in v f) (place_of h f) (copy_numbers site h f) (is.places f))
    ∙ filter_same (OnTape site) _ _ (all_places site h f) (on_tapes site h legal f) (state_is site h v is (λ (s : TapeState). not (is_broken s)))

on_site : (site : Site) (h : History) → IsLegal site h → (f : ℕ) → AllOf (OnTape site) (places_of site h f)
on_site site h legal f = all_filter (OnTape site) (λ (p : Place). not (is_broken (tape_state site h p.tape))) (all_places site h f) (on_tapes site h legal f)

sources_are : (site : Site) (h : History) (v : Table) (f : ℕ) → IsLegal site h → IsTable site h v → sources_told v f (copies_of_file site h f) ≡ sources_of site h f
sources_are site h v f legal is =
    ap (λ (ps : List Place). or_else (filter (λ (p : Place). may_be_read (row_in v p.tape).state) ps) ps) (wholes_are site h v f legal is)
    ∙ ap (λ (ps : List Place). or_else ps (places_of site h f)) (filter_same (OnTape site) _ _ (places_of site h f) (on_site site h legal f) (state_is site h v is may_be_read))

pub fseq_is : (site : Site) (h : History) (v : Table) (tape f : ℕ) → IsLegal site h → IsTable site h v → fseq_told v tape f (copies_of_file site h f) ≡ fseq_on site h tape f
fseq_is site h v tape f legal is = ap (λ (ps : List Place). fseq_by (find (λ (p : Place). p.tape == tape) ps)) (sources_are site h v f legal is)

-- ---- locality

has_place_is : (site : Site) (h : History) (v : Table) (f : ℕ) → IsLegal site h → IsTable site h v → (test : TapeState → Bool) → has_place_told test v f (copies_of_file site h f) ≡ has_place_where test site h f
has_place_is site h v f legal is test =
    ap (list_any (λ (p : Place). test (row_in v p.tape).state)) (wholes_are site h v f legal is)
    ∙ any_same (OnTape site) _ _ (places_of site h f) (on_site site h legal f) (state_is site h v is test)

pub locality_is : (site : Site) (h : History) (v : Table) (b : Held) (f : ℕ) → IsLegal site h → IsTable site h v → IsHeld site h b → is_live h f ≡ true → locality_told v b f (copies_of_file site h f) ≡ locality_of site h f
locality_is site h v b f legal is held live =
    ap (λ (x : Bool). locality_by x (has_place_told may_be_read v f (copies_of_file site h f)) (is_held b f) (has_place_told is_disabled v f (copies_of_file site h f)))
    (sym (all_same (was_flushed h f) (λ c. is_some (place_in v f c)) (copy_numbers site h f) (λ c. flushed_is h v f c live (is.places f c))))
    ∙ ap (λ (x : Bool). locality_by (is_taped site h f) x (is_held b f) (has_place_told is_disabled v f (copies_of_file site h f))) (has_place_is site h v f legal is may_be_read)
    ∙ ap (λ (x : Bool). locality_by (is_taped site h f) (has_place_where may_be_read site h f) x (has_place_told is_disabled v f (copies_of_file site h f))) (held_is site h b f held)
    ∙ ap (λ (x : Bool). locality_by (is_taped site h f) (has_place_where may_be_read site h f) (is_resident h f) x) (has_place_is site h v f legal is is_disabled)
