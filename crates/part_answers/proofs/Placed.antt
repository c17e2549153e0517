-- Tests of the places of a file, copy by copy.
use Rattle.std.proofs.Common.{◌≡◌, ◌∙◌, ℕ, List, [], ◌∷◌, Option, Some, None, Bool, true, false, ◌||◌, refl, sym, ap}
use Rattle.std.specs.Prelude.{◌&&◌, not, filter, if◌then◌else◌}
use Rattle.std.specs.List.{filter_map, list_any, range_with_len}
use Rattle.cta_site.specs.declared.site.TapeState.{TapeState}
use Rattle.cta_model.specs.declared.states.Place.{Place}
use Rattle.cta_model.specs.Tapes.{is_broken}
use Rattle.part_model.specs.Tapes.{Table, place_in, row_in}
use Rattle.part_laws.specs.Files.{has_place_told}
use Rattle.part_answers.specs.Copies.{is_on}

-- the places among these that are on tapes that are not BROKEN
abbrev pub whole : Table → List Place → List Place
whole v ps = filter (λ (p : Place). not (is_broken (row_in v p.tape).state)) ps

-- whether one of these is on a tape whose state passes
abbrev pub passes : (TapeState → Bool) → Table → List Place → Bool
passes test v ps = list_any (λ (p : Place). test (row_in v p.tape).state) ps

one_more : (test : TapeState → Bool) (v : Table) (p : Place) (ps : List Place) (b : Bool) → not (is_broken (row_in v p.tape).state) ≡ b
    → passes test v (if b then p ∷ whole v ps else whole v ps) ≡ ((b && test (row_in v p.tape).state) || passes test v (whole v ps))
one_more test v p ps true e = refl
one_more test v p ps false e = refl

copy_more : (test : TapeState → Bool) (v : Table) (f c : ℕ) (cs : List ℕ) (o : Option Place) → place_in v f c ≡ o → passes test v (whole v (filter_map (place_in v f) cs)) ≡ list_any (λ k. is_on test v (place_in v f k)) cs
    → passes test v (whole v (filter_map (place_in v f) (c ∷ cs))) ≡ (is_on test v o || list_any (λ k. is_on test v (place_in v f k)) cs)
copy_more test v f c cs None e rest = rw e rest
copy_more test v f c cs (Some p) e rest = rw e (one_more test v p (filter_map (place_in v f) cs) (not (is_broken (row_in v p.tape).state)) refl ∙ ap (λ b. (not (is_broken (row_in v p.tape).state) && test (row_in v p.tape).state) || b) rest)

copies_pass : (test : TapeState → Bool) (v : Table) (f : ℕ) (cs : List ℕ) → passes test v (whole v (filter_map (place_in v f) cs)) ≡ list_any (λ k. is_on test v (place_in v f k)) cs
copies_pass test v f [] = refl
copies_pass test v f (c ∷ cs) = copy_more test v f c cs (place_in v f c) refl (copies_pass test v f cs)

-- a test of the places that are not BROKEN is one of the copies
pub some_place : (test : TapeState → Bool) (v : Table) (f n : ℕ) → list_any (λ k. is_on test v (place_in v f k)) (range_with_len 1 n) ≡ has_place_told test v f n
some_place test v f n = sym (copies_pass test v f (range_with_len 1 n))
