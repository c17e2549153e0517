-- The fSeq of a file's source on a tape, found copy by copy.
use Rattle.std.proofs.Common.{◌≡◌, ◌∙◌, ℕ, List, [], ◌∷◌, Bool, true, false, ◌||◌, refl, sym, ap}
use Rattle.std.specs.Prelude.{Option, Some, None, if◌then◌else◌, ◌==◌, ◌&&◌, not, filter, find}
use Rattle.std.specs.List.{filter_map, list_any, range_with_len}
use Rattle.cta_model.specs.declared.states.Place.{Place}
use Rattle.cta_model.specs.Batches.{fseq_by}
use Rattle.cta_model.specs.Queues.{or_else}
use Rattle.cta_model.specs.Tapes.{is_broken}
use Rattle.part_model.specs.Tapes.{Table, place_in, row_in}
use Rattle.part_laws.specs.Files.{fseq_told, whole_places}
use Rattle.part_answers.specs.Sources.{copy_on, counts, fseq_of_copy, has_source, has_source_on}

-- of the places of copies on tapes that are not BROKEN, those that count
counted : Bool → Table → ℕ → List ℕ → List Place
counted b v f cs = filter (counts b v) (filter (λ (p : Place). not (is_broken (row_in v p.tape).state)) (filter_map (place_in v f) cs))

found_first : (b : Bool) (v : Table) (tape f : ℕ) (cs : List ℕ) → fseq_by (find (λ (p : Place). p.tape == tape) (counted b v f cs)) ≡ fseq_of_copy v f (find (λ c. has_source_on b v tape (place_in v f c)) cs)
unfolding counted
found_first b v tape f [] = refl
found_first b v tape f (c ∷ cs) = by (place_in v f c) refl (found_first b v tape f cs)
  where
    one : (p : Place) (whole counting on : Bool) → place_in v f c ≡ Some p → not (is_broken (row_in v p.tape).state) ≡ whole → counts b v p ≡ counting → (p.tape == tape) ≡ on
        → fseq_by (find (λ (q : Place). q.tape == tape) (filter (counts b v) (filter (λ (q : Place). not (is_broken (row_in v q.tape).state)) (filter_map (place_in v f) cs)))) ≡ fseq_of_copy v f (find (λ d. has_source_on b v tape (place_in v f d)) cs)
        → fseq_by (find (λ (q : Place). q.tape == tape) (filter (counts b v) (if whole then p ∷ filter (λ (q : Place). not (is_broken (row_in v q.tape).state)) (filter_map (place_in v f) cs) else filter (λ (q : Place). not (is_broken (row_in v q.tape).state)) (filter_map (place_in v f) cs))))
        ≡ fseq_of_copy v f (if (whole && counting) && on then Some c else find (λ d. has_source_on b v tape (place_in v f d)) cs)
    one p true true true is ew ec eo rest = rw (ec, eo) (sym (ap fseq_by is))
    one p true true false is ew ec eo rest = rw (ec, eo) rest
    one p true false on is ew ec eo rest = rw ec rest
    one p false counting on is ew ec eo rest = rest

    by : (o : Option Place) → place_in v f c ≡ o
        → fseq_by (find (λ (q : Place). q.tape == tape) (filter (counts b v) (filter (λ (q : Place). not (is_broken (row_in v q.tape).state)) (filter_map (place_in v f) cs)))) ≡ fseq_of_copy v f (find (λ d. has_source_on b v tape (place_in v f d)) cs)
        → fseq_by (find (λ (q : Place). q.tape == tape) (filter (counts b v) (filter (λ (q : Place). not (is_broken (row_in v q.tape).state)) (filter_map (place_in v f) (c ∷ cs))))) ≡ fseq_of_copy v f (find (λ d. has_source_on b v tape (place_in v f d)) (c ∷ cs))
    by None is rest = rw is rest
    by (Some p) is rest = rw is (one p (not (is_broken (row_in v p.tape).state)) (counts b v p) (p.tape == tape) is refl refl refl rest)

all_count : (v : Table) (ps : List Place) → filter (counts false v) ps ≡ ps
all_count v [] = refl
all_count v (p ∷ ps) = ap (λ (qs : List Place). p ∷ qs) (all_count v ps)

-- no place counts where none of the copies has a readable one
none_count : (v : Table) (f : ℕ) (cs : List ℕ) → list_any (λ c. has_source true v (place_in v f c)) cs ≡ false → counted true v f cs ≡ []
unfolding counted
none_count v f [] none = refl
none_count v f (c ∷ cs) none = by (place_in v f c) refl none (λ rest. none_count v f cs rest)
  where
    one : (p : Place) (whole counting : Bool) → counts true v p ≡ counting → ((whole && counting) || list_any (λ d. has_source true v (place_in v f d)) cs) ≡ false
        → (list_any (λ d. has_source true v (place_in v f d)) cs ≡ false → filter (counts true v) (filter (λ (q : Place). not (is_broken (row_in v q.tape).state)) (filter_map (place_in v f) cs)) ≡ [])
        → filter (counts true v) (if whole then p ∷ filter (λ (q : Place). not (is_broken (row_in v q.tape).state)) (filter_map (place_in v f) cs) else filter (λ (q : Place). not (is_broken (row_in v q.tape).state)) (filter_map (place_in v f) cs)) ≡ []
    one p true true ec e rest = absurd (cc)
    one p true false ec e rest = rw ec (rest e)
    one p false counting ec e rest = rest e

    by : (o : Option Place) → place_in v f c ≡ o → (has_source true v o || list_any (λ d. has_source true v (place_in v f d)) cs) ≡ false
        → (list_any (λ d. has_source true v (place_in v f d)) cs ≡ false → filter (counts true v) (filter (λ (q : Place). not (is_broken (row_in v q.tape).state)) (filter_map (place_in v f) cs)) ≡ [])
        → filter (counts true v) (filter (λ (q : Place). not (is_broken (row_in v q.tape).state)) (filter_map (place_in v f) (c ∷ cs))) ≡ []
    by None is e rest = rw is (rest e)
    by (Some p) is e rest = rw is (one p (not (is_broken (row_in v p.tape).state)) (counts true v p) refl e rest)

-- where one has, those count alone
some_count : (v : Table) (f : ℕ) (cs : List ℕ) (ps : List Place) → list_any (λ c. has_source true v (place_in v f c)) cs ≡ true → or_else (counted true v f cs) ps ≡ counted true v f cs
unfolding counted
some_count v f [] ps some = absurd (cc)
some_count v f (c ∷ cs) ps some = by (place_in v f c) refl some (λ rest. some_count v f cs ps rest)
  where
    one : (p : Place) (whole counting : Bool) → counts true v p ≡ counting → ((whole && counting) || list_any (λ d. has_source true v (place_in v f d)) cs) ≡ true
        → (list_any (λ d. has_source true v (place_in v f d)) cs ≡ true → or_else (filter (counts true v) (filter (λ (q : Place). not (is_broken (row_in v q.tape).state)) (filter_map (place_in v f) cs))) ps ≡ filter (counts true v) (filter (λ (q : Place). not (is_broken (row_in v q.tape).state)) (filter_map (place_in v f) cs)))
        → or_else (filter (counts true v) (if whole then p ∷ filter (λ (q : Place). not (is_broken (row_in v q.tape).state)) (filter_map (place_in v f) cs) else filter (λ (q : Place). not (is_broken (row_in v q.tape).state)) (filter_map (place_in v f) cs))) ps
        ≡ filter (counts true v) (if whole then p ∷ filter (λ (q : Place). not (is_broken (row_in v q.tape).state)) (filter_map (place_in v f) cs) else filter (λ (q : Place). not (is_broken (row_in v q.tape).state)) (filter_map (place_in v f) cs))
    one p true true ec e rest = rw ec refl
    one p true false ec e rest = rw ec (rest e)
    one p false counting ec e rest = rest e

    by : (o : Option Place) → place_in v f c ≡ o → (has_source true v o || list_any (λ d. has_source true v (place_in v f d)) cs) ≡ true
        → (list_any (λ d. has_source true v (place_in v f d)) cs ≡ true → or_else (filter (counts true v) (filter (λ (q : Place). not (is_broken (row_in v q.tape).state)) (filter_map (place_in v f) cs))) ps ≡ filter (counts true v) (filter (λ (q : Place). not (is_broken (row_in v q.tape).state)) (filter_map (place_in v f) cs)))
        → or_else (filter (counts true v) (filter (λ (q : Place). not (is_broken (row_in v q.tape).state)) (filter_map (place_in v f) (c ∷ cs)))) ps ≡ filter (counts true v) (filter (λ (q : Place). not (is_broken (row_in v q.tape).state)) (filter_map (place_in v f) (c ∷ cs)))
    by None is e rest = rw is (rest e)
    by (Some p) is e rest = rw is (one p (not (is_broken (row_in v p.tape).state)) (counts true v p) refl e rest)

-- so the source is found among those that count
pub source_is : (v : Table) (tape f n : ℕ) (b : Bool) → b ≡ list_any (λ c. has_source true v (place_in v f c)) (range_with_len 1 n) → fseq_of_copy v f (copy_on b v tape f n) ≡ fseq_told v tape f n
unfolding counted
source_is v tape f n true is =
    sym (found_first true v tape f (range_with_len 1 n)) ∙ ap (λ (ps : List Place). fseq_by (find (λ (p : Place). p.tape == tape) ps)) (sym (some_count v f (range_with_len 1 n) (whole_places v f n) (sym is)))
source_is v tape f n false is =
    sym (found_first false v tape f (range_with_len 1 n))
    ∙ ap (λ (ps : List Place). fseq_by (find (λ (p : Place). p.tape == tape) ps)) (all_count v (whole_places v f n) ∙ sym (ap (λ (ps : List Place). or_else ps (whole_places v f n)) (none_count v f (range_with_len 1 n) (sym is))))
