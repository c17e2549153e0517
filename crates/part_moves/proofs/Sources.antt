-- The sources of a file, as the table of tapes tells them.
use Rattle.std.proofs.Common.{◌≡◌, ◌∙◌, ℕ, zero, suc, ◌≤◌, ◌<◌, List, [], ◌∷◌, Bool, true, false, not, refl, sym, ap, arith}
use Rattle.std.specs.Prelude.{Option, Some, None, if◌then◌else◌, filter, map, slice_get}
use Rattle.std.specs.List.{cons_option, filter_map, range_with_len}
use Rattle.cta_site.specs.declared.site.Site.{Site}
use Rattle.cta_site.specs.declared.site.TapeState.{TapeState}
use Rattle.cta_site.specs.declared.site.TapeState.TheVariants as state
use Rattle.cta_model.specs.declared.states.Place.{Place}
use Rattle.cta_model.specs.Files.{copies_of_file}
use Rattle.cta_model.specs.History.{History}
use Rattle.cta_model.specs.Legal.{IsLegal}
use Rattle.cta_model.specs.Places.{all_places, place_of, places_of}
use Rattle.cta_model.specs.Queues as model
use Rattle.cta_model.specs.Queues.{sources_of}
use Rattle.cta_model.specs.Tapes.{is_broken, may_be_read, tape_state}
use Rattle.cta_laws.specs.Places.{PlacesAreOfCopies, PlacesAreOnSite}
use Rattle.part_model.specs.declared.space.TapeRow.{TapeRow}
use Rattle.part_model.specs.Tapes.{Table, place_in, row_in}
use Rattle.part_laws.specs.Tapes.{IsTable}
use Rattle.tape_table.specs.Sources.{copies_in, is_whole, or_else, place_if, somes, sources_in}

-- ---- places that there are

somes_are : (g : ℕ → Option Place) (cs : List ℕ) → filter_map g cs ≡ somes (map g cs)
somes_are g [] = refl
somes_are g (c ∷ cs) = by (g c) (somes_are g cs)
  where
    by : (o : Option Place) → filter_map g cs ≡ somes (map g cs) → cons_option o (filter_map g cs) ≡ somes (o ∷ map g cs)
    by None rest = rest
    by (Some p) rest = ap (λ (ps : List Place). p ∷ ps) rest

-- places that pass a test, one by one
abbrev AreTold : (TapeState → Bool) → (Place → Bool) → Table → List (Option Place) → Type 0
AreTold t test v [] = Unit {0}
AreTold t test v (o ∷ os) = ((p : Place) → o ≡ Some p → t (row_in v p.tape).state ≡ test p) × AreTold t test v os

passing : (t : TapeState → Bool) (test : Place → Bool) (v : Table) (os : List (Option Place)) → AreTold t test v os → filter test (somes os) ≡ somes (map (place_if t v) os)
passing t test v [] told = refl
passing t test v (None ∷ os) told = passing t test v os told.1
passing t test v (Some p ∷ os) told = by (test p) (told.0 p refl) (passing t test v os told.1)
  where
    by : (b : Bool) → t (row_in v p.tape).state ≡ b → filter test (somes os) ≡ somes (map (place_if t v) os)
        → (if b then p ∷ filter test (somes os) else filter test (somes os)) ≡ somes ((if t (row_in v p.tape).state then Some p else None) ∷ map (place_if t v) os)
    by true is rest = rw is (ap (λ (ps : List Place). p ∷ ps) rest)
    by false is rest = rw is rest

-- ---- the copies of a file

tail : (o : Option Place) (xs ys : List (Option Place)) → somes xs ≡ somes ys → somes (o ∷ xs) ≡ somes (o ∷ ys)
tail None xs ys e = e
tail (Some p) xs ys e = ap (λ (ps : List Place). p ∷ ps) e

none_past : (law : PlacesAreOfCopies) (site : Site) (h : History) (f c n : ℕ) → IsLegal site h → copies_of_file site h f ≡ n → n < c → place_of h f c ≡ None
none_past law site h f c n legal is high = by (place_of h f c) refl
  where
    by : (o : Option Place) → place_of h f c ≡ o → o ≡ None
    by None e = refl
    by (Some p) e = (let low = (law site h legal f c p e).1 in absurd (omega arith))

all_are : (law : PlacesAreOfCopies) (site : Site) (h : History) (v : Table) (f n : ℕ) → IsLegal site h → ((g c : ℕ) → place_in v g c ≡ place_of h g c) → copies_of_file site h f ≡ n → n ≤ 4 → all_places site h f ≡ somes (copies_in v f)
all_are law site h v f n legal places is few =
    ap (λ (m : ℕ). filter_map (place_of h f) (range_with_len 1 m)) is
    ∙ somes_are (place_of h f) (range_with_len 1 n)
    ∙ by n is few
    ∙ sym (four (place_in v f 1) (place_in v f 2) (place_in v f 3) (place_in v f 4) (places f 1) (places f 2) (places f 3) (places f 4))
  where
    four : (a b c d : Option Place) → a ≡ place_of h f 1 → b ≡ place_of h f 2 → c ≡ place_of h f 3 → d ≡ place_of h f 4 → somes (a ∷ b ∷ c ∷ d ∷ []) ≡ somes (place_of h f 1 ∷ place_of h f 2 ∷ place_of h f 3 ∷ place_of h f 4 ∷ [])
    four a b c d ea eb ec ed = rw (ea, eb, ec, ed) refl

    past : (c n : ℕ) → copies_of_file site h f ≡ n → n < c → place_of h f c ≡ None
    past c n e high = none_past law site h f c n legal e high

    by : (n : ℕ) → copies_of_file site h f ≡ n → n ≤ 4 → somes (map (place_of h f) (range_with_len 1 n)) ≡ somes (place_of h f 1 ∷ place_of h f 2 ∷ place_of h f 3 ∷ place_of h f 4 ∷ [])
    by zero e low = rw (past 1 0 e (omega arith), past 2 0 e (omega arith), past 3 0 e (omega arith), past 4 0 e (omega arith)) refl
    by (suc zero) e low = rw (past 2 1 e (omega arith), past 3 1 e (omega arith), past 4 1 e (omega arith)) (tail (place_of h f 1) [] (None ∷ None ∷ None ∷ []) refl)
    by (suc (suc zero)) e low = rw (past 3 2 e (omega arith), past 4 2 e (omega arith)) (tail (place_of h f 1) (place_of h f 2 ∷ []) (place_of h f 2 ∷ None ∷ None ∷ []) (tail (place_of h f 2) [] (None ∷ None ∷ []) refl))
    by (suc (suc (suc zero))) e low =
        rw (past 4 3 e (omega arith))
        (tail (place_of h f 1) (place_of h f 2 ∷ place_of h f 3 ∷ []) (place_of h f 2 ∷ place_of h f 3 ∷ None ∷ [])
        (tail (place_of h f 2) (place_of h f 3 ∷ []) (place_of h f 3 ∷ None ∷ []) (tail (place_of h f 3) [] (None ∷ []) refl)))
    by (suc (suc (suc (suc zero)))) e low = refl
    by (suc (suc (suc (suc (suc n))))) e low = absurd (omega arith)

-- ---- the tests of tapes

told_one : (law : PlacesAreOnSite) (site : Site) (h : History) (v : Table) (t : TapeState → Bool) (f c : ℕ) → IsLegal site h → IsTable site h v → (p : Place) → place_in v f c ≡ Some p → t (row_in v p.tape).state ≡ t (tape_state site h p.tape)
told_one law site h v t f c legal is p at = ap (λ (r : TapeRow). t r.state) (is.rows p.tape (law site h legal f c p (sym (is.places f c) ∙ at)))

told_all : (law : PlacesAreOnSite) (site : Site) (h : History) (v : Table) (t : TapeState → Bool) (f : ℕ) → IsLegal site h → IsTable site h v → AreTold t (λ (p : Place). t (tape_state site h p.tape)) v (copies_in v f)
told_all law site h v t f legal is = (
  told_one law site h v t f 1 legal is,
  (told_one law site h v t f 2 legal is, (told_one law site h v t f 3 legal is, (told_one law site h v t f 4 legal is, tt))),
)

-- a tape that may be read is not BROKEN
read_whole : (site : Site) (h : History) (ps : List Place) → filter (λ (p : Place). may_be_read (tape_state site h p.tape)) (filter (λ (p : Place). not (is_broken (tape_state site h p.tape))) ps) ≡ filter (λ (p : Place). may_be_read (tape_state site h p.tape)) ps
read_whole site h [] = refl
read_whole site h (p ∷ ps) = by (tape_state site h p.tape) refl (read_whole site h ps)
  where
    by : (s : TapeState) → tape_state site h p.tape ≡ s → filter (λ (p : Place). may_be_read (tape_state site h p.tape)) (filter (λ (p : Place). not (is_broken (tape_state site h p.tape))) ps) ≡ filter (λ (p : Place). may_be_read (tape_state site h p.tape)) ps
        → filter (λ (p : Place). may_be_read (tape_state site h p.tape)) (if not (is_broken s) then p ∷ filter (λ (p : Place). not (is_broken (tape_state site h p.tape))) ps else filter (λ (p : Place). not (is_broken (tape_state site h p.tape))) ps)
        ≡ (if may_be_read s then p ∷ filter (λ (p : Place). may_be_read (tape_state site h p.tape)) ps else filter (λ (p : Place). may_be_read (tape_state site h p.tape)) ps)
    by state.Active e more = rw e (ap (λ (qs : List Place). p ∷ qs) more)
    by state.Disabled e more = rw e more
    by state.Broken e more = more
    by state.Repacking e more = rw e (ap (λ (qs : List Place). p ∷ qs) more)

-- ---- all sources

else_same : (ps qs : List Place) → model.or_else ps qs ≡ or_else ps qs
else_same [] qs = refl
else_same (p ∷ ps) qs = refl

-- the places of a file on tapes that are not BROKEN
pub places_are : (of_copies : PlacesAreOfCopies) (on_site : PlacesAreOnSite) (site : Site) (h : History) (v : Table) (f : ℕ) → IsLegal site h → IsTable site h v → copies_of_file site h f ≤ 4
    → places_of site h f ≡ somes (map (place_if is_whole v) (copies_in v f))
places_are of_copies on_site site h v f legal is few =
    ap (filter (λ (p : Place). not (is_broken (tape_state site h p.tape)))) (all_are of_copies site h v f (copies_of_file site h f) legal is.places refl few)
    ∙ passing is_whole (λ (p : Place). not (is_broken (tape_state site h p.tape))) v (copies_in v f) (told_all on_site site h v is_whole f legal is)

pub sources_are : (of_copies : PlacesAreOfCopies) (on_site : PlacesAreOnSite) (site : Site) (h : History) (v : Table) (f : ℕ) → IsLegal site h → IsTable site h v → copies_of_file site h f ≤ 4 → sources_of site h f ≡ sources_in v f
sources_are of_copies on_site site h v f legal is few =
    let all : all_places site h f ≡ somes (copies_in v f) = all_are of_copies site h v f (copies_of_file site h f) legal is.places refl few in
    let whole : places_of site h f ≡ somes (map (place_if is_whole v) (copies_in v f)) = places_are of_copies on_site site h v f legal is few in
    let read : filter (λ (p : Place). may_be_read (tape_state site h p.tape)) (places_of site h f) ≡ somes (map (place_if may_be_read v) (copies_in v f)) =
    read_whole site h (all_places site h f)
    ∙ ap (filter (λ (p : Place). may_be_read (tape_state site h p.tape))) all
    ∙ passing may_be_read (λ (p : Place). may_be_read (tape_state site h p.tape)) v (copies_in v f) (told_all on_site site h v may_be_read f legal is) in
    else_same (filter (λ (p : Place). may_be_read (tape_state site h p.tape)) (places_of site h f)) (places_of site h f)
    ∙ ap (λ (ps : List Place). or_else ps (places_of site h f)) read
    ∙ ap (or_else (somes (map (place_if may_be_read v) (copies_in v f)))) whole

-- ---- a source is a place of the table

-- places that there are, where each is a place of the file
AreOf : Table → ℕ → List (Option Place) → Type 0
AreOf v f os = (p : Place) (j : ℕ) → slice_get (somes os) j ≡ Some p → (c : ℕ) × (place_in v f c ≡ Some p)

none_of_it : (v : Table) (f : ℕ) → AreOf v f []
unfolding AreOf
none_of_it v f p j e = absurd (cc)

one_of_it : (v : Table) (f c : ℕ) (t : TapeState → Bool) (os : List (Option Place)) (o : Option Place) → place_in v f c ≡ o → AreOf v f os → AreOf v f (place_if t v o ∷ os)
unfolding AreOf
one_of_it v f c t os None is rest p j e = rest p j e
one_of_it v f c t os (Some q) is rest p j e = by (t (row_in v q.tape).state) j e
  where
    by : (b : Bool) (j : ℕ) → slice_get (somes ((if b then Some q else None) ∷ os)) j ≡ Some p → (c : ℕ) × (place_in v f c ≡ Some p)
    by true zero e = (let same : q ≡ p = cc in (c, is ∙ ap (λ (x : Place). Some x) same))
    by true (suc j) e = rest p j e
    by false j e = rest p j e

copies_of_it : (v : Table) (f : ℕ) (t : TapeState → Bool) → AreOf v f (map (place_if t v) (copies_in v f))
copies_of_it v f t =
    one_of_it v f 1 t _ (place_in v f 1) refl (one_of_it v f 2 t _ (place_in v f 2) refl (one_of_it v f 3 t _ (place_in v f 3) refl (one_of_it v f 4 t _ (place_in v f 4) refl (none_of_it v f))))

pub source_placed : (v : Table) (f n : ℕ) (p : Place) → slice_get (sources_in v f) n ≡ Some p → (c : ℕ) × (place_in v f c ≡ Some p)
unfolding AreOf
source_placed v f n p at = by (somes (map (place_if may_be_read v) (copies_in v f))) at (λ e. copies_of_it v f may_be_read p n e)
  where
    by : (xs : List Place) → slice_get (or_else xs (somes (map (place_if is_whole v) (copies_in v f)))) n ≡ Some p → (slice_get xs n ≡ Some p → (c : ℕ) × (place_in v f c ≡ Some p)) → (c : ℕ) × (place_in v f c ≡ Some p)
    by [] e a = copies_of_it v f is_whole p n e
    by (x ∷ xs) e a = a e
