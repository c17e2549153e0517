-- The copies that a walk along a tape has passed are the items of a repack of the tape, and no two are of one file.
use Rattle.std.proofs.Common.{◌≡◌, ◌∙◌, ◌+◌, ◌<◌, ◌≤◌, ◌⊎◌, ℕ, inl, inr, List, [], ◌∷◌, Bool, true, false, ◌||◌, refl, sym, ap, subst, arith}
use Rattle.std.specs.Prelude.{Option, Some, None, ◌==◌}
use Rattle.std.specs.List.{AllByRecursion, list_any}
use Rattle.std.proofs.lemmas.Bool.{and_from, and_parts, eq-eqb, eqb-true}
use Rattle.cta_site.specs.declared.site.Site.{Site}
use Rattle.cta_site.specs.ValidSite.{IsValidSite}
use Rattle.cta_model.specs.declared.asks.Job.{Job}
use Rattle.cta_model.specs.declared.states.Place.{Place}
use Rattle.cta_model.specs.History.{History, has_number}
use Rattle.cta_model.specs.Legal.{IsLegal}
use Rattle.cta_model.specs.Places.{is_at}
use Rattle.cta_model.specs.RepackItems.{repack_items}
use Rattle.cta_laws.specs.Places.{OnePlaceOnTape}
use Rattle.cta_laws.proofs.Bools.{same_bool}
use Rattle.cta_laws.proofs.Tests.{bool_cases, or_left, or_right}
use Rattle.part_model.specs.declared.space.Placed.{Placed}
use Rattle.part_model.specs.Tapes.{Table, place_in}
use Rattle.part_laws.specs.Tapes.{IsTable}
use Rattle.part_laws.specs.Operators.{AreCopiesOn, ByFseq, is_copy_at, items_told}
use Rattle.part_laws.proofs.CopiesTold.{items_are}
use Rattle.part_laws.specs.Births.{files_of}
use Rattle.tape_table.specs.Live.{AreAllLive, AreRising, IsAmong, IsLiveFrom}
use Rattle.part_moves.specs.Flags.{job_files}
use Rattle.tape_asks.specs.Items.{AreItemsOn}

-- ---- in order of fSeq

all_behind : (n : ℕ) (ps : List Placed) → AreRising n ps → (m : ℕ) → m < n → AllByRecursion (λ (q : Placed). m < q.place.fseq) ps
unfolding AreRising
all_behind n [] up m low = tt
all_behind n (p ∷ ps) up m low = (let far : n ≤ p.place.fseq = up.0 in (omega (arith, low, far), all_behind (p.place.fseq + 1) ps up.1 m (omega (arith, low, far))))

by_fseq : (n : ℕ) (ps : List Placed) → AreRising n ps → ByFseq ps
unfolding AreRising
by_fseq n [] up = tt
by_fseq n (p ∷ ps) up = (all_behind (p.place.fseq + 1) ps up.1 p.place.fseq (omega arith), by_fseq (p.place.fseq + 1) ps up.1)

-- ---- each copy that has its place there, and no other

found_at : (v : Table) (tape n f c s : ℕ) (ps : List Placed) → AllByRecursion (IsLiveFrom v.places tape n) ps → list_any (is_copy_at f c s) ps ≡ true → is_at tape s (place_in v f c) ≡ true
found_at v tape n f c s [] all e = absurd (cc)
found_at v tape n f c s (p ∷ ps) all e = by (is_copy_at f c s p) refl e (λ x. found_at v tape n f c s ps all.1 x)
  where
    here : is_copy_at f c s p ≡ true → is_at tape s (place_in v f c) ≡ true
    here hit =
        (let a = and_parts (p.file == f) _ hit in
        let b = and_parts (p.copy == c) _ a.1 in
        let placed : place_in v f c ≡ Some p.place =
        ap (λ (g : ℕ). place_in v g c) (sym (eqb-true p.file f a.0)) ∙ ap (place_in v p.file) (sym (eqb-true p.copy c b.0)) ∙ all.0.placed in
        ap (is_at tape s) placed ∙ and_from (p.place.tape == tape) (p.place.fseq == s) (eq-eqb p.place.tape tape all.0.there) b.1)

    by : (b : Bool) → is_copy_at f c s p ≡ b → (b || list_any (is_copy_at f c s) ps) ≡ true → (list_any (is_copy_at f c s) ps ≡ true → is_at tape s (place_in v f c) ≡ true) → is_at tape s (place_in v f c) ≡ true
    by true is x rest = here is
    by false is x rest = rest x

among_is : (q : Placed) (f c s : ℕ) (ps : List Placed) → IsAmong q ps → is_copy_at f c s q ≡ true → list_any (is_copy_at f c s) ps ≡ true
unfolding IsAmong
among_is q f c s [] there is = absurd there
among_is q f c s (p ∷ ps) (inl same) is = or_left (is_copy_at f c s p) _ (subst (λ (x : Placed). is_copy_at f c s x ≡ true) same is)
among_is q f c s (p ∷ ps) (inr later) is = or_right (is_copy_at f c s p) _ (among_is q f c s ps later is)

there_at : (v : Table) (tape f c s : ℕ) (ps : List Placed) → AreAllLive v.places tape 0 ps → (o : Option Place) → place_in v f c ≡ o → is_at tape s o ≡ true → list_any (is_copy_at f c s) ps ≡ true
there_at v tape f c s ps all None is e = absurd (cc)
there_at v tape f c s ps all (Some p) is e =
    let both = and_parts (p.tape == tape) (p.fseq == s) e in
    let q : Placed = record { file = f; copy = c; place = p } in
    let live : IsLiveFrom v.places tape 0 (record { file = f; copy = c; place = p }) = record { placed = is; there = eqb-true p.tape tape both.0; behind = omega arith } in
    among_is (record { file = f; copy = c; place = p }) f c s ps (all.all (record { file = f; copy = c; place = p }) live)
    (and_from (f == f) _ (eq-eqb f f refl) (and_from (c == c) (p.fseq == s) (eq-eqb c c refl) both.1))

pub copies_on : (v : Table) (tape : ℕ) (ps : List Placed) → AreAllLive v.places tape 0 ps → AreCopiesOn v tape ps
copies_on v tape ps all = record {
  in_order = by_fseq 0 ps all.rising;
  members = λ f c s. same_bool (list_any (is_copy_at f c s) ps) (is_at tape s (place_in v f c)) (λ e. found_at v tape 0 f c s ps all.only e) (λ e. there_at v tape f c s ps all (place_in v f c) refl e);
}

-- the items are those of a repack
pub repacked : (site : Site) (h : History) (v : Table) (tape : ℕ) (items : List Job) → IsLegal site h → IsTable site h v → AreItemsOn v tape items → items ≡ repack_items h tape
repacked site h v tape items legal is are = are.told ∙ items_are site h v tape are.walk legal is (copies_on v tape are.walk are.all)

-- ---- each file once

-- a file has at most one place on a tape
abbrev pub HasOnePlace : Table → ℕ → Type 0
HasOnePlace v tape = (f c d : ℕ) (p q : Place) → place_in v f c ≡ Some p → place_in v f d ≡ Some q → p.tape ≡ tape → q.tape ≡ tape → c ≡ d

pub one_place : OnePlaceOnTape → (site : Site) (h : History) (v : Table) (tape : ℕ) → IsValidSite site → IsLegal site h → IsTable site h v → HasOnePlace v tape
one_place law site h v tape valid legal is f c d p q at on there here = law site h valid legal f c d p q (sym (is.places f c) ∙ at) (sym (is.places f d) ∙ on) (there ∙ sym here)

-- a copy behind another is of another file
other_file : (v : Table) (tape n : ℕ) (p q : Placed) → HasOnePlace v tape → IsLiveFrom v.places tape n p → IsLiveFrom v.places tape (p.place.fseq + 1) q → (q.file == p.file) ≡ false
other_file v tape n p q one a b = by (bool_cases (q.file == p.file))
  where
    by : ((q.file == p.file) ≡ true) ⊎ ((q.file == p.file) ≡ false) → (q.file == p.file) ≡ false
    by (inr miss) = miss
    by (inl hit) =
        (let same : q.file ≡ p.file = eqb-true q.file p.file hit in
        let at : place_in v p.file q.copy ≡ Some q.place = ap (λ (g : ℕ). place_in v g q.copy) (sym same) ∙ b.placed in
        let copy : p.copy ≡ q.copy = one p.file p.copy q.copy p.place q.place a.placed at a.there b.there in
        let both : Some p.place ≡ Some q.place = sym a.placed ∙ ap (place_in v p.file) copy ∙ at in
        let place : p.place ≡ q.place = cc in
        let fseq : p.place.fseq ≡ q.place.fseq = ap (λ (x : Place). x.fseq) place in
        let far : p.place.fseq + 1 ≤ q.place.fseq = b.behind in
        absurd (omega (arith, fseq, far)))

files_alone : (v : Table) (tape n : ℕ) (seen : List ℕ) (ps : List Placed) → HasOnePlace v tape → AreRising n ps → AllByRecursion (IsLiveFrom v.places tape 0) ps
    → ((q : Placed) → IsLiveFrom v.places tape n q → has_number q.file seen ≡ false) → files_of (items_told ps) seen ≡ job_files (items_told ps)
unfolding AreRising
files_alone v tape n seen [] one up all new = refl
files_alone v tape n seen (p ∷ ps) one up all new =
    let here : IsLiveFrom v.places tape n p = record { placed = all.0.placed; there = all.0.there; behind = up.0 } in
    rw (new p here) (ap (λ (fs : List ℕ). p.file ∷ fs) (files_alone v tape (p.place.fseq + 1) (p.file ∷ seen) ps one up.1 all.1
    (λ q live. (let low : n ≤ p.place.fseq = up.0 in
    let far : p.place.fseq + 1 ≤ q.place.fseq = live.behind in
    rw (other_file v tape n p q one here live) (new q (record { placed = live.placed; there = live.there; behind = omega (arith, low, far) }))))))

-- the files of the items are each there once
pub files_once : (v : Table) (tape : ℕ) (items : List Job) → HasOnePlace v tape → AreItemsOn v tape items → files_of items [] ≡ job_files items
files_once v tape items one are =
    ap (λ (js : List Job). files_of js []) are.told ∙ files_alone v tape 0 [] are.walk one are.all.rising are.all.only (λ q live. refl) ∙ ap job_files (sym are.told)
