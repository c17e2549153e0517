-- Whether a live file is safe on tape, from the table and a book of jobs.
use Rattle.std.proofs.Common.{◌≡◌, ℕ, zero, suc, ◌+◌, ◌≤◌, inl, inr, List, [], ◌∷◌, Bool, true, ◌||◌, not, refl, sym, ◌∙◌, ap, arith}
use Rattle.std.specs.Prelude.{Option, Some, None, is_some, ◌&&◌, filter}
use Rattle.std.specs.List.{list_all, list_any, filter_map, range_with_len}
use Rattle.cta_site.specs.declared.site.Site.{Site}
use Rattle.cta_model.specs.declared.states.Place.{Place}
use Rattle.cta_model.specs.History.{History, is_empty}
use Rattle.cta_model.specs.Files.{copies_of_file, copy_numbers, is_live}
use Rattle.cta_model.specs.Tapes.{is_broken, tape_state}
use Rattle.cta_model.specs.Places.{place_of, was_flushed}
use Rattle.cta_model.specs.Jobs.{archive_birth}
use Rattle.cta_model.specs.Legal.{IsLegal}
use Rattle.cta_laws.proofs.Tests.{bool_cases}
use Rattle.cta_laws.proofs.Ranges.{any_filter_map, is_some_where}
use Rattle.cta_laws.proofs.FlushedCopies.{places_are_on_site}
use Rattle.part_model.specs.declared.space.TapeRow.{TapeRow}
use Rattle.part_model.specs.Tapes.{Table, is_whole_place, place_in}
use Rattle.part_laws.specs.Tapes.{IsTable}
use Rattle.part_laws.specs.TableLaws.{FlagIsFound}

pub all_same : (p q : ℕ → Bool) (ns : List ℕ) → ((n : ℕ) → p n ≡ q n) → list_all p ns ≡ list_all q ns
all_same p q [] same = refl
all_same p q (n ∷ ns) same = rw (same n, all_same p q ns same) refl

-- two tests that agree from 1 on agree over numbers from 1 on
any_from : (p q : ℕ → Bool) (a n : ℕ) → 1 ≤ a → ((c : ℕ) → 1 ≤ c → p c ≡ q c) → list_any p (range_with_len a n) ≡ list_any q (range_with_len a n)
any_from p q a zero low same = refl
any_from p q a (suc n) low same = ors (same a low) (any_from p q (a + 1) n (omega arith) same)
  where
    ors : {a b c d : Bool} → a ≡ b → c ≡ d → (a || c) ≡ (b || d)
    ors x y = cc

some_passes : (test : Place → Bool) (xs : List Place) → not (is_empty (filter test xs)) ≡ list_any test xs
some_passes test [] = refl
some_passes test (x ∷ xs) = elim (bool_cases (test x)) [ inl hit ↦ rw hit refl | inr miss ↦ rw miss (some_passes test xs) ]

-- a copy of a live file has a place where it was flushed
pub flushed_is : (h : History) (v : Table) (f c : ℕ) → is_live h f ≡ true → place_in v f c ≡ place_of h f c → was_flushed h f c ≡ is_some (place_in v f c)
flushed_is h v f c live is = ap is_some (sym (rw live refl) ∙ sym is)

-- the table tells the state of the tape of a place
whole_is : (site : Site) (h : History) (v : Table) (f c : ℕ) (o : Option Place) → IsLegal site h → IsTable site h v → place_of h f c ≡ o → is_some_where (λ (p : Place). not (is_broken (tape_state site h p.tape))) o ≡ is_whole_place v o
whole_is site h v f c None legal is there = refl
whole_is site h v f c (Some p) legal is there = sym (ap (λ (r : TapeRow). not (is_broken r.state)) (is.rows p.tape (places_are_on_site site h legal f c p there)))

any_whole : (site : Site) (h : History) (v : Table) (f : ℕ) (cs : List ℕ) → IsLegal site h → IsTable site h v → list_any (λ c. is_some_where (λ (p : Place). not (is_broken (tape_state site h p.tape))) (place_of h f c)) cs ≡ list_any (λ c. is_whole_place v (place_in v f c)) cs
any_whole site h v f [] legal is = refl
any_whole site h v f (c ∷ cs) legal is = ors (whole_is site h v f c (place_of h f c) legal is refl ∙ ap (is_whole_place v) (sym (is.places f c))) (any_whole site h v f cs legal is)
  where
    ors : {a b c d : Bool} → a ≡ b → c ≡ d → (a || c) ≡ (b || d)
    ors x y = cc

jobs_from : (site : Site) (h : History) (jobs : ℕ → ℕ → Option ℕ) (f : ℕ) → ((c : ℕ) → jobs f (suc c) ≡ archive_birth site h f (suc c)) → (c : ℕ) → 1 ≤ c → is_some (archive_birth site h f c) ≡ is_some (jobs f c)
jobs_from site h jobs f same zero low = absurd (omega arith)
jobs_from site h jobs f same (suc c) low = ap is_some (sym (same c))

pub flag_is_found : FlagIsFound
flag_is_found site h v jobs f legal is live books =
    ands
    (all_same (was_flushed h f) (λ c. is_some (place_in v f c)) (copy_numbers site h f) (λ c. flushed_is h v f c live (is.places f c)))
    (ands
    (some_passes (λ (p : Place). not (is_broken (tape_state site h p.tape))) (filter_map (place_of h f) (copy_numbers site h f))
    ∙ any_filter_map (λ (p : Place). not (is_broken (tape_state site h p.tape))) (place_of h f) (copy_numbers site h f)
    ∙ any_whole site h v f (copy_numbers site h f) legal is)
    (ap not (any_from (λ c. is_some (archive_birth site h f c)) (λ c. is_some (jobs f c)) 1 (copies_of_file site h f) (omega arith) (jobs_from site h jobs f books))))
  where
    ands : {a b c d : Bool} → a ≡ b → c ≡ d → (a && c) ≡ (b && d)
    ands x y = cc
