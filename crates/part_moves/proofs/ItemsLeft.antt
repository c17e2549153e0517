-- Items of repacks that end.
use Rattle.std.proofs.Common.{◌≡◌, ◌∙◌, ℕ, zero, suc, List, [], ◌∷◌, ◌++◌, Bool, true, false, ◌||◌, refl, ap}
use Rattle.std.specs.Prelude.{◌==◌, ◌&&◌, if◌then◌else◌, filter, map}
use Rattle.std.proofs.lemmas.Bool.{and_from, eq-eqb}
use Rattle.cta_model.specs.declared.reports.ItemState.{ItemState}
use Rattle.cta_model.specs.declared.reports.ItemState.TheVariants as item
use Rattle.cta_model.specs.declared.states.RepackCopy.{RepackCopy}
use Rattle.cta_model.specs.History.{has_number}
use Rattle.cta_laws.proofs.Claims.{AllOf}
use Rattle.cta_laws.proofs.Tests.{or_left, or_right}
use Rattle.part_model.specs.Repacks.{Repacks, RepacksAgree, Target, is_reading, set_state, set_states}
use Rattle.part_laws.proofs.SameBooks.{repack_calls_agree}
use Rattle.part_model.specs.JobBook.{Book, TellSame, end_jobs, give_back_jobs}

pub states_same : (s : ItemState) (xs : List Target) (v w : Repacks) → RepacksAgree v w → RepacksAgree (set_states s xs v) (set_states s xs w)
states_same s [] v w same = same
states_same s (x ∷ xs) v w same = states_same s xs (set_state x.0 x.1 x.2 s v) (set_state x.0 x.1 x.2 s w) ((repack_calls_agree v w same).set x.0 x.1 x.2 s)

pub states_both : (s : ItemState) (xs ys : List Target) (v : Repacks) → set_states s (xs ++ ys) v ≡ set_states s ys (set_states s xs v)
states_both s [] ys v = refl
states_both s (x ∷ xs) ys v = states_both s xs ys (set_state x.0 x.1 x.2 s v)

unfoldable pub in_down : ℕ → ℕ → Bool
in_down c zero = false
in_down c (suc n) = c == suc n || in_down c n

pub record IsFound (xs : List RepackCopy) (i : RepackCopy) : Type 0 where
  pub reading : i.state ≡ item.Reading → has_number i.copy (map (λ (j : RepackCopy). j.copy) (filter (λ (j : RepackCopy). j.file == i.file && is_reading j.state) xs)) ≡ true

pub found_more : (j : RepackCopy) (xs : List RepackCopy) (i : RepackCopy) → IsFound xs i → IsFound (j ∷ xs) i
found_more j xs i was = record { reading = λ is. by (j.file == i.file && is_reading j.state) (was.reading is) }
  where
    by : (b : Bool) → has_number i.copy (map (λ (j : RepackCopy). j.copy) (filter (λ (j : RepackCopy). j.file == i.file && is_reading j.state) xs)) ≡ true
        → has_number i.copy (map (λ (j : RepackCopy). j.copy) (if b then j ∷ filter (λ (j : RepackCopy). j.file == i.file && is_reading j.state) xs else filter (λ (j : RepackCopy). j.file == i.file && is_reading j.state) xs)) ≡ true
    by true x = or_right (i.copy == j.copy) _ x
    by false x = x

pub found_here : (i : RepackCopy) (xs : List RepackCopy) → IsFound (i ∷ xs) i
found_here i xs = record { reading = λ is. by (i.file == i.file && is_reading i.state) (and_from _ _ (eq-eqb i.file i.file refl) (ap is_reading is)) }
  where
    by : (b : Bool) → b ≡ true → has_number i.copy (map (λ (j : RepackCopy). j.copy) (if b then i ∷ filter (λ (j : RepackCopy). j.file == i.file && is_reading j.state) xs else filter (λ (j : RepackCopy). j.file == i.file && is_reading j.state) xs)) ≡ true
    by true x = or_left (i.copy == i.copy) _ (eq-eqb i.copy i.copy refl)
    by false x = absurd (cc)

pub map_on : (P Q : RepackCopy → Type 0) (p q : RepackCopy → RepackCopy) (xs : List RepackCopy) → AllOf P xs → AllOf Q xs → ((i : RepackCopy) → P i → Q i → p i ≡ q i) → map p xs ≡ map q xs
map_on P Q p q [] a b same = refl
map_on P Q p q (i ∷ xs) a b same = ap (λ (j : RepackCopy). j ∷ map p xs) (same i a.0 b.0) ∙ ap (λ (ys : List RepackCopy). q i ∷ ys) (map_on P Q p q xs a.1 b.1 same)

-- no call leaves a book as it is
pub none_given : (b : Book) → TellSame b (give_back_jobs [] b)
none_given b = record { recall = λ f. refl; archive = λ f c. refl; claimer = λ j. refl; charges = λ j. refl; last_birth = λ f c. refl; named = λ j. refl }

pub none_ended : (b : Book) → TellSame b (end_jobs [] b)
none_ended b = record { recall = λ f. refl; archive = λ f c. refl; claimer = λ j. refl; charges = λ j. refl; last_birth = λ f c. refl; named = λ j. refl }
