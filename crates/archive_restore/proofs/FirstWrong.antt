-- Where a log is first wrong.
use Rattle.std.proofs.Common.{◌≡◌, ℕ, suc, ◌+◌, ◌-◌, ◌<◌, inl, inr, List, [], ◌∷◌, ◌++◌, sym, ap, ◌∙◌, subst, arith, length, take, append_assoc}
use Rattle.std.specs.Prelude.{reverse}
use Rattle.std.proofs.lemmas.Bool.{cases_lt}
use Rattle.std.proofs.lemmas.List.{reverse-append}
use Rattle.std.proofs.Math.Seq.{take-append_seam, take-append-add}
use Rattle.cta_site.specs.declared.site.Site.{Site}
use Rattle.cta_records.specs.declared.kept.Kept.{Kept}
use Rattle.archive_restore.specs.Logs.{AreRight, IsRightLog, IsFirstWrong, IsWrongOnce, MayFollow, history_of_log}

older_right : (site : Site) (newer older : List Kept) → AreRight site (newer ++ older) → AreRight site older
older_right site [] older right = right
older_right site (k ∷ newer) older right = older_right site newer older right.0

turned : (older : List Kept) (k : Kept) (newer : List Kept) → reverse (older ++ k ∷ newer) ≡ reverse newer ++ k ∷ reverse older
turned older k newer =
    reverse-append older (k ∷ newer)
    ∙ (ap (λ (l : List Kept). l ++ reverse older) (reverse-append (k ∷ []) newer) ∙ append_assoc (reverse newer) (k ∷ []) (reverse older))

-- a record of a right log may follow those before it, which are right
pub follows : (site : Site) (older : List Kept) (k : Kept) (newer : List Kept) → IsRightLog site (older ++ k ∷ newer) → IsRightLog site older × MayFollow site (history_of_log older) k
follows site older k newer right = older_right site (reverse newer) (k ∷ reverse older) (subst (λ (l : List Kept). AreRight site l) (turned older k newer) right)

longer : (a b x y : List Kept) (k j : Kept) (n : ℕ) → length b ≡ length a + suc n → a ++ k ∷ x ≡ b ++ j ∷ y → b ≡ a ++ k ∷ take n x
longer a b x y k j n len same =
    sym (take-append_seam b (j ∷ y))
    ∙ (ap (λ (l : List Kept). take (length b) l) (sym same) ∙ (ap (λ (m : ℕ). take m (a ++ k ∷ x)) len ∙ take-append-add a (k ∷ x) (suc n)))

-- no record before the first wrong one is wrong
not_before : (site : Site) (log : List Kept) (n m : ℕ) (f : IsFirstWrong site log n) (g : IsFirstWrong site log m) → length f.older < length g.older → ⊥
not_before site log n m f g less =
    let k : ℕ = length g.older - (length f.older + 1) in
    let len : length g.older ≡ length f.older + suc k = omega (arith, less) in
    let front : g.older ≡ f.older ++ f.wrong ∷ take k f.newer = longer f.older g.older f.newer g.newer f.wrong g.wrong k len (sym f.split ∙ g.split) in
    f.stops (follows site f.older f.wrong (take k f.newer) (subst (λ (l : List Kept). IsRightLog site l) front g.right)).1

named_once : (site : Site) (log : List Kept) (n m : ℕ) → IsFirstWrong site log n → IsFirstWrong site log m → n ≡ m
named_once site log n m f g =
    elim (cases_lt (length f.older) (length g.older)) [
      | inl less ↦ absurd (not_before site log n m f g less)
      | inr le ↦ elim (cases_lt (length g.older) (length f.older)) [ inl less ↦ absurd (not_before site log m n g f less) | inr ge ↦ omega (arith, f.number, g.number, le, ge) ]
    ]

pub wrong_once : IsWrongOnce
wrong_once = record {
  once = named_once;
  not_right = λ site log n f right. f.stops (follows site f.older f.wrong f.newer (subst (λ (l : List Kept). IsRightLog site l) f.split right)).1;
}
