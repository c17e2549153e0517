-- Items of repacks that fail with the recalls of their files.
use Rattle.std.proofs.Common.{◌≡◌, ◌∙◌, ◌-◌, ◌+◌, ◌<◌, ℕ, zero, suc, List, [], ◌∷◌, ◌++◌, refl, sym, ap, arith, length, take, append-nil, append_assoc}
use Rattle.std.specs.Prelude.{get_or}
use Rattle.std.proofs.lemmas.List.{take_more}
use Rattle.cta_model.specs.declared.reports.ItemState.{ItemState}
use Rattle.cta_model.specs.declared.reports.ItemState.TheVariants as item
use Rattle.part_model.specs.Repacks.{Repacks, RepacksAgree, Target, repack_in, set_state, set_states}
use Rattle.part_laws.proofs.SameBooks.{repack_calls_agree}
use Rattle.fault_asks.specs.Reading.{pair_targets, targets_down}
use Rattle.part_moves.proofs.ItemsLeft.{states_both, states_same}

-- the highest copy that is left fails, and then the lower ones
pub next_down : (id f n : ℕ) (u w all : Repacks) → 0 < n → RepacksAgree (set_states item.Failed (targets_down id f n) u) all → RepacksAgree w (set_state id f (n - 1 + 1) item.Failed u) → RepacksAgree (set_states item.Failed (targets_down id f (n - 1)) w) all
next_down id f zero u w all some before now = absurd (omega arith)
next_down id f (suc n) u w all some before now = λ k.
    (let less : suc n - 1 ≡ n = omega arith in
    let same : suc n - 1 + 1 ≡ suc n = omega arith in
    ap (λ (m : ℕ). repack_in (set_states item.Failed (targets_down id f m) w) k) less
    ∙ states_same item.Failed (targets_down id f n) w (set_state id f (suc n) item.Failed u) (λ q. now q ∙ ap (λ (m : ℕ). repack_in (set_state id f m item.Failed u) q) same) k
    ∙ before k)

targets_last : (xs : List (ℕ × ℕ)) (x : ℕ × ℕ) → pair_targets (xs ++ x ∷ []) ≡ pair_targets xs ++ targets_down x.0 x.1 4
targets_last [] x = append-nil _
targets_last (y ∷ xs) x = ap (λ (ts : List Target). targets_down y.0 y.1 4 ++ ts) (targets_last xs x) ∙ sym (append_assoc (targets_down y.0 y.1 4) (pair_targets xs) (targets_down x.0 x.1 4))

-- one more of those that wait
pub next_failed : (xs : List (ℕ × ℕ)) (i : ℕ) (d : ℕ × ℕ) (v u w : Repacks) → i < length xs → RepacksAgree u (set_states item.Failed (pair_targets (take i xs)) v)
    → RepacksAgree w (set_states item.Failed (targets_down (get_or xs i d).0 (get_or xs i d).1 4) u) → RepacksAgree w (set_states item.Failed (pair_targets (take (i + 1) xs)) v)
next_failed xs i d v u w low before now k =
    now k
    ∙ states_same item.Failed (targets_down (get_or xs i d).0 (get_or xs i d).1 4) u (set_states item.Failed (pair_targets (take i xs)) v) before k
    ∙ sym (ap (λ (ts : List Target). repack_in (set_states item.Failed ts v) k) (ap pair_targets (take_more xs i d low) ∙ targets_last (take i xs) (get_or xs i d))
    ∙ ap (λ (r : Repacks). repack_in r k) (states_both item.Failed (pair_targets (take i xs)) (targets_down (get_or xs i d).0 (get_or xs i d).1 4) v))
