-- A log with one record more.
use Rattle.std.proofs.Common.{◌≡◌, ℕ, ◌+◌, ◌<◌, List, [], ◌∷◌, ◌++◌, sym, ap, ◌∙◌, subst, length, take, drop, get_or, map-id, append_assoc}
use Rattle.std.specs.Prelude.{map, reverse}
use Rattle.std.proofs.lemmas.List.{length-map, length-reverse, reverse-append, take-append-drop, take_more}
use Rattle.cta_site.specs.declared.site.Site.{Site}
use Rattle.cta_model.specs.Bare.{bare_entry}
use Rattle.cta_model.specs.History.{History, next_number}
use Rattle.cta_records.specs.declared.kept.Kept.{Kept}
use Rattle.archive_restore.specs.Logs.{AreRight, IsFirstWrong, IsRightLog, MayFollow, entries_of, history_of_log}

turned_more : (older : List Kept) (kept : Kept) → reverse (older ++ kept ∷ []) ≡ kept ∷ reverse older
turned_more older kept = reverse-append older (kept ∷ [])

pub history_more : (older : List Kept) (kept : Kept) → history_of_log (older ++ kept ∷ []) ≡ bare_entry kept.entry ∷ history_of_log older
history_more older kept = ap (λ (l : List Kept). entries_of l) (turned_more older kept)

pub right_more : (site : Site) (older : List Kept) (kept : Kept) → IsRightLog site older → MayFollow site (history_of_log older) kept → IsRightLog site (older ++ kept ∷ [])
right_more site older kept right follows = subst (λ (l : List Kept). AreRight site l) (sym (turned_more older kept)) (right, follows)

-- the same of a site and a history that are those of the log
pub log_more : (site s : Site) (h : History) (older : List Kept) (kept : Kept) → s ≡ site → h ≡ history_of_log older → IsRightLog site older → MayFollow s h kept → IsRightLog site (older ++ kept ∷ [])
log_more site s h older kept same is right follows = right_more site older kept right (subst (λ (l : History). MayFollow site l kept) is (subst (λ (x : Site). MayFollow x h kept) same follows))

pub told_more : (h new : History) (older : List Kept) (kept : Kept) → h ≡ history_of_log older → new ≡ bare_entry kept.entry ∷ h → new ≡ history_of_log (older ++ kept ∷ [])
told_more h new older kept is grown = grown ∙ (ap (λ (l : History). bare_entry kept.entry ∷ l) is ∙ sym (history_more older kept))

pub length_of_log : (log : List Kept) → length (history_of_log log) ≡ length log
length_of_log log = length-map (reverse log) (λ (k : Kept). bare_entry k.entry) ∙ length-reverse log

pub first_wrong : (site : Site) (log older : List Kept) (kept : Kept) (rest : List Kept) (n : ℕ) (h : History) → log ≡ older ++ kept ∷ rest → h ≡ history_of_log older → n ≡ next_number h → IsRightLog site older
    → (MayFollow site h kept → ⊥) → IsFirstWrong site log n
first_wrong site log older kept rest n h split is number right wrong =
    record {
      older = older;
      wrong = kept;
      newer = rest;
      split = split;
      number = number ∙ ap (λ (m : ℕ). m + 1) (ap (λ (l : History). length l) is ∙ length_of_log older);
      right = right;
      stops = λ follows. wrong (subst (λ (l : History). MayFollow site l kept) (sym is) follows);
    }

-- the same of a site that is the log's
pub first_wrong_of : (site s x : Site) (log older : List Kept) (kept : Kept) (rest : List Kept) (n : ℕ) (h : History) → x ≡ site → s ≡ x → log ≡ older ++ kept ∷ rest → h ≡ history_of_log older → IsRightLog x older
    → (n ≡ next_number h) × (MayFollow s h kept → ⊥) → IsFirstWrong site log n
first_wrong_of site s x log older kept rest n h of same split is right wrong =
    first_wrong site log older kept rest n h split is wrong.0 (subst (λ (y : Site). IsRightLog y older) of right) (λ follows. wrong.1 (subst (λ (y : Site). MayFollow y h kept) (sym (same ∙ of)) follows))

-- a log of which some records are passed, and its next record
pub split_at : (log older : List Kept) (kept : Kept) → map (λ (k : Kept). k) older ≡ take (length older) log → length older < length log → kept ≡ get_or log (length older) kept → log ≡ older ++ kept ∷ drop (length older + 1) log
split_at log older kept so_far low is =
    let front : take (length older + 1) log ≡ older ++ kept ∷ [] =
    take_more log (length older) kept low
    ∙ (ap (λ (l : List Kept). l ++ get_or log (length older) kept ∷ []) (sym so_far ∙ map-id older) ∙ ap (λ (k : Kept). older ++ k ∷ []) (sym is)) in
    sym (take-append-drop (length older + 1) log)
    ∙ (ap (λ (l : List Kept). l ++ drop (length older + 1) log) front ∙ append_assoc older (kept ∷ []) (drop (length older + 1) log))
