-- Lemmas on entries that are kept oldest first.
use Rattle.std.specs.Prelude.{ℕ, ◌≡◌, refl, ◌+◌, ◌-◌, max, ◌<◌, length, List, [], ◌∷◌, ◌++◌, take, get_or, map}
use Rattle.std.proofs.Common.{arith, length-take, ap, sym, ◌∙◌, ◌≤◌}
use Rattle.std.proofs.lemmas.List.{take_all, reverse-append, length-reverse, take_more, map-append, length-map}
use Rattle.cta_model.specs.declared.entries.Entry.{Entry}
use Rattle.cta_model.specs.History.{moment_of}
use Rattle.cta_model.specs.Bare.{bare_entry}
use Rattle.cta_model.specs.Newest.{history_in}

pub history_in-none : history_in [] ≡ []
unfolding history_in
history_in-none = refl

pub history_in-push : (xs : List Entry) (e : Entry) → history_in (xs ++ e ∷ []) ≡ bare_entry e ∷ history_in xs
unfolding history_in
history_in-push xs e = rw (map-append bare_entry xs (e ∷ [])) (rw reverse-append refl)

history_in-more : (xs : List Entry) (i : ℕ) (d : Entry) → i < length xs → history_in (take (i + 1) xs) ≡ bare_entry (get_or xs i d) ∷ history_in (take i xs)
history_in-more xs i d h = rw (take_more xs i d h) (history_in-push (take i xs) (get_or xs i d))

pub length-history_in : (xs : List Entry) → length (history_in xs) ≡ length xs
unfolding history_in
length-history_in xs = length-reverse (map bare_entry xs) ∙ length-map xs bare_entry

pub history_in-taken : (xs : List Entry) (i : ℕ) → i ≤ length xs → length (history_in (take i xs)) ≡ i
history_in-taken xs i h = rw length-history_in (simp length-take (omega arith))

-- the step of a loop over the entries, where the one at i was read
pub history_in-read : (xs : List Entry) (i : ℕ) (e : Entry) → i < length xs → e ≡ get_or xs i e → history_in (take (i + 1) xs) ≡ bare_entry e ∷ history_in (take i xs)
history_in-read xs i e h read = history_in-more xs i e h ∙ ap (λ (x : Entry). bare_entry x ∷ history_in (take i xs)) (sym read)

pub ruleset scans = (history_in-none, history_in-push, history_in-read, history_in-taken, length-history_in)

history_in-last : (xs : List Entry) (e : Entry) → 0 < length xs → e ≡ get_or xs (length xs - 1) e → history_in xs ≡ bare_entry e ∷ history_in (take (length xs - 1) xs)
history_in-last xs e some read =
    let whole : take ((length xs - 1) + 1) xs ≡ xs = take_all _ xs (omega arith) in
    ap history_in (sym whole) ∙ history_in-read xs (length xs - 1) e (omega arith) read

pub moment_of-none : (xs : List Entry) (t : ℕ) → length xs ≡ 0 → moment_of (history_in xs) t ≡ t
moment_of-none [] t none = rw history_in-none (omega arith)
moment_of-none (x ∷ xs) t none = absurd (omega arith)

pub moment_of-last : (xs : List Entry) (t : ℕ) (e : Entry) → 0 < length xs → e ≡ get_or xs (length xs - 1) e → moment_of (history_in xs) t ≡ max t e.at
moment_of-last xs t e some read = rw (history_in-last xs e some read) refl

pub ruleset moments = (moment_of-none, moment_of-last)
