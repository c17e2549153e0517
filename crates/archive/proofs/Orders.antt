-- The laws of turns, turned round.
use Rattle.std.proofs.Common.{◌≡◌, ℕ, zero, suc, ◌+◌, ◌≤◌, inl, inr, List, [], ◌∷◌, ◌++◌, Bool, true, false, refl, sym, ap, ◌∙◌, subst, arith, length, length-append, append_assoc}
use Rattle.std.specs.Prelude.{Option, Some, reverse}
use Rattle.std.proofs.lemmas.List.{append-nil, reverse-append, reverse-reverse, length-reverse}
use mathlib.Core.List.{IsPrefix}
use mathlib.Core.Option.{some, some-injective, some-ne-none}
use lib.ListN.{get_elem?}
use Rattle.blob.specs.Records.{MediumView}
use Rattle.cta_site.specs.declared.site.Site.{Site}
use Rattle.cta_model.specs.declared.entries.Entry.{Entry}
use Rattle.cta_model.specs.History.{History}
use Rattle.cta_model.specs.Legal.{IsLegal}
use Rattle.turn_hall.specs.Lists.{one_if}
use Rattle.turn_hall.specs.Topics.{Unasked}
use Rattle.archive_turns.specs.declared.calls.ArchiveCall.{ArchiveCall}
use Rattle.archive_turns.specs.declared.calls.ArchiveCall.TheVariants as call
use Rattle.archive_turns.specs.Topics.{topic_of, AreApart}
use Rattle.archive_turns.specs.Plays.{Plays, call_adds, call_asks}
use Rattle.archive_turns.specs.Fits.{CanPlay, IsFitCall}
use Rattle.archive_turns.specs.Laws.{IsGrown, CallAddsOrKeeps, PlayKeepsLegal, EntriesNameTheirMounts, OpensByItsNumber, FitCallStays}
use Rattle.archive.specs.InOrder.{Grows, Sounds, Topics, Opens, Stays}

-- ---- lists turned round

reverse_last : {A : Type 0} (x : A) (xs : List A) → reverse (x ∷ xs) ≡ reverse xs ++ x ∷ []
reverse_last x xs = reverse-append (x ∷ []) xs

pub reverse_one : {A : Type 0} (xs ys : List A) → reverse ys ≡ reverse xs → ys ≡ xs
reverse_one xs ys e = sym (reverse-reverse ys) ∙ (ap reverse e ∙ reverse-reverse xs)

pub reverse_more : {A : Type 0} (xs ys : List A) (x : A) → reverse ys ≡ x ∷ reverse xs → ys ≡ xs ++ x ∷ []
reverse_more xs ys x e = sym (reverse-reverse ys) ∙ (ap reverse e ∙ (reverse_last x (reverse xs) ∙ ap (λ (l : List _). l ++ x ∷ []) (reverse-reverse xs)))

at_last : {A : Type 0} (xs : List A) (x e : A) → get_elem? (xs ++ x ∷ []) (length xs) ≡ some e → x ≡ e
at_last [] x e at = some-injective x e at
at_last (y ∷ ys) x e at = at_last ys x e at

none_at : {A : Type 0} (xs : List A) (e : A) → get_elem? xs (length xs) ≡ some e → ⊥
none_at [] e at = some-ne-none e (sym at)
none_at (x ∷ xs) e at = none_at xs e at

pub at_behind : {A : Type 0} (xs zs : List A) (q : ℕ) (e : A) → get_elem? zs q ≡ some e → get_elem? (xs ++ zs) (length xs + q) ≡ some e
at_behind [] zs q e at = subst (λ (n : ℕ). get_elem? zs n ≡ some e) (let same : q ≡ 0 + q = omega arith in same) at
at_behind (x ∷ xs) zs q e at = subst (λ (n : ℕ). get_elem? (x ∷ xs ++ zs) n ≡ some e) (let same : suc (length xs + q) ≡ suc (length xs) + q = omega arith in same) (at_behind xs zs q e at)

-- where an entry stands in a list, the list turned round is cut there
record Cut (xs : List Entry) (q : ℕ) (e : Entry) : Type 0 where
  newer : List Entry
  older : List Entry
  is : reverse xs ≡ newer ++ e ∷ older
  deep : length older ≡ q

cut_at : (xs : List Entry) (q : ℕ) (e : Entry) → get_elem? xs q ≡ some e → Cut xs q e
cut_at [] q e at = absurd (some-ne-none e (sym at))
cut_at (x ∷ xs) zero e at = record { newer = reverse xs; older = []; is = reverse_last x xs ∙ ap (λ (y : Entry). reverse xs ++ y ∷ []) (some-injective x e at); deep = refl }
cut_at (x ∷ xs) (suc q) e at =
    let c : Cut xs q e = cut_at xs q e at in
    record {
      newer = c.newer;
      older = c.older ++ x ∷ [];
      is = reverse_last x xs ∙ (ap (λ (l : List Entry). l ++ x ∷ []) c.is ∙ append_assoc c.newer (e ∷ c.older) (x ∷ []));
      deep = (let n : length (c.older ++ x ∷ []) ≡ length c.older + 1 = length-append c.older (x ∷ []) in let d = c.deep in omega arith);
    }

-- ---- one call

grown_in_order : (xs ys : List Entry) (b : Bool) → IsGrown (reverse xs) b (reverse ys) → IsPrefix xs ys × (length ys ≡ length xs + one_if b)
grown_in_order xs ys true g =
    let is : ys ≡ xs ++ g.0 ∷ [] = reverse_more xs ys g.0 g.1 in
    let n : length ys ≡ length xs + 1 = ap length is ∙ length-append xs (g.0 ∷ []) in
    ((g.0 ∷ [], sym is), n)
grown_in_order xs ys false g =
    let is : ys ≡ xs = reverse_one xs ys g in
    let n : length ys ≡ length xs = ap length is in
    (([], append-nil xs ∙ sym is), (let z : length ys ≡ length xs + 0 = omega arith in z))

added_in_order : (xs ys : List Entry) (e : Entry) (b : Bool) → IsGrown (reverse xs) b (reverse ys) → get_elem? ys (length xs) ≡ some e → reverse ys ≡ e ∷ reverse xs
added_in_order xs ys e true g at =
    let is : ys ≡ xs ++ g.0 ∷ [] = reverse_more xs ys g.0 g.1 in
    let same : g.0 ≡ e = at_last xs g.0 e (subst (λ (l : List Entry). get_elem? l (length xs) ≡ some e) is at) in
    g.1 ∙ ap (λ (x : Entry). x ∷ reverse xs) same
added_in_order xs ys e false g at =
    let is : ys ≡ xs = reverse_one xs ys g in
    absurd (none_at xs e (subst (λ (l : List Entry). get_elem? l (length xs) ≡ some e) is at))

pub opens : OpensByItsNumber → Opens
opens law site xs q k e legal at about =
    let c : Cut xs q e = cut_at xs q e at in
    let low : k ≤ length c.older + 1 = law site c.newer c.older e k (subst (IsLegal site) c.is legal) about in
    let d = c.deep in
    omega arith

-- ---- many entries

apart_append : (asked : Option ℕ) (newer : History) (e : Entry) → AreApart asked newer → ((m : ℕ) → asked ≡ Some m → topic_of e ≡ Some m → ⊥) → AreApart asked (newer ++ e ∷ [])
apart_append asked [] e apart last = (last, tt)
apart_append asked (x ∷ newer) e apart last = (apart.0, apart_append asked newer e apart.1 last)

pub apart_reverse : (asked : Option ℕ) (zs : List Entry) → ((q m : ℕ) (e : Entry) → get_elem? zs q ≡ some e → asked ≡ Some m → topic_of e ≡ Some m → ⊥) → AreApart asked (reverse zs)
apart_reverse asked [] all = tt
apart_reverse asked (z ∷ zs) all =
    subst (AreApart asked) (sym (reverse_last z zs))
    (apart_append asked (reverse zs) z (apart_reverse asked zs (λ q m e at. all (suc q) m e at)) (λ m. all 0 m z refl))

-- the entries behind those that were seen, turned round, are about others
pub behind_apart : (asked : Option ℕ) (xs ys : List Entry) → (begins : IsPrefix xs ys) → Unasked topic_of asked xs ys → AreApart asked (reverse begins.0)
behind_apart asked xs ys begins unasked =
    apart_reverse asked begins.0
    (λ q m e at named about. unasked (length xs + q) m e (let low : length xs ≤ length xs + q = omega arith in low) (subst (λ (l : List Entry). get_elem? l (length xs + q) ≡ some e) begins.1 (at_behind xs begins.0 q e at)) about named)

pub reverse_behind : (xs ys : List Entry) → (begins : IsPrefix xs ys) → reverse ys ≡ reverse begins.0 ++ reverse xs
reverse_behind xs ys begins = ap reverse (sym begins.1) ∙ reverse-append xs begins.0

module _ {M : Type 0} (told : M → MediumView) where
  pub grows : CallAddsOrKeeps told → Grows told
  grows law site xs c b ys plays = grown_in_order xs ys (call_adds c b) (law site (reverse xs) c b (reverse ys) plays)

  pub sounds : PlayKeepsLegal told → Sounds told
  sounds law site xs c b ys legal plays = law site (reverse xs) c b (reverse ys) legal plays

  pub topics : CallAddsOrKeeps told → EntriesNameTheirMounts told → Topics told
  topics grow law site xs c b ys e k plays at about =
      let added : reverse ys ≡ e ∷ reverse xs = added_in_order xs ys e (call_adds c b) (grow site (reverse xs) c b (reverse ys) plays) at in
      elim (law site (reverse xs) c b e k (subst (Plays told site (reverse xs) c b) added plays) about) [
        | inl own ↦ inl (own ∙ ap (λ (n : ℕ). n + 1) (length-reverse xs))
        | inr asked ↦ inr asked
      ]

  playable : (site : Site) (h : History) (c : ArchiveCall M) → IsFitCall told site h c → CanPlay told site h c
  playable site h (call.Ask at k in_hand) fit = fit.0
  playable site h (call.Look at k) fit = fit

  pub stays : FitCallStays told → Stays told
  stays law site xs c ys fits legal begins unasked =
      let zs : List Entry = begins.0 in
      let is : reverse ys ≡ reverse zs ++ reverse xs = reverse_behind xs ys begins in
      let apart : AreApart (call_asks c) (reverse zs) = behind_apart (call_asks c) xs ys begins unasked in
      let fit : IsFitCall told site (reverse zs ++ reverse xs) c = law site (reverse zs) (reverse xs) c fits (subst (IsLegal site) is legal) apart in
      playable site (reverse ys) c (subst (λ (h : History). IsFitCall told site h c) (sym is) fit)
