-- How each ask changes the open mounts that pass a test, and the counts of the quotas.
use Rattle.std.proofs.Common.{◌≡◌, ◌∙◌, ℕ, ◌+◌, ◌-◌, ◌≤◌, inl, inr, List, [], ◌∷◌, Bool, true, false, ◌&&◌, not, refl, sym, ap, subst, arith, length}
use Rattle.std.specs.Prelude.{Option, Some, if◌then◌else◌, ◌==◌, filter}
use Rattle.std.proofs.lemmas.Bool.{and_parts, eqb-true}
use Rattle.cta_site.specs.declared.site.Site.{Site}
use Rattle.cta_model.specs.declared.entries.Entry.{Entry}
use Rattle.cta_model.specs.declared.asks.Ask.{Ask}
use Rattle.cta_model.specs.declared.answers.Answer.{Answer}
use Rattle.cta_model.specs.declared.asks.Direction.{Direction}
use Rattle.cta_model.specs.declared.asks.Fault.{Fault}
use Rattle.cta_model.specs.declared.states.Mount.{Mount}
use Rattle.cta_model.specs.History.{History, has_number, is_empty}
use Rattle.cta_model.specs.Mounts.{mount_of, mount_in, open_mounts, open_after, open_where, is_mount, is_open, claimed_items}
use Rattle.cta_model.specs.Answers.{answer_of}
use Rattle.cta_model.specs.Legal.{IsLegal}
use Rattle.cta_laws.proofs.Tests.{bool_cases, or_cases}
use Rattle.cta_laws.proofs.OpenMounts.{AllUpTo, opens_up_to, mount_older, mount_newest, up_to_filter}
use Rattle.cta_laws.proofs.ClosedLaw.{end_by}
use Rattle.cta_laws.proofs.Sums.{IsDistinct, open_distinct}
use Rattle.cta_model.specs.declared.asks.Ask.TheVariants as ask
use Rattle.cta_model.specs.declared.answers.Answer.TheVariants as answer
use Rattle.cta_laws.specs.Changes.{may_change_mounts}
use Rattle.cta_laws.proofs.Frames.{mounts_same}
use Rattle.part_model.specs.Counts.{ended_count, is_of_vo, opened_count}
use Rattle.part_laws.specs.Counts.{AreCounts}
use Rattle.part_laws.specs.MountLaws.{EndIsCounted, NextIsCounted, OthersLeaveCounts}

-- ---- the open mounts that pass a test

older_pass : (test : Mount → Bool) (e : Entry) (h : History) (ms : List ℕ) → AllUpTo (length h) ms → filter (λ m. is_mount test (mount_of (e ∷ h) m)) ms ≡ filter (λ m. is_mount test (mount_of h m)) ms
older_pass test e h [] all = refl
older_pass test e h (m ∷ ms) all = rw (mount_older e h m all.0) (rw (older_pass test e h ms all.1) refl)

pub where_same : (test : Mount → Bool) (e : Entry) (h : History) → may_change_mounts e.ask ≡ false → open_where test (e ∷ h) ≡ open_where test h
where_same test e h c = ap (filter (λ m. is_mount test (mount_of (e ∷ h) m))) (mounts_same e h c) ∙ older_pass test e h (open_mounts h) (opens_up_to h)

-- a Next opens its mount
pub where_next : (test : Mount → Bool) (e : Entry) (h : History) (d m : ℕ) (way : Direction) (v : ℕ) → e.ask ≡ ask.Next d → e.answer ≡ answer.Mounted m way v
    → open_where test (e ∷ h) ≡ (if test (record { drive = d; direction = way; tape = v }) then (length h + 1) ∷ open_where test h else open_where test h)
where_next test e h d m way v ek ea =
    (let opens : open_mounts (e ∷ h) ≡ (length h + 1) ∷ open_mounts h = ap (λ (k : Ask). open_after k e.answer (length h + 1) (open_mounts h)) ek ∙ ap (λ (a : Answer). open_after (ask.Next d) a (length h + 1) (open_mounts h)) ea in
    let newest : mount_of (e ∷ h) (length h + 1) ≡ Some (record { drive = d; direction = way; tape = v }) = mount_newest e h ∙ ap (λ (k : Ask). mount_in k e.answer) ek ∙ ap (λ (a : Answer). mount_in (ask.Next d) a) ea in
    ap (filter (λ m. is_mount test (mount_of (e ∷ h) m))) opens
    ∙ ap (λ (o : Option Mount). if is_mount test o then (length h + 1) ∷ filter (λ m. is_mount test (mount_of (e ∷ h) m)) (open_mounts h) else filter (λ m. is_mount test (mount_of (e ∷ h) m)) (open_mounts h)) newest
    ∙ ap (λ (ms : List ℕ). if test (record { drive = d; direction = way; tape = v }) then (length h + 1) ∷ ms else ms) (older_pass test e h (open_mounts h) (opens_up_to h)))

filter_both : (p q : ℕ → Bool) (ms : List ℕ) → filter p (filter q ms) ≡ filter q (filter p ms)
filter_both p q [] = refl
filter_both p q (m ∷ ms) =
    elim (bool_cases (p m)) [
      | inl a ↦ elim (bool_cases (q m)) [ inl b ↦ rw (a, b) (rw a (ap (λ (xs : List ℕ). m ∷ xs) (filter_both p q ms))) | inr b ↦ rw (a, b) (filter_both p q ms) ]
      | inr a ↦ elim (bool_cases (q m)) [ inl b ↦ rw (a, b) (rw a (filter_both p q ms)) | inr b ↦ rw (a, b) (filter_both p q ms) ]
    ]

-- an End closes its mount
pub where_end : (test : Mount → Bool) (e : Entry) (h : History) (m : ℕ) (fault : Option Fault) → e.ask ≡ ask.End m fault → open_where test (e ∷ h) ≡ filter (λ k. not (k == m)) (open_where test h)
where_end test e h m fault ek =
    (let opens : open_mounts (e ∷ h) ≡ filter (λ k. not (k == m)) (open_mounts h) = ap (λ (k : Ask). open_after k e.answer (length h + 1) (open_mounts h)) ek in
    ap (filter (λ m. is_mount test (mount_of (e ∷ h) m))) opens
    ∙ older_pass test e h (filter (λ k. not (k == m)) (open_mounts h)) (up_to_filter (length h) (λ k. not (k == m)) (open_mounts h) (opens_up_to h))
    ∙ filter_both (λ k. is_mount test (mount_of h k)) (λ k. not (k == m)) (open_mounts h))

-- ---- counts

none_dropped : (m : ℕ) (ms : List ℕ) → has_number m ms ≡ false → filter (λ k. not (k == m)) ms ≡ ms
none_dropped m [] d = refl
none_dropped m (k ∷ ms) d =
    elim (bool_cases (m == k)) [
      | inl hit ↦ (let bad : true ≡ false = rw hit at d in absurd (cc))
      | inr miss ↦ (let other : (k == m) ≡ false = grind arith in rw other (ap (λ (xs : List ℕ). k ∷ xs) (none_dropped m ms (rw miss at d))))
    ]

pub passing_lacks : (test : ℕ → Bool) (m : ℕ) (ms : List ℕ) → has_number m ms ≡ false → has_number m (filter test ms) ≡ false
passing_lacks test m [] d = refl
passing_lacks test m (k ∷ ms) d =
    elim (bool_cases (m == k)) [
      | inl hit ↦ (let bad : true ≡ false = rw hit at d in absurd (cc))
      | inr miss ↦ elim (test k) as (λ b. has_number m (if b then k ∷ filter test ms else filter test ms) ≡ false) [ true ↦ rw miss (passing_lacks test m ms (rw miss at d)) | false ↦ passing_lacks test m ms (rw miss at d) ]
    ]

-- of numbers, none twice, one less is left that pass a test where the one that goes passes it
dropped : (test : ℕ → Bool) (m : ℕ) (ms : List ℕ) → IsDistinct ms → has_number m ms ≡ true → length (filter (λ k. not (k == m)) (filter test ms)) ≡ (if test m then length (filter test ms) - 1 else length (filter test ms))
dropped test m [] dis there = absurd (cc)
dropped test m (k ∷ ms) dis there =
    elim (bool_cases (k == m)) [
      | inl hit ↦
          (let same : k ≡ m = eqb-true k m hit in
          let lacks : has_number m ms ≡ false = subst (λ (x : ℕ). has_number x ms ≡ false) same dis.0 in
          let rest : filter (λ k. not (k == m)) (filter test ms) ≡ filter test ms = none_dropped m (filter test ms) (passing_lacks test m ms lacks) in
          elim (bool_cases (test k)) [
            | inl pass ↦ (let here : test m ≡ true = subst (λ (x : ℕ). test x ≡ true) same pass in rw (pass, here) (rw hit (rw rest (omega arith))))
            | inr fail ↦ (let here : test m ≡ false = subst (λ (x : ℕ). test x ≡ false) same fail in rw (fail, here) (rw rest refl))
          ])
      | inr miss ↦
          (let flip : (m == k) ≡ false = grind arith in
          let rest : length (filter (λ k. not (k == m)) (filter test ms)) ≡ (if test m then length (filter test ms) - 1 else length (filter test ms)) = dropped test m ms dis.1 (rw flip at there) in
          elim (bool_cases (test k)) [
            | inl pass ↦ rw pass (rw miss (more (test m) (filter test ms) _ (some test m ms (rw flip at there)) rest))
            | inr fail ↦ rw fail rest
          ])
    ]
  where
    some : (test : ℕ → Bool) (m : ℕ) (ms : List ℕ) → has_number m ms ≡ true → test m ≡ true → 1 ≤ length (filter test ms)
    some test m [] there pass = absurd (cc)
    some test m (k ∷ ms) there pass =
        elim (or_cases (m == k) (has_number m ms) there) [
          | inl hit ↦ (let here : test k ≡ true = subst (λ (x : ℕ). test x ≡ true) (eqb-true m k hit) pass in rw here (omega arith))
          | inr rest ↦ elim (test k) as (λ b. 1 ≤ length (if b then k ∷ filter test ms else filter test ms)) [ true ↦ omega arith | false ↦ some test m ms rest pass ]
        ]

    more : (t : Bool) (xs ys : List ℕ) → (t ≡ true → 1 ≤ length xs) → length ys ≡ (if t then length xs - 1 else length xs) → length (k ∷ ys) ≡ (if t then length (k ∷ xs) - 1 else length (k ∷ xs))
    more true xs ys low e = (let l : 1 ≤ length xs = low refl in omega arith)
    more false xs ys low e = omega arith

pub counts_stay : (site : Site) (e : Entry) (h : History) (counts : Direction → ℕ → ℕ) → may_change_mounts e.ask ≡ false → AreCounts site h counts → AreCounts site (e ∷ h) counts
counts_stay site e h counts c are way vo = are way vo ∙ sym (ap (λ (ms : List ℕ). length ms) (where_same (is_of_vo site way vo) e h c))

pub counts_next : (site : Site) (e : Entry) (h : History) (d m : ℕ) (way : Direction) (v : ℕ) (counts : Direction → ℕ → ℕ) → e.ask ≡ ask.Next d → e.answer ≡ answer.Mounted m way v
    → AreCounts site h counts → AreCounts site (e ∷ h) (opened_count site (record { drive = d; direction = way; tape = v }) counts)
counts_next site e h d m way v counts ek ea are w vo =
    ap (λ (n : ℕ). if is_of_vo site w vo (record { drive = d; direction = way; tape = v }) then n + 1 else n) (are w vo)
    ∙ longer (is_of_vo site w vo (record { drive = d; direction = way; tape = v })) (open_where (is_of_vo site w vo) h)
    ∙ sym (ap (λ (ms : List ℕ). length ms) (where_next (is_of_vo site w vo) e h d m way v ek ea))
  where
    longer : (t : Bool) (ms : List ℕ) → (if t then length ms + 1 else length ms) ≡ length (if t then (length h + 1) ∷ ms else ms)
    longer true ms = omega arith
    longer false ms = refl

pub counts_end : (site : Site) (e : Entry) (h : History) (m : ℕ) (fault : Option Fault) (x : Mount) (counts : Direction → ℕ → ℕ) → IsLegal site (e ∷ h) → e.ask ≡ ask.End m fault → mount_of h m ≡ Some x
    → AreCounts site h counts → AreCounts site (e ∷ h) (ended_count site x counts)
counts_end site e h m fault x counts legal ek is are w vo =
    ap (λ (n : ℕ). if is_of_vo site w vo x then n - 1 else n) (are w vo)
    ∙ sym (ap (λ (ms : List ℕ). length ms) (where_end (is_of_vo site w vo) e h m fault ek)
    ∙ dropped (λ k. is_mount (is_of_vo site w vo) (mount_of h k)) m (open_mounts h) (open_distinct h) opened
    ∙ ap (λ (o : Option Mount). if is_mount (is_of_vo site w vo) o then length (open_where (is_of_vo site w vo) h) - 1 else length (open_where (is_of_vo site w vo) h)) is)
  where
    known : (is_open h m && is_empty (claimed_items h m)) ≡ true
    known = end_by (is_open h m && is_empty (claimed_items h m)) e.answer (legal.1.answered ∙ ap (answer_of site h e.at) ek) legal.1.accepted

    opened : is_open h m ≡ true
    opened = (and_parts (is_open h m) _ known).0

pub next_is_counted : NextIsCounted
next_is_counted site h e d m way v counts ek ea are = counts_next site e h d m way v counts ek ea are

pub end_is_counted : EndIsCounted
end_is_counted site h e m fault x counts legal ek is are = counts_end site e h m fault x counts legal ek is are

pub others_leave_counts : OthersLeaveCounts
others_leave_counts site h e counts none are = counts_stay site e h counts none are
