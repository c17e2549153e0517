-- How an entry moves the rows of open mounts.
use Rattle.std.proofs.Common.{◌≡◌, ◌∙◌, ℕ, ◌+◌, ◌≤◌, inl, inr, List, [], ◌∷◌, ◌++◌, Bool, true, false, not, refl, sym, ap, subst, arith, length}
use Rattle.std.specs.Prelude.{Option, Some, None, option_map, if◌then◌else◌, ◌==◌, filter, map, reverse}
use Rattle.std.proofs.lemmas.Bool.{eqb-true, eq-eqb}
use Rattle.std.proofs.lemmas.List.{append-nil, reverse-append}
use Rattle.cta_site.specs.declared.site.Site.{Site}
use Rattle.cta_site.specs.Listed.{Listed}
use Rattle.cta_model.specs.declared.entries.Entry.{Entry}
use Rattle.cta_model.specs.declared.asks.Ask.{Ask}
use Rattle.cta_model.specs.declared.asks.Ask.TheVariants as ask
use Rattle.cta_model.specs.declared.asks.Direction.{Direction}
use Rattle.cta_model.specs.declared.asks.Item.{Item}
use Rattle.cta_model.specs.declared.answers.Answer.{Answer}
use Rattle.cta_model.specs.declared.answers.Answer.TheVariants as answer
use Rattle.cta_model.specs.declared.states.Mount.{Mount}
use Rattle.cta_model.specs.History.{History, moment_of}
use Rattle.cta_model.specs.Mounts.{batch_in, batch_or, last_batch, mount_in, mount_of, open_after, open_mounts}
use Rattle.cta_model.specs.Legal.{IsLegal}
use Rattle.cta_laws.proofs.Accepted.{answer_is}
use Rattle.cta_laws.specs.Asks.{AnswerIs}
use Rattle.cta_laws.proofs.Bools.{turned}
use Rattle.cta_laws.proofs.FseqLaw.{last_older}
use Rattle.cta_laws.proofs.OpenMounts.{mount_newest, mount_older}
use Rattle.cta_laws.proofs.Tests.{bool_cases}
use Rattle.part_model.specs.declared.mounts.OpenMount.{OpenMount}
use Rattle.part_model.specs.Mounts.{ended, opened, with_last}
use Rattle.part_laws.specs.MountLaws.{RowsMove}
use Rattle.part_laws.specs.Mounts.{AreOpenMounts, AreRows, IsRow, new_row, rows_after}

-- ---- lists the other way round

reverse_more : (m : ℕ) (ms : List ℕ) → reverse (m ∷ ms) ≡ reverse ms ++ m ∷ []
reverse_more m ms = reverse-append (m ∷ []) ms

filter_both : (test : ℕ → Bool) (xs ys : List ℕ) → filter test (xs ++ ys) ≡ filter test xs ++ filter test ys
filter_both test [] ys = refl
filter_both test (x ∷ xs) ys =
    elim (test x) as (λ b. (if b then x ∷ filter test (xs ++ ys) else filter test (xs ++ ys)) ≡ (if b then x ∷ filter test xs else filter test xs) ++ filter test ys)
    [ true ↦ ap (λ (zs : List ℕ). x ∷ zs) (filter_both test xs ys) | false ↦ filter_both test xs ys ]

pub reverse_filter : (test : ℕ → Bool) (ms : List ℕ) → reverse (filter test ms) ≡ filter test (reverse ms)
reverse_filter test [] = refl
reverse_filter test (m ∷ ms) =
    one (test m) (filter test ms) ∙ ap (λ (zs : List ℕ). zs ++ (if test m then m ∷ [] else [])) (reverse_filter test ms)
    ∙ sym (ap (filter test) (reverse_more m ms) ∙ filter_both test (reverse ms) (m ∷ []))
  where
    one : (t : Bool) (zs : List ℕ) → reverse (if t then m ∷ zs else zs) ≡ reverse zs ++ (if t then m ∷ [] else [])
    one true zs = reverse_more m zs
    one false zs = sym (append-nil (reverse zs))

-- ---- one row

-- a mount has the number of an entry
pub mount_low : (h : History) (m : ℕ) (x : Mount) → mount_of h m ≡ Some x → m ≤ length h
mount_low [] m x is = absurd (cc)
mount_low (e ∷ h) m x is =
    elim (bool_cases (m == length h + 1)) [
      | inl hit ↦ (let same : m ≡ length h + 1 = eqb-true _ _ hit in omega arith)
      | inr miss ↦ (let low : m ≤ length h = mount_low h m x (rw miss at is) in omega arith)
    ]

-- behind an entry that claims nothing for its mount, a row stands as before
row_older : (site : Site) (h : History) (e : Entry) (k : Ask) (a : Answer) (m : ℕ) (r : OpenMount) → e.ask ≡ k → e.answer ≡ a → batch_in k a m ≡ None → IsRow site h m r → IsRow site (e ∷ h) m r
row_older site h e k a m r ek ea none is = record {
  number = is.number;
  mount = mount_older e h m (mount_low h m _ is.mount) ∙ is.mount;
  key = is.key;
  last = is.last ∙ sym (ap (λ (o : Option (List Item)). batch_or o (last_batch h m)) (ap (λ (x : Ask). batch_in x e.answer m) ek ∙ ap (λ (x : Answer). batch_in k x m) ea ∙ none));
}

-- a Claim gives the row of its mount its last items
row_claims : (site : Site) (h : History) (e : Entry) (k : ℕ) (items : Listed Item) (evicted : Listed ℕ) (m : ℕ) (r : OpenMount) → e.ask ≡ ask.Claim k → e.answer ≡ answer.Batch items evicted → IsRow site h m r → IsRow site (e ∷ h) m (with_last k items r)
row_claims site h e k items evicted m r ek ea is = record {
  number = is.number;
  mount = mount_older e h m (mount_low h m _ is.mount) ∙ is.mount;
  key = is.key;
  last = by (r.number == k) refl ∙ sym (ap (λ (x : Ask). batch_or (batch_in x e.answer m) (last_batch h m)) ek ∙ ap (λ (a : Answer). batch_or (batch_in (ask.Claim k) a m) (last_batch h m)) ea);
}
  where
    by : (t : Bool) → (r.number == k) ≡ t → option_map (λ (x : Listed Item). x.items) (if t then Some items else r.last) ≡ batch_or (if k == m then Some items.items else None) (last_batch h m)
    by true hit = (let same : (k == m) ≡ true = eq-eqb k m (sym (eqb-true r.number k hit) ∙ is.number) in rw same refl)
    by false miss = (let other : (k == m) ≡ false = turned m k (subst (λ (n : ℕ). (n == k) ≡ false) is.number miss) in rw other is.last)

-- a Next opens a row
row_opens : (site : Site) (h : History) (e : Entry) (d : ℕ) (way : Direction) (v : ℕ) → IsLegal site h → e.ask ≡ ask.Next d → e.answer ≡ answer.Mounted (length h + 1) way v
    → IsRow site (e ∷ h) (length h + 1) (new_row site (length h + 1) (record { drive = d; direction = way; tape = v }))
row_opens site h e d way v legal ek ea = record {
  number = refl;
  mount = mount_newest e h ∙ ap (λ (k : Ask). mount_in k e.answer) ek ∙ ap (λ (a : Answer). mount_in (ask.Next d) a) ea;
  key = refl;
  last = sym (ap (λ (k : Ask). batch_or (batch_in k e.answer (length h + 1)) (last_batch h (length h + 1))) ek ∙ none (last_batch h (length h + 1)) refl);
}
  where
    none : (o : Option (List Item)) → last_batch h (length h + 1) ≡ o → last_batch h (length h + 1) ≡ None
    none None is = is
    none (Some items) is = (let low : length h + 1 ≤ length h = last_older site h legal (length h + 1) items is in absurd (omega arith))

-- ---- all rows

rows_more : (site : Site) (h : History) (rows : List OpenMount) (ms : List ℕ) (r : OpenMount) (m : ℕ) → AreRows site h rows ms → IsRow site h m r → AreRows site h (rows ++ r ∷ []) (ms ++ m ∷ [])
rows_more site h [] [] r m are is = (is, tt)
rows_more site h [] (k ∷ ms) r m are is = absurd are
rows_more site h (q ∷ rows) [] r m are is = absurd are
rows_more site h (q ∷ rows) (k ∷ ms) r m are is = (are.0, rows_more site h rows ms r m are.1 is)

rows_map : (site : Site) (h g : History) (f : OpenMount → OpenMount) (rows : List OpenMount) (ms : List ℕ) → ((m : ℕ) (r : OpenMount) → IsRow site h m r → IsRow site g m (f r)) → AreRows site h rows ms → AreRows site g (map f rows) ms
rows_map site h g f [] [] says are = tt
rows_map site h g f [] (k ∷ ms) says are = absurd are
rows_map site h g f (q ∷ rows) [] says are = absurd are
rows_map site h g f (q ∷ rows) (k ∷ ms) says are = (says k q are.0, rows_map site h g f rows ms says are.1)

rows_stay : (site : Site) (h g : History) (rows : List OpenMount) (ms : List ℕ) → ((m : ℕ) (r : OpenMount) → IsRow site h m r → IsRow site g m r) → AreRows site h rows ms → AreRows site g rows ms
rows_stay site h g [] [] says are = tt
rows_stay site h g [] (k ∷ ms) says are = absurd are
rows_stay site h g (q ∷ rows) [] says are = absurd are
rows_stay site h g (q ∷ rows) (k ∷ ms) says are = (says k q are.0, rows_stay site h g rows ms says are.1)

rows_end : (site : Site) (h : History) (n : ℕ) (rows : List OpenMount) (ms : List ℕ) → AreRows site h rows ms → AreRows site h (ended n rows) (filter (λ k. not (k == n)) ms)
rows_end site h n [] [] are = tt
rows_end site h n [] (k ∷ ms) are = absurd are
rows_end site h n (q ∷ rows) [] are = absurd are
rows_end site h n (q ∷ rows) (k ∷ ms) are =
    elim (bool_cases (q.number == n)) [
      | inl hit ↦ (let gone : (k == n) ≡ true = subst (λ (x : ℕ). (x == n) ≡ true) are.0.number hit in rw (hit, gone) (rows_end site h n rows ms are.1))
      | inr miss ↦ (let kept : (k == n) ≡ false = subst (λ (x : ℕ). (x == n) ≡ false) are.0.number miss in rw (miss, kept) (are.0, rows_end site h n rows ms are.1))
    ]

mount_told : Answer → ℕ
mount_told (answer.Mounted m way v) = m
mount_told _ = 0

rows_by : (site : Site) (h : History) (e : Entry) (rows : List OpenMount) (k : Ask) (a : Answer) → IsLegal site (e ∷ h) → e.ask ≡ k → e.answer ≡ a → AnswerIs site h (moment_of h e.at) k a → AreOpenMounts site h rows → AreRows site (e ∷ h) (rows_after site k a rows) (reverse (open_after k a (length h + 1) (open_mounts h)))
unfolding mount_told
rows_by site h e rows (ask.Next d) (answer.Mounted m way v) legal ek ea is are =
    let number : m ≡ length h + 1 = ap mount_told is.2 in
    let opens : IsRow site (e ∷ h) (length h + 1) (new_row site m (record { drive = d; direction = way; tape = v })) =
    subst (λ (n : ℕ). IsRow site (e ∷ h) (length h + 1) (new_row site n (record { drive = d; direction = way; tape = v }))) (sym number) (row_opens site h e d way v legal.0 ek (ea ∙ ap (λ (n : ℕ). answer.Mounted n way v) number)) in
    subst (λ (ms : List ℕ). AreRows site (e ∷ h) (opened (new_row site m (record { drive = d; direction = way; tape = v })) rows) ms) (sym (reverse_more (length h + 1) (open_mounts h)))
    (rows_more site (e ∷ h) rows (reverse (open_mounts h)) (new_row site m (record { drive = d; direction = way; tape = v })) (length h + 1)
    (rows_stay site h (e ∷ h) rows (reverse (open_mounts h)) (λ n r x. row_older site h e (ask.Next d) (answer.Mounted m way v) n r ek ea refl x) are) opens)
rows_by site h e rows (ask.End m fault) a legal ek ea is are =
    subst (λ (ms : List ℕ). AreRows site (e ∷ h) (ended m rows) ms) (sym (reverse_filter (λ k. not (k == m)) (open_mounts h)))
    (rows_end site (e ∷ h) m rows (reverse (open_mounts h)) (rows_stay site h (e ∷ h) rows (reverse (open_mounts h)) (λ n r x. row_older site h e (ask.End m fault) a n r ek ea refl x) are))
rows_by site h e rows (ask.Claim m) (answer.Batch items evicted) legal ek ea is are =
    rows_map site h (e ∷ h) (with_last m items) rows (reverse (open_mounts h)) (λ n r x. row_claims site h e m items evicted n r ek ea x) are
rows_by site h e rows k a legal ek ea is are = rows_stay site h (e ∷ h) rows (reverse (open_mounts h)) (λ n r x. row_older site h e k a n r ek ea refl x) are

pub rows_move : RowsMove
rows_move site h e rows legal are = rows_by site h e rows e.ask e.answer legal refl refl (answer_is site h e.at e.ask e.answer legal.1.answered legal.1.accepted) are
