-- What files of records stand for.
use Rattle.std.proofs.Common.{◌≡◌, ◌≢◌, inl, inr, ℕ, ◌+◌, ◌^◌, ◌<◌, ◌≤◌, List, [], ◌∷◌, ◌++◌, length, take, drop, refl, sym, ◌∙◌, ap, subst, arith, append_assoc, length-append}
use Rattle.std.specs.Int.{w64, to_be_bytes, from_be_bytes}
use Rattle.std.proofs.lemmas.List.{take_at, drop_at, append-nil}
use Rattle.std.proofs.lemmas.Nat.{from_be_bytes-to_be_bytes_8}
use Rattle.std.proofs.lemmas.Bool.{cases_eq}
use Rattle.cta_journal.specs.Log.{counted, records, EndsShut, HasLog, HasLogOrMore}

-- records after others
pub records-append : (bodies more : List (List ℕ)) (rest : List ℕ) → records (bodies ++ more) ++ rest ≡ records bodies ++ (records more ++ rest)
records-append [] more rest = refl
records-append (b ∷ bodies) more rest =
    ap (λ (l : List ℕ). 1 ∷ l) (append_assoc (counted b) (records (bodies ++ more)) rest ∙ ap (λ (l : List ℕ). counted b ++ l) (records-append bodies more rest) ∙ sym (append_assoc (counted b) (records bodies) (records more ++ rest)))

pub records-join : (bodies more : List (List ℕ)) → records (bodies ++ more) ≡ records bodies ++ records more
records-join [] more = refl
records-join (b ∷ bodies) more = ap (λ (l : List ℕ). 1 ∷ l) (ap (λ (l : List ℕ). counted b ++ l) (records-join bodies more) ∙ sym (append_assoc (counted b) (records bodies) (records more)))

-- what was put together, and one record more
pub one_more : (bodies : List (List ℕ)) (body out : List ℕ) → out ≡ records bodies → (out ++ 1 ∷ []) ++ counted body ≡ records (bodies ++ body ∷ [])
one_more bodies body out is =
    append_assoc out (1 ∷ []) (counted body)
    ∙ ap (λ (l : List ℕ). l ++ 1 ∷ counted body) is
    ∙ ap (λ (l : List ℕ). records bodies ++ 1 ∷ l) (sym (append-nil (counted body)))
    ∙ sym (records-join bodies (body ∷ []))

-- one record
pub one_record : (body rest : List ℕ) → 1 ∷ (counted body ++ rest) ≡ records (body ∷ []) ++ rest
one_record body rest = ap (λ (l : List ℕ). 1 ∷ l) (ap (λ (l : List ℕ). l ++ rest) (sym (append-nil (counted body))))

pub ends : (bodies : List (List ℕ)) (file rest : List ℕ) (gate : ℕ) → gate ≢ 1 → file ≡ records bodies ++ gate ∷ rest → HasLog file bodies
ends bodies file rest gate shut split = inr (record { gate = gate; rest = rest; shut = shut; split = split })

-- whole records behind any gate count or they don't
pub either : (bodies more : List (List ℕ)) (file piece : List ℕ) (gate : ℕ) → 1 ∷ piece ≡ records more ++ 0 ∷ [] → file ≡ records bodies ++ gate ∷ piece → HasLogOrMore bodies more file
either bodies more file piece gate is split = elim (cases_eq gate 1) [
  | inl is_open ↦ inr (ends (bodies ++ more) file [] 0 (omega arith) (split ∙ ap (λ (g : ℕ). records bodies ++ g ∷ piece) is_open ∙ ap (λ (l : List ℕ). records bodies ++ l) is ∙ sym (records-append bodies more (0 ∷ []))))
  | inr shut ↦ inl (ends bodies file piece gate shut split)
]

-- ---- one file has one log

pub counted_same : (a b x y : List ℕ) → length a < 2 ^ 64 → length b < 2 ^ 64 → counted a ++ x ≡ counted b ++ y → (a ≡ b) × (x ≡ y)
counted_same a b x y low high same =
    let la = to_be_bytes w64 (length a) in
    let lb = to_be_bytes w64 (length b) in
    let parted : la ++ (a ++ x) ≡ lb ++ (b ++ y) = sym (append_assoc la a x) ∙ same ∙ append_assoc lb b y in
    let fronts : la ≡ lb = sym (take_at la (a ++ x) 8 refl) ∙ ap (λ (l : List ℕ). take 8 l) parted ∙ take_at lb (b ++ y) 8 refl in
    let backs : a ++ x ≡ b ++ y = sym (drop_at la (a ++ x) 8 refl) ∙ ap (λ (l : List ℕ). drop 8 l) parted ∙ drop_at lb (b ++ y) 8 refl in
    let long : length a ≡ length b = sym (from_be_bytes-to_be_bytes_8 (length a) low) ∙ ap (λ (l : List ℕ). from_be_bytes w64 l) fronts ∙ from_be_bytes-to_be_bytes_8 (length b) high in (
      sym (take_at a x (length a) refl) ∙ ap (λ (l : List ℕ). take (length a) l) backs ∙ take_at b y (length a) (sym long),
      sym (drop_at a x (length a) refl) ∙ ap (λ (l : List ℕ). drop (length a) l) backs ∙ drop_at b y (length a) (sym long),
    )

pub tail_same : (g h : ℕ) (r s : List ℕ) → g ∷ r ≡ h ∷ s → (g ≡ h) × (r ≡ s)
tail_same g h r s e = (cc, cc)

pub length-counted : (a x : List ℕ) → length (counted a ++ x) ≡ 8 + length a + length x
length-counted a x = omega (arith, length-append (counted a) x, length-append (to_be_bytes w64 (length a)) a)

pub records_same : (xs ys : List (List ℕ)) (g h : ℕ) (r s : List ℕ) → g ≢ 1 → h ≢ 1 → length (records xs ++ g ∷ r) < 2 ^ 64 → length (records ys ++ h ∷ s) < 2 ^ 64
    → records xs ++ g ∷ r ≡ records ys ++ h ∷ s → xs ≡ ys
records_same [] [] g h r s gs hs low high e = refl
records_same [] (b ∷ ys) g h r s gs hs low high e = absurd (gs (tail_same g 1 r ((counted b ++ records ys) ++ h ∷ s) e).0)
records_same (a ∷ xs) [] g h r s gs hs low high e = absurd (hs (sym (tail_same 1 h ((counted a ++ records xs) ++ g ∷ r) s e).0))
records_same (a ∷ xs) (b ∷ ys) g h r s gs hs low high e =
    let left = append_assoc (counted a) (records xs) (g ∷ r) in
    let right = append_assoc (counted b) (records ys) (h ∷ s) in
    let rest = sym left ∙ (tail_same 1 1 ((counted a ++ records xs) ++ g ∷ r) ((counted b ++ records ys) ++ h ∷ s) e).1 ∙ right in
    let la = ap length left ∙ length-counted a (records xs ++ g ∷ r) in
    let lb = ap length right ∙ length-counted b (records ys ++ h ∷ s) in
    let parts = counted_same a b (records xs ++ g ∷ r) (records ys ++ h ∷ s) (omega (arith, low, la)) (omega (arith, high, lb)) rest in
    cons_same a b xs ys parts.0 (records_same xs ys g h r s gs hs (omega (arith, low, la)) (omega (arith, high, lb)) parts.1)
  where
    cons_same : (a b : List ℕ) (xs ys : List (List ℕ)) → a ≡ b → xs ≡ ys → a ∷ xs ≡ b ∷ ys
    cons_same a b xs ys e f = cc

-- where a file of two bytes or more has a log, it has no other
pub one_log : (file : List ℕ) (xs ys : List (List ℕ)) → length file < 2 ^ 64 → 2 ≤ length file → EndsShut xs file → HasLog file ys → ys ≡ xs
one_log file xs ys low long has (inl short) = absurd (omega (arith, long, short.0))
one_log file xs ys low long has (inr other) =
    records_same ys xs other.gate has.gate other.rest has.rest other.shut has.shut (omega (arith, low, ap length other.split)) (omega (arith, low, ap length has.split)) (sym other.split ∙ has.split)

-- a file of at most one byte has none, whatever the byte
pub no_log : (file : List ℕ) (ys : List (List ℕ)) → length file ≤ 1 → HasLog file ys → ys ≡ []
no_log file ys short (inl none) = none.1
no_log file [] short (inr other) = refl
no_log file (b ∷ ys) short (inr other) = absurd (omega (arith, short, ap length other.split, length-append (records (b ∷ ys)) (other.gate ∷ other.rest), length-counted b (records ys)))

-- a file has one log
pub same_log : (file : List ℕ) (xs ys : List (List ℕ)) → length file < 2 ^ 64 → HasLog file xs → HasLog file ys → xs ≡ ys
same_log file xs ys low (inl none) log = none.1 ∙ sym (no_log file ys none.0 log)
same_log file xs ys low (inr has) (inl none) = no_log file xs none.0 (inr has) ∙ sym none.1
same_log file xs ys low (inr has) (inr other) =
    records_same xs ys has.gate other.gate has.rest other.rest has.shut other.shut (omega (arith, low, ap length has.split)) (omega (arith, low, ap length other.split)) (sym has.split ∙ other.split)
