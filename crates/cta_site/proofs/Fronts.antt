-- The longest directory of a path, found by the fronts of the path.
use Rattle.std.proofs.Common.{◌≡◌, ◌∙◌, ◌+◌, ◌<◌, ◌≤◌, ℕ, List, [], ◌∷◌, ◌++◌, true, false, Option, Some, None, length, take, drop, get_or, refl, sym, ap, subst, arith, add-one, drop-cons, inl, inr, append_assoc}
use Rattle.std.proofs.lemmas.Bool.{cases_Bool}
use Rattle.std.proofs.lemmas.Bool.Decides.{Decides-eqb, nat_tests}
use Rattle.std.proofs.lemmas.List.{take-append-drop, length-take-le}
use Rattle.std.proofs.lemmas.Slice.Eq.{starts_is, bytes_eq-Decides}
use Rattle.std.specs.Prelude.{bytes_eq, find, slice_get, nat_lt}
use Rattle.std.specs.Option.{option_and_then}
use Rattle.std.specs.List.{AllByRecursion, filter}
use Rattle.cta_site.specs.declared.site.Directory.{Directory}
use Rattle.cta_site.specs.Lookups.{place_by, is_under, longer, longest}
use Rattle.cta_site.proofs.Found.{found_at, none_passes}
use Rattle.cta_site.proofs.Laws.{found_low, item_at}

-- no directory is the front of a path before a slash, from a place on
abbrev pub NoneFrom : List Directory → List ℕ → ℕ → Type 0
NoneFrom ds path end = (e : ℕ) → end ≤ e → e < length path → get_or path e 0 ≡ 47 → place_by (λ (d : Directory). d.path) ds (take e path) ≡ None

-- the directories of a list that a path is under
abbrev pub holders : List ℕ → List Directory → List Directory
holders path ds = filter (λ (d : Directory). is_under d.path path) ds

-- a path is under the front of it before a slash
pub under_front : (path : List ℕ) (e : ℕ) → e < length path → get_or path e 0 ≡ 47 → is_under (take e path) path ≡ true
under_front path e low slash =
    let behind : drop e path ≡ 47 ∷ drop (e + 1) path = rw add-one (drop-cons path e 0 low) ∙ ap (λ b. b ∷ drop (e + 1) path) slash in
    let split : path ≡ take e path ++ 47 ∷ drop (e + 1) path = sym (take-append-drop e path) ∙ ap (λ l. take e path ++ l) behind in
    (starts_is Decides-eqb path (take e path ++ 47 ∷ []) _ refl).1 (drop (e + 1) path) (split ∙ sym (append_assoc (take e path) (47 ∷ []) (drop (e + 1) path)))

-- where a directory ends in a path
pub record EndsIn (directory path : List ℕ) : Type 0 where
  pub low : length directory < length path
  pub slash : get_or path (length directory) 0 ≡ 47
  pub front : take (length directory) path ≡ directory

ends_in : (directory behind : List ℕ) → EndsIn directory (directory ++ 47 ∷ behind)
ends_in [] behind = record { low = omega arith; slash = refl; front = refl }
ends_in (b ∷ bs) behind =
    let rest = ends_in bs behind in
    let low : length bs < length (bs ++ 47 ∷ behind) = rest.low in
    record { low = omega arith; slash = rest.slash; front = ap (λ l. b ∷ l) rest.front }

pub ends_of : (directory path : List ℕ) → is_under directory path ≡ true → EndsIn directory path
ends_of directory path hit =
    let e = (starts_is Decides-eqb path (directory ++ 47 ∷ []) _ refl).0 hit in
    let split : path ≡ directory ++ 47 ∷ _ = e ∙ append_assoc directory (47 ∷ []) _ in
    subst (EndsIn directory) (sym split) (ends_in directory _)

-- every directory of a list that has this path ends by a place
abbrev pub EndBy : List ℕ → ℕ → Directory → Type 0
EndBy path e d = is_under d.path path ≡ true → length d.path ≤ e

-- where no directory is the front of a path from a place on, each that the path is under ends by it
short_each : (path : List ℕ) (e : ℕ) (all ds : List Directory) → NoneFrom all path (e + 1) → ((d : Directory) (key : List ℕ) → place_by (λ (x : Directory). x.path) all key ≡ None → AllByRecursion (λ (x : Directory). bytes_eq x.path key ≡ false) ds) → AllByRecursion (EndBy path e) ds
short_each path e all [] none apart = tt
short_each path e all (d ∷ ds) none apart = (
  (λ hit.
      let at = ends_of d.path path hit in
      elim (cases_Bool (nat_lt e (length d.path))) [
        | inl above ↦
            let high : e + 1 ≤ length d.path = grind (arith, nat_tests) in
            let missing : place_by (λ (x : Directory). x.path) all d.path ≡ None = subst (λ k. place_by (λ (x : Directory). x.path) all k ≡ None) at.front (none (length d.path) high at.low at.slash) in
            let differs : bytes_eq d.path d.path ≡ false = (apart d d.path missing).0 in
            let itself : bytes_eq d.path d.path ≡ true = (bytes_eq-Decides d.path d.path).1 refl in
            absurd (cc)
        | inr below ↦ grind (arith, nat_tests)
      ]),
  short_each path e all ds none (λ x key missing. (apart x key missing).1),
)

pub all_short : (path : List ℕ) (e : ℕ) (ds : List Directory) → NoneFrom ds path (e + 1) → AllByRecursion (EndBy path e) ds
all_short path e ds none = short_each path e ds ds none (λ d key missing. none_passes (λ (x : Directory). bytes_eq x.path key) ds missing)

-- the longest of these ends by the place too
longer_short : (e : ℕ) (d : Directory) (o : Option Directory) (x : Directory) → length d.path ≤ e → ((y : Directory) → o ≡ Some y → length y.path ≤ e) → longer d o ≡ Some x → length x.path ≤ e
longer_short e d None x here rest f = let same : d ≡ x = cc in subst (λ (y : Directory). length y.path ≤ e) same here
longer_short e d (Some y) x here rest f =
    elim (cases_Bool (nat_lt (length d.path) (length y.path))) [
      | inl hit ↦ let other : Some y ≡ Some x = rw hit at f in let same : y ≡ x = cc in subst (λ (z : Directory). length z.path ≤ e) same (rest y refl)
      | inr miss ↦ let first : Some d ≡ Some x = rw miss at f in let same : d ≡ x = cc in subst (λ (z : Directory). length z.path ≤ e) same here
    ]

longest_short : (path : List ℕ) (e : ℕ) (ds : List Directory) (x : Directory) → AllByRecursion (EndBy path e) ds → longest (holders path ds) ≡ Some x → length x.path ≤ e
longest_short path e [] x all f = absurd (cc)
longest_short path e (d ∷ ds) x all f =
    elim (cases_Bool (is_under d.path path)) [
      | inl hit ↦ longer_short e d (longest (holders path ds)) x (all.0 hit) (λ y g. longest_short path e ds y all.1 g) (rw hit at f)
      | inr miss ↦ longest_short path e ds x all.1 (rw miss at f)
    ]

longer_first : (d : Directory) (o : Option Directory) → ((y : Directory) → o ≡ Some y → length y.path ≤ length d.path) → longer d o ≡ Some d
longer_first d None short = refl
longer_first d (Some y) short =
    let low : length y.path ≤ length d.path = short y refl in
    let not_longer : nat_lt (length d.path) (length y.path) ≡ false = grind (arith, nat_tests) in
    rw not_longer refl

longer_other : (d x : Directory) → length d.path < length x.path → longer d (Some x) ≡ Some x
longer_other d x low =
    let hit : nat_lt (length d.path) (length x.path) ≡ true = grind (arith, nat_tests) in
    rw hit refl

found_named : (key : List ℕ) (ds : List Directory) (x : Directory) → find (λ (d : Directory). bytes_eq d.path key) ds ≡ Some x → x.path ≡ key
found_named key [] x f = absurd (cc)
found_named key (d ∷ ds) x f =
    elim (cases_Bool (bytes_eq d.path key)) [
      | inl hit ↦ let first : Some d ≡ Some x = rw hit at f in let same : d ≡ x = cc in subst (λ (y : Directory). y.path ≡ key) same ((bytes_eq-Decides d.path key).0 hit)
      | inr miss ↦ found_named key ds x (rw miss at f)
    ]

-- the first directory that is this front of the path is the longest, where none is a longer front
longest_named : (path : List ℕ) (e : ℕ) → e < length path → get_or path e 0 ≡ 47 → (ds : List Directory) (x : Directory) → AllByRecursion (EndBy path e) ds → find (λ (d : Directory). bytes_eq d.path (take e path)) ds ≡ Some x → longest (holders path ds) ≡ Some x
longest_named path e low slash [] x all f = absurd (cc)
longest_named path e low slash (d ∷ ds) x all f =
    let fits : e ≤ length path = omega arith in
    let long : length (take e path) ≡ e = length-take-le e path fits in
    elim (cases_Bool (bytes_eq d.path (take e path))) [
      | inl hit ↦
          let is : d.path ≡ take e path = (bytes_eq-Decides d.path (take e path)).0 hit in
          let first : Some d ≡ Some x = rw hit at f in
          let has : is_under d.path path ≡ true = subst (λ k. is_under k path ≡ true) (sym is) (under_front path e low slash) in
          let size : length d.path ≡ e = ap length is ∙ long in
          rw has (longer_first d (longest (holders path ds)) (λ y g. let short : length y.path ≤ e = longest_short path e ds y all.1 g in omega arith) ∙ first)
      | inr miss ↦
          let later = rw miss at f in
          let named : x.path ≡ take e path = found_named (take e path) ds x later in
          let rest : longest (holders path ds) ≡ Some x = longest_named path e low slash ds x all.1 later in
          elim (cases_Bool (is_under d.path path)) [
            | inl has ↦
                let size : length x.path ≡ e = ap length named ∙ long in
                let at = ends_of d.path path has in
                let short : length d.path ≤ e = all.0 has in
                let not_equal : length d.path ≡ e → false ≡ true = (λ same. sym miss ∙ (bytes_eq-Decides d.path (take e path)).1 (sym at.front ∙ ap (λ n. take n path) same)) in
                let lower : length d.path < length x.path = below (length d.path) e (length x.path) short size not_equal in
                rw (has, rest) (longer_other d x lower)
            | inr other ↦ rw other rest
          ]
    ]
  where
    below : (n e m : ℕ) → n ≤ e → m ≡ e → (n ≡ e → false ≡ true) → n < m
    below n e m low same differ =
        elim (cases_Bool (nat_lt n e)) [
          | inl hit ↦ let strict : n < e = grind (arith, nat_tests) in omega arith
          | inr miss ↦ let equal : n ≡ e = grind (arith, nat_tests) in let bad = differ equal in absurd (cc)
        ]

pub longest_at : (path : List ℕ) (e : ℕ) (ds : List Directory) (i : ℕ) → e < length path → get_or path e 0 ≡ 47 → NoneFrom ds path (e + 1) → place_by (λ (d : Directory). d.path) ds (take e path) ≡ Some i → slice_get ds i ≡ longest (holders path ds)
longest_at path e ds i low slash none place =
    let named : slice_get ds i ≡ find (λ (d : Directory). bytes_eq d.path (take e path)) ds = sym (ap (option_and_then (slice_get ds)) place) ∙ found_at (λ (d : Directory). bytes_eq d.path (take e path)) ds in
    let x = item_at ds i (found_low (λ (d : Directory). d.path) ds (take e path) i place) in
    x.1 ∙ sym (longest_named path e low slash ds x.0 (all_short path e ds none) (sym named ∙ x.1))

-- no directory holds a path of which no front before a slash is a directory
none_holds : (path : List ℕ) (all ds : List Directory) → NoneFrom all path 0 → ((d : Directory) (key : List ℕ) → place_by (λ (x : Directory). x.path) all key ≡ None → AllByRecursion (λ (x : Directory). bytes_eq x.path key ≡ false) ds) → holders path ds ≡ []
none_holds path all [] none apart = refl
none_holds path all (d ∷ ds) none apart =
    elim (cases_Bool (is_under d.path path)) [
      | inl hit ↦
          let at = ends_of d.path path hit in
          let missing : place_by (λ (x : Directory). x.path) all d.path ≡ None = subst (λ k. place_by (λ (x : Directory). x.path) all k ≡ None) at.front (none (length d.path) (omega arith) at.low at.slash) in
          let differs : bytes_eq d.path d.path ≡ false = (apart d d.path missing).0 in
          let itself : bytes_eq d.path d.path ≡ true = (bytes_eq-Decides d.path d.path).1 refl in
          absurd (cc)
      | inr miss ↦ rw miss (none_holds path all ds none (λ x key missing. (apart x key missing).1))
    ]

pub longest_none : (path : List ℕ) (ds : List Directory) → NoneFrom ds path 0 → longest (holders path ds) ≡ None
longest_none path ds none = ap longest (none_holds path ds ds none (λ d key missing. none_passes (λ (x : Directory). bytes_eq x.path key) ds missing))
