-- Media that are shared out to the shelf and to the open mounts.
use Rattle.std.proofs.Common.{◌≡◌, ◌∙◌, ℕ, zero, suc, ◌+◌, ◌<◌, inl, inr, List, [], ◌∷◌, ◌++◌, Bool, true, false, ◌||◌, refl, sym, ap, subst, arith, length, get_or, take}
use Rattle.std.specs.Prelude.{Option, Some, None, is_some, map, option_map, reverse, slice_get, slice_set, if◌then◌else◌, ◌==◌}
use Rattle.std.specs.List.{AllByRecursion, list_any}
use Rattle.std.proofs.lemmas.Bool.{eqb-true, eq-eqb}
use Rattle.std.proofs.lemmas.List.{length-map, length-set, reverse-append, take_more}
use Rattle.std.proofs.lemmas.List.Folds.{list_any-append}
use Rattle.blob.specs.Records.{MediumView, medium_at}
use Rattle.cta_site.specs.declared.site.Site.{Site}
use Rattle.cta_model.specs.declared.states.Mount.{Mount}
use Rattle.cta_model.specs.History.{History, has_number}
use Rattle.cta_model.specs.Legal.{IsLegal}
use Rattle.cta_model.specs.Media.{IsMediumOf}
use Rattle.cta_model.specs.Mounts.{is_mount, is_mounted, is_open, mount_of, open_mounts, tape_by, tape_of_mount}
use Rattle.cta_laws.proofs.MountLaw.{open_there, other_tape}
use Rattle.cta_laws.proofs.Sums.{IsDistinct, open_distinct}
use Rattle.cta_laws.proofs.Tests.{bool_cases, or_left, or_right}
use Rattle.part_model.specs.declared.mounts.OpenMount.{OpenMount}
use Rattle.part_model.specs.Mounts.{row_of}
use Rattle.part_laws.specs.Shelf.{IsPlaceOf}
use Rattle.archive_parts.specs.declared.parts.ArchiveParts.{ArchiveParts}
use Rattle.archive_parts.specs.PartsKept.{ArePartsKept}
use Rattle.archive_state.specs.Shared.{AreMedia, AreShared, is_mounted_by, medium_for}
use Rattle.archive_state.specs.States.{AreShelved}
use Rattle.archive_state.proofs.Claimed.{none_open, row_opens}
use Rattle.archive_state.proofs.Mounted.{medium_set, tape_of_site}

-- ---- an open mount by its row

pub mount_there : (site : Site) (h : History) (p : ArchiveParts) (m : ℕ) (r : OpenMount) → ArePartsKept site h p → row_of m p.mounts.value.rows ≡ Some r
    → ◌≡◌ {A = Option Mount} (Some (record { drive = r.drive; direction = r.direction; tape = r.tape })) (if is_open h m then mount_of h m else None)
mount_there site h p m r kept found = (let row = row_opens site h p m r kept found in rw row.0 (sym row.1.mount))

pub mount_none : (site : Site) (h : History) (p : ArchiveParts) (m : ℕ) → ArePartsKept site h p → row_of m p.mounts.value.rows ≡ None
    → ◌≡◌ {A = Option Mount} None (if is_open h m then mount_of h m else None)
mount_none site h p m kept none = rw (none_open site h p m kept none) refl

-- what is told of a mount that is open
pub told_mount : (h : History) (m : ℕ) (r : Option Mount) (x : Mount) → is_open h m ≡ true → r ≡ (if is_open h m then mount_of h m else None) → r ≡ Some x → x.tape ≡ tape_of_mount h m
told_mount h m r x on is found =
    let there : mount_of h m ≡ Some x = sym (is ∙ ap (λ (b : Bool). if b then mount_of h m else None) on) ∙ found in
    sym (ap tape_by there)

pub mount_is_told : (site : Site) (h : History) (m : ℕ) (r : Option Mount) → IsLegal site h → is_open h m ≡ true → r ≡ (if is_open h m then mount_of h m else None) → r ≡ None → ⊥
mount_is_told site h m r legal on is none =
    let x : (x : Mount) × (mount_of h m ≡ Some x) = open_there site h legal m on in
    clash r x.0 (is ∙ ap (λ (b : Bool). if b then mount_of h m else None) on ∙ x.1) none
  where
    clash : (o : Option Mount) (x : Mount) → o ≡ Some x → o ≡ None → ⊥
    clash None x some none = absurd (cc)
    clash (Some y) x some none = absurd (cc)

-- ---- what is taken off a shelf

pub taken : {M : Type 0} (told : M → MediumView) (places : List (Option MediumView)) (v t : ℕ) (r : Option M) (x : M) → v ≡ t → option_map told r ≡ medium_at places v → r ≡ Some x → medium_at places t ≡ Some (told x)
taken told places v t r x same there found = ap (medium_at places) (sym same) ∙ (sym there ∙ ap (option_map told) found)

pub is_taken : {M : Type 0} (told : M → MediumView) (places : List (Option MediumView)) (v t : ℕ) (r : Option M) → v ≡ t → option_map told r ≡ medium_at places v → is_some (medium_at places t) ≡ true → r ≡ None → ⊥
is_taken told places v t r same there some none =
    let empty : medium_at places t ≡ None = ap (medium_at places) (sym same) ∙ (sym there ∙ ap (option_map told) none) in
    let bad : false ≡ true = sym (ap is_some empty) ∙ some in
    absurd (cc)

pub place_set : (places new : List (Option MediumView)) (v t : ℕ) → v ≡ t → new ≡ slice_set places v None → new ≡ slice_set places t None
place_set places new v t same is = is ∙ ap (λ (n : ℕ). slice_set places n None) same

-- ---- mounts that the loop has passed

or_false : (a b : Bool) → (a || b) ≡ false → (a ≡ false) × (b ≡ false)
or_false true b e = absurd (cc)
or_false false b e = (refl, e)

turned : (a b : ℕ) → (a == b) ≡ false → (b == a) ≡ false
turned a b miss =
    elim (bool_cases (b == a)) [
      | inl hit ↦ (let back : (a == b) ≡ true = eq-eqb a b (sym (eqb-true b a hit)) in absurd (cc))
      | inr other ↦ other
    ]

number_among : (n : ℕ) (xs ys : List ℕ) → has_number n xs ≡ true → has_number n (xs ++ ys) ≡ true
number_among n xs ys there = list_any-append (λ m. n == m) xs ys ∙ or_left (has_number n xs) (has_number n ys) there

number_next : (n : ℕ) (xs ys : List ℕ) → has_number n (xs ++ n ∷ ys) ≡ true
number_next n xs ys = list_any-append (λ m. n == m) xs (n ∷ ys) ∙ or_right (has_number n xs) (has_number n (n ∷ ys)) (or_left (n == n) (has_number n ys) (eq-eqb n n refl))

not_before : (n : ℕ) (xs ys : List ℕ) → IsDistinct (xs ++ n ∷ ys) → has_number n xs ≡ false
not_before n [] ys apart = refl
not_before n (x ∷ xs) ys apart =
    elim (bool_cases (n == x)) [
      | inl hit ↦
          (let same : n ≡ x = eqb-true n x hit in
          let there : has_number x (xs ++ n ∷ ys) ≡ true = subst (λ (k : ℕ). has_number k (xs ++ n ∷ ys) ≡ true) same (number_next n xs ys) in
          let lacks : has_number x (xs ++ n ∷ ys) ≡ false = apart.0 in
          absurd (both (has_number x (xs ++ n ∷ ys)) there lacks))
      | inr miss ↦ rw miss (not_before n xs ys apart.1)
    ]
  where
    both : (b : Bool) → b ≡ true → b ≡ false → ⊥
    both true is isnt = absurd (cc)
    both false is isnt = absurd (cc)

-- the tape of an open mount is that of no other
not_by : (site : Site) (h : History) (m : ℕ) (ms : List ℕ) → IsLegal site h → is_open h m ≡ true → ((k : ℕ) → has_number k ms ≡ true → is_open h k ≡ true) → has_number m ms ≡ false → is_mounted_by h ms (tape_of_mount h m) ≡ false
not_by site h m [] legal on all none = refl
not_by site h m (k ∷ ms) legal on all none =
    let apart : ((m == k) ≡ false) × (has_number m ms ≡ false) = or_false (m == k) (has_number m ms) none in
    let other : (tape_of_mount h k == tape_of_mount h m) ≡ false = other_tape site h legal m k on (all k (or_left (k == k) (has_number k ms) (eq-eqb k k refl))) (turned m k apart.0) in
    rw (by (mount_of h k) refl other) (not_by site h m ms legal on (λ n there. all n (or_right (n == k) (has_number n ms) there)) apart.1)
  where
    by : (o : Option Mount) → mount_of h k ≡ o → (tape_of_mount h k == tape_of_mount h m) ≡ false → is_mount (λ (x : Mount). x.tape == tape_of_mount h m) o ≡ false
    by None is other = refl
    by (Some x) is other = ap (λ (o : Option Mount). tape_by o == tape_of_mount h m) (sym is) ∙ other

-- ---- the loop over the open mounts

-- what the loop finds: the next mount is open, and its medium is on the shelf
pub record IsReady (h : History) (m : ℕ) (places : List (Option MediumView)) : Type 0 where
  pub on : is_open h m ≡ true
  pub there : is_some (medium_at places (tape_of_mount h m)) ≡ true

-- the places behind mounts whose media were taken
abbrev pub ArePassed : History → List ℕ → List (Option MediumView) → List (Option MediumView) → Type 0
ArePassed h ms full places = (v : ℕ) → medium_at places v ≡ (if is_mounted_by h ms v then None else medium_at full v)

open_tape : (site : Site) (h : History) (m : ℕ) → IsLegal site h → is_open h m ≡ true → tape_of_mount h m < length site.tapes.items
open_tape site h m legal on =
    let x : (x : Mount) × (mount_of h m ≡ Some x) = open_there site h legal m on in
    subst (λ (n : ℕ). n < length site.tapes.items) (sym (ap tape_by x.1)) (tape_of_site site h m x.0 legal x.1)

pub is_ready : (site : Site) (h : History) (full places : List (Option MediumView)) (numbers ms rest : List ℕ) (m : ℕ) → IsLegal site h → numbers ≡ open_mounts h → numbers ≡ ms ++ m ∷ rest → ArePassed h ms full places
    → ((v : ℕ) → v < length site.tapes.items → is_some (medium_at full v) ≡ true) → IsReady h m places
is_ready site h full places numbers ms rest m legal are split passed all =
    let whole : open_mounts h ≡ ms ++ m ∷ rest = sym are ∙ split in
    let on : is_open h m ≡ true = ap (has_number m) whole ∙ number_next m ms rest in
    let free : is_mounted_by h ms (tape_of_mount h m) ≡ false = not_by site h m ms legal on (λ k there. ap (has_number k) whole ∙ number_among k ms (m ∷ rest) there) (not_before m ms rest (subst IsDistinct whole (open_distinct h))) in
    let same : medium_at places (tape_of_mount h m) ≡ medium_at full (tape_of_mount h m) = passed (tape_of_mount h m) ∙ ap (λ (b : Bool). if b then None else medium_at full (tape_of_mount h m)) free in
    record {
      on = on;
      there = ap is_some same ∙ all (tape_of_mount h m) (open_tape site h m legal on);
    }

by_one : (h : History) (m v : ℕ) (x : Mount) → mount_of h m ≡ Some x → is_mounted_by h (m ∷ []) v ≡ (tape_of_mount h m == v)
by_one h m v x is = by (mount_of h m) is
  where
    by : (o : Option Mount) → o ≡ Some x → (is_mount (λ (x : Mount). x.tape == v) o || false) ≡ (tape_by o == v)
    by None is = absurd (cc)
    by (Some y) is = no_more (y.tape == v)
      where
        no_more : (b : Bool) → (b || false) ≡ b
        no_more true = refl
        no_more false = refl

choice : (a b : Bool) (o : Option MediumView) → (if b then None else (if a then None else o)) ≡ (if a || b then None else o)
choice true true o = refl
choice true false o = refl
choice false true o = refl
choice false false o = refl

pub passes : (site : Site) (h : History) (full places new : List (Option MediumView)) (ms : List ℕ) (m : ℕ) → IsLegal site h → is_open h m ≡ true → length places ≡ length site.tapes.items → ArePassed h ms full places
    → new ≡ slice_set places (tape_of_mount h m) None → ArePassed h (ms ++ m ∷ []) full new
passes site h full places new ms m legal on count passed is = λ v.
    let x : (x : Mount) × (mount_of h m ≡ Some x) = open_there site h legal m on in
    let set : medium_at new v ≡ (if v == tape_of_mount h m then None else medium_at places v) =
    ap (λ (l : List (Option MediumView)). medium_at l v) is ∙ medium_set places (tape_of_mount h m) None (subst (λ (n : ℕ). tape_of_mount h m < n) (sym count) (open_tape site h m legal on)) v in
    let more : is_mounted_by h (ms ++ m ∷ []) v ≡ (is_mounted_by h ms v || (tape_of_mount h m == v)) =
    list_any-append (λ k. is_mount (λ (x : Mount). x.tape == v) (mount_of h k)) ms (m ∷ []) ∙ ap (λ (b : Bool). is_mounted_by h ms v || b) (by_one h m v x.0 x.1) in
    set
    ∙ (ap (λ (o : Option MediumView). if v == tape_of_mount h m then None else o) (passed v)
    ∙ (ap (λ (b : Bool). if b then None else (if is_mounted_by h ms v then None else medium_at full v)) (same_test v (tape_of_mount h m))
    ∙ (choice (is_mounted_by h ms v) (tape_of_mount h m == v) (medium_at full v) ∙ ap (λ (b : Bool). if b then None else medium_at full v) (sym more))))
  where
    same_test : (a b : ℕ) → (a == b) ≡ (b == a)
    same_test a b = elim (bool_cases (a == b)) [ inl hit ↦ hit ∙ sym (eq-eqb b a (sym (eqb-true a b hit))) | inr miss ↦ miss ∙ sym (turned a b miss) ]

split_at : (numbers : List ℕ) (at m : ℕ) → at < length numbers → m ≡ get_or numbers at 0 → (rest : List ℕ) × (numbers ≡ take at numbers ++ m ∷ rest)
split_at [] at m low read = absurd (omega (arith, low))
split_at (n ∷ numbers) zero m low read = (numbers, ap (λ (k : ℕ). k ∷ numbers) (sym read))
split_at (n ∷ numbers) (suc at) m low read = (let more = split_at numbers at m (omega (arith, low)) read in (more.0, ap (λ (ns : List ℕ). n ∷ ns) more.1))

pub ready_at : (site : Site) (h : History) (full places : List (Option MediumView)) (numbers : List ℕ) (at m : ℕ) → IsLegal site h → numbers ≡ open_mounts h → at < length numbers → m ≡ get_or numbers at 0
    → ArePassed h (take at numbers) full places → ((v : ℕ) → v < length site.tapes.items → is_some (medium_at full v) ≡ true) → IsReady h m places
ready_at site h full places numbers at m legal are low read passed all = (let rest = split_at numbers at m low read in is_ready site h full places numbers (take at numbers) rest.0 m legal are rest.1 passed all)

-- what stands behind the mounts that the loop has passed
pub record AreTaken {M : Type 0} (told : M → MediumView) (h : History) (ms : List ℕ) (full places : List (Option MediumView)) (mounts : List (ℕ × M)) : Type 0 where
  pub count : length places ≡ length full
  pub passed : ArePassed h ms full places
  pub numbers : map (λ (x : ℕ × M). x.0) mounts ≡ reverse ms
  pub media : AllByRecursion (λ (x : ℕ × M). medium_at full (tape_of_mount h x.0) ≡ Some (told x.1)) mounts

taken_more : {M : Type 0} (told : M → MediumView) (site : Site) (h : History) (ms : List ℕ) (full places new : List (Option MediumView)) (mounts : List (ℕ × M)) (m : ℕ) (x : M) → IsLegal site h → is_open h m ≡ true → is_mounted_by h ms (tape_of_mount h m) ≡ false
    → length full ≡ length site.tapes.items → AreTaken told h ms full places mounts → medium_at places (tape_of_mount h m) ≡ Some (told x) → new ≡ slice_set places (tape_of_mount h m) None → AreTaken told h (ms ++ m ∷ []) full new ((m, x) ∷ mounts)
taken_more told site h ms full places new mounts m x legal on free tapes so_far there is = record {
  count = ap length is ∙ (length-set places (tape_of_mount h m) None ∙ so_far.count);
  passed = passes site h full places new ms m legal on (so_far.count ∙ tapes) so_far.passed is;
  numbers = ap (λ (ns : List ℕ). m ∷ ns) so_far.numbers ∙ sym (reverse-append ms (m ∷ []));
  media = (sym (so_far.passed (tape_of_mount h m) ∙ ap (λ (b : Bool). if b then None else medium_at full (tape_of_mount h m)) free) ∙ there, so_far.media);
}

pub taken_at : {M : Type 0} (told : M → MediumView) (site : Site) (h : History) (numbers : List ℕ) (at m : ℕ) (full places new : List (Option MediumView)) (mounts later : List (ℕ × M)) (x : M) → IsLegal site h → numbers ≡ open_mounts h → at < length numbers
    → m ≡ get_or numbers at 0 → length full ≡ length site.tapes.items → AreTaken told h (take at numbers) full places mounts → medium_at places (tape_of_mount h m) ≡ Some (told x) → new ≡ slice_set places (tape_of_mount h m) None → later ≡ (m, x) ∷ mounts
    → AreTaken told h (take (at + 1) numbers) full new later
taken_at {M = M} told site h numbers at m full places new mounts later x legal are low read tapes so_far there is added =
    let rest = split_at numbers at m low read in
    let whole : open_mounts h ≡ take at numbers ++ m ∷ rest.0 = sym are ∙ rest.1 in
    let on : is_open h m ≡ true = ap (has_number m) whole ∙ number_next m (take at numbers) rest.0 in
    let free : is_mounted_by h (take at numbers) (tape_of_mount h m) ≡ false =
    not_by site h m (take at numbers) legal on (λ k in_front. ap (has_number k) whole ∙ number_among k (take at numbers) (m ∷ rest.0) in_front) (not_before m (take at numbers) rest.0 (subst IsDistinct whole (open_distinct h))) in
    let next : take (at + 1) numbers ≡ take at numbers ++ m ∷ [] = take_more numbers at 0 low ∙ ap (λ (k : ℕ). take at numbers ++ k ∷ []) (sym read) in
    subst (λ (ns : List ℕ). AreTaken told h ns full new later) (sym next)
    (subst (λ (l : List (ℕ × M)). AreTaken told h (take at numbers ++ m ∷ []) full new l) (sym added) (taken_more told site h (take at numbers) full places new mounts m x legal on free tapes so_far there is))

pub none_taken_yet : {M : Type 0} (told : M → MediumView) (h : History) (full : List (Option MediumView)) → AreTaken told h [] full full []
none_taken_yet told h full = record { count = refl; passed = λ v. refl; numbers = refl; media = tt }

-- ---- media on a full shelf

place_of_media : {M : Type 0} (told : M → MediumView) (media : List M) (v : ℕ) → medium_at (map (λ m. Some (told m)) media) v ≡ medium_for told media v
place_of_media told [] zero = refl
place_of_media told [] (suc v) = refl
place_of_media told (m ∷ media) zero = refl
place_of_media told (m ∷ media) (suc v) = place_of_media told media v

pub full_place : {M : Type 0} (told : M → MediumView) (media : List M) (full : List (Option MediumView)) (v : ℕ) → full ≡ map (λ m. Some (told m)) media → medium_at full v ≡ medium_for told media v
full_place told media full v is = ap (λ (l : List (Option MediumView)). medium_at l v) is ∙ place_of_media told media v

some_place : {M : Type 0} (told : M → MediumView) (media : List M) (v : ℕ) → v < length media → is_some (medium_for told media v) ≡ true
some_place told [] v low = absurd (omega (arith, low))
some_place told (m ∷ media) zero low = refl
some_place told (m ∷ media) (suc v) low = some_place told media v (omega (arith, low))

pub full_shelf : {M : Type 0} (told : M → MediumView) (media : List M) (full : List (Option MediumView)) (n : ℕ) → length media ≡ n → full ≡ map (λ m. Some (told m)) media → (v : ℕ) → v < n → is_some (medium_at full v) ≡ true
full_shelf told media full n count is = λ v low. ap is_some (full_place told media full v is) ∙ some_place told media v (subst (λ (k : ℕ). v < k) (sym count) low)

all_given : {M : Type 0} (told : M → MediumView) (h : History) (media : List M) (full : List (Option MediumView)) (mounts : List (ℕ × M)) → full ≡ map (λ m. Some (told m)) media
    → AllByRecursion (λ (x : ℕ × M). medium_at full (tape_of_mount h x.0) ≡ Some (told x.1)) mounts → AllByRecursion (λ (x : ℕ × M). medium_for told media (tape_of_mount h x.0) ≡ Some (told x.1)) mounts
all_given told h media full [] is all = tt
all_given told h media full (x ∷ mounts) is all = (sym (full_place told media full (tape_of_mount h x.0) is) ∙ all.0, all_given told h media full mounts is all.1)

pub are_shared : {M : Type 0} (told : M → MediumView) (h : History) (media : List M) (full places : List (Option MediumView)) (mounts : List (ℕ × M)) → full ≡ map (λ m. Some (told m)) media → length places ≡ length full
    → ((v : ℕ) → medium_at places v ≡ (if is_mounted h v then None else medium_at full v)) → map (λ (x : ℕ × M). x.0) mounts ≡ reverse (open_mounts h)
    → AllByRecursion (λ (x : ℕ × M). medium_at full (tape_of_mount h x.0) ≡ Some (told x.1)) mounts → AreShared told h media places mounts
are_shared told h media full places mounts is count shelf numbers each = record {
  count = count ∙ (ap length is ∙ length-map media (λ m. Some (told m)));
  shelf = λ v. shelf v ∙ ap (λ (o : Option MediumView). if is_mounted h v then None else o) (full_place told media full v is);
  open_ones = numbers;
  each = all_given told h media full mounts is each;
}

-- ---- a shelf of media that are shared out

pub shared_shelved : {M : Type 0} (told : M → MediumView) (site : Site) (h : History) (media : List M) (places : List (Option MediumView)) (mounts : List (ℕ × M)) → AreMedia told site h media → AreShared told h media places mounts → AreShelved site h places
shared_shelved {M = M} told site h media places mounts are shared = record {
  places = shared.count ∙ are.count;
  shelf = λ v low. subst (IsPlaceOf h v (is_mounted h v)) (sym (shared.shelf v)) (by v (is_mounted h v) (slice_get media v) refl (some_place told media v (subst (λ (n : ℕ). v < n) (sym are.count) low)));
}
  where
    by : (v : ℕ) (b : Bool) (o : Option M) → slice_get media v ≡ o → is_some (option_map told o) ≡ true → IsPlaceOf h v b (if b then None else option_map told o)
    by v true o is some = tt
    by v false None is some = absurd (cc)
    by v false (Some m) is some = are.each v m is
