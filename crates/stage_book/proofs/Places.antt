-- Files at their places.
use Rattle.std.proofs.Common.{◌≡◌, ◌∙◌, ◌<◌, ◌+◌, ◌||◌, ℕ, zero, suc, List, [], ◌∷◌, length, take, get_or, Bool, true, false, refl, sym, ap, subst, None, Some, arith}
use Rattle.std.specs.Prelude.{Option, if◌then◌else◌, ◌==◌, ◌&&◌, not, option_map, slice_get}
use Rattle.std.specs.List.{cons_option, filter_map}
use Rattle.std.proofs.lemmas.Bool.{eqb-true, eq-eqb}
use Rattle.cta_model.specs.declared.states.StageFile.{StageFile}
use Rattle.cta_model.specs.declared.states.RequestFile.{RequestFile}
use Rattle.cta_model.specs.History.{is_number}
use Rattle.cta_model.specs.Pins.{Pin, is_completed, pin_by}
use Rattle.part_model.specs.Held.{kept_end}
use Rattle.part_model.specs.Requests.{first_end}
use Rattle.stage_book.specs.Places.{AreNumbersApart, IsPlaced, Places, names_file, noted, numbers_asked, numbers_in, place_in}
use Rattle.stage_book.specs.Requested.{AreApart, IsOther, has_file}
use Rattle.stage_book.proofs.Lists.{last_no, neither}
use Rattle.stage_book.proofs.Turns.{alone, before, behind, there}

-- ---- places that a loop has noted

-- a file with a place is there, and one without is not among the first so many
abbrev pub IsPassed : List (Option ℕ) → ℕ → ℕ → Option ℕ → Type 0
IsPassed numbers n f None = names_file f (take n numbers) ≡ false
IsPassed numbers n f (Some p) = slice_get numbers p ≡ Some (Some f)

names_more : (f : ℕ) (numbers : List (Option ℕ)) (n : ℕ) (o : Option ℕ) → slice_get numbers n ≡ Some o → names_file f (take (n + 1) numbers) ≡ (is_number f o || names_file f (take n numbers))
names_more f numbers n o e = ap (λ (m : ℕ). names_file f (take m numbers)) next ∙ more numbers n e
  where
    next : n + 1 ≡ suc n
    next = omega arith

    swap : (p q r : Bool) → (p || (q || r)) ≡ (q || (p || r))
    swap true true r = refl
    swap true false r = refl
    swap false q r = refl

    more : (os : List (Option ℕ)) (m : ℕ) → slice_get os m ≡ Some o → names_file f (take (suc m) os) ≡ (is_number f o || names_file f (take m os))
    more [] m h = absurd (cc)
    more (x ∷ xs) zero h = (let same : x ≡ o = cc in ap (λ (y : Option ℕ). is_number f y || false) same)
    more (x ∷ xs) (suc m) h = ap (λ (b : Bool). is_number f x || b) (more xs m h) ∙ swap (is_number f x) (is_number f o) (names_file f (take m xs))

passed_some : (numbers : List (Option ℕ)) (n g : ℕ) (old new : Places) → slice_get numbers n ≡ Some (Some g) → ((q : ℕ) → place_in new q ≡ (if g == q then Some n else place_in old q))
    → ((f : ℕ) → IsPassed numbers n f (place_in old f)) → (f : ℕ) → IsPassed numbers (n + 1) f (place_in new f)
passed_some numbers n g old new is each was f = subst (IsPassed numbers (n + 1) f) (sym (each f)) (by (g == f) refl (place_in old f) (was f))
  where
    flip : (x y : ℕ) → (x == y) ≡ (y == x)
    flip x y = grind arith

    by : (b : Bool) → (g == f) ≡ b → (o : Option ℕ) → IsPassed numbers n f o → IsPassed numbers (n + 1) f (if b then Some n else o)
    by true e o w = is ∙ ap (λ (x : ℕ). Some (Some x)) (eqb-true g f e)
    by false e (Some p) w = w
    by false e None w = names_more f numbers n (Some g) is ∙ ap (λ (b : Bool). b || names_file f (take n numbers)) (flip f g ∙ e) ∙ w

passed_none : (numbers : List (Option ℕ)) (n : ℕ) (ps : Places) → slice_get numbers n ≡ Some None → ((f : ℕ) → IsPassed numbers n f (place_in ps f)) → (f : ℕ) → IsPassed numbers (n + 1) f (place_in ps f)
passed_none numbers n ps is was f = by (place_in ps f) (was f)
  where
    by : (o : Option ℕ) → IsPassed numbers n f o → IsPassed numbers (n + 1) f o
    by (Some p) w = w
    by None w = names_more f numbers n None is ∙ w

-- a file at a place, as its number
pub asked_there : (files : List StageFile) (n : ℕ) (x : StageFile) → n < length files → x ≡ get_or files n x → slice_get (numbers_asked files) n ≡ Some x.file
asked_there files n x low is = at files n low ∙ ap (λ (s : StageFile). Some s.file) (sym is)
  where
    at : (ss : List StageFile) (m : ℕ) → m < length ss → slice_get (numbers_asked ss) m ≡ Some (get_or ss m x).file
    at [] m h = absurd (omega arith)
    at (s ∷ ss) zero h = refl
    at (s ∷ ss) (suc m) h = at ss m (omega arith)

-- the loop notes one file more
pub passed_more : (numbers : List (Option ℕ)) (n : ℕ) (o : Option ℕ) (old new : Places) → slice_get numbers n ≡ Some o → ((q : ℕ) → place_in new q ≡ noted o n q (place_in old q))
    → ((f : ℕ) → IsPassed numbers n f (place_in old f)) → (f : ℕ) → IsPassed numbers (n + 1) f (place_in new f)
passed_more numbers n (Some g) old new is each was = passed_some numbers n g old new is each was
passed_more numbers n None old new is each was = λ f. subst (IsPassed numbers (n + 1) f) (sym (each f)) (passed_none numbers n old is was f)

pub all_passed : (numbers : List (Option ℕ)) (n f : ℕ) (o : Option ℕ) → take n numbers ≡ numbers → IsPassed numbers n f o → IsPlaced numbers f o
all_passed numbers n f None e w = subst (λ (os : List (Option ℕ)). names_file f os ≡ false) e w
all_passed numbers n f (Some p) e w = w

-- ---- files that are asked for, none twice

pub numbers_apart : (files : List StageFile) → AreApart files → AreNumbersApart (numbers_asked files)
numbers_apart [] apart = tt
numbers_apart (s ∷ ss) apart = by s.file apart.0 (numbers_apart ss apart.1)
  where
    named : (f : ℕ) (xs : List StageFile) → names_file f (numbers_asked xs) ≡ has_file f xs
    named f [] = refl
    named f (x ∷ xs) = ap (λ (b : Bool). is_number f x.file || b) (named f xs)

    by : (o : Option ℕ) → IsOther o ss → AreNumbersApart (numbers_asked ss) → AreNumbersApart (o ∷ numbers_asked ss)
    by None other rest = rest
    by (Some f) other rest = (named f ss ∙ other, rest)

-- ---- pins

-- a pin where there is one, as a list
abbrev listed : Option Pin → List Pin
listed None = []
listed (Some p) = p ∷ []

pin_not : (f id : ℕ) (r : RequestFile) → is_number f r.file ≡ false → pin_by f id r ≡ None
pin_not f id r e = ap (λ (b : Bool). if b && (is_completed r.state && not r.released) then Some (record { owner = id; until = option_map (λ at. at + r.lifetime) r.finished }) else None) e

no_pins : (f id : ℕ) (files : List RequestFile) → names_file f (numbers_in files) ≡ false → filter_map (pin_by f id) files ≡ []
no_pins f id [] h = refl
no_pins f id (s ∷ ss) h = rw (pin_not f id s (neither (is_number f s.file) _ h)) (no_pins f id ss (last_no (is_number f s.file) _ h))

number_there : (files : List RequestFile) (n f : ℕ) (x : RequestFile) → slice_get files n ≡ Some x → x.file ≡ Some f → slice_get (numbers_in files) n ≡ Some (Some f)
number_there [] n f x e is = absurd (cc)
number_there (s ∷ ss) zero f x e is = (let same : s ≡ x = cc in ap (λ (y : RequestFile). Some y.file) same ∙ ap (λ (o : Option ℕ). Some o) is)
number_there (s ∷ ss) (suc n) f x e is = number_there ss n f x e is

one_pin : (f id : ℕ) (files : List RequestFile) (n : ℕ) (x : RequestFile) → AreNumbersApart (numbers_in files) → slice_get files n ≡ Some x → x.file ≡ Some f → filter_map (pin_by f id) files ≡ listed (pin_by f id x)
one_pin f id [] n x apart e is = absurd (cc)
one_pin f id (s ∷ ss) zero x apart e is =
    (let same : s ≡ x = cc in
    let its : s.file ≡ Some f = ap (λ (y : RequestFile). y.file) same ∙ is in
    by (pin_by f id s) (no_pins f id ss (alone f s.file (numbers_in ss) apart its)) ∙ ap (λ (y : RequestFile). listed (pin_by f id y)) same)
  where
    by : (o : Option Pin) → filter_map (pin_by f id) ss ≡ [] → cons_option o (filter_map (pin_by f id) ss) ≡ listed o
    by None k = k
    by (Some p) k = ap (λ (l : List Pin). p ∷ l) k
one_pin f id (s ∷ ss) (suc n) x apart e is =
    rw (pin_not f id s (before f s.file (numbers_in ss) apart (there f (numbers_in ss) n (number_there ss n f x e is)))) (one_pin f id ss n x (behind s.file (numbers_in ss) apart) e is)

ending : (f id : ℕ) (x : RequestFile) → x.file ≡ Some f
    → option_map kept_end (first_end (listed (pin_by f id x))) ≡ (if is_completed x.state && not x.released then Some (kept_end (option_map (λ at. at + x.lifetime) x.finished)) else None)
ending f id x is = ap (λ (n : Bool). option_map kept_end (first_end (listed (if n && (is_completed x.state && not x.released) then Some (record { owner = id; until = option_map (λ at. at + x.lifetime) x.finished }) else None)))) (ap (is_number f) is ∙ eq-eqb f f refl) ∙ by (is_completed x.state && not x.released)
  where
    by : (c : Bool) → option_map kept_end (first_end (listed (if c then Some (record { owner = id; until = option_map (λ at. at + x.lifetime) x.finished }) else None))) ≡ (if c then Some (kept_end (option_map (λ at. at + x.lifetime) x.finished)) else None)
    by true = refl
    by false = refl

-- a file is pinned as its row tells
pub pin_of : (f id : ℕ) (files : List RequestFile) (n : ℕ) (x : RequestFile) → AreNumbersApart (numbers_in files) → slice_get files n ≡ Some x → x.file ≡ Some f
    → (if is_completed x.state && not x.released then Some (kept_end (option_map (λ at. at + x.lifetime) x.finished)) else None) ≡ option_map kept_end (first_end (filter_map (pin_by f id) files))
pin_of f id files n x apart e is = sym (ap (λ (l : List Pin). option_map kept_end (first_end l)) (one_pin f id files n x apart e is) ∙ ending f id x is)

pub no_pin : (f id : ℕ) (files : List RequestFile) → names_file f (numbers_in files) ≡ false → ◌≡◌ {A = Option ℕ} None (option_map kept_end (first_end (filter_map (pin_by f id) files)))
no_pin f id files h = sym (ap (λ (l : List Pin). option_map kept_end (first_end l)) (no_pins f id files h))

-- the file at the place of a number has that number
pub same_number : (files : List RequestFile) (n f : ℕ) (x : RequestFile) → slice_get files n ≡ Some x → slice_get (numbers_in files) n ≡ Some (Some f) → x.file ≡ Some f
same_number [] n f x e h = absurd (cc)
same_number (s ∷ ss) zero f x e h = (let same : s ≡ x = cc in let its : s.file ≡ Some f = cc in sym (ap (λ (y : RequestFile). y.file) same) ∙ its)
same_number (s ∷ ss) (suc n) f x e h = same_number ss n f x e h
