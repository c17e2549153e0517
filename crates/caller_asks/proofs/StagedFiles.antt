-- The files that a Stage names, each once, and how they stand.
use Rattle.std.proofs.Common.{◌≡◌, ◌∙◌, ℕ, ◌+◌, ◌≤◌, inl, inr, List, [], ◌∷◌, Bool, true, false, ◌||◌, not, refl, sym, ap, subst, arith, length, map}
use Rattle.std.specs.Prelude.{Option, Some, None, if◌then◌else◌, ◌==◌, ◌&&◌, filter, bytes_eq, nat_lt, unwrap_or}
use Rattle.std.specs.List.{AllByRecursion, cons_option, filter_map}
use Rattle.std.proofs.lemmas.Bool.{eqb-true, eq-eqb}
use Rattle.std.proofs.lemmas.Bool.Decides.{nat_tests}
use Rattle.std.proofs.lemmas.Slice.Eq.{bytes_eq-Decides}
use Rattle.cta_site.specs.declared.site.Site.{Site}
use Rattle.cta_site.specs.Listed.{rows}
use Rattle.cta_model.specs.declared.answers.Answer.TheVariants as answer
use Rattle.cta_model.specs.declared.asks.Ask.TheVariants as ask
use Rattle.cta_model.specs.declared.asks.Wanted.{Wanted}
use Rattle.cta_model.specs.declared.asks.Who.{Who}
use Rattle.cta_model.specs.declared.states.StageFile.{StageFile}
use Rattle.cta_model.specs.declared.answers.Refusal.TheVariants as refusal
use Rattle.cta_model.specs.Answers.{answer_of, is_accepted, refuse}
use Rattle.cta_model.specs.Files.{live_file, path_of}
use Rattle.cta_model.specs.History.{History, has_number, has_text, is_number, weight_of}
use Rattle.cta_model.specs.Recalls.{names_file, waits_for}
use Rattle.cta_model.specs.Stages.{first_named, stage_files}
use Rattle.cta_laws.specs.Stages.{files_staged}
use Rattle.cta_laws.proofs.Bools.{same_bool}
use Rattle.cta_laws.proofs.JobFiles.{live_path}
use Rattle.cta_laws.proofs.Tests.{bool_cases}
use Rattle.part_model.specs.Names.{Names}
use Rattle.part_laws.specs.Names.{AreNames}
use Rattle.part_laws.specs.Births.{file_and, wanted_files}
use Rattle.stage_book.specs.Requested.{AreApart, ArePathsApart, IsOther, has_file, has_path}
use Rattle.caller_asks.specs.Wanted.{AreOnce, asked_in}
use Rattle.part_laws.proofs.RepackParts.{and_false, drop}
use Rattle.part_laws.proofs.BookEnds.{and_true}

-- ---- the files that are asked for

abbrev made_of : Site → Wanted → Option ℕ → StageFile
made_of site w o = record { path = w.path; file = o; lifetime = unwrap_or w.lifetime site.limits.lifetime }

-- by an index that stands for the history they are those of the sequential archive
pub asked_are : (site : Site) (h : History) (names : Names) (ws : List Wanted) → AreNames h names → map (asked_in names site.limits.lifetime) (first_named [] ws) ≡ stage_files site h ws
asked_are site h names ws are = each (first_named [] ws)
  where
    each : (ws : List Wanted) → map (asked_in names site.limits.lifetime) ws ≡ map (λ (w : Wanted). record { path = w.path; file = live_file h w.path; lifetime = unwrap_or w.lifetime site.limits.lifetime }) ws
    each [] = refl
    each (w ∷ ws) =
        ap (λ (o : Option ℕ). made_of site w o ∷ map (asked_in names site.limits.lifetime) ws) (are w.path)
        ∙ ap (λ (xs : List StageFile). record { path = w.path; file = live_file h w.path; lifetime = unwrap_or w.lifetime site.limits.lifetime } ∷ xs) (each ws)

-- ---- each file once

-- the files of these wanted ones that there are
abbrev lives : History → List Wanted → List ℕ
lives h ws = filter_map (λ (w : Wanted). live_file h w.path) ws

staged_lives : (site : Site) (h : History) (ws : List Wanted) → filter_map (λ (s : StageFile). s.file) (map (λ (w : Wanted). record { path = w.path; file = live_file h w.path; lifetime = unwrap_or w.lifetime site.limits.lifetime }) ws) ≡ lives h ws
staged_lives site h [] = refl
staged_lives site h (w ∷ ws) = ap (cons_option (live_file h w.path)) (staged_lives site h ws)

-- paths and files that were seen together
abbrev SeenAlike : History → List (List ℕ) → List ℕ → Type 0
SeenAlike h ps fs = (p : List ℕ) (f : ℕ) → live_file h p ≡ Some f → has_number f fs ≡ has_text p ps

-- a path that names no file adds nothing that is alike
none_more : (h : History) (ps : List (List ℕ)) (fs : List ℕ) (q : List ℕ) → live_file h q ≡ None → SeenAlike h ps fs → SeenAlike h (q ∷ ps) fs
none_more h ps fs q none alike p f named =
    alike p f named
    ∙ elim (bool_cases (bytes_eq p q)) [
      | inl hit ↦ (let same : p ≡ q = (bytes_eq-Decides p q).0 hit in let bad : Some f ≡ None = sym named ∙ ap (live_file h) same ∙ none in absurd (cc))
      | inr miss ↦ ap (λ (b : Bool). b || has_text p ps) (sym miss)
    ]

some_more : (h : History) (ps : List (List ℕ)) (fs : List ℕ) (q : List ℕ) (g : ℕ) → live_file h q ≡ Some g → SeenAlike h ps fs → SeenAlike h (q ∷ ps) (g ∷ fs)
some_more h ps fs q g some alike p f named =
    ap (λ (b : Bool). b || has_number f fs)
    (same_bool (f == g) (bytes_eq p q)
    (λ e. (let same : f ≡ g = eqb-true f g e in
    let one : p ≡ q = sym (live_path h p f named) ∙ ap (path_of h) same ∙ live_path h q g some in
    (bytes_eq-Decides p q).1 one))
    (λ e. (let same : p ≡ q = (bytes_eq-Decides p q).0 e in
    let both : Some f ≡ Some g = sym named ∙ ap (live_file h) same ∙ some in
    let one : f ≡ g = cc in
    eq-eqb f g one)))
    ∙ ap (λ (b : Bool). bytes_eq p q || b) (alike p f named)

-- one wanted file, where the files behind it are told
skipped : (h : History) (w : Wanted) (ws : List Wanted) (ps : List (List ℕ)) (fs : List ℕ) (b : Bool) → live_file h w.path ≡ None → lives h (first_named ps ws) ≡ wanted_files h ws fs → lives h (first_named (w.path ∷ ps) ws) ≡ wanted_files h ws fs
    → lives h (if b then first_named ps ws else w ∷ first_named (w.path ∷ ps) ws) ≡ wanted_files h ws fs
skipped h w ws ps fs true none seen new = seen
skipped h w ws ps fs false none seen new = ap (λ (o : Option ℕ). cons_option o (lives h (first_named (w.path ∷ ps) ws))) none ∙ new

counted : (h : History) (w : Wanted) (ws : List Wanted) (ps : List (List ℕ)) (fs : List ℕ) (f : ℕ) (b : Bool) → live_file h w.path ≡ Some f → lives h (first_named ps ws) ≡ wanted_files h ws fs → lives h (first_named (w.path ∷ ps) ws) ≡ wanted_files h ws (f ∷ fs)
    → lives h (if b then first_named ps ws else w ∷ first_named (w.path ∷ ps) ws) ≡ (if b then wanted_files h ws fs else f ∷ wanted_files h ws (f ∷ fs))
counted h w ws ps fs f true some seen new = seen
counted h w ws ps fs f false some seen new = ap (λ (o : Option ℕ). cons_option o (lives h (first_named (w.path ∷ ps) ws))) some ∙ ap (λ (gs : List ℕ). f ∷ gs) new

one_wanted : (h : History) (w : Wanted) (ws : List Wanted) (ps : List (List ℕ)) (fs : List ℕ) (o : Option ℕ) → live_file h w.path ≡ o → SeenAlike h ps fs
    → ((qs : List (List ℕ)) (gs : List ℕ) → SeenAlike h qs gs → lives h (first_named qs ws) ≡ wanted_files h ws gs) → lives h (first_named ps (w ∷ ws)) ≡ file_and o fs (λ s. wanted_files h ws s)
one_wanted h w ws ps fs None none alike rest = skipped h w ws ps fs (has_text w.path ps) none (rest ps fs alike) (rest (w.path ∷ ps) fs (none_more h ps fs w.path none alike))
one_wanted h w ws ps fs (Some f) some alike rest =
    counted h w ws ps fs f (has_text w.path ps) some (rest ps fs alike) (rest (w.path ∷ ps) (f ∷ fs) (some_more h ps fs w.path f some alike))
    ∙ ap (λ (b : Bool). if b then wanted_files h ws fs else f ∷ wanted_files h ws (f ∷ fs)) (sym (alike w.path f some))

lives_are : (h : History) (ws : List Wanted) (ps : List (List ℕ)) (fs : List ℕ) → SeenAlike h ps fs → lives h (first_named ps ws) ≡ wanted_files h ws fs
lives_are h [] ps fs alike = refl
lives_are h (w ∷ ws) ps fs alike = one_wanted h w ws ps fs (live_file h w.path) refl alike (λ qs gs a. lives_are h ws qs gs a)

-- the files of a Stage are those that its paths name, in order of first naming
pub staged_are : (site : Site) (h : History) (ws : List Wanted) → files_staged site h ws ≡ wanted_files h ws []
staged_are site h ws = staged_lives site h (first_named [] ws) ∙ lives_are h ws [] [] (λ p f named. refl)

-- ---- which files are among them

add : (x a b : Bool) → (x ≡ true → b ≡ false) → (x || (a && not (x || b))) ≡ ((x || a) && not b)
add true a b f = sym (rw (f refl) refl)
add false a b f = refl

wanted_one : (h : History) (w : Wanted) (ws : List Wanted) (seen : List ℕ) (f : ℕ) (o : Option ℕ) → ((s : List ℕ) → has_number f (wanted_files h ws s) ≡ (names_file h f ws && not (has_number f s)))
    → has_number f (file_and o seen (λ s. wanted_files h ws s)) ≡ ((is_number f o || names_file h f ws) && not (has_number f seen))
wanted_one h w ws seen f None rest = rest seen
wanted_one h w ws seen f (Some g) rest =
    elim (bool_cases (has_number g seen)) [
      | inl there ↦ rw there (rest seen ∙ drop (f == g) (names_file h f ws) (not (has_number f seen)) (λ hit. ap not (subst (λ (n : ℕ). has_number n seen ≡ true) (sym (eqb-true f g hit)) there)))
      | inr new ↦ rw new (ap (λ (b : Bool). (f == g) || b) (rest (g ∷ seen)) ∙ add (f == g) (names_file h f ws) (has_number f seen) (λ hit. subst (λ (n : ℕ). has_number n seen ≡ false) (sym (eqb-true f g hit)) new))
    ]

wanted_has : (h : History) (ws : List Wanted) (seen : List ℕ) (f : ℕ) → has_number f (wanted_files h ws seen) ≡ (names_file h f ws && not (has_number f seen))
wanted_has h [] seen f = refl
wanted_has h (w ∷ ws) seen f = wanted_one h w ws seen f (live_file h w.path) (λ s. wanted_has h ws s f)

-- a Stage waits for each of them
pub staged_waits : (site : Site) (h : History) (who : Who) (ws : List Wanted) (f : ℕ) → has_number f (files_staged site h ws) ≡ waits_for site h (ask.Stage who (rows ws)) f
staged_waits site h who ws f = ap (has_number f) (staged_are site h ws) ∙ wanted_has h ws [] f ∙ and_true (names_file h f ws)

-- ---- none is listed twice

not_again : (h : History) (ws : List Wanted) (seen : List ℕ) (g : ℕ) → has_number g (wanted_files h ws (g ∷ seen)) ≡ false
not_again h ws seen g = wanted_has h ws (g ∷ seen) g ∙ ap (λ (b : Bool). names_file h g ws && not (b || has_number g seen)) (eq-eqb g g refl) ∙ and_false (names_file h g ws)

once_one : (h : History) (ws : List Wanted) (seen : List ℕ) (o : Option ℕ) → ((s : List ℕ) → AreOnce (wanted_files h ws s)) → AreOnce (file_and o seen (λ s. wanted_files h ws s))
once_one h ws seen None rest = rest seen
once_one h ws seen (Some g) rest = elim (has_number g seen) as (λ b. AreOnce (if b then wanted_files h ws seen else g ∷ wanted_files h ws (g ∷ seen))) [ true ↦ rest seen | false ↦ (not_again h ws seen g, rest (g ∷ seen)) ]

wanted_once : (h : History) (ws : List Wanted) (seen : List ℕ) → AreOnce (wanted_files h ws seen)
wanted_once h [] seen = tt
wanted_once h (w ∷ ws) seen = once_one h ws seen (live_file h w.path) (λ s. wanted_once h ws s)

pub staged_once : (site : Site) (h : History) (ws : List Wanted) → AreOnce (files_staged site h ws)
staged_once site h ws = subst AreOnce (sym (staged_are site h ws)) (wanted_once h ws [])

filter_lacks : (test : ℕ → Bool) (f : ℕ) (fs : List ℕ) → has_number f fs ≡ false → has_number f (filter test fs) ≡ false
filter_lacks test f [] e = refl
filter_lacks test f (g ∷ fs) e = by (f == g) refl e (test g) (λ x. filter_lacks test f fs x)
  where
    by : (a : Bool) → (f == g) ≡ a → (a || has_number f fs) ≡ false → (b : Bool) → (has_number f fs ≡ false → has_number f (filter test fs) ≡ false) → has_number f (if b then g ∷ filter test fs else filter test fs) ≡ false
    by true e x b rest = absurd (cc)
    by false e x true rest = ap (λ (c : Bool). c || has_number f (filter test fs)) e ∙ rest x
    by false e x false rest = rest x

pub filter_once : (test : ℕ → Bool) (fs : List ℕ) → AreOnce fs → AreOnce (filter test fs)
filter_once test [] once = tt
filter_once test (f ∷ fs) once = elim (test f) as (λ b. AreOnce (if b then f ∷ filter test fs else filter test fs)) [ true ↦ (filter_lacks test f fs once.0, filter_once test fs once.1) | false ↦ filter_once test fs once.1 ]

-- ---- the request's files are apart

file_among : (f : ℕ) (ss : List StageFile) → has_file f ss ≡ has_number f (filter_map (λ (s : StageFile). s.file) ss)
file_among f [] = refl
file_among f (s ∷ ss) = by s.file (file_among f ss)
  where
    by : (o : Option ℕ) → has_file f ss ≡ has_number f (filter_map (λ (s : StageFile). s.file) ss) → (is_number f o || has_file f ss) ≡ has_number f (cons_option o (filter_map (λ (s : StageFile). s.file) ss))
    by None rest = rest
    by (Some g) rest = ap (λ (b : Bool). (f == g) || b) rest

pub apart : (ss : List StageFile) → AreOnce (filter_map (λ (s : StageFile). s.file) ss) → AreApart ss
apart [] once = tt
apart (s ∷ ss) once = by s.file once (λ x. apart ss x)
  where
    by : (o : Option ℕ) → AreOnce (cons_option o (filter_map (λ (s : StageFile). s.file) ss)) → (AreOnce (filter_map (λ (s : StageFile). s.file) ss) → AreApart ss) → IsOther o ss × AreApart ss
    by None once rest = (tt, rest once)
    by (Some f) once rest = (file_among f ss ∙ once.0, rest once.1)

-- ---- no path is among them twice

-- the files that are asked for, of these wanted ones
abbrev asked_of : Site → History → List Wanted → List StageFile
asked_of site h ws = map (λ (w : Wanted). record { path = w.path; file = live_file h w.path; lifetime = unwrap_or w.lifetime site.limits.lifetime }) ws

-- a path that was seen is none that was not
unlike : (p q : List ℕ) (seen : List (List ℕ)) → has_text p seen ≡ true → has_text q seen ≡ false → bytes_eq p q ≡ false
unlike p q seen there new = by (bytes_eq p q) refl
  where
    by : (b : Bool) → bytes_eq p q ≡ b → bytes_eq p q ≡ false
    by true k = (let same : p ≡ q = (bytes_eq-Decides p q).0 k in let bad : has_text q seen ≡ true = ap (λ (r : List ℕ). has_text r seen) (sym same) ∙ there in absurd (cc))
    by false k = k

-- nor is it asked for again
seen_before : (site : Site) (h : History) (ws : List Wanted) (seen : List (List ℕ)) (p : List ℕ) → has_text p seen ≡ true → has_path p (asked_of site h (first_named seen ws)) ≡ false
seen_before site h [] seen p there = refl
seen_before site h (w ∷ ws) seen p there = by (has_text w.path seen) refl (seen_before site h ws seen p there) (seen_before site h ws (w.path ∷ seen) p (behind (bytes_eq p w.path) there))
  where
    behind : (b : Bool) → has_text p seen ≡ true → (b || has_text p seen) ≡ true
    behind true e = refl
    behind false e = e

    by : (b : Bool) → has_text w.path seen ≡ b → has_path p (asked_of site h (first_named seen ws)) ≡ false → has_path p (asked_of site h (first_named (w.path ∷ seen) ws)) ≡ false
        → has_path p (asked_of site h (if b then first_named seen ws else w ∷ first_named (w.path ∷ seen) ws)) ≡ false
    by true e old new = old
    by false e old new = ap (λ (b : Bool). b || has_path p (asked_of site h (first_named (w.path ∷ seen) ws))) (unlike p w.path seen there e) ∙ new

each_apart : (site : Site) (h : History) (ws : List Wanted) (seen : List (List ℕ)) → ArePathsApart (asked_of site h (first_named seen ws))
each_apart site h [] seen = tt
each_apart site h (w ∷ ws) seen = elim (has_text w.path seen) as (λ b. ArePathsApart (asked_of site h (if b then first_named seen ws else w ∷ first_named (w.path ∷ seen) ws))) [
  | true ↦ each_apart site h ws seen
  | false ↦ (seen_before site h ws (w.path ∷ seen) w.path (ap (λ (b : Bool). b || has_text w.path seen) ((bytes_eq-Decides w.path w.path).1 refl)), each_apart site h ws (w.path ∷ seen))
]

pub staged_apart : (site : Site) (h : History) (ws : List Wanted) → ArePathsApart (stage_files site h ws)
staged_apart site h ws = each_apart site h ws []

-- ---- how many there are

named_few : (ps : List (List ℕ)) (ws : List Wanted) → length (first_named ps ws) ≤ length ws
named_few ps [] = omega arith
named_few ps (w ∷ ws) = elim (has_text w.path ps) as (λ b. length (if b then first_named ps ws else w ∷ first_named (w.path ∷ ps) ws) ≤ length (w ∷ ws)) [ true ↦ omega (arith, named_few ps ws) | false ↦ omega (arith, named_few (w.path ∷ ps) ws) ]

lives_few : (h : History) (ws : List Wanted) → length (lives h ws) ≤ length ws
lives_few h [] = omega arith
lives_few h (w ∷ ws) = by (live_file h w.path) (lives_few h ws)
  where
    by : (o : Option ℕ) → length (lives h ws) ≤ length ws → length (cons_option o (lives h ws)) ≤ length (w ∷ ws)
    by None rest = omega (arith, rest)
    by (Some f) rest = omega (arith, rest)

pub staged_few : (site : Site) (h : History) (ws : List Wanted) → length (files_staged site h ws) ≤ length ws
staged_few site h ws =
    let a : length (lives h (first_named [] ws)) ≤ length (first_named [] ws) = lives_few h (first_named [] ws) in
    let b : length (first_named [] ws) ≤ length ws = named_few [] ws in
    subst (λ (fs : List ℕ). length fs ≤ length ws) (sym (staged_lives site h (first_named [] ws))) (omega (arith, a, b))

-- files of two kinds, none of both
pub kinds_few : (p q : ℕ → Bool) (fs : List ℕ) → ((f : ℕ) → p f ≡ true → q f ≡ false) → length (filter p fs) + length (filter q fs) ≤ length fs
kinds_few p q [] other = omega arith
kinds_few p q (f ∷ fs) other = by (p f) (q f) (other f) (kinds_few p q fs other)
  where
    by : (a b : Bool) → (a ≡ true → b ≡ false) → length (filter p fs) + length (filter q fs) ≤ length fs → length (if a then f ∷ filter p fs else filter p fs) + length (if b then f ∷ filter q fs else filter q fs) ≤ length (f ∷ fs)
    by true true e rest = (let bad : true ≡ false = e refl in absurd (cc))
    by true false e rest = omega (arith, rest)
    by false true e rest = omega (arith, rest)
    by false false e rest = omega (arith, rest)

-- a Stage that is accepted names few files
pub wanted_few : (site : Site) (h : History) (t : ℕ) (who : Who) (ws : List Wanted) → site.limits.history ≤ 1000000 → is_accepted (answer_of site h t (ask.Stage who (rows ws))) ≡ true → length ws ≤ 1000000
wanted_few site h t who ws top accepted = by (nat_lt site.limits.history (weight_of h + (1 + (length ws + 0)))) refl accepted
  where
    by : (b : Bool) → nat_lt site.limits.history (weight_of h + (1 + (length ws + 0))) ≡ b → is_accepted (refuse refusal.HistoryFull b (answer.Staged (length h + 1))) ≡ true → length ws ≤ 1000000
    by true heavy no_answer = absurd (cc)
    by false light yes_answer = (let fits : weight_of h + (1 + (length ws + 0)) ≤ site.limits.history = grind (arith, nat_tests) in omega arith)

-- ---- filters that agree on the files

number_here : (g : ℕ) (gs : List ℕ) → has_number g (g ∷ gs) ≡ true
number_here g gs = ap (λ (b : Bool). b || has_number g gs) (eq-eqb g g refl)

number_behind : (f g : ℕ) (gs : List ℕ) → has_number f gs ≡ true → has_number f (g ∷ gs) ≡ true
number_behind f g gs e = by (f == g)
  where
    by : (b : Bool) → (b || has_number f gs) ≡ true
    by true = refl
    by false = e

pub filter_alike : (p q : ℕ → Bool) (fs : List ℕ) → ((f : ℕ) → has_number f fs ≡ true → p f ≡ q f) → filter p fs ≡ filter q fs
filter_alike p q [] same = refl
filter_alike p q (f ∷ fs) same = rw (same f (number_here f fs), filter_alike p q fs (λ g e. same g (number_behind g f fs e))) refl

pub all_kept : (P : ℕ → Type 0) (test : ℕ → Bool) (fs : List ℕ) → ((f : ℕ) → has_number f fs ≡ true → P f) → AllByRecursion P (filter test fs)
all_kept P test [] each = tt
all_kept P test (f ∷ fs) each =
    elim (test f) as (λ b. AllByRecursion P (if b then f ∷ filter test fs else filter test fs)) [
      | true ↦ (each f (number_here f fs), all_kept P test fs (λ g e. each g (number_behind g f fs e)))
      | false ↦ all_kept P test fs (λ g e. each g (number_behind g f fs e))
    ]

-- ---- they are live

named_by : (h : History) (f : ℕ) (ws : List Wanted) → names_file h f ws ≡ true → (p : List ℕ) × (live_file h p ≡ Some f)
named_by h f [] e = absurd (cc)
named_by h f (w ∷ ws) e = by (live_file h w.path) refl (is_number f (live_file h w.path)) refl e (λ x. named_by h f ws x)
  where
    by : (o : Option ℕ) → live_file h w.path ≡ o → (b : Bool) → is_number f o ≡ b → (b || names_file h f ws) ≡ true → (names_file h f ws ≡ true → (p : List ℕ) × (live_file h p ≡ Some f)) → (p : List ℕ) × (live_file h p ≡ Some f)
    by o is false miss x rest = rest x
    by None is true hit x rest = absurd (cc)
    by (Some g) is true hit x rest = (let same : f ≡ g = eqb-true f g hit in (w.path, is ∙ ap (λ (n : ℕ). Some n) (sym same)))

pub staged_named : (site : Site) (h : History) (who : Who) (ws : List Wanted) (f : ℕ) → has_number f (files_staged site h ws) ≡ true → (p : List ℕ) × (live_file h p ≡ Some f)
staged_named site h who ws f there = named_by h f ws (sym (staged_waits site h who ws f) ∙ there)
