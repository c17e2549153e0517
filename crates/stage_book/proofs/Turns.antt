-- Files of a request that are turned.
use Rattle.std.proofs.Common.{◌≡◌, ◌∙◌, ◌||◌, ℕ, zero, suc, List, [], ◌∷◌, Bool, true, false, refl, sym, ap, subst, None, Some}
use Rattle.std.specs.Prelude.{Option, String, if◌then◌else◌, ◌==◌, map, slice_get}
use Rattle.std.specs.Global.{Global}
use Rattle.std.specs.Map.{values_of}
use Rattle.std.proofs.lemmas.Bool.{eqb-true, eq-eqb}
use Rattle.indexmap.specs.IndexMap.{set_value_at}
use Rattle.cta_model.specs.declared.reports.FileState.{FileState}
use Rattle.cta_model.specs.declared.reports.FileState.TheVariants as file
use Rattle.cta_model.specs.declared.states.RequestFile.{RequestFile}
use Rattle.cta_model.specs.History.{is_number}
use Rattle.cta_model.specs.Stages.{first_start, started}
use Rattle.part_model.specs.declared.space.FileEnd.{FileEnd}
use Rattle.part_model.specs.declared.space.FileEnd.TheVariants as end
use Rattle.part_model.specs.Requests.{ended_file, turned_file, where_waiting}
use Rattle.stage_book.specs.declared.file_row.FileRow.{FileRow}
use Rattle.stage_book.specs.FileRows.{Entry, FileRows, end_error, end_state, ended_at, file_of, files_in, started_at, turned_there, waits}
use Rattle.stage_book.specs.Places.{AreNumbersApart, ArePlaced, IsPlaced, Places, names_file, numbers_in, place_in}
use Rattle.stage_book.proofs.Lists.{clash, last_no, neither, or_right}

-- ---- one file

-- a path and a file of these parts
abbrev parts : String Global → Option ℕ → ℕ → FileState → Option ℕ → Option ℕ → Option (List ℕ) → Bool → Entry
parts k o lifetime st begun over error gone = (k, record { file = o; lifetime = lifetime; state = st; started = begun; finished = over; error = error; released = gone })

start_parts : (at : ℕ) (k : String Global) (o : Option ℕ) (l : ℕ) (st : FileState) (b f : Option ℕ) (e : Option (List ℕ)) (g : Bool)
    → file_of (k, started_at at (parts k o l st b f e g).1) ≡ where_waiting (λ r. started r at) st (file_of (parts k o l st b f e g))
start_parts at k o l file.Submitted b f e g = refl
start_parts at k o l file.Started b f e g = refl
start_parts at k o l file.Completed b f e g = refl
start_parts at k o l file.Failed b f e g = refl
start_parts at k o l file.Cancelled b f e g = refl

pub start_with : (at : ℕ) (e : Entry) → file_of (e.0, started_at at e.1) ≡ where_waiting (λ r. started r at) e.1.state (file_of e)
start_with at e = start_parts at e.0 e.1.file e.1.lifetime e.1.state e.1.started e.1.finished e.1.error e.1.released

end_parts : (at : ℕ) (how : FileEnd) (k : String Global) (o : Option ℕ) (l : ℕ) (st : FileState) (b f : Option ℕ) (e : Option (List ℕ)) (g : Bool)
    → file_of (k, ended_at at how (parts k o l st b f e g).1) ≡ where_waiting (ended_file at how) st (file_of (parts k o l st b f e g))
end_parts at end.Completed k o l file.Submitted b f e g = refl
end_parts at end.Cancelled k o l file.Submitted b f e g = refl
end_parts at (end.Failed text) k o l file.Submitted b f e g = refl
end_parts at end.Completed k o l file.Started b f e g = refl
end_parts at end.Cancelled k o l file.Started b f e g = refl
end_parts at (end.Failed text) k o l file.Started b f e g = refl
end_parts at how k o l file.Completed b f e g = refl
end_parts at how k o l file.Failed b f e g = refl
end_parts at how k o l file.Cancelled b f e g = refl

pub end_with : (at : ℕ) (how : FileEnd) (e : Entry) → file_of (e.0, ended_at at how e.1) ≡ where_waiting (ended_file at how) e.1.state (file_of e)
end_with at how e = end_parts at how e.0 e.1.file e.1.lifetime e.1.state e.1.started e.1.finished e.1.error e.1.released

pub start_stays : (at : ℕ) (r : FileRow) → (started_at at r).file ≡ r.file
start_stays at r = elim (waits r.state) as (λ b. (if b then record r { state = file.Started; started = first_start r.started at } else r).file ≡ r.file) [ true ↦ refl | false ↦ refl ]

pub end_stays : (at : ℕ) (how : FileEnd) (r : FileRow) → (ended_at at how r).file ≡ r.file
end_stays at how r = elim (waits r.state) as (λ b. (if b then record r { state = end_state how; finished = Some at; error = end_error how } else r).file ≡ r.file) [ true ↦ refl | false ↦ refl ]

-- ---- the file at a place

-- a value written at a place turns the file there
pub written_turns : (turn : FileRow → FileRow) (es : FileRows) (n : ℕ) (old new : FileRow) → slice_get (values_of es) n ≡ Some old → new ≡ turn old → set_value_at es n new ≡ turned_there turn n es
written_turns turn [] n old new e is = refl
written_turns turn (x ∷ xs) zero old new e is = (let same : x.1 ≡ old = cc in (λ i. (x.0, (is ∙ ap turn (sym same)) i) ∷ xs))
written_turns turn (x ∷ xs) (suc n) old new e is = ap (λ (ys : FileRows). x ∷ ys) (written_turns turn xs n old new e is)

-- nothing turns at a place that is not there
pub nothing_turns : (turn : FileRow → FileRow) (es : FileRows) (n : ℕ) → slice_get (values_of es) n ≡ None → es ≡ turned_there turn n es
nothing_turns turn [] n e = refl
nothing_turns turn (x ∷ xs) zero e = absurd (cc)
nothing_turns turn (x ∷ xs) (suc n) e = ap (λ (ys : FileRows). x ∷ ys) (nothing_turns turn xs n e)

-- ---- the files of a number

-- files of other numbers do not turn
pub others_stay : (f : ℕ) (turn : RequestFile → RequestFile) (fs : List RequestFile) → names_file f (numbers_in fs) ≡ false → fs ≡ map (turned_file f turn) fs
others_stay f turn [] e = refl
others_stay f turn (s ∷ ss) e =
    (λ i. (if sym (neither (is_number f s.file) _ e) i then where_waiting turn s.state s else s) ∷ others_stay f turn ss (last_no (is_number f s.file) _ e) i)

pub there : (f : ℕ) (numbers : List (Option ℕ)) (n : ℕ) → slice_get numbers n ≡ Some (Some f) → names_file f numbers ≡ true
there f [] n e = absurd (cc)
there f (o ∷ os) zero e = (let same : o ≡ Some f = cc in ap (λ (x : Option ℕ). is_number f x || names_file f os) same ∙ ap (λ (b : Bool). b || names_file f os) (eq-eqb f f refl))
there f (o ∷ os) (suc n) e = or_right (is_number f o) _ (there f os n e)

-- what a number has before it is another number
pub before : (f : ℕ) (o : Option ℕ) (os : List (Option ℕ)) → AreNumbersApart (o ∷ os) → names_file f os ≡ true → is_number f o ≡ false
before f None os apart h = refl
before f (Some g) os apart h = by (f == g) refl
  where
    by : (b : Bool) → (f == g) ≡ b → (f == g) ≡ false
    by true k = absurd (clash (ap (λ (x : ℕ). names_file x os) (sym (eqb-true f g k)) ∙ h) apart.0)
    by false k = k

pub behind : (o : Option ℕ) (os : List (Option ℕ)) → AreNumbersApart (o ∷ os) → AreNumbersApart os
behind None os apart = apart
behind (Some g) os apart = apart.1

pub alone : (f : ℕ) (o : Option ℕ) (os : List (Option ℕ)) → AreNumbersApart (o ∷ os) → o ≡ Some f → names_file f os ≡ false
alone f None os apart e = absurd (cc)
alone f (Some g) os apart e = (let same : g ≡ f = cc in ap (λ (x : ℕ). names_file x os) (sym same) ∙ apart.0)

-- the file at a place turns, and no other has its number
pub turns : (f : ℕ) (go : FileRow → FileRow) (turn : RequestFile → RequestFile) → ((e : Entry) → file_of (e.0, go e.1) ≡ where_waiting turn e.1.state (file_of e))
    → (es : FileRows) (n : ℕ) → slice_get (numbers_in (files_in es)) n ≡ Some (Some f) → AreNumbersApart (numbers_in (files_in es))
    → files_in (turned_there go n es) ≡ map (turned_file f turn) (files_in es)
turns f go turn with_it [] n e apart = refl
turns f go turn with_it (x ∷ xs) zero e apart =
    (let same : x.1.file ≡ Some f = cc in
    let its : is_number f x.1.file ≡ true = ap (is_number f) same ∙ eq-eqb f f refl in
    (λ i. (with_it x ∙ ap (λ (b : Bool). if b then where_waiting turn x.1.state (file_of x) else file_of x) (sym its)) i ∷ others_stay f turn (files_in xs) (alone f x.1.file (numbers_in (files_in xs)) apart same) i))
turns f go turn with_it (x ∷ xs) (suc n) e apart =
    (let other : is_number f x.1.file ≡ false = before f x.1.file (numbers_in (files_in xs)) apart (there f (numbers_in (files_in xs)) n e) in
    (λ i. ap (λ (b : Bool). if b then where_waiting turn x.1.state (file_of x) else file_of x) (sym other) i ∷ turns f go turn with_it xs n e (behind x.1.file (numbers_in (files_in xs)) apart) i))

-- a file that turns keeps its number
pub numbers_stay : (go : FileRow → FileRow) → ((r : FileRow) → (go r).file ≡ r.file) → (es : FileRows) (n : ℕ) → numbers_in (files_in es) ≡ numbers_in (files_in (turned_there go n es))
numbers_stay go stays [] n = refl
numbers_stay go stays (x ∷ xs) zero = ap (λ (o : Option ℕ). o ∷ numbers_in (files_in xs)) (sym (stays x.1))
numbers_stay go stays (x ∷ xs) (suc n) = ap (λ (os : List (Option ℕ)). x.1.file ∷ os) (numbers_stay go stays xs n)

-- a file that has a place is there
pub its_place : (ps : Places) (numbers : List (Option ℕ)) (f n : ℕ) → ArePlaced ps numbers → place_in ps f ≡ Some n → slice_get numbers n ≡ Some (Some f)
its_place ps numbers f n kept here = subst (IsPlaced numbers f) here (kept.placed f)

-- a file that has none is not there
pub no_place : (ps : Places) (numbers : List (Option ℕ)) (f : ℕ) → ArePlaced ps numbers → place_in ps f ≡ None → names_file f numbers ≡ false
no_place ps numbers f kept none = subst (IsPlaced numbers f) none (kept.placed f)
