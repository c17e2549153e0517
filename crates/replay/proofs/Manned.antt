-- Drives with their sessions, where the history grows and where one of them makes a step.
use Rattle.std.proofs.Common.{◌≡◌, ◌≢◌, ℕ, zero, suc, ◌+◌, ◌<◌, ◌==◌, true, false, inl, inr, List, [], ◌∷◌, ◌++◌, length, refl, sym, ap, ◌∙◌, subst, arith}
use Rattle.std.specs.Prelude.{Option, Some, None, map, slice_get, slice_set}
use Rattle.std.proofs.lemmas.Bool.{cases_Bool, cases_eq}
use Rattle.std.proofs.lemmas.Option.{none-some, same_Some}
use Rattle.blob.specs.Records.{MediumView}
use Rattle.cta_site.specs.declared.site.Site.{Site}
use Rattle.cta_model.specs.declared.asks.Ask.{Ask}
use Rattle.cta_model.specs.declared.answers.Answer.{Answer}
use Rattle.cta_model.specs.declared.entries.Entry.{Entry}
use Rattle.cta_model.specs.Answers.{answer_of, is_accepted}
use Rattle.cta_model.specs.History.{History, entry_of}
use Rattle.cta_model.specs.Kept.{Kept, kept_after}
use Rattle.cta_model.specs.Legal.{IsLegal, new_entry}
use Rattle.cta_model.specs.declared.asks.Direction.{Direction}
use Rattle.cta_model.specs.declared.states.Mount.{Mount}
use Rattle.cta_model.specs.Mounts.{asked_mount, mount_by, mount_in, mount_of}
use Rattle.cta_laws.specs.Mounts.{are_about_others}
use Rattle.media.specs.Drives.{DriveView}
use Rattle.drive_session.specs.declared.session.Memo.{Memo}
use Rattle.drive_session.specs.declared.states.Mounted.{Mounted}
use Rattle.drive_session.specs.declared.states.State.{State}
use Rattle.drive_session.specs.declared.states.State.TheVariants as state
use Rattle.drive_session.specs.Fits.{FitsState, IsMountAt}
use Rattle.session_laws.specs.Laws.{AreOthers, SessionStays}
use Rattle.replay.specs.Desk.{AreManned, HasNoMount, IsAbout, IsManned, IsRowAbout, drive_state, drive_states}
use Rattle.replay.specs.Steps.{kept_by}
use Rattle.replay.proofs.Freed.{next_makes}
use Rattle.replay.proofs.OneMount.{stays_idle}

-- ---- lists

got_same : {A : Type 0} (xs : List A) (k : ℕ) (x : A) → k < length xs → slice_get (slice_set xs k x) k ≡ Some x
got_same [] k x within = absurd (omega arith)
got_same (y ∷ xs) zero x within = refl
got_same (y ∷ xs) (suc k) x within = got_same xs k x (omega arith)

got_other : {A : Type 0} (xs : List A) (k j : ℕ) (x : A) → j ≢ k → slice_get (slice_set xs k x) j ≡ slice_get xs j
got_other [] k j x apart = refl
got_other (y ∷ xs) zero zero x apart = absurd (apart refl)
got_other (y ∷ xs) zero (suc j) x apart = refl
got_other (y ∷ xs) (suc k) zero x apart = refl
got_other (y ∷ xs) (suc k) (suc j) x apart = got_other xs k j x (λ e. apart (ap suc e))

length-put : {A : Type 0} (xs : List A) (k : ℕ) (x : A) → length (slice_set xs k x) ≡ length xs
length-put [] k x = refl
length-put (y ∷ xs) zero x = refl
length-put (y ∷ xs) (suc k) x = ap suc (length-put xs k x)

pub map-put : {A B : Type 0} (f : A → B) (xs : List A) (k : ℕ) (x : A) → map f (slice_set xs k x) ≡ slice_set (map f xs) k (f x)
map-put f [] k x = refl
map-put f (y ∷ xs) zero x = refl
map-put f (y ∷ xs) (suc k) x = ap (λ zs. f y ∷ zs) (map-put f xs k x)

pub states_at : {M : Type 0} (told : M → MediumView) (ms : List (Memo M)) (vs : List DriveView) (d : ℕ) (m : Memo M) (v : DriveView) → slice_get ms d ≡ Some m → slice_get vs d ≡ Some v
    → slice_get (drive_states told ms vs) d ≡ Some (drive_state told m v)
states_at told [] vs d m v e f = absurd (let no : None ≡ Some m = e in cc)
states_at told (x ∷ ms) [] d m v e f = absurd (let no : None ≡ Some v = f in cc)
states_at told (x ∷ ms) (w ∷ vs) zero m v e f =
    let a : x ≡ m = same_Some x m e in
    let b : w ≡ v = same_Some w v f in
    ap (λ (y : Memo _). Some (drive_state told y w)) a ∙ ap (λ u. Some (drive_state told m u)) b
states_at told (x ∷ ms) (w ∷ vs) (suc d) m v e f = states_at told ms vs d m v e f

pub states_put : {M : Type 0} (told : M → MediumView) (ms : List (Memo M)) (vs : List DriveView) (d : ℕ) (m : Memo M) (v : DriveView)
    → drive_states told (slice_set ms d m) (slice_set vs d v) ≡ slice_set (drive_states told ms vs) d (drive_state told m v)
states_put told [] vs d m v = refl
states_put told (x ∷ ms) [] zero m v = refl
states_put told (x ∷ ms) [] (suc d) m v = refl
states_put told (x ∷ ms) (w ∷ vs) zero m v = refl
states_put told (x ∷ ms) (w ∷ vs) (suc d) m v = ap (λ zs. drive_state told x w ∷ zs) (states_put told ms vs d m v)

-- ---- entries about others

-- no entry is about this mount
abbrev AreApart : {M : Type 0} → State M → (ℕ → Type 0) → Type 0
AreApart state.Free P = Unit {0}
AreApart (state.Held x) P = P x.mount
AreApart (state.Ready x) P = P x.mount
AreApart (state.Claimed x items blobs) P = P x.mount
AreApart (state.Writing x b) P = P x.mount
AreApart (state.Reading x items at) P = P x.mount
AreApart (state.Leaving x) P = P x.mount

others_apart : {M : Type 0} (s : State M) (newer : History) → AreApart s (λ m. are_about_others m newer ≡ true) → AreOthers s newer
others_apart state.Free newer h = tt
others_apart (state.Held x) newer h = h
others_apart (state.Ready x) newer h = h
others_apart (state.Claimed x items blobs) newer h = h
others_apart (state.Writing x b) newer h = h
others_apart (state.Reading x items at) newer h = h
others_apart (state.Leaving x) newer h = h

-- the mount of a session that fits
mount_apart : {M : Type 0} (told : M → MediumView) (site : Site) (h : History) (d : ℕ) (s : State M) (P : ℕ → Type 0) → FitsState told site h d s
    → ((m : ℕ) (x : Mounted M) → IsMountAt h d x.mount x.direction x.tape → x.mount ≡ m → P m) → AreApart s P
mount_apart told site h d state.Free P f each = tt
mount_apart told site h d (state.Held x) P f each = each x.mount x f.state.at.mount refl
mount_apart told site h d (state.Ready x) P f each = each x.mount x f.state.at.mount refl
mount_apart told site h d (state.Claimed x items blobs) P f each = each x.mount x f.state.at.mount refl
mount_apart told site h d (state.Writing x b) P f each = each x.mount x f.state.batch.at.mount refl
mount_apart told site h d (state.Reading x items at) P f each = each x.mount x f.state.unread.at.mount refl
mount_apart told site h d (state.Leaving x) P f each = each x.mount x f.state.at.mount refl

never : (a b : ℕ) → a ≢ b → a == b ≡ false
never a b apart = grind (arith, apart)

-- no mount has the number 0
no_entry : (h : History) → entry_of h 0 ≡ None
no_entry [] = refl
no_entry (e ∷ h) = rw (never 0 (length h + 1) (λ e. omega arith)) (no_entry h)

no_mount : (h : History) → mount_of h 0 ≡ None
no_mount h = ap mount_by (no_entry h)

-- an entry about another mount is about others
about_other : (m : ℕ) (e : Entry) → asked_mount e.ask ≢ m → are_about_others m (e ∷ []) ≡ true
about_other m e apart = rw (never (asked_mount e.ask) m apart) refl

-- a mount that is there is not the one that an ask about none is about
there_apart : (h : History) (d m : ℕ) (way : Direction) (v : ℕ) → IsMountAt h d m way v → 0 ≢ m
there_apart h d m way v at e =
    let none : mount_of h m ≡ None = subst (λ n. mount_of h n ≡ None) e (no_mount h) in
    absurd (none-some _ (sym none ∙ at.mount))

-- two drives have two mounts
drives_apart : (h : History) (d e m n : ℕ) (way way' : Direction) (v v' : ℕ) → d ≢ e → IsMountAt h d m way v → IsMountAt h e n way' v' → m ≢ n
drives_apart h d e m n way way' v v' apart a b same =
    let one : Some (record { drive = d; direction = way; tape = v }) ≡ Some (record { drive = e; direction = way'; tape = v' }) = sym a.mount ∙ ap (mount_of h) same ∙ b.mount in
    apart (ap (λ (x : Mount). x.drive) (same_Some _ _ one))

-- ---- drives stay manned

module _ {M : Type 0} (told : M → MediumView) (stays : SessionStays told) (site : Site) where
  -- one that fits stays so through an entry that is about no mount of it
  pub stays_manned : (newer h : History) (d : ℕ) (m : Memo M) (v : DriveView) → IsLegal site (newer ++ h) → AreApart m.state (λ n. are_about_others n newer ≡ true) → (HasNoMount h d → HasNoMount (newer ++ h) d) → IsManned told site h d m v → IsManned told site (newer ++ h) d m v
  stays_manned newer h d m v legal apart idle x = record {
    number = x.number;
    kept = x.kept;
    rest = x.rest;
    fits = stays site newer h d m.state legal (others_apart m.state newer apart) x.fits;
    loaded = x.loaded;
    free = λ f. idle (x.free f);
  }

  none_newer : (s : State M) → AreApart s (λ n. are_about_others n [] ≡ true)
  none_newer state.Free = tt
  none_newer (state.Held x) = refl
  none_newer (state.Ready x) = refl
  none_newer (state.Claimed x items blobs) = refl
  none_newer (state.Writing x b) = refl
  none_newer (state.Reading x items at) = refl
  none_newer (state.Leaving x) = refl

  -- an entry of a caller is about no mount
  callers_apart : (h : History) (d : ℕ) (s : State M) (e : Entry) → asked_mount e.ask ≡ 0 → FitsState told site h d s → AreApart s (λ n. are_about_others n (e ∷ []) ≡ true)
  callers_apart h d s e none f =
      mount_apart told site h d s (λ n. are_about_others n (e ∷ []) ≡ true) f
      (λ m x at same. subst (λ n. are_about_others n (e ∷ []) ≡ true) same (about_other x.mount e (λ is. there_apart h d x.mount x.direction x.tape at (sym none ∙ is))))

  -- an ask of a caller, accepted or not, leaves each drive manned
  pub callers_keep : (kept : Kept) (t : ℕ) (k : Ask) (a : Answer) (ms : List (Memo M)) (vs : List DriveView) → kept.site ≡ site → asked_mount k ≡ 0 → ((x : Mount) → mount_in k a ≡ Some x → ⊥) → IsLegal site (kept_after kept t k a None).history
      → AreManned told site kept.history ms vs → AreManned told site (kept_after kept t k a None).history ms vs
  callers_keep kept t k a ms vs same none makes_none legal x =
      elim (cases_Bool (is_accepted a)) [
        | inl hit ↦
            let e = new_entry kept.history t k a in
            let grown : (kept_after kept t k a None).history ≡ e ∷ kept.history = rw hit refl in
            rw grown (record {
              sessions = x.sessions;
              drives = x.drives;
              each = λ d m v is seen.
                  let y = x.each d m v is seen in
                  stays_manned (e ∷ []) kept.history d m v (subst (IsLegal site) grown legal) (callers_apart kept.history d m.state e none y.fits) (stays_idle e kept.history d (λ made is_made same_drive. makes_none made is_made)) y;
            })
        | inr miss ↦
            let stayed : (kept_after kept t k a None).history ≡ kept.history = rw miss refl in
            rw stayed x
      ]

  -- an entry of a step is about no mount of another drive
  step_apart : (h : History) (d other : ℕ) (s : State M) (e : Entry) → d ≢ other → IsAbout h d e.ask → FitsState told site h other s → AreApart s (λ n. are_about_others n (e ∷ []) ≡ true)
  step_apart h d other s e apart (next, inl none) f = callers_apart h other s e none f
  step_apart h d other s e apart (next, inr here) f =
      mount_apart told site h other s (λ n. are_about_others n (e ∷ []) ≡ true) f
      (λ m x there same. subst (λ n. are_about_others n (e ∷ []) ≡ true) same (about_other x.mount e (drives_apart h d other (asked_mount e.ask) x.mount here.0 x.direction here.1.0 x.tape apart here.1.1 there)))

  other_stays : (kept : Kept) (t d other : ℕ) (k : Ask) (a : Answer) (left : Option MediumView) (m : Memo M) (v : DriveView) → IsLegal site (kept_after kept t k a left).history → d ≢ other → IsAbout kept.history d k
      → IsManned told site kept.history other m v → IsManned told site (kept_after kept t k a left).history other m v
  other_stays kept t d other k a left m v legal apart about x =
      elim (cases_Bool (is_accepted a)) [
        | inl hit ↦
            let e = new_entry kept.history t k a in
            let grown : (kept_after kept t k a left).history ≡ e ∷ kept.history = rw hit refl in
            rw grown (stays_manned (e ∷ []) kept.history other m v (subst (IsLegal site) grown legal) (step_apart kept.history d other m.state e apart about x.fits)
            (stays_idle e kept.history other (λ made is_made same_drive. apart (sym (next_makes d k a made about.0 is_made) ∙ same_drive))) x)
        | inr miss ↦
            let stayed : (kept_after kept t k a left).history ≡ kept.history = rw miss refl in
            rw stayed x
      ]

  row_stays : (kept : Kept) (t d other : ℕ) (left : Option MediumView) (o : Option Ask) (m : Memo M) (v : DriveView) → IsLegal site (kept_by kept t left o).history → d ≢ other → IsRowAbout kept.history d o
      → IsManned told site kept.history other m v → IsManned told site (kept_by kept t left o).history other m v
  row_stays kept t d other left None m v legal apart about x = x
  row_stays kept t d other left (Some k) m v legal apart about x = other_stays kept t d other k (answer_of kept.site kept.history t k) left m v legal apart about x

  -- a step of one drive leaves all of them manned
  pub step_keeps : (kept now : Kept) (t d : ℕ) (left : Option MediumView) (o : Option Ask) (ms : List (Memo M)) (vs : List DriveView) (m : Memo M) (v : DriveView) → now ≡ kept_by kept t left o → now.site ≡ site → IsLegal site now.history → IsRowAbout kept.history d o
      → AreManned told site kept.history ms vs → d < length ms → d < length vs → IsManned told site now.history d m v → AreManned told site now.history (slice_set ms d m) (slice_set vs d v)
  step_keeps kept now t d left o ms vs m v e same legal about x in_ms in_vs here = record {
    sessions = length-put ms d m ∙ x.sessions;
    drives = length-put vs d v ∙ x.drives;
    each = λ other n w is seen.
        elim (cases_eq other d) [
          | inl hit ↦
              let is' : m ≡ n = same_Some m n (sym (got_same ms d m in_ms) ∙ ap (slice_get (slice_set ms d m)) (sym hit) ∙ is) in
              let seen' : v ≡ w = same_Some v w (sym (got_same vs d v in_vs) ∙ ap (slice_get (slice_set vs d v)) (sym hit) ∙ seen) in
              subst (λ k. IsManned told site now.history k n w) (sym hit) (subst (λ u. IsManned told site now.history d n u) seen' (subst (λ u. IsManned told site now.history d u v) is' here))
          | inr apart ↦
              let was = x.each other n w (sym (got_other ms d other m apart) ∙ is) (sym (got_other vs d other v apart) ∙ seen) in
              subst (λ k. IsManned told site k.history other n w) (sym e) (row_stays kept t d other left o n w (subst (λ k. IsLegal site k.history) e legal) (λ f. apart (sym f)) about was)
        ];
  }
