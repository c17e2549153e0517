-- Each tape of a site has a true medium: on the shelf, or in the session of the drive that has it mounted.
use Rattle.std.proofs.Common.{◌≡◌, ℕ, zero, suc, ◌<◌, ◌⊎◌, inl, inr, Bool, true, false, ◌==◌, List, [], ◌∷◌, length, refl, sym, ap, ◌∙◌, subst, arith}
use Rattle.std.specs.Prelude.{Option, Some, None, IfSome, map, slice_get}
use Rattle.std.specs.List.{list_any}
use Rattle.std.proofs.lemmas.Bool.{cases_Bool, eqb-true, eq-eqb}
use Rattle.std.proofs.lemmas.Option.{none-some, same_Some}
use Rattle.blob.specs.Records.{MediumView, medium_at}
use Rattle.cta_site.specs.declared.site.Site.{Site}
use Rattle.cta_model.specs.declared.asks.Direction.{Direction}
use Rattle.cta_model.specs.declared.entries.Entry.{Entry}
use Rattle.cta_model.specs.declared.states.Mount.{Mount}
use Rattle.cta_model.specs.History.{History, has_number}
use Rattle.cta_model.specs.Kept.{Kept}
use Rattle.cta_model.specs.Legal.{IsLegal}
use Rattle.cta_model.specs.Media.{IsTrueMedium, IsMediumOf}
use Rattle.cta_model.specs.Mounts.{is_mount, is_mounted, is_open, mount_of, open_mounts, tape_by, tape_of_mount}
use Rattle.cta_laws.specs.Changes.{may_change_mounts}
use Rattle.cta_laws.specs.Media.{TrueMediumStays, puts_on}
use Rattle.cta_laws.proofs.Frames.{mounts_same}
use Rattle.cta_laws.proofs.MountLaw.{tape_is_mounted}
use Rattle.cta_laws.proofs.OpenMounts.{mount_older, open_older}
use Rattle.archive.specs.States.{AreShelved}
use Rattle.archive.specs.Shelf.{IsPlaceOf}
use Rattle.media.specs.Drives.{DriveView}
use Rattle.drive_session.specs.declared.session.Memo.{Memo}
use Rattle.drive_session.specs.declared.states.Mounted.{Mounted}
use Rattle.drive_session.specs.declared.states.State.{State}
use Rattle.drive_session.specs.declared.states.State.TheVariants as state
use Rattle.drive_session.specs.Fits.{FitsState, IsAt, IsMountAt}
use Rattle.drive_session.specs.Steps.{medium_held}
use Rattle.archive_opening.specs.Made.{AreNewMedia}
use Rattle.archive_opening.proofs.FirstMedia.{new_medium_true}
use Rattle.replay.specs.Desk.{AreManned, IsFree, drive_state, drive_states}
use Rattle.replay.specs.Promises.{AllTapesHaveMedia, HasMedium, IsOnShelf, IsWithDrive}
use Rattle.replay.specs.Steps.{Made, RunState, begun_with}
use Rattle.replay.proofs.Manned.{states_at}
use Rattle.replay.proofs.OneMount.{drive_on_site, one_mount}

-- ---- a tape that is mounted

there_in : (h : History) (v : ℕ) (o : Option Mount) → is_mount (λ (x : Mount). x.tape == v) o ≡ true → (x : Mount) × ((o ≡ Some x) × (x.tape ≡ v))
there_in h v None is = absurd (let no : false ≡ true = is in cc)
there_in h v (Some x) is = (x, (refl, eqb-true x.tape v is))

record IsAmong (h : History) (v : ℕ) (ms : List ℕ) : Type 0 where
  number : ℕ
  mount : Mount
  still : has_number number ms ≡ true
  is : mount_of h number ≡ Some mount
  tape : mount.tape ≡ v

among : (h : History) (v : ℕ) (ms : List ℕ) → list_any (λ m. is_mount (λ (x : Mount). x.tape == v) (mount_of h m)) ms ≡ true → IsAmong h v ms
among h v [] is = absurd (let no : false ≡ true = is in cc)
among h v (m ∷ ms) is =
    elim (cases_Bool (is_mount (λ (x : Mount). x.tape == v) (mount_of h m))) [
      | inl hit ↦
          let x = there_in h v (mount_of h m) hit in
          record { number = m; mount = x.0; still = rw (eq-eqb m m refl) refl; is = x.1.0; tape = x.1.1 }
      | inr miss ↦
          let x = among h v ms (rw miss at is) in
          record { number = x.number; mount = x.mount; still = in_more x.number m ms x.still; is = x.is; tape = x.tape }
    ]
  where
    in_more : (n k : ℕ) (ks : List ℕ) → has_number n ks ≡ true → has_number n (k ∷ ks) ≡ true
    in_more n k ks here =
        elim (cases_Bool (n == k)) [
          | inl hit ↦ rw hit refl
          | inr miss ↦ rw miss here
        ]

-- ---- the session that has it

got : {A : Type 0} (xs : List A) (k : ℕ) → k < length xs → (x : A) × (slice_get xs k ≡ Some x)
got [] k within = absurd (omega arith)
got (x ∷ xs) zero within = (x, refl)
got (x ∷ xs) (suc k) within = got xs k (omega arith)

-- a session that isn't free has its medium
record HoldsMount {M : Type 0} (told : M → MediumView) (h : History) (d : ℕ) (s : State M) : Type 0 where
  mounted : Mounted M
  at : IsAt told h d mounted
  has : medium_held told s ≡ Some (told mounted.medium)

held : {M : Type 0} (told : M → MediumView) (site : Site) (h : History) (d : ℕ) (s : State M) → FitsState told site h d s → (IsFree s → ⊥) → HoldsMount told h d s
held told site h d state.Free f busy = absurd (busy tt)
held told site h d (state.Held x) f busy = record { mounted = x; at = f.state.at; has = refl }
held told site h d (state.Ready x) f busy = record { mounted = x; at = f.state.at; has = refl }
held told site h d (state.Claimed x items blobs) f busy = record { mounted = x; at = f.state.at; has = refl }
held told site h d (state.Writing x b) f busy = record { mounted = x; at = f.state.batch.at; has = refl }
held told site h d (state.Reading x items at) f busy = record { mounted = x; at = f.state.unread.at; has = refl }
held told site h d (state.Leaving x) f busy = record { mounted = x; at = f.state.at; has = refl }

same_tape : (h : History) (m n : ℕ) (x y : Mount) → m ≡ n → mount_of h m ≡ Some x → mount_of h n ≡ Some y → y.tape ≡ x.tape
same_tape h m n x y same a b =
    let both : Some y ≡ Some x = sym b ∙ ap (mount_of h) (sym same) ∙ a in
    ap (λ (z : Mount). z.tape) (same_Some y x both)

-- the place of a tape that isn't mounted has its medium
at_place : (h : History) (v : ℕ) (b : Bool) (o : Option MediumView) → b ≡ false → IsPlaceOf h v b o → (x : MediumView) × (o ≡ Some x) × IsMediumOf h v x
at_place h v true o off is = absurd (let no : true ≡ false = off in cc)
at_place h v false None off is = absurd is
at_place h v false (Some x) off is = (x, refl, is)

module _ {M : Type 0} (told : M → MediumView) (kept : Kept) (legal : IsLegal kept.site kept.history) (shelved : AreShelved kept.site kept.history kept.shelf) (ms : List (Memo M)) (vs : List DriveView) (manned : AreManned told kept.site kept.history ms vs) where
  abbrev run : RunState
  run = record { site = kept.site; history = kept.history; shelf = kept.shelf; drives = drive_states told ms vs }

  -- that of a mounted tape
  mounted_has : (v m : ℕ) (x : Mount) → has_number m (open_mounts kept.history) ≡ true → mount_of kept.history m ≡ Some x → x.tape ≡ v → HasMedium run v
  mounted_has v m x still is tape =
      let low : x.drive < length kept.site.drives.items = drive_on_site kept.site kept.history m x legal is in
      let s = got ms x.drive (subst (λ n. x.drive < n) (sym manned.sessions) low) in
      let w = got vs x.drive (subst (λ n. x.drive < n) (sym manned.drives) low) in
      let here = manned.each x.drive s.0 w.0 s.1 w.1 in
      let at : IsMountAt kept.history x.drive m x.direction x.tape = record { still = still; mount = is } in
      let holds = held told kept.site kept.history x.drive s.0.state here.fits (λ free. here.free free m x.direction x.tape at) in
      let y : Mounted M = holds.mounted in
      let same : m ≡ y.mount = one_mount kept.site kept.history legal x.drive m y.mount x.direction y.direction x.tape y.tape at holds.at.mount in
      let tapes : y.tape ≡ v = same_tape kept.history m y.mount x (record { drive = x.drive; direction = y.direction; tape = y.tape }) same is holds.at.mount.mount ∙ tape in
      record {
        medium = told y.medium;
        is = subst (λ t. IsMediumOf kept.history t (told y.medium)) tapes holds.at.medium;
        place = inr (record {
          drive = x.drive;
          mount = m;
          way = x.direction;
          still = subst (IsMountAt kept.history x.drive m x.direction) tape at;
          state = drive_state told s.0 w.0;
          at = states_at told ms vs x.drive s.0 w.0 s.1 w.1;
          has = holds.has;
        });
      }

  pub all_media : AllTapesHaveMedia run
  all_media v low =
      elim (cases_Bool (is_mounted kept.history v)) [
        | inl busy ↦ (let x = among kept.history v (open_mounts kept.history) busy in mounted_has v x.number x.mount x.still x.is x.tape)
        | inr free ↦
            let x = at_place kept.history v (is_mounted kept.history v) (medium_at kept.shelf v) free (shelved.shelf v low) in
            record { medium = x.0; is = x.2; place = inl (record { free = free; place = x.1 }) }
      ]

-- ---- an entry that opens and ends no mount, and puts nothing on tape

mount_stays : (e : Entry) (h : History) (d m : ℕ) (way : Direction) (v : ℕ) → may_change_mounts e.ask ≡ false → IsMountAt h d m way v → IsMountAt (e ∷ h) d m way v
mount_stays e h d m way v quiet at = record { still = ap (has_number m) (mounts_same e h quiet) ∙ at.still; mount = mount_older e h m (open_older h m at.still) ∙ at.mount }

free_stays : (site : Site) (e : Entry) (h : History) (v : ℕ) → IsLegal site h → may_change_mounts e.ask ≡ false → is_mounted h v ≡ false → is_mounted (e ∷ h) v ≡ false
free_stays site e h v legal quiet free =
    elim (cases_Bool (is_mounted (e ∷ h) v)) [
      | inr off ↦ off
      | inl on ↦
          let x = among (e ∷ h) v (open_mounts (e ∷ h)) on in
          let op : is_open h x.number ≡ true = ap (has_number x.number) (sym (mounts_same e h quiet)) ∙ x.still in
          let was : mount_of h x.number ≡ Some x.mount = sym (mount_older e h x.number (open_older h x.number op)) ∙ x.is in
          let tape : tape_of_mount h x.number ≡ v = ap tape_by was ∙ x.tape in
          let busy : is_mounted h v ≡ true = subst (λ (n : ℕ). is_mounted h n ≡ true) tape (tape_is_mounted site h legal x.number op) in
          absurd (let no : true ≡ false = sym busy ∙ free in cc)
    ]

some_stays : {A : Type 0} (P Q : A → Type 0) (o : Option A) → ((x : A) → P x → Q x) → IfSome o P → IfSome o Q
some_stays P Q None each is = is
some_stays P Q (Some x) each is = each x is

place_stays : (s : RunState) (e : Entry) (v : ℕ) (m : MediumView) → IsLegal s.site s.history → may_change_mounts e.ask ≡ false → IsOnShelf s v m ⊎ IsWithDrive s v m
    → IsOnShelf (record s { history = e ∷ s.history }) v m ⊎ IsWithDrive (record s { history = e ∷ s.history }) v m
place_stays s e v m legal quiet (inl on) = inl (record { free = free_stays s.site e s.history v legal quiet on.free; place = on.place })
place_stays s e v m legal quiet (inr w) =
    inr (record { drive = w.drive; mount = w.mount; way = w.way; still = mount_stays e s.history w.drive w.mount w.way v quiet w.still; state = w.state; at = w.at; has = w.has })

pub media_stay : TrueMediumStays → (s : RunState) (e : Entry) → IsLegal s.site (e ∷ s.history) → may_change_mounts e.ask ≡ false → ((v : ℕ) → puts_on s.history e.ask v ≡ false) → AllTapesHaveMedia s
    → AllTapesHaveMedia (record s { history = e ∷ s.history })
media_stay stays s e legal quiet none all v low =
    let x = all v low in
    record {
      medium = x.medium;
      is = record {
        label = x.is.label;
        truth = some_stays (IsTrueMedium s.history v) (IsTrueMedium (e ∷ s.history) v) x.medium.records (λ t is. stays s.site s.history e v t legal (none v) is) x.is.truth;
      };
      place = place_stays s e v x.medium legal.0 quiet x.place;
    }

-- ---- at the start

at_once : (media : List MediumView) (v : ℕ) (m : MediumView) → slice_get media v ≡ Some m → medium_at (map Some media) v ≡ Some m
at_once [] v m is = absurd (none-some m is)
at_once (x ∷ media) zero m is = is
at_once (x ∷ media) (suc v) m is = at_once media v m is

-- what a bench has made is there, and true for the empty history
pub first_have_media : (tells : Bool) (site : Site) (made : Made) → AreNewMedia tells site made.media → AllTapesHaveMedia (begun_with site made)
first_have_media tells site made new v low =
    let x = got made.media v (subst (λ n. v < n) (sym new.count) low) in
    record { medium = x.0; is = new_medium_true tells v x.0 (new.each v x.0 x.1); place = inl (record { free = refl; place = at_once made.media v x.0 x.1 }) }
