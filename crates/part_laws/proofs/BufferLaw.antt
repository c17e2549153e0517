-- The calls for an entry, whatever its ask is: the buffer stands for the longer history, and keeps its own rule.
use Rattle.std.proofs.Common.{◌≡◌, ◌∙◌, ℕ, ◌+◌, ◌-◌, inl, inr, List, [], ◌∷◌, ◌++◌, Bool, true, false, ◌||◌, not, refl, sym, ap, subst, length}
use Rattle.std.specs.Prelude.{Option, Some, if◌then◌else◌, ◌==◌, ◌&&◌, filter, map, nat_lt}
use Rattle.std.specs.List.{list_any, flat_map}
use Rattle.std.proofs.lemmas.Bool.{and_parts, eqb-true, eq-eqb}
use Rattle.cta_site.specs.declared.site.Site.{Site}
use Rattle.cta_model.specs.declared.entries.Entry.{Entry}
use Rattle.cta_model.specs.declared.asks.Ask.{Ask}
use Rattle.cta_model.specs.declared.asks.Ask.TheVariants as ask
use Rattle.cta_model.specs.declared.asks.Direction.{Direction}
use Rattle.cta_model.specs.declared.asks.Direction.TheVariants as direction
use Rattle.cta_model.specs.declared.asks.Fate.{Fate}
use Rattle.cta_model.specs.declared.asks.Fate.TheVariants as fate
use Rattle.cta_model.specs.declared.answers.Answer.{Answer}
use Rattle.cta_model.specs.declared.answers.Answer.TheVariants as answer
use Rattle.cta_model.specs.declared.states.Mount.{Mount}
use Rattle.cta_model.specs.declared.states.StageFile.{StageFile}
use Rattle.cta_model.specs.History.{History, has_number, has_text, is_number, moment_of}
use Rattle.cta_model.specs.Files.{live_file, size_of}
use Rattle.cta_model.specs.Mounts.{is_mount, job_of, mount_of, same_direction}
use Rattle.cta_model.specs.Jobs.{ends_archive}
use Rattle.cta_model.specs.Buffer.{is_resident}
use Rattle.cta_model.specs.Recalls.{live_recall}
use Rattle.cta_model.specs.RepackItems.{items_named, waiting_for}
use Rattle.cta_model.specs.Space.{is_safe}
use Rattle.cta_model.specs.Stages.{request_of}
use Rattle.cta_model.specs.Legal.{IsFit, IsLegal}
use Rattle.cta_laws.specs.Stages.{files_staged}
use Rattle.cta_laws.specs.Claims.{reads, size_of_jobs}
use Rattle.cta_laws.specs.Pins.{frees_path, pins_by, repack_pins_by, stage_pins_by}
use Rattle.cta_laws.proofs.Tests.{or_left, or_right, or_cases}
use Rattle.cta_laws.proofs.Bools.{not_is, or_none}
use Rattle.cta_laws.proofs.Accepted.{answer_is, failed_mount, fate_by, some_file}
use Rattle.cta_laws.specs.Asks.{AnswerIs}
use Rattle.cta_laws.proofs.WaitLists.{number_kept}
use Rattle.cta_laws.proofs.StagePins.{stage_pins_newest, staged_by}
use Rattle.part_model.specs.declared.space.Resident.{Resident}
use Rattle.part_model.specs.declared.space.HeldPin.{HeldPin}
use Rattle.part_model.specs.Held.{ArePinsHeld, Held, HeldAgree, enter, evict, flagged, is_held, numbers, pin_all, pins_in, pins_without, remove, set_all, set_safe, unhold, unpin_all, without}
use Rattle.part_laws.specs.Buffer.{entering, is_file_of, leaving, touches}
use Rattle.part_laws.proofs.After.{aside_after}
use Rattle.part_laws.specs.Held.{IsHeld}
use Rattle.part_laws.proofs.Told.{held_is}
use Rattle.part_laws.proofs.OwnerPins.{repack_new}
use Rattle.part_laws.specs.BufferCalls.{BufferCalled, FlagsCalled, JobsCalled, after_claim, after_read, files_repacked, files_where, has_pair, left_aside, owned_by, pins_told}
use Rattle.part_laws.specs.BufferLaws.{CallsKeepPinsHeld, CallsMoveBuffer}
use Rattle.part_laws.proofs.PinLists.{pin_all_is, pins_append, taken_off, told_less, unpin_all_is}
use Rattle.part_laws.proofs.Stands.{set_all_is}
use Rattle.part_laws.proofs.FileAsks.{claim_moves, delete_moves, put_moves, quiet_by, still_moves}
use Rattle.part_laws.proofs.PinAsks.{release_moves, stage_moves}
use Rattle.part_laws.proofs.ReadAsks.{flags_move, jobs_move, recalled_moves, repack_moves}

-- ---- the buffer stands for the longer history

-- an ask by which no file enters or leaves, no flag is set and no owner is made
still : (site : Site) (h : History) (e : Entry) (v v' : Held) (k : Ask) → IsLegal site (e ∷ h) → e.ask ≡ k → IsHeld site h v → (aside : ℕ) → staged_by site h k ≡ [] → items_named k e.answer ≡ [] → ((id : ℕ) (path : List ℕ) → frees_path k id path ≡ false) → ((f c b : ℕ) → is_resident (e ∷ h) f ≡ true → ends_archive site h k e.answer (job_of b f c) ≡ false) → entering h k e.answer ≡ [] → leaving h k e.answer ≡ [] → ((f : ℕ) → touches site h k e.answer f ≡ false) → aside ≡ aside_after h k e.answer v.aside → HeldAgree v' (record v { aside = aside }) → IsHeld site (e ∷ h) v'
still site h e v v' k legal ek is aside stages names frees ends enters leaves touched bytes c =
    still_moves site h e v v' aside legal is (quiet_by site h e k ek stages names frees ends) (ap (λ (x : Ask). entering h x e.answer) ek ∙ enters) (ap (λ (x : Ask). leaving h x e.answer) ek ∙ leaves)
    (λ f. ap (λ (x : Ask). touches site h x e.answer f) ek ∙ touched f) (bytes ∙ sym (ap (λ (x : Ask). aside_after h x e.answer v.aside) ek)) c

-- an ask by which flags alone are set
flagged_by : (site : Site) (h : History) (e : Entry) (v v' : Held) (k : Ask) → IsLegal site (e ∷ h) → e.ask ≡ k → IsHeld site h v → staged_by site h k ≡ [] → items_named k e.answer ≡ [] → ((id : ℕ) (path : List ℕ) → frees_path k id path ≡ false) → ((f c b : ℕ) → is_resident (e ∷ h) f ≡ true → ends_archive site h k e.answer (job_of b f c) ≡ false) → entering h k e.answer ≡ [] → leaving h k e.answer ≡ [] → v.aside ≡ aside_after h k e.answer v.aside → FlagsCalled site h e v v' → IsHeld site (e ∷ h) v'
flagged_by site h e v v' k legal ek is stages names frees ends enters leaves bytes c =
    flags_move site h e v v' c.0 legal is (quiet_by site h e k ek stages names frees ends) (ap (λ (x : Ask). entering h x e.answer) ek ∙ enters) (ap (λ (x : Ask). leaving h x e.answer) ek ∙ leaves)
    (bytes ∙ sym (ap (λ (x : Ask). aside_after h x e.answer v.aside) ek)) c.1 c.2

-- an ask that ends archive jobs
ended_by : (site : Site) (h : History) (e : Entry) (v v' : Held) (k : Ask) (aside : ℕ) → IsLegal site (e ∷ h) → e.ask ≡ k → IsHeld site h v → staged_by site h k ≡ [] → items_named k e.answer ≡ [] → ((id : ℕ) (path : List ℕ) → frees_path k id path ≡ false) → entering h k e.answer ≡ [] → leaving h k e.answer ≡ [] → aside ≡ aside_after h k e.answer v.aside → JobsCalled site h e aside v v' → IsHeld site (e ∷ h) v'
ended_by site h e v v' k aside legal ek is stages names frees enters leaves bytes c =
    jobs_move site h e v v' c.0 c.1 aside legal is (ap (staged_by site h) ek ∙ stages) (ap (λ (x : Ask). items_named x e.answer) ek ∙ names) (λ id p. ap (λ (x : Ask). frees_path x id p) ek ∙ frees id p)
    (ap (λ (x : Ask). entering h x e.answer) ek ∙ enters) (ap (λ (x : Ask). leaving h x e.answer) ek ∙ leaves)
    (bytes ∙ sym (ap (λ (x : Ask). aside_after h x e.answer v.aside) ek)) c.2 c.3 c.4

failed_aside : (o : Option Mount) (x : Mount) (before n : ℕ) → o ≡ Some x → left_aside x.direction before n ≡ (if is_mount reads o then before - n else before)
failed_aside o x before n is = by x.direction ∙ sym (ap (λ (p : Option Mount). if is_mount reads p then before - n else before) is)
  where
    by : (d : Direction) → left_aside d before n ≡ (if same_direction d direction.Retrieve then before - n else before)
    by direction.Archive = refl
    by direction.Retrieve = refl

released : (site : Site) (h : History) (e : Entry) (v v' : Held) (k : Ask) (id : ℕ) (test : List ℕ → Bool) → IsLegal site (e ∷ h) → e.ask ≡ k → IsHeld site h v → staged_by site h k ≡ [] → items_named k e.answer ≡ [] → entering h k e.answer ≡ [] → leaving h k e.answer ≡ [] → ((f : ℕ) → touches site h k e.answer f ≡ false) → v.aside ≡ aside_after h k e.answer v.aside → ((f c b : ℕ) → ends_archive site h k e.answer (job_of b f c) ≡ false) → ((n : ℕ) (path : List ℕ) → frees_path k n path ≡ ((id == n) && test path)) → HeldAgree v' (unpin_all (owned_by id (files_where test (request_of site h id))) v) → IsHeld site (e ∷ h) v'
released site h e v v' k id test legal ek is stages names enters leaves touched bytes ends frees c =
    release_moves site h e id test v v' legal (ap (staged_by site h) ek ∙ stages) (ap (λ (x : Ask). items_named x e.answer) ek ∙ names) (ap (λ (x : Ask). entering h x e.answer) ek ∙ enters) (ap (λ (x : Ask). leaving h x e.answer) ek ∙ leaves)
    (λ f. ap (λ (x : Ask). touches site h x e.answer f) ek ∙ touched f) (bytes ∙ sym (ap (λ (x : Ask). aside_after h x e.answer v.aside) ek)) (λ f c b. ap (λ (x : Ask). ends_archive site h x e.answer (job_of b f c)) ek ∙ ends f c b) (λ n p. ap (λ (x : Ask). frees_path x n p) ek ∙ frees n p) is c

pub buffer_step : (site : Site) (h : History) (e : Entry) (v v' : Held) (k : Ask) → IsLegal site (e ∷ h) → e.ask ≡ k → AnswerIs site h (moment_of h e.at) k e.answer → IsFit site h k → IsHeld site h v → ArePinsHeld v → BufferCalled site h e k e.answer v v' → IsHeld site (e ∷ h) v'
buffer_step site h e v v' (ask.Put who path sum) legal ek a fit is pinned c = put_moves site h e who path sum v v' legal ek is pinned c
buffer_step site h e v v' (ask.Delete who path) legal ek a fit is pinned c =
    let f : (f : ℕ) × (live_file h path ≡ Some f) = some_file (live_file h path) a.1 in
    delete_moves site h e who path f.0 v v' legal ek f.1 is (c f.0 f.1)
buffer_step site h e v v' (ask.Stage who files) legal ek a fit is pinned c = stage_moves site h e who files v v' legal ek is c
buffer_step site h e v v' (ask.Cancel who id paths) legal ek a fit is pinned c = still site h e v v' (ask.Cancel who id paths) legal ek is v.aside refl refl (λ i p. refl) (λ f c b here. refl) refl refl (λ f. refl) refl c
buffer_step site h e v v' (ask.DropStage who id) legal ek a fit is pinned c = released site h e v v' (ask.DropStage who id) id (λ p. true) legal ek is refl refl refl refl (λ f. refl) refl (λ f c b. refl) (λ n p. by (id == n)) c
  where
    by : (b : Bool) → (false || b) ≡ (b && true)
    by true = refl
    by false = refl
buffer_step site h e v v' (ask.Release who id paths) legal ek a fit is pinned c = released site h e v v' (ask.Release who id paths) id (λ p. has_text p paths.items) legal ek is refl refl refl refl (λ f. refl) refl (λ f c b. refl) (λ n p. or_none ((id == n) && has_text p paths.items)) c
buffer_step site h e v v' (ask.Next d) legal ek a fit is pinned c = still site h e v v' (ask.Next d) legal ek is v.aside refl refl (λ i p. refl) (λ f c b here. refl) refl refl (λ f. refl) refl c
buffer_step site h e v v' (ask.Claim m) legal ek a fit is pinned c = claim_moves site h e m a.0 a.0.direction v v' legal ek a.1 refl is (c a.0 a.1)
buffer_step site h e v v' (ask.Flushed m items) legal ek a fit is pinned c = ended_by site h e v v' (ask.Flushed m items) v.aside legal ek is refl refl (λ i p. refl) refl refl refl c
buffer_step site h e v v' (ask.Recalled m job) legal ek a fit is pinned c =
    elim (fate_by site h job) [
      | inl done ↦
          (let ea : e.answer ≡ answer.Arrived fate.Done = a ∙ ap (λ (x : Fate). answer.Arrived x) done in
          recalled_moves site h e m job v v' legal ek ea is pinned (subst (λ (x : Answer). BufferCalled site h e (ask.Recalled m job) x v v') ea c))
      | inr late ↦
          (let ea : e.answer ≡ answer.Arrived fate.Stale = a ∙ ap (λ (x : Fate). answer.Arrived x) late in
          stale ea (subst (λ (x : Answer). BufferCalled site h e (ask.Recalled m job) x v v') ea c))
    ]
  where
    stale : e.answer ≡ answer.Arrived fate.Stale → HeldAgree v' (unhold v (size_of h job.file)) → IsHeld site (e ∷ h) v'
    stale ea same =
        still site h e v v' (ask.Recalled m job) legal ek is (v.aside - size_of h job.file) refl refl (λ i p. refl) (λ f c b here. refl) (ap (entering h (ask.Recalled m job)) ea) (ap (leaving h (ask.Recalled m job)) ea) (λ f. refl) refl same
buffer_step site h e v v' (ask.Failed m x charged returned) legal ek a fit is pinned c =
    let y : (y : Mount) × (mount_of h m ≡ Some y) = failed_mount x (mount_of h m) fit.0 in
    ended_by site h e v v' (ask.Failed m x charged returned) (left_aside y.0.direction v.aside (size_of_jobs h (charged.items ++ returned.items))) legal ek is refl refl (λ i p. refl) refl refl
    (failed_aside (mount_of h m) y.0 v.aside (size_of_jobs h (charged.items ++ returned.items)) y.1) (c y.0 y.1)
buffer_step site h e v v' (ask.End m x) legal ek a fit is pinned c = still site h e v v' (ask.End m x) legal ek is v.aside refl refl (λ i p. refl) (λ f c b here. refl) refl refl (λ f. refl) refl c
buffer_step site h e v v' (ask.DriveUp who d) legal ek a fit is pinned c = still site h e v v' (ask.DriveUp who d) legal ek is v.aside refl refl (λ i p. refl) (λ f c b here. refl) refl refl (λ f. refl) refl c
buffer_step site h e v v' (ask.DriveDown who d) legal ek a fit is pinned c = still site h e v v' (ask.DriveDown who d) legal ek is v.aside refl refl (λ i p. refl) (λ f c b here. refl) refl refl (λ f. refl) refl c
buffer_step site h e v v' (ask.TapeState who tape s) legal ek a fit is pinned c = flagged_by site h e v v' (ask.TapeState who tape s) legal ek is refl refl (λ i p. refl) (λ f c b here. refl) refl refl refl c
buffer_step site h e v v' (ask.Reclaim who tape) legal ek a fit is pinned c = still site h e v v' (ask.Reclaim who tape) legal ek is v.aside refl refl (λ i p. refl) (λ f c b here. refl) refl refl (λ f. refl) refl c
buffer_step site h e v v' (ask.Repack who tape) legal ek a fit is pinned c =
    repack_moves site h e who tape v v' c.0 legal ek is c.1 (subst (λ (k : Ask). HeldAgree v' (pin_all (flat_map (pins_told site (e ∷ h) (length h + 1)) (files_repacked h (items_named k e.answer))) (set_all (is_safe site (e ∷ h)) c.0 v))) (sym ek) c.2)
buffer_step site h e v v' (ask.Retry who paths) legal ek a fit is pinned c = flagged_by site h e v v' (ask.Retry who paths) legal ek is refl refl (λ i p. refl) (λ f c b here. refl) refl refl refl c

pub calls_move_buffer : CallsMoveBuffer
calls_move_buffer site h e v v' legal is pinned c = buffer_step site h e v v' e.ask legal refl (answer_is site h e.at e.ask e.answer legal.1.answered legal.1.accepted) legal.1.fit is pinned c

-- ---- the buffer keeps its own rule

kept_as : (v w : Held) → HeldAgree v w → ArePinsHeld w → ArePinsHeld v
kept_as v w same kept t f id e = ap (λ (rs : List Resident). has_number f (numbers rs)) same.files ∙ kept t f id (sym (same.pins t f id) ∙ e)

-- fewer pins of the same files
kept_less : (v w : Held) → w.files ≡ v.files → ((t f id : ℕ) → pins_in w.pins t f id ≡ true → pins_in v.pins t f id ≡ true) → ArePinsHeld v → ArePinsHeld w
kept_less v w files less kept t f id e = ap (λ (rs : List Resident). has_number f (numbers rs)) files ∙ kept t f id (less t f id e)

numbers_without : (gone : List ℕ) (f : ℕ) (rs : List Resident) → has_number f gone ≡ false → has_number f (numbers rs) ≡ true → has_number f (numbers (without gone rs)) ≡ true
numbers_without gone f [] d e = absurd (cc)
numbers_without gone f (r ∷ rs) d e =
    elim (or_cases (f == r.file) _ e) [
      | inl hit ↦
          (let stays : has_number r.file gone ≡ false = subst (λ (n : ℕ). has_number n gone ≡ false) (eqb-true f r.file hit) d in
          rw stays (or_left (f == r.file) _ hit))
      | inr rest ↦ here (has_number r.file gone) (numbers_without gone f rs d rest)
    ]
  where
    here : (b : Bool) → has_number f (numbers (without gone rs)) ≡ true → has_number f (numbers (if not b then r ∷ without gone rs else without gone rs)) ≡ true
    here true x = x
    here false x = or_right (f == r.file) _ x

kept_without : (v : Held) (gone : List ℕ) → ArePinsHeld v → ArePinsHeld (record v { files = without gone v.files; pins = pins_without gone v.pins })
kept_without v gone kept t f id e =
    let p = and_parts (not (has_number f gone)) _ (sym (taken_off (λ g owner. has_number g gone) v.pins t f id) ∙ e) in
    numbers_without gone f v.files (not_is _ p.0) (kept t f id p.1)

numbers_more : (f : ℕ) (rs qs : List Resident) → has_number f (numbers rs) ≡ true → has_number f (numbers (rs ++ qs)) ≡ true
numbers_more f [] qs e = absurd (cc)
numbers_more f (r ∷ rs) qs e = elim (or_cases (f == r.file) _ e) [ inl hit ↦ or_left (f == r.file) _ hit | inr rest ↦ or_right (f == r.file) _ (numbers_more f rs qs rest) ]

kept_enter : (v : Held) (f len : ℕ) → ArePinsHeld v → ArePinsHeld (enter v f len)
kept_enter v g len kept t f id e = numbers_more f v.files (record { file = g; len = len; safe = false } ∷ []) (kept t f id e)

one : (b : Bool) (r : Resident) (s : Bool) → Resident.file (if b then record r { safe = s } else r) ≡ r.file
one true r s = refl
one false r s = refl

numbers_set : (g : ℕ) (s : Bool) (rs : List Resident) → numbers (map (λ (r : Resident). if r.file == g then record r { safe = s } else r) rs) ≡ numbers rs
numbers_set g s [] = refl
numbers_set g s (r ∷ rs) = rw (one (r.file == g) r s, numbers_set g s rs) refl

kept_set : (v : Held) (f : ℕ) (s : Bool) → ArePinsHeld v → ArePinsHeld (set_safe v f s)
kept_set v g s kept t f id e = ap (has_number f) (numbers_set g s v.files) ∙ kept t f id e

kept_set_all : (safe : ℕ → Bool) (fs : List ℕ) (v : Held) → ArePinsHeld v → ArePinsHeld (set_all safe fs v)
kept_set_all safe [] v kept = kept
kept_set_all safe (f ∷ fs) v kept = kept_set_all safe fs (set_safe v f (safe f)) (kept_set v f (safe f) kept)

kept_unpin : (xs : List (ℕ × ℕ)) (v : Held) → ArePinsHeld v → ArePinsHeld (unpin_all xs v)
kept_unpin xs v kept = (let u = unpin_all_is xs v in kept_less v (unpin_all xs v) u.1 (λ t f id e. (and_parts (not (has_pair f id xs)) _ (sym (u.0 t f id) ∙ e)).1) kept)

-- pins of files that are held
kept_pin : (ns : List HeldPin) (v : Held) → ((t f id : ℕ) → pins_in ns t f id ≡ true → is_held v f ≡ true) → ArePinsHeld v → ArePinsHeld (pin_all ns v)
kept_pin ns v held kept t f id e =
    let p = pin_all_is ns v in
    ap (λ (rs : List Resident). has_number f (numbers rs)) p.1
    ∙ elim (or_cases (pins_in ns t f id) _ (sym (ap (λ (ps : List HeldPin). pins_in ps t f id) p.0 ∙ pins_append ns v.pins t f id) ∙ e)) [ inl new ↦ held t f id new | inr old ↦ kept t f id old ]

told_one : (site : Site) (g : History) (t f id k : ℕ) (fs : List ℕ) → pins_in (flat_map (pins_told site g id) fs) t f k ≡ true → (has_number f fs ≡ true) × (pins_by site g t f id ≡ true)
told_one site g t f id k [] e = absurd (cc)
told_one site g t f id k (x ∷ xs) e =
    elim (or_cases (pins_in (pins_told site g id x) t f k) _ (sym (pins_append (pins_told site g id x) (flat_map (pins_told site g id) xs) t f k) ∙ e)) [
      | inl here ↦ (let l = told_less site g t x f id k here in (or_left (f == x) _ (eq-eqb f x (sym l.1)), subst (λ (n : ℕ). pins_by site g t n id ≡ true) l.1 l.2))
      | inr rest ↦ (let r = told_one site g t f id k xs rest in (or_right (f == x) _ r.0, r.1))
    ]

told_mine : (site : Site) (g : History) (t f h k : ℕ) (ids : List ℕ) → pins_in (flat_map (λ id. pins_told site g id f) ids) t h k ≡ true → f ≡ h
told_mine site g t f h k [] e = absurd (cc)
told_mine site g t f h k (x ∷ xs) e =
    elim (or_cases (pins_in (pins_told site g x f) t h k) _ (sym (pins_append (pins_told site g x f) (flat_map (λ id. pins_told site g id f) xs) t h k) ∙ e))
    [ inl here ↦ (told_less site g t f h x k here).1 | inr rest ↦ told_mine site g t f h k xs rest ]

-- what a Stage pins is resident
staged_here : (site : Site) (h : History) (e : Entry) (t f : ℕ) → items_named e.ask e.answer ≡ [] → pins_by site (e ∷ h) t f (length h + 1) ≡ true → is_resident h f ≡ true
staged_here site h e t f names on =
    elim (or_cases (stage_pins_by site (e ∷ h) t f (length h + 1)) _ on) [
      | inl s ↦ by (staged_by site h e.ask) (sym (stage_pins_newest site h e t f) ∙ s)
      | inr r ↦ (let none : repack_pins_by site (e ∷ h) f (length h + 1) ≡ false = repack_new site h e f ∙ ap (is_file_of f) names in absurd (cc))
    ]
  where
    by : (ss : List StageFile) → list_any (λ (s : StageFile). is_number f s.file && (is_resident h f && nat_lt t (e.at + s.lifetime))) ss ≡ true → is_resident h f ≡ true
    by [] x = absurd (cc)
    by (s ∷ ss) x = elim (or_cases (is_number f s.file && (is_resident h f && nat_lt t (e.at + s.lifetime))) _ x) [ inl hit ↦ (and_parts (is_resident h f) _ (and_parts (is_number f s.file) _ hit).1).0 | inr rest ↦ by ss rest ]

passed : (keep : ℕ → Bool) (f : ℕ) (ns : List ℕ) → has_number f (filter keep ns) ≡ true → keep f ≡ true
passed keep f ns e = (and_parts (keep f) _ (sym (number_kept keep f ns) ∙ e)).0

last_number : (f len : ℕ) (rs : List Resident) → has_number f (numbers (rs ++ record { file = f; len = len; safe = false } ∷ [])) ≡ true
last_number f len [] = or_left (f == f) false (eq-eqb f f refl)
last_number f len (r ∷ rs) = or_right (f == r.file) _ (last_number f len rs)

claim_keeps : (e : Entry) (d : Direction) (v : Held) → ArePinsHeld v → ArePinsHeld (after_claim e d v)
claim_keeps e direction.Archive v kept = kept
claim_keeps e direction.Retrieve v kept = kept_without v _ kept

read_keeps : (site : Site) (h : History) (e : Entry) (f : ℕ) (v : Held) → ArePinsHeld v → ArePinsHeld (after_read site h e f v)
read_keeps site h e f v kept =
    kept_pin (flat_map (λ id. pins_told site (e ∷ h) id f) (waiting_for (live_recall site h f))) (set_safe (enter (unhold v (size_of h f)) f (size_of h f)) f (is_safe site (e ∷ h) f))
    (λ t g id x.
    subst (λ (n : ℕ). is_held (set_safe (enter (unhold v (size_of h f)) f (size_of h f)) f (is_safe site (e ∷ h) f)) n ≡ true) (told_mine site (e ∷ h) t f g id (waiting_for (live_recall site h f)) x)
    (ap (has_number f) (numbers_set f (is_safe site (e ∷ h) f) (v.files ++ record { file = f; len = size_of h f; safe = false } ∷ [])) ∙ last_number f (size_of h f) v.files))
    (kept_set (enter (unhold v (size_of h f)) f (size_of h f)) f (is_safe site (e ∷ h) f) (kept_enter (unhold v (size_of h f)) f (size_of h f) kept))

pub keeps_step : (site : Site) (h : History) (e : Entry) (v v' : Held) (k : Ask) → IsLegal site (e ∷ h) → e.ask ≡ k → AnswerIs site h (moment_of h e.at) k e.answer → IsFit site h k → IsHeld site h v → ArePinsHeld v → BufferCalled site h e k e.answer v v' → ArePinsHeld v'
keeps_step site h e v v' (ask.Put who path sum) legal ek a fit is kept c = kept_as v' (enter (evict v e.at sum.len) (length h + 1) sum.len) c (kept_enter (evict v e.at sum.len) (length h + 1) sum.len (kept_without v _ kept))
keeps_step site h e v v' (ask.Delete who path) legal ek a fit is kept c =
    let f : (f : ℕ) × (live_file h path ≡ Some f) = some_file (live_file h path) a.1 in
    kept_as v' (remove v f.0) (c f.0 f.1) (kept_without v (f.0 ∷ []) kept)
keeps_step site h e v v' (ask.Stage who files) legal ek a fit is kept c =
    kept_as v' _ c
    (kept_pin (flat_map (pins_told site (e ∷ h) (length h + 1)) (files_staged site h files.items)) v
    (λ t f id x. held_is site h v f is ∙ staged_here site h e t f (ap (λ (k : Ask). items_named k e.answer) ek) (told_one site (e ∷ h) t f (length h + 1) id (files_staged site h files.items) x).1) kept)
keeps_step site h e v v' (ask.Cancel who id paths) legal ek a fit is kept c = kept_as v' v c kept
keeps_step site h e v v' (ask.DropStage who id) legal ek a fit is kept c = kept_as v' _ c (kept_unpin (owned_by id (files_where (λ p. true) (request_of site h id))) v kept)
keeps_step site h e v v' (ask.Release who id paths) legal ek a fit is kept c = kept_as v' _ c (kept_unpin (owned_by id (files_where (λ p. has_text p paths.items) (request_of site h id))) v kept)
keeps_step site h e v v' (ask.Next d) legal ek a fit is kept c = kept_as v' v c kept
keeps_step site h e v v' (ask.Claim m) legal ek a fit is kept c = kept_as v' _ (c a.0 a.1) (claim_keeps e a.0.direction v kept)
keeps_step site h e v v' (ask.Flushed m items) legal ek a fit is kept c = kept_as v' _ c.4 (kept_unpin c.1 _ (kept_set_all (is_safe site (e ∷ h)) c.0 v kept))
keeps_step site h e v v' (ask.Recalled m job) legal ek a fit is kept c =
    elim (fate_by site h job) [
      | inl done ↦ kept_as v' _ (subst (λ (x : Answer). BufferCalled site h e (ask.Recalled m job) x v v') (a ∙ ap (λ (x : Fate). answer.Arrived x) done) c) (read_keeps site h e job.file v kept)
      | inr late ↦ kept_as v' (unhold v (size_of h job.file)) (subst (λ (x : Answer). BufferCalled site h e (ask.Recalled m job) x v v') (a ∙ ap (λ (x : Fate). answer.Arrived x) late) c) kept
    ]
keeps_step site h e v v' (ask.Failed m x charged returned) legal ek a fit is kept c =
    let y : (y : Mount) × (mount_of h m ≡ Some y) = failed_mount x (mount_of h m) fit.0 in
    let d = c y.0 y.1 in
    kept_as v' _ d.4 (kept_unpin d.1 _ (kept_set_all (is_safe site (e ∷ h)) d.0 v kept))
keeps_step site h e v v' (ask.End m x) legal ek a fit is kept c = kept_as v' v c kept
keeps_step site h e v v' (ask.DriveUp who d) legal ek a fit is kept c = kept_as v' v c kept
keeps_step site h e v v' (ask.DriveDown who d) legal ek a fit is kept c = kept_as v' v c kept
keeps_step site h e v v' (ask.TapeState who tape s) legal ek a fit is kept c = kept_as v' _ c.2 (kept_set_all (is_safe site (e ∷ h)) c.0 v kept)
keeps_step site h e v v' (ask.Reclaim who tape) legal ek a fit is kept c = kept_as v' v c kept
keeps_step site h e v v' (ask.Repack who tape) legal ek a fit is kept c =
    kept_as v' _ c.2
    (kept_pin _ (set_all (is_safe site (e ∷ h)) c.0 v)
    (λ t f id x.
    (let here : is_resident h f ≡ true = passed (is_resident h) f _ (told_one site (e ∷ h) t f (length h + 1) id (files_repacked h (items_named (ask.Repack who tape) e.answer)) x).0 in
    held_still c.0 f (held_is site h v f is ∙ here)))
    (kept_set_all (is_safe site (e ∷ h)) c.0 v kept))
  where
    numbers_flagged : (t safe : ℕ → Bool) (rs : List Resident) → numbers (flagged t safe rs) ≡ numbers rs
    numbers_flagged t safe [] = refl
    numbers_flagged t safe (r ∷ rs) = rw (one (t r.file) r (safe r.file), numbers_flagged t safe rs) refl

    held_still : (fs : List ℕ) (f : ℕ) → is_held v f ≡ true → is_held (set_all (is_safe site (e ∷ h)) fs v) f ≡ true
    held_still fs f on = ap (λ (rs : List Resident). has_number f (numbers rs)) (set_all_is (is_safe site (e ∷ h)) fs v) ∙ ap (has_number f) (numbers_flagged (λ g. has_number g fs) (is_safe site (e ∷ h)) v.files) ∙ on
keeps_step site h e v v' (ask.Retry who paths) legal ek a fit is kept c = kept_as v' _ c.2 (kept_set_all (is_safe site (e ∷ h)) c.0 v kept)

pub calls_keep_pins_held : CallsKeepPinsHeld
calls_keep_pins_held site h e v v' legal is pinned c = keeps_step site h e v v' e.ask legal refl (answer_is site h e.at e.ask e.answer legal.1.answered legal.1.accepted) legal.1.fit is pinned c
