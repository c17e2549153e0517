-- A buffer whose files, bytes and pins are those of the longer history stands for it; and what an ask leaves of them.
use Rattle.std.proofs.Common.{◌≡◌, ℕ, ◌+◌, ◌≤◌, inl, inr, List, [], ◌∷◌, ◌++◌, Bool, true, false, ◌||◌, not, refl, sym, ◌∙◌, ap, subst, arith, length, append-nil}
use Rattle.std.specs.Prelude.{Option, Some, None, is_some, if◌then◌else◌, ◌==◌, ◌&&◌, map, nat_lt}
use Rattle.std.specs.List.{list_any}
use Rattle.std.proofs.lemmas.Bool.{eqb-true, eq-eqb, cases_lt}
use Rattle.cta_site.specs.declared.site.Site.{Site}
use Rattle.cta_model.specs.declared.entries.Entry.{Entry}
use Rattle.cta_model.specs.declared.asks.Ask.{Ask}
use Rattle.cta_model.specs.declared.asks.Ask.TheVariants as ask
use Rattle.cta_model.specs.declared.asks.Fate.TheVariants as fate
use Rattle.cta_model.specs.declared.answers.Answer.{Answer}
use Rattle.cta_model.specs.declared.answers.Answer.TheVariants as answer
use Rattle.cta_model.specs.declared.states.StageFile.{StageFile}
use Rattle.cta_model.specs.History.{History, has_number, is_number, last_moment}
use Rattle.cta_model.specs.Files.{is_live, path_of}
use Rattle.cta_model.specs.Mounts.{job_of}
use Rattle.cta_model.specs.Jobs.{ends_archive}
use Rattle.cta_model.specs.Buffer.{arrival_after, arrival_of, brings_in, evicts, is_resident, last_arrival}
use Rattle.cta_model.specs.RepackItems.{items_named}
use Rattle.cta_model.specs.Space.{is_safe}
use Rattle.cta_model.specs.Legal.{IsLegal, greatest_moment}
use Rattle.cta_laws.specs.Pins.{frees_path, pins_by, repack_pins_by}
use Rattle.cta_laws.proofs.Tests.{bool_cases}
use Rattle.cta_laws.proofs.Bools.{and_true, turned}
use Rattle.cta_laws.proofs.JobLaw.{not_true}
use Rattle.cta_laws.proofs.JobFiles.{resident_parts, resident_was}
use Rattle.cta_laws.proofs.LostLaw.{live_cases}
use Rattle.cta_laws.proofs.StagePins.{stage_pins_newest, staged_by}
use Rattle.part_model.specs.declared.space.Resident.{Resident}
use Rattle.part_model.specs.declared.space.HeldPin.{HeldPin}
use Rattle.part_model.specs.Held.{ArePinsHeld, Held, HeldAgree, flagged, pins_in, set_all, set_safe, without}
use Rattle.part_laws.specs.Buffer.{entering, is_file_of, leaving, resident_at, residents, touches}
use Rattle.part_laws.proofs.After.{aside_after}
use Rattle.part_laws.specs.Held.{IsHeld, is_unpinned}
use Rattle.part_laws.proofs.Residents.{arrival_low, leaves, residents_are}
use Rattle.part_laws.proofs.Rows.{aside_is}
use Rattle.part_laws.proofs.Asks.{none_leaves}
use Rattle.part_laws.proofs.Told.{held_is}
use Rattle.part_laws.proofs.OwnerPins.{none_yet, pins_older, repack_new, repack_stays}

-- ---- files that stay

pub brings_is : (h : History) (k : Ask) (a : Answer) (f : ℕ) → brings_in k a (length h + 1) f ≡ has_number f (entering h k a)
brings_is h (ask.Put who path sum) a f = same (length h + 1)
  where
    same : (n : ℕ) → (n == f) ≡ ((f == n) || false)
    same n = elim (bool_cases (f == n)) [ inl hit ↦ rw hit (eq-eqb n f (sym (eqb-true f n hit))) | inr miss ↦ rw miss (turned f n miss) ]
brings_is h (ask.Recalled m job) (answer.Arrived fate.Done) f = same job.file
  where
    same : (n : ℕ) → (n == f) ≡ ((f == n) || false)
    same n = elim (bool_cases (f == n)) [ inl hit ↦ rw hit (eq-eqb n f (sym (eqb-true f n hit))) | inr miss ↦ rw miss (turned f n miss) ]
brings_is h _ a f = refl

the_number : (o : Option ℕ) → is_some o ≡ true → (k : ℕ) × (o ≡ Some k)
the_number None e = absurd (cc)
the_number (Some k) e = (k, refl)

came_before : (live out : Bool) (n k : ℕ) (o : Option ℕ) → (if live then arrival_after false out n o else None) ≡ Some k → o ≡ Some k
came_before true true n k o e = absurd (cc)
came_before true false n k o e = e
came_before false out n k o e = absurd (cc)

not_gone : (b : Bool) (c : Bool) → true ≡ (not b && c) → b ≡ false
not_gone true c e = absurd (cc)
not_gone false c e = refl

stays_here : (site : Site) (h : History) (e : Entry) (f : ℕ) → IsLegal site (e ∷ h) → f ≤ length h → is_resident (e ∷ h) f ≡ true → brings_in e.ask e.answer (length h + 1) f ≡ false → has_number f (leaving h e.ask e.answer) ≡ false
stays_here site h e f legal low here brings =
    let k = the_number (arrival_of (e ∷ h) f) here in
    let last : last_arrival h f ≡ Some k.0 = came_before (is_live (e ∷ h) f) (evicts e.ask e.answer f) (length h + 1) k.0 (last_arrival h f) (ap (λ (b : Bool). if is_live (e ∷ h) f then arrival_after b (evicts e.ask e.answer f) (length h + 1) (last_arrival h f) else None) (sym brings) ∙ k.1) in
    let old : k.0 ≤ length h = old_number k.0 last in
    let hit : is_number k.0 (arrival_of (e ∷ h) f) ≡ true = ap (is_number k.0) k.1 ∙ eq-eqb k.0 k.0 refl in
    not_gone (has_number f (leaving h e.ask e.answer)) (is_number k.0 (arrival_of h f)) (sym hit ∙ leaves site h e legal f k.0 low old)
  where
    old_number : (k : ℕ) → last_arrival h f ≡ Some k → k ≤ length h
    old_number k last = elim (cases_lt (length h) k) [
      | inl high ↦ (let bad : is_number k (last_arrival h f) ≡ false = arrival_low h f k high in let worse : is_number k (last_arrival h f) ≡ true = ap (is_number k) last ∙ eq-eqb k k refl in absurd (cc))
      | inr low ↦ low
    ]

-- a file that is resident behind an entry which does not bring it in was resident before, and does not leave
pub record Stayed (site : Site) (h : History) (e : Entry) (f : ℕ) : Type 0 where
  pub here : is_resident (e ∷ h) f ≡ true
  pub was : is_resident h f ≡ true
  pub low : f ≤ length h
  pub brings : brings_in e.ask e.answer (length h + 1) f ≡ false
  pub stays : has_number f (leaving h e.ask e.answer) ≡ false

pub stayed : (site : Site) (h : History) (e : Entry) (f : ℕ) → IsLegal site (e ∷ h) → is_resident (e ∷ h) f ≡ true → has_number f (entering h e.ask e.answer) ≡ false → Stayed site h e f
stayed site h e f legal here out =
    let brings : brings_in e.ask e.answer (length h + 1) f ≡ false = brings_is h e.ask e.answer f ∙ out in
    elim (live_cases e h f (resident_parts (e ∷ h) f here).0) [
      | inr bad ↦ absurd (cc)
      | inl low ↦ record { here = here; was = resident_was e h f low.0 brings here; low = low.0; brings = brings; stays = stays_here site h e f legal low.0 here brings }
    ]

-- ---- the whole buffer

-- these pins stand for the longer history
abbrev pub PinsStand : Site → History → Entry → List HeldPin → Type 0
PinsStand site h e ps = (t f id : ℕ) → is_resident (e ∷ h) f ≡ true → e.at ≤ t → t ≤ greatest_moment → pins_in ps t f id ≡ pins_by site (e ∷ h) t f id

pub held_by : (site : Site) (h : History) (e : Entry) (v w v' : Held) → IsLegal site (e ∷ h) → IsHeld site h v → w.size ≡ v.size → w.files ≡ residents site (e ∷ h) → w.aside ≡ aside_after h e.ask e.answer v.aside → PinsStand site h e w.pins → HeldAgree v' w → IsHeld site (e ∷ h) v'
held_by site h e v w v' legal is size files aside pins same = record {
  size = same.size ∙ size ∙ is.size;
  files = same.files ∙ files;
  aside = same.aside ∙ aside ∙ ap (aside_after h e.ask e.answer) is.aside ∙ sym (aside_is site h e legal);
  pins = λ t f id here now top. same.pins t f id ∙ pins t f id here now top;
}

-- ---- pins, of older owners and of the new one

pub earlier : (site : Site) (h : History) (e : Entry) (t : ℕ) → IsLegal site (e ∷ h) → e.at ≤ t → last_moment h ≤ t
earlier site h e t legal now = (let low : last_moment h ≤ e.at = legal.1.later in omega arith)

-- whether an older owner pins a file that stays
abbrev pub pinned_on : Site → History → Entry → List HeldPin → ℕ → ℕ → ℕ → Bool
pinned_on site h e ps t f id = pins_in ps t f id && (not (frees_path e.ask id (path_of h f)) && not (is_unpinned site h e f id))

pub stand_by : (site : Site) (h : History) (e : Entry) (v : Held) (ps : List HeldPin) → IsLegal site (e ∷ h) → IsHeld site h v
    → ((t f id : ℕ) → Stayed site h e f → (length h + 1 == id) ≡ false → e.at ≤ t → t ≤ greatest_moment → pins_in ps t f id ≡ pinned_on site h e v.pins t f id)
    → ((t f : ℕ) → Stayed site h e f → e.at ≤ t → t ≤ greatest_moment → pins_in ps t f (length h + 1) ≡ pins_by site (e ∷ h) t f (length h + 1))
    → ((t f id : ℕ) → is_resident (e ∷ h) f ≡ true → has_number f (entering h e.ask e.answer) ≡ true → e.at ≤ t → t ≤ greatest_moment → pins_in ps t f id ≡ pins_by site (e ∷ h) t f id)
    → PinsStand site h e ps
stand_by site h e v ps legal is old own enters t f id here now top =
    elim (bool_cases (has_number f (entering h e.ask e.answer))) [
      | inl comes ↦ enters t f id here comes now top
      | inr out ↦
          (let s = stayed site h e f legal here out in
          elim (bool_cases (length h + 1 == id)) [
            | inl new ↦ subst (λ (n : ℕ). pins_in ps t f n ≡ pins_by site (e ∷ h) t f n) (eqb-true _ _ new) (own t f s now top)
            | inr older ↦
                old t f id s older now top
                ∙ ap (λ (b : Bool). b && (not (frees_path e.ask id (path_of h f)) && not (is_unpinned site h e f id))) (is.pins t f id s.was (earlier site h e t legal now) top)
                ∙ sym (pins_older site h e t f id legal older s.brings)
          ])
    ]

-- the entry's number pins nothing yet
pub no_own : (site : Site) (h : History) (e : Entry) (v : Held) (t f : ℕ) → IsLegal site (e ∷ h) → IsHeld site h v → Stayed site h e f → e.at ≤ t → t ≤ greatest_moment → pins_in v.pins t f (length h + 1) ≡ false
no_own site h e v t f legal is s now top = is.pins t f (length h + 1) s.was (earlier site h e t legal now) top ∙ none_yet site h t f

-- ---- asks that set no pins and take none off

-- an entry that frees no path, and ends no archive job of a file that stays
pub record IsGentle (site : Site) (h : History) (e : Entry) : Type 0 where
  pub frees : (id : ℕ) (path : List ℕ) → frees_path e.ask id path ≡ false
  pub ends : (f c b : ℕ) → is_resident (e ∷ h) f ≡ true → ends_archive site h e.ask e.answer (job_of b f c) ≡ false

-- and that makes no owner
pub record IsQuiet (site : Site) (h : History) (e : Entry) : Type 0 where
  pub gentle : IsGentle site h e
  pub stages : staged_by site h e.ask ≡ []
  pub names : items_named e.ask e.answer ≡ []

-- the new entry owns no pin
pub none_new : (site : Site) (h : History) (e : Entry) (t f : ℕ) → staged_by site h e.ask ≡ [] → items_named e.ask e.answer ≡ [] → pins_by site (e ∷ h) t f (length h + 1) ≡ false
none_new site h e t f stages names =
    ors (stage_pins_newest site h e t f ∙ ap (list_any (λ (s : StageFile). is_number f s.file && (is_resident h f && nat_lt t (e.at + s.lifetime)))) stages) (repack_new site h e f ∙ ap (is_file_of f) names)
  where
    ors : {a b : Bool} → a ≡ false → b ≡ false → (a || b) ≡ false
    ors x y = cc

pub none_unpinned : (site : Site) (h : History) (e : Entry) (f id : ℕ) → IsLegal site (e ∷ h) → (length h + 1 == id) ≡ false → is_resident h f ≡ true → ((c b : ℕ) → ends_archive site h e.ask e.answer (job_of b f c) ≡ false) → is_unpinned site h e f id ≡ false
none_unpinned site h e f id legal old was ends = ap (λ (b : Bool). repack_pins_by site h f id && not b) (repack_stays site h e f id legal old was ends) ∙ by (repack_pins_by site h f id)
  where
    by : (b : Bool) → (b && not b) ≡ false
    by true = refl
    by false = refl

pub gentle_on : (site : Site) (h : History) (e : Entry) (ps : List HeldPin) (t f id : ℕ) → IsLegal site (e ∷ h) → IsGentle site h e → Stayed site h e f → (length h + 1 == id) ≡ false → pinned_on site h e ps t f id ≡ pins_in ps t f id
gentle_on site h e ps t f id legal q s old =
    rw (q.frees id (path_of h f), none_unpinned site h e f id legal old s.was (λ c b. q.ends f c b s.here)) (and_true (pins_in ps t f id))

pub quiet_stand : (site : Site) (h : History) (e : Entry) (v : Held) (ps : List HeldPin) → IsLegal site (e ∷ h) → IsHeld site h v → IsQuiet site h e → ((t f id : ℕ) → Stayed site h e f → pins_in ps t f id ≡ pins_in v.pins t f id)
    → ((t f id : ℕ) → is_resident (e ∷ h) f ≡ true → has_number f (entering h e.ask e.answer) ≡ true → e.at ≤ t → t ≤ greatest_moment → pins_in ps t f id ≡ pins_by site (e ∷ h) t f id)
    → PinsStand site h e ps
quiet_stand site h e v ps legal is q same enters =
    stand_by site h e v ps legal is
    (λ t f id s old now top. same t f id s ∙ sym (gentle_on site h e v.pins t f id legal q.gentle s old))
    (λ t f s now top. same t f (length h + 1) s ∙ no_own site h e v t f legal is s now top ∙ sym (none_new site h e t f q.stages q.names))
    enters

-- ---- files of asks by which none enters

pub none_enters : (site : Site) (h : History) (e : Entry) → entering h e.ask e.answer ≡ [] → (ps : List HeldPin) → (t f id : ℕ) → is_resident (e ∷ h) f ≡ true → has_number f (entering h e.ask e.answer) ≡ true → e.at ≤ t → t ≤ greatest_moment → pins_in ps t f id ≡ pins_by site (e ∷ h) t f id
none_enters site h e none ps t f id here comes now top = (let bad : has_number f (entering h e.ask e.answer) ≡ false = ap (has_number f) none in absurd (cc))

pub files_flagged : (site : Site) (h : History) (e : Entry) → IsLegal site (e ∷ h) → entering h e.ask e.answer ≡ [] → leaving h e.ask e.answer ≡ [] → residents site (e ∷ h) ≡ flagged (touches site h e.ask e.answer) (is_safe site (e ∷ h)) (residents site h)
files_flagged site h e legal enters leaves =
    residents_are site h e legal
    ∙ ap (λ (ns : List ℕ). flagged (touches site h e.ask e.answer) (is_safe site (e ∷ h)) (without (leaving h e.ask e.answer) (residents site h)) ++ map (resident_at site (e ∷ h)) ns) enters
    ∙ append-nil _
    ∙ ap (λ (ns : List ℕ). flagged (touches site h e.ask e.answer) (is_safe site (e ∷ h)) (without ns (residents site h))) leaves
    ∙ ap (flagged (touches site h e.ask e.answer) (is_safe site (e ∷ h))) (none_leaves (residents site h))

no_flag : (safe : ℕ → Bool) (t : ℕ → Bool) (rs : List Resident) → ((f : ℕ) → t f ≡ false) → flagged t safe rs ≡ rs
no_flag safe t [] none = refl
no_flag safe t (r ∷ rs) none = rw (none r.file) (ap (λ (xs : List Resident). r ∷ xs) (no_flag safe t rs none))

pub files_still : (site : Site) (h : History) (e : Entry) → IsLegal site (e ∷ h) → entering h e.ask e.answer ≡ [] → leaving h e.ask e.answer ≡ [] → ((f : ℕ) → touches site h e.ask e.answer f ≡ false) → residents site (e ∷ h) ≡ residents site h
files_still site h e legal enters leaves none = files_flagged site h e legal enters leaves ∙ no_flag (is_safe site (e ∷ h)) (touches site h e.ask e.answer) (residents site h) none

-- ---- flags that are set, one call for each file

unfoldable flag_one : (t : ℕ → Bool) (safe : ℕ → Bool) (r : Resident) → Resident
flag_one t safe r = if t r.file then record r { safe = safe r.file } else r

one_flag : (safe : ℕ → Bool) (f : ℕ) (fs : List ℕ) (r : Resident) → flag_one (λ g. has_number g fs) safe (if r.file == f then record r { safe = safe f } else r) ≡ flag_one (λ g. has_number g (f ∷ fs)) safe r
unfolding flag_one
one_flag safe f fs r =
    elim (bool_cases (r.file == f)) [
      | inl hit ↦
          (let same : f ≡ r.file = sym (eqb-true _ _ hit) in
          rw hit (by (has_number r.file fs) same))
      | inr miss ↦ rw miss refl
    ]
  where
    by : (b : Bool) → f ≡ r.file → (if b then record r { safe = safe r.file } else record r { safe = safe f }) ≡ record r { safe = safe r.file }
    by true e = refl
    by false e = ap (λ (n : ℕ). record r { safe = safe n }) e

all_flags : (safe : ℕ → Bool) (f : ℕ) (fs : List ℕ) (rs : List Resident) → flagged (λ g. has_number g fs) safe (map (λ (r : Resident). if r.file == f then record r { safe = safe f } else r) rs) ≡ flagged (λ g. has_number g (f ∷ fs)) safe rs
unfolding flag_one
all_flags safe f fs [] = refl
all_flags safe f fs (r ∷ rs) = both _ _ _ _ (one_flag safe f fs r) (all_flags safe f fs rs)
  where
    both : (a b : Resident) (xs ys : List Resident) → a ≡ b → xs ≡ ys → a ∷ xs ≡ b ∷ ys
    both a b xs ys x y = cc

no_flags : (safe : ℕ → Bool) (rs : List Resident) → rs ≡ flagged (λ g. has_number g []) safe rs
no_flags safe [] = refl
no_flags safe (r ∷ rs) = ap (λ (xs : List Resident). r ∷ xs) (no_flags safe rs)

pub set_all_is : (safe : ℕ → Bool) (fs : List ℕ) (v : Held) → (set_all safe fs v).files ≡ flagged (λ g. has_number g fs) safe v.files
set_all_is safe [] v = no_flags safe v.files
set_all_is safe (f ∷ fs) v = set_all_is safe fs (set_safe v f (safe f)) ∙ all_flags safe f fs v.files

pub set_all_rest : (safe : ℕ → Bool) (fs : List ℕ) (v : Held) → ((set_all safe fs v).size ≡ v.size) × ((set_all safe fs v).aside ≡ v.aside) × ((set_all safe fs v).pins ≡ v.pins)
set_all_rest safe [] v = (refl, refl, refl)
set_all_rest safe (f ∷ fs) v = set_all_rest safe fs (set_safe v f (safe f))

flagged_same : (p q safe : ℕ → Bool) (rs : List Resident) → ((f : ℕ) → p f ≡ q f) → flagged p safe rs ≡ flagged q safe rs
flagged_same p q safe [] same = refl
flagged_same p q safe (r ∷ rs) same = rw (same r.file, flagged_same p q safe rs same) refl

-- flags of all files that the entry touches
pub flags_are : (site : Site) (h : History) (e : Entry) (v : Held) (fs : List ℕ) → IsLegal site (e ∷ h) → IsHeld site h v → entering h e.ask e.answer ≡ [] → leaving h e.ask e.answer ≡ [] → ((f : ℕ) → has_number f fs ≡ touches site h e.ask e.answer f) → (set_all (is_safe site (e ∷ h)) fs v).files ≡ residents site (e ∷ h)
flags_are site h e v fs legal is enters leaves files =
    set_all_is (is_safe site (e ∷ h)) fs v
    ∙ flagged_same (λ g. has_number g fs) (touches site h e.ask e.answer) (is_safe site (e ∷ h)) v.files files
    ∙ ap (flagged (touches site h e.ask e.answer) (is_safe site (e ∷ h))) is.files
    ∙ sym (files_flagged site h e legal enters leaves)

-- ---- what a pin tells of a buffer that keeps the part's rule

pub pin_resident : (site : Site) (h : History) (v : Held) (t f id : ℕ) → IsHeld site h v → ArePinsHeld v → pins_in v.pins t f id ≡ true → is_resident h f ≡ true
pin_resident site h v t f id is pinned e = sym (held_is site h v f is) ∙ pinned t f id e

pub away_no_pin : (site : Site) (h : History) (v : Held) (t f id : ℕ) → IsHeld site h v → ArePinsHeld v → is_resident h f ≡ false → pins_in v.pins t f id ≡ false
away_no_pin site h v t f id is pinned away = not_true (pins_in v.pins t f id) (λ e. (let here : is_resident h f ≡ true = pin_resident site h v t f id is pinned e in absurd (cc)))
