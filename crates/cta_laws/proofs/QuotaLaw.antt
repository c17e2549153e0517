-- The open mounts of a VO in one direction are at most its quota, and each Next mounts the choice.
use Rattle.std.proofs.Common.{◌≡◌, ℕ, ◌+◌, ◌-◌, ◌≤◌, ◌<◌, ◌⊎◌, inl, inr, List, [], ◌∷◌, ◌++◌, Bool, true, false, ◌&&◌, not, refl, sym, ◌∙◌, ap, subst, arith, length}
use Rattle.std.specs.Prelude.{Option, Some, None, is_some, if◌then◌else◌, ◌==◌, nat_lt, nat_le, filter, find}
use Rattle.std.specs.Option.{option_or}
use Rattle.std.proofs.lemmas.Bool.{and_parts, eqb-true, ltb-true}
use Rattle.cta_site.specs.declared.site.Site.{Site}
use Rattle.cta_site.specs.Lookups.{vo_of_pool, pool_of_tape, capacity_of, is_in_reach}
use Rattle.cta_model.specs.declared.entries.Entry.{Entry}
use Rattle.cta_model.specs.declared.asks.Ask.{Ask}
use Rattle.cta_model.specs.declared.asks.Ask.TheVariants as ask
use Rattle.cta_model.specs.declared.answers.Answer.{Answer}
use Rattle.cta_model.specs.declared.answers.Answer.TheVariants as answer
use Rattle.cta_model.specs.declared.answers.Refusal.TheVariants as refusal
use Rattle.cta_model.specs.declared.asks.Direction.{Direction}
use Rattle.cta_model.specs.declared.asks.Direction.TheVariants as direction
use Rattle.cta_model.specs.declared.asks.Job.{Job}
use Rattle.cta_model.specs.declared.states.Mount.{Mount}
use Rattle.cta_model.specs.declared.states.Candidate.{Candidate}
use Rattle.cta_model.specs.declared.states.Sums.{Sums}
use Rattle.cta_model.specs.History.{History, moment_of, last_moment}
use Rattle.cta_model.specs.Mounts.{mount_of, mount_in, open_mounts, open_after, is_mount, same_direction, is_down, is_busy, is_mounted}
use Rattle.cta_model.specs.Tapes.{used_bytes, tape_state, may_be_written, may_be_read}
use Rattle.cta_model.specs.Queues.{queue_of, sums_of}
use Rattle.cta_model.specs.Choice.{candidate_of, candidate_by, candidates, candidates_by, better_of, first_of, mount_choice, goes_before, has_quota_left, mounts_of_vo, quota_of, vo_of_key, tape_for, may_read_from, may_write_on, some_job_fits, all_tapes, is_warranted, fits_drive}
use Rattle.cta_model.specs.Answers.{refuse, mounted, answer_of, next_answer, is_too_heavy, is_accepted}
use Rattle.cta_model.specs.Legal.{IsLegal, IsNext}
use Rattle.cta_laws.specs.Mounts.{KeepsQuota, MountsChoice}
use Rattle.cta_laws.proofs.Tests.{bool_cases}
use Rattle.cta_laws.proofs.OpenMounts.{legal_older, AllUpTo, up_to_filter, opens_up_to, mount_older, mount_newest}

-- ---- the choice has quota left

pub AllC : (Candidate → Type 0) → List Candidate → Type 0
AllC P [] = Unit {0}
AllC P (c ∷ cs) = P c × AllC P cs

pub all_append : (P : Candidate → Type 0) (xs ys : List Candidate) → AllC P xs → AllC P ys → AllC P (xs ++ ys)
unfolding AllC
all_append P [] ys a b = b
all_append P (x ∷ xs) ys a b = (a.0, all_append P xs ys a.1 b)

pub better_all : (P : Candidate → Type 0) (x : Candidate) (o : Option Candidate) → P x → ((c : Candidate) → o ≡ Some c → P c) → (c : Candidate) → better_of x o ≡ Some c → P c
better_all P x None p h c = λ e. (let same : x ≡ c = cc in subst P same p)
better_all P x (Some b) p h c =
    elim (goes_before b x) as (λ t. (if t then Some b else Some x) ≡ Some c → P c)
    [ true ↦ λ e. h c e | false ↦ λ e. (let same : x ≡ c = cc in subst P same p) ]

pub first_all : (P : Candidate → Type 0) (cs : List Candidate) → AllC P cs → (c : Candidate) → first_of cs ≡ Some c → P c
unfolding AllC
first_all P [] all c e = absurd (cc)
first_all P (x ∷ xs) all c e = better_all P x (first_of xs) all.0 (λ k q. first_all P xs all.1 k q) c e

-- the VO of the candidate's tape has quota left
pub HasQuota : Site → History → Candidate → Type 0
HasQuota site h c = has_quota_left site h c.direction (vo_of_pool site (pool_of_tape site c.tape)) ≡ true

pub find_passes : (test : ℕ → Bool) (ns : List ℕ) (v : ℕ) → find test ns ≡ Some v → test v ≡ true
find_passes test [] v e = absurd (cc)
find_passes test (n ∷ ns) v e =
    elim (bool_cases (test n)) [
      | inl t ↦ (let same : n ≡ v = (let k : Some n ≡ Some v = rw t at e in cc) in subst (λ (m : ℕ). test m ≡ true) same t)
      | inr t ↦ find_passes test ns v (rw t at e)
    ]

pub or_found : (a b : Option ℕ) (v : ℕ) → option_or a b ≡ Some v → (a ≡ Some v) ⊎ (b ≡ Some v)
or_found None b v e = inr e
or_found (Some x) b v e = inl e

pub written_pool : (site : Site) (h : History) (d key : ℕ) (q : List Job) (v : ℕ) → may_write_on site h d key q v ≡ true → pool_of_tape site v ≡ key
written_pool site h d key q v w = eqb-true (pool_of_tape site v) key (and_parts _ _ w).0

pub tape_vo : (site : Site) (h : History) (t d : ℕ) (way : Direction) (key : ℕ) (q : List Job) (v : ℕ) → tape_for site h t d way key q ≡ Some v → vo_of_key site way key ≡ vo_of_pool site (pool_of_tape site v)
tape_vo site h t d direction.Archive key q v = λ e.
    let in_pool : pool_of_tape site v ≡ key =
    elim (or_found (find (λ u. nat_lt 0 (used_bytes h u) && may_write_on site h d key q u) (all_tapes site)) (find (may_write_on site h d key q) (all_tapes site)) v e) [
      | inl a ↦ written_pool site h d key q v (and_parts _ _ (find_passes (λ u. nat_lt 0 (used_bytes h u) && may_write_on site h d key q u) (all_tapes site) v a)).1
      | inr a ↦ written_pool site h d key q v (find_passes (may_write_on site h d key q) (all_tapes site) v a)
    ] in
    ap (vo_of_pool site) (sym in_pool)
tape_vo site h t d direction.Retrieve key q v =
    elim (may_read_from site h t d q key) as (λ b. (if b then Some key else None) ≡ Some v → vo_of_pool site (pool_of_tape site key) ≡ vo_of_pool site (pool_of_tape site v))
    [ true ↦ λ e. (let same : key ≡ v = cc in ap (λ (u : ℕ). vo_of_pool site (pool_of_tape site u)) same) | false ↦ λ e. absurd (cc) ]

pub by_quota : (site : Site) (h : History) (way : Direction) (key : ℕ) (sums : Option Sums) (o : Option ℕ) → has_quota_left site h way (vo_of_key site way key) ≡ true → ((v : ℕ) → o ≡ Some v → vo_of_key site way key ≡ vo_of_pool site (pool_of_tape site v)) → AllC (HasQuota site h) (candidate_by way key sums o)
unfolding AllC HasQuota
by_quota site h way key None o room tapes = tt
by_quota site h way key (Some s) None room tapes = tt
by_quota site h way key (Some s) (Some v) room tapes = (subst (λ (u : ℕ). has_quota_left site h way u ≡ true) (tapes v refl) room, tt)

pub if_fits : (P : Candidate → Type 0) (warranted up free room tape : Bool) (xs : List Candidate) → (room ≡ true → AllC P xs) → AllC P (if warranted && (up && (free && (room && tape))) then xs else [])
unfolding AllC
if_fits P true true true true true xs h = h refl
if_fits P true true true true false xs h = tt
if_fits P true true true false tape xs h = tt
if_fits P true true false room tape xs h = tt
if_fits P true false free room tape xs h = tt
if_fits P false up free room tape xs h = tt

pub candidate_quota : (site : Site) (h : History) (t d : ℕ) (way : Direction) (key : ℕ) → AllC (HasQuota site h) (candidate_of site h t d way key)
candidate_quota site h t d way key =
    if_fits (HasQuota site h) (is_warranted site h t way key) (not (is_down h d)) (not (is_busy h d)) (has_quota_left site h way (vo_of_key site way key)) (is_some (tape_for site h t d way key (queue_of site h way key))) (candidate_by way key (sums_of site h way (queue_of site h way key)) (tape_for site h t d way key (queue_of site h way key)))
    (λ room. by_quota site h way key (sums_of site h way (queue_of site h way key)) (tape_for site h t d way key (queue_of site h way key)) room (tape_vo site h t d way key (queue_of site h way key)))

pub candidates_quota : (site : Site) (h : History) (t d : ℕ) (way : Direction) (ks : List ℕ) → AllC (HasQuota site h) (candidates_by site h t d way ks)
unfolding AllC
candidates_quota site h t d way [] = tt
candidates_quota site h t d way (k ∷ ks) = all_append (HasQuota site h) (candidate_of site h t d way k) _ (candidate_quota site h t d way k) (candidates_quota site h t d way ks)

pub choice_quota : (site : Site) (h : History) (t d : ℕ) (c : Candidate) → mount_choice site h t d ≡ Some c → has_quota_left site h c.direction (vo_of_pool site (pool_of_tape site c.tape)) ≡ true
unfolding HasQuota
choice_quota site h t d c e =
    first_all (HasQuota site h) (candidates site h t d) (all_append (HasQuota site h) _ _ (candidates_quota site h t d direction.Archive _) (candidates_quota site h t d direction.Retrieve _)) c e

-- ---- what holds of each tape that a drive may mount holds of the choice's

pub by_tape : (P : Direction → ℕ → Type 0) (way : Direction) (key : ℕ) (sums : Option Sums) (o : Option ℕ) → ((v : ℕ) → o ≡ Some v → P way v) → AllC (λ c. P c.direction c.tape) (candidate_by way key sums o)
unfolding AllC
by_tape P way key None o tapes = tt
by_tape P way key (Some s) None tapes = tt
by_tape P way key (Some s) (Some v) tapes = (tapes v refl, tt)

pub if_all : (P : Candidate → Type 0) (b : Bool) (xs : List Candidate) → AllC P xs → AllC P (if b then xs else [])
unfolding AllC
if_all P true xs all = all
if_all P false xs all = tt

pub tapes_all : (P : Direction → ℕ → Type 0) (site : Site) (h : History) (t d : ℕ) → ((way : Direction) (key : ℕ) (q : List Job) (v : ℕ) → tape_for site h t d way key q ≡ Some v → P way v) → (way : Direction) (ks : List ℕ) → AllC (λ c. P c.direction c.tape) (candidates_by site h t d way ks)
unfolding AllC
tapes_all P site h t d tapes way [] = tt
tapes_all P site h t d tapes way (k ∷ ks) =
    all_append (λ c. P c.direction c.tape) (candidate_of site h t d way k) _
    (if_all (λ c. P c.direction c.tape) (is_warranted site h t way k && fits_drive site h t d way k) (candidate_by way k (sums_of site h way (queue_of site h way k)) (tape_for site h t d way k (queue_of site h way k))) (by_tape P way k (sums_of site h way (queue_of site h way k)) (tape_for site h t d way k (queue_of site h way k)) (tapes way k (queue_of site h way k))))
    (tapes_all P site h t d tapes way ks)

pub choice_all : (P : Direction → ℕ → Type 0) (site : Site) (h : History) (t d : ℕ) → ((way : Direction) (key : ℕ) (q : List Job) (v : ℕ) → tape_for site h t d way key q ≡ Some v → P way v) → (c : Candidate) → mount_choice site h t d ≡ Some c → P c.direction c.tape
choice_all P site h t d tapes c e = first_all (λ c. P c.direction c.tape) (candidates site h t d) (all_append (λ c. P c.direction c.tape) _ _ (tapes_all P site h t d tapes direction.Archive _) (tapes_all P site h t d tapes direction.Retrieve _)) c e

pub not_true : (b : Bool) → not b ≡ true → b ≡ false
not_true true e = absurd (cc)
not_true false e = refl

pub write_free : (site : Site) (h : History) (d key : ℕ) (q : List Job) (v : ℕ) → may_write_on site h d key q v ≡ true → is_mounted h v ≡ false
write_free site h d key q v w =
    let a : may_be_written (tape_state site h v) && (is_in_reach site d v && (not (is_mounted h v) && some_job_fits h q (capacity_of site v - used_bytes h v))) ≡ true = (and_parts (pool_of_tape site v == key) _ w).1 in
    not_true (is_mounted h v) (and_parts (not (is_mounted h v)) _ (and_parts (is_in_reach site d v) _ (and_parts (may_be_written (tape_state site h v)) _ a).1).1).0

pub read_free : (site : Site) (h : History) (t d : ℕ) (q : List Job) (v : ℕ) → may_read_from site h t d q v ≡ true → is_mounted h v ≡ false
read_free site h t d q v w = not_true (is_mounted h v) (and_parts (not (is_mounted h v)) _ (and_parts (is_in_reach site d v) _ (and_parts (may_be_read (tape_state site h v)) _ w).1).1).0

-- a tape that a drive may mount is not mounted
pub tape_free : (site : Site) (h : History) (t d : ℕ) (way : Direction) (key : ℕ) (q : List Job) (v : ℕ) → tape_for site h t d way key q ≡ Some v → is_mounted h v ≡ false
tape_free site h t d direction.Archive key q v = λ e.
    elim (or_found (find (λ u. nat_lt 0 (used_bytes h u) && may_write_on site h d key q u) (all_tapes site)) (find (may_write_on site h d key q) (all_tapes site)) v e) [
      | inl a ↦ write_free site h d key q v (and_parts _ _ (find_passes (λ u. nat_lt 0 (used_bytes h u) && may_write_on site h d key q u) (all_tapes site) v a)).1
      | inr a ↦ write_free site h d key q v (find_passes (may_write_on site h d key q) (all_tapes site) v a)
    ]
tape_free site h t d direction.Retrieve key q v = λ e.
    elim (bool_cases (may_read_from site h t d q key)) [
      | inl may ↦ (let there : Some key ≡ Some v = rw may at e in let same : key ≡ v = cc in subst (λ (u : ℕ). is_mounted h u ≡ false) same (read_free site h t d q key may))
      | inr miss ↦ (let there : None ≡ Some v = rw miss at e in absurd (cc))
    ]

-- ---- an accepted Next is the choice

abbrev pub Chosen : Option Candidate → ℕ → Answer → Type 0
Chosen o n a = (c : Candidate) × (o ≡ Some c) × (a ≡ answer.Mounted n c.direction c.tape)

pub chosen_by : (heavy none down busy : Bool) (n : ℕ) (o : Option Candidate) (a : Answer) → a ≡ refuse refusal.HistoryFull heavy (refuse refusal.NoDrive none (if down then answer.DriveDown else if busy then answer.DriveBusy else mounted n o)) → is_accepted a ≡ true → Chosen o n a
chosen_by true none down busy n o a e y = absurd (cc)
chosen_by false true down busy n o a e y = absurd (cc)
chosen_by false false true busy n o a e y = absurd (cc)
chosen_by false false false true n o a e y = absurd (cc)
chosen_by false false false false n None a e y = absurd (cc)
chosen_by false false false false n (Some c) a e y = (c, refl, e)

pub next_chosen : (site : Site) (h : History) (t d : ℕ) (a : Answer) → a ≡ answer_of site h t (ask.Next d) → is_accepted a ≡ true → Chosen (mount_choice site h (moment_of h t) d) (length h + 1) a
next_chosen site h t d a e y = chosen_by (is_too_heavy site h (ask.Next d) (next_answer site h (moment_of h t) d)) (nat_le (length site.drives.items) d) (is_down h d) (is_busy h d) (length h + 1) (mount_choice site h (moment_of h t) d) a e y

pub moment_after : (h : History) (t : ℕ) → last_moment h ≤ t → moment_of h t ≡ t
moment_after h t low = omega arith

pub choice_at : (site : Site) (h : History) (e : Entry) (d : ℕ) → IsNext site h e → e.ask ≡ ask.Next d → Chosen (mount_choice site h e.at d) (length h + 1) e.answer
choice_at site h e d next is =
    let answered : e.answer ≡ answer_of site h e.at (ask.Next d) = next.answered ∙ ap (answer_of site h e.at) is in
    subst (λ (t : ℕ). Chosen (mount_choice site h t d) (length h + 1) e.answer) (moment_after h e.at next.later) (next_chosen site h e.at d e.answer answered next.accepted)

pub mounts_choice : MountsChoice
mounts_choice site newer h e d legal is = choice_at site h e d (legal_older site newer (e ∷ h) legal).1 is

pub mounted_tape : (site : Site) (h : History) (e : Entry) (d m : ℕ) (w : Direction) (v : ℕ) → IsNext site h e → e.ask ≡ ask.Next d → e.answer ≡ answer.Mounted m w v → is_mounted h v ≡ false
mounted_tape site h e d m w v next ek ea =
    let chosen : Chosen (mount_choice site h e.at d) (length h + 1) e.answer = choice_at site h e d next ek in
    let same : answer.Mounted (length h + 1) chosen.0.direction chosen.0.tape ≡ answer.Mounted m w v = sym chosen.2 ∙ ea in
    let tapes : chosen.0.tape ≡ v = cc in
    subst (λ (u : ℕ). is_mounted h u ≡ false) tapes (choice_all (λ way u. is_mounted h u ≡ false) site h e.at d (tape_free site h e.at d) chosen.0 chosen.1)

-- ---- the open mounts after one more entry

pub is_of_vo : Site → Direction → ℕ → Mount → Bool
is_of_vo site way vo m = same_direction m.direction way && vo_of_pool site (pool_of_tape site m.tape) == vo

pub passing : (Mount → Bool) → History → List ℕ → List ℕ
passing test h ms = filter (λ m. is_mount test (mount_of h m)) ms

pub passing_older : (test : Mount → Bool) (e : Entry) (h : History) (ms : List ℕ) → AllUpTo (length h) ms → passing test (e ∷ h) ms ≡ passing test h ms
unfolding passing
passing_older test e h [] all = refl
passing_older test e h (m ∷ ms) all = rw (mount_older e h m all.0, passing_older test e h ms all.1) refl

pub passing_filter : (test : Mount → Bool) (h : History) (keep : ℕ → Bool) (ms : List ℕ) → length (passing test h (filter keep ms)) ≤ length (passing test h ms)
unfolding passing
passing_filter test h keep [] = omega arith
passing_filter test h keep (m ∷ ms) =
    elim (bool_cases (is_mount test (mount_of h m))) [
      | inl hit ↦
          elim (keep m) as (λ b. length (passing test h (if b then m ∷ filter keep ms else filter keep ms)) ≤ length (passing test h (m ∷ ms)))
          [ true ↦ rw hit (omega (arith, passing_filter test h keep ms)) | false ↦ rw hit (omega (arith, passing_filter test h keep ms)) ]
      | inr miss ↦
          elim (keep m) as (λ b. length (passing test h (if b then m ∷ filter keep ms else filter keep ms)) ≤ length (passing test h (m ∷ ms)))
          [ true ↦ rw miss (omega (arith, passing_filter test h keep ms)) | false ↦ rw miss (omega (arith, passing_filter test h keep ms)) ]
    ]

pub same_way : (a b : Direction) → same_direction a b ≡ true → a ≡ b
same_way direction.Archive direction.Archive s = refl
same_way direction.Retrieve direction.Retrieve s = refl
same_way direction.Archive direction.Retrieve s = absurd (cc)
same_way direction.Retrieve direction.Archive s = absurd (cc)

-- the newest mount is within the quota
pub newest_within : (site : Site) (h : History) (way : Direction) (vo n : ℕ) (x : Mount) (ms : List ℕ) → length ms ≡ mounts_of_vo site h way vo → has_quota_left site h x.direction (vo_of_pool site (pool_of_tape site x.tape)) ≡ true → length ms ≤ quota_of site way vo → length (if is_of_vo site way vo x then n ∷ ms else ms) ≤ quota_of site way vo
unfolding is_of_vo
newest_within site h way vo n x ms count room low =
    elim (bool_cases (is_of_vo site way vo x)) [
      | inl hit ↦
          (let parts : (same_direction x.direction way ≡ true) × (vo_of_pool site (pool_of_tape site x.tape) == vo ≡ true) = and_parts _ _ hit in
          let ways : x.direction ≡ way = same_way x.direction way parts.0 in
          let vos : vo_of_pool site (pool_of_tape site x.tape) ≡ vo = eqb-true _ _ parts.1 in
          let here : has_quota_left site h way vo ≡ true = subst (λ (u : ℕ). has_quota_left site h way u ≡ true) vos (subst (λ (w : Direction). has_quota_left site h w (vo_of_pool site (pool_of_tape site x.tape)) ≡ true) ways room) in
          let less : mounts_of_vo site h way vo < quota_of site way vo = ltb-true _ _ here in
          rw hit (omega arith))
      | inr miss ↦ rw miss low
    ]

pub quota_step : (site : Site) (h : History) (e : Entry) (way : Direction) (vo : ℕ) (k : Ask) (a : Answer) → e.ask ≡ k → e.answer ≡ a → IsNext site h e → length (passing (is_of_vo site way vo) h (open_mounts h)) ≤ quota_of site way vo → length (passing (is_of_vo site way vo) (e ∷ h) (open_after k a (length h + 1) (open_mounts h))) ≤ quota_of site way vo
unfolding passing is_of_vo
quota_step site h e way vo (ask.Next d) (answer.Mounted m w v) ek ea next low =
    let newest : mount_of (e ∷ h) (length h + 1) ≡ Some (record { drive = d; direction = w; tape = v }) = mount_newest e h ∙ ap (λ (k : Ask). mount_in k e.answer) ek ∙ ap (λ (a : Answer). mount_in (ask.Next d) a) ea in
    let chosen : Chosen (mount_choice site h e.at d) (length h + 1) e.answer = choice_at site h e d next ek in
    let room : has_quota_left site h chosen.0.direction (vo_of_pool site (pool_of_tape site chosen.0.tape)) ≡ true = choice_quota site h e.at d chosen.0 chosen.1 in
    let same : answer.Mounted (length h + 1) chosen.0.direction chosen.0.tape ≡ answer.Mounted m w v = sym chosen.2 ∙ ea in
    let ways : chosen.0.direction ≡ w = cc in
    let tapes : chosen.0.tape ≡ v = cc in
    let here : has_quota_left site h w (vo_of_pool site (pool_of_tape site v)) ≡ true = subst (λ (u : ℕ). has_quota_left site h w (vo_of_pool site (pool_of_tape site u)) ≡ true) tapes (subst (λ (x : Direction). has_quota_left site h x (vo_of_pool site (pool_of_tape site chosen.0.tape)) ≡ true) ways room) in
    rw (newest, passing_older (is_of_vo site way vo) e h (open_mounts h) (opens_up_to h))
    (newest_within site h way vo (length h + 1) (record { drive = d; direction = w; tape = v }) (passing (is_of_vo site way vo) h (open_mounts h)) refl here low)
quota_step site h e way vo (ask.End m f) a ek ea next low =
    rw (passing_older (is_of_vo site way vo) e h (filter (λ k. not (k == m)) (open_mounts h)) (up_to_filter (length h) (λ k. not (k == m)) (open_mounts h) (opens_up_to h)))
    (omega (arith, passing_filter (is_of_vo site way vo) h (λ k. not (k == m)) (open_mounts h)))
quota_step site h e way vo _ a ek ea next low = rw (passing_older (is_of_vo site way vo) e h (open_mounts h) (opens_up_to h)) low

pub within_quota : (site : Site) (h : History) → IsLegal site h → (way : Direction) (vo : ℕ) → length (passing (is_of_vo site way vo) h (open_mounts h)) ≤ quota_of site way vo
unfolding passing
within_quota site [] legal way vo = omega arith
within_quota site (e ∷ h) legal way vo = quota_step site h e way vo e.ask e.answer refl refl legal.1 (within_quota site h legal.0 way vo)

pub keeps_quota : KeepsQuota
unfolding passing is_of_vo
keeps_quota site newer h legal way vo = within_quota site h (legal_older site newer h legal) way vo
