-- Which queue a free drive mounts next.
use Rattle.std.specs.Prelude.{ℕ, ◌+◌, ◌-◌, ◌*◌, length, List, [], ◌∷◌, ◌++◌, Option, Some, None, is_some, Bool, true, false, if◌then◌else◌, ◌==◌, ◌&&◌, ◌||◌, not, nat_le, nat_lt, slice_get, find}
use Rattle.std.specs.List.{list_any, range_with_len}
use Rattle.std.specs.Option.{option_or}
use Rattle.cta_site.specs.declared.site.Site.{Site}
use Rattle.cta_site.specs.declared.site.Vo.{Vo}
use Rattle.cta_site.specs.Lookups.{vo_of_pool, pool_of_tape, capacity_of, is_in_reach}
use Rattle.cta_model.specs.declared.asks.Direction.{Direction}
use Rattle.cta_model.specs.declared.asks.Direction.TheVariants as direction
use Rattle.cta_model.specs.declared.asks.Job.{Job}
use Rattle.cta_model.specs.declared.states.Mount.{Mount}
use Rattle.cta_model.specs.declared.states.Candidate.{Candidate}
use Rattle.cta_model.specs.declared.states.Sums.{Sums}
use Rattle.cta_model.specs.History.{History}
use Rattle.cta_model.specs.Files.{size_of}
use Rattle.cta_model.specs.Mounts.{open_where, is_mounted, is_busy, is_down, same_direction}
use Rattle.cta_model.specs.Tapes.{tape_state, may_be_written, may_be_read, used_bytes}
use Rattle.cta_model.specs.Space.{free_space, evictable_size}
use Rattle.cta_model.specs.Queues.{queue_of, sums_of}

-- ---- warrants

-- the key of a mount: its tape's pool where it writes, and its tape where it reads
abbrev pub key_of_mount : Site → Direction → ℕ → ℕ
key_of_mount site direction.Archive v = pool_of_tape site v
key_of_mount site direction.Retrieve v = v

-- how many open mounts a key has in a direction
abbrev pub mounts_of_key : Site → History → Direction → ℕ → ℕ
mounts_of_key site h way key = length (open_where (λ (m : Mount). same_direction m.direction way && key_of_mount site way m.tape == key) h)

-- how many bytes of a queue warrant one mount, in a direction
abbrev pub bytes_threshold : Site → Direction → ℕ
bytes_threshold site direction.Archive = site.limits.archive_bytes
bytes_threshold site direction.Retrieve = site.limits.retrieve_bytes

-- how many files of a queue warrant one mount, in a direction
abbrev pub files_threshold : Site → Direction → ℕ
files_threshold site direction.Archive = site.limits.archive_files
files_threshold site direction.Retrieve = site.limits.retrieve_files

-- a queue with these sums, whose key has n open mounts, is warranted by its bytes, by its files, or, where n is 0, by the age of its
-- first job; an empty queue is never warranted
abbrev pub is_warranted_by : Site → ℕ → Direction → ℕ → Option Sums → Bool
is_warranted_by site t way n None = false
is_warranted_by site t way n (Some s) =
    nat_le ((n + 1) * bytes_threshold site way) s.bytes
    || (nat_le ((n + 1) * files_threshold site way) s.files
    || (n == 0 && nat_le (s.born + s.age) t))

-- whether the queue of a key is warranted at t
abbrev pub is_warranted : Site → History → ℕ → Direction → ℕ → Bool
is_warranted site h t way key = is_warranted_by site t way (mounts_of_key site h way key) (sums_of site h way (queue_of site h way key))

-- ---- what a drive may mount

-- the VO of a key: that of the pool, or of the tape's pool
abbrev pub vo_of_key : Site → Direction → ℕ → ℕ
vo_of_key site direction.Archive key = vo_of_pool site key
vo_of_key site direction.Retrieve key = vo_of_pool site (pool_of_tape site key)

-- how many open mounts a VO has in a direction
abbrev pub mounts_of_vo : Site → History → Direction → ℕ → ℕ
mounts_of_vo site h way vo = length (open_where (λ (m : Mount). same_direction m.direction way && vo_of_pool site (pool_of_tape site m.tape) == vo) h)

-- how many drives a VO may use in a direction at the same time, 0 where there is no VO
abbrev pub quota_in : Direction → Option Vo → ℕ
quota_in way None = 0
quota_in direction.Archive (Some v) = v.write_drives
quota_in direction.Retrieve (Some v) = v.read_drives

-- the quota of a VO in a direction
abbrev pub quota_of : Site → Direction → ℕ → ℕ
quota_of site way vo = quota_in way (slice_get site.vos.items vo)

-- whether the VO has fewer open mounts in the direction than its quota
abbrev pub has_quota_left : Site → History → Direction → ℕ → Bool
has_quota_left site h way vo = nat_lt (mounts_of_vo site h way vo) (quota_of site way vo)

-- whether the size of some job of the queue is at most the room
abbrev pub some_job_fits : History → List Job → ℕ → Bool
some_job_fits h q room = list_any (λ (j : Job). nat_le (size_of h j.file) room) q

-- whether a drive may write a pool's queue on a tape: it is ACTIVE, of the pool, in the drive's library, not mounted, and some job fits on it
abbrev pub may_write_on : Site → History → ℕ → ℕ → List Job → ℕ → Bool
may_write_on site h d pool q v =
    pool_of_tape site v == pool && (may_be_written (tape_state site h v) && (is_in_reach site d v && (not (is_mounted h v) && some_job_fits h q (capacity_of site v - used_bytes h v))))

-- whether a drive may read a tape's queue: it is ACTIVE or REPACKING, in the drive's library, not mounted, and some job fits in the buffer
abbrev pub may_read_from : Site → History → ℕ → ℕ → List Job → ℕ → Bool
may_read_from site h t d q v =
    may_be_read (tape_state site h v) && (is_in_reach site d v && (not (is_mounted h v) && some_job_fits h q (free_space site h + evictable_size site h t)))

-- the numbers of the site's tapes, from 0
abbrev pub all_tapes : Site → List ℕ
all_tapes site = range_with_len 0 (length site.tapes.items)

-- the first tape on which a pool's queue may be written: those in use first, then by VID
abbrev pub tape_of_pool : Site → History → ℕ → ℕ → List Job → Option ℕ
tape_of_pool site h d pool q =
    option_or (find (λ v. nat_lt 0 (used_bytes h v) && may_write_on site h d pool q v) (all_tapes site))
    (find (may_write_on site h d pool q) (all_tapes site))

-- the tape that a drive mounts for a queue
abbrev pub tape_for : Site → History → ℕ → ℕ → Direction → ℕ → List Job → Option ℕ
tape_for site h t d direction.Archive key q = tape_of_pool site h d key q
tape_for site h t d direction.Retrieve key q = if may_read_from site h t d q key then Some key else None

-- a queue fits a drive that is up and has no open mount, where its VO has quota left and there is a tape for it
abbrev pub fits_drive : Site → History → ℕ → ℕ → Direction → ℕ → Bool
fits_drive site h t d way key =
    not (is_down h d) && (not (is_busy h d) && (has_quota_left site h way (vo_of_key site way key) && is_some (tape_for site h t d way key (queue_of site h way key))))

-- ---- the choice

-- the candidate of a queue with these sums and the tape for it, none where the queue is empty or there is no tape
abbrev pub candidate_by : Direction → ℕ → Option Sums → Option ℕ → List Candidate
candidate_by way key None v = []
candidate_by way key (Some s) None = []
candidate_by way key (Some s) (Some v) = record { direction = way; key = key; tape = v; priority = s.priority; birth = s.oldest.birth } ∷ []

-- the candidate of a key: its queue, where it is warranted and fits the drive
abbrev pub candidate_of : Site → History → ℕ → ℕ → Direction → ℕ → List Candidate
candidate_of site h t d way key =
    if is_warranted site h t way key && fits_drive site h t d way key
    then (let q = queue_of site h way key in candidate_by way key (sums_of site h way q) (tape_for site h t d way key q))
    else []

-- the candidates of these keys in a direction, in the order of the keys
abbrev pub candidates_by : Site → History → ℕ → ℕ → Direction → List ℕ → List Candidate
candidates_by site h t d way [] = []
candidates_by site h t d way (key ∷ keys) = candidate_of site h t d way key ++ candidates_by site h t d way keys

-- all candidates: the pools' queues, and then the tapes'
abbrev pub candidates : Site → History → ℕ → ℕ → List Candidate
candidates site h t d =
    candidates_by site h t d direction.Archive (range_with_len 0 (length site.pools.items))
    ++ candidates_by site h t d direction.Retrieve (range_with_len 0 (length site.tapes.items))

-- archive comes before retrieve, and no direction before itself
abbrev pub goes_first : Direction → Direction → Bool
goes_first direction.Archive direction.Retrieve = true
goes_first _ _ = false

-- higher priority, then archive before retrieve, then the earlier birth of the first job, then the lower key; numbers of pools and
-- of tapes are in byte order of names
abbrev pub goes_before : Candidate → Candidate → Bool
goes_before a b =
    nat_lt b.priority a.priority
    || (a.priority == b.priority && (goes_first a.direction b.direction
    || (same_direction a.direction b.direction && (nat_lt a.birth b.birth
    || (a.birth == b.birth && nat_lt a.key b.key)))))

-- of a candidate and perhaps another, the one that goes before the other
abbrev pub better_of : Candidate → Option Candidate → Option Candidate
better_of a None = Some a
better_of a (Some b) = if goes_before b a then Some b else Some a

-- the first of candidates
abbrev pub first_of : List Candidate → Option Candidate
first_of [] = None
first_of (c ∷ cs) = better_of c (first_of cs)

-- what a drive mounts next at t: the first of all warranted queues that fit it
abbrev pub mount_choice : Site → History → ℕ → ℕ → Option Candidate
mount_choice site h t d = first_of (candidates site h t d)
