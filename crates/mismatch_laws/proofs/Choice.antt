-- The choices of mounts are the same without what mismatches have found.
use Rattle.std.proofs.Common.{refl, ◌≡◌, ◌∷◌, [], List, ℕ}
use Rattle.std.specs.Prelude.{◌+◌, ◌-◌, length, ◌++◌, Some, None, is_some, if◌then◌else◌, ◌==◌, ◌&&◌, not, nat_le, nat_lt, find}
use Rattle.std.specs.List.{list_any, range_with_len}
use Rattle.std.specs.Option.{option_or}
use Rattle.cta_site.specs.declared.site.Site.{Site}
use Rattle.cta_site.specs.Lookups.{vo_of_pool, pool_of_tape, capacity_of, is_in_reach}
use Rattle.cta_model.specs.declared.asks.Direction.{Direction}
use Rattle.cta_model.specs.declared.asks.Direction.TheVariants as direction
use Rattle.cta_model.specs.declared.asks.Job.{Job}
use Rattle.cta_model.specs.declared.states.Mount.{Mount}
use Rattle.cta_model.specs.History.{History}
use Rattle.cta_model.specs.Mounts.{same_direction}
use Rattle.cta_model.specs.Tapes.{may_be_written, may_be_read}
use Rattle.cta_model.specs.Choice.{all_tapes, candidate_by, candidate_of, candidates, candidates_by, first_of, fits_drive, has_quota_left, is_warranted, is_warranted_by, key_of_mount, may_read_from, may_write_on, mount_choice, mounts_of_key, mounts_of_vo, quota_of, some_job_fits, tape_for, tape_of_pool, vo_of_key}
use Rattle.mismatch_laws.specs.Alike.{history_without_found}
use Rattle.mismatch_laws.proofs.Files.{size_of_same}
use Rattle.mismatch_laws.proofs.Mounts.{is_busy_same, is_down_same, is_mounted_same, open_where_same}
use Rattle.mismatch_laws.proofs.Tapes.{tape_state_same, used_bytes_same}
use Rattle.mismatch_laws.proofs.Space.{evictable_size_same, free_space_same}
use Rattle.mismatch_laws.proofs.Queues.{queue_of_same, sums_of_same}

pub mounts_of_key_same : (site : Site) (h : History) (way : Direction) (key : ℕ) → mounts_of_key site (history_without_found h) way key ≡ mounts_of_key site h way key
mounts_of_key_same site h way key = λ z. length (open_where_same (λ (m : Mount). same_direction m.direction way && key_of_mount site way m.tape == key) h z)

pub is_warranted_same : (site : Site) (h : History) (t : ℕ) (way : Direction) (key : ℕ) → is_warranted site (history_without_found h) t way key ≡ is_warranted site h t way key
is_warranted_same site h t way key = λ z. is_warranted_by site t way (mounts_of_key_same site h way key z) (sums_of_same site h way (queue_of_same site h way key z) z)

pub mounts_of_vo_same : (site : Site) (h : History) (way : Direction) (vo : ℕ) → mounts_of_vo site (history_without_found h) way vo ≡ mounts_of_vo site h way vo
mounts_of_vo_same site h way vo = λ z. length (open_where_same (λ (m : Mount). same_direction m.direction way && vo_of_pool site (pool_of_tape site m.tape) == vo) h z)

pub has_quota_left_same : (site : Site) (h : History) (way : Direction) (vo : ℕ) → has_quota_left site (history_without_found h) way vo ≡ has_quota_left site h way vo
has_quota_left_same site h way vo = λ z. nat_lt (mounts_of_vo_same site h way vo z) (quota_of site way vo)

pub some_job_fits_same : (h : History) (q : List Job) (room : ℕ) → some_job_fits (history_without_found h) q room ≡ some_job_fits h q room
some_job_fits_same h q room = λ z. list_any (λ (j : Job). nat_le (size_of_same h j.file z) room) q

pub may_write_on_same : (site : Site) (h : History) (d : ℕ) (pool : ℕ) (q : List Job) (v : ℕ) → may_write_on site (history_without_found h) d pool q v ≡ may_write_on site h d pool q v
may_write_on_same site h d pool q v = λ z. pool_of_tape site v == pool && (may_be_written (tape_state_same site h v z) && (is_in_reach site d v && (not (is_mounted_same h v z) && (some_job_fits_same h q (capacity_of site v - (used_bytes_same h v z)) z))))

pub may_read_from_same : (site : Site) (h : History) (t : ℕ) (d : ℕ) (q : List Job) (v : ℕ) → may_read_from site (history_without_found h) t d q v ≡ may_read_from site h t d q v
may_read_from_same site h t d q v = λ z. may_be_read (tape_state_same site h v z) && (is_in_reach site d v && (not (is_mounted_same h v z) && (some_job_fits_same h q ((free_space_same site h z) + (evictable_size_same site h t z)) z)))

pub tape_of_pool_same : (site : Site) (h : History) (d : ℕ) (pool : ℕ) (q : List Job) → tape_of_pool site (history_without_found h) d pool q ≡ tape_of_pool site h d pool q
tape_of_pool_same site h d pool q = λ z. option_or (find (λ v. nat_lt 0 (used_bytes_same h v z) && (may_write_on_same site h d pool q v z)) (all_tapes site))
    (find (λ z1. may_write_on_same site h d pool q z1 z) (all_tapes site))

pub tape_for_same : (site : Site) (h : History) (t : ℕ) (d : ℕ) (x : Direction) (key : ℕ) (q : List Job) → tape_for site (history_without_found h) t d x key q ≡ tape_for site h t d x key q
tape_for_same site h t d direction.Archive key q = λ z. tape_of_pool_same site h d key q z
tape_for_same site h t d direction.Retrieve key q = λ z. if (may_read_from_same site h t d q key z) then Some key else None

pub fits_drive_same : (site : Site) (h : History) (t : ℕ) (d : ℕ) (way : Direction) (key : ℕ) → fits_drive site (history_without_found h) t d way key ≡ fits_drive site h t d way key
fits_drive_same site h t d way key = λ z. not (is_down_same h d z) && (not (is_busy_same h d z) && ((has_quota_left_same site h way (vo_of_key site way key) z) && is_some (tape_for_same site h t d way key (queue_of_same site h way key z) z)))

pub candidate_of_same : (site : Site) (h : History) (t : ℕ) (d : ℕ) (way : Direction) (key : ℕ) → candidate_of site (history_without_found h) t d way key ≡ candidate_of site h t d way key
candidate_of_same site h t d way key = λ z. if (is_warranted_same site h t way key z) && (fits_drive_same site h t d way key z)
    then (let q = (queue_of_same site h way key z) in candidate_by way key (sums_of_same site h way q z) (tape_for_same site h t d way key q z))
    else []

pub candidates_by_same : (site : Site) (h : History) (t : ℕ) (d : ℕ) (way : Direction) (xs : List ℕ) → candidates_by site (history_without_found h) t d way xs ≡ candidates_by site h t d way xs
candidates_by_same site h t d way [] = refl
candidates_by_same site h t d way (key ∷ keys) = λ z. (candidate_of_same site h t d way key z) ++ (candidates_by_same site h t d way keys z)

pub candidates_same : (site : Site) (h : History) (t : ℕ) (d : ℕ) → candidates site (history_without_found h) t d ≡ candidates site h t d
candidates_same site h t d = λ z. (candidates_by_same site h t d direction.Archive (range_with_len 0 (length site.pools.items)) z)
    ++ (candidates_by_same site h t d direction.Retrieve (range_with_len 0 (length site.tapes.items)) z)

pub mount_choice_same : (site : Site) (h : History) (t : ℕ) (d : ℕ) → mount_choice site (history_without_found h) t d ≡ mount_choice site h t d
mount_choice_same site h t d = λ z. first_of (candidates_same site h t d z)
