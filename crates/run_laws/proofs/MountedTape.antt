-- The tape that a Next mounts is one of the site that no open mount has.
use Rattle.std.proofs.Common.{◌≡◌, ℕ, zero, suc, ◌+◌, ◌≤◌, ◌<◌, List, [], ◌∷◌, Bool, true, false, length, refl, sym, subst, arith}
use Rattle.std.specs.Prelude.{Some, None, if◌then◌else◌, ◌&&◌}
use Rattle.std.specs.List.{range_with_len}
use Rattle.std.proofs.lemmas.Option.{none-some, same_Some}
use Rattle.cta_site.specs.declared.site.Site.{Site}
use Rattle.cta_model.specs.declared.answers.Answer.TheVariants as answer
use Rattle.cta_model.specs.declared.asks.Ask.TheVariants as ask
use Rattle.cta_model.specs.declared.asks.Direction.{Direction}
use Rattle.cta_model.specs.declared.asks.Direction.TheVariants as direction
use Rattle.cta_model.specs.declared.states.Candidate.{Candidate}
use Rattle.cta_model.specs.Answers.{answer_of}
use Rattle.cta_model.specs.Choice.{candidate_by, candidate_of, candidates, candidates_by, fits_drive, is_warranted, may_read_from, mount_choice, tape_for}
use Rattle.cta_model.specs.History.{History, moment_of}
use Rattle.cta_model.specs.Mounts.{is_mounted}
use Rattle.cta_model.specs.Queues.{queue_of, sums_of}
use Rattle.cta_laws.proofs.KeyLaw.{tape_good}
use Rattle.cta_laws.proofs.QuotaLaw.{AllC, Chosen, all_append, by_tape, first_all, if_all, choice_all, next_chosen, tape_free}

-- a tape of the site
abbrev OnSite : Site → Candidate → Type 0
OnSite site c = c.tape < length site.tapes.items

-- every number of a list is below a bound
AllBelow : ℕ → List ℕ → Type 0
AllBelow n [] = Unit {0}
AllBelow n (k ∷ ks) = (k < n) × AllBelow n ks

range_below : (a m n : ℕ) → a + m ≤ n → AllBelow n (range_with_len a m)
unfolding AllBelow
range_below a zero n low = tt
range_below a (suc m) n low = (omega arith, range_below (a + 1) m n (omega arith))

read_key : (b : Bool) (key v : ℕ) → (if b then Some key else None) ≡ Some v → v ≡ key
read_key true key v e = sym (same_Some key v e)
read_key false key v e = absurd (none-some v e)

-- so are none at all
none_on_site : (site : Site) → AllC (OnSite site) []
none_on_site site = by_tape (λ way v. v < length site.tapes.items) direction.Archive 0 None None (λ v is. absurd (none-some v is))

reads_on_site : (site : Site) (h : History) (t d : ℕ) (ks : List ℕ) → AllBelow (length site.tapes.items) ks → AllC (OnSite site) (candidates_by site h t d direction.Retrieve ks)
unfolding AllBelow
reads_on_site site h t d [] low = none_on_site site
reads_on_site site h t d (k ∷ ks) low =
    let q = queue_of site h direction.Retrieve k in
    all_append (OnSite site) (candidate_of site h t d direction.Retrieve k) (candidates_by site h t d direction.Retrieve ks)
    (if_all (OnSite site) (is_warranted site h t direction.Retrieve k && fits_drive site h t d direction.Retrieve k) (candidate_by direction.Retrieve k (sums_of site h direction.Retrieve q) (tape_for site h t d direction.Retrieve k q))
    (by_tape (λ way v. v < length site.tapes.items) direction.Retrieve k (sums_of site h direction.Retrieve q) (tape_for site h t d direction.Retrieve k q)
    (λ v is. subst (λ n. n < length site.tapes.items) (sym (read_key (may_read_from site h t d q k) k v is)) low.0)))
    (reads_on_site site h t d ks low.1)

writes_on_site : (site : Site) (h : History) (t d : ℕ) (ks : List ℕ) → AllC (OnSite site) (candidates_by site h t d direction.Archive ks)
writes_on_site site h t d [] = none_on_site site
writes_on_site site h t d (k ∷ ks) =
    let q = queue_of site h direction.Archive k in
    all_append (OnSite site) (candidate_of site h t d direction.Archive k) (candidates_by site h t d direction.Archive ks)
    (if_all (OnSite site) (is_warranted site h t direction.Archive k && fits_drive site h t d direction.Archive k) (candidate_by direction.Archive k (sums_of site h direction.Archive q) (tape_for site h t d direction.Archive k q))
    (by_tape (λ way v. v < length site.tapes.items) direction.Archive k (sums_of site h direction.Archive q) (tape_for site h t d direction.Archive k q)
    (λ v is. (tape_good site h t d direction.Archive k q v is).1 refl)))
    (writes_on_site site h t d ks)

choice_on_site : (site : Site) (h : History) (t d : ℕ) (c : Candidate) → mount_choice site h t d ≡ Some c → c.tape < length site.tapes.items
choice_on_site site h t d c is =
    first_all (OnSite site) (candidates site h t d)
    (all_append (OnSite site) (candidates_by site h t d direction.Archive (range_with_len 0 (length site.pools.items))) (candidates_by site h t d direction.Retrieve (range_with_len 0 (length site.tapes.items)))
    (writes_on_site site h t d (range_with_len 0 (length site.pools.items)))
    (reads_on_site site h t d (range_with_len 0 (length site.tapes.items)) (range_below 0 (length site.tapes.items) (length site.tapes.items) (omega arith))))
    c is

mounted_by : (n m v : ℕ) (way : Direction) (c : Candidate) → answer.Mounted m way v ≡ answer.Mounted n c.direction c.tape → c.tape ≡ v
mounted_by n m v way c e = cc

pub mounted_free : (site : Site) (h : History) (t d m : ℕ) (way : Direction) (v : ℕ) → answer.Mounted m way v ≡ answer_of site h t (ask.Next d) → (v < length site.tapes.items) × (is_mounted h v ≡ false)
mounted_free site h t d m way v e =
    let at = moment_of h t in
    let x : Chosen (mount_choice site h at d) (length h + 1) (answer.Mounted m way v) = next_chosen site h t d (answer.Mounted m way v) e refl in
    let tape : x.0.tape ≡ v = mounted_by (length h + 1) m v way x.0 x.2 in (
      subst (λ n. n < length site.tapes.items) tape (choice_on_site site h at d x.0 x.1),
      subst (λ n. is_mounted h n ≡ false) tape (choice_all (λ way u. is_mounted h u ≡ false) site h at d (tape_free site h at d) x.0 x.1),
    )
