-- What an ask of an archive with a journal leaves, and what it has to be.
use Rattle.std.proofs.Common.{◌≡◌, ◌∙◌, ◌≤◌, ◌<◌, ℕ, inl, inr, Bool, true, false, List, [], ◌∷◌, ap, refl, sym, arith, length}
use Rattle.std.specs.Prelude.{Err, None, Ok, Option, Some, option_map}
use Rattle.std.proofs.lemmas.List.{nil_from_length}
use Rattle.std.proofs.lemmas.Option.{same_Some}
use Rattle.blob.specs.Records.{MediumView}
use Rattle.cta_site.specs.declared.site.Site.{Site}
use Rattle.cta_site.specs.Listed.{Listed}
use Rattle.cta_model.specs.declared.answers.Answer.{Answer}
use Rattle.cta_model.specs.declared.asks.Ask.{Ask}
use Rattle.cta_model.specs.declared.asks.Ask.TheVariants as ask
use Rattle.cta_model.specs.declared.asks.Direction.{Direction}
use Rattle.cta_model.specs.declared.asks.Job.{Job}
use Rattle.cta_model.specs.declared.hands.Hand.{Hand}
use Rattle.cta_model.specs.declared.hands.Hand.TheVariants as hand
use Rattle.cta_model.specs.declared.states.Mount.{Mount}
use Rattle.cta_model.specs.Bare.{bare_ask}
use Rattle.cta_model.specs.History.{History}
use Rattle.cta_model.specs.Kept.{Kept}
use Rattle.cta_model.specs.Legal.{IsLegal, IsMount, IsMountOf, greatest_moment}
use Rattle.cta_model.specs.Media.{IsMediumOf}
use Rattle.cta_model.specs.declared.asks.Item.{Item}
use Rattle.cta_model.specs.Mounts.{claimed_items, has_job, is_open, item_jobs, mount_of, same_job, tape_of_mount}
use Rattle.cta_laws.proofs.JobLists.{job_self}
use Rattle.cta_laws.proofs.Tests.{or_left}
use Rattle.cta_laws.proofs.MountLaw.{open_there}
use Rattle.archive_state.proofs.ItemJobs.{members}
use Rattle.archive_state.specs.ClaimedJobs.{claimed_jobs, claimed_of}
use Rattle.archive_turns.specs.declared.calls.ArchiveCall.TheVariants as call
use Rattle.archive_turns.specs.declared.calls.ArchiveBack.{ArchiveBack}
use Rattle.archive_turns.specs.declared.calls.ArchiveBack.TheVariants as archives
use Rattle.archive_turns.specs.Fits.{CanPlay}
use Rattle.archive_turns.specs.Plays.{AskPlays, history_with}
use Rattle.durable_archive.specs.declared.back.LoggedBack.{LoggedBack}
use Rattle.durable_archive.specs.declared.back.LoggedBack.TheVariants as back
use Rattle.durable_archive.specs.declared.back.CloseCause.{CloseCause}
use Rattle.durable_archive.specs.Journaled.{LoggedView}
use Rattle.durable_archive.specs.Turns.{ClosedKeeps, LoggedKeeps, MovesBy}
use Rattle.durable_opening.specs.Closing.{Leaves, asked_history, fault_by}
use Rattle.durable_opening.proofs.Closers.{fault_fits}

module _ {M : Type 0} (told : M → MediumView) where
  as_asked : (site : Site) (h : History) (t : ℕ) (k : Ask) (in_hand : Hand M) (a : Answer) (out : Hand M) (later : History) → AskPlays told site h t k in_hand a out later → later ≡ asked_history site h t k
  as_asked site h t k in_hand a out later plays = plays.left ∙ ap (history_with h t (bare_ask k)) plays.answered

  -- an answer came
  pub left_told : (old new : Kept) (t : ℕ) (k : Ask) (in_hand : Hand M) (a : Answer) (out : Hand M) → LoggedKeeps told old (call.Ask t k in_hand) (back.Answered (archives.Ask (Ok (a, out)))) new → Leaves old.site old.history t k new.history true
  left_told old new t k in_hand a out keeps = as_asked old.site old.history t k in_hand a out new.history keeps.0

  -- whatever came
  pub left_anyhow : (old new : Kept) (t : ℕ) (k : Ask) (in_hand : Hand M) (b : LoggedBack M) → LoggedKeeps told old (call.Ask t k in_hand) b new → Leaves old.site old.history t k new.history false
  left_anyhow old new t k in_hand (back.Answered (archives.Ask (Ok (a, out)))) keeps = inr (as_asked old.site old.history t k in_hand a out new.history keeps.0)
  left_anyhow old new t k in_hand (back.Answered (archives.Ask (Err (none, again, out)))) keeps = inl keeps.0.0
  left_anyhow old new t k in_hand (back.Answered (archives.Look r)) keeps = absurd keeps.0
  left_anyhow old new t k in_hand (back.Closed why out added) keeps = by added.value keeps
    where
      by : (b : Bool) → ClosedKeeps told b old (call.Ask t k in_hand) out new → Leaves old.site old.history t k new.history false
      by true kept = inr (as_asked old.site old.history t k in_hand kept.0 out new.history kept.2)
      by false kept = inl (ap (λ (x : Kept). x.history) kept.0)

  -- a journal whose call was answered is as open as before
  pub still_open : {K : Type 0} (faults : K → ℕ) (closed : Option CloseCause) (old new : LoggedView K) (b : ArchiveBack M) → MovesBy faults closed old (back.Answered b) new → new.closed ≡ closed
  still_open faults None old new b moves = moves
  still_open faults (Some why) old new b moves = absurd moves

  -- a Failed that gives back what an open mount claims
  pub can_fail : (site : Site) (h : History) (t m : ℕ) (way : Direction) (charged returned : Listed Job) → t ≤ greatest_moment → IsMountOf way (mount_of h m) → 0 < length returned.items → CanPlay told site h (call.Ask t (ask.Failed m (fault_by way) charged returned) hand.Nothing)
  can_fail site h t m way charged returned within mount some = (within, (fault_fits way (mount_of h m) mount, omega (arith, some)), tt)

  is_mount : (o : Option Mount) (x : Mount) → o ≡ Some x → IsMount o
  is_mount None x is = absurd (cc)
  is_mount (Some y) x is = tt

  -- the End of an open mount
  pub can_end : (site : Site) (h : History) (t m : ℕ) (x : M) → IsLegal site h → t ≤ greatest_moment → is_open h m ≡ true → IsMediumOf h (tape_of_mount h m) (told x) → CanPlay told site h (call.Ask t (ask.End m None) (hand.Medium x))
  can_end site h t m x legal within on medium = (let there = open_there site h legal m on in (within, (is_mount (mount_of h m) there.0 there.1, tt), medium))

-- ---- what is told of an open mount

pub told_claims : (site : Site) (h : History) (m : ℕ) (way : Direction) (jobs : List Job) → is_open h m ≡ true → ◌≡◌ {A = Option (Direction × List Job)} (Some (way, jobs)) (claimed_of site h m) → IsMountOf way (mount_of h m) × (jobs ≡ claimed_jobs site h m)
told_claims site h m way jobs on is = by (mount_of h m) (rw on at is)
  where
    by : (o : Option Mount) → ◌≡◌ {A = Option (Direction × List Job)} (Some (way, jobs)) (option_map (λ (x : Mount). (x.direction, claimed_jobs site h m)) o) → IsMountOf way o × (jobs ≡ claimed_jobs site h m)
    by None e = absurd (cc)
    by (Some x) e = (let same = same_Some {A = Direction × List Job} (way, jobs) (x.direction, claimed_jobs site h m) e in (sym (ap (λ (p : Direction × List Job). p.0) same), ap (λ (p : Direction × List Job). p.1) same))

pub nothing_told : (site : Site) (h : History) (m : ℕ) → IsLegal site h → is_open h m ≡ true → ◌≡◌ {A = Option (Direction × List Job)} None (claimed_of site h m) → ⊥
nothing_told site h m legal on is = (let there = open_there site h legal m on in let some = rw (on, there.1) at is in absurd (cc))

-- a mount of which no job is told claims nothing
pub told_none : (site : Site) (h : History) (m : ℕ) (jobs : List Job) → IsLegal site h → jobs ≡ claimed_jobs site h m → length jobs ≡ 0 → claimed_items h m ≡ []
told_none site h m jobs legal is few = by (claimed_items h m) refl
  where
    by : (items : List Item) → claimed_items h m ≡ items → claimed_items h m ≡ []
    by [] e = e
    by (i ∷ items) e =
        let claimed : has_job i.job (item_jobs (claimed_items h m)) ≡ true = ap (λ (xs : List Item). has_job i.job (item_jobs xs)) e ∙ or_left (same_job i.job i.job) (has_job i.job (item_jobs items)) (job_self i.job) in
        let there : has_job i.job (claimed_jobs site h m) ≡ true = members site h legal m i.job ∙ claimed in
        let none : claimed_jobs site h m ≡ [] = sym is ∙ nil_from_length jobs few in
        let bad : false ≡ true = sym (ap (has_job i.job) none) ∙ there in
        absurd (cc)
