-- How asks that bear jobs move the job book and the queues.
use Rattle.std.specs.Prelude.{ℕ, length, List, None, true, false, [], ◌+◌, ◌∷◌, ◌≡◌}
use Rattle.cta_model.specs.Answers.{names_twice}
use Rattle.cta_model.specs.History.{History}
use Rattle.cta_model.specs.Jobs.{live_birth}
use Rattle.cta_model.specs.Legal.{IsLegal}
use Rattle.cta_model.specs.Mounts.{has_copy}
use Rattle.cta_model.specs.declared.asks.Job.{Job}
use Rattle.cta_model.specs.declared.asks.Wanted.{Wanted}
use Rattle.cta_model.specs.declared.asks.Who.{Who}
use Rattle.cta_model.specs.declared.entries.Entry.{Entry}
use Rattle.cta_site.specs.Listed.{Listed}
use Rattle.cta_site.specs.declared.site.Site.{Site}
use Rattle.cta_model.specs.declared.answers.Answer.TheVariants as answer
use Rattle.cta_model.specs.declared.asks.Ask.TheVariants as ask
use Rattle.part_laws.specs.JobParts.{JobParts, JobPartsStand}
use Rattle.part_laws.specs.BirthParts.{after_births, after_stage}
use Rattle.cta_laws.specs.Changes.{may_change_claims, may_change_keys, may_change_mounts}
use Rattle.part_laws.specs.Queued.{AreBornBy}
use Rattle.part_model.specs.JobBook.{TellSame, bear_jobs, subscribe_files}
use Rattle.part_laws.specs.QueueBooks.{book_of}
use Rattle.part_laws.specs.Births.{files_of, recalled, repack_births}

-- a Stage bears recalls, and waits for those that are live
abbrev pub StageMovesParts : Type 0
StageMovesParts =
    (site : Site) (h : History) (e : Entry) (who : Who) (wanted : Listed Wanted) (p : JobParts) → IsLegal site (e ∷ h)
    → e.ask ≡ ask.Stage who wanted → JobPartsStand site h p → JobPartsStand site (e ∷ h) (after_stage site h (e ∷ h) e.ask wanted.items p)

-- an entry that bears jobs puts them into the queues of their keys
abbrev pub BirthsMoveParts : Type 0
BirthsMoveParts =
    (site : Site) (h : History) (e : Entry) (born : List Job) (files : List ℕ) (p : JobParts) → IsLegal site (e ∷ h)
    → TellSame (bear_jobs born (length h + 1) (subscribe_files files (length h + 1) (book_of site h))) (book_of site (e ∷ h))
    → AreBornBy (length h + 1) born → names_twice born ≡ false → ((f c : ℕ) → has_copy f c born ≡ true → live_birth site h f c ≡ None)
    → may_change_claims e.ask ≡ false → may_change_keys e.ask ≡ false → may_change_mounts e.ask ≡ false → JobPartsStand site h p
    → JobPartsStand site (e ∷ h) (after_births site (e ∷ h) born files p)

-- a Repack bears recalls of the files that are not resident and archive jobs of the copies of those that are
abbrev pub RepackMovesParts : Type 0
RepackMovesParts =
    (site : Site) (h : History) (e : Entry) (who : Who) (v id : ℕ) (items : Listed Job) (p : JobParts) → IsLegal site (e ∷ h)
    → e.ask ≡ ask.Repack who v → e.answer ≡ answer.Repacking id items → JobPartsStand site h p
    → JobPartsStand site (e ∷ h) (after_births site (e ∷ h) (repack_births site h e.ask (length h + 1) items.items) (recalled site h (files_of items.items [])) p)

-- a Retry bears the jobs that it is told
abbrev pub RetryMovesParts : Type 0
RetryMovesParts =
    (site : Site) (h : History) (e : Entry) (who : Who) (paths : Listed (List ℕ)) (jobs : Listed Job) (p : JobParts) → IsLegal site (e ∷ h)
    → e.ask ≡ ask.Retry who paths → e.answer ≡ answer.Retried jobs → JobPartsStand site h p
    → JobPartsStand site (e ∷ h) (after_births site (e ∷ h) jobs.items [] p)
