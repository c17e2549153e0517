use Rattle.std.proofs.Common.{◌∙◌, sym, ap, not}
use Rattle.part_laws.specs.Sessions.{claims_told}
use Rattle.archive_state.proofs.KnownJobs.{both_claimed, first_unclaimed, second_unclaimed}
use Rattle.archive_state.proofs.faults.claims_once.Goals as goal

pub returns-then-not-claims_jobs : goal.returns-then-not-claims_jobs
returns-then-not-claims_jobs c = first_unclaimed (claims_told c.args.book.now.value c.args.mount) c.args.jobs.now c.args.others.now (sym c.claims_jobs.ensures ∙ c.if-not-claims_jobs.true)

pub returns-then-not-claims_jobs-2 : goal.returns-then-not-claims_jobs-2
returns-then-not-claims_jobs-2 c = second_unclaimed (claims_told c.args.book.now.value c.args.mount) c.args.jobs.now c.args.others.now (sym c.claims_jobs-2.ensures ∙ c.if-not-claims_jobs-2.true)

pub returns : goal.returns
returns c =
    ap not c.name_twice.ensures
    ∙ both_claimed (claims_told c.args.book.now.value c.args.mount) c.args.jobs.now c.args.others.now (sym c.claims_jobs.ensures ∙ c.if-not-claims_jobs.false) (sym c.claims_jobs-2.ensures ∙ c.if-not-claims_jobs-2.false)
