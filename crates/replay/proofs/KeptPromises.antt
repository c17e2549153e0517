-- What a run keeps from its start, by what each of its steps keeps.
use Rattle.std.proofs.Common.{sym, subst}
use Rattle.std.specs.List.{AllByRecursion}
use Rattle.cta_model.specs.Kept.{KeepsLegal}
use Rattle.cta_laws.specs.Jobs.{ClaimerMoves, IsQueuedOrClaimed}
use Rattle.cta_laws.specs.Mounts.{ClaimsNothingAfterEnd}
use Rattle.cta_laws.specs.Media.{TrueMediumStays}
use Rattle.cta_laws.proofs.Held.{legal_histories_hold}
use Rattle.tape_routes.specs.Callers.{CallersAsk}
use Rattle.replay.specs.Laws.{LiveReadsAreDone, RunsKeepPromises}
use Rattle.replay.specs.Output.{after}
use Rattle.replay.specs.Run.{all_happenings}
use Rattle.replay.specs.Steps.{begun_with}
use Rattle.replay.proofs.Histories.{legal_histories, turns_timely}
use Rattle.replay.proofs.Promised.{all_media, fitly}
use Rattle.replay.proofs.Returned.{leaves_none, returns_jobs}
use Rattle.replay.proofs.Rightly.{reads_rightly}
use Rattle.replay.proofs.TrueMedia.{first_have_media}

pub promises_kept : KeepsLegal → CallersAsk → TrueMediumStays → IsQueuedOrClaimed → ClaimerMoves → ClaimsNothingAfterEnd → LiveReadsAreDone → RunsKeepPromises
promises_kept keeps callers stays queued moves closed reads tells site made records turns each run new sound =
    let first = begun_with site made in
    let all = all_happenings turns in
    let legal = legal_histories keeps callers site made records turns each run (fitly first all sound) in
    record {
      legal = legal;
      laws = legal_histories_hold site (after first all).history legal;
      media = all_media keeps callers stays first all sound (turns_timely site turns (subst (AllByRecursion _) (sym run.0) each)) tt (first_have_media tells site made new.media);
      returned = returns_jobs queued moves site (after first all).history legal;
      left = leaves_none closed queued site (after first all).history legal;
      honest = λ told d v is honest. reads_rightly callers reads tells site made new told d v is honest all sound;
    }
