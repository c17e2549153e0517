use Rattle.std.proofs.Common.{sym, subst}
use Rattle.cta_model.specs.Mounts.{tape_of_mount}
use Rattle.durable_opening.specs.Closing.{IsUntoldOf}
use Rattle.durable_opening.proofs.Closers.{closes_on}
use Rattle.durable_opening.proofs.Mounted.{tape_stays, untold_is}
use Rattle.durable_opening.proofs.closing.close_mount.Goals as goal

pub end_mount-requires-clause-medium : goal.end_mount-requires-clause-medium
end_mount-requires-clause-medium g c =
    let told = g.M.Told.told in
    let a = c.args.logged.now.archive in
    let b = c.give_back.new.logged.archive in
    let same = tape_stays a.site a.history b.history c.args.mount c.give_back.ensures.kept.1 c.requires.open in
    untold_is told b.history (tape_of_mount b.history c.args.mount) c.args.medium (subst (λ v. IsUntoldOf v (told c.args.medium)) (sym same) c.requires.medium)

pub returns-then-give_back-clause-kept : goal.returns-then-give_back-clause-kept
returns-then-give_back-clause-kept g c = closes_on c.args.logged.now.archive c.give_back.new.logged.archive c.end_mount.new.logged.archive c.give_back.ensures.kept c.end_mount.ensures.kept
