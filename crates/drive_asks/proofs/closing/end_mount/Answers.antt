use Rattle.std.proofs.Common.{◌≡◌, ◌<◌, ◌∷◌, ℕ, true, length, arith, subst}
use Rattle.std.specs.Prelude.{Some}
use Rattle.cta_model.specs.declared.answers.Answer.TheVariants as answer
use Rattle.cta_model.specs.declared.asks.Ask.TheVariants as ask
use Rattle.cta_model.specs.declared.entries.Actor.TheVariants as actor
use Rattle.cta_model.specs.declared.states.Mount.{Mount}
use Rattle.cta_model.specs.History.{History, moment_of}
use Rattle.cta_model.specs.Legal.{new_entry}
use Rattle.cta_model.specs.Mounts.{is_open, mount_of}
use Rattle.archive_parts.specs.Called.{AreKeptCalled}
use Rattle.archive_parts.proofs.Behind.{carried_behind}
use Rattle.drive_asks.proofs.EndedMounts.{drive_asks, drive_of_site, end_answered, end_is_open}
use Rattle.part_moves.proofs.MountRows.{row_there}
use Rattle.drive_asks.proofs.closing.end_mount.Goals as goal

pub mount_at-mounted-requires : goal.mount_at-mounted-requires
mount_at-mounted-requires c =
    row_there c.args.site.now c.args.history.now.value c.args.parts.now.mounts.value.rows c.args.mount c.requires.kept.stand.mounts
    (end_is_open c.args.site.now c.args.history.now.value c.args.at c.args.mount c.args.fault c.requires.accepted)

pub drop_mount-requires : goal.drop_mount-requires
drop_mount-requires c =
    let is : mount_of c.args.history.now.value c.args.mount ≡ Some c.mount_at-mounted.result = c.mount_at-mounted.ensures c.args.site.now c.args.history.now.value c.requires.kept.stand.mounts in
    let low : c.mount_at-mounted.result.drive < length c.args.site.now.drives.items = drive_of_site c.args.site.now c.args.history.now.value c.args.mount c.mount_at-mounted.result c.requires.legal is in
    let all : c.args.parts.now.mounts.value.drives ≡ length c.args.site.now.drives.items = c.requires.kept.fit.drives in
    omega arith

pub returns : goal.returns
returns c =
    let h : History = c.args.history.now.value in
    let x : Mount = c.mount_at-mounted.result in
    let is : mount_of h c.args.mount ≡ Some x = c.mount_at-mounted.ensures c.args.site.now h c.requires.kept.stand.mounts in
    let on : is_open h c.args.mount ≡ true = end_is_open c.args.site.now h c.args.at c.args.mount c.args.fault c.requires.accepted in
    record {
      carried =
          carried_behind c.args.site.now h c.append.new.self.value c.args.at (ask.End c.args.mount c.args.fault) answer.Done c.args.parts.now c.drop_mount.new.parts c.kept_parts_move.ensures c.requires
          (end_answered c.args.site.now h c.args.at c.args.mount c.args.fault c.requires.accepted)
          (subst (λ (d : ℕ). AreKeptCalled c.args.site.now h (record { at = moment_of h c.args.at; actor = actor.Drive d; ask = ask.End c.args.mount c.args.fault; answer = answer.Done }) c.args.parts.now c.drop_mount.new.parts)
          (drive_asks h c.args.mount x is) (c.drop_mount.ensures h (moment_of h c.args.at) c.requires.kept on is))
          (subst (λ (g : History). c.append.new.self.value ≡ new_entry g c.args.at (ask.End c.args.mount c.args.fault) answer.Done ∷ g) c.in_ok-reserve.ensures.value c.append.ensures);
    }
