use Rattle.std.proofs.Common.{◌≡◌, ◌+◌, length, refl, ap, arith, subst, sym, ◌∙◌}
use Rattle.media.specs.Made.{IsNewDrive}
use Rattle.archive_opening.proofs.Benches.{new_drives}
use Rattle.archive_opening.proofs.Numbered.{Numbered, numbered_more, numbered_none}
use Rattle.archive_opening.proofs.drives.drives_of.Goals as goal

pub loop-drive-init : goal.loop-drive-init
loop-drive-init g c = record {
  made = subst (Numbered (λ d x. IsNewDrive (g.B.Bench.tells c.args.bench.now) c.args.site.now d (g.D.TapeDrive.seen x)) 0) (sym c.new-drives.ensures.items)
      (numbered_none (λ d x. IsNewDrive (g.B.Bench.tells c.args.bench.now) c.args.site.now d (g.D.TapeDrive.seen x)));
  tells = refl;
}

pub loop-drive-preserved : goal.loop-drive-preserved
loop-drive-preserved g c =
    let h = c.loop-drive.invariant in
    let new : IsNewDrive (g.B.Bench.tells c.args.bench.now) c.args.site.now c.loop-drive.drive (g.D.TapeDrive.seen c.in_ok-made.made) =
    subst (λ tells. IsNewDrive tells c.args.site.now c.loop-drive.drive (g.D.TapeDrive.seen c.in_ok-made.made)) h.tells c.in_ok-made.ensures.made in
    record {
      made = subst (Numbered (λ d x. IsNewDrive (g.B.Bench.tells c.args.bench.now) c.args.site.now d (g.D.TapeDrive.seen x)) (c.loop-drive.drive + 1)) (sym c.in_ok-push.ensures.items)
          (numbered_more (λ d x. IsNewDrive (g.B.Bench.tells c.args.bench.now) c.args.site.now d (g.D.TapeDrive.seen x)) c.loop-drive.drive c.loop-drive.drives.items c.in_ok-made.made h.made new);
      tells = c.in_ok-made.ensures.tells ∙ h.tells;
    }

pub returns-clause-drives : goal.returns-clause-drives
returns-clause-drives g c =
    let all : c.loop-drive.drive ≡ length c.drives-drive-end.result.now = omega (arith, c.loop-drive-test.false, c.loop-drive.auto.drive-end) in
    let count : c.loop-drive.drive ≡ length c.args.site.now.drives.items = all ∙ ap length c.drives-drive-end.ensures in
    new_drives (g.B.Bench.tells c.args.bench.now) c.args.site.now g.D.TapeDrive.seen c.loop-drive.drives.items
    (subst (λ n. Numbered (λ d x. IsNewDrive (g.B.Bench.tells c.args.bench.now) c.args.site.now d (g.D.TapeDrive.seen x)) n c.loop-drive.drives.items) count c.loop-drive.invariant.made)
