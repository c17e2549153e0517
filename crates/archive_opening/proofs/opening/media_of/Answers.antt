use Rattle.std.proofs.Common.{◌≡◌, ◌+◌, length, refl, ap, arith, subst, sym, ◌∙◌}
use Rattle.media.specs.Made.{IsNewMedium}
use Rattle.archive_opening.proofs.Benches.{new_media}
use Rattle.archive_opening.proofs.Numbered.{Numbered, numbered_more, numbered_none}
use Rattle.archive_opening.proofs.opening.media_of.Goals as goal

pub loop-tape-init : goal.loop-tape-init
loop-tape-init g c = record {
  made = subst (Numbered (λ v m. IsNewMedium (g.B.Bench.tells c.args.bench.now) v (g.D.Medium.Told.told m)) 0) (sym c.new-media.ensures.items)
      (numbered_none (λ v m. IsNewMedium (g.B.Bench.tells c.args.bench.now) v (g.D.Medium.Told.told m)));
  tells = refl;
}

pub loop-tape-preserved : goal.loop-tape-preserved
loop-tape-preserved g c =
    let h = c.loop-tape.invariant in
    let new : IsNewMedium (g.B.Bench.tells c.args.bench.now) c.loop-tape.tape (g.D.Medium.Told.told c.in_ok-medium.medium) =
    subst (λ tells. IsNewMedium tells c.loop-tape.tape (g.D.Medium.Told.told c.in_ok-medium.medium)) h.tells c.in_ok-medium.ensures.made in
    record {
      made = subst (Numbered (λ v m. IsNewMedium (g.B.Bench.tells c.args.bench.now) v (g.D.Medium.Told.told m)) (c.loop-tape.tape + 1)) (sym c.in_ok-push.ensures.items)
          (numbered_more (λ v m. IsNewMedium (g.B.Bench.tells c.args.bench.now) v (g.D.Medium.Told.told m)) c.loop-tape.tape c.loop-tape.media.items c.in_ok-medium.medium h.made new);
      tells = c.in_ok-medium.ensures.tells ∙ h.tells;
    }

pub returns-clause-media : goal.returns-clause-media
returns-clause-media g c =
    let all : c.loop-tape.tape ≡ length c.tapes-tape-end.result.now = omega (arith, c.loop-tape-test.false, c.loop-tape.auto.tape-end) in
    let count : c.loop-tape.tape ≡ length c.args.site.now.tapes.items = all ∙ ap length c.tapes-tape-end.ensures in
    new_media (g.B.Bench.tells c.args.bench.now) c.args.site.now g.D.Medium.Told.told c.loop-tape.media.items
    (subst (λ n. Numbered (λ v m. IsNewMedium (g.B.Bench.tells c.args.bench.now) v (g.D.Medium.Told.told m)) n c.loop-tape.media.items) count c.loop-tape.invariant.made)
