use Rattle.std.proofs.Common.{◌≡◌, ◌∙◌, ◌-◌, ℕ, ap, subst}
use Rattle.std.specs.Prelude.{◌==◌, ◌&&◌, if◌then◌else◌}
use Rattle.cta_site.specs.Lookups.{pool_of_tape, vo_of_pool}
use Rattle.cta_model.specs.declared.asks.Direction.{Direction}
use Rattle.cta_model.specs.declared.entries.Actor.TheVariants as actor
use Rattle.cta_model.specs.Mounts.{same_direction}
use Rattle.part_model.specs.Counts.{count_in}
use Rattle.drive_asks.proofs.EndedMounts.{end_called}
use Rattle.drive_asks.proofs.closing.drop_mount.Goals as goal

pub returns : goal.returns
returns c =
    let vo : c.vo_of_pool-vo.result ≡ vo_of_pool c.args.site.now (pool_of_tape c.args.site.now c.args.mounted.tape) = c.vo_of_pool-vo.ensures ∙ ap (vo_of_pool c.args.site.now) c.pool_of_tape.ensures in
    λ h t kept on is.
    end_called c.args.site.now h t c.args.mount c.args.fault (actor.Drive c.args.mounted.drive) c.args.mounted c.args.parts.now c.drop_row.new.mounts c.end_mount.new.self kept on is
    c.drop_row.ensures.rows c.drop_row.ensures.downs c.drop_row.ensures.drives
    (subst (λ (n : ℕ). (w : Direction) (v : ℕ) → count_in c.end_mount.new.self w v ≡ (if same_direction c.args.mounted.direction w && n == v then count_in c.args.parts.now.counts w v - 1 else count_in c.args.parts.now.counts w v)) vo c.end_mount.ensures.counts)
    c.end_mount.ensures.known
