use Rattle.std.proofs.Common.{◌≡◌, ◌∙◌, ◌+◌, ◌<◌, ◌^◌, ℕ, ap, subst, sym}
use Rattle.std.specs.Prelude.{None, ◌==◌, ◌&&◌, if◌then◌else◌}
use Rattle.cta_site.specs.Lookups.{pool_of_tape, vo_of_pool}
use Rattle.cta_model.specs.declared.asks.Direction.{Direction}
use Rattle.cta_model.specs.Mounts.{same_direction}
use Rattle.part_model.specs.Counts.{count_in}
use Rattle.part_model.specs.Mounts.{opened}
use Rattle.drive_asks.proofs.OpenedMounts.{next_called}
use Rattle.drive_asks.proofs.opening.add_mount.Goals as goal

pub open_mount-requires-clause-few : goal.open_mount-requires-clause-few
open_mount-requires-clause-few c =
    let vo : c.vo_of_pool-vo.result ≡ vo_of_pool c.args.site.now (pool_of_tape c.args.site.now c.args.choice.tape) = c.vo_of_pool-vo.ensures ∙ ap (vo_of_pool c.args.site.now) c.pool_of_tape.ensures in
    subst (λ (n : ℕ). count_in c.args.parts.now.counts c.args.choice.direction n + 1 < 2 ^ 32) (sym vo) c.requires.few

pub returns : goal.returns
returns c =
    let vo : c.vo_of_pool-vo.result ≡ vo_of_pool c.args.site.now (pool_of_tape c.args.site.now c.args.choice.tape) = c.vo_of_pool-vo.ensures ∙ ap (vo_of_pool c.args.site.now) c.pool_of_tape.ensures in
    λ h t kept.
    next_called c.args.site.now h t c.args.drive c.args.mount c.args.choice.direction c.args.choice.tape c.args.parts.now c.open.new.self c.open_mount.new.self kept
    (subst (λ (n : ℕ). c.open.new.self.value.rows ≡ opened (record { number = c.args.mount; drive = c.args.drive; direction = c.args.choice.direction; tape = c.args.choice.tape; key = n; last = None }) c.args.parts.now.mounts.value.rows) c.key_of.ensures c.open.ensures.rows)
    c.open.ensures.downs c.open.ensures.drives
    (subst (λ (n : ℕ). (w : Direction) (v : ℕ) → count_in c.open_mount.new.self w v ≡ (if same_direction c.args.choice.direction w && n == v then count_in c.args.parts.now.counts w v + 1 else count_in c.args.parts.now.counts w v)) vo c.open_mount.ensures.counts)
    c.open_mount.ensures.known
