use Rattle.std.proofs.Common.{rules, ◌∙◌, sym, ap}
use Rattle.part_model.specs.Room.{Roomed}
use Rattle.part_model.specs.Mounts.{claimed}
use Rattle.open_mounts.specs.Table.{MountTable}
use Rattle.open_mounts.proofs.RowCalls.{claim-puts, claim-differ, claimed-none}
use Rattle.open_mounts.proofs.mounts.OpenMounts.claim.Goals as goal

pub returns-in_default-clause-rows : goal.returns-in_default-clause-rows
returns-in_default-clause-rows c = sym (claimed-none c.args.mount c.args.items c.args.self.now.value.rows (search rules))

pub invariant_of-self : goal.invariant_of-self
invariant_of-self c = claim-differ c.args.mount c.args.items c.self.inside.rows.items c.put_items.new.rows.items c.in-Some.at c.self.invariant (search rules) c.put_items.ensures.rows

pub returns-clause-rows : goal.returns-clause-rows
returns-clause-rows c =
    claim-puts c.args.mount c.args.items c.self.inside.rows.items c.put_items.new.rows.items c.in-Some.at c.self.invariant (search rules) c.put_items.ensures.rows
    ∙ ap (λ (v : Roomed MountTable). claimed c.args.mount c.args.items v.value.rows) c.self.view_is
