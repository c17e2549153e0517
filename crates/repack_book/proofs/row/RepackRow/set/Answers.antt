use Rattle.std.proofs.Common.{◌∙◌, ap, List}
use Rattle.std.specs.Prelude.{◌==◌, ◌&&◌}
use Rattle.cta_model.specs.declared.states.RepackCopy.{RepackCopy}
use Rattle.repack_book.specs.NamedRepacks.{set_in}
use Rattle.repack_book.specs.States.{turned_if}
use Rattle.repack_book.proofs.Rows.{items_turned, known_turned}
use Rattle.repack_book.proofs.row.RepackRow.set.Goals as goal

pub returns : goal.returns
returns c =
    ap (λ (items : List RepackCopy). record { repack = record { tape = c.self.inside.tape; items = items }; vid = c.self.inside.vid; paths = c.self.inside.paths.items }) (items_turned c.self.inside.states.entries c.turn.new.states.entries c.self.inside.jobs.items c.args.file c.args.copy c.args.state c.turn.ensures)
    ∙ ap (set_in c.args.file c.args.copy c.args.state) c.self.view_is

pub invariant_of-self : goal.invariant_of-self
invariant_of-self c = record {
  known = known_turned c.self.inside.states.entries c.turn.new.states.entries c.self.inside.jobs.items (λ f k. turned_if (c.args.file == f && c.args.copy == k) c.args.state) c.turn.ensures c.self.invariant.known;
  low = c.self.invariant.low;
  named = c.self.invariant.named;
}
