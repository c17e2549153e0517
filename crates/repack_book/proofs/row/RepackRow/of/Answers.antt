use Rattle.std.proofs.Common.{ap, List}
use Rattle.cta_model.specs.declared.states.RepackCopy.{RepackCopy}
use Rattle.repack_book.proofs.Rows.{items_new}
use Rattle.repack_book.proofs.row.RepackRow.of.Goals as goal

pub returns : goal.returns
returns c = ap (λ (items : List RepackCopy). record { repack = record { tape = c.args.tape; items = items }; vid = c.args.vid; paths = c.args.paths.items }) (items_new c.args.states.entries c.args.jobs.items c.requires.states)
