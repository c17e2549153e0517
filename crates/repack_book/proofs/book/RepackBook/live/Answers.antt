use Rattle.std.proofs.Common.{ap, ◌∙◌}
use Rattle.part_model.specs.Repacks.{is_live_in}
use Rattle.repack_book.specs.NamedRepacks.{NamedRepacks, repacks_of}
use Rattle.repack_book.proofs.Books.{live_tells}
use Rattle.repack_book.proofs.book.RepackBook.live.Goals as goal

pub returns : goal.returns
returns c = c.any_on.ensures ∙ live_tells c.self.inside.rows.entries c.self.inside.items.value c.self.inside.holders.value c.args.tape c.self.invariant ∙ ap (λ (v : NamedRepacks). is_live_in (repacks_of v) c.args.tape) c.self.view_is
