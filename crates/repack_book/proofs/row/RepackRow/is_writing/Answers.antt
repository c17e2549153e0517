use Rattle.std.proofs.Common.{◌∙◌, ◌≡◌, sym, ap, rules, Some, None}
use Rattle.part_model.specs.Repacks.{is_writing}
use Rattle.repack_book.specs.NamedRepacks.{KeptRepack}
use Rattle.repack_book.specs.Live.{has_state}
use Rattle.repack_book.specs.States.{state_at}
use Rattle.repack_book.proofs.Rows.{any_known, passes}
use Rattle.repack_book.proofs.row.RepackRow.is_writing.Goals as goal

pub returns-in-Some : goal.returns-in-Some
returns-in-Some c =
    let here : state_at c.self.inside.states.entries c.args.file c.args.copy ≡ Some c.in-Some.state = search rules in
    c.writes.ensures ∙ ap (passes is_writing) (sym here) ∙ sym (any_known c.self.inside.states.entries c.self.inside.jobs.items c.args.file c.args.copy is_writing c.self.invariant.known) ∙ ap (has_state c.args.file c.args.copy is_writing) (ap (λ (k : KeptRepack). k.repack.items) c.self.view_is)

pub returns-in-None : goal.returns-in-None
returns-in-None c =
    let here : state_at c.self.inside.states.entries c.args.file c.args.copy ≡ None = search rules in
    ap (passes is_writing) (sym here) ∙ sym (any_known c.self.inside.states.entries c.self.inside.jobs.items c.args.file c.args.copy is_writing c.self.invariant.known) ∙ ap (has_state c.args.file c.args.copy is_writing) (ap (λ (k : KeptRepack). k.repack.items) c.self.view_is)
