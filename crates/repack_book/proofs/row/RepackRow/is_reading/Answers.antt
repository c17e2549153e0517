use Rattle.std.proofs.Common.{◌∙◌, ◌≡◌, sym, ap, rules, Some, None}
use Rattle.part_model.specs.Repacks.{is_reading}
use Rattle.repack_book.specs.NamedRepacks.{KeptRepack}
use Rattle.repack_book.specs.Live.{has_state}
use Rattle.repack_book.specs.States.{state_at}
use Rattle.repack_book.proofs.Rows.{any_known, low_copy, passes}
use Rattle.repack_book.proofs.row.RepackRow.is_reading.Goals as goal

pub returns-in-Some : goal.returns-in-Some
returns-in-Some c =
    let here : state_at c.self.inside.states.entries c.args.file c.args.copy ≡ Some c.in-Some.state = search rules in
    let is = ap (λ (k : KeptRepack). k.repack.items) c.self.view_is in
    record {
      is = c.reads.ensures ∙ ap (passes is_reading) (sym here) ∙ sym (any_known c.self.inside.states.entries c.self.inside.jobs.items c.args.file c.args.copy is_reading c.self.invariant.known) ∙ ap (has_state c.args.file c.args.copy is_reading) is;
      low = λ k h. low_copy c.self.inside.states.entries c.self.inside.jobs.items c.args.file k is_reading c.self.invariant.low (ap (has_state c.args.file k is_reading) is ∙ h);
    }

pub returns-in-None : goal.returns-in-None
returns-in-None c =
    let here : state_at c.self.inside.states.entries c.args.file c.args.copy ≡ None = search rules in
    let is = ap (λ (k : KeptRepack). k.repack.items) c.self.view_is in
    record {
      is = ap (passes is_reading) (sym here) ∙ sym (any_known c.self.inside.states.entries c.self.inside.jobs.items c.args.file c.args.copy is_reading c.self.invariant.known) ∙ ap (has_state c.args.file c.args.copy is_reading) is;
      low = λ k h. low_copy c.self.inside.states.entries c.self.inside.jobs.items c.args.file k is_reading c.self.invariant.low (ap (has_state c.args.file k is_reading) is ∙ h);
    }
