use Rattle.std.proofs.Common.{◌≡◌, subst, sym, Some, ◌<◌, length}
use Rattle.std.specs.Prelude.{slice_get, slice_index_or}
use Rattle.repack_book.specs.NamedRepacks.{KeptRepack}
use Rattle.repack_book.specs.Reports.{items_told}
use Rattle.repack_book.proofs.Told.{told_row, no_job}
use Rattle.repack_book.proofs.row.RepackRow.item.Goals as goal

pub returns : goal.returns
returns c =
    let few : c.args.at < length c.self.inside.paths.items = subst (λ (k : KeptRepack). c.args.at < length k.paths) (sym c.self.view_is) c.requires in
    subst (λ (k : KeptRepack). slice_get (items_told k.repack.items k.paths) c.args.at ≡ Some (record { path = c.in_ok-path.path; copy = (slice_index_or c.as_slice.result.now c.args.at no_job).copy; state = c.state_of-state.result })) c.self.view_is
    (told_row c.self.inside.states.entries c.self.inside.jobs.items c.as_slice.result.now c.self.inside.paths.items c.as_slice-2.result.now c.args.at c.state_of-state.result c.index-as_slice-at.result c.in_ok-path.path
    c.as_slice.ensures c.as_slice-2.ensures few c.self.invariant.named c.state_of-state.ensures c.index-as_slice-at.is c.in_ok-path.ensures)
