use Rattle.std.proofs.Common.{refl, ◌∙◌}
use Rattle.drive_session.specs.Table.{held_mount}
use Rattle.drive_session.proofs.Lawful.{flush_leads, flush_fails}
use Rattle.drive_session.proofs.Steps.{after, flush_fits, flush_safe, flush_charges, flush_fault_fits, only_fault, loaded_flush, flush_records, answered_by}
use Rattle.drive_session.proofs.Table.{flush_failed_row, flushed_row}
use Rattle.drive_session.proofs.writing.flush_step.Goals as goal

pub returns-in-Ok : goal.returns-in-Ok
returns-in-Ok g c = record {
  device = c.in-Ok.ensures.drive;
  read = tt;
  left = c.in-Ok.ensures.records;
  loaded = c.in-Ok.ensures.drive.loaded ∙ c.requires.loaded;
  waits = refl;
  table = flushed_row (held_mount c.args.x) c.args.b.items.items c.args.b.at c.requires.all;
  asked = refl;
  charged = tt;
  safe = flush_safe g.D.Medium.Told.told c.args.number c.args.x c.args.b c.flush.new.medium c.requires.all c.in-Ok.ensures.records c.requires.fits;
  kept = tt;
  lawful = flush_leads c.args.b.items.items c.args.b.at (after c.args.x c.flush.new.medium) c.requires.all c.requires.fits.1.1.state.batch.way;
  fits = flush_fits g.D.Medium.Told.told c.args.number c.args.x c.args.b c.flush.new.medium c.requires.all c.in-Ok.ensures.records;
}

pub returns-in-Err : goal.returns-in-Err
returns-in-Err g c =
    let fault = only_fault c.flush.result c.in-Err.field-0 c.in-Err.is c.flush.ensures.memory in
    let charges = flush_charges g.D.Medium.Told.told c.args.number c.args.x c.args.b c.of-charged.result c.of-returned.result c.of-charged.ensures.items (c.of-returned.ensures.items ∙ c.clear.ensures.items) c.requires.fits in
    rw c.leaving.ensures
    (record {
      device = answered_by _ _ _ _ _ fault c.flush.ensures.drive;
      read = tt;
      left = flush_records _ _ _ fault c.flush.ensures.records;
      loaded = loaded_flush _ _ _ c.flush.ensures.drive c.requires.loaded;
      waits = refl;
      table = flush_failed_row (held_mount c.args.x) c.args.b.items.items c.args.b.at _ _ c.requires.all charges;
      asked = refl;
      charged = charges;
      safe = tt;
      kept = tt;
      lawful = λ a k. (flush_fails c.args.b.items.items c.args.b.at c.requires.all, refl);
      fits = flush_fault_fits g.D.Medium.Told.told c.args.number c.args.x c.args.b c.flush.new.medium _ c.of-charged.result c.of-returned.result c.of-charged.ensures.items (c.of-returned.ensures.items ∙ c.clear.ensures.items) (flush_records _ _ _ fault c.flush.ensures.records);
    })
