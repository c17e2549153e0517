use Rattle.std.proofs.Common.{refl, ◌∙◌, ap}
use Rattle.cta_model.specs.Mounts.{item_jobs}
use Rattle.drive_session.specs.Lawful.{Again}
use Rattle.drive_session.specs.Table.{held_mount}
use Rattle.drive_session.proofs.Steps.{begin_fits, begun_before}
use Rattle.drive_session.proofs.Table.{unbegun_row}
use Rattle.drive_session.proofs.writing.begin_step.Goals as goal

pub write_step-requires-clause-fits : goal.write_step-requires-clause-fits
write_step-requires-clause-fits g c = (c.requires.fits.0, (c.requires.fits.1.0, begin_fits g.D.Medium.Told.told c.args.number c.args.x (record { items = c.args.items; blobs = c.args.blobs; at = 0; jobs = c.in-Ok.jobs; one = c.in-Ok.one }) (c.in-Ok.ensures.0 ∙ ap item_jobs c.as_slice.ensures) c.in-Ok.ensures.1 refl c.requires.fits.0 c.requires.fits.1.0 c.requires.fits.1.1))

pub returns-in-Ok : goal.returns-in-Ok
returns-in-Ok g c =
    let w = c.write_step.ensures in
    record {
      device = w.device;
      read = w.read;
      left = w.left;
      loaded = w.loaded;
      waits = w.waits;
      table = w.table;
      asked = w.asked;
      charged = w.charged;
      safe = w.safe;
      kept = begun_before g.D.Medium.Told.told c.args.x (record { items = c.args.items; blobs = c.args.blobs; at = 0; jobs = c.in-Ok.jobs; one = c.in-Ok.one }) _ _ refl w.kept;
      lawful = w.lawful;
      fits = λ site h fits. w.fits site h (begin_fits g.D.Medium.Told.told c.args.number c.args.x (record { items = c.args.items; blobs = c.args.blobs; at = 0; jobs = c.in-Ok.jobs; one = c.in-Ok.one }) (c.in-Ok.ensures.0 ∙ ap item_jobs c.as_slice.ensures) c.in-Ok.ensures.1 refl site h fits);
    }

pub returns-in-Err : goal.returns-in-Err
returns-in-Err g c = record {
  device = refl;
  read = tt;
  left = refl;
  loaded = c.requires.loaded;
  waits = refl;
  table = unbegun_row (held_mount c.args.x) c.args.items.items c.requires.fits.1.1.state.some;
  asked = tt;
  charged = tt;
  safe = tt;
  kept = (record { mount = refl; direction = refl; tape = refl; medium = refl }, refl, refl);
  lawful = λ a k. (Again _, tt);
  fits = λ site h fits. fits;
}
