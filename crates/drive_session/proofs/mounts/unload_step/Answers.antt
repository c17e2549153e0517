use Rattle.std.proofs.Common.{refl, true, false}
use Rattle.drive_session.specs.Lawful.{Unloads}
use Rattle.drive_session.proofs.Steps.{unload_fits, only_fault, answered_by}
use Rattle.drive_session.proofs.mounts.unload_step.Goals as goal

pub returns-in-Ok : goal.returns-in-Ok
returns-in-Ok g c = record {
  device = c.in-Ok.ensures.drive;
  read = tt;
  left = c.unload.ensures.records;
  loaded = c.unload.ensures.drive.loaded;
  waits = refl;
  table = refl;
  asked = refl;
  charged = tt;
  safe = tt;
  kept = tt;
  lawful = λ a k. (Unloads true, refl);
  fits = unload_fits g.D.Medium.Told.told c.args.number c.args.x c.unload.new.medium _ _ tt c.unload.ensures.records;
}

pub returns-in-Err : goal.returns-in-Err
returns-in-Err g c = record {
  device = answered_by _ _ _ _ _ (only_fault c.unload.result c.in-Err.field-0 c.in-Err.is c.unload.ensures.memory) c.unload.ensures.drive;
  read = tt;
  left = c.unload.ensures.records;
  loaded = c.unload.ensures.drive.loaded;
  waits = refl;
  table = refl;
  asked = refl;
  charged = tt;
  safe = tt;
  kept = tt;
  lawful = λ a k. (Unloads false, refl);
  fits = unload_fits g.D.Medium.Told.told c.args.number c.args.x c.unload.new.medium _ _ tt c.unload.ensures.records;
}
