use Rattle.std.proofs.Common.{refl, ◌∙◌}
use Rattle.drive_session.specs.Lawful.{FailsLoad, Loads}
use Rattle.drive_session.proofs.Steps.{load_fits, held_fits, only_fault, answered_by}
use Rattle.drive_session.proofs.mounts.load_step.Goals as goal

pub returns-in-Ok : goal.returns-in-Ok
returns-in-Ok g c = record {
  device = c.in-Ok.ensures.drive;
  read = tt;
  left = c.load.ensures.records;
  loaded = c.in-Ok.ensures.drive.loaded;
  waits = refl;
  table = refl;
  asked = tt;
  charged = tt;
  safe = tt;
  kept = tt;
  lawful = λ a k. (Loads c.args.x.direction, refl);
  fits = held_fits g.D.Medium.Told.told c.args.number c.args.x c.load.new.medium c.load.ensures.records;
}

pub returns-in-Err : goal.returns-in-Err
returns-in-Err g c =
    let answered = answered_by _ _ _ _ _ (only_fault c.load.result c.in-Err.field-0 c.in-Err.is c.load.ensures.memory) c.load.ensures.drive in
    record {
      device = answered;
      read = tt;
      left = c.load.ensures.records;
      loaded = answered.loaded ∙ c.requires.loaded;
      waits = refl;
      table = refl;
      asked = refl;
      charged = tt;
      safe = tt;
      kept = tt;
      lawful = λ a k. (FailsLoad c.args.x.direction, refl);
      fits = load_fits g.D.Medium.Told.told c.args.number c.args.x c.load.new.medium _ _ tt c.load.ensures.records;
    }
