use Rattle.std.proofs.Common.{refl}
use Rattle.drive_session.proofs.Lawful.{claim_leads}
use Rattle.drive_session.proofs.mounts.claim_step.Goals as goal

pub returns-clause-step : goal.returns-clause-step
returns-clause-step g c = record {
  device = refl;
  read = tt;
  left = refl;
  loaded = c.requires.loaded;
  waits = refl;
  table = refl;
  asked = refl;
  charged = tt;
  safe = tt;
  kept = tt;
  lawful = claim_leads c.args.x;
  fits = λ site h fits. record { known = fits.known; asked = record { mounted = c.args.x; state = refl; asked = refl; hand = refl; mount = refl; rest = fits.state } };
}
