use Rattle.std.proofs.Common.{refl}
use Rattle.drive_session.proofs.Lawful.{next_leads}
use Rattle.drive_session.proofs.mounts.next_step.Goals as goal

pub returns : goal.returns
returns g c = record {
  device = refl;
  read = tt;
  left = tt;
  loaded = c.requires;
  waits = refl;
  table = refl;
  asked = refl;
  charged = tt;
  safe = tt;
  kept = tt;
  lawful = next_leads;
  fits = λ site h fits. record { known = fits.known; asked = record { state = refl; asked = refl; hand = refl; drive = refl } };
}
