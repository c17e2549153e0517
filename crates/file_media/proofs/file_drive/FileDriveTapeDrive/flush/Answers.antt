use Rattle.std.proofs.Common.{refl, arith}
use Rattle.file_media.proofs.file_drive.FileDriveTapeDrive.flush.Goals as goal

pub returns-then-not-self-clause-records : goal.returns-then-not-self-clause-records
returns-then-not-self-clause-records g c = (λ t. t.safe, λ t. omega arith, refl)
