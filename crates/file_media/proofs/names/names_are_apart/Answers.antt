use Rattle.file_media.proofs.Dots.{lock_apart, parts_apart, records_apart, slashless}
use Rattle.file_media.proofs.names.names_are_apart.Goals as goal

pub returns-clause-records : goal.returns-clause-records
returns-clause-records c = records_apart

pub returns-clause-parts : goal.returns-clause-parts
returns-clause-parts c = parts_apart

pub returns-clause-lock : goal.returns-clause-lock
returns-clause-lock c = lock_apart

pub returns-clause-slash : goal.returns-clause-slash
returns-clause-slash c = slashless
