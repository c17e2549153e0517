use Rattle.part_laws.proofs.FileSizes as law
use Rattle.part_laws.proofs.sizes.files_fit_buffer.Goals as goal

pub returns : goal.returns
returns c = law.files_fit_buffer
