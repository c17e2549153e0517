use Rattle.load_mill.proofs.Digits.{digits_tell, none_is_big}
use Rattle.load_mill.proofs.paths.paths_differ.Goals as goal

pub returns-clause-files : goal.returns-clause-files
returns-clause-files c = digits_tell

pub returns-clause-big : goal.returns-clause-big
returns-clause-big c = none_is_big
