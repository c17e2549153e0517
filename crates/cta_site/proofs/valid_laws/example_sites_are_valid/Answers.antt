use Rattle.cta_site.proofs.Examples.{small_is_valid, large_is_valid}
use Rattle.cta_site.proofs.valid_laws.example_sites_are_valid.Goals as goal

pub returns-clause-small : goal.returns-clause-small
returns-clause-small c = small_is_valid

pub returns-clause-large : goal.returns-clause-large
returns-clause-large c = large_is_valid
