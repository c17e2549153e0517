use Rattle.std.specs.Prelude.{refl, []}
use Rattle.cta_examples.specs.Writing.{deleted_while_claimed, stale_and_done}
use Rattle.cta_model.specs.Examples.{one_copy_site}
use Rattle.cta_model.specs.Legal.{IsLegal}
use Rattle.cta_model.proofs.Runs.{replay_is_legal}
use Rattle.cta_examples.proofs.writing.stale_item_keeps_its_bytes.Goals as goal

legal-deleted_while_claimed : IsLegal one_copy_site deleted_while_claimed
legal-deleted_while_claimed = replay_is_legal one_copy_site [] deleted_while_claimed tt refl refl

pub returns-clause-deleted : goal.returns-clause-deleted
returns-clause-deleted c = legal-deleted_while_claimed

pub returns-clause-flushed : goal.returns-clause-flushed
returns-clause-flushed c = replay_is_legal one_copy_site deleted_while_claimed stale_and_done legal-deleted_while_claimed refl refl
