use Rattle.std.proofs.Common.{Bool, subst}
use Rattle.std.specs.Prelude.{option_map}
use Rattle.cta_model.specs.Hands.{sum_of_blob}
use Rattle.archive_restore.specs.Contents.{AreContents, HasContent}
use Rattle.archive_restore.proofs.Made.{not_held}
use Rattle.archive_restore.proofs.replayer.Replayer.may_take.Goals as goal

pub returns-clause-wrong : goal.returns-clause-wrong
returns-clause-wrong c = λ no.
    let kept = c.args.kept.now in
    let archive = c.args.self.now.archive in
    let are : AreContents archive.history c.deref.result.now = rw c.deref.ensures.value c.requires in
    not_held archive.site archive.history kept c.keeps_history.ensures
    (subst (λ (b : Bool). HasContent b archive.history kept.entry.ask kept.entry.answer (option_map sum_of_blob kept.blob)) no (c.has_content.ensures archive.history are))
