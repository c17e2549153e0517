use Rattle.replay.proofs.Writing.{output_on-append, after-append}
use Rattle.replay.proofs.laws.outputs_follow.Goals as goal

pub returns : goal.returns
returns c = λ kept first more. (output_on-append kept first more, after-append kept first more)
