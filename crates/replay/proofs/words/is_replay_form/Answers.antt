use Rattle.replay.proofs.Forms.{replay_spelled, longer_spelled, none_spelled}
use Rattle.replay.proofs.words.is_replay_form.Goals as goal

pub returns-in-Ok-Replay : goal.returns-in-Ok-Replay
returns-in-Ok-Replay c = replay_spelled _ c.in-Ok-Replay.field-0-0 (rw c.in-Ok-Replay.field-0-is at c.in-Ok-Replay.ensures)

pub returns-in-Ok-Serve : goal.returns-in-Ok-Serve
returns-in-Ok-Serve c = longer_spelled _ _ _ _ _ (rw c.in-Ok-Serve.field-0-is at c.in-Ok-Serve.ensures).0

pub returns-in-Ok-Mill : goal.returns-in-Ok-Mill
returns-in-Ok-Mill c = longer_spelled _ _ _ _ _ (rw c.in-Ok-Mill.field-0-is at c.in-Ok-Mill.ensures).0

pub returns-in-Ok-Durable : goal.returns-in-Ok-Durable
returns-in-Ok-Durable c = longer_spelled _ _ _ _ _ (rw c.in-Ok-Durable.field-0-is at c.in-Ok-Durable.ensures).0

pub returns-in-Err-Usage : goal.returns-in-Err-Usage
returns-in-Err-Usage c = none_spelled _ (rw c.in-Err-Usage.field-0-is at c.in-Err-Usage.ensures)
