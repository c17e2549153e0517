use Rattle.std.proofs.lemmas.List.{take_rest}
use Rattle.conn.proofs.Walks.{pass_on, pass_end, others, others_within}
use Rattle.conn.proofs.walk.has_cut.Goals as goal

pub messages-preserved : goal.messages-preserved
messages-preserved c = record {
  within = others_within c.args.bytes.now _ _ c.messages.invariant.within c.in-Some.ensures.within.0;
  passed = pass_on c.args.file_limit c.args.bytes.now _ _ _ c.messages.invariant.passed (take_rest c.args.bytes.now c.messages.at) c.in-Some.ensures.found
      (others c.args.bytes.now c.messages.at c.in-Some.used);
}

pub returns-in-None : goal.returns-in-None
returns-in-None c = pass_end c.args.file_limit c.args.bytes.now _ _ c.messages.invariant.passed (take_rest c.args.bytes.now c.messages.at) c.in-None.ensures.found
