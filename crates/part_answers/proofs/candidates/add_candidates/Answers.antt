use Rattle.part_laws.specs.Choices.{candidate_told}
use Rattle.part_answers.proofs.Keys.{one_more}
use Rattle.part_answers.proofs.candidates.add_candidates.Goals as goal

pub loop-key-preserved : goal.loop-key-preserved
loop-key-preserved c =
    one_more (candidate_told c.args.site.now c.args.seen.now c.args.at c.args.drive c.args.direction) c.loop-key.key
    _ _ _ _ c.loop-key.invariant c.candidate_of.ensures c.in_ok-add_candidate.ensures
