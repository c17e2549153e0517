use Rattle.cta_model.specs.Stages.{request_of}
use Rattle.archive.proofs.Reported.{info_missing, info_there}
use Rattle.archive.proofs.stage_looks.stage_info.Goals as goal

pub returns-in-Some-clause-answer : goal.returns-in-Some-clause-answer
returns-in-Some-clause-answer g c at =
    info_there c.args.state.now.history c.args.id (request_of c.args.state.now.site c.args.state.now.history c.args.id) c.in_ok-info.field-0 c.in-Some.info c.in-Some.is c.in_ok-info.ensures

pub returns-in-None-clause-answer : goal.returns-in-None-clause-answer
returns-in-None-clause-answer g c at = info_missing c.args.state.now.history c.args.id (request_of c.args.state.now.site c.args.state.now.history c.args.id) c.in_ok-info.field-0 c.in-None.is c.in_ok-info.ensures
