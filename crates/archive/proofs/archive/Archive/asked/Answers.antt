use Rattle.archive.proofs.Plays.{asked, keeps}
use Rattle.archive.proofs.archive.Archive.asked.Goals as goal

pub returns-clause-returns : goal.returns-clause-returns
returns-clause-returns g c = asked g.M.Told.told c.args.self.now c.ask.new.self c.args.at c.args.ask c.args.hand c.ask.result c.ask.ensures.answer c.ask.ensures.kept c.ask.ensures.hand c.ask.ensures.back c.ask.ensures.same

pub returns-clause-kept : goal.returns-clause-kept
returns-clause-kept g c = keeps g.M.Told.told c.args.self.now c.ask.new.self c.args.at c.args.ask c.args.hand c.ask.result c.ask.ensures.kept c.ask.ensures.same
