-- A run over a bench that tells its plans and its records.
use Rattle.std.specs.Prelude.{List, true}
use Rattle.cta_site.specs.declared.site.Site.{Site}
use Rattle.replay.specs.Outcome.{AreMade}
use Rattle.replay.specs.Output.{HaveContents}
use Rattle.replay.specs.Promises.{AreSound}
use Rattle.replay.specs.Run.{ScriptTurn, all_happenings}
use Rattle.replay.specs.Steps.{Made, begun_with}
use Rattle.run_laws.specs.Changed.{AreChangesTold}

-- a run from its start over what a bench that tells has made: the contents and steps are those of the archive and the tables, each step is sound, and an altered read is told
pub record IsToldRun (site : Site) (made : Made) (turns : List ScriptTurn) : Type 0 where
  pub made_so : AreMade true site made
  pub contents : HaveContents (begun_with site made) (all_happenings turns)
  pub sound : AreSound (begun_with site made) (all_happenings turns)
  pub changes : AreChangesTold (begun_with site made) (all_happenings turns)
