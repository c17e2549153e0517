use Rattle.server_crew.proofs.serving.run_place.Goals as goal

pub run_passes-requires-clause-jobs : goal.run_passes-requires-clause-jobs
run_passes-requires-clause-jobs g c = λ lifetimes outlives k d within. (c.requires.site, c.requires.apart, c.requires.jobs k d within)
