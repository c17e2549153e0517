-- Runs to refuse asks on.
use Rattle.std.specs.Prelude.{[], ◌∷◌, codes}
use Rattle.cta_model.specs.declared.asks.Ask.TheVariants as ask
use Rattle.cta_model.specs.History.{History}
use Rattle.cta_model.specs.Kept.{history_of}
use Rattle.cta_model.specs.Examples.{one_copy_site, put_a, put_of, stage_a}
use Rattle.cta_examples.specs.Sites.{short_site}

-- a history that may not weigh more
abbrev pub full : History
full = history_of short_site [] (put_of (codes "/atlas/a") 1 ∷ put_of (codes "/atlas/b") 1 ∷ [])

-- a file is staged, as entry 2
abbrev pub staged : History
staged = history_of one_copy_site [] (put_a ∷ stage_a 100 ∷ [])

-- a tape is mounted, as entry 2, and nothing is claimed yet
abbrev pub one_mounted : History
one_mounted = history_of one_copy_site [] (put_a ∷ (100, ask.Next 0) ∷ [])

-- two files are claimed by the mount 3
abbrev pub two_claimed : History
two_claimed = history_of one_copy_site [] (put_of (codes "/atlas/a") 5 ∷ put_of (codes "/atlas/b") 8 ∷ (100, ask.Next 0) ∷ (100, ask.Claim 3) ∷ [])
