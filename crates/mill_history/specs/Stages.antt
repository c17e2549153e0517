-- What a history says of Stages.
use Rattle.std.specs.Prelude.{ℕ, List, [], ◌∷◌, Option, Some, None, map}
use Rattle.cta_model.specs.declared.asks.Ask.{Ask}
use Rattle.cta_model.specs.declared.asks.Ask.TheVariants as ask
use Rattle.cta_model.specs.declared.asks.Wanted.{Wanted}
use Rattle.cta_model.specs.History.{History, next_number}

-- the path of a file that is wanted
abbrev pub wanted_path : Wanted → List ℕ
wanted_path w = w.path

-- the paths that a Stage names, in its order
abbrev pub staged_in : Ask → Option (List (List ℕ))
staged_in (ask.Stage who files) = Some (map wanted_path files.items)
staged_in _ = None

-- a Stage joins those before it
abbrev pub stages_by : Option (List (List ℕ)) → ℕ → List (ℕ × List (List ℕ)) → List (ℕ × List (List ℕ))
stages_by None n before = before
stages_by (Some paths) n before = (n, paths) ∷ before

-- the Stages, newest first: the number of each, and the paths that it names
abbrev pub stages_of : History → List (ℕ × List (List ℕ))
stages_of [] = []
stages_of (e ∷ h) = stages_by (staged_in e.ask) (next_number h) (stages_of h)
