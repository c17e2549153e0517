-- Two runs of one script are alike, and a run's output is its texts.
use Rattle.std.proofs.Common.{◌≡◌, ◌∙◌, ◌++◌, List, [], ◌∷◌, inl, inr, refl, sym, ap}
use Rattle.std.specs.List.{flat_map}
use Rattle.cta_site.specs.declared.site.Site.{Site}
use Rattle.links.specs.Laws.{HasOneRun}
use Rattle.tape_routes.specs.Callers.{CallersAsk}
use Rattle.replay.specs.Output.{output_on, run_behind, written_for}
use Rattle.replay.specs.Run.{Happening, ScriptTurn, all_happenings}
use Rattle.replay.specs.Script.{HasOneReading, cut_bytes}
use Rattle.replay.specs.Steps.{Made, RunState, begun_with}
use Rattle.replay.proofs.OneReading.{one_cut}
use Rattle.run_laws.specs.Laws.{ChangesAreTold, HasAlikeEnds, HasAlikeRuns, TextsAreOutput}
use Rattle.run_laws.specs.Texts.{texts_on}
use Rattle.run_laws.specs.Told.{IsToldRun}
use Rattle.run_laws.proofs.Collisions.{run_told}
use Rattle.run_laws.proofs.Ends.{same_bytes, taken}
use Rattle.run_laws.proofs.Steady.{AreDue, run_due}
use Rattle.run_laws.proofs.Turns.{script_twins}
use Rattle.run_laws.proofs.Twins.{runs_alike}

due_of : CallersAsk → (site : Site) (made : Made) (turns : List ScriptTurn) → IsToldRun site made turns → AreDue (begun_with site made) (all_happenings turns)
due_of callers site made turns told = run_due callers site made (all_happenings turns) told.made_so told.contents told.sound told.changes

pub alike_runs : (site : Site) → HasOneReading site → HasOneRun → CallersAsk → HasAlikeRuns site
alike_runs site reading run callers made more c d xs ys is_c is_d bytes of_c of_d told also =
    elim (script_twins site reading run c d xs ys is_c is_d bytes of_c of_d) [
      | inl twins ↦
          let all = runs_alike site made more (all_happenings xs) (all_happenings ys) twins told.made_so also.made_so told.contents also.contents (due_of callers site made xs told) (due_of callers site more ys also) in
          inl (record { histories = all.1; texts = all.0 })
      | inr differs ↦ inr differs
    ]

-- two runs that have ended with status 0
pub alike_ends : HasOneRun → CallersAsk → HasAlikeEnds
alike_ends run callers site script from to more rest a b c d one other is also told telling =
    let f = one.finishes in
    let g = other.finishes in
    let first = taken from.left to.left (cut_bytes site f.cut) script is f.took.bytes in
    let second = taken more.left rest.left (cut_bytes site g.cut) script also g.took.bytes in
    let same : cut_bytes site f.cut ≡ cut_bytes site g.cut = same_bytes site one.valid f.cut g.cut first.0 second.0 f.is_cut g.is_cut f.ends.0 g.ends.0 (sym first.1 ∙ second.1) in
    alike_runs site (one_cut site one.valid) run callers one.made other.made f.cut g.cut f.turns g.turns f.is_cut g.is_cut same (f.brought, f.run) (g.brought, g.run)
    (record { made_so = one.new; contents = f.ends.1.contents; sound = f.sound; changes = told })
    (record { made_so = other.new; contents = g.ends.1.contents; sound = g.sound; changes = telling })

pub changes_are_told : CallersAsk → ChangesAreTold
changes_are_told callers site made turns new contents sound = run_told callers site made (all_happenings turns) new contents sound

texts_on_output : (s : RunState) (hs : List Happening) → flat_map (λ text. text) (texts_on s hs) ≡ output_on s hs
texts_on_output s [] = refl
texts_on_output s (h ∷ hs) = ap (λ rest. written_for s h ++ rest) (texts_on_output (run_behind s h) hs)

pub texts_are_output : TextsAreOutput
texts_are_output site made turns = texts_on_output (begun_with site made) (all_happenings turns)
