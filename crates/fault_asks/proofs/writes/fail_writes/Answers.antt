use Rattle.std.proofs.Common.{◌≡◌, ◌+◌, ◌≤◌, ◌∷◌, List, length, subst, sym}
use Rattle.cta_site.specs.WellFormed.{IsWellFormed}
use Rattle.cta_model.specs.declared.answers.Answer.TheVariants as answer
use Rattle.cta_model.specs.declared.asks.Job.{Job}
use Rattle.cta_model.specs.History.{History}
use Rattle.cta_model.specs.Legal.{new_entry}
use Rattle.fault_asks.proofs.FailFacts.{IsFailure, done_is, failed, few_jobs}
use Rattle.cta_site.specs.Listed.{rows}
use Rattle.cta_model.specs.declared.asks.Ask.TheVariants as ask
use Rattle.archive_parts.specs.PartsKept.{ArePartsKept}
use Rattle.archive_parts.proofs.Behind.{can_over}
use Rattle.fault_asks.proofs.writes.fail_writes.Goals as goal

pub make_ready-requires : goal.make_ready-requires
make_ready-requires c =
    let f : IsFailure c.args.site.now c.args.history.now.value c.args.at c.args.mount c.args.fault c.args.charged.items c.args.returned.items = record { legal = c.requires.carrying.legal; within = c.requires.carrying.at; fit = c.requires.carrying.fit; accepted = c.requires.carrying.accepted } in
    subst (λ (xs : List Job). length xs + length c.as_slice-2.result.now ≤ 2000000000) (sym c.as_slice.ensures)
    (subst (λ (xs : List Job). length c.args.charged.items + length xs ≤ 2000000000) (sym c.as_slice-2.ensures)
    (few_jobs c.args.site.now c.args.history.now.value c.args.at c.args.mount c.args.fault c.args.charged.items c.args.returned.items (subst IsWellFormed c.site.ensures c.keeps_rules.ensures.parts) f))

pub carry_out-requires-clause-carrying : goal.carry_out-requires-clause-carrying
carry_out-requires-clause-carrying c =
    let kept : ArePartsKept c.args.site.now c.args.history.now.value c.make_ready.new.parts = c.same_parts_are_kept.ensures c.args.site.now c.args.history.now.value c.args.parts.now c.make_ready.new.parts c.make_ready.ensures.parts c.requires.carrying.kept in
    can_over c.args.site.now c.args.history.now.value c.make_ready.new.history.value c.args.parts.now c.make_ready.new.parts c.args.at (ask.Failed c.args.mount c.args.fault (rows c.args.charged.items) (rows c.args.returned.items)) c.requires.carrying kept c.make_ready.ensures.history

pub returns-in-Ok-clause-carried : goal.returns-in-Ok-clause-carried
returns-in-Ok-clause-carried c =
    let f : IsFailure c.args.site.now c.args.history.now.value c.args.at c.args.mount c.args.fault c.args.charged.items c.args.returned.items = record { legal = c.requires.carrying.legal; within = c.requires.carrying.at; fit = c.requires.carrying.fit; accepted = c.requires.carrying.accepted } in
    record {
      answer = done_is c.args.site.now c.args.history.now.value c.args.at c.args.mount c.args.fault c.args.charged.items c.args.returned.items f;
      entry = subst (λ (g : History). c.carry_out.new.history.value ≡ new_entry g c.args.at (failed c.args.mount c.args.fault c.args.charged.items c.args.returned.items) answer.Done ∷ g) c.make_ready.ensures.history c.carry_out.ensures.entry;
      kept = c.carry_out.ensures.kept;
      same = tt;
      still = tt;
    }
