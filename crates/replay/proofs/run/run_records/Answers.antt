use Rattle.std.proofs.Common.{subst, sym, arith}
use Rattle.cta_site.specs.WellFormed.{IsWellFormed}
use Rattle.links.specs.Standing.{StandFor}
use Rattle.replay.specs.Run.{links_turns, record_of}
use Rattle.replay.proofs.Running.{Ran-none, Ran-more, Ran-ends, same_site, spelling_positive}
use Rattle.replay.proofs.Starting.{replays_from}
use Rattle.replay.proofs.run.run_records.Goals as goal

pub records-init : goal.records-init
records-init g c = record {
  ran = Ran-none c.args.front.now.links c.args.front.now.desk.run _ c.requires.links;
  ready = c.requires.ready;
  reads = omega arith;
  writes = omega arith;
  within = omega arith;
}

pub returns-in-Some : goal.returns-in-Some
returns-in-Some g c = λ tells site starts.
    let h = c.records.invariant in
    let run = c.args.front.now.desk.run in
    let stand = subst (λ s. StandFor c.records.front.links s.limits.file (links_turns h.ran.turns)) (sym (same_site h.ran)) h.ran.stands in
    let f = Ran-ends c.runs_follow.ensures c.records.front.links run c.records.front.desk.run _ _ _ c.in-Some.status h.ran h.reads h.writes (c.in-Some.ensures.turns (links_turns h.ran.turns) stand) in
    let valid : IsWellFormed run.site = subst IsWellFormed c.site.ensures c.keeps_rules.ensures.parts in
    replays_from tells site c.args.front.now.desk starts c.runs_keep_promises.ensures _ _ _ _ c.one_record.new.taken c.in-Some.status valid c.one_record.ensures.within f

pub records-preserved : goal.records-preserved
records-preserved g c =
    let h = c.records.invariant in
    let stand = subst (λ s. StandFor c.records.front.links s.limits.file (links_turns h.ran.turns)) (sym (same_site h.ran)) h.ran.stands in
    record {
      ran = Ran-more c.records.front.links _ c.args.front.now.desk.run c.records.front.desk.run _ _ _ _ h.ran (c.in_default.ensures.turns (links_turns h.ran.turns) stand);
      ready = c.in_default.ensures.ready;
      reads = omega arith;
      writes = omega arith;
      within = omega arith;
    }

pub records-smaller : goal.records-smaller
records-smaller g c =
    let h = c.records.invariant in
    let stand = subst (λ s. StandFor c.records.front.links s.limits.file (links_turns h.ran.turns)) (sym (same_site h.ran)) h.ran.stands in
    let x = c.in_default.ensures.turns (links_turns h.ran.turns) stand in
    omega (arith, x.took.count, spelling_positive c.records.front.desk.run.site (record_of x.turn), c.in_default.ensures.within)
