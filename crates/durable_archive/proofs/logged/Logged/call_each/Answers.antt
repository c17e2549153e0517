use Rattle.std.proofs.Common.{rules, ◌∙◌, ◌++◌, ◌∷◌, [], arith, length, refl, sym, subst, drop}
use Rattle.std.specs.Prelude.{reverse}
use Rattle.std.proofs.lemmas.Grind.{common_steps}
use Rattle.std.proofs.lemmas.Iterator.Adapters.{YieldsList-from_vec}
use Rattle.std.proofs.lemmas.Iterator.Consumers.{YieldsList-end, YieldsList-turn}
use Rattle.std.proofs.lemmas.List.{map-id}
use Rattle.cta_journal.specs.Disk.{LeavesOnly}
use Rattle.cta_journal.specs.Standing.{StandsFor, disk_of}
use Rattle.durable_archive.specs.Journaled.{sure_of}
use Rattle.durable_archive.specs.Records.{KeepsBetween}
use Rattle.durable_archive.specs.Runs.{IsCall, IsRun, IsSafe, IsSafeRun, MayBeCalled}
use Rattle.durable_archive.proofs.Running.{rest_is, run_begins, run_more, safe_here, safe_more}
use Rattle.durable_archive.proofs.Turning.{logged_returns}
use Rattle.durable_archive.proofs.logged.Logged.call_each.Goals as goal

pub loop-call-init : goal.loop-call-init
loop-call-init g c =
    let K = g.K.Disk in
    let told = g.M.Told.told in
    let self = c.args.self.now in
    record {
      may = c.requires;
      site = refl;
      first = refl;
      run = subst (λ bs. IsRun told K.fault_count self [] (reverse bs) self) (sym c.in_ok-backs.ensures.items) refl;
      safe = λ begun s.
          subst (λ bs. IsSafeRun K.moment K.left_since self.archive.site begun told K.fault_count self [] (reverse bs) self) (sym c.in_ok-backs.ensures.items)
          (run_begins told K.fault_count K.moment K.left_since self.archive.site begun self
          (safe_here told K.fault_count K.moment K.left_since self.archive.site begun K.may_leave g.met.K.Disk.only_now self (λ file left. c.keeps_log.ensures begun s file left)));
      count = grind (arith, common_steps);
      room = grind (arith, common_steps);
    }

pub call-back-requires : goal.call-back-requires
call-back-requires g c =
    let loop = c.loop-call in
    let calls = c.args.calls.items in
    let all = YieldsList-from_vec {s = c.into_iter-call-iterator.result} calls (search rules) (search rules) in
    let turn = YieldsList-turn all loop.yielded loop.call-iterator loop.yielded_by c.next.result c.next.new.self c.in-Some.call c.in-Some.is c.next.ensures.steps in
    (subst (MayBeCalled g.M.Told.told loop.self.archive.site loop.self.archive.history) (rest_is calls loop.yielded c.in-Some.call turn.0 turn.1) loop.invariant.may).0

pub loop-call-preserved : goal.loop-call-preserved
loop-call-preserved g c =
    let K = g.K.Disk in
    let told = g.M.Told.told in
    let self = c.args.self.now in
    let loop = c.loop-call in
    let was = loop.invariant in
    let calls = c.args.calls.items in
    let call = c.in-Some.call in
    let back = c.call-back.result in
    let new = c.call-back.new.self in
    let done = c.call-back.ensures in
    let all = YieldsList-from_vec {s = c.into_iter-call-iterator.result} calls (search rules) (search rules) in
    let turn = YieldsList-turn all loop.yielded loop.call-iterator loop.yielded_by c.next.result c.next.new.self call c.in-Some.is c.next.ensures.steps in
    let may = subst (MayBeCalled told loop.self.archive.site loop.self.archive.history) (rest_is calls loop.yielded call turn.0 turn.1) was.may in
    let one : IsCall told K.fault_count loop.self call back new = record { kept = done.kept; moves = done.moves; first = done.first } in
    let run = run_more told K.fault_count self loop.self new loop.yielded loop.backs.items call back was.run one in
    record {
      may =
          subst (λ s. MayBeCalled told s new.archive.history (drop (length (loop.yielded ++ call ∷ [])) calls)) (sym done.site)
          (may.1 back new.archive.history (logged_returns told loop.self.archive call back new.archive done.kept));
      site = done.site ∙ was.site;
      first = done.first ∙ was.first;
      run = subst (λ bs. IsRun told K.fault_count self (reverse (loop.yielded ++ call ∷ [])) (reverse bs) new) (sym c.put.ensures.items) run;
      safe = λ begun s.
          (let mid : StandsFor K.content K.may_leave loop.self.first begun = subst (λ j. StandsFor K.content K.may_leave j begun) (sym was.first) s in
          let end : StandsFor K.content K.may_leave new.first begun = subst (λ j. StandsFor K.content K.may_leave j begun) (sym (done.first ∙ was.first)) s in
          let step : IsSafe K.moment K.left_since self.archive.site begun loop.self new =
          subst (λ t. LeavesOnly K.moment K.left_since (disk_of loop.self.journal) (disk_of new.journal) (KeepsBetween t begun (sure_of loop.self.closed loop.self.archive.history) new.archive.history)) was.site (done.any_moment begun mid) in
          let here : IsSafe K.moment K.left_since self.archive.site begun new new =
          safe_here told K.fault_count K.moment K.left_since self.archive.site begun K.may_leave g.met.K.Disk.only_now new
          (λ file left. subst (λ t. KeepsBetween t begun (sure_of new.closed new.archive.history) new.archive.history file) (done.site ∙ was.site) (c.keeps_log-in-loop-call.ensures begun end file left)) in
          subst (λ bs. IsSafeRun K.moment K.left_since self.archive.site begun told K.fault_count self (reverse (loop.yielded ++ call ∷ [])) (reverse bs) new) (sym c.put.ensures.items)
          (safe_more told K.fault_count K.moment K.left_since self.archive.site begun self loop.self new loop.yielded loop.backs.items call back was.run (was.safe begun s) one step here));
      count = grind (arith, common_steps);
      room = grind (arith, common_steps);
    }

pub returns-clause-run : goal.returns-clause-run
returns-clause-run g c =
    let loop = c.loop-call in
    let all = YieldsList-from_vec {s = c.into_iter-call-iterator.result} c.args.calls.items (search rules) (search rules) in
    let end = YieldsList-end all loop.yielded loop.call-iterator loop.yielded_by c.next.result c.next.new.self c.in-None.is c.next.ensures.steps in
    subst (λ cs. IsRun g.M.Told.told g.K.Disk.fault_count c.args.self.now (reverse cs) (reverse loop.backs.items) loop.self) (sym (map-id loop.yielded) ∙ end.0) loop.invariant.run

pub returns-clause-any_moment : goal.returns-clause-any_moment
returns-clause-any_moment g c = λ begun s.
    let K = g.K.Disk in
    let loop = c.loop-call in
    let all = YieldsList-from_vec {s = c.into_iter-call-iterator.result} c.args.calls.items (search rules) (search rules) in
    let end = YieldsList-end all loop.yielded loop.call-iterator loop.yielded_by c.next.result c.next.new.self c.in-None.is c.next.ensures.steps in
    subst (λ cs. IsSafeRun K.moment K.left_since c.args.self.now.archive.site begun g.M.Told.told K.fault_count c.args.self.now (reverse cs) (reverse loop.backs.items) loop.self) (sym (map-id loop.yielded) ∙ end.0) (loop.invariant.safe begun s)
