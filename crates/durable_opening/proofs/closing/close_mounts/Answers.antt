use Rattle.std.proofs.Common.{rules, ◌∙◌, ◌≡◌, ℕ, [], ◌∷◌, ◌++◌, true, refl, sym, subst, length, drop}
use Rattle.std.specs.Prelude.{map}
use Rattle.std.proofs.lemmas.Iterator.Adapters.{YieldsList-from_vec}
use Rattle.std.proofs.lemmas.Iterator.Consumers.{YieldsList-end, YieldsList-turn}
use Rattle.std.proofs.lemmas.List.{map-id}
use Rattle.durable_opening.specs.Closing.{AreOpenMounts}
use Rattle.durable_opening.proofs.Closers.{closes_on, none_more}
use Rattle.durable_opening.proofs.Mounted.{all_closed, first_is_open, rest_is, rest_mounts}
use Rattle.durable_opening.proofs.closing.close_mounts.Goals as goal

pub loop-mount-init : goal.loop-mount-init
loop-mount-init g c =
    let a = c.args.logged.now.archive in
    record { left = c.requires.mounts; kept = (refl, none_more a.site a.history); first = refl; closed = refl }

pub close_mount-requires-clause-open : goal.close_mount-requires-clause-open
close_mount-requires-clause-open g c =
    let loop = c.loop-mount in
    let x : ℕ × g.row.M.Denot = (c.in-Some.mount, c.in-Some.medium) in
    let xs = c.args.mounts.items in
    let all = YieldsList-from_vec {s = c.into_iter-mount-iterator.result} xs (search rules) (search rules) in
    let turn = YieldsList-turn all loop.yielded loop.mount-iterator loop.yielded_by c.next.result c.next.new.self x c.in-Some.is c.next.ensures.steps in
    let left = subst (AreOpenMounts g.M.Told.told loop.logged.archive.history) (rest_is xs loop.yielded x turn.0 turn.1) loop.invariant.left in
    first_is_open loop.logged.archive.history c.in-Some.mount (map (λ (y : ℕ × g.row.M.Denot). y.0) (drop (length (loop.yielded ++ x ∷ [])) xs)) left.open_ones

pub close_mount-requires-clause-medium : goal.close_mount-requires-clause-medium
close_mount-requires-clause-medium g c =
    let loop = c.loop-mount in
    let x : ℕ × g.row.M.Denot = (c.in-Some.mount, c.in-Some.medium) in
    let xs = c.args.mounts.items in
    let all = YieldsList-from_vec {s = c.into_iter-mount-iterator.result} xs (search rules) (search rules) in
    let turn = YieldsList-turn all loop.yielded loop.mount-iterator loop.yielded_by c.next.result c.next.new.self x c.in-Some.is c.next.ensures.steps in
    (subst (AreOpenMounts g.M.Told.told loop.logged.archive.history) (rest_is xs loop.yielded x turn.0 turn.1) loop.invariant.left).media.0

pub loop-mount-preserved : goal.loop-mount-preserved
loop-mount-preserved g c =
    let told = g.M.Told.told in
    let loop = c.loop-mount in
    let was = loop.invariant in
    let x : ℕ × g.row.M.Denot = (c.in-Some.mount, c.in-Some.medium) in
    let xs = c.args.mounts.items in
    let a = loop.logged.archive in
    let b = c.close_mount.new.logged.archive in
    let done = c.close_mount.ensures in
    let yes : c.close_mount.result ≡ true = search in
    let all = YieldsList-from_vec {s = c.into_iter-mount-iterator.result} xs (search rules) (search rules) in
    let turn = YieldsList-turn all loop.yielded loop.mount-iterator loop.yielded_by c.next.result c.next.new.self x c.in-Some.is c.next.ensures.steps in
    let left = subst (AreOpenMounts told a.history) (rest_is xs loop.yielded x turn.0 turn.1) was.left in
    record {
      left = rest_mounts told a.site a.history b.history x (drop (length (loop.yielded ++ x ∷ [])) xs) left done.kept.1 (done.done yes);
      kept = closes_on c.args.logged.now.archive a b was.kept done.kept;
      first = done.first ∙ was.first;
      closed = done.open yes ∙ was.closed;
    }

pub returns-then-not-close_mount-clause-kept : goal.returns-then-not-close_mount-clause-kept
returns-then-not-close_mount-clause-kept g c = closes_on c.args.logged.now.archive c.loop-mount.logged.archive c.close_mount.new.logged.archive c.loop-mount.invariant.kept c.close_mount.ensures.kept

pub returns-clause-done : goal.returns-clause-done
returns-clause-done g c = λ yes.
    let loop = c.loop-mount in
    let xs = c.args.mounts.items in
    let all = YieldsList-from_vec {s = c.into_iter-mount-iterator.result} xs (search rules) (search rules) in
    let end = YieldsList-end all loop.yielded loop.mount-iterator loop.yielded_by c.next.result c.next.new.self c.in-None.is c.next.ensures.steps in
    all_closed g.M.Told.told loop.logged.archive.history xs loop.yielded (sym (map-id loop.yielded) ∙ end.0) loop.invariant.left
