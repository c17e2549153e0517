use Rattle.std.proofs.Common.{◌≡◌, ◌≤◌, ◌+◌, ℕ, List, ◌∷◌, ◌++◌, [], length, inl, sym, ◌∙◌, ap, subst, arith, Some, refl}
use Rattle.cta_journal.specs.Disk.{written, Torn, Only, LeavesOnly}
use Rattle.cta_journal.specs.Log.{HasLogOrMore}
use Rattle.cta_journal.specs.Standing.{Stands}
use Rattle.cta_journal.proofs.Moments.{and_then, weaker}
use Rattle.cta_journal.proofs.Crash.{at_rest, length-at_rest, torn_behind, staged, written_behind, length-staged, torn_gate, written_gate, new_end}
use Rattle.cta_journal.proofs.steps.add.Goals as goal

pub returns-in_err-store-clause-any_moment : goal.returns-in_err-store-clause-any_moment
returns-in_err-store-clause-any_moment g c = λ bodies more is s.
    let room = length-at_rest bodies s.gate c.args.end s.shut s.ends in
    weaker g.K.Disk.moment g.K.Disk.left_since c.args.disk.now c.store.new.disk _ (HasLogOrMore bodies more)
    (c.store.ensures.any_moment _ s.told (omega (arith, room)) s.durable)
    (λ f torn. inl (torn_behind bodies s.gate c.args.end s.shut s.ends (length c.args.piece.now) f torn))

pub returns-in_err-store-2-clause-any_moment : goal.returns-in_err-store-2-clause-any_moment
returns-in_err-store-2-clause-any_moment g c = λ bodies more is s.
    let room = length-at_rest bodies s.gate c.args.end s.shut s.ends in
    let first = weaker g.K.Disk.moment g.K.Disk.left_since c.args.disk.now c.store.new.disk _ (HasLogOrMore bodies more)
    (c.store.ensures.any_moment _ s.told (omega (arith, room)) s.durable)
    (λ f torn. inl (torn_behind bodies s.gate c.args.end s.shut s.ends (length c.args.piece.now) f torn)) in
    let behind = written_behind bodies s.gate c.args.end s.shut s.ends c.args.piece.now in
    let stored = c.in_ok-store.ensures.stored _ s.told (omega (arith, room)) in
    let told = stored.0 ∙ ap (λ (f : List ℕ). Some f) behind in
    let only = subst (λ f. Only f (g.K.Disk.may_leave c.store.new.disk)) behind stored.1 in
    let long = length-staged bodies s.gate c.args.end s.shut s.ends c.args.piece.now in
    let second = weaker g.K.Disk.moment g.K.Disk.left_since c.store.new.disk c.store-2.new.disk _ (HasLogOrMore bodies more)
    (c.store-2.ensures.any_moment _ told (omega (arith, long)) only)
    (λ f torn. torn_gate bodies s.gate c.args.end s.shut s.ends more c.args.piece.now f is torn) in
    and_then g.K.Disk.moment g.K.Disk.left_since c.args.disk.now c.store.new.disk c.store-2.new.disk (HasLogOrMore bodies more) first second

pub returns-clause-any_moment : goal.returns-clause-any_moment
returns-clause-any_moment g c = λ bodies more is s.
    let room = length-at_rest bodies s.gate c.args.end s.shut s.ends in
    let first = weaker g.K.Disk.moment g.K.Disk.left_since c.args.disk.now c.store.new.disk _ (HasLogOrMore bodies more)
    (c.store.ensures.any_moment _ s.told (omega (arith, room)) s.durable)
    (λ f torn. inl (torn_behind bodies s.gate c.args.end s.shut s.ends (length c.args.piece.now) f torn)) in
    let behind = written_behind bodies s.gate c.args.end s.shut s.ends c.args.piece.now in
    let stored = c.in_ok-store.ensures.stored _ s.told (omega (arith, room)) in
    let told = stored.0 ∙ ap (λ (f : List ℕ). Some f) behind in
    let only = subst (λ f. Only f (g.K.Disk.may_leave c.store.new.disk)) behind stored.1 in
    let long = length-staged bodies s.gate c.args.end s.shut s.ends c.args.piece.now in
    let second = weaker g.K.Disk.moment g.K.Disk.left_since c.store.new.disk c.store-2.new.disk _ (HasLogOrMore bodies more)
    (c.store-2.ensures.any_moment _ told (omega (arith, long)) only)
    (λ f torn. torn_gate bodies s.gate c.args.end s.shut s.ends more c.args.piece.now f is torn) in
    and_then g.K.Disk.moment g.K.Disk.left_since c.args.disk.now c.store.new.disk c.store-2.new.disk (HasLogOrMore bodies more) first second

pub returns-clause-stored : goal.returns-clause-stored
returns-clause-stored g c = λ bodies more is s.
    let room = length-at_rest bodies s.gate c.args.end s.shut s.ends in
    let behind = written_behind bodies s.gate c.args.end s.shut s.ends c.args.piece.now in
    let stored = c.in_ok-store.ensures.stored _ s.told (omega (arith, room)) in
    let told = stored.0 ∙ ap (λ (f : List ℕ). Some f) behind in
    let long = length-staged bodies s.gate c.args.end s.shut s.ends c.args.piece.now in
    let opened = c.in_ok-store-2.ensures.stored _ told (omega (arith, long)) in
    let gated = written_gate bodies s.gate c.args.end s.shut s.ends more c.args.piece.now is in
    record {
      gate = 0;
      shut = omega arith;
      told = opened.0 ∙ ap (λ (f : List ℕ). Some f) gated;
      ends = new_end bodies s.gate c.args.end s.shut s.ends more c.args.piece.now is;
      durable = subst (λ f. Only f (g.K.Disk.may_leave c.store-2.new.disk)) gated opened.1;
    }

pub returns-clause-content : goal.returns-clause-content
returns-clause-content g c = λ bodies more is s.
    let room = length-at_rest bodies s.gate c.args.end s.shut s.ends in
    let behind = written_behind bodies s.gate c.args.end s.shut s.ends c.args.piece.now in
    let stored = c.in_ok-store.ensures.stored _ s.told (omega (arith, room)) in
    let told = stored.0 ∙ ap (λ (f : List ℕ). Some f) behind in
    let long = length-staged bodies s.gate c.args.end s.shut s.ends c.args.piece.now in
    (c.in_ok-store-2.ensures.stored _ told (omega (arith, long))).0 ∙ ap (λ (f : List ℕ). Some f) (written_gate bodies s.gate c.args.end s.shut s.ends more c.args.piece.now is)
