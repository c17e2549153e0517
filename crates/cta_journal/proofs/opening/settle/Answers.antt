use Rattle.std.proofs.Common.{◌≡◌, ◌+◌, ◌≤◌, ◌∙◌, inr, List, ℕ, Some, ◌∷◌, ap, subst, sym, map, length, arith, length-append}
use Rattle.cta_journal.specs.Disk.{Only}
use Rattle.cta_journal.specs.Log.{records, KeepsLog}
use Rattle.cta_journal.proofs.Moments.{weaker}
use Rattle.cta_journal.proofs.Damages.{not_shut}
use Rattle.cta_journal.proofs.Repair.{torn_start, cut_keeps, cut_done}
use Rattle.cta_journal.proofs.opening.settle.Goals as goal

pub returns-in_default-clause-any_moment : goal.returns-in_default-clause-any_moment
returns-in_default-clause-any_moment g c = λ told only.
    weaker g.K.Disk.moment g.K.Disk.left_since c.args.disk.now c.store.new.disk _ (KeepsLog c.args.bytes.now) (c.store.ensures.any_moment _ told (omega arith) only) (λ f torn. torn_start c.args.bytes.now f c.if-bytes-le1.true torn)

pub returns-then-bytes-le1-clause-any_moment : goal.returns-then-bytes-le1-clause-any_moment
returns-then-bytes-le1-clause-any_moment g c = λ told only.
    weaker g.K.Disk.moment g.K.Disk.left_since c.args.disk.now c.store.new.disk _ (KeepsLog c.args.bytes.now) (c.store.ensures.any_moment _ told (omega arith) only) (λ f torn. torn_start c.args.bytes.now f c.if-bytes-le1.true torn)

pub returns-in_default-shorten-clause-any_moment : goal.returns-in_default-shorten-clause-any_moment
returns-in_default-shorten-clause-any_moment g c = λ told only.
    let bodies = map g.R.Record.body c.in-Ok-read_log.log.0.items in
    let has = c.in-Ok-read_log.ensures.shut in
    let size = c.in-Ok-read_log.ensures.end in
    let room : c.in-Ok-read_log.log.1 + 1 ≤ length c.args.bytes.now = omega (arith, size, ap length has.split, length-append (records bodies) (has.gate ∷ has.rest)) in
    weaker g.K.Disk.moment g.K.Disk.left_since c.args.disk.now c.shorten.new.disk _ (KeepsLog c.args.bytes.now) (c.shorten.ensures.any_moment _ told room only)
    (λ f cut. cut_keeps bodies c.args.bytes.now f c.in-Ok-read_log.log.1 c.have_length.ensures (omega (arith, c.if-bytes-le1.false)) has size cut)

pub returns-clause-found : goal.returns-clause-found
returns-clause-found g c = λ told.
    let bodies = map g.R.Record.body c.in-Ok-read_log.log.0.items in
    let has = c.in-Ok-read_log.ensures.shut in
    let size = c.in-Ok-read_log.ensures.end in
    let room : c.in-Ok-read_log.log.1 + 1 ≤ length c.args.bytes.now = omega (arith, size, ap length has.split, length-append (records bodies) (has.gate ∷ has.rest)) in
    let done = c.in-Ok-shorten.ensures.cut _ told room in
    let is = cut_done bodies c.args.bytes.now c.in-Ok-read_log.log.1 has size in (
      inr has,
      record {
        gate = has.gate;
        shut = has.shut;
        told = done.0 ∙ ap (λ (f : List ℕ). Some f) is;
        ends = size;
        durable = subst (λ f. Only f (g.K.Disk.may_leave c.shorten.new.disk)) is done.1;
      },
    )

pub returns-clause-any_moment : goal.returns-clause-any_moment
returns-clause-any_moment g c = λ told only.
    let bodies = map g.R.Record.body c.in-Ok-read_log.log.0.items in
    let has = c.in-Ok-read_log.ensures.shut in
    let size = c.in-Ok-read_log.ensures.end in
    let room : c.in-Ok-read_log.log.1 + 1 ≤ length c.args.bytes.now = omega (arith, size, ap length has.split, length-append (records bodies) (has.gate ∷ has.rest)) in
    weaker g.K.Disk.moment g.K.Disk.left_since c.args.disk.now c.shorten.new.disk _ (KeepsLog c.args.bytes.now) (c.shorten.ensures.any_moment _ told room only)
    (λ f cut. cut_keeps bodies c.args.bytes.now f c.in-Ok-read_log.log.1 c.have_length.ensures (omega (arith, c.if-bytes-le1.false)) has size cut)

pub returns-clause-whole : goal.returns-clause-whole
returns-clause-whole g c = λ offset damaged.
    absurd (not_shut g.R.Record.body g.R.Record.fits c.args.bytes.now offset c.in-Ok-read_log.log.0.items c.have_length.ensures c.in-Ok-read_log.ensures.known.0 c.in-Ok-read_log.ensures.known.1 c.in-Ok-read_log.ensures.shut damaged)
