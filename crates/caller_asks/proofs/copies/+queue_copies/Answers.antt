use Rattle.std.proofs.Common.{◌≤◌, arith, ◌∙◌}
use Rattle.part_model.specs.Queues.{lines_in}
use Rattle.caller_asks.proofs.Lines.{added_behind, fits_next, lacks_next}
use Rattle.caller_asks.proofs.copies.+queue_copies.Goals as goal

pub queue_copies-requires : goal.queue_copies-requires
queue_copies-requires t c =
    let some : 1 ≤ c.args.copies = (let none = c.if-copies-eq0.false in omega arith) in
    let room = c.requires.room in
    let left = c.queue_write.ensures.room in
    let most = c.requires.copies in (
      omega arith,
      (
        c.requires.put,
        (
          omega arith,
          (
            c.queue_write.ensures.keys ∙ c.requires.keys,
            (
              omega arith,
              (
                λ d k low. lacks_next c.args.site.now c.args.history.now.value c.args.file c.args.copies d (lines_in c.args.pools.now.value) (lines_in c.queue_write.new.pools.value) k some low (c.queue_write.ensures.lines k) (c.requires.lacks d k (omega arith)),
                (
                  c.requires.small,
                  λ k. fits_next c.args.site.now c.args.history.now.value c.args.file c.args.copies (lines_in c.args.pools.now.value) (lines_in c.queue_write.new.pools.value) k some c.requires.small (c.queue_write.ensures.lines k) (c.requires.fits k),
                ),
              ),
            ),
          ),
        ),
      ),
    )

pub returns-clause-lines : goal.returns-clause-lines
returns-clause-lines t c = λ k. added_behind c.args.site.now c.args.history.now.value c.args.file c.args.copies (lines_in c.args.pools.now.value) (lines_in c.queue_write.new.pools.value) (lines_in c.queue_copies.new.pools.value) k (let some = c.if-copies-eq0.false in omega arith) (c.queue_write.ensures.lines k) (c.queue_copies.ensures.lines k)
