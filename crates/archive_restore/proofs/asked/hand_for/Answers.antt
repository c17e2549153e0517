use Rattle.std.specs.Prelude.{None}
use Rattle.std.proofs.lemmas.Result.{IfOk-weaker}
use Rattle.archive_restore.specs.declared.label.Label.{Label}
use Rattle.archive_restore.proofs.HandsIn.{recalled_in, recalled_none}
use Rattle.archive_restore.proofs.asked.hand_for.Goals as goal

pub returns-in-Recalled-clause-hand : goal.returns-in-Recalled-clause-hand
returns-in-Recalled-clause-hand c = λ a has.
    let h = c.args.archive.now.history in
    let contents = c.args.contents.now in
    let m = c.in-Recalled.mount in
    let j = c.in-Recalled.job in
    let same = rw c.in-Recalled.is at has in
    rw c.in-Recalled.is (IfOk-weaker c.recalled_hand.result _ _ (λ found row. recalled_in (λ (l : Label). record { label = l.tape; records = None }) h m j a contents c.args.blob found c.requires.contents row same) c.recalled_hand.ensures)

pub returns-in-Recalled-clause-none : goal.returns-in-Recalled-clause-none
returns-in-Recalled-clause-none c = λ a has fit at_end.
    let site = c.args.archive.now.site in
    let h = c.args.archive.now.history in
    let contents = c.args.contents.now in
    let m = c.in-Recalled.mount in
    let j = c.in-Recalled.job in
    rw c.in-Recalled.is (IfOk-weaker c.recalled_hand.result _ _ (λ found row none. recalled_none site h m j contents c.args.blob found c.keeps_history.ensures c.requires.contents row none) c.recalled_hand.ensures)

pub returns-in-End-clause-hand : goal.returns-in-End-clause-hand
returns-in-End-clause-hand c = λ a has. rw c.in-End.is (c.end_hand.ensures.hand c.in-End.fault)
