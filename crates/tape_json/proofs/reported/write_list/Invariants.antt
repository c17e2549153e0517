use Rattle.std.proofs.Common.{◌≡◌, ◌++◌, map, take}
use Rattle.tape_json.proofs.Rows.{row_tokens, AreReadable}
use Rattle.tape_json.proofs.reported.write_list.Given as goal

abbrev pub invariant-items : goal.invariant-items
invariant-items g l =
    (l.out.before ≡ l.initial.out.before)
    × (l.out.tokens ≡ l.initial.out.tokens ++ row_tokens (map g.T.Reported.report (take l.item-index l.items)))
    × AreReadable g.T.Reported.levels (map g.T.Reported.report (take l.item-index l.items))
