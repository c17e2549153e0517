use Rattle.std.proofs.Common.{◌≡◌, ◌∙◌, ◌≤◌, ◌++◌, ◌∷◌, [], List, length, ap, arith}
use Rattle.std.proofs.lemmas.List.{take_all}
use Rattle.cta_site.specs.Listed.{rows}
use Rattle.cta_model.specs.declared.reports.RepackItem.{RepackItem}
use Rattle.repack_book.specs.NamedRepacks.{KeptRepack}
use Rattle.repack_book.specs.Reports.{items_told}
use Rattle.repack_book.proofs.Told.{take_one, told_length}
use Rattle.repack_book.proofs.row.RepackRow.info.Goals as goal

pub loop-at-preserved : goal.loop-at-preserved
loop-at-preserved c =
    c.in_ok-push.ensures.items ∙ ap (λ (xs : List RepackItem). xs ++ c.in_ok-item.item ∷ []) c.loop-at.invariant
    ∙ take_one (items_told c.args.self.now.repack.items c.args.self.now.paths) c.loop-at.at c.in_ok-item.item c.in_ok-item.ensures

pub returns : goal.returns
returns c =
    let told = items_told c.args.self.now.repack.items c.args.self.now.paths in
    let few : length told ≤ length c.args.self.now.paths = told_length c.args.self.now.repack.items c.args.self.now.paths in
    let paths : length c.self.inside.paths.items ≡ length c.args.self.now.paths = ap (λ (k : KeptRepack). length k.paths) c.self.view_is in
    let vid : c.in_ok-vid.vid ≡ c.args.self.now.vid = c.in_ok-vid.ensures ∙ ap (λ (k : KeptRepack). k.vid) c.self.view_is in
    let items : c.of.result.items ≡ told = c.of.ensures.items ∙ c.loop-at.invariant ∙ take_all c.loop-at.at told (omega arith) in
    λ i. record { id = c.args.id; vid = vid i; items = rows (items i) }
