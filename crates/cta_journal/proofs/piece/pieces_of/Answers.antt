use Rattle.std.proofs.Common.{◌≡◌, ◌∙◌, ap, sym, subst, ℕ, List, [], ◌∷◌, ◌++◌, All, map, take}
use Rattle.std.proofs.lemmas.List.{map_more, take_all}
use Rattle.std.proofs.lemmas.List.Elements.{All-more}
use Rattle.cta_journal.specs.Log.{counted, records}
use Rattle.cta_journal.proofs.Records.{one_more}
use Rattle.cta_journal.proofs.piece.pieces_of.Goals as goal

pub loop-one-preserved : goal.loop-one-preserved
loop-one-preserved g c =
    let body = g.R.Record.body in
    let fits = g.R.Record.fits in
    let kept = c.args.kept.now in
    let i = c.loop-one.one-index in
    let front = map body (take i kept) in
    record {
      bytes = c.in_ok-extend_from_slice.ensures.items
          ∙ ap (λ (l : List ℕ). l ++ c.deref.result.now) c.in_ok-push.ensures.items
          ∙ ap (λ (l : List ℕ). (c.loop-one.pieces.items ++ 1 ∷ []) ++ l) (c.deref.ensures.value ∙ c.in_ok-write_record.ensures.1)
          ∙ one_more front (body c.one-item.result) c.loop-one.pieces.items c.loop-one.invariant.bytes
          ∙ ap records (ap (λ v. front ++ body v ∷ []) c.one-item.is ∙ sym (map_more body kept i c.one-item.result c.loop-one-test.true));
      fit = All-more fits kept i c.one-item.result c.loop-one-test.true c.loop-one.invariant.fit (subst (λ v. fits v) c.one-item.is c.in_ok-write_record.ensures.0);
    }

pub returns-clause-fits : goal.returns-clause-fits
returns-clause-fits g c = subst (λ l. All g.R.Record.fits l) (take_all c.loop-one.one-index c.args.kept.now c.loop-one-test.false) c.loop-one.invariant.fit
