use Rattle.std.proofs.Common.{◌≡◌, ◌∙◌, ap, sym, List, [], ◌∷◌, ◌++◌, map, append_assoc, subst}
use Rattle.std.proofs.lemmas.Result.{on_ok_weaker}
use Rattle.std.proofs.lemmas.List.{take_all}
use Rattle.json.specs.Token.{Token, begin_array, end_array}
use Rattle.tape_json.specs.Shown.{value_tokens}
use Rattle.tape_json.proofs.Rows.{row_tokens, AreReadable, row_tokens-more, AreReadable-more, items_tokens-items_of, IsReadable-array}
use Rattle.tape_json.proofs.reported.write_list.Goals as goal

pub items-preserved : goal.items-preserved
items-preserved g c = (
  c.in_ok-write.ensures.appends.before ∙ c.items.invariant.0,
  c.in_ok-write.ensures.appends.tokens
      ∙ ap (λ ts. ts ++ value_tokens (g.T.Reported.report c.item-item.result)) c.items.invariant.1
      ∙ append_assoc c.begin_array.new.self.tokens _ _
      ∙ ap (λ ts. c.begin_array.new.self.tokens ++ ts) (sym (row_tokens-more g.T.Reported.report c.args.items.now c.items.item-index c.item-item.result c.items-test.true c.item-item.is)),
  AreReadable-more g.T.Reported.levels g.T.Reported.report c.args.items.now c.items.item-index c.item-item.result c.items-test.true c.item-item.is c.items.invariant.2 c.in_ok-write.ensures.reads,
)

regroup : (old rows : List Token) (b e : Token) → ((old ++ b ∷ []) ++ rows) ++ e ∷ [] ≡ old ++ b ∷ (rows ++ e ∷ [])
regroup old rows b e = simp append_assoc

pub returns-clause-appends : goal.returns-clause-appends
returns-clause-appends g c = record {
  before = c.end_array.ensures.room.0 ∙ c.items.invariant.0 ∙ c.in_ok-begin_array.ensures.room.0;
  tokens = on_ok_weaker c.end_array.result (λ e. e
      ∙ ap (λ ts. ts ++ end_array ∷ []) (c.items.invariant.1 ∙ ap (λ vs. c.begin_array.new.self.tokens ++ row_tokens (map g.T.Reported.report vs)) (take_all c.items.item-index c.args.items.now c.items-test.false)
      ∙ ap (λ ts. ts ++ row_tokens (map g.T.Reported.report c.args.items.now)) c.in_ok-begin_array.ensures.ok)
      ∙ regroup c.args.out.now.tokens (row_tokens (map g.T.Reported.report c.args.items.now)) begin_array end_array
      ∙ ap (λ ts. c.args.out.now.tokens ++ begin_array ∷ ts) (sym (items_tokens-items_of (map g.T.Reported.report c.args.items.now)))) c.end_array.ensures.ok;
}

pub returns-clause-reads : goal.returns-clause-reads
returns-clause-reads g c =
    let whole = subst (λ vs. AreReadable g.T.Reported.levels (map g.T.Reported.report vs)) (take_all c.items.item-index c.args.items.now c.items-test.false) c.items.invariant.2 in
    on_ok_weaker c.end_array.result (λ e. IsReadable-array g.T.Reported.levels (map g.T.Reported.report c.args.items.now) whole) c.end_array.ensures.ok
