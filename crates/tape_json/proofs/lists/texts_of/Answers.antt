use Rattle.std.proofs.Common.{◌∙◌, ap, sym, refl, Some}
use Rattle.serde_json.specs.View.{view}
use Rattle.serde_json.specs.Find.{as_str}
use Rattle.tape_json.proofs.Items.{all_read-more, all_read-refused}
use Rattle.tape_json.proofs.lists.texts_of.Goals as goal

pub returns-in-None-clause-cause : goal.returns-in-None-clause-cause
returns-in-None-clause-cause c other =
    (refl, all_read-refused as_str view c.args.items.now c.items.item-index c.item-item.result c.items-test.true c.item-item.is (sym c.in-None.ensures))

pub items-preserved : goal.items-preserved
items-preserved c =
    all_read-more as_str view c.args.items.now c.items.item-index c.item-item.result c.items.texts.items c.in_ok-text_of-in-Some.field-0 c.items-test.true c.item-item.is
    c.items.invariant (sym c.in-Some.ensures ∙ ap Some (sym c.in_ok-text_of-in-Some.ensures))
    ∙ ap Some (sym c.in_ok-push-in-Some.ensures.items)
