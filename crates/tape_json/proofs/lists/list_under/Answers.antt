use Rattle.std.proofs.Common.{◌∙◌, ap, sym, Some, map, option_map, option_and_then}
use Rattle.serde_json.specs.Find.{as_array}
use Rattle.serde_json.specs.View.{view}
use Rattle.tape_json.specs.Bodies.{item_list}
use Rattle.tape_json.proofs.Items.{item_list-items_of}
use Rattle.tape_json.proofs.lists.list_under.Goals as goal

pub returns-in-Some-as_array : goal.returns-in-Some-as_array
returns-in-Some-as_array c =
    ap (λ vs. Some (map view vs)) c.as_slice.ensures.value
    ∙ ap Some (sym (item_list-items_of (map view c.in-Some-as_array.items.now.items)))
    ∙ ap (option_map item_list) (c.in-Some-as_array.ensures ∙ ap (option_and_then as_array) c.in-Some.ensures)
