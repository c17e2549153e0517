use Rattle.std.proofs.Common.{◌≡◌, Some, map}
use Rattle.serde_json.specs.View.{view, items_of}
use Rattle.serde_json.specs.Find.{get, as_array}
use Rattle.site_json.proofs.Lists.{listed}
use Rattle.site_json.proofs.members.list_at.Goals as goal

pub returns-in-Some-as_array : goal.returns-in-Some-as_array
returns-in-Some-as_array c =
    let found : Some (view c.in-Some.member.now) ≡ get c.args.name.now (view c.args.value.now) = c.in-Some.ensures in
    let array : Some (items_of (map view c.as_slice.result.now)) ≡ as_array (view c.in-Some.member.now) = rw c.as_slice.ensures.value c.in-Some-as_array.ensures in
    listed c.args.name.now (view c.args.value.now) (view c.in-Some.member.now) (map view c.as_slice.result.now) found array
