use Rattle.std.proofs.Common.{◌∙◌, ap, map}
use Rattle.site_json.specs.Elements.{policy_told, rule_told, directory_told}
use Rattle.site_json.proofs.file.callers.Goals as goal

pub returns : goal.returns
returns c = (c.in_ok-policies.ensures ∙ ap (map policy_told) c.list.ensures, c.in_ok-rules.ensures ∙ ap (map rule_told) c.list-2.ensures, c.in_ok-directories.ensures ∙ ap (map directory_told) c.list-3.ensures)
