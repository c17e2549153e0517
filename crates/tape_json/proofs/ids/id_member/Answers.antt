use Rattle.std.proofs.Common.{◌≡◌, ◌∙◌, ap, subst, List, ℕ, [], ◌∷◌}
use Rattle.json.specs.Token.{key, string}
use Rattle.uuid.specs.Text.{hyphenated_text, lower}
use Rattle.tape_json.specs.Reports.{id_text}
use Rattle.tape_json.specs.Shown.{Appends}
use Rattle.tape_json.proofs.ids.id_member.Goals as goal

pub returns : goal.returns
returns c =
    let text : c.encode_lower.result.now ≡ id_text c.args.n = c.encode_lower.ensures.text ∙ ap (hyphenated_text lower) (c.hyphenated-id.ensures ∙ c.from_u128.ensures) in
    subst (λ (t : List ℕ). Appends c.text_member.result c.args.out.now c.text_member.new.out (key c.args.name.now ∷ string t ∷ [])) text c.text_member.ensures
