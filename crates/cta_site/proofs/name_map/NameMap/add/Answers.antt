use Rattle.std.proofs.Common.{◌≡◌, ℕ, List, Option, Some, sym, ◌∙◌, ap, false, cond}
use Rattle.std.specs.Prelude.{bytes_eq, is_some}
use Rattle.cta_site.specs.NameMap.{number_in}
use Rattle.cta_site.proofs.Puts.{told, told-put, number_added}
use Rattle.cta_site.proofs.name_map.NameMap.add.Goals as goal

pub returns : goal.returns
returns c =
    let none : is_some (number_in c.args.self.now c.args.name.now) ≡ false = sym c.if-contains_key.ensures in
    let old : List ℕ → Option ℕ = told (λ k. k.items) c.args.self.now.numbers in
    let new : List ℕ → Option ℕ = told (λ k. k.items) c.insert.new.self in
    λ key.
    let put : new key ≡ cond (bytes_eq c.args.name.now key) (Some c.args.number) (old key) = told-put (λ k. k.items) c.args.self.now.numbers c.insert.new.self c.in_ok-name.name (Some c.args.number) c.in_ok-insert.ensures.updates key ∙ ap (λ b. cond (bytes_eq b key) (Some c.args.number) (old key)) c.in_ok-name.ensures.items in
    number_added old new c.args.name.now key c.args.number none put
