use Rattle.std.proofs.Common.{◌≡◌, ◌∙◌, ◌+◌, ℕ, List, Some, Option, cond, ap}
use Rattle.std.specs.Prelude.{bytes_eq}
use Rattle.cta_site.proofs.Puts.{told, told-put, count_raised}
use Rattle.cta_site.proofs.tally.Tally.add.Goals as goal

pub returns : goal.returns
returns c =
    let old : List ℕ → Option ℕ = told (λ k. k.items) c.args.self.now.counts in
    let new : List ℕ → Option ℕ = told (λ k. k.items) c.insert.new.self in
    λ key.
    let put : new key ≡ cond (bytes_eq c.args.name.now key) (Some (c.count-count.result + 1)) (old key) = told-put (λ k. k.items) c.args.self.now.counts c.insert.new.self c.in_ok-name.name (Some (c.count-count.result + 1)) c.in_ok-insert.ensures.updates key ∙ ap (λ b. cond (bytes_eq b key) (Some (c.count-count.result + 1)) (old key)) c.in_ok-name.ensures.items in
    count_raised old new c.args.name.now key c.count-count.result c.count-count.ensures put
