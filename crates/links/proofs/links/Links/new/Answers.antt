use Rattle.std.proofs.Common.{◌≡◌, [], ◌∷◌, ◌++◌, true, arith}
use Rattle.std.proofs.lemmas.Grind.{common_steps}
use Rattle.std.specs.Result.{is_ok}
use Rattle.links.proofs.Elements.{got_pushed}
use Rattle.links.specs.Standing.{ConnStands}
use Rattle.links.proofs.links.Links.new.Goals as goal

pub loop-link-preserved : goal.loop-link-preserved
loop-link-preserved c =
    let taken : is_ok c.push.result ≡ true = grind (arith, common_steps) in
    let items : c.push.new.self.items ≡ c.loop-link.conns.items ++ c.new.result ∷ [] = grind (arith, common_steps) in
    record {
      count = grind (arith, common_steps);
      stand = rw items
          (got_pushed (λ conn. ConnStands c.args.file_limit conn [] []) c.loop-link.conns.items c.new.result c.loop-link.invariant.stand
          (record { limit_is = c.new.ensures.limit; stands = c.new.ensures.stands }));
    }
