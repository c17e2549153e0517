use Rattle.std.proofs.Common.{◌≡◌, vec_len, []}
use Rattle.links.specs.Standing.{EachStands}
use Rattle.links.proofs.links.Links.new.Given as goal

abbrev pub invariant-loop-link : goal.invariant-loop-link
invariant-loop-link l = record {
  count : vec_len l.conns ≡ l._link;
  stand : EachStands l.conns.items l.file_limit (λ link. []) (λ link. []);
}
