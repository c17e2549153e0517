use Rattle.std.proofs.Common.{◌≡◌, ◌≢◌, ℕ, List}
use Rattle.conn.specs.Cut.{Event}
use Rattle.conn.specs.Stands.{given_by}
use Rattle.links.specs.Standing.{behind, LinksStand, conn_on, left_on}
use Rattle.links.proofs.links.Links.next_all.Given as goal

abbrev pub invariant-answers : goal.invariant-answers
invariant-answers l = record {
  stands : (limit : ℕ) (fed : ℕ → List ℕ) (given : ℕ → List Event) → LinksStand l.fn.self limit fed (behind given l.link (given_by l.fn.out.items))
      → LinksStand l.self limit fed (behind given l.link (given_by l.out.items));
  others : (other : ℕ) → other ≢ l.link → conn_on l.self other ≡ conn_on l.fn.self other;
}

abbrev pub decreases-answers : goal.decreases-answers
decreases-answers l = left_on l.self l.link
