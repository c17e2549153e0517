use Rattle.std.proofs.Common.{ℕ, ◌<◌, get_or}
use Rattle.tape_routes.specs.declared.routes.Endpoint.TheVariants as at
use Rattle.tape_routes.specs.declared.routes.TheConstants.{ENDPOINTS}
use Rattle.tape_routes.proofs.Finding.{AreLed, Leads}
use Rattle.tape_routes.proofs.Conflicts.{AreAmong}
use Rattle.tape_routes.proofs.router.Routes.new.Given as goal

abbrev pub invariant-loop-endpoint : goal.invariant-loop-endpoint
invariant-loop-endpoint l = AreLed l.router × AreAmong l.endpoint-index l.router × ((k : ℕ) → k < l.endpoint-index → Leads (get_or ENDPOINTS k at.WellKnown) l.router)
