use Rattle.std.proofs.Common.{◌≡◌, ◌∙◌, sym, ap, arith}
use Rattle.part_model.specs.Held.{bytes_of}
use Rattle.sum_trees.specs.Forests.{items_in}
use Rattle.disk_buffer.specs.Stays.{Arrived, going, residents, stays_of}
use Rattle.disk_buffer.specs.Walks.{ended_by, sought}
use Rattle.disk_buffer.specs.Settling.{ready_rows}
use Rattle.disk_buffer.proofs.Settled.{going_most, later_go, ready_go, waiting_at}
use Rattle.disk_buffer.proofs.Walked.{going_is}
use Rattle.disk_buffer.proofs.arrivals.Arrivals.going_bytes.Goals as goal

pub passing_bytes-requires-clause-fits : goal.passing_bytes-requires-clause-fits
passing_bytes-requires-clause-fits c =
    let e : c.bytes-all.result ≡ bytes_of (residents (stays_of (items_in c.self.inside.forest.trees 0))) = c.bytes-all.ensures ∙ sym (ap (λ (v : Arrived). bytes_of (residents v.stays)) c.self.view_is) in
    omega (arith, c.bytes-all.type_inv)

pub returns-then-at-self : goal.returns-then-at-self
returns-then-at-self c = c.passing_bytes.ensures ∙ ap bytes_of (going_is c.self.inside.clock c.args.at (items_in c.self.inside.forest.trees 0) c.self.invariant.1.flags ∙ ap (λ (v : Arrived). going c.args.at v.stays) c.self.view_is)

pub returns-then-at-self-2 : goal.returns-then-at-self-2
returns-then-at-self-2 c =
    c.ready_bytes-ready.ensures
    ∙ ready_go c.self.inside.clock (items_in c.self.inside.forest.trees 0) c.self.invariant.1.flags
    ∙ ap (λ t. bytes_of (going t (stays_of (items_in c.self.inside.forest.trees 0)))) (sym c.if-at-self-2.true)
    ∙ ap (λ (v : Arrived). bytes_of (going c.args.at v.stays)) c.self.view_is

pub overflow_add-result : goal.overflow_add-result
overflow_add-result c =
    let all : c.bytes-all.result ≡ bytes_of (residents (stays_of (items_in c.self.inside.forest.trees 0))) = c.bytes-all.ensures ∙ sym (ap (λ (v : Arrived). bytes_of (residents v.stays)) c.self.view_is) in
    let most = going_most c.args.at (stays_of (items_in c.self.inside.forest.trees 0)) in
    let e = later_go c.self.inside.clock c.args.at (items_in c.self.inside.forest.trees 0) c.if-at-self.false c.self.invariant.1.flags in
    let r : c.ready_bytes-ready.result ≡ bytes_of (residents (stays_of (ready_rows (items_in c.self.inside.forest.trees 0)))) = c.ready_bytes-ready.ensures in
    let p : c.passing_bytes-2.result ≡ bytes_of (ended_by c.args.at (sought (waiting_at c.args.at) (items_in c.self.inside.forest.trees 0))) = c.passing_bytes-2.ensures in
    omega (arith, c.bytes-all.type_inv)

pub returns : goal.returns
returns c =
    let e = later_go c.self.inside.clock c.args.at (items_in c.self.inside.forest.trees 0) c.if-at-self.false c.self.invariant.1.flags in
    let r : c.ready_bytes-ready.result ≡ bytes_of (residents (stays_of (ready_rows (items_in c.self.inside.forest.trees 0)))) = c.ready_bytes-ready.ensures in
    let p : c.passing_bytes-2.result ≡ bytes_of (ended_by c.args.at (sought (waiting_at c.args.at) (items_in c.self.inside.forest.trees 0))) = c.passing_bytes-2.ensures in
    let v : bytes_of (going c.args.at (stays_of (items_in c.self.inside.forest.trees 0))) ≡ bytes_of (going c.args.at c.args.self.now.stays) = ap (λ (v : Arrived). bytes_of (going c.args.at v.stays)) c.self.view_is in
    omega arith
