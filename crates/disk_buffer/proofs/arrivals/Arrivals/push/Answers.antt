use Rattle.std.proofs.Common.{◌∙◌, ◌++◌, ◌∷◌, [], length, false, refl, ap}
use Rattle.blob.specs.declared.sum.Sum256.{Sum256}
use Rattle.blob.specs.Sums.{sum_of}
use Rattle.sum_trees.specs.Forests.{items_in}
use Rattle.disk_buffer.specs.Stays.{Arrived, stays_of}
use Rattle.disk_buffer.proofs.PinLists.{set_length_one}
use Rattle.disk_buffer.proofs.Changed.{comes_new, content_put, kept_as, kept_last, last_tree, not_there, stays_last}
use Rattle.disk_buffer.proofs.arrivals.Arrivals.push.Goals as goal

pub insert-requires-clause-lacks : goal.insert-requires-clause-lacks
insert-requires-clause-lacks c = comes_new (record { arrival = c.self.inside.next; len = c.sum-len.result.len; until = c.args.until; file = c.args.file; safe = false; ready = false }) (items_in c.self.inside.forest.trees 0) c.self.invariant.1.early

pub invariant_of-self : goal.invariant_of-self
invariant_of-self c = (
  set_length_one _ _ _ c.self.invariant.0 c.insert.ensures.trees,
  kept_as _ ((items_in c.self.inside.forest.trees 0) ++ (record { arrival = c.self.inside.next; len = c.sum-len.result.len; until = c.args.until; file = c.args.file; safe = false; ready = false }) ∷ []) _ _ _ _ (last_tree c.self.inside.forest.trees c.insert.new.self.trees (record { arrival = c.self.inside.next; len = c.sum-len.result.len; until = c.args.until; file = c.args.file; safe = false; ready = false }) c.self.invariant.0 c.self.invariant.1.early c.insert.ensures.trees)
      (kept_last (record { arrival = c.self.inside.next; len = c.sum-len.result.len; until = c.args.until; file = c.args.file; safe = false; ready = false }) (items_in c.self.inside.forest.trees 0) _ _ _ _ _ _ _ c.self.invariant.1 (not_there (items_in c.self.inside.forest.trees 0) c.args.self.now.stays c.args.file (ap (λ (v : Arrived). v.stays) c.self.view_is) c.requires.lacks) refl refl c.keep.ensures.places refl refl),
)

pub returns-clause-stays : goal.returns-clause-stays
returns-clause-stays c =
    ap stays_of (last_tree c.self.inside.forest.trees c.insert.new.self.trees (record { arrival = c.self.inside.next; len = c.sum-len.result.len; until = c.args.until; file = c.args.file; safe = false; ready = false }) c.self.invariant.0 c.self.invariant.1.early c.insert.ensures.trees)
    ∙ stays_last (record { arrival = c.self.inside.next; len = c.sum-len.result.len; until = c.args.until; file = c.args.file; safe = false; ready = false }) (items_in c.self.inside.forest.trees 0) c.args.self.now.stays (ap (λ (v : Arrived). v.stays) c.self.view_is)
    ∙ ap (λ n. c.args.self.now.stays ++ record { file = c.args.file; len = n; safe = false; until = c.args.until } ∷ []) (ap (λ (s : Sum256). s.len) c.sum-len.ensures ∙ ap length c.deref.ensures)

pub returns-clause-contents : goal.returns-clause-contents
returns-clause-contents c = λ f. content_put c.self.inside.kept.entries c.keep.new.kept.entries c.args.self.now.contents c.args.file (sum_of c.args.blob.value) f (ap (λ (v : Arrived). v.contents) c.self.view_is) (c.keep.ensures.sums f)
