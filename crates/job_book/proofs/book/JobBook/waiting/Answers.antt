use Rattle.std.proofs.Common.{rules, ap, ◌∙◌, sym, ◌≤◌, ◌≡◌, ℕ, Some, None, length, List, ◌++◌, [], subst, append-nil}
use Rattle.std.specs.Prelude.{◌==◌, option_map}
use Rattle.std.specs.Map.{lookup}
use Rattle.cta_model.specs.RepackItems.{waiting_for}
use Rattle.part_model.specs.Room.{Roomed}
use Rattle.part_model.specs.JobRows.{JobRows, recall_in}
use Rattle.job_book.specs.Maps.{Maps, waits_at, waiting_in}
use Rattle.job_book.proofs.Changes.{recall_is}
use Rattle.job_book.proofs.Looks.{recall_of}
use Rattle.job_book.proofs.book.JobBook.waiting.Goals as goal

pub tell_waiting-requires : goal.tell_waiting-requires
tell_waiting-requires c =
    let m : Maps = record { waiting = c.self.inside.waiting.entries; recalls = c.self.inside.recalls.entries; archives = c.self.inside.archives.entries; births = c.self.inside.births.entries; claims = c.self.inside.claims.entries; counts = c.self.inside.counts.entries; charges = c.self.inside.charges.entries; named = c.self.inside.named.entries } in
    let live : (lookup (λ k. c.args.file == k) m.recalls) ≡ Some c.in-Some.row = search rules in
    let told : waiting_for (recall_in c.args.self.now.value.recalls c.args.file) ≡ waiting_in (waits_at m.waiting c.args.file) c.in-Some.row.places = ap waiting_for (recall_is m c.args.self.now.value c.args.file (ap (λ (v : Roomed JobRows). v.value) c.self.view_is) ∙ ap (option_map (recall_of m.waiting c.args.file)) live) in
    subst (λ (xs : List ℕ). length xs ≤ c.args.out.now.room) told c.requires

pub returns-in-Some : goal.returns-in-Some
returns-in-Some c =
    let m : Maps = record { waiting = c.self.inside.waiting.entries; recalls = c.self.inside.recalls.entries; archives = c.self.inside.archives.entries; births = c.self.inside.births.entries; claims = c.self.inside.claims.entries; counts = c.self.inside.counts.entries; charges = c.self.inside.charges.entries; named = c.self.inside.named.entries } in
    let live : (lookup (λ k. c.args.file == k) m.recalls) ≡ Some c.in-Some.row = search rules in
    let told : waiting_for (recall_in c.args.self.now.value.recalls c.args.file) ≡ waiting_in (waits_at m.waiting c.args.file) c.in-Some.row.places = ap waiting_for (recall_is m c.args.self.now.value c.args.file (ap (λ (v : Roomed JobRows). v.value) c.self.view_is) ∙ ap (option_map (recall_of m.waiting c.args.file)) live) in
    c.tell_waiting.ensures ∙ ap (λ (xs : List ℕ). c.args.out.now.items ++ xs) (sym told)

pub returns-in_default : goal.returns-in_default
returns-in_default c =
    let m : Maps = record { waiting = c.self.inside.waiting.entries; recalls = c.self.inside.recalls.entries; archives = c.self.inside.archives.entries; births = c.self.inside.births.entries; claims = c.self.inside.claims.entries; counts = c.self.inside.counts.entries; charges = c.self.inside.charges.entries; named = c.self.inside.named.entries } in
    let dead : (lookup (λ k. c.args.file == k) m.recalls) ≡ None = search rules in
    let told : waiting_for (recall_in c.args.self.now.value.recalls c.args.file) ≡ [] = ap waiting_for (recall_is m c.args.self.now.value c.args.file (ap (λ (v : Roomed JobRows). v.value) c.self.view_is) ∙ ap (option_map (recall_of m.waiting c.args.file)) dead) in
    sym (ap (λ (xs : List ℕ). c.args.out.now.items ++ xs) told ∙ append-nil _)
