use Rattle.std.proofs.Common.{◌≡◌, ◌≤◌, ◌+◌, ◌∙◌, ℕ, List, [], ◌∷◌, ◌++◌, length, ap, sym, rules, arith}
use Rattle.std.proofs.lemmas.Grind.{common_steps}
use Rattle.cta_journal.specs.Disk.{written}
use Rattle.journal_disks.specs.declared.events.DiskEvent.TheVariants as event
use Rattle.journal_disks.specs.Events.{Content}
use Rattle.journal_disks.proofs.Outcomes.{written_is_whole}
use Rattle.journal_disks.proofs.kept.Kept.write.Goals as goal

pub invariant_of-self : goal.invariant_of-self
invariant_of-self c =
    let old = c.self.view_is in
    let mid = c.self-2.view_is in
    let le : c.args.at ≤ length c.self.inside.bytes.items = first_of (search rules, grind (arith, common_steps)) in
    let first : c.self-2.inside.first.items ≡ c.self.inside.first.items = ap (λ (d : Content). d.first) mid ∙ c.in_ok-tear.ensures.ok.0 ∙ sym (ap (λ (d : Content). d.first) old) in
    let same : c.self-2.inside.bytes.items ≡ c.self.inside.bytes.items = ap (λ (d : Content). d.bytes) mid ∙ c.tear.ensures.bytes ∙ sym (ap (λ (d : Content). d.bytes) old) in
    let is : c.self-2.inside.events.items ≡ c.self.inside.events.items ++ event.Written c.args.at (length c.args.piece.now) ∷ [] = ap (λ (d : Content). d.events) mid ∙ c.in_ok-tear.ensures.ok.1 ∙ sym (ap (λ (d : Content). d.events ++ event.Written c.args.at (length c.args.piece.now) ∷ []) old) in
    let now : c.in_ok-next.next.items ≡ written c.self.inside.bytes.items c.args.at c.args.piece.now = first_of (search rules, grind (arith, common_steps)) in
    let room : c.args.at + length c.args.piece.now ≤ length c.self-2.inside.torn.items = omega (arith, c.in_ok-tear.ensures.long, ap (λ (d : Content). length d.torn) mid) in
    written_is_whole c.self.inside.first.items c.self.inside.bytes.items c.self.inside.torn.items c.self.inside.events.items c.args.at c.args.piece.now c.self-2.inside.first.items c.in_ok-next.next.items c.self-2.inside.bytes.items c.self-2.inside.torn.items c.self-2.inside.events.items c.self.invariant c.self-2.invariant le first same is now room

pub returns-clause-possible : goal.returns-clause-possible
returns-clause-possible c = λ was.
    let old = c.self.view_is in
    let mid = c.self-2.view_is in
    let le : c.args.at ≤ length c.self.inside.bytes.items = first_of (search rules, grind (arith, common_steps)) in
    let first : c.self-2.inside.first.items ≡ c.self.inside.first.items = ap (λ (d : Content). d.first) mid ∙ c.in_ok-tear.ensures.ok.0 ∙ sym (ap (λ (d : Content). d.first) old) in
    let same : c.self-2.inside.bytes.items ≡ c.self.inside.bytes.items = ap (λ (d : Content). d.bytes) mid ∙ c.tear.ensures.bytes ∙ sym (ap (λ (d : Content). d.bytes) old) in
    let is : c.self-2.inside.events.items ≡ c.self.inside.events.items ++ event.Written c.args.at (length c.args.piece.now) ∷ [] = ap (λ (d : Content). d.events) mid ∙ c.in_ok-tear.ensures.ok.1 ∙ sym (ap (λ (d : Content). d.events ++ event.Written c.args.at (length c.args.piece.now) ∷ []) old) in
    let now : c.in_ok-next.next.items ≡ written c.self.inside.bytes.items c.args.at c.args.piece.now = first_of (search rules, grind (arith, common_steps)) in
    let room : c.args.at + length c.args.piece.now ≤ length c.self-2.inside.torn.items = omega (arith, c.in_ok-tear.ensures.long, ap (λ (d : Content). length d.torn) mid) in
    (written_is_whole c.self.inside.first.items c.self.inside.bytes.items c.self.inside.torn.items c.self.inside.events.items c.args.at c.args.piece.now c.self-2.inside.first.items c.in_ok-next.next.items c.self-2.inside.bytes.items c.self-2.inside.torn.items c.self-2.inside.events.items c.self.invariant c.self-2.invariant le first same is now room).possible
