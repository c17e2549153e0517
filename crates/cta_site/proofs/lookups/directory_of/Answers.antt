use Rattle.std.proofs.Common.{◌≡◌, ◌∙◌, ◌+◌, ◌-◌, ◌<◌, Some, sym, subst, length, take, arith}
use Rattle.cta_site.specs.declared.site.Directory.{Directory}
use Rattle.cta_site.specs.Lookups.{place_by}
use Rattle.cta_site.proofs.Fronts.{NoneFrom, longest_at, longest_none}
use Rattle.cta_site.proofs.lookups.directory_of.Goals as goal

pub returns-in-Some : goal.returns-in-Some
returns-in-Some c =
    let at = c.loop-end.end - 1 in
    let low : at < length c.args.path.now = omega arith in
    let next : c.loop-end.end ≡ at + 1 = omega arith in
    let none : NoneFrom c.args.directories.now c.args.path.now (at + 1) = subst (NoneFrom c.args.directories.now c.args.path.now) next c.loop-end.invariant in
    let place : place_by (λ (d : Directory). d.path) c.args.directories.now (take at c.args.path.now) ≡ Some c.in-Some.place = sym (c.requires (take at c.args.path.now)) ∙ sym c.in-Some.ensures in
    c.item_at.ensures ∙ longest_at c.args.path.now at c.args.directories.now c.in-Some.place low c.if-path-end-eq47.true none place

pub returns : goal.returns
returns c =
    let done : c.loop-end.end ≡ 0 = omega arith in
    let none : NoneFrom c.args.directories.now c.args.path.now 0 = subst (NoneFrom c.args.directories.now c.args.path.now) done c.loop-end.invariant in
    sym (longest_none c.args.path.now c.args.directories.now none)
