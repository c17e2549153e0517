use Rattle.std.proofs.Common.{◌≡◌, ◌⊎◌, ◌∙◌, inl, inr, List, ℕ, Some, ap, subst, sym}
use Rattle.cta_journal.specs.Disk.{Only}
use Rattle.cta_journal.specs.Damage.{IsDamaged}
use Rattle.cta_journal.specs.Log.{KeepsLog}
use Rattle.cta_journal.proofs.Moments.{weaker, and_then}
use Rattle.cta_journal.proofs.opening.prepare.Goals as goal

pub returns-clause-any_moment : goal.returns-clause-any_moment
returns-clause-any_moment g c = λ file told.
    let P : List ℕ → Type 0 = λ f. g.K.Disk.may_leave c.args.disk.now f ⊎ KeepsLog file f in
    let read = c.in-Ok.ensures.bytes file told in
    let same = c.deref.ensures.value ∙ read.0 in
    let first = weaker g.K.Disk.moment g.K.Disk.left_since c.args.disk.now c.read_synced.new.disk _ P c.read_synced.ensures.any_moment (λ f left. inl left) in
    let second = weaker g.K.Disk.moment g.K.Disk.left_since c.read_synced.new.disk c.settle.new.disk _ P
    (c.settle.ensures.any_moment (c.read_synced.ensures.content ∙ told ∙ ap (λ (f : List ℕ). Some f) (sym same)) (subst (λ f. Only f (g.K.Disk.may_leave c.read_synced.new.disk)) (sym same) read.1))
    (λ f keeps. inr (subst (λ l. KeepsLog l f) same keeps)) in
    and_then g.K.Disk.moment g.K.Disk.left_since c.args.disk.now c.read_synced.new.disk c.settle.new.disk P first second

pub returns-clause-whole : goal.returns-clause-whole
returns-clause-whole g c = λ file offset told damaged.
    let same = c.deref.ensures.value ∙ (c.in-Ok.ensures.bytes file told).0 in
    c.settle.ensures.whole offset (subst (λ l. IsDamaged g.R.Record.body g.R.Record.fits l offset) (sym same) damaged)
