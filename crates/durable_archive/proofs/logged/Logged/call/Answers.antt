use Rattle.std.proofs.Common.{rules, arith, ◌≡◌, ◌∙◌, List, ℕ, true, false, None, ap, refl, sym, subst}
use Rattle.cta_journal.specs.Disk.{LeavesOnly}
use Rattle.cta_journal.specs.Standing.{StandsFor, disk_of}
use Rattle.durable_archive.specs.Journaled.{IsCountedFrom, IsLogged, LoggedView, sure_of}
use Rattle.durable_archive.specs.Records.{KeepsBetween}
use Rattle.durable_archive.specs.Turns.{back_adds}
use Rattle.durable_archive.proofs.Calling.{adds_none, adds_one, appended, cause_since, failed, kept_on, same_site, untouched, was_false, was_true}
use Rattle.durable_archive.proofs.logged.Logged.call.Goals as goal

pub returns-in-Some-clause-any_moment : goal.returns-in-Some-clause-any_moment
returns-in-Some-clause-any_moment g c =
    let K = g.K.Disk in
    let i = c.self.inside in
    subst (λ (v : LoggedView g.row.K.Denot). (begun : List (List ℕ)) → StandsFor K.content K.may_leave v.first begun
    → LeavesOnly K.moment K.left_since (disk_of v.journal) (disk_of v.journal) (KeepsBetween v.archive.site begun (sure_of v.closed v.archive.history) v.archive.history))
    c.self.view_is
    (untouched K.content K.may_leave i.archive.site K.moment K.left_since g.met.K.Disk.only_now i.archive.history i.archive.history i.journal i.journal i.closed i.first.value refl refl c.self.invariant.0)

pub returns-then-not-adds-clause-any_moment : goal.returns-then-not-adds-clause-any_moment
returns-then-not-adds-clause-any_moment g c =
    let K = g.K.Disk in
    let i = c.self.inside in
    let later = c.call-back.new.self in
    let was : c.adds.result ≡ false = search was_false in
    let adds : back_adds c.call-back.result ≡ false = sym c.adds.ensures ∙ was in
    let same : later.history ≡ i.archive.history = adds_none g.M.Told.told i.archive.site i.archive.history c.args.call c.call-back.result later.history adds c.call-back.ensures.returns in
    subst (λ (v : LoggedView g.row.K.Denot). (begun : List (List ℕ)) → StandsFor K.content K.may_leave v.first begun
    → LeavesOnly K.moment K.left_since (disk_of v.journal) (disk_of i.journal) (KeepsBetween v.archive.site begun (sure_of v.closed v.archive.history) later.history))
    c.self.view_is
    (untouched K.content K.may_leave i.archive.site K.moment K.left_since g.met.K.Disk.only_now i.archive.history later.history i.journal i.journal i.closed i.first.value refl same c.self.invariant.0)

pub invariant_of-self-in-Ok : goal.invariant_of-self-in-Ok
invariant_of-self-in-Ok g c =
    let K = g.K.Disk in
    let i = c.self.inside in
    let later = c.call-back.new.self in
    let none : i.closed ≡ None = search in
    let was : c.adds.result ≡ true = search was_true in
    let adds : back_adds c.call-back.result ≡ true = sym c.adds.ensures ∙ was in
    let one = adds_one g.M.Told.told i.archive.site i.archive.history c.args.call c.call-back.result later.history adds c.call-back.ensures.returns in
    let sites : later.site ≡ i.archive.site = ap (λ k. k.site) c.call-back.ensures.kept ∙ same_site g.M.Told.told i.archive c.args.call c.call-back.result in
    let kept : IsLogged K.content K.may_leave later.site i.archive.history i.journal None i.first.value =
    subst (λ o. IsLogged K.content K.may_leave later.site i.archive.history i.journal o i.first.value) none
    (subst (λ s. IsLogged K.content K.may_leave s i.archive.history i.journal i.closed i.first.value) (sym sites) c.self.invariant.0) in
    let counted = subst (λ o. IsCountedFrom (K.fault_count (disk_of i.first.value)) o (K.fault_count (disk_of i.journal))) none c.self.invariant.1 in (
      subst (λ o. IsLogged K.content K.may_leave later.site later.history c.keep_last.new.journal o i.first.value) (sym none)
          (kept_on K.content K.may_leave later.site K.moment K.left_since g.met.K.Disk.only_now one.0 i.archive.history later.history one.1 i.journal c.keep_last.new.journal i.first.value kept
          (λ bodies are s. c.keep_last.ensures.any_moment one.0 i.archive.history bodies one.1 are s) c.in-Ok.ensures.open (λ bodies are s. c.in-Ok.ensures.stored one.0 i.archive.history bodies one.1 are s)),
      subst (λ o. IsCountedFrom (K.fault_count (disk_of i.first.value)) o (K.fault_count (disk_of c.keep_last.new.journal))) (sym none) (omega (arith, counted, c.keep_last.ensures.later)),
    )

pub invariant_of-self-in-Err : goal.invariant_of-self-in-Err
invariant_of-self-in-Err g c =
    let K = g.K.Disk in
    let i = c.self.inside in
    let later = c.call-back.new.self in
    let none : i.closed ≡ None = search in
    let was : c.adds.result ≡ true = search was_true in
    let adds : back_adds c.call-back.result ≡ true = sym c.adds.ensures ∙ was in
    let one = adds_one g.M.Told.told i.archive.site i.archive.history c.args.call c.call-back.result later.history adds c.call-back.ensures.returns in
    let sites : later.site ≡ i.archive.site = ap (λ k. k.site) c.call-back.ensures.kept ∙ same_site g.M.Told.told i.archive c.args.call c.call-back.result in
    let kept : IsLogged K.content K.may_leave later.site i.archive.history i.journal None i.first.value =
    subst (λ o. IsLogged K.content K.may_leave later.site i.archive.history i.journal o i.first.value) none
    (subst (λ s. IsLogged K.content K.may_leave s i.archive.history i.journal i.closed i.first.value) (sym sites) c.self.invariant.0) in
    let counted = subst (λ o. IsCountedFrom (K.fault_count (disk_of i.first.value)) o (K.fault_count (disk_of i.journal))) none c.self.invariant.1 in (
      failed K.content K.may_leave later.site K.moment K.left_since g.met.K.Disk.only_now one.0 i.archive.history later.history one.1 i.journal c.keep_last.new.journal i.first.value kept
          (λ bodies are s. c.keep_last.ensures.any_moment one.0 i.archive.history bodies one.1 are s) g.met.K.Disk.counts_now c.in-Err.cause,
      cause_since (K.fault_count (disk_of i.first.value)) (K.fault_count (disk_of i.journal)) (K.fault_count (disk_of c.keep_last.new.journal)) c.in-Err.cause counted (c.keep_last.ensures.cause c.in-Err.cause (search rules)),
    )

pub returns-in-Ok-clause-any_moment : goal.returns-in-Ok-clause-any_moment
returns-in-Ok-clause-any_moment g c =
    let K = g.K.Disk in
    let i = c.self.inside in
    let later = c.call-back.new.self in
    let none : i.closed ≡ None = search in
    let was : c.adds.result ≡ true = search was_true in
    let adds : back_adds c.call-back.result ≡ true = sym c.adds.ensures ∙ was in
    let one = adds_one g.M.Told.told i.archive.site i.archive.history c.args.call c.call-back.result later.history adds c.call-back.ensures.returns in
    let sites : later.site ≡ i.archive.site = ap (λ k. k.site) c.call-back.ensures.kept ∙ same_site g.M.Told.told i.archive c.args.call c.call-back.result in
    let kept : IsLogged K.content K.may_leave later.site i.archive.history i.journal None i.first.value =
    subst (λ o. IsLogged K.content K.may_leave later.site i.archive.history i.journal o i.first.value) none
    (subst (λ s. IsLogged K.content K.may_leave s i.archive.history i.journal i.closed i.first.value) (sym sites) c.self.invariant.0) in
    subst (λ (v : LoggedView g.row.K.Denot). (begun : List (List ℕ)) → StandsFor K.content K.may_leave v.first begun
    → LeavesOnly K.moment K.left_since (disk_of v.journal) (disk_of c.keep_last.new.journal) (KeepsBetween v.archive.site begun (sure_of v.closed v.archive.history) later.history))
    c.self.view_is
    (λ begun s.
    subst (λ o. LeavesOnly K.moment K.left_since (disk_of i.journal) (disk_of c.keep_last.new.journal) (KeepsBetween i.archive.site begun (sure_of o i.archive.history) later.history)) (sym none)
    (subst (λ t. LeavesOnly K.moment K.left_since (disk_of i.journal) (disk_of c.keep_last.new.journal) (KeepsBetween t begun i.archive.history later.history)) sites
    (appended K.content K.may_leave later.site K.moment K.left_since g.met.K.Disk.only_now one.0 i.archive.history later.history one.1 i.journal c.keep_last.new.journal i.first.value kept
    (λ bodies are t. c.keep_last.ensures.any_moment one.0 i.archive.history bodies one.1 are t) begun s)))

pub returns-in-Err-clause-any_moment : goal.returns-in-Err-clause-any_moment
returns-in-Err-clause-any_moment g c =
    let K = g.K.Disk in
    let i = c.self.inside in
    let later = c.call-back.new.self in
    let none : i.closed ≡ None = search in
    let was : c.adds.result ≡ true = search was_true in
    let adds : back_adds c.call-back.result ≡ true = sym c.adds.ensures ∙ was in
    let one = adds_one g.M.Told.told i.archive.site i.archive.history c.args.call c.call-back.result later.history adds c.call-back.ensures.returns in
    let sites : later.site ≡ i.archive.site = ap (λ k. k.site) c.call-back.ensures.kept ∙ same_site g.M.Told.told i.archive c.args.call c.call-back.result in
    let kept : IsLogged K.content K.may_leave later.site i.archive.history i.journal None i.first.value =
    subst (λ o. IsLogged K.content K.may_leave later.site i.archive.history i.journal o i.first.value) none
    (subst (λ s. IsLogged K.content K.may_leave s i.archive.history i.journal i.closed i.first.value) (sym sites) c.self.invariant.0) in
    subst (λ (v : LoggedView g.row.K.Denot). (begun : List (List ℕ)) → StandsFor K.content K.may_leave v.first begun
    → LeavesOnly K.moment K.left_since (disk_of v.journal) (disk_of c.keep_last.new.journal) (KeepsBetween v.archive.site begun (sure_of v.closed v.archive.history) later.history))
    c.self.view_is
    (λ begun s.
    subst (λ o. LeavesOnly K.moment K.left_since (disk_of i.journal) (disk_of c.keep_last.new.journal) (KeepsBetween i.archive.site begun (sure_of o i.archive.history) later.history)) (sym none)
    (subst (λ t. LeavesOnly K.moment K.left_since (disk_of i.journal) (disk_of c.keep_last.new.journal) (KeepsBetween t begun i.archive.history later.history)) sites
    (appended K.content K.may_leave later.site K.moment K.left_since g.met.K.Disk.only_now one.0 i.archive.history later.history one.1 i.journal c.keep_last.new.journal i.first.value kept
    (λ bodies are t. c.keep_last.ensures.any_moment one.0 i.archive.history bodies one.1 are t) begun s)))
