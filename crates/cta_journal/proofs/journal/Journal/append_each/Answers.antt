use Rattle.std.proofs.Common.{◌≡◌, ◌∙◌, ◌++◌, All, List, ℕ, ap, sym, subst, map, take, length, arith, rules}
use Rattle.std.proofs.lemmas.List.{append-nil, take_all}
use Rattle.std.proofs.lemmas.Grind.{common_steps}
use Rattle.std.proofs.lemmas.List.Elements.{All-more, All-nil}
use Rattle.cta_journal.specs.Fronts.{HasFront}
use Rattle.cta_journal.specs.Standing.{StandsFor, disk_of, is_open_of}
use Rattle.cta_journal.proofs.Moments.{started, and_then, weaker}
use Rattle.cta_journal.proofs.Records.{ends}
use Rattle.cta_journal.proofs.Runs.{none_yet, next_bodies, one_more_or_not, map_front, mapped}
use Rattle.cta_journal.proofs.journal.Journal.append_each.Goals as goal

pub loop-one-init : goal.loop-one-init
loop-one-init g c =
    let K = g.K.Disk in
    let self = c.args.self.now in
    record {
      fit = All-nil g.R.Record.fits;
      possible = λ was. was;
      later = omega arith;
      is_open = c.requires;
      stands = λ bodies s. subst (λ (l : List (List ℕ)). StandsFor K.content K.may_leave self l) (sym (append-nil bodies)) s;
      run = λ bodies s. started K.moment K.left_since (disk_of self) _ (λ f left. none_yet g.R.Record.body c.args.kept.now bodies f (ends bodies f _ s.gate s.shut (s.durable f (g.met.K.Disk.only_now (disk_of self) f left))));
    }

pub loop-one-preserved : goal.loop-one-preserved
loop-one-preserved g c =
    let K = g.K.Disk in
    let body = g.R.Record.body in
    let i = c.loop-one.one-index in
    let v = c.one-item.result in
    record {
      fit = All-more g.R.Record.fits c.args.kept.now i v c.loop-one-test.true c.loop-one.invariant.fit (subst (λ w. g.R.Record.fits w) c.one-item.is c.in_ok-append.ensures.fits);
      possible = λ was. c.append.ensures.possible (c.loop-one.invariant.possible was);
      later = omega (arith, c.loop-one.invariant.later, c.append.ensures.later);
      is_open = c.in_ok-append.ensures.ok;
      stands = λ bodies s. subst (λ (l : List (List ℕ)). StandsFor K.content K.may_leave c.append.new.self l) (next_bodies body c.args.kept.now bodies i v c.loop-one-test.true c.one-item.is) (c.in_ok-append.ensures.stored _ (c.loop-one.invariant.stands bodies s));
      run = λ bodies s. and_then K.moment K.left_since (disk_of c.args.self.now) (disk_of c.loop-one.self) (disk_of c.append.new.self) (HasFront bodies (map body c.args.kept.now)) (c.loop-one.invariant.run bodies s)
          (weaker K.moment K.left_since (disk_of c.loop-one.self) (disk_of c.append.new.self) _ (HasFront bodies (map body c.args.kept.now)) (c.append.ensures.any_moment _ (c.loop-one.invariant.stands bodies s)) (λ f left. one_more_or_not body c.args.kept.now bodies i v c.loop-one-test.true c.one-item.is f left));
    }

pub returns-in_err-append-clause-any_moment : goal.returns-in_err-append-clause-any_moment
returns-in_err-append-clause-any_moment g c = λ bodies s.
    let K = g.K.Disk in
    let body = g.R.Record.body in
    let i = c.loop-one.one-index in
    let v = c.one-item.result in
    and_then K.moment K.left_since (disk_of c.args.self.now) (disk_of c.loop-one.self) (disk_of c.append.new.self) (HasFront bodies (map body c.args.kept.now)) (c.loop-one.invariant.run bodies s)
    (weaker K.moment K.left_since (disk_of c.loop-one.self) (disk_of c.append.new.self) _ (HasFront bodies (map body c.args.kept.now)) (c.append.ensures.any_moment _ (c.loop-one.invariant.stands bodies s)) (λ f left. one_more_or_not body c.args.kept.now bodies i v c.loop-one-test.true c.one-item.is f left))

pub returns-clause-stored : goal.returns-clause-stored
returns-clause-stored g c = λ bodies s.
    let K = g.K.Disk in
    let all : take c.loop-one.one-index c.args.kept.now ≡ c.args.kept.now = take_all c.loop-one.one-index c.args.kept.now c.loop-one-test.false in
    subst (λ l. StandsFor K.content K.may_leave c.loop-one.self (bodies ++ map g.R.Record.body l)) all (c.loop-one.invariant.stands bodies s)

pub returns-clause-any_moment : goal.returns-clause-any_moment
returns-clause-any_moment g c = λ bodies s. c.loop-one.invariant.run bodies s

pub returns-in_err-append-clause-no_memory : goal.returns-in_err-append-clause-no_memory
returns-in_err-append-clause-no_memory g c = λ is.
    let K = g.K.Disk in
    let body = g.R.Record.body in
    let i = c.loop-one.one-index in
    let same : c.append.new.self ≡ c.loop-one.self = c.in_err-append.ensures.no_memory (first_of (search rules, grind (arith, common_steps))) in (
      ap is_open_of same ∙ c.loop-one.invariant.is_open,
      λ bodies s. (
        i,
        first_of (omega (arith, c.loop-one-test.true, mapped body c.args.kept.now)),
        subst (λ j. StandsFor K.content K.may_leave j (bodies ++ take i (map body c.args.kept.now))) (sym same)
            (subst (λ (l : List (List ℕ)). StandsFor K.content K.may_leave c.loop-one.self (bodies ++ l)) (map_front body i c.args.kept.now) (c.loop-one.invariant.stands bodies s)),
      ),
    )

pub returns-clause-fits : goal.returns-clause-fits
returns-clause-fits g c = subst (λ l. All g.R.Record.fits l) (take_all c.loop-one.one-index c.args.kept.now c.loop-one-test.false) c.loop-one.invariant.fit
