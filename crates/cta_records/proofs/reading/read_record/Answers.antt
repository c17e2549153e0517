use Rattle.std.proofs.Common.{◌≡◌, MatchOption, subst}
use Rattle.cta_records.specs.Reads.{IsNoBody}
use Rattle.cta_records.specs.Records.{body_of, PartsFit}
use Rattle.cta_records.proofs.Fronts.{not_short, none_begins, none_goes_on}
use Rattle.cta_records.proofs.reading.read_record.Goals as goal

pub returns-in-None : goal.returns-in-None
returns-in-None c =
    let bytes = c.args.bytes.now in
    let body = c.in-Some.body.now in
    let has = c.in-Some.ensures in
    let none = subst (λ found. MatchOption found (IsNoBody body) (λ kept. PartsFit kept × (body ≡ body_of kept))) c.in-None.is c.in_ok-kept.ensures in
    (not_short bytes body has.1.0 has.0 has.1.1, none_begins bytes body has.1.0 has.0 has.1.1 none, none_goes_on bytes body has.1.0 has.0 has.1.1 none)
