use Rattle.cta_records.proofs.ToldRecords.{one_record, told_apart}
use Rattle.cta_records.proofs.laws.records_tell_apart.Goals as goal

pub returns-clause-one : goal.returns-clause-one
returns-clause-one c = one_record

pub returns-clause-apart : goal.returns-clause-apart
returns-clause-apart c = told_apart
