use Rattle.drive_session.proofs.TableRows.{rows_hold}
use Rattle.drive_session.proofs.examples.table_rows.Goals as goal

pub returns : goal.returns
returns g c = rows_hold
