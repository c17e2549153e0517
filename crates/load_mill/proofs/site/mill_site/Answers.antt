use Rattle.load_mill.specs.Sites as site
use Rattle.load_mill.proofs.Valid.{has_no_fault, is_numbered, numbered_from}
use Rattle.load_mill.proofs.site.mill_site.Goals as goal

pub unreachable-requires : goal.unreachable-requires
unreachable-requires c = has_no_fault c.in_ok-site.site c.in-Err-Fault.field-0 c.in-Err-Fault.field-0-0 c.in-Err-Fault.field-0-1 c.in_ok-site.ensures c.in-Err-Fault.field-0-is c.in-Err-Fault.ensures

pub returns-in-Ok : goal.returns-in-Ok
returns-in-Ok c = c.one_numbering.ensures site.mill_site c.in-Ok.valid site.mill_site c.mill_site_is_valid.ensures.rules (numbered_from c.in_ok-site.site c.in-Ok.valid c.in_ok-site.ensures c.in-Ok.ensures.1) is_numbered
