use Rattle.std.proofs.Common.{◌≡◌, ◌++◌, ◌∙◌, List, ℕ, [], ap, sym}
use Rattle.std.proofs.lemmas.List.{append-nil}
use Rattle.cta_records.proofs.ToldRecords.{never_bad, one_entry}
use Rattle.cta_records.specs.Records.{entry_before}
use Rattle.cta_records.proofs.copying.copy_entry.Goals as goal

pub returns-in-Ok-clause-copy : goal.returns-in-Ok-clause-copy
returns-in-Ok-clause-copy c =
    let written : c.deref.result.now ≡ entry_before c.args.entry.now [] =
    c.deref.ensures.value ∙ sym (append-nil c.put_entry.new.out.items) ∙ c.in_ok-put_entry.ensures.bytes [] ∙ ap (λ (l : List ℕ). l ++ entry_before c.args.entry.now []) c.new-bytes.ensures.items in
    one_entry c.in-Ok.copy c.args.entry.now c.in-Ok.field-0-1.now [] c.deref.result.now c.in-Ok.ensures.right.0 c.in_ok-put_entry.ensures.fits c.in-Ok.ensures.right.1 written

pub unreachable-requires : goal.unreachable-requires
unreachable-requires c =
    let written : c.deref.result.now ≡ entry_before c.args.entry.now [] =
    c.deref.ensures.value ∙ sym (append-nil c.put_entry.new.out.items) ∙ c.in_ok-put_entry.ensures.bytes [] ∙ ap (λ (l : List ℕ). l ++ entry_before c.args.entry.now []) c.new-bytes.ensures.items in
    never_bad c.in-Err-Bad.field-0 c.in-Err-Bad.field-0-is (c.in-Err-Bad.ensures.again c.args.entry.now [] c.in_ok-put_entry.ensures.fits written)
