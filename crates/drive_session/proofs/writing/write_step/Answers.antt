use Rattle.std.proofs.Common.{◌≡◌, refl, sym, ◌∙◌, ap}
use Rattle.std.specs.Prelude.{slice_get, Some, None}
use Rattle.std.proofs.lemmas.Option.{slice_get_within}
use Rattle.cta_model.specs.Hands.{sum_of_blob}
use Rattle.media.specs.Drives.{error_of}
use Rattle.media.specs.declared.drive.DeviceErr.TheVariants as err
use Rattle.drive_session.proofs.Lawful.{write_follows, write_fails}
use Rattle.drive_session.specs.Lawful.{Again}
use Rattle.drive_session.specs.Table.{held_mount}
use Rattle.drive_session.proofs.Tapes.{may_write}
use Rattle.drive_session.proofs.Steps.{left_unwritten, left_written, write_fits, write_charges, write_fault_fits, write_left, write_waits, loaded_write, write_records, parted_of, fault_left, memory_left, answered_by}
use Rattle.drive_session.proofs.Table.{unwritten_row, write_failed_row, written_row}
use Rattle.drive_session.proofs.writing.write_step.Goals as goal

pub write-answer-requires-clause-place : goal.write-answer-requires-clause-place
write-answer-requires-clause-place g c =
    let w = c.requires.fits.1.1.state in
    may_write _ c.args.b.items.items c.args.b.at c.in-Some.item (g.D.Medium.Told.told c.args.x.medium) w.batch.numbered (ap (λ xs. slice_get xs c.args.b.at) (sym c.as_slice.ensures) ∙ sym c.item_at.ensures.item ∙ c.in-Some.is) w.written

pub returns-in-Ok : goal.returns-in-Ok
returns-in-Ok g c =
    let there : slice_get c.args.b.items.items c.args.b.at ≡ Some c.in-Some.item = ap (λ xs. slice_get xs c.args.b.at) (sym c.as_slice.ensures) ∙ sym c.item_at.ensures.item ∙ c.in-Some.is in
    rw c.still_writing.ensures
    (record {
      device = c.in-Ok.ensures.drive;
      read = tt;
      left = left_written _ c.in-Some.item _ _ there (write_left g.D.Medium.Told.told c.args.number c.args.x c.args.b c.in-Some.item c.index-as_slice-b.result _ None there (rw c.as_slice-2.ensures at c.index-as_slice-b.is) c.requires.fits c.in-Ok.ensures.records);
      loaded = c.in-Ok.ensures.drive.loaded ∙ c.requires.loaded;
      waits = refl;
      table = written_row (held_mount c.args.x) c.args.b.items.items c.args.b.at c.in-Some.item there;
      asked = tt;
      charged = tt;
      safe = tt;
      kept = tt;
      lawful = λ a k. (write_follows c.args.b.items.items c.args.b.at c.in-Some.item there, refl);
      fits = write_fits g.D.Medium.Told.told c.args.number c.args.x c.args.b c.write-answer.new.medium c.in-Some.item c.index-as_slice-b.result there (rw c.as_slice-2.ensures at c.index-as_slice-b.is) c.in-Ok.ensures.records;
    })

pub returns-then-is_no_memory : goal.returns-then-is_no_memory
returns-then-is_no_memory g c =
    let wanted : error_of c.write-answer.result ≡ Some err.NoMemory = ap error_of c.in-Err.is ∙ ap Some (memory_left c.in-Err.error c.is_no_memory.result c.is_no_memory.ensures c.if-is_no_memory.true) in
    let answered = answered_by _ _ _ _ _ wanted c.write-answer.ensures.drive in
    let there : slice_get c.args.b.items.items c.args.b.at ≡ Some c.in-Some.item = ap (λ xs. slice_get xs c.args.b.at) (sym c.as_slice.ensures) ∙ sym c.item_at.ensures.item ∙ c.in-Some.is in
    let same = write_records _ _ _ _ _ _ wanted c.write-answer.ensures.records in
    rw c.still_writing-then-is_no_memory.ensures
    (record {
      device = (tt, answered.memory refl);
      read = tt;
      left = same;
      loaded = answered.loaded ∙ c.requires.loaded;
      waits = refl;
      table = unwritten_row (held_mount c.args.x) c.args.b.items.items c.args.b.at c.in-Some.item there;
      asked = tt;
      charged = tt;
      safe = tt;
      kept = (record { mount = refl; direction = refl; tape = refl; medium = same }, refl, slice_get_within c.args.b.items.items c.args.b.at c.in-Some.item there);
      lawful = λ a k. (Again _, tt);
      fits = write_waits g.D.Medium.Told.told c.args.number c.args.x c.args.b c.write-answer.new.medium same;
    })

pub returns-else-is_no_memory : goal.returns-else-is_no_memory
returns-else-is_no_memory g c =
    let there : slice_get c.args.b.items.items c.args.b.at ≡ Some c.in-Some.item = ap (λ xs. slice_get xs c.args.b.at) (sym c.as_slice.ensures) ∙ sym c.item_at.ensures.item ∙ c.in-Some.is in
    let fault : error_of c.write-answer.result ≡ Some err.Fault = ap error_of c.in-Err.is ∙ ap Some (fault_left c.in-Err.error c.is_no_memory.result c.is_no_memory.ensures c.if-is_no_memory.false) in
    let charges = write_charges g.D.Medium.Told.told c.args.number c.args.x c.args.b c.in-Some.item (record { birth = 0; file = 0; copy = 0 }) c.parted-charged.result.0 c.parted-charged.result.1 there c.parted-charged.ensures.charged c.parted-charged.ensures.returned c.requires.fits in
    rw c.leaving.ensures
    (record {
      device = answered_by _ _ _ _ _ fault c.write-answer.ensures.drive;
      read = tt;
      left = left_unwritten _ c.in-Some.item _ _ there (write_left g.D.Medium.Told.told c.args.number c.args.x c.args.b c.in-Some.item c.index-as_slice-b.result _ (Some err.Fault) there (rw c.as_slice-2.ensures at c.index-as_slice-b.is) c.requires.fits (write_records _ _ _ _ _ _ fault c.write-answer.ensures.records));
      loaded = loaded_write _ _ _ c.write-answer.ensures.drive c.requires.loaded;
      waits = refl;
      table = write_failed_row (held_mount c.args.x) c.args.b.items.items c.args.b.at c.in-Some.item _ _ there charges;
      asked = (c.in-Some.item.fseq, refl);
      charged = charges;
      safe = tt;
      kept = tt;
      lawful = λ a k. (write_fails c.args.b.items.items c.args.b.at c.in-Some.item there, refl);
      fits = write_fault_fits g.D.Medium.Told.told c.args.number c.args.x c.args.b c.write-answer.new.medium _ c.in-Some.item (sum_of_blob c.index-as_slice-b.result) (record { birth = 0; file = 0; copy = 0 }) c.parted-charged.result.0 c.parted-charged.result.1
          there c.parted-charged.ensures.charged
          (parted_of _ c.args.b.jobs.items _ _ c.args.b.at c.parted-charged.ensures.charged c.parted-charged.ensures.returned)
          (write_records _ _ _ _ _ _ fault c.write-answer.ensures.records);
    })
