use Rattle.std.proofs.Common.{◌≡◌, refl, sym, ◌∙◌, ap}
use Rattle.std.specs.Prelude.{slice_get, Some, None}
use Rattle.blob.specs.Sums.{sum_of}
use Rattle.media.specs.Drives.{error_of}
use Rattle.media.specs.declared.drive.DeviceErr.TheVariants as err
use Rattle.drive_session.specs.declared.reports.ReadEnd.TheVariants as end
use Rattle.drive_session.specs.Table.{held_mount}
use Rattle.drive_session.proofs.Lawful.{read_follows, recalled_leads}
use Rattle.drive_session.proofs.Steps.{after, fault_left, memory_left, answered_by, loaded_read}
use Rattle.drive_session.proofs.Recalls.{are_same, differ, failed_step, given_same, no_mismatch, read_charged, read_place, recall_fits, rest_step, waiting_step, was_read}
use Rattle.drive_session.proofs.Table.{only_same, read_there}
use Rattle.drive_session.proofs.reading.read_step.Goals as goal

pub returns-in_default : goal.returns-in_default
returns-in_default g c =
    rest_step g.D.Medium.Told.told c.args.number c.args.x c.args.items c.args.at _ _ (ap (λ xs. slice_get xs c.args.at) (sym c.as_slice.ensures) ∙ sym c.item_at.ensures.item ∙ c.in_default.is) c.requires.fits c.requires.loaded c.claim_step.ensures.is

pub returns-in_default-vec : goal.returns-in_default-vec
returns-in_default-vec g c =
    let there : slice_get c.args.items.items c.args.at ≡ Some c.in-Some.item = ap (λ xs. slice_get xs c.args.at) (sym c.as_slice.ensures) ∙ sym c.item_at.ensures.item ∙ c.in-Some.is in
    waiting_step g.D.Medium.Told.told c.args.number c.args.x c.args.x.medium c.args.items c.args.at c.in-Some.item None _ _ _ there refl refl c.requires.loaded tt refl tt refl c.waiting.ensures

pub read-requires-clause-place : goal.read-requires-clause-place
read-requires-clause-place g c =
    let there : slice_get c.args.items.items c.args.at ≡ Some c.in-Some.item = ap (λ xs. slice_get xs c.args.at) (sym c.as_slice.ensures) ∙ sym c.item_at.ensures.item ∙ c.in-Some.is in
    read_place g.D.Medium.Told.told c.args.number c.args.x c.args.items c.args.at c.in-Some.item there c.requires.fits

pub returns-then-not-is_same : goal.returns-then-not-is_same
returns-then-not-is_same g c =
    let there : slice_get c.args.items.items c.args.at ≡ Some c.in-Some.item = ap (λ xs. slice_get xs c.args.at) (sym c.as_slice.ensures) ∙ sym c.item_at.ensures.item ∙ c.in-Some.is in
    let other = differ _ _ _ c.is_same.ensures c.if-not-is_same.true in
    let was = was_read g.D.Medium.Told.told c.args.number c.args.x c.args.items c.args.at c.in-Some.item _ c.in-Ok-read.blob c.sum-found.result there c.requires.fits (sym c.sum-found.ensures) c.in-Ok-read.ensures.bytes in
    failed_step g.D.Medium.Told.told c.args.number c.args.x c.read.new.medium c.args.items c.args.at c.in-Some.item _ _ _ _ _ _ _ there c.read.ensures.records c.in-Ok.ensures.items (other, c.in-Ok-read.ensures.drive)
    (loaded_read _ _ _ c.read.ensures.drive c.requires.loaded)
    (refl, was) (no_mismatch (g.D.Medium.Told.told c.args.x.medium) c.in-Some.item _ c.sum-found.result c.in-Some.item.sum was refl other) c.read.ensures.records
    (λ h is. is) (λ charged returned. refl) (read_charged c.args.items.items c.args.at c.in-Some.item there) refl
    (read_follows c.args.items.items c.args.at c.in-Some.item end.Mismatch there) (c.sum-found.result, (c.in-Some.item.sum, refl)) c.mismatched.ensures

pub returns-in_default-new : goal.returns-in_default-new
returns-in_default-new g c =
    let there : slice_get c.args.items.items c.args.at ≡ Some c.in-Some.item = ap (λ xs. slice_get xs c.args.at) (sym c.as_slice.ensures) ∙ sym c.item_at.ensures.item ∙ c.in-Some.is in
    waiting_step g.D.Medium.Told.told c.args.number c.args.x c.read.new.medium c.args.items c.args.at c.in-Some.item _ _ _ _ there c.read.ensures.records c.in-Ok-read.ensures.drive
    (loaded_read _ _ _ c.read.ensures.drive c.requires.loaded)
    (refl, was_read g.D.Medium.Told.told c.args.number c.args.x c.args.items c.args.at c.in-Some.item _ c.in-Ok-read.blob c.in-Some.item.sum there c.requires.fits (sym c.sum-found.ensures ∙ are_same _ _ _ c.is_same.ensures c.if-not-is_same.false) c.in-Ok-read.ensures.bytes)
    c.read.ensures.records tt (only_same c.in-Some.item.fseq _) c.waiting-in_default-new.ensures

pub returns-in-Ok-new : goal.returns-in-Ok-new
returns-in-Ok-new g c =
    let there : slice_get c.args.items.items c.args.at ≡ Some c.in-Some.item = ap (λ xs. slice_get xs c.args.at) (sym c.as_slice.ensures) ∙ sym c.item_at.ensures.item ∙ c.in-Some.is in
    let sum = sym c.sum-found.ensures ∙ are_same _ _ _ c.is_same.ensures c.if-not-is_same.false in
    rw c.recalled.ensures
    (record {
      device = c.in-Ok-read.ensures.drive;
      read = (given_same (g.D.Medium.Told.told c.args.x.medium) _ (slice_get c.args.items.items c.args.at) c.in-Some.item _ there (refl, was_read g.D.Medium.Told.told c.args.number c.args.x c.args.items c.args.at c.in-Some.item _ c.in-Ok-read.blob c.in-Some.item.sum there c.requires.fits sum c.in-Ok-read.ensures.bytes), λ h t. tt);
      left = c.read.ensures.records;
      loaded = loaded_read _ _ _ c.read.ensures.drive c.requires.loaded;
      waits = refl;
      table = read_there (held_mount c.args.x) c.args.items.items c.args.at c.in-Some.item _ there ∙ only_same c.in-Some.item.fseq _;
      asked = (c.in-Some.item.fseq, refl);
      charged = tt;
      safe = tt;
      kept = tt;
      lawful = recalled_leads c.args.items c.args.at c.in-Some.item (after c.args.x c.read.new.medium) there;
      fits = recall_fits g.D.Medium.Told.told c.args.number c.args.x c.read.new.medium c.args.items c.args.at c.in-Some.item _ c.in-Ok-new.blob there c.read.ensures.records (ap sum_of c.in-Ok-new.ensures.ok ∙ sum);
    })

pub returns-then-is_no_memory : goal.returns-then-is_no_memory
returns-then-is_no_memory g c =
    let there : slice_get c.args.items.items c.args.at ≡ Some c.in-Some.item = ap (λ xs. slice_get xs c.args.at) (sym c.as_slice.ensures) ∙ sym c.item_at.ensures.item ∙ c.in-Some.is in
    let wanted : error_of c.read.result ≡ Some err.NoMemory = ap error_of c.in-Err.is ∙ ap Some (memory_left c.in-Err.error c.is_no_memory.result c.is_no_memory.ensures c.if-is_no_memory.true) in
    waiting_step g.D.Medium.Told.told c.args.number c.args.x c.read.new.medium c.args.items c.args.at c.in-Some.item _ _ _ _ there c.read.ensures.records (tt, (answered_by _ _ _ _ _ wanted c.read.ensures.drive).memory refl)
    (loaded_read _ _ _ c.read.ensures.drive c.requires.loaded) tt c.read.ensures.records tt (only_same c.in-Some.item.fseq _) c.waiting-then-is_no_memory.ensures

pub returns-else-is_no_memory : goal.returns-else-is_no_memory
returns-else-is_no_memory g c =
    let there : slice_get c.args.items.items c.args.at ≡ Some c.in-Some.item = ap (λ xs. slice_get xs c.args.at) (sym c.as_slice.ensures) ∙ sym c.item_at.ensures.item ∙ c.in-Some.is in
    let fault : error_of c.read.result ≡ Some err.Fault = ap error_of c.in-Err.is ∙ ap Some (fault_left c.in-Err.error c.is_no_memory.result c.is_no_memory.ensures c.if-is_no_memory.false) in
    failed_step g.D.Medium.Told.told c.args.number c.args.x c.read.new.medium c.args.items c.args.at c.in-Some.item _ _ _ _ _ _ _ there c.read.ensures.records c.in-Ok.ensures.items (answered_by _ _ _ _ _ fault c.read.ensures.drive)
    (loaded_read _ _ _ c.read.ensures.drive c.requires.loaded) tt (λ h t. tt) c.read.ensures.records
    (λ h is. is) (λ charged returned. (c.in-Some.item.fseq, refl)) (read_charged c.args.items.items c.args.at c.in-Some.item there) (only_same c.in-Some.item.fseq _)
    (read_follows c.args.items.items c.args.at c.in-Some.item end.Failed there) refl c.unread.ensures
