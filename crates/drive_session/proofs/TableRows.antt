-- The rows of the table hold.
use Rattle.std.proofs.Common.{refl, [], ◌∷◌, true, false}
use Rattle.std.specs.declared.alloc.Global.{Global}
use Rattle.std.specs.declared.sync.Arc.{Arc}
use Rattle.blob.specs.declared.blobs.Blob.{Blob}
use Rattle.blob.specs.declared.sum.Sum256.{Sum256}
use Rattle.cta_site.specs.Listed.{Listed}
use Rattle.cta_model.specs.declared.asks.Direction.TheVariants as direction
use Rattle.drive_session.specs.declared.reports.ReadEnd.TheVariants as end
use Rattle.drive_session.specs.Examples.{AskRows, FreeRows, CallRows, ReadRows, ReadyRows, WriteRows, WritingRows, ReadingRows, TableRows}
use Rattle.drive_session.specs.Lawful.{Loads, FailsLoad, Unloads, Writes, FailsWrite, Flushes, FailsFlush, Reads}

free_rows : {M : Type 0} (m : M) → FreeRows m
free_rows m = record { mount = refl; held = refl; idle = refl; down = refl; busy = refl; full = refl; free = refl }

call_rows : CallRows
call_rows = record { load_ok = Loads direction.Archive; load_failed = FailsLoad direction.Archive; unload_ok = Unloads true; unload_failed = Unloads false }

ready_rows : {M : Type 0} (m : M) (s : Sum256) (blobs : Listed (Arc Blob Global)) → ReadyRows m s blobs
ready_rows m s blobs = record { to_write = refl; writing = refl; to_read = refl; reading = refl; none = refl; full = refl; leaving = refl }

writing_rows : {M : Type 0} (m : M) (s : Sum256) (blobs : Listed (Arc Blob Global)) → WritingRows m s blobs
writing_rows m s blobs = record {
  claimed = refl;
  write_ok = Writes 1 (2 ∷ []);
  write_failed = FailsWrite 1 (2 ∷ []);
  write_charges = refl;
  last_write = Writes 2 [];
  flush_ok = refl;
  flushed = Flushes 1 1;
  flush_failed = FailsFlush;
  flush_charges = refl;
}

reading_rows : {M : Type 0} (m : M) (s found : Sum256) → ReadingRows m s found
reading_rows m s found = record {
  claimed = refl;
  done = refl;
  stale = refl;
  failed = refl;
  mismatch = refl;
  charges = refl;
  goes_on = Reads 1 (2 ∷ []) end.Failed;
  last = Reads 2 [] end.Done;
}

ask_rows : AskRows
ask_rows = record { next = refl; no_call = refl; load_ok = refl; load_failed = refl; claim = refl; unload_ok = refl; unload_failed = refl }

write_rows : (s : Sum256) → WriteRows s
write_rows s = record { write_ok = refl; other_place = refl; first_failed = refl; last_failed = refl; wants = refl; flush_ok = refl; flush_failed = refl }

read_rows : (s found : Sum256) → ReadRows s found
read_rows s found = record { read_ok = refl; read_failed = refl; mismatch = refl; wants = refl; all_read = refl }

pub rows_hold : {M : Type 0} (m : M) (s found : Sum256) (blobs : Listed (Arc Blob Global)) → TableRows m s found blobs
rows_hold m s found blobs = record {
  free = free_rows m;
  calls = call_rows;
  ready = ready_rows m s blobs;
  writing = writing_rows m s blobs;
  reading = reading_rows m s found;
  call_asks = ask_rows;
  write_asks = write_rows s;
  read_asks = read_rows s found;
}
