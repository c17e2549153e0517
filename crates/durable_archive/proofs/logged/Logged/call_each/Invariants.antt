-- The calls so far are a safe run, and those that are left may be made.
use Rattle.std.proofs.Common.{◌≡◌, ◌≤◌, List, ℕ, length, drop}
use Rattle.std.specs.Prelude.{reverse, vec_capacity, vec_len}
use Rattle.cta_journal.specs.Standing.{StandsFor}
use Rattle.durable_archive.specs.Runs.{IsRun, IsSafeRun, MayBeCalled}
use Rattle.durable_archive.proofs.logged.Logged.call_each.Given as goal

abbrev pub invariant-loop-call : goal.invariant-loop-call
invariant-loop-call g l =
    let K = g.K.Disk in
    let told = g.M.Told.told in
    record {
      may : MayBeCalled told l.self.archive.site l.self.archive.history (drop (length l.yielded) l.fn.calls.items);
      site : l.self.archive.site ≡ l.fn.self.archive.site;
      first : l.self.first ≡ l.fn.self.first;
      run : IsRun told K.fault_count l.fn.self (reverse l.yielded) (reverse l.backs.items) l.self;
      safe : (begun : List (List ℕ)) → StandsFor K.content K.may_leave l.fn.self.first begun → IsSafeRun K.moment K.left_since l.fn.self.archive.site begun told K.fault_count l.fn.self (reverse l.yielded) (reverse l.backs.items) l.self;
      count : vec_len l.backs ≡ length l.yielded;
      room : length l.fn.calls.items ≤ vec_capacity l.backs;
    }
