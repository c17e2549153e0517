use Rattle.std.proofs.Common.{◌≡◌, ◌≤◌, ℕ, None, take}
use Rattle.std.specs.Prelude.{if◌then◌else◌}
use Rattle.cta_model.specs.History.{has_number}
use Rattle.disk_buffer.specs.Stays.{content_in}
use Rattle.disk_buffer.proofs.Held.{held_without}
use Rattle.disk_buffer.proofs.buffer.DiskBuffer.take_all.Given as goal

abbrev pub invariant-loop-file : goal.invariant-loop-file
invariant-loop-file l =
    (l.self.held.value ≡ held_without (take l.file-index l.files) l.initial.self.held.value)
    × ((f : ℕ) → content_in l.self.contents f ≡ (if has_number f (take l.file-index l.files) then None else content_in l.initial.self.contents f))
    × (l.initial.self.held.room ≤ l.self.held.room)
