-- Refusals of operators' asks.
use Rattle.std.specs.Prelude.{Option, Some, None, Bool, true, false, if◌then◌else◌, not}
use Rattle.cta_site.specs.declared.site.TapeState.{TapeState}
use Rattle.cta_model.specs.declared.answers.Refusal.{Refusal}
use Rattle.cta_model.specs.declared.answers.Refusal.TheVariants as refusal
use Rattle.cta_model.specs.Tapes.{is_broken, may_be_repacked}

-- the first refusal of a DriveUp or a DriveDown by these tests: no such drive, the history full
abbrev pub drive_refusal : Bool → Bool → Option Refusal
drive_refusal true heavy = Some refusal.NoDrive
drive_refusal false true = Some refusal.HistoryFull
drive_refusal false false = None

-- this refusal, or else that the history is full
abbrev pub or_full : Option Refusal → Bool → Option Refusal
or_full None heavy = if heavy then Some refusal.HistoryFull else None
or_full (Some r) heavy = Some r

-- the first refusal of an ask that wants a free tape, where this is the tape's state and whether it is mounted: no such tape, mounted, BROKEN
abbrev pub free_refusal : Option TapeState → Bool → Option Refusal
free_refusal None mounted = Some refusal.NoTape
free_refusal (Some now) mounted = if mounted then Some refusal.TapeMounted else if is_broken now then Some refusal.TapeBroken else None

-- this refusal, or else that live files are on the tape
abbrev pub or_live : Option Refusal → Bool → Option Refusal
or_live None live = if live then Some refusal.LiveFiles else None
or_live (Some r) live = Some r

-- the first refusal of a Reclaim by these tests: the tape is not free, live files are on it
abbrev pub reclaim_refusal : Option TapeState → Bool → Bool → Option Refusal
reclaim_refusal now mounted live = or_live (free_refusal now mounted) live

-- the first refusal of a Repack by these tests: no such tape, not REPACKING, a repack of it is live
abbrev pub repack_refusal : Option TapeState → Bool → Option Refusal
repack_refusal None live = Some refusal.NoTape
repack_refusal (Some now) live = if not (may_be_repacked now) then Some refusal.NotRepacking else if live then Some refusal.RepackLive else None
