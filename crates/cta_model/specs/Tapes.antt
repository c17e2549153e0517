-- Tapes: their states, and the items on them.
use Rattle.std.specs.Prelude.{ℕ, ◌+◌, length, List, [], ◌∷◌, ◌++◌, Bool, true, false, if◌then◌else◌, ◌==◌, ◌&&◌, sum_by}
use Rattle.cta_site.specs.declared.site.Site.{Site}
use Rattle.cta_site.specs.declared.site.TapeState.{TapeState}
use Rattle.cta_site.specs.declared.site.TapeState.TheVariants as state
use Rattle.cta_site.specs.Lookups.{first_state}
use Rattle.cta_model.specs.declared.asks.Ask.{Ask}
use Rattle.cta_model.specs.declared.asks.Ask.TheVariants as ask
use Rattle.cta_model.specs.declared.asks.Item.{Item}
use Rattle.cta_model.specs.declared.asks.Direction.TheVariants as direction
use Rattle.cta_model.specs.declared.states.Mount.{Mount}
use Rattle.cta_model.specs.History.{History}
use Rattle.cta_model.specs.Mounts.{open_where, asked_mount, tape_of_mount, claimed_items, same_direction}

-- ---- states

-- the state of a tape after an ask: what a TapeState of this tape says, else as before
abbrev pub state_after : Ask → ℕ → TapeState → TapeState
state_after (ask.TapeState who k s) v before = if k == v then s else before
state_after _ v before = before

-- a tape's state: that of its last TapeState, else the site's
abbrev pub tape_state : Site → History → ℕ → TapeState
tape_state site [] v = first_state site v
tape_state site (e ∷ h) v = state_after e.ask v (tape_state site h v)

-- whether the state is BROKEN; a file has no place on such a tape
abbrev pub is_broken : TapeState → Bool
is_broken state.Broken = true
is_broken _ = false

-- whether the state is DISABLED; such a tape keeps its places, and may not be read
abbrev pub is_disabled : TapeState → Bool
is_disabled state.Disabled = true
is_disabled _ = false

-- an ACTIVE tape may be written
abbrev pub may_be_written : TapeState → Bool
may_be_written state.Active = true
may_be_written _ = false

-- an ACTIVE or REPACKING tape may be read
abbrev pub may_be_read : TapeState → Bool
may_be_read state.Active = true
may_be_read state.Repacking = true
may_be_read _ = false

-- a REPACKING tape may be repacked
abbrev pub may_be_repacked : TapeState → Bool
may_be_repacked state.Repacking = true
may_be_repacked _ = false

-- ---- items

-- the items of a tape after an ask: a Flushed of its mount adds items, and a Reclaim of it leaves none
abbrev pub items_after : Ask → ℕ → ℕ → List Item → List Item
items_after (ask.Flushed m items) v of_mount before = if of_mount == v then before ++ items.items else before
items_after (ask.Reclaim who k) v of_mount before = if k == v then [] else before
items_after _ v of_mount before = before

-- the items of a tape: all that were flushed on it since its last Reclaim, live or not
abbrev pub tape_items : History → ℕ → List Item
tape_items [] v = []
tape_items (e ∷ h) v = items_after e.ask v (tape_of_mount h (asked_mount e.ask)) (tape_items h v)

-- the fSeq of the next item: 1 plus the number of the tape's items
abbrev pub next_fseq : History → ℕ → ℕ
next_fseq h v = length (tape_items h v) + 1

-- the size of items, in bytes
abbrev pub size_of_items : List Item → ℕ
size_of_items items = sum_by (λ (i : Item). i.sum.len) items

-- the bytes that open mounts have claimed for writing on a tape and not resolved
abbrev pub bytes_to_write : History → ℕ → ℕ
bytes_to_write h v = sum_by (λ m. size_of_items (claimed_items h m)) (open_where (λ (x : Mount). same_direction x.direction direction.Archive && x.tape == v) h)

-- a tape's used bytes: those of its items, and those claimed for writing on it
abbrev pub used_bytes : History → ℕ → ℕ
used_bytes h v = size_of_items (tape_items h v) + bytes_to_write h v
