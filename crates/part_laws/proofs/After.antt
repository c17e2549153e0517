-- What one more entry does to the table of tapes and to the resident files, in closed form.
use Rattle.std.specs.Prelude.{true, ℕ, ◌≡◌, ◌<◌, length, List, [], ◌∷◌, Option, None, Bool, if◌then◌else◌, ◌==◌, ◌+◌, ◌-◌, ◌++◌, false, map, option_to_list}
use Rattle.cta_site.specs.declared.site.Site.{Site}
use Rattle.cta_model.specs.declared.entries.Entry.{Entry}
use Rattle.cta_model.specs.declared.asks.Ask.{Ask}
use Rattle.cta_model.specs.declared.asks.Ask.TheVariants as ask
use Rattle.cta_model.specs.declared.asks.Fate.TheVariants as fate
use Rattle.cta_model.specs.declared.answers.Answer.{Answer}
use Rattle.cta_model.specs.declared.answers.Answer.TheVariants as answer
use Rattle.cta_model.specs.declared.states.Place.{Place}
use Rattle.cta_model.specs.History.{History, is_number, next_number}
use Rattle.cta_model.specs.Files.{live_file, size_of}
use Rattle.cta_model.specs.Mounts.{tape_of_mount}
use Rattle.cta_model.specs.Tapes.{size_of_items, state_after}
use Rattle.cta_model.specs.Places.{flushed_in, place_after, fseq_after}
use Rattle.cta_model.specs.Buffer.{evicted_in}
use Rattle.cta_model.specs.Space.{is_safe}
use Rattle.cta_laws.specs.Claims.{claimed_by, is_asked, reads, size_of_jobs, writes_on}
use Rattle.part_model.specs.declared.space.Resident.{Resident}
use Rattle.part_model.specs.declared.space.TapeRow.{TapeRow}
use Rattle.part_model.specs.Held.{flagged, without}
use Rattle.part_model.specs.Tapes.{AreDistinct, Table, place_in, row_in}
use Rattle.part_laws.specs.Buffer.{entering, leaving, resident_at, touches}

-- ---- the buffer

-- the resident files after an entry
abbrev pub residents_after : Site → History → Entry → List Resident → List Resident
residents_after site h e before =
    flagged (touches site h e.ask e.answer) (is_safe site (e ∷ h)) (without (leaving h e.ask e.answer) before) ++ map (resident_at site (e ∷ h)) (entering h e.ask e.answer)

-- the bytes held for claimed recalls after an entry
abbrev pub aside_after : History → Ask → Answer → ℕ → ℕ
aside_after h (ask.Claim m) a before = if is_asked reads h (ask.Claim m) then before + size_of_items (claimed_by (ask.Claim m) a) else before
aside_after h (ask.Recalled m job) a before = before - size_of h job.file
aside_after h (ask.Failed m fault charged returned) a before = if is_asked reads h (ask.Failed m fault charged returned) then before - size_of_jobs h (charged.items ++ returned.items) else before
aside_after h _ a before = before

-- ---- the table

-- the used bytes of a tape after an entry: a Flushed turns bytes that were claimed into items, and leaves their sum as it was
abbrev pub used_after : History → Ask → Answer → ℕ → ℕ → ℕ
used_after h (ask.Claim m) a v before = if is_asked (writes_on v) h (ask.Claim m) then before + size_of_items (claimed_by (ask.Claim m) a) else before
used_after h (ask.Failed m fault charged returned) a v before = if is_asked (writes_on v) h (ask.Failed m fault charged returned) then before - size_of_jobs h (charged.items ++ returned.items) else before
used_after h (ask.Reclaim who k) a v before = if k == v then 0 else before
used_after h _ a v before = before

-- the next fSeq of a tape after an entry
abbrev pub next_after : History → Ask → ℕ → ℕ → ℕ
next_after h (ask.Flushed m items) v before = if tape_of_mount h m == v then before + length items.items else before
next_after h (ask.Reclaim who k) v before = if k == v then 1 else before
next_after h _ v before = before

-- the place of a copy after an entry
abbrev pub placed_after : History → Ask → Answer → ℕ → ℕ → Option Place → Option Place
placed_after h (ask.Flushed m items) a f c before = place_after c (tape_of_mount h m) (fseq_after (flushed_in (ask.Flushed m items) a) f c None) before
placed_after h (ask.Delete who path) a f c before = if is_number f (live_file h path) then None else before
placed_after h _ a f c before = before

-- the row of a tape after an entry
abbrev pub row_after : History → Entry → ℕ → TapeRow → TapeRow
row_after h e t r = record { used = used_after h e.ask e.answer t r.used; next = next_after h e.ask t r.next; state = state_after e.ask t r.state }

-- an entry moves the table of tapes: its rows and its places, of which none stands twice
pub record TableMoved (site : Site) (h : History) (e : Entry) (v v' : Table) : Type 0 where
  pub rows : (t : ℕ) → t < length site.tapes.items → row_in v' t ≡ row_after h e t (row_in v t)
  pub places : (f c : ℕ) → place_in v' f c ≡ placed_after h e.ask e.answer f c (place_in v f c)
  pub distinct : AreDistinct v'.places

-- whether an ask may change the table
abbrev pub may_change_table : Ask → Bool
may_change_table (ask.Claim m) = true
may_change_table (ask.Flushed m items) = true
may_change_table (ask.Failed m fault charged returned) = true
may_change_table (ask.Delete who path) = true
may_change_table (ask.TapeState who v s) = true
may_change_table (ask.Reclaim who v) = true
may_change_table _ = false
