-- What the calls of a core do to the index of paths and to the table of tapes, ask by ask.
use Rattle.std.specs.Prelude.{ℕ, ◌≡◌, ◌++◌, Some, zip}
use Rattle.cta_model.specs.declared.entries.Entry.{Entry}
use Rattle.cta_model.specs.declared.asks.Ask.{Ask}
use Rattle.cta_model.specs.declared.asks.Ask.TheVariants as ask
use Rattle.cta_model.specs.declared.answers.Answer.{Answer}
use Rattle.cta_model.specs.declared.answers.Answer.TheVariants as answer
use Rattle.cta_model.specs.declared.asks.Direction.{Direction}
use Rattle.cta_model.specs.declared.asks.Direction.TheVariants as direction
use Rattle.cta_model.specs.declared.states.Mount.{Mount}
use Rattle.cta_model.specs.Files.{live_file}
use Rattle.cta_model.specs.History.{History, next_number}
use Rattle.cta_model.specs.Mounts.{mount_of, tape_of_mount}
use Rattle.cta_model.specs.Tapes.{size_of_items}
use Rattle.cta_laws.specs.Claims.{claimed_by, size_of_jobs}
use Rattle.part_model.specs.declared.space.TapeRow.{TapeRow}
use Rattle.part_model.specs.Names.{Names, NamesAgree, add_name, remove_name}
use Rattle.part_model.specs.Tapes.{HasDropped, HasTurned, HaveFlushed, Table, TablesAgree, claimed_row, reclaimed_row, row_in_state, unclaimed_row}

-- a mount that writes turns the row of its tape, and one that reads leaves the table
abbrev pub TurnedThisWay : Direction → ℕ → (TapeRow → TapeRow) → Table → Table → Type 0
TurnedThisWay direction.Archive tape turn v v' = HasTurned tape turn v v'
TurnedThisWay direction.Retrieve tape turn v v' = TablesAgree v' v

-- what a mount does to the row of its tape
abbrev pub TurnedBy : Mount → (TapeRow → TapeRow) → Table → Table → Type 0
TurnedBy x turn v v' = TurnedThisWay x.direction x.tape turn v v'

-- what the calls for the entry e, with this ask and answer, do to the table
abbrev pub TableCalled : History → Entry → Ask → Answer → Table → Table → Type 0
TableCalled h e (ask.Delete who path) a v v' = (g : ℕ) → live_file h path ≡ Some g → HasDropped g v v'
TableCalled h e (ask.Claim m) a v v' = (x : Mount) → mount_of h m ≡ Some x → TurnedBy x (claimed_row (size_of_items (claimed_by e.ask e.answer))) v v'
TableCalled h e (ask.Flushed m items) (answer.Told fates) v v' = HaveFlushed (tape_of_mount h m) (zip items.items fates.items) v v'
TableCalled h e (ask.Failed m fault charged returned) a v v' = (x : Mount) → mount_of h m ≡ Some x → TurnedBy x (unclaimed_row (size_of_jobs h (charged.items ++ returned.items))) v v'
TableCalled h e (ask.TapeState who tape s) a v v' = HasTurned tape (row_in_state s) v v'
TableCalled h e (ask.Reclaim who tape) a v v' = HasTurned tape reclaimed_row v v'
TableCalled h e _ a v v' = TablesAgree v' v

-- what the calls for an entry with this ask do to the index of paths
abbrev pub NamesCalled : History → Ask → Names → Names → Type 0
NamesCalled h (ask.Put who path sum) v v' = NamesAgree v' (add_name path (next_number h) v)
NamesCalled h (ask.Delete who path) v v' = NamesAgree v' (remove_name path v)
NamesCalled h _ v v' = NamesAgree v' v
