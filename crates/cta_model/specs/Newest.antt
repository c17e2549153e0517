-- What is kept in memory, oldest entry first, as a history.
use Rattle.std.specs.Prelude.{List, map, reverse}
use Rattle.cta_model.specs.declared.entries.Entry.{Entry}
use Rattle.cta_model.specs.History.{History}
use Rattle.cta_model.specs.Bare.{bare_entry}

-- the entries that a list keeps, oldest first, as a history: newest first, and with no room to spare in their lists
unfoldable pub history_in : List Entry → History
history_in entries = reverse (map bare_entry entries)
