-- What a read has found that is told as a mismatch: histories that differ in nothing else.
use Rattle.std.specs.Prelude.{◌≡◌, map}
use Rattle.cta_model.specs.declared.asks.Ask.{Ask}
use Rattle.cta_model.specs.declared.asks.Ask.TheVariants as ask
use Rattle.cta_model.specs.declared.asks.Fault.{Fault}
use Rattle.cta_model.specs.declared.asks.Fault.TheVariants as fault
use Rattle.cta_model.specs.declared.entries.Entry.{Entry}
use Rattle.cta_model.specs.History.{History}

-- a fault in which a mismatch has found what was wanted; all others as they are
abbrev pub without_found : Fault → Fault
without_found (fault.Mismatch found wanted) = fault.Mismatch wanted wanted
without_found f = f

-- an ask whose fault, where it is a Failed, is without what was found
abbrev pub ask_without_found : Ask → Ask
ask_without_found (ask.Failed m f charged returned) = ask.Failed m (without_found f) charged returned
ask_without_found k = k

-- an entry whose ask is without what was found
abbrev pub entry_without_found : Entry → Entry
entry_without_found e = record e { ask = ask_without_found e.ask }

-- a history whose asks are without what was found
abbrev pub history_without_found : History → History
history_without_found h = map entry_without_found h

-- two asks are alike where they are the same, but for what the mismatch of a Failed has found
abbrev pub AreAlikeAsks : Ask → Ask → Type 0
AreAlikeAsks k l = ask_without_found k ≡ ask_without_found l

-- two histories are alike where they are the same entry by entry, but for what the mismatch of a Failed has found
abbrev pub AreAlike : History → History → Type 0
AreAlike h k = history_without_found h ≡ history_without_found k
