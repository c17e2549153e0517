-- Which entries put a file.
use Rattle.std.specs.Prelude.{Option, Some, None, Bool, true, false}
use Rattle.cta_model.specs.declared.entries.Entry.{Entry}
use Rattle.cta_model.specs.declared.asks.Ask.{Ask}
use Rattle.cta_model.specs.declared.asks.Ask.TheVariants as ask

-- whether an ask is a Put
abbrev pub puts_file : Ask → Bool
puts_file (ask.Put who path sum) = true
puts_file _ = false

-- whether there is an entry, and it is a Put
abbrev pub is_put : Option Entry → Bool
is_put None = false
is_put (Some e) = puts_file e.ask
