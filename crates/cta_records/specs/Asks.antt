-- Asks as bytes, with what follows: one byte, the place of the variant from 0, and its members in their order.
use Rattle.std.specs.Prelude.{ℕ, List, ◌∷◌}
use Rattle.record_fields.specs.Numbers.{number, IsNumber}
use Rattle.record_fields.specs.Texts.{text, TextFits}
use Rattle.record_fields.specs.Lists.{list_before, ListFits, option_before, OptionFits}
use Rattle.record_fields.specs.Values.{sum_before, SumFits, who_before, WhoFits, job_before, JobFits, item_before, ItemFits, wanted_before, WantedFits, fault_before, FaultFits}
use Rattle.record_fields.specs.Choices.{tape_state_before}
use Rattle.cta_model.specs.declared.asks.Ask.{Ask}
use Rattle.cta_model.specs.declared.asks.Ask.TheVariants as ask

-- an ask
abbrev pub ask_before : Ask → List ℕ → List ℕ
ask_before (ask.Put who path sum) rest = 0 ∷ who_before who (text path (sum_before sum rest))
ask_before (ask.Delete who path) rest = 1 ∷ who_before who (text path rest)
ask_before (ask.Stage who files) rest = 2 ∷ who_before who (list_before wanted_before files.items rest)
ask_before (ask.Cancel who id paths) rest = 3 ∷ who_before who (number id (list_before text paths.items rest))
ask_before (ask.DropStage who id) rest = 4 ∷ who_before who (number id rest)
ask_before (ask.Release who id paths) rest = 5 ∷ who_before who (number id (list_before text paths.items rest))
ask_before (ask.Next drive) rest = 6 ∷ number drive rest
ask_before (ask.Claim mount) rest = 7 ∷ number mount rest
ask_before (ask.Flushed mount items) rest = 8 ∷ number mount (list_before item_before items.items rest)
ask_before (ask.Recalled mount job) rest = 9 ∷ number mount (job_before job rest)
ask_before (ask.Failed mount fault charged returned) rest = 10 ∷ number mount (fault_before fault (list_before job_before charged.items (list_before job_before returned.items rest)))
ask_before (ask.End mount fault) rest = 11 ∷ number mount (option_before fault_before fault rest)
ask_before (ask.DriveUp who drive) rest = 12 ∷ who_before who (number drive rest)
ask_before (ask.DriveDown who drive) rest = 13 ∷ who_before who (number drive rest)
ask_before (ask.TapeState who tape state) rest = 14 ∷ who_before who (number tape (tape_state_before state rest))
ask_before (ask.Reclaim who tape) rest = 15 ∷ who_before who (number tape rest)
ask_before (ask.Repack who tape) rest = 16 ∷ who_before who (number tape rest)
ask_before (ask.Retry who paths) rest = 17 ∷ who_before who (list_before text paths.items rest)

-- its members fit
abbrev pub AskFits : Ask → Type 0
AskFits (ask.Put who path sum) = WhoFits who × TextFits path × SumFits sum
AskFits (ask.Delete who path) = WhoFits who × TextFits path
AskFits (ask.Stage who files) = WhoFits who × ListFits WantedFits files.items
AskFits (ask.Cancel who id paths) = WhoFits who × IsNumber id × ListFits TextFits paths.items
AskFits (ask.DropStage who id) = WhoFits who × IsNumber id
AskFits (ask.Release who id paths) = WhoFits who × IsNumber id × ListFits TextFits paths.items
AskFits (ask.Next drive) = IsNumber drive
AskFits (ask.Claim mount) = IsNumber mount
AskFits (ask.Flushed mount items) = IsNumber mount × ListFits ItemFits items.items
AskFits (ask.Recalled mount job) = IsNumber mount × JobFits job
AskFits (ask.Failed mount fault charged returned) = IsNumber mount × FaultFits fault × ListFits JobFits charged.items × ListFits JobFits returned.items
AskFits (ask.End mount fault) = IsNumber mount × OptionFits FaultFits fault
AskFits (ask.DriveUp who drive) = WhoFits who × IsNumber drive
AskFits (ask.DriveDown who drive) = WhoFits who × IsNumber drive
AskFits (ask.TapeState who tape state) = WhoFits who × IsNumber tape
AskFits (ask.Reclaim who tape) = WhoFits who × IsNumber tape
AskFits (ask.Repack who tape) = WhoFits who × IsNumber tape
AskFits (ask.Retry who paths) = WhoFits who × ListFits TextFits paths.items
