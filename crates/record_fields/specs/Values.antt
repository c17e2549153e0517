-- What asks have in them as bytes, with what follows: the members of a value stand in their order, and a variant is one byte, its place from 0, with its members behind it.
use Rattle.std.specs.Prelude.{ℕ, List, ◌≡◌, ◌∷◌, ◌++◌, length}
use Rattle.record_fields.specs.Numbers.{byte, number, long_number, IsByte, IsNumber, IsLong}
use Rattle.record_fields.specs.Texts.{text, TextFits}
use Rattle.record_fields.specs.Lists.{option_before, OptionFits}
use Rattle.blob.specs.declared.sum.Sum256.{Sum256}
use Rattle.cta_model.specs.declared.asks.Who.{Who}
use Rattle.cta_model.specs.declared.asks.Job.{Job}
use Rattle.cta_model.specs.declared.asks.Item.{Item}
use Rattle.cta_model.specs.declared.asks.Wanted.{Wanted}
use Rattle.cta_model.specs.declared.asks.Fault.{Fault}
use Rattle.cta_model.specs.declared.asks.Fault.TheVariants as fault

-- the sum of a content: its length, and the 32 bytes of its digest
abbrev pub sum_before : Sum256 → List ℕ → List ℕ
sum_before sum rest = long_number sum.len (sum.digest ++ rest)

abbrev pub SumFits : Sum256 → Type 0
SumFits sum = IsLong sum.len × (length sum.digest ≡ 32)

-- who asks
abbrev pub who_before : Who → List ℕ → List ℕ
who_before who rest = text who.requester (text who.group rest)

abbrev pub WhoFits : Who → Type 0
WhoFits who = TextFits who.requester × TextFits who.group

-- a job
abbrev pub job_before : Job → List ℕ → List ℕ
job_before job rest = number job.birth (number job.file (byte job.copy rest))

abbrev pub JobFits : Job → Type 0
JobFits job = IsNumber job.birth × IsNumber job.file × IsByte job.copy

-- an item of a batch
abbrev pub item_before : Item → List ℕ → List ℕ
item_before item rest = job_before item.job (number item.fseq (sum_before item.sum rest))

abbrev pub ItemFits : Item → Type 0
ItemFits item = JobFits item.job × IsNumber item.fseq × SumFits item.sum

-- a file that a stage request wants
abbrev pub wanted_before : Wanted → List ℕ → List ℕ
wanted_before wanted rest = text wanted.path (option_before long_number wanted.lifetime rest)

abbrev pub WantedFits : Wanted → Type 0
WantedFits wanted = TextFits wanted.path × OptionFits IsLong wanted.lifetime

-- what a drive session met
abbrev pub fault_before : Fault → List ℕ → List ℕ
fault_before fault.Load rest = 0 ∷ rest
fault_before fault.Write rest = 1 ∷ rest
fault_before fault.Flush rest = 2 ∷ rest
fault_before fault.Read rest = 3 ∷ rest
fault_before fault.Unload rest = 4 ∷ rest
fault_before (fault.Mismatch found wanted) rest = 5 ∷ sum_before found (sum_before wanted rest)

abbrev pub FaultFits : Fault → Type 0
FaultFits (fault.Mismatch found wanted) = SumFits found × SumFits wanted
FaultFits _ = Unit {0}
