-- A record of what an answer says of its entry.
use Rattle.std.specs.Prelude.{ℕ, None}
use Rattle.cta_model.specs.declared.answers.Answer.{Answer}
use Rattle.cta_model.specs.declared.asks.Ask.TheVariants as ask
use Rattle.cta_model.specs.declared.entries.Actor.{Actor}
use Rattle.cta_records.specs.declared.kept.Kept.{Kept}

-- a record with this moment, actor and answer, of an ask that says nothing
abbrev pub answer_kept : ℕ → Actor → Answer → Kept
answer_kept at who a = record { entry = record { at = at; actor = who; ask = ask.Next 0; answer = a }; blob = None }
