-- Refusals of asks of stage requests.
use Rattle.std.specs.Prelude.{Option, Some, None, Bool, true, false}
use Rattle.cta_model.specs.declared.answers.Refusal.{Refusal}
use Rattle.cta_model.specs.declared.answers.Refusal.TheVariants as refusal

-- the first refusal of a Cancel or a Release by these tests: no request, a path that is not the request's, the history full
abbrev pub paths_refusal : Bool → Bool → Bool → Option Refusal
paths_refusal true foreign heavy = Some refusal.NoRequest
paths_refusal false true heavy = Some refusal.ForeignPath
paths_refusal false false true = Some refusal.HistoryFull
paths_refusal false false false = None

-- the first refusal of a DropStage by these tests: no request, the history full
abbrev pub drop_refusal : Bool → Bool → Option Refusal
drop_refusal true heavy = Some refusal.NoRequest
drop_refusal false true = Some refusal.HistoryFull
drop_refusal false false = None
