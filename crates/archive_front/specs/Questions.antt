-- What is asked of an archive, and which calls callers make.
use Rattle.std.specs.Prelude.{◌≡◌, ◌≤◌, ℕ, Option, Some, None, option_map}
use Rattle.std.specs.Arc.{arc_value}
use Rattle.cta_model.specs.Bare.{bare_ask, bare_look}
use Rattle.cta_model.specs.Legal.{greatest_moment}
use Rattle.archive_turns.specs.declared.calls.ArchiveCall.{ArchiveCall}
use Rattle.archive_turns.specs.declared.calls.ArchiveCall.TheVariants as call
use Rattle.tape_routes.specs.Asked.{Asked, Asks, Looks, Replies}
use Rattle.tape_routes.specs.Callers.{IsCallers}
use Rattle.archive_front.specs.Hands.{content_in, hand_with}
use Rattle.archive_front.specs.declared.questions.Question.{Question}
use Rattle.archive_front.specs.declared.questions.Question.TheVariants as question
use Rattle.archive_front.specs.declared.questions.Called.{Called}
use Rattle.archive_front.specs.declared.questions.Called.TheVariants as called

-- the moment of a call
abbrev pub moment_of_call : {M : Type 0} → ArchiveCall M → ℕ
moment_of_call (call.Ask at k in_hand) = at
moment_of_call (call.Look at k) = at

-- what a call asks, with no room to spare in its lists: it leaves out its moment and what is handed in
abbrev pub question_of : {M : Type 0} → ArchiveCall M → Question
question_of (call.Ask at k in_hand) = question.Ask (bare_ask k)
question_of (call.Look at k) = question.Look (bare_look k)

-- what is asked of the archive, without the content that comes along; nothing where the reply is known already
abbrev pub question_in : Asked → Option Question
question_in (Asks k content) = Some (question.Ask k)
question_in (Looks k) = Some (question.Look k)
question_in (Replies reply) = None

-- what a call asks, with the content that comes along
abbrev pub asked_of_call : {M : Type 0} → ArchiveCall M → Asked
asked_of_call (call.Ask at k in_hand) = Asks (bare_ask k) (option_map arc_value (content_in in_hand))
asked_of_call (call.Look at k) = Looks (bare_look k)

-- what goes in with an ask is the content that comes along, or nothing
abbrev pub HandsContent : {M : Type 0} → ArchiveCall M → Type 0
HandsContent (call.Ask at k in_hand) = in_hand ≡ hand_with (content_in in_hand)
HandsContent (call.Look at k) = Unit {0}

-- a call that a caller may make: its moment is in range, it asks what a caller may ask, and it hands in the content that comes along and nothing else
pub record IsCallersCall {M : Type 0} (c : ArchiveCall M) : Type 0 where
  pub within : moment_of_call c ≤ greatest_moment
  pub callers : IsCallers (asked_of_call c)
  pub handed : HandsContent c

-- what a request comes to at a moment: a caller's call at that moment which asks what the request asks; or the reply, where it asks nothing of an archive
abbrev pub ComesTo : {M : Type 0} → Asked → ℕ → Called M → Type 0
ComesTo asks t (called.Call c) = (asked_of_call c ≡ asks) × (moment_of_call c ≡ t) × IsCallersCall c
ComesTo asks t (called.Reply reply) = asks ≡ Replies reply
