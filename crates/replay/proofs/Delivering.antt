-- The bytes of a record, fed piece by piece.
use Rattle.std.proofs.Common.{◌≡◌, ℕ, ◌+◌, ◌-◌, ◌≤◌, List, [], ◌∷◌, ◌++◌, length, Ok, Err, refl, sym, ap, ◌∙◌, subst, arith, append-nil, length-append}
use Rattle.replay.specs.Steps.{RunState}
use Rattle.conn.specs.Cut.{Event}
use Rattle.links.specs.Run.{Turn, IsRun}
use Rattle.links.specs.Standing.{StandFor, LinksStand}
use Rattle.links.specs.declared.links.Links.{Links}
use Rattle.replay.specs.Seen.{SinkView, ScriptView, World, world}
use Rattle.replay.specs.Run.{Exchange, Happening, turn_with, events_of, answered_on}
use Rattle.replay.specs.Output.{after}
use Rattle.replay.specs.Intake.{Took, HasStopped}
use Rattle.replay.specs.Outcome.{Wrote}
use Rattle.replay.specs.RecordTurns.{IsUnwritten, Feeds, Delivers}
use Rattle.replay.specs.declared.feeding.FeedEnd.TheVariants.{All, Part, Unanswered}
use Rattle.replay.specs.declared.intake.Stop.{Stop}
use Rattle.replay.specs.declared.intake.Stop.TheVariants.{End, Fault, Full, Memory}
use Rattle.replay.specs.declared.output.Unwritten.{Unwritten}
use Rattle.replay.proofs.Taking.{Took-trans, Took-none}
use Rattle.replay.proofs.Writing.{after-behind, wrote_behind, wrote_none, answered_on-append, events_of-append, unwritten_behind}

-- so many bytes of a record are still wanted, and those that came were fed and answered
pub record Going (links' : Links) (kept now : RunState) (before : List Turn) (link moment wanted len : ℕ) (a b : World) : Type 0 where
  pub bytes : List ℕ
  pub exchanges : List Exchange
  pub took : Took a.script b.script bytes
  pub count : length bytes + wanted ≡ len
  pub stands : StandFor links' kept.site.limits.file (before ++ turn_with link moment bytes (events_of exchanges) ∷ [])
  pub wrote : Wrote kept a.out b.out (answered_on link moment exchanges)
  pub keeps : now ≡ after kept (answered_on link moment exchanges)

pub going_none : (links' : Links) (k : RunState) (before : List Turn) (link moment len : ℕ) (a : World) → StandFor links' k.site.limits.file (before ++ turn_with link moment [] [] ∷ []) → Going links' k k before link moment len len a a
going_none links' k before link moment len a stands =
    record { bytes = []; exchanges = []; took = Took-none a.script; count = omega arith; stands = stands; wrote = wrote_none k a.out; keeps = refl }

-- links that stand for all that they stood for
pub going_roomy : (links' links'' : Links) (k n : RunState) (before : List Turn) (link moment wanted len : ℕ) (a b : World)
    → ((limit : ℕ) (fed : ℕ → List ℕ) (given : ℕ → List Event) → LinksStand links' limit fed given → LinksStand links'' limit fed given)
    → Going links' k n before link moment wanted len a b → Going links'' k n before link moment wanted len a b
going_roomy links' links'' k n before link moment wanted len a b same s = record {
  bytes = s.bytes;
  exchanges = s.exchanges;
  took = s.took;
  count = s.count;
  stands = (same k.site.limits.file _ _ s.stands.0, s.stands.1);
  wrote = s.wrote;
  keeps = s.keeps;
}

module _ (links' : Links) (k n : RunState) (before : List Turn) (link moment wanted len : ℕ) (a m : World) (s : Going links' k n before link moment wanted len a m) where
  abbrev done : List Happening
  done = answered_on link moment s.exchanges

  -- a further piece was taken and fed
  module _ (links'' : Links) (now : RunState) (piece : List ℕ) (script' : ScriptView) (out' : SinkView) (took : Took m.script script' piece) (fits : length piece ≤ wanted) where
    abbrev b : World
    b = world script' out'

    joined : (more : List Exchange) → turn_with link moment (s.bytes ++ piece) (events_of s.exchanges ++ events_of more) ≡ turn_with link moment (s.bytes ++ piece) (events_of (s.exchanges ++ more))
    joined more = ap (turn_with link moment (s.bytes ++ piece)) (sym (events_of-append s.exchanges more))

    pub going_on : {T : Type 0} (u : T) → Feeds (Ok u) links'' k.site.limits.file n now before link moment (s.bytes ++ piece) (events_of s.exchanges) m.out out'
        → Going links'' k now before link moment (wanted - length piece) len a b
    going_on u f =
        let more = answered_on link moment f.more in
        let happened = answered_on-append link moment s.exchanges f.more in
        record {
          bytes = s.bytes ++ piece;
          exchanges = s.exchanges ++ f.more;
          took = Took-trans s.took took;
          count = omega (arith, s.count, fits, length-append s.bytes piece);
          stands = subst (λ t. StandFor links'' k.site.limits.file (before ++ t ∷ [])) (joined f.more) f.stands;
          wrote = subst (Wrote k a.out out') (sym happened) (wrote_behind k n a.out m.out out' done more s.keeps s.wrote f.written);
          keeps = after-behind k n now done more s.keeps f.keeps ∙ ap (after k) (sym happened);
        }

    pub delivers_unanswered : {T : Type 0} (why : Unwritten) → a.out.faults ≤ m.out.faults
        → Feeds {T = T} (Err why) links'' k.site.limits.file n now before link moment (s.bytes ++ piece) (events_of s.exchanges) m.out out'
        → Delivers (Unanswered why) links'' k now before link moment len a b
    delivers_unanswered why le f =
        let happened = answered_on-append link moment s.exchanges f.more in
        record {
          bytes = s.bytes ++ piece;
          exchanges = s.exchanges ++ f.more;
          took = Took-trans s.took took;
          fits = omega (arith, s.count, fits, length-append s.bytes piece);
          run = subst (λ t. IsRun k.site.limits.file (before ++ t ∷ [])) (joined f.more) f.run;
          answered = subst (IsUnwritten why k a.out out') (sym happened)
              (unwritten_behind why k n a.out m.out out' done (answered_on link moment f.more) s.keeps s.wrote le f.written);
          stands = tt;
          keeps = tt;
        }

  -- no further byte was taken
  pub delivers_part : (why : Stop) (script' : ScriptView) → Took m.script script' [] → HasStopped why a.script script'
      → Delivers (Part why) links' k n before link moment len a (world script' m.out)
  delivers_part why script' took stop =
      record {
        bytes = s.bytes;
        exchanges = s.exchanges;
        took = subst (Took a.script script') (append-nil s.bytes) (Took-trans s.took took);
        fits = omega (arith, s.count);
        run = s.stands.1;
        answered = (stop, s.wrote);
        stands = s.stands;
        keeps = s.keeps;
      }

  pub delivers_all : wanted ≡ 0 → Delivers All links' k n before link moment len a m
  delivers_all none =
      record {
        bytes = s.bytes;
        exchanges = s.exchanges;
        took = s.took;
        fits = omega (arith, s.count);
        run = s.stands.1;
        answered = (omega (arith, s.count), s.wrote);
        stands = s.stands;
        keeps = s.keeps;
      }

-- a stop, seen from an earlier count of faults
pub stopped_since : (why : Stop) (a m b : ScriptView) → a.faults ≤ m.faults → HasStopped why m b → HasStopped why a b
stopped_since End a m b le stop = stop
stopped_since Fault a m b le stop = (omega (arith, stop.0), stop.1)
stopped_since Full a m b le stop = stop
stopped_since Memory a m b le stop = stop
