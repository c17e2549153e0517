-- A text begins with at most one message.
use Rattle.std.specs.Prelude.{◌≡◌, ℕ, ◌≤◌, ◌⊎◌, List, ◌++◌, length}
use Rattle.httparse.specs.Grammar.{RequestHead, ReadsRequest, EndsInTarget, NeverHasRequest, Field, LineEnd, ReadsSection}
use Rattle.httparse.specs.Spans.{RequestExceeds, SectionExceeds}
use Rattle.wire_http.specs.Head.{most_fields}
use Rattle.std.specs.List.{AllByRecursion}
use Rattle.conn.specs.Cut.{BodyPart, InPlain, AtLine, InData, AtTrailer, Cut, Tail, OpenHead, OpenBody, NoHead, Breaks, NoBody, Closing, IsLinkCut, IsKept, IsTail, IsOpen, tail_text, tail_events, cut_events}
use Rattle.conn.specs.Message.{Message, message_text, messages_text, IsMessage}

-- what begins with two messages begins with the same one, and the same stands behind it
abbrev pub HasOneMessage : Type 0
HasOneMessage =
    (limit : ℕ) (m n : Message) (x y : List ℕ) → IsMessage limit m → IsMessage limit n → message_text m ++ x ≡ message_text n ++ y
    → (m ≡ n) × (x ≡ y)

-- a head with at most 64 fields is none with more (httparse's words on TooManyHeaders agree with those on Complete)
abbrev pub FewIsNotMany : Type 0
FewIsNotMany = (bytes : List ℕ) (h : RequestHead) (rest : List ℕ) → RequestExceeds most_fields bytes → ReadsRequest bytes h rest → length h.fields ≤ most_fields → ⊥

-- the same of a trailer
abbrev pub FewTrailersAreNotMany : Type 0
FewTrailersAreNotMany = (bytes : List ℕ) (fields : List Field) (end : LineEnd) (rest : List ℕ) → SectionExceeds most_fields bytes → ReadsSection bytes fields end rest → length fields ≤ most_fields → ⊥

-- a connection's messages, and the text behind them, are the same in every cut
abbrev pub HasOneCut : Type 0
HasOneCut =
    (limit : ℕ) (bytes : List ℕ) (c d : Cut) → IsLinkCut limit bytes c → IsLinkCut limit bytes d
    → (c.whole ≡ d.whole) × (tail_text c.tail ≡ tail_text d.tail)

-- behind the messages of a cut, further bytes bring these messages and that tail
pub record IsStep (limit : ℕ) (c : Cut) (ys : List ℕ) (more : List Message) (t : Tail) : Type 0 where
  pub each : AllByRecursion (IsKept limit) more
  pub tail : IsTail limit t
  pub text : tail_text c.tail ++ ys ≡ messages_text more ++ tail_text t

-- a step behind a cut of the first bytes makes a cut of all of them
abbrev pub StepsMakeCuts : Type 0
StepsMakeCuts =
    (limit : ℕ) (xs ys : List ℕ) (c : Cut) (more : List Message) (t : Tail) → IsLinkCut limit xs c → IsStep limit c ys more t
    → IsLinkCut limit (xs ++ ys) (record { whole = c.whole ++ more; tail = t })

-- a cut of all bytes is a cut of the first ones and then a step: so the messages of the first bytes stay as more come
abbrev pub CutsAreSteps : Type 0
CutsAreSteps =
    (limit : ℕ) (xs ys : List ℕ) (c d : Cut) → IsLinkCut limit xs c → IsLinkCut limit (xs ++ ys) d
    → (more : List Message) × ((d.whole ≡ c.whole ++ more) × IsStep limit c ys more d.tail)

-- a refusal, and the end after a closing request, stay as more bytes come
abbrev pub EndsStay : Type 0
EndsStay =
    (limit : ℕ) (xs ys : List ℕ) (c : Cut) → IsLinkCut limit xs c → ¬ (IsOpen c.tail)
    → (t : Tail) × ((tail_events c.tail ≡ tail_events t) × IsLinkCut limit (xs ++ ys) (record { whole = c.whole; tail = t }))

-- a part of a body in which a 65th field of the trailer may come, and be refused now or later
abbrev pub MayWaitPart : BodyPart → List ℕ → Type 0
MayWaitPart (InPlain bytes) rest = ⊥
MayWaitPart (AtLine chunks) rest = ⊥
MayWaitPart (InData chunks line bytes) rest = ⊥
MayWaitPart (AtTrailer chunks last) rest = SectionExceeds most_fields rest

-- the two exceptions: a target that is malformed and isn't at its end yet, and a 65th field of a head or a trailer
abbrev pub MayWait : Tail → Type 0
MayWait (OpenHead part) = (EndsInTarget part × NeverHasRequest part) ⊎ RequestExceeds most_fields part
MayWait (OpenBody head part rest) = MayWaitPart part rest
MayWait (NoHead rest) = ⊥
MayWait (Breaks head rest refusal) = ⊥
MayWait (NoBody head part rest refusal) = ⊥
MayWait (Closing message rest) = ⊥

-- two cuts of the same bytes give the same requests and the same refusal, unless one of them waits in an exception
abbrev pub HasOneOutcome : Type 0
HasOneOutcome =
    (limit : ℕ) (bytes : List ℕ) (c d : Cut) → IsLinkCut limit bytes c → IsLinkCut limit bytes d
    → (cut_events c ≡ cut_events d) ⊎ (MayWait c.tail ⊎ MayWait d.tail)
