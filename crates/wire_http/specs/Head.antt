-- A head at the front of the bytes that follow the last message.
use Rattle.std.specs.Prelude.{◌≡◌, ℕ, ◌<◌, ◌≤◌, ◌⊎◌, Bool, List, length, take, map, Option, Some, None}
use Rattle.httparse.specs.Grammar.{RequestHead, print_request, ReadsRequest, HasNoRequest, NeverHasRequest, MayBecomeRequest}
use Rattle.httparse.specs.Spans.{RequestExceeds, name_and_value}
use Rattle.wire_http.specs.Fields.{Pair}
use Rattle.wire_http.specs.Callers.{who_of}
use Rattle.wire_http.specs.Rules.{before_query, first_broken, body_len, longest_body, is_closing, is_expecting}
use Rattle.wire_http.specs.declared.head.BodyLen.{BodyLen}
use Rattle.wire_http.specs.declared.head.HeadRead.{HeadRead}
use Rattle.wire_http.specs.declared.head.HeadRead.TheVariants as read
use Rattle.wire_http.specs.declared.head.Head.{Head}
use Rattle.wire_http.specs.declared.head.Frame.{Frame}
use Rattle.wire_http.specs.declared.head.Judged.{Judged}
use Rattle.wire_http.specs.declared.head.Judged.TheVariants as judged
use Rattle.wire_http.specs.declared.refusal.WireRefusal.{WireRefusal}
use Rattle.wire_http.specs.declared.refusal.WireRefusal.TheVariants.{BadHead}

-- a head has at most 16,384 bytes
abbrev pub most_head : ℕ
most_head = 16384

-- a head, and a trailer, has at most 64 fields
abbrev pub most_fields : ℕ
most_fields = 64

-- the names and the values of the fields of a head
abbrev pub pairs : RequestHead → List Pair
pairs h = map name_and_value h.fields

-- the target of a head is without its query
abbrev pub target_of : RequestHead → List ℕ
target_of h = before_query h.target

-- the first rule of a whole head that it breaks
abbrev pub refusal_of : ℕ → RequestHead → Option WireRefusal
refusal_of limit h = first_broken limit h.method (target_of h) h.minor (pairs h)

-- how the body behind a head is framed
abbrev pub framing : RequestHead → BodyLen
framing h = body_len (pairs h)

-- how long the body behind a head may be
abbrev pub most_body : ℕ → RequestHead → ℕ
most_body limit h = longest_body limit h.method (target_of h)

-- the connection closes after the request with that head
abbrev pub closes : RequestHead → Bool
closes h = is_closing h.minor (pairs h)

-- a 100 Continue is due after that head
abbrev pub expects : RequestHead → Bool
expects h = is_expecting h.minor (pairs h)

-- the bytes are that head and then the rest
pub record BeginsWith (bytes : List ℕ) (h : RequestHead) (rest : List ℕ) : Type 0 where
  pub reads : ReadsRequest bytes h rest
  pub fields : length h.fields ≤ most_fields
  pub within : length (print_request h) ≤ most_head

-- no head is whole so far, and one may come
pub record IsOpenHead (bytes : List ℕ) : Type 0 where
  pub within : length bytes < most_head
  pub not_yet : HasNoRequest bytes
  pub may : MayBecomeRequest bytes

-- no head comes, whatever follows, or for the count of its fields, or for its length
abbrev pub IsBadHead : List ℕ → Type 0
IsBadHead bytes =
    NeverHasRequest bytes ⊎ (RequestExceeds most_fields bytes ⊎ ((most_head ≤ length bytes) × HasNoRequest (take most_head bytes)))

-- what was read says what that head says
pub record IsHeadOf (h : RequestHead) (head : Head) : Type 0 where
  pub method : head.method ≡ h.method
  pub target : head.target ≡ target_of h
  pub who : head.who ≡ who_of (pairs h)
  pub body : head.body ≡ framing h
  pub expects : head.expects ≡ expects h
  pub close : head.close ≡ closes h
  pub len : head.len ≡ length (print_request h)

-- the bytes begin with a head that keeps the rules, and it was read
pub record ReadsHead (limit : ℕ) (bytes : List ℕ) (head : Head) : Type 0 where
  pub tree : RequestHead
  pub rest : List ℕ
  pub begins : BeginsWith bytes tree rest
  pub passes : refusal_of limit tree ≡ None
  pub parts : IsHeadOf tree head

-- the bytes begin with a head of which that is the first broken rule
pub record BreaksRule (limit : ℕ) (bytes : List ℕ) (refusal : WireRefusal) : Type 0 where
  pub tree : RequestHead
  pub rest : List ℕ
  pub begins : BeginsWith bytes tree rest
  pub breaks : refusal_of limit tree ≡ Some refusal

-- what the reading of the front says
abbrev pub IsReading : ℕ → List ℕ → HeadRead → Type 0
IsReading limit bytes read.Need = IsOpenHead bytes
IsReading limit bytes (read.Head head) = ReadsHead limit bytes head
IsReading limit bytes (read.Refused refusal) = ((refusal ≡ BadHead) × IsBadHead bytes) ⊎ BreaksRule limit bytes refusal

-- what a whole head is read as
abbrev pub IsReadingOf : ℕ → RequestHead → HeadRead → Type 0
IsReadingOf limit h read.Need = ⊥
IsReadingOf limit h (read.Head head) = (refusal_of limit h ≡ None) × IsHeadOf h head
IsReadingOf limit h (read.Refused refusal) = refusal_of limit h ≡ Some refusal

-- what was judged says what that head says of its message
pub record IsFrameOf (limit : ℕ) (h : RequestHead) (f : Frame) : Type 0 where
  pub body : f.body ≡ framing h
  pub most : f.most ≡ most_body limit h
  pub expects : f.expects ≡ expects h
  pub close : f.close ≡ closes h
  pub len : f.len ≡ length (print_request h)

-- the bytes begin with a head that keeps the rules, and it was judged
pub record PassesHead (limit : ℕ) (bytes : List ℕ) (f : Frame) : Type 0 where
  pub tree : RequestHead
  pub rest : List ℕ
  pub begins : BeginsWith bytes tree rest
  pub passes : refusal_of limit tree ≡ None
  pub parts : IsFrameOf limit tree f

-- what the judgment of the front says
abbrev pub IsJudged : ℕ → List ℕ → Judged → Type 0
IsJudged limit bytes judged.Need = IsOpenHead bytes
IsJudged limit bytes (judged.Passes f) = PassesHead limit bytes f
IsJudged limit bytes (judged.Refused refusal) = ((refusal ≡ BadHead) × IsBadHead bytes) ⊎ BreaksRule limit bytes refusal

-- what a whole head is judged as
abbrev pub IsJudgmentOf : ℕ → RequestHead → Judged → Type 0
IsJudgmentOf limit h judged.Need = ⊥
IsJudgmentOf limit h (judged.Passes f) = (refusal_of limit h ≡ None) × IsFrameOf limit h f
IsJudgmentOf limit h (judged.Refused refusal) = refusal_of limit h ≡ Some refusal
