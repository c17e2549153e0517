-- The bytes of a connection: its whole messages, and what stands behind them.
use Rattle.std.specs.Prelude.{◌≡◌, ◌≢◌, ℕ, ◌+◌, ◌<◌, ◌≤◌, ◌⊎◌, true, false, List, [], ◌∷◌, ◌++◌, length, take, codes, Some, flat_map, if◌then◌else◌}
use Rattle.std.specs.List.{AllByRecursion}
use Rattle.httparse.specs.Grammar.{RequestHead, print_request, ChunkLine, IsChunkLine, print_chunk_line, chunk_size, HasNoChunkLine, MayBecomeChunkLine, NeverHasChunkLine, HasNoSection, MayBecomeSection, NeverHasSection}
use Rattle.httparse.specs.Spans.{SectionExceeds}
use Rattle.wire_http.specs.Callers.{who_of}
use Rattle.wire_http.specs.Head.{most_fields, pairs, target_of, refusal_of, framing, most_body, closes, expects, BeginsWith, IsOpenHead, IsBadHead}
use Rattle.conn.specs.Message.{most_line, most_trailer, Chunk, chunks_text, content, IsChunk, IsLast, body_bytes, Message, message_text, messages_text, IsHead, IsMessage}
use Rattle.wire_http.specs.declared.head.BodyLen.TheVariants.{Sized, Chunked}
use Rattle.wire_http.specs.declared.request.Request.{Request}
use Rattle.wire_http.specs.declared.refusal.WireRefusal.{WireRefusal}
use Rattle.wire_http.specs.declared.refusal.WireRefusal.TheVariants.{BadHead, TooLarge, BadChunk}

-- what a connection gives: a 100 Continue, a request, or the refusal
pub data Event : Type 0 where
  Continues : Event
  Requests : Request → Event
  Refuses : WireRefusal → Event

-- the request with that head and that body
abbrev pub message_request : RequestHead → List ℕ → Request
message_request h body = record { method = h.method; target = target_of h; who = who_of (pairs h); body = body; close = closes h }

-- the 100 Continue that a head asks for
abbrev pub told : RequestHead → List Event
told h = if expects h then Continues ∷ [] else []

-- the text of a 100 Continue (RFC 9110, 15.2.1)
abbrev pub continue_text : List ℕ
continue_text = codes "HTTP/1.1 100 Continue\r\n\r\n"

-- what a message gives
abbrev pub message_events : Message → List Event
message_events m = told m.head ++ Requests (message_request m.head (body_bytes m.body)) ∷ []

-- what several messages give
abbrev pub messages_events : List Message → List Event
messages_events ms = flat_map message_events ms

-- a body of which a part has come: what was read of it, with nothing left over
pub data BodyPart : Type 0 where
  InPlain : (bytes : List ℕ) → BodyPart
  AtLine : (chunks : List Chunk) → BodyPart
  InData : (chunks : List Chunk) (line : ChunkLine) (bytes : List ℕ) → BodyPart
  AtTrailer : (chunks : List Chunk) (last : ChunkLine) → BodyPart

-- the text of that part
abbrev pub part_text : BodyPart → List ℕ
part_text (InPlain bytes) = bytes
part_text (AtLine chunks) = chunks_text chunks
part_text (InData chunks line bytes) = chunks_text chunks ++ (print_chunk_line line ++ bytes)
part_text (AtTrailer chunks last) = chunks_text chunks ++ print_chunk_line last

-- the bytes of the body in that part
abbrev pub part_bytes : BodyPart → List ℕ
part_bytes (InPlain bytes) = bytes
part_bytes (AtLine chunks) = content chunks
part_bytes (InData chunks line bytes) = content chunks ++ bytes
part_bytes (AtTrailer chunks last) = content chunks

-- whole chunks, after which that many bytes are within the limit
abbrev pub AreChunks : ℕ → RequestHead → List Chunk → ℕ → Type 0
AreChunks limit h chunks more = (framing h ≡ Chunked) × AllByRecursion IsChunk chunks × (length (content chunks) + more ≤ most_body limit h)

-- a line that announces bytes
pub record IsMore (l : ChunkLine) : Type 0 where
  pub line : IsChunkLine l
  pub short : length (print_chunk_line l) ≤ most_line
  pub some : 0 < chunk_size l

-- that part belongs to a body behind that head
abbrev pub IsPart : ℕ → RequestHead → BodyPart → Type 0
IsPart limit h (InPlain bytes) = (n : ℕ) × (framing h ≡ Sized n) × (length bytes ≤ n)
IsPart limit h (AtLine chunks) = AreChunks limit h chunks 0
IsPart limit h (InData chunks line bytes) = AreChunks limit h chunks (chunk_size line) × IsMore line × (length bytes ≤ chunk_size line)
IsPart limit h (AtTrailer chunks last) = AreChunks limit h chunks 0 × IsLast last

-- nothing more of the body is whole, and it may go on
abbrev pub IsOpenPart : RequestHead → BodyPart → List ℕ → Type 0
IsOpenPart h (InPlain bytes) rest = (rest ≡ []) × (n : ℕ) × (framing h ≡ Sized n) × (length bytes < n)
IsOpenPart h (AtLine chunks) rest = (length rest ≤ most_line) × HasNoChunkLine rest × MayBecomeChunkLine rest
IsOpenPart h (InData chunks line bytes) rest =
    ((rest ≡ []) × (length bytes ≤ chunk_size line)) ⊎ ((rest ≡ 13 ∷ []) × (length bytes ≡ chunk_size line))
IsOpenPart h (AtTrailer chunks last) rest = (length rest ≤ most_trailer) × HasNoSection rest × MayBecomeSection rest

-- what can't go on as a chunk line
abbrev pub IsBadLine : List ℕ → Type 0
IsBadLine rest = NeverHasChunkLine rest ⊎ ((most_line < length rest) × HasNoChunkLine (take most_line rest))

-- a line at the front that makes the sum pass the limit
pub record PassesLimit (most : ℕ) (chunks : List Chunk) (rest : List ℕ) : Type 0 where
  pub line : ChunkLine
  pub after : List ℕ
  pub is_line : IsChunkLine line
  pub short : length (print_chunk_line line) ≤ most_line
  pub reads : rest ≡ print_chunk_line line ++ after
  pub passes : most < length (content chunks) + chunk_size line

-- a byte that isn't that of the CR LF behind a chunk
abbrev pub IsBadEnd : List ℕ → Type 0
IsBadEnd [] = ⊥
IsBadEnd (x ∷ []) = x ≢ 13
IsBadEnd (x ∷ y ∷ xs) = (x ≢ 13) ⊎ (y ≢ 10)

-- what can't go on as a trailer
abbrev pub IsBadTrailer : List ℕ → Type 0
IsBadTrailer rest =
    NeverHasSection rest ⊎ (SectionExceeds most_fields rest ⊎ ((most_trailer < length rest) × HasNoSection (take most_trailer rest)))

-- what can't go on as the rest of the body, and why
abbrev pub IsBadPart : ℕ → RequestHead → BodyPart → List ℕ → WireRefusal → Type 0
IsBadPart limit h (InPlain bytes) rest r = ⊥
IsBadPart limit h (AtLine chunks) rest r = ((r ≡ BadChunk) × IsBadLine rest) ⊎ ((r ≡ TooLarge) × PassesLimit (most_body limit h) chunks rest)
IsBadPart limit h (InData chunks line bytes) rest r = (r ≡ BadChunk) × (length bytes ≡ chunk_size line) × IsBadEnd rest
IsBadPart limit h (AtTrailer chunks last) rest r = (r ≡ BadChunk) × IsBadTrailer rest

-- what stands behind the last whole message
pub data Tail : Type 0 where
  -- part of a head
  OpenHead : (part : List ℕ) → Tail
  -- a head and part of its body
  OpenBody : (head : RequestHead) (part : BodyPart) (rest : List ℕ) → Tail
  -- no head, a head that breaks a rule, or no body; with all that follows
  NoHead : (rest : List ℕ) → Tail
  Breaks : (head : RequestHead) (rest : List ℕ) (refusal : WireRefusal) → Tail
  NoBody : (head : RequestHead) (part : BodyPart) (rest : List ℕ) (refusal : WireRefusal) → Tail
  -- a closing request, with all that follows
  Closing : (message : Message) (rest : List ℕ) → Tail

-- the text of a tail
abbrev pub tail_text : Tail → List ℕ
tail_text (OpenHead part) = part
tail_text (OpenBody head part rest) = print_request head ++ (part_text part ++ rest)
tail_text (NoHead rest) = rest
tail_text (Breaks head rest refusal) = print_request head ++ rest
tail_text (NoBody head part rest refusal) = print_request head ++ (part_text part ++ rest)
tail_text (Closing message rest) = message_text message ++ rest

-- what a tail gives
abbrev pub tail_events : Tail → List Event
tail_events (OpenHead part) = []
tail_events (OpenBody head part rest) = told head
tail_events (NoHead rest) = Refuses BadHead ∷ []
tail_events (Breaks head rest refusal) = Refuses refusal ∷ []
tail_events (NoBody head part rest refusal) = told head ++ Refuses refusal ∷ []
tail_events (Closing message rest) = message_events message

-- a tail is what it says it is
abbrev pub IsTail : ℕ → Tail → Type 0
IsTail limit (OpenHead part) = IsOpenHead part
IsTail limit (OpenBody head part rest) = IsHead limit head × IsPart limit head part × IsOpenPart head part rest
IsTail limit (NoHead rest) = IsBadHead rest
IsTail limit (Breaks head rest refusal) = BeginsWith (print_request head ++ rest) head rest × (refusal_of limit head ≡ Some refusal)
IsTail limit (NoBody head part rest refusal) = IsHead limit head × IsPart limit head part × IsBadPart limit head part rest refusal
IsTail limit (Closing message rest) = IsMessage limit message × (closes message.head ≡ true)

-- more may come
abbrev pub IsOpen : Tail → Type 0
IsOpen (OpenHead part) = Unit {0}
IsOpen (OpenBody head part rest) = Unit {0}
IsOpen (NoHead rest) = ⊥
IsOpen (Breaks head rest refusal) = ⊥
IsOpen (NoBody head part rest refusal) = ⊥
IsOpen (Closing message rest) = ⊥

-- whole messages, and what stands behind them
pub record Cut : Type 0 where
  pub whole : List Message
  pub tail : Tail

-- the text of a cut
abbrev pub cut_text : Cut → List ℕ
cut_text c = messages_text c.whole ++ tail_text c.tail

-- what the bytes of a cut give
abbrev pub cut_events : Cut → List Event
cut_events c = messages_events c.whole ++ tail_events c.tail

-- a message after which the connection goes on
abbrev pub IsKept : ℕ → Message → Type 0
IsKept limit m = IsMessage limit m × (closes m.head ≡ false)

-- a cut of these bytes: messages after which the connection goes on, and a tail
pub record IsLinkCut (limit : ℕ) (bytes : List ℕ) (c : Cut) : Type 0 where
  pub whole : AllByRecursion (IsKept limit) c.whole
  pub tail : IsTail limit c.tail
  pub text : bytes ≡ cut_text c
