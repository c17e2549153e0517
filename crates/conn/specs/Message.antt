-- A whole request: its head and its body, and the bytes that spell it.
use Rattle.std.specs.Prelude.{◌≡◌, ℕ, ◌<◌, ◌≤◌, List, ◌++◌, length, None, flat_map}
use Rattle.std.specs.List.{AllByRecursion}
use Rattle.httparse.specs.Ascii.{crlf_bytes}
use Rattle.httparse.specs.Grammar.{RequestHead, IsRequestHead, print_request, Field, IsField, LineEnd, print_section, ChunkLine, IsChunkLine, print_chunk_line, chunk_size}
use Rattle.wire_http.specs.Head.{most_head, most_fields, refusal_of, framing, most_body}
use Rattle.wire_http.specs.declared.head.BodyLen.TheVariants.{Sized, Chunked}

-- a chunk line has at most 256 bytes, its CR LF included
abbrev pub most_line : ℕ
most_line = 256

-- a trailer has at most 16,384 bytes, its empty line included
abbrev pub most_trailer : ℕ
most_trailer = 16384

-- what is unfinished of a head, of a chunk line or of a trailer has at most 16,384 bytes
abbrev pub most_unfinished : ℕ
most_unfinished = 16384

-- a chunk line, its bytes, and CR LF
pub record Chunk : Type 0 where
  pub line : ChunkLine
  pub bytes : List ℕ

-- the text of a chunk
abbrev pub chunk_text : Chunk → List ℕ
chunk_text c = print_chunk_line c.line ++ (c.bytes ++ crlf_bytes)

-- the text of several chunks
abbrev pub chunks_text : List Chunk → List ℕ
chunks_text cs = flat_map chunk_text cs

-- the bytes that the chunks carry
abbrev pub content : List Chunk → List ℕ
content cs = flat_map (λ c. c.bytes) cs

-- a chunk says its length, in hexadecimal digits, and isn't empty
pub record IsChunk (c : Chunk) : Type 0 where
  pub line : IsChunkLine c.line
  pub short : length (print_chunk_line c.line) ≤ most_line
  pub sized : chunk_size c.line ≡ length c.bytes
  pub not_last : 0 < length c.bytes

-- the line that ends the chunks
pub record IsLast (l : ChunkLine) : Type 0 where
  pub line : IsChunkLine l
  pub short : length (print_chunk_line l) ≤ most_line
  pub none : chunk_size l ≡ 0

-- a trailer of at most 64 fields
pub record IsTrailer (fields : List Field) (end : LineEnd) : Type 0 where
  pub each : AllByRecursion IsField fields
  pub few : length fields ≤ most_fields
  pub short : length (print_section fields end) ≤ most_trailer

-- a body as it is sent
pub data Body : Type 0 where
  Plain : (bytes : List ℕ) → Body
  InChunks : (chunks : List Chunk) (last : ChunkLine) (fields : List Field) (end : LineEnd) → Body

-- the text of a body
abbrev pub body_text : Body → List ℕ
body_text (Plain bytes) = bytes
body_text (InChunks chunks last fields end) = chunks_text chunks ++ (print_chunk_line last ++ print_section fields end)

-- a body as it is meant
abbrev pub body_bytes : Body → List ℕ
body_bytes (Plain bytes) = bytes
body_bytes (InChunks chunks last fields end) = content chunks

-- a request as it is sent
pub record Message : Type 0 where
  pub head : RequestHead
  pub body : Body

-- the text of a message
abbrev pub message_text : Message → List ℕ
message_text m = print_request m.head ++ body_text m.body

-- the text of several messages
abbrev pub messages_text : List Message → List ℕ
messages_text ms = flat_map message_text ms

-- a head that no rule refuses
pub record IsHead (limit : ℕ) (h : RequestHead) : Type 0 where
  pub head : IsRequestHead h
  pub few : length h.fields ≤ most_fields
  pub short : length (print_request h) ≤ most_head
  pub passes : refusal_of limit h ≡ None

-- a body behind that head: of the stated length, or in chunks that are within the limit together, and a trailer
abbrev pub IsBody : ℕ → RequestHead → Body → Type 0
IsBody limit h (Plain bytes) = framing h ≡ Sized (length bytes)
IsBody limit h (InChunks chunks last fields end) =
    (framing h ≡ Chunked) × AllByRecursion IsChunk chunks × (length (content chunks) ≤ most_body limit h) × IsLast last × IsTrailer fields end

-- a message is a head that no rule refuses, and its body
abbrev pub IsMessage : ℕ → Message → Type 0
IsMessage limit m = IsHead limit m.head × IsBody limit m.head m.body
