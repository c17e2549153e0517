-- Three connections, read by the definitions.
use Rattle.std.specs.Prelude.{◌≡◌, ℕ, false, List, [], ◌∷◌, ◌++◌, codes, Some, None}
use Rattle.httparse.specs.Grammar.{Field, crlf, RequestHead, ChunkLine}
use Rattle.wire_http.specs.Head.{closes, refusal_of}
use Rattle.conn.specs.Message.{Plain, InChunks, Chunk}
use Rattle.conn.specs.Cut.{Cut, Event, Requests, Refuses, OpenHead, Breaks, cut_text, cut_events}
use Rattle.wire_http.specs.declared.refusal.WireRefusal.TheVariants.{TwoLengths}

-- a line, with its CR LF
abbrev pub line : List ℕ → List ℕ
line text = text ++ 13 ∷ 10 ∷ []

-- a field whose line ends in CR LF
abbrev pub field : List ℕ → List ℕ → Field
field name raw = record { name = name; raw = raw; end = crlf }

-- a 1.1 head whose lines end in CR LF
abbrev pub request : List ℕ → List ℕ → List Field → RequestHead
request method target fields = record { blank = []; method = method; target = target; minor = 1; line_end = crlf; fields = fields; last = crlf }

-- both lengths
abbrev pub both : RequestHead
both = request (codes "PUT") (codes "/data/atlas/a") (field (codes "Host") (codes " t") ∷ field (codes "Content-Length") (codes " 5") ∷ field (codes "Transfer-Encoding") (codes " chunked") ∷ [])

-- its cut
abbrev pub refused : Cut
refused = record { whole = []; tail = Breaks both [] TwoLengths }

-- the text of that cut, and that it gives the refusal alone
abbrev pub RefusesBoth : Type 0
RefusesBoth =
    (refusal_of 1000 both ≡ Some TwoLengths)
    × (cut_text refused ≡ line (codes "PUT /data/atlas/a HTTP/1.1") ++ (line (codes "Host: t") ++ (line (codes "Content-Length: 5") ++ (line (codes "Transfer-Encoding: chunked") ++ line []))))
    × (cut_events refused ≡ Refuses TwoLengths ∷ [])

-- two requests, the second in chunks
abbrev pub first : RequestHead
first = request (codes "GET") (codes "/a") (field (codes "Host") (codes " t") ∷ [])

-- the head of the second request
abbrev pub second : RequestHead
second = request (codes "PUT") (codes "/b") (field (codes "Host") (codes " t") ∷ field (codes "Transfer-Encoding") (codes " chunked") ∷ [])

-- a chunk line of these digits
abbrev pub size : List ℕ → ChunkLine
size digits = record { digits = digits; pad = []; extension = None }

-- a chunk of that line and those bytes
abbrev pub chunk : List ℕ → List ℕ → Chunk
chunk digits bytes = record { line = size digits; bytes = bytes }

-- the cut of both requests and the first bytes of a third
abbrev pub pair : Cut
pair = record {
  whole = record { head = first; body = Plain [] } ∷ record { head = second; body = InChunks (chunk (codes "5") (codes "hello") ∷ chunk (codes "2") (codes "ab") ∷ []) (size (codes "0")) [] crlf } ∷ [];
  tail = OpenHead (codes "GE");
}

-- a request of nobody named that doesn't close
abbrev pub asks : List ℕ → List ℕ → List ℕ → Event
asks method target body = Requests (record { method = method; target = target; who = record { requester = []; group = [] }; body = body; close = false })

-- the text of that cut, and that it gives the two requests
abbrev pub AsksPair : Type 0
AsksPair =
    (refusal_of 1000 first ≡ None) × (refusal_of 1000 second ≡ None) × (closes second ≡ false)
    × (cut_text pair ≡ line (codes "GET /a HTTP/1.1") ++ (line (codes "Host: t") ++ (line [] ++ (line (codes "PUT /b HTTP/1.1") ++ (line (codes "Host: t") ++ (line (codes "Transfer-Encoding: chunked") ++ (line []
    ++ (line (codes "5") ++ (line (codes "hello") ++ (line (codes "2") ++ (line (codes "ab") ++ (line (codes "0") ++ (line [] ++ codes "GE")))))))))))))
    × (cut_events pair ≡ asks (codes "GET") (codes "/a") [] ∷ asks (codes "PUT") (codes "/b") (codes "helloab") ∷ [])
