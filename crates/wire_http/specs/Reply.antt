-- The text of a reply (RFC 9112, 4 to 6), and the replies to bytes that are refused.
use Rattle.std.specs.Prelude.{ℕ, Bool, true, false, List, [], ◌∷◌, ◌++◌, length, Option, Some, None, unwrap_or, codes, decimal}
use Rattle.std.specs.Arc.{arc_value}
use Rattle.http.specs.StatusCode.{reason_phrase}
use Rattle.httparse.specs.Ascii.{crlf_bytes}
use Rattle.json.specs.Token.{Token, begin_object, end_object, key, string}
use Rattle.json.specs.Print.{print}
use Rattle.wire_http.specs.declared.refusal.WireRefusal.{WireRefusal}
use Rattle.wire_http.specs.declared.refusal.WireRefusal.TheVariants.{BadHead, BadTarget, BadHost, TwoLengths, Coding, BadLength, TooLarge, BadChunk}
use Rattle.wire_http.specs.declared.reply.Kind.{Kind}
use Rattle.wire_http.specs.declared.reply.Kind.TheVariants.{Empty, Json, Bytes}
use Rattle.wire_http.specs.declared.reply.Reply.{Reply}

-- the phrase of a status code (RFC 9110, 15; 413 under its older name), empty for a code that has none
abbrev pub phrase : ℕ → List ℕ
phrase code = unwrap_or (reason_phrase code) []

-- the first line: the version, the status code and its phrase
abbrev pub status_line : ℕ → List ℕ
status_line code = codes "HTTP/1.1 " ++ decimal code ++ codes " " ++ phrase code ++ crlf_bytes

-- a field: its name, a colon and a blank, and its value
abbrev pub field_line : List ℕ → List ℕ → List ℕ
field_line name value = name ++ codes ": " ++ value ++ crlf_bytes

-- what the body of a reply is: nothing, a JSON text, or the bytes of a file
pub data ReplyBody : Type 0 where
  NoBody : ReplyBody
  JsonBody : (text : List ℕ) → ReplyBody
  FileBody : (bytes : List ℕ) → ReplyBody

-- a reply with its body's bytes themselves
pub record ReplyView : Type 0 where
  pub code : ℕ
  pub body : ReplyBody
  pub location : Option (List ℕ)
  pub allow : Option (List ℕ)
  pub close : Bool

-- the body that the code has
abbrev pub body_of : Kind → ReplyBody
body_of Empty = NoBody
body_of (Json text) = JsonBody text
body_of (Bytes blob) = FileBody (arc_value blob)

-- the reply that the code has
abbrev pub reply_view : Reply → ReplyView
reply_view r = record { code = r.code; body = body_of r.kind; location = r.location; allow = r.allow; close = r.close }

-- the type of the body, where it has one
abbrev pub type_lines : ReplyBody → List ℕ
type_lines NoBody = []
type_lines (JsonBody text) = field_line (codes "Content-Type") (codes "application/json")
type_lines (FileBody bytes) = field_line (codes "Content-Type") (codes "application/octet-stream")

-- the length of the body
abbrev pub length_line : ℕ → List ℕ
length_line len = field_line (codes "Content-Length") (decimal len)

-- a field whose value there may be
abbrev pub value_lines : List ℕ → Option (List ℕ) → List ℕ
value_lines name None = []
value_lines name (Some value) = field_line name value

-- the word that the connection closes, where it does
abbrev pub close_lines : Bool → List ℕ
close_lines true = field_line (codes "Connection") (codes "close")
close_lines false = []

-- the bytes of the body
abbrev pub reply_content : ReplyBody → List ℕ
reply_content NoBody = []
reply_content (JsonBody text) = text
reply_content (FileBody bytes) = bytes

-- the fields, in their order
abbrev pub fields_text : ReplyView → List ℕ
fields_text r =
    type_lines r.body ++ length_line (length (reply_content r.body)) ++ value_lines (codes "Location") r.location
    ++ value_lines (codes "Allow") r.allow ++ close_lines r.close

-- the first line, the fields, an empty line, and the body
abbrev pub view_text : ReplyView → List ℕ
view_text r = status_line r.code ++ fields_text r ++ crlf_bytes ++ reply_content r.body

-- the text of the reply that the code has
abbrev pub reply_text : Reply → List ℕ
reply_text r = view_text (reply_view r)

-- an error is the JSON object with the text as its one member `error`
abbrev pub error_tokens : List ℕ → List Token
error_tokens text = begin_object ∷ key (codes "error") ∷ string text ∷ end_object ∷ []

-- the body of an error, as text
abbrev pub error_body : List ℕ → List ℕ
error_body text = print (error_tokens text)

-- an error reply has that status and that body
abbrev pub error_reply : ℕ → List ℕ → Bool → Reply
error_reply code text close = record { code = code; kind = Json (error_body text); location = None; allow = None; close = close }

-- the status of each refusal
abbrev pub refusal_status : WireRefusal → ℕ
refusal_status BadHead = 400
refusal_status BadTarget = 400
refusal_status BadHost = 400
refusal_status TwoLengths = 400
refusal_status Coding = 501
refusal_status BadLength = 400
refusal_status TooLarge = 413
refusal_status BadChunk = 400

-- the text of each refusal
abbrev pub refusal_text : WireRefusal → List ℕ
refusal_text BadHead = codes "bad head"
refusal_text BadTarget = codes "bad target"
refusal_text BadHost = codes "bad host"
refusal_text TwoLengths = codes "two lengths"
refusal_text Coding = codes "coding"
refusal_text BadLength = codes "bad length"
refusal_text TooLarge = codes "body too large"
refusal_text BadChunk = codes "bad chunk"

-- the reply to a refusal is an error reply after which the connection closes
abbrev pub refusal_reply : WireRefusal → Reply
refusal_reply r = error_reply (refusal_status r) (refusal_text r) true
