-- The replies that need no archive: refusals of the routes, and the document that names the service.
use Rattle.std.specs.Prelude.{ℕ, List, [], ◌∷◌, ◌++◌, Bool, Option, None, if◌then◌else◌, codes, bytes_eq}
use Rattle.json.specs.Token.{Token, begin_object, end_object, begin_array, end_array, key, string}
use Rattle.json.specs.Print.{print}
use Rattle.cta_site.specs.declared.site.Site.{Site}
use Rattle.wire_http.specs.declared.reply.Kind.TheVariants.{Empty, Json}
use Rattle.wire_http.specs.declared.reply.Reply.{Reply}
use Rattle.wire_http.specs.Reply.{error_body}
use Rattle.tape_json.specs.declared.body.BodyError.{BodyError}
use Rattle.tape_json.specs.declared.body.BodyError.TheVariants.{BadBody, BadLifetime, EmptyList, NoMemory}
use Rattle.wire_http.specs.declared.request.Request.{Request}

-- a reply to HEAD has no body, any other refusal is a JSON text (RFC 9110, 9.3.2)
abbrev pub refused_reply : Request → ℕ → List ℕ → Option (List ℕ) → Reply
refused_reply r code text allow =
    record {
      code = code;
      kind = if bytes_eq r.method (codes "HEAD") then Empty else Json (error_body text);
      location = None;
      allow = allow;
      close = r.close;
    }

-- the text of the refusal of a body
abbrev pub body_fault : BodyError → List ℕ
body_fault BadBody = codes "bad body"
body_fault BadLifetime = codes "bad lifetime"
body_fault EmptyList = codes "empty list"
body_fault NoMemory = []

-- a member that is a text
abbrev pub text_member : List ℕ → List ℕ → List Token
text_member name text = key name ∷ string text ∷ []

-- the site's endpoint, of version 1
unfoldable pub endpoint_tokens : Site → List Token
endpoint_tokens site = begin_object ∷ text_member (codes "uri") site.endpoint ++ text_member (codes "version") (codes "v1") ++ end_object ∷ []

-- the list of that one endpoint
unfoldable pub endpoints_tokens : Site → List Token
endpoints_tokens site = begin_array ∷ endpoint_tokens site ++ end_array ∷ []

-- the document of WLCG Tape REST v1: the list of endpoints, and the name of the site
unfoldable pub well_known_tokens : Site → List Token
well_known_tokens site =
    begin_object ∷ key (codes "endpoints") ∷ endpoints_tokens site ++ text_member (codes "sitename") site.sitename ++ end_object ∷ []

-- the reply with that document
abbrev pub well_known_reply : Site → Bool → Reply
well_known_reply site close =
    record { code = 200; kind = Json (print (well_known_tokens site)); location = None; allow = None; close = close }
