-- The replies to the archive's answers (those of `/api/v1` by WLCG Tape REST v1, the others this project's own).
use Rattle.std.specs.Prelude.{◌≡◌, ℕ, List, [], ◌++◌, Bool, true, false, Option, Some, None, unwrap_or, codes}
use Rattle.std.specs.Arc.{arc_value}
use Rattle.std.specs.declared.sync.Arc.{Arc}
use Rattle.std.specs.declared.alloc.Global.{Global}
use Rattle.blob.specs.Sums.{sum_of}
use Rattle.cta_site.specs.declared.site.Site.{Site}
use Rattle.cta_model.specs.declared.answers.Answer.{Answer}
use Rattle.cta_model.specs.declared.answers.Answer.TheVariants as answer
use Rattle.cta_model.specs.declared.answers.Refusal.{Refusal}
use Rattle.cta_model.specs.declared.answers.Refusal.TheVariants as refusal
use Rattle.wire_http.specs.declared.reply.Kind.{Kind}
use Rattle.wire_http.specs.declared.reply.Kind.TheVariants.{Empty, Json, Bytes}
use Rattle.wire_http.specs.declared.reply.Reply.{Reply}
use Rattle.wire_http.specs.Reply.{error_reply}
use Rattle.tape_json.specs.Reports.{id_text, report_text, refusal_text}

-- the content that comes along with an answer
abbrev pub Content : Type 0
Content = Option (Arc (List ℕ) Global)

-- a caller gets every answer but those of a drive session
abbrev pub is_for_callers : Answer → Bool
is_for_callers (answer.Mounted mount direction tape) = false
is_for_callers answer.Idle = false
is_for_callers answer.DriveDown = false
is_for_callers answer.DriveBusy = false
is_for_callers (answer.Batch items evicted) = false
is_for_callers answer.Nothing = false
is_for_callers (answer.Told fates) = false
is_for_callers (answer.Arrived fate) = false
is_for_callers (answer.Refused refusal.Unknown) = false
is_for_callers _ = true

-- with the sum of a file comes its content, of that sum
abbrev pub HasContent : Answer → Content → Type 0
HasContent (answer.Bytes sum) None = ⊥
HasContent (answer.Bytes sum) (Some blob) = sum_of (arc_value blob) ≡ sum
HasContent _ blob = Unit {0}

-- a reply with no field besides
abbrev pub plain_reply : ℕ → Kind → Bool → Reply
plain_reply code kind close = record { code = code; kind = kind; location = None; allow = None; close = close }

-- the status of each refusal (RFC 9110, 15)
abbrev pub status_of : Refusal → ℕ
status_of refusal.BadPath = 400
status_of refusal.NoDirectory = 400
status_of refusal.PathTaken = 409
status_of refusal.NoSpace = 507
status_of refusal.HistoryFull = 503
status_of refusal.NoFile = 404
status_of refusal.NotResident = 409
status_of refusal.NoRequest = 404
status_of refusal.ForeignPath = 400
status_of refusal.NoDrive = 404
status_of refusal.NoTape = 404
status_of refusal.TapeMounted = 409
status_of refusal.TapeBroken = 409
status_of refusal.LiveFiles = 409
status_of refusal.NotRepacking = 409
status_of refusal.RepackLive = 409
status_of refusal.NoRepack = 404
status_of refusal.Unknown = 500

-- the text of each refusal; Unknown has none, since no caller gets it
abbrev pub text_of : Refusal → List ℕ
text_of r = unwrap_or (refusal_text r) []

-- the JSON text of an answer that has one
abbrev pub json_text : Answer → List ℕ
json_text a = unwrap_or (report_text a) []

-- where a stage request is: below the site's endpoint, by its id
abbrev pub location_of : Site → ℕ → List ℕ
location_of site id = site.endpoint ++ codes "/stage/" ++ id_text id

-- the bytes of a file
abbrev pub bytes_kind : Content → Kind
bytes_kind None = Empty
bytes_kind (Some blob) = Bytes blob

-- the reply to an answer that a caller gets
abbrev pub reply_for : Site → Answer → Content → Bool → Reply
reply_for site (answer.Stored evicted) blob close = plain_reply 201 Empty close
reply_for site answer.Done blob close = plain_reply 200 Empty close
reply_for site (answer.Staged id) blob close =
    record { code = 201; kind = Json (json_text (answer.Staged id)); location = Some (location_of site id); allow = None; close = close }
reply_for site (answer.Repacking id items) blob close = plain_reply 201 (Json (json_text (answer.Repacking id items))) close
reply_for site (answer.Bytes sum) blob close = plain_reply 200 (bytes_kind blob) close
reply_for site (answer.Refused r) blob close = error_reply (status_of r) (text_of r) close
reply_for site a blob close = plain_reply 200 (Json (json_text a)) close
