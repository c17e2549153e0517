-- What a request asks: of the archive, or nothing that needs it.
use Rattle.std.specs.Prelude.{ℕ, List, [], Bool, Option, Some, None, Result, Ok, Err, option_map, unwrap_or, codes}
use Rattle.std.specs.Arc.{arc_value}
use Rattle.percent_encoding.specs.Percent.{percent_decode}
use Rattle.blob.specs.Sums.{sum_of}
use Rattle.cta_site.specs.declared.site.Site.{Site}
use Rattle.cta_site.specs.Listed.{rows}
use Rattle.cta_model.specs.Bare.{bare_ask, bare_look}
use Rattle.cta_model.specs.declared.asks.Ask.{Ask}
use Rattle.cta_model.specs.declared.asks.Ask.TheVariants as ask
use Rattle.cta_model.specs.declared.asks.Look.{Look}
use Rattle.cta_model.specs.declared.asks.Look.TheVariants as look
use Rattle.wire_http.specs.declared.reply.Reply.{Reply}
use Rattle.wire_http.specs.Reply.{error_reply}
use Rattle.tape_json.specs.declared.body.BodyError.{BodyError}
use Rattle.tape_json.specs.Bodies.{stage_of, paths_of, state_of, vid_of}
use Rattle.wire_http.specs.declared.request.Request.{Request}
use Rattle.tape_routes.specs.declared.routes.Endpoint.{Endpoint}
use Rattle.tape_routes.specs.declared.routes.Meaning.{Meaning}
use Rattle.tape_routes.specs.declared.routes.Meaning.TheVariants as means
use Rattle.tape_routes.specs.declared.routed.Routed.{Routed}
use Rattle.tape_routes.specs.declared.routed.Routed.TheVariants as routed
use Rattle.tape_routes.specs.Routes.{endpoint_of, meaning_of, allowed_at, parameter_of}
use Rattle.tape_routes.specs.Parameters.{request_number, drive_number, tape_number, text_in}
use Rattle.tape_routes.specs.Fixed.{refused_reply, body_fault, well_known_reply}

-- an ask with the content that comes along, a look, or a reply that is known already
pub data Asked : Type 0 where
  Asks : (ask : Ask) (content : Option (List ℕ)) → Asked
  Looks : (look : Look) → Asked
  Replies : (reply : Reply) → Asked

-- what the code gives, with no room to spare in its lists
abbrev pub routed_view : Routed → Asked
routed_view (routed.Ask k blob) = Asks (bare_ask k) (option_map arc_value blob)
routed_view (routed.Look k) = Looks (bare_look k)
routed_view (routed.Reply reply) = Replies reply

-- a request that can't be asked is a bad request
unfoldable pub bad_request : Bool → List ℕ → Asked
bad_request close text = Replies (error_reply 400 text close)

-- what is asked with what a body says, and the body's fault where it is bad
abbrev pub with_body : {A : Type 0} → Bool → (A → Asked) → Result A BodyError → Asked
with_body close asks (Ok value) = asks value
with_body close asks (Err fault) = bad_request close (body_fault fault)

-- what is asked of a path, where there is one
abbrev pub with_path : Bool → (List ℕ → Asked) → Option (List ℕ) → Asked
with_path close asks None = bad_request close (codes "bad path")
with_path close asks (Some path) = asks path

-- what a request asks by what its method means and the parameter of its target, percent-decoded
abbrev pub asked_by : Site → Request → List ℕ → Meaning → Asked
asked_by site r p means.Service = Replies (well_known_reply site r.close)
asked_by site r p means.Stage = with_body r.close (λ files. Asks (ask.Stage r.who (rows files)) None) (stage_of r.body)
asked_by site r p means.StageInfo = Looks (look.StageInfo (request_number p))
asked_by site r p means.DropStage = Asks (ask.DropStage r.who (request_number p)) None
asked_by site r p means.Cancel = with_body r.close (λ paths. Asks (ask.Cancel r.who (request_number p) (rows paths)) None) (paths_of r.body)
asked_by site r p means.Release = with_body r.close (λ paths. Asks (ask.Release r.who (request_number p) (rows paths)) None) (paths_of r.body)
asked_by site r p means.ArchiveInfo = with_body r.close (λ paths. Looks (look.ArchiveInfo (rows paths))) (paths_of r.body)
asked_by site r p means.Put = with_path r.close (λ path. Asks (ask.Put r.who path (sum_of r.body)) (Some r.body)) (text_in p)
asked_by site r p means.Fetch = with_path r.close (λ path. Looks (look.Fetch path)) (text_in p)
asked_by site r p means.Delete = with_path r.close (λ path. Asks (ask.Delete r.who path) None) (text_in p)
asked_by site r p means.DriveUp = Asks (ask.DriveUp r.who (drive_number site p)) None
asked_by site r p means.DriveDown = Asks (ask.DriveDown r.who (drive_number site p)) None
asked_by site r p means.TapeInfo = Looks (look.TapeInfo (tape_number site p))
asked_by site r p means.TapeState = with_body r.close (λ state. Asks (ask.TapeState r.who (tape_number site p) state) None) (state_of r.body)
asked_by site r p means.Reclaim = Asks (ask.Reclaim r.who (tape_number site p)) None
asked_by site r p means.Repack = with_body r.close (λ vid. Asks (ask.Repack r.who (tape_number site vid)) None) (vid_of r.body)
asked_by site r p means.RepackInfo = Looks (look.RepackInfo (request_number p))
asked_by site r p means.FailedList = Looks look.FailedList
asked_by site r p means.Retry = with_body r.close (λ paths. Asks (ask.Retry r.who (rows paths)) None) (paths_of r.body)
asked_by site r p means.Queues = Looks look.Queues

-- what is asked at an endpoint by what the method means there; a method that means nothing there is told those that do
abbrev pub asked_at : Site → Request → Endpoint → Option Meaning → Asked
asked_at site r e None = Replies (refused_reply r 405 (codes "no such method") (Some (allowed_at e)))
asked_at site r e (Some meaning) = asked_by site r (percent_decode (unwrap_or (parameter_of e r.target) [])) meaning

-- what is asked at the endpoint that the target names, if there is one
abbrev pub asked_of : Site → Request → Option Endpoint → Asked
asked_of site r None = Replies (refused_reply r 404 (codes "no such route") None)
asked_of site r (Some e) = asked_at site r e (meaning_of e r.method)

-- what a request asks
abbrev pub asked : Site → Request → Asked
asked site r = asked_of site r (endpoint_of r.target)
