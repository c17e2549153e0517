-- What requests ask, meaning by meaning.
use Rattle.std.proofs.Common.{◌≡◌, List, ℕ, Bool, refl}
use Rattle.std.specs.Prelude.{Option, Some, None, Result, Ok, Err, unwrap_or, []}
use Rattle.percent_encoding.specs.Percent.{percent_decode}
use Rattle.cta_site.specs.declared.site.Site.{Site}
use Rattle.wire_http.specs.declared.request.Request.{Request}
use Rattle.tape_json.specs.declared.body.BodyError.{BodyError}
use Rattle.tape_json.specs.Bodies.{stage_of, paths_of, state_of, vid_of}
use Rattle.tape_routes.specs.declared.routes.Endpoint.{Endpoint}
use Rattle.tape_routes.specs.declared.routes.Meaning.{Meaning}
use Rattle.tape_routes.specs.declared.routes.Meaning.TheVariants as means
use Rattle.tape_routes.specs.Asked.{Asked, asked, asked_at, asked_by, asked_of, bad_request, with_body, with_path}
use Rattle.tape_routes.specs.Callers.{IsCallers}
use Rattle.tape_routes.specs.Parameters.{text_in}
use Rattle.tape_routes.specs.Routes.{endpoint_of, meaning_of, parameter_of}

body_asks : {A : Type 0} (close : Bool) (asks : A → Asked) (r : Result A BodyError) → ((value : A) → IsCallers (asks value)) → IsCallers (with_body close asks r)
unfolding bad_request
body_asks close asks (Ok value) each = each value
body_asks close asks (Err fault) each = tt

path_asks : (close : Bool) (asks : List ℕ → Asked) (o : Option (List ℕ)) → ((path : List ℕ) → IsCallers (asks path)) → IsCallers (with_path close asks o)
unfolding bad_request
path_asks close asks None each = tt
path_asks close asks (Some path) each = each path

meaning_asks : (site : Site) (r : Request) (p : List ℕ) (m : Meaning) → IsCallers (asked_by site r p m)
meaning_asks site r p means.Service = tt
meaning_asks site r p means.Stage = body_asks r.close _ (stage_of r.body) (λ files. refl)
meaning_asks site r p means.StageInfo = tt
meaning_asks site r p means.DropStage = refl
meaning_asks site r p means.Cancel = body_asks r.close _ (paths_of r.body) (λ paths. refl)
meaning_asks site r p means.Release = body_asks r.close _ (paths_of r.body) (λ paths. refl)
meaning_asks site r p means.ArchiveInfo = body_asks r.close _ (paths_of r.body) (λ paths. tt)
meaning_asks site r p means.Put = path_asks r.close _ (text_in p) (λ path. (r.body, (refl, refl)))
meaning_asks site r p means.Fetch = path_asks r.close _ (text_in p) (λ path. tt)
meaning_asks site r p means.Delete = path_asks r.close _ (text_in p) (λ path. refl)
meaning_asks site r p means.DriveUp = refl
meaning_asks site r p means.DriveDown = refl
meaning_asks site r p means.TapeInfo = tt
meaning_asks site r p means.TapeState = body_asks r.close _ (state_of r.body) (λ state. refl)
meaning_asks site r p means.Reclaim = refl
meaning_asks site r p means.Repack = body_asks r.close _ (vid_of r.body) (λ vid. refl)
meaning_asks site r p means.RepackInfo = tt
meaning_asks site r p means.FailedList = tt
meaning_asks site r p means.Retry = body_asks r.close _ (paths_of r.body) (λ paths. refl)
meaning_asks site r p means.Queues = tt

method_asks : (site : Site) (r : Request) (e : Endpoint) (o : Option Meaning) → IsCallers (asked_at site r e o)
method_asks site r e None = tt
method_asks site r e (Some m) = meaning_asks site r (percent_decode (unwrap_or (parameter_of e r.target) [])) m

endpoint_asks : (site : Site) (r : Request) (o : Option Endpoint) → IsCallers (asked_of site r o)
endpoint_asks site r None = tt
endpoint_asks site r (Some e) = method_asks site r e (meaning_of e r.method)

pub all_ask : (site : Site) (r : Request) → IsCallers (asked site r)
all_ask site r = endpoint_asks site r (endpoint_of r.target)
