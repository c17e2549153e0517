-- What callers ask is fit for the archive, and so is the content that comes along.
use Rattle.std.proofs.Common.{◌≡◌, ℕ, List, refl, sym, ap, ◌∙◌}
use Rattle.std.specs.Prelude.{Option, Some, None, [], option_map, unwrap_or}
use Rattle.std.specs.Arc.{arc_value}
use Rattle.blob.specs.Records.{MediumView}
use Rattle.blob.specs.declared.sum.Sum256.{Sum256}
use Rattle.blob.specs.Sums.{sum_of}
use Rattle.cta_site.specs.declared.site.Site.{Site}
use Rattle.cta_model.specs.Bare.{bare_ask}
use Rattle.cta_model.specs.Hands.{HandIn, medium_in}
use Rattle.cta_model.specs.History.{History}
use Rattle.cta_model.specs.Legal.{IsFit}
use Rattle.cta_model.specs.declared.asks.Ask.{Ask}
use Rattle.cta_model.specs.declared.asks.Ask.TheVariants as ask
use Rattle.tape_routes.specs.Asked.{Asks}
use Rattle.tape_routes.specs.Callers.{IsCallers}
use Rattle.tape_routes.specs.Replies.{Content}
use Rattle.archive_front.specs.Hands.{hand_with}

pub callers_fit : (site : Site) (h : History) (k : Ask) (sent : Option (List ℕ)) → IsCallers (Asks (bare_ask k) sent) → IsFit site h k
callers_fit site h (ask.Put who path sum) sent fit = tt
callers_fit site h (ask.Delete who path) sent fit = tt
callers_fit site h (ask.Stage who files) sent fit = tt
callers_fit site h (ask.Cancel who id paths) sent fit = tt
callers_fit site h (ask.DropStage who id) sent fit = tt
callers_fit site h (ask.Release who id paths) sent fit = tt
callers_fit site h (ask.Next d) sent fit = absurd fit
callers_fit site h (ask.Claim m) sent fit = absurd fit
callers_fit site h (ask.Flushed m items) sent fit = absurd fit
callers_fit site h (ask.Recalled m job) sent fit = absurd fit
callers_fit site h (ask.Failed m fault charged returned) sent fit = absurd fit
callers_fit site h (ask.End m fault) sent fit = absurd fit
callers_fit site h (ask.DriveUp who d) sent fit = tt
callers_fit site h (ask.DriveDown who d) sent fit = tt
callers_fit site h (ask.TapeState who v s) sent fit = tt
callers_fit site h (ask.Reclaim who v) sent fit = tt
callers_fit site h (ask.Repack who v) sent fit = tt
callers_fit site h (ask.Retry who paths) sent fit = tt

same_sum : (blob sent : List ℕ) (sum : Sum256) → Some blob ≡ Some sent → sum ≡ sum_of sent → sum_of blob ≡ sum
same_sum blob sent sum e f = ap (λ o. sum_of (unwrap_or o [])) e ∙ sym f

-- what comes along is no medium
pub callers_medium : {M : Type 0} (told : M → MediumView) (content : Content) → medium_in told (hand_with content) ≡ None
callers_medium told None = refl
callers_medium told (Some blob) = refl

pub callers_hand : {M : Type 0} (told : M → MediumView) (h : History) (k : Ask) (content : Content) → IsCallers (Asks (bare_ask k) (option_map arc_value content)) → HandIn told h k (hand_with content)
callers_hand told h (ask.Put who path sum) None fit = absurd (let no : None ≡ Some fit.0 = fit.1.0 in cc)
callers_hand told h (ask.Put who path sum) (Some blob) fit = same_sum (arc_value blob) fit.0 sum fit.1.0 fit.1.1
callers_hand told h (ask.Delete who path) None fit = tt
callers_hand told h (ask.Delete who path) (Some blob) fit = absurd (let no : Some (arc_value blob) ≡ None = fit in cc)
callers_hand told h (ask.Stage who files) None fit = tt
callers_hand told h (ask.Stage who files) (Some blob) fit = absurd (let no : Some (arc_value blob) ≡ None = fit in cc)
callers_hand told h (ask.Cancel who id paths) None fit = tt
callers_hand told h (ask.Cancel who id paths) (Some blob) fit = absurd (let no : Some (arc_value blob) ≡ None = fit in cc)
callers_hand told h (ask.DropStage who id) None fit = tt
callers_hand told h (ask.DropStage who id) (Some blob) fit = absurd (let no : Some (arc_value blob) ≡ None = fit in cc)
callers_hand told h (ask.Release who id paths) None fit = tt
callers_hand told h (ask.Release who id paths) (Some blob) fit = absurd (let no : Some (arc_value blob) ≡ None = fit in cc)
callers_hand told h (ask.Next d) content fit = absurd fit
callers_hand told h (ask.Claim m) content fit = absurd fit
callers_hand told h (ask.Flushed m items) content fit = absurd fit
callers_hand told h (ask.Recalled m job) content fit = absurd fit
callers_hand told h (ask.Failed m fault charged returned) content fit = absurd fit
callers_hand told h (ask.End m fault) content fit = absurd fit
callers_hand told h (ask.DriveUp who d) None fit = tt
callers_hand told h (ask.DriveUp who d) (Some blob) fit = absurd (let no : Some (arc_value blob) ≡ None = fit in cc)
callers_hand told h (ask.DriveDown who d) None fit = tt
callers_hand told h (ask.DriveDown who d) (Some blob) fit = absurd (let no : Some (arc_value blob) ≡ None = fit in cc)
callers_hand told h (ask.TapeState who v s) None fit = tt
callers_hand told h (ask.TapeState who v s) (Some blob) fit = absurd (let no : Some (arc_value blob) ≡ None = fit in cc)
callers_hand told h (ask.Reclaim who v) None fit = tt
callers_hand told h (ask.Reclaim who v) (Some blob) fit = absurd (let no : Some (arc_value blob) ≡ None = fit in cc)
callers_hand told h (ask.Repack who v) None fit = tt
callers_hand told h (ask.Repack who v) (Some blob) fit = absurd (let no : Some (arc_value blob) ≡ None = fit in cc)
callers_hand told h (ask.Retry who paths) None fit = tt
callers_hand told h (ask.Retry who paths) (Some blob) fit = absurd (let no : Some (arc_value blob) ≡ None = fit in cc)
