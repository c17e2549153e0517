-- What is said of an ask or an answer is said of it with no room to spare in its lists.
use Rattle.std.proofs.Common.{◌≡◌, refl}
use Rattle.cta_site.specs.declared.site.Site.{Site}
use Rattle.cta_model.specs.declared.asks.Ask.{Ask}
use Rattle.cta_model.specs.declared.asks.Ask.TheVariants as ask
use Rattle.cta_model.specs.Bare.{bare_ask}
use Rattle.cta_model.specs.History.{History}
use Rattle.cta_model.specs.Legal.{IsFit}
use Rattle.archive_restore.specs.Contents.{put_sum}

pub fit_bare : (site : Site) (h : History) (k : Ask) → IsFit site h k → IsFit site h (bare_ask k)
fit_bare site h (ask.Stage who files) fit = fit
fit_bare site h (ask.Cancel who id paths) fit = fit
fit_bare site h (ask.Release who id paths) fit = fit
fit_bare site h (ask.Flushed m items) fit = fit
fit_bare site h (ask.Failed m fault charged returned) fit = fit
fit_bare site h (ask.Retry who paths) fit = fit
fit_bare site h _ fit = fit

pub bare_fit : (site : Site) (h : History) (k : Ask) → IsFit site h (bare_ask k) → IsFit site h k
bare_fit site h (ask.Stage who files) fit = fit
bare_fit site h (ask.Cancel who id paths) fit = fit
bare_fit site h (ask.Release who id paths) fit = fit
bare_fit site h (ask.Flushed m items) fit = fit
bare_fit site h (ask.Failed m fault charged returned) fit = fit
bare_fit site h (ask.Retry who paths) fit = fit
bare_fit site h _ fit = fit

pub put_bare : (k : Ask) → put_sum (bare_ask k) ≡ put_sum k
put_bare (ask.Stage who files) = refl
put_bare (ask.Cancel who id paths) = refl
put_bare (ask.Release who id paths) = refl
put_bare (ask.Flushed m items) = refl
put_bare (ask.Failed m fault charged returned) = refl
put_bare (ask.Retry who paths) = refl
put_bare _ = refl
