-- What callers may ask: never what only the session of a drive asks, and with a content only a Put.
use Rattle.std.specs.Prelude.{◌≡◌, List, ℕ, Some, None}
use Rattle.blob.specs.Sums.{sum_of}
use Rattle.cta_site.specs.declared.site.Site.{Site}
use Rattle.cta_model.specs.declared.asks.Ask.TheVariants as ask
use Rattle.wire_http.specs.declared.request.Request.{Request}
use Rattle.tape_routes.specs.Asked.{Asked, Asks, Looks, Replies, asked}

-- what a caller may ask: a Put comes with its content, and no other ask with any; a session's ask is none
abbrev pub IsCallers : Asked → Type 0
IsCallers (Asks (ask.Put who path sum) content) = (bytes : List ℕ) × ((content ≡ Some bytes) × (sum ≡ sum_of bytes))
IsCallers (Asks (ask.Next d) content) = ⊥
IsCallers (Asks (ask.Claim m) content) = ⊥
IsCallers (Asks (ask.Flushed m items) content) = ⊥
IsCallers (Asks (ask.Recalled m job) content) = ⊥
IsCallers (Asks (ask.Failed m fault charged returned) content) = ⊥
IsCallers (Asks (ask.End m fault) content) = ⊥
IsCallers (Asks k content) = content ≡ None
IsCallers (Looks k) = Unit {0}
IsCallers (Replies reply) = Unit {0}

-- each request asks what a caller may ask
abbrev pub CallersAsk : Type 0
CallersAsk = (site : Site) (r : Request) → IsCallers (asked site r)
