-- What an error of httparse is about, for all who read heads, chunk lines and trailers.
use Rattle.std.specs.Prelude.{◌≡◌, ◌⊎◌, Result, Err}
use Rattle.std.proofs.Common.{◌≢◌, inl, inr}
use Rattle.httparse.specs.declared.Error.{Error}
use Rattle.httparse.specs.declared.Error.TheVariants.{TooManyHeaders, HeaderName, HeaderValue, NewLine, Status, Token, Version}

-- it is about the count of fields or about the bytes
pub by_error : {A B T : Type 0} (e : Error) (r : Result T Error) → r ≡ Err e → (e ≢ TooManyHeaders → A) → (r ≡ Err TooManyHeaders → B) → A ⊎ B
by_error TooManyHeaders r is never exceeds = inr (exceeds is)
by_error HeaderName r is never exceeds = inl (never (λ e. cc))
by_error HeaderValue r is never exceeds = inl (never (λ e. cc))
by_error NewLine r is never exceeds = inl (never (λ e. cc))
by_error Status r is never exceeds = inl (never (λ e. cc))
by_error Token r is never exceeds = inl (never (λ e. cc))
by_error Version r is never exceeds = inl (never (λ e. cc))
