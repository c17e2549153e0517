-- What a file holds, by its bytes.
use Rattle.std.proofs.Common.{◌≡◌, ◌≤◌, ◌<◌, ℕ, List, Bool, true, false, Option, Some, None, length, refl, ◌&&◌, cond, arith}
use Rattle.std.proofs.lemmas.Bool.{le-leb, leb-true, false_from_ne_true}
use Rattle.std.proofs.lemmas.Str.{is_utf8-from_IsUtf8, IsUtf8-from_is_utf8}
use Rattle.std.specs.Prelude.{nat_le, option_and_then, IsUtf8}
use Rattle.std.specs.Str.{is_utf8}
use Rattle.serde_json.specs.Data.{Data}
use Rattle.serde_json.specs.Read.{read}
use Rattle.site_json.specs.File.{object_alone, file_of}

kept : (a b : Bool) (o r : Option Data) (d : Data) → a ≡ true → b ≡ true → o ≡ Some d → r ≡ object_alone d → r ≡ cond (a && b) (option_and_then object_alone o) None
kept a b o r d ea eb eo er = rw (ea, eb, eo) er

broken : (a b : Bool) (o : Option Data) → (b ≡ true → o ≡ None) → None ≡ cond (a && b) (option_and_then object_alone o) None
broken true true o e = rw (e refl) refl
broken true false o e = refl
broken false b o e = refl

-- a file that is read
pub file_read : (bytes : List ℕ) (r : Option Data) (d : Data) → length bytes ≤ 16777216 → IsUtf8 bytes → read bytes ≡ Some d → r ≡ object_alone d → r ≡ file_of bytes
unfolding file_of
file_read bytes r d short utf8 is object = kept (nat_le (length bytes) 16777216) (is_utf8 bytes) (read bytes) r d (le-leb _ _ short) (is_utf8-from_IsUtf8 bytes utf8) is object

-- a file that is no JSON
pub file_unread : (bytes : List ℕ) → (IsUtf8 bytes → read bytes ≡ None) → None ≡ file_of bytes
unfolding file_of
file_unread bytes none = broken (nat_le (length bytes) 16777216) (is_utf8 bytes) (read bytes) (λ e. none (IsUtf8-from_is_utf8 bytes e))

too_long : (a b : Bool) (o : Option Data) → a ≡ false → None ≡ cond (a && b) (option_and_then object_alone o) None
too_long a b o e = rw e refl

-- a file that is too long
pub file_too_long : (bytes : List ℕ) → 16777216 < length bytes → None ≡ file_of bytes
unfolding file_of
file_too_long bytes long = too_long (nat_le (length bytes) 16777216) (is_utf8 bytes) (read bytes) (false_from_ne_true _ (λ e. let short = leb-true (length bytes) 16777216 e in absurd (omega arith)))
