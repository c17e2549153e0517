use Rattle.std.proofs.Common.{◌≡◌, Bool, true, false, cond, [], refl}
use Rattle.std.specs.Str.{is_utf8}
use Rattle.httparse.proofs.OnLiterals.{httparse_on_literals}
use Rattle.wire_http.specs.Fields.{is_word, is_length}
use Rattle.wire_http.specs.Options.{options, has_option}
use Rattle.wire_http.specs.Callers.{text_or_none}
use Rattle.wire_http.specs.Rules.{is_file_put, first_broken, body_len, is_closing, is_expecting}
use Rattle.conn.proofs.laws.two_texts.Goals as goal

same_either : {A : Type 0} (b : Bool) (x : A) → cond b x x ≡ x
same_either true x = refl
same_either false x = refl

no_name : text_or_none [] ≡ []
unfolding text_or_none
no_name = same_either (is_utf8 []) []

pub returns-clause-refused : goal.returns-clause-refused
unfolding httparse_on_literals is_word is_length is_file_put options has_option first_broken body_len is_closing is_expecting
returns-clause-refused c = (refl, refl, refl)

pub returns-clause-pair : goal.returns-clause-pair
unfolding httparse_on_literals is_word is_length is_file_put options has_option first_broken body_len is_closing is_expecting
returns-clause-pair c = (refl, refl, refl, refl, rw no_name refl)
