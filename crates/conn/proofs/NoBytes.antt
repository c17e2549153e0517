-- What no bytes give.
use Rattle.std.proofs.Common.{ℕ, ◌<◌, IsTrue, [], length, length-append, codes, refl, sym, ap, append-nil, arith, inl, lit<, lit≤}
use Rattle.std.proofs.lemmas.List.Elements.{All-from_recursion}
use Rattle.std.proofs.lemmas.Str.{IsUtf8-from_ascii}
use Rattle.std.proofs.lemmas.Str.Ascii.{IsAscii-from_all}
use Rattle.httparse.specs.Grammar.{RequestHead, IsRequestHead, print_request, is_token_byte, is_uri_byte, IsField, crlf}
use Rattle.wire_http.specs.Head.{IsOpenHead}
use Rattle.conn.specs.Cut.{OpenHead}
use Rattle.conn.specs.Stands.{Settled}
use Rattle.conn.proofs.Advancing.{request_positive}

-- the head of a request that may come
any_head : RequestHead
any_head = record { blank = []; method = codes "G"; target = codes "/"; minor = 1; line_end = crlf; fields = []; last = crlf }

is_head : IsRequestHead any_head
unfolding any_head is_token_byte
is_head = record {
  method = (lit< tt, All-from_recursion (λ b. IsTrue (is_token_byte b)) (codes "G") (refl, tt));
  target = (lit< tt, All-from_recursion (λ b. IsTrue (is_uri_byte b)) (codes "/") (refl, tt));
  target_text = IsUtf8-from_ascii (codes "/") (IsAscii-from_all (codes "/") (All-from_recursion (λ b. b < 128) (codes "/") (lit< tt, tt)));
  minor = lit≤ tt;
  fields = All-from_recursion IsField [] tt;
}

-- no bytes are an unfinished head
open_nothing : IsOpenHead []
open_nothing = record {
  within = lit< tt;
  not_yet = λ h rest reads. let e = ap length reads.1 in let some = request_positive h in absurd (omega (arith, e, some, length-append (print_request h) rest));
  may = inl (print_request any_head, any_head, (is_head, sym (append-nil (print_request any_head))));
}

pub settled_nothing : (limit : ℕ) → Settled limit [] []
settled_nothing limit = record { cut = record { whole = []; tail = OpenHead [] }; link = record { whole = tt; tail = open_nothing; text = refl }; events = refl }
