-- A section with at most 64 fields is none with more.
use Rattle.std.proofs.Common.{◌≡◌, ◌++◌, length, ap, ◌∙◌, arith, length-append}
use Rattle.std.specs.List.{flat_map}
use Rattle.std.proofs.lemmas.List.{append_cancel_right, append-nil}
use Rattle.httparse.specs.Grammar.{lf, print_field, print_end}
use Rattle.httparse.proofs.PieceLemmas.{Section_skip}
use Rattle.conn.specs.Unique.{FewTrailersAreNotMany}

pub few_trailers : FewTrailersAreNotMany
few_trailers bytes gs end rest e reads few =
    let fs = e.3 in
    let text : e.0 ++ print_end lf ≡ flat_map print_field fs ++ print_end lf = e.4.1 ∙ append-nil _ in
    let front : e.0 ≡ flat_map print_field fs = append_cancel_right e.0 (flat_map print_field fs) (print_end lf) text in
    let lines : bytes ≡ flat_map print_field fs ++ e.1 = e.2 ∙ ap (λ xs. xs ++ e.1) front in
    let skipped = Section_skip fs gs end bytes e.1 rest (e.4.0, lines) reads in
    omega (arith, ap length skipped.1, length-append fs skipped.0, e.5, few)
