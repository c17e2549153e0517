use Rattle.std.proofs.Common.{rules, ap, ◌∙◌, ◌≡◌, sym}
use Rattle.std.specs.Prelude.{is_some}
use Rattle.repack_book.specs.NamedRepacks.{kept_in}
use Rattle.repack_book.proofs.Books.{repack_is, some_of}
use Rattle.repack_book.proofs.book.RepackBook.knows.Goals as goal

pub returns : goal.returns
returns c =
    let here : c.contains_key.result ≡ is_some (kept_in c.args.self.now c.args.id) = search rules in
    here ∙ sym (ap is_some (repack_is c.args.self.now c.args.id) ∙ some_of (kept_in c.args.self.now c.args.id))
