use Rattle.std.proofs.Common.{◌≡◌, ◌∙◌, ap, subst, List, ℕ, [], ◌∷◌, ◌++◌, Option, Some, codes}
use Rattle.std.proofs.lemmas.Result.{on_ok_weaker}
use Rattle.json.specs.Token.{begin_object, end_object}
use Rattle.serde_json.specs.Data.{Data, string}
use Rattle.tape_json.specs.Reports.{count, list_report}
use Rattle.tape_json.specs.Shown.{IsReadable}
use Rattle.tape_json.proofs.Objects.{after, object_tokens, failed-reads}
use Rattle.tape_json.proofs.places.FailedCopyReported.write.Goals as goal

pub returns-clause-appends : goal.returns-clause-appends
returns-clause-appends c =
    let it = c.args.self.now in
    let old = c.args.out.now.tokens in
    let members : List (List ℕ × Option Data) = (codes "copy", Some (count it.copy)) ∷ (codes "errors", Some (list_report string it.errors.items)) ∷ (codes "path", Some (string it.path)) ∷ [] in
    let steps : c.text_member.new.out.tokens ≡ after (old ++ begin_object ∷ []) members =
    cc (c.in_ok-begin_object.ensures.ok, c.in_ok-count_member.ensures.appends.tokens, c.in_ok-list_member.ensures.appends.tokens, c.in_ok-text_member.ensures.tokens, c.as_slice.ensures, c.as_str.ensures) in
    let before : c.end_object.new.self.before ≡ c.args.out.now.before =
    cc (c.in_ok-begin_object.ensures.room.0, c.in_ok-count_member.ensures.appends.before, c.in_ok-list_member.ensures.appends.before, c.in_ok-text_member.ensures.before, c.end_object.ensures.room.0) in
    record {
      before = before;
      tokens = on_ok_weaker c.end_object.result (λ e. e ∙ ap (λ ts. ts ++ end_object ∷ []) steps ∙ object_tokens old members) c.end_object.ensures.ok;
    }

pub returns-clause-reads : goal.returns-clause-reads
returns-clause-reads c =
    let it = c.args.self.now in
    let list = subst (λ (xs : List (List ℕ)). IsReadable 1 (list_report string xs)) c.as_slice.ensures c.in_ok-list_member.ensures.reads in
    on_ok_weaker c.end_object.result (λ e. failed-reads it.copy (list_report string it.errors.items) it.path c.count_member.ensures.fits list) c.end_object.ensures.ok
