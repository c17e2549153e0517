use Rattle.std.proofs.Common.{◌≡◌, ◌∙◌, ap, List, ℕ, [], ◌∷◌, ◌++◌, Option, Some, codes}
use Rattle.std.proofs.lemmas.Result.{on_ok_weaker}
use Rattle.json.specs.Token.{begin_object, end_object}
use Rattle.serde_json.specs.Data.{Data, string}
use Rattle.tape_json.specs.Reports.{count, tape_state_name}
use Rattle.tape_json.proofs.Objects.{after, object_tokens, tape-reads}
use Rattle.tape_json.proofs.tapes.TapeInfoReported.write.Goals as goal

pub returns-clause-appends : goal.returns-clause-appends
returns-clause-appends c =
    let it = c.args.self.now in
    let old = c.args.out.now.tokens in
    let members : List (List ℕ × Option Data) = (codes "files", Some (count it.files)) ∷ (codes "nextFseq", Some (count it.next_fseq)) ∷ (codes "state", Some (string (tape_state_name it.state))) ∷ (codes "used", Some (count it.used)) ∷ (codes "vid", Some (string it.vid)) ∷ [] in
    let steps : c.text_member-2.new.out.tokens ≡ after (old ++ begin_object ∷ []) members =
    cc (c.in_ok-begin_object.ensures.ok, c.in_ok-count_member.ensures.appends.tokens, c.in_ok-count_member-2.ensures.appends.tokens, c.in_ok-text_member.ensures.tokens, c.in_ok-count_member-3.ensures.appends.tokens, c.in_ok-text_member-2.ensures.tokens, c.as_str.ensures, c.tape_state_name.ensures) in
    let before : c.end_object.new.self.before ≡ c.args.out.now.before =
    cc (c.in_ok-begin_object.ensures.room.0, c.in_ok-count_member.ensures.appends.before, c.in_ok-count_member-2.ensures.appends.before, c.in_ok-text_member.ensures.before, c.in_ok-count_member-3.ensures.appends.before, c.in_ok-text_member-2.ensures.before, c.end_object.ensures.room.0) in
    record {
      before = before;
      tokens = on_ok_weaker c.end_object.result (λ e. e ∙ ap (λ ts. ts ++ end_object ∷ []) steps ∙ object_tokens old members) c.end_object.ensures.ok;
    }

pub returns-clause-reads : goal.returns-clause-reads
returns-clause-reads c =
    let it = c.args.self.now in
    on_ok_weaker c.end_object.result (λ e. tape-reads it.files it.next_fseq it.used (tape_state_name it.state) it.vid c.count_member.ensures.fits c.count_member-2.ensures.fits c.count_member-3.ensures.fits) c.end_object.ensures.ok
