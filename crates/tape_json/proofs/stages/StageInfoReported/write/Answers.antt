use Rattle.cta_model.specs.declared.reports.StageFileInfo.{StageFileInfo}
use Rattle.std.proofs.Common.{◌≡◌, ◌∙◌, ap, subst, List, ℕ, [], ◌∷◌, ◌++◌, Option, Some, codes, option_map}
use Rattle.std.proofs.lemmas.Result.{on_ok_weaker}
use Rattle.json.specs.Token.{begin_object, end_object}
use Rattle.serde_json.specs.Data.{Data, string}
use Rattle.tape_json.specs.Reports.{count, id_text, list_report, file_report}
use Rattle.tape_json.specs.Shown.{IsReadable}
use Rattle.tape_json.proofs.Objects.{after, object_tokens, stage-reads}
use Rattle.tape_json.proofs.stages.StageInfoReported.write.Goals as goal

pub returns-clause-appends : goal.returns-clause-appends
returns-clause-appends c =
    let it = c.args.self.now in
    let old = c.args.out.now.tokens in
    let members : List (List ℕ × Option Data) = (codes "completedAt", option_map count it.completed_at) ∷ (codes "createdAt", Some (count it.created_at)) ∷ (codes "files", Some (list_report file_report it.files.items)) ∷ (codes "id", Some (string (id_text it.id))) ∷ (codes "startedAt", option_map count it.started_at) ∷ [] in
    let steps : c.count_member_if-2.new.out.tokens ≡ after (old ++ begin_object ∷ []) members =
    cc (c.in_ok-begin_object.ensures.ok, c.in_ok-count_member_if.ensures.appends.tokens, c.in_ok-count_member.ensures.appends.tokens, c.in_ok-list_member.ensures.appends.tokens, c.in_ok-id_member.ensures.tokens, c.in_ok-count_member_if-2.ensures.appends.tokens, c.as_slice.ensures) in
    let before : c.end_object.new.self.before ≡ c.args.out.now.before =
    cc (c.in_ok-begin_object.ensures.room.0, c.in_ok-count_member_if.ensures.appends.before, c.in_ok-count_member.ensures.appends.before, c.in_ok-list_member.ensures.appends.before, c.in_ok-id_member.ensures.before, c.in_ok-count_member_if-2.ensures.appends.before, c.end_object.ensures.room.0) in
    record {
      before = before;
      tokens = on_ok_weaker c.end_object.result (λ e. e ∙ ap (λ ts. ts ++ end_object ∷ []) steps ∙ object_tokens old members) c.end_object.ensures.ok;
    }

pub returns-clause-reads : goal.returns-clause-reads
returns-clause-reads c =
    let it = c.args.self.now in
    let list = subst (λ (xs : List StageFileInfo). IsReadable 2 (list_report file_report xs)) c.as_slice.ensures c.in_ok-list_member.ensures.reads in
    on_ok_weaker c.end_object.result (λ e. stage-reads it.completed_at it.started_at it.created_at (list_report file_report it.files.items) (id_text it.id) c.count_member_if.ensures.fits c.count_member_if-2.ensures.fits c.count_member.ensures.fits list) c.end_object.ensures.ok
