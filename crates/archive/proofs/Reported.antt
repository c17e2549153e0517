-- What a StageInfo is answered, by what is told of its request.
use Rattle.std.proofs.Common.{◌≡◌, ◌∙◌, ℕ, refl, sym, ap}
use Rattle.std.specs.Prelude.{Option, Some, None, option_map}
use Rattle.cta_model.specs.declared.answers.Answer.TheVariants as answer
use Rattle.cta_model.specs.declared.answers.Refusal.TheVariants as refusal
use Rattle.cta_model.specs.declared.reports.StageInfo.{StageInfo}
use Rattle.cta_model.specs.Bare.{bare_answer, bare_rows}
use Rattle.cta_model.specs.History.{History}
use Rattle.cta_model.specs.Looks.{stage_info_by}
use Rattle.cta_model.specs.Reports.{stage_report}
use Rattle.cta_model.specs.Stages.{StageRequest}

inner : (x y : StageInfo) → Some x ≡ Some y → x ≡ y
inner x y e = cc

bare : Option StageInfo → Option StageInfo
bare told = option_map (λ (info : StageInfo). record info { files = bare_rows info.files }) told

report_there : (h : History) (id : ℕ) (o : Option StageRequest) (info : StageInfo) → bare (Some info) ≡ option_map (stage_report h id) o → bare_answer (answer.Stage info) ≡ stage_info_by h id o
unfolding bare
report_there h id None info is = absurd (cc)
report_there h id (Some r) info is = ap answer.Stage (inner _ _ is)

report_missing : (h : History) (id : ℕ) (o : Option StageRequest) → None ≡ option_map (stage_report h id) o → answer.Refused refusal.NoRequest ≡ stage_info_by h id o
report_missing h id None is = refl
report_missing h id (Some r) is = absurd (cc)

-- what a StageInfo of a request that there is is answered
pub info_there : (h : History) (id : ℕ) (o : Option StageRequest) (told : Option StageInfo) (info : StageInfo) → told ≡ Some info → option_map (λ (i : StageInfo). record i { files = bare_rows i.files }) told ≡ option_map (stage_report h id) o
    → bare_answer (answer.Stage info) ≡ stage_info_by h id o
unfolding bare
info_there h id o told info found is = report_there h id o info (sym (ap bare found) ∙ is)

-- and of one that there is not
pub info_missing : (h : History) (id : ℕ) (o : Option StageRequest) (told : Option StageInfo) → told ≡ None → option_map (λ (i : StageInfo). record i { files = bare_rows i.files }) told ≡ option_map (stage_report h id) o
    → answer.Refused refusal.NoRequest ≡ stage_info_by h id o
unfolding bare
info_missing h id o told none is = report_missing h id o (sym (ap bare none) ∙ is)
