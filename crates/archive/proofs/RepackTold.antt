-- What a RepackInfo is answered, by what is told of its repack.
use Rattle.std.proofs.Common.{◌≡◌, ◌∙◌, ℕ, refl, sym, ap}
use Rattle.std.specs.Prelude.{Option, Some, None, option_map}
use Rattle.cta_site.specs.declared.site.Site.{Site}
use Rattle.cta_model.specs.declared.answers.Answer.TheVariants as answer
use Rattle.cta_model.specs.declared.answers.Refusal.TheVariants as refusal
use Rattle.cta_model.specs.declared.reports.RepackInfo.{RepackInfo}
use Rattle.cta_model.specs.Bare.{bare_answer, bare_rows}
use Rattle.cta_model.specs.History.{History}
use Rattle.cta_model.specs.Looks.{repack_info_by}
use Rattle.cta_model.specs.Reports.{repack_report}
use Rattle.cta_model.specs.Repacks.{Repack}

inner : (x y : RepackInfo) → Some x ≡ Some y → x ≡ y
inner x y e = cc

bare : Option RepackInfo → Option RepackInfo
bare told = option_map (λ (info : RepackInfo). record info { items = bare_rows info.items }) told

report_there : (site : Site) (h : History) (id : ℕ) (o : Option Repack) (info : RepackInfo) → bare (Some info) ≡ option_map (repack_report site h id) o → bare_answer (answer.RepackSeen info) ≡ repack_info_by site h id o
unfolding bare
report_there site h id None info is = absurd (cc)
report_there site h id (Some r) info is = ap answer.RepackSeen (inner _ _ is)

report_missing : (site : Site) (h : History) (id : ℕ) (o : Option Repack) → None ≡ option_map (repack_report site h id) o → answer.Refused refusal.NoRepack ≡ repack_info_by site h id o
report_missing site h id None is = refl
report_missing site h id (Some r) is = absurd (cc)

-- what a RepackInfo of a repack that there is is answered
pub info_there : (site : Site) (h : History) (id : ℕ) (o : Option Repack) (told : Option RepackInfo) (info : RepackInfo) → told ≡ Some info → option_map (λ (i : RepackInfo). record i { items = bare_rows i.items }) told ≡ option_map (repack_report site h id) o
    → bare_answer (answer.RepackSeen info) ≡ repack_info_by site h id o
unfolding bare
info_there site h id o told info found is = report_there site h id o info (sym (ap bare found) ∙ is)

-- and of one that there is not
pub info_missing : (site : Site) (h : History) (id : ℕ) (o : Option Repack) (told : Option RepackInfo) → told ≡ None → option_map (λ (i : RepackInfo). record i { items = bare_rows i.items }) told ≡ option_map (repack_report site h id) o
    → answer.Refused refusal.NoRepack ≡ repack_info_by site h id o
unfolding bare
info_missing site h id o told none is = report_missing site h id o (sym (ap bare none) ∙ is)
