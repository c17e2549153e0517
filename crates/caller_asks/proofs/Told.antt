-- What the bodies of the calls learn, told over plain variables.
use Rattle.std.proofs.Common.{◌≡◌, ◌∙◌, ℕ, List, ◌∷◌, sym, ap, subst}
use Rattle.std.specs.Prelude.{Some}
use Rattle.std.specs.List.{AllByRecursion}
use Rattle.cta_site.specs.declared.site.Site.{Site}
use Rattle.cta_site.specs.Lookups.{copies_of}
use Rattle.cta_model.specs.declared.asks.Ask.TheVariants as ask
use Rattle.cta_model.specs.declared.asks.Job.{Job}
use Rattle.cta_model.specs.declared.asks.Who.{Who}
use Rattle.cta_model.specs.declared.answers.Answer.TheVariants as answer
use Rattle.cta_model.specs.declared.entries.Actor.TheVariants as actor
use Rattle.cta_model.specs.Files.{live_file}
use Rattle.cta_model.specs.History.{History, moment_of}
use Rattle.part_model.specs.Names.{Names, file_in}
use Rattle.part_model.specs.Queues.{Lines}
use Rattle.part_model.specs.Tapes.{Table}
use Rattle.part_laws.specs.Names.{AreNames}
use Rattle.caller_asks.specs.Jobs.{StandsWhere}
use Rattle.caller_asks.proofs.DeleteCalls.{delete_entry}

pub copies_told : (site s : Site) (path bytes : List ℕ) (n : ℕ) → n ≡ copies_of s bytes → s ≡ site → bytes ≡ path → n ≡ copies_of site path
copies_told site s path bytes n is same_site same_path = is ∙ ap (λ (x : Site). copies_of x bytes) same_site ∙ ap (copies_of site) same_path

pub named_live : (h : History) (names : Names) (path bytes : List ℕ) (f : ℕ) → AreNames h names → Some f ≡ file_in names bytes → bytes ≡ path → live_file h path ≡ Some f
named_live h names path bytes f are found same = sym (found ∙ ap (file_in names) same ∙ are path)

pub stand_told : (site s : Site) (h k : History) (v : Table) (n : ℕ) (pools tapes : Lines) (jobs listed : List Job) → s ≡ site → k ≡ h → listed ≡ jobs → AllByRecursion (StandsWhere site h v n pools tapes) jobs
    → AllByRecursion (StandsWhere s k v n pools tapes) listed
stand_told site s h k v n pools tapes jobs listed same_site same_history same_jobs all =
    subst (λ (x : Site). AllByRecursion (StandsWhere x k v n pools tapes) listed) (sym same_site)
    (subst (λ (x : History). AllByRecursion (StandsWhere site x v n pools tapes) listed) (sym same_history)
    (subst (AllByRecursion (StandsWhere site h v n pools tapes)) (sym same_jobs) all))

pub delete_history : (h k now : History) (t m : ℕ) (who caller : Who) (path : List ℕ) → now ≡ record { at = m; actor = actor.Caller caller; ask = ask.Delete who path; answer = answer.Done } ∷ k → m ≡ moment_of h t → caller ≡ who → k ≡ h
    → now ≡ delete_entry h t who path ∷ h
delete_history h k now t m who caller path pushed moment same_who same = pushed ∙ (λ i. record { at = moment i; actor = actor.Caller (same_who i); ask = ask.Delete who path; answer = answer.Done } ∷ same i)
