-- The records of a history with one entry more.
use Rattle.std.proofs.Common.{◌≡◌, ℕ, List, [], ◌∷◌, ◌++◌, refl, sym, ap, ◌∙◌, subst}
use Rattle.std.specs.Prelude.{map}
use Rattle.std.specs.List.{AllByRecursion}
use Rattle.cta_site.specs.declared.site.Site.{Site}
use Rattle.cta_model.specs.declared.answers.Answer.{Answer}
use Rattle.cta_model.specs.declared.answers.Answer.TheVariants as answer
use Rattle.cta_model.specs.declared.asks.Ask.{Ask}
use Rattle.cta_model.specs.declared.asks.Ask.TheVariants as ask
use Rattle.cta_model.specs.declared.entries.Entry.{Entry}
use Rattle.cta_model.specs.Bare.{bare_answer, bare_ask, bare_entry}
use Rattle.cta_model.specs.History.{History}
use Rattle.cta_model.specs.Legal.{IsLegal, IsNext}
use Rattle.cta_records.specs.declared.kept.Kept.{Kept}
use Rattle.cta_records.specs.Records.{KeptFits, body_of}
use Rattle.archive_restore.specs.Contents.{content_sum}
use Rattle.archive_restore.specs.Logs.{MayFollow, history_of_log}
use Rattle.archive_restore.proofs.Followed.{history_more, right_more}
use Rattle.durable_archive.specs.Records.{AreRecordsOf, IsRecordOf, TellsHistory}

answer_content : (h : History) (m : ℕ) (job : _) (a : Answer) → content_sum h (ask.Recalled m job) (bare_answer a) ≡ content_sum h (ask.Recalled m job) a
answer_content h m job (answer.Arrived fate) = refl
answer_content h m job _ = refl

pub content_bare : (h : History) (k : Ask) (a : Answer) → content_sum h (bare_ask k) (bare_answer a) ≡ content_sum h k a
content_bare h (ask.Recalled m job) a = answer_content h m job a
content_bare h (ask.Put who path sum) a = refl
content_bare h _ a = refl

all_more : (log : List Kept) (kept : Kept) → AllByRecursion KeptFits log → KeptFits kept → AllByRecursion KeptFits (log ++ kept ∷ [])
all_more [] kept all fits = (fits, tt)
all_more (k ∷ log) kept all fits = (all.0, all_more log kept all.1 fits)

bodies_more : (log : List Kept) (kept : Kept) → map body_of (log ++ kept ∷ []) ≡ map body_of log ++ body_of kept ∷ []
bodies_more [] kept = refl
bodies_more (k ∷ log) kept = ap (λ (l : List (List ℕ)). body_of k ∷ l) (bodies_more log kept)

may_follow : (site : Site) (h : History) (e : Entry) (kept : Kept) → IsNext site h e → IsRecordOf h e kept → MayFollow site h kept
may_follow site h e kept next is = record {
  next = subst (IsNext site h) (sym is.entry) next;
  content = is.content ∙ ap (λ (x : Entry). content_sum h x.ask x.answer) (sym is.entry) ∙ content_bare h kept.entry.ask kept.entry.answer;
}

pub next_records : (site : Site) (h : History) (e : Entry) (bodies : List (List ℕ)) (kept : Kept) → IsLegal site (e ∷ h) → AreRecordsOf site h bodies → IsRecordOf h e kept → KeptFits kept
    → AreRecordsOf site (e ∷ h) (bodies ++ body_of kept ∷ [])
next_records site h e bodies kept legal are is fits =
    let log : List Kept = are.0 in
    let tells : TellsHistory site h log = are.1 in
    let follows : MayFollow site (history_of_log log) kept = subst (λ (l : History). MayFollow site l kept) (sym tells.history) (may_follow site h e kept legal.1 is) in (
      log ++ kept ∷ [],
      record {
        right = right_more site log kept tells.right follows;
        history = history_more log kept ∙ ap (λ (l : History). bare_entry kept.entry ∷ l) tells.history ∙ ap (λ (x : Entry). x ∷ h) is.entry;
        fit = all_more log kept tells.fit fits;
      },
      bodies_more log kept ∙ ap (λ (l : List (List ℕ)). l ++ body_of kept ∷ []) are.2,
    )
