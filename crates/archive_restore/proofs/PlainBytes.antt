-- The bytes of a record don't tell of the room in its lists.
use Rattle.std.proofs.Common.{◌≡◌, ℕ, List, [], ◌∷◌, ◌++◌, Bool, true, refl, sym, ap, ◌∙◌, length}
use Rattle.std.specs.Prelude.{map, Option, Some, None, option_map}
use Rattle.std.specs.Arc.{arc_value}
use Rattle.std.specs.Bool.{Decides}
use Rattle.std.specs.declared.alloc.Global.{Global}
use Rattle.std.specs.declared.sync.Arc.{Arc}
use Rattle.std.proofs.lemmas.List.{length-map}
use Rattle.record_fields.specs.Lists.{each_before, list_before, option_before}
use Rattle.record_fields.specs.Numbers.{long_number, number}
use Rattle.record_fields.specs.Reports.{failed_copy_before}
use Rattle.cta_model.specs.Bare.{bare_answer, bare_ask, bare_copy, bare_entry}
use Rattle.cta_model.specs.declared.answers.Answer.{Answer}
use Rattle.cta_model.specs.declared.answers.Answer.TheVariants as answer
use Rattle.cta_model.specs.declared.asks.Ask.{Ask}
use Rattle.cta_model.specs.declared.asks.Ask.TheVariants as ask
use Rattle.cta_model.specs.declared.entries.Entry.{Entry}
use Rattle.cta_model.specs.declared.reports.FailedCopy.{FailedCopy}
use Rattle.cta_records.specs.Answers.{answer_before}
use Rattle.cta_records.specs.Asks.{ask_before}
use Rattle.cta_records.specs.Laws.{IsOneRecord, plain_kept}
use Rattle.cta_records.specs.Records.{KeptFits, actor_before, body_of, content, content_before, entry_before, record_of}
use Rattle.cta_records.specs.declared.kept.Kept.{Kept}

bare_ask_bytes : (k : Ask) (rest : List ℕ) → ask_before (bare_ask k) rest ≡ ask_before k rest
bare_ask_bytes (ask.Stage who files) rest = refl
bare_ask_bytes (ask.Cancel who id paths) rest = refl
bare_ask_bytes (ask.Release who id paths) rest = refl
bare_ask_bytes (ask.Flushed m items) rest = refl
bare_ask_bytes (ask.Failed m fault charged returned) rest = refl
bare_ask_bytes (ask.Retry who paths) rest = refl
bare_ask_bytes _ rest = refl

copies_bytes : (copies : List FailedCopy) (rest : List ℕ) → each_before failed_copy_before (map bare_copy copies) rest ≡ each_before failed_copy_before copies rest
copies_bytes [] rest = refl
copies_bytes (c ∷ copies) rest = ap (λ (l : List ℕ). failed_copy_before c l) (copies_bytes copies rest)

bare_answer_bytes : (a : Answer) (rest : List ℕ) → answer_before (bare_answer a) rest ≡ answer_before a rest
bare_answer_bytes (answer.Stored evicted) rest = refl
bare_answer_bytes (answer.Batch items evicted) rest = refl
bare_answer_bytes (answer.Told fates) rest = refl
bare_answer_bytes (answer.Repacking id items) rest = refl
bare_answer_bytes (answer.Retried jobs) rest = refl
bare_answer_bytes (answer.Stage info) rest = refl
bare_answer_bytes (answer.Places infos) rest = refl
bare_answer_bytes (answer.RepackSeen info) rest = refl
bare_answer_bytes (answer.FailedSeen copies) rest =
    ap (λ (n : ℕ). 17 ∷ number n (each_before failed_copy_before (map bare_copy copies.items) rest)) (length-map copies.items bare_copy)
    ∙ ap (λ (l : List ℕ). 17 ∷ number (length copies.items) l) (copies_bytes copies.items rest)
bare_answer_bytes (answer.QueuesSeen infos) rest = refl
bare_answer_bytes _ rest = refl

entry_bytes : (e : Entry) (rest : List ℕ) → entry_before (bare_entry e) rest ≡ entry_before e rest
entry_bytes e rest =
    ap (λ (l : List ℕ). long_number e.at (actor_before e.actor l)) (bare_ask_bytes e.ask (answer_before (bare_answer e.answer) rest) ∙ ap (λ (l : List ℕ). ask_before e.ask l) (bare_answer_bytes e.answer rest))

content_bytes : (blob : Option (Arc (List ℕ) Global)) → option_before content (option_map arc_value blob) [] ≡ option_before content_before blob []
content_bytes None = refl
content_bytes (Some blob) = refl

-- the body of what is kept but for the room in its lists
abbrev plain_body : Entry × Option (List ℕ) → List ℕ
plain_body x = entry_before x.0 (option_before content x.1 [])

body_is : (kept : Kept) → plain_body (plain_kept kept) ≡ body_of kept
body_is kept = entry_bytes kept.entry (option_before content (option_map arc_value kept.blob) []) ∙ ap (λ (l : List ℕ). entry_before kept.entry l) (content_bytes kept.blob)

-- what is the same but for the room has the same record
pub same_record : (k j : Kept) → plain_kept k ≡ plain_kept j → record_of k ≡ record_of j
same_record k j same =
    let bodies : body_of k ≡ body_of j = sym (body_is k) ∙ (ap (λ (x : Entry × Option (List ℕ)). plain_body x) same ∙ body_is j) in
    ap (λ (body : List ℕ). long_number (length body) body) bodies

-- records tell whether the same is kept
pub tells_same : IsOneRecord → (k j : Kept) (b : Bool) → KeptFits k → KeptFits j → (b ≡ true → record_of k ≡ record_of j) → (record_of k ≡ record_of j → b ≡ true) → Decides b (plain_kept k ≡ plain_kept j)
tells_same one k j b fits_k fits_j to from = (λ yes. (one k j [] [] fits_k fits_j (ap (λ (l : List ℕ). l ++ []) (to yes))).0, λ same. from (same_record k j same))
