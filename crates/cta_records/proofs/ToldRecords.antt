-- What is kept is told by its record, but for the room in its lists.
use Rattle.std.proofs.Common.{◌≡◌, ◌∙◌, ◌++◌, ◌==◌, if◌then◌else◌, Bool, true, false, List, [], ◌∷◌, ℕ, length, Option, map, refl, ap, sym, Bor}
use Rattle.std.specs.Prelude.{Err}
use Rattle.std.proofs.lemmas.Bool.{false≢true}
use Rattle.std.specs.Arc.{arc_value}
use Rattle.record_fields.specs.Fields.{TookUpTo}
use Rattle.record_fields.specs.Lists.{option_before}
use Rattle.record_fields.specs.declared.field.TakeError.{TakeError}
use Rattle.record_fields.specs.declared.field.TakeError.TheVariants as error
use Rattle.record_fields.proofs.ToldNumbers.{told_byte, told_number, number_told, told_long, long_told, told_front, front_told}
use Rattle.record_fields.proofs.ToldLists.{told_option, plain_option_told}
use Rattle.record_fields.proofs.ToldValues.{told_who, who_told}
use Rattle.cta_model.specs.Bare.{bare_entry}
use Rattle.cta_model.specs.declared.entries.Actor.{Actor}
use Rattle.cta_model.specs.declared.entries.Actor.TheVariants as actor
use Rattle.cta_model.specs.declared.entries.Entry.{Entry}
use Rattle.cta_records.specs.Asks.{ask_before}
use Rattle.cta_records.specs.Answers.{answer_before}
use Rattle.cta_records.specs.Records.{actor_before, ActorFits, entry_before, EntryFits, content, ContentFits, content_before, BlobFits, kept_before, PartsFit, body_of, record_of, KeptFits}
use Rattle.cta_records.specs.Laws.{plain_kept, records_of, IsOneRecord, AreToldApart}
use Rattle.cta_records.specs.declared.kept.Kept.{Kept}
use Rattle.cta_records.proofs.ToldAsks.{told_ask, ask_told}
use Rattle.cta_records.proofs.ToldAnswers.{told_answer, answer_told}

actor_drive : List ℕ → Actor × List ℕ
actor_drive bytes =
    let drive_at = told_number bytes in
    (actor.Drive drive_at.0, drive_at.1)

actor_caller : List ℕ → Actor × List ℕ
actor_caller bytes =
    let who_at = told_who bytes in
    (actor.Caller who_at.0, who_at.1)

told_actor : List ℕ → Actor × List ℕ
told_actor bytes = if (told_byte bytes).0 == 0 then actor_drive (told_byte bytes).1 else actor_caller (told_byte bytes).1

actor_told : (v : Actor) (rest : List ℕ) → ActorFits v → told_actor (actor_before v rest) ≡ (v, rest)
unfolding told_actor actor_drive actor_caller
actor_told (actor.Drive drive) rest fit = rw (number_told drive rest fit) refl
actor_told (actor.Caller who) rest fit = rw (who_told who rest fit) refl

told_entry : List ℕ → Entry × List ℕ
told_entry bytes =
    let at_at = told_long bytes in
    let actor_at = told_actor at_at.1 in
    let ask_at = told_ask actor_at.1 in
    let answer_at = told_answer ask_at.1 in
    (record { at = at_at.0; actor = actor_at.0; ask = ask_at.0; answer = answer_at.0 }, answer_at.1)

entry_told : (v : Entry) (rest : List ℕ) → EntryFits v → told_entry (entry_before v rest) ≡ (bare_entry v, rest)
unfolding told_entry
entry_told v rest fit =
    rw (long_told v.at (actor_before v.actor (ask_before v.ask (answer_before v.answer rest))) fit.0, actor_told v.actor (ask_before v.ask (answer_before v.answer rest)) fit.1, ask_told v.ask (answer_before v.answer rest) fit.2, answer_told v.answer rest fit.3) refl

-- bytes begin with one entry at most, but for the room in its lists
pub one_entry : (v w : Entry) (rest more bytes : List ℕ) → EntryFits v → EntryFits w → bytes ≡ entry_before v rest → bytes ≡ entry_before w more → bare_entry v ≡ bare_entry w
one_entry v w rest more bytes fit fits is same = ap (λ p. p.0) (sym (entry_told v rest fit) ∙ ap told_entry (sym is ∙ same) ∙ entry_told w more fits)

-- an entry whose bytes are there is taken, or memory runs out
pub never_bad : (e : TakeError) → e ≡ error.Bad → TookUpTo {V = Entry} {R = Bor (List ℕ)} (λ rest. rest.now) [] (Err e) → ⊥
never_bad error.NoMemory is took = absurd (cc)
never_bad error.Bad is took = took

pub told_content : List ℕ → List ℕ × List ℕ
told_content bytes = told_front (told_long bytes)

pub content_told : (v : List ℕ) (rest : List ℕ) → ContentFits v → told_content (content v rest) ≡ (v, rest)
unfolding told_content
content_told v rest fit = ap told_front (long_told (length v) (v ++ rest) fit) ∙ front_told v rest

told_kept : List ℕ → (Entry × Option (List ℕ)) × List ℕ
told_kept bytes =
    let entry_at = told_entry bytes in
    let blob_at = told_option told_content entry_at.1 in
    ((entry_at.0, blob_at.0), blob_at.1)

kept_told : (v : Kept) (rest : List ℕ) → PartsFit v → told_kept (kept_before v rest) ≡ (plain_kept v, rest)
unfolding told_kept
kept_told v rest fit =
    rw (entry_told v.entry (option_before content_before v.blob rest) fit.0, plain_option_told content_before BlobFits arc_value told_content (λ b r f. content_told (arc_value b) r f) v.blob rest fit.1) refl

told_record : List ℕ → (Entry × Option (List ℕ)) × List ℕ
told_record bytes = ((told_kept (told_front (told_long bytes)).0).0, (told_front (told_long bytes)).1)

record_told : (v : Kept) (rest : List ℕ) → KeptFits v → told_record (record_of v ++ rest) ≡ (plain_kept v, rest)
unfolding told_record
record_told v rest fit =
    ap (λ p. ((told_kept (told_front p).0).0, (told_front p).1)) (long_told (length (body_of v)) (body_of v ++ rest) fit.1)
    ∙ ap (λ p. ((told_kept p.0).0, p.1)) (front_told (body_of v) rest)
    ∙ ap (λ p. (p.0, rest)) (kept_told v [] fit.0)

pub one_record : IsOneRecord
one_record k j rest more fit fits bytes =
    let same = sym (record_told k rest fit) ∙ ap told_record bytes ∙ record_told j more fits in
    (ap (λ p. p.0) same, ap (λ p. p.1) same)

is_empty : List ℕ → Bool
is_empty [] = true
is_empty (n ∷ ns) = false

pub told_apart : AreToldApart
unfolding is_empty
told_apart [] [] all fit bytes = refl
told_apart [] (j ∷ js) all fit bytes = absurd (false≢true (sym (ap is_empty bytes)))
told_apart (k ∷ ks) [] all fit bytes = absurd (false≢true (ap is_empty bytes))
told_apart (k ∷ ks) (j ∷ js) all fit bytes =
    let one = one_record k j (records_of ks) (records_of js) all.0 fit.0 bytes in
    ap (λ x. x ∷ map plain_kept ks) one.0 ∙ ap (λ xs. plain_kept j ∷ xs) (told_apart ks js all.1 fit.1 one.1)
