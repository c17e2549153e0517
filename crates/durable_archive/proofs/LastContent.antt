-- The content of the last entry's file is in the buffer.
use Rattle.std.proofs.Common.{◌≡◌, ◌∙◌, ◌⊎◌, inl, inr, ℕ, ◌+◌, ◌-◌, ◌<◌, ◌≤◌, List, [], ◌∷◌, true, refl, sym, ap, arith, length, take, get_or}
use Rattle.std.specs.Prelude.{Option, Some, None, option_map, map, slice_get}
use Rattle.std.specs.declared.alloc.Global.{Global}
use Rattle.std.specs.declared.sync.Arc.{Arc}
use Rattle.std.proofs.lemmas.List.{length-map, length-reverse, take_all}
use Rattle.std.proofs.lemmas.Option.{get_or_from_slice_get, none-some, slice_get_cases, slice_get_within}
use Rattle.std.proofs.lemmas.Bool.{eq-eqb}
use Rattle.blob.specs.declared.blobs.Blob.{Blob}
use Rattle.blob.specs.declared.sum.Sum256.{Sum256}
use Rattle.cta_site.specs.declared.site.Site.{Site}
use Rattle.cta_model.specs.declared.answers.Answer.{Answer}
use Rattle.cta_model.specs.declared.answers.Answer.TheVariants as answer
use Rattle.cta_model.specs.declared.asks.Ask.{Ask}
use Rattle.cta_model.specs.declared.asks.Ask.TheVariants as ask
use Rattle.cta_model.specs.declared.asks.Fate.TheVariants as fate
use Rattle.cta_model.specs.declared.asks.Job.{Job}
use Rattle.cta_model.specs.declared.asks.Who.{Who}
use Rattle.cta_model.specs.declared.entries.Entry.{Entry}
use Rattle.cta_model.specs.Answers.{answer_of}
use Rattle.cta_model.specs.Bare.{bare_answer, bare_ask, bare_entry}
use Rattle.cta_model.specs.Buffer.{brings_in, evicts, is_resident, last_arrival}
use Rattle.cta_model.specs.Files.{is_live, live_after, live_file, sum_in, sum_of}
use Rattle.cta_model.specs.Hands.{sum_of_blob}
use Rattle.cta_model.specs.History.{History}
use Rattle.cta_model.specs.Newest.{history_in}
use Rattle.cta_model.proofs.Newest.{history_in-read}
use Rattle.cta_model.specs.Jobs.{is_live_job}
use Rattle.cta_model.specs.Legal.{IsLegal}
use Rattle.cta_records.specs.declared.kept.Kept.{Kept}
use Rattle.cta_laws.specs.Changes.{may_change_files}
use Rattle.cta_laws.proofs.FileFrames.{sum_older}
use Rattle.cta_laws.proofs.Frames.{is_live_same}
use Rattle.cta_laws.proofs.JobFiles.{arrived_live, job_file_live, named_live, older_live}
use Rattle.cta_laws.proofs.LostLaw.{resident_by}
use Rattle.cta_laws.proofs.Paths.{bytes_self}
use Rattle.cta_laws.proofs.ResidentLaw.{arrives}
use Rattle.part_laws.specs.Contents.{content_of}
use Rattle.archive_restore.specs.Contents.{content_sum}
use Rattle.durable_archive.specs.Last.{LastHas, RecalledHas}
use Rattle.durable_archive.specs.Records.{IsLastKept, IsRecordOf}

-- a file that the last entry brings in and leaves live is in the buffer
brought : (e : Entry) (h : History) (f : ℕ) → is_live (e ∷ h) f ≡ true → brings_in e.ask e.answer (length h + 1) f ≡ true → is_resident (e ∷ h) f ≡ true
brought e h f live brings = resident_by (e ∷ h) f live (arrives (brings_in e.ask e.answer (length h + 1) f) (evicts e.ask e.answer f) (length h + 1) (last_arrival h f) brings)

there : (h : History) (f : ℕ) → is_resident h f ≡ true → content_of h f ≡ Some (sum_of h f)
there h f is = rw is refl

newest : (e : Entry) (h : History) → sum_of (e ∷ h) (length h + 1) ≡ sum_in e.ask
newest e h = rw (eq-eqb (length h + 1) (length h + 1) refl) refl

-- the content of a Put
pub put_content : (e : Entry) (h : History) (who : Who) (path : List ℕ) (sum : Sum256) → e.ask ≡ ask.Put who path sum → content_of (e ∷ h) (length h + 1) ≡ Some sum
put_content e h who path sum ek =
    let named : live_file (e ∷ h) path ≡ Some (length h + 1) = ap (λ (k : Ask). live_after k (length h + 1) path (live_file h path)) ek ∙ rw (bytes_self path) refl in
    let brings : brings_in e.ask e.answer (length h + 1) (length h + 1) ≡ true = ap (λ (k : Ask). brings_in k e.answer (length h + 1) (length h + 1)) ek ∙ eq-eqb (length h + 1) (length h + 1) refl in
    there (e ∷ h) (length h + 1) (brought e h (length h + 1) (named_live (e ∷ h) path (length h + 1) named) brings)
    ∙ ap (λ (s : Sum256). Some s) (newest e h ∙ ap sum_in ek)

-- the content of a completed recall
pub recalled_content : (site : Site) (e : Entry) (h : History) (m : ℕ) (job : Job) → IsLegal site (e ∷ h) → e.ask ≡ ask.Recalled m job → e.answer ≡ answer.Arrived fate.Done
    → content_of (e ∷ h) job.file ≡ Some (sum_of h job.file)
recalled_content site e h m job legal ek ea =
    let told : answer.Arrived fate.Done ≡ answer_of site h e.at (ask.Recalled m job) = sym ea ∙ legal.1.answered ∙ ap (answer_of site h e.at) ek in
    let on : is_live_job site h job ≡ true = arrived_live (is_live_job site h job) _ told in
    let live : is_live h job.file ≡ true = job_file_live site h legal.0 job on in
    let low : job.file ≤ length h = older_live h job.file live in
    let brings : brings_in e.ask e.answer (length h + 1) job.file ≡ true =
    ap (λ (k : Ask). brings_in k e.answer (length h + 1) job.file) ek ∙ ap (λ (a : Answer). brings_in (ask.Recalled m job) a (length h + 1) job.file) ea ∙ eq-eqb job.file job.file refl in
    there (e ∷ h) job.file (brought e h job.file (is_live_same e h job.file low (ap may_change_files ek) ∙ live) brings)
    ∙ ap (λ (s : Sum256). Some s) (sum_older e h job.file low)

-- ---- the content that the record of the last entry has

recalled_by : (site : Site) (e : Entry) (h : History) (m : ℕ) (job : Job) (a : Answer) (blob : Option (Arc Blob Global)) → IsLegal site (e ∷ h) → e.ask ≡ ask.Recalled m job → e.answer ≡ bare_answer a → RecalledHas (e ∷ h) job.file a blob
    → option_map sum_of_blob blob ≡ content_sum h (ask.Recalled m job) (bare_answer a)
recalled_by site e h m job (answer.Arrived fate.Done) blob legal ek ea has = has ∙ recalled_content site e h m job legal ek ea
recalled_by site e h m job (answer.Arrived fate.Stale) blob legal ek ea has = ap (λ (o : Option (Arc Blob Global)). option_map sum_of_blob o) has
recalled_by site e h m job _ blob legal ek ea has = ap (λ (o : Option (Arc Blob Global)). option_map sum_of_blob o) has

has_by : (site : Site) (e : Entry) (h : History) (k : Ask) (a : Answer) (n : ℕ) (blob : Option (Arc Blob Global)) → IsLegal site (e ∷ h) → e.ask ≡ bare_ask k → e.answer ≡ bare_answer a → n ≡ length h + 1 → LastHas (e ∷ h) n k a blob
    → option_map sum_of_blob blob ≡ content_sum h (bare_ask k) (bare_answer a)
has_by site e h (ask.Put who path sum) a n blob legal ek ea number has = has ∙ ap (content_of (e ∷ h)) number ∙ put_content e h who path sum ek
has_by site e h (ask.Recalled m job) a n blob legal ek ea number has = recalled_by site e h m job a blob legal ek ea has
has_by site e h _ a n blob legal ek ea number has = ap (λ (o : Option (Arc Blob Global)). option_map sum_of_blob o) has

pub last_record : (site : Site) (e : Entry) (h : History) (entry copy : Entry) (n : ℕ) (blob : Option (Arc Blob Global)) → IsLegal site (e ∷ h) → bare_entry entry ≡ e → n ≡ length h + 1 → LastHas (e ∷ h) n entry.ask entry.answer blob
    → bare_entry copy ≡ bare_entry entry → IsRecordOf h e (record { entry = copy; blob = blob })
last_record site e h entry copy n blob legal is number has same = record {
  entry = same ∙ is;
  content = has_by site e h entry.ask entry.answer n blob legal (ap (λ (x : Entry). x.ask) (sym is)) (ap (λ (x : Entry). x.answer) (sym is)) number has ∙ ap (λ (x : Entry). content_sum h x.ask x.answer) is;
}

-- ---- the last of the entries that are kept oldest first

head_is : (a b : Entry) (g h : List Entry) → a ∷ g ≡ b ∷ h → a ≡ b
head_is a b g h same = cc

pub last_is : (xs : List Entry) (x e : Entry) (h : List Entry) → Some x ≡ slice_get xs (length xs - 1) → history_in xs ≡ e ∷ h → bare_entry x ≡ e
last_is xs x e h at is =
    let low : length xs - 1 < length xs = slice_get_within xs (length xs - 1) x (sym at) in
    let read : get_or xs (length xs - 1) x ≡ x = get_or_from_slice_get xs (length xs - 1) x x (sym at) in
    let whole : take ((length xs - 1) + 1) xs ≡ xs = take_all _ xs (omega (arith, low)) in
    let front : history_in (take ((length xs - 1) + 1) xs) ≡ bare_entry x ∷ history_in (take (length xs - 1) xs) = history_in-read xs (length xs - 1) x low (sym read) in
    head_is (bare_entry x) e (history_in (take (length xs - 1) xs)) h (sym front ∙ (ap history_in whole ∙ is))

pub history_length : (xs : List Entry) → length (history_in xs) ≡ length xs
unfolding history_in
history_length xs = length-reverse (map bare_entry xs) ∙ length-map xs bare_entry

pub last_number : (xs : List Entry) (e : Entry) (h : History) → history_in xs ≡ e ∷ h → length xs ≡ length h + 1
last_number xs e h is = omega (arith, history_length xs, ap length is)

pub last_of : (g : History) (xs : List Entry) (x : Entry) (kept : Kept) → Some x ≡ slice_get xs (length xs - 1) → history_in xs ≡ g → ((e : Entry) (h : History) → g ≡ e ∷ h → IsRecordOf h e kept) → IsLastKept g (Some kept)
last_of [] xs x kept at is of =
    absurd (let low : length xs - 1 < length xs = slice_get_within xs (length xs - 1) x (sym at) in omega (arith, low, history_length xs, ap length is))
last_of (e ∷ h) xs x kept at is of = of e h refl

pub none_last : (g : History) (xs : List Entry) → None ≡ slice_get xs (length xs - 1) → history_in xs ≡ g → IsLastKept g None
none_last [] xs at is = refl
none_last (e ∷ h) xs at is = by (slice_get_cases xs (length xs - 1)).1
  where
    long : length xs ≡ length h + 1
    long = last_number xs e h is

    by : ((x : Entry) × (length xs - 1 < length xs) × (slice_get xs (length xs - 1) ≡ Some x) × (get_or xs (length xs - 1) x ≡ x)) ⊎ ((length xs ≤ length xs - 1) × (slice_get xs (length xs - 1) ≡ None)) → IsLastKept (e ∷ h) None
    by (inl here) = absurd (none-some here.0 (at ∙ here.2))
    by (inr past) = absurd (omega (arith, long, past.0))
