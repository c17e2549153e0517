-- Records with the same bytes tell the same history.
use Rattle.std.proofs.Common.{◌≡◌, ◌∙◌, ℕ, List, [], ◌∷◌, ◌++◌, refl, sym, ap, subst, length}
use Rattle.std.specs.Prelude.{Option, Some, None, map, option_map, reverse}
use Rattle.std.specs.Arc.{arc_value}
use Rattle.std.specs.List.{AllByRecursion}
use Rattle.std.proofs.lemmas.List.{map-append, reverse-append}
use Rattle.std.specs.declared.alloc.Global.{Global}
use Rattle.std.specs.declared.sync.Arc.{Arc}
use Rattle.blob.specs.declared.blobs.Blob.{Blob}
use Rattle.blob.specs.Sums.{sum_of}
use Rattle.cta_site.specs.declared.site.Site.{Site}
use Rattle.cta_model.specs.declared.entries.Entry.{Entry}
use Rattle.cta_model.specs.Bare.{bare_entry}
use Rattle.cta_model.specs.Hands.{sum_of_blob}
use Rattle.cta_model.specs.History.{History}
use Rattle.cta_model.specs.Legal.{IsNext}
use Rattle.record_fields.specs.Numbers.{long_number}
use Rattle.cta_records.specs.declared.kept.Kept.{Kept}
use Rattle.cta_records.specs.Laws.{IsOneRecord, plain_kept}
use Rattle.cta_records.specs.Records.{KeptFits, body_of}
use Rattle.archive_restore.specs.Contents.{content_sum}
use Rattle.archive_restore.specs.Logs.{AreRight, IsRightLog, MayFollow, entries_of, history_of_log}
use Rattle.durable_archive.proofs.Growing.{content_bare}

abbrev pub Alike : List Kept → List Kept → Type 0
Alike ks js = map plain_kept ks ≡ map plain_kept js

-- ---- by their bodies

heads : {A : Type 0} (a b : A) (xs ys : List A) → a ∷ xs ≡ b ∷ ys → a ≡ b
heads a b xs ys e = cc

tails : {A : Type 0} (a b : A) (xs ys : List A) → a ∷ xs ≡ b ∷ ys → xs ≡ ys
tails a b xs ys e = cc

alike_body : IsOneRecord → (k j : Kept) → KeptFits k → KeptFits j → body_of k ≡ body_of j → plain_kept k ≡ plain_kept j
alike_body law k j fit fits same = (law k j [] [] fit fits (ap (λ (l : List ℕ). long_number (length l) l ++ []) same)).0

pub alike : IsOneRecord → (ks js : List Kept) → AllByRecursion KeptFits ks → AllByRecursion KeptFits js → map body_of ks ≡ map body_of js → Alike ks js
alike law [] [] fit fits same = refl
alike law [] (j ∷ js) fit fits same = absurd (let no : [] ≡ body_of j ∷ map body_of js = same in cc)
alike law (k ∷ ks) [] fit fits same = absurd (let no : body_of k ∷ map body_of ks ≡ [] = same in cc)
alike law (k ∷ ks) (j ∷ js) fit fits same =
    (λ i. alike_body law k j fit.0 fits.0 (heads (body_of k) (body_of j) (map body_of ks) (map body_of js) same) i
    ∷ alike law ks js fit.1 fits.1 (tails (body_of k) (body_of j) (map body_of ks) (map body_of js) same) i)

-- ---- they tell the same

map_reverse : {A B : Type 0} (f : A → B) (xs : List A) → map f (reverse xs) ≡ reverse (map f xs)
map_reverse f [] = refl
map_reverse f (x ∷ xs) =
    ap (λ l. map f l) (reverse-append (x ∷ []) xs) ∙ map-append f (reverse xs) (x ∷ []) ∙ ap (λ l. l ++ f x ∷ []) (map_reverse f xs) ∙ sym (reverse-append (f x ∷ []) (map f xs))

turned : (ks js : List Kept) → Alike ks js → Alike (reverse ks) (reverse js)
turned ks js same = map_reverse plain_kept ks ∙ ap (λ l. reverse l) same ∙ sym (map_reverse plain_kept js)

same_entry : (k j : Kept) → plain_kept k ≡ plain_kept j → bare_entry k.entry ≡ bare_entry j.entry
same_entry k j same = ap (λ p. p.0) same

same_sum : (k j : Kept) → plain_kept k ≡ plain_kept j → option_map sum_of_blob k.blob ≡ option_map sum_of_blob j.blob
same_sum k j same = sum_by k.blob ∙ ap (λ p. option_map sum_of p.1) same ∙ sym (sum_by j.blob)
  where
    sum_by : (o : Option (Arc Blob Global)) → option_map sum_of_blob o ≡ option_map sum_of (option_map arc_value o)
    sum_by None = refl
    sum_by (Some b) = refl

same_content : (h : History) (k j : Kept) → plain_kept k ≡ plain_kept j → content_sum h k.entry.ask k.entry.answer ≡ content_sum h j.entry.ask j.entry.answer
same_content h k j same =
    sym (content_bare h k.entry.ask k.entry.answer) ∙ ap (λ (e : Entry). content_sum h e.ask e.answer) (same_entry k j same) ∙ content_bare h j.entry.ask j.entry.answer

pub same_entries : (ks js : List Kept) → Alike ks js → entries_of ks ≡ entries_of js
same_entries [] [] same = refl
same_entries [] (j ∷ js) same = absurd (let no : [] ≡ plain_kept j ∷ map plain_kept js = same in cc)
same_entries (k ∷ ks) [] same = absurd (let no : plain_kept k ∷ map plain_kept ks ≡ [] = same in cc)
same_entries (k ∷ ks) (j ∷ js) same =
    (λ i. same_entry k j (heads (plain_kept k) (plain_kept j) (map plain_kept ks) (map plain_kept js) same) i
    ∷ same_entries ks js (tails (plain_kept k) (plain_kept j) (map plain_kept ks) (map plain_kept js) same) i)

follows_too : (site : Site) (h g : History) (k j : Kept) → h ≡ g → plain_kept k ≡ plain_kept j → MayFollow site h k → MayFollow site g j
follows_too site h g k j is same follows =
    subst (λ (l : History). MayFollow site l j) is
    (record {
      next = subst (IsNext site h) (same_entry k j same) follows.next;
      content = sym (same_sum k j same) ∙ follows.content ∙ same_content h k j same;
    })

are_right : (site : Site) (ks js : List Kept) → Alike ks js → AreRight site ks → AreRight site js
are_right site [] [] same right = tt
are_right site [] (j ∷ js) same right = absurd (let no : [] ≡ plain_kept j ∷ map plain_kept js = same in cc)
are_right site (k ∷ ks) [] same right = absurd (let no : plain_kept k ∷ map plain_kept ks ≡ [] = same in cc)
are_right site (k ∷ ks) (j ∷ js) same right =
    let front = heads (plain_kept k) (plain_kept j) (map plain_kept ks) (map plain_kept js) same in
    let rest = tails (plain_kept k) (plain_kept j) (map plain_kept ks) (map plain_kept js) same in
    (are_right site ks js rest right.0, follows_too site (entries_of ks) (entries_of js) k j (same_entries ks js rest) front right.1)

pub right_too : (site : Site) (ks js : List Kept) → Alike ks js → IsRightLog site ks → IsRightLog site js
right_too site ks js same right = are_right site (reverse ks) (reverse js) (turned ks js same) right

pub history_too : (ks js : List Kept) → Alike ks js → history_of_log ks ≡ history_of_log js
history_too ks js same = same_entries (reverse ks) (reverse js) (turned ks js same)
