-- How one entry more moves the contents.
use Rattle.std.proofs.Common.{◌≡◌, ◌⊎◌, ℕ, zero, suc, ◌<◌, ◌≤◌, inl, inr, List, [], ◌∷◌, ◌++◌, true, false, refl, sym, ap, ◌∙◌, subst, arith, length, length-append}
use Rattle.std.specs.Prelude.{Option, Some, None, option_map, ◌==◌}
use Rattle.std.specs.Arc.{arc_value}
use Rattle.std.specs.declared.alloc.Global.{Global}
use Rattle.std.specs.declared.sync.Arc.{Arc}
use Rattle.std.proofs.lemmas.Bool.{cases_lt, eqb-true, eq-eqb}
use Rattle.std.proofs.lemmas.List.{get_or_past, get_or_append_left}
use Rattle.std.proofs.Math.Nat.{eq-or-lt_of_le}
use Rattle.std.proofs.Math.Seq.{get_or-append_seam}
use Rattle.blob.specs.declared.blobs.Blob.{Blob}
use Rattle.blob.specs.declared.sum.Sum256.{Sum256}
use Rattle.blob.specs.Sums.{sum_of}
use Rattle.cta_model.specs.declared.answers.Answer.{Answer}
use Rattle.cta_model.specs.declared.asks.Ask.{Ask}
use Rattle.cta_model.specs.declared.asks.Ask.TheVariants as ask
use Rattle.cta_model.specs.declared.entries.Entry.{Entry}
use Rattle.cta_model.specs.Bare.{bare_entry}
use Rattle.cta_model.specs.Hands.{sum_of_blob}
use Rattle.cta_model.specs.History.{History, entry_of, next_number}
use Rattle.cta_laws.proofs.Tests.{bool_cases}
use Rattle.archive_restore.specs.Contents.{AreContents, IsPutContent, content_at, content_sum, put_sum, put_sum_by}
use Rattle.archive_restore.proofs.Bares.{put_bare}

abbrev Contents : Type 0
Contents = List (Option (Arc Blob Global))

higher : (f n : ℕ) → (f == n) ≡ false → n ≤ f → n < f
higher f n miss le = elim (eq-or-lt_of_le le) [ inl same ↦ (let yes : (f == n) ≡ true = eq-eqb f n (sym same) in absurd (cc)) | inr less ↦ less ]

beyond : (contents : Contents) (content : Option (Arc Blob Global)) (f : ℕ) → (f == length contents) ≡ false → content_at (contents ++ content ∷ []) f ≡ content_at contents f
beyond contents content f miss =
    elim (cases_lt f (length contents)) [
      | inl low ↦ get_or_append_left contents (content ∷ []) None f low
      | inr high ↦
          (let above : length contents < f = higher f (length contents) miss high in
          get_or_past (contents ++ content ∷ []) f None (omega (arith, length-append contents (content ∷ []), above)) ∙ sym (get_or_past contents f None high))
    ]

-- contents of the same bytes have the same sum
sums : (a b : Option (Arc Blob Global)) → option_map arc_value a ≡ option_map arc_value b → option_map sum_of_blob a ≡ option_map sum_of_blob b
sums None None is = refl
sums None (Some b) is = absurd (cc)
sums (Some a) None is = absurd (cc)
sums (Some a) (Some b) is = let same : arc_value a ≡ arc_value b = cc in ap (λ (v : List ℕ). Some (sum_of v)) same

pub sum_kept : (k : Ask) (blob kept : Option (Arc Blob Global)) → IsPutContent k blob kept → ((s : Sum256) → put_sum k ≡ Some s → option_map sum_of_blob blob ≡ Some s) → option_map sum_of_blob kept ≡ put_sum k
sum_kept (ask.Put who path sum) blob kept is has = sums kept blob is ∙ has sum refl
sum_kept _ blob kept is has = ap (λ (o : Option (Arc Blob Global)). option_map sum_of_blob o) is

pub contents_next : (e : Entry) (h : History) (contents : Contents) (kept : Option (Arc Blob Global)) → AreContents h contents → option_map sum_of_blob kept ≡ put_sum e.ask → AreContents (e ∷ h) (contents ++ kept ∷ [])
contents_next e h contents kept are is =
    record {
      count = omega (arith, length-append contents (kept ∷ []), are.count);
      each = λ f. by f (bool_cases (f == length contents));
    }
  where
    by : (f : ℕ) → ((f == length contents) ≡ true) ⊎ ((f == length contents) ≡ false) → option_map sum_of_blob (content_at (contents ++ kept ∷ []) f) ≡ put_sum_by (entry_of (e ∷ h) f)
    by f (inl hit) =
        let same : f ≡ length contents = eqb-true f (length contents) hit in
        let next : (f == next_number h) ≡ true = eq-eqb f (next_number h) (same ∙ are.count) in
        let at : content_at (contents ++ kept ∷ []) f ≡ kept = ap (λ (n : ℕ). content_at (contents ++ kept ∷ []) n) same ∙ get_or-append_seam contents kept [] None in
        rw next (ap (λ (o : Option (Arc Blob Global)). option_map sum_of_blob o) at ∙ is)
    by f (inr miss) =
        let other : (f == next_number h) ≡ false = subst (λ (n : ℕ). (f == n) ≡ false) are.count miss in
        rw other (ap (λ (o : Option (Arc Blob Global)). option_map sum_of_blob o) (beyond contents kept f miss) ∙ are.each f)

put_has : (h : History) (k : Ask) (a : Answer) (blob : Option (Arc Blob Global)) → option_map sum_of_blob blob ≡ content_sum h k a → (s : Sum256) → put_sum k ≡ Some s → option_map sum_of_blob blob ≡ Some s
put_has h (ask.Put who path sum) a blob is s p = is ∙ p
put_has h _ a blob is s p = absurd (cc)

-- the contents behind one record more
pub contents_follow : (e : Entry) (h : History) (contents : Contents) (blob kept : Option (Arc Blob Global)) → AreContents h contents → IsPutContent e.ask blob kept → option_map sum_of_blob blob ≡ content_sum h e.ask e.answer
    → AreContents (bare_entry e ∷ h) (contents ++ kept ∷ [])
contents_follow e h contents blob kept are is has = contents_next (bare_entry e) h contents kept are (sum_kept e.ask blob kept is (put_has h e.ask e.answer blob has) ∙ sym (put_bare e.ask))

pub no_contents : AreContents [] (None ∷ [])
no_contents = record { count = omega arith; each = by }
  where
    by : (f : ℕ) → option_map sum_of_blob (content_at (None ∷ []) f) ≡ put_sum_by (entry_of [] f)
    by zero = refl
    by (suc f) = refl
