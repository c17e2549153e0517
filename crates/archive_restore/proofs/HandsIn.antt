-- The hands that go in with asks that are made once more.
use Rattle.std.proofs.Common.{◌≡◌, ◌∙◌, ℕ, List, true, false, refl, sym, ap, subst}
use Rattle.std.specs.Prelude.{Option, Some, None, option_map, is_some, IfSome, IsNone}
use Rattle.std.specs.declared.alloc.Global.{Global}
use Rattle.std.specs.declared.sync.Arc.{Arc}
use Rattle.blob.specs.declared.blobs.Blob.{Blob}
use Rattle.blob.specs.declared.sum.Sum256.{Sum256}
use Rattle.blob.specs.Sums as sums
use Rattle.blob.specs.Records.{MediumView}
use Rattle.cta_site.specs.declared.site.Site.{Site}
use Rattle.cta_model.specs.declared.answers.Answer.{Answer}
use Rattle.cta_model.specs.declared.answers.Answer.TheVariants as answer
use Rattle.cta_model.specs.declared.asks.Ask.{Ask}
use Rattle.cta_model.specs.declared.asks.Ask.TheVariants as ask
use Rattle.cta_model.specs.declared.asks.Fate.TheVariants as fate
use Rattle.cta_model.specs.declared.asks.Job.{Job}
use Rattle.cta_model.specs.declared.entries.Entry.{Entry}
use Rattle.cta_model.specs.declared.hands.Hand.{Hand}
use Rattle.cta_model.specs.declared.hands.Hand.TheVariants as hands
use Rattle.cta_model.specs.Files.{entry_sum, sum_in, sum_of}
use Rattle.cta_model.specs.Hands.{HandIn, IsOfFile, sum_of_blob}
use Rattle.cta_model.specs.History.{History, entry_of}
use Rattle.cta_model.specs.Legal.{IsLegal}
use Rattle.archive_restore.specs.Asked.{IsRecalledHand, IsRefused}
use Rattle.archive_restore.specs.Contents.{AreContents, content_at, content_sum, put_sum, put_sum_by}
use Rattle.archive_restore.proofs.Puts.{put_low}
use Rattle.archive_restore.proofs.Refused.{recalled_unput}

one_sum : (a b : Sum256) → Some a ≡ Some b → a ≡ b
one_sum a b same = cc

-- ---- a Put

pub put_in : {M : Type 0} (told : M → MediumView) (h : History) (who : _) (path : _) (sum : Sum256) (blob : Option (Arc Blob Global)) (found : Option (Hand M)) → found ≡ option_map (λ content. hands.Blob content) blob → option_map sum_of_blob blob ≡ Some sum
    → IfSome found (HandIn told h (ask.Put who path sum))
put_in told h who path sum None found is has = absurd (cc)
put_in told h who path sum (Some b) found is has = rw is (one_sum (sum_of_blob b) sum has)

pub put_some : {M : Type 0} (sum : Sum256) (blob : Option (Arc Blob Global)) (found : Option (Hand M)) → found ≡ option_map (λ content. hands.Blob content) blob → option_map sum_of_blob blob ≡ Some sum → IsNone found → ⊥
put_some sum None found is has none = absurd (cc)
put_some sum (Some b) found is has none = (let bad : true ≡ false = sym (ap is_some is) ∙ none in absurd (cc))

-- ---- a Recalled

-- a content of the file's sum
sum_told : (o : Option Entry) (s : Sum256) → put_sum_by o ≡ Some s → s ≡ entry_sum o
sum_told None s is = absurd (cc)
sum_told (Some e) s is = by e.ask is
  where
    by : (k : Ask) → put_sum k ≡ Some s → s ≡ sum_in k
    by (ask.Put who path sum) is = one_sum s sum (sym is)
    by _ is = absurd (cc)

first_is : (h : History) (contents : List (Option (Arc Blob Global))) (f : ℕ) (first : Arc Blob Global) → AreContents h contents → content_at contents f ≡ Some first → IsOfFile h f (sum_of_blob first)
first_is h contents f first are at =
    let told : put_sum_by (entry_of h f) ≡ Some (sum_of_blob first) = sym (are.each f) ∙ ap (option_map sum_of_blob) at in
    (put_low h f (sum_of_blob first) told, sum_told (entry_of h f) (sum_of_blob first) told)

to_hand : {M : Type 0} (told : M → MediumView) (h : History) (k : Ask) (found : Option (Hand M)) (b : Arc Blob Global) → found ≡ Some (hands.Blob b) → HandIn told h k (hands.Blob b) → IfSome found (HandIn told h k)
to_hand told h k found b is ok = subst (λ (o : Option (Hand _)). IfSome o (HandIn told h k)) (sym is) ok

own_is : (h : History) (m : ℕ) (j : Job) (own : Arc Blob Global) (a : Answer) → Some (sum_of_blob own) ≡ content_sum h (ask.Recalled m j) a → sum_of_blob own ≡ sum_of h j.file
own_is h m j own (answer.Arrived fate.Done) has = one_sum (sum_of_blob own) (sum_of h j.file) has
own_is h m j own _ has = absurd (cc)

pub recalled_in : {M : Type 0} (told : M → MediumView) (h : History) (m : ℕ) (j : Job) (a : Answer) (contents : List (Option (Arc Blob Global))) (blob : Option (Arc Blob Global)) (found : Option (Hand M)) → AreContents h contents
    → IsRecalledHand (content_at contents j.file) blob found → option_map sum_of_blob blob ≡ content_sum h (ask.Recalled m j) a → IfSome found (HandIn told h (ask.Recalled m j))
recalled_in told h m j a contents blob found are row has = by (content_at contents j.file) refl blob row has
  where
    by : (o : Option (Arc Blob Global)) → content_at contents j.file ≡ o → (b : Option (Arc Blob Global)) → IsRecalledHand o b found → option_map sum_of_blob b ≡ content_sum h (ask.Recalled m j) a → IfSome found (HandIn told h (ask.Recalled m j))
    by None at b row has = subst (λ (o : Option (Hand _)). IfSome o (HandIn told h (ask.Recalled m j))) (sym row) tt
    by (Some first) at None (copy, row, same) has = to_hand told h (ask.Recalled m j) found copy row (subst (λ (v : List ℕ). IsOfFile h j.file (sums.sum_of v)) (sym same) (first_is h contents j.file first are at))
    by (Some first) at (Some own) row has = to_hand told h (ask.Recalled m j) found own row ((first_is h contents j.file first are at).0, own_is h m j own a has)

some_not : {M : Type 0} (found : Option (Hand M)) (x : Hand M) → found ≡ Some x → IsNone found → ⊥
some_not found x is none = (let bad : true ≡ false = sym (ap is_some is) ∙ none in absurd (cc))

pub recalled_none : {M : Type 0} (site : Site) (h : History) (m : ℕ) (j : Job) (contents : List (Option (Arc Blob Global))) (blob : Option (Arc Blob Global)) (found : Option (Hand M)) → IsLegal site h → AreContents h contents
    → IsRecalledHand (content_at contents j.file) blob found → IsNone found → IsRefused site h (ask.Recalled m j)
recalled_none site h m j contents blob found legal are row none = by (content_at contents j.file) refl blob row
  where
    by : (o : Option (Arc Blob Global)) → content_at contents j.file ≡ o → (b : Option (Arc Blob Global)) → IsRecalledHand o b found → IsRefused site h (ask.Recalled m j)
    by None at b row = recalled_unput site h m j legal (sym (are.each j.file) ∙ ap (option_map sum_of_blob) at)
    by (Some first) at None (copy, row, same) = absurd (some_not found (hands.Blob copy) row none)
    by (Some first) at (Some own) row = absurd (some_not found (hands.Blob own) row none)
