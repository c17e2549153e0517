-- One record more, taken or not.
use Rattle.std.proofs.Common.{◌≡◌, List, [], ◌∷◌, ◌++◌, sym, ap, subst}
use Rattle.std.specs.Prelude.{Option, Result, Ok, Err, IsErrOf, OnOk, option_map}
use Rattle.std.specs.declared.alloc.Global.{Global}
use Rattle.std.specs.declared.sync.Arc.{Arc}
use Rattle.blob.specs.declared.blobs.Blob.{Blob}
use Rattle.cta_model.specs.declared.entries.Entry.{Entry}
use Rattle.cta_model.specs.Bare.{bare_entry}
use Rattle.cta_model.specs.Hands.{sum_of_blob}
use Rattle.cta_model.specs.History.{History}
use Rattle.archive_restore.specs.Contents.{AreContents, IsPutContent, content_sum}
use Rattle.archive_restore.proofs.Grown.{contents_follow}

-- the contents behind a record that was played
pub contents_taken : {A E : Type 0} (r : Result A E) (e : Entry) (h new : History) (contents more : List (Option (Arc Blob Global))) (blob kept : Option (Arc Blob Global)) → AreContents h contents → IsPutContent e.ask blob kept
    → option_map sum_of_blob blob ≡ content_sum h e.ask e.answer → OnOk r (new ≡ bare_entry e ∷ h) → OnOk r (more ≡ contents ++ kept ∷ []) → OnOk r (AreContents new more)
contents_taken (Ok x) e h new contents more blob kept are is has a b =
    subst (λ (l : History). AreContents l more) (sym a) (subst (λ (l : List (Option (Arc Blob Global))). AreContents (bare_entry e ∷ h) l) (sym b) (contents_follow e h contents blob kept are is has))
contents_taken (Err x) e h new contents more blob kept are is has a b = tt

-- the error of one result is that of another
pub same_error : {T S E : Type 0} (e f : E) → IsErrOf {T = T} (Err e) f → IsErrOf {T = S} (Err e) f
same_error e f is = let same : e ≡ f = cc in ap (λ (x : _). Err x) same
