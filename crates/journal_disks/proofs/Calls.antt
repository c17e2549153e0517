-- What calls of a folder come to, one after the other.
use Rattle.std.proofs.Common.{◌≡◌, inl, inr, List, [], ◌∷◌, ◌++◌, Bool, true, false, refl, sym, ap, ◌∙◌, append_assoc}
use Rattle.std.specs.Prelude.{Option, Some, None}
use Rattle.journal_disks.specs.Folders.{FolderCall, Looked, Forgot, Copied, Renamed, Dropped, SyncedFile, Marked, SyncedNames, after, after_call, IsMadeReady, IsRenewed, IsSaid}

-- newer calls behind older ones
after_after : (a b : List FolderCall) (o : Option (List FolderCall)) → after a (after b o) ≡ after (a ++ b) o
after_after a b None = refl
after_after a b (Some x) = ap Some (sym (append_assoc a b x))

then_one : (x : FolderCall) (l : List FolderCall) (o a b : Option (List FolderCall)) → a ≡ after l o → b ≡ after_call x a → b ≡ after (x ∷ l) o
then_one x l o a b before now = now ∙ ap (after_call x) before ∙ after_after (x ∷ []) l o

module _ (o a b c : Option (List FolderCall)) where
  pub unmark_failed : a ≡ after_call (Looked (Some true)) o → b ≡ after_call (Forgot false) a → IsMadeReady o b false
  unmark_failed look forget = record {
    calls = Forgot false ∷ Looked (Some true) ∷ [];
    done = then_one (Forgot false) (Looked (Some true) ∷ []) o a b look forget;
    careful = tt;
    whole = λ e. absurd (cc);
  }

  pub unmarked : (s : Bool) → a ≡ after_call (Looked (Some true)) o → b ≡ after_call (Forgot true) a → c ≡ after_call (SyncedNames s) b → IsMadeReady o c s
  unmarked s look forget sync = record {
    calls = SyncedNames s ∷ Forgot true ∷ Looked (Some true) ∷ [];
    done = then_one (SyncedNames s) (Forgot true ∷ Looked (Some true) ∷ []) o b c (then_one (Forgot true) (Looked (Some true) ∷ []) o a b look forget) sync;
    careful = tt;
    whole = λ e. inl (ap (λ t. SyncedNames t ∷ Forgot true ∷ Looked (Some true) ∷ []) e);
  }

  behind_look : (l : List FolderCall) → a ≡ after_call (Looked (Some false)) o → b ≡ after l a → b ≡ after (l ++ Looked (Some false) ∷ []) o
  behind_look l look now = now ∙ ap (after l) look ∙ after_after l (Looked (Some false) ∷ []) o

  pub not_renewed : a ≡ after_call (Looked (Some false)) o → IsRenewed a b false → c ≡ after_call Dropped b → IsMadeReady o c false
  not_renewed look (inl went) drop = record {
    calls = Dropped ∷ Renamed false ∷ Copied true ∷ Looked (Some false) ∷ [];
    done = then_one Dropped (Renamed false ∷ Copied true ∷ Looked (Some false) ∷ []) o b c (behind_look (Renamed false ∷ Copied true ∷ []) look went) drop;
    careful = tt;
    whole = λ e. absurd (cc);
  }
  not_renewed look (inr failed) drop = record {
    calls = Dropped ∷ Copied false ∷ Looked (Some false) ∷ [];
    done = then_one Dropped (Copied false ∷ Looked (Some false) ∷ []) o b c (behind_look (Copied false ∷ []) look failed.0) drop;
    careful = tt;
    whole = λ e. absurd (cc);
  }

  pub renewed : (s : Bool) → a ≡ after_call (Looked (Some false)) o → IsRenewed a b true → c ≡ after_call (SyncedNames s) b → IsMadeReady o c s
  renewed s look (inl went) sync = record {
    calls = SyncedNames s ∷ Renamed true ∷ Copied true ∷ Looked (Some false) ∷ [];
    done = then_one (SyncedNames s) (Renamed true ∷ Copied true ∷ Looked (Some false) ∷ []) o b c (behind_look (Renamed true ∷ Copied true ∷ []) look went) sync;
    careful = tt;
    whole = λ e. inr (ap (λ t. SyncedNames t ∷ Renamed true ∷ Copied true ∷ Looked (Some false) ∷ []) e);
  }
  renewed s look (inr failed) sync = absurd (cc)

  pub mark_failed : (clean : Bool) → clean ≡ true → a ≡ after_call (SyncedFile true) o → b ≡ after_call (Marked false) a → IsSaid clean o b false
  mark_failed clean is sync mark = record {
    calls = Marked false ∷ SyncedFile true ∷ [];
    done = then_one (Marked false) (SyncedFile true ∷ []) o a b sync mark;
    honest = tt;
    only_clean = λ e. absurd (cc);
    whole = λ e. absurd (cc);
  }

  pub said : (clean s : Bool) → clean ≡ true → a ≡ after_call (SyncedFile true) o → b ≡ after_call (Marked true) a → c ≡ after_call (SyncedNames s) b → IsSaid clean o c s
  said clean s is sync mark names = record {
    calls = SyncedNames s ∷ Marked true ∷ SyncedFile true ∷ [];
    done = then_one (SyncedNames s) (Marked true ∷ SyncedFile true ∷ []) o b c (then_one (Marked true) (SyncedFile true ∷ []) o a b sync mark) names;
    honest = tt;
    only_clean = λ e. absurd (cc);
    whole = λ e. ap (λ t. SyncedNames t ∷ Marked true ∷ SyncedFile true ∷ []) e;
  }
