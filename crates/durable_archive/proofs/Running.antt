-- How a run of calls goes on.
use Rattle.std.proofs.Common.{◌≡◌, ◌∙◌, ℕ, zero, suc, ◌+◌, ◌<◌, List, [], ◌∷◌, ◌++◌, Bool, true, false, refl, sym, ap, subst, arith, length, append_assoc}
use Rattle.std.specs.Prelude.{Option, Some, None, Ok, Err, if◌then◌else◌, drop, get_or, reverse, take}
use Rattle.std.proofs.lemmas.List.{drop_more, length-append, reverse-append}
use Rattle.blob.specs.Records.{MediumView}
use Rattle.cta_site.specs.declared.site.Site.{Site}
use Rattle.cta_model.specs.declared.answers.Answer.{Answer}
use Rattle.cta_model.specs.declared.entries.Entry.{Entry}
use Rattle.cta_model.specs.declared.hands.Hand.{Hand}
use Rattle.cta_model.specs.Answers.{is_accepted}
use Rattle.cta_model.specs.Bare.{bare_answer}
use Rattle.cta_model.specs.History.{History}
use Rattle.cta_model.specs.Kept.{Kept}
use Rattle.cta_journal.specs.Standing.{disk_of}
use Rattle.cta_journal.proofs.Moments.{and_then, started, weaker}
use Rattle.archive_turns.specs.declared.calls.ArchiveCall.{ArchiveCall}
use Rattle.archive_turns.specs.declared.calls.ArchiveCall.TheVariants as call
use Rattle.archive_turns.specs.declared.calls.ArchiveBack.{ArchiveBack}
use Rattle.archive_turns.specs.declared.calls.ArchiveBack.TheVariants as archives
use Rattle.archive_turns.specs.Plays.{Returns}
use Rattle.durable_archive.specs.declared.back.CloseCause.{CloseCause}
use Rattle.durable_archive.specs.declared.back.LoggedBack.{LoggedBack}
use Rattle.durable_archive.specs.declared.back.LoggedBack.TheVariants as back
use Rattle.durable_archive.specs.Journaled.{LoggedView, sure_of}
use Rattle.durable_archive.specs.Records.{IsOlder, KeepsBetween, all_but_last}
use Rattle.durable_archive.specs.Runs.{IsCall, IsRun, IsSafe, IsSafeRun}
use Rattle.durable_archive.specs.Turns.{ClosedKeeps, LoggedKeeps, MovesBy}
use Rattle.durable_archive.proofs.Leaving.{now}

-- ---- histories that grow

older_then : (g h k : History) → IsOlder g h → IsOlder h k → IsOlder g k
older_then g h k a b = (b.0 ++ a.0, b.1 ∙ ap (λ (l : History). b.0 ++ l) a.1 ∙ sym (append_assoc b.0 a.0 g))

same_older : (h k : History) → k ≡ h → IsOlder h k
same_older h k is = ([], is)

one_older : (b : Bool) (e : Entry) (h k : History) → k ≡ (if b then e ∷ h else h) → IsOlder h k
one_older true e h k is = (e ∷ [], is)
one_older false e h k is = ([], is)

behind : (b : Bool) (e : Entry) (h k : History) → b ≡ true → k ≡ (if b then e ∷ h else h) → all_but_last k ≡ h
behind true e h k is_so is = ap all_but_last is
behind false e h k is_so is = absurd (cc)

module _ {M : Type 0} (told : M → MediumView) where
  returns_older : (site : Site) (h : History) (c : ArchiveCall M) (b : ArchiveBack M) (later : History) → Returns told site h c b later → IsOlder h later
  returns_older site h (call.Ask at k in_hand) (archives.Ask (Ok (a, out))) later returns = one_older (is_accepted (bare_answer a)) _ h later returns.left
  returns_older site h (call.Ask at k in_hand) (archives.Ask (Err (none, again, out))) later returns = same_older h later returns.0
  returns_older site h (call.Look at k) (archives.Look (Ok (a, out))) later returns = same_older h later returns.0
  returns_older site h (call.Look at k) (archives.Look (Err none)) later returns = same_older h later returns
  returns_older site h (call.Ask at k in_hand) (archives.Look r) later returns = absurd returns
  returns_older site h (call.Look at k) (archives.Ask r) later returns = absurd returns

  -- an accepted call added one entry
  added : (site : Site) (h : History) (c : ArchiveCall M) (a : Answer) (out : Hand M) (later : History) → is_accepted (bare_answer a) ≡ true → Returns told site h c (archives.Ask (Ok (a, out))) later → all_but_last later ≡ h
  added site h (call.Ask at k in_hand) a out later is_so returns = behind (is_accepted (bare_answer a)) _ h later is_so returns.left
  added site h (call.Look at k) a out later is_so returns = absurd returns

  closed_older : (b : Bool) (kept : Kept) (c : ArchiveCall M) (out : Hand M) (kept' : Kept) → ClosedKeeps told b kept c out kept' → IsOlder kept.history kept'.history
  closed_older true kept c out kept' came = returns_older kept.site kept.history c (archives.Ask (Ok (came.0, out))) kept'.history came.2
  closed_older false kept c out kept' came = same_older kept.history kept'.history (ap (λ (k : Kept). k.history) came.0)

  kept_older : (kept : Kept) (c : ArchiveCall M) (b : LoggedBack M) (kept' : Kept) → LoggedKeeps told kept c b kept' → IsOlder kept.history kept'.history
  kept_older kept c (back.Answered b) kept' came = returns_older kept.site kept.history c b kept'.history came.0
  kept_older kept c (back.Closed why out added) kept' came = closed_older added.value kept c out kept' came

  closed_adds : (b : Bool) (kept : Kept) (c : ArchiveCall M) (out : Hand M) (kept' : Kept) → b ≡ true → ClosedKeeps told b kept c out kept' → all_but_last kept'.history ≡ kept.history
  closed_adds true kept c out kept' is_so came = added kept.site kept.history c came.0 out kept'.history came.1 came.2
  closed_adds false kept c out kept' is_so came = absurd (cc)

  module _ {K : Type 0} (faults : K → ℕ) where
    -- what is surely on the disk goes on
    sure_older : (o : Option CloseCause) (old : LoggedView K) (c : ArchiveCall M) (b : LoggedBack M) (new : LoggedView K) → old.closed ≡ o → LoggedKeeps told old.archive c b new.archive → MovesBy faults o old b new
        → IsOlder (sure_of old.closed old.archive.history) (sure_of new.closed new.archive.history)
    sure_older None old c (back.Answered b) new is kept moves = rw (is, moves) (kept_older old.archive c (back.Answered b) new.archive kept)
    sure_older None old c (back.Closed why out added) new is kept moves =
        rw (is, moves.0) (same_older old.archive.history (all_but_last new.archive.history) (closed_adds added.value old.archive c out new.archive moves.1 kept))
    sure_older (Some why) old c (back.Answered b) new is kept moves = absurd moves
    sure_older (Some why) old c (back.Closed again out added) new is kept moves =
        same_older (sure_of old.closed old.archive.history) (sure_of new.closed new.archive.history) (ap (λ (l : LoggedView K). sure_of l.closed l.archive.history) moves.2)

    pub call_older : (old : LoggedView K) (c : ArchiveCall M) (b : LoggedBack M) (new : LoggedView K) → IsCall told faults old c b new → IsOlder (sure_of old.closed old.archive.history) (sure_of new.closed new.archive.history)
    call_older old c b new is = sure_older old.closed old c b new refl is.kept is.moves

    run_older : (old : LoggedView K) (cs : List (ArchiveCall M)) (bs : List (LoggedBack M)) (new : LoggedView K) → IsRun told faults old cs bs new
        → IsOlder (sure_of old.closed old.archive.history) (sure_of new.closed new.archive.history)
    run_older old [] [] new run = same_older _ _ (ap (λ (l : LoggedView K). sure_of l.closed l.archive.history) run)
    run_older old [] (b ∷ bs) new run = absurd run
    run_older old (c ∷ cs) [] new run = absurd run
    run_older old (c ∷ cs) (b ∷ bs) new run = older_then _ _ _ (run_older old cs bs run.0 run.1) (call_older run.0 c b new run.2)

    module _ (moment : K → ℕ) (left_since : K → ℕ → List ℕ → Type 0) (site : Site) (begun : List (List ℕ)) where
      wider : (g h k l : History) (file : List ℕ) → IsOlder g h → IsOlder k l → KeepsBetween site begun h k file → KeepsBetween site begun g l file
      wider g h k l file a b keeps = (keeps.0, older_then g h keeps.0 a keeps.1, older_then keeps.0 k l keeps.2 b, keeps.3)

      -- one call more behind a safe stretch
      longer : (old mid new : LoggedView K) → IsOlder (sure_of old.closed old.archive.history) (sure_of mid.closed mid.archive.history) → IsOlder mid.archive.history new.archive.history
          → IsSafe moment left_since site begun old mid → IsSafe moment left_since site begun mid new → IsSafe moment left_since site begun old new
      longer old mid new sure grown first second =
          let P : List ℕ → Type 0 = KeepsBetween site begun (sure_of old.closed old.archive.history) new.archive.history in
          and_then moment left_since (disk_of old.journal) (disk_of mid.journal) (disk_of new.journal) P
          (weaker moment left_since (disk_of old.journal) (disk_of mid.journal) _ P first (λ file keeps. wider _ _ _ _ file (now (sure_of old.closed old.archive.history)) grown keeps))
          (weaker moment left_since (disk_of mid.journal) (disk_of new.journal) _ P second (λ file keeps. wider _ _ _ _ file sure (now new.archive.history) keeps))

      -- before the first call
      pub run_begins : (old : LoggedView K) → IsSafe moment left_since site begun old old → IsSafeRun moment left_since site begun told faults old [] [] old
      run_begins old safe zero low = (old, refl, refl, safe)
      run_begins old safe (suc n) low = absurd (omega (arith, low))

      -- one call more
      pub run_goes_on : (old prev : LoggedView K) (cs : List (ArchiveCall M)) (bs : List (LoggedBack M)) (c : ArchiveCall M) (b : LoggedBack M) (new : LoggedView K) → IsRun told faults old cs bs prev
          → IsSafeRun moment left_since site begun told faults old cs bs prev → IsCall told faults prev c b new → IsSafe moment left_since site begun prev new → IsSafe moment left_since site begun new new
          → IsSafeRun moment left_since site begun told faults old (c ∷ cs) (b ∷ bs) new
      run_goes_on old prev cs bs c b new run safe one step here zero low = (new, (prev, run, one), refl, here)
      run_goes_on old prev cs bs c b new run safe one step here (suc n) low =
          let cut = safe n (omega (arith, low)) in
          (cut.0, cut.1, (prev, cut.2, one), longer cut.0 prev new (run_older cut.0 (take n cs) (take n bs) prev cut.2) (kept_older prev.archive c b new.archive one.kept) cut.3 step)

      -- a state is safe from itself on
      pub safe_here : (may_leave : K → List ℕ → Type 0) → ((disk : K) (c : List ℕ) → left_since disk (moment disk) c → may_leave disk c) → (l : LoggedView K) → ((file : List ℕ) → may_leave (disk_of l.journal) file → KeepsBetween site begun (sure_of l.closed l.archive.history) l.archive.history file)
          → IsSafe moment left_since site begun l l
      safe_here may_leave only_now l rests = started moment left_since (disk_of l.journal) (KeepsBetween site begun (sure_of l.closed l.archive.history) l.archive.history) (λ file left. rests file (only_now (disk_of l.journal) file left))

-- ---- the calls that are left

turned : {A : Type 0} (xs : List A) (x : A) → reverse (xs ++ x ∷ []) ≡ x ∷ reverse xs
turned xs x = reverse-append xs (x ∷ [])

-- the next call of a list, and those behind it
pub rest_is : {A : Type 0} (xs yielded : List A) (x : A) → length yielded < length xs → x ≡ get_or xs (length yielded) x → drop (length yielded) xs ≡ x ∷ drop (length (yielded ++ x ∷ [])) xs
rest_is xs yielded x low is =
    drop_more xs (length yielded) x low
    ∙ ap (λ y. y ∷ drop (length yielded + 1) xs) (sym is)
    ∙ ap (λ (n : ℕ). x ∷ drop n xs) (sym (length-append yielded (x ∷ [])))

module _ {M K : Type 0} (told : M → MediumView) (faults : K → ℕ) where
  pub run_more : (old prev new : LoggedView K) (cs : List (ArchiveCall M)) (bs : List (LoggedBack M)) (c : ArchiveCall M) (b : LoggedBack M) → IsRun told faults old (reverse cs) (reverse bs) prev → IsCall told faults prev c b new
      → IsRun told faults old (reverse (cs ++ c ∷ [])) (reverse (bs ++ b ∷ [])) new
  run_more old prev new cs bs c b run one =
      subst (λ (l : List (ArchiveCall M)). IsRun told faults old l (reverse (bs ++ b ∷ [])) new) (sym (turned cs c))
      (subst (λ (l : List (LoggedBack M)). IsRun told faults old (c ∷ reverse cs) l new) (sym (turned bs b)) (prev, run, one))

  pub safe_more : (moment : K → ℕ) (left_since : K → ℕ → List ℕ → Type 0) (site : Site) (begun : List (List ℕ)) (old prev new : LoggedView K) (cs : List (ArchiveCall M)) (bs : List (LoggedBack M)) (c : ArchiveCall M) (b : LoggedBack M)
      → IsRun told faults old (reverse cs) (reverse bs) prev → IsSafeRun moment left_since site begun told faults old (reverse cs) (reverse bs) prev → IsCall told faults prev c b new
      → IsSafe moment left_since site begun prev new → IsSafe moment left_since site begun new new
      → IsSafeRun moment left_since site begun told faults old (reverse (cs ++ c ∷ [])) (reverse (bs ++ b ∷ [])) new
  safe_more moment left_since site begun old prev new cs bs c b run safe one step here =
      subst (λ (l : List (ArchiveCall M)). IsSafeRun moment left_since site begun told faults old l (reverse (bs ++ b ∷ [])) new) (sym (turned cs c))
      (subst (λ (l : List (LoggedBack M)). IsSafeRun moment left_since site begun told faults old (c ∷ reverse cs) l new) (sym (turned bs b))
      (run_goes_on told faults moment left_since site begun old prev (reverse cs) (reverse bs) c b new run safe one step here))
