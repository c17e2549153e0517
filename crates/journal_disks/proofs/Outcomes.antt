-- How what a disk in memory leaves goes on.
use Rattle.std.proofs.Common.{◌≡◌, ◌⊎◌, inl, inr, ⊎_elim, ℕ, zero, suc, ◌+◌, ◌≤◌, List, [], ◌∷◌, ◌++◌, length, take, drop, max, refl, sym, ◌∙◌, ap, subst, arith, length-append, length-drop, length-take, append_assoc}
use Rattle.std.specs.Prelude.{Vec}
use Rattle.std.specs.declared.alloc.Global.{Global}
use Rattle.std.proofs.lemmas.Bool.{cases_lt}
use Rattle.std.proofs.lemmas.List.{take-append-le, take_all, take_at, drop_at}
use Rattle.cta_journal.specs.Disk.{Elapses, Follows, Torn, Cut, written}
use Rattle.journal_disks.specs.declared.events.DiskEvent.{DiskEvent}
use Rattle.journal_disks.specs.declared.events.DiskEvent.TheVariants as event
use Rattle.journal_disks.specs.Events.{Then, After, Just, LeftBy, IsWhole}

-- one event more
pub after_adds : (P : List ℕ → Type 0) (es : List DiskEvent) (e : DiskEvent) (c : List ℕ) → After P (es ++ e ∷ []) c → Then (After P es) e c
after_adds P [] e c left = left
after_adds P (x ∷ es) e c left = after_adds (Then P x) es e c left

pub after_gets : (P : List ℕ → Type 0) (es : List DiskEvent) (e : DiskEvent) (c : List ℕ) → Then (After P es) e c → After P (es ++ e ∷ []) c
after_gets P [] e c left = left
after_gets P (x ∷ es) e c left = after_gets (Then P x) es e c left

-- nothing happened
pub elapses_same : (first : List ℕ) (es : List DiskEvent) → Elapses (length es) (length es) (LeftBy first es) (LeftBy first es) (After (Just first) es)
elapses_same first es = record { later = omega arith; nothing_else = λ t c le left. inl left; keeps = λ t c le left. left }

-- one event more
pub elapses_push : (first : List ℕ) (es new : List DiskEvent) (e : DiskEvent) → new ≡ es ++ e ∷ [] → Elapses (length es) (length new) (LeftBy first es) (LeftBy first new) (After (Just first) new)
elapses_push first es new e is = record {
  later = omega (arith, long);
  nothing_else = λ t c le left. elim (cases_lt (length es) left.0) [
    | inl past ↦ inr (subst (λ (l : List DiskEvent). After (Just first) l c) (take_all left.0 new (omega (arith, past, long))) left.3)
    | inr low ↦ inl (left.0, left.1, low, subst (λ (l : List DiskEvent). After (Just first) l c) (front left.0 low) left.3)
  ];
  keeps = λ t c le left. (left.0, left.1, omega (arith, left.2, long), subst (λ (l : List DiskEvent). After (Just first) l c) (sym (front left.0 left.2)) left.3);
}
  where
    long : length new ≡ length es + 1
    long = ap length is ∙ length-append es (e ∷ [])

    front : (j : ℕ) → j ≤ length es → take j new ≡ take j es
    front j low = ap (λ (l : List DiskEvent). take j l) is ∙ take-append-le j es (e ∷ []) low

-- so is a write of which nothing came to the disk
pub no_write : (file : List ℕ) (at n : ℕ) → Torn at n file file
no_write file at n = record { before = refl; after = refl; no_shorter = omega arith; no_longer = omega arith }

-- a write that is whole is one that a crash may have torn
pub whole_is_torn : (file : List ℕ) (at : ℕ) (piece : List ℕ) → at ≤ length file → Torn at (length piece) file (written file at piece)
whole_is_torn file at piece le =
    let tail = drop (at + length piece) file in
    let front : length (take at file) ≡ at = omega (arith, length-take at file) in
    let both : length (take at file ++ piece) ≡ at + length piece = omega (arith, front, length-append (take at file) piece) in
    let long = length-append (take at file ++ piece) tail in
    let low : length file ≤ length ((take at file ++ piece) ++ tail) = omega (arith, long, both, length-drop (at + length piece) file) in
    let high : length ((take at file ++ piece) ++ tail) ≤ max (length file) (at + length piece) = omega (arith, long, both, length-drop (at + length piece) file) in
    record {
      before = ap (λ (l : List ℕ). take at l) (append_assoc (take at file) piece tail) ∙ take_at (take at file) (piece ++ tail) at front;
      after = drop_at (take at file ++ piece) tail (at + length piece) both;
      no_shorter = low;
      no_longer = high;
    }

-- so is a cut
pub whole_is_cut : (file : List ℕ) (len : ℕ) → len ≤ length file → Cut len file (take len file)
whole_is_cut file len le =
    let long : length (take len file) ≡ len = omega (arith, length-take len file) in
    record { no_shorter = omega (arith, long); front = ap (λ (n : ℕ). take n file) long }

-- so is none at all
pub no_cut : (len : ℕ) (file : List ℕ) → Cut len file file
no_cut len file = record { no_shorter = omega arith; front = take_all (length file) file (omega arith) }

-- ---- what a crash leaves after one more event

module _ (f : List ℕ) (es new : List DiskEvent) where
  pub follows_write : (at len : ℕ) → new ≡ es ++ event.Written at len ∷ [] → Follows (Torn at len) (After (Just f) es) (After (Just f) new)
  follows_write at len is = λ c left.
      let step = after_adds (Just f) es (event.Written at len) c (subst (λ (l : List DiskEvent). After (Just f) l c) is left) in
      (step.0, step.1, step.2)

  pub follows_cut : (len : ℕ) → new ≡ es ++ event.Cut len ∷ [] → Follows (Cut len) (After (Just f) es) (After (Just f) new)
  follows_cut len is = λ c left.
      let step = after_adds (Just f) es (event.Cut len) c (subst (λ (l : List DiskEvent). After (Just f) l c) is left) in
      (step.0, step.1, step.2)

  pub no_write_follows : (at len : ℕ) → new ≡ es → Follows (Torn at len) (After (Just f) es) (After (Just f) new)
  no_write_follows at len is = λ c left. (c, subst (λ (l : List DiskEvent). After (Just f) l c) is left, no_write c at len)

  pub no_cut_follows : (len : ℕ) → new ≡ es → Follows (Cut len) (After (Just f) es) (After (Just f) new)
  no_cut_follows len is = λ c left. (c, subst (λ (l : List DiskEvent). After (Just f) l c) is left, no_cut len c)

-- ---- the disk stays whole

gets : (f : List ℕ) (es new : List DiskEvent) (e : DiskEvent) (c : List ℕ) → new ≡ es ++ e ∷ [] → Then (After (Just f) es) e c → After (Just f) new c
gets f es new e c is then_c = subst (λ (l : List DiskEvent). After (Just f) l c) (sym is) (after_gets (Just f) es e c then_c)

module _ (f b t : List ℕ) (es new : List DiskEvent) (whole : IsWhole (record { first = f; bytes = b; torn = t; events = es })) where
  -- after a tear
  pub torn_is_whole : (at len : ℕ) (left : List ℕ) → at ≤ length t → length left ≡ len → new ≡ es ++ event.Written at len ∷ [] → IsWhole (record { first = f; bytes = b; torn = written t at left; events = new })
  torn_is_whole at len left le size is =
      let torn : Torn at len t (written t at left) = subst (λ (n : ℕ). Torn at n t (written t at left)) size (whole_is_torn t at left le) in
      record {
        possible = gets f es new (event.Written at len) b is (b, whole.possible, no_write b at len);
        tears = gets f es new (event.Written at len) (written t at left) is (t, whole.tears, torn);
        long = omega (arith, whole.long, torn.no_shorter);
      }

  -- after a write, where a tear was noted
  pub written_is_possible : (at : ℕ) (piece : List ℕ) → at ≤ length b → new ≡ es ++ event.Written at (length piece) ∷ [] → After (Just f) new (written b at piece)
  written_is_possible at piece le is = gets f es new (event.Written at (length piece)) (written b at piece) is (b, whole.possible, whole_is_torn b at piece le)

  -- after a cut
  pub cut_is_whole : (len : ℕ) → len ≤ length b → new ≡ es ++ event.Cut len ∷ [] → IsWhole (record { first = f; bytes = take len b; torn = t; events = new })
  cut_is_whole len le is = record {
    possible = gets f es new (event.Cut len) (take len b) is (b, whole.possible, whole_is_cut b len le);
    tears = gets f es new (event.Cut len) t is (t, whole.tears, no_cut len t);
    long = omega (arith, whole.long, length-take len b);
  }

  -- after a sync
  pub synced_is_whole : (bytes : Vec ℕ Global) → bytes.items ≡ b → new ≡ es ++ event.Synced bytes ∷ [] → IsWhole (record { first = f; bytes = b; torn = b; events = new })
  synced_is_whole bytes same is =
      let kept = gets f es new (event.Synced bytes) b is (whole.possible, sym same) in
      record {
        possible = kept;
        tears = kept;
        long = omega arith;
      }

-- after a tear and the write
pub written_is_whole : (f b t : List ℕ) (es : List DiskEvent) (at : ℕ) (piece g next c u : List ℕ) (new : List DiskEvent) → IsWhole (record { first = f; bytes = b; torn = t; events = es })
    → IsWhole (record { first = g; bytes = c; torn = u; events = new }) → at ≤ length b → g ≡ f → c ≡ b → new ≡ es ++ event.Written at (length piece) ∷ [] → next ≡ written b at piece
    → at + length piece ≤ length u → IsWhole (record { first = g; bytes = next; torn = u; events = new })
written_is_whole f b t es at piece g next c u new old whole le first same is now room =
    let here : After (Just f) new (written b at piece) = written_is_possible f b t es new old at piece le is in
    record {
      possible = subst (λ (l : List ℕ). After (Just l) new next) (sym first) (subst (λ (l : List ℕ). After (Just f) new l) (sym now) here);
      tears = whole.tears;
      long = omega (arith, whole.long, room, ap length same, ap length now, (whole_is_torn b at piece le).no_longer);
    }
