-- Lines that follow one another.
use Rattle.std.proofs.Common.{◌≡◌, ◌++◌, ℕ, ◌+◌, suc, List, [], ◌∷◌, true, false, refl, sym, subst, ◌∙◌, ap, length, drop}
use Rattle.std.specs.Prelude.{Some, None, slice_get}
use Rattle.cta_site.specs.Listed.{Listed}
use Rattle.cta_model.specs.declared.answers.Answer.{Answer}
use Rattle.cta_model.specs.declared.answers.Answer.TheVariants as answer
use Rattle.cta_model.specs.declared.asks.Direction.{Direction}
use Rattle.cta_model.specs.declared.asks.Direction.TheVariants as direction
use Rattle.cta_model.specs.declared.asks.Fate.TheVariants as fate
use Rattle.cta_model.specs.declared.asks.Item.{Item}
use Rattle.cta_model.specs.declared.hands.Hand.{Hand}
use Rattle.cta_model.specs.declared.hands.Hand.TheVariants as hand
use Rattle.drive_session.specs.declared.reports.Call.TheVariants as call
use Rattle.drive_session.specs.declared.reports.Done.TheVariants as done
use Rattle.drive_session.specs.declared.reports.ReadEnd.{ReadEnd}
use Rattle.drive_session.specs.declared.reports.StepLine.{StepLine}
use Rattle.drive_session.specs.declared.reports.StepLine.TheVariants as line
use Rattle.drive_session.specs.declared.states.Asked.{Asked}
use Rattle.drive_session.specs.declared.states.Asked.TheVariants as asked
use Rattle.drive_session.specs.declared.states.Mounted.{Mounted}
use Rattle.drive_session.specs.declared.states.Outcome.{Outcome}
use Rattle.drive_session.specs.declared.states.Outcome.TheVariants as outcome
use Rattle.drive_session.specs.declared.states.State.{State}
use Rattle.drive_session.specs.declared.states.State.TheVariants as state
use Rattle.drive_session.specs.Answers.{batch_by, batch_told, claimed_line, counted, flush_line, is_asking, is_memory, line_after, line_of, next_line, recalled_line}
use Rattle.drive_session.specs.Lawful.{LeadTo, End, More, LinesStayLawful, Standing, Follows, Free, Ready, Flushing, Leaving, IsFull, Idles, IsDown, IsBusy, Mounts, Claims, ClaimsNone, ClaimsFull, Writes, FailsWrite, Flushes, FailsFlush, Reads, IsSaid, fseqs, reading_of, standing_of, writing_of}
use Rattle.drive_session.specs.Steps.{LeadsOn}
use Rattle.drive_session.proofs.Lists.{drop_some, drop_all}

-- ---- a Next and a Claim

pub next_leads : {M : Type 0} → LeadsOn {M = M} Free asked.Next state.Free None
next_leads (answer.Mounted m way v) (hand.Medium y) = (Mounts way v, refl)
next_leads (answer.Mounted m way v) _ = (IsFull, refl)
next_leads answer.Idle k = (Idles, refl)
next_leads answer.DriveDown k = (IsDown, refl)
next_leads answer.DriveBusy k = (IsBusy, refl)
next_leads _ k = (IsFull, refl)

count_fseqs : (is : List Item) → length (fseqs is) ≡ length is
count_fseqs [] = refl
count_fseqs (i ∷ is) = ap suc (count_fseqs is)

batch_leads : {M : Type 0} (way : Direction) (is : List Item) (x : Mounted M) (items : Listed Item) (k : Hand M) → items.items ≡ is
    → Follows (Ready way) (batch_told way is k) (standing_of (batch_by way is x items k)) × IsSaid (batch_told way is k) None
batch_leads way [] x items k e = (ClaimsNone way, refl)
batch_leads direction.Archive (i ∷ is) x items (hand.Blobs blobs) e = (
  subst (λ xs. Follows (Ready direction.Archive) (line.Claim (counted (length (i ∷ is)))) (writing_of (fseqs xs))) (sym e)
      (Claims direction.Archive i.fseq (fseqs is) (counted (length (i ∷ is))) (ap counted (sym (count_fseqs (i ∷ is))))),
  refl,
)
batch_leads direction.Archive (i ∷ is) x items _ e = (ClaimsFull direction.Archive, refl)
batch_leads direction.Retrieve (i ∷ is) x items k e = (
  subst (λ xs. Follows (Ready direction.Retrieve) (line.Claim (counted (length (i ∷ is)))) (reading_of (fseqs xs))) (sym e)
      (Claims direction.Retrieve i.fseq (fseqs is) (counted (length (i ∷ is))) (ap counted (sym (count_fseqs (i ∷ is))))),
  refl,
)

pub claim_leads : {M : Type 0} (x : Mounted M) → LeadsOn (Ready x.direction) asked.Claim (state.Ready x) None
claim_leads x (answer.Batch items evicted) k = batch_leads x.direction items.items x items k refl
claim_leads x answer.Nothing k = (ClaimsNone x.direction, refl)
claim_leads x _ k = (ClaimsFull x.direction, refl)

-- ---- what was written and read

pub write_follows : (items : List Item) (at : ℕ) (i : Item) → slice_get items at ≡ Some i → Follows (writing_of (fseqs (drop at items))) (line.Write i.fseq true) (writing_of (fseqs (drop (at + 1) items)))
write_follows items at i there = subst (λ xs. Follows (writing_of (fseqs xs)) (line.Write i.fseq true) (writing_of (fseqs (drop (at + 1) items)))) (sym (drop_some items at i there)) (Writes i.fseq (fseqs (drop (at + 1) items)))

pub write_fails : (items : List Item) (at : ℕ) (i : Item) → slice_get items at ≡ Some i → Follows (writing_of (fseqs (drop at items))) (line.Write i.fseq false) Leaving
write_fails items at i there = subst (λ xs. Follows (writing_of (fseqs xs)) (line.Write i.fseq false) Leaving) (sym (drop_some items at i there)) (FailsWrite i.fseq (fseqs (drop (at + 1) items)))

pub flushing_at : (items : List Item) (at : ℕ) → at ≡ length items → Flushing ≡ writing_of (fseqs (drop at items))
flushing_at items at all = ap (λ xs. writing_of (fseqs xs)) (sym (drop_all items at all))

flush_follows : (way : Direction) (n m : ℕ) → way ≡ direction.Archive → Follows Flushing (line.Flush n m) (Ready way)
flush_follows way n m is = subst (λ w. Follows Flushing (line.Flush n m) (Ready w)) (sym is) (Flushes n m)

pub flush_leads : {M : Type 0} (items : List Item) (at : ℕ) (x : Mounted M) → at ≡ length items → x.direction ≡ direction.Archive → LeadsOn (writing_of (fseqs (drop at items))) asked.Flushed (state.Ready x) (Some (done.Ok call.Flush))
flush_leads items at x all way = subst (λ s. LeadsOn s asked.Flushed (state.Ready x) (Some (done.Ok call.Flush))) (flushing_at items at all) by
  where
    by : LeadsOn Flushing asked.Flushed (state.Ready x) (Some (done.Ok call.Flush))
    by (answer.Told fates) k = (flush_follows x.direction _ _ way, refl)
    by _ k = (flush_follows x.direction 0 0 way, refl)

pub flush_fails : (items : List Item) (at : ℕ) → at ≡ length items → Follows (writing_of (fseqs (drop at items))) line.FlushFailed Leaving
flush_fails items at all = subst (λ s. Follows s line.FlushFailed Leaving) (flushing_at items at all) FailsFlush

pub read_follows : (items : List Item) (at : ℕ) (i : Item) (how : ReadEnd) → slice_get items at ≡ Some i → Follows (reading_of (fseqs (drop at items))) (line.Read i.fseq how) (reading_of (fseqs (drop (at + 1) items)))
read_follows items at i how there = subst (λ xs. Follows (reading_of (fseqs xs)) (line.Read i.fseq how) (reading_of (fseqs (drop (at + 1) items)))) (sym (drop_some items at i there)) (Reads i.fseq (fseqs (drop (at + 1) items)) how)

pub recalled_leads : {M : Type 0} (items : Listed Item) (at : ℕ) (i : Item) (x : Mounted M) → slice_get items.items at ≡ Some i
    → LeadsOn (reading_of (fseqs (drop at items.items))) (asked.Recalled i.fseq) (state.Reading x items (at + 1)) (Some (done.Ok (call.Read i.fseq)))
recalled_leads items at i x there (answer.Arrived fate.Done) k = (read_follows items.items at i _ there, refl)
recalled_leads items at i x there (answer.Arrived fate.Stale) k = (read_follows items.items at i _ there, refl)
recalled_leads items at i x there _ k = (read_follows items.items at i _ there, refl)

-- a mount with nothing left to read is ready
pub rest_standing : (way : Direction) (items : List Item) → items ≡ [] → way ≡ direction.Retrieve → Ready way ≡ reading_of (fseqs items)
rest_standing way items none is = ap Ready is ∙ ap (λ xs. reading_of (fseqs xs)) (sym none)

-- ---- Memory

batch_told_never : {M : Type 0} (way : Direction) (is : List Item) (k : Hand M) → is_memory (batch_told way is k) ≡ false
batch_told_never way [] k = refl
batch_told_never direction.Archive (i ∷ is) (hand.Blobs blobs) = refl
batch_told_never direction.Archive (i ∷ is) _ = refl
batch_told_never direction.Retrieve (i ∷ is) k = refl

next_never : {M : Type 0} (a : Answer) (k : Hand M) → is_memory (next_line a k) ≡ false
next_never (answer.Mounted m way v) (hand.Medium y) = refl
next_never (answer.Mounted m way v) _ = refl
next_never answer.Idle k = refl
next_never answer.DriveDown k = refl
next_never answer.DriveBusy k = refl
next_never _ k = refl

claimed_never : {M : Type 0} (x : Mounted M) (a : Answer) (k : Hand M) → is_memory (claimed_line x a k) ≡ false
claimed_never x (answer.Batch items evicted) k = batch_told_never x.direction items.items k
claimed_never x answer.Nothing k = refl
claimed_never x _ k = refl

flush_never : (a : Answer) → is_memory (flush_line a) ≡ false
flush_never (answer.Told fates) = refl
flush_never _ = refl

recalled_never : (s : ℕ) (a : Answer) → is_memory (recalled_line s a) ≡ false
recalled_never s (answer.Arrived f) = refl
recalled_never s _ = refl

known_never : (o : Outcome) → is_memory (line_of o) ≡ false
known_never outcome.Load = refl
known_never (outcome.Write s) = refl
known_never outcome.Flush = refl
known_never (outcome.Read s) = refl
known_never (outcome.Mismatch s) = refl
known_never (outcome.Unload ok) = refl

-- no answer gives the line Memory
pub line_never_memory : {M : Type 0} (w : Asked) (s : State M) (a : Answer) (k : Hand M) → is_asking w ≡ true → is_memory (line_after w s a k) ≡ false
line_never_memory asked.Next s a k open_ask = next_never a k
line_never_memory asked.Claim (state.Ready x) a k open_ask = claimed_never x a k
line_never_memory asked.Claim _ a k open_ask = refl
line_never_memory asked.Flushed s a k open_ask = flush_never a
line_never_memory (asked.Recalled n) s a k open_ask = recalled_never n a
line_never_memory (asked.Known o) s a k open_ask = known_never o
line_never_memory (asked.Nothing l) s a k open_ask = absurd (cc)

-- ---- many lines

lead_on : (ls : List StepLine) (l : StepLine) (r s t : Standing) → LeadTo r ls s → Follows s l t → LeadTo r (ls ++ l ∷ []) t
lead_on [] l r s t (End q) next = More q t t l [] next (End t)
lead_on (k ∷ ls) l r s t (More a u b j js first rest) next = More a u t j (js ++ l ∷ []) first (lead_on js l u b t rest next)

pub lines_stay_lawful : LinesStayLawful
lines_stay_lawful ls l s t is next = lead_on ls l Free s t is next
