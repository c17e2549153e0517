-- A session that reads the one record of its tape.
use Rattle.std.proofs.Common.{◌≡◌, ◌∙◌, ℕ, ◌-◌, ◌<◌, ◌≤◌, List, [], ◌∷◌, Bool, true, false, ◌&&◌, refl, sym, ap, subst, arith, length}
use Rattle.std.specs.Prelude.{Option, Some, None, is_none, Ok, if◌then◌else◌, ◌==◌, slice_get}
use Rattle.std.proofs.lemmas.Bool.{and_parts, eqb-true}
use Rattle.std.proofs.lemmas.Option.{same_Some}
use Rattle.blob.specs.Records.{TapeRecords}
use Rattle.blob.specs.declared.sum.Sum256.{Sum256}
use Rattle.cta_site.specs.Listed.{Listed}
use Rattle.cta_site.specs.declared.site.Site.{Site}
use Rattle.cta_model.specs.declared.answers.Answer.{Answer}
use Rattle.cta_model.specs.declared.answers.Answer.TheVariants as answer
use Rattle.cta_model.specs.declared.asks.Ask.{Ask}
use Rattle.cta_model.specs.declared.asks.Ask.TheVariants as ask
use Rattle.cta_model.specs.declared.asks.Direction.{Direction}
use Rattle.cta_model.specs.declared.asks.Direction.TheVariants as direction
use Rattle.cta_model.specs.declared.asks.Item.{Item}
use Rattle.cta_model.specs.declared.hands.Hand.{Hand}
use Rattle.cta_model.specs.declared.hands.Hand.TheVariants as hand
use Rattle.cta_model.specs.declared.states.Mount.{Mount}
use Rattle.cta_model.specs.declared.states.Place.{Place}
use Rattle.cta_model.specs.Answers.{names_twice}
use Rattle.cta_model.specs.Files.{is_live, sum_of}
use Rattle.cta_model.specs.History.{History}
use Rattle.cta_model.specs.Media.{IsTrueMedium}
use Rattle.cta_model.specs.Mounts.{claimed_items, is_open, item_jobs, mount_of}
use Rattle.cta_model.specs.Places.{place_after, place_of}
use Rattle.media.specs.declared.mem_medium.MemMedium.{MemMedium}
use Rattle.media.specs.Drives.{DriveView}
use Rattle.media.specs.Memory.{mem_medium, mem_tape}
use Rattle.drive_session.specs.Answers.{batch_by, state_after}
use Rattle.drive_session.specs.Fits.{FitsClaim, FitsState, IsRest}
use Rattle.drive_session.specs.Records.{AreOfFiles, AreSafe}
use Rattle.drive_session.specs.Steps.{FitsReport, has_ask, is_loaded_in}
use Rattle.drive_session.specs.Works.{FitsMemo, IsTaken, IsWork, IsWorkBy, MayWork, MayWorkBy}
use Rattle.drive_session.specs.declared.reports.Report.{Report}
use Rattle.drive_session.specs.declared.reports.StepLine.{StepLine}
use Rattle.drive_session.specs.declared.session.Memo.{Memo}
use Rattle.drive_session.specs.declared.states.Asked.{Asked}
use Rattle.drive_session.specs.declared.states.Asked.TheVariants as asked
use Rattle.drive_session.specs.declared.states.Mounted.{Mounted}
use Rattle.drive_session.specs.declared.states.State.{State}
use Rattle.drive_session.specs.declared.states.State.TheVariants as state
use Rattle.drive_tests.specs.OneRecord.{Fits, IsClaim, history, read_item}

-- ---- the medium

-- the first record is safe and has this sum
record HasOne (s : Sum256) (t : TapeRecords) : Type 0 where
  within : t.safe ≤ length t.records
  some : 1 ≤ t.safe
  first : slice_get t.records 0 ≡ Some s

place_by : (live hit : Bool) (c : ℕ) (p : Place) → ◌≡◌ {A = Option Place} (if live then place_after c 0 (if hit then Some 1 else None) None else None) (Some p) → (hit ≡ true) × (p.fseq ≡ 1)
place_by false hit c p e = absurd (cc)
place_by true false c p e = absurd (cc)
place_by true true c p e = (refl, sym (ap (λ (q : Place). q.fseq) (same_Some {A = Place} (record { copy = c; tape = 0; fseq = 1 }) p e)))

-- the only place is that of the file 1
place_is : (s : Sum256) (a : Answer) (f c : ℕ) (p : Place) → place_of (history s a) f c ≡ Some p → (f ≡ 1) × (p.fseq ≡ 1)
place_is s a f c p is =
    let by = place_by (is_live (history s a) f) ((1 == f) && (1 == c)) c p is in
    (sym (eqb-true 1 f (and_parts (1 == f) (1 == c) by.0).0), by.1)

sound : (s : Sum256) (a : Answer) (t : TapeRecords) → HasOne s t → IsTrueMedium (history s a) 0 t
sound s a t one = record {
  within = one.within;
  enough = one.some;
  named = λ f c p on is.
      let at = place_is s a f c p is in (
        omega (arith, at.1),
        omega (arith, at.1),
        ap (λ n. slice_get t.records (n - 1)) at.1 ∙ one.first ∙ ap (λ n. Some (sum_of (history s a) n)) (sym at.0),
      );
}

tells : (s : Sum256) (a : Answer) (t : TapeRecords) → IsTrueMedium (history s a) 0 t → HasOne s t
tells s a t m = record { within = m.within; some = m.enough; first = (m.named 1 1 (record { copy = 1; tape = 0; fseq = 1 }) refl refl).2 }

-- ---- steps

fits_memo : (site : Site) (s : Sum256) (a : Answer) (m : Memo MemMedium) → Fits site s a m → FitsMemo mem_medium site (history s a) m
fits_memo site s a m f =
    let state : FitsState mem_medium site (history s a) m.number m.state = subst (λ n. FitsState mem_medium site (history s a) n m.state) (sym f.number) f.state in
    subst (λ (k : Option (Ask × Hand MemMedium)). FitsReport mem_medium site (history s a) m.number m.state m.asked k) (sym f.kept) state

pub may_work : (site : Site) (s : Sum256) (a : Answer) (m : Memo MemMedium) → Fits site s a m → MayWork mem_medium m
may_work site s a m f =
    let state : FitsState mem_medium site (history s a) m.number m.state = subst (λ n. FitsState mem_medium site (history s a) n m.state) (sym f.number) f.state in
    subst (λ (k : Option (Ask × Hand MemMedium)). MayWorkBy mem_medium m k) (sym f.kept) (f.still, (site, (history s a, state)))

-- what a step without a kept ask leaves
works_by : (m m' : Memo MemMedium) (old new : DriveView) (r : Report MemMedium) → m.kept ≡ None → IsWork mem_medium old new m m' r → IsWorkBy mem_medium old new m m' r None
works_by m m' old new r none work = subst (λ (k : Option (Ask × Hand MemMedium)). IsWorkBy mem_medium old new m m' r k) none work

-- what is asked, and what it leaves of the state
nothing_asked : (site : Site) (h : History) (n : ℕ) (x : State MemMedium) (w : Asked) (q : Option (Ask × Hand MemMedium)) → is_none q ≡ true → FitsReport mem_medium site h n x w q → FitsState mem_medium site h n x
nothing_asked site h n x w None e f = f
nothing_asked site h n x w (Some q) e f = absurd (cc)

has_nothing : (q : Option (Ask × Hand MemMedium)) → is_none q ≡ true → has_ask q ≡ false
has_nothing None e = refl
has_nothing (Some q) e = absurd (cc)

pub step_fits : (site : Site) (s : Sum256) (a : Answer) (m m' : Memo MemMedium) (old new : DriveView) (r : Report MemMedium) → Fits site s a m → IsWork mem_medium old new m m' r
    → (FitsMemo mem_medium site (history s a) m → FitsReport mem_medium site (history s a) m'.number m'.state m'.asked r.ask) → is_none r.ask ≡ true → Fits site s a m'
step_fits site s a m m' old new r f work law none =
    let w = works_by m m' old new r f.kept work in
    let number : m'.number ≡ 0 = w.0 ∙ f.number in
    record {
      number = number;
      kept = w.1;
      still = w.2.waits ∙ has_nothing r.ask none;
      state = subst (λ n. FitsState mem_medium site (history s a) n m'.state) number (nothing_asked site (history s a) m'.number m'.state m'.asked r.ask none (law (fits_memo site s a m f)));
    }

-- ---- the batch

claim_fits : (site : Site) (h : History) (n : ℕ) (x : State MemMedium) (w : Asked) (q : Option (Ask × Hand MemMedium)) → IsClaim q → FitsReport mem_medium site h n x w q
    → (n < length site.drives.items) × ((k : Hand MemMedium) × FitsClaim mem_medium h n x w 4 k)
claim_fits site h n x w None is f = absurd is
claim_fits site h n x w (Some (ask.Claim m, k)) is f = (f.known, (k, subst (λ j. FitsClaim mem_medium h n x w j k) is f.asked))
claim_fits site h n x w (Some (_, k)) is f = absurd is

read_batch : (way : Direction) (is : List Item) (i : Item) (x : Mounted MemMedium) (items : Listed Item) → way ≡ direction.Retrieve → is ≡ i ∷ [] → batch_by way is x items hand.Nothing ≡ state.Reading x items 0
read_batch way is i x items e1 e2 = rw (e1, e2) refl

are_of_files : (s : Sum256) (a : Answer) (is : List Item) → is ≡ read_item s ∷ [] → AreOfFiles (history s a) is
are_of_files s a is e = subst (AreOfFiles (history s a)) (sym e) (omega arith, refl, tt)

are_safe : (s : Sum256) (t : TapeRecords) (is : List Item) → HasOne s t → is ≡ read_item s ∷ [] → AreSafe t is
are_safe s t is one e =
    subst (AreSafe t) (sym e) (record { from = omega arith; safe = one.some; there = omega (arith, one.some, one.within) }, one.first, tt)

-- a mount that has got this batch
reading : (site : Site) (s : Sum256) (x : Mounted MemMedium) (items : Listed Item) (evicted : Listed ℕ) → 0 < length site.drives.items → 4 ≡ x.mount → IsRest mem_medium (history s answer.Nothing) 0 x → items.items ≡ read_item s ∷ []
    → FitsState mem_medium site (history s (answer.Batch items evicted)) 0 (state.Reading x items 0) × (x.direction ≡ direction.Retrieve)
reading site s x items evicted drives number rest is =
    let before = history s answer.Nothing in
    let after = history s (answer.Batch items evicted) in
    let mount : Mount = record { drive = 0; direction = x.direction; tape = x.tape } in
    let at : ◌≡◌ {A = Option Mount} (Some (record { drive = 0; direction = direction.Retrieve; tape = 0 })) (Some mount) = subst (λ n. mount_of before n ≡ Some mount) (sym number) rest.at.mount.mount in
    let same = same_Some {A = Mount} (record { drive = 0; direction = direction.Retrieve; tape = 0 }) mount at in
    let way : direction.Retrieve ≡ x.direction = ap (λ (m : Mount). m.direction) same in
    let tape : 0 ≡ x.tape = ap (λ (m : Mount). m.tape) same in
    let t = mem_tape x.medium in
    let one : HasOne s t = tells s answer.Nothing t (subst (λ v. IsTrueMedium before v t) (sym tape) rest.at.medium.truth) in (
      record {
        known = drives;
        state = record {
          unread = record {
            at = record {
              mount = record { still = subst (λ n. is_open after n ≡ true) number refl; mount = subst (λ n. mount_of after n ≡ Some mount) number at };
              medium = record { label = rest.at.medium.label; truth = subst (λ v. IsTrueMedium after v t) tape (sound s (answer.Batch items evicted) t one) };
            };
            way = sym way;
            once = ap (λ (l : List Item). names_twice (item_jobs l)) is;
            files = are_of_files s (answer.Batch items evicted) items.items is;
            safe = are_safe s t items.items one is;
          };
          claims = subst (λ n. claimed_items after n ≡ items.items) number refl;
        };
      },
      sym way,
    )

pub claim_asked : (site : Site) (s : Sum256) (m m' : Memo MemMedium) (old new : DriveView) (r : Report MemMedium) → Fits site s answer.Nothing m → IsWork mem_medium old new m m' r
    → (FitsMemo mem_medium site (history s answer.Nothing) m → FitsReport mem_medium site (history s answer.Nothing) m'.number m'.state m'.asked r.ask) → IsClaim r.ask
    → (m'.number ≡ 0) × (m'.kept ≡ None) × (0 < length site.drives.items) × ((k : Hand MemMedium) × FitsClaim mem_medium (history s answer.Nothing) 0 m'.state m'.asked 4 k)
claim_asked site s m m' old new r f work law is =
    let w = works_by m m' old new r f.kept work in
    let number : m'.number ≡ 0 = w.0 ∙ f.number in
    let h = history s answer.Nothing in
    let c = claim_fits site h m'.number m'.state m'.asked r.ask is (law (fits_memo site s answer.Nothing m f)) in
    (number, w.1, omega (arith, c.0), subst (λ n. (k : Hand MemMedium) × FitsClaim mem_medium h n m'.state m'.asked 4 k) number c.1)

pub batch_taken : (site : Site) (s : Sum256) (m m' : Memo MemMedium) (items : Listed Item) (evicted : Listed ℕ) (l : StepLine) → (m.number ≡ 0) × (m.kept ≡ None) × (0 < length site.drives.items)
    × ((k : Hand MemMedium) × FitsClaim mem_medium (history s answer.Nothing) 0 m.state m.asked 4 k)
    → items.items ≡ read_item s ∷ [] → IsTaken m m' (Ok (answer.Batch items evicted, hand.Nothing)) l → Fits site s (answer.Batch items evicted) m' × (is_loaded_in m.state ≡ is_loaded_in m'.state)
batch_taken site s m m' items evicted l f is taken =
    let c = f.3.1 in
    let x = c.mounted in
    let reads = reading site s x items evicted f.2 c.mount c.rest is in
    let after : Memo MemMedium = record { number = m.number; state = state.Reading x items 0; asked = asked.Nothing l; kept = m.kept } in
    let state_is : state_after m.asked m.state (answer.Batch items evicted) hand.Nothing ≡ state.Reading x items 0 =
    ap (λ (w : Asked). state_after w m.state (answer.Batch items evicted) hand.Nothing) c.asked
    ∙ ap (λ (z : State MemMedium). state_after asked.Claim z (answer.Batch items evicted) hand.Nothing) c.state
    ∙ read_batch x.direction items.items (read_item s) x items reads.1 is in
    let memo : m' ≡ after = taken.1 ∙ ap (λ (z : State MemMedium). record { number = m.number; state = z; asked = asked.Nothing l; kept = m.kept }) state_is in
    let fits : Fits site s (answer.Batch items evicted) after = record { number = f.0; kept = f.1; still = refl; state = reads.0 } in
    (subst (Fits site s (answer.Batch items evicted)) (sym memo) fits, ap is_loaded_in c.state ∙ sym (ap (λ (z : Memo MemMedium). is_loaded_in z.state) memo))
