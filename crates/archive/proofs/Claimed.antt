-- What the Claim of a mount is answered.
use Rattle.std.proofs.Common.{◌≡◌, ◌≢◌, ◌≤◌, ◌∙◌, ℕ, zero, suc, ◌+◌, List, [], ◌∷◌, Bool, true, false, not, refl, sym, ap, arith, length}
use Rattle.std.specs.Prelude.{Option, Some, None, map, nat_lt}
use Rattle.std.specs.declared.alloc.Global.{Global}
use Rattle.std.specs.declared.sync.Arc.{Arc}
use Rattle.blob.specs.declared.blobs.Blob.{Blob}
use Rattle.blob.specs.Records.{MediumView}
use Rattle.cta_site.specs.declared.site.Site.{Site}
use Rattle.cta_site.specs.Listed.{Listed, rows}
use Rattle.cta_model.specs.declared.asks.Ask.TheVariants as ask
use Rattle.cta_model.specs.declared.asks.Direction.{Direction}
use Rattle.cta_model.specs.declared.asks.Direction.TheVariants as direction
use Rattle.cta_model.specs.declared.asks.Item.{Item}
use Rattle.cta_model.specs.declared.answers.Answer.{Answer}
use Rattle.cta_model.specs.declared.answers.Answer.TheVariants as answer
use Rattle.cta_model.specs.declared.answers.Refusal.TheVariants as refusal
use Rattle.cta_model.specs.declared.hands.Hand.TheVariants as hand
use Rattle.cta_model.specs.declared.states.Mount.{Mount}
use Rattle.cta_model.specs.Answers.{answer_of, batch_answer, claim_answer, claim_by, is_accepted, refuse, weighed}
use Rattle.cta_model.specs.Batches.{batch_of}
use Rattle.cta_model.specs.History.{History, moment_of, weight_of}
use Rattle.cta_model.specs.Hands.{BatchHand, HandBack, sum_of_blob}
use Rattle.cta_model.specs.Legal.{IsMountOf}
use Rattle.cta_model.specs.Mounts.{is_open, mount_of}
use Rattle.cta_model.specs.Space.{evicted_for}
use Rattle.cta_model.specs.Tapes.{size_of_items}
use Rattle.drive_asks.proofs.BatchFacts.{AreBatch}

-- ---- the batch

claim_with : (site : Site) (h : History) (t : ℕ) (way : Direction) (o : Option Mount) (items : List Item) → IsMountOf way o → ((x : Mount) → o ≡ Some x → items ≡ batch_of site h t x) → claim_by site h t o ≡ batch_answer site h t way items
claim_with site h t way None items goes batch = absurd goes
claim_with site h t way (Some x) items goes batch =
    ap (λ (w : Direction). batch_answer site h t w (batch_of site h t x)) goes ∙ ap (batch_answer site h t way) (sym (batch x refl))

claim_light : (site : Site) (h : History) (t m : ℕ) (way : Direction) (items : List Item) → IsMountOf way (mount_of h m) → is_open h m ≡ true → AreBatch site h t m items
    → claim_answer site h (moment_of h t) m ≡ batch_answer site h (moment_of h t) way items
claim_light site h t m way items goes on batch =
    ap (λ (b : Bool). refuse refusal.Unknown (not b) (claim_by site h (moment_of h t) (mount_of h m))) on ∙ claim_with site h (moment_of h t) way (mount_of h m) items goes batch

claim_weighed : (site : Site) (h : History) (t m : ℕ) (way : Direction) (items : List Item) → IsMountOf way (mount_of h m) → is_open h m ≡ true → AreBatch site h t m items
    → answer_of site h t (ask.Claim m) ≡ weighed site h (ask.Claim m) (batch_answer site h (moment_of h t) way items)
claim_weighed site h t m way items goes on batch = ap (weighed site h (ask.Claim m)) (claim_light site h t m way items goes on batch)

pub claim_nothing : (site : Site) (h : History) (t m : ℕ) (way : Direction) (items : List Item) → IsMountOf way (mount_of h m) → is_open h m ≡ true → AreBatch site h t m items → length items ≡ 0 → answer.Nothing ≡ answer_of site h t (ask.Claim m)
claim_nothing site h t m way [] goes on batch none = sym (claim_weighed site h t m way [] goes on batch)
claim_nothing site h t m way (i ∷ items) goes on batch none = absurd (omega (arith, none))

pub some_left : (n : ℕ) → n ≢ 0 → 1 ≤ n
some_left zero differ = absurd (differ refl)
some_left (suc n) differ = omega arith

-- a batch with its elements, by the weight that is tested
by_weight : (limit w n e k : ℕ) (heavy : Bool) (a : Answer) → 1 + (n + e) ≡ k → nat_lt limit (w + k) ≡ heavy → refuse refusal.HistoryFull (nat_lt limit (w + (1 + (0 + (n + e))))) a ≡ refuse refusal.HistoryFull heavy a
by_weight limit w n e k heavy a sum is = ap (λ (j : ℕ). refuse refusal.HistoryFull (nat_lt limit j) a) (same w n e k sum) ∙ ap (λ (b : Bool). refuse refusal.HistoryFull b a) is
  where
    same : (w n e k : ℕ) → 1 + (n + e) ≡ k → w + (1 + (0 + (n + e))) ≡ w + k
    same w n e k sum = omega (arith, sum)

-- ---- a batch that is to be written

write_some : (site : Site) (h : History) (t m : ℕ) (items : List Item) (heavy : Bool) → IsMountOf direction.Archive (mount_of h m) → is_open h m ≡ true → AreBatch site h t m items → 1 ≤ length items
    → nat_lt site.limits.history (weight_of h + (1 + length items)) ≡ heavy → answer_of site h t (ask.Claim m) ≡ refuse refusal.HistoryFull heavy (answer.Batch (rows items) (rows []))
write_some site h t m [] heavy writes on batch some is = absurd (omega (arith, some))
write_some site h t m (i ∷ items) heavy writes on batch some is =
    claim_weighed site h t m direction.Archive (i ∷ items) writes on batch ∙ by_weight site.limits.history (weight_of h) (length (i ∷ items)) 0 (1 + length (i ∷ items)) heavy (answer.Batch (rows (i ∷ items)) (rows [])) (sum (length (i ∷ items))) is
  where
    sum : (n : ℕ) → 1 + (n + 0) ≡ 1 + n
    sum n = omega arith

pub write_heavy : (site : Site) (h : History) (t m : ℕ) (items : List Item) → IsMountOf direction.Archive (mount_of h m) → is_open h m ≡ true → AreBatch site h t m items → 1 ≤ length items
    → nat_lt site.limits.history (weight_of h + (1 + length items)) ≡ true → answer.Refused refusal.HistoryFull ≡ answer_of site h t (ask.Claim m)
write_heavy site h t m items writes on batch some heavy = sym (write_some site h t m items true writes on batch some heavy)

pub write_accepted : (site : Site) (h : History) (t m : ℕ) (items : List Item) → IsMountOf direction.Archive (mount_of h m) → is_open h m ≡ true → AreBatch site h t m items → 1 ≤ length items
    → nat_lt site.limits.history (weight_of h + (1 + length items)) ≡ false → answer_of site h t (ask.Claim m) ≡ answer.Batch (rows items) (rows [])
write_accepted site h t m items writes on batch some light = write_some site h t m items false writes on batch some light

batch_hand : (M : Type 0) (o : Option Mount) (items : List Item) (blobs : Listed (Arc Blob Global)) → IsMountOf direction.Archive o → map sum_of_blob blobs.items ≡ map (λ (i : Item). i.sum) items → BatchHand {M = M} o items (hand.Blobs blobs)
batch_hand M None items blobs writes same = absurd writes
batch_hand M (Some x) items blobs writes same = (writes, same)

-- the contents come out with it
pub write_hand : {M : Type 0} (told : M → MediumView) (h later : History) (m : ℕ) (items : List Item) (a : Answer) (blobs : Listed (Arc Blob Global)) → IsMountOf direction.Archive (mount_of h m) → a ≡ answer.Batch (rows items) (rows [])
    → map sum_of_blob blobs.items ≡ map (λ (i : Item). i.sum) items → HandBack told (is_accepted a) h later (ask.Claim m) a hand.Nothing (hand.Blobs blobs)
write_hand told h later m items a blobs writes is same = rw is (batch_hand _ (mount_of h m) items blobs writes same)

-- ---- a batch that is to be read

-- the files that are evicted for its bytes
abbrev pub evicted_by : Site → History → ℕ → List Item → List ℕ
evicted_by site h t items = evicted_for site h (moment_of h t) (size_of_items items)

-- how many they are
pub evicted_is : (site : Site) (h : History) (t : ℕ) (items seen : List Item) (bytes count : ℕ) → seen ≡ items → bytes ≡ size_of_items seen → count ≡ length (evicted_for site h (moment_of h t) bytes) → count ≡ length (evicted_by site h t items)
evicted_is site h t items seen bytes count same sum is = is ∙ ap (λ (n : ℕ). length (evicted_for site h (moment_of h t) n)) (sum ∙ ap size_of_items same)

read_some : (site : Site) (h : History) (t m : ℕ) (items : List Item) (heavy : Bool) → IsMountOf direction.Retrieve (mount_of h m) → is_open h m ≡ true → AreBatch site h t m items → 1 ≤ length items
    → nat_lt site.limits.history (weight_of h + (1 + length items + length (evicted_by site h t items))) ≡ heavy → answer_of site h t (ask.Claim m) ≡ refuse refusal.HistoryFull heavy (answer.Batch (rows items) (rows (evicted_by site h t items)))
read_some site h t m [] heavy reads on batch some is = absurd (omega (arith, some))
read_some site h t m (i ∷ items) heavy reads on batch some is =
    claim_weighed site h t m direction.Retrieve (i ∷ items) reads on batch
    ∙ by_weight site.limits.history (weight_of h) (length (i ∷ items)) (length (evicted_by site h t (i ∷ items))) (1 + length (i ∷ items) + length (evicted_by site h t (i ∷ items))) heavy (answer.Batch (rows (i ∷ items)) (rows (evicted_by site h t (i ∷ items))))
    (sum (length (i ∷ items)) (length (evicted_by site h t (i ∷ items)))) is
  where
    sum : (n e : ℕ) → 1 + (n + e) ≡ 1 + n + e
    sum n e = omega arith

pub read_heavy : (site : Site) (h : History) (t m : ℕ) (items : List Item) → IsMountOf direction.Retrieve (mount_of h m) → is_open h m ≡ true → AreBatch site h t m items → 1 ≤ length items
    → nat_lt site.limits.history (weight_of h + (1 + length items + length (evicted_by site h t items))) ≡ true → answer.Refused refusal.HistoryFull ≡ answer_of site h t (ask.Claim m)
read_heavy site h t m items reads on batch some heavy = sym (read_some site h t m items true reads on batch some heavy)

pub read_accepted : (site : Site) (h : History) (t m : ℕ) (items : List Item) → IsMountOf direction.Retrieve (mount_of h m) → is_open h m ≡ true → AreBatch site h t m items → 1 ≤ length items
    → nat_lt site.limits.history (weight_of h + (1 + length items + length (evicted_by site h t items))) ≡ false → answer_of site h t (ask.Claim m) ≡ answer.Batch (rows items) (rows (evicted_by site h t items))
read_accepted site h t m items reads on batch some light = read_some site h t m items false reads on batch some light
