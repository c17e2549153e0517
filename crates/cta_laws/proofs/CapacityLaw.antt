-- A tape's used bytes are at most its capacity.
use Rattle.std.proofs.Common.{◌≡◌, ℕ, zero, suc, ◌+◌, ◌-◌, ◌≤◌, inl, inr, List, [], ◌∷◌, ◌++◌, Bool, true, false, ◌&&◌, refl, sym, ◌∙◌, ap, subst, arith}
use Rattle.std.specs.Prelude.{Option, Some, None, if◌then◌else◌, ◌==◌, nat_le}
use Rattle.std.proofs.lemmas.Bool.{and_parts, eqb-true, leb-true}
use Rattle.cta_site.specs.declared.site.Site.{Site}
use Rattle.cta_site.specs.Lookups.{capacity_of, pool_of_tape}
use Rattle.cta_model.specs.declared.asks.Ask.{Ask}
use Rattle.cta_model.specs.declared.asks.Ask.TheVariants as ask
use Rattle.cta_model.specs.declared.asks.Direction.{Direction}
use Rattle.cta_model.specs.declared.asks.Direction.TheVariants as direction
use Rattle.cta_model.specs.declared.answers.Answer.{Answer}
use Rattle.cta_model.specs.declared.answers.Answer.TheVariants as answer
use Rattle.cta_model.specs.declared.asks.Item.{Item}
use Rattle.cta_model.specs.declared.asks.Job.{Job}
use Rattle.cta_model.specs.declared.states.Mount.{Mount}
use Rattle.cta_model.specs.History.{History, moment_of}
use Rattle.cta_model.specs.Files.{size_of}
use Rattle.cta_model.specs.Mounts.{mount_of, asked_mount, is_mount, tape_by, tape_of_mount, same_direction}
use Rattle.cta_model.specs.Tapes.{tape_items, items_after, size_of_items, used_bytes, next_fseq}
use Rattle.cta_model.specs.Queues.{queue_of}
use Rattle.cta_model.specs.Batches.{taken_of, written_items, batch_by, batch_of}
use Rattle.cta_model.specs.Answers.{answer_of}
use Rattle.cta_model.specs.Legal.{IsFit, IsMountOf}
use Rattle.cta_laws.specs.Space.{TapesHaveRoom}
use Rattle.cta_laws.proofs.Tests.{bool_cases}
use Rattle.cta_laws.proofs.Claims.{IsBatch, claim_is_batch}
use Rattle.cta_laws.proofs.QuotaLaw.{same_way}
use Rattle.cta_laws.proofs.Sums.{total, total_append, size_in, size_is, file_size}
use Rattle.cta_laws.proofs.Loads.{took, gave, if_asked, claimed_step_total}
use Rattle.cta_laws.specs.Claims.{claimed_total}

-- ---- what is taken fits in the room

pub taken_size : (h : History) (count room : ℕ) (q : List Job) → total (file_size h) (taken_of h count room q) ≤ room
unfolding total
taken_size h count room [] = omega arith
taken_size h zero room (j ∷ q) = omega arith
taken_size h (suc n) room (j ∷ q) =
    elim (bool_cases (nat_le (size_of h j.file) room)) [
      | inl fits ↦ (let low : size_of h j.file ≤ room = leb-true _ _ fits in rw fits (omega (arith, taken_size h n (room - size_of h j.file) q)))
      | inr large ↦ rw large (taken_size h (suc n) room q)
    ]

pub written_size : (h : History) (s : ℕ) (js : List Job) → total size_in (written_items h s js) ≡ total (file_size h) js
unfolding total
written_size h s [] = refl
written_size h s (j ∷ js) = ap (λ (n : ℕ). size_of h j.file + n) (written_size h (s + 1) js)

pub written_fits : (site : Site) (h : History) (t v : ℕ) → size_of_items (batch_by site h t direction.Archive v) ≤ capacity_of site v - used_bytes h v
written_fits site h t v =
    let q : List Job = taken_of h site.limits.batch_files (capacity_of site v - used_bytes h v) (queue_of site h direction.Archive (pool_of_tape site v)) in
    rw (size_is (written_items h (next_fseq h v) (taken_of h site.limits.batch_files (capacity_of site v - used_bytes h v) (queue_of site h direction.Archive (pool_of_tape site v)))), written_size h (next_fseq h v) (taken_of h site.limits.batch_files (capacity_of site v - used_bytes h v) (queue_of site h direction.Archive (pool_of_tape site v))))
    (taken_size h site.limits.batch_files (capacity_of site v - used_bytes h v) (queue_of site h direction.Archive (pool_of_tape site v)))

-- ---- what a Claim takes on a tape

abbrev pub writes_on : ℕ → Mount → Bool
writes_on v x = same_direction x.direction direction.Archive && x.tape == v

pub batch_fits : (site : Site) (h : History) (t v : ℕ) (x : Mount) (items : List Item) → items ≡ batch_of site h t x → writes_on v x ≡ true → size_of_items items ≤ capacity_of site v - used_bytes h v
batch_fits site h t v x items is test =
    let parts : (same_direction x.direction direction.Archive ≡ true) × (x.tape == v ≡ true) = and_parts _ _ test in
    let way : x.direction ≡ direction.Archive = same_way x.direction direction.Archive parts.0 in
    let tape : x.tape ≡ v = eqb-true x.tape v parts.1 in
    let made : items ≡ batch_by site h t direction.Archive v = is ∙ ap (λ (w : Direction). batch_by site h t w x.tape) way ∙ ap (batch_by site h t direction.Archive) tape in
    subst (λ (xs : List Item). size_of_items xs ≤ capacity_of site v - used_bytes h v) (sym made) (written_fits site h t v)

pub if_claim : (b : Bool) (n room : ℕ) → (b ≡ true → n ≤ room) → (if b then n else 0) ≤ room
if_claim true n room fits = fits refl
if_claim false n room fits = omega arith

pub took_fits : (site : Site) (h : History) (t v : ℕ) (k : Ask) (a : Answer) → a ≡ answer_of site h t k → if_asked (writes_on v) h k (took k a) ≤ capacity_of site v - used_bytes h v
took_fits site h t v (ask.Claim m) (answer.Batch items evicted) is =
    let b : IsBatch site h (moment_of h t) (mount_of h m) items.items = claim_is_batch site h t m items evicted is in
    if_claim (is_mount (writes_on v) (mount_of h m)) (size_of_items items.items) (capacity_of site v - used_bytes h v)
    (λ test. batch_fits site h (moment_of h t) v b.0 items.items b.2 (subst (λ (o : Option Mount). is_mount (writes_on v) o ≡ true) b.1 test))
took_fits site h t v k a is = if_claim (is_mount (writes_on v) (mount_of h (asked_mount k))) 0 (capacity_of site v - used_bytes h v) (λ test. omega arith)

-- ---- what a Flushed puts on a tape

pub put_on : History → ℕ → Ask → ℕ
put_on h v (ask.Flushed m items) = if tape_of_mount h m == v then size_of_items items.items else 0
put_on h v _ = 0

pub size_append : (xs ys : List Item) → size_of_items (xs ++ ys) ≡ size_of_items xs + size_of_items ys
size_append xs ys = rw (size_is (xs ++ ys), size_is xs, size_is ys) (total_append size_in xs ys)

pub tape_size : (h : History) (v : ℕ) (k : Ask) (before : List Item) → size_of_items (items_after k v (tape_of_mount h (asked_mount k)) before) ≤ size_of_items before + put_on h v k
unfolding put_on
tape_size h v (ask.Flushed m items) before =
    elim (bool_cases (tape_of_mount h m == v)) [ inl hit ↦ rw hit (omega (arith, size_append before items.items)) | inr miss ↦ rw miss (omega arith) ]
tape_size h v (ask.Reclaim who u) before =
    elim (bool_cases (u == v)) [ inl hit ↦ rw hit (omega arith) | inr miss ↦ rw miss (omega arith) ]
tape_size h v _ before = omega arith

pub mount_gives : (o : Option Mount) (v n : ℕ) → IsMountOf direction.Archive o → (if tape_by o == v then n else 0) ≤ (if is_mount (writes_on v) o then n else 0)
mount_gives None v n way = absurd way
mount_gives (Some x) v n way = subst (λ (w : Direction). (if x.tape == v then n else 0) ≤ (if same_direction w direction.Archive && x.tape == v then n else 0)) (sym way) (same (if x.tape == v then n else 0))
  where
    same : (m : ℕ) → m ≤ m
    same m = omega arith

pub put_gives : (site : Site) (h : History) (v : ℕ) (k : Ask) → IsFit site h k → put_on h v k ≤ if_asked (writes_on v) h k (gave h k)
unfolding put_on
put_gives site h v (ask.Flushed m items) fit = mount_gives (mount_of h m) v (size_of_items items.items) fit
put_gives site h v _ fit = omega arith

pub tapes_have_room : TapesHaveRoom
tapes_have_room site [] legal v = omega arith
tapes_have_room site (e ∷ h) legal v =
    let before : used_bytes h v ≤ capacity_of site v = tapes_have_room site h legal.0 v in
    let change : claimed_total (writes_on v) (e ∷ h) + if_asked (writes_on v) h e.ask (gave h e.ask) ≤ claimed_total (writes_on v) h + if_asked (writes_on v) h e.ask (took e.ask e.answer) = claimed_step_total (writes_on v) site h e legal in
    let tape : size_of_items (tape_items (e ∷ h) v) ≤ size_of_items (tape_items h v) + put_on h v e.ask = tape_size h v e.ask (tape_items h v) in
    let gives : put_on h v e.ask ≤ if_asked (writes_on v) h e.ask (gave h e.ask) = put_gives site h v e.ask legal.1.fit in
    let fits : if_asked (writes_on v) h e.ask (took e.ask e.answer) ≤ capacity_of site v - used_bytes h v = took_fits site h e.at v e.ask e.answer legal.1.answered in
    within (size_of_items (tape_items (e ∷ h) v)) (claimed_total (writes_on v) (e ∷ h)) (size_of_items (tape_items h v)) (claimed_total (writes_on v) h) (put_on h v e.ask) (if_asked (writes_on v) h e.ask (gave h e.ask)) (if_asked (writes_on v) h e.ask (took e.ask e.answer)) (capacity_of site v) before change tape gives fits
  where
    within : (tape now was claimed put given taken room : ℕ) → was + claimed ≤ room → now + given ≤ claimed + taken → tape ≤ was + put → put ≤ given → taken ≤ room - (was + claimed) → tape + now ≤ room
    within tape now was claimed put given taken room a b c d e = omega arith
