-- What an accepted ask is answered, ask by ask.
use Rattle.std.proofs.Common.{◌≡◌, ℕ, ◌+◌, List, [], ◌∷◌, ◌++◌, Bool, true, false, not, refl, length, ◌⊎◌, inl, inr, subst, arith}
use Rattle.std.specs.Prelude.{Option, Some, None, is_some, is_none, if◌then◌else◌, ◌&&◌, map, nat_le, nat_lt}
use Rattle.std.specs.List.{list_any}
use Rattle.cta_site.specs.declared.site.Site.{Site}
use Rattle.cta_site.specs.Listed.{rows, Listed}
use Rattle.cta_site.specs.Lookups.{class_of}
use Rattle.cta_site.specs.Paths.{is_path}
use Rattle.cta_model.specs.declared.asks.Ask.{Ask}
use Rattle.cta_model.specs.declared.asks.Item.{Item}
use Rattle.cta_model.specs.declared.answers.Answer.{Answer}
use Rattle.cta_model.specs.declared.answers.Refusal.{Refusal}
use Rattle.cta_model.specs.declared.states.Mount.{Mount}
use Rattle.cta_model.specs.declared.states.Candidate.{Candidate}
use Rattle.cta_model.specs.History.{History, moment_of, is_empty}
use Rattle.cta_model.specs.Files.{live_file}
use Rattle.cta_model.specs.Mounts.{mount_of, is_open, is_mounted, is_busy, is_down, claimed_items, last_batch, item_jobs}
use Rattle.cta_model.specs.Tapes.{tape_state, is_broken, may_be_repacked, size_of_items}
use Rattle.cta_model.specs.Stages.{StageRequest, request_of}
use Rattle.cta_model.specs.Repacks.{is_repack_live}
use Rattle.cta_model.specs.Space.{free_space, evictable_size, evicted_for}
use Rattle.cta_model.specs.Pins.{is_pinned}
use Rattle.cta_model.specs.Choice.{mount_choice}
use Rattle.cta_model.specs.Batches.{batch_of}
use Rattle.cta_model.specs.Answers.{refuse, answer_of, light_answer, is_accepted, is_too_heavy, request_answer, mounted, claim_by, batch_answer, is_known, is_last_batch, fate_of, on_free_tape, retried_jobs}
use Rattle.cta_model.specs.RepackItems.{repack_items}
use Rattle.cta_model.specs.Places.{live_items_on}
use Rattle.std.proofs.lemmas.Bool.{and_parts}
use Rattle.cta_model.specs.Buffer.{evicts}
use Rattle.cta_laws.proofs.QuotaLaw.{not_true}
use Rattle.cta_laws.proofs.LostLaw.{evicts_may}
use Rattle.cta_laws.proofs.Tests.{not_false}
use Rattle.cta_model.specs.declared.asks.Direction.{Direction}
use Rattle.cta_model.specs.declared.asks.Fault.{Fault}
use Rattle.cta_model.specs.declared.asks.Job.{Job}
use Rattle.cta_model.specs.Legal.{IsFaultOf, IsMount}
use Rattle.cta_model.specs.Jobs.{is_live_job}
use Rattle.cta_model.specs.declared.asks.Ask.TheVariants as ask
use Rattle.cta_model.specs.declared.answers.Answer.TheVariants as answer
use Rattle.cta_model.specs.declared.answers.Refusal.TheVariants as refusal
use Rattle.cta_model.specs.declared.asks.Direction.TheVariants as direction
use Rattle.cta_model.specs.declared.asks.Fate.TheVariants as fate
use Rattle.cta_model.specs.declared.asks.Fault.TheVariants as fault
use Rattle.cta_laws.specs.Asks.{AnswerIs, AsksAreAnswered}

-- an accepted answer was not refused
pub past : (r : Refusal) (t : Bool) (a b : Answer) → b ≡ refuse r t a → is_accepted b ≡ true → (t ≡ false) × (b ≡ a)
past r true a b e y = absurd (cc)
past r false a b e y = (refl, e)

pub request_is : (o : Option StageRequest) (paths : List (List ℕ)) (a : Answer) → a ≡ request_answer o paths → is_accepted a ≡ true → (a ≡ answer.Done) × (is_some o ≡ true)
request_is None paths a e y = absurd (cc)
request_is (Some r) paths a e y = ((past refusal.ForeignPath _ answer.Done a e y).1, refl)

pub next_is : (site : Site) (h : History) (t d : ℕ) (down busy : Bool) (o : Option Candidate) (a : Answer) → a ≡ (if down then answer.DriveDown else if busy then answer.DriveBusy else mounted (length h + 1) o) → is_accepted a ≡ true → (c : Candidate) × (o ≡ Some c) × (a ≡ answer.Mounted (length h + 1) c.direction c.tape)
next_is site h t d true busy o a e y = absurd (cc)
next_is site h t d false true o a e y = absurd (cc)
next_is site h t d false false None a e y = absurd (cc)
next_is site h t d false false (Some c) a e y = (c, refl, e)

pub claim_is : (site : Site) (h : History) (t : ℕ) (o : Option Mount) (a : Answer) → a ≡ claim_by site h t o → is_accepted a ≡ true → (x : Mount) × (o ≡ Some x) × (a ≡ batch_answer site h t x.direction (batch_of site h t x))
claim_is site h t None a e y = absurd (cc)
claim_is site h t (Some x) a e y = (x, refl, e)

pub free_tape : (site : Site) (h : History) (v : ℕ) (x a : Answer) → a ≡ on_free_tape site h v x → is_accepted a ≡ true → (a ≡ x) × (is_mounted h v ≡ false) × (is_broken (tape_state site h v) ≡ false)
free_tape site h v x a e y =
    let p = past refusal.NoTape (nat_le (length site.tapes.items) v) _ a e y in
    let q = past refusal.TapeMounted (is_mounted h v) _ a p.1 y in
    let r = past refusal.TapeBroken (is_broken (tape_state site h v)) x a q.1 y in
    (r.1, q.0, r.0)

pub light_is : (site : Site) (h : History) (t : ℕ) (k : Ask) (a : Answer) → a ≡ light_answer site h t k → is_accepted a ≡ true → AnswerIs site h t k a
light_is site h t (ask.Put who path sum) a e y =
    let p = past refusal.BadPath (not (is_path path)) _ a e y in
    let q = past refusal.NoDirectory (is_none (class_of site path)) _ a p.1 y in
    let r = past refusal.PathTaken (is_some (live_file h path)) _ a q.1 y in
    let s = past refusal.NoSpace (nat_lt (free_space site h + evictable_size site h t) sum.len) (answer.Stored (rows (evicted_for site h t sum.len))) a r.1 y in
    (s.1, r.0, s.0)
light_is site h t (ask.Delete who path) a e y = (let p = past refusal.NoFile (is_none (live_file h path)) answer.Done a e y in (p.1, p.0))
light_is site h t (ask.Stage who files) a e y = e
light_is site h t (ask.Cancel who id paths) a e y = request_is (request_of site h id) paths.items a e y
light_is site h t (ask.DropStage who id) a e y = (let p = past refusal.NoRequest (is_none (request_of site h id)) answer.Done a e y in (p.1, p.0))
light_is site h t (ask.Release who id paths) a e y = request_is (request_of site h id) paths.items a e y
light_is site h t (ask.Next d) a e y = (let p = past refusal.NoDrive (nat_le (length site.drives.items) d) _ a e y in next_is site h t d (is_down h d) (is_busy h d) (mount_choice site h t d) a p.1 y)
light_is site h t (ask.Claim m) a e y = (let p = past refusal.Unknown (not (is_open h m)) _ a e y in claim_is site h t (mount_of h m) a p.1 y)
light_is site h t (ask.Flushed m items) a e y = (past refusal.Unknown (not (is_known h m (item_jobs items.items) && is_last_batch (last_batch h m) items.items)) _ a e y).1
light_is site h t (ask.Recalled m job) a e y = (past refusal.Unknown (not (is_known h m (job ∷ []))) _ a e y).1
light_is site h t (ask.Failed m fault charged returned) a e y = (past refusal.Unknown (not (is_known h m (charged.items ++ returned.items))) answer.Done a e y).1
light_is site h t (ask.End m fault) a e y = (past refusal.Unknown (not (is_open h m && is_empty (claimed_items h m))) answer.Done a e y).1
light_is site h t (ask.DriveUp who d) a e y = (past refusal.NoDrive (nat_le (length site.drives.items) d) answer.Done a e y).1
light_is site h t (ask.DriveDown who d) a e y = (past refusal.NoDrive (nat_le (length site.drives.items) d) answer.Done a e y).1
light_is site h t (ask.TapeState who v s) a e y = free_tape site h v answer.Done a e y
light_is site h t (ask.Reclaim who v) a e y =
    let f = free_tape site h v _ a e y in
    let p = past refusal.LiveFiles (not (is_empty (live_items_on h v))) answer.Done a f.0 y in
    (p.1, f.1, not_false _ p.0)
light_is site h t (ask.Repack who v) a e y =
    let p = past refusal.NoTape (nat_le (length site.tapes.items) v) _ a e y in
    let q = past refusal.NotRepacking (not (may_be_repacked (tape_state site h v))) _ a p.1 y in
    let r = past refusal.RepackLive (is_repack_live site h v) _ a q.1 y in
    (r.1, not_false _ q.0, r.0)
light_is site h t (ask.Retry who paths) a e y = (past refusal.NoFile (list_any (λ p. is_none (live_file h p)) paths.items) _ a e y).1

-- what an accepted ask is answered
pub answer_is : (site : Site) (h : History) (t : ℕ) (k : Ask) (a : Answer) → a ≡ answer_of site h t k → is_accepted a ≡ true → AnswerIs site h (moment_of h t) k a
answer_is site h t k a e y = light_is site h (moment_of h t) k a (past refusal.HistoryFull (is_too_heavy site h k (light_answer site h (moment_of h t) k)) (light_answer site h (moment_of h t) k) a e y).1 y

-- what an answer lists as evicted was not pinned
pub evicts_unpinned : (site : Site) (h : History) (t : ℕ) (k : Ask) (a : Answer) (f : ℕ) → a ≡ answer_of site h t k → evicts k a f ≡ true → is_pinned site h (moment_of h t) f ≡ false
evicts_unpinned site h t k a f is e = not_true _ (and_parts (not (is_pinned site h (moment_of h t) f)) _ (evicts_may site h t k a f is e)).0

-- ---- what an accepted ask found

pub some_file : (o : Option ℕ) → is_none o ≡ false → (f : ℕ) × (o ≡ Some f)
some_file None e = absurd (cc)
some_file (Some f) e = (f, refl)

pub some_request : (o : Option StageRequest) → is_none o ≡ false → (r : StageRequest) × (o ≡ Some r)
some_request None e = absurd (cc)
some_request (Some r) e = (r, refl)

pub some_mount : (o : Option Mount) → IsMount o → (x : Mount) × (o ≡ Some x)
some_mount None is = absurd is
some_mount (Some x) is = (x, refl)

pub some_batch : (site : Site) (h : History) (t : ℕ) (way : Direction) (b : List Item) (a : Answer) → a ≡ batch_answer site h t way b → is_accepted a ≡ true → (items : Listed Item) × (evicted : Listed ℕ) × (a ≡ answer.Batch items evicted)
some_batch site h t way [] a e y = absurd (cc)
some_batch site h t direction.Archive (i ∷ b) a e y = (rows (i ∷ b), rows [], e)
some_batch site h t direction.Retrieve (i ∷ b) a e y = (rows (i ∷ b), rows (evicted_for site h t (size_of_items (i ∷ b))), e)

-- a Failed is of a mount
pub failed_mount : (x : Fault) (o : Option Mount) → IsFaultOf x o → (y : Mount) × (o ≡ Some y)
failed_mount x (Some y) is = (y, refl)
failed_mount fault.Write None is = absurd is
failed_mount fault.Flush None is = absurd is
failed_mount fault.Read None is = absurd is
failed_mount (fault.Mismatch found wanted) None is = absurd is
failed_mount fault.Load None is = absurd is
failed_mount fault.Unload None is = absurd is

-- a file that was read arrives, or comes too late
pub fate_by : (site : Site) (h : History) (job : Job) → (fate_of site h job ≡ fate.Done) ⊎ (fate_of site h job ≡ fate.Stale)
fate_by site h job = by (is_live_job site h job)
  where
    by : (b : Bool) → ((if b then fate.Done else fate.Stale) ≡ fate.Done) ⊎ ((if b then fate.Done else fate.Stale) ≡ fate.Stale)
    by true = inl refl
    by false = inr refl

pub asks_are_answered : AsksAreAnswered
asks_are_answered site h e legal = subst (λ (t : ℕ). AnswerIs site h t e.ask e.answer) (omega (arith, legal.1.later)) (answer_is site h e.at e.ask e.answer legal.1.answered legal.1.accepted)
