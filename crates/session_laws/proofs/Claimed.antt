-- After a Next and a Claim a session fits the history behind the ask.
use Rattle.std.proofs.Common.{◌≡◌, ℕ, ◌+◌, ◌≤◌, ◌<◌, inl, inr, List, [], ◌∷◌, ◌++◌, Bool, true, false, refl, sym, subst, ◌∙◌, ap, arith, length}
use Rattle.std.specs.Prelude.{Option, Some, None, IfSome, ◌==◌, if◌then◌else◌, map}
use Rattle.std.proofs.lemmas.Bool.{eq-eqb}
use Rattle.blob.specs.declared.sum.Sum256.{Sum256}
use Rattle.blob.specs.Records.{MediumView, TapeRecords}
use Rattle.cta_site.specs.declared.site.Site.{Site}
use Rattle.cta_site.specs.Listed.{Listed}
use Rattle.cta_model.specs.declared.answers.Answer.{Answer}
use Rattle.cta_model.specs.declared.answers.Answer.TheVariants as answer
use Rattle.cta_model.specs.declared.asks.Ask.TheVariants as ask
use Rattle.cta_model.specs.declared.asks.Direction.{Direction}
use Rattle.cta_model.specs.declared.asks.Direction.TheVariants as direction
use Rattle.cta_model.specs.declared.asks.Item.{Item}
use Rattle.cta_model.specs.declared.asks.Job.{Job}
use Rattle.cta_model.specs.declared.entries.Entry.{Entry}
use Rattle.cta_model.specs.declared.hands.Hand.{Hand}
use Rattle.cta_model.specs.declared.hands.Hand.TheVariants as hand
use Rattle.cta_model.specs.declared.states.Mount.{Mount}
use Rattle.cta_model.specs.Answers.{answer_of, is_accepted, is_last_batch, names_twice}
use Rattle.cta_model.specs.Batches.{batch_by, written_items}
use Rattle.cta_model.specs.Hands.{BatchHand, HandBack}
use Rattle.cta_model.specs.History.{History, moment_of}
use Rattle.cta_model.specs.Legal.{IsLegal, new_entry}
use Rattle.cta_model.specs.Media.{IsMediumOf, IsTrueMedium}
use Rattle.cta_model.specs.Mounts.{batch_or, claimed_items, has_job, is_open, item_jobs, last_batch, mount_of, same_job}
use Rattle.cta_model.specs.Tapes.{next_fseq}
use Rattle.cta_laws.specs.Jobs.{count_job}
use Rattle.cta_laws.specs.Places.{IsOfItsFile}
use Rattle.cta_laws.proofs.Accepted.{answer_is}
use Rattle.cta_laws.proofs.ClaimedOnce.{claim_count}
use Rattle.cta_laws.proofs.Claims.{AllOf, claim_is_batch}
use Rattle.cta_laws.proofs.ItemLaw.{flushed_of_files}
use Rattle.cta_laws.proofs.LengthLaw.{claimed_new}
use Rattle.cta_laws.proofs.MediaLaw.{true_medium_stays}
use Rattle.cta_laws.proofs.OpenMounts.{mount_newest}
use Rattle.cta_laws.proofs.Tests.{bool_cases, or_left}
use Rattle.drive_session.specs.declared.states.Mounted.{Mounted}
use Rattle.drive_session.specs.declared.states.State.TheVariants as state
use Rattle.drive_session.specs.Answers.{batch_by as batch_leads, claimed_state, next_state}
use Rattle.drive_session.specs.Fits.{FitsState, IsAt, IsBatch, IsReading, IsRest}
use Rattle.drive_session.specs.Records.{AreNumbered, AreOfFiles, AreSafe, blob_sums}
use Rattle.session_laws.proofs.Answered.{at_next, here}
use Rattle.session_laws.proofs.Fit.{same_items_self}
use Rattle.session_laws.proofs.Sources.{batch_safe}
use Rattle.drive_session.proofs.Resolving.{same_self}

-- ---- a Next

mounted_number : (m n : ℕ) (way way' : Direction) (v v' : ℕ) → answer.Mounted m way v ≡ answer.Mounted n way' v' → m ≡ n
mounted_number m n way way' v v' e = cc

mounted_next : {M : Type 0} (told : M → MediumView) (site : Site) (h : History) (t d k m : ℕ) (way : Direction) (v : ℕ) (y : M) → k ≡ d → answer.Mounted m way v ≡ answer_of site h t (ask.Next k) → IsLegal site h
    → IsMediumOf (new_entry h t (ask.Next k) (answer.Mounted m way v) ∷ h) v (told y) → IsRest told (new_entry h t (ask.Next k) (answer.Mounted m way v) ∷ h) d (record { mount = m; direction = way; tape = v; medium = y })
mounted_next told site h t d k m way v y same answered legal truth =
    let e : Entry = new_entry h t (ask.Next k) (answer.Mounted m way v) in
    let is = answer_is site h t (ask.Next k) (answer.Mounted m way v) answered refl in
    let number : m ≡ length h + 1 = mounted_number m (length h + 1) way is.0.direction v is.0.tape is.2 in
    record {
      at = record {
        mount = record {
          still = or_left (m == length h + 1) _ (eq-eqb m (length h + 1) number);
          mount = ap (mount_of (e ∷ h)) number ∙ mount_newest e h ∙ ap (λ (n : ℕ). Some (record { drive = n; direction = way; tape = v })) same;
        };
        medium = truth;
      };
      claims = claimed_new site h legal m (omega (arith, number));
    }

pub next_fits : {M : Type 0} (told : M → MediumView) (site : Site) (h : History) (t d k : ℕ) (q out : Hand M) (b : Answer) → k ≡ d → d < length site.drives.items → IsLegal site h → b ≡ answer_of site h t (ask.Next k)
    → HandBack told (is_accepted b) h (if is_accepted b then new_entry h t (ask.Next k) b ∷ h else h) (ask.Next k) b q out → FitsState told site (if is_accepted b then new_entry h t (ask.Next k) b ∷ h else h) d (next_state b out)
next_fits told site h t d k q (hand.Medium y) (answer.Mounted m way v) same known legal answered back = record { known = known; state = mounted_next told site h t d k m way v y same answered legal back }
next_fits told site h t d k q hand.Nothing (answer.Mounted m way v) same known legal answered back = absurd back
next_fits told site h t d k q (hand.Blob x) (answer.Mounted m way v) same known legal answered back = absurd back
next_fits told site h t d k q (hand.Blobs x) (answer.Mounted m way v) same known legal answered back = absurd back
next_fits told site h t d k q out _ same known legal answered back = record { known = known; state = tt }

-- ---- a Claim that gets no batch

-- a mount that claims nothing is left, whether an entry was added or not
left_fits : {M : Type 0} (told : M → MediumView) (site : Site) (h : History) (d : ℕ) (x : Mounted M) (e : Entry) (accepted : Bool) → d < length site.drives.items → (accepted ≡ true → IsLegal site (e ∷ h)) → is_open (e ∷ h) x.mount ≡ is_open h x.mount
    → claimed_items (e ∷ h) x.mount ≡ claimed_items h x.mount → ((legal : IsLegal site (e ∷ h)) (t : TapeRecords) → IsTrueMedium h x.tape t → IsTrueMedium (e ∷ h) x.tape t) → IsRest told h d x → FitsState told site (if accepted then e ∷ h else h) d (state.Leaving x)
left_fits told site h d x e true known legal still claims stays is = record { known = known; state = record { at = at_next told e h d x still (stays (legal refl)) is.at; claims = claims ∙ is.claims } }
left_fits told site h d x e false known legal still claims stays is = record { known = known; state = is }

-- ---- a batch

-- a job that comes at most once is not named twice
job_count : (j : Job) (js : List Job) → has_job j js ≡ true → 1 ≤ count_job j js
job_count j [] e = absurd (cc)
job_count j (k ∷ js) e =
    elim (bool_cases (same_job j k)) [
      | inl hit ↦ rw hit (omega arith)
      | inr miss ↦ (let rest = job_count j js (rw miss at e) in rw miss (omega (arith, rest)))
    ]

once_by : (js : List Job) → ((j : Job) → count_job j js ≤ 1) → names_twice js ≡ false
once_by [] once = refl
once_by (j ∷ js) once =
    elim (bool_cases (has_job j js)) [
      | inl hit ↦
          (let more = job_count j js hit in
          let one : 1 + count_job j js ≤ 1 = subst (λ b. (if b then 1 else 0) + count_job j js ≤ 1) (same_self j) (once j) in
          absurd (omega (arith, more, one)))
      | inr miss ↦ rw miss (once_by js (λ k. (let o = once k in omega (arith, o))))
    ]

written_numbered : (h : History) (s : ℕ) (js : List Job) → AreNumbered s (written_items h s js)
written_numbered h s [] = tt
written_numbered h s (j ∷ js) = (refl, written_numbered h (s + 1) js)

batch_numbered : (site : Site) (h : History) (t : ℕ) (way : Direction) (v : ℕ) → way ≡ direction.Archive → AreNumbered (next_fseq h v) (batch_by site h t way v)
batch_numbered site h t direction.Archive v e = written_numbered h (next_fseq h v) _
batch_numbered site h t direction.Retrieve v e = absurd (cc)

all_files : (h : History) (items : List Item) → AllOf (IsOfItsFile h) items → AreOfFiles h items
all_files h [] all = tt
all_files h (i ∷ items) all = (all.0.0, all.0.1, all_files h items all.1)

mount_same : (x y : Mount) → Some x ≡ Some y → x ≡ y
mount_same x y e = cc

archive_reads : direction.Archive ≡ direction.Retrieve → ⊥
archive_reads e = cc

-- the history with the entry of a Claim
abbrev claimed : History → ℕ → ℕ → Listed Item → Listed ℕ → History
claimed h t m items evicted = new_entry h t (ask.Claim m) (answer.Batch items evicted) ∷ h

-- what a batch is, that the mount x has claimed as m
record IsTaken {M : Type 0} (told : M → MediumView) (site : Site) (h : History) (t d m : ℕ) (x : Mounted M) (items : Listed Item) (evicted : Listed ℕ) : Type 0 where
  same : m ≡ x.mount
  answered : answer.Batch items evicted ≡ answer_of site h t (ask.Claim m)
  legal : IsLegal site (claimed h t m items evicted)
  rest : IsRest told h d x

taken_at : {M : Type 0} (told : M → MediumView) (site : Site) (h : History) (t d m : ℕ) (x : Mounted M) (items : Listed Item) (evicted : Listed ℕ) → IsTaken told site h t d m x items evicted → IsAt told (claimed h t m items evicted) d x
taken_at told site h t d m x items evicted is =
    let e : Entry = new_entry h t (ask.Claim m) (answer.Batch items evicted) in
    at_next told e h d x refl (λ r. true_medium_stays site h e x.tape r is.legal refl) is.rest.at

taken_claims : {M : Type 0} (told : M → MediumView) (site : Site) (h : History) (t d m : ℕ) (x : Mounted M) (items : Listed Item) (evicted : Listed ℕ) → IsTaken told site h t d m x items evicted → claimed_items (claimed h t m items evicted) x.mount ≡ items.items
taken_claims told site h t d m x items evicted is =
    subst (λ (k : ℕ). claimed_items (claimed h t m items evicted) k ≡ items.items) is.same
    (here m (claimed_items h m ++ items.items) (claimed_items h m) ∙ ap (λ (k : ℕ). claimed_items h k ++ items.items) is.same ∙ ap (λ xs. xs ++ items.items) is.rest.claims)

taken_last : {M : Type 0} (told : M → MediumView) (site : Site) (h : History) (t d m : ℕ) (x : Mounted M) (items : Listed Item) (evicted : Listed ℕ) → IsTaken told site h t d m x items evicted → last_batch (claimed h t m items evicted) x.mount ≡ Some items.items
taken_last told site h t d m x items evicted is =
    subst (λ (k : ℕ). last_batch (claimed h t m items evicted) k ≡ Some items.items) is.same (ap (λ o. batch_or o (last_batch h m)) (here m (Some items.items) None))

taken_files : {M : Type 0} (told : M → MediumView) (site : Site) (h : History) (t d m : ℕ) (x : Mounted M) (items : Listed Item) (evicted : Listed ℕ) → IsTaken told site h t d m x items evicted → AreOfFiles (claimed h t m items evicted) items.items
taken_files told site h t d m x items evicted is =
    let last = taken_last told site h t d m x items evicted is in
    let known : is_last_batch (last_batch (claimed h t m items evicted) x.mount) items.items ≡ true = ap (λ o. is_last_batch o items.items) last ∙ same_items_self items.items in
    all_files (claimed h t m items evicted) items.items (flushed_of_files site (claimed h t m items evicted) is.legal x.mount items.items _ refl known)

-- the items are those of the tape's batch
taken_batch : {M : Type 0} (told : M → MediumView) (site : Site) (h : History) (t d m : ℕ) (x : Mounted M) (items : Listed Item) (evicted : Listed ℕ) → IsTaken told site h t d m x items evicted → items.items ≡ batch_by site h (moment_of h t) x.direction x.tape
taken_batch told site h t d m x items evicted is =
    let b = claim_is_batch site h t m items evicted is.answered in
    let mount : b.0 ≡ record { drive = d; direction = x.direction; tape = x.tape } = mount_same _ _ (sym b.1 ∙ ap (mount_of h) is.same ∙ is.rest.at.mount.mount) in
    b.2 ∙ ap (λ (z : Mount). batch_by site h (moment_of h t) z.direction z.tape) mount

taken_once : {M : Type 0} (told : M → MediumView) (site : Site) (h : History) (t d m : ℕ) (x : Mounted M) (items : Listed Item) (evicted : Listed ℕ) → IsTaken told site h t d m x items evicted → names_twice (item_jobs items.items) ≡ false
taken_once told site h t d m x items evicted is = once_by (item_jobs items.items) (claim_count site h is.legal.0 t m items evicted is.answered)

-- a batch to be written
written_fits : {M : Type 0} (told : M → MediumView) (site : Site) (h : History) (t d m : ℕ) (x : Mounted M) (items : Listed Item) (evicted : Listed ℕ) (sums : List Sum256) → IsTaken told site h t d m x items evicted → x.direction ≡ direction.Archive → 0 < length items.items → sums ≡ map (λ (i : Item). i.sum) items.items
    → IsBatch told (claimed h t m items evicted) d x items.items sums
written_fits told site h t d m x items evicted sums is way some blobs = record {
  at = taken_at told site h t d m x items evicted is;
  way = way;
  some = some;
  claims = taken_claims told site h t d m x items evicted is;
  last = taken_last told site h t d m x items evicted is;
  once = taken_once told site h t d m x items evicted is;
  numbered = subst (λ (xs : List Item). AreNumbered (next_fseq h x.tape) xs) (sym (taken_batch told site h t d m x items evicted is)) (batch_numbered site h (moment_of h t) x.direction x.tape way);
  files = taken_files told site h t d m x items evicted is;
  blobs = blobs;
}

-- a batch to be read
safe_items : {M : Type 0} (told : M → MediumView) (site : Site) (h : History) (t d m : ℕ) (x : Mounted M) (items : Listed Item) (evicted : Listed ℕ) (o : Option TapeRecords) → IsTaken told site h t d m x items evicted → x.direction ≡ direction.Retrieve → IfSome o (IsTrueMedium h x.tape) → IfSome o (λ r. AreSafe r items.items)
safe_items told site h t d m x items evicted None is way truth = tt
safe_items told site h t d m x items evicted (Some r) is way truth = batch_safe site h (moment_of h t) x.tape x.direction r items.items way (taken_batch told site h t d m x items evicted is) truth

read_fits : {M : Type 0} (told : M → MediumView) (site : Site) (h : History) (t d m : ℕ) (x : Mounted M) (items : Listed Item) (evicted : Listed ℕ) → IsTaken told site h t d m x items evicted → x.direction ≡ direction.Retrieve → IsReading told (claimed h t m items evicted) d x items.items
read_fits told site h t d m x items evicted is way = record {
  unread = record {
    at = taken_at told site h t d m x items evicted is;
    way = way;
    once = taken_once told site h t d m x items evicted is;
    files = taken_files told site h t d m x items evicted is;
    safe = safe_items told site h t d m x items evicted (told x.medium).records is way is.rest.at.medium.truth;
  };
  claims = taken_claims told site h t d m x items evicted is;
}

-- where a batch leads, the session fits
batch_fits : {M : Type 0} (told : M → MediumView) (site : Site) (h : History) (t d m : ℕ) (x : Mounted M) (items : Listed Item) (evicted : Listed ℕ) (way : Direction) (is : List Item) (out : Hand M) → d < length site.drives.items → x.direction ≡ way → items.items ≡ is → IsTaken told site h t d m x items evicted
    → BatchHand (Some (record { drive = d; direction = way; tape = x.tape })) items.items out → FitsState told site (claimed h t m items evicted) d (batch_leads way is x items out)
batch_fits told site h t d m x items evicted way [] out known goes none is back = record { known = known; state = record { at = taken_at told site h t d m x items evicted is; claims = taken_claims told site h t d m x items evicted is ∙ none } }
batch_fits told site h t d m x items evicted direction.Archive (i ∷ rest) (hand.Blobs blobs) known goes some is back =
    record { known = known; state = written_fits told site h t d m x items evicted (blob_sums blobs.items) is goes (let n : length items.items ≡ length (i ∷ rest) = ap length some in omega (arith, n)) back.1 }
batch_fits told site h t d m x items evicted direction.Archive (i ∷ rest) hand.Nothing known goes some is back = absurd (archive_reads back)
batch_fits told site h t d m x items evicted direction.Archive (i ∷ rest) (hand.Blob y) known goes some is back = absurd back
batch_fits told site h t d m x items evicted direction.Archive (i ∷ rest) (hand.Medium y) known goes some is back = absurd back
batch_fits told site h t d m x items evicted direction.Retrieve (i ∷ rest) out known goes some is back = record { known = known; state = read_fits told site h t d m x items evicted is goes }

pub claim_fits : {M : Type 0} (told : M → MediumView) (site : Site) (h : History) (t d m : ℕ) (x : Mounted M) (q out : Hand M) (b : Answer) → m ≡ x.mount → d < length site.drives.items → (is_accepted b ≡ true → IsLegal site (new_entry h t (ask.Claim m) b ∷ h)) → b ≡ answer_of site h t (ask.Claim m) → IsRest told h d x
    → HandBack told (is_accepted b) h (if is_accepted b then new_entry h t (ask.Claim m) b ∷ h else h) (ask.Claim m) b q out → FitsState told site (if is_accepted b then new_entry h t (ask.Claim m) b ∷ h else h) d (claimed_state x b out)
claim_fits told site h t d m x q out (answer.Batch items evicted) same known legal answered rest back =
    batch_fits told site h t d m x items evicted x.direction items.items out known refl refl (record { same = same; answered = answered; legal = legal refl; rest = rest })
    (subst (λ o. BatchHand o items.items out) (ap (mount_of h) same ∙ rest.at.mount.mount) back)
claim_fits told site h t d m x q out (answer.Stored v) same known legal answered rest back = left_fits told site h d x (new_entry h t (ask.Claim m) (answer.Stored v)) true known legal refl refl (λ legal r. true_medium_stays site h (new_entry h t (ask.Claim m) (answer.Stored v)) x.tape r legal refl) rest
claim_fits told site h t d m x q out answer.Done same known legal answered rest back = left_fits told site h d x (new_entry h t (ask.Claim m) answer.Done) true known legal refl refl (λ legal r. true_medium_stays site h (new_entry h t (ask.Claim m) answer.Done) x.tape r legal refl) rest
claim_fits told site h t d m x q out (answer.Staged v) same known legal answered rest back = left_fits told site h d x (new_entry h t (ask.Claim m) (answer.Staged v)) true known legal refl refl (λ legal r. true_medium_stays site h (new_entry h t (ask.Claim m) (answer.Staged v)) x.tape r legal refl) rest
claim_fits told site h t d m x q out (answer.Mounted k way v) same known legal answered rest back = left_fits told site h d x (new_entry h t (ask.Claim m) (answer.Mounted k way v)) true known legal refl refl (λ legal r. true_medium_stays site h (new_entry h t (ask.Claim m) (answer.Mounted k way v)) x.tape r legal refl) rest
claim_fits told site h t d m x q out answer.Idle same known legal answered rest back = left_fits told site h d x (new_entry h t (ask.Claim m) answer.Idle) false known legal refl refl (λ legal r. true_medium_stays site h (new_entry h t (ask.Claim m) answer.Idle) x.tape r legal refl) rest
claim_fits told site h t d m x q out answer.DriveDown same known legal answered rest back = left_fits told site h d x (new_entry h t (ask.Claim m) answer.DriveDown) false known legal refl refl (λ legal r. true_medium_stays site h (new_entry h t (ask.Claim m) answer.DriveDown) x.tape r legal refl) rest
claim_fits told site h t d m x q out answer.DriveBusy same known legal answered rest back = left_fits told site h d x (new_entry h t (ask.Claim m) answer.DriveBusy) false known legal refl refl (λ legal r. true_medium_stays site h (new_entry h t (ask.Claim m) answer.DriveBusy) x.tape r legal refl) rest
claim_fits told site h t d m x q out answer.Nothing same known legal answered rest back = left_fits told site h d x (new_entry h t (ask.Claim m) answer.Nothing) false known legal refl refl (λ legal r. true_medium_stays site h (new_entry h t (ask.Claim m) answer.Nothing) x.tape r legal refl) rest
claim_fits told site h t d m x q out (answer.Told v) same known legal answered rest back = left_fits told site h d x (new_entry h t (ask.Claim m) (answer.Told v)) true known legal refl refl (λ legal r. true_medium_stays site h (new_entry h t (ask.Claim m) (answer.Told v)) x.tape r legal refl) rest
claim_fits told site h t d m x q out (answer.Arrived v) same known legal answered rest back = left_fits told site h d x (new_entry h t (ask.Claim m) (answer.Arrived v)) true known legal refl refl (λ legal r. true_medium_stays site h (new_entry h t (ask.Claim m) (answer.Arrived v)) x.tape r legal refl) rest
claim_fits told site h t d m x q out (answer.Repacking k v) same known legal answered rest back = left_fits told site h d x (new_entry h t (ask.Claim m) (answer.Repacking k v)) true known legal refl refl (λ legal r. true_medium_stays site h (new_entry h t (ask.Claim m) (answer.Repacking k v)) x.tape r legal refl) rest
claim_fits told site h t d m x q out (answer.Retried v) same known legal answered rest back = left_fits told site h d x (new_entry h t (ask.Claim m) (answer.Retried v)) true known legal refl refl (λ legal r. true_medium_stays site h (new_entry h t (ask.Claim m) (answer.Retried v)) x.tape r legal refl) rest
claim_fits told site h t d m x q out (answer.Bytes v) same known legal answered rest back = left_fits told site h d x (new_entry h t (ask.Claim m) (answer.Bytes v)) true known legal refl refl (λ legal r. true_medium_stays site h (new_entry h t (ask.Claim m) (answer.Bytes v)) x.tape r legal refl) rest
claim_fits told site h t d m x q out (answer.Stage v) same known legal answered rest back = left_fits told site h d x (new_entry h t (ask.Claim m) (answer.Stage v)) true known legal refl refl (λ legal r. true_medium_stays site h (new_entry h t (ask.Claim m) (answer.Stage v)) x.tape r legal refl) rest
claim_fits told site h t d m x q out (answer.Places v) same known legal answered rest back = left_fits told site h d x (new_entry h t (ask.Claim m) (answer.Places v)) true known legal refl refl (λ legal r. true_medium_stays site h (new_entry h t (ask.Claim m) (answer.Places v)) x.tape r legal refl) rest
claim_fits told site h t d m x q out (answer.RepackSeen v) same known legal answered rest back = left_fits told site h d x (new_entry h t (ask.Claim m) (answer.RepackSeen v)) true known legal refl refl (λ legal r. true_medium_stays site h (new_entry h t (ask.Claim m) (answer.RepackSeen v)) x.tape r legal refl) rest
claim_fits told site h t d m x q out (answer.FailedSeen v) same known legal answered rest back = left_fits told site h d x (new_entry h t (ask.Claim m) (answer.FailedSeen v)) true known legal refl refl (λ legal r. true_medium_stays site h (new_entry h t (ask.Claim m) (answer.FailedSeen v)) x.tape r legal refl) rest
claim_fits told site h t d m x q out (answer.TapeSeen v) same known legal answered rest back = left_fits told site h d x (new_entry h t (ask.Claim m) (answer.TapeSeen v)) true known legal refl refl (λ legal r. true_medium_stays site h (new_entry h t (ask.Claim m) (answer.TapeSeen v)) x.tape r legal refl) rest
claim_fits told site h t d m x q out (answer.QueuesSeen v) same known legal answered rest back = left_fits told site h d x (new_entry h t (ask.Claim m) (answer.QueuesSeen v)) true known legal refl refl (λ legal r. true_medium_stays site h (new_entry h t (ask.Claim m) (answer.QueuesSeen v)) x.tape r legal refl) rest
claim_fits told site h t d m x q out (answer.Refused v) same known legal answered rest back = left_fits told site h d x (new_entry h t (ask.Claim m) (answer.Refused v)) false known legal refl refl (λ legal r. true_medium_stays site h (new_entry h t (ask.Claim m) (answer.Refused v)) x.tape r legal refl) rest
