-- Who waits for a live recall, one entry after the other.
use Rattle.std.proofs.Common.{◌≡◌, ℕ, ◌+◌, ◌≤◌, inl, inr, List, [], ◌∷◌, ◌++◌, Bool, true, false, ◌||◌, not, refl, sym, ◌∙◌, ap, arith, length, append-nil, ◌⊎◌}
use Rattle.std.specs.Prelude.{Option, Some, None, is_some, if◌then◌else◌, ◌==◌, ◌&&◌, filter, bytes_eq}
use Rattle.std.proofs.lemmas.Bool.{and_parts, and_from, eqb-true, eq-eqb}
use Rattle.std.proofs.lemmas.List.Folds.{list_any-append}
use Rattle.cta_site.specs.declared.site.Site.{Site}
use Rattle.cta_model.specs.declared.entries.Entry.{Entry}
use Rattle.cta_model.specs.declared.asks.Ask.{Ask}
use Rattle.cta_model.specs.declared.asks.Ask.TheVariants as ask
use Rattle.cta_model.specs.declared.asks.Fate.TheVariants as fate
use Rattle.cta_model.specs.declared.answers.Answer.{Answer}
use Rattle.cta_model.specs.declared.answers.Answer.TheVariants as answer
use Rattle.cta_model.specs.History.{History, has_number, has_text, is_empty}
use Rattle.cta_model.specs.Files.{path_of}
use Rattle.cta_model.specs.Mounts.{same_job}
use Rattle.cta_model.specs.Places.{places_of}
use Rattle.cta_model.specs.Buffer.{is_resident}
use Rattle.cta_model.specs.Charges.{is_last_charge}
use Rattle.cta_model.specs.Recalls.{Recall, live_recall, recall_after, recall_goes_on, recall_job, bears_recall, waits_for, subscribed, left_with, unsubscribed, lives_unless}
use Rattle.cta_model.specs.RepackItems.{waiting_for}
use Rattle.cta_laws.specs.Stages.{takes_path}
use Rattle.cta_laws.proofs.Tests.{bool_cases, or_left, or_right, or_cases}
use Rattle.cta_laws.proofs.Bools.{eq_flip, and_true, and_none, or_none, not_is}
use Rattle.cta_laws.proofs.OnceLaw.{birth_in}
use Rattle.cta_laws.proofs.Frames.{filter_same}

-- ---- the waiting list of a recall that goes on

-- who waits after an ask, where these waited before: not those whose path it takes, and last the entry of the ask, where it waits
abbrev pub waiting_next : Site → History → Ask → ℕ → List ℕ → List ℕ
waiting_next site h k f ws = filter (λ id. not (takes_path k id (path_of h f))) ws ++ (if waits_for site h k f then (length h + 1) ∷ [] else [])

all_stay : (ws : List ℕ) → filter (λ id. true) ws ≡ ws
all_stay [] = refl
all_stay (w ∷ ws) = ap (λ (xs : List ℕ). w ∷ xs) (all_stay ws)

left_waiting : (b : ℕ) (ws : List ℕ) → waiting_for (left_with b ws) ≡ ws
left_waiting b [] = refl
left_waiting b (w ∷ ws) = refl

subscribed_waiting : (b : Bool) (n : ℕ) (r : Recall) → waiting_for (Some (subscribed b n r)) ≡ filter (λ id. true) r.waiting ++ (if b then n ∷ [] else [])
subscribed_waiting true n r = ap (λ (ws : List ℕ). ws ++ n ∷ []) (sym (all_stay r.waiting))
subscribed_waiting false n r = sym (append-nil _ ∙ all_stay r.waiting)

unless_waiting : (b : Bool) (r : Recall) → is_some (lives_unless b r) ≡ true → waiting_for (lives_unless b r) ≡ filter (λ id. true) r.waiting ++ []
unless_waiting true r on = absurd (cc)
unless_waiting false r on = sym (append-nil _ ∙ all_stay r.waiting)

unsubscribed_waiting : (k : ℕ) (r : Recall) (test : ℕ → Bool) → ((id : ℕ) → test id ≡ (k == id)) → waiting_for (unsubscribed k r) ≡ filter (λ id. not (test id)) r.waiting ++ []
unsubscribed_waiting k r test is =
    left_waiting r.birth (filter (λ s. not (s == k)) r.waiting)
    ∙ filter_same (λ s. not (s == k)) (λ id. not (test id)) r.waiting (λ id. ap not (eq_flip id k ∙ sym (is id)))
    ∙ sym (append-nil _)

pub goes_waiting : (site : Site) (h : History) (e : Entry) (f : ℕ) (r : Recall) (k : Ask) (a : Answer) → is_some (recall_goes_on site h e f r k a) ≡ true → waiting_for (recall_goes_on site h e f r k a) ≡ waiting_next site h k f r.waiting
goes_waiting site h e f r (ask.Stage who files) a on = subscribed_waiting (waits_for site h (ask.Stage who files) f) (length h + 1) r
goes_waiting site h e f r (ask.Repack who v) a on = subscribed_waiting (waits_for site h (ask.Repack who v) f) (length h + 1) r
goes_waiting site h e f r (ask.Cancel who k paths) a on =
    elim (bool_cases (has_text (path_of h f) paths.items)) [
      | inl hit ↦ rw hit (unsubscribed_waiting k r (λ id. (k == id && true) || false) (λ id. or_none (k == id && true) ∙ and_true (k == id)))
      | inr miss ↦ rw miss (sym (append-nil _ ∙ filter_same (λ id. not ((k == id && false) || false)) (λ id. true) r.waiting (λ id. ap not (or_none (k == id && false) ∙ and_none (k == id))) ∙ all_stay r.waiting))
    ]
goes_waiting site h e f r (ask.DropStage who k) a on = unsubscribed_waiting k r (λ id. k == id) (λ id. refl)
goes_waiting site h e f r (ask.Recalled m job) (answer.Arrived fate.Done) on = unless_waiting (same_job job (recall_job r.birth f)) r on
goes_waiting site h e f r (ask.Failed m fault charged returned) a on = unless_waiting (is_last_charge site h (ask.Failed m fault charged returned) (recall_job r.birth f)) r on
goes_waiting site h e f r (ask.Delete who path) a on = unless_waiting (bytes_eq path (path_of h f)) r on
goes_waiting site h e f r (ask.TapeState who v s) a on = unless_waiting (is_empty (places_of site (e ∷ h) f)) r on
goes_waiting site h e f r _ a on = sym (append-nil _ ∙ all_stay r.waiting)

-- ---- its birth

subscribed_birth : (b : Bool) (n : ℕ) (r : Recall) → birth_in (Some (subscribed b n r)) ≡ Some r.birth
subscribed_birth true n r = refl
subscribed_birth false n r = refl

left_birth : (b : ℕ) (ws : List ℕ) → is_some (left_with b ws) ≡ true → birth_in (left_with b ws) ≡ Some b
left_birth b [] on = absurd (cc)
left_birth b (w ∷ ws) on = refl

unless_birth : (b : Bool) (r : Recall) → is_some (lives_unless b r) ≡ true → birth_in (lives_unless b r) ≡ Some r.birth
unless_birth true r on = absurd (cc)
unless_birth false r on = refl

pub goes_birth : (site : Site) (h : History) (e : Entry) (f : ℕ) (r : Recall) (k : Ask) (a : Answer) → is_some (recall_goes_on site h e f r k a) ≡ true → birth_in (recall_goes_on site h e f r k a) ≡ Some r.birth
goes_birth site h e f r (ask.Stage who files) a on = subscribed_birth (waits_for site h (ask.Stage who files) f) (length h + 1) r
goes_birth site h e f r (ask.Repack who v) a on = subscribed_birth (waits_for site h (ask.Repack who v) f) (length h + 1) r
goes_birth site h e f r (ask.Cancel who k paths) a on =
    elim (has_text (path_of h f) paths.items) as (λ b. is_some (if b then unsubscribed k r else Some r) ≡ true → birth_in (if b then unsubscribed k r else Some r) ≡ Some r.birth)
    [ true ↦ λ x. left_birth r.birth (filter (λ s. not (s == k)) r.waiting) x | false ↦ λ x. refl ] on
goes_birth site h e f r (ask.DropStage who k) a on = left_birth r.birth (filter (λ s. not (s == k)) r.waiting) on
goes_birth site h e f r (ask.Recalled m job) (answer.Arrived fate.Done) on = unless_birth (same_job job (recall_job r.birth f)) r on
goes_birth site h e f r (ask.Failed m fault charged returned) a on = unless_birth (is_last_charge site h (ask.Failed m fault charged returned) (recall_job r.birth f)) r on
goes_birth site h e f r (ask.Delete who path) a on = unless_birth (bytes_eq path (path_of h f)) r on
goes_birth site h e f r (ask.TapeState who v s) a on = unless_birth (is_empty (places_of site (e ∷ h) f)) r on
goes_birth site h e f r _ a on = refl

-- a recall that goes on, before and behind an entry: it has its birth, and waits for those whose path is not taken and for the entry
pub record GoesOn (site : Site) (h : History) (e : Entry) (f : ℕ) (r r' : Recall) : Type 0 where
  pub birth : r'.birth ≡ r.birth
  pub waiting : r'.waiting ≡ waiting_next site h e.ask f r.waiting

pub goes_on : (site : Site) (h : History) (e : Entry) (f : ℕ) (r r' : Recall) → live_recall site h f ≡ Some r → live_recall site (e ∷ h) f ≡ Some r' → GoesOn site h e f r r'
goes_on site h e f r r' was is =
    let goes : recall_goes_on site h e f r e.ask e.answer ≡ Some r' = sym (ap (recall_after site h e f) was) ∙ is in
    let on : is_some (recall_goes_on site h e f r e.ask e.answer) ≡ true = ap is_some goes in
    record {
      birth = some_same _ _ (sym (ap birth_in goes) ∙ goes_birth site h e f r e.ask e.answer on);
      waiting = sym (ap waiting_for goes) ∙ goes_waiting site h e f r e.ask e.answer on;
    }
  where
    some_same : (a b : ℕ) → Some a ≡ Some b → a ≡ b
    some_same a b x = cc

-- a recall that is born: the entry alone waits for it
pub record IsBorn (site : Site) (h : History) (e : Entry) (f : ℕ) (r : Recall) : Type 0 where
  pub bears : bears_recall site h e.ask f ≡ true
  pub birth : r.birth ≡ length h + 1
  pub waiting : r.waiting ≡ (length h + 1) ∷ []

pub is_born : (site : Site) (h : History) (e : Entry) (f : ℕ) (r : Recall) → live_recall site h f ≡ None → live_recall site (e ∷ h) f ≡ Some r → IsBorn site h e f r
is_born site h e f r was is = by (bears_recall site h e.ask f) refl (sym (ap (recall_after site h e f) was) ∙ is)
  where
    by : (b : Bool) → bears_recall site h e.ask f ≡ b → (if b then Some (record { birth = length h + 1; waiting = (length h + 1) ∷ [] }) else None) ≡ Some r → IsBorn site h e f r
    by true b x = (let same : record { birth = length h + 1; waiting = (length h + 1) ∷ [] } ≡ r = cc in record { bears = b; birth = ap (λ (y : Recall). y.birth) (sym same); waiting = ap (λ (y : Recall). y.waiting) (sym same) })
    by false b x = absurd (cc)

-- ---- whether an entry waits

pub number_append : (n : ℕ) (xs ys : List ℕ) → has_number n (xs ++ ys) ≡ (has_number n xs || has_number n ys)
number_append n xs ys = list_any-append (λ m. n == m) xs ys

pub number_kept : (keep : ℕ → Bool) (n : ℕ) (ns : List ℕ) → has_number n (filter keep ns) ≡ (keep n && has_number n ns)
number_kept keep n [] = sym (and_none (keep n))
number_kept keep n (m ∷ ns) = by (keep m) refl (n == m) refl (number_kept keep n ns)
  where
    by : (k : Bool) → keep m ≡ k → (s : Bool) → (n == m) ≡ s → has_number n (filter keep ns) ≡ (keep n && has_number n ns) → has_number n (if k then m ∷ filter keep ns else filter keep ns) ≡ (keep n && (s || has_number n ns))
    by true ek true es rest = rw (es, ap keep (eqb-true n m es) ∙ ek) refl
    by true ek false es rest = rw es rest
    by false ek true es rest = rest ∙ rw (ap keep (eqb-true n m es) ∙ ek) refl
    by false ek false es rest = rest

-- whether an entry waits for a recall that has gone on
pub waits_next : (site : Site) (h : History) (e : Entry) (f id : ℕ) (r r' : Recall) → GoesOn site h e f r r' → has_number id r'.waiting ≡ ((not (takes_path e.ask id (path_of h f)) && has_number id r.waiting) || (waits_for site h e.ask f && (id == length h + 1)))
waits_next site h e f id r r' on =
    ap (has_number id) on.waiting
    ∙ number_append id (filter (λ n. not (takes_path e.ask n (path_of h f))) r.waiting) (if waits_for site h e.ask f then (length h + 1) ∷ [] else [])
    ∙ rw (number_kept (λ n. not (takes_path e.ask n (path_of h f))) id r.waiting) (ap (λ (b : Bool). (not (takes_path e.ask id (path_of h f)) && has_number id r.waiting) || b) (last (waits_for site h e.ask f)))
  where
    last : (b : Bool) → has_number id (if b then (length h + 1) ∷ [] else []) ≡ (b && (id == length h + 1))
    last true = or_none (id == length h + 1)
    last false = refl

-- one whose path is not taken waits on
pub waits_still : (site : Site) (h : History) (e : Entry) (f id : ℕ) (r r' : Recall) → GoesOn site h e f r r' → has_number id r.waiting ≡ true → takes_path e.ask id (path_of h f) ≡ false → has_number id r'.waiting ≡ true
waits_still site h e f id r r' on was stays = waits_next site h e f id r r' on ∙ rw (stays, was) refl

-- who waited before, or is the entry
abbrev pub Waited : Site → History → Entry → ℕ → ℕ → Recall → Type 0
Waited site h e f id r = ((takes_path e.ask id (path_of h f) ≡ false) × (has_number id r.waiting ≡ true)) ⊎ ((waits_for site h e.ask f ≡ true) × (id ≡ length h + 1))

pub who_waits : (site : Site) (h : History) (e : Entry) (f id : ℕ) (r r' : Recall) → GoesOn site h e f r r' → has_number id r'.waiting ≡ true → Waited site h e f id r
who_waits site h e f id r r' on there =
    elim (or_cases (not (takes_path e.ask id (path_of h f)) && has_number id r.waiting) _ (sym (waits_next site h e f id r r' on) ∙ there)) [
      | inl old ↦ (let p = and_parts (not (takes_path e.ask id (path_of h f))) _ old in inl (not_is _ p.0, p.1))
      | inr new ↦ (let p = and_parts (waits_for site h e.ask f) _ new in inr (p.0, eqb-true _ _ p.1))
    ]

-- who waits is an entry of the history
pub waiting_low : (site : Site) (h : History) (f id : ℕ) (r : Recall) → live_recall site h f ≡ Some r → has_number id r.waiting ≡ true → id ≤ length h
waiting_low site [] f id r is there = absurd (cc)
waiting_low site (e ∷ h) f id r is there = by (live_recall site h f) refl (λ q x y. waiting_low site h f id q x y)
  where
    by : (o : Option Recall) → live_recall site h f ≡ o → ((q : Recall) → live_recall site h f ≡ Some q → has_number id q.waiting ≡ true → id ≤ length h) → id ≤ length (e ∷ h)
    by None was older =
        (let b = is_born site h e f r was is in
        let one : (id == length h + 1) ≡ true = sym (or_none (id == length h + 1)) ∙ sym (ap (has_number id) b.waiting) ∙ there in
        let new : id ≡ length h + 1 = eqb-true _ _ one in omega arith)
    by (Some q) was older =
        elim (who_waits site h e f id q r (goes_on site h e f q r was is) there)
        [ inl old ↦ (let low : id ≤ length h = older q was old.1 in omega arith) | inr new ↦ (let is : id ≡ length h + 1 = new.1 in omega arith) ]

-- ---- a Stage or Repack that waits for a file leaves its recall live

-- a live recall, for which the newest entry waits
pub record NewRecall (site : Site) (h : History) (e : Entry) (f : ℕ) : Type 0 where
  pub recall : Recall
  pub on : live_recall site (e ∷ h) f ≡ Some recall
  pub among : has_number (length h + 1) recall.waiting ≡ true

waiter_goes : (site : Site) (h : History) (e : Entry) (f : ℕ) (r : Recall) (k : Ask) (a : Answer) → waits_for site h k f ≡ true → is_some (recall_goes_on site h e f r k a) ≡ true
waiter_goes site h e f r (ask.Stage who files) a w = refl
waiter_goes site h e f r (ask.Repack who v) a w = refl
waiter_goes site h e f r _ a w = absurd (cc)

pub new_recall : (site : Site) (h : History) (e : Entry) (f : ℕ) → waits_for site h e.ask f ≡ true → is_resident h f ≡ false → is_empty (places_of site h f) ≡ false → NewRecall site h e f
new_recall site h e f w away some = by (live_recall site h f) refl
  where
    there : (o : Option Recall) → is_some o ≡ true → (r : Recall) × (o ≡ Some r)
    there None x = absurd (cc)
    there (Some r) x = (r, refl)

    by : (o : Option Recall) → live_recall site h f ≡ o → NewRecall site h e f
    by None was =
        (let bears : bears_recall site h e.ask f ≡ true = and_from _ _ w (rw (away, some) refl) in
        record {
          recall = record { birth = length h + 1; waiting = (length h + 1) ∷ [] };
          on = ap (recall_after site h e f) was ∙ ap (λ (b : Bool). if b then Some (record { birth = length h + 1; waiting = (length h + 1) ∷ [] }) else None) bears;
          among = or_left (length h + 1 == length h + 1) false (eq-eqb (length h + 1) (length h + 1) refl);
        })
    by (Some r) was =
        (let r' = there (recall_goes_on site h e f r e.ask e.answer) (waiter_goes site h e f r e.ask e.answer w) in
        let is : live_recall site (e ∷ h) f ≡ Some r'.0 = ap (recall_after site h e f) was ∙ r'.1 in
        record {
          recall = r'.0;
          on = is;
          among = waits_next site h e f (length h + 1) r r'.0 (goes_on site h e f r r'.0 was is) ∙ or_right (not (takes_path e.ask (length h + 1) (path_of h f)) && has_number (length h + 1) r.waiting) _ (and_from _ _ w (eq-eqb (length h + 1) (length h + 1) refl));
        })
