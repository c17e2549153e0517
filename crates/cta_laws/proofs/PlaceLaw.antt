-- The item that made a live file's place stays among its tape's items.
use Rattle.std.proofs.Common.{◌≡◌, ℕ, ◌+◌, ◌≤◌, ◌⊎◌, inl, inr, List, [], ◌∷◌, ◌++◌, Bool, true, false, ◌&&◌, not, refl, sym, ap, subst, arith, length, ◌∙◌}
use Rattle.std.specs.Prelude.{Option, Some, None, is_some, if◌then◌else◌, ◌==◌, nat_le, zip, filter, bytes_eq}
use Rattle.std.specs.List.{list_any}
use Rattle.std.proofs.lemmas.Bool.{and_parts, and_from, eqb-true, eq-eqb}
use Rattle.cta_site.specs.declared.site.Site.{Site}
use Rattle.cta_site.specs.Listed.{Listed}
use Rattle.cta_model.specs.declared.entries.Entry.{Entry}
use Rattle.cta_model.specs.declared.asks.Ask.{Ask}
use Rattle.cta_model.specs.declared.asks.Ask.TheVariants as ask
use Rattle.cta_model.specs.declared.answers.Answer.{Answer}
use Rattle.cta_model.specs.declared.answers.Answer.TheVariants as answer
use Rattle.cta_model.specs.declared.answers.Refusal.TheVariants as refusal
use Rattle.cta_model.specs.declared.asks.Item.{Item}
use Rattle.cta_model.specs.declared.asks.Fate.{Fate}
use Rattle.cta_model.specs.declared.states.Place.{Place}
use Rattle.cta_model.specs.History.{History, is_number, is_empty}
use Rattle.cta_model.specs.Files.{live_file, live_after, is_live, path_of}
use Rattle.cta_model.specs.Mounts.{tape_of_mount, asked_mount, item_jobs, same_job, is_mounted, last_batch}
use Rattle.cta_model.specs.Tapes.{tape_items, items_after, tape_state, is_broken}
use Rattle.cta_model.specs.Places.{place_of, place_after, is_at, fseq_after, is_copy_of, is_done, flushed_in, last_flushed, live_items_on}
use Rattle.cta_model.specs.Answers.{refuse, answer_of, is_accepted, is_too_heavy, is_known, is_last_batch, same_items, same_item, reclaim_answer}
use Rattle.cta_model.specs.Legal.{IsLegal}
use Rattle.cta_laws.specs.Places.{PlacesStay, PlacesOnTape, is_item_of}
use Rattle.cta_laws.proofs.Tests.{bool_cases, not_false, or_left, or_right, or_cases, not_next, any_append}
use Rattle.cta_laws.proofs.Claims.{AllOf, ItemBelow, last_below}

-- ---- a Flushed names the items of the last Claim

pub told_open : (closed : Bool) (a b : Answer) → a ≡ refuse refusal.Unknown closed b → is_accepted a ≡ true → closed ≡ false
told_open true a b e y = absurd (cc)
told_open false a b e y = refl

pub flushed_known : (site : Site) (h : History) (t m : ℕ) (items : Listed Item) (a : Answer) → a ≡ answer_of site h t (ask.Flushed m items) → is_accepted a ≡ true → (is_known h m (item_jobs items.items) ≡ true) × (is_last_batch (last_batch h m) items.items ≡ true)
flushed_known site h t m items a e y = and_parts _ _ (not_false _ (told_open (not (is_known h m (item_jobs items.items) && is_last_batch (last_batch h m) items.items)) a _ e y))

pub same_file : (a b : Item) → same_item a b ≡ true → a.job.file ≡ b.job.file
same_file a b e = eqb-true _ _ (and_parts _ _ (and_parts _ _ (and_parts (same_job a.job b.job) _ e).0).1).0

pub same_below : (n : ℕ) (xs ys : List Item) → same_items xs ys ≡ true → AllOf (ItemBelow n) ys → AllOf (ItemBelow n) xs
same_below n [] [] e a = tt
same_below n [] (y ∷ ys) e a = absurd (cc)
same_below n (x ∷ xs) [] e a = absurd (cc)
same_below n (x ∷ xs) (y ∷ ys) e a =
    let parts : (same_item x y ≡ true) × (same_items xs ys ≡ true) = and_parts _ _ e in
    (subst (λ (k : ℕ). k ≤ n) (sym (same_file x y parts.0)) a.0, same_below n xs ys parts.1 a.1)

pub batch_below : (n : ℕ) (items : List Item) (o : Option (List Item)) → is_last_batch o items ≡ true → ((xs : List Item) → o ≡ Some xs → AllOf (ItemBelow n) xs) → AllOf (ItemBelow n) items
batch_below n items None e h = absurd (cc)
batch_below n items (Some xs) e h = same_below n items xs e (h xs refl)

-- ---- the files of flushed items

pub put_below : (xs : List Item) (fs : List Fate) (f c n : ℕ) (before : Option ℕ) (s : ℕ) → AllOf (ItemBelow n) xs → (before ≡ Some s → f ≤ n) → fseq_after (zip xs fs) f c before ≡ Some s → f ≤ n
put_below [] fs f c n before s a h e = h e
put_below (x ∷ xs) [] f c n before s a h e = h e
put_below (x ∷ xs) (y ∷ fs) f c n before s a h e =
    put_below xs fs f c n (if is_copy_of f c (x, y) then Some x.fseq else before) s a.1
    (λ q. elim (bool_cases (is_copy_of f c (x, y))) [
      | inl hit ↦ (let same : x.job.file ≡ f = eqb-true _ _ (and_parts _ _ (and_parts (is_done y) _ hit).1).0 in subst (λ (k : ℕ). k ≤ n) same a.0)
      | inr miss ↦ h (rw miss at q)
    ])
    e

-- a flushed item of an entry is of an older file
pub entry_below : (site : Site) (h : History) → IsLegal site h → (t f c : ℕ) (k : Ask) (a : Answer) (s : ℕ) → a ≡ answer_of site h t k → fseq_after (flushed_in k a) f c None ≡ Some s → f ≤ length h
entry_below site h legal t f c (ask.Flushed m items) (answer.Told fates) s is e =
    put_below items.items fates.items f c (length h) None s
    (batch_below (length h) items.items (last_batch h m) (flushed_known site h t m items (answer.Told fates) is refl).1 (λ xs x. last_below site h legal m xs x))
    (λ q. absurd (cc)) e
entry_below site h legal t f c _ a s is e = absurd (cc)

pub no_place : Place
no_place = record { copy = 0; tape = 0; fseq = 0 }

pub place_in : Option Place → Place
place_in None = no_place
place_in (Some p) = p

pub place_cases : (c w : ℕ) (o : Option ℕ) (before : Option Place) (p : Place) → place_after c w o before ≡ Some p → ((o ≡ Some p.fseq) × (w ≡ p.tape)) ⊎ ((o ≡ None) × (before ≡ Some p))
unfolding place_in
place_cases c w None before p e = inr (refl, e)
place_cases c w (Some s) before p e = inl (ap (λ (x : Option Place). Some (place_in x).fseq) e, ap (λ (x : Option Place). (place_in x).tape) e)

pub flushed_below : (site : Site) (h : History) → IsLegal site h → (f c : ℕ) (p : Place) → last_flushed h f c ≡ Some p → f ≤ length h
flushed_below site [] legal f c p e = absurd (cc)
flushed_below site (e ∷ h) legal f c p is =
    elim (place_cases c (tape_of_mount h (asked_mount e.ask)) (fseq_after (flushed_in e.ask e.answer) f c None) (last_flushed h f c) p is) [
      | inl new ↦ (let low : f ≤ length h = entry_below site h legal.0 e.at f c e.ask e.answer p.fseq legal.1.answered new.0 in omega arith)
      | inr old ↦ (let low : f ≤ length h = flushed_below site h legal.0 f c p old.1 in omega arith)
    ]

-- ---- what is live was live

pub path_older : (e : Entry) (h : History) (f : ℕ) → f ≤ length h → path_of (e ∷ h) f ≡ path_of h f
path_older e h f low = rw (not_next f (length h) low) refl

pub file_older : (k : Ask) (n f : ℕ) (path : List ℕ) (o : Option ℕ) → (f == n) ≡ false → is_number f (live_after k n path o) ≡ true → is_number f o ≡ true
file_older (ask.Put who p sum) n f path o d = elim (bytes_eq p path) as (λ b. is_number f (if b then Some n else o) ≡ true → is_number f o ≡ true) [ true ↦ λ e. absurd (cc) | false ↦ λ e. e ]
file_older (ask.Delete who p) n f path o d = elim (bytes_eq p path) as (λ b. is_number f (if b then None else o) ≡ true → is_number f o ≡ true) [ true ↦ λ e. absurd (cc) | false ↦ λ e. e ]
file_older _ n f path o d = λ e. e

pub live_before : (e : Entry) (h : History) (f : ℕ) → f ≤ length h → is_live (e ∷ h) f ≡ true → is_live h f ≡ true
live_before e h f low live =
    let there : is_number f (live_file (e ∷ h) (path_of h f)) ≡ true = subst (λ (p : List ℕ). is_number f (live_file (e ∷ h) p) ≡ true) (path_older e h f low) live in
    file_older e.ask (length h + 1) f (path_of h f) (live_file h (path_of h f)) (not_next f (length h) low) there

-- ---- the item of a live place is a live item of its tape

pub found_there : (h : History) (f c : ℕ) (p : Place) → place_of h f c ≡ Some p → (items : List Item) → list_any (is_item_of f c p.fseq) items ≡ true → is_empty (filter (λ (i : Item). is_at p.tape i.fseq (place_of h i.job.file i.job.copy)) items) ≡ false
found_there h f c p is [] e = absurd (cc)
found_there h f c p is (i ∷ items) e =
    elim (bool_cases (is_at p.tape i.fseq (place_of h i.job.file i.job.copy))) [
      | inl hit ↦ rw hit refl
      | inr miss ↦
          elim (or_cases (is_item_of f c p.fseq i) _ e) [
            | inl this ↦
                (let file : i.job.file ≡ f = eqb-true _ _ (and_parts (i.job.file == f) _ this).0 in
                let rest = and_parts (i.job.copy == c) _ (and_parts (i.job.file == f) _ this).1 in
                let copy : i.job.copy ≡ c = eqb-true _ _ rest.0 in
                let fseq : i.fseq ≡ p.fseq = eqb-true _ _ rest.1 in
                let there : place_of h i.job.file i.job.copy ≡ Some p = ap (λ (n : ℕ). place_of h n i.job.copy) file ∙ (ap (place_of h f) copy ∙ is) in
                let here : is_at p.tape i.fseq (place_of h i.job.file i.job.copy) ≡ true = rw there (and_from _ _ (eq-eqb p.tape p.tape refl) (eq-eqb p.fseq i.fseq (sym fseq))) in
                absurd (cc))
            | inr more ↦ rw miss (found_there h f c p is items more)
          ]
    ]

-- ---- numbers of live files

pub step_within : (k : Ask) (n f : ℕ) (p : List ℕ) (o : Option ℕ) → 1 ≤ n → (is_number f o ≡ true → (1 ≤ f) × (f ≤ n)) → is_number f (live_after k n p o) ≡ true → (1 ≤ f) × (f ≤ n)
step_within (ask.Put who q sum) n f p o low h =
    elim (bytes_eq q p) as (λ b. is_number f (if b then Some n else o) ≡ true → (1 ≤ f) × (f ≤ n))
    [ true ↦ λ e. (let same : f ≡ n = eqb-true f n e in (omega arith, omega arith)) | false ↦ λ e. h e ]
step_within (ask.Delete who q) n f p o low h = elim (bytes_eq q p) as (λ b. is_number f (if b then None else o) ≡ true → (1 ≤ f) × (f ≤ n)) [ true ↦ λ e. absurd (cc) | false ↦ λ e. h e ]
step_within _ n f p o low h = λ e. h e

pub named_within : (h : History) (f : ℕ) (p : List ℕ) → is_number f (live_file h p) ≡ true → (1 ≤ f) × (f ≤ length h)
named_within [] f p e = absurd (cc)
named_within (e ∷ h) f p is =
    let w : (1 ≤ f) × (f ≤ length h + 1) = step_within e.ask (length h + 1) f p (live_file h p) (omega arith) (λ q. (let u : (1 ≤ f) × (f ≤ length h) = named_within h f p q in (u.0, omega arith))) is in
    (w.0, omega arith)

-- ---- an item is put on tape, and stays

pub number_in : Option ℕ → ℕ
number_in None = 0
number_in (Some n) = n

pub put_member : (xs : List Item) (fs : List Fate) (f c : ℕ) (before : Option ℕ) (s : ℕ) → fseq_after (zip xs fs) f c before ≡ Some s → (list_any (is_item_of f c s) xs ≡ true) ⊎ (before ≡ Some s)
unfolding number_in
put_member [] fs f c before s e = inr e
put_member (x ∷ xs) [] f c before s e = inr e
put_member (x ∷ xs) (y ∷ fs) f c before s e =
    elim (put_member xs fs f c (if is_copy_of f c (x, y) then Some x.fseq else before) s e) [
      | inl a ↦ inl (or_right (is_item_of f c s x) _ a)
      | inr q ↦
          elim (bool_cases (is_copy_of f c (x, y))) [
            | inl hit ↦
                (let there : Some x.fseq ≡ Some s = rw hit at q in
                let same : x.fseq ≡ s = ap number_in there in
                let parts : (x.job.file == f ≡ true) × (x.job.copy == c ≡ true) = and_parts _ _ (and_parts (is_done y) _ hit).1 in
                inl (or_left (is_item_of f c s x) _ (and_from _ _ parts.0 (and_from _ _ parts.1 (eq-eqb x.fseq s same)))))
            | inr miss ↦ inr (rw miss at q)
          ]
    ]

pub new_item : (k : Ask) (a : Answer) (f c s v : ℕ) (before : List Item) → fseq_after (flushed_in k a) f c None ≡ Some s → list_any (is_item_of f c s) (items_after k v v before) ≡ true
new_item (ask.Flushed m items) (answer.Told fates) f c s v before e =
    rw (eq-eqb v v refl) (any_append (is_item_of f c s) before items.items (inr (elim (put_member items.items fates.items f c None s e) [ inl a ↦ a | inr q ↦ absurd (cc) ])))
new_item _ a f c s v before e = absurd (cc)

pub reclaim_none : (heavy none mounted broken empty : Bool) (a : Answer) → a ≡ refuse refusal.HistoryFull heavy (refuse refusal.NoTape none (refuse refusal.TapeMounted mounted (refuse refusal.TapeBroken broken (refuse refusal.LiveFiles (not empty) answer.Done)))) → is_accepted a ≡ true → (empty ≡ true) × (mounted ≡ false)
reclaim_none true none mounted broken empty a e y = absurd (cc)
reclaim_none false true mounted broken empty a e y = absurd (cc)
reclaim_none false false true broken empty a e y = absurd (cc)
reclaim_none false false false true empty a e y = absurd (cc)
reclaim_none false false false false true a e y = (refl, refl)
reclaim_none false false false false false a e y = absurd (cc)

pub old_item : (site : Site) (h : History) (t : ℕ) (k : Ask) (a : Answer) (f c s v w : ℕ) → a ≡ answer_of site h t k → is_accepted a ≡ true → is_empty (live_items_on h v) ≡ false → list_any (is_item_of f c s) (tape_items h v) ≡ true → list_any (is_item_of f c s) (items_after k v w (tape_items h v)) ≡ true
old_item site h t (ask.Flushed m items) a f c s v w is y there e = elim (w == v) as (λ b. list_any (is_item_of f c s) (if b then tape_items h v ++ items.items else tape_items h v) ≡ true) [ true ↦ any_append (is_item_of f c s) (tape_items h v) items.items (inl e) | false ↦ e ]
old_item site h t (ask.Reclaim who u) a f c s v w is y there e =
    elim (bool_cases (u == v)) [
      | inl hit ↦
          (let none : (is_empty (live_items_on h u) ≡ true) × (is_mounted h u ≡ false) = reclaim_none (is_too_heavy site h (ask.Reclaim who u) (reclaim_answer site h u)) (nat_le (length site.tapes.items) u) (is_mounted h u) (is_broken (tape_state site h u)) (is_empty (live_items_on h u)) a is y in
          let same : u ≡ v = eqb-true u v hit in
          let here : is_empty (live_items_on h v) ≡ true = subst (λ (x : ℕ). is_empty (live_items_on h x) ≡ true) same none.0 in
          absurd (cc))
      | inr miss ↦ rw miss e
    ]
old_item site h t _ a f c s v w is y there e = e

pub stays : (site : Site) (h : History) → IsLegal site h → (f c : ℕ) (p : Place) → is_live h f ≡ true → last_flushed h f c ≡ Some p → list_any (is_item_of f c p.fseq) (tape_items h p.tape) ≡ true
stays site [] legal f c p live is = absurd (cc)
stays site (e ∷ h) legal f c p live is =
    elim (place_cases c (tape_of_mount h (asked_mount e.ask)) (fseq_after (flushed_in e.ask e.answer) f c None) (last_flushed h f c) p is) [
      | inl new ↦ rw new.1 (new_item e.ask e.answer f c p.fseq p.tape (tape_items h p.tape) new.0)
      | inr old ↦
          (let older : f ≤ length h = flushed_below site h legal.0 f c p old.1 in
          let was : is_live h f ≡ true = live_before e h f older live in
          let before : list_any (is_item_of f c p.fseq) (tape_items h p.tape) ≡ true = stays site h legal.0 f c p was old.1 in
          let there : is_empty (live_items_on h p.tape) ≡ false = found_there h f c p (rw was old.1) (tape_items h p.tape) before in
          old_item site h e.at e.ask e.answer f c p.fseq p.tape (tape_of_mount h (asked_mount e.ask)) legal.1.answered legal.1.accepted there before)
    ]

pub live_place : (h : History) (f c : ℕ) (p : Place) → place_of h f c ≡ Some p → (is_live h f ≡ true) × (last_flushed h f c ≡ Some p)
live_place h f c p =
    elim (bool_cases (is_live h f))
    [ inl y ↦ λ e. (y, rw y at e) | inr n ↦ λ e. (let bad : None ≡ Some p = rw n at e in absurd (cc)) ]

pub places_on_tape : PlacesOnTape
places_on_tape site h legal f c p e =
    let parts : (is_live h f ≡ true) × (last_flushed h f c ≡ Some p) = live_place h f c p e in
    stays site h legal f c p parts.0 parts.1

-- ---- a place stays

pub after_some : (c v : ℕ) (o : Option ℕ) (before : Option Place) → is_some before ≡ true → is_some (place_after c v o before) ≡ true
after_some c v None before e = e
after_some c v (Some s) before e = refl

pub flushed_stays : (newer h : History) (f c : ℕ) → is_some (last_flushed h f c) ≡ true → is_some (last_flushed (newer ++ h) f c) ≡ true
flushed_stays [] h f c e = e
flushed_stays (x ∷ newer) h f c e = after_some c (tape_of_mount (newer ++ h) (asked_mount x.ask)) (fseq_after (flushed_in x.ask x.answer) f c None) (last_flushed (newer ++ h) f c) (flushed_stays newer h f c e)

pub was_there : (live : Bool) (o : Option Place) → is_some (if live then o else None) ≡ true → is_some o ≡ true
was_there true o e = e
was_there false o e = absurd (cc)

pub places_stay : PlacesStay
places_stay newer h f c some live =
    let was : is_some (last_flushed h f c) ≡ true = was_there (is_live h f) (last_flushed h f c) some in
    rw live (flushed_stays newer h f c was)
