-- The asks that close a mount are accepted, and what they leave.
use Rattle.std.proofs.Common.{◌≡◌, ◌∙◌, ℕ, inl, inr, List, [], ◌∷◌, ◌++◌, Bool, true, false, not, refl, sym, ap, subst, append_assoc}
use Rattle.std.specs.Prelude.{filter, Option, None, ◌==◌}
use Rattle.std.specs.List.{list_all}
use Rattle.std.proofs.lemmas.Bool.{eq-eqb}
use Rattle.cta_site.specs.declared.site.Site.{Site}
use Rattle.cta_site.specs.Listed.{Listed}
use Rattle.cta_model.specs.declared.entries.Entry.{Entry}
use Rattle.cta_model.specs.declared.asks.Ask.{Ask}
use Rattle.cta_model.specs.declared.asks.Ask.TheVariants as ask
use Rattle.cta_model.specs.declared.asks.Direction.{Direction}
use Rattle.cta_model.specs.declared.asks.Direction.TheVariants as direction
use Rattle.cta_model.specs.declared.asks.Fault.{Fault}
use Rattle.cta_model.specs.declared.asks.Item.{Item}
use Rattle.cta_model.specs.declared.asks.Job.{Job}
use Rattle.cta_model.specs.declared.states.Mount.{Mount}
use Rattle.cta_model.specs.Answers.{answer_of, is_accepted, is_known, names_twice}
use Rattle.cta_model.specs.Bare.{bare_ask}
use Rattle.cta_model.specs.History.{History}
use Rattle.cta_model.specs.Jobs.{jobs_born}
use Rattle.cta_model.specs.Kept.{Kept}
use Rattle.cta_model.specs.Legal.{IsFaultOf, IsLegal, IsMountOf, new_entry}
use Rattle.cta_model.specs.Mounts.{claimed_items, claims, has_job, is_open, item_jobs, open_mounts, same_job, without_jobs}
use Rattle.cta_laws.proofs.JobLists.{job_self}
use Rattle.cta_laws.proofs.Tests.{bool_cases, or_left, or_right}
use Rattle.part_model.specs.Order.{InOrder}
use Rattle.part_laws.proofs.Born.{born_order}
use Rattle.part_laws.proofs.Orders.{not_after, order_filter}
use Rattle.archive_state.specs.ClaimedJobs.{claimed_jobs}
use Rattle.archive_state.proofs.ItemJobs.{members}
use Rattle.durable_opening.specs.Closing.{AreClosers, GoesOnByClosing, IsCloser, Leaves, OnlyCloses, asked_history, fault_by}

-- ---- histories that go on by closing mounts

pub none_more : (site : Site) (h : History) → GoesOnByClosing site h h
none_more site h = ([], refl, tt)

both_close : (site : Site) (newer mid : List Entry) (h : History) → AreClosers site mid h → AreClosers site newer (mid ++ h) → AreClosers site (newer ++ mid) h
both_close site [] mid h first second = first
both_close site (e ∷ newer) mid h first second = (both_close site newer mid h first second.0, subst (λ (l : History). IsCloser site l e.ask) (sym (append_assoc newer mid h)) second.1)

goes_on : (site : Site) (h mid later : History) → GoesOnByClosing site h mid → GoesOnByClosing site mid later → GoesOnByClosing site h later
goes_on site h mid later first second = (
  second.0 ++ first.0,
  second.1 ∙ ap (λ (l : History). second.0 ++ l) first.1 ∙ sym (append_assoc second.0 first.0 h),
  both_close site second.0 first.0 h first.2 (subst (λ (l : History). AreClosers site second.0 l) first.1 second.2),
)

pub closes_on : (old mid new : Kept) → OnlyCloses old mid → OnlyCloses mid new → OnlyCloses old new
closes_on old mid new first second =
    (second.0 ∙ first.0, goes_on old.site old.history mid.history new.history first.1 (subst (λ (s : Site). GoesOnByClosing s mid.history new.history) first.0 second.1))

-- ---- one ask

accepted_adds : (site : Site) (h : History) (t : ℕ) (k : Ask) → is_accepted (answer_of site h t k) ≡ true → asked_history site h t k ≡ new_entry h t (bare_ask k) (answer_of site h t k) ∷ h
accepted_adds site h t k accepted = rw accepted refl

-- what an accepted ask leaves, and whatever it leaves where no answer came, goes on by closing, where the ask closes a mount
pub closer_leaves : (site : Site) (h : History) (t : ℕ) (k : Ask) (later : History) (answered : Bool) → is_accepted (answer_of site h t k) ≡ true → IsCloser site h (bare_ask k) → Leaves site h t k later answered → GoesOnByClosing site h later
closer_leaves site h t k later answered accepted closer left = by answered left
  where
    one : later ≡ asked_history site h t k → GoesOnByClosing site h later
    one is = (new_entry h t (bare_ask k) (answer_of site h t k) ∷ [], is ∙ accepted_adds site h t k accepted, (tt, closer))

    by : (b : Bool) → Leaves site h t k later b → GoesOnByClosing site h later
    by true is = one is
    by false (inl same) = ([], same, tt)
    by false (inr is) = one is

-- what an accepted ask leaves that was answered
pub answered_leaves : (site : Site) (h : History) (t : ℕ) (k : Ask) (later : History) (answered : Bool) → is_accepted (answer_of site h t k) ≡ true → Leaves site h t k later answered → answered ≡ true
    → later ≡ new_entry h t (bare_ask k) (answer_of site h t k) ∷ h
answered_leaves site h t k later true accepted left is = left ∙ accepted_adds site h t k accepted
answered_leaves site h t k later false accepted left is = absurd (cc)

-- ---- jobs are given back

all_pass : (p : Job → Bool) (js : List Job) → list_all p (filter p js) ≡ true
all_pass p [] = refl
all_pass p (j ∷ js) =
    elim (bool_cases (p j)) [
      | inl hit ↦ rw (hit, hit) (all_pass p js)
      | inr miss ↦ rw miss (all_pass p js)
    ]

order_once : (js : List Job) → InOrder js → names_twice js ≡ false
order_once [] order = refl
order_once (j ∷ js) order = rw (not_after j js order.0) (order_once js order.1)

pub known_all : (site : Site) (h : History) (m : ℕ) → is_open h m ≡ true → is_known h m (claimed_jobs site h m) ≡ true
known_all site h m on =
    let all : list_all (claims h m) (claimed_jobs site h m) ≡ true = all_pass (claims h m) (jobs_born site h) in
    let once : names_twice (claimed_jobs site h m) ≡ false = order_once (claimed_jobs site h m) (order_filter (claims h m) (jobs_born site h) (born_order site h)) in
    rw (on, all, once) refl

pub failed_accepted : (site : Site) (h : History) (t m : ℕ) (f : Fault) (charged returned : Listed Job) → is_open h m ≡ true → charged.items ≡ [] → returned.items ≡ claimed_jobs site h m → is_accepted (answer_of site h t (ask.Failed m f charged returned)) ≡ true
failed_accepted site h t m f charged returned on none all =
    let jobs : charged.items ++ returned.items ≡ claimed_jobs site h m = ap (λ (js : List Job). js ++ returned.items) none ∙ all in
    let known : is_known h m (charged.items ++ returned.items) ≡ true = ap (is_known h m) jobs ∙ known_all site h m on in
    rw known refl

left_out : (js : List Job) (items : List Item) → ((j : Job) → has_job j (item_jobs items) ≡ true → has_job j js ≡ true) → without_jobs js items ≡ []
left_out js [] all = refl
left_out js (i ∷ items) all =
    let first : has_job i.job js ≡ true = all i.job (or_left (same_job i.job i.job) (has_job i.job (item_jobs items)) (job_self i.job)) in
    rw first (left_out js items (λ j there. all j (or_right (same_job j i.job) (has_job j (item_jobs items)) there)))

-- a mount that has given all back claims nothing
pub failed_claims_none : (site : Site) (h : History) (e : Entry) (m : ℕ) (f : Fault) (charged returned : Listed Job) → IsLegal site h → e.ask ≡ ask.Failed m f charged returned → charged.items ≡ [] → returned.items ≡ claimed_jobs site h m
    → claimed_items (e ∷ h) m ≡ []
failed_claims_none site h e m f charged returned legal is none all =
    let jobs : charged.items ++ returned.items ≡ claimed_jobs site h m = ap (λ (js : List Job). js ++ returned.items) none ∙ all in
    rw (is, eq-eqb m m refl, jobs) (left_out (claimed_jobs site h m) (claimed_items h m) (λ j there. members site h legal m j ∙ there))

-- and is as open as it was
pub failed_keeps_open : (h : History) (e : Entry) (m : ℕ) (f : Fault) (charged returned : Listed Job) → e.ask ≡ ask.Failed m f charged returned → open_mounts (e ∷ h) ≡ open_mounts h
failed_keeps_open h e m f charged returned is = rw is refl

-- ---- a mount ends

pub end_accepted : (site : Site) (h : History) (t m : ℕ) → is_open h m ≡ true → claimed_items h m ≡ [] → is_accepted (answer_of site h t (ask.End m None)) ≡ true
end_accepted site h t m on none = rw (on, none) refl

pub end_closes : (h : History) (e : Entry) (m : ℕ) → e.ask ≡ ask.End m None → open_mounts (e ∷ h) ≡ filter (λ k. not (k == m)) (open_mounts h)
end_closes h e m is = rw is refl

-- ---- what an ask has to be

pub fault_fits : (way : Direction) (o : Option Mount) → IsMountOf way o → IsFaultOf (fault_by way) o
fault_fits direction.Archive o is = is
fault_fits direction.Retrieve o is = is
