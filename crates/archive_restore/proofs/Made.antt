-- An ask that was made once more and accepted, against the entry that was recorded.
use Rattle.std.proofs.Common.{◌≡◌, ℕ, ◌≤◌, List, ◌∷◌, Bool, true, false, refl, sym, ap, ◌∙◌, subst}
use Rattle.std.specs.Prelude.{Option, None, option_map}
use Rattle.std.proofs.Math.Nat.{le-max_right, max-eq_left}
use Rattle.blob.specs.Records.{MediumView}
use Rattle.cta_site.specs.declared.site.Site.{Site}
use Rattle.cta_model.specs.declared.answers.Answer.{Answer}
use Rattle.cta_model.specs.declared.asks.Ask.{Ask}
use Rattle.cta_model.specs.declared.asks.Ask.TheVariants as ask
use Rattle.cta_model.specs.declared.entries.Actor.{Actor}
use Rattle.cta_model.specs.declared.entries.Entry.{Entry}
use Rattle.cta_model.specs.Answers.{answer_of, is_accepted}
use Rattle.cta_model.specs.Bare.{bare_answer, bare_ask, bare_entry}
use Rattle.cta_model.specs.Hands.{sum_of_blob}
use Rattle.cta_model.specs.History.{History, last_moment, moment_of}
use Rattle.cta_model.specs.Kept as archives
use Rattle.cta_model.specs.Legal.{IsFit, IsLegal, IsNext, actor_of, greatest_moment, new_entry}
use Rattle.cta_records.specs.Laws.{plain_kept}
use Rattle.cta_records.specs.declared.kept.Kept.{Kept}
use Rattle.archive_restore.specs.Asked.{IsRefused, MayAskAt}
use Rattle.archive_restore.specs.Contents.{HasContent}
use Rattle.archive_restore.specs.Logs.{MayFollow}
use Rattle.archive_restore.specs.Same.{answer_kept}
use Rattle.archive_restore.proofs.Bares.{bare_fit, fit_bare}
use Rattle.archive_restore.proofs.Refused.{unput_refused}

-- ---- the entry

-- an entry whose ask is answered otherwise, or not accepted, may not follow
pub refused_next : (site : Site) (h : History) (e : Entry) (a : Answer) → a ≡ answer_of site h e.at e.ask → is_accepted a ≡ false → IsNext site h e → ⊥
refused_next site h e a is refused next =
    let same : e.answer ≡ a = next.answered ∙ sym is in
    let accepted : is_accepted a ≡ true = subst (λ (b : Answer). is_accepted b ≡ true) same next.accepted in
    absurd (clash (is_accepted a) accepted refused)
  where
    clash : (b : Bool) → b ≡ true → b ≡ false → ⊥
    clash true is isnt = absurd (cc)
    clash false is isnt = absurd (cc)

pub refused_ask : (site : Site) (h : History) (e : Entry) (k : Ask) → e.ask ≡ bare_ask k → IsRefused site h k → IsNext site h e → ⊥
refused_ask site h e k is refused next =
    refused_next site h e (answer_of site h e.at e.ask) refl (subst (λ (x : Ask). is_accepted (answer_of site h e.at x) ≡ false) (sym is) (refused e.at)) next

-- an entry by its four parts
pub part_of : ℕ → Actor → Ask → Answer → Entry
part_of t w k a = record { at = t; actor = w; ask = k; answer = a }

same_parts : (k : Ask) (t s : ℕ) (w u : Actor) (a b : Answer) → t ≡ s → w ≡ u → a ≡ b → part_of t w k a ≡ part_of s u k b
same_parts k t s w u a b x y z = cc

abbrev Plain : Type 0
Plain = Entry × Option (List ℕ)

abbrev plain_of : Entry → Plain
plain_of x = (x, None)

-- where the entry may follow, the archive's entry says the same
pub next_shows : (site : Site) (h : History) (e : Entry) (told kept : Answer) → bare_answer told ≡ answer_of site h e.at e.ask → e.answer ≡ bare_answer kept → IsNext site h e
    → plain_kept (answer_kept (moment_of h e.at) (actor_of h e.ask) told) ≡ plain_kept (answer_kept e.at e.actor kept)
unfolding part_of
next_shows site h e told kept is answer next =
    ap (λ (x : Entry). plain_of x)
    (same_parts (ask.Next 0) (moment_of h e.at) e.at (actor_of h e.ask) e.actor (bare_answer told) (bare_answer kept) (max-eq_left next.later) (sym next.by) (is ∙ (sym next.answered ∙ answer)))

-- and where it says the same, the entry may follow
pub shown_next : (site : Site) (h : History) (e : Entry) (told kept : Answer) → bare_answer told ≡ answer_of site h e.at e.ask → e.answer ≡ bare_answer kept → is_accepted (bare_answer told) ≡ true
    → e.at ≤ greatest_moment → IsFit site h e.ask → plain_kept (answer_kept (moment_of h e.at) (actor_of h e.ask) told) ≡ plain_kept (answer_kept e.at e.actor kept) → IsNext site h e
shown_next site h e told kept is answer accepted within fit same =
    let at : moment_of h e.at ≡ e.at = ap (λ (x : Plain). x.0.at) same in
    let who : actor_of h e.ask ≡ e.actor = ap (λ (x : Plain). x.0.actor) same in
    let told_is : bare_answer told ≡ bare_answer kept = ap (λ (x : Plain). x.0.answer) same in
    record {
      later = subst (λ (n : ℕ). last_moment h ≤ n) at (le-max_right e.at (last_moment h));
      within = within;
      by = sym who;
      fit = fit;
      answered = answer ∙ (sym told_is ∙ is);
      accepted = subst (λ (b : Answer). is_accepted b ≡ true) (told_is ∙ sym answer) accepted;
    }

pub shown_entry : (h : History) (e : Entry) (told kept : Answer) → e.answer ≡ bare_answer kept → plain_kept (answer_kept (moment_of h e.at) (actor_of h e.ask) told) ≡ plain_kept (answer_kept e.at e.actor kept)
    → new_entry h e.at e.ask (bare_answer told) ≡ e
unfolding part_of
shown_entry h e told kept answer same =
    same_parts e.ask (moment_of h e.at) e.at (actor_of h e.ask) e.actor (bare_answer told) e.answer (ap (λ (x : Plain). x.0.at) same) (ap (λ (x : Plain). x.0.actor) same)
    (ap (λ (x : Plain). x.0.answer) same ∙ sym answer)

-- ---- what is kept behind it

pub record IsAfter (old new : archives.Kept) (t : ℕ) (k : Ask) (a : Answer) : Type 0 where
  pub history : new.history ≡ new_entry old.history t k a ∷ old.history
  pub site : new.site ≡ old.site

pub after_accepted : (old new : archives.Kept) (t : ℕ) (k : Ask) (a : Answer) (brought : Option MediumView) → is_accepted a ≡ true → new ≡ archives.kept_after old t k a brought → IsAfter old new t k a
after_accepted old new t k a brought accepted is =
    let same : new ≡ record old { history = new_entry old.history t k a ∷ old.history; shelf = archives.shelf_after k a brought old.shelf } = is ∙ rw accepted refl in
    record { history = ap (λ (x : archives.Kept). x.history) same; site = ap (λ (x : archives.Kept). x.site) same }

-- ---- an ask that was made once more, and its record

-- the record of what the archive told, with the moment and the actor of its entry
abbrev pub IsMadeRecord : History → ℕ → Ask → Answer → Kept → Type 0
IsMadeRecord h t k told made = made ≡ answer_kept (moment_of h t) (actor_of h k) told

pub made_record : (old new : archives.Kept) (t : ℕ) (k : Ask) (a told : Answer) (made : Kept) → IsAfter old new t k a → ((e : Entry) (h : List Entry) → new.history ≡ e ∷ h → made ≡ answer_kept e.at e.actor told) → IsMadeRecord old.history t k told made
made_record old new t k a told made after says = says (new_entry old.history t k a) old.history after.history

same_plain : (a b x y : Kept) → a ≡ x → b ≡ y → plain_kept a ≡ plain_kept b → plain_kept x ≡ plain_kept y
same_plain a b x y p q same = ap (λ (k : Kept). plain_kept k) (sym p) ∙ (same ∙ ap (λ (k : Kept). plain_kept k) q)

-- where the records say the same, the entry may follow, and is the one that the archive has made
pub plays_right : (site : Site) (h : History) (entry : Entry) (told : Answer) (made kept : Kept) → bare_answer told ≡ answer_of site h entry.at (bare_ask entry.ask) → is_accepted (bare_answer told) ≡ true → entry.at ≤ greatest_moment
    → IsFit site h entry.ask → IsMadeRecord h entry.at (bare_ask entry.ask) told made → kept ≡ answer_kept entry.at entry.actor entry.answer → plain_kept made ≡ plain_kept kept
    → IsNext site h (bare_entry entry) × (new_entry h entry.at (bare_ask entry.ask) (bare_answer told) ≡ bare_entry entry)
plays_right site h entry told made kept is accepted within fit mine its same =
    let plain : plain_kept (answer_kept (moment_of h entry.at) (actor_of h (bare_ask entry.ask)) told) ≡ plain_kept (answer_kept entry.at entry.actor entry.answer) = same_plain made kept _ _ mine its same in (
      shown_next site h (bare_entry entry) told entry.answer is refl accepted within (fit_bare site h entry.ask fit) plain,
      shown_entry h (bare_entry entry) told entry.answer refl plain,
    )

-- where they don't, it may not follow
pub plays_wrong : (site : Site) (h : History) (entry : Entry) (told : Answer) (made kept : Kept) (b : Bool) → bare_answer told ≡ answer_of site h entry.at (bare_ask entry.ask) → IsMadeRecord h entry.at (bare_ask entry.ask) told made
    → kept ≡ answer_kept entry.at entry.actor entry.answer → (plain_kept made ≡ plain_kept kept → b ≡ true) → b ≡ false → IsNext site h (bare_entry entry) → ⊥
plays_wrong site h entry told made kept b is mine its decides isnt next =
    let plain : plain_kept (answer_kept (moment_of h entry.at) (actor_of h (bare_ask entry.ask)) told) ≡ plain_kept (answer_kept entry.at entry.actor entry.answer) = next_shows site h (bare_entry entry) told entry.answer is refl next in
    let yes : b ≡ true = decides (same_plain _ _ made kept (sym mine) (sym its) plain) in
    absurd (cc)

-- nor where the ask wasn't accepted
pub plays_refused : (site : Site) (h : History) (entry : Entry) (told : Answer) (b : Bool) → bare_answer told ≡ answer_of site h entry.at (bare_ask entry.ask) → b ≡ is_accepted (bare_answer told) → b ≡ false → IsNext site h (bare_entry entry) → ⊥
plays_refused site h entry told b is accepts isnt next = refused_next site h (bare_entry entry) (bare_answer told) is (sym accepts ∙ isnt) next

-- ---- records that may not follow

-- the ask may not be made
pub not_asked : (site : Site) (h : History) (kept : Kept) → MayAskAt false site h kept.entry.at kept.entry.ask → MayFollow site h kept → ⊥
not_asked site h kept may follows = refused_ask site h (bare_entry kept.entry) kept.entry.ask refl (may follows.next.within (bare_fit site h kept.entry.ask follows.next.fit)) follows.next

-- the ask is refused
pub none_follows : (site : Site) (h : History) (kept : Kept) → IsRefused site h kept.entry.ask → MayFollow site h kept → ⊥
none_follows site h kept refused follows = refused_ask site h (bare_entry kept.entry) kept.entry.ask refl refused follows.next

-- the content is another, or the file of a Recalled was not put
pub not_held : (site : Site) (h : History) (kept : Kept) → IsLegal site h → HasContent false h kept.entry.ask kept.entry.answer (option_map sum_of_blob kept.blob) → MayFollow site h kept → ⊥
not_held site h kept legal has follows = none_follows site h kept (unput_refused site h kept.entry.ask legal (has follows.content)) follows
