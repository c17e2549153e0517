-- What an archive answers to an ask is what a turn is answered.
use Rattle.std.proofs.Common.{◌≡◌, ℕ, Bool, true, false, refl, ap, ◌∙◌, ◌∷◌}
use Rattle.std.specs.Prelude.{Option, if◌then◌else◌, Result, Ok, Err, IfOk, IfErr, OnErr}
use Rattle.blob.specs.Records.{MediumView}
use Rattle.cta_site.specs.declared.site.Site.{Site}
use Rattle.cta_values.specs.declared.no_memory.NoMemory.{NoMemory}
use Rattle.cta_model.specs.declared.asks.Ask.{Ask}
use Rattle.cta_model.specs.declared.asks.Ask.TheVariants as ask
use Rattle.cta_model.specs.declared.answers.Answer.{Answer}
use Rattle.cta_model.specs.declared.hands.Hand.{Hand}
use Rattle.cta_model.specs.History.{History}
use Rattle.cta_model.specs.Answers.{answer_of, is_accepted}
use Rattle.cta_model.specs.Bare.{bare_answer, bare_ask}
use Rattle.cta_model.specs.Hands.{HandBack, HandOut, medium_in}
use Rattle.cta_model.specs.Kept.{Kept, kept_after, shelf_after}
use Rattle.cta_model.specs.Legal.{new_entry}
use Rattle.archive_turns.specs.declared.calls.ArchiveCall.TheVariants as call
use Rattle.archive_turns.specs.declared.calls.ArchiveBack.TheVariants as back
use Rattle.archive_turns.specs.declared.calls.ArchiveCall.{ArchiveCall}
use Rattle.archive_turns.specs.declared.calls.ArchiveBack.{ArchiveBack}
use Rattle.archive_turns.specs.Plays.{Returns, kept_with}

-- ---- an ask with no room to spare in its lists is answered as the ask itself

answer_of-bare : (site : Site) (h : History) (t : ℕ) (k : Ask) → answer_of site h t (bare_ask k) ≡ answer_of site h t k
answer_of-bare site h t (ask.Flushed m items) = refl
answer_of-bare site h t _ = refl

-- ---- what is kept

entry_or_none : (b : Bool) (kept : Kept) (t : ℕ) (k : Ask) (a : Answer) (brought : Option MediumView)
    → (if b then record kept { history = new_entry kept.history t k a ∷ kept.history; shelf = shelf_after k a brought kept.shelf } else kept).history ≡ (if b then new_entry kept.history t k a ∷ kept.history else kept.history)
entry_or_none true kept t k a brought = refl
entry_or_none false kept t k a brought = refl

module _ {M : Type 0} (told : M → MediumView) where
  -- ---- hands

  out-bare : (h later : History) (k : Ask) (a : Answer) (out : Hand M) → HandOut told h later (bare_ask k) a out → HandOut told h later k a out
  out-bare h later (ask.Flushed m items) a out is = is
  out-bare h later _ a out is = is

  back-bare : (b : Bool) (h later : History) (k : Ask) (a : Answer) (in_hand out : Hand M) → HandBack told b h later (bare_ask k) a in_hand out → HandBack told b h later k a in_hand out
  back-bare true h later k a in_hand out is = out-bare h later k a out is
  back-bare false h later k a in_hand out is = is

  -- ---- what comes back

  pub asked : (before after : Kept) (t : ℕ) (k : Ask) (in_hand : Hand M) (r : Result (Answer × Hand M) (NoMemory × Ask × Hand M)) →
      IfOk r (λ x. bare_answer x.0 ≡ answer_of before.site before.history t (bare_ask k)) →
      IfOk r (λ x. after ≡ kept_after before t (bare_ask k) (bare_answer x.0) (medium_in told in_hand)) →
      IfOk r (λ x. HandBack told (is_accepted (bare_answer x.0)) before.history after.history (bare_ask k) (bare_answer x.0) in_hand x.1) →
      IfErr r (λ e. (e.1 ≡ k) × (e.2 ≡ in_hand)) → OnErr r (after ≡ before) → Returns told before.site before.history (call.Ask t k in_hand) (back.Ask r) after.history
  asked before after t k in_hand (Ok (a, out)) answered kept handed again same = record {
    answered = answered ∙ answer_of-bare before.site before.history t k;
    left = ap (λ (x : Kept). x.history) kept ∙ entry_or_none (is_accepted (bare_answer a)) before t (bare_ask k) (bare_answer a) (medium_in told in_hand);
    handed = back-bare (is_accepted (bare_answer a)) before.history after.history k (bare_answer a) in_hand out handed;
  }
  asked before after t k in_hand (Err (none, k', out)) answered kept handed again same = (ap (λ (x : Kept). x.history) same, again.0, again.1)

  -- ---- what is kept then

  pub keeps : (before after : Kept) (t : ℕ) (k : Ask) (in_hand : Hand M) (r : Result (Answer × Hand M) (NoMemory × Ask × Hand M)) →
      IfOk r (λ x. after ≡ kept_after before t (bare_ask k) (bare_answer x.0) (medium_in told in_hand)) → OnErr r (after ≡ before) → after ≡ kept_with told before (call.Ask t k in_hand) (back.Ask r)
  keeps before after t k in_hand (Ok (a, out)) kept same = kept
  keeps before after t k in_hand (Err e) kept same = same

  site_stays : (b : Bool) (kept : Kept) (t : ℕ) (k : Ask) (a : Answer) (brought : Option MediumView)
      → (if b then record kept { history = new_entry kept.history t k a ∷ kept.history; shelf = shelf_after k a brought kept.shelf } else kept).site ≡ kept.site
  site_stays true kept t k a brought = refl
  site_stays false kept t k a brought = refl

  -- a call leaves the site
  pub kept_with-site : (kept : Kept) (c : ArchiveCall M) (b : ArchiveBack M) → (kept_with told kept c b).site ≡ kept.site
  kept_with-site kept (call.Ask at k in_hand) (back.Ask (Ok (a, out))) = site_stays (is_accepted (bare_answer a)) kept at (bare_ask k) (bare_answer a) (medium_in told in_hand)
  kept_with-site kept (call.Ask at k in_hand) (back.Ask (Err y)) = refl
  kept_with-site kept (call.Ask at k in_hand) (back.Look y) = refl
  kept_with-site kept (call.Look at k) b = refl
