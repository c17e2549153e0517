-- What asks of drives are answered, by the tests of their refusals.
use Rattle.std.proofs.Common.{◌≡◌, ℕ, ◌<◌, arith, length, List, [], ◌∷◌, ◌++◌, Bool, true, false, refl}
use Rattle.std.specs.Prelude.{Option, ◌&&◌, nat_le}
use Rattle.blob.specs.Records.{MediumView}
use Rattle.cta_site.specs.declared.site.Site.{Site}
use Rattle.cta_site.specs.Listed.{Listed, rows}
use Rattle.cta_model.specs.declared.asks.Ask.TheVariants as ask
use Rattle.cta_model.specs.declared.asks.Fault.{Fault}
use Rattle.cta_model.specs.declared.asks.Item.{Item}
use Rattle.cta_model.specs.declared.asks.Job.{Job}
use Rattle.cta_model.specs.declared.answers.Answer.{Answer}
use Rattle.cta_model.specs.declared.answers.Answer.TheVariants as answer
use Rattle.cta_model.specs.declared.answers.Refusal.TheVariants as refusal
use Rattle.cta_model.specs.declared.hands.Hand.{Hand}
use Rattle.cta_model.specs.declared.hands.Hand.TheVariants as hand
use Rattle.cta_model.specs.Answers.{answer_of, is_accepted, is_known, is_last_batch}
use Rattle.cta_model.specs.History.{History, is_empty}
use Rattle.cta_model.specs.Hands.{HandBack}
use Rattle.cta_model.specs.Mounts.{claimed_items, is_busy, is_down, is_open, item_jobs, last_batch}

pub flush_refused : (site : Site) (h : History) (t m : ℕ) (items : List Item) → (is_known h m (item_jobs items) && is_last_batch (last_batch h m) items) ≡ false → answer.Refused refusal.Unknown ≡ answer_of site h t (ask.Flushed m (rows items))
flush_refused site h t m items known = rw known refl

pub flush_accepted : (site : Site) (h : History) (t m : ℕ) (items : List Item) → (is_known h m (item_jobs items) && is_last_batch (last_batch h m) items) ≡ true → is_accepted (answer_of site h t (ask.Flushed m (rows items))) ≡ true
flush_accepted site h t m items known = rw known refl

pub recall_refused : (site : Site) (h : History) (t m : ℕ) (job : Job) → is_known h m (job ∷ []) ≡ false → answer.Refused refusal.Unknown ≡ answer_of site h t (ask.Recalled m job)
recall_refused site h t m job known = rw known refl

pub recall_accepted : (site : Site) (h : History) (t m : ℕ) (job : Job) → is_known h m (job ∷ []) ≡ true → is_accepted (answer_of site h t (ask.Recalled m job)) ≡ true
recall_accepted site h t m job known = rw known refl

pub fail_refused : (site : Site) (h : History) (t m : ℕ) (fault : Fault) (charged returned : List Job) → is_known h m (charged ++ returned) ≡ false → answer.Refused refusal.Unknown ≡ answer_of site h t (ask.Failed m fault (rows charged) (rows returned))
fail_refused site h t m fault charged returned known = rw known refl

pub fail_accepted : (site : Site) (h : History) (t m : ℕ) (fault : Fault) (charged returned : List Job) → is_known h m (charged ++ returned) ≡ true → is_accepted (answer_of site h t (ask.Failed m fault (rows charged) (rows returned))) ≡ true
fail_accepted site h t m fault charged returned known = rw known refl

pub end_refused : (site : Site) (h : History) (t m : ℕ) (fault : Option Fault) → (is_open h m && is_empty (claimed_items h m)) ≡ false → answer.Refused refusal.Unknown ≡ answer_of site h t (ask.End m fault)
end_refused site h t m fault may = rw may refl

pub end_accepted : (site : Site) (h : History) (t m : ℕ) (fault : Option Fault) → (is_open h m && is_empty (claimed_items h m)) ≡ true → is_accepted (answer_of site h t (ask.End m fault)) ≡ true
end_accepted site h t m fault may = rw may refl

-- ---- a Next

known_drive : (n d : ℕ) → d < n → nat_le n d ≡ false
known_drive n d low = grind arith

pub next_down : (site : Site) (h : History) (t d : ℕ) → d < length site.drives.items → is_down h d ≡ true → answer.DriveDown ≡ answer_of site h t (ask.Next d)
next_down site h t d low down = rw (known_drive (length site.drives.items) d low, down) refl

pub next_busy : (site : Site) (h : History) (t d : ℕ) → d < length site.drives.items → is_down h d ≡ false → is_busy h d ≡ true → answer.DriveBusy ≡ answer_of site h t (ask.Next d)
next_busy site h t d low down busy = rw (known_drive (length site.drives.items) d low, down, busy) refl

-- ---- what goes out

pub flush_hand : {M : Type 0} (told : M → MediumView) (h later : History) (m : ℕ) (items : Listed Item) (a : Answer) (in_hand : Hand M) (accepted : Bool) → accepted ≡ true → HandBack told accepted h later (ask.Flushed m items) a in_hand hand.Nothing
flush_hand told h later m items a in_hand true is = tt
flush_hand told h later m items a in_hand false is = absurd (cc)

pub recall_hand : {M : Type 0} (told : M → MediumView) (h later : History) (m : ℕ) (job : Job) (a : Answer) (in_hand : Hand M) (accepted : Bool) → accepted ≡ true → HandBack told accepted h later (ask.Recalled m job) a in_hand hand.Nothing
recall_hand told h later m job a in_hand true is = tt
recall_hand told h later m job a in_hand false is = absurd (cc)

pub fail_hand : {M : Type 0} (told : M → MediumView) (h later : History) (m : ℕ) (fault : Fault) (charged returned : Listed Job) (a : Answer) (in_hand : Hand M) (accepted : Bool) → accepted ≡ true → HandBack told accepted h later (ask.Failed m fault charged returned) a in_hand hand.Nothing
fail_hand told h later m fault charged returned a in_hand true is = tt
fail_hand told h later m fault charged returned a in_hand false is = absurd (cc)

pub end_hand : {M : Type 0} (told : M → MediumView) (h later : History) (m : ℕ) (fault : Option Fault) (a : Answer) (in_hand : Hand M) (accepted : Bool) → accepted ≡ true → HandBack told accepted h later (ask.End m fault) a in_hand hand.Nothing
end_hand told h later m fault a in_hand true is = tt
end_hand told h later m fault a in_hand false is = absurd (cc)
