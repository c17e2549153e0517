-- How the calls of a core move the buffer.
use Rattle.std.specs.Prelude.{ℕ, ◌≡◌, ◌∷◌, Bool}
use Rattle.cta_site.specs.declared.site.Site.{Site}
use Rattle.cta_model.specs.declared.entries.Entry.{Entry}
use Rattle.cta_model.specs.History.{History}
use Rattle.cta_model.specs.Legal.{IsLegal}
use Rattle.part_model.specs.Held.{ArePinsHeld, Held, HeldAgree, enter, evict, evicted_for, hold, pin, remove, set_safe, unhold, unpin}
use Rattle.part_laws.specs.Held.{IsHeld}
use Rattle.part_laws.specs.BufferCalls.{BufferCalled}

-- a buffer that stands for a legal history, and whose pins are of files that it holds, stands for it with one entry more once the calls
-- for the entry are made
abbrev pub CallsMoveBuffer : Type 0
CallsMoveBuffer =
    (site : Site) (h : History) (e : Entry) (v v' : Held) → IsLegal site (e ∷ h) → IsHeld site h v → ArePinsHeld v → BufferCalled site h e e.ask e.answer v v'
    → IsHeld site (e ∷ h) v'

-- the calls for an entry keep the rule that each pin is of a file that the buffer holds
abbrev pub CallsKeepPinsHeld : Type 0
CallsKeepPinsHeld =
    (site : Site) (h : History) (e : Entry) (v v' : Held) → IsLegal site (e ∷ h) → IsHeld site h v → ArePinsHeld v → BufferCalled site h e e.ask e.answer v v' → ArePinsHeld v'

-- what calls of two buffers leave: they hold the same again, with the same pins
pub record AreBufferCallsSame (v w : Held) : Type 0 where
  pub evicted : (t need : ℕ) → evicted_for v t need ≡ evicted_for w t need
  pub evicts : (t need : ℕ) → HeldAgree (evict v t need) (evict w t need)
  pub enters : (f len : ℕ) → HeldAgree (enter v f len) (enter w f len)
  pub removes : (f : ℕ) → HeldAgree (remove v f) (remove w f)
  pub holds : (n : ℕ) → HeldAgree (hold v n) (hold w n)
  pub unholds : (n : ℕ) → HeldAgree (unhold v n) (unhold w n)
  pub sets : (f owner until : ℕ) → HeldAgree (pin v f owner until) (pin w f owner until)
  pub takes : (f owner : ℕ) → HeldAgree (unpin v f owner) (unpin w f owner)
  pub flags : (f : ℕ) (safe : Bool) → HeldAgree (set_safe v f safe) (set_safe w f safe)

-- the same call leaves two buffers that agree so that they do again
abbrev pub BufferCallsAgree : Type 0
BufferCallsAgree = (v w : Held) → HeldAgree v w → AreBufferCallsSame v w
