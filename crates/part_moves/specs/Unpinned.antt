-- Pins of repacks that are taken off.
use Rattle.std.specs.Prelude.{ℕ, ◌≡◌, List, Bool, ◌==◌, ◌&&◌, not, if◌then◌else◌}
use Rattle.cta_model.specs.declared.states.RepackCopy.{RepackCopy}
use Rattle.cta_model.specs.Repacks.{is_live_item}
use Rattle.part_model.specs.Held.{Held, HeldAgree, unpin, unpin_all}
use Rattle.part_model.specs.Repacks.{Repacks, has_item_by, repack_in}
use Rattle.part_laws.specs.BufferCalls.{has_pair}

-- whether the repack of this number pins the file: one of its items of the file is live
abbrev pub is_pinned_by : Repacks → ℕ → ℕ → Bool
is_pinned_by v f id = has_item_by (λ (i : RepackCopy). i.file == f && is_live_item i.state) (repack_in v id)

-- the buffer without the pin of the file by this owner, where it is to be taken off
abbrev pub unpin_if : Bool → ℕ → ℕ → Held → Held
unpin_if out f id b = if out then unpin b f id else b

-- the book of repacks became v' and the buffer b': of each file the pin of each repack is taken off that pinned it and pins it no more
pub record AreTakenOff (v v' : Repacks) (b b' : Held) : Type 0 where
  pub outs : List (ℕ × ℕ)
  pub told : (f id : ℕ) → has_pair f id outs ≡ (is_pinned_by v f id && not (is_pinned_by v' f id))
  pub held : HeldAgree b' (unpin_all outs b)
