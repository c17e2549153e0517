-- Which items of the kept repacks are live.
use Rattle.std.specs.Prelude.{ℕ, ◌≡◌, List, Option, Some, None, Bool, false, ◌==◌, ◌&&◌}
use Rattle.std.specs.List.{list_any}
use Rattle.cta_model.specs.declared.reports.ItemState.{ItemState}
use Rattle.cta_model.specs.declared.states.RepackCopy.{RepackCopy}
use Rattle.cta_model.specs.Repacks.{is_live_item}
use Rattle.repack_book.specs.NamedRepacks.{NamedRepacks, KeptRepack, kept_in}
use Rattle.repack_book.specs.declared.items.LiveItem.{LiveItem}
use Rattle.repack_book.specs.declared.holders.Holder.{Holder}
use Rattle.repack_book.specs.Order.{has_item, has_holder}

-- whether one of the items is of this copy of the file, in a state that passes the test
abbrev pub has_state : ℕ → ℕ → (ItemState → Bool) → List RepackCopy → Bool
has_state f c t items = list_any (λ (i : RepackCopy). (i.file == f && i.copy == c) && t i.state) items

-- whether one of the items is live and of this copy of the file
abbrev pub has_live : ℕ → ℕ → List RepackCopy → Bool
has_live f c items = has_state f c is_live_item items

-- whether there is a repack and it has a live item of this copy of the file
abbrev pub holds_by : ℕ → ℕ → Option KeptRepack → Bool
holds_by f c None = false
holds_by f c (Some k) = has_live f c k.repack.items

-- whether there is a repack, it is of this tape, and it has a live item of this copy of the file
abbrev pub holds_on : ℕ → ℕ → ℕ → Option KeptRepack → Bool
holds_on t f c None = false
holds_on t f c (Some k) = t == k.repack.tape && has_live f c k.repack.items

-- what is kept of live items, by tape and by copy, is what the kept repacks have
pub record AreIndexed (v : NamedRepacks) (items : List LiveItem) (holders : List Holder) : Type 0 where
  pub on_tape : (t r f c : ℕ) → has_item items t r f c ≡ holds_on t f c (kept_in v r)
  pub of_copy : (f c r : ℕ) → has_holder holders f c r ≡ holds_by f c (kept_in v r)
