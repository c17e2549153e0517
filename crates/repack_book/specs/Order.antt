-- The orders in which live items are kept.
use Rattle.std.specs.Prelude.{ℕ, Bool, List, ◌==◌, ◌&&◌, ◌||◌, nat_lt}
use Rattle.std.specs.List.{list_any}
use Rattle.cta_model.specs.declared.asks.Job.{Job}
use Rattle.part_model.specs.Order.{goes_before}
use Rattle.repack_book.specs.declared.items.LiveItem.{LiveItem}
use Rattle.repack_book.specs.declared.holders.Holder.{Holder}

-- an item's repack, file and copy, as three numbers of which the first counts most
abbrev pub item_numbers : LiveItem → Job
item_numbers x = record { birth = x.repack; file = x.file; copy = x.copy }

-- whether an item comes before another: lower tape, then lower repack, file and copy
abbrev pub item_before : LiveItem → LiveItem → Bool
item_before x y = nat_lt x.tape y.tape || (x.tape == y.tape && goes_before (item_numbers x) (item_numbers y))

-- a holder's file, copy and repack, as three numbers of which the first counts most
abbrev pub holder_numbers : Holder → Job
holder_numbers x = record { birth = x.file; file = x.copy; copy = x.repack }

-- whether a holder comes before another: lower file, then lower copy, then lower repack
abbrev pub holder_before : Holder → Holder → Bool
holder_before x y = goes_before (holder_numbers x) (holder_numbers y)

-- whether an item is the one of these numbers
abbrev pub is_item : ℕ → ℕ → ℕ → ℕ → LiveItem → Bool
is_item t r f c x = (t == x.tape && r == x.repack) && (f == x.file && c == x.copy)

-- whether the item of these numbers is there
abbrev pub has_item : List LiveItem → ℕ → ℕ → ℕ → ℕ → Bool
has_item xs t r f c = list_any (is_item t r f c) xs

-- whether a holder is the one of these numbers
abbrev pub is_holder : ℕ → ℕ → ℕ → Holder → Bool
is_holder f c r x = (f == x.file && c == x.copy) && r == x.repack

-- whether the holder of these numbers is there
abbrev pub has_holder : List Holder → ℕ → ℕ → ℕ → Bool
has_holder xs f c r = list_any (is_holder f c r) xs
