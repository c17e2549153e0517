-- Tapes are the same without what mismatches have found.
use Rattle.std.proofs.Common.{refl, ◌≡◌, ◌∷◌, [], List, ℕ}
use Rattle.std.specs.Prelude.{◌+◌, length, ◌==◌, ◌&&◌, sum_by}
use Rattle.cta_site.specs.declared.site.Site.{Site}
use Rattle.cta_site.specs.declared.site.TapeState.{TapeState}
use Rattle.cta_model.specs.declared.asks.Ask.{Ask}
use Rattle.cta_model.specs.declared.asks.Ask.TheVariants as ask
use Rattle.cta_model.specs.declared.asks.Item.{Item}
use Rattle.cta_model.specs.declared.asks.Direction.TheVariants as direction
use Rattle.cta_model.specs.declared.states.Mount.{Mount}
use Rattle.cta_model.specs.History.{History}
use Rattle.cta_model.specs.Mounts.{same_direction}
use Rattle.cta_model.specs.Tapes.{bytes_to_write, items_after, next_fseq, size_of_items, state_after, tape_items, tape_state, used_bytes}
use Rattle.mismatch_laws.specs.Alike.{ask_without_found, history_without_found}
use Rattle.mismatch_laws.proofs.Mounts.{asked_mount_same, claimed_items_same, open_where_same, tape_of_mount_same}

pub state_after_same : (k : Ask) (v : ℕ) (before : TapeState) → state_after (ask_without_found k) v before ≡ state_after k v before
state_after_same (ask.TapeState who k s) v before = refl
state_after_same _ v before = refl

pub tape_state_same : (site : Site) (h : History) (v : ℕ) → tape_state site (history_without_found h) v ≡ tape_state site h v
tape_state_same site [] v = refl
tape_state_same site (e ∷ h) v = λ z. state_after_same e.ask v (tape_state_same site h v z) z

pub items_after_same : (k : Ask) (v : ℕ) (of_mount : ℕ) (before : List Item) → items_after (ask_without_found k) v of_mount before ≡ items_after k v of_mount before
items_after_same (ask.Flushed m items) v of_mount before = refl
items_after_same (ask.Reclaim who k) v of_mount before = refl
items_after_same _ v of_mount before = refl

pub tape_items_same : (h : History) (v : ℕ) → tape_items (history_without_found h) v ≡ tape_items h v
tape_items_same [] v = refl
tape_items_same (e ∷ h) v = λ z. items_after_same e.ask v (tape_of_mount_same h (asked_mount_same e.ask z) z) (tape_items_same h v z) z

pub next_fseq_same : (h : History) (v : ℕ) → next_fseq (history_without_found h) v ≡ next_fseq h v
next_fseq_same h v = λ z. length (tape_items_same h v z) + 1

pub bytes_to_write_same : (h : History) (v : ℕ) → bytes_to_write (history_without_found h) v ≡ bytes_to_write h v
bytes_to_write_same h v = λ z. sum_by (λ m. size_of_items (claimed_items_same h m z)) (open_where_same (λ (x : Mount). same_direction x.direction direction.Archive && x.tape == v) h z)

pub used_bytes_same : (h : History) (v : ℕ) → used_bytes (history_without_found h) v ≡ used_bytes h v
used_bytes_same h v = λ z. size_of_items (tape_items_same h v z) + (bytes_to_write_same h v z)
