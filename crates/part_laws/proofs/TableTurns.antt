-- The calls of a core that turn the row of a tape, or drop a file, move the table as the entry does.
use Rattle.std.proofs.Common.{◌≡◌, ◌∙◌, ℕ, ◌+◌, ◌-◌, List, ◌++◌, Bool, true, false, refl, sym, ap}
use Rattle.std.specs.Prelude.{Option, Some, None, if◌then◌else◌, ◌==◌, ◌&&◌}
use Rattle.cta_site.specs.declared.site.Site.{Site}
use Rattle.cta_site.specs.declared.site.TapeState.{TapeState}
use Rattle.cta_site.specs.Listed.{Listed}
use Rattle.cta_model.specs.declared.entries.Entry.{Entry}
use Rattle.cta_model.specs.declared.asks.Ask.{Ask}
use Rattle.cta_model.specs.declared.asks.Ask.TheVariants as ask
use Rattle.cta_model.specs.declared.asks.Direction.{Direction}
use Rattle.cta_model.specs.declared.asks.Direction.TheVariants as direction
use Rattle.cta_model.specs.declared.asks.Fault.{Fault}
use Rattle.cta_model.specs.declared.asks.Job.{Job}
use Rattle.cta_model.specs.declared.asks.Who.{Who}
use Rattle.cta_model.specs.declared.states.Mount.{Mount}
use Rattle.cta_model.specs.declared.states.Place.{Place}
use Rattle.cta_model.specs.Files.{live_file}
use Rattle.cta_model.specs.History.{History, is_number}
use Rattle.cta_model.specs.Mounts.{is_mount, mount_of, same_direction}
use Rattle.cta_model.specs.Tapes.{size_of_items, state_after}
use Rattle.cta_laws.specs.Claims.{claimed_by, size_of_jobs, writes_on}
use Rattle.cta_laws.proofs.Bools.{eq_flip}
use Rattle.part_model.specs.declared.space.TapeRow.{TapeRow}
use Rattle.part_model.specs.Tapes.{AreDistinct, HasDropped, HasTurned, Table, claimed_row, place_in, reclaimed_row, row_in, row_in_state, unclaimed_row}
use Rattle.part_laws.proofs.After.{TableMoved, may_change_table, next_after, placed_after, row_after, used_after}

-- where an ask leaves the places, a call that turns a row moves the table as the entry does if it turns the row as the entry does
turned_moves : (site : Site) (h : History) (e : Entry) (tape : ℕ) (turn : TapeRow → TapeRow) (v v' : Table) → HasTurned tape turn v v' → ((t : ℕ) (r : TapeRow) → (if t == tape then turn r else r) ≡ row_after h e t r) → ((f c : ℕ) (o : Option Place) → placed_after h e.ask e.answer f c o ≡ o) → TableMoved site h e v v'
turned_moves site h e tape turn v v' call same kept = record {
  rows = λ t low. call.rows t ∙ same t (row_in v t);
  places = λ f c. call.places f c ∙ sym (kept f c (place_in v f c));
  distinct = call.distinct;
}

-- the row after an entry with this ask
row_by : (h : History) (e : Entry) (k : Ask) (t : ℕ) (r : TapeRow) → e.ask ≡ k → row_after h e t r ≡ record { used = used_after h k e.answer t r.used; next = next_after h k t r.next; state = state_after k t r.state }
row_by h e k t r ek = ap (λ (x : Ask). record { used = used_after h x e.answer t r.used; next = next_after h x t r.next; state = state_after x t r.state }) ek

places_by : (h : History) (e : Entry) (k : Ask) (f c : ℕ) (o : Option Place) → e.ask ≡ k → placed_after h k e.answer f c o ≡ o → placed_after h e.ask e.answer f c o ≡ o
places_by h e k f c o ek same = ap (λ (x : Ask). placed_after h x e.answer f c o) ek ∙ same

-- a mount that writes on x's tape does so on tape t alone where t is that tape
writes_there : (t : ℕ) (o : Option Mount) (x : Mount) → o ≡ Some x → x.direction ≡ direction.Archive → is_mount (writes_on t) o ≡ (t == x.tape)
writes_there t o x is way = ap (is_mount (writes_on t)) is ∙ ap (λ (d : Direction). same_direction d direction.Archive && x.tape == t) way ∙ eq_flip x.tape t

reads_there : (t : ℕ) (o : Option Mount) (x : Mount) → o ≡ Some x → x.direction ≡ direction.Retrieve → is_mount (writes_on t) o ≡ false
reads_there t o x is way = ap (is_mount (writes_on t)) is ∙ ap (λ (d : Direction). same_direction d direction.Archive && x.tape == t) way

-- a writing mount's Claim is one claim of the bytes of its batch
pub claim_turns : (site : Site) (h : History) (e : Entry) (m : ℕ) (x : Mount) (v v' : Table) → e.ask ≡ ask.Claim m → mount_of h m ≡ Some x → x.direction ≡ direction.Archive → HasTurned x.tape (claimed_row (size_of_items (claimed_by e.ask e.answer))) v v' → TableMoved site h e v v'
claim_turns site h e m x v v' ek is way call = turned_moves site h e x.tape (claimed_row (size_of_items (claimed_by e.ask e.answer))) v v' call same (λ f c o. places_by h e (ask.Claim m) f c o ek refl)
  where
    shape : (b : Bool) (n : ℕ) (r : TapeRow) → (if b then claimed_row n r else r) ≡ record { used = if b then r.used + n else r.used; next = r.next; state = r.state }
    shape true n r = refl
    shape false n r = refl

    same : (t : ℕ) (r : TapeRow) → (if t == x.tape then claimed_row (size_of_items (claimed_by e.ask e.answer)) r else r) ≡ row_after h e t r
    same t r =
        shape (t == x.tape) (size_of_items (claimed_by e.ask e.answer)) r
        ∙ ap (λ (k : Ask). record { used = if t == x.tape then r.used + size_of_items (claimed_by k e.answer) else r.used; next = r.next; state = r.state }) ek
        ∙ ap (λ (b : Bool). record { used = if b then r.used + size_of_items (claimed_by (ask.Claim m) e.answer) else r.used; next = r.next; state = r.state }) (sym (writes_there t (mount_of h m) x is way))
        ∙ sym (row_by h e (ask.Claim m) t r ek)

-- a reading mount's Claim calls nothing of the table
pub claim_leaves_table : (site : Site) (h : History) (e : Entry) (m : ℕ) (x : Mount) (v : Table) → e.ask ≡ ask.Claim m → mount_of h m ≡ Some x → x.direction ≡ direction.Retrieve → AreDistinct v.places → TableMoved site h e v v
claim_leaves_table site h e m x v ek is way distinct = record {
  rows = λ t low. sym (row_by h e (ask.Claim m) t (row_in v t) ek ∙ ap (λ (b : Bool). record { used = if b then (row_in v t).used + size_of_items (claimed_by (ask.Claim m) e.answer) else (row_in v t).used; next = (row_in v t).next; state = (row_in v t).state }) (reads_there t (mount_of h m) x is way));
  places = λ f c. sym (places_by h e (ask.Claim m) f c (place_in v f c) ek refl);
  distinct = distinct;
}

-- a writing mount's Failed is one unclaim of the bytes of the jobs that it names
pub failed_turns : (site : Site) (h : History) (e : Entry) (m : ℕ) (fault : Fault) (charged returned : Listed Job) (x : Mount) (v v' : Table) → e.ask ≡ ask.Failed m fault charged returned → mount_of h m ≡ Some x → x.direction ≡ direction.Archive → HasTurned x.tape (unclaimed_row (size_of_jobs h (charged.items ++ returned.items))) v v' → TableMoved site h e v v'
failed_turns site h e m fault charged returned x v v' ek is way call =
    turned_moves site h e x.tape (unclaimed_row (size_of_jobs h (charged.items ++ returned.items))) v v' call same (λ f c o. places_by h e (ask.Failed m fault charged returned) f c o ek refl)
  where
    shape : (b : Bool) (n : ℕ) (r : TapeRow) → (if b then unclaimed_row n r else r) ≡ record { used = if b then r.used - n else r.used; next = r.next; state = r.state }
    shape true n r = refl
    shape false n r = refl

    same : (t : ℕ) (r : TapeRow) → (if t == x.tape then unclaimed_row (size_of_jobs h (charged.items ++ returned.items)) r else r) ≡ row_after h e t r
    same t r =
        shape (t == x.tape) (size_of_jobs h (charged.items ++ returned.items)) r
        ∙ ap (λ (b : Bool). record { used = if b then r.used - size_of_jobs h (charged.items ++ returned.items) else r.used; next = r.next; state = r.state }) (sym (writes_there t (mount_of h m) x is way))
        ∙ sym (row_by h e (ask.Failed m fault charged returned) t r ek)

-- a reading mount's Failed calls nothing of the table
pub failed_leaves_table : (site : Site) (h : History) (e : Entry) (m : ℕ) (fault : Fault) (charged returned : Listed Job) (x : Mount) (v : Table) → e.ask ≡ ask.Failed m fault charged returned → mount_of h m ≡ Some x → x.direction ≡ direction.Retrieve → AreDistinct v.places → TableMoved site h e v v
failed_leaves_table site h e m fault charged returned x v ek is way distinct = record {
  rows = λ t low. sym (row_by h e (ask.Failed m fault charged returned) t (row_in v t) ek ∙ ap (λ (b : Bool). record { used = if b then (row_in v t).used - size_of_jobs h (charged.items ++ returned.items) else (row_in v t).used; next = (row_in v t).next; state = (row_in v t).state }) (reads_there t (mount_of h m) x is way));
  places = λ f c. sym (places_by h e (ask.Failed m fault charged returned) f c (place_in v f c) ek refl);
  distinct = distinct;
}

-- a TapeState sets the state of its tape
pub state_turns : (site : Site) (h : History) (e : Entry) (who : Who) (tape : ℕ) (s : TapeState) (v v' : Table) → e.ask ≡ ask.TapeState who tape s → HasTurned tape (row_in_state s) v v' → TableMoved site h e v v'
state_turns site h e who tape s v v' ek call = turned_moves site h e tape (row_in_state s) v v' call same (λ f c o. places_by h e (ask.TapeState who tape s) f c o ek refl)
  where
    shape : (b : Bool) (r : TapeRow) → (if b then row_in_state s r else r) ≡ record { used = r.used; next = r.next; state = if b then s else r.state }
    shape true r = refl
    shape false r = refl

    same : (t : ℕ) (r : TapeRow) → (if t == tape then row_in_state s r else r) ≡ row_after h e t r
    same t r =
        shape (t == tape) r
        ∙ ap (λ (b : Bool). record { used = r.used; next = r.next; state = if b then s else r.state }) (eq_flip t tape)
        ∙ sym (row_by h e (ask.TapeState who tape s) t r ek)

-- a Reclaim begins its tape again
pub reclaim_turns : (site : Site) (h : History) (e : Entry) (who : Who) (tape : ℕ) (v v' : Table) → e.ask ≡ ask.Reclaim who tape → HasTurned tape reclaimed_row v v' → TableMoved site h e v v'
reclaim_turns site h e who tape v v' ek call = turned_moves site h e tape reclaimed_row v v' call same (λ f c o. places_by h e (ask.Reclaim who tape) f c o ek refl)
  where
    shape : (b : Bool) (r : TapeRow) → (if b then reclaimed_row r else r) ≡ record { used = if b then 0 else r.used; next = if b then 1 else r.next; state = r.state }
    shape true r = refl
    shape false r = refl

    same : (t : ℕ) (r : TapeRow) → (if t == tape then reclaimed_row r else r) ≡ row_after h e t r
    same t r =
        shape (t == tape) r
        ∙ ap (λ (b : Bool). record { used = if b then 0 else r.used; next = if b then 1 else r.next; state = r.state }) (eq_flip t tape)
        ∙ sym (row_by h e (ask.Reclaim who tape) t r ek)

-- a Delete drops the places of its file
pub delete_drops : (site : Site) (h : History) (e : Entry) (who : Who) (path : List ℕ) (g : ℕ) (v v' : Table) → e.ask ≡ ask.Delete who path → live_file h path ≡ Some g → HasDropped g v v' → TableMoved site h e v v'
delete_drops site h e who path g v v' ek named call = record {
  rows = λ t low. call.rows t ∙ sym (row_by h e (ask.Delete who path) t (row_in v t) ek);
  places = λ f c. call.places f c
      ∙ ap (λ (o : Option ℕ). if is_number f o then None else place_in v f c) (sym named)
      ∙ sym (ap (λ (k : Ask). placed_after h k e.answer f c (place_in v f c)) ek);
  distinct = call.distinct;
}

-- every other ask calls nothing of the table
pub table_stays : (site : Site) (h : History) (e : Entry) (v : Table) → may_change_table e.ask ≡ false → AreDistinct v.places → TableMoved site h e v v
table_stays site h e v stays distinct = record {
  rows = λ t low. row e.ask t (row_in v t) stays;
  places = λ f c. place e.ask f c (place_in v f c) stays;
  distinct = distinct;
}
  where
    row : (k : Ask) (t : ℕ) (r : TapeRow) → may_change_table k ≡ false → r ≡ record { used = used_after h k e.answer t r.used; next = next_after h k t r.next; state = state_after k t r.state }
    row (ask.Claim m) t r s = absurd (cc)
    row (ask.Flushed m items) t r s = absurd (cc)
    row (ask.Failed m fault charged returned) t r s = absurd (cc)
    row (ask.Delete who path) t r s = absurd (cc)
    row (ask.TapeState who k st) t r s = absurd (cc)
    row (ask.Reclaim who k) t r s = absurd (cc)
    row _ t r s = refl

    place : (k : Ask) (f c : ℕ) (o : Option Place) → may_change_table k ≡ false → o ≡ placed_after h k e.answer f c o
    place (ask.Flushed m items) f c o s = absurd (cc)
    place (ask.Delete who path) f c o s = absurd (cc)
    place _ f c o s = refl
