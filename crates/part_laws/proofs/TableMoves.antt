-- The calls for an entry move the table as the entry does, whatever its ask is.
use Rattle.std.proofs.Common.{List, [], Bool, true, not, ◌+◌, ◌≡◌, ◌∙◌, ℕ, ◌<◌, ◌∷◌, ◌++◌, false, refl, sym, ap, subst, length}
use Rattle.std.specs.Prelude.{Option, Some, None, if◌then◌else◌, bytes_eq, map}
use Rattle.std.proofs.lemmas.Bool.{and_parts}
use Rattle.cta_site.specs.declared.site.Site.{Site}
use Rattle.cta_site.specs.Listed.{Listed, rows}
use Rattle.cta_model.specs.declared.entries.Entry.{Entry}
use Rattle.cta_model.specs.declared.asks.Ask.{Ask}
use Rattle.cta_model.specs.declared.asks.Ask.TheVariants as ask
use Rattle.cta_model.specs.declared.answers.Answer.{Answer}
use Rattle.cta_model.specs.declared.asks.Direction.{Direction}
use Rattle.cta_model.specs.declared.asks.Direction.TheVariants as direction
use Rattle.cta_model.specs.declared.asks.Fault.{Fault}
use Rattle.cta_model.specs.declared.asks.Item.{Item}
use Rattle.cta_model.specs.declared.asks.Job.{Job}
use Rattle.cta_model.specs.declared.states.Mount.{Mount}
use Rattle.cta_model.specs.Answers.{answer_of, fate_of}
use Rattle.cta_model.specs.Files.{live_after, live_file}
use Rattle.cta_model.specs.History.{History, moment_of}
use Rattle.cta_model.specs.Legal.{IsFit, IsLegal, IsMountOf}
use Rattle.cta_model.specs.Mounts.{is_open, mount_of, tape_of_mount}
use Rattle.cta_model.specs.Tapes.{size_of_items, state_after, tape_state}
use Rattle.cta_laws.proofs.KeyLaw.{OpenIsGood, open_good, way_of}
use Rattle.cta_laws.proofs.PlaceLaw.{flushed_known}
use Rattle.cta_model.specs.Mounts.{tape_by}
use Rattle.cta_laws.specs.Claims.{claimed_by, size_of_jobs}
use Rattle.cta_laws.proofs.Accepted.{answer_is, failed_mount, some_file}
use Rattle.cta_laws.specs.Asks.{AnswerIs}
use Rattle.part_model.specs.Tapes.{Table, TablesAgree, claimed_row, unclaimed_row}
use Rattle.part_laws.specs.Tapes.{IsTable, row_of}
use Rattle.part_laws.specs.Names.{AreNames}
use Rattle.part_laws.proofs.Rows.{next_is, used_is}
use Rattle.part_laws.proofs.Places.{place_is}
use Rattle.part_model.specs.declared.space.TapeRow.{TapeRow}
use Rattle.part_model.specs.Names.{Names, add_name, file_in, remove_name}
use Rattle.cta_laws.proofs.Paths.{bytes_flip, same_bytes}
use Rattle.cta_site.specs.declared.site.TapeState.{TapeState}
use Rattle.part_laws.specs.TableLaws.{CallsMoveNames, CallsMoveTable}
use Rattle.part_laws.proofs.After.{TableMoved, may_change_table, placed_after, row_after}
use Rattle.part_laws.specs.TableCalls.{NamesCalled, TableCalled, TurnedThisWay}
use Rattle.part_laws.proofs.Flushes.{flushed_table}
use Rattle.part_laws.proofs.TableTurns.{claim_leaves_table, claim_turns, delete_drops, failed_leaves_table, failed_turns, reclaim_turns, state_turns, table_stays}

-- a table that tells the same as one that is moved is moved
pub moved_as : (site : Site) (h : History) (e : Entry) (v w v' : Table) → TableMoved site h e v w → TablesAgree v' w → TableMoved site h e v v'
moved_as site h e v w v' moved same = record {
  rows = λ t low. same.rows t ∙ moved.rows t low;
  places = λ f c. same.places f c ∙ moved.places f c;
  distinct = same.distinct;
}

-- the tape of a flush is one of the site
flush_tape : (site : Site) (h : History) (e : Entry) (m : ℕ) (items : Listed Item) → IsLegal site (e ∷ h) → e.ask ≡ ask.Flushed m items → IsMountOf direction.Archive (mount_of h m) → tape_of_mount h m < length site.tapes.items
flush_tape site h e m items legal ek way =
    let known = flushed_known site h e.at m items e.answer (legal.1.answered ∙ ap (answer_of site h e.at) ek) legal.1.accepted in
    let x : OpenIsGood site h m = open_good site h legal.0 m (and_parts (is_open h m) _ known.0).0 in
    let tape : tape_of_mount h m ≡ x.0.tape = ap tape_by x.1 in
    subst (λ (v : ℕ). v < length site.tapes.items) (sym tape) (x.2.1 (way_of (mount_of h m) x.0 x.1 way))

claim_called : (site : Site) (h : History) (e : Entry) (m : ℕ) (x : Mount) (v v' : Table) (d : Direction) → e.ask ≡ ask.Claim m → mount_of h m ≡ Some x → x.direction ≡ d → IsTable site h v → TurnedThisWay d x.tape (claimed_row (size_of_items (claimed_by e.ask e.answer))) v v' → TableMoved site h e v v'
claim_called site h e m x v v' direction.Archive ek mounted way is c = claim_turns site h e m x v v' ek mounted way c
claim_called site h e m x v v' direction.Retrieve ek mounted way is c = moved_as site h e v v v' (claim_leaves_table site h e m x v ek mounted way is.distinct) c

failed_called : (site : Site) (h : History) (e : Entry) (m : ℕ) (f : Fault) (charged returned : Listed Job) (x : Mount) (v v' : Table) (d : Direction) → e.ask ≡ ask.Failed m f charged returned → mount_of h m ≡ Some x → x.direction ≡ d → IsTable site h v → TurnedThisWay d x.tape (unclaimed_row (size_of_jobs h (charged.items ++ returned.items))) v v' → TableMoved site h e v v'
failed_called site h e m f charged returned x v v' direction.Archive ek mounted way is c = failed_turns site h e m f charged returned x v v' ek mounted way c
failed_called site h e m f charged returned x v v' direction.Retrieve ek mounted way is c = moved_as site h e v v v' (failed_leaves_table site h e m f charged returned x v ek mounted way is.distinct) c

stays_called : (site : Site) (h : History) (e : Entry) (v v' : Table) (k : Ask) → e.ask ≡ k → may_change_table k ≡ false → IsTable site h v → TablesAgree v' v → TableMoved site h e v v'
stays_called site h e v v' k ek stays is c = moved_as site h e v v v' (table_stays site h e v (ap may_change_table ek ∙ stays) is.distinct) c

pub table_step : (site : Site) (h : History) (e : Entry) (v v' : Table) (k : Ask) → IsLegal site (e ∷ h) → e.ask ≡ k → AnswerIs site h (moment_of h e.at) k e.answer → IsFit site h k → IsTable site h v → TableCalled h e k e.answer v v' → TableMoved site h e v v'
table_step site h e v v' (ask.Delete who path) legal ek a fit is c =
    let g : (g : ℕ) × (live_file h path ≡ Some g) = some_file (live_file h path) a.1 in
    delete_drops site h e who path g.0 v v' ek g.1 (c g.0 g.1)
table_step site h e v v' (ask.Claim m) legal ek a fit is c = claim_called site h e m a.0 v v' a.0.direction ek a.1 refl is (c a.0 a.1)
table_step site h e v v' (ask.Flushed m items) legal ek a fit is c =
    flushed_table site h e m items (rows (map (λ (i : Item). fate_of site h i.job) items.items)) v v' legal ek a is (flush_tape site h e m items legal ek fit)
    (subst (λ (x : Answer). TableCalled h e (ask.Flushed m items) x v v') a c)
table_step site h e v v' (ask.Failed m f charged returned) legal ek a fit is c =
    let y : (y : Mount) × (mount_of h m ≡ Some y) = failed_mount f (mount_of h m) fit.0 in
    failed_called site h e m f charged returned y.0 v v' y.0.direction ek y.1 refl is (c y.0 y.1)
table_step site h e v v' (ask.TapeState who tape s) legal ek a fit is c = state_turns site h e who tape s v v' ek c
table_step site h e v v' (ask.Reclaim who tape) legal ek a fit is c = reclaim_turns site h e who tape v v' ek c
table_step site h e v v' (ask.Put who path sum) legal ek a fit is c = stays_called site h e v v' (ask.Put who path sum) ek refl is c
table_step site h e v v' (ask.Stage who files) legal ek a fit is c = stays_called site h e v v' (ask.Stage who files) ek refl is c
table_step site h e v v' (ask.Cancel who id paths) legal ek a fit is c = stays_called site h e v v' (ask.Cancel who id paths) ek refl is c
table_step site h e v v' (ask.DropStage who id) legal ek a fit is c = stays_called site h e v v' (ask.DropStage who id) ek refl is c
table_step site h e v v' (ask.Release who id paths) legal ek a fit is c = stays_called site h e v v' (ask.Release who id paths) ek refl is c
table_step site h e v v' (ask.Next d) legal ek a fit is c = stays_called site h e v v' (ask.Next d) ek refl is c
table_step site h e v v' (ask.Recalled m job) legal ek a fit is c = stays_called site h e v v' (ask.Recalled m job) ek refl is c
table_step site h e v v' (ask.End m f) legal ek a fit is c = stays_called site h e v v' (ask.End m f) ek refl is c
table_step site h e v v' (ask.DriveUp who d) legal ek a fit is c = stays_called site h e v v' (ask.DriveUp who d) ek refl is c
table_step site h e v v' (ask.DriveDown who d) legal ek a fit is c = stays_called site h e v v' (ask.DriveDown who d) ek refl is c
table_step site h e v v' (ask.Repack who tape) legal ek a fit is c = stays_called site h e v v' (ask.Repack who tape) ek refl is c
table_step site h e v v' (ask.Retry who paths) legal ek a fit is c = stays_called site h e v v' (ask.Retry who paths) ek refl is c

-- ---- a table that is moved as the entry does stands for the longer history

row : ℕ → ℕ → TapeState → TapeRow
row u n s = record { used = u; next = n; state = s }

same_row : (u u' n n' : ℕ) (s : TapeState) → u ≡ u' → n ≡ n' → row u n s ≡ row u' n' s
same_row u u' n n' s x y = cc

row_is : (site : Site) (h : History) (e : Entry) (t : ℕ) → IsLegal site (e ∷ h) → row_after h e t (row_of site h t) ≡ row_of site (e ∷ h) t
unfolding row
row_is site h e t legal = same_row _ _ _ _ (state_after e.ask t (tape_state site h t)) (sym (used_is site h e t legal)) (sym (next_is h e t))

moved_stands : (site : Site) (h : History) (e : Entry) (v v' : Table) → IsLegal site (e ∷ h) → IsTable site h v → TableMoved site h e v v' → IsTable site (e ∷ h) v'
moved_stands site h e v v' legal is moved = record {
  rows = λ t low. moved.rows t low ∙ ap (row_after h e t) (is.rows t low) ∙ row_is site h e t legal;
  places = λ f c. moved.places f c ∙ ap (placed_after h e.ask e.answer f c) (is.places f c) ∙ sym (place_is site h e f c legal);
  distinct = moved.distinct;
}

pub calls_move_table : CallsMoveTable
calls_move_table site h e v v' legal is c = moved_stands site h e v v' legal is (table_step site h e v v' e.ask legal refl (answer_is site h e.at e.ask e.answer legal.1.answered legal.1.accepted) legal.1.fit is c)

-- ---- the index of paths

added_is : (put path : List ℕ) (n : ℕ) (v : Names) → file_in (add_name put n v) path ≡ (if bytes_eq put path then Some n else file_in v path)
added_is put path n v = ap (λ (b : Bool). if b then Some n else file_in v path) (bytes_flip path put)

removed_is : (gone path : List ℕ) (v : Names) → file_in (remove_name gone v) path ≡ (if bytes_eq gone path then None else file_in v path)
removed_is gone path [] = either (bytes_eq gone path)
  where
    either : (b : Bool) → ◌≡◌ {A = Option ℕ} None (if b then None else None)
    either true = refl
    either false = refl
removed_is gone path (x ∷ xs) = by (bytes_eq gone x.0) refl (bytes_eq path x.0) refl (removed_is gone path xs)
  where
    by : (a : Bool) → bytes_eq gone x.0 ≡ a → (b : Bool) → bytes_eq path x.0 ≡ b → file_in (remove_name gone xs) path ≡ (if bytes_eq gone path then None else file_in xs path) → file_in (if not a then x ∷ remove_name gone xs else remove_name gone xs) path ≡ (if bytes_eq gone path then None else (if b then Some x.1 else file_in xs path))
    by true ea true eb rest = (let same : bytes_eq gone path ≡ true = subst (λ (p : List ℕ). bytes_eq gone p ≡ true) (sym (same_bytes path x.0 eb)) ea in rw same (rw same at rest))
    by true ea false eb rest = rest
    by false ea true eb rest = (let other : bytes_eq gone path ≡ false = subst (λ (p : List ℕ). bytes_eq gone p ≡ false) (sym (same_bytes path x.0 eb)) ea in rw (eb, other) refl)
    by false ea false eb rest = rw eb rest

names_step : (h : History) (e : Entry) (k : Ask) (v v' : Names) → e.ask ≡ k → AreNames h v → NamesCalled h k v v' → AreNames (e ∷ h) v'
names_step h e (ask.Put who put sum) v v' ek is c path =
    c path ∙ added_is put path (length h + 1) v ∙ ap (λ (o : Option ℕ). if bytes_eq put path then Some (length h + 1) else o) (is path) ∙ sym (ap (λ (k : Ask). live_after k (length h + 1) path (live_file h path)) ek)
names_step h e (ask.Delete who gone) v v' ek is c path =
    c path ∙ removed_is gone path v ∙ ap (λ (o : Option ℕ). if bytes_eq gone path then None else o) (is path) ∙ sym (ap (λ (k : Ask). live_after k (length h + 1) path (live_file h path)) ek)
names_step h e (ask.Stage who files) v v' ek is c path = c path ∙ is path ∙ sym (ap (λ (k : Ask). live_after k (length h + 1) path (live_file h path)) ek)
names_step h e (ask.Cancel who id paths) v v' ek is c path = c path ∙ is path ∙ sym (ap (λ (k : Ask). live_after k (length h + 1) path (live_file h path)) ek)
names_step h e (ask.DropStage who id) v v' ek is c path = c path ∙ is path ∙ sym (ap (λ (k : Ask). live_after k (length h + 1) path (live_file h path)) ek)
names_step h e (ask.Release who id paths) v v' ek is c path = c path ∙ is path ∙ sym (ap (λ (k : Ask). live_after k (length h + 1) path (live_file h path)) ek)
names_step h e (ask.Next d) v v' ek is c path = c path ∙ is path ∙ sym (ap (λ (k : Ask). live_after k (length h + 1) path (live_file h path)) ek)
names_step h e (ask.Claim m) v v' ek is c path = c path ∙ is path ∙ sym (ap (λ (k : Ask). live_after k (length h + 1) path (live_file h path)) ek)
names_step h e (ask.Flushed m items) v v' ek is c path = c path ∙ is path ∙ sym (ap (λ (k : Ask). live_after k (length h + 1) path (live_file h path)) ek)
names_step h e (ask.Recalled m job) v v' ek is c path = c path ∙ is path ∙ sym (ap (λ (k : Ask). live_after k (length h + 1) path (live_file h path)) ek)
names_step h e (ask.Failed m f charged returned) v v' ek is c path = c path ∙ is path ∙ sym (ap (λ (k : Ask). live_after k (length h + 1) path (live_file h path)) ek)
names_step h e (ask.End m f) v v' ek is c path = c path ∙ is path ∙ sym (ap (λ (k : Ask). live_after k (length h + 1) path (live_file h path)) ek)
names_step h e (ask.DriveUp who d) v v' ek is c path = c path ∙ is path ∙ sym (ap (λ (k : Ask). live_after k (length h + 1) path (live_file h path)) ek)
names_step h e (ask.DriveDown who d) v v' ek is c path = c path ∙ is path ∙ sym (ap (λ (k : Ask). live_after k (length h + 1) path (live_file h path)) ek)
names_step h e (ask.TapeState who tape s) v v' ek is c path = c path ∙ is path ∙ sym (ap (λ (k : Ask). live_after k (length h + 1) path (live_file h path)) ek)
names_step h e (ask.Reclaim who tape) v v' ek is c path = c path ∙ is path ∙ sym (ap (λ (k : Ask). live_after k (length h + 1) path (live_file h path)) ek)
names_step h e (ask.Repack who tape) v v' ek is c path = c path ∙ is path ∙ sym (ap (λ (k : Ask). live_after k (length h + 1) path (live_file h path)) ek)
names_step h e (ask.Retry who paths) v v' ek is c path = c path ∙ is path ∙ sym (ap (λ (k : Ask). live_after k (length h + 1) path (live_file h path)) ek)

pub calls_move_names : CallsMoveNames
calls_move_names h e v v' is c = names_step h e e.ask v v' refl is c
