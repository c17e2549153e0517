-- Recalls are the same without what mismatches have found.
use Rattle.std.proofs.Common.{refl, ◌≡◌, ◌∷◌, [], List, ℕ}
use Rattle.std.specs.Prelude.{Option, Some, None, if◌then◌else◌, ◌&&◌, not, bytes_eq}
use Rattle.std.specs.List.{list_any}
use Rattle.cta_site.specs.declared.site.Site.{Site}
use Rattle.cta_model.specs.declared.entries.Entry.{Entry}
use Rattle.cta_model.specs.declared.asks.Ask.{Ask}
use Rattle.cta_model.specs.declared.asks.Ask.TheVariants as ask
use Rattle.cta_model.specs.declared.answers.Answer.{Answer}
use Rattle.cta_model.specs.declared.answers.Answer.TheVariants as answer
use Rattle.cta_model.specs.declared.asks.Fate.TheVariants as fate
use Rattle.cta_model.specs.declared.asks.Wanted.{Wanted}
use Rattle.cta_model.specs.History.{History, is_number, has_text, is_empty}
use Rattle.cta_model.specs.Places.{has_place_on}
use Rattle.cta_model.specs.Recalls.{Recall, bears_recall, live_recall, lives_unless, names_file, recall_after, recall_goes_on, recall_job, subscribed, unsubscribed, waits_for}
use Rattle.mismatch_laws.specs.Alike.{ask_without_found, entry_without_found, history_without_found}
use Rattle.mismatch_laws.proofs.History.{next_number_same}
use Rattle.mismatch_laws.proofs.Files.{live_file_same, path_of_same}
use Rattle.mismatch_laws.proofs.Places.{places_of_same}
use Rattle.mismatch_laws.proofs.Buffer.{is_resident_same}
use Rattle.mismatch_laws.proofs.Charges.{is_last_charge_same}

pub names_file_same : (h : History) (f : ℕ) (wanted : List Wanted) → names_file (history_without_found h) f wanted ≡ names_file h f wanted
names_file_same h f wanted = λ z. list_any (λ (w : Wanted). is_number f (live_file_same h w.path z)) wanted

pub waits_for_same : (site : Site) (h : History) (k : Ask) (f : ℕ) → waits_for site (history_without_found h) (ask_without_found k) f ≡ waits_for site h k f
waits_for_same site h (ask.Stage who files) f = λ z. names_file_same h f files.items z
waits_for_same site h (ask.Repack who v) f = λ z. has_place_on v (places_of_same site h f z)
waits_for_same site h _ f = refl

pub bears_recall_same : (site : Site) (h : History) (k : Ask) (f : ℕ) → bears_recall site (history_without_found h) (ask_without_found k) f ≡ bears_recall site h k f
bears_recall_same site h k f = λ z. (waits_for_same site h k f z) && (not (is_resident_same h f z) && not (is_empty (places_of_same site h f z)))

pub recall_goes_on_same : (site : Site) (h : History) (e : Entry) (f : ℕ) (r : Recall) (k : Ask) (a : Answer) → recall_goes_on site (history_without_found h) (entry_without_found e) f r (ask_without_found k) a ≡ recall_goes_on site h e f r k a
recall_goes_on_same site h e f r (ask.Stage who files) a = λ z. Some (subscribed (waits_for_same site h (ask.Stage who files) f z) (next_number_same h z) r)
recall_goes_on_same site h e f r (ask.Repack who v) a = λ z. Some (subscribed (waits_for_same site h (ask.Repack who v) f z) (next_number_same h z) r)
recall_goes_on_same site h e f r (ask.Cancel who id paths) a = λ z. if has_text (path_of_same h f z) paths.items then unsubscribed id r else Some r
recall_goes_on_same site h e f r (ask.DropStage who id) a = refl
recall_goes_on_same site h e f r (ask.Recalled m job) (answer.Arrived fate.Done) = refl
recall_goes_on_same site h e f r (ask.Failed m fault charged returned) a = λ z. lives_unless (is_last_charge_same site h (ask.Failed m fault charged returned) (recall_job r.birth f) z) r
recall_goes_on_same site h e f r (ask.Delete who path) a = λ z. lives_unless (bytes_eq path (path_of_same h f z)) r
recall_goes_on_same site h e f r (ask.TapeState who v s) a = λ z. lives_unless (is_empty (places_of_same site (e ∷ h) f z)) r
recall_goes_on_same site h e f r _ a = refl

pub recall_after_same : (site : Site) (h : History) (e : Entry) (f : ℕ) (r : Option Recall) → recall_after site (history_without_found h) (entry_without_found e) f r ≡ recall_after site h e f r
recall_after_same site h e f None = λ z. if (bears_recall_same site h e.ask f z) then Some (record { birth = (next_number_same h z); waiting = (next_number_same h z) ∷ [] }) else None
recall_after_same site h e f (Some r) = λ z. recall_goes_on_same site h e f r e.ask e.answer z

pub live_recall_same : (site : Site) (h : History) (f : ℕ) → live_recall site (history_without_found h) f ≡ live_recall site h f
live_recall_same site [] f = refl
live_recall_same site (e ∷ h) f = λ z. recall_after_same site h e f (live_recall_same site h f z) z
