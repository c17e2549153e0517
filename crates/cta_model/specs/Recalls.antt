-- Recalls. At most one recall of a file is live, and it ends at the latest where no request waits for it any more.
use Rattle.std.specs.Prelude.{ℕ, List, [], ◌∷◌, ◌++◌, Option, Some, None, Bool, true, false, if◌then◌else◌, ◌==◌, ◌&&◌, not, filter, bytes_eq}
use Rattle.std.specs.List.{list_any}
use Rattle.cta_site.specs.declared.site.Site.{Site}
use Rattle.cta_model.specs.declared.entries.Entry.{Entry}
use Rattle.cta_model.specs.declared.asks.Ask.{Ask}
use Rattle.cta_model.specs.declared.asks.Ask.TheVariants as ask
use Rattle.cta_model.specs.declared.answers.Answer.{Answer}
use Rattle.cta_model.specs.declared.answers.Answer.TheVariants as answer
use Rattle.cta_model.specs.declared.asks.Fate.TheVariants as fate
use Rattle.cta_model.specs.declared.asks.Job.{Job}
use Rattle.cta_model.specs.declared.asks.Wanted.{Wanted}
use Rattle.cta_model.specs.History.{History, next_number, is_number, has_text, is_empty}
use Rattle.cta_model.specs.Files.{live_file, path_of}
use Rattle.cta_model.specs.Mounts.{same_job}
use Rattle.cta_model.specs.Places.{places_of, has_place_on}
use Rattle.cta_model.specs.Buffer.{is_resident}
use Rattle.cta_model.specs.Charges.{is_last_charge}

-- a live recall: the entry that it was born by, and the Stage and Repack entries that still wait for it, in order
pub record Recall : Type 0 where
  pub birth : ℕ
  pub waiting : List ℕ

-- the recall of a file as a job: its copy is 0
abbrev pub recall_job : ℕ → ℕ → Job
recall_job birth f = record { birth = birth; file = f; copy = 0 }

-- whether one of these paths names the file
abbrev pub names_file : History → ℕ → List Wanted → Bool
names_file h f wanted = list_any (λ (w : Wanted). is_number f (live_file h w.path)) wanted

-- whether an ask waits for the file: a Stage that names it, or a Repack of a tape on which it has a place
abbrev pub waits_for : Site → History → Ask → ℕ → Bool
waits_for site h (ask.Stage who files) f = names_file h f files.items
waits_for site h (ask.Repack who v) f = has_place_on v (places_of site h f)
waits_for site h _ f = false

-- a recall is born by an ask that waits for a file which is not resident and has a place
abbrev pub bears_recall : Site → History → Ask → ℕ → Bool
bears_recall site h k f = waits_for site h k f && (not (is_resident h f) && not (is_empty (places_of site h f)))

-- a live recall after the entry of this number, which comes last of those that wait for it where it waits
abbrev pub subscribed : Bool → ℕ → Recall → Recall
subscribed true n r = record r { waiting = r.waiting ++ n ∷ [] }
subscribed false n r = r

-- the recall of this birth with the entries that still wait for it, none where no entry waits
abbrev pub left_with : ℕ → List ℕ → Option Recall
left_with birth [] = None
left_with birth (s ∷ ss) = Some (record { birth = birth; waiting = s ∷ ss })

-- a recall that this request no longer waits for: it ends where it was the last
abbrev pub unsubscribed : ℕ → Recall → Option Recall
unsubscribed id r = left_with r.birth (filter (λ s. not (s == id)) r.waiting)

-- the same recall, none where it is ended
abbrev pub lives_unless : Bool → Recall → Option Recall
lives_unless true r = None
lives_unless false r = Some r

-- a live recall after one more entry e with this ask and answer, where h are the entries before it
abbrev pub recall_goes_on : Site → History → Entry → ℕ → Recall → Ask → Answer → Option Recall
recall_goes_on site h e f r (ask.Stage who files) a = Some (subscribed (waits_for site h (ask.Stage who files) f) (next_number h) r)
recall_goes_on site h e f r (ask.Repack who v) a = Some (subscribed (waits_for site h (ask.Repack who v) f) (next_number h) r)
recall_goes_on site h e f r (ask.Cancel who id paths) a = if has_text (path_of h f) paths.items then unsubscribed id r else Some r
recall_goes_on site h e f r (ask.DropStage who id) a = unsubscribed id r
recall_goes_on site h e f r (ask.Recalled m job) (answer.Arrived fate.Done) = lives_unless (same_job job (recall_job r.birth f)) r
recall_goes_on site h e f r (ask.Failed m fault charged returned) a = lives_unless (is_last_charge site h (ask.Failed m fault charged returned) (recall_job r.birth f)) r
recall_goes_on site h e f r (ask.Delete who path) a = lives_unless (bytes_eq path (path_of h f)) r
recall_goes_on site h e f r (ask.TapeState who v s) a = lives_unless (is_empty (places_of site (e ∷ h) f)) r
recall_goes_on site h e f r _ a = Some r

-- the live recall of a file after the entry e: where none was live, e may bear one; where one was, it goes on or ends
abbrev pub recall_after : Site → History → Entry → ℕ → Option Recall → Option Recall
recall_after site h e f None = if bears_recall site h e.ask f then Some (record { birth = next_number h; waiting = next_number h ∷ [] }) else None
recall_after site h e f (Some r) = recall_goes_on site h e f r e.ask e.answer

-- the live recall of a file
abbrev pub live_recall : Site → History → ℕ → Option Recall
live_recall site [] f = None
live_recall site (e ∷ h) f = recall_after site h e f (live_recall site h f)
