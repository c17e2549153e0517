-- A run from its start: a desk over drives that a bench has made.
use Rattle.std.proofs.Common.{◌≡◌, ℕ, zero, suc, ◌+◌, ◌≤◌, Bool, true, false, List, [], ◌∷◌, length, refl, sym, ap, ◌∙◌, subst, arith}
use Rattle.std.specs.Prelude.{Some, slice_get}
use Rattle.std.proofs.lemmas.Option.{none-some, same_Some}
use Rattle.blob.specs.Records.{MediumView}
use Rattle.cta_site.specs.declared.site.Site.{Site}
use Rattle.cta_site.specs.WellFormed.{IsWellFormed}
use Rattle.conn.specs.Cut.{Event}
use Rattle.links.specs.Standing.{LinksStand}
use Rattle.links.specs.declared.links.Links.{Links}
use Rattle.media.specs.Counted.{no_counts}
use Rattle.media.specs.Drives.{DriveView}
use Rattle.media.specs.Made.{IsNewDrive, IsNewMedium, plan_of}
use Rattle.media.specs.Memory.{new_medium}
use Rattle.archive_opening.specs.Seen.{SourceView}
use Rattle.archive_opening.specs.declared.status.Status.{Status}
use Rattle.archive_opening.specs.declared.status.Status.TheVariants.{NoMemory}
use Rattle.replay.specs.Seen.{SinkView, world, unread}
use Rattle.replay.specs.Script.{cut_records}
use Rattle.replay.specs.Intake.{budget}
use Rattle.replay.specs.Desk.{Begins, DeskView}
use Rattle.replay.specs.Laws.{RunsKeepPromises}
use Rattle.replay.specs.Outcome.{Finishes, Replays}
use Rattle.replay.specs.Steps.{RunState, begun_with}
use Rattle.replay.proofs.Histories.{cut_is_timely}
use Rattle.replay.proofs.Running.{wanted_first}

module _ (tells : Bool) (site : Site) (desk : DeskView) (starts : Begins tells site desk) where
  pub start_site : desk.run.site ≡ site
  start_site = ap (λ (r : RunState). r.site) starts.run

  -- the end of its script
  pub replays_from : RunsKeepPromises → (from to : SourceView) (a b : SinkView) (taken : ℕ) (status : Status) → IsWellFormed desk.run.site → taken ≤ budget
      → Finishes desk.run [] (world (unread from) a) (world (record { left = to.left; taken = taken; faults = to.faults }) b) status → Replays tells status site from to a b
  replays_from keeps from to a b taken status valid within ends =
      let f : Finishes (begun_with site starts.made) [] (world (unread from) a) (world (record { left = to.left; taken = taken; faults = to.faults }) b) status =
      subst (λ r. Finishes r [] (world (unread from) a) (world (record { left = to.left; taken = taken; faults = to.faults }) b) status) starts.run ends in
      record {
        valid = subst IsWellFormed start_site valid;
        made = starts.made;
        new = starts.new;
        taken = taken;
        within = within;
        finishes = f;
        promises = keeps tells site starts.made (cut_records f.cut) f.turns (cut_is_timely site f.cut.whole f.cut.tail f.is_cut.0 f.is_cut.1) (f.brought, f.run) starts.new f.sound;
      }

  -- memory was wanted before a byte was taken
  pub wanted_at_start : (from : SourceView) (a : SinkView) → IsWellFormed desk.run.site → Replays tells NoMemory site from from a a
  wanted_at_start from a valid = wanted_first tells site starts.made from a (subst IsWellFormed start_site valid) starts.new

  pub start_links : (links : Links) (texts : ℕ → List ℕ) (heads : ℕ → List Event) → LinksStand links site.limits.file texts heads → LinksStand links desk.run.site.limits.file texts heads
  start_links links texts heads stands = subst (λ s. LinksStand links s.limits.file texts heads) (sym start_site) stands

-- ---- drives that a bench may make

-- a drive that has its plan before it
abbrev planned_view : Site → ℕ → DriveView
planned_view site d = record { loaded = false; honest = true; calls = 0; faults = no_counts; plan = Some (record { entries = plan_of site d; made = no_counts }) }

abbrev views_from : Site → ℕ → ℕ → List DriveView
views_from site zero d = []
views_from site (suc n) d = planned_view site d ∷ views_from site n (suc d)

length-views : (site : Site) (n d : ℕ) → length (views_from site n d) ≡ n
length-views site zero d = refl
length-views site (suc n) d = ap suc (length-views site n (suc d))

view_at : (site : Site) (n d k : ℕ) (v : DriveView) → slice_get (views_from site n d) k ≡ Some v → v ≡ planned_view site (d + k)
view_at site zero d k v is = absurd (none-some v is)
view_at site (suc n) d zero v is = sym (same_Some (planned_view site d) v is) ∙ ap (planned_view site) (omega arith)
view_at site (suc n) d (suc k) v is = view_at site n (suc d) k v is ∙ ap (planned_view site) (omega arith)

planned_new : (tells : Bool) (site : Site) (d : ℕ) → IsNewDrive tells site d (planned_view site d)
planned_new tells site d = record { unloaded = refl; uncalled = refl; plan = refl; told = λ is. refl; honest = λ is none. refl }

-- ---- media that a bench may make

abbrev media_from : ℕ → ℕ → List MediumView
media_from zero v = []
media_from (suc n) v = new_medium v ∷ media_from n (suc v)

length-media : (n v : ℕ) → length (media_from n v) ≡ n
length-media zero v = refl
length-media (suc n) v = ap suc (length-media n (suc v))

medium_of : (n v k : ℕ) (m : MediumView) → slice_get (media_from n v) k ≡ Some m → m ≡ new_medium (v + k)
medium_of zero v k m is = absurd (none-some m is)
medium_of (suc n) v zero m is = sym (same_Some (new_medium v) m is) ∙ ap new_medium (omega arith)
medium_of (suc n) v (suc k) m is = medium_of n (suc v) k m is ∙ ap new_medium (omega arith)

medium_new : (tells : Bool) (v : ℕ) → IsNewMedium tells v (new_medium v)
medium_new tells v = record { label = refl; empty = refl; shown = λ is. refl }

-- memory was wanted before drives were made, as of drives and media that tell
pub wanted_before : (tells : Bool) (site : Site) (from : SourceView) (a : SinkView) → IsWellFormed site → Replays tells NoMemory site from from a a
wanted_before tells site from a valid =
    let n = length site.drives.items in
    let k = length site.tapes.items in
    wanted_first tells site (record { media = media_from k 0; drives = views_from site n 0 }) from a valid (record {
      media = record {
        count = length-media k 0;
        each = λ v m is. let here : v ≡ 0 + v = omega arith in subst (IsNewMedium tells v) (sym (medium_of k 0 v m is)) (subst (λ u. IsNewMedium tells v (new_medium u)) here (medium_new tells v));
      };
      drives = record {
        count = length-views site n 0;
        each = λ d v is.
            let here : d ≡ 0 + d = omega arith in
            subst (IsNewDrive tells site d) (sym (view_at site n 0 d v is)) (subst (λ k. IsNewDrive tells site d (planned_view site k)) here (planned_new tells site d));
      };
    })
