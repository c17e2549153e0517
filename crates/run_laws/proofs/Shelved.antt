-- Each tape that no open mount has has its medium on the shelf, and each medium tells its records.
use Rattle.std.proofs.Common.{◌≡◌, ◌∙◌, ℕ, zero, suc, ◌<◌, ◌⊎◌, inl, inr, ◌==◌, ◌||◌, Bool, true, false, List, [], ◌∷◌, length, refl, sym, ap, ap₂, subst, arith, map}
use Rattle.std.specs.Prelude.{Option, Some, None, IsSome, is_some}
use Rattle.std.specs.List.{AllByRecursion, list_any}
use Rattle.std.proofs.lemmas.Bool.{cases_Bool}
use Rattle.blob.specs.Records.{MediumView, medium_at}
use Rattle.cta_site.specs.declared.site.Site.{Site}
use Rattle.cta_model.specs.declared.answers.Answer.{Answer}
use Rattle.cta_model.specs.declared.asks.Ask.{Ask}
use Rattle.cta_model.specs.declared.asks.Ask.TheVariants as ask
use Rattle.cta_model.specs.declared.entries.Entry.{Entry}
use Rattle.cta_model.specs.declared.states.Mount.{Mount}
use Rattle.cta_model.specs.Answers.{answer_of, is_accepted}
use Rattle.cta_model.specs.History.{History}
use Rattle.cta_model.specs.Kept.{Kept, kept_after, shelf_after}
use Rattle.cta_model.specs.Legal.{new_entry}
use Rattle.cta_model.specs.Mounts.{is_mount, is_mounted, mount_of, open_mounts, tape_by}
use Rattle.cta_laws.specs.Changes.{may_change_mounts}
use Rattle.cta_laws.proofs.Frames.{mounts_same}
use Rattle.cta_laws.proofs.FseqLaw.{open_mounted}
use Rattle.cta_laws.proofs.OpenMounts.{AllUpTo, mount_older, opens_up_to}
use Rattle.conn.specs.Cut.{Continues, Event, Refuses, Requests}
use Rattle.drive_session.specs.Table.{Row}
use Rattle.media.specs.Drives.{DriveView}
use Rattle.tape_routes.specs.Asked.{Asked, Asks, Looks, Replies, asked}
use Rattle.tape_routes.specs.Answering.{kept_then, request_keeps}
use Rattle.tape_routes.specs.Callers.{CallersAsk, IsCallers}
use Rattle.archive_opening.specs.Made.{AreNewMedia}
use Rattle.replay.specs.Output.{event_keeps}
use Rattle.replay.specs.Promises.{AllTapesHaveMedia, HaveMediaBehind, IsOnShelf, IsTelling, IsWithDrive}
use Rattle.replay.specs.Steps.{Made, RunState, behind_row, begun_with, kept_in}
use Rattle.replay.proofs.Rightly.{all_map, kept_tells}

-- ---- the shelf

-- what is kept has the medium of each tape that no open mount has, and each medium on the shelf tells its records
pub record IsShelved (k : Kept) : Type 0 where
  pub there : (v : ℕ) → v < length k.site.tapes.items → is_mounted k.history v ≡ false → IsSome (medium_at k.shelf v)
  pub tells : AllByRecursion IsTelling k.shelf

-- ---- what callers ask

quiet : (k : Ask) (sent : Option (List ℕ)) → IsCallers (Asks k sent) → may_change_mounts k ≡ false
quiet (ask.Next d) sent f = absurd f
quiet (ask.End m fault) sent f = absurd f
quiet _ sent f = refl

same_shelf : (k : Ask) (sent : Option (List ℕ)) (a : Answer) (shelf : List (Option MediumView)) → IsCallers (Asks k sent) → shelf_after k a None shelf ≡ shelf
same_shelf (ask.Next d) sent a shelf f = absurd f
same_shelf (ask.End m fault) sent a shelf f = absurd f
same_shelf _ sent a shelf f = refl

older_any : (test : Option Mount → Bool) (e : Entry) (h : History) (ms : List ℕ) → AllUpTo (length h) ms → list_any (λ m. test (mount_of (e ∷ h) m)) ms ≡ list_any (λ m. test (mount_of h m)) ms
older_any test e h [] low = refl
older_any test e h (m ∷ ms) low = ap₂ (λ a b. a || b) (ap test (mount_older e h m low.0)) (older_any test e h ms low.1)

-- an entry that opens and ends no mount leaves which tapes are mounted
mounted_same : (e : Entry) (h : History) (v : ℕ) → may_change_mounts e.ask ≡ false → is_mounted (e ∷ h) v ≡ is_mounted h v
mounted_same e h v none =
    ap (list_any (λ m. is_mount (λ (x : Mount). x.tape == v) (mount_of (e ∷ h) m))) (mounts_same e h none)
    ∙ older_any (is_mount (λ (x : Mount). x.tape == v)) e h (open_mounts h) (opens_up_to h)

asked_shelved : (k : Kept) (t : ℕ) (x : Ask) (sent : Option (List ℕ)) → IsCallers (Asks x sent) → IsShelved k → IsShelved (kept_after k t x (answer_of k.site k.history t x) None)
asked_shelved k t x sent fit is =
    let a = answer_of k.site k.history t x in
    elim (cases_Bool (is_accepted a)) [
      | inl hit ↦ rw (hit, same_shelf x sent a k.shelf fit) (record {
        there = λ v low free. is.there v low (sym (mounted_same (new_entry k.history t x a) k.history v (quiet x sent fit)) ∙ free);
        tells = is.tells;
      })
      | inr miss ↦ rw miss is
    ]

then_shelved : (k : Kept) (t : ℕ) (x : Asked) → IsCallers x → IsShelved k → IsShelved (kept_then k t x)
unfolding kept_then
then_shelved k t (Asks x sent) fit is = asked_shelved k t x sent fit is
then_shelved k t (Looks look) fit is = is
then_shelved k t (Replies reply) fit is = is

pub event_shelved : CallersAsk → (k : Kept) (t : ℕ) (e : Event) → IsShelved k → IsShelved (event_keeps k t e)
unfolding request_keeps
event_shelved callers k t Continues is = is
event_shelved callers k t (Requests request) is = then_shelved k t (asked k.site request) (callers k.site request) is
event_shelved callers k t (Refuses refusal) is = is

-- ---- the site stays

after_site : (k : Kept) (t : ℕ) (x : Ask) (a : Answer) (brought : Option MediumView) → (kept_after k t x a brought).site ≡ k.site
after_site k t x a brought =
    elim (cases_Bool (is_accepted a)) [
      | inl hit ↦ rw hit refl
      | inr miss ↦ rw miss refl
    ]

then_site : (k : Kept) (t : ℕ) (x : Asked) → (kept_then k t x).site ≡ k.site
unfolding kept_then
then_site k t (Asks x sent) = after_site k t x (answer_of k.site k.history t x) None
then_site k t (Looks look) = refl
then_site k t (Replies reply) = refl

pub event_site : (k : Kept) (t : ℕ) (e : Event) → (event_keeps k t e).site ≡ k.site
unfolding request_keeps
event_site k t Continues = refl
event_site k t (Requests request) = then_site k t (asked k.site request)
event_site k t (Refuses refusal) = refl

-- ---- steps

some_is : {A : Type 0} (o : Option A) (x : A) → o ≡ Some x → IsSome o
some_is o x e = ap is_some e

-- a run in which each tape has its medium has that of each tape that isn't mounted on the shelf
from_media : (s : RunState) → AllTapesHaveMedia s → (v : ℕ) → v < length s.site.tapes.items → is_mounted s.history v ≡ false → IsSome (medium_at s.shelf v)
from_media s media v low free = placed (media v low).medium (media v low).place
  where
    placed : (m : MediumView) → IsOnShelf s v m ⊎ IsWithDrive s v m → IsSome (medium_at s.shelf v)
    placed m (inl on) = some_is (medium_at s.shelf v) m on.place
    placed m (inr w) =
        let mount : Mount = record { drive = w.drive; direction = w.way; tape = v } in
        let busy : is_mounted s.history v ≡ true = subst (λ n. is_mounted s.history n ≡ true) (ap tape_by w.still.mount) (open_mounted s.history w.mount mount w.still.mount w.still.still) in
        absurd (let no : true ≡ false = sym busy ∙ free in cc)

pub row_shelved : (s : RunState) (drive moment : ℕ) (seen : DriveView) (left : Option MediumView) (o : Option Row) → HaveMediaBehind s drive moment seen left o → IsTelling left → IsShelved (kept_in s)
    → IsShelved (kept_in (behind_row s drive moment seen left o))
row_shelved s drive moment seen left None media tells is = is
row_shelved s drive moment seen left (Some r) media tells is = record {
  there = from_media (behind_row s drive moment seen left (Some r)) media;
  tells = kept_tells s moment left r.ask tells is.tells;
}

-- ---- at the start

all_there : (ms : List MediumView) (v : ℕ) → v < length ms → IsSome (medium_at (map Some ms) v)
all_there [] v low = absurd (omega arith)
all_there (m ∷ ms) zero low = refl
all_there (m ∷ ms) (suc v) low = all_there ms v (omega arith)

pub first_shelved : (site : Site) (made : Made) → AreNewMedia true site made.media → IsShelved (kept_in (begun_with site made))
first_shelved site made new = record {
  there = λ v low free. all_there made.media v (subst (λ n. v < n) (sym new.count) low);
  tells = all_map IsTelling Some made.media (λ v m is. (new.each v m is).shown refl);
}
