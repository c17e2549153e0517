-- The shelf behind a Next and behind an End.
use Rattle.std.proofs.Common.{◌≡◌, ◌∙◌, ℕ, ◌+◌, ◌≤◌, ◌<◌, inl, inr, List, [], ◌∷◌, Bool, true, refl, sym, ap, subst, length}
use Rattle.std.specs.Prelude.{Option, Some, None, option_map, slice_set, if◌then◌else◌, ◌==◌}
use Rattle.std.proofs.lemmas.Bool.Decides.{eqb_tells}
use Rattle.std.proofs.lemmas.Grind.{get_or-set_at}
use Rattle.std.proofs.lemmas.List.{get_or-set_other, length-set}
use Rattle.blob.specs.Records.{MediumView, medium_at}
use Rattle.cta_site.specs.declared.site.Site.{Site}
use Rattle.cta_model.specs.declared.asks.Ask.{Ask}
use Rattle.cta_model.specs.declared.asks.Ask.TheVariants as ask
use Rattle.cta_model.specs.declared.asks.Fault.{Fault}
use Rattle.cta_model.specs.declared.answers.Answer.{Answer}
use Rattle.cta_model.specs.declared.answers.Answer.TheVariants as answer
use Rattle.cta_model.specs.declared.asks.Direction.{Direction}
use Rattle.cta_model.specs.declared.hands.Hand.TheVariants as hand
use Rattle.cta_model.specs.declared.entries.Entry.{Entry}
use Rattle.cta_model.specs.declared.states.Candidate.{Candidate}
use Rattle.cta_model.specs.declared.states.Mount.{Mount}
use Rattle.cta_model.specs.Answers.{answer_of, is_accepted}
use Rattle.cta_model.specs.Choice.{mount_choice}
use Rattle.cta_model.specs.History.{History, moment_of}
use Rattle.cta_model.specs.Hands.{TakesOut}
use Rattle.cta_model.specs.Kept.{Kept, kept_after, shelf_after}
use Rattle.cta_model.specs.Legal.{IsFit, IsLegal, IsNext, greatest_moment, new_entry}
use Rattle.cta_model.specs.Media.{IsMediumOf}
use Rattle.cta_model.specs.Mounts.{is_mounted, mount_in, mount_of, tape_by, tape_of_mount}
use Rattle.cta_model.proofs.Appends.{is_next}
use Rattle.cta_laws.proofs.Tests.{bool_cases}
use Rattle.part_model.specs.declared.mounts.OpenMount.{OpenMount}
use Rattle.part_model.specs.Mounts.{has_mount, row_of}
use Rattle.part_laws.specs.Shelf.{IsPlaceOf, IsShelf, IsTaken, with_tape}
use Rattle.part_laws.proofs.NextTape.{next_low}
use Rattle.part_laws.proofs.ShelfLaw.{end_brings_medium, next_takes_medium}
use Rattle.drive_asks.proofs.EndedMounts.{end_is_open}
use Rattle.drive_asks.proofs.OpenedMounts.{next_answered}
use Rattle.part_moves.proofs.MountRows.{mount_found, row_there}
use Rattle.archive_parts.specs.declared.parts.ArchiveParts.{ArchiveParts}
use Rattle.archive_parts.specs.PartsKept.{ArePartsKept}
use Rattle.archive_state.specs.States.{IsState}

-- one place is set, and every other stays
pub medium_set : (media : List (Option MediumView)) (v : ℕ) (o : Option MediumView) → v < length media → (t : ℕ) → medium_at (slice_set media v o) t ≡ (if t == v then o else medium_at media t)
medium_set media v o low t =
    elim (eqb_tells t v) [
      | inl same ↦ rw same.0 (get_or-set_at media v t o None same.1 low)
      | inr other ↦ rw other.0 (get_or-set_other media v t o None other.1)
    ]

-- ---- a Next

-- the state behind a Next, whose medium has left the shelf
pub record IsOpened (site : Site) (h : History) (e : Entry) (c : Candidate) (p' : ArchiveParts) (media media' : List (Option MediumView)) : Type 0 where
  pub state : IsState site (e ∷ h) p' media'
  pub there : (x : MediumView) × (medium_at media c.tape ≡ Some x) × IsMediumOf (e ∷ h) c.tape x

pub state_opens : (site : Site) (h : History) (t d : ℕ) (c : Candidate) (a : Answer) (p p' : ArchiveParts) (media media' : List (Option MediumView)) → IsState site h p media → t ≤ greatest_moment → d < length site.drives.items
    → is_accepted (answer_of site h t (ask.Next d)) ≡ true → mount_choice site h (moment_of h t) d ≡ Some c → a ≡ answer_of site h t (ask.Next d) → ArePartsKept site (new_entry h t (ask.Next d) a ∷ h) p'
    → media' ≡ slice_set media c.tape None → IsOpened site h (new_entry h t (ask.Next d) a) c p' media media'
state_opens site h t d c a p p' media media' is low fit accepted choice answered kept places =
    let next : IsNext site h (new_entry h t (ask.Next d) a) = is_next site h t (ask.Next d) a is.legal low fit answered (ap is_accepted answered ∙ accepted) in
    let mounted : a ≡ answer.Mounted (length h + 1) c.direction c.tape = answered ∙ sym (next_answered site h t d c accepted choice) in
    let taken : IsTaken site h (new_entry h t (ask.Next d) a) c.tape (medium_at media) = next_takes_medium site h (new_entry h t (ask.Next d) a) d (length h + 1) c.tape c.direction (medium_at media) (is.legal, next) refl mounted is.shelf in
    record {
      state = record {
        legal = (is.legal, next);
        parts = kept;
        shelf = λ v here. subst (IsPlaceOf (new_entry h t (ask.Next d) a ∷ h) v (is_mounted (new_entry h t (ask.Next d) a ∷ h) v))
            (sym (ap (λ (s : List (Option MediumView)). medium_at s v) places ∙ medium_set media c.tape None (subst (λ (n : ℕ). c.tape < n) (sym is.places) taken.on_site) v)) (taken.rest v here);
        places = ap length places ∙ length-set media c.tape None ∙ is.places;
      };
      there = taken.there;
    }

-- a Next that is accepted mounts its choice
pub mounts_choice : (site : Site) (h : History) (t d : ℕ) (c : Candidate) (a : Answer) → is_accepted (answer_of site h t (ask.Next d)) ≡ true → mount_choice site h (moment_of h t) d ≡ Some c → a ≡ answer_of site h t (ask.Next d)
    → a ≡ answer.Mounted (length h + 1) c.direction c.tape
mounts_choice site h t d c a accepted choice answered = answered ∙ sym (next_answered site h t d c accepted choice)

-- what is kept, by its parts
kept_at : Site → History → List (Option MediumView) → Kept
kept_at site h media = record { site = site; history = h; shelf = media }

same_at : (site : Site) (h h' : History) (media media' : List (Option MediumView)) → h' ≡ h → media' ≡ media → kept_at site h' media' ≡ kept_at site h media
same_at site h h' media media' e f = cc

same_kept : (site : Site) (h h' : History) (media media' : List (Option MediumView)) → h' ≡ h → media' ≡ media → ◌≡◌ {A = Kept} (record { site = site; history = h'; shelf = media' }) (record { site = site; history = h; shelf = media })
unfolding kept_at
same_kept site h h' media media' e f = same_at site h h' media media' e f

-- what is kept behind an accepted ask
pub kept_with : (site : Site) (h h' : History) (t : ℕ) (k : Ask) (a : Answer) (brought : Option MediumView) (media media' : List (Option MediumView)) → is_accepted a ≡ true → h' ≡ new_entry h t k a ∷ h → media' ≡ shelf_after k a brought media
    → ◌≡◌ {A = Kept} (record { site = site; history = h'; shelf = media' }) (kept_after (record { site = site; history = h; shelf = media }) t k a brought)
kept_with site h h' t k a brought media media' accepted entry set = rw accepted (same_kept site (new_entry h t k a ∷ h) h' (shelf_after k a brought media) media' entry set)

-- the medium that was taken is the one of the mount
pub takes_out : {M : Type 0} (told : M → MediumView) (media : List (Option MediumView)) (d n v : ℕ) (way : Direction) (a : Answer) (m : M) (r : Option M) → a ≡ answer.Mounted n way v → r ≡ Some m → option_map told r ≡ medium_at media v
    → TakesOut told media (ask.Next d) a (hand.Medium m)
takes_out told media d n v way a m r is found there =
    subst (λ (x : Answer). TakesOut told media (ask.Next d) x (hand.Medium m)) (sym is) (sym there ∙ ap (option_map told) found)

-- a medium is on the shelf where one must be
pub none_taken : {M : Type 0} (told : M → MediumView) (place : Option MediumView) (x : MediumView) (r : Option M) → option_map told r ≡ place → place ≡ Some x → r ≡ None → ⊥
none_taken told place x None is there none = absurd (cc)
none_taken told place x (Some m) is there none = absurd (cc)

-- what is taken is true
pub taken_true : {M : Type 0} (told : M → MediumView) (h : History) (v : ℕ) (place : Option MediumView) (x : MediumView) (r : Option M) (m : M) → r ≡ Some m → option_map told r ≡ place → place ≡ Some x → IsMediumOf h v x → IsMediumOf h v (told m)
taken_true told h v place x r m found is there true_then =
    let same : Some x ≡ Some (told m) = sym there ∙ sym is ∙ ap (option_map told) found in
    subst (IsMediumOf h v) (inner x (told m) same) true_then
  where
    inner : (a b : MediumView) → Some a ≡ Some b → a ≡ b
    inner a b e = cc

-- ---- the tape of a mount

same_mount : (x y : Mount) → Some x ≡ Some y → x ≡ y
same_mount x y e = cc

tape_made : (site : Site) (h : History) (e : Entry) (k : Ask) (a : Answer) (x : Mount) → IsNext site h e → e.ask ≡ k → e.answer ≡ a → mount_in k a ≡ Some x → x.tape < length site.tapes.items
tape_made site h e (ask.Next d) (answer.Mounted m way v) x next ek ea is = subst (λ (y : Mount). y.tape < length site.tapes.items) (same_mount (record { drive = d; direction = way; tape = v }) x is) (next_low site h e d m way v next ek ea)
tape_made site h e _ a x next ek ea is = absurd (cc)

-- the tape of a mount is one of the site
pub tape_of_site : (site : Site) (h : History) (m : ℕ) (x : Mount) → IsLegal site h → mount_of h m ≡ Some x → x.tape < length site.tapes.items
tape_of_site site [] m x legal is = absurd (cc)
tape_of_site site (e ∷ h) m x legal is =
    elim (bool_cases (m == length h + 1)) [
      | inl newest ↦ tape_made site h e e.ask e.answer x legal.1 refl refl (rw newest at is)
      | inr older ↦ tape_of_site site h m x legal.0 (rw older at is)
    ]

-- ---- an End

-- the row of the mount of an accepted End is there, and has its tape
pub row_missing : (site : Site) (h : History) (t m : ℕ) (fault : Option Fault) (p : ArchiveParts) (some : Bool) → ArePartsKept site h p → is_accepted (answer_of site h t (ask.End m fault)) ≡ true → some ≡ has_mount m p.mounts.value.rows → some ≡ true
row_missing site h t m fault p some kept accepted is = is ∙ row_there site h p.mounts.value.rows m kept.stand.mounts (end_is_open site h t m fault accepted)

row_mount : (site : Site) (h : History) (t m : ℕ) (fault : Option Fault) (p : ArchiveParts) (r : OpenMount) → ArePartsKept site h p → is_accepted (answer_of site h t (ask.End m fault)) ≡ true → row_of m p.mounts.value.rows ≡ Some r
    → mount_of h m ≡ Some (record { drive = r.drive; direction = r.direction; tape = r.tape })
row_mount site h t m fault p r kept accepted found =
    mount_found site h p.mounts.value.rows m r kept.stand.mounts (row_there site h p.mounts.value.rows m kept.stand.mounts (end_is_open site h t m fault accepted)) found

pub row_tape_low : (site : Site) (h : History) (t m : ℕ) (fault : Option Fault) (p : ArchiveParts) (media : List (Option MediumView)) (r : OpenMount) → IsState site h p media → is_accepted (answer_of site h t (ask.End m fault)) ≡ true
    → row_of m p.mounts.value.rows ≡ Some r → r.tape < length media
row_tape_low site h t m fault p media r is accepted found =
    subst (λ (n : ℕ). r.tape < n) (sym is.places) (tape_of_site site h m _ is.legal (row_mount site h t m fault p r is.parts accepted found))

-- the row of a mount has the mount's tape
pub tape_of_row : (site : Site) (h : History) (t m : ℕ) (fault : Option Fault) (p : ArchiveParts) (r : OpenMount) → ArePartsKept site h p → is_accepted (answer_of site h t (ask.End m fault)) ≡ true → row_of m p.mounts.value.rows ≡ Some r → r.tape ≡ tape_of_mount h m
tape_of_row site h t m fault p r kept accepted found = sym (ap tape_by (row_mount site h t m fault p r kept accepted found))

-- the state behind an End, whose medium is back on the shelf
pub state_ends : (site : Site) (h h' : History) (t m : ℕ) (fault : Option Fault) (a : Answer) (p p' : ArchiveParts) (media media' : List (Option MediumView)) (r : OpenMount) (x : MediumView) → IsState site h p media → t ≤ greatest_moment → IsFit site h (ask.End m fault)
    → is_accepted (answer_of site h t (ask.End m fault)) ≡ true → a ≡ answer_of site h t (ask.End m fault) → h' ≡ new_entry h t (ask.End m fault) a ∷ h → ArePartsKept site h' p' → row_of m p.mounts.value.rows ≡ Some r
    → IsMediumOf h (tape_of_mount h m) x → media' ≡ slice_set media r.tape (Some x) → IsState site h' p' media'
state_ends site h h' t m fault a p p' media media' r x is low fit accepted answered entry kept found true_then places =
    let next : IsNext site h (new_entry h t (ask.End m fault) a) = is_next site h t (ask.End m fault) a is.legal low fit answered (ap is_accepted answered ∙ accepted) in
    let tape : r.tape ≡ tape_of_mount h m = tape_of_row site h t m fault p r is.parts accepted found in
    let set : (v : ℕ) → medium_at media' v ≡ (if v == r.tape then Some x else medium_at media v) = λ v. ap (λ (s : List (Option MediumView)). medium_at s v) places ∙ medium_set media r.tape (Some x) (row_tape_low site h t m fault p media r is accepted found) v in
    let back : IsShelf site (new_entry h t (ask.End m fault) a ∷ h) (with_tape (tape_of_mount h m) x (medium_at media)) = end_brings_medium site h (new_entry h t (ask.End m fault) a) m fault x (medium_at media) (is.legal, next) refl true_then is.shelf in
    subst (λ (g : History). IsState site g p' media') (sym entry) (record {
      legal = (is.legal, next);
      parts = subst (λ (g : History). ArePartsKept site g p') entry kept;
      shelf = λ v here. subst (IsPlaceOf (new_entry h t (ask.End m fault) a ∷ h) v (is_mounted (new_entry h t (ask.End m fault) a ∷ h) v)) (sym (set v ∙ ap (λ (n : ℕ). if v == n then Some x else medium_at media v) tape)) (back v here);
      places = ap length places ∙ length-set media r.tape (Some x) ∙ is.places;
    })

-- what is kept behind it
pub end_keeps : (site : Site) (h h' : History) (t m : ℕ) (fault : Option Fault) (a : Answer) (p : ArchiveParts) (media media' : List (Option MediumView)) (r : OpenMount) (x : MediumView) → ArePartsKept site h p → is_accepted (answer_of site h t (ask.End m fault)) ≡ true
    → a ≡ answer_of site h t (ask.End m fault) → h' ≡ new_entry h t (ask.End m fault) a ∷ h → row_of m p.mounts.value.rows ≡ Some r → IsMediumOf h (tape_of_mount h m) x → media' ≡ slice_set media r.tape (Some x)
    → ◌≡◌ {A = Kept} (record { site = site; history = h'; shelf = media' }) (kept_after (record { site = site; history = h; shelf = media }) t (ask.End m fault) a (Some x))
end_keeps site h h' t m fault a p media media' r x kept accepted answered entry found own places =
    let tape : r.tape ≡ x.label = tape_of_row site h t m fault p r kept accepted found ∙ sym own.label in
    kept_with site h h' t (ask.End m fault) a (Some x) media media' (ap is_accepted answered ∙ accepted) entry (places ∙ ap (λ (n : ℕ). slice_set media n (Some x)) tape)
