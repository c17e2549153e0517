-- What an End finds, and its calls.
use Rattle.std.proofs.Common.{◌≡◌, ◌∙◌, ◌+◌, ◌<◌, ℕ, inl, inr, List, [], ◌∷◌, true, refl, sym, ap, subst, length}
use Rattle.std.specs.Prelude.{Option, Some, ◌==◌, ◌&&◌, if◌then◌else◌}
use Rattle.std.proofs.lemmas.Bool.{and_parts}
use Rattle.cta_site.specs.declared.site.Site.{Site}
use Rattle.cta_model.specs.declared.answers.Answer.{Answer}
use Rattle.cta_model.specs.declared.answers.Answer.TheVariants as answer
use Rattle.cta_model.specs.declared.asks.Ask.{Ask}
use Rattle.cta_model.specs.declared.asks.Ask.TheVariants as ask
use Rattle.cta_model.specs.declared.asks.Direction.{Direction}
use Rattle.cta_model.specs.declared.asks.Fault.{Fault}
use Rattle.cta_model.specs.declared.entries.Actor.{Actor}
use Rattle.cta_model.specs.declared.states.Mount.{Mount}
use Rattle.cta_model.specs.Answers.{answer_of, is_accepted}
use Rattle.cta_model.specs.History.{History, has_number, is_empty}
use Rattle.cta_model.specs.Legal.{IsFit, IsLegal}
use Rattle.cta_model.specs.Mounts.{claimed_items, drive_by, is_open, mount_in, mount_of, puts_down}
use Rattle.cta_laws.proofs.Accepted.{answer_is}
use Rattle.cta_laws.proofs.ClosedLaw.{end_by}
use Rattle.cta_laws.proofs.KeyLaw.{same_mount}
use Rattle.cta_laws.proofs.Tests.{bool_cases}
use Rattle.part_model.specs.declared.mounts.OpenMount.{OpenMount}
use Rattle.part_model.specs.Counts.{Counts, count_in, ended_count}
use Rattle.part_model.specs.JobRows.{book_in}
use Rattle.part_model.specs.Mounts.{ended, row_of, set_down}
use Rattle.part_model.specs.Room.{Roomed}
use Rattle.part_laws.specs.Mounts.{downs_behind}
use Rattle.part_laws.proofs.RowAnswers.{rows_tell_mounts}
use Rattle.open_mounts.specs.Table.{MountTable}
use Rattle.part_laws.specs.AllAsks.{end_of_mount}
use Rattle.part_laws.specs.AllParts.{TellSameJobs, jobs_in}
use Rattle.archive_parts.specs.Called.{AreKeptCalled}
use Rattle.archive_parts.specs.PartsKept.{ArePartsKept, values_of}
use Rattle.archive_parts.specs.declared.parts.ArchiveParts.{ArchiveParts}
use Rattle.part_moves.proofs.SameParts.{same_book, same_buffer, same_table}

-- ---- what is found

-- the mount of an accepted End is open
pub end_is_open : (site : Site) (h : History) (t m : ℕ) (fault : Option Fault) → is_accepted (answer_of site h t (ask.End m fault)) ≡ true → is_open h m ≡ true
end_is_open site h t m fault accepted =
    (and_parts (is_open h m) (is_empty (claimed_items h m)) (end_by (is_open h m && is_empty (claimed_items h m)) (answer_of site h t (ask.End m fault)) refl accepted)).0

pub end_answered : (site : Site) (h : History) (t m : ℕ) (fault : Option Fault) → is_accepted (answer_of site h t (ask.End m fault)) ≡ true → answer.Done ≡ answer_of site h t (ask.End m fault)
end_answered site h t m fault accepted = sym (answer_is site h t (ask.End m fault) (answer_of site h t (ask.End m fault)) refl accepted)

-- who asks for a mount
pub drive_asks : (h : History) (m : ℕ) (x : Mount) → mount_of h m ≡ Some x → x.drive ≡ drive_by (mount_of h m)
drive_asks h m x is = sym (ap drive_by is)

drive_made : (site : Site) (h : History) (k : Ask) (a : Answer) (x : Mount) → IsFit site h k → mount_in k a ≡ Some x → x.drive < length site.drives.items
drive_made site h (ask.Next d) (answer.Mounted m way v) x fit is = subst (λ (y : Mount). y.drive < length site.drives.items) (same_mount (record { drive = d; direction = way; tape = v }) x is) fit
drive_made site h _ a x fit is = absurd (cc)

-- the drive of a mount is one of the site
pub drive_of_site : (site : Site) (h : History) (m : ℕ) (x : Mount) → IsLegal site h → mount_of h m ≡ Some x → x.drive < length site.drives.items
drive_of_site site [] m x legal is = absurd (cc)
drive_of_site site (e ∷ h) m x legal is =
    elim (bool_cases (m == length h + 1)) [
      | inl newest ↦ drive_made site h e.ask e.answer x legal.1.fit (rw newest at is)
      | inr older ↦ drive_of_site site h m x legal.0 (rw older at is)
    ]

-- ---- the calls

-- the drives that are down behind an End are told by the row of its mount
downs_are : (fault : Option Fault) (o : Option OpenMount) (r : OpenMount) (d : ℕ) (downs : List ℕ) → o ≡ Some r → r.drive ≡ d → downs_behind fault o downs ≡ (if puts_down fault then set_down d downs else downs)
downs_are fault o r d downs found same = ap (λ (x : Option OpenMount). downs_behind fault x downs) found ∙ ap (λ (k : ℕ). if puts_down fault then set_down k downs else downs) same

-- the drive of a mount's row is that of the mount
row_drive : (site : Site) (h : History) (m : ℕ) (x : Mount) (p : ArchiveParts) → ArePartsKept site h p → is_open h m ≡ true → mount_of h m ≡ Some x
    → (r : OpenMount) × (row_of m p.mounts.value.rows ≡ Some r) × (r.drive ≡ x.drive)
row_drive site h m x p kept on is =
    let y = (rows_tell_mounts site h p.mounts.value.rows kept.stand.mounts).row m on in
    let same : record { drive = y.0.drive; direction = y.0.direction; tape = y.0.tape } ≡ x = same_mount (record { drive = y.0.drive; direction = y.0.direction; tape = y.0.tape }) x (sym y.2.mount ∙ is) in
    (y.0, y.1, ap (λ (z : Mount). z.drive) same)

pub end_called : (site : Site) (h : History) (t m : ℕ) (fault : Option Fault) (who : Actor) (x : Mount) (p : ArchiveParts) (mounts : Roomed MountTable) (counts : Counts) → ArePartsKept site h p
    → is_open h m ≡ true → mount_of h m ≡ Some x → mounts.value.rows ≡ ended m p.mounts.value.rows
    → ((k : ℕ) → has_number k mounts.value.downs ≡ has_number k (if puts_down fault then set_down x.drive p.mounts.value.downs else p.mounts.value.downs)) → mounts.value.drives ≡ p.mounts.value.drives
    → ((w : Direction) (vo : ℕ) → count_in counts w vo ≡ ended_count site x (count_in p.counts) w vo) → length counts.archive ≡ length p.counts.archive
    → AreKeptCalled site h (record { at = t; actor = who; ask = ask.End m fault; answer = answer.Done }) p (record p { mounts = mounts; counts = counts })
end_called site h t m fault who x p mounts counts kept on is rows downs drives counted known = record {
  parts = record {
    space = record { names = λ path. refl; tapes = same_table p.tapes.value kept.stand.space.tapes.distinct; buffer = same_buffer p.buffer.held.value; requests = λ id. refl; repacks = λ id. refl };
    jobs = subst (λ (o : Option Mount). TellSameJobs (jobs_in (values_of (record p { mounts = mounts; counts = counts }))) (end_of_mount site o (jobs_in (values_of p)))) (sym is)
        (record { book = same_book (book_in p.book.value); pools = λ key. refl; recalls = λ key. refl; counts = counted });
    mounts = rows;
    downs = λ k. (let r = row_drive site h m x p kept on is in downs k ∙ sym (ap (has_number k) (downs_are fault (row_of m p.mounts.value.rows) r.0 x.drive p.mounts.value.downs r.1 r.2)));
    failed = refl;
  };
  contents = λ f. refl;
  fit = record { tapes = kept.fit.tapes; pools = kept.fit.pools; recalls = kept.fit.recalls; vos = known ∙ kept.fit.vos; drives = drives ∙ kept.fit.drives };
  named = λ id. refl;
}
