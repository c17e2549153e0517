-- What a Next finds, and its calls.
use Rattle.std.proofs.Common.{◌≡◌, ◌∙◌, ◌+◌, ◌<◌, ◌≤◌, ◌^◌, ◌*◌, ℕ, inl, inr, List, [], ◌∷◌, Bool, true, false, not, refl, sym, ap, subst, arith, length}
use Rattle.std.specs.Prelude.{Some, ◌==◌, ◌&&◌, filter, if◌then◌else◌}
use Rattle.std.proofs.lemmas.Bool.{ltb-true}
use Rattle.std.proofs.lemmas.Option.{slice_get_cases}
use Rattle.cta_site.specs.declared.site.Site.{Site}
use Rattle.cta_site.specs.Lookups.{pool_of_tape, vo_of_pool}
use Rattle.cta_site.specs.WellFormed.{IsWellFormed}
use Rattle.cta_model.specs.declared.answers.Answer.{Answer}
use Rattle.cta_model.specs.declared.answers.Answer.TheVariants as answer
use Rattle.cta_model.specs.declared.asks.Ask.{Ask}
use Rattle.cta_model.specs.declared.asks.Ask.TheVariants as ask
use Rattle.cta_model.specs.declared.asks.Direction.{Direction}
use Rattle.cta_model.specs.declared.entries.Actor.TheVariants as actor
use Rattle.cta_model.specs.declared.states.Candidate.{Candidate}
use Rattle.cta_model.specs.declared.states.Mount.{Mount}
use Rattle.cta_model.specs.Answers.{answer_of, is_accepted}
use Rattle.cta_model.specs.Choice.{has_quota_left, mount_choice, mounts_of_vo, quota_in, quota_of}
use Rattle.cta_model.specs.History.{History, has_number, moment_of}
use Rattle.cta_model.specs.Legal.{IsLegal}
use Rattle.cta_model.specs.Mounts.{is_mount, is_open, mount_of, open_after, open_mounts, same_direction}
use Rattle.cta_laws.specs.Asks.{AnswerIs}
use Rattle.cta_laws.specs.Lengths.{StaysShort}
use Rattle.cta_laws.proofs.Accepted.{answer_is}
use Rattle.cta_laws.proofs.OpenMounts.{open_older}
use Rattle.cta_laws.proofs.QuotaLaw.{choice_quota}
use Rattle.cta_laws.proofs.Tests.{bool_cases}
use Rattle.part_model.specs.declared.mounts.OpenMount.{OpenMount}
use Rattle.part_model.specs.Counts.{Counts, count_in, opened_count}
use Rattle.part_model.specs.JobRows.{book_in}
use Rattle.part_model.specs.Mounts.{has_mount, opened, row_of}
use Rattle.part_model.specs.Room.{Roomed}
use Rattle.part_laws.specs.Mounts.{AreOpenMounts, new_row}
use Rattle.part_laws.proofs.RowAnswers.{rows_tell_mounts}
use Rattle.open_mounts.specs.Table.{MountTable}
use Rattle.archive_parts.specs.Called.{AreKeptCalled}
use Rattle.archive_parts.specs.PartsKept.{ArePartsKept}
use Rattle.archive_parts.specs.declared.parts.ArchiveParts.{ArchiveParts}
use Rattle.part_moves.proofs.SameParts.{same_book, same_buffer, same_table}

-- ---- rows and mounts

-- no mount has the number of the next entry
pub next_not_there : (site : Site) (h : History) (rows : List OpenMount) → AreOpenMounts site h rows → has_mount (length h + 1) rows ≡ false
next_not_there site h rows are = (rows_tell_mounts site h rows are).opens (length h + 1) ∙ off
  where
    off : is_open h (length h + 1) ≡ false
    off =
        elim (bool_cases (is_open h (length h + 1))) [
          | inl on ↦ (let low : length h + 1 ≤ length h = open_older h (length h + 1) on in absurd (omega arith))
          | inr closed ↦ closed
        ]

-- ---- counts

fewer : (test : ℕ → Bool) (ms : List ℕ) → length (filter test ms) ≤ length ms
fewer test [] = omega arith
fewer test (m ∷ ms) =
    elim (test m) as (λ b. length (if b then m ∷ filter test ms else filter test ms) ≤ length (m ∷ ms)) [ true ↦ omega (arith, fewer test ms) | false ↦ omega (arith, fewer test ms) ]

opens_step : (k : Ask) (a : Answer) (n : ℕ) (ms : List ℕ) → length (open_after k a n ms) ≤ length ms + 1
opens_step (ask.Next d) (answer.Mounted m way v) n ms = omega arith
opens_step (ask.End m fault) a n ms = omega (arith, fewer (λ k. not (k == m)) ms)
opens_step _ a n ms = omega arith

opens_few : (h : History) → length (open_mounts h) ≤ length h
opens_few [] = omega arith
opens_few (e ∷ h) = omega (arith, opens_step e.ask e.answer (length h + 1) (open_mounts h), opens_few h)

-- a VO has fewer open mounts than 32 bits count
few_of_vo : (site : Site) (h : History) (way : Direction) (vo : ℕ) → StaysShort → IsWellFormed site → IsLegal site h → mounts_of_vo site h way vo + 1 < 2 ^ 32
few_of_vo site h way vo short well legal =
    let low : length h ≤ 2 * site.limits.history = short site h legal in
    let top : site.limits.history ≤ 1000000 = well.limits.history_to in
    let some : mounts_of_vo site h way vo ≤ length (open_mounts h) = fewer (λ m. is_mount (λ (x : Mount). same_direction x.direction way && vo_of_pool site (pool_of_tape site x.tape) == vo) (mount_of h m)) (open_mounts h) in
    let all : length (open_mounts h) ≤ length h = opens_few h in
    omega arith

-- a VO with a quota is one of the site
vo_is_known : (site : Site) (way : Direction) (vo n : ℕ) → n < quota_of site way vo → vo < length site.vos.items
vo_is_known site way vo n less =
    elim (slice_get_cases site.vos.items vo).1 [
      | inl there ↦ there.1
      | inr past ↦ (let none : quota_of site way vo ≡ 0 = ap (quota_in way) past.1 in absurd (omega arith))
    ]

-- the VO of the choice has a count
pub choice_is_known : (site : Site) (h : History) (t d : ℕ) (c : Candidate) (p : ArchiveParts) → ArePartsKept site h p → mount_choice site h t d ≡ Some c
    → vo_of_pool site (pool_of_tape site c.tape) < length p.counts.archive
choice_is_known site h t d c p kept is =
    let room : has_quota_left site h c.direction (vo_of_pool site (pool_of_tape site c.tape)) ≡ true = choice_quota site h t d c is in
    let less : mounts_of_vo site h c.direction (vo_of_pool site (pool_of_tape site c.tape)) < quota_of site c.direction (vo_of_pool site (pool_of_tape site c.tape)) = ltb-true _ _ room in
    let low : vo_of_pool site (pool_of_tape site c.tape) < length site.vos.items = vo_is_known site c.direction _ _ less in
    let known : length p.counts.archive ≡ length site.vos.items = kept.fit.vos in
    omega arith

-- and the count has room for one more
pub count_is_few : (site : Site) (h : History) (way : Direction) (vo : ℕ) (p : ArchiveParts) → StaysShort → IsWellFormed site → IsLegal site h → ArePartsKept site h p → count_in p.counts way vo + 1 < 2 ^ 32
count_is_few site h way vo p short well legal kept =
    let counted : count_in p.counts way vo ≡ mounts_of_vo site h way vo = kept.stand.jobs.counts way vo in
    let few : mounts_of_vo site h way vo + 1 < 2 ^ 32 = few_of_vo site h way vo short well legal in
    omega arith

-- ---- the answer

pub next_answered : (site : Site) (h : History) (t d : ℕ) (c : Candidate) → is_accepted (answer_of site h t (ask.Next d)) ≡ true → mount_choice site h (moment_of h t) d ≡ Some c
    → answer.Mounted (length h + 1) c.direction c.tape ≡ answer_of site h t (ask.Next d)
next_answered site h t d c accepted choice =
    let is : AnswerIs site h (moment_of h t) (ask.Next d) (answer_of site h t (ask.Next d)) = answer_is site h t (ask.Next d) (answer_of site h t (ask.Next d)) refl accepted in
    let both : Some is.0 ≡ Some c = sym is.1 ∙ choice in
    let same : is.0 ≡ c = cc in
    sym (is.2 ∙ ap (λ (x : Candidate). answer.Mounted (length h + 1) x.direction x.tape) same)

-- ---- the calls

pub next_called : (site : Site) (h : History) (t d m : ℕ) (way : Direction) (v : ℕ) (p : ArchiveParts) (mounts : Roomed MountTable) (counts : Counts) → ArePartsKept site h p
    → mounts.value.rows ≡ opened (new_row site m (record { drive = d; direction = way; tape = v })) p.mounts.value.rows → mounts.value.downs ≡ p.mounts.value.downs → mounts.value.drives ≡ p.mounts.value.drives
    → ((w : Direction) (vo : ℕ) → count_in counts w vo ≡ opened_count site (record { drive = d; direction = way; tape = v }) (count_in p.counts) w vo) → length counts.archive ≡ length p.counts.archive
    → AreKeptCalled site h (record { at = t; actor = actor.Drive d; ask = ask.Next d; answer = answer.Mounted m way v }) p (record p { mounts = mounts; counts = counts })
next_called site h t d m way v p mounts counts kept rows downs drives counted known = record {
  parts = record {
    space = record { names = λ path. refl; tapes = same_table p.tapes.value kept.stand.space.tapes.distinct; buffer = same_buffer p.buffer.held.value; requests = λ id. refl; repacks = λ id. refl };
    jobs = record { book = same_book (book_in p.book.value); pools = λ key. refl; recalls = λ key. refl; counts = counted };
    mounts = rows;
    downs = λ k. ap (has_number k) downs;
    failed = refl;
  };
  contents = λ f. refl;
  fit = record { tapes = kept.fit.tapes; pools = kept.fit.pools; recalls = kept.fit.recalls; vos = known ∙ kept.fit.vos; drives = drives ∙ kept.fit.drives };
  named = λ id. refl;
}
