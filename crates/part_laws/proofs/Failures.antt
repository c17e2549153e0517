-- How an entry changes which copies have failed.
use Rattle.std.proofs.Common.{◌≡◌, ◌∙◌, ℕ, zero, suc, ◌+◌, ◌≤◌, ◌<◌, inl, inr, List, [], ◌∷◌, Bool, true, false, ◌&&◌, not, refl, sym, ap, subst, arith, length}
use Rattle.std.specs.Prelude.{Option, Some, None, is_none, is_some, if◌then◌else◌, ◌==◌, nat_le, nat_lt, bytes_eq}
use Rattle.std.specs.List.{list_any}
use Rattle.std.proofs.lemmas.Bool.{and_from, and_parts, eqb-true, eq-eqb, cases_lt, ltb-true, le-leb}
use Rattle.cta_site.specs.declared.site.Site.{Site}
use Rattle.cta_site.specs.Lookups.{copies_of}
use Rattle.cta_model.specs.declared.entries.Entry.{Entry}
use Rattle.cta_model.specs.declared.asks.Ask.{Ask}
use Rattle.cta_model.specs.declared.asks.Ask.TheVariants as ask
use Rattle.cta_model.specs.declared.asks.Fate.{Fate}
use Rattle.cta_model.specs.declared.asks.Fate.TheVariants as fate
use Rattle.cta_model.specs.declared.asks.Item.{Item}
use Rattle.cta_model.specs.declared.asks.Who.{Who}
use Rattle.cta_model.specs.declared.answers.Answer.{Answer}
use Rattle.cta_model.specs.declared.answers.Answer.TheVariants as answer
use Rattle.cta_model.specs.declared.states.Place.{Place}
use Rattle.cta_model.specs.History.{History, is_number, moment_of}
use Rattle.cta_model.specs.Files.{copies_of_file, is_live, live_after, live_file, path_in, path_of}
use Rattle.cta_model.specs.Mounts.{asked_mount, has_copy, job_of, same_job, tape_of_mount}
use Rattle.cta_model.specs.Places.{flushed_in, fseq_after, is_copy_of, is_done, last_flushed, place_after, place_of, was_flushed}
use Rattle.cta_model.specs.Buffer.{is_resident}
use Rattle.cta_model.specs.Jobs.{archive_after, archive_birth, bears_archive, ends_archive}
use Rattle.cta_model.specs.RepackItems.{repack_items}
use Rattle.cta_model.specs.Answers.{is_failed}
use Rattle.cta_model.specs.Legal.{IsLegal}
use Rattle.cta_laws.proofs.Accepted.{answer_is}
use Rattle.cta_laws.specs.Asks.{AnswerIs}
use Rattle.cta_laws.proofs.FileFrames.{copies_older}
use Rattle.cta_laws.proofs.JobFiles.{live_kept}
use Rattle.cta_laws.proofs.PlaceLaw.{live_place, named_within}
use Rattle.cta_laws.proofs.RangeLaw.{archive_range, newest_path}
use Rattle.blob.specs.declared.sum.Sum256.{Sum256}
use Rattle.cta_laws.proofs.RepackedCopies.{on_some, repacked_copy}
use Rattle.cta_laws.proofs.RepackedJobs.{not_flushed, read_item}
use Rattle.cta_laws.proofs.Tests.{bool_cases, or_cases}
use Rattle.part_laws.proofs.FailedMembers.{has_failed}

-- ---- what was flushed

fseq_stays : (xs : List (Item × Fate)) (f c : ℕ) (before : Option ℕ) → is_some before ≡ true → is_some (fseq_after xs f c before) ≡ true
fseq_stays [] f c before on = on
fseq_stays (x ∷ xs) f c before on = fseq_stays xs f c (if is_copy_of f c x then Some x.0.fseq else before) (by (is_copy_of f c x))
  where
    by : (b : Bool) → is_some (if b then Some x.0.fseq else before) ≡ true
    by true = refl
    by false = on

done_flushed : (xs : List (Item × Fate)) (b f c : ℕ) (before : Option ℕ) → list_any (λ (x : Item × Fate). is_done x.1 && same_job x.0.job (job_of b f c)) xs ≡ true → is_some (fseq_after xs f c before) ≡ true
done_flushed [] b f c before e = absurd (cc)
done_flushed (x ∷ xs) b f c before e =
    elim (or_cases (is_done x.1 && same_job x.0.job (job_of b f c)) _ e) [
      | inl hit ↦
          (let parts = and_parts (is_done x.1) _ hit in
          let copy : is_copy_of f c x ≡ true = and_from _ _ parts.0 (and_parts (x.0.job.birth == b) _ parts.1).1 in
          fseq_stays xs f c (if is_copy_of f c x then Some x.0.fseq else before) (rw copy refl))
      | inr rest ↦ done_flushed xs b f c (if is_copy_of f c x then Some x.0.fseq else before) rest
    ]

placed : (c v : ℕ) (o : Option ℕ) (before : Option Place) → is_some o ≡ true → is_some (place_after c v o before) ≡ true
placed c v None before e = absurd (cc)
placed c v (Some s) before e = refl

-- whether an ask may make copies fail, or take failed ones away
abbrev pub may_change_failed : Ask → Bool
may_change_failed (ask.Delete who path) = true
may_change_failed (ask.Failed m fault charged returned) = true
may_change_failed (ask.Retry who paths) = true
may_change_failed _ = false

-- what an entry that is no Retry bears for an older file is for a copy that was flushed
born_flushed : (site : Site) (h : History) (f c : ℕ) (k : Ask) (a : Answer) (t : ℕ) → IsLegal site h → AnswerIs site h t k a → may_change_failed k ≡ false → f ≤ length h → bears_archive site h k a f (suc c) ≡ true → was_flushed h f (suc c) ≡ true
born_flushed site h f c (ask.Put who path sum) a t legal is none low b = (let file : length h + 1 ≡ f = eqb-true _ _ (and_parts (length h + 1 == f) _ b).0 in absurd (omega arith))
born_flushed site h f c (ask.Repack who v) a t legal is none low b =
    let both : (is_resident h f && has_copy f (suc c) (repack_items h v)) ≡ true = subst (λ (x : Answer). bears_archive site h (ask.Repack who v) x f (suc c) ≡ true) is.0 b in
    let p = on_some v (place_of h f (suc c)) (sym (repacked_copy site h legal v f (suc c)) ∙ (and_parts (is_resident h f) _ both).1) in
    ap is_some (live_place h f (suc c) p.0 p.1).1
born_flushed site h f c (ask.Recalled m job) (answer.Arrived fate.Done) t legal is none low b = ap is_some (read_item site h legal f c (and_parts (job.file == f) _ b).1).2
born_flushed site h f c (ask.Retry who paths) a t legal is none low b = absurd (cc)
born_flushed site h f c _ a t legal is none low b = absurd (cc)

-- what ends a live archive job, and neither deletes nor charges, flushes its copy
ended_flushed : (site : Site) (h : History) (e : Entry) (b f c : ℕ) (k : Ask) → e.ask ≡ k → may_change_failed k ≡ false → ends_archive site h e.ask e.answer (job_of b f (suc c)) ≡ true → was_flushed (e ∷ h) f (suc c) ≡ true
ended_flushed site h e b f c (ask.Flushed m items) ek none ends =
    let told : list_any (λ (x : Item × Fate). is_done x.1 && same_job x.0.job (job_of b f (suc c))) (flushed_in e.ask e.answer) ≡ true =
    ap (λ (k : Ask). list_any (λ (x : Item × Fate). is_done x.1 && same_job x.0.job (job_of b f (suc c))) (flushed_in k e.answer)) ek ∙ sym (ap (λ (k : Ask). ends_archive site h k e.answer (job_of b f (suc c))) ek) ∙ ends in
    placed (suc c) (tape_of_mount h (asked_mount e.ask)) (fseq_after (flushed_in e.ask e.answer) f (suc c) None) (last_flushed h f (suc c)) (done_flushed (flushed_in e.ask e.answer) b f (suc c) None told)
ended_flushed site h e b f c (ask.Delete who path) ek none ends = absurd (cc)
ended_flushed site h e b f c (ask.Failed m fault charged returned) ek none ends = absurd (cc)
ended_flushed site h e b f c k ek none ends = (let bad : false ≡ true = sym (ap (λ (q : Ask). ends_archive site h q e.answer (job_of b f (suc c))) ek) ∙ ends in absurd (cc))

none_failed : (a : Bool) (o : Option ℕ) → a ≡ true → (not a && is_none o) ≡ false
none_failed true o e = refl
none_failed false o e = absurd (cc)

has_job_left : (a : Bool) (b : ℕ) → (not a && is_none (Some b)) ≡ false
has_job_left true b = refl
has_job_left false b = refl

-- every other entry leaves which copies of an older file have failed
pub failed_same : (site : Site) (h : History) (e : Entry) (f c : ℕ) → IsLegal site (e ∷ h) → may_change_failed e.ask ≡ false → f ≤ length h → is_failed site (e ∷ h) f (suc c) ≡ is_failed site h f (suc c)
failed_same site h e f c legal none low = by (archive_birth site h f (suc c)) refl
  where
    by : (o : Option ℕ) → archive_birth site h f (suc c) ≡ o → (not (was_flushed (e ∷ h) f (suc c)) && is_none (archive_after site h e f (suc c) (archive_birth site h f (suc c)))) ≡ (not (was_flushed h f (suc c)) && is_none (archive_birth site h f (suc c)))
    by None is =
        (let flushed : was_flushed (e ∷ h) f (suc c) ≡ was_flushed h f (suc c) = ap is_some (not_flushed site h e f c legal is) in
        elim (bool_cases (bears_archive site h e.ask e.answer f (suc c))) [
          | inr miss ↦ rw (is, flushed) (rw miss refl)
          | inl hit ↦
              (let was : was_flushed h f (suc c) ≡ true = born_flushed site h f c e.ask e.answer (moment_of h e.at) legal.0 (answer_is site h e.at e.ask e.answer legal.1.answered legal.1.accepted) none low hit in
              none_failed (was_flushed (e ∷ h) f (suc c)) _ (flushed ∙ was) ∙ sym (none_failed (was_flushed h f (suc c)) (archive_birth site h f (suc c)) was))
        ])
    by (Some b) is =
        (let before : (not (was_flushed h f (suc c)) && is_none (archive_birth site h f (suc c))) ≡ false = ap (λ (o : Option ℕ). not (was_flushed h f (suc c)) && is_none o) is ∙ has_job_left (was_flushed h f (suc c)) b in
        elim (bool_cases (ends_archive site h e.ask e.answer (job_of b f (suc c)))) [
          | inl ends ↦ none_failed (was_flushed (e ∷ h) f (suc c)) _ (ended_flushed site h e b f c e.ask refl none ends) ∙ sym before
          | inr goes ↦ ap (λ (o : Option ℕ). not (was_flushed (e ∷ h) f (suc c)) && is_none (archive_after site h e f (suc c) o)) is ∙ ap (λ (t : Bool). not (was_flushed (e ∷ h) f (suc c)) && is_none (if t then None else Some b)) goes ∙ has_job_left (was_flushed (e ∷ h) f (suc c)) b ∙ sym before
        ])

-- ---- files

zero_out : (a b : Bool) (n : ℕ) → (a && (b && (nat_le 1 0 && nat_lt 0 n))) ≡ false
zero_out true true n = refl
zero_out true false n = refl
zero_out false b n = refl

-- an entry after which a path names only what it named before brings no new file
new_dead : (h : History) (e : Entry) → ((p : List ℕ) (o : Option ℕ) → is_number (length h + 1) (live_after e.ask (length h + 1) p o) ≡ true → is_number (length h + 1) o ≡ true) → is_live (e ∷ h) (length h + 1) ≡ false
new_dead h e older =
    elim (bool_cases (is_live (e ∷ h) (length h + 1))) [
      | inr miss ↦ miss
      | inl hit ↦
          (let was : is_number (length h + 1) (live_file h (path_of (e ∷ h) (length h + 1))) ≡ true = older (path_of (e ∷ h) (length h + 1)) (live_file h (path_of (e ∷ h) (length h + 1))) hit in
          let low : (1 ≤ length h + 1) × (length h + 1 ≤ length h) = named_within h (length h + 1) (path_of (e ∷ h) (length h + 1)) was in
          absurd (omega (arith, low.1)))
    ]

-- each copy of a new file has a live job
put_has_job : (site : Site) (h : History) (e : Entry) (who : Who) (path : List ℕ) (sum : Sum256) (c : ℕ) → IsLegal site h → e.ask ≡ ask.Put who path sum → has_failed site (e ∷ h) (length h + 1) (suc c) ≡ false
put_has_job site h e who path sum c legal ek = by (nat_lt (suc c) (1 + copies_of_file site (e ∷ h) (length h + 1))) refl
  where
    copies : copies_of_file site (e ∷ h) (length h + 1) ≡ copies_of site path
    copies = ap (copies_of site) (newest_path e h ∙ ap path_in ek)

    none : (a b d : Bool) → (a && (b && (d && false))) ≡ false
    none true true true = refl
    none true true false = refl
    none true false d = refl
    none false b d = refl

    dead : (o : Option ℕ) → archive_birth site h (length h + 1) (suc c) ≡ o → archive_birth site h (length h + 1) (suc c) ≡ None
    dead None is = is
    dead (Some b) is = (let low : length h + 1 ≤ length h = (archive_range site h legal (length h + 1) (suc c) (ap is_some is)).1 in absurd (omega arith))

    no_job : (a b d : Bool) (o : Option ℕ) → is_none o ≡ false → (a && ((b && is_none o) && d)) ≡ false
    no_job true true d o e = rw e refl
    no_job true false d o e = refl
    no_job false b d o e = refl

    by : (t : Bool) → nat_lt (suc c) (1 + copies_of_file site (e ∷ h) (length h + 1)) ≡ t → has_failed site (e ∷ h) (length h + 1) (suc c) ≡ false
    by false out = rw out (none (is_live (e ∷ h) (length h + 1)) (is_failed site (e ∷ h) (length h + 1) (suc c)) (nat_le 1 (suc c)))
    by true inside =
        (let fits : suc c ≤ copies_of site path = (let x : suc c ≤ copies_of_file site (e ∷ h) (length h + 1) = (let y = ltb-true (suc c) (1 + copies_of_file site (e ∷ h) (length h + 1)) inside in omega (arith, y)) in subst (λ (n : ℕ). suc c ≤ n) copies x) in
        let bears : bears_archive site h e.ask e.answer (length h + 1) (suc c) ≡ true = ap (λ (k : Ask). bears_archive site h k e.answer (length h + 1) (suc c)) ek ∙ and_from _ _ (eq-eqb (length h + 1) (length h + 1) refl) (and_from _ _ (le-leb 1 (suc c) (omega arith)) (le-leb (suc c) (copies_of site path) fits)) in
        let born : is_none (archive_birth site (e ∷ h) (length h + 1) (suc c)) ≡ false = ap (λ (o : Option ℕ). is_none (archive_after site h e (length h + 1) (suc c) o)) (dead (archive_birth site h (length h + 1) (suc c)) refl) ∙ ap (λ (t : Bool). is_none (if t then Some (length h + 1) else None)) bears in
        no_job (is_live (e ∷ h) (length h + 1)) (not (was_flushed (e ∷ h) (length h + 1) (suc c))) (nat_le 1 (suc c) && nat_lt (suc c) (1 + copies_of_file site (e ∷ h) (length h + 1))) (archive_birth site (e ∷ h) (length h + 1) (suc c)) born)

dead_out : (live rest : Bool) → live ≡ false → (live && rest) ≡ false
dead_out true rest e = absurd (cc)
dead_out false rest e = refl

new_failed : (site : Site) (h : History) (e : Entry) (c : ℕ) (k : Ask) → IsLegal site h → e.ask ≡ k → has_failed site (e ∷ h) (length h + 1) (suc c) ≡ false
new_failed site h e c (ask.Put who path sum) legal ek = put_has_job site h e who path sum c legal ek
new_failed site h e c (ask.Delete who path) legal ek = dead_out _ _ (new_dead h e (λ p o on. by p o (subst (λ (k : Ask). is_number (length h + 1) (live_after k (length h + 1) p o) ≡ true) ek on)))
  where
    by : (p : List ℕ) (o : Option ℕ) → is_number (length h + 1) (if bytes_eq path p then None else o) ≡ true → is_number (length h + 1) o ≡ true
    by p o = elim (bytes_eq path p) as (λ b. is_number (length h + 1) (if b then None else o) ≡ true → is_number (length h + 1) o ≡ true) [ true ↦ λ x. absurd (cc) | false ↦ λ x. x ]
new_failed site h e c k legal ek = dead_out _ _ (new_dead h e (λ p o on. subst (λ (q : Ask). is_number (length h + 1) (live_after q (length h + 1) p o) ≡ true) ek on))

-- no copy of a file that the history before does not have has failed, before the entry or behind it
pub high_failed : (site : Site) (h : History) (e : Entry) (f c : ℕ) → IsLegal site h → length h < f → (has_failed site (e ∷ h) f c ≡ false) × (has_failed site h f c ≡ false)
high_failed site h e f zero legal high = (zero_out (is_live (e ∷ h) f) (is_failed site (e ∷ h) f 0) (1 + copies_of_file site (e ∷ h) f), zero_out (is_live h f) (is_failed site h f 0) (1 + copies_of_file site h f))
high_failed site h e f (suc c) legal high = (now, dead_out _ _ (above h (omega arith)))
  where
    above : (g : History) → length g < f → is_live g f ≡ false
    above g less = elim (bool_cases (is_live g f)) [ inl hit ↦ (let low : (1 ≤ f) × (f ≤ length g) = named_within g f (path_of g f) hit in absurd (omega (arith, low.1))) | inr miss ↦ miss ]

    now : has_failed site (e ∷ h) f (suc c) ≡ false
    now =
        elim (cases_lt (length h + 1) f) [
          | inl more ↦ dead_out _ _ (above (e ∷ h) (omega arith))
          | inr less ↦ (let same : length h + 1 ≡ f = omega arith in subst (λ (n : ℕ). has_failed site (e ∷ h) n (suc c) ≡ false) same (new_failed site h e c e.ask legal refl))
        ]

-- where a copy of an older file has failed behind an entry: its file is live, and it has failed by the tests of the copy
pub low_failed : (site : Site) (h : History) (e : Entry) (f c : ℕ) (live failed : Bool) → f ≤ length h → is_live (e ∷ h) f ≡ live → is_failed site (e ∷ h) f c ≡ failed → has_failed site (e ∷ h) f c ≡ (live && (failed && (nat_le 1 c && nat_lt c (1 + copies_of_file site h f))))
low_failed site h e f c live failed low p q =
    ap (λ (b : Bool). b && (is_failed site (e ∷ h) f c && (nat_le 1 c && nat_lt c (1 + copies_of_file site (e ∷ h) f)))) p
    ∙ ap (λ (b : Bool). live && (b && (nat_le 1 c && nat_lt c (1 + copies_of_file site (e ∷ h) f)))) q
    ∙ ap (λ (n : ℕ). live && (failed && (nat_le 1 c && nat_lt c (1 + n)))) (copies_older site e h f low)

-- an entry that deletes, charges and retries nothing leaves which copies have failed
pub has_failed_same : (site : Site) (h : History) (e : Entry) (f c : ℕ) → IsLegal site (e ∷ h) → may_change_failed e.ask ≡ false → has_failed site (e ∷ h) f c ≡ has_failed site h f c
has_failed_same site h e f zero legal none = zero_out (is_live (e ∷ h) f) (is_failed site (e ∷ h) f 0) (1 + copies_of_file site (e ∷ h) f) ∙ sym (zero_out (is_live h f) (is_failed site h f 0) (1 + copies_of_file site h f))
has_failed_same site h e f (suc c) legal none =
    elim (cases_lt (length h) f) [
      | inl high ↦ (let both = high_failed site h e f (suc c) legal.0 high in both.0 ∙ sym both.1)
      | inr low ↦ low_failed site h e f (suc c) (is_live h f) (is_failed site h f (suc c)) low (live_kept site h e f legal.1 low (λ who path is. absurd (no_delete e.ask who path none is))) (failed_same site h e f c legal none low)
    ]
  where
    no_delete : (k : Ask) (who : Who) (path : List ℕ) → may_change_failed k ≡ false → k ≡ ask.Delete who path → ⊥
    no_delete k who path x is = (let bad : may_change_failed k ≡ true = ap may_change_failed is in absurd (cc))
