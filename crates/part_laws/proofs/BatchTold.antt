-- What a Claim is answered is told by the parts.
use Rattle.std.proofs.Common.{◌≡◌, ◌∙◌, ℕ, zero, suc, ◌+◌, ◌-◌, ◌<◌, ◌≤◌, inl, inr, List, [], ◌∷◌, Bool, true, false, not, refl, sym, ap, subst, length}
use Rattle.std.specs.Prelude.{Some, None, ◌==◌, nat_le, map, find}
use Rattle.std.specs.List.{list_any}
use Rattle.cta_site.specs.declared.site.Site.{Site}
use Rattle.cta_site.specs.Listed.{rows}
use Rattle.cta_site.specs.Lookups.{capacity_of}
use Rattle.cta_model.specs.declared.asks.Direction.{Direction}
use Rattle.cta_model.specs.declared.asks.Direction.TheVariants as direction
use Rattle.cta_model.specs.declared.asks.Item.{Item}
use Rattle.cta_model.specs.declared.asks.Job.{Job}
use Rattle.cta_model.specs.declared.answers.Answer.TheVariants as answer
use Rattle.cta_model.specs.declared.answers.Refusal.TheVariants as refusal
use Rattle.cta_model.specs.declared.states.Mount.{Mount}
use Rattle.cta_model.specs.History.{History, last_moment}
use Rattle.cta_model.specs.Files.{copies_of_file, sum_of, size_of}
use Rattle.cta_model.specs.Mounts.{is_open, mount_of}
use Rattle.cta_model.specs.Tapes.{next_fseq, size_of_items, used_bytes}
use Rattle.cta_model.specs.Queues.{queue_of}
use Rattle.cta_model.specs.Space.{evictable_size, free_space}
use Rattle.cta_model.specs.Choice.{key_of_mount}
use Rattle.cta_model.specs.Batches.{batch_by as batch_of_tape, fseq_on, insert_by_fseq, read_items, taken_of, written_items}
use Rattle.cta_model.specs.Answers.{batch_answer, claim_answer, claim_by, refuse}
use Rattle.cta_model.specs.Legal.{IsLegal, greatest_moment}
use Rattle.cta_laws.proofs.KeyLaw.{OpenIsGood, open_good, same_mount}
use Rattle.cta_laws.proofs.Tests.{bool_cases}
use Rattle.part_model.specs.declared.jobs.Line.{Line}
use Rattle.part_model.specs.declared.mounts.OpenMount.{OpenMount}
use Rattle.part_model.specs.declared.space.TapeRow.{TapeRow}
use Rattle.part_model.specs.Mounts.{row_of}
use Rattle.part_model.specs.Queues.{lines_in}
use Rattle.part_laws.specs.Lines.{line_of}
use Rattle.part_laws.specs.Mounts.{IsRow}
use Rattle.part_laws.specs.SpaceLaws.{Tells}
use Rattle.part_laws.proofs.Told.{buffer_tells}
use Rattle.part_laws.specs.AllParts.{AllParts}
use Rattle.part_laws.specs.Stands.{Stands}
use Rattle.part_laws.specs.Batches.{batch_by, batch_told, claim_told, claim_with, read_told, taken_lines, written_told}
use Rattle.part_laws.specs.Files.{files_of, fseq_told}
use Rattle.part_laws.specs.AnswerLaws.{PartsTellMounts}
use Rattle.part_laws.proofs.ChoiceTold.{next_is, room_is, tells_mounts}
use Rattle.part_laws.proofs.PlaceTold.{fseq_is}

-- ---- the walk along lines, and the items

taken_is : (site : Site) (h : History) (way : Direction) (count room : ℕ) (q : List Job) → taken_lines count room (map (line_of site h way) q) ≡ taken_of h count room q
taken_is site h way count room [] = refl
taken_is site h way zero room (j ∷ q) = refl
taken_is site h way (suc n) room (j ∷ q) =
    elim (bool_cases (nat_le (size_of h j.file) room)) [
      | inl hit ↦ rw hit (ap (λ (js : List Job). j ∷ js) (taken_is site h way n (room - size_of h j.file) q))
      | inr miss ↦ rw miss (taken_is site h way (suc n) room q)
    ]

pub written_is : (h : History) (s : ℕ) (js : List Job) → written_told (sum_of h) s js ≡ written_items h s js
written_is h s [] = refl
written_is h s (j ∷ js) = ap (λ (items : List Item). record { job = j; fseq = s; sum = sum_of h j.file } ∷ items) (written_is h (s + 1) js)

read_is : (site : Site) (h : History) (tape : ℕ) (fseqs : ℕ → ℕ) (js : List Job) → ((f : ℕ) → fseqs f ≡ fseq_on site h tape f) → read_told (sum_of h) fseqs js ≡ read_items site h tape js
read_is site h tape fseqs [] same = refl
read_is site h tape fseqs (j ∷ js) same =
    ap (λ (s : ℕ). insert_by_fseq (record { job = j; fseq = s; sum = sum_of h j.file }) (read_told (sum_of h) fseqs js)) (same j.file)
    ∙ ap (insert_by_fseq (record { job = j; fseq = fseq_on site h tape j.file; sum = sum_of h j.file })) (read_is site h tape fseqs js same)

-- ---- the batch of a mount

batch_is : (site : Site) (h : History) (v : AllParts) (t : ℕ) → IsLegal site h → Stands site h v → last_moment h ≤ t → t ≤ greatest_moment → (r : OpenMount) (way : Direction)
    → r.key ≡ key_of_mount site way r.tape → (way ≡ direction.Archive → r.tape < length site.tapes.items) → batch_by site v (files_of h) t r way ≡ batch_of_tape site h t way r.tape
batch_is site h v t legal s now top r direction.Archive key low =
    ap (λ (x : TapeRow). written_told (sum_of h) x.next (taken_lines site.limits.batch_files (capacity_of site r.tape - x.used) (lines_in v.pools r.key))) (s.space.tapes.rows r.tape (low refl))
    ∙ ap (λ (ls : List Line). written_told (sum_of h) (next_fseq h r.tape) (taken_lines site.limits.batch_files (capacity_of site r.tape - used_bytes h r.tape) ls)) (s.jobs.pools r.key)
    ∙ ap (written_told (sum_of h) (next_fseq h r.tape)) (taken_is site h direction.Archive site.limits.batch_files (capacity_of site r.tape - used_bytes h r.tape) (queue_of site h direction.Archive r.key))
    ∙ written_is h (next_fseq h r.tape) (taken_of h site.limits.batch_files (capacity_of site r.tape - used_bytes h r.tape) (queue_of site h direction.Archive r.key))
    ∙ ap (λ (k : ℕ). written_items h (next_fseq h r.tape) (taken_of h site.limits.batch_files (capacity_of site r.tape - used_bytes h r.tape) (queue_of site h direction.Archive k))) key
batch_is site h v t legal s now top r direction.Retrieve key low =
    ap (λ (n : ℕ). read_told (sum_of h) (λ f. fseq_told v.space.tapes r.tape f (copies_of_file site h f)) (taken_lines site.limits.batch_files n (lines_in v.recalls r.key))) (room_is site h v t s now top)
    ∙ ap (λ (ls : List Line). read_told (sum_of h) (λ f. fseq_told v.space.tapes r.tape f (copies_of_file site h f)) (taken_lines site.limits.batch_files room ls)) (s.jobs.recalls r.key)
    ∙ ap (read_told (sum_of h) (λ f. fseq_told v.space.tapes r.tape f (copies_of_file site h f))) (taken_is site h direction.Retrieve site.limits.batch_files room (queue_of site h direction.Retrieve r.key))
    ∙ read_is site h r.tape (λ f. fseq_told v.space.tapes r.tape f (copies_of_file site h f)) (taken_of h site.limits.batch_files room (queue_of site h direction.Retrieve r.key)) (λ f. fseq_is site h v.space.tapes r.tape f legal s.space.tapes)
    ∙ ap (λ (k : ℕ). read_items site h r.tape (taken_of h site.limits.batch_files room (queue_of site h direction.Retrieve k))) key
  where
    room : ℕ
    room = free_space site h + evictable_size site h t

answer_is : (site : Site) (h : History) (v : AllParts) (t : ℕ) → Stands site h v → last_moment h ≤ t → t ≤ greatest_moment → (way : Direction) (items : List Item) → batch_told v.space.buffer t way items ≡ batch_answer site h t way items
answer_is site h v t s now top direction.Archive [] = refl
answer_is site h v t s now top direction.Retrieve [] = refl
answer_is site h v t s now top direction.Archive (i ∷ items) = refl
answer_is site h v t s now top direction.Retrieve (i ∷ items) =
    let tells : Tells site h v.space.buffer t = buffer_tells site h v.space.buffer t s.space.buffer now top in
    ap (λ (out : List ℕ). answer.Batch (rows (i ∷ items)) (rows out)) (tells.evicted (size_of_items (i ∷ items)))

-- ---- a Claim

none_found : (p : OpenMount → Bool) (xs : List OpenMount) → list_any p xs ≡ false → find p xs ≡ None
none_found p [] none = refl
none_found p (x ∷ xs) none =
    elim (bool_cases (p x)) [
      | inl hit ↦ (let bad : true ≡ false = rw hit at none in absurd (cc))
      | inr miss ↦ rw miss (none_found p xs (rw miss at none))
    ]

row_claims : (site : Site) (h : History) (v : AllParts) (t m : ℕ) → IsLegal site h → Stands site h v → last_moment h ≤ t → t ≤ greatest_moment → is_open h m ≡ true → (r : OpenMount) → IsRow site h m r
    → claim_by site h t (mount_of h m) ≡ claim_with site v (files_of h) t (Some r)
row_claims site h v t m legal s now top op r is =
    ap (claim_by site h t) is.mount
    ∙ ap (batch_answer site h t r.direction) (sym (batch_is site h v t legal s now top r r.direction is.key low))
    ∙ sym (answer_is site h v t s now top r.direction (batch_by site v (files_of h) t r r.direction))
  where
    low : r.direction ≡ direction.Archive → r.tape < length site.tapes.items
    low way =
        let good : OpenIsGood site h m = open_good site h legal m op in
        let same : good.0 ≡ record { drive = r.drive; direction = r.direction; tape = r.tape } = same_mount good.0 (record { drive = r.drive; direction = r.direction; tape = r.tape }) (sym good.1 ∙ is.mount) in
        let there : good.0.tape < length site.tapes.items = good.2.1 (ap (λ (x : Mount). x.direction) same ∙ way) in
        subst (λ (n : ℕ). n < length site.tapes.items) (ap (λ (x : Mount). x.tape) same) there

pub claim_is : (site : Site) (h : History) (v : AllParts) (t : ℕ) → IsLegal site h → Stands site h v → last_moment h ≤ t → t ≤ greatest_moment → (m : ℕ) → claim_answer site h t m ≡ claim_told site v (files_of h) t m
claim_is site h v t legal s now top m =
    elim (bool_cases (is_open h m)) [
      | inl op ↦
          (let found = (tells_mounts site h v s).row m op in
          ap (λ (b : Bool). refuse refusal.Unknown (not b) (claim_by site h t (mount_of h m))) op
          ∙ row_claims site h v t m legal s now top op found.0 found.2
          ∙ ap (claim_with site v (files_of h) t) (sym found.1))
      | inr closed ↦
          (let none : row_of m v.mounts ≡ None = none_found (λ (r : OpenMount). r.number == m) v.mounts ((tells_mounts site h v s).opens m ∙ closed) in
          ap (λ (b : Bool). refuse refusal.Unknown (not b) (claim_by site h t (mount_of h m))) closed ∙ ap (claim_with site v (files_of h) t) (sym none))
    ]

pub parts_tell_mounts : PartsTellMounts
parts_tell_mounts site h v t legal s now top = record { next = next_is site h v t s now top; claim = claim_is site h v t legal s now top }
