-- What the asks of operators are answered is told by the parts.
use Rattle.std.proofs.Common.{◌≡◌, ◌∙◌, ℕ, zero, suc, ◌+◌, ◌<◌, ◌≤◌, inl, inr, List, [], ◌∷◌, ◌++◌, Bool, true, false, not, refl, sym, ap, subst, arith, length}
use Rattle.std.specs.Prelude.{Option, Some, None, is_none, ◌==◌, filter, map, nat_le}
use Rattle.std.specs.List.{flat_map, list_any, range_with_len}
use Rattle.std.proofs.lemmas.Bool.{eqb-true}
use Rattle.cta_site.specs.declared.site.Site.{Site}
use Rattle.cta_site.specs.Listed.{rows}
use Rattle.cta_model.specs.declared.asks.Item.{Item}
use Rattle.cta_model.specs.declared.asks.Job.{Job}
use Rattle.cta_model.specs.declared.answers.Answer.{Answer}
use Rattle.cta_model.specs.declared.answers.Answer.TheVariants as answer
use Rattle.cta_model.specs.declared.answers.Refusal.TheVariants as refusal
use Rattle.cta_model.specs.History.{History, has_text, is_empty, next_number}
use Rattle.cta_model.specs.Files.{is_live, live_file}
use Rattle.cta_model.specs.Mounts.{is_mounted, job_of}
use Rattle.cta_model.specs.Tapes.{is_broken, may_be_repacked, tape_state}
use Rattle.cta_model.specs.Places.{live_items_on}
use Rattle.cta_model.specs.Repacks.{is_repack_live}
use Rattle.cta_model.specs.RepackItems.{repack_items}
use Rattle.cta_model.specs.Answers.{failed_numbers, on_free_tape, reclaim_answer, refuse, repack_answer, retried_file, retried_jobs}
use Rattle.cta_model.specs.Legal.{IsLegal}
use Rattle.cta_laws.proofs.JobFiles.{named_live}
use Rattle.cta_laws.proofs.RangeLaw.{named_range}
use Rattle.cta_laws.proofs.Tests.{bool_cases}
use Rattle.part_model.specs.declared.space.Placed.{Placed}
use Rattle.part_model.specs.declared.space.TapeRow.{TapeRow}
use Rattle.part_model.specs.Mounts.{has_tape}
use Rattle.part_model.specs.Names.{file_in}
use Rattle.part_model.specs.Repacks.{is_live_in}
use Rattle.part_model.specs.Tapes.{row_in}
use Rattle.part_laws.proofs.Count.{live_is}
use Rattle.part_laws.proofs.RepackCalls.{repacks_tell_live}
use Rattle.part_laws.specs.AllParts.{AllParts}
use Rattle.part_laws.specs.Stands.{Stands}
use Rattle.part_laws.specs.AnswerLaws.{PartsTellOperators}
use Rattle.part_laws.specs.Operators.{AreCopiesOn, failed_of, on_free_tape_told, reclaim_told, repack_answer_told, retried_told, retried_with}
use Rattle.part_laws.proofs.ChoiceTold.{tells_mounts}
use Rattle.part_laws.proofs.CopiesTold.{items_are}

-- ---- tapes

-- where the site has no such tape, both refuse it; and where it has, its row is that of the history
by_tape : (site : Site) (tape : ℕ) (a b : Answer) → (tape < length site.tapes.items → a ≡ b) → refuse refusal.NoTape (nat_le (length site.tapes.items) tape) a ≡ refuse refusal.NoTape (nat_le (length site.tapes.items) tape) b
by_tape site tape a b same =
    elim (bool_cases (nat_le (length site.tapes.items) tape)) [
      | inl beyond ↦ (ap (λ (x : Bool). refuse refusal.NoTape x a) beyond ∙ sym (ap (λ (x : Bool). refuse refusal.NoTape x b) beyond))
      | inr there ↦ (let low : tape < length site.tapes.items = grind arith in ap (refuse refusal.NoTape (nat_le (length site.tapes.items) tape)) (same low))
    ]

free_is : (site : Site) (h : History) (v : AllParts) → Stands site h v → (tape : ℕ) (a b : Answer) → a ≡ b → on_free_tape site h tape a ≡ on_free_tape_told site v tape b
free_is site h v s tape a b same =
    by_tape site tape _ _ (λ low.
    ap (λ (x : Answer). refuse refusal.TapeMounted (is_mounted h tape) (refuse refusal.TapeBroken (is_broken (tape_state site h tape)) x)) same
    ∙ ap (λ (x : Bool). refuse refusal.TapeMounted x (refuse refusal.TapeBroken (is_broken (tape_state site h tape)) b)) (sym ((tells_mounts site h v s).mounts tape))
    ∙ ap (λ (r : TapeRow). refuse refusal.TapeMounted (has_tape tape v.mounts) (refuse refusal.TapeBroken (is_broken r.state) b)) (sym (s.space.tapes.rows tape low)))

none_is : (xs : List Item) → is_empty xs ≡ (length xs == 0)
none_is [] = refl
none_is (x ∷ xs) = (let other : (suc (length xs) == 0) ≡ false = grind arith in sym other)

reclaim_is : (site : Site) (h : History) (v : AllParts) → IsLegal site h → Stands site h v → (tape : ℕ) → reclaim_answer site h tape ≡ reclaim_told site v tape
reclaim_is site h v legal s tape =
    free_is site h v s tape _ _
    (ap (λ (b : Bool). refuse refusal.LiveFiles (not b) answer.Done) (none_is (live_items_on h tape))
    ∙ ap (λ (n : ℕ). refuse refusal.LiveFiles (not (n == 0)) answer.Done) (sym (live_is site h v.space.tapes tape legal s.space.tapes)))

repack_is : (site : Site) (h : History) (v : AllParts) → IsLegal site h → Stands site h v → (tape : ℕ) (ps : List Placed) → AreCopiesOn v.space.tapes tape ps
    → repack_answer site h tape ≡ repack_answer_told site v (next_number h) tape ps
repack_is site h v legal s tape ps are =
    by_tape site tape _ _ (λ low.
    ap (λ (r : TapeRow). refuse refusal.NotRepacking (not (may_be_repacked r.state)) (refuse refusal.RepackLive (is_repack_live site h tape) (answer.Repacking (next_number h) (rows (repack_items h tape))))) (sym (s.space.tapes.rows tape low))
    ∙ ap (λ (b : Bool). refuse refusal.NotRepacking (not (may_be_repacked (row_in v.space.tapes tape).state)) (refuse refusal.RepackLive b (answer.Repacking (next_number h) (rows (repack_items h tape))))) (sym (repacks_tell_live site h v.space.repacks tape s.space.repacks))
    ∙ ap (λ (js : List Job). refuse refusal.NotRepacking (not (may_be_repacked (row_in v.space.tapes tape).state)) (refuse refusal.RepackLive (is_live_in v.space.repacks tape) (answer.Repacking (next_number h) (rows js)))) (sym (items_are site h v.space.tapes tape ps legal s.space.tapes are)))

-- ---- failed copies

-- the numbers where the test holds, and none otherwise
abbrev kept_if : Bool → List ℕ → List ℕ
kept_if true cs = cs
kept_if false cs = []

none_kept : (b : Bool) → [] ≡ kept_if b []
none_kept true = refl
none_kept false = refl

of_one : (f g : ℕ) (cs : List ℕ) → failed_of f (map (job_of 0 g) cs) ≡ kept_if (g == f) cs
of_one f g [] = none_kept (g == f)
of_one f g (c ∷ cs) =
    elim (bool_cases (g == f)) [
      | inl hit ↦ rw hit (ap (λ (xs : List ℕ). c ∷ xs) (of_one f g cs ∙ rw hit refl))
      | inr miss ↦ rw miss (of_one f g cs ∙ rw miss refl)
    ]

of_both : (f : ℕ) (xs ys : List Job) → failed_of f (xs ++ ys) ≡ failed_of f xs ++ failed_of f ys
of_both f [] ys = refl
of_both f (x ∷ xs) ys =
    elim (bool_cases (x.file == f)) [ inl hit ↦ rw hit (ap (λ (cs : List ℕ). x.copy ∷ cs) (of_both f xs ys)) | inr miss ↦ rw miss (of_both f xs ys) ]

-- the copies of files from a on have none of an earlier file
of_later : (site : Site) (h : History) (test : ℕ → Bool) (f a n : ℕ) → f < a → failed_of f (flat_map (λ g. map (job_of 0 g) (failed_numbers site h g)) (filter test (range_with_len a n))) ≡ []
of_later site h test f a zero low = refl
of_later site h test f a (suc n) low =
    elim (bool_cases (test a)) [
      | inl keep ↦
          rw keep (of_both f (map (job_of 0 a) (failed_numbers site h a)) _
          ∙ ap (λ (cs : List ℕ). cs ++ failed_of f (flat_map (λ g. map (job_of 0 g) (failed_numbers site h g)) (filter test (range_with_len (a + 1) n)))) (of_one f a (failed_numbers site h a) ∙ ap (λ (b : Bool). kept_if b (failed_numbers site h a)) other)
          ∙ of_later site h test f (a + 1) n (omega arith))
      | inr out ↦ rw out (of_later site h test f (a + 1) n (omega arith))
    ]
  where
    other : (a == f) ≡ false
    other = grind arith

of_range : (site : Site) (h : History) (test : ℕ → Bool) (f a n : ℕ) → a ≤ f → f < a + n → test f ≡ true
    → failed_of f (flat_map (λ g. map (job_of 0 g) (failed_numbers site h g)) (filter test (range_with_len a n))) ≡ failed_numbers site h f
of_range site h test f a zero low high keep = absurd (omega arith)
of_range site h test f a (suc n) low high keep =
    elim (bool_cases (a == f)) [
      | inl hit ↦
          (let same : a ≡ f = eqb-true a f hit in
          let here : test a ≡ true = subst (λ (x : ℕ). test x ≡ true) (sym same) keep in
          rw here (of_both f (map (job_of 0 a) (failed_numbers site h a)) _
          ∙ ap (λ (cs : List ℕ). cs ++ failed_of f (flat_map (λ g. map (job_of 0 g) (failed_numbers site h g)) (filter test (range_with_len (a + 1) n)))) (of_one f a (failed_numbers site h a) ∙ ap (λ (b : Bool). kept_if b (failed_numbers site h a)) hit)
          ∙ ap (λ (cs : List ℕ). failed_numbers site h a ++ cs) (of_later site h test f (a + 1) n (omega arith))
          ∙ no_more (failed_numbers site h a)
          ∙ ap (failed_numbers site h) same))
      | inr miss ↦
          (let above : a + 1 ≤ f = grind arith in
          elim (bool_cases (test a)) [
            | inl here ↦
                rw here (of_both f (map (job_of 0 a) (failed_numbers site h a)) _
                ∙ ap (λ (cs : List ℕ). cs ++ failed_of f (flat_map (λ g. map (job_of 0 g) (failed_numbers site h g)) (filter test (range_with_len (a + 1) n)))) (of_one f a (failed_numbers site h a) ∙ ap (λ (b : Bool). kept_if b (failed_numbers site h a)) miss)
                ∙ of_range site h test f (a + 1) n above (omega arith) keep)
            | inr out ↦ rw out (of_range site h test f (a + 1) n above (omega arith) keep)
          ])
    ]
  where
    no_more : (xs : List ℕ) → xs ++ [] ≡ xs
    no_more [] = refl
    no_more (x ∷ xs) = ap (λ (ys : List ℕ). x ∷ ys) (no_more xs)

file_failed : (site : Site) (h : History) (v : AllParts) → Stands site h v → (p : List ℕ) (f : ℕ) → live_file h p ≡ Some f → failed_of f v.failed ≡ failed_numbers site h f
file_failed site h v s p f named =
    let range : (1 ≤ f) × (f ≤ length h) = named_range h p f named in
    ap (failed_of f) s.failed ∙ of_range site h (is_live h) f 1 (length h) range.0 (omega arith) (named_live h p f named)

retried_file_is : (site : Site) (h : History) (v : AllParts) → Stands site h v → (p : List ℕ) (o : Option ℕ) → live_file h p ≡ o → retried_file site h o ≡ retried_with (next_number h) v.failed o
retried_file_is site h v s p None named = refl
retried_file_is site h v s p (Some f) named = ap (map (job_of (next_number h) f)) (sym (file_failed site h v s p f named))

retried_are : (site : Site) (h : History) (v : AllParts) → Stands site h v → (seen ps : List (List ℕ)) → retried_jobs site h seen ps ≡ retried_told v.space.names v.failed (next_number h) seen ps
retried_are site h v s seen [] = refl
retried_are site h v s seen (p ∷ ps) =
    elim (bool_cases (has_text p seen)) [
      | inl again ↦ rw again (retried_are site h v s seen ps)
      | inr new ↦
          rw new (ap (λ (js : List Job). js ++ retried_jobs site h (p ∷ seen) ps) (retried_file_is site h v s p (live_file h p) refl ∙ ap (retried_with (next_number h) v.failed) (sym (s.space.names p)))
          ∙ ap (λ (js : List Job). retried_with (next_number h) v.failed (file_in v.space.names p) ++ js) (retried_are site h v s (p ∷ seen) ps))
    ]

named_are : (site : Site) (h : History) (v : AllParts) → Stands site h v → (ps : List (List ℕ)) → list_any (λ p. is_none (live_file h p)) ps ≡ list_any (λ p. is_none (file_in v.space.names p)) ps
named_are site h v s [] = refl
named_are site h v s (p ∷ ps) = rw (s.space.names p) (rw (named_are site h v s ps) refl)

pub parts_tell_operators : PartsTellOperators
parts_tell_operators site h v legal s = record {
  state = λ tape. free_is site h v s tape answer.Done answer.Done refl;
  reclaim = reclaim_is site h v legal s;
  repack = repack_is site h v legal s;
  retry = λ paths.
      ap (λ (b : Bool). refuse refusal.NoFile b (answer.Retried (rows (retried_jobs site h [] paths)))) (named_are site h v s paths)
      ∙ ap (λ (js : List Job). refuse refusal.NoFile (list_any (λ p. is_none (file_in v.space.names p)) paths) (answer.Retried (rows js))) (retried_are site h v s [] paths);
}
