-- Births, joins, pins and items that are WRITING, one by one.
use Rattle.std.proofs.Common.{◌≡◌, ◌∙◌, ◌+◌, ◌-◌, ◌≤◌, ◌<◌, ℕ, zero, suc, List, [], ◌∷◌, ◌++◌, Bool, true, false, ◌||◌, refl, sym, ap, subst, length, take, drop}
use Rattle.std.specs.Prelude.{Option, Some, option_map, ◌==◌, ◌&&◌, if◌then◌else◌, get_or, slice_index_or}
use Rattle.std.proofs.lemmas.Bool.{eqb-true}
use Rattle.std.proofs.lemmas.List.{take_more}
use Rattle.std.proofs.Math.Seq.{drop-length}
use Rattle.cta_model.specs.declared.asks.Job.{Job}
use Rattle.cta_model.specs.declared.reports.ItemState.TheVariants as item
use Rattle.cta_model.specs.History.{has_number}
use Rattle.cta_model.specs.Mounts.{has_copy, job_of}
use Rattle.cta_model.specs.Recalls.{Recall, subscribed}
use Rattle.part_model.specs.Held.{Held, HeldAgree, pin, pin_all, set_all, set_safe}
use Rattle.part_model.specs.JobBook.{Book, TellSame, bear_jobs, subscribe_files}
use Rattle.part_model.specs.Repacks.{Repacks, RepacksAgree, Target, repack_in, set_state, set_states}
use Rattle.part_laws.proofs.SameBooks.{repack_calls_agree}
use Rattle.part_laws.proofs.SameBuffers.{buffer_calls_agree}
use Rattle.fault_asks.proofs.FailedLists.{behind}
use Rattle.part_moves.proofs.Marks.{held_chain, held_self}
use Rattle.tape_asks.specs.Lists.{AreOnce, pins_of, targets_of}
use Rattle.part_moves.proofs.ItemsLeft.{states_both}

-- ---- joins

once_drop : (n : ℕ) (fs : List ℕ) → AreOnce fs → AreOnce (drop n fs)
once_drop zero fs once = once
once_drop (suc n) [] once = once
once_drop (suc n) (f ∷ fs) once = once_drop n fs once.1

joined_first : (n f : ℕ) (fs : List ℕ) (old mid new : Book) → AreOnce (f ∷ fs) → TellSame mid (subscribe_files fs n old) → TellSame new (subscribe_files (f ∷ []) n mid) → TellSame new (subscribe_files (f ∷ fs) n old)
joined_first n f fs old mid new once others first =
    record {
      recall = λ g. first.recall g ∙ ap (λ (o : Option Recall). if (g == f) || false then option_map (subscribed true n) o else o) (others.recall g) ∙ by g (g == f) refl;
      archive = λ g c. first.archive g c ∙ others.archive g c;
      claimer = λ j. first.claimer j ∙ others.claimer j;
      charges = λ j. first.charges j ∙ others.charges j;
      last_birth = λ g c. first.last_birth g c ∙ others.last_birth g c;
      named = λ j. first.named j ∙ others.named j;
    }
  where
    by : (g : ℕ) (a : Bool) → (g == f) ≡ a
        → (if a || false then option_map (subscribed true n) (if has_number g fs then option_map (subscribed true n) (old.recall g) else old.recall g) else (if has_number g fs then option_map (subscribed true n) (old.recall g) else old.recall g))
        ≡ (if a || has_number g fs then option_map (subscribed true n) (old.recall g) else old.recall g)
    by g true is =
        (let away : has_number g fs ≡ false = ap (λ (m : ℕ). has_number m fs) (eqb-true g f is) ∙ once.0 in
        ap (λ (b : Bool). option_map (subscribed true n) (if b then option_map (subscribed true n) (old.recall g) else old.recall g)) away)
    by g false is = refl

pub back_joined : (n i d : ℕ) (fs : List ℕ) (old mid new : Book) → 0 < i → i ≤ length fs → AreOnce fs → TellSame mid (subscribe_files (drop i fs) n old) → TellSame new (subscribe_files (slice_index_or fs (i - 1) d ∷ []) n mid)
    → TellSame new (subscribe_files (drop (i - 1) fs) n old)
back_joined n i d fs old mid new some top once others first =
    let is = behind fs i d some top in
    subst (λ (gs : List ℕ). TellSame new (subscribe_files gs n old)) (sym is) (joined_first n (slice_index_or fs (i - 1) d) (drop i fs) old mid new (subst AreOnce is (once_drop (i - 1) fs once)) others first)

pub joined_none : (n : ℕ) (fs : List ℕ) (b : Book) → TellSame b (subscribe_files (drop (length fs) fs) n b)
joined_none n fs b = subst (λ (gs : List ℕ). TellSame b (subscribe_files gs n b)) (sym (drop-length fs)) (record { recall = λ f. refl; archive = λ f c. refl; claimer = λ j. refl; charges = λ j. refl; last_birth = λ f c. refl; named = λ j. refl })

-- ---- births

one_first : {A : Type 0} (a b : Bool) (x y : A) → (if a || false then x else (if b then x else y)) ≡ (if a || b then x else y)
one_first true b x y = refl
one_first false b x y = refl

born_first : (n : ℕ) (j : Job) (js : List Job) (old mid new : Book) → TellSame mid (bear_jobs js n old) → TellSame new (bear_jobs (job_of n j.file j.copy ∷ []) n mid) → TellSame new (bear_jobs (j ∷ js) n old)
born_first n j js old mid new others first =
    record {
      recall = λ f. first.recall f ∙ ap (λ (o : Option Recall). if (j.file == f && j.copy == 0) || false then Some (record { birth = n; waiting = n ∷ [] }) else o) (others.recall f)
          ∙ one_first (j.file == f && j.copy == 0) (has_copy f 0 js) (Some (record { birth = n; waiting = n ∷ [] })) (old.recall f);
      archive = λ f c. first.archive f c ∙ ap (λ (o : Option ℕ). if (j.file == f && j.copy == suc c) || false then Some n else o) (others.archive f c) ∙ one_first (j.file == f && j.copy == suc c) (has_copy f (suc c) js) (Some n) (old.archive f (suc c));
      claimer = λ i. first.claimer i ∙ others.claimer i;
      charges = λ i. first.charges i ∙ others.charges i;
      last_birth = λ f c. first.last_birth f c ∙ ap (λ (o : Option ℕ). if (j.file == f && j.copy == c) || false then Some n else o) (others.last_birth f c) ∙ one_first (j.file == f && j.copy == c) (has_copy f c js) (Some n) (old.last_birth f c);
      named = λ i. first.named i ∙ others.named i;
    }

pub back_born : (n i : ℕ) (d : Job) (js : List Job) (old mid new : Book) → 0 < i → i ≤ length js → TellSame mid (bear_jobs (drop i js) n old)
    → TellSame new (bear_jobs (job_of n (slice_index_or js (i - 1) d).file (slice_index_or js (i - 1) d).copy ∷ []) n mid) → TellSame new (bear_jobs (drop (i - 1) js) n old)
back_born n i d js old mid new some top others first =
    subst (λ (ks : List Job). TellSame new (bear_jobs ks n old)) (sym (behind js i d some top)) (born_first n (slice_index_or js (i - 1) d) (drop i js) old mid new others first)

pub born_none : (n : ℕ) (js : List Job) (b : Book) → TellSame b (bear_jobs (drop (length js) js) n b)
born_none n js b = subst (λ (ks : List Job). TellSame b (bear_jobs ks n b)) (sym (drop-length js)) (record { recall = λ f. refl; archive = λ f c. refl; claimer = λ j. refl; charges = λ j. refl; last_birth = λ f c. refl; named = λ j. refl })

-- ---- pins

pinned_first : (n : ℕ) (j : Job) (js : List Job) (old mid new : Held) → HeldAgree mid (pin_all (pins_of n js) old) → HeldAgree new (pin mid j.file n 18446744073709551615) → HeldAgree new (pin_all (pins_of n (j ∷ js)) old)
pinned_first n j js old mid new others first =
    held_chain new (pin mid j.file n 18446744073709551615) (pin_all (pins_of n (j ∷ js)) old) first ((buffer_calls_agree mid (pin_all (pins_of n js) old) others).sets j.file n 18446744073709551615)

pub back_pinned : (n i : ℕ) (d : Job) (js : List Job) (old mid new : Held) → 0 < i → i ≤ length js → HeldAgree mid (pin_all (pins_of n (drop i js)) old) → HeldAgree new (pin mid (slice_index_or js (i - 1) d).file n 18446744073709551615)
    → HeldAgree new (pin_all (pins_of n (drop (i - 1) js)) old)
back_pinned n i d js old mid new some top others first =
    subst (λ (ks : List Job). HeldAgree new (pin_all (pins_of n ks) old)) (sym (behind js i d some top)) (pinned_first n (slice_index_or js (i - 1) d) (drop i js) old mid new others first)

pub pinned_none : (n : ℕ) (js : List Job) (b : Held) → HeldAgree b (pin_all (pins_of n (drop (length js) js)) b)
pinned_none n js b = subst (λ (ks : List Job). HeldAgree b (pin_all (pins_of n ks) b)) (sym (drop-length js)) (held_self b)

-- flags that are set on buffers that tell the same
pub flags_same : (safe : ℕ → Bool) (fs : List ℕ) (v w : Held) → HeldAgree v w → HeldAgree (set_all safe fs v) (set_all safe fs w)
flags_same safe [] v w same = same
flags_same safe (f ∷ fs) v w same = flags_same safe fs (set_safe v f (safe f)) (set_safe w f (safe f)) ((buffer_calls_agree v w same).flags f (safe f))

-- ---- items

targets_last : (n : ℕ) (js : List Job) (j : Job) → targets_of n (js ++ j ∷ []) ≡ targets_of n js ++ (n, j.file, j.copy) ∷ []
targets_last n [] j = refl
targets_last n (k ∷ js) j = ap (λ (ts : List Target). (n, k.file, k.copy) ∷ ts) (targets_last n js j)

pub written_more : (n : ℕ) (js : List Job) (i : ℕ) (d : Job) (v u w : Repacks) → i < length js → RepacksAgree u (set_states item.Writing (targets_of n (take i js)) v) → RepacksAgree w (set_state n (get_or js i d).file (get_or js i d).copy item.Writing u)
    → RepacksAgree w (set_states item.Writing (targets_of n (take (i + 1) js)) v)
written_more n js i d v u w low before now k =
    now k
    ∙ (repack_calls_agree u (set_states item.Writing (targets_of n (take i js)) v) before).set n (get_or js i d).file (get_or js i d).copy item.Writing k
    ∙ sym (ap (λ (ts : List Target). repack_in (set_states item.Writing ts v) k) (ap (targets_of n) (take_more js i d low) ∙ targets_last n (take i js) (get_or js i d))
    ∙ ap (λ (r : Repacks). repack_in r k) (states_both item.Writing (targets_of n (take i js)) ((n, (get_or js i d).file, (get_or js i d).copy) ∷ []) v))
