-- Flags that are set, one by one, and what they say.
use Rattle.std.proofs.Common.{◌≡◌, ◌∙◌, ◌+◌, ◌<◌, ℕ, List, [], ◌∷◌, ◌++◌, length, Bool, refl, sym, ap, subst, take}
use Rattle.std.specs.Prelude.{get_or}
use Rattle.std.proofs.lemmas.List.{map-append, take_more}
use Rattle.cta_model.specs.declared.asks.Job.{Job}
use Rattle.cta_laws.proofs.Claims.{AllOf}
use Rattle.part_model.specs.Held.{Held, HeldAgree, set_all, set_safe}
use Rattle.part_laws.proofs.SameBuffers.{buffer_calls_agree}
use Rattle.part_moves.specs.Flags.{job_files}

-- buffers that agree with one another agree
pub held_chain : (a b c : Held) → HeldAgree a b → HeldAgree b c → HeldAgree a c
held_chain a b c x y = record { size = x.size ∙ y.size; files = x.files ∙ y.files; aside = x.aside ∙ y.aside; pins = λ t f id. x.pins t f id ∙ y.pins t f id }

pub held_self : (a : Held) → HeldAgree a a
held_self a = record { size = refl; files = refl; aside = refl; pins = λ t f id. refl }

set_more : (safe : ℕ → Bool) (fs : List ℕ) (f : ℕ) (v : Held) → set_safe (set_all safe fs v) f (safe f) ≡ set_all safe (fs ++ f ∷ []) v
set_more safe [] f v = refl
set_more safe (g ∷ gs) f v = set_more safe gs f (set_safe v g (safe g))

-- one flag more is set
pub flag_more : (safe : ℕ → Bool) (jobs : List Job) (k : ℕ) (d : Job) (s : Bool) (a b c : Held) → k < length jobs → HeldAgree b (set_all safe (job_files (take k jobs)) a)
    → s ≡ safe (get_or jobs k d).file → HeldAgree c (set_safe b (get_or jobs k d).file s) → HeldAgree c (set_all safe (job_files (take (k + 1) jobs)) a)
flag_more safe jobs k d s a b c low before is call =
    subst (λ (fs : List ℕ). HeldAgree c (set_all safe fs a)) (sym (ap job_files (take_more jobs k d low) ∙ map-append (λ (j : Job). j.file) (take k jobs) (get_or jobs k d ∷ [])))
    (subst (λ (v : Held). HeldAgree c v) (set_more safe (job_files (take k jobs)) (get_or jobs k d).file a)
    (held_chain c (set_safe b (get_or jobs k d).file (safe (get_or jobs k d).file)) _ (subst (λ (x : Bool). HeldAgree c (set_safe b (get_or jobs k d).file x)) is call)
    ((buffer_calls_agree b (set_all safe (job_files (take k jobs)) a) before).flags (get_or jobs k d).file (safe (get_or jobs k d).file))))

-- one flag more of a loop that finds each by a count
pub flag_next : (test : ℕ → ℕ → Bool) (count : ℕ → ℕ) (jobs : List Job) (k : ℕ) (d : Job) (n : ℕ) (s : Bool) (a b c : Held) → k < length jobs → HeldAgree b (set_all (λ f. test f (count f)) (job_files (take k jobs)) a)
    → n ≡ count (get_or jobs k d).file → s ≡ test (get_or jobs k d).file n → HeldAgree c (set_safe b (get_or jobs k d).file s) → HeldAgree c (set_all (λ f. test f (count f)) (job_files (take (k + 1) jobs)) a)
flag_next test count jobs k d n s a b c low before counted is call = flag_more (λ f. test f (count f)) jobs k d s a b c low before (is ∙ ap (test (get_or jobs k d).file) counted) call

-- flags that are the same for these files are set the same
pub flags_same : (p q : ℕ → Bool) (fs : List ℕ) (v : Held) → AllOf (λ f. p f ≡ q f) fs → set_all p fs v ≡ set_all q fs v
flags_same p q [] v same = refl
flags_same p q (f ∷ fs) v same = ap (λ (b : Bool). set_all p fs (set_safe v f b)) same.0 ∙ flags_same p q fs (set_safe v f (q f)) same.1
