-- A Cancel moves the parts by the lists that a core makes.
use Rattle.std.proofs.Common.{◌≡◌, ◌∙◌, ℕ, suc, inl, inr, List, [], ◌∷◌, Bool, true, false, ◌&&◌, ◌||◌, refl, sym, ap, subst, arith}
use Rattle.std.specs.Prelude.{Option, Some, None, is_none, if◌then◌else◌, ◌==◌, bytes_eq}
use Rattle.std.proofs.lemmas.Bool.{eqb-true}
use Rattle.std.proofs.lemmas.Slice.Eq.{bytes_eq-Decides}
use Rattle.cta_site.specs.declared.site.Site.{Site}
use Rattle.cta_site.specs.Listed.{Listed}
use Rattle.cta_model.specs.declared.entries.Entry.{Entry}
use Rattle.cta_model.specs.declared.asks.Who.{Who}
use Rattle.cta_model.specs.History.{History, is_number, has_number, has_text}
use Rattle.cta_model.specs.Files.{live_file, is_live, path_of}
use Rattle.cta_model.specs.Mounts.{has_job, same_job, job_of}
use Rattle.cta_model.specs.Recalls.{Recall, live_recall, recall_job, unsubscribed}
use Rattle.cta_model.specs.Legal.{IsLegal}
use Rattle.cta_laws.proofs.Tests.{bool_cases}
use Rattle.cta_laws.proofs.ResidentLaw.{recall_live}
use Rattle.cta_model.specs.declared.asks.Ask.TheVariants as ask
use Rattle.cta_laws.proofs.JobFiles.{live_path}
use Rattle.cta_laws.proofs.Bools.{same_bool}
use Rattle.part_laws.specs.Ends.{file_before, last_of, last_recalls, named_files}
use Rattle.part_laws.proofs.Births.{has_both}
use Rattle.part_laws.specs.RecallParts.{AreLast, after_unsubscribed}
use Rattle.part_laws.specs.JobParts.{JobParts, JobPartsStand}
use Rattle.part_laws.proofs.ReadParts.{parts_cancel}

pub number_some : (f : ℕ) (o : Option ℕ) → is_number f o ≡ true → o ≡ Some f
number_some f None e = absurd (cc)
number_some f (Some g) e = ap (λ (n : ℕ). Some n) (sym (eqb-true f g e))

-- a live file is named by a path exactly where the path is its own
named_by : (h : History) (f : ℕ) (p : List ℕ) → is_live h f ≡ true → is_number f (live_file h p) ≡ bytes_eq (path_of h f) p
named_by h f p live = same_bool (is_number f (live_file h p)) (bytes_eq (path_of h f) p)
    (λ e. (bytes_eq-Decides (path_of h f) p).1 (live_path h p f (number_some f (live_file h p) e)))
    (λ e. subst (λ (q : List ℕ). is_number f (live_file h q) ≡ true) ((bytes_eq-Decides (path_of h f) p).0 e) live)

has_before : (f : ℕ) (o : Option ℕ) (fs : List ℕ) → has_number f (file_before o fs) ≡ (is_number f o || has_number f fs)
has_before f None fs = refl
has_before f (Some g) fs = refl

pub named_has : (h : History) (f : ℕ) (ps : List (List ℕ)) → is_live h f ≡ true → has_number f (named_files h ps) ≡ has_text (path_of h f) ps
named_has h f [] live = refl
named_has h f (p ∷ ps) live = has_before f (live_file h p) (named_files h ps) ∙ ap (λ (b : Bool). b || has_number f (named_files h ps)) (named_by h f p live) ∙ ap (λ (b : Bool). bytes_eq (path_of h f) p || b) (named_has h f ps live)

last_copy : (id f b g c : ℕ) (o : Option Recall) → has_job (job_of b f (suc c)) (last_of id g o) ≡ false
last_copy id f b g c None = refl
last_copy id f b g c (Some r) = elim (is_none (unsubscribed id r)) as (λ t. has_job (job_of b f (suc c)) (if t then recall_job r.birth g ∷ [] else []) ≡ false) [ true ↦ miss | false ↦ refl ]
  where
    miss : (same_job (job_of b f (suc c)) (recall_job r.birth g) || false) ≡ false
    miss = elim (bool_cases (same_job (job_of b f (suc c)) (recall_job r.birth g))) [ inl hit ↦ absurd (grind arith) | inr d ↦ rw d refl ]

last_hit : (id f b : ℕ) (r : Recall) → has_job (job_of b f 0) (last_of id f (Some r)) ≡ ((b == r.birth) && is_none (unsubscribed id r))
last_hit id f b r = by (is_none (unsubscribed id r))
  where
    by : (t : Bool) → has_job (job_of b f 0) (if t then recall_job r.birth f ∷ [] else []) ≡ ((b == r.birth) && t)
    by true = same_bool (same_job (job_of b f 0) (recall_job r.birth f) || false) ((b == r.birth) && true) (λ e. grind arith) (λ e. grind arith)
    by false = none (b == r.birth)
      where
        none : (x : Bool) → false ≡ (x && false)
        none true = refl
        none false = refl

last_other : (id f b g : ℕ) (o : Option Recall) → (f == g) ≡ false → has_job (job_of b f 0) (last_of id g o) ≡ false
last_other id f b g None d = refl
last_other id f b g (Some r) d = elim (is_none (unsubscribed id r)) as (λ t. has_job (job_of b f 0) (if t then recall_job r.birth g ∷ [] else []) ≡ false) [ true ↦ miss | false ↦ refl ]
  where
    miss : (same_job (job_of b f 0) (recall_job r.birth g) || false) ≡ false
    miss = elim (bool_cases (same_job (job_of b f 0) (recall_job r.birth g))) [ inl hit ↦ absurd (grind arith) | inr d ↦ rw d refl ]

last_has : (site : Site) (h : History) (id f b : ℕ) (r : Recall) (fs : List ℕ) → live_recall site h f ≡ Some r → has_job (job_of b f 0) (last_recalls site h id fs) ≡ ((b == r.birth) && (has_number f fs && is_none (unsubscribed id r)))
last_has site h id f b r [] is = none (b == r.birth)
  where
    none : (x : Bool) → false ≡ (x && false)
    none true = refl
    none false = refl
last_has site h id f b r (g ∷ fs) is =
    has_both (job_of b f 0) (last_of id g (live_recall site h g)) (last_recalls site h id fs)
    ∙ ap (λ (t : Bool). has_job (job_of b f 0) (last_of id g (live_recall site h g)) || t) (last_has site h id f b r fs is)
    ∙ elim (bool_cases (f == g)) [
      | inl hit ↦
          (let here : has_job (job_of b f 0) (last_of id g (live_recall site h g)) ≡ ((b == r.birth) && is_none (unsubscribed id r)) =
          subst (λ (n : ℕ). has_job (job_of b f 0) (last_of id n (live_recall site h n)) ≡ ((b == r.birth) && is_none (unsubscribed id r))) (eqb-true f g hit) (ap (λ (o : Option Recall). has_job (job_of b f 0) (last_of id f o)) is ∙ last_hit id f b r) in
          rw (here, hit) (absorb (b == r.birth) (is_none (unsubscribed id r)) (has_number f fs)))
      | inr miss ↦ rw (last_other id f b g (live_recall site h g) miss, miss) refl
    ]
  where
    absorb : (x n m : Bool) → ((x && n) || (x && (m && n))) ≡ (x && (true && n))
    absorb true true m = refl
    absorb true false true = refl
    absorb true false false = refl
    absorb false n m = refl

last_no_copy : (site : Site) (h : History) (id f b c : ℕ) (fs : List ℕ) → has_job (job_of b f (suc c)) (last_recalls site h id fs) ≡ false
last_no_copy site h id f b c [] = refl
last_no_copy site h id f b c (g ∷ fs) = has_both (job_of b f (suc c)) (last_of id g (live_recall site h g)) (last_recalls site h id fs) ∙ rw (last_copy id f b g c (live_recall site h g), last_no_copy site h id f b c fs) refl

pub last_are : (site : Site) (h : History) (id : ℕ) (files : List ℕ) → AreLast site h id files (last_recalls site h id files)
last_are site h id files = record { recalls = λ f b r is. last_has site h id f b r files is; no_archive_job = λ f b c. last_no_copy site h id f b c files }

-- a Cancel moves the parts by the files that its paths name
pub parts_cancel_by : (site : Site) (h : History) (e : Entry) (who : Who) (id : ℕ) (paths : Listed (List ℕ)) (p : JobParts) → IsLegal site (e ∷ h) → e.ask ≡ ask.Cancel who id paths
    → JobPartsStand site h p → JobPartsStand site (e ∷ h) (after_unsubscribed id (named_files h paths.items) (last_recalls site h id (named_files h paths.items)) p)
parts_cancel_by site h e who id paths p legal ek s =
    parts_cancel site h e who id paths (named_files h paths.items) (last_recalls site h id (named_files h paths.items)) p legal ek (λ f on. named_has h f paths.items (recall_live site h legal.0 f on)) (last_are site h id (named_files h paths.items)) s
