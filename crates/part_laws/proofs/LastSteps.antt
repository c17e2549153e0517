-- How an entry moves what a book says of past births and Claims; the rest of a book is told by live jobs, claims and charges.
use Rattle.std.proofs.Common.{◌≡◌, ◌∙◌, ℕ, zero, suc, ◌+◌, ◌≤◌, inl, inr, List, ◌∷◌, Bool, true, false, refl, sym, ap, arith, length}
use Rattle.std.specs.Prelude.{Option, Some, if◌then◌else◌}
use Rattle.std.proofs.lemmas.Bool.{eq-eqb}
use Rattle.cta_site.specs.declared.site.Site.{Site}
use Rattle.cta_model.specs.declared.entries.Entry.{Entry}
use Rattle.cta_model.specs.declared.asks.Ask.{Ask}
use Rattle.cta_model.specs.declared.asks.Ask.TheVariants as ask
use Rattle.cta_model.specs.declared.answers.Answer.{Answer}
use Rattle.cta_model.specs.declared.asks.Job.{Job}
use Rattle.cta_model.specs.History.{History, is_number}
use Rattle.cta_model.specs.Mounts.{claim_names, has_copy, job_of, was_claimed}
use Rattle.cta_model.specs.Jobs.{live_birth, may_bear}
use Rattle.cta_laws.proofs.EndLaw.{live_before}
use Rattle.cta_laws.proofs.OnceLaw.{birth_in}
use Rattle.cta_laws.proofs.Tests.{bool_cases}
use Rattle.part_model.specs.JobBook.{Book, TellSame, bear_jobs}
use Rattle.part_laws.specs.QueueBooks.{book_of}
use Rattle.part_laws.specs.LastBirths.{last_birth}
use Rattle.part_laws.proofs.BirthSteps.{birth_said, none_born, born_said}

-- two books tell the same of live jobs, claims and charges
pub record TellLive (a b : Book) : Type 0 where
  pub recall : (f : ℕ) → a.recall f ≡ b.recall f
  pub archive : (f c : ℕ) → a.archive f (suc c) ≡ b.archive f (suc c)
  pub claimer : (j : Job) → a.claimer j ≡ b.claimer j
  pub charges : (j : Job) → a.charges j ≡ b.charges j

-- ---- the last births

not_yet : (site : Site) (h : History) (f c : ℕ) → is_number (length h + 1) (live_birth site h f c) ≡ false
not_yet site h f c =
    elim (bool_cases (is_number (length h + 1) (live_birth site h f c)))
    [ inl hit ↦ (let low : length h + 1 ≤ length h = live_before site h (job_of (length h + 1) f c) hit in absurd (omega arith)) | inr miss ↦ miss ]

-- whether an ask claims jobs
abbrev pub may_claim : Ask → Bool
may_claim (ask.Claim m) = true
may_claim _ = false

no_claim : (k : Ask) (a : Answer) (j : Job) → may_claim k ≡ false → claim_names k a j ≡ false
no_claim (ask.Claim m) a j e = absurd (cc)
no_claim _ a j e = refl

-- an entry that claims no job names none
pub named_stays : (h : History) (e : Entry) (j : Job) → may_claim e.ask ≡ false → was_claimed h j ≡ was_claimed (e ∷ h) j
named_stays h e j c = (let none : claim_names e.ask e.answer j ≡ false = no_claim e.ask e.answer j c in sym (rw none refl))

last_if : (t u : Bool) (n : ℕ) (o : Option ℕ) → t ≡ u → (if t then Some n else o) ≡ (if u then Some n else o)
last_if t u n o e = ap (λ (b : Bool). if b then Some n else o) e

-- a book of the history before tells all of the one behind an entry that bears no job, where it tells of live jobs, claims and charges
pub stays_by : (site : Site) (h : History) (e : Entry) (x : Book) → TellLive x (book_of site (e ∷ h)) → ((f c : ℕ) → x.last_birth f c ≡ last_birth site h f c) → ((j : Job) → x.named j ≡ was_claimed (e ∷ h) j)
    → ((f c : ℕ) → is_number (length h + 1) (live_birth site (e ∷ h) f c) ≡ false) → TellSame x (book_of site (e ∷ h))
stays_by site h e x live last named none = record {
  recall = live.recall;
  archive = live.archive;
  claimer = live.claimer;
  charges = live.charges;
  last_birth = λ f c. last f c ∙ sym (last_if _ false (length h + 1) (last_birth site h f c) (none f c));
  named = named;
}

-- an entry by which no job may be born bears none
pub none_new : (site : Site) (h : History) (e : Entry) (f c : ℕ) → may_bear e.ask ≡ false → is_number (length h + 1) (live_birth site (e ∷ h) f c) ≡ false
none_new site h e f c bears =
    elim (bool_cases (is_number (length h + 1) (live_birth site (e ∷ h) f c)))
    [ inl hit ↦ (let was : is_number (length h + 1) (live_birth site h f c) ≡ true = none_born site h e bears (job_of (length h + 1) f c) hit in let not : is_number (length h + 1) (live_birth site h f c) ≡ false = not_yet site h f c in absurd (cc)) | inr miss ↦ miss ]

-- nor does one behind which the same jobs are live
pub same_births : (site : Site) (h : History) (e : Entry) (f c : ℕ) → live_birth site (e ∷ h) f c ≡ live_birth site h f c → is_number (length h + 1) (live_birth site (e ∷ h) f c) ≡ false
same_births site h e f c same = ap (is_number (length h + 1)) same ∙ not_yet site h f c

-- ---- entries that bear

told_live : (site : Site) (h : History) (b : Book) → TellLive b (book_of site h) → (f c : ℕ) → birth_said b f c ≡ live_birth site h f c
told_live site h b same f zero = ap birth_in (same.recall f)
told_live site h b same f (suc c) = same.archive f c

born_in : (js : List Job) (n : ℕ) (b : Book) (f c : ℕ) → birth_said (bear_jobs js n b) f c ≡ (if has_copy f c js then Some n else birth_said b f c)
born_in js n b f zero = born_said (has_copy f 0 js) n (b.recall f)
born_in js n b f (suc c) = refl

-- the same for an entry that bears jobs into a book in which its number is no birth
pub bears_by : (site : Site) (h : History) (e : Entry) (births : List Job) (x : Book) → TellLive (bear_jobs births (length h + 1) x) (book_of site (e ∷ h)) → ((f c : ℕ) → x.last_birth f c ≡ last_birth site h f c) → ((j : Job) → x.named j ≡ was_claimed (e ∷ h) j)
    → ((f c : ℕ) → is_number (length h + 1) (birth_said x f c) ≡ false) → TellSame (bear_jobs births (length h + 1) x) (book_of site (e ∷ h))
bears_by site h e births x live last named none = record {
  recall = live.recall;
  archive = live.archive;
  claimer = live.claimer;
  charges = live.charges;
  last_birth = λ f c. ap (λ (o : Option ℕ). if has_copy f c births then Some (length h + 1) else o) (last f c)
      ∙ last_if (has_copy f c births) (is_number (length h + 1) (live_birth site (e ∷ h) f c)) (length h + 1) (last_birth site h f c) (sym (new f c));
  named = named;
}
  where
    by : (t : Bool) (o : Option ℕ) → is_number (length h + 1) o ≡ false → is_number (length h + 1) (if t then Some (length h + 1) else o) ≡ t
    by true o d = eq-eqb (length h + 1) (length h + 1) refl
    by false o d = d

    new : (f c : ℕ) → is_number (length h + 1) (live_birth site (e ∷ h) f c) ≡ has_copy f c births
    new f c =
        ap (is_number (length h + 1)) (sym (told_live site (e ∷ h) (bear_jobs births (length h + 1) x) live f c) ∙ born_in births (length h + 1) x f c)
        ∙ by (has_copy f c births) (birth_said x f c) (none f c)

-- the number of an entry is no birth in the book of the history before
pub none_said : (site : Site) (h : History) (f c : ℕ) → is_number (length h + 1) (birth_said (book_of site h) f c) ≡ false
none_said site h f zero = not_yet site h f zero
none_said site h f (suc c) = not_yet site h f (suc c)
