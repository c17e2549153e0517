-- How a Stage moves the parts.
use Rattle.std.proofs.Common.{◌≡◌, ◌∙◌, ℕ, zero, suc, ◌+◌, inl, inr, List, [], ◌∷◌, Bool, true, false, ◌&&◌, ◌||◌, not, refl, sym, ap, subst, arith, length}
use Rattle.std.specs.Prelude.{Option, Some, None, is_none, is_some, option_map, if◌then◌else◌, ◌==◌, filter}
use Rattle.std.proofs.lemmas.Bool.{and_parts, eqb-true, eq-eqb}
use Rattle.cta_site.specs.declared.site.Site.{Site}
use Rattle.cta_site.specs.Listed.{Listed}
use Rattle.cta_model.specs.declared.entries.Entry.{Entry}
use Rattle.cta_model.specs.declared.asks.Ask.{Ask}
use Rattle.cta_model.specs.declared.asks.Who.{Who}
use Rattle.cta_model.specs.declared.asks.Wanted.{Wanted}
use Rattle.cta_model.specs.declared.asks.Job.{Job}
use Rattle.cta_model.specs.History.{History, is_number, has_number, is_empty}
use Rattle.cta_model.specs.Files.{live_file}
use Rattle.cta_model.specs.Mounts.{has_job, same_job, has_copy}
use Rattle.cta_model.specs.Places.{places_of}
use Rattle.cta_model.specs.Buffer.{is_resident}
use Rattle.cta_model.specs.Recalls.{Recall, live_recall, names_file, waits_for, bears_recall, recall_job, subscribed}
use Rattle.cta_model.specs.Jobs.{live_birth}
use Rattle.cta_model.specs.Answers.{names_twice}
use Rattle.cta_model.specs.Legal.{IsLegal}
use Rattle.cta_laws.proofs.Tests.{bool_cases}
use Rattle.cta_laws.proofs.Claims.{AllOf}
use Rattle.cta_laws.proofs.OnceLaw.{birth_in}
use Rattle.cta_laws.proofs.Sums.{IsDistinct}
use Rattle.cta_model.specs.declared.asks.Ask.TheVariants as ask
use Rattle.cta_model.specs.declared.asks.Direction.TheVariants as direction
use Rattle.part_model.specs.JobBook.{Book, TellSame, bear_jobs, subscribe_files}
use Rattle.part_laws.proofs.PartSteps.{lines_add}
use Rattle.part_laws.specs.JobParts.{JobParts, JobPartsStand}
use Rattle.cta_laws.specs.Changes.{may_change_claims, may_change_keys, may_change_mounts}
use Rattle.part_laws.proofs.CountSteps.{counts_stay, passing_lacks}
use Rattle.part_laws.proofs.BirthSteps.{births_queue, births_told}
use Rattle.part_laws.specs.BirthParts.{after_births, after_stage}
use Rattle.part_laws.proofs.BookSteps.{bear_same, tell_chain}
use Rattle.part_laws.specs.QueueBooks.{book_of}
use Rattle.part_laws.specs.Births.{bearing, file_and, recalled, recalls_of, wanted_files}
use Rattle.cta_laws.proofs.Bools.{same_bool}
use Rattle.part_laws.proofs.BookMoves.{book_stage}

-- ---- births

pub subscribe_same : (files : List ℕ) (n : ℕ) (a b : Book) → TellSame a b → TellSame (subscribe_files files n a) (subscribe_files files n b)
subscribe_same files n a b x = record { recall = λ f. ap (λ (o : Option Recall). if has_number f files then option_map (subscribed true n) o else o) (x.recall f); archive = x.archive; claimer = x.claimer; charges = x.charges; last_birth = x.last_birth; named = x.named }

-- an entry that bears jobs and subscribes, and changes nothing else, moves the parts so
pub parts_births : (site : Site) (h : History) (e : Entry) (born : List Job) (files : List ℕ) (p : JobParts) → IsLegal site (e ∷ h)
    → TellSame (bear_jobs born (length h + 1) (subscribe_files files (length h + 1) (book_of site h))) (book_of site (e ∷ h))
    → AllOf (λ (j : Job). j.birth ≡ length h + 1) born → names_twice born ≡ false → ((f c : ℕ) → has_copy f c born ≡ true → live_birth site h f c ≡ None)
    → may_change_claims e.ask ≡ false → may_change_keys e.ask ≡ false → may_change_mounts e.ask ≡ false → JobPartsStand site h p → JobPartsStand site (e ∷ h) (after_births site (e ∷ h) born files p)
parts_births site h e born files p legal book births once new claims keys mounts s = record {
  book = subst (λ (n : ℕ). TellSame (bear_jobs born n (subscribe_files files n p.book)) (book_of site (e ∷ h))) longer
      (tell_chain _ _ _ (bear_same born (length h + 1) _ _ (subscribe_same files (length h + 1) p.book (book_of site h) s.book)) book);
  pools = lines_add site e h direction.Archive born p.pools (births_queue site h e born legal births once (births_told site h e born files book) new claims keys direction.Archive) s.pools;
  recalls = lines_add site e h direction.Retrieve born p.recalls (births_queue site h e born legal births once (births_told site h e born files book) new claims keys direction.Retrieve) s.recalls;
  counts = counts_stay site e h p.counts mounts s.counts;
}
  where
    longer : length h + 1 ≡ length (e ∷ h)
    longer = omega arith

-- ---- the files that a Stage names

wanted_has : (h : History) (ws : List Wanted) (seen : List ℕ) (f : ℕ) → has_number f (wanted_files h ws seen) ≡ (names_file h f ws && not (has_number f seen))
wanted_has h [] seen f = refl
wanted_has h (w ∷ ws) seen f = by (live_file h w.path) (λ s. wanted_has h ws s f)
  where
    drop : (x a b : Bool) → (x ≡ true → b ≡ false) → (a && b) ≡ ((x || a) && b)
    drop true true b f = refl
    drop true false b f = sym (f refl)
    drop false a b f = refl

    take : (x a b : Bool) → (x ≡ true → b ≡ false) → (x || (a && not (x || b))) ≡ ((x || a) && not b)
    take true a b f = sym (rw (f refl) refl)
    take false a b f = refl

    seen_one : (g : ℕ) → (f == g) ≡ true → has_number g seen ≡ true → has_number f seen ≡ true
    seen_one g hit there = subst (λ (n : ℕ). has_number n seen ≡ true) (sym (eqb-true f g hit)) there

    not_seen : (g : ℕ) → (f == g) ≡ true → has_number g seen ≡ false → has_number f seen ≡ false
    not_seen g hit d = subst (λ (n : ℕ). has_number n seen ≡ false) (sym (eqb-true f g hit)) d

    by : (o : Option ℕ) → ((s : List ℕ) → has_number f (wanted_files h ws s) ≡ (names_file h f ws && not (has_number f s))) → has_number f (file_and o seen (λ s. wanted_files h ws s)) ≡ ((is_number f o || names_file h f ws) && not (has_number f seen))
    by None rest = rest seen
    by (Some g) rest =
        elim (bool_cases (has_number g seen)) [
          | inl there ↦ rw there (rest seen ∙ drop (f == g) (names_file h f ws) (not (has_number f seen)) (λ hit. ap not (seen_one g hit there)))
          | inr new ↦ rw new (ap (λ (b : Bool). (f == g) || b) (rest (g ∷ seen)) ∙ take (f == g) (names_file h f ws) (has_number f seen) (λ hit. not_seen g hit new))
        ]

wanted_once : (h : History) (ws : List Wanted) (seen : List ℕ) → IsDistinct (wanted_files h ws seen)
wanted_once h [] seen = tt
wanted_once h (w ∷ ws) seen = by (live_file h w.path) (λ s. wanted_once h ws s)
  where
    none : (g : ℕ) → has_number g (wanted_files h ws (g ∷ seen)) ≡ false
    none g = wanted_has h ws (g ∷ seen) g ∙ rw (eq-eqb g g refl) (and_false (names_file h g ws))
      where
        and_false : (x : Bool) → (x && false) ≡ false
        and_false true = refl
        and_false false = refl

    by : (o : Option ℕ) → ((s : List ℕ) → IsDistinct (wanted_files h ws s)) → IsDistinct (file_and o seen (λ s. wanted_files h ws s))
    by None rest = rest seen
    by (Some g) rest = elim (has_number g seen) as (λ b. IsDistinct (if b then wanted_files h ws seen else g ∷ wanted_files h ws (g ∷ seen))) [ true ↦ rest seen | false ↦ (none g, rest (g ∷ seen)) ]

-- ---- the recalls of files

pub number_filter : (test : ℕ → Bool) (f : ℕ) (fs : List ℕ) → has_number f (filter test fs) ≡ (has_number f fs && test f)
number_filter test f [] = refl
number_filter test f (g ∷ fs) =
    elim (bool_cases (f == g)) [
      | inl hit ↦
          (let same : f ≡ g = eqb-true f g hit in
          elim (bool_cases (test f)) [
            | inl pass ↦ (let here : test g ≡ true = subst (λ (n : ℕ). test n ≡ true) same pass in rw (here, hit, pass) refl)
            | inr fail ↦ (let here : test g ≡ false = subst (λ (n : ℕ). test n ≡ false) same fail in rw (here, hit) (number_filter test f fs ∙ rw fail (and_false (has_number f fs))))
          ])
      | inr miss ↦ elim (bool_cases (test g)) [ inl pass ↦ rw (pass, miss) (number_filter test f fs) | inr fail ↦ rw (fail, miss) (number_filter test f fs) ]
    ]
  where
    and_false : (x : Bool) → (x && false) ≡ false
    and_false true = refl
    and_false false = refl

pub distinct_filter : (test : ℕ → Bool) (fs : List ℕ) → IsDistinct fs → IsDistinct (filter test fs)
distinct_filter test [] dis = tt
distinct_filter test (f ∷ fs) dis = elim (test f) as (λ b. IsDistinct (if b then f ∷ filter test fs else filter test fs)) [ true ↦ (passing_lacks test f fs dis.0, distinct_filter test fs dis.1) | false ↦ distinct_filter test fs dis.1 ]

flip_number : (f g : ℕ) → (g == f) ≡ (f == g)
flip_number f g = same_bool (g == f) (f == g) (λ e. eq-eqb f g (sym (eqb-true g f e))) (λ e. eq-eqb g f (sym (eqb-true f g e)))

pub recalls_copy : (n f : ℕ) (fs : List ℕ) → has_copy f 0 (recalls_of n fs) ≡ has_number f fs
recalls_copy n f [] = refl
recalls_copy n f (g ∷ fs) = rw (recalls_copy n f fs) (rw (flip_number f g) (and_true (f == g) (has_number f fs)))
  where
    and_true : (a b : Bool) → ((a && true) || b) ≡ (a || b)
    and_true true b = refl
    and_true false b = refl

pub recalls_no_copy : (n f c : ℕ) (fs : List ℕ) → has_copy f (suc c) (recalls_of n fs) ≡ false
recalls_no_copy n f c [] = refl
recalls_no_copy n f c (g ∷ fs) = (let other : (0 == suc c) ≡ false = grind arith in rw (recalls_no_copy n f c fs, other) (none (g == f)))
  where
    none : (a : Bool) → ((a && false) || false) ≡ false
    none true = refl
    none false = refl

pub recalls_births : (n : ℕ) (fs : List ℕ) → AllOf (λ (j : Job). j.birth ≡ n) (recalls_of n fs)
recalls_births n [] = tt
recalls_births n (f ∷ fs) = (refl, recalls_births n fs)

recalls_has : (n f : ℕ) (fs : List ℕ) → has_number f fs ≡ false → has_job (recall_job n f) (recalls_of n fs) ≡ false
recalls_has n f [] d = refl
recalls_has n f (g ∷ fs) d = (let other : (f == g) ≡ false = first (f == g) (has_number f fs) d in let rest : has_number f fs ≡ false = second (f == g) (has_number f fs) d in let miss : same_job (recall_job n f) (recall_job n g) ≡ false = grind arith in rw miss (recalls_has n f fs rest))
  where
    first : (a b : Bool) → (a || b) ≡ false → a ≡ false
    first true b e = absurd (cc)
    first false b e = refl

    second : (a b : Bool) → (a || b) ≡ false → b ≡ false
    second true b e = absurd (cc)
    second false b e = e

pub recalls_once : (n : ℕ) (fs : List ℕ) → IsDistinct fs → names_twice (recalls_of n fs) ≡ false
recalls_once n [] dis = refl
recalls_once n (f ∷ fs) dis = rw (recalls_has n f fs dis.0) (recalls_once n fs dis.1)

-- ---- Stage

pub parts_stage : (site : Site) (h : History) (e : Entry) (who : Who) (wanted : Listed Wanted) (p : JobParts) → IsLegal site (e ∷ h) → e.ask ≡ ask.Stage who wanted → JobPartsStand site h p → JobPartsStand site (e ∷ h) (after_stage site h (e ∷ h) e.ask wanted.items p)
parts_stage site h e who wanted p legal ek s =
    subst (λ (n : ℕ). JobPartsStand site (e ∷ h) (after_births site (e ∷ h) (recalls_of n (bearing site h e.ask (wanted_files h wanted.items []))) (recalled site h (wanted_files h wanted.items [])) p)) longer
    (parts_births site h e (recalls_of (length h + 1) (bearing site h e.ask (wanted_files h wanted.items []))) (recalled site h (wanted_files h wanted.items [])) p legal
    (book_stage site h e who wanted (recalls_of (length h + 1) (bearing site h e.ask (wanted_files h wanted.items []))) (recalled site h (wanted_files h wanted.items [])) legal ek
    (λ f c. recalls_no_copy (length h + 1) f c (bearing site h e.ask (wanted_files h wanted.items []))) (λ f. born f) (λ f. old f))
    (recalls_births (length h + 1) (bearing site h e.ask (wanted_files h wanted.items [])))
    (recalls_once (length h + 1) (bearing site h e.ask (wanted_files h wanted.items [])) (distinct_filter (λ f. is_none (live_recall site h f) && bears_recall site h e.ask f) (wanted_files h wanted.items []) (wanted_once h wanted.items [])))
    (λ f c there. new f c there)
    (ap may_change_claims ek) (ap may_change_keys ek) (ap may_change_mounts ek) s)
  where
    longer : length h + 1 ≡ length (e ∷ h)
    longer = omega arith

    and_true : (x : Bool) → (x && true) ≡ x
    and_true true = refl
    and_true false = refl

    named : (f : ℕ) → has_number f (wanted_files h wanted.items []) ≡ waits_for site h e.ask f
    named f = wanted_has h wanted.items [] f ∙ and_true (names_file h f wanted.items) ∙ sym (ap (λ (k : Ask). waits_for site h k f) ek)

    shift : (w n r : Bool) → (w && (n && (w && r))) ≡ (n && (w && r))
    shift true n r = refl
    shift false true r = refl
    shift false false r = refl

    born : (f : ℕ) → has_copy f 0 (recalls_of (length h + 1) (bearing site h e.ask (wanted_files h wanted.items []))) ≡ (is_none (live_recall site h f) && bears_recall site h e.ask f)
    born f =
        recalls_copy (length h + 1) f (bearing site h e.ask (wanted_files h wanted.items []))
        ∙ number_filter (λ f. is_none (live_recall site h f) && bears_recall site h e.ask f) f (wanted_files h wanted.items [])
        ∙ ap (λ (b : Bool). b && (is_none (live_recall site h f) && bears_recall site h e.ask f)) (named f)
        ∙ shift (waits_for site h e.ask f) (is_none (live_recall site h f)) (not (is_resident h f) && not (is_empty (places_of site h f)))

    swap : (a b : Bool) → (a && b) ≡ (b && a)
    swap true true = refl
    swap true false = refl
    swap false true = refl
    swap false false = refl

    old : (f : ℕ) → has_number f (recalled site h (wanted_files h wanted.items [])) ≡ (is_some (live_recall site h f) && waits_for site h e.ask f)
    old f = number_filter (λ f. is_some (live_recall site h f)) f (wanted_files h wanted.items []) ∙ ap (λ (b : Bool). b && is_some (live_recall site h f)) (named f) ∙ swap (waits_for site h e.ask f) (is_some (live_recall site h f))

    none_there : (o : Option Recall) → is_none o ≡ true → birth_in o ≡ None
    none_there None x = refl
    none_there (Some r) x = absurd (cc)

    new : (f c : ℕ) → has_copy f c (recalls_of (length h + 1) (bearing site h e.ask (wanted_files h wanted.items []))) ≡ true → live_birth site h f c ≡ None
    new f zero there = none_there (live_recall site h f) (and_parts (is_none (live_recall site h f)) _ (sym (born f) ∙ there)).0
    new f (suc c) there = (let bad : has_copy f (suc c) (recalls_of (length h + 1) (bearing site h e.ask (wanted_files h wanted.items []))) ≡ false = recalls_no_copy (length h + 1) f c (bearing site h e.ask (wanted_files h wanted.items [])) in absurd (cc))
