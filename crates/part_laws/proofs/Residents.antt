-- The resident files after one more entry.
use Rattle.std.proofs.Common.{◌≡◌, ℕ, ◌+◌, ◌≤◌, ◌<◌, inl, inr, List, [], ◌∷◌, ◌++◌, Bool, true, false, ◌||◌, not, refl, sym, ◌∙◌, ap, subst, arith, length}
use Rattle.std.specs.Prelude.{Option, Some, None, is_some, is_none, option_to_list, if◌then◌else◌, ◌==◌, ◌&&◌, bytes_eq, filter, map, nat_lt}
use Rattle.std.proofs.lemmas.Bool.{eqb-true, eq-eqb, ne_eqb}
use Rattle.std.proofs.lemmas.List.Elements.{filter-append}
use Rattle.cta_site.specs.declared.site.Site.{Site}
use Rattle.cta_site.specs.Listed.{rows}
use Rattle.cta_site.specs.Lookups.{class_of}
use Rattle.cta_site.specs.Paths.{is_path}
use Rattle.cta_model.specs.declared.entries.Entry.{Entry}
use Rattle.cta_model.specs.declared.asks.Ask.{Ask}
use Rattle.cta_model.specs.declared.answers.Answer.{Answer}
use Rattle.blob.specs.declared.sum.Sum256.{Sum256}
use Rattle.cta_model.specs.declared.asks.Who.{Who}
use Rattle.cta_model.specs.declared.asks.Job.{Job}
use Rattle.cta_model.specs.History.{History, is_number, has_number, moment_of}
use Rattle.cta_model.specs.Files.{live_file, live_after, is_live, path_of, path_in, size_of}
use Rattle.cta_model.specs.Mounts.{mount_of}
use Rattle.cta_model.specs.Recalls.{live_recall}
use Rattle.cta_model.specs.Buffer.{last_arrival, arrival_after, arrival_of, brings_in, evicts, is_resident}
use Rattle.cta_model.specs.Space.{file_brought, arrived_in, free_space, evictable_size, evicted_for}
use Rattle.cta_model.specs.Answers.{refuse, answer_of, is_accepted, is_too_heavy, put_answer, delete_answer}
use Rattle.cta_model.specs.Legal.{IsLegal, IsNext, IsMountOf}
use Rattle.cta_laws.proofs.Tests.{bool_cases, not_next, next_not}
use Rattle.cta_laws.proofs.OpenMounts.{AllUpTo}
use Rattle.cta_laws.proofs.PlaceLaw.{path_older, named_within, live_before}
use Rattle.cta_laws.proofs.LengthLaw.{not_unknown}
use Rattle.cta_laws.proofs.BufferLaw.{claimed_file, older_arrival}
use Rattle.cta_laws.proofs.Sums.{size_older}
use Rattle.cta_laws.proofs.ResidentLaw.{recall_live, birth_some}
use Rattle.cta_model.specs.declared.asks.Ask.TheVariants as ask
use Rattle.cta_model.specs.declared.answers.Answer.TheVariants as answer
use Rattle.cta_model.specs.declared.answers.Refusal.TheVariants as refusal
use Rattle.cta_model.specs.declared.asks.Fate.TheVariants as fate
use Rattle.cta_model.specs.declared.asks.Direction.TheVariants as direction
use Rattle.part_model.specs.declared.space.Resident.{Resident}
use Rattle.part_model.specs.Held.{flagged, without}
use Rattle.cta_model.specs.Space.{is_safe}
use Rattle.part_laws.specs.Buffer.{entering, leaving, resident_at, residents, touches}
use Rattle.part_laws.proofs.After.{residents_after}
use Rattle.cta_laws.proofs.Paths.{bytes_self, known_path, same_bytes}
use Rattle.cta_laws.proofs.RecalledCopy.{done_live, fit_reads, recalled_copy}
use Rattle.cta_laws.proofs.JobFiles.{recall_absent}
use Rattle.cta_laws.proofs.Bools.{turned}
use Rattle.part_laws.proofs.Safe.{KeepsFile, untouched_safe}
use Rattle.cta_laws.proofs.RangeLaw.{newest_path}

-- ---- lists

pub map-append : {A B : Type 0} (f : A → B) (xs ys : List A) → map f (xs ++ ys) ≡ map f xs ++ map f ys
map-append f [] ys = refl
map-append f (x ∷ xs) ys = ap (λ zs. f x ∷ zs) (map-append f xs ys)

-- each file of a list is there after the entry where it was and is not gone
abbrev pub AllThere : (r : ℕ → Resident) (p p' : ℕ → Bool) → List ℕ → List ℕ → Type 0
AllThere r p p' gone [] = Unit {0}
AllThere r p p' gone (f ∷ fs) = (p' f ≡ (not (has_number (r f).file gone) && p f)) × AllThere r p p' gone fs

-- each file that is there stands as it did, but for its flag where it is touched
abbrev pub AllAs : (r r' : ℕ → Resident) (p' : ℕ → Bool) (touched safe : ℕ → Bool) → List ℕ → Type 0
AllAs r r' p' touched safe [] = Unit {0}
AllAs r r' p' touched safe (f ∷ fs) = (p' f ≡ true → r' f ≡ (if touched (r f).file then record (r f) { safe = safe (r f).file } else r f)) × AllAs r r' p' touched safe fs

pub list_kept : (r : ℕ → Resident) (p p' : ℕ → Bool) (gone fs : List ℕ) → AllThere r p p' gone fs → map r (filter p' fs) ≡ without gone (map r (filter p fs))
list_kept r p p' gone [] all = refl
list_kept r p p' gone (f ∷ fs) all =
    let rest : map r (filter p' fs) ≡ without gone (map r (filter p fs)) = list_kept r p p' gone fs all.1 in
    rw (all.0)
    (elim (p f) as (λ a. map r (if not (has_number (r f).file gone) && a then f ∷ filter p' fs else filter p' fs) ≡ without gone (map r (if a then f ∷ filter p fs else filter p fs))) [
      | true ↦ elim (has_number (r f).file gone) as (λ b. map r (if not b && true then f ∷ filter p' fs else filter p' fs) ≡ (if not b then r f ∷ without gone (map r (filter p fs)) else without gone (map r (filter p fs)))) [ true ↦ rest | false ↦ ap (λ (xs : List Resident). r f ∷ xs) rest ]
      | false ↦ elim (has_number (r f).file gone) as (λ b. map r (if not b && false then f ∷ filter p' fs else filter p' fs) ≡ without gone (map r (filter p fs))) [ true ↦ rest | false ↦ rest ]
    ])

pub list_flagged : (r r' : ℕ → Resident) (p' : ℕ → Bool) (touched safe : ℕ → Bool) (fs : List ℕ) → AllAs r r' p' touched safe fs → map r' (filter p' fs) ≡ flagged touched safe (map r (filter p' fs))
list_flagged r r' p' touched safe [] all = refl
list_flagged r r' p' touched safe (f ∷ fs) all =
    let rest : map r' (filter p' fs) ≡ flagged touched safe (map r (filter p' fs)) = list_flagged r r' p' touched safe fs all.1 in
    elim (bool_cases (p' f)) [
      | inl hit ↦ (let here : r' f ≡ (if touched (r f).file then record (r f) { safe = safe (r f).file } else r f) = all.0 hit in rw hit (both _ _ _ _ here rest))
      | inr miss ↦ rw miss rest
    ]
  where
    both : (a b : Resident) (xs ys : List Resident) → a ≡ b → xs ≡ ys → a ∷ xs ≡ b ∷ ys
    both a b xs ys x y = cc

pub list_step : (r r' : ℕ → Resident) (p p' : ℕ → Bool) (gone : List ℕ) (touched safe : ℕ → Bool) (fs : List ℕ) → AllThere r p p' gone fs → AllAs r r' p' touched safe fs → map r' (filter p' fs) ≡ flagged touched safe (without gone (map r (filter p fs)))
list_step r r' p p' gone touched safe fs there same = list_flagged r r' p' touched safe fs same ∙ ap (flagged touched safe) (list_kept r p p' gone fs there)

-- ---- the files that older entries brought

pub AllBrought : ℕ → History → Type 0
AllBrought n [] = Unit {0}
AllBrought n (e ∷ h) = AllUpTo n (file_brought e.ask (length h + 1)) × AllBrought n h

pub brought_by : (site : Site) (h : History) → IsLegal site h → (t n : ℕ) (k : Ask) (a : Answer) → a ≡ answer_of site h t k → is_accepted a ≡ true → length h + 1 ≤ n → AllUpTo n (file_brought k (length h + 1))
brought_by site h legal t n (ask.Put who path sum) a is y low = (low, tt)
brought_by site h legal t n (ask.Recalled m job) a is y low = (let f : job.file ≤ length h = claimed_file site h legal m job (not_unknown _ _ a is y) in omega arith, tt)
brought_by site h legal t n _ a is y low = tt

pub all_brought : (site : Site) (h : History) (n : ℕ) → IsLegal site h → length h ≤ n → AllBrought n h
unfolding AllBrought
all_brought site [] n legal low = tt
all_brought site (e ∷ h) n legal low = (brought_by site h legal.0 e.at n e.ask e.answer legal.1.answered legal.1.accepted (omega arith), all_brought site h n legal.0 (omega arith))

-- ---- the resident files of the older entries

-- which older files are there, by the entry that brought them
abbrev pub Leaves : History → Entry → List ℕ → Type 0
Leaves h e gone = (f k : ℕ) → f ≤ length h → k ≤ length h → is_number k (arrival_of (e ∷ h) f) ≡ (not (has_number f gone) && is_number k (arrival_of h f))

-- how they stand
abbrev pub StandsAs : Site → History → Entry → (ℕ → Bool) → Type 0
StandsAs site h e touched = (f k : ℕ) → f ≤ length h → k ≤ length h → is_number k (arrival_of (e ∷ h) f) ≡ true → resident_at site (e ∷ h) f ≡ (if touched f then record (resident_at site h f) { safe = is_safe site (e ∷ h) f } else resident_at site h f)

pub there_all : (site : Site) (h : History) (e : Entry) (gone : List ℕ) (k : ℕ) (fs : List ℕ) → Leaves h e gone → k ≤ length h → AllUpTo (length h) fs → AllThere (resident_at site h) (λ f. is_number k (arrival_of h f)) (λ f. is_number k (arrival_of (e ∷ h) f)) gone fs
there_all site h e gone k [] leaves low all = tt
there_all site h e gone k (f ∷ fs) leaves low all = (leaves f k all.0 low, there_all site h e gone k fs leaves low all.1)

pub as_all : (site : Site) (h : History) (e : Entry) (touched : ℕ → Bool) (k : ℕ) (fs : List ℕ) → StandsAs site h e touched → k ≤ length h → AllUpTo (length h) fs → AllAs (resident_at site h) (resident_at site (e ∷ h)) (λ f. is_number k (arrival_of (e ∷ h) f)) touched (is_safe site (e ∷ h)) fs
as_all site h e touched k [] stands low all = tt
as_all site h e touched k (f ∷ fs) stands low all = (λ is. stands f k all.0 low is, as_all site h e touched k fs stands low all.1)

pub flagged-append : (touched safe : ℕ → Bool) (xs ys : List Resident) → flagged touched safe (xs ++ ys) ≡ flagged touched safe xs ++ flagged touched safe ys
flagged-append touched safe xs ys = map-append (λ (r : Resident). if touched r.file then record r { safe = safe r.file } else r) xs ys

pub older_step : (site : Site) (h : History) (e : Entry) (gone : List ℕ) (touched : ℕ → Bool) → Leaves h e gone → StandsAs site h e touched → (older : History) → length older ≤ length h → AllBrought (length h) older → map (resident_at site (e ∷ h)) (arrived_in (e ∷ h) older) ≡ flagged touched (is_safe site (e ∷ h)) (without gone (map (resident_at site h) (arrived_in h older)))
unfolding AllBrought
older_step site h e gone touched leaves stands [] low all = refl
older_step site h e gone touched leaves stands (x ∷ older) low all =
    let k = length older + 1 in
    let rest : map (resident_at site (e ∷ h)) (arrived_in (e ∷ h) older) ≡ flagged touched (is_safe site (e ∷ h)) (without gone (map (resident_at site h) (arrived_in h older))) = older_step site h e gone touched leaves stands older (omega arith) all.1 in
    let number : length older + 1 ≤ length h = omega arith in
    let here : map (resident_at site (e ∷ h)) (filter (λ f. is_number (length older + 1) (arrival_of (e ∷ h) f)) (file_brought x.ask (length older + 1))) ≡ flagged touched (is_safe site (e ∷ h)) (without gone (map (resident_at site h) (filter (λ f. is_number (length older + 1) (arrival_of h f)) (file_brought x.ask (length older + 1))))) =
    list_step (resident_at site h) (resident_at site (e ∷ h)) (λ f. is_number (length older + 1) (arrival_of h f)) (λ f. is_number (length older + 1) (arrival_of (e ∷ h) f)) gone touched (is_safe site (e ∷ h)) (file_brought x.ask (length older + 1))
    (there_all site h e gone (length older + 1) (file_brought x.ask (length older + 1)) leaves number all.0)
    (as_all site h e touched (length older + 1) (file_brought x.ask (length older + 1)) stands number all.0) in
    map-append (resident_at site (e ∷ h)) (arrived_in (e ∷ h) older) (filter (λ f. is_number (length older + 1) (arrival_of (e ∷ h) f)) (file_brought x.ask (length older + 1)))
    ∙ join _ _ _ _ rest here
    ∙ sym (flagged-append touched (is_safe site (e ∷ h)) (without gone (map (resident_at site h) (arrived_in h older))) (without gone (map (resident_at site h) (filter (λ f. is_number (length older + 1) (arrival_of h f)) (file_brought x.ask (length older + 1))))))
    ∙ ap (flagged touched (is_safe site (e ∷ h)))
    (sym (filter-append (λ (r : Resident). not (has_number r.file gone)) (map (resident_at site h) (arrived_in h older)) (map (resident_at site h) (filter (λ f. is_number (length older + 1) (arrival_of h f)) (file_brought x.ask (length older + 1)))))
    ∙ ap (without gone) (sym (map-append (resident_at site h) (arrived_in h older) (filter (λ f. is_number (length older + 1) (arrival_of h f)) (file_brought x.ask (length older + 1))))))
  where
    join : (a b c d : List Resident) → a ≡ b → c ≡ d → a ++ c ≡ b ++ d
    join a b c d e f = cc

-- the resident files after an entry: the older ones, and the one that enters
pub residents_by : (site : Site) (h : History) (e : Entry) (gone : List ℕ) (touched : ℕ → Bool) → IsLegal site h → Leaves h e gone → StandsAs site h e touched → residents site (e ∷ h) ≡ flagged touched (is_safe site (e ∷ h)) (without gone (residents site h)) ++ map (resident_at site (e ∷ h)) (filter (λ f. is_number (length h + 1) (arrival_of (e ∷ h) f)) (file_brought e.ask (length h + 1)))
residents_by site h e gone touched legal leaves stands =
    map-append (resident_at site (e ∷ h)) (arrived_in (e ∷ h) h) (filter (λ f. is_number (length h + 1) (arrival_of (e ∷ h) f)) (file_brought e.ask (length h + 1)))
    ∙ ap (λ (xs : List Resident). xs ++ map (resident_at site (e ∷ h)) (filter (λ f. is_number (length h + 1) (arrival_of (e ∷ h) f)) (file_brought e.ask (length h + 1)))) (older_step site h e gone touched leaves stands h (omega arith) (all_brought site h (length h) legal (omega arith)))

-- ---- which older files are there

pub live_is : (e : Entry) (h : History) (f : ℕ) → f ≤ length h → is_live (e ∷ h) f ≡ is_number f (live_after e.ask (length h + 1) (path_of h f) (live_file h (path_of h f)))
live_is e h f low = ap (λ (p : List ℕ). is_number f (live_file (e ∷ h) p)) (path_older e h f low)

pub put_tells : (site : Site) (h : History) (t : ℕ) (who : Who) (path : List ℕ) (sum : Sum256) (a : Answer) → a ≡ answer_of site h t (ask.Put who path sum) → is_accepted a ≡ true → (live_file h path ≡ None) × (nat_lt (free_space site h + evictable_size site h (moment_of h t)) sum.len ≡ false) × (a ≡ answer.Stored (rows (evicted_for site h (moment_of h t) sum.len)))
put_tells site h t who path sum a is y =
    by (is_too_heavy site h (ask.Put who path sum) (put_answer site h (moment_of h t) path sum.len)) (not (is_path path)) (is_none (class_of site path)) (live_file h path) refl (nat_lt (free_space site h + evictable_size site h (moment_of h t)) sum.len) is
  where
    by : (heavy bad none : Bool) (o : Option ℕ) → live_file h path ≡ o → (full : Bool) → a ≡ refuse refusal.HistoryFull heavy (refuse refusal.BadPath bad (refuse refusal.NoDirectory none (refuse refusal.PathTaken (is_some o) (refuse refusal.NoSpace full (answer.Stored (rows (evicted_for site h (moment_of h t) sum.len))))))) → (live_file h path ≡ None) × (full ≡ false) × (a ≡ answer.Stored (rows (evicted_for site h (moment_of h t) sum.len)))
    by true bad none o eo full e = absurd (cc)
    by false true none o eo full e = absurd (cc)
    by false false true o eo full e = absurd (cc)
    by false false false (Some g) eo full e = absurd (cc)
    by false false false None eo true e = absurd (cc)
    by false false false None eo false e = (eo, refl, e)

pub delete_tells : (site : Site) (h : History) (t : ℕ) (who : Who) (path : List ℕ) (a : Answer) → a ≡ answer_of site h t (ask.Delete who path) → is_accepted a ≡ true → (g : ℕ) × (live_file h path ≡ Some g) × (a ≡ answer.Done)
delete_tells site h t who path a is y =
    by (is_too_heavy site h (ask.Delete who path) (delete_answer h path)) (live_file h path) refl is
  where
    by : (heavy : Bool) (o : Option ℕ) → live_file h path ≡ o → a ≡ refuse refusal.HistoryFull heavy (refuse refusal.NoFile (is_none o) answer.Done) → (g : ℕ) × (live_file h path ≡ Some g) × (a ≡ answer.Done)
    by true o eo e = absurd (cc)
    by false None eo e = absurd (cc)
    by false (Some g) eo e = (g, eo, e)

-- an older file, by whether the entry keeps it live, brings it in or lists it as evicted
pub leave_cases : (n m : ℕ) (live out : Bool) (last : Option ℕ) → is_number m (if live then arrival_after false out n last else None) ≡ (not out && is_number m (if live then last else None))
leave_cases n m true true last = refl
leave_cases n m true false last = refl
leave_cases n m false true last = refl
leave_cases n m false false last = refl

pub put_live : (h : History) (path : List ℕ) (f : ℕ) → live_file h path ≡ None → f ≤ length h → (q : List ℕ) → is_number f (if bytes_eq path q then Some (length h + 1) else live_file h q) ≡ is_number f (live_file h q)
put_live h path f none low q =
    elim (bool_cases (bytes_eq path q)) [
      | inl hit ↦ (let same : path ≡ q = same_bytes path q hit in rw (hit, ← same, none) (not_next f (length h) low))
      | inr miss ↦ rw miss refl
    ]

pub not_and : (b : Bool) → false ≡ (not (b || false) && b)
not_and true = refl
not_and false = refl

pub not_or : (b : Bool) → b ≡ false → (c : Bool) → c ≡ (not (b || false) && c)
not_or true e c = absurd (cc)
not_or false e c = refl

pub delete_live : (h : History) (path : List ℕ) (f g : ℕ) → live_file h path ≡ Some g → is_number f (if bytes_eq path (path_of h f) then None else live_file h (path_of h f)) ≡ (not (has_number f (option_to_list (live_file h path))) && is_number f (live_file h (path_of h f)))
delete_live h path f g some =
    elim (bool_cases (bytes_eq path (path_of h f))) [
      | inl hit ↦ (let same : path ≡ path_of h f = same_bytes path (path_of h f) hit in rw (hit, ← same, some) (not_and (f == g)))
      | inr miss ↦ rw (miss, some) (elim (bool_cases (f == g)) [
        | inl hit ↦ (let there : path_of h f ≡ path = ap (path_of h) (eqb-true f g hit) ∙ (known_path h path g some).1 in let bad : bytes_eq path path ≡ false = rw there at miss in absurd (cc (bad, bytes_self path)))
        | inr d ↦ not_or (f == g) d (is_number f (live_file h (path_of h f)))
      ])
    ]

pub delete_cases : (n m : ℕ) (gone live live' : Bool) (last : Option ℕ) → live' ≡ (not gone && live) → is_number m (if live' then arrival_after false false n last else None) ≡ (not gone && is_number m (if live then last else None))
delete_cases n m true live true last e = absurd (cc)
delete_cases n m true live false last e = refl
delete_cases n m false true true last e = refl
delete_cases n m false true false last e = absurd (cc)
delete_cases n m false false true last e = absurd (cc)
delete_cases n m false false false last e = refl

-- a file that a recall brings in was away
pub bring_cases : (n m : ℕ) (live : Bool) (last : Option ℕ) → (m == n) ≡ false → is_some (if live then last else None) ≡ false → is_number m (if live then arrival_after true false n last else None) ≡ is_number m (if live then last else None)
bring_cases n m true None d away = d
bring_cases n m true (Some k) d away = absurd (cc)
bring_cases n m false last d away = refl

-- the file of a completed recall was away
pub recalled_away : (site : Site) (h : History) → IsLegal site h → (t m : ℕ) (job : Job) → answer.Arrived fate.Done ≡ answer_of site h t (ask.Recalled m job) → IsMountOf direction.Retrieve (mount_of h m) → is_resident h job.file ≡ false
recalled_away site h legal t m job is way =
    let copy : job.copy ≡ 0 = recalled_copy site h legal t m job (answer.Arrived fate.Done) is refl way in
    recall_absent site h legal job.file (birth_some job.birth (live_recall site h job.file) (done_live site h t m job is copy))

unfoldable pub Fits : History → Ask → Type 0
Fits h k = (m : ℕ) (job : Job) → k ≡ ask.Recalled m job → IsMountOf direction.Retrieve (mount_of h m)

-- is the file there after the entry, by the entry of this number
unfoldable pub there : History → Ask → Answer → ℕ → ℕ → Bool
there h k a f m = is_number m (if is_number f (live_after k (length h + 1) (path_of h f) (live_file h (path_of h f))) then arrival_after (brings_in k a (length h + 1) f) (evicts k a f) (length h + 1) (last_arrival h f) else None)

abbrev pub was : History → ℕ → ℕ → Bool
was h f m = is_number m (arrival_of h f)

pub leaves_by : (site : Site) (h : History) → IsLegal site h → (t : ℕ) (k : Ask) (a : Answer) → a ≡ answer_of site h t k → is_accepted a ≡ true → Fits h k → (f m : ℕ) → f ≤ length h → m ≤ length h → there h k a f m ≡ (not (has_number f (leaving h k a)) && was h f m)
unfolding there Fits
leaves_by site h legal t (ask.Put who path sum) a is y fits f m low old =
    let tells = put_tells site h t who path sum a is y in
    rw (next_not f (length h) low, put_live h path f tells.0 low (path_of h f)) (leave_cases (length h + 1) m (is_live h f) (evicts (ask.Put who path sum) a f) (last_arrival h f))
leaves_by site h legal t (ask.Delete who path) a is y fits f m low old =
    let tells = delete_tells site h t who path a is y in
    delete_cases (length h + 1) m (has_number f (option_to_list (live_file h path))) (is_live h f) (is_number f (if bytes_eq path (path_of h f) then None else live_file h (path_of h f))) (last_arrival h f) (delete_live h path f tells.0 tells.1)
leaves_by site h legal t (ask.Recalled m' job) (answer.Arrived fate.Done) is y fits f m low old =
    elim (bool_cases (job.file == f)) [
      | inl hit ↦
          (let away : is_resident h f ≡ false = subst (λ (n : ℕ). is_resident h n ≡ false) (eqb-true _ _ hit) (recalled_away site h legal t m' job is (fits m' job refl)) in
          rw hit (bring_cases (length h + 1) m (is_live h f) (last_arrival h f) (not_next m (length h) old) away))
      | inr miss ↦ rw miss (leave_cases (length h + 1) m (is_live h f) false (last_arrival h f))
    ]
leaves_by site h legal t (ask.Claim m') a is y fits f m low old = leave_cases (length h + 1) m (is_live h f) (evicts (ask.Claim m') a f) (last_arrival h f)
leaves_by site h legal t _ a is y fits f m low old = leave_cases (length h + 1) m (is_live h f) false (last_arrival h f)

pub fits_at : (site : Site) (h : History) (e : Entry) → IsNext site h e → Fits h e.ask
unfolding Fits
fits_at site h e next m job is = fit_reads site h e next e.ask refl m job is

-- of the older files those are there that were and do not leave
pub leaves : (site : Site) (h : History) (e : Entry) → IsLegal site (e ∷ h) → Leaves h e (leaving h e.ask e.answer)
unfolding there
leaves site h e legal f m low old =
    ap (λ (b : Bool). is_number m (if b then arrival_after (brings_in e.ask e.answer (length h + 1) f) (evicts e.ask e.answer f) (length h + 1) (last_arrival h f) else None)) (live_is e h f low)
    ∙ leaves_by site h legal.0 e.at e.ask e.answer legal.1.answered legal.1.accepted (fits_at site h e legal.1) f m low old

-- ---- how they stand

pub not_entering : (h : History) (k : Ask) (a : Answer) (f : ℕ) → brings_in k a (length h + 1) f ≡ false → has_number f (entering h k a) ≡ false
not_entering h (ask.Put who path sum) a f d = rw (turned (length h + 1) f d) refl
not_entering h (ask.Recalled m job) (answer.Arrived fate.Done) f d = rw (turned job.file f d) refl
not_entering h _ a f d = refl

pub keeps_file : (h : History) (k : Ask) (f n : ℕ) → is_number f (live_after k n (path_of h f) (live_file h (path_of h f))) ≡ true → KeepsFile h k f
keeps_file h (ask.Delete who path) f n = elim (bytes_eq path (path_of h f)) as (λ b. is_number f (if b then None else live_file h (path_of h f)) ≡ true → b ≡ false) [ true ↦ λ e. absurd (cc) | false ↦ λ e. refl ]
keeps_file h _ f n = λ e. tt

pub resident : ℕ → ℕ → Bool → Resident
resident f n s = record { file = f; len = n; safe = s }

pub made : (f n n' : ℕ) (s s' : Bool) → n' ≡ n → s' ≡ s → resident f n' s' ≡ resident f n s
made f n n' s s' x y = cc

pub same_resident : (f n n' : ℕ) (s : Bool) (b : Bool) (s' : Bool) → n' ≡ n → (b ≡ false → s' ≡ s) → ◌≡◌ {A = Resident} (record { file = f; len = n'; safe = s' }) (if b then record { file = f; len = n; safe = s' } else record { file = f; len = n; safe = s })
unfolding resident
same_resident f n n' s true s' len same = made f n n' s' s' len refl
same_resident f n n' s false s' len same = made f n n' s s' len (same refl)

pub stands_as : (site : Site) (h : History) (e : Entry) → IsLegal site (e ∷ h) → StandsAs site h e (touches site h e.ask e.answer)
stands_as site h e legal f m low old is =
    let w = older_arrival (is_live (e ∷ h) f) (brings_in e.ask e.answer (length h + 1) f) (evicts e.ask e.answer f) (length h) m (last_arrival h f) old is in
    let was_live : is_live h f ≡ true = live_before e h f low w.0 in
    let same : is_live (e ∷ h) f ≡ is_live h f = w.0 ∙ sym was_live in
    same_resident f (size_of h f) (size_of (e ∷ h) f) (is_safe site h f) (touches site h e.ask e.answer f) (is_safe site (e ∷ h) f) (size_older e h f low)
    (λ d. untouched_safe site h e f low same (keeps_file h e.ask f (length h + 1) (sym (live_is e h f low) ∙ w.0)) d (not_entering h e.ask e.answer f w.1))

-- ---- the file that enters

-- no arrival is yet to come
pub arrival_low : (h : History) (f k : ℕ) → length h < k → is_number k (last_arrival h f) ≡ false
arrival_low [] f k high = refl
arrival_low (e ∷ h) f k high = by (brings_in e.ask e.answer (length h + 1) f) (evicts e.ask e.answer f) (arrival_low h f k (omega arith))
  where
    by : (b o : Bool) → is_number k (last_arrival h f) ≡ false → is_number k (arrival_after b o (length h + 1) (last_arrival h f)) ≡ false
    by true o d = ne_eqb k (length h + 1) (λ x. omega arith)
    by false true d = refl
    by false false d = d

pub one_kept : (p : ℕ → Bool) (f : ℕ) → p f ≡ true → filter p (f ∷ []) ≡ f ∷ []
one_kept p f hit = rw hit refl

pub one_left : (p : ℕ → Bool) (f : ℕ) → p f ≡ false → filter p (f ∷ []) ≡ []
one_left p f miss = rw miss refl

pub no_entry : (e : Entry) (h : History) (f : ℕ) → brings_in e.ask e.answer (length h + 1) f ≡ false → is_number (length h + 1) (arrival_of (e ∷ h) f) ≡ false
no_entry e h f d = by (is_live (e ∷ h) f) (brings_in e.ask e.answer (length h + 1) f) (evicts e.ask e.answer f) d (arrival_low h f (length h + 1) (omega arith))
  where
    by : (l b o : Bool) → b ≡ false → is_number (length h + 1) (last_arrival h f) ≡ false → is_number (length h + 1) (if l then arrival_after b o (length h + 1) (last_arrival h f) else None) ≡ false
    by l true o x y = absurd (cc)
    by true false true x y = refl
    by true false false x y = y
    by false false o x y = refl

pub recalled_not : (e : Entry) (h : History) (m : ℕ) (job : Job) (a : Answer) → e.ask ≡ ask.Recalled m job → e.answer ≡ a → brings_in (ask.Recalled m job) a (length h + 1) job.file ≡ false → filter (λ f. is_number (length h + 1) (arrival_of (e ∷ h) f)) (job.file ∷ []) ≡ []
recalled_not e h m job a ek ea d =
    one_left (λ f. is_number (length h + 1) (arrival_of (e ∷ h) f)) job.file
    (no_entry e h job.file (ap (λ (k : Ask). brings_in k e.answer (length h + 1) job.file) ek ∙ ap (λ (a : Answer). brings_in (ask.Recalled m job) a (length h + 1) job.file) ea ∙ d))

pub none_if : (b : Bool) (k : ℕ) (o : Option ℕ) → is_number k o ≡ false → is_number k (if b then o else None) ≡ false
none_if true k o d = d
none_if false k o d = refl

pub newest_live : (e : Entry) (h : History) (who : Who) (path : List ℕ) (sum : Sum256) → e.ask ≡ ask.Put who path sum → is_live (e ∷ h) (length h + 1) ≡ true
newest_live e h who path sum ek =
    let p : path_of (e ∷ h) (length h + 1) ≡ path = newest_path e h ∙ ap path_in ek in
    ap (λ (q : List ℕ). is_number (length h + 1) (live_file (e ∷ h) q)) p
    ∙ ap (λ (k : Ask). is_number (length h + 1) (live_after k (length h + 1) path (live_file h path))) ek
    ∙ there_by (bytes_eq path path) (bytes_self path)
  where
    there_by : (b : Bool) → b ≡ true → is_number (length h + 1) (if b then Some (length h + 1) else live_file h path) ≡ true
    there_by true x = eq-eqb (length h + 1) (length h + 1) refl
    there_by false x = absurd (cc)

pub there_if : (live brings out : Bool) (n : ℕ) (o : Option ℕ) → live ≡ true → brings ≡ true → is_number n (if live then arrival_after brings out n o else None) ≡ true
there_if true true out n o x y = eq-eqb n n refl
there_if true false out n o x y = absurd (cc)
there_if false brings out n o x y = absurd (cc)

pub enters_by : (site : Site) (h : History) (e : Entry) (k : Ask) (a : Answer) → IsLegal site (e ∷ h) → e.ask ≡ k → e.answer ≡ a → filter (λ f. is_number (length h + 1) (arrival_of (e ∷ h) f)) (file_brought k (length h + 1)) ≡ entering h k a
enters_by site h e (ask.Put who path sum) a legal ek ea =
    one_kept (λ f. is_number (length h + 1) (arrival_of (e ∷ h) f)) (length h + 1)
    (there_if (is_live (e ∷ h) (length h + 1)) (brings_in e.ask e.answer (length h + 1) (length h + 1)) (evicts e.ask e.answer (length h + 1)) (length h + 1) (last_arrival h (length h + 1)) (newest_live e h who path sum ek) (ap (λ (k : Ask). brings_in k e.answer (length h + 1) (length h + 1)) ek ∙ eq-eqb (length h + 1) (length h + 1) refl))
enters_by site h e (ask.Recalled m job) (answer.Arrived fate.Done) legal ek ea =
    let is : answer.Arrived fate.Done ≡ answer_of site h e.at (ask.Recalled m job) = sym ea ∙ legal.1.answered ∙ ap (answer_of site h e.at) ek in
    let copy : job.copy ≡ 0 = recalled_copy site h legal.0 e.at m job (answer.Arrived fate.Done) is refl (fit_reads site h e legal.1 (ask.Recalled m job) ek m job refl) in
    let on : is_some (live_recall site h job.file) ≡ true = birth_some job.birth (live_recall site h job.file) (done_live site h e.at m job is copy) in
    let live : is_live h job.file ≡ true = recall_live site h legal.0 job.file on in
    let low : job.file ≤ length h = (named_within h job.file (path_of h job.file) live).1 in
    let live' : is_live (e ∷ h) job.file ≡ true = live_is e h job.file low ∙ ap (λ (k : Ask). is_number job.file (live_after k (length h + 1) (path_of h job.file) (live_file h (path_of h job.file)))) ek ∙ live in
    one_kept (λ f. is_number (length h + 1) (arrival_of (e ∷ h) f)) job.file
    (there_if (is_live (e ∷ h) job.file) (brings_in e.ask e.answer (length h + 1) job.file) (evicts e.ask e.answer job.file) (length h + 1) (last_arrival h job.file) live' (ap (λ (k : Ask). brings_in k e.answer (length h + 1) job.file) ek ∙ ap (λ (a : Answer). brings_in (ask.Recalled m job) a (length h + 1) job.file) ea ∙ eq-eqb job.file job.file refl))
enters_by site h e (ask.Recalled m job) (answer.Arrived fate.Stale) legal ek ea = recalled_not e h m job (answer.Arrived fate.Stale) ek ea refl
enters_by site h e (ask.Recalled m job) a legal ek ea = recalled_not e h m job a ek ea refl
enters_by site h e _ a legal ek ea = refl

-- ---- the resident files after an entry

pub residents_are : (site : Site) (h : History) (e : Entry) → IsLegal site (e ∷ h) → residents site (e ∷ h) ≡ residents_after site h e (residents site h)
residents_are site h e legal =
    residents_by site h e (leaving h e.ask e.answer) (touches site h e.ask e.answer) legal.0 (leaves site h e legal) (stands_as site h e legal)
    ∙ ap (λ (fs : List ℕ). flagged (touches site h e.ask e.answer) (is_safe site (e ∷ h)) (without (leaving h e.ask e.answer) (residents site h)) ++ map (resident_at site (e ∷ h)) fs) (enters_by site h e e.ask e.answer legal refl refl)
