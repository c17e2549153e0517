-- What pins a file, owner by owner; and no request pins a live file that is away.
use Rattle.std.proofs.Common.{◌≡◌, ℕ, ◌+◌, ◌≤◌, ◌<◌, ◌⊎◌, inl, inr, List, [], ◌∷◌, Bool, true, false, ◌||◌, not, refl, sym, ◌∙◌, ap, subst, arith, length}
use Rattle.std.specs.Prelude.{Option, Some, None, is_some, if◌then◌else◌, ◌==◌, ◌&&◌, option_map, nat_lt}
use Rattle.std.specs.List.{list_any, flat_map}
use Rattle.std.proofs.lemmas.Bool.{or_parts, eqb-true, eq-eqb, ltb-true, lt-ltb}
use Rattle.std.proofs.lemmas.List.Folds.{list_any-append}
use Rattle.cta_site.specs.declared.site.Site.{Site}
use Rattle.cta_model.specs.declared.entries.Entry.{Entry}
use Rattle.cta_model.specs.declared.asks.Ask.{Ask}
use Rattle.cta_model.specs.declared.asks.Ask.TheVariants as ask
use Rattle.cta_model.specs.declared.asks.Fate.TheVariants as fate
use Rattle.cta_model.specs.declared.asks.Job.{Job}
use Rattle.cta_model.specs.declared.answers.Answer.{Answer}
use Rattle.cta_model.specs.declared.answers.Answer.TheVariants as answer
use Rattle.cta_model.specs.declared.reports.FileState.{FileState}
use Rattle.cta_model.specs.declared.reports.FileState.TheVariants as file
use Rattle.cta_model.specs.declared.states.StageFile.{StageFile}
use Rattle.cta_model.specs.declared.states.RequestFile.{RequestFile}
use Rattle.cta_model.specs.History.{History, is_number, has_number, is_empty, moment_of, last_moment}
use Rattle.cta_model.specs.Files.{is_live, path_of}
use Rattle.cta_model.specs.Mounts.{same_job}
use Rattle.cta_model.specs.Buffer.{last_arrival, is_resident, brings_in, evicts}
use Rattle.cta_model.specs.Recalls.{Recall, live_recall, recall_after, recall_goes_on, recall_job, lives_unless}
use Rattle.cta_model.specs.Stages.{StageRequest, after_recall, waiting_after, moved_by, file_after, cancels, releases, drops, request_by, request_after, request_of, requests_made, makes_request, finished}
use Rattle.cta_model.specs.declared.states.RepackCopy.{RepackCopy}
use Rattle.cta_model.specs.Repacks.{Repack, is_live_item, repack_by, repack_after, repack_of, repacks_made, makes_repack}
use Rattle.cta_model.specs.Pins.{Pin, is_above, is_pinned, stage_pins, repack_pins}
use Rattle.cta_model.specs.Legal.{IsLegal, IsNext}
use Rattle.cta_model.specs.Answers.{answer_of}
use Rattle.cta_laws.specs.Stages.{waits, AwayIsUnpinned}
use Rattle.cta_laws.specs.Pins.{some_lasts, stage_pins_by, repack_pins_by, pins_by, keeps, will_keep, frees_path}
use Rattle.cta_laws.proofs.Tests.{bool_cases, or_left, or_right, or_cases}
use Rattle.cta_laws.proofs.Bools.{and_none}
use Rattle.cta_laws.proofs.Ranges.{any_flat_map, any_map, any_same}
use Rattle.cta_laws.proofs.Requests.{files_in}
use Rattle.cta_laws.proofs.JobLaw.{not_true}
use Rattle.cta_laws.proofs.LostLaw.{live_cases, resident_by, arrives, arrival_kept}
use Rattle.cta_laws.proofs.JobFiles.{resident_parts}
use Rattle.cta_laws.proofs.OnceLaw.{birth_in}
use Rattle.cta_laws.proofs.Accepted.{evicts_unpinned}
use Rattle.cta_laws.proofs.RecalledCopy.{done_live, fit_reads, recalled_copy, same_recall}
use Rattle.cta_laws.proofs.Waiting.{waiting_same}
use Rattle.cta_laws.proofs.StagePins.{and_no, pins_are, other_keeping, released_keeps, stage_pins_older, stage_pins_newest, staged_by}

-- ---- requests and repacks that are there were made

made_by : (site : Site) (h : History) (e : Entry) (k : Ask) → is_some (request_by site h e k) ≡ true → makes_request k ≡ true
made_by site h e (ask.Stage who files) on = refl
made_by site h e _ on = absurd (cc)

pub request_made : (site : Site) (h : History) (id : ℕ) → is_some (request_of site h id) ≡ true → has_number id (requests_made h) ≡ true
request_made site [] id on = absurd (cc)
request_made site (e ∷ h) id on =
    elim (bool_cases (length h + 1 == id)) [
      | inl hit ↦
          (let makes : makes_request e.ask ≡ true = made_by site h e e.ask (rw hit at on) in
          rw makes (or_left (id == length h + 1) _ (eq-eqb id (length h + 1) (sym (eqb-true _ _ hit)))))
      | inr miss ↦ older (makes_request e.ask) (request_made site h id (was (request_of site h id) (rw miss at on)))
    ]
  where
    was : (o : Option StageRequest) → is_some (request_after site h e id o) ≡ true → is_some o ≡ true
    was None x = absurd (cc)
    was (Some r) x = refl

    older : (b : Bool) → has_number id (requests_made h) ≡ true → has_number id (if b then (length h + 1) ∷ requests_made h else requests_made h) ≡ true
    older true x = or_right (id == length h + 1) _ x
    older false x = x

repacked_by : (h : History) (k : Ask) (a : Answer) → is_some (repack_by h k a) ≡ true → makes_repack k ≡ true
repacked_by h (ask.Repack who v) a on = refl
repacked_by h _ a on = absurd (cc)

pub repack_made : (site : Site) (h : History) (id : ℕ) → is_some (repack_of site h id) ≡ true → has_number id (repacks_made h) ≡ true
repack_made site [] id on = absurd (cc)
repack_made site (e ∷ h) id on =
    elim (bool_cases (length h + 1 == id)) [
      | inl hit ↦
          (let makes : makes_repack e.ask ≡ true = repacked_by h e.ask e.answer (rw hit at on) in
          rw makes (or_left (id == length h + 1) _ (eq-eqb id (length h + 1) (sym (eqb-true _ _ hit)))))
      | inr miss ↦ older (makes_repack e.ask) (repack_made site h id (was (repack_of site h id) (rw miss at on)))
    ]
  where
    was : (o : Option Repack) → is_some (option_map (repack_after site (e ∷ h) e.ask) o) ≡ true → is_some o ≡ true
    was None x = absurd (cc)
    was (Some r) x = refl

    older : (b : Bool) → has_number id (repacks_made h) ≡ true → has_number id (if b then (length h + 1) ∷ repacks_made h else repacks_made h) ≡ true
    older true x = or_right (id == length h + 1) _ x
    older false x = x

-- ---- the pins of a file, by owners

pub some_of : (test : ℕ → Bool) (ns : List ℕ) → list_any test ns ≡ true → (n : ℕ) × (test n ≡ true)
some_of test [] e = absurd (cc)
some_of test (n ∷ ns) e = elim (or_cases (test n) (list_any test ns) e) [ inl hit ↦ (n, hit) | inr rest ↦ some_of test ns rest ]

pub among : (test : ℕ → Bool) (n : ℕ) (ns : List ℕ) → has_number n ns ≡ true → test n ≡ true → list_any test ns ≡ true
among test n [] there e = absurd (cc)
among test n (m ∷ ns) there e =
    elim (or_cases (n == m) (has_number n ns) there)
    [ inl hit ↦ or_left (test m) _ (subst (λ (k : ℕ). test k ≡ true) (eqb-true n m hit) e) | inr rest ↦ or_right (test m) _ (among test n ns rest e) ]

pub repack_lasts : (t f id : ℕ) (o : Option Repack) → some_lasts t (repack_pins f id o) ≡ not (is_empty (repack_pins f id o))
repack_lasts t f id None = refl
repack_lasts t f id (Some r) = by (list_any (λ (i : RepackCopy). i.file == f && is_live_item i.state) r.items)
  where
    by : (b : Bool) → some_lasts t (if b then record { owner = id; until = None } ∷ [] else []) ≡ not (is_empty {A = Pin} (if b then record { owner = id; until = None } ∷ [] else []))
    by true = refl
    by false = refl

pinned_by : (site : Site) (h : History) (t f : ℕ) → is_pinned site h t f ≡ (list_any (λ id. stage_pins_by site h t f id) (requests_made h) || list_any (λ id. repack_pins_by site h f id) (repacks_made h))
pinned_by site h t f =
    list_any-append (λ (p : Pin). is_above t p.until) (flat_map (λ id. stage_pins f id (request_of site h id)) (requests_made h)) (flat_map (λ id. repack_pins f id (repack_of site h id)) (repacks_made h))
    ∙ rw (any_flat_map (λ (p : Pin). is_above t p.until) (λ id. stage_pins f id (request_of site h id)) (requests_made h), any_flat_map (λ (p : Pin). is_above t p.until) (λ id. repack_pins f id (repack_of site h id)) (repacks_made h))
    (ap (λ (b : Bool). list_any (λ id. stage_pins_by site h t f id) (requests_made h) || b) (any_same (λ id. some_lasts t (repack_pins f id (repack_of site h id))) (λ id. repack_pins_by site h f id) (repacks_made h) (λ id. repack_lasts t f id (repack_of site h id))))

pub pinned_found : (site : Site) (h : History) (t f : ℕ) → is_pinned site h t f ≡ true → (id : ℕ) × (pins_by site h t f id ≡ true)
pinned_found site h t f e =
    elim (or_cases (list_any (λ id. stage_pins_by site h t f id) (requests_made h)) _ (sym (pinned_by site h t f) ∙ e)) [
      | inl s ↦ (let x = some_of (λ id. stage_pins_by site h t f id) (requests_made h) s in (x.0, or_left (stage_pins_by site h t f x.0) _ x.1))
      | inr r ↦ (let x = some_of (λ id. repack_pins_by site h f id) (repacks_made h) r in (x.0, or_right (stage_pins_by site h t f x.0) _ x.1))
    ]

pub stage_there : (t f id : ℕ) (o : Option StageRequest) → some_lasts t (stage_pins f id o) ≡ true → is_some o ≡ true
stage_there t f id None e = absurd (cc)
stage_there t f id (Some r) e = refl

pub repack_there : (f id : ℕ) (o : Option Repack) → not (is_empty (repack_pins f id o)) ≡ true → is_some o ≡ true
repack_there f id None e = absurd (cc)
repack_there f id (Some r) e = refl

pub pinned_from : (site : Site) (h : History) (t f id : ℕ) → pins_by site h t f id ≡ true → is_pinned site h t f ≡ true
pinned_from site h t f id e =
    pinned_by site h t f
    ∙ elim (or_cases (stage_pins_by site h t f id) (repack_pins_by site h f id) e) [
      | inl s ↦ or_left (list_any (λ n. stage_pins_by site h t f n) (requests_made h)) _ (among (λ n. stage_pins_by site h t f n) id (requests_made h) (request_made site h id (stage_there t f id (request_of site h id) s)) s)
      | inr r ↦ or_right (list_any (λ n. stage_pins_by site h t f n) (requests_made h)) _ (among (λ n. repack_pins_by site h f n) id (repacks_made h) (repack_made site h id (repack_there f id (repack_of site h id) r)) r)
    ]

-- ---- a live file that is away is pinned by no request

above_less : (s t : ℕ) (o : Option ℕ) → s ≤ t → is_above t o ≡ true → is_above s o ≡ true
above_less s t None low e = refl
above_less s t (Some end) low e = (let x : t < end = ltb-true t end e in lt-ltb s end (omega arith))

lasts_less : (s t : ℕ) (ps : List Pin) → s ≤ t → some_lasts t ps ≡ true → some_lasts s ps ≡ true
lasts_less s t [] low e = absurd (cc)
lasts_less s t (p ∷ ps) low e = elim (or_cases (is_above t p.until) (some_lasts t ps) e) [ inl hit ↦ or_left (is_above s p.until) _ (above_less s t p.until low hit) | inr rest ↦ or_right (is_above s p.until) _ (lasts_less s t ps low rest) ]

-- where a live file is away behind an entry, the entry does not bring it in, and it was away or the entry evicts it
pub away_cases : (e : Entry) (h : History) (f : ℕ) → is_live (e ∷ h) f ≡ true → is_resident (e ∷ h) f ≡ false → (brings_in e.ask e.answer (length h + 1) f ≡ false) × ((is_resident h f ≡ false) ⊎ (evicts e.ask e.answer f ≡ true))
away_cases e h f live away = (
  not_true _ (λ b. (let here : is_resident (e ∷ h) f ≡ true = resident_by (e ∷ h) f live (arrives (evicts e.ask e.answer f) (length h + 1) (last_arrival h f) (brings_in e.ask e.answer (length h + 1) f) b) in absurd (cc))),
  elim (bool_cases (evicts e.ask e.answer f)) [
    | inl out ↦ inr out
    | inr stays ↦ inl (not_true _ (λ was. (let here : is_resident (e ∷ h) f ≡ true = resident_by (e ∷ h) f live (arrival_kept (brings_in e.ask e.answer (length h + 1) f) (evicts e.ask e.answer f) (length h + 1) (last_arrival h f) (resident_parts h f was).1 (ap not stays)) in absurd (cc))))
  ],
)

evicted_free : (site : Site) (h : History) (e : Entry) (t f id : ℕ) → IsNext site h e → evicts e.ask e.answer f ≡ true → e.at ≤ t → stage_pins_by site h t f id ≡ false
evicted_free site h e t f id next out now =
    not_true _ (λ p.
    (let at : moment_of h e.at ≡ e.at = (let low : last_moment h ≤ e.at = next.later in omega arith) in
    let earlier : stage_pins_by site h e.at f id ≡ true = lasts_less e.at t (stage_pins f id (request_of site h id)) now p in
    let pinned : is_pinned site h e.at f ≡ true = pinned_from site h e.at f id (or_left (stage_pins_by site h e.at f id) _ earlier) in
    let unpinned : is_pinned site h (moment_of h e.at) f ≡ false = evicts_unpinned site h e.at e.ask e.answer f next.answered out in
    let bad : is_pinned site h e.at f ≡ false = subst (λ (n : ℕ). is_pinned site h n f ≡ false) at unpinned in
    absurd (cc)))

-- a Stage pins no file that is away, and evicts nothing
none_staged : (site : Site) (h : History) (at t f : ℕ) (k : Ask) (a : Answer) → (is_resident h f ≡ false) ⊎ (evicts k a f ≡ true) → list_any (λ (s : StageFile). is_number f s.file && (is_resident h f && nat_lt t (at + s.lifetime))) (staged_by site h k) ≡ false
none_staged site h at t f (ask.Stage who files) a c = elim c [ inl away ↦ none (staged_by site h (ask.Stage who files)) away | inr out ↦ (let bad : false ≡ true = out in absurd (cc)) ]
  where
    none : (ss : List StageFile) → is_resident h f ≡ false → list_any (λ (s : StageFile). is_number f s.file && (is_resident h f && nat_lt t (at + s.lifetime))) ss ≡ false
    none [] away = refl
    none (s ∷ ss) away = rw (ap (λ (b : Bool). is_number f s.file && (b && nat_lt t (at + s.lifetime))) away ∙ and_none (is_number f s.file), none ss away) refl
none_staged site h at t f _ a c = refl

pub away_unpinned : (site : Site) (h : History) → IsLegal site h → (t f id : ℕ) → is_live h f ≡ true → is_resident h f ≡ false → last_moment h ≤ t → stage_pins_by site h t f id ≡ false
away_unpinned site [] legal t f id live away now = refl
away_unpinned site (e ∷ h) legal t f id live away now =
    let c = away_cases e h f live away in
    elim (live_cases e h f live) [
      | inr brings ↦ (let no_way : brings_in e.ask e.answer (length h + 1) f ≡ false = c.0 in absurd (cc))
      | inl old ↦
          elim (bool_cases (length h + 1 == id)) [
            | inl new ↦ subst (λ (n : ℕ). stage_pins_by site (e ∷ h) t f n ≡ false) (eqb-true _ _ new) (stage_pins_newest site h e t f ∙ none_staged site h e.at t f e.ask e.answer c.1)
            | inr older ↦
                (let before : stage_pins_by site h t f id ≡ false = elim c.1 [
                  | inl was ↦ away_unpinned site h legal.0 t f id old.1 was (let low : last_moment h ≤ e.at = legal.1.later in omega arith)
                  | inr out ↦ evicted_free site h e t f id legal.1 out now
                ] in
                stage_pins_older site h e t f id legal older c.0 ∙ ap (λ (b : Bool). not (frees_path e.ask id (path_of h f)) && b) before ∙ and_none (not (frees_path e.ask id (path_of h f))))
          ]
    ]

pub away_is_unpinned : AwayIsUnpinned
away_is_unpinned site h legal f id t live away now = away_unpinned site h legal t f id live away now

-- ---- a file that a recall brings in

-- a completed recall lives no more
pub recall_ends : (site : Site) (h : History) (e : Entry) (m : ℕ) (job : Job) → IsLegal site (e ∷ h) → e.ask ≡ ask.Recalled m job → e.answer ≡ answer.Arrived fate.Done → live_recall site (e ∷ h) job.file ≡ None
recall_ends site h e m job legal ek ea =
    let is : answer.Arrived fate.Done ≡ answer_of site h e.at (ask.Recalled m job) = sym ea ∙ legal.1.answered ∙ ap (answer_of site h e.at) ek in
    let copy : job.copy ≡ 0 = recalled_copy site h legal.0 e.at m job (answer.Arrived fate.Done) is refl (fit_reads site h e legal.1 (ask.Recalled m job) ek m job refl) in
    by (live_recall site h job.file) refl (done_live site h e.at m job is copy) copy
  where
    by : (o : Option Recall) → live_recall site h job.file ≡ o → is_number job.birth (birth_in o) ≡ true → job.copy ≡ 0 → live_recall site (e ∷ h) job.file ≡ None
    by None on live copy = absurd (cc)
    by (Some r) on live copy =
        (let same : same_job job (recall_job r.birth job.file) ≡ true = same_recall job r.birth job.file (eqb-true _ _ live) refl copy in
        ap (recall_after site h e job.file) on
        ∙ ap (λ (k : Ask). recall_goes_on site h e job.file r k e.answer) ek
        ∙ ap (λ (a : Answer). recall_goes_on site h e job.file r (ask.Recalled m job) a) ea
        ∙ ap (λ (b : Bool). lives_unless b r) same)

waiting_done : (site : Site) (h : History) (e : Entry) (id t f : ℕ) (s : RequestFile) (o : Option ℕ) (m : ℕ) (job : Job) → e.ask ≡ ask.Recalled m job → live_recall site (e ∷ h) f ≡ None → s.file ≡ o → waits s.state ≡ true → keeps t f (waiting_after site h e id s o) ≡ will_keep e.at t f s
waiting_done site h e id t f s None m job ek gone is w = other_keeping t f s (ap (is_number f) is) ∙ sym (and_no (waits s.state && is_number f s.file) _ (ap (λ (b : Bool). waits s.state && b) (ap (is_number f) is) ∙ and_none (waits s.state)))
waiting_done site h e id t f s (Some g) m job ek gone is w =
    elim (bool_cases (f == g)) [
      | inr miss ↦
          (let old : is_number f s.file ≡ false = ap (is_number f) is ∙ miss in
          other_keeping t f (waiting_after site h e id s (Some g)) (ap (is_number f) (waiting_same site h e id s (Some g)).file ∙ old) ∙ sym (and_no (waits s.state && is_number f s.file) _ (ap (λ (b : Bool). waits s.state && b) old ∙ and_none (waits s.state))))
      | inl hit ↦
          (let same : f ≡ g = eqb-true f g hit in
          let to : waiting_after site h e id s (Some g) ≡ finished s file.Completed e.at None =
          subst (λ (n : ℕ). waiting_after site h e id s (Some n) ≡ finished s file.Completed e.at None) same
          (rw (ap (λ (k : Ask). cancels k id s.path) ek, gone) (ap (λ (k : Ask). after_recall site h e k f s) ek)) in
          let named : is_number f s.file ≡ true = ap (is_number f) is ∙ hit in
          ap (keeps t f) to ∙ by (is_number f s.file) (waits s.state) named w)
    ]
  where
    by : (a b : Bool) → a ≡ true → b ≡ true → ((a && not s.released) && nat_lt t (e.at + s.lifetime)) ≡ ((b && a) && (not s.released && nat_lt t (e.at + s.lifetime)))
    by true true x y = refl
    by true false x y = absurd (cc)
    by false b x y = absurd (cc)

moved_done : (site : Site) (h : History) (e : Entry) (id t f : ℕ) (s : RequestFile) (state : FileState) (m : ℕ) (job : Job) → s.state ≡ state → e.ask ≡ ask.Recalled m job → live_recall site (e ∷ h) f ≡ None → keeps t f s ≡ false → keeps t f (moved_by site h e id s state) ≡ will_keep e.at t f s
moved_done site h e id t f s file.Submitted m job is ek gone none = waiting_done site h e id t f s s.file m job ek gone refl (ap waits is)
moved_done site h e id t f s file.Started m job is ek gone none = waiting_done site h e id t f s s.file m job ek gone refl (ap waits is)
moved_done site h e id t f s file.Completed m job is ek gone none = none ∙ sym (and_no (waits s.state && is_number f s.file) _ (and_no (waits s.state) _ (ap waits is)))
moved_done site h e id t f s file.Failed m job is ek gone none = none ∙ sym (and_no (waits s.state && is_number f s.file) _ (and_no (waits s.state) _ (ap waits is)))
moved_done site h e id t f s file.Cancelled m job is ek gone none = none ∙ sym (and_no (waits s.state && is_number f s.file) _ (and_no (waits s.state) _ (ap waits is)))

any_done : (site : Site) (h : History) (e : Entry) (id t f : ℕ) (m : ℕ) (job : Job) (ss : List RequestFile) → e.ask ≡ ask.Recalled m job → live_recall site (e ∷ h) f ≡ None → list_any (keeps t f) ss ≡ false → list_any (λ s. keeps t f (file_after site h e id s)) ss ≡ list_any (will_keep e.at t f) ss
any_done site h e id t f m job [] ek gone none = refl
any_done site h e id t f m job (s ∷ ss) ek gone none =
    let d = or_parts (keeps t f s) (list_any (keeps t f) ss) none in
    rw (
      released_keeps t f (releases e.ask id s.path) (moved_by site h e id s s.state)
          ∙ ap (λ (k : Ask). not (releases k id s.path) && keeps t f (moved_by site h e id s s.state)) ek
          ∙ moved_done site h e id t f s s.state m job refl ek gone d.0,
      any_done site h e id t f m job ss ek gone d.1,
    ) refl

done_by : (site : Site) (h : History) (e : Entry) (t f id m : ℕ) (job : Job) (o : Option StageRequest) → e.ask ≡ ask.Recalled m job → live_recall site (e ∷ h) f ≡ None → list_any (keeps t f) (files_in o) ≡ false → list_any (keeps t f) (files_in (request_after site h e id o)) ≡ list_any (will_keep e.at t f) (files_in o)
done_by site h e t f id m job None ek gone none = refl
done_by site h e t f id m job (Some r) ek gone none = rw (ap (drops id) ek) (any_map (keeps t f) (file_after site h e id) r.files ∙ any_done site h e id t f m job r.files ek gone none)

-- a completed recall pins its file for each older request that waits for it and has not released it
pub stage_pins_recalled : (site : Site) (h : History) (e : Entry) (t id m : ℕ) (job : Job) → IsLegal site (e ∷ h) → e.ask ≡ ask.Recalled m job → e.answer ≡ answer.Arrived fate.Done → is_live h job.file ≡ true → is_resident h job.file ≡ false → e.at ≤ t → (length h + 1 == id) ≡ false
    → stage_pins_by site (e ∷ h) t job.file id ≡ list_any (will_keep e.at t job.file) (files_in (request_of site h id))
stage_pins_recalled site h e t id m job legal ek ea live away now old =
    let none : stage_pins_by site h t job.file id ≡ false = away_unpinned site h legal.0 t job.file id live away (let low : last_moment h ≤ e.at = legal.1.later in omega arith) in
    pins_are t job.file id (request_of site (e ∷ h) id)
    ∙ rw old (done_by site h e t job.file id m job (request_of site h id) ek (recall_ends site h e m job legal ek ea) (sym (pins_are t job.file id (request_of site h id)) ∙ none))
