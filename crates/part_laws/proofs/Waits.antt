-- Who waits for a recall: requests that named its file, and repacks. So a request that is dropped is taken from the recalls of the files
-- that its paths name.
use Rattle.std.proofs.Common.{◌≡◌, ◌∙◌, ℕ, ◌+◌, ◌≤◌, inl, inr, List, [], ◌∷◌, ◌++◌, Bool, true, false, not, refl, ap, subst, arith, length}
use Rattle.std.specs.Prelude.{Option, Some, None, is_some, if◌then◌else◌, ◌==◌, filter, bytes_eq}
use Rattle.std.specs.List.{list_any}
use Rattle.std.proofs.lemmas.Bool.{and_parts, eq-eqb}
use Rattle.std.proofs.lemmas.Slice.Eq.{bytes_eq-Decides}
use Rattle.cta_site.specs.declared.site.Site.{Site}
use Rattle.cta_model.specs.declared.entries.Entry.{Entry}
use Rattle.cta_model.specs.declared.asks.Ask.{Ask}
use Rattle.cta_model.specs.declared.answers.Answer.{Answer}
use Rattle.cta_model.specs.declared.asks.Who.{Who}
use Rattle.cta_model.specs.declared.asks.Wanted.{Wanted}
use Rattle.cta_model.specs.History.{History, entry_of, is_number, has_number, has_text, is_empty}
use Rattle.cta_model.specs.Files.{live_file, is_live, path_of}
use Rattle.cta_model.specs.Mounts.{same_job}
use Rattle.cta_model.specs.Places.{places_of}
use Rattle.cta_model.specs.Charges.{is_last_charge}
use Rattle.cta_model.specs.Recalls.{Recall, live_recall, recall_after, recall_goes_on, recall_job, lives_unless, subscribed, unsubscribed, left_with, names_file, waits_for, bears_recall}
use Rattle.cta_model.specs.Stages.{StageRequest, request_of}
use Rattle.part_laws.proofs.Requested.{asks_for, asks_path, request_has}
use Rattle.cta_model.specs.Legal.{IsLegal}
use Rattle.cta_laws.proofs.Tests.{bool_cases, or_cases, or_left, or_right}
use Rattle.cta_laws.proofs.Claims.{AllOf, all_append, all_filter, all_mono}
use Rattle.cta_laws.proofs.PlaceLaw.{path_older, named_within}
use Rattle.cta_laws.proofs.ResidentLaw.{recall_live, born_live}
use Rattle.cta_model.specs.declared.asks.Ask.TheVariants as ask
use Rattle.cta_model.specs.declared.asks.Fate.TheVariants as fate
use Rattle.cta_model.specs.declared.answers.Answer.TheVariants as answer
use Rattle.cta_laws.proofs.Sums.{entry_older}
use Rattle.part_laws.proofs.CancelParts.{last_are, named_has, number_some}
use Rattle.cta_laws.proofs.JobFiles.{live_path}
use Rattle.part_laws.proofs.ReadParts.{parts_drop}
use Rattle.part_laws.specs.JobParts.{JobParts, JobPartsStand}
use Rattle.part_laws.specs.Ends.{file_paths, last_recalls, named_files}
use Rattle.cta_laws.proofs.LostLaw.{number_among}
use Rattle.part_laws.specs.RecallParts.{after_unsubscribed}

abbrev IsAsker : History → ℕ → ℕ → Type 0
IsAsker h f s = (s ≤ length h) × (asks_for (entry_of h s) (path_of h f) ≡ true)

-- some entry waits for a live recall, and each that waits has asked for the file's path
abbrev pub AreAskers : History → ℕ → Option Recall → Type 0
AreAskers h f None = Unit {0}
AreAskers h f (Some r) = (is_empty r.waiting ≡ false) × AllOf (IsAsker h f) r.waiting

asker_older : (e : Entry) (h : History) (f s : ℕ) → f ≤ length h → IsAsker h f s → IsAsker (e ∷ h) f s
asker_older e h f s low p =
    (let slow : s ≤ length h = p.0 in
    (omega arith, ap (λ (o : Option Entry). asks_for o (path_of (e ∷ h) f)) (entry_older e h s slow) ∙ ap (asks_for (entry_of h s)) (path_older e h f low) ∙ p.1))

wanted_path : (h : History) (f : ℕ) (ws : List Wanted) → names_file h f ws ≡ true → list_any (λ (w : Wanted). bytes_eq (path_of h f) w.path) ws ≡ true
wanted_path h f [] e = absurd (cc)
wanted_path h f (w ∷ ws) e =
    elim (or_cases (is_number f (live_file h w.path)) (names_file h f ws) e) [
      | inl hit ↦ or_left (bytes_eq (path_of h f) w.path) _ ((bytes_eq-Decides (path_of h f) w.path).1 (live_path h w.path f (number_some f (live_file h w.path) hit)))
      | inr rest ↦ or_right (bytes_eq (path_of h f) w.path) _ (wanted_path h f ws rest)
    ]

waits_asks : (site : Site) (h : History) (k : Ask) (f : ℕ) → waits_for site h k f ≡ true → asks_path k (path_of h f) ≡ true
waits_asks site h (ask.Stage who files) f w = wanted_path h f files.items w
waits_asks site h (ask.Repack who v) f w = refl
waits_asks site h _ f w = absurd (cc)

newest_asks : (site : Site) (h : History) (e : Entry) (f : ℕ) → f ≤ length h → waits_for site h e.ask f ≡ true → IsAsker (e ∷ h) f (length h + 1)
newest_asks site h e f low w =
    (let newest : entry_of (e ∷ h) (length h + 1) ≡ Some e = rw (eq-eqb (length h + 1) (length h + 1) refl) refl in
    (omega arith, ap (λ (o : Option Entry). asks_for o (path_of (e ∷ h) f)) newest ∙ ap (asks_path e.ask) (path_older e h f low) ∙ waits_asks site h e.ask f w))

some_more : (ns : List ℕ) (n : ℕ) → is_empty (ns ++ n ∷ []) ≡ false
some_more [] n = refl
some_more (m ∷ ns) n = refl

left_askers : (h : History) (f birth : ℕ) (ss : List ℕ) → AllOf (IsAsker h f) ss → AreAskers h f (left_with birth ss)
left_askers h f birth [] all = tt
left_askers h f birth (s ∷ ss) all = (refl, all)

subscribed_askers : (site : Site) (h : History) (e : Entry) (f : ℕ) (r : Recall) (t : Bool) → (t ≡ true → IsAsker (e ∷ h) f (length h + 1)) → AreAskers (e ∷ h) f (Some r) → AreAskers (e ∷ h) f (Some (subscribed t (length h + 1) r))
subscribed_askers site h e f r true asks was = (some_more r.waiting (length h + 1), all_append (IsAsker (e ∷ h) f) r.waiting ((length h + 1) ∷ []) was.1 (asks refl, tt))
subscribed_askers site h e f r false asks was = was

unless_askers : (h : History) (f : ℕ) (r : Recall) (t : Bool) → AreAskers h f (Some r) → AreAskers h f (lives_unless t r)
unless_askers h f r true was = tt
unless_askers h f r false was = was

goes_on_askers : (site : Site) (h : History) (e : Entry) (f : ℕ) (r : Recall) (k : Ask) (a : Answer) → e.ask ≡ k → f ≤ length h → AreAskers (e ∷ h) f (Some r) → AreAskers (e ∷ h) f (recall_goes_on site h e f r k a)
goes_on_askers site h e f r (ask.Stage who files) a ek low was = subscribed_askers site h e f r (waits_for site h (ask.Stage who files) f) (λ w. newest_asks site h e f low (ap (λ (k : Ask). waits_for site h k f) ek ∙ w)) was
goes_on_askers site h e f r (ask.Repack who v) a ek low was = subscribed_askers site h e f r (waits_for site h (ask.Repack who v) f) (λ w. newest_asks site h e f low (ap (λ (k : Ask). waits_for site h k f) ek ∙ w)) was
goes_on_askers site h e f r (ask.Cancel who id paths) a ek low was =
    elim (has_text (path_of h f) paths.items) as (λ t. AreAskers (e ∷ h) f (if t then unsubscribed id r else Some r))
    [ true ↦ left_askers (e ∷ h) f r.birth _ (all_filter (IsAsker (e ∷ h) f) (λ s. not (s == id)) r.waiting was.1) | false ↦ was ]
goes_on_askers site h e f r (ask.DropStage who id) a ek low was = left_askers (e ∷ h) f r.birth _ (all_filter (IsAsker (e ∷ h) f) (λ s. not (s == id)) r.waiting was.1)
goes_on_askers site h e f r (ask.Recalled m job) (answer.Arrived fate.Done) ek low was = unless_askers (e ∷ h) f r (same_job job (recall_job r.birth f)) was
goes_on_askers site h e f r (ask.Failed m fault charged returned) a ek low was = unless_askers (e ∷ h) f r (is_last_charge site h (ask.Failed m fault charged returned) (recall_job r.birth f)) was
goes_on_askers site h e f r (ask.Delete who path) a ek low was = unless_askers (e ∷ h) f r (bytes_eq path (path_of h f)) was
goes_on_askers site h e f r (ask.TapeState who v s) a ek low was = unless_askers (e ∷ h) f r (is_empty (places_of site (e ∷ h) f)) was
goes_on_askers site h e f r _ a ek low was = was

askers_step : (site : Site) (h : History) (e : Entry) (f : ℕ) → IsLegal site h → (o : Option Recall) → live_recall site h f ≡ o → AreAskers h f o → AreAskers (e ∷ h) f (recall_after site h e f o)
askers_step site h e f legal None is was =
    elim (bool_cases (bears_recall site h e.ask f)) [
      | inr d ↦ rw d tt
      | inl b ↦ (let low : f ≤ length h = (named_within h f (path_of h f) (born_live site h e.ask f b)).1 in rw b (refl, (newest_asks site h e f low (and_parts (waits_for site h e.ask f) _ b).0, tt)))
    ]
askers_step site h e f legal (Some r) is was =
    (let low : f ≤ length h = (named_within h f (path_of h f) (recall_live site h legal f (ap is_some is))).1 in
    goes_on_askers site h e f r e.ask e.answer refl low (was.0, all_mono (IsAsker h f) (IsAsker (e ∷ h) f) r.waiting (λ s p. asker_older e h f s low p) was.1))

pub askers : (site : Site) (h : History) → IsLegal site h → (f : ℕ) → AreAskers h f (live_recall site h f)
askers site [] legal f = tt
askers site (e ∷ h) legal f = askers_step site h e f legal.0 (live_recall site h f) refl (askers site h legal.0 f)

-- ---- a request that does not wait

none_gone : (id : ℕ) (ss : List ℕ) → has_number id ss ≡ false → filter (λ s. not (s == id)) ss ≡ ss
none_gone id [] d = refl
none_gone id (s ∷ ss) d =
    elim (bool_cases (id == s)) [
      | inl hit ↦ (let bad : true ≡ false = rw hit at d in absurd (cc))
      | inr miss ↦ (let other : (s == id) ≡ false = grind arith in rw other (ap (λ (xs : List ℕ). s ∷ xs) (none_gone id ss (rw miss at d))))
    ]

left_same : (birth : ℕ) (ss : List ℕ) → is_empty ss ≡ false → left_with birth ss ≡ Some (record { birth = birth; waiting = ss })
left_same birth [] d = absurd (cc)
left_same birth (s ∷ ss) d = refl

pub not_waiting : (id : ℕ) (r : Recall) → is_empty r.waiting ≡ false → has_number id r.waiting ≡ false → unsubscribed id r ≡ Some r
not_waiting id r some none = ap (left_with r.birth) (none_gone id r.waiting none) ∙ left_same r.birth r.waiting some

-- ---- DropStage

-- a DropStage moves the parts by the files that the request's paths name
pub parts_drop_by : (site : Site) (h : History) (e : Entry) (who : Who) (id : ℕ) (request : StageRequest) (p : JobParts) → IsLegal site (e ∷ h) → e.ask ≡ ask.DropStage who id → request_of site h id ≡ Some request
    → JobPartsStand site h p → JobPartsStand site (e ∷ h) (after_unsubscribed id (named_files h (file_paths request.files)) (last_recalls site h id (named_files h (file_paths request.files))) p)
parts_drop_by site h e who id request p legal ek made s =
    parts_drop site h e who id (named_files h (file_paths request.files)) (last_recalls site h id (named_files h (file_paths request.files))) p legal ek
    (λ f r is other. others f r is other) (last_are site h id (named_files h (file_paths request.files))) s
  where
    others : (f : ℕ) (r : Recall) → live_recall site h f ≡ Some r → has_number f (named_files h (file_paths request.files)) ≡ false → unsubscribed id r ≡ Some r
    others f r is other =
        (let all : AreAskers h f (Some r) = subst (λ (o : Option Recall). AreAskers h f o) is (askers site h legal.0 f) in
        let live : is_live h f ≡ true = recall_live site h legal.0 f (ap is_some is) in
        elim (bool_cases (has_number id r.waiting)) [
          | inr none ↦ not_waiting id r all.0 none
          | inl waits ↦
              (let asks : IsAsker h f id = number_among (IsAsker h f) r.waiting all.1 id waits in
              let there : has_text (path_of h f) (file_paths request.files) ≡ true = request_has site h id request (path_of h f) made asks.1 in
              let named : has_number f (named_files h (file_paths request.files)) ≡ true = named_has h f (file_paths request.files) live ∙ there in
              absurd (cc))
        ])
