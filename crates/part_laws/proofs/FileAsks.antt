-- The calls of the buffer for a Put, a Delete, a Claim, and for asks that call nothing.
use Rattle.std.proofs.Common.{◌≡◌, ℕ, ◌+◌, ◌≤◌, inl, inr, List, [], ◌∷◌, ◌++◌, Bool, true, false, not, refl, sym, ◌∙◌, ap, subst, arith, length}
use Rattle.std.specs.Prelude.{Option, Some, None, if◌then◌else◌, ◌==◌, ◌&&◌, option_to_list, bytes_eq}
use Rattle.std.specs.List.{list_any}
use Rattle.std.proofs.lemmas.Bool.{and_parts, eqb-true}
use Rattle.blob.specs.declared.sum.Sum256.{Sum256}
use Rattle.cta_site.specs.declared.site.Site.{Site}
use Rattle.cta_site.specs.Listed.{Listed, rows}
use Rattle.cta_model.specs.declared.entries.Entry.{Entry}
use Rattle.cta_model.specs.declared.asks.Ask.{Ask}
use Rattle.cta_model.specs.declared.asks.Ask.TheVariants as ask
use Rattle.cta_model.specs.declared.asks.Direction.{Direction}
use Rattle.cta_model.specs.declared.asks.Direction.TheVariants as direction
use Rattle.cta_model.specs.declared.asks.Item.{Item}
use Rattle.cta_model.specs.declared.asks.Who.{Who}
use Rattle.cta_model.specs.declared.answers.Answer.{Answer}
use Rattle.cta_model.specs.declared.answers.Answer.TheVariants as answer
use Rattle.cta_model.specs.declared.states.Mount.{Mount}
use Rattle.cta_model.specs.declared.states.RequestFile.{RequestFile}
use Rattle.cta_model.specs.History.{History, has_number, is_number, last_moment, moment_of}
use Rattle.cta_model.specs.Files.{live_file, live_after, path_of}
use Rattle.cta_model.specs.Mounts.{mount_of, is_mount, job_of}
use Rattle.cta_model.specs.Tapes.{size_of_items}
use Rattle.cta_model.specs.Jobs.{ends_archive}
use Rattle.cta_model.specs.Buffer.{is_resident, evicted_in as evicted_by}
use Rattle.cta_model.specs.RepackItems.{items_named}
use Rattle.cta_model.specs.Stages.{StageRequest, drops, file_after, request_after, request_of}
use Rattle.cta_model.specs.Space.{evicted_for}
use Rattle.cta_model.specs.Answers.{answer_of, is_accepted, batch_answer}
use Rattle.cta_model.specs.Batches.{batch_of}
use Rattle.cta_model.specs.Legal.{IsLegal, IsMountOf}
use Rattle.cta_laws.specs.Claims.{claimed_by, reads}
use Rattle.cta_laws.specs.Pins.{frees_path, keeps, pins_by, stage_pins_by}
use Rattle.cta_laws.proofs.Tests.{bool_cases, or_right, or_cases}
use Rattle.cta_laws.proofs.Bools.{and_none, or_none}
use Rattle.cta_laws.proofs.Claims.{AllOf}
use Rattle.cta_laws.proofs.Ranges.{any_map}
use Rattle.cta_laws.proofs.JobLaw.{not_true}
use Rattle.cta_laws.proofs.FseqLaw.{way_of}
use Rattle.cta_laws.proofs.PlaceLaw.{named_within}
use Rattle.cta_laws.proofs.JobFiles.{resident_parts}
use Rattle.cta_laws.proofs.Requests.{files_in}
use Rattle.cta_laws.proofs.Accepted.{answer_is}
use Rattle.cta_laws.specs.Asks.{AnswerIs}
use Rattle.cta_laws.proofs.Waiting.{FileStands, after_same, files_stand}
use Rattle.cta_laws.proofs.StagePins.{pins_are, staged_by}
use Rattle.part_model.specs.declared.space.Resident.{Resident}
use Rattle.part_model.specs.declared.space.HeldPin.{HeldPin}
use Rattle.part_model.specs.Held.{ArePinsHeld, Held, HeldAgree, enter, evict, evicted_for as evicted_in, hold, pins_in, pins_without, remove, without}
use Rattle.part_laws.specs.Buffer.{entering, leaving, residents, touches}
use Rattle.part_laws.proofs.After.{aside_after}
use Rattle.part_laws.specs.Held.{IsHeld}
use Rattle.part_laws.proofs.Residents.{keeps_file, live_is, put_tells}
use Rattle.part_laws.proofs.Asks.{claim_files, delete_files, none_leaves, put_files}
use Rattle.part_laws.proofs.Rows.{read_reads, write_reads}
use Rattle.part_laws.proofs.Told.{evicted_is}
use Rattle.part_laws.proofs.OwnerPins.{pinned_low, repack_less}
use Rattle.part_laws.specs.BufferCalls.{after_claim}
use Rattle.part_laws.proofs.PinLists.{stays_in, taken_off}
use Rattle.part_laws.proofs.Stands.{IsQuiet, Stayed, away_no_pin, files_still, held_by, none_enters, none_new, quiet_stand, stayed}

pub answered : (site : Site) (h : History) (e : Entry) (k : Ask) → IsLegal site (e ∷ h) → e.ask ≡ k → AnswerIs site h (moment_of h e.at) k e.answer
answered site h e k legal ek = subst (λ (k : Ask). AnswerIs site h (moment_of h e.at) k e.answer) ek (answer_is site h e.at e.ask e.answer legal.1.answered legal.1.accepted)

pub at_is : (site : Site) (h : History) (e : Entry) → IsLegal site (e ∷ h) → moment_of h e.at ≡ e.at
at_is site h e legal = (let low : last_moment h ≤ e.at = legal.1.later in omega arith)

-- an ask of this kind is quiet
pub quiet_by : (site : Site) (h : History) (e : Entry) (k : Ask) → e.ask ≡ k → staged_by site h k ≡ [] → items_named k e.answer ≡ [] → ((id : ℕ) (path : List ℕ) → frees_path k id path ≡ false) → ((f c b : ℕ) → is_resident (e ∷ h) f ≡ true → ends_archive site h k e.answer (job_of b f c) ≡ false) → IsQuiet site h e
quiet_by site h e k ek stages names frees ends = record {
  gentle = record { frees = λ id p. ap (λ (x : Ask). frees_path x id p) ek ∙ frees id p; ends = λ f c b here. ap (λ (x : Ask). ends_archive site h x e.answer (job_of b f c)) ek ∙ ends f c b here };
  stages = ap (staged_by site h) ek ∙ stages;
  names = ap (λ (x : Ask). items_named x e.answer) ek ∙ names;
}

-- the pins of files that do not leave
pub left_pins : (site : Site) (h : History) (e : Entry) (v : Held) (gone : List ℕ) → leaving h e.ask e.answer ≡ gone → (t f id : ℕ) → Stayed site h e f → pins_in (pins_without gone v.pins) t f id ≡ pins_in v.pins t f id
left_pins site h e v gone is t f id s = stays_in gone v.pins t f id (sym (ap (has_number f) is) ∙ s.stays)

-- ---- a file that is yet to come is pinned by nobody

old_file : (site : Site) (h : History) (e : Entry) (id t f : ℕ) (ss : List RequestFile) → AllOf (FileStands site h id) ss → list_any (λ s. keeps t f (file_after site h e id s)) ss ≡ true → f ≤ length h
old_file site h e id t f [] all on = absurd (cc)
old_file site h e id t f (s ∷ ss) all on =
    elim (or_cases (keeps t f (file_after site h e id s)) _ on) [
      | inl hit ↦ (all.0.named f (some_number s.file (sym (ap (is_number f) (after_same site h e id s).file) ∙ (and_parts (is_number f (file_after site h e id s).file) _ (and_parts (is_number f (file_after site h e id s).file && _) _ hit).0).0))).0
      | inr rest ↦ old_file site h e id t f ss all.1 rest
    ]
  where
    some_number : (o : Option ℕ) → is_number f o ≡ true → o ≡ Some f
    some_number None x = absurd (cc)
    some_number (Some g) x = ap (λ (n : ℕ). Some n) (sym (eqb-true f g x))

old_request : (site : Site) (h : History) (e : Entry) (id t f : ℕ) (o : Option StageRequest) → IsLegal site h → request_of site h id ≡ o → list_any (keeps t f) (files_in (request_after site h e id o)) ≡ true → f ≤ length h
old_request site h e id t f None legal is on = absurd (cc)
old_request site h e id t f (Some r) legal is on =
    elim (bool_cases (drops id e.ask)) [
      | inl out ↦ (let bad : false ≡ true = rw out at on in absurd (cc))
      | inr stays ↦ old_file site h e id t f r.files (files_stand site h legal id r is) (sym (any_map (keeps t f) (file_after site h e id) r.files) ∙ (rw stays at on))
    ]

-- an older owner pins files of the history alone
pub old_low : (site : Site) (h : History) (e : Entry) (t f id : ℕ) → IsLegal site (e ∷ h) → (length h + 1 == id) ≡ false → pins_by site (e ∷ h) t f id ≡ true → f ≤ length h
old_low site h e t f id legal old on =
    elim (or_cases (stage_pins_by site (e ∷ h) t f id) _ on) [
      | inl s ↦ old_request site h e id t f (request_of site h id) legal.0 refl (rw old at (sym (pins_are t f id (request_of site (e ∷ h) id)) ∙ s))
      | inr r ↦ pinned_low site h t f id legal.0 (or_right (stage_pins_by site h t f id) _ (repack_less site h e f id old r))
    ]

-- ---- Put

one_number : (f n : ℕ) → has_number f (n ∷ []) ≡ true → f ≡ n
one_number f n e = eqb-true f n (sym (or_none (f == n)) ∙ e)

pub put_moves : (site : Site) (h : History) (e : Entry) (who : Who) (path : List ℕ) (sum : Sum256) (v v' : Held) → IsLegal site (e ∷ h) → e.ask ≡ ask.Put who path sum → IsHeld site h v → ArePinsHeld v → HeldAgree v' (enter (evict v e.at sum.len) (length h + 1) sum.len) → IsHeld site (e ∷ h) v'
put_moves site h e who path sum v v' legal ek is pinned c =
    let tells = put_tells site h e.at who path sum e.answer (legal.1.answered ∙ ap (answer_of site h e.at) ek) legal.1.accepted in
    let gone : evicted_in v e.at sum.len ≡ evicted_for site h (moment_of h e.at) sum.len = evicted_is site h v e.at sum.len is legal.1.later legal.1.within ∙ ap (λ (t : ℕ). evicted_for site h t sum.len) (sym (at_is site h e legal)) in
    let out_of : leaving h e.ask e.answer ≡ evicted_in v e.at sum.len = ap (λ (k : Ask). leaving h k e.answer) ek ∙ ap (evicted_by (ask.Put who path sum)) tells.2 ∙ sym gone in
    let q : IsQuiet site h e = quiet_by site h e (ask.Put who path sum) ek refl refl (λ id p. refl) (λ f c b here. refl) in
    held_by site h e v (enter (evict v e.at sum.len) (length h + 1) sum.len) v' legal is refl
    (ap (λ (g : List ℕ). without g v.files ++ record { file = length h + 1; len = sum.len; safe = false } ∷ []) gone
    ∙ ap (λ (rs : List Resident). without (evicted_for site h (moment_of h e.at) sum.len) rs ++ record { file = length h + 1; len = sum.len; safe = false } ∷ []) is.files
    ∙ sym (put_files site h e who path sum legal ek))
    (sym (ap (λ (k : Ask). aside_after h k e.answer v.aside) ek))
    (quiet_stand site h e v (pins_without (evicted_in v e.at sum.len) v.pins) legal is q (left_pins site h e v (evicted_in v e.at sum.len) out_of) (λ t f id here comes now top. enters t f id q (one_number f (length h + 1) (sym (ap (λ (k : Ask). has_number f (entering h k e.answer)) ek) ∙ comes))))
    c
  where
    unpinned : (t f id : ℕ) → IsQuiet site h e → f ≡ length h + 1 → pins_by site (e ∷ h) t f id ≡ false
    unpinned t f id q same =
        elim (bool_cases (length h + 1 == id)) [
          | inl new ↦ subst (λ (n : ℕ). pins_by site (e ∷ h) t f n ≡ false) (eqb-true _ _ new) (none_new site h e t f q.stages q.names)
          | inr old ↦ not_true _ (λ on. (let low : f ≤ length h = old_low site h e t f id legal old on in absurd (omega arith)))
        ]

    less : (gone : List ℕ) (ps : List HeldPin) (t f id : ℕ) → pins_in ps t f id ≡ false → pins_in (pins_without gone ps) t f id ≡ false
    less gone ps t f id none = taken_off (λ g owner. has_number g gone) ps t f id ∙ ap (λ (b : Bool). not (has_number f gone) && b) none ∙ and_none (not (has_number f gone))

    enters : (t f id : ℕ) → IsQuiet site h e → f ≡ length h + 1 → pins_in (pins_without (evicted_in v e.at sum.len) v.pins) t f id ≡ pins_by site (e ∷ h) t f id
    enters t f id q same =
        (let away : is_resident h f ≡ false = not_true _ (λ here. (let low : f ≤ length h = (named_within h f (path_of h f) (resident_parts h f here).0).1 in absurd (omega arith))) in
        less (evicted_in v e.at sum.len) v.pins t f id (away_no_pin site h v t f id is pinned away) ∙ sym (unpinned t f id q same))

-- ---- Delete

pub delete_moves : (site : Site) (h : History) (e : Entry) (who : Who) (path : List ℕ) (g : ℕ) (v v' : Held) → IsLegal site (e ∷ h) → e.ask ≡ ask.Delete who path → live_file h path ≡ Some g → IsHeld site h v → HeldAgree v' (remove v g) → IsHeld site (e ∷ h) v'
delete_moves site h e who path g v v' legal ek named is c =
    let out_of : leaving h e.ask e.answer ≡ g ∷ [] = ap (λ (k : Ask). leaving h k e.answer) ek ∙ ap option_to_list named in
    let none : entering h e.ask e.answer ≡ [] = ap (λ (k : Ask). entering h k e.answer) ek in
    let q : IsQuiet site h e = quiet_by site h e (ask.Delete who path) ek refl refl (λ id p. refl) (λ f c b here. kept f here none) in
    held_by site h e v (remove v g) v' legal is refl
    (ap (without (g ∷ [])) is.files ∙ sym (delete_files site h e who path g legal ek named))
    (sym (ap (λ (k : Ask). aside_after h k e.answer v.aside) ek))
    (quiet_stand site h e v (pins_without (g ∷ []) v.pins) legal is q (left_pins site h e v (g ∷ []) out_of) (none_enters site h e none (pins_without (g ∷ []) v.pins)))
    c
  where
    kept : (f : ℕ) → is_resident (e ∷ h) f ≡ true → entering h e.ask e.answer ≡ [] → bytes_eq path (path_of h f) ≡ false
    kept f here none =
        (let s = stayed site h e f legal here (ap (has_number f) none) in
        let live : is_number f (live_after (ask.Delete who path) (length h + 1) (path_of h f) (live_file h (path_of h f))) ≡ true = sym (ap (λ (k : Ask). is_number f (live_after k (length h + 1) (path_of h f) (live_file h (path_of h f)))) ek) ∙ sym (live_is e h f s.low) ∙ (resident_parts (e ∷ h) f here).0 in
        keeps_file h (ask.Delete who path) f (length h + 1) live)

-- ---- asks that call nothing, and a Recalled that is told Stale

-- no file enters or leaves, and no flag is set
pub still_moves : (site : Site) (h : History) (e : Entry) (v v' : Held) (aside : ℕ) → IsLegal site (e ∷ h) → IsHeld site h v → IsQuiet site h e → entering h e.ask e.answer ≡ [] → leaving h e.ask e.answer ≡ [] → ((f : ℕ) → touches site h e.ask e.answer f ≡ false) → aside ≡ aside_after h e.ask e.answer v.aside → HeldAgree v' (record v { aside = aside }) → IsHeld site (e ∷ h) v'
still_moves site h e v v' aside legal is q enters leaves touched bytes c =
    held_by site h e v (record v { aside = aside }) v' legal is refl
    (is.files ∙ sym (files_still site h e legal enters leaves touched)) bytes
    (quiet_stand site h e v v.pins legal is q (λ t f id s. refl) (none_enters site h e enters v.pins))
    c

-- ---- Claim

written_answer : (site : Site) (h : History) (t : ℕ) (way : Direction) (b : List Item) (a : Answer) → way ≡ direction.Archive → a ≡ batch_answer site h t way b → is_accepted a ≡ true → a ≡ answer.Batch (rows b) (rows [])
written_answer site h t direction.Archive [] a w e y = absurd (cc)
written_answer site h t direction.Archive (i ∷ b) a w e y = e
written_answer site h t direction.Retrieve b a w e y = absurd (cc)

read_answer : (site : Site) (h : History) (t : ℕ) (way : Direction) (b : List Item) (a : Answer) → way ≡ direction.Retrieve → a ≡ batch_answer site h t way b → is_accepted a ≡ true → a ≡ answer.Batch (rows b) (rows (evicted_for site h t (size_of_items b)))
read_answer site h t direction.Archive b a w e y = absurd (cc)
read_answer site h t direction.Retrieve [] a w e y = absurd (cc)
read_answer site h t direction.Retrieve (i ∷ b) a w e y = e

claim_quiet : (site : Site) (h : History) (e : Entry) (m : ℕ) → e.ask ≡ ask.Claim m → IsQuiet site h e
claim_quiet site h e m ek = quiet_by site h e (ask.Claim m) ek refl refl (λ id p. refl) (λ f c b here. refl)

claim_leaves : (h : History) (e : Entry) (m : ℕ) (items : Listed Item) (evicted : Listed ℕ) → e.ask ≡ ask.Claim m → e.answer ≡ answer.Batch items evicted → leaving h e.ask e.answer ≡ evicted.items
claim_leaves h e m items evicted ek ea = ap (λ (k : Ask). leaving h k e.answer) ek ∙ ap (evicted_by (ask.Claim m)) ea

none_out : (ps : List HeldPin) → pins_without [] ps ≡ ps
none_out [] = refl
none_out (p ∷ ps) = ap (λ (xs : List HeldPin). p ∷ xs) (none_out ps)

-- a writing mount's Claim calls nothing
claim_writes : (site : Site) (h : History) (e : Entry) (m : ℕ) (v v' : Held) → IsLegal site (e ∷ h) → e.ask ≡ ask.Claim m → IsMountOf direction.Archive (mount_of h m) → IsHeld site h v → HeldAgree v' v → IsHeld site (e ∷ h) v'
claim_writes site h e m v v' legal ek way is c =
    let x = answered site h e (ask.Claim m) legal ek in
    let w : x.0.direction ≡ direction.Archive = way_of (mount_of h m) x.0 x.1 way in
    let ea : e.answer ≡ answer.Batch (rows (batch_of site h (moment_of h e.at) x.0)) (rows []) = written_answer site h (moment_of h e.at) x.0.direction (batch_of site h (moment_of h e.at) x.0) e.answer w x.2 legal.1.accepted in
    let not_read : is_mount reads (mount_of h m) ≡ false = write_reads (mount_of h m) way in
    let none : entering h e.ask e.answer ≡ [] = ap (λ (k : Ask). entering h k e.answer) ek in
    held_by site h e v v v' legal is refl
    (is.files ∙ sym (none_leaves (residents site h)) ∙ sym (claim_files site h e m _ _ legal ek ea))
    (sym (ap (λ (k : Ask). aside_after h k e.answer v.aside) ek ∙ ap (λ (b : Bool). if b then v.aside + size_of_items (claimed_by (ask.Claim m) e.answer) else v.aside) not_read))
    (quiet_stand site h e v v.pins legal is (claim_quiet site h e m ek) (λ t f id s. refl) (none_enters site h e none v.pins))
    c

-- a reading mount's Claim evicts for its batch, and holds the bytes of the batch
claim_reads : (site : Site) (h : History) (e : Entry) (m : ℕ) (v v' : Held) → IsLegal site (e ∷ h) → e.ask ≡ ask.Claim m → IsMountOf direction.Retrieve (mount_of h m) → IsHeld site h v → HeldAgree v' (hold (evict v e.at (size_of_items (claimed_by e.ask e.answer))) (size_of_items (claimed_by e.ask e.answer))) → IsHeld site (e ∷ h) v'
claim_reads site h e m v v' legal ek way is c =
    let x = answered site h e (ask.Claim m) legal ek in
    let w : x.0.direction ≡ direction.Retrieve = read_way (mount_of h m) x.0 x.1 way in
    let ea : e.answer ≡ answer.Batch (rows (batch_of site h (moment_of h e.at) x.0)) (rows (evicted_for site h (moment_of h e.at) (size_of_items (batch_of site h (moment_of h e.at) x.0)))) = read_answer site h (moment_of h e.at) x.0.direction (batch_of site h (moment_of h e.at) x.0) e.answer w x.2 legal.1.accepted in
    let is_read : is_mount reads (mount_of h m) ≡ true = read_reads (mount_of h m) way in
    let size : size_of_items (claimed_by e.ask e.answer) ≡ size_of_items (batch_of site h (moment_of h e.at) x.0) = ap (λ (k : Ask). size_of_items (claimed_by k e.answer)) ek ∙ ap (λ (a : Answer). size_of_items (claimed_by (ask.Claim m) a)) ea in
    let gone : evicted_in v e.at (size_of_items (claimed_by e.ask e.answer)) ≡ evicted_for site h (moment_of h e.at) (size_of_items (batch_of site h (moment_of h e.at) x.0)) =
    evicted_is site h v e.at (size_of_items (claimed_by e.ask e.answer)) is legal.1.later legal.1.within ∙ ap (evicted_for site h e.at) size ∙ ap (λ (t : ℕ). evicted_for site h t (size_of_items (batch_of site h (moment_of h e.at) x.0))) (sym (at_is site h e legal)) in
    let none : entering h e.ask e.answer ≡ [] = ap (λ (k : Ask). entering h k e.answer) ek in
    held_by site h e v (hold (evict v e.at (size_of_items (claimed_by e.ask e.answer))) (size_of_items (claimed_by e.ask e.answer))) v' legal is refl
    (ap (λ (g : List ℕ). without g v.files) gone ∙ ap (without (evicted_for site h (moment_of h e.at) (size_of_items (batch_of site h (moment_of h e.at) x.0)))) is.files ∙ sym (claim_files site h e m _ _ legal ek ea))
    (ap (λ (k : Ask). v.aside + size_of_items (claimed_by k e.answer)) ek ∙ sym (ap (λ (k : Ask). aside_after h k e.answer v.aside) ek ∙ ap (λ (b : Bool). if b then v.aside + size_of_items (claimed_by (ask.Claim m) e.answer) else v.aside) is_read))
    (quiet_stand site h e v _ legal is (claim_quiet site h e m ek) (left_pins site h e v _ (claim_leaves h e m _ _ ek ea ∙ sym gone)) (none_enters site h e none _))
    c
  where
    read_way : (o : Option Mount) (x : Mount) → o ≡ Some x → IsMountOf direction.Retrieve o → x.direction ≡ direction.Retrieve
    read_way o x is way = subst (λ (p : Option Mount). IsMountOf direction.Retrieve p) is way

pub claim_moves : (site : Site) (h : History) (e : Entry) (m : ℕ) (x : Mount) (d : Direction) (v v' : Held) → IsLegal site (e ∷ h) → e.ask ≡ ask.Claim m → mount_of h m ≡ Some x → x.direction ≡ d → IsHeld site h v → HeldAgree v' (after_claim e d v) → IsHeld site (e ∷ h) v'
claim_moves site h e m x direction.Archive v v' legal ek mounted way is c = claim_writes site h e m v v' legal ek (subst (λ (o : Option Mount). IsMountOf direction.Archive o) (sym mounted) way) is c
claim_moves site h e m x direction.Retrieve v v' legal ek mounted way is c = claim_reads site h e m v v' legal ek (subst (λ (o : Option Mount). IsMountOf direction.Retrieve o) (sym mounted) way) is c
