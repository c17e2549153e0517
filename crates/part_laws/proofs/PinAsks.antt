-- The calls of the buffer for a Stage, a Repack and a completed recall, which set pins, and for a Release and a DropStage, which take
-- pins off.
use Rattle.std.proofs.Common.{◌≡◌, ℕ, ◌+◌, ◌≤◌, inl, inr, List, [], ◌∷◌, ◌++◌, Bool, true, false, ◌||◌, not, refl, sym, ◌∙◌, ap, subst, length}
use Rattle.std.specs.Prelude.{Option, Some, None, if◌then◌else◌, ◌==◌, ◌&&◌, nat_lt}
use Rattle.std.specs.List.{list_any, filter_map, flat_map}
use Rattle.std.proofs.lemmas.Bool.{and_parts, and_from, eqb-true, eq-eqb}
use Rattle.cta_site.specs.declared.site.Site.{Site}
use Rattle.cta_site.specs.Listed.{Listed}
use Rattle.cta_model.specs.declared.entries.Entry.{Entry}
use Rattle.cta_model.specs.declared.asks.Ask.{Ask}
use Rattle.cta_model.specs.declared.asks.Ask.TheVariants as ask
use Rattle.cta_model.specs.declared.asks.Who.{Who}
use Rattle.cta_model.specs.declared.asks.Wanted.{Wanted}
use Rattle.cta_model.specs.declared.answers.Answer.TheVariants as answer
use Rattle.cta_model.specs.declared.states.RequestFile.{RequestFile}
use Rattle.cta_model.specs.declared.states.StageFile.{StageFile}
use Rattle.cta_model.specs.History.{History, has_number, is_number}
use Rattle.cta_model.specs.Files.{path_of}
use Rattle.cta_model.specs.Mounts.{job_of}
use Rattle.cta_model.specs.Buffer.{is_resident}
use Rattle.cta_model.specs.Jobs.{ends_archive}
use Rattle.cta_model.specs.RepackItems.{items_named}
use Rattle.cta_model.specs.Stages.{StageRequest, request_of, stage_files}
use Rattle.cta_model.specs.Legal.{IsLegal, greatest_moment}
use Rattle.cta_laws.specs.Pins.{frees_path, keeps, pins_by, repack_pins_by, stage_pins_by}
use Rattle.cta_laws.specs.Stages.{files_staged}
use Rattle.cta_laws.proofs.Tests.{bool_cases, or_left, or_right, or_cases}
use Rattle.cta_laws.proofs.Bools.{and_none, eq_flip, or_none, turned}
use Rattle.cta_laws.proofs.Claims.{AllOf}
use Rattle.cta_laws.proofs.Ranges.{any_filter_map, is_some_where}
use Rattle.cta_laws.proofs.JobLaw.{not_true}
use Rattle.cta_laws.proofs.Requests.{files_in}
use Rattle.cta_laws.proofs.Accepted.{answer_is}
use Rattle.cta_laws.proofs.Waiting.{FileStands, files_stand}
use Rattle.cta_laws.proofs.StagePins.{pins_are, stage_pins_newest, staged_by}
use Rattle.part_model.specs.declared.space.HeldPin.{HeldPin}
use Rattle.part_model.specs.Held.{Held, HeldAgree, pin_all, pins_in, unpin_all}
use Rattle.part_laws.specs.Buffer.{entering, is_file_of, leaving, touches}
use Rattle.part_laws.proofs.After.{aside_after}
use Rattle.part_laws.specs.Held.{IsHeld}
use Rattle.part_laws.proofs.OwnerPins.{none_frees, one_kind, repack_new}
use Rattle.part_laws.specs.BufferCalls.{file_where, files_where, has_pair, owned_by, pins_told}
use Rattle.part_laws.proofs.PinLists.{pin_all_is, pins_append, told_are, unpin_all_is}
use Rattle.part_laws.proofs.FileAsks.{answered}
use Rattle.part_laws.proofs.Stands.{IsGentle, earlier, files_still, gentle_on, held_by, no_own, none_enters, none_new, none_unpinned, stand_by}
use Rattle.part_laws.proofs.Ended.{some_number}

-- ---- the pins of one owner, file by file

pub told_files : (site : Site) (g : History) (t f id k : ℕ) (fs : List ℕ) → t ≤ greatest_moment → pins_in (flat_map (pins_told site g id) fs) t f k ≡ ((id == k) && (has_number f fs && pins_by site g t f id))
told_files site g t f id k [] top = sym (and_none (id == k))
told_files site g t f id k (x ∷ xs) top =
    pins_append (pins_told site g id x) (flat_map (pins_told site g id) xs) t f k
    ∙ rw (told_are site g t x f id k top, told_files site g t f id k xs top) (elim (bool_cases (x == f)) [
      | inl hit ↦ (let same : x ≡ f = eqb-true _ _ hit in rw (hit, eq-eqb f x (sym same)) (ap (λ (n : ℕ). ((id == k) && true && pins_by site g t n id) || ((id == k) && (has_number f xs && pins_by site g t f id))) same ∙ here (id == k) (pins_by site g t f id) (has_number f xs)))
      | inr miss ↦ rw (miss, turned x f miss) (there (id == k) (pins_by site g t x id) ((id == k) && (has_number f xs && pins_by site g t f id)))
    ])
  where
    here : (a b c : Bool) → (((a && true) && b) || (a && (c && b))) ≡ (a && b)
    here true true true = refl
    here true true false = refl
    here true false true = refl
    here true false false = refl
    here false b c = refl

    there : (a b d : Bool) → (((a && false) && b) || d) ≡ d
    there true b d = refl
    there false b d = refl

-- ---- the pins of one file, owner by owner

pub told_owners : (site : Site) (g : History) (t f h k : ℕ) (ids : List ℕ) → t ≤ greatest_moment → pins_in (flat_map (λ id. pins_told site g id f) ids) t h k ≡ ((f == h) && (has_number k ids && pins_by site g t f k))
told_owners site g t f h k [] top = sym (and_none (f == h))
told_owners site g t f h k (x ∷ xs) top =
    pins_append (pins_told site g x f) (flat_map (λ id. pins_told site g id f) xs) t h k
    ∙ rw (told_are site g t f h x k top, told_owners site g t f h k xs top) (elim (bool_cases (x == k)) [
      | inl hit ↦ (let same : x ≡ k = eqb-true _ _ hit in rw (hit, eq-eqb k x (sym same)) (ap (λ (n : ℕ). ((f == h) && pins_by site g t f n) || ((f == h) && (has_number k xs && pins_by site g t f k))) same ∙ here (f == h) (pins_by site g t f k) (has_number k xs)))
      | inr miss ↦ rw (miss, turned x k miss) refl
    ])
  where
    here : (a b c : Bool) → ((a && b) || (a && (c && b))) ≡ (a && b)
    here true true true = refl
    here true true false = refl
    here true false true = refl
    here true false false = refl
    here false b c = refl

-- ---- Stage

-- a file that a Stage pins is among those that it names
staged_among : (h : History) (at t f : ℕ) (ss : List StageFile) → list_any (λ (s : StageFile). is_number f s.file && (is_resident h f && nat_lt t (at + s.lifetime))) ss ≡ true → has_number f (filter_map (λ (s : StageFile). s.file) ss) ≡ true
staged_among h at t f ss e = any_filter_map (λ m. f == m) (λ (s : StageFile). s.file) ss ∙ by ss e
  where
    named : (o : Option ℕ) → is_number f o ≡ true → is_some_where (λ m. f == m) o ≡ true
    named None x = absurd (cc)
    named (Some g) x = x

    by : (ss : List StageFile) → list_any (λ (s : StageFile). is_number f s.file && (is_resident h f && nat_lt t (at + s.lifetime))) ss ≡ true → list_any (λ (s : StageFile). is_some_where (λ m. f == m) s.file) ss ≡ true
    by [] x = absurd (cc)
    by (s ∷ ss) x =
        elim (or_cases (is_number f s.file && (is_resident h f && nat_lt t (at + s.lifetime))) _ x)
        [ inl hit ↦ or_left (is_some_where (λ m. f == m) s.file) _ (named s.file (and_parts (is_number f s.file) _ hit).0) | inr rest ↦ or_right (is_some_where (λ m. f == m) s.file) _ (by ss rest) ]

-- where what is pinned is among these, asking for both is asking for one
pub among_pinned : (a b : Bool) → (b ≡ true → a ≡ true) → (a && b) ≡ b
among_pinned true b f = refl
among_pinned false true f = (let bad : false ≡ true = f refl in absurd (cc))
among_pinned false false f = refl

pub stage_moves : (site : Site) (h : History) (e : Entry) (who : Who) (files : Listed Wanted) (v v' : Held) → IsLegal site (e ∷ h) → e.ask ≡ ask.Stage who files → IsHeld site h v → HeldAgree v' (pin_all (flat_map (pins_told site (e ∷ h) (length h + 1)) (files_staged site h files.items)) v) → IsHeld site (e ∷ h) v'
stage_moves site h e who files v v' legal ek is c =
    let p = pin_all_is (flat_map (pins_told site (e ∷ h) (length h + 1)) (files_staged site h files.items)) v in
    let a = answered site h e (ask.Stage who files) legal ek in
    let enters : entering h e.ask e.answer ≡ [] = ap (λ (k : Ask). entering h k e.answer) ek in
    let leaves : leaving h e.ask e.answer ≡ [] = ap (λ (k : Ask). leaving h k e.answer) ek in
    let gentle : IsGentle site h e = record { frees = λ id p. ap (λ (k : Ask). frees_path k id p) ek; ends = λ f c b here. ap (λ (k : Ask). ends_archive site h k e.answer (job_of b f c)) ek } in
    held_by site h e v (pin_all (flat_map (pins_told site (e ∷ h) (length h + 1)) (files_staged site h files.items)) v) v' legal is p.3
    (p.1 ∙ is.files ∙ sym (files_still site h e legal enters leaves (λ f. ap (λ (k : Ask). touches site h k e.answer f) ek)))
    (p.2 ∙ sym (ap (λ (k : Ask). aside_after h k e.answer v.aside) ek))
    (stand_by site h e v _ legal is
    (λ t f id s old now top. sum t f id p.0 top ∙ ap (λ (b : Bool). (b && (has_number f (files_staged site h files.items) && pins_by site (e ∷ h) t f (length h + 1))) || pins_in v.pins t f id) old ∙ sym (gentle_on site h e v.pins t f id legal gentle s old))
    (λ t f s now top.
    sum t f (length h + 1) p.0 top
    ∙ ap (λ (b : Bool). ((length h + 1 == length h + 1) && (has_number f (files_staged site h files.items) && pins_by site (e ∷ h) t f (length h + 1))) || b) (no_own site h e v t f legal is s now top)
    ∙ ap (λ (b : Bool). (b && (has_number f (files_staged site h files.items) && pins_by site (e ∷ h) t f (length h + 1))) || false) (eq-eqb (length h + 1) (length h + 1) refl)
    ∙ or_none (has_number f (files_staged site h files.items) && pins_by site (e ∷ h) t f (length h + 1)) ∙ among_pinned _ _ (among t f a))
    (none_enters site h e enters _))
    c
  where
    sum : (t f id : ℕ) → (pin_all (flat_map (pins_told site (e ∷ h) (length h + 1)) (files_staged site h files.items)) v).pins ≡ flat_map (pins_told site (e ∷ h) (length h + 1)) (files_staged site h files.items) ++ v.pins → t ≤ greatest_moment → pins_in (pin_all (flat_map (pins_told site (e ∷ h) (length h + 1)) (files_staged site h files.items)) v).pins t f id ≡ (((length h + 1 == id) && (has_number f (files_staged site h files.items) && pins_by site (e ∷ h) t f (length h + 1))) || pins_in v.pins t f id)
    sum t f id pins top =
        ap (λ (ps : List HeldPin). pins_in ps t f id) pins
        ∙ pins_append (flat_map (pins_told site (e ∷ h) (length h + 1)) (files_staged site h files.items)) v.pins t f id
        ∙ ap (λ (b : Bool). b || pins_in v.pins t f id) (told_files site (e ∷ h) t f (length h + 1) id (files_staged site h files.items) top)

    among : (t f : ℕ) → e.answer ≡ answer.Staged (length h + 1) → pins_by site (e ∷ h) t f (length h + 1) ≡ true → has_number f (files_staged site h files.items) ≡ true
    among t f a on =
        elim (or_cases (stage_pins_by site (e ∷ h) t f (length h + 1)) _ on) [
          | inl s ↦ staged_among h e.at t f (stage_files site h files.items) (sym (stage_pins_newest site h e t f ∙ ap (λ (k : Ask). list_any (λ (s : StageFile). is_number f s.file && (is_resident h f && nat_lt t (e.at + s.lifetime))) (staged_by site h k)) ek) ∙ s)
          | inr r ↦ (let none : repack_pins_by site (e ∷ h) f (length h + 1) ≡ false = repack_new site h e f ∙ ap (λ (k : Ask). is_file_of f (items_named k e.answer)) ek in absurd (cc))
        ]

-- ---- Release and DropStage

owned_pair : (f id k : ℕ) (fs : List ℕ) → has_pair f k (owned_by id fs) ≡ ((id == k) && has_number f fs)
owned_pair f id k [] = sym (and_none (id == k))
owned_pair f id k (x ∷ xs) = rw (owned_pair f id k xs, eq_flip x f) (by (f == x) (id == k) (has_number f xs))
  where
    by : (a b c : Bool) → ((a && b) || (b && c)) ≡ (b && (a || c))
    by true true c = refl
    by true false c = refl
    by false true c = refl
    by false false c = refl

where_some : (test : List ℕ → Bool) (f : ℕ) (s : RequestFile) → is_some_where (λ m. f == m) (file_where test s) ≡ (test s.path && is_number f s.file)
where_some test f s = by (test s.path) s.file
  where
    by : (b : Bool) (o : Option ℕ) → is_some_where (λ m. f == m) (if b then o else None) ≡ (b && is_number f o)
    by true None = refl
    by true (Some g) = refl
    by false o = refl

-- a file that a request pins is among those whose paths pass the test exactly where its own path does
where_pinned : (site : Site) (h : History) (id t f : ℕ) (test : List ℕ → Bool) (ss : List RequestFile) → AllOf (FileStands site h id) ss → list_any (keeps t f) ss ≡ true → list_any (λ s. is_some_where (λ m. f == m) (file_where test s)) ss ≡ test (path_of h f)
where_pinned site h id t f test ss all on =
    elim (bool_cases (test (path_of h f))) [
      | inl hit ↦ there ss all on hit ∙ sym hit
      | inr miss ↦ not_true _ (λ x. (let bad : test (path_of h f) ≡ true = back ss all x in absurd (cc))) ∙ sym miss
    ]
  where
    there : (ss : List RequestFile) → AllOf (FileStands site h id) ss → list_any (keeps t f) ss ≡ true → test (path_of h f) ≡ true → list_any (λ s. is_some_where (λ m. f == m) (file_where test s)) ss ≡ true
    there [] all x hit = absurd (cc)
    there (s ∷ ss) all x hit =
        elim (or_cases (keeps t f s) _ x) [
          | inl here ↦
              (let named : is_number f s.file ≡ true = (and_parts (is_number f s.file) _ (and_parts (is_number f s.file && _) _ here).0).0 in
              let path : path_of h f ≡ s.path = (all.0.named f (some_number f s.file named)).1 in
              or_left (is_some_where (λ m. f == m) (file_where test s)) _ (where_some test f s ∙ and_from _ _ (ap test (sym path) ∙ hit) named))
          | inr rest ↦ or_right (is_some_where (λ m. f == m) (file_where test s)) _ (there ss all.1 rest hit)
        ]

    back : (ss : List RequestFile) → AllOf (FileStands site h id) ss → list_any (λ s. is_some_where (λ m. f == m) (file_where test s)) ss ≡ true → test (path_of h f) ≡ true
    back [] all x = absurd (cc)
    back (s ∷ ss) all x =
        elim (or_cases (is_some_where (λ m. f == m) (file_where test s)) _ x) [
          | inl here ↦
              (let p = and_parts (test s.path) _ (sym (where_some test f s) ∙ here) in
              let path : path_of h f ≡ s.path = (all.0.named f (some_number f s.file p.1)).1 in
              ap test path ∙ p.0)
          | inr rest ↦ back ss all.1 rest
        ]

-- the pins that a request of this number frees
freed_are : (site : Site) (h : History) (e : Entry) (id t f k : ℕ) (test : List ℕ → Bool) → IsLegal site (e ∷ h) → ((n : ℕ) (path : List ℕ) → frees_path e.ask n path ≡ ((id == n) && test path)) → pins_by site h t f k ≡ true → has_pair f k (owned_by id (files_where test (request_of site h id))) ≡ frees_path e.ask k (path_of h f)
freed_are site h e id t f k test legal frees on =
    owned_pair f id k (files_where test (request_of site h id))
    ∙ elim (bool_cases (id == k)) [
      | inr miss ↦ rw miss (sym (frees k (path_of h f) ∙ ap (λ (b : Bool). b && test (path_of h f)) miss))
      | inl hit ↦
          (let same : k ≡ id = sym (eqb-true id k hit) in
          rw hit (mine (request_of site h id) refl (subst (λ (n : ℕ). pins_by site h t f n ≡ true) same on) (subst (λ (n : ℕ). frees_path e.ask n (path_of h f) ≡ frees_path e.ask k (path_of h f)) same refl)))
    ]
  where
    mine : (o : Option StageRequest) → request_of site h id ≡ o → pins_by site h t f id ≡ true → frees_path e.ask id (path_of h f) ≡ frees_path e.ask k (path_of h f) → has_number f (files_where test o) ≡ frees_path e.ask k (path_of h f)
    mine None is x back = (let free : frees_path e.ask id (path_of h f) ≡ false = none_frees site h _ e.ask e.answer id (path_of h f) (answer_is site h e.at e.ask e.answer legal.1.answered legal.1.accepted) is in sym free ∙ back)
    mine (Some q) is x back =
        (let stage : stage_pins_by site h t f id ≡ true = elim (or_cases (stage_pins_by site h t f id) _ x) [
          | inl s ↦ s
          | inr r ↦ (let none : request_of site h id ≡ None = one_kind site h f id r in let bad : ◌≡◌ {A = Option StageRequest} None (Some q) = sym none ∙ is in absurd (cc))
        ] in
        let kept : list_any (keeps t f) q.files ≡ true = ap (λ (o : Option StageRequest). list_any (keeps t f) (files_in o)) (sym is) ∙ sym (pins_are t f id (request_of site h id)) ∙ stage in
        any_filter_map (λ m. f == m) (file_where test) q.files
        ∙ where_pinned site h id t f test q.files (files_stand site h legal.0 id q is) kept
        ∙ sym (frees id (path_of h f) ∙ ap (λ (b : Bool). b && test (path_of h f)) (eq-eqb id id refl))
        ∙ back)

freed_bools : (p a b : Bool) → (p ≡ true → a ≡ b) → (not a && p) ≡ (p && (not b && not false))
freed_bools true a b same = rw (same refl) (by b)
  where
    by : (b : Bool) → (not b && true) ≡ (not b && true)
    by b = refl
freed_bools false true b same = refl
freed_bools false false b same = refl

pub release_moves : (site : Site) (h : History) (e : Entry) (id : ℕ) (test : List ℕ → Bool) (v v' : Held) → IsLegal site (e ∷ h) → staged_by site h e.ask ≡ [] → items_named e.ask e.answer ≡ [] → entering h e.ask e.answer ≡ [] → leaving h e.ask e.answer ≡ [] → ((f : ℕ) → touches site h e.ask e.answer f ≡ false) → v.aside ≡ aside_after h e.ask e.answer v.aside
    → ((f c b : ℕ) → ends_archive site h e.ask e.answer (job_of b f c) ≡ false) → ((n : ℕ) (path : List ℕ) → frees_path e.ask n path ≡ ((id == n) && test path))
    → IsHeld site h v → HeldAgree v' (unpin_all (owned_by id (files_where test (request_of site h id))) v) → IsHeld site (e ∷ h) v'
release_moves site h e id test v v' legal stages names enters leaves touched aside ends frees is c =
    let u = unpin_all_is (owned_by id (files_where test (request_of site h id))) v in
    held_by site h e v (unpin_all (owned_by id (files_where test (request_of site h id))) v) v' legal is u.3
    (u.1 ∙ is.files ∙ sym (files_still site h e legal enters leaves touched))
    (u.2 ∙ aside)
    (stand_by site h e v _ legal is
    (λ t f k s old now top.
    u.0 t f k
    ∙ freed_bools (pins_in v.pins t f k) _ (frees_path e.ask k (path_of h f)) (λ on. freed_are site h e id t f k test legal frees (sym (is.pins t f k s.was (earlier site h e t legal now) top) ∙ on))
    ∙ ap (λ (b : Bool). pins_in v.pins t f k && (not (frees_path e.ask k (path_of h f)) && not b)) (sym (none_unpinned site h e f k legal old s.was (λ c b. ends f c b))))
    (λ t f s now top.
    u.0 t f (length h + 1)
    ∙ ap (λ (b : Bool). not (has_pair f (length h + 1) (owned_by id (files_where test (request_of site h id)))) && b) (no_own site h e v t f legal is s now top)
    ∙ and_none _ ∙ sym (none_new site h e t f stages names))
    (none_enters site h e enters _))
    c
