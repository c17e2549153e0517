-- The last records of tapes among names.
use Rattle.std.proofs.Common.{◌≡◌, ◌≢◌, ◌≤◌, ◌<◌, ◌+◌, ℕ, zero, suc, List, [], ◌∷◌, ◌++◌, length, take, map, get_or, replicate, max, refl, sym, ap, subst, ◌∙◌, arith}
use Rattle.std.specs.Prelude.{Ok, Option, Some, None, ◌⊎◌, slice_index, slice_set, Contains, Vec}
use Rattle.std.proofs.Common.{inl, inr}
use Rattle.std.specs.declared.alloc.Global.{Global}
use Rattle.std.proofs.lemmas.Grind.{get_or_default_zero}
use Rattle.std.proofs.lemmas.List.{get_or-set_other, get_or-set_same, map_more, take_all}
use Rattle.std.proofs.lemmas.List.Elements.{Contains-append_cases, Contains-append_left, Contains-append_right}
use Rattle.cta_site.specs.declared.site.Site.{Site}
use Rattle.cta_site.specs.Laws.{TapesAreNamed, TapesAreFound}
use Rattle.cta_site.specs.Lookups.{tape_of, vid_of}
use Rattle.file_media.specs.Earlier.{HasListed, HoldRecord, IsLastOf, IsNotedBy}
use Rattle.file_media.specs.Disks.{DiskCall, Listed, after_call, given_names}
use Rattle.file_media.specs.Names.{greatest_fseq, record_name}
use Rattle.file_media.proofs.Dots.{records_apart}

-- two numbers are equal or not
decide : (j k : ℕ) → (j ≡ k) ⊎ (j ≢ k)
decide zero zero = inl refl
decide zero (suc k) = inr (λ e. omega (arith, e))
decide (suc j) zero = inr (λ e. omega (arith, e))
decide (suc j) (suc k) = more (decide j k)
  where
    more : (j ≡ k) ⊎ (j ≢ k) → (suc j ≡ suc k) ⊎ (suc j ≢ suc k)
    more (inl e) = inl (ap suc e)
    more (inr other) = inr (λ e. other (omega (arith, e)))

-- the greater of two numbers is one of them
greater : (n f : ℕ) → (max n f ≡ n) ⊎ ((max n f ≡ f) × (n ≤ f))
greater n f = by (decide (max n f) n)
  where
    by : (max n f ≡ n) ⊎ (max n f ≢ n) → (max n f ≡ n) ⊎ ((max n f ≡ f) × (n ≤ f))
    by (inl e) = inl e
    by (inr other) = inr (omega (arith, other), omega (arith, other))

single : (x n : List ℕ) → Contains (x ∷ []) n → x ≡ n
single x n (zero, le, e) = e
single x n (suc k, le, e) = absurd (omega (arith, le))

-- a record of names, and of one more name
hold_more : (names : List (List ℕ)) (x vid : List ℕ) (s : ℕ) → HoldRecord names vid s → HoldRecord (names ++ x ∷ []) vid s
hold_more names x vid s h = (h.0, h.1, Contains-append_left names (x ∷ []) (record_name vid s) h.2)

hold_cases : (names : List (List ℕ)) (x vid : List ℕ) (s : ℕ) → HoldRecord (names ++ x ∷ []) vid s → HoldRecord names vid s ⊎ (x ≡ record_name vid s)
hold_cases names x vid s h = cases (Contains-append_cases names (x ∷ []) (record_name vid s) h.2)
  where
    cases : Contains names (record_name vid s) ⊎ Contains (x ∷ []) (record_name vid s) → HoldRecord names vid s ⊎ (x ≡ record_name vid s)
    cases (inl c) = inl (h.0, h.1, c)
    cases (inr c) = inr (single x (record_name vid s) c)

-- a name of no record of a tape changes nothing of the tape
last_same : (names : List (List ℕ)) (x vid : List ℕ) (n : ℕ) → ((s : ℕ) → s ≤ greatest_fseq → record_name vid s ≢ x) → IsLastOf names vid n → IsLastOf (names ++ x ∷ []) vid n
last_same names x vid n other was = (λ s h. by s h (hold_cases names x vid s h), λ some. hold_more names x vid n (was.1 some))
  where
    by : (s : ℕ) → HoldRecord (names ++ x ∷ []) vid s → HoldRecord names vid s ⊎ (x ≡ record_name vid s) → s ≤ n
    by s h (inl k) = was.0 s k
    by s h (inr e) = absurd (other s h.1 (sym e))

-- a name of a record of a tape makes it the last one, unless one is behind it
last_more : (names : List (List ℕ)) (x vid : List ℕ) (n f : ℕ) → f ≤ greatest_fseq → x ≡ record_name vid f → IsLastOf names vid n → IsLastOf (names ++ x ∷ []) vid (max n f)
last_more names x vid n f le is was = (λ s h. by s h (hold_cases names x vid s h), at (greater n f))
  where
    by : (s : ℕ) → HoldRecord (names ++ x ∷ []) vid s → HoldRecord names vid s ⊎ (x ≡ record_name vid s) → s ≤ max n f
    by s h (inl k) = omega (arith, was.0 s k)
    by s h (inr e) =
        let apart = records_apart vid vid s f h.1 le (sym e ∙ is) in
        omega (arith, apart.1)

    at : (max n f ≡ n) ⊎ ((max n f ≡ f) × (n ≤ f)) → 1 ≤ max n f → HoldRecord (names ++ x ∷ []) vid (max n f)
    at (inl e) some = subst (HoldRecord (names ++ x ∷ []) vid) (sym e) (hold_more names x vid n (was.1 (omega (arith, e, some))))
    at (inr e) some =
        subst (HoldRecord (names ++ x ∷ []) vid) (sym e.0) (omega (arith, e.0, some), le, Contains-append_right names (x ∷ []) (record_name vid f) (0, omega arith, is))

same_tape : (t u : ℕ) → ◌≡◌ {A = Option ℕ} (Some t) (Some u) → t ≡ u
same_tape t u e = cc

-- the record of one tape is that of no other
one_tape : (site : Site) (vid name : List ℕ) (f s t u : ℕ) → TapesAreNamed site → u < length site.tapes.items → f ≤ greatest_fseq → name ≡ record_name vid f → tape_of site vid ≡ Some t
    → s ≤ greatest_fseq → record_name (vid_of site u) s ≡ name → t ≡ u
one_tape site vid name f s t u named inside le is found small e =
    let apart = records_apart vid (vid_of site u) f s le small (sym is ∙ sym e) in
    same_tape t u (sym found ∙ ap (tape_of site) apart.0 ∙ (named u inside).1)

-- the name is that of a record of this tape
noted_at : (site : Site) (vid name : List ℕ) (f t : ℕ) (old : List ℕ) → TapesAreNamed site → TapesAreFound site → f ≤ greatest_fseq → name ≡ record_name vid f → tape_of site vid ≡ Some t
    → t < length old → IsNotedBy site name old (slice_set old t (max (slice_index old t) f))
noted_at site vid name f t old named finds le is found place = λ names u inside was. by names u inside was (decide u t)
  where
    here : (names : List (List ℕ)) → IsLastOf names (vid_of site t) (slice_index old t) → IsLastOf (names ++ name ∷ []) (vid_of site t) (slice_index (slice_set old t (max (slice_index old t) f)) t)
    here names was =
        subst (IsLastOf (names ++ name ∷ []) (vid_of site t)) (sym (get_or-set_same old t (max (slice_index old t) f) 0 place))
        (last_more names name (vid_of site t) (slice_index old t) f le (is ∙ ap (λ v. record_name v f) (sym (finds vid t found).1)) was)

    by : (names : List (List ℕ)) (u : ℕ) → u < length site.tapes.items → IsLastOf names (vid_of site u) (slice_index old u) → (u ≡ t) ⊎ (u ≢ t)
        → IsLastOf (names ++ name ∷ []) (vid_of site u) (slice_index (slice_set old t (max (slice_index old t) f)) u)
    by names u inside was (inl e) =
        subst (λ k. IsLastOf (names ++ name ∷ []) (vid_of site k) (slice_index (slice_set old t (max (slice_index old t) f)) k)) (sym e)
        (here names (subst (λ k. IsLastOf names (vid_of site k) (slice_index old k)) e was))
    by names u inside was (inr other) =
        subst (IsLastOf (names ++ name ∷ []) (vid_of site u)) (sym (get_or-set_other old t u (max (slice_index old t) f) 0 other))
        (last_same names name (vid_of site u) (slice_index old u) (λ s small e. other (sym (one_tape site vid name f s t u named inside le is found small e))) was)

-- the same of a place k that was read, and of a place v that was written
pub noted_yes : (site : Site) (vid name : List ℕ) (f t k v : ℕ) (old : List ℕ) → TapesAreNamed site → TapesAreFound site → f ≤ greatest_fseq → name ≡ record_name vid f → tape_of site vid ≡ Some t
    → length old ≡ length site.tapes.items → k ≡ get_or old t k → v ≡ max k f → IsNotedBy site name old (slice_set old t v)
noted_yes site vid name f t k v old named finds le is found same read written =
    let place : t < length old = omega (arith, same, (finds vid t found).0) in
    let known : k ≡ slice_index old t = read ∙ get_or_default_zero old t k place in
    subst (λ w. IsNotedBy site name old (slice_set old t w)) (sym (written ∙ ap (λ n. max n f) known)) (noted_at site vid name f t old named finds le is found place)

-- the name is that of a record of no tape
pub noted_none : (site : Site) (vid name : List ℕ) (f : ℕ) (old : List ℕ) → TapesAreNamed site → f ≤ greatest_fseq → name ≡ record_name vid f → tape_of site vid ≡ None → IsNotedBy site name old old
noted_none site vid name f old named le is found = λ names u inside was. last_same names name (vid_of site u) (slice_index old u) (λ s small e. clash u s inside small e) was
  where
    clash : (u s : ℕ) → u < length site.tapes.items → s ≤ greatest_fseq → record_name (vid_of site u) s ≡ name → ⊥
    clash u s inside small e =
        let apart = records_apart vid (vid_of site u) f s le small (sym is ∙ sym e) in
        let found' : ◌≡◌ {A = Option ℕ} None (Some u) = sym found ∙ ap (tape_of site) apart.0 ∙ (named u inside).1 in
        cc

-- the name is that of no record
pub noted_other : (site : Site) (name : List ℕ) (old : List ℕ) → ((vid : List ℕ) (s : ℕ) → s ≤ greatest_fseq → record_name vid s ≢ name) → IsNotedBy site name old old
noted_other site name old other = λ names u inside was. last_same names name (vid_of site u) (slice_index old u) (other (vid_of site u)) was

-- no name was looked at yet
zeros : (n t : ℕ) → ◌≡◌ {A = ℕ} (get_or (replicate n 0) t 0) 0
zeros zero t = refl
zeros (suc n) zero = refl
zeros (suc n) (suc t) = zeros n t

pub noted_start : (site : Site) (last : List ℕ) (n : ℕ) → last ≡ replicate n 0 → (t : ℕ) → t < length site.tapes.items → IsLastOf [] (vid_of site t) (slice_index last t)
noted_start site last n is t inside =
    let nothing : slice_index last t ≡ 0 = ap (λ l. slice_index l t) is ∙ zeros n t in
    (λ s h. absurd (omega (arith, h.2.1)), λ some. absurd (omega (arith, some, nothing)))

-- the names of a listing
abbrev pub texts : List (Vec ℕ Global) → List (List ℕ)
texts names = map (λ (n : Vec ℕ Global). n.items) names

pub noted_more : (site : Site) (names : List (Vec ℕ Global)) (i : ℕ) (d : Vec ℕ Global) (name : List ℕ) (old new : List ℕ) → i < length names → name ≡ (get_or names i d).items
    → ((t : ℕ) → t < length site.tapes.items → IsLastOf (texts (take i names)) (vid_of site t) (slice_index old t)) → IsNotedBy site name old new
    → (t : ℕ) → t < length site.tapes.items → IsLastOf (texts (take (i + 1) names)) (vid_of site t) (slice_index new t)
noted_more site names i d name old new within is before noted t inside =
    subst (λ l. IsLastOf l (vid_of site t) (slice_index new t)) (sym (map_more (λ (n : Vec ℕ Global). n.items) names i d within))
    (subst (λ x. IsLastOf (texts (take i names) ++ x ∷ []) (vid_of site t) (slice_index new t)) is (noted (texts (take i names)) t inside (before t inside)))

-- all names of the listing were looked at
pub listed : (site : Site) (o p : Option (List DiskCall)) (names : Vec (Vec ℕ Global) Global) (shown : List (Vec ℕ Global)) (i : ℕ) (last : Vec ℕ Global) → shown ≡ names.items → length shown ≤ i
    → p ≡ after_call (Listed (given_names (Ok names))) o → length last.items ≡ length site.tapes.items
    → ((t : ℕ) → t < length site.tapes.items → IsLastOf (texts (take i shown)) (vid_of site t) (slice_index last.items t)) → HasListed site o p last
listed site o p names shown i last is end done same noted = record {
  names = texts names.items;
  done = done;
  len = same;
  told = λ t inside. subst (λ l. IsLastOf (texts l) (vid_of site t) (slice_index last.items t)) (take_all _ _ end ∙ is) (noted t inside);
}
