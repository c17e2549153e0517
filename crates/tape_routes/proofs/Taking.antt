-- What the router found says of the endpoint of a target and of its parameter.
use Rattle.std.proofs.Common.{◌≡◌, ℕ, ◌+◌, Bool, true, false, cond, ◌&&◌, List, [], ◌∷◌, ◌++◌, length, nat_lt, Option, Some, None, option_map, is_some, bytes_eq, ◌≤◌, refl, sym, ap, subst, ◌∙◌, arith, true≢false}
use Rattle.std.proofs.lemmas.Bool.{ltb-true}
use Rattle.std.proofs.lemmas.Str.{IsUtf8-from_ascii}
use Rattle.std.proofs.lemmas.Str.Ascii.{IsAscii-nil, IsAscii-cons}
use Rattle.std.specs.List.{find}
use Rattle.std.specs.Str.{IsUtf8, IsAscii}
use Rattle.matchit.specs.Params.{wild_from, wild_stop, part_of, walk}
use Rattle.matchit.specs.Router.{RouteOf}
use Rattle.matchit.specs.Rows.{RowsOf, param_token}
use Rattle.matchit.specs.Seek.{first}
use Rattle.tape_routes.specs.declared.routes.Endpoint.{Endpoint}
use Rattle.tape_routes.specs.declared.routes.Endpoint.TheVariants as at
use Rattle.tape_routes.specs.Router.{tokens, parameter_count, route_view, table_view, FindsRoutes}
use Rattle.tape_routes.specs.Routes.{Pattern, Fixed, Named, Below, route_of, parameter_in, parameter_of, every_endpoint, endpoint_of}
use Rattle.tape_routes.proofs.Bytes.{text_is_bytes}
use Rattle.tape_routes.proofs.Walks.{ends_name, both}
use Rattle.tape_routes.proofs.Patterns.{is_text}
use Rattle.tape_routes.proofs.Parts.{wild_at, part_is, name_is_text, IsCut, cut_of}

-- the endpoint of what was found
pub in_table : (o : Option Endpoint) (e : Endpoint) (pattern : List ℕ) (count : ℕ) → Some (e, pattern, count) ≡ option_map table_view o → (o ≡ Some e) × (pattern ≡ tokens (route_of e).pattern) × (count ≡ parameter_count (route_of e).pattern)
in_table None e pattern count h = absurd (cc)
in_table (Some f) e pattern count h =
    let same : (e, pattern, count) ≡ table_view f = cc in
    let one : e ≡ f = ap (λ (v : Endpoint × List ℕ × ℕ). v.0) same in (
      ap Some (sym one),
      ap (λ (v : Endpoint × List ℕ × ℕ). v.1) same ∙ ap (λ (x : Endpoint). tokens (route_of x).pattern) (sym one),
      ap (λ (v : Endpoint × List ℕ × ℕ). v.2) same ∙ ap (λ (x : Endpoint). parameter_count (route_of x).pattern) (sym one),
    )

find_holds : (f : Endpoint → Bool) (es : List Endpoint) (e : Endpoint) → find f es ≡ Some e → f e ≡ true
find_holds f [] e h = absurd (cc)
find_holds f (x ∷ es) e h = by (f x) refl h (find_holds f es e)
  where
    by : (v : Bool) → f x ≡ v → cond v (Some x) (find f es) ≡ Some e → (find f es ≡ Some e → f e ≡ true) → f e ≡ true
    by true w h later = let same : x ≡ e = cc in ap f (sym same) ∙ w
    by false w h later = later h

-- the target has a parameter there
pub has_parameter : (target : List ℕ) (e : Endpoint) → endpoint_of target ≡ Some e → is_some (parameter_of e target) ≡ true
has_parameter target e h = find_holds (λ x. is_some (parameter_of x target)) every_endpoint e h

-- each of these is ASCII
abbrev are_ascii : List ℕ → Bool
are_ascii [] = true
are_ascii (b ∷ rest) = nat_lt b 128 && are_ascii rest

-- a pattern that is no path's: its texts are bytes, and ASCII before a name
abbrev is_cut : Pattern → Bool
is_cut (Fixed text) = is_text text
is_cut (Named before after) = is_text before && (are_ascii before && ends_name after)
is_cut (Below text) = false

-- each endpoint's but that of files
pub cuts_at : (e : Endpoint) → (e ≡ at.Data → ⊥) → is_cut (route_of e).pattern ≡ true
cuts_at at.WellKnown other = refl
cuts_at at.Stage other = refl
cuts_at at.StageRequest other = refl
cuts_at at.StageCancel other = refl
cuts_at at.Release other = refl
cuts_at at.ArchiveInfo other = refl
cuts_at at.Data other = absurd (other refl)
cuts_at at.DriveUp other = refl
cuts_at at.DriveDown other = refl
cuts_at at.Tape other = refl
cuts_at at.TapeState other = refl
cuts_at at.TapeReclaim other = refl
cuts_at at.Repack other = refl
cuts_at at.RepackRequest other = refl
cuts_at at.Failed other = refl
cuts_at at.FailedRetry other = refl
cuts_at at.Queues other = refl

ascii_text : (bs : List ℕ) → are_ascii bs ≡ true → IsAscii bs
ascii_text [] h = IsAscii-nil
ascii_text (b ∷ bs) h =
    let p = both (nat_lt b 128) (are_ascii bs) h in
    IsAscii-cons b bs (ltb-true b 128 p.0) (ascii_text bs p.1)

-- the one part of a path that a router hands out
part_named : (before after target name text : List ℕ) (place : ℕ × ℕ) → is_text before ≡ true → ends_name after ≡ true → IsCut before after target name → walk (before ++ param_token ∷ after) text target (place ∷ []) 0 0 ≡ (part_of text place.0 place.1, name) ∷ []
part_named before after target name text place low ends cut =
    let room : length before ≤ length target = cut.room in
    let zero : 0 + length before ≡ length before = omega arith in
    let wild : wild_from (before ++ param_token ∷ after) (length target) 0 0 ≡ (length before, length before) =
    wild_at before after (length target) 0 0 low (omega arith) ∙ ap (λ (n : ℕ). (n, n)) zero in
    ap (λ (w : ℕ × ℕ). (part_of text place.0 place.1, part_of target w.1 (wild_stop (before ++ param_token ∷ after) w.0 target w.1)) ∷ []) wild
    ∙ ap (λ (z : List ℕ). (part_of text place.0 place.1, z) ∷ []) (part_is before after target name low ends cut)

-- the parameter of a target, where the router hands out a part
pub part_given : (p : Pattern) (text target value : List ℕ) (names : List (ℕ × ℕ)) (pair : List ℕ × List ℕ) (rest : List (List ℕ × List ℕ)) → is_cut p ≡ true → length names ≡ parameter_count p → IsUtf8 target → is_some (parameter_in p target) ≡ true → walk (tokens p) text target names 0 0 ≡ pair ∷ rest → (IsUtf8 pair.1 → value ≡ pair.1) → parameter_in p target ≡ Some value
part_given (Below text) t target value names pair rest plain count whole some parts shows = absurd (true≢false (sym plain))
part_given (Fixed text) t target value [] pair rest plain count whole some parts shows = absurd (cc)
part_given (Fixed text) t target value (n ∷ names) pair rest plain count whole some parts shows = absurd (omega arith)
part_given (Named before after) t target value [] pair rest plain count whole some parts shows = absurd (omega arith)
part_given (Named before after) t target value (n ∷ m ∷ names) pair rest plain count whole some parts shows = absurd (omega arith)
part_given (Named before after) t target value (n ∷ []) pair rest plain count whole some parts shows =
    let p = both (is_text before) (are_ascii before && ends_name after) plain in
    let q = both (are_ascii before) (ends_name after) p.1 in
    let cut = cut_of before after target some in
    let same : (part_of t n.0 n.1, cut.1.0) ∷ [] ≡ pair ∷ rest = sym (part_named before after target cut.1.0 t n p.0 q.1 cut.1.1) ∙ parts in
    let one : (part_of t n.0 n.1, cut.1.0) ≡ pair = cc in
    let name : cut.1.0 ≡ pair.1 = ap (λ (v : List ℕ × List ℕ). v.1) one in
    let is_text : IsUtf8 cut.1.0 = name_is_text before after target cut.1.0 q.1 (IsUtf8-from_ascii before (ascii_text before q.0)) cut.0 whole cut.1.1 in
    cut.1.1.given ∙ ap Some (name ∙ sym (shows (subst IsUtf8 name is_text)))

-- and where it hands out none
pub no_part_given : (p : Pattern) (text target : List ℕ) (names : List (ℕ × ℕ)) → is_cut p ≡ true → length names ≡ parameter_count p → is_some (parameter_in p target) ≡ true → walk (tokens p) text target names 0 0 ≡ [] → parameter_in p target ≡ Some []
no_part_given (Below text) t target names plain count some parts = absurd (true≢false (sym plain))
no_part_given (Named before after) t target [] plain count some parts = absurd (omega arith)
no_part_given (Named before after) t target (n ∷ names) plain count some parts = absurd (cc)
no_part_given (Fixed text) t target names plain count some parts = by (bytes_eq target text) some
  where
    by : (v : Bool) → is_some {T = List ℕ} (cond v (Some []) None) ≡ true → cond {A = Option (List ℕ)} v (Some []) None ≡ Some []
    by true h = refl
    by false h = absurd (true≢false (sym h))

-- what the router says of a target
pub seen : (rows : RowsOf (RouteOf Endpoint)) (target : List ℕ) (r : RouteOf Endpoint) → FindsRoutes rows → IsUtf8 target → first rows target ≡ Some r → (endpoint_of target ≡ Some r.value) × (r.pattern ≡ tokens (route_of r.value).pattern) × (length r.names ≡ parameter_count (route_of r.value).pattern)
seen rows target r finds text found =
    in_table (endpoint_of target) r.value r.pattern (length r.names) (sym (ap (option_map route_view) found) ∙ finds target (text_is_bytes target text))

unseen_of : (o : Option Endpoint) → None ≡ option_map table_view o → o ≡ None
unseen_of None h = refl
unseen_of (Some e) h = absurd (cc)

pub unseen : (rows : RowsOf (RouteOf Endpoint)) (target : List ℕ) → FindsRoutes rows → IsUtf8 target → first rows target ≡ None → endpoint_of target ≡ None
unseen rows target finds text found = unseen_of (endpoint_of target) (sym (ap (option_map route_view) found) ∙ finds target (text_is_bytes target text))

pub taken_part : (rows : RowsOf (RouteOf Endpoint)) (target : List ℕ) (r : RouteOf Endpoint) (value : List ℕ) (pair : List ℕ × List ℕ) (rest : List (List ℕ × List ℕ)) → FindsRoutes rows → IsUtf8 target → first rows target ≡ Some r → (r.value ≡ at.Data → ⊥) → walk r.pattern r.text target r.names 0 0 ≡ pair ∷ rest → (IsUtf8 pair.1 → value ≡ pair.1) → parameter_of r.value target ≡ Some value
taken_part rows target r value pair rest finds text found other parts shows =
    let w = seen rows target r finds text found in
    part_given (route_of r.value).pattern r.text target value r.names pair rest (cuts_at r.value other) w.2 text (has_parameter target r.value w.0) (ap (λ (p : List ℕ). walk p r.text target r.names 0 0) (sym w.1) ∙ parts) shows

pub taken_none : (rows : RowsOf (RouteOf Endpoint)) (target : List ℕ) (r : RouteOf Endpoint) → FindsRoutes rows → IsUtf8 target → first rows target ≡ Some r → (r.value ≡ at.Data → ⊥) → walk r.pattern r.text target r.names 0 0 ≡ [] → parameter_of r.value target ≡ Some []
taken_none rows target r finds text found other parts =
    let w = seen rows target r finds text found in
    no_part_given (route_of r.value).pattern r.text target r.names (cuts_at r.value other) w.2 (has_parameter target r.value w.0) (ap (λ (p : List ℕ). walk p r.text target r.names 0 0) (sym w.1) ∙ parts)

-- a file's target has a path
pub has_path : (target : List ℕ) (e : Endpoint) → endpoint_of target ≡ Some e → e ≡ at.Data → parameter_of at.Data target ≡ None → ⊥
has_path target e found same none = true≢false (sym (has_parameter target e found) ∙ ap (λ (x : Endpoint). is_some (parameter_of x target)) same ∙ ap is_some none)
