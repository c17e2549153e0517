-- What the map tells, as the index tells it.
use Rattle.std.proofs.Common.{◌≡◌, ◌∙◌, ℕ, List, [], ◌∷◌, Bool, true, false, not, refl, sym, ap, subst, None, Some}
use Rattle.std.specs.Prelude.{Option, if◌then◌else◌, bytes_eq, IsUtf8, String, string_bytes}
use Rattle.std.specs.Map.{lookup, KeepsOthers}
use Rattle.std.proofs.lemmas.Slice.Eq.{bytes_eq-Decides}
use Rattle.std.proofs.lemmas.Str.{IsUtf8-string_bytes}
use Rattle.part_model.specs.Names.{Names, file_in, add_name, remove_name, NamesAgree}
use Rattle.path_index.specs.Entries.{names_of}

same_bytes : (p q : List ℕ) → bytes_eq p q ≡ true → p ≡ q
same_bytes p q e = (bytes_eq-Decides p q).0 e

bytes_flip : (p q : List ℕ) → bytes_eq p q ≡ bytes_eq q p
bytes_flip p q = by (bytes_eq p q) refl (bytes_eq q p) refl
  where
    by : (a : Bool) → bytes_eq p q ≡ a → (b : Bool) → bytes_eq q p ≡ b → a ≡ b
    by true e true f = refl
    by false e false f = refl
    by true e false f = (let g : bytes_eq q p ≡ true = (bytes_eq-Decides q p).1 (sym (same_bytes p q e)) in absurd (cc))
    by false e true f = (let g : bytes_eq p q ≡ true = (bytes_eq-Decides p q).1 (sym (same_bytes q p f)) in absurd (cc))

-- whether a key has these bytes
abbrev pub has_bytes : {Z : Type 0} → List ℕ → String Z → Bool
has_bytes path k = bytes_eq path (string_bytes k)

-- a look-up in the entries tells what the index tells
pub file_in-names_of : {Z : Type 0} (path : List ℕ) (es : List (String Z × ℕ)) → file_in (names_of es) path ≡ lookup (has_bytes path) es
file_in-names_of path [] = refl
file_in-names_of path (e ∷ es) = ap (λ (o : Option ℕ). if bytes_eq path (string_bytes e.0) then Some e.1 else o) (file_in-names_of path es)

either : (b : Bool) → ◌≡◌ {A = Option ℕ} (if b then None else None) None
either true = refl
either false = refl

-- an index without a path tells of every other path what it told
pub file_in-remove_name : (gone path : List ℕ) (v : Names) → file_in (remove_name gone v) path ≡ (if bytes_eq path gone then None else file_in v path)
file_in-remove_name gone path [] = sym (either (bytes_eq path gone))
file_in-remove_name gone path (x ∷ xs) = by (bytes_eq gone x.0) refl (bytes_eq path x.0) refl (file_in-remove_name gone path xs)
  where
    by : (a : Bool) → bytes_eq gone x.0 ≡ a → (b : Bool) → bytes_eq path x.0 ≡ b → file_in (remove_name gone xs) path ≡ (if bytes_eq path gone then None else file_in xs path) → file_in (if not a then x ∷ remove_name gone xs else remove_name gone xs) path ≡ (if bytes_eq path gone then None else (if b then Some x.1 else file_in xs path))
    by true ea true eb rest = (let same : bytes_eq path gone ≡ true = subst (λ (p : List ℕ). bytes_eq path p ≡ true) (sym (same_bytes gone x.0 ea)) eb in rw same (rw same at rest))
    by true ea false eb rest = rest
    by false ea true eb rest = (let other : bytes_eq path gone ≡ false = bytes_flip path gone ∙ subst (λ (p : List ℕ). bytes_eq gone p ≡ false) (sym (same_bytes path x.0 eb)) ea in rw (eb, other) refl)
    by false ea false eb rest = rw eb rest

-- after a change at one path, a look-up of another path tells what it told
pub lookup-after : {Z : Type 0} (at : List ℕ) (now : Option ℕ) (old new : List (String Z × ℕ)) → lookup (has_bytes at) new ≡ now → KeepsOthers (λ x y. bytes_eq (string_bytes x) (string_bytes y)) (has_bytes at) old new
    → (path : List ℕ) → lookup (has_bytes path) new ≡ (if bytes_eq path at then now else lookup (has_bytes path) old)
unfolding KeepsOthers
lookup-after at now old new here others path = by (bytes_eq path at) refl
  where
    by : (b : Bool) → bytes_eq path at ≡ b → lookup (has_bytes path) new ≡ (if b then now else lookup (has_bytes path) old)
    by true e = subst (λ (p : List ℕ). lookup (has_bytes p) new ≡ now) (sym (same_bytes path at e)) here
    by false e = others (has_bytes path) (λ x y hit. ap (λ (p : List ℕ). bytes_eq p (string_bytes y)) (same_bytes path (string_bytes x) hit)) (λ k hit. subst (λ (p : List ℕ). bytes_eq path p ≡ false) (same_bytes at (string_bytes k) hit) e)

-- entries with one path put, as an index with it added
pub names_of-put : {Z : Type 0} (path : List ℕ) (file : ℕ) (key : List ℕ) (v : Names) (old new : List (String Z × ℕ)) → key ≡ path → names_of old ≡ v → lookup (has_bytes key) new ≡ Some file → KeepsOthers (λ x y. bytes_eq (string_bytes x) (string_bytes y)) (has_bytes key) old new
    → NamesAgree (names_of new) (add_name path file v)
names_of-put path file key v old new e is here others q =
    file_in-names_of q new ∙ lookup-after key (Some file) old new here others q
    ∙ ap (λ (o : Option ℕ). if bytes_eq q key then Some file else o) (sym (file_in-names_of q old) ∙ ap (λ (w : Names). file_in w q) is)
    ∙ ap (λ (k : List ℕ). if bytes_eq q k then Some file else file_in v q) e

-- entries with one path taken out, as an index without it
pub names_of-taken : {Z : Type 0} (path : List ℕ) (v : Names) (old new : List (String Z × ℕ)) → names_of old ≡ v → lookup (has_bytes path) new ≡ None → KeepsOthers (λ x y. bytes_eq (string_bytes x) (string_bytes y)) (has_bytes path) old new
    → NamesAgree (names_of new) (remove_name path v)
names_of-taken path v old new is here others q =
    file_in-names_of q new ∙ lookup-after path None old new here others q
    ∙ ap (λ (o : Option ℕ). if bytes_eq q path then None else o) (sym (file_in-names_of q old) ∙ ap (λ (w : Names). file_in w q) is)
    ∙ sym (file_in-remove_name path q v)

-- bytes that are no text name no file
pub names_texts : {Z : Type 0} (path : List ℕ) (es : List (String Z × ℕ)) → ¬ (IsUtf8 path) → file_in (names_of es) path ≡ None
names_texts path [] lacks = refl
names_texts path (e ∷ es) lacks = by (names_texts path es lacks) (bytes_eq path (string_bytes e.0)) refl
  where
    by : file_in (names_of es) path ≡ None → (b : Bool) → bytes_eq path (string_bytes e.0) ≡ b → (if b then Some e.1 else file_in (names_of es) path) ≡ None
    by rest true is = absurd (lacks (subst IsUtf8 (sym (same_bytes path (string_bytes e.0) is)) (IsUtf8-string_bytes e.0)))
    by rest false is = rest

-- an index without a path that names no file is the same
pub without_none : (path : List ℕ) (v : Names) → file_in v path ≡ None → NamesAgree v (remove_name path v)
without_none path v none q = by (bytes_eq q path) refl ∙ sym (file_in-remove_name path q v)
  where
    by : (b : Bool) → bytes_eq q path ≡ b → file_in v q ≡ (if b then None else file_in v q)
    by true is = subst (λ (p : List ℕ). file_in v p ≡ None) (sym (same_bytes q path is)) none
    by false is = refl
