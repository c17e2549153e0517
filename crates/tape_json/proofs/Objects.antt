-- Objects of given members: their tokens, and that they are read.
use Rattle.std.proofs.Common.{◌≡◌, ◌≤◌, ◌^◌, ℕ, suc, ◌<◌, max, Bool, List, [], ◌∷◌, ◌++◌, Option, Some, None, IfSome, option_map, option_and_then, refl, sym, ap, ◌∙◌, arith, append_assoc, append-nil, codes, lit≤}
use Rattle.json.specs.Token.{Token, begin_object, end_object}
use Rattle.json.specs.Tree.{members_tokens}
use Rattle.serde_json.specs.Data.{Data, array, object, number, string, boolean, depth, Members, member, no_members}
use Rattle.serde_json.specs.Read.{of_json}
use Rattle.serde_json.specs.Written.{outline, members_outline, compact_text}
use Rattle.serde_json.proofs.Numbers.{number_of-decimal}
use Rattle.json.specs.Json as json
use Rattle.json.specs.Print.{print}
use Rattle.json.specs.Written.{Written}
use Rattle.serde_json.proofs.Texts.{print-outline}
use Rattle.std.specs.declared.alloc.AllocError.{AllocError}
use Rattle.std.proofs.Common.{Ok, IsSome}
use Rattle.json.specs.Lex.{tokens}
use Rattle.json.specs.Tree as tree
use Rattle.json.proofs.Printed.Trees.{value-json_tokens}
use Rattle.serde_json.specs.Read.{read, max_depth}
use Rattle.serde_json.specs.Data.{Items, no_items, item, items_depth, members_depth, null}
use Rattle.serde_json.specs.Written.{items_outline}
use Rattle.cta_model.specs.declared.reports.Locality.{Locality}
use Rattle.tape_json.specs.Reports.{count, if_any, given, locality_name, one_member}
use Rattle.tape_json.specs.Shown.{value_tokens, shown, IsReadable, Appends}

abbrev Named : Type 0
Named = List ℕ × Option Data

-- the tokens of these members one after another
abbrev pub all_shown : List Named → List Token
all_shown [] = []
all_shown (m ∷ ms) = shown m.0 m.1 ++ all_shown ms

-- what stands after each of these members was appended
abbrev pub after : List Token → List Named → List Token
after ts [] = ts
after ts (m ∷ ms) = after (ts ++ shown m.0 m.1) ms

after-all_shown : (ts : List Token) (ms : List Named) → after ts ms ≡ ts ++ all_shown ms
after-all_shown ts [] = sym (append-nil ts)
after-all_shown ts (m ∷ ms) = after-all_shown (ts ++ shown m.0 m.1) ms ∙ append_assoc ts (shown m.0 m.1) (all_shown ms)

tokens-if_any : (name : List ℕ) (value : Option Data) (rest : Members) → members_tokens (members_outline (if_any name value rest)) ≡ shown name value ++ members_tokens (members_outline rest)
tokens-if_any name None rest = refl
tokens-if_any name (Some value) rest = refl

tokens-given : (ms : List Named) → members_tokens (members_outline (given ms)) ≡ all_shown ms ++ end_object ∷ []
tokens-given [] = refl
tokens-given (m ∷ ms) =
    tokens-if_any m.0 m.1 (given ms) ∙ ap (λ ts. shown m.0 m.1 ++ ts) (tokens-given ms) ∙ sym (append_assoc (shown m.0 m.1) (all_shown ms) (end_object ∷ []))

regroup : (old rows : List Token) (b e : Token) → ((old ++ b ∷ []) ++ rows) ++ e ∷ [] ≡ old ++ b ∷ (rows ++ e ∷ [])
regroup old rows b e = simp append_assoc

-- the bracket, the members and the bracket are the object
pub object_tokens : (old : List Token) (ms : List Named) → after (old ++ begin_object ∷ []) ms ++ end_object ∷ [] ≡ old ++ value_tokens (object (given ms))
object_tokens old ms =
    ap (λ ts. ts ++ end_object ∷ []) (after-all_shown (old ++ begin_object ∷ []) ms)
    ∙ regroup old (all_shown ms) begin_object end_object
    ∙ ap (λ ts. old ++ begin_object ∷ ts) (sym (tokens-given ms))

-- a file of a stage request is read
pub file-reads : (error : Option (List ℕ)) (finished started : Option ℕ) (flag : Bool) (path state : List ℕ) → IfSome finished (λ n. n < 2 ^ 64) → IfSome started (λ n. n < 2 ^ 64)
    → IsReadable 1 (object (given ((codes "error", option_map string error) ∷ (codes "finishedAt", option_map count finished) ∷ (codes "onDisk", Some (boolean flag)) ∷ (codes "path", Some (string path))
    ∷ (codes "startedAt", option_map count started) ∷ (codes "state", Some (string state)) ∷ [])))
file-reads None None None flag path state a b = record { value = refl; nests = lit≤ tt }
file-reads None None (Some m) flag path state a b = record { value = rw (number_of-decimal m b); nests = lit≤ tt }
file-reads None (Some n) None flag path state a b = record { value = rw (number_of-decimal n a); nests = lit≤ tt }
file-reads None (Some n) (Some m) flag path state a b = record { value = rw (number_of-decimal n a, number_of-decimal m b); nests = lit≤ tt }
file-reads (Some e) None None flag path state a b = record { value = refl; nests = lit≤ tt }
file-reads (Some e) None (Some m) flag path state a b = record { value = rw (number_of-decimal m b); nests = lit≤ tt }
file-reads (Some e) (Some n) None flag path state a b = record { value = rw (number_of-decimal n a); nests = lit≤ tt }
file-reads (Some e) (Some n) (Some m) flag path state a b = record { value = rw (number_of-decimal n a, number_of-decimal m b); nests = lit≤ tt }

-- a stage request is read
pub stage-reads : (completed started : Option ℕ) (created : ℕ) (files : Data) (id : List ℕ) → IfSome completed (λ n. n < 2 ^ 64) → IfSome started (λ n. n < 2 ^ 64) → created < 2 ^ 64 → IsReadable 2 files
    → IsReadable 3 (object (given ((codes "completedAt", option_map count completed) ∷ (codes "createdAt", Some (count created)) ∷ (codes "files", Some files) ∷ (codes "id", Some (string id))
    ∷ (codes "startedAt", option_map count started) ∷ [])))
stage-reads None None k files id a b h f = record { value = rw (number_of-decimal k h, f.value); nests = omega (arith, f.nests) }
stage-reads None (Some m) k files id a b h f = record { value = rw (number_of-decimal k h, f.value, number_of-decimal m b); nests = omega (arith, f.nests) }
stage-reads (Some n) None k files id a b h f = record { value = rw (number_of-decimal n a, number_of-decimal k h, f.value); nests = omega (arith, f.nests) }
stage-reads (Some n) (Some m) k files id a b h f = record { value = rw (number_of-decimal n a, number_of-decimal k h, f.value, number_of-decimal m b); nests = omega (arith, f.nests) }

-- the place of a path is read
pub place-reads : (error : Option (List ℕ)) (locality : Option Locality) (path : List ℕ)
    → IsReadable 1 (object (given ((codes "error", option_map string error) ∷ (codes "locality", option_map (λ l. string (locality_name l)) locality) ∷ (codes "path", Some (string path)) ∷ [])))
place-reads None None path = record { value = refl; nests = lit≤ tt }
place-reads None (Some l) path = record { value = refl; nests = lit≤ tt }
place-reads (Some e) None path = record { value = refl; nests = lit≤ tt }
place-reads (Some e) (Some l) path = record { value = refl; nests = lit≤ tt }

-- an item of a repack is read
pub item-reads : (copy : ℕ) (path state : List ℕ) → copy < 2 ^ 64 → IsReadable 1 (object (given ((codes "copy", Some (count copy)) ∷ (codes "path", Some (string path)) ∷ (codes "state", Some (string state)) ∷ [])))
item-reads copy path state h = record { value = rw (number_of-decimal copy h); nests = lit≤ tt }

-- a repack is read
pub repack-reads : (id vid : List ℕ) (items : Data) → IsReadable 2 items → IsReadable 3 (object (given ((codes "id", Some (string id)) ∷ (codes "items", Some items) ∷ (codes "vid", Some (string vid)) ∷ [])))
repack-reads id vid items f = record { value = rw f.value; nests = omega (arith, f.nests) }

-- a failed copy is read
pub failed-reads : (copy : ℕ) (errors : Data) (path : List ℕ) → copy < 2 ^ 64 → IsReadable 1 errors → IsReadable 2 (object (given ((codes "copy", Some (count copy)) ∷ (codes "errors", Some errors) ∷ (codes "path", Some (string path)) ∷ [])))
failed-reads copy errors path h f = record { value = rw (number_of-decimal copy h, f.value); nests = omega (arith, f.nests) }

-- a tape is read
pub tape-reads : (files next used : ℕ) (state vid : List ℕ) → files < 2 ^ 64 → next < 2 ^ 64 → used < 2 ^ 64
    → IsReadable 1 (object (given ((codes "files", Some (count files)) ∷ (codes "nextFseq", Some (count next)) ∷ (codes "state", Some (string state)) ∷ (codes "used", Some (count used)) ∷ (codes "vid", Some (string vid)) ∷ [])))
tape-reads files next used state vid a b h = record { value = rw (number_of-decimal files a, number_of-decimal next b, number_of-decimal used h); nests = lit≤ tt }

-- a queue is read
pub queue-reads : (bytes files oldest : ℕ) (direction key : List ℕ) → bytes < 2 ^ 64 → files < 2 ^ 64 → oldest < 2 ^ 64
    → IsReadable 1 (object (given ((codes "bytes", Some (count bytes)) ∷ (codes "direction", Some (string direction)) ∷ (codes "files", Some (count files)) ∷ (codes "key", Some (string key)) ∷ (codes "oldest", Some (count oldest)) ∷ [])))
queue-reads bytes files oldest direction key a b h = record { value = rw (number_of-decimal bytes a, number_of-decimal files b, number_of-decimal oldest h); nests = lit≤ tt }

-- an object with one text is read
pub text-reads : (name text : List ℕ) → IsReadable 1 (one_member name (string text))
text-reads name text = record { value = refl; nests = lit≤ tt }

-- an object with one number is read
pub count-reads : (name : List ℕ) (n : ℕ) → n < 2 ^ 64 → IsReadable 1 (one_member name (count n))
count-reads name n h = record { value = rw (number_of-decimal n h); nests = lit≤ tt }

mutual
  depth-outline : (d : Data) → tree.depth (outline d) ≡ depth d
  depth-outline null = refl
  depth-outline (boolean b) = refl
  depth-outline (number n) = refl
  depth-outline (string s) = refl
  depth-outline (array ds) = ap suc (items_depth-outline ds)
  depth-outline (object ms) = ap suc (members_depth-outline ms)

  items_depth-outline : (ds : Items) → tree.items_depth (items_outline ds) ≡ items_depth ds
  items_depth-outline no_items = refl
  items_depth-outline (item d ds) = ap (λ n. max n (tree.items_depth (items_outline ds))) (depth-outline d) ∙ ap (max (depth d)) (items_depth-outline ds)

  members_depth-outline : (ms : Members) → tree.members_depth (members_outline ms) ≡ members_depth ms
  members_depth-outline no_members = refl
  members_depth-outline (member k d ms) = ap (λ n. max n (tree.members_depth (members_outline ms))) (depth-outline d) ∙ ap (max (depth d)) (members_depth-outline ms)

-- what nests at most so deep nests at most deeper
pub IsReadable-deeper : (n m : ℕ) (d : Data) → n ≤ m → IsReadable n d → IsReadable m d
IsReadable-deeper n m d more reads = record { value = reads.value; nests = omega (arith, reads.nests) }

-- the text of the tokens of a value that is read is read as it
pub print-reads : (text : List ℕ) (d : Data) (n : ℕ) → tokens text ≡ value_tokens d → IsReadable n d → n ≤ 127 → read text ≡ Some d
print-reads text d n same reads shallow =
    ap (λ o. option_and_then of_json (option_and_then (λ p. json.if_last p.0 p.1) o)) (ap (json.value max_depth) (same ∙ sym (append-nil _)) ∙ value-json_tokens (outline d) max_depth [] (omega (arith, depth-outline d, reads.nests))) ∙ reads.value

empty_front : (old new : Written) (u : Unit {0}) (d : Data) → old.before ≡ [] → old.tokens ≡ [] → Appends {E = AllocError} (Ok u) old new (value_tokens d) → new.before ++ print new.tokens ≡ print (value_tokens d)
empty_front old new u d front none appends = ap (λ bs. bs ++ print new.tokens) (appends.before ∙ front) ∙ ap print (appends.tokens ∙ ap (λ ts. ts ++ value_tokens d) none)

-- what was written for an answer is its text
pub written-text : (o : Option Data) (old new : Written) (u : Unit {0}) (text : List ℕ) → IsSome o → old.before ≡ [] → old.tokens ≡ []
    → IfSome o (λ d. Appends {E = AllocError} (Ok u) old new (value_tokens d)) → text ≡ new.before ++ print new.tokens → option_map compact_text o ≡ Some text
written-text None old new u text some front none appends is = cc
written-text (Some d) old new u text some front none appends is =
    ap Some (sym (is ∙ empty_front old new u d front none appends ∙ print-outline d))

-- and is read as its value
pub written-reads : (o : Option Data) (old new : Written) (u : Unit {0}) (text : List ℕ) → IsSome o → old.before ≡ [] → old.tokens ≡ []
    → IfSome o (λ d. Appends {E = AllocError} (Ok u) old new (value_tokens d)) → text ≡ new.before ++ print new.tokens
    → IfSome o (IsReadable 3) → tokens (print new.tokens) ≡ new.tokens → read text ≡ o
written-reads None old new u text some front none appends is reads back = cc
written-reads (Some d) old new u text some front none appends is reads back =
    let same : new.tokens ≡ value_tokens d = appends.tokens ∙ ap (λ ts. ts ++ value_tokens d) none in
    let plain : text ≡ print new.tokens = is ∙ ap (λ bs. bs ++ print new.tokens) (appends.before ∙ front) in
    print-reads text d 3 (ap tokens plain ∙ back ∙ same) reads (lit≤ tt)
