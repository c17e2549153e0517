-- What a book tells after its calls.
use Rattle.std.proofs.Common.{◌≡◌, ◌∙◌, ℕ, List, [], ◌∷◌, Bool, true, false, refl, sym, ap, None, Some, arith}
use Rattle.std.specs.Prelude.{Option, if◌then◌else◌, ◌==◌, not, map, option_map}
use Rattle.std.specs.Map.{lookup}
use Rattle.std.proofs.lemmas.Bool.{eqb-true}
use Rattle.cta_model.specs.declared.states.StageFile.{StageFile}
use Rattle.cta_model.specs.declared.states.RequestFile.{RequestFile}
use Rattle.cta_model.specs.Stages.{StageRequest}
use Rattle.part_model.specs.Requests.{Requests, RequestsAgree, add_request, added_file, remove_request, request_in, turn_request}

pub flip : (x y : ℕ) → (x == y) ≡ (y == x)
flip x y = grind arith

-- the request of a number, as the map finds it
abbrev pub found_in : Requests → ℕ → Option StageRequest
found_in v q = lookup (λ k. q == k) v

pub request_is : (v : Requests) (q : ℕ) → request_in v q ≡ found_in v q
request_is [] q = refl
request_is (x ∷ xs) q = (λ i. if flip x.0 q i then Some x.1 else request_is xs q i)

-- a request with each file turned
abbrev turned : (RequestFile → RequestFile) → StageRequest → StageRequest
turned turn r = record { at = r.at; files = map turn r.files }

turn_is : (id : ℕ) (turn : RequestFile → RequestFile) (v : Requests) (q : ℕ) → request_in (turn_request id turn v) q ≡ (if id == q then option_map (turned turn) (request_in v q) else request_in v q)
turn_is id turn [] q = none (id == q)
  where
    none : (b : Bool) → ◌≡◌ {A = Option StageRequest} None (if b then None else None)
    none true = refl
    none false = refl
turn_is id turn (x ∷ xs) q = by (x.0 == id) refl (x.0 == q) refl (turn_is id turn xs q)
  where
    by : (a : Bool) → (x.0 == id) ≡ a → (b : Bool) → (x.0 == q) ≡ b → request_in (turn_request id turn xs) q ≡ (if id == q then option_map (turned turn) (request_in xs q) else request_in xs q)
        → request_in ((if a then (x.0, turned turn x.1) else x) ∷ turn_request id turn xs) q ≡ (if id == q then option_map (turned turn) (if b then Some x.1 else request_in xs q) else (if b then Some x.1 else request_in xs q))
    by true ea true eb ih = (let here : (id == q) ≡ true = ap (λ (n : ℕ). n == q) (sym (eqb-true x.0 id ea)) ∙ eb in rw (here, eb) refl)
    by true ea false eb ih = rw eb ih
    by false ea true eb ih = (let other : (id == q) ≡ false = flip id q ∙ ap (λ (n : ℕ). n == id) (sym (eqb-true x.0 q eb)) ∙ ea in rw (other, eb) refl)
    by false ea false eb ih = rw eb ih

-- one request is turned where the map has another value at its number
pub turn_tells : (v w : Requests) (id : ℕ) (turn : RequestFile → RequestFile) (old new : StageRequest) → found_in v id ≡ Some old → new ≡ record { at = old.at; files = map turn old.files } → ((q : ℕ) → found_in w q ≡ (if id == q then Some new else found_in v q)) → RequestsAgree w (turn_request id turn v)
turn_tells v w id turn old new here is each q = request_is w q ∙ each q ∙ by (id == q) refl ∙ ap (λ (o : Option StageRequest). if id == q then option_map (turned turn) o else o) (sym (request_is v q)) ∙ sym (turn_is id turn v q)
  where
    by : (b : Bool) → (id == q) ≡ b → (if b then Some new else found_in v q) ≡ (if b then option_map (turned turn) (found_in v q) else found_in v q)
    by true e = ap (λ (r : StageRequest). Some r) is ∙ sym (ap (option_map (turned turn)) (ap (found_in v) (sym (eqb-true id q e)) ∙ here))
    by false e = refl

-- nothing is turned where there is no such request
pub turn_none : (v w : Requests) (id : ℕ) (turn : RequestFile → RequestFile) → found_in v id ≡ None → ((q : ℕ) → found_in w q ≡ found_in v q) → RequestsAgree w (turn_request id turn v)
turn_none v w id turn none each q = request_is w q ∙ each q ∙ sym (request_is v q) ∙ by (id == q) refl ∙ sym (turn_is id turn v q)
  where
    by : (b : Bool) → (id == q) ≡ b → request_in v q ≡ (if b then option_map (turned turn) (request_in v q) else request_in v q)
    by true e = gone ∙ sym (ap (option_map (turned turn)) gone)
      where
        gone : request_in v q ≡ None
        gone = request_is v q ∙ ap (found_in v) (sym (eqb-true id q e)) ∙ none
    by false e = refl

pub add_tells : (v w : Requests) (id at : ℕ) (files : List StageFile) (row : StageRequest) → row ≡ record { at = at; files = map (λ (s : StageFile). added_file at s s.file) files } → ((q : ℕ) → found_in w q ≡ (if id == q then Some row else found_in v q)) → RequestsAgree w (add_request id at files v)
add_tells v w id at files row is each q = request_is w q ∙ each q ∙ by (id == q)
  where
    by : (b : Bool) → (if b then Some row else found_in v q) ≡ (if b then Some (record { at = at; files = map (λ (s : StageFile). added_file at s s.file) files }) else request_in v q)
    by true = ap (λ (r : StageRequest). Some r) is
    by false = sym (request_is v q)

remove_is : (id : ℕ) (v : Requests) (q : ℕ) → request_in (remove_request id v) q ≡ (if id == q then None else request_in v q)
remove_is id [] q = none (id == q)
  where
    none : (b : Bool) → ◌≡◌ {A = Option StageRequest} None (if b then None else None)
    none true = refl
    none false = refl
remove_is id (x ∷ xs) q = by (x.0 == id) refl (x.0 == q) refl (remove_is id xs q)
  where
    by : (a : Bool) → (x.0 == id) ≡ a → (b : Bool) → (x.0 == q) ≡ b → request_in (remove_request id xs) q ≡ (if id == q then None else request_in xs q)
        → request_in (if not a then x ∷ remove_request id xs else remove_request id xs) q ≡ (if id == q then None else (if b then Some x.1 else request_in xs q))
    by true ea true eb ih = (let here : (id == q) ≡ true = ap (λ (n : ℕ). n == q) (sym (eqb-true x.0 id ea)) ∙ eb in ih ∙ ap (λ (b : Bool). if b then None else request_in xs q) here ∙ sym (ap (λ (b : Bool). if b then None else Some x.1) here))
    by true ea false eb ih = ih
    by false ea true eb ih = (let other : (id == q) ≡ false = flip id q ∙ ap (λ (n : ℕ). n == id) (sym (eqb-true x.0 q eb)) ∙ ea in rw (other, eb) refl)
    by false ea false eb ih = rw eb ih

pub remove_tells : (v w : Requests) (id : ℕ) → ((q : ℕ) → found_in w q ≡ (if id == q then None else found_in v q)) → RequestsAgree w (remove_request id v)
remove_tells v w id each q = request_is w q ∙ each q ∙ ap (λ (o : Option StageRequest). if id == q then None else o) (sym (request_is v q)) ∙ sym (remove_is id v q)
