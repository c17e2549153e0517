-- Calls of the book of stage requests, one by one.
use Rattle.std.proofs.Common.{◌≡◌, ◌∙◌, ◌+◌, ◌<◌, ℕ, List, [], ◌∷◌, ◌++◌, refl, sym, ap, subst, arith, length, length-append, take}
use Rattle.std.specs.Prelude.{get_or}
use Rattle.std.proofs.lemmas.List.{take_more}
use Rattle.cta_model.specs.Stages.{started}
use Rattle.part_model.specs.declared.space.FileEnd.{FileEnd}
use Rattle.part_model.specs.declared.space.FileEnd.TheVariants as ends
use Rattle.part_model.specs.Requests.{Requests, RequestsAgree, ended_file, finish, finish_all, release, release_all, released_at, request_in, start, start_all, turned_file}
use Rattle.part_laws.specs.BookCalls.{asked_by}
use Rattle.part_laws.proofs.SameBooks.{request_calls_agree}
use Rattle.part_moves.specs.Texts.{AreAll}
use Rattle.part_moves.proofs.LastOnes.{all_same_front, all_same_last, all_same_more, finish_last, one_longer, start_last}

-- ---- releases

release_last : (id : ℕ) (ps : List (List ℕ)) (p : List ℕ) (v : Requests) → release_all id (ps ++ p ∷ []) v ≡ release id p (release_all id ps v)
release_last id [] p v = refl
release_last id (q ∷ ps) p v = release_last id ps p (release id q v)

-- one path more is released
pub release_more : (id i : ℕ) (ps : List (List ℕ)) (d : List ℕ) (v mid now : Requests) → i < length ps → RequestsAgree mid (release_all id (take i ps) v) → RequestsAgree now (release id (get_or ps i d) mid)
    → RequestsAgree now (release_all id (take (i + 1) ps) v)
release_more id i ps d v mid now low before then_one k =
    then_one k
    ∙ (request_calls_agree mid (release_all id (take i ps) v) before).turned id (released_at (get_or ps i d)) k
    ∙ sym (ap (λ (w : Requests). request_in w k) (ap (λ (qs : List (List ℕ)). release_all id qs v) (take_more ps i d low) ∙ release_last id (take i ps) (get_or ps i d) v))

-- ---- ends

asked_last : (id : ℕ) (fs : List ℕ) (f : ℕ) → asked_by id (fs ++ f ∷ []) ≡ asked_by id fs ++ (id, f) ∷ []
asked_last id [] f = refl
asked_last id (g ∷ fs) f = ap (λ (xs : List (ℕ × ℕ)). (id, g) ∷ xs) (asked_last id fs f)

-- one file more has ended so
pub finish_more : (at id i : ℕ) (how : FileEnd) (fs : List ℕ) (d : ℕ) (v mid now : Requests) → i < length fs → RequestsAgree mid (finish_all at (λ g. how) (asked_by id (take i fs)) v)
    → RequestsAgree now (finish id (get_or fs i d) at how mid) → RequestsAgree now (finish_all at (λ g. how) (asked_by id (take (i + 1) fs)) v)
finish_more at id i how fs d v mid now low before then_one k =
    then_one k
    ∙ (request_calls_agree mid (finish_all at (λ g. how) (asked_by id (take i fs)) v) before).turned id (turned_file (get_or fs i d) (ended_file at how)) k
    ∙ sym (ap (λ (w : Requests). request_in w k)
    (ap (λ (gs : List ℕ). finish_all at (λ g. how) (asked_by id gs) v) (take_more fs i d low)
    ∙ ap (λ (xs : List (ℕ × ℕ)). finish_all at (λ g. how) xs v) (asked_last id (take i fs) (get_or fs i d))
    ∙ finish_last at (λ g. how) (asked_by id (take i fs)) (id, get_or fs i d) v))

-- ---- starts

-- one file more is STARTED
pub start_more : (at id i : ℕ) (fs : List ℕ) (d : ℕ) (v mid now : Requests) → i < length fs → RequestsAgree mid (start_all at (asked_by id (take i fs)) v) → RequestsAgree now (start id (get_or fs i d) at mid)
    → RequestsAgree now (start_all at (asked_by id (take (i + 1) fs)) v)
start_more at id i fs d v mid now low before then_one k =
    then_one k
    ∙ (request_calls_agree mid (start_all at (asked_by id (take i fs)) v) before).turned id (turned_file (get_or fs i d) (λ s. started s at)) k
    ∙ sym (ap (λ (w : Requests). request_in w k)
    (ap (λ (gs : List ℕ). start_all at (asked_by id gs) v) (take_more fs i d low)
    ∙ ap (λ (xs : List (ℕ × ℕ)). start_all at xs v) (asked_last id (take i fs) (get_or fs i d))
    ∙ start_last at (asked_by id (take i fs)) (id, get_or fs i d) v))

-- ---- texts that are all the same

-- a text that is taken from the end, and those that are left
pub all_same_popped : (t x : List ℕ) (xs old : List (List ℕ)) → old ≡ xs ++ x ∷ [] → AreAll t old → AreAll t xs × (x ≡ t)
all_same_popped t x xs old is all = (let whole : AreAll t (xs ++ x ∷ []) = subst (AreAll t) is all in (all_same_front t xs (x ∷ []) whole, all_same_last t x xs whole))

-- one file more has its error
pub finish_text : (at id i : ℕ) (t x : List ℕ) (fs : List ℕ) (d : ℕ) (left old : List (List ℕ)) (v mid now : Requests) → i < length fs → old ≡ left ++ x ∷ [] → length old + i ≡ length fs → AreAll t old
    → RequestsAgree mid (finish_all at (λ g. ends.Failed t) (asked_by id (take i fs)) v) → RequestsAgree now (finish id (get_or fs i d) at (ends.Failed x) mid)
    → (length left + (i + 1) ≡ length fs) × AreAll t left × RequestsAgree now (finish_all at (λ g. ends.Failed t) (asked_by id (take (i + 1) fs)) v)
finish_text at id i t x fs d left old v mid now low popped many same before last =
    let rest : AreAll t left × (x ≡ t) = all_same_popped t x left old popped same in
    let shorter : length (left ++ x ∷ []) ≡ length left + 1 = length-append left (x ∷ []) in
    let count : length old ≡ length left + 1 = ap length popped ∙ shorter in
    let then_one : RequestsAgree now (finish id (get_or fs i d) at (ends.Failed t) mid) = subst (λ (y : List ℕ). RequestsAgree now (finish id (get_or fs i d) at (ends.Failed y) mid)) rest.1 last in
    (omega arith, rest.0, finish_more at id i (ends.Failed t) fs d v mid now low before then_one)
