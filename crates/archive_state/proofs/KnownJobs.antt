-- Jobs that an ask names to end their claims, told by the parts; and which way the mount of an accepted Failed goes.
use Rattle.std.proofs.Common.{◌≡◌, ◌∙◌, ℕ, List, ◌++◌, Bool, true, false, ◌&&◌, not, refl, sym, arith}
use Rattle.std.specs.Prelude.{Option, Some, None, option_map, if◌then◌else◌}
use Rattle.std.specs.List.{list_all}
use Rattle.std.proofs.lemmas.List.Folds.{list_all-append}
use Rattle.cta_site.specs.declared.site.Site.{Site}
use Rattle.cta_site.specs.Listed.{rows}
use Rattle.cta_model.specs.declared.asks.Ask.TheVariants as ask
use Rattle.cta_model.specs.declared.asks.Direction.{Direction}
use Rattle.cta_model.specs.declared.asks.Fault.{Fault}
use Rattle.cta_model.specs.declared.asks.Fault.TheVariants as fault
use Rattle.cta_model.specs.declared.asks.Job.{Job}
use Rattle.cta_model.specs.declared.states.Mount.{Mount}
use Rattle.cta_model.specs.Answers.{answer_of, claims_all, is_accepted, is_known, names_twice}
use Rattle.cta_model.specs.History.{History}
use Rattle.cta_model.specs.Legal.{IsFaultOf, IsLegal, IsMountOf}
use Rattle.cta_model.specs.Mounts.{is_open, mount_of}
use Rattle.cta_laws.proofs.Loads.{known_parts}
use Rattle.part_model.specs.Mounts.{has_mount}
use Rattle.part_laws.specs.Mounts.{RowsTell}
use Rattle.part_laws.specs.Sessions.{claims_told}
use Rattle.part_laws.proofs.ChoiceTold.{tells_mounts}
use Rattle.fault_asks.proofs.Claimed.{failed_known}
use Rattle.archive_parts.specs.PartsKept.{ArePartsKept, values_of}
use Rattle.archive_parts.specs.declared.parts.ArchiveParts.{ArchiveParts}
use Rattle.archive_state.proofs.Claimed.{jobs_claimed}

-- ---- two lists of jobs

first_not : (a b n w : Bool) → w ≡ (a && b) → a ≡ false → false ≡ (w && n)
first_not a b n w is e = grind arith

second_not : (a b n w : Bool) → w ≡ (a && b) → b ≡ false → false ≡ (w && n)
second_not a b n w is e = grind arith

both_are : (a b t w : Bool) → w ≡ (a && b) → a ≡ true → b ≡ true → not t ≡ (w && not t)
both_are a b t w is e f = grind arith

-- a job of the first is not claimed
pub first_unclaimed : (p : Job → Bool) (xs ys : List Job) → list_all p xs ≡ false → false ≡ (list_all p (xs ++ ys) && not (names_twice (xs ++ ys)))
first_unclaimed p xs ys = first_not (list_all p xs) (list_all p ys) (not (names_twice (xs ++ ys))) (list_all p (xs ++ ys)) (list_all-append p xs ys)

-- a job of the second is not
pub second_unclaimed : (p : Job → Bool) (xs ys : List Job) → list_all p ys ≡ false → false ≡ (list_all p (xs ++ ys) && not (names_twice (xs ++ ys)))
second_unclaimed p xs ys = second_not (list_all p xs) (list_all p ys) (not (names_twice (xs ++ ys))) (list_all p (xs ++ ys)) (list_all-append p xs ys)

-- all are claimed
pub both_claimed : (p : Job → Bool) (xs ys : List Job) → list_all p xs ≡ true → list_all p ys ≡ true → not (names_twice (xs ++ ys)) ≡ (list_all p (xs ++ ys) && not (names_twice (xs ++ ys)))
both_claimed p xs ys = both_are (list_all p xs) (list_all p ys) (names_twice (xs ++ ys)) (list_all p (xs ++ ys)) (list_all-append p xs ys)

-- ---- whether jobs are known

open_known : (a b c d : Bool) → a ≡ true → b ≡ c → (b && d) ≡ (a && (c && d))
open_known a b c d on same = grind arith

-- the mount is open
pub jobs_there : (site : Site) (h : History) (p : ArchiveParts) (m : ℕ) (js : List Job) → IsLegal site h → ArePartsKept site h p → has_mount m p.mounts.value.rows ≡ true
    → (list_all (claims_told p.book.value m) js && not (names_twice js)) ≡ is_known h m js
jobs_there site h p m js legal kept has =
    let tells : RowsTell site h p.mounts.value.rows = tells_mounts site h (values_of p) kept.stand in
    let on : is_open h m ≡ true = sym (tells.opens m) ∙ has in
    open_known (is_open h m) (list_all (claims_told p.book.value m) js) (claims_all h m js) (not (names_twice js)) on (jobs_claimed site h p m js legal kept on)

-- it is not
pub jobs_none : (site : Site) (h : History) (p : ArchiveParts) (m : ℕ) (js : List Job) → ArePartsKept site h p → has_mount m p.mounts.value.rows ≡ false → false ≡ is_known h m js
jobs_none site h p m js kept none =
    let tells : RowsTell site h p.mounts.value.rows = tells_mounts site h (values_of p) kept.stand in
    let off : is_open h m ≡ false = sym (tells.opens m) ∙ none in
    rw off refl

-- ---- the mount of an accepted Failed

-- a mount that is told to go this way does
pub goes : (way : Direction) (h : History) (m : ℕ) → Some way ≡ (if is_open h m then option_map (λ (x : Mount). x.direction) (mount_of h m) else None) → IsMountOf way (mount_of h m)
goes way h m is = by (is_open h m) (mount_of h m) is
  where
    same : (a b : Direction) → Some a ≡ Some b → b ≡ a
    same a b e = cc

    by : (b : Bool) (o : Option Mount) → Some way ≡ (if b then option_map (λ (x : Mount). x.direction) o else None) → IsMountOf way o
    by true None e = absurd (cc)
    by true (Some x) e = same way x.direction e
    by false o e = absurd (cc)

some_way : (f : Fault) (o : Option Mount) → ◌≡◌ {A = Option Direction} None (option_map (λ (x : Mount). x.direction) o) → IsFaultOf f o → ⊥
some_way fault.Write None e is = is
some_way fault.Flush None e is = is
some_way fault.Read None e is = is
some_way (fault.Mismatch found wanted) None e is = is
some_way fault.Load None e is = is
some_way fault.Unload None e is = is
some_way f (Some x) e is = absurd (cc)

-- and it is told to go some way
pub goes_somewhere : (site : Site) (h : History) (t m : ℕ) (f : Fault) (charged returned : List Job) → IsFaultOf f (mount_of h m) → is_accepted (answer_of site h t (ask.Failed m f (rows charged) (rows returned))) ≡ true
    → ◌≡◌ {A = Option Direction} None (if is_open h m then option_map (λ (x : Mount). x.direction) (mount_of h m) else None) → ⊥
goes_somewhere site h t m f charged returned fit accepted none =
    let known : is_known h m (charged ++ returned) ≡ true = failed_known site h t m f (rows charged) (rows returned) (answer_of site h t (ask.Failed m f (rows charged) (rows returned))) refl accepted in
    let on : is_open h m ≡ true = (known_parts h m (charged ++ returned) known).0 in
    some_way f (mount_of h m) (rw on at none) fit
