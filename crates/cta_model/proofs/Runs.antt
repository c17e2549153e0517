-- A history is legal where a computation says so: its asks are fit, and asked again they give the same history. To show it entry by
-- entry takes ten times as long, and fails for long histories.
use Rattle.std.specs.Prelude.{ℕ, ◌≡◌, refl, ◌+◌, ◌≤◌, List, [], ◌∷◌, ◌++◌, length, Option, Some, None, is_some, Bool, true, false, if◌then◌else◌, ◌&&◌, nat_le, nat_lt}
use Rattle.std.proofs.Common.{arith, ◌⊎◌, inl, inr, subst}
use Rattle.cta_site.specs.declared.site.Site.{Site}
use Rattle.cta_model.specs.declared.asks.Ask.{Ask}
use Rattle.cta_model.specs.declared.asks.Ask.TheVariants as ask
use Rattle.cta_model.specs.declared.asks.Direction.{Direction}
use Rattle.cta_model.specs.declared.asks.Direction.TheVariants as direction
use Rattle.cta_model.specs.declared.asks.Fault.{Fault}
use Rattle.cta_model.specs.declared.asks.Fault.TheVariants as fault
use Rattle.cta_model.specs.declared.states.Mount.{Mount}
use Rattle.cta_model.specs.History.{History}
use Rattle.cta_model.specs.Mounts.{mount_of, is_mount, same_direction}
use Rattle.cta_model.specs.Answers.{answer_of, is_accepted}
use Rattle.cta_model.specs.Legal.{IsLegal, IsFit, IsMount, IsMountOf, IsFaultOf, IsEndFault, greatest_moment}
use Rattle.cta_model.specs.Kept.{history_of, history_after}
use Rattle.cta_model.proofs.Appends.{is_next}

abbrev is_mount_of : Direction → Option Mount → Bool
is_mount_of way m = is_mount (λ (x : Mount). same_direction x.direction way) m

abbrev is_fault_of : Fault → Option Mount → Bool
is_fault_of fault.Write m = is_mount_of direction.Archive m
is_fault_of fault.Flush m = is_mount_of direction.Archive m
is_fault_of fault.Read m = is_mount_of direction.Retrieve m
is_fault_of (fault.Mismatch found wanted) m = is_mount_of direction.Retrieve m
is_fault_of fault.Load m = false
is_fault_of fault.Unload m = false

abbrev is_end_fault : Option Fault → Bool
is_end_fault None = true
is_end_fault (Some fault.Load) = true
is_end_fault (Some fault.Unload) = true
is_end_fault (Some _) = false

-- whether a session keeps to its rule when it asks
abbrev is_fit : Site → History → Ask → Bool
is_fit site h (ask.Next d) = nat_lt d (length site.drives.items)
is_fit site h (ask.Claim m) = is_some (mount_of h m)
is_fit site h (ask.Flushed m items) = is_mount_of direction.Archive (mount_of h m)
is_fit site h (ask.Recalled m job) = is_mount_of direction.Retrieve (mount_of h m)
is_fit site h (ask.Failed m fault charged returned) = is_fault_of fault (mount_of h m) && nat_lt 0 (length charged.items + length returned.items)
is_fit site h (ask.End m fault) = is_some (mount_of h m) && is_end_fault fault
is_fit site h _ = true

-- whether each ask of a run is fit, and its moment in range
abbrev pub are_fit : Site → History → List (ℕ × Ask) → Bool
are_fit site h [] = true
are_fit site h (x ∷ xs) = nat_le x.0 greatest_moment && (is_fit site h x.1 && are_fit site (history_after site h x.0 x.1) xs)

both : (a b : Bool) → (a && b) ≡ true → (a ≡ true) × (b ≡ true)
both true b e = (refl, e)
both false b e = absurd (cc)

same_way : (a b : Direction) → same_direction a b ≡ true → a ≡ b
same_way direction.Archive direction.Archive e = refl
same_way direction.Retrieve direction.Retrieve e = refl
same_way direction.Archive direction.Retrieve e = absurd (cc)
same_way direction.Retrieve direction.Archive e = absurd (cc)

mount_there : (m : Option Mount) → is_some m ≡ true → IsMount m
mount_there None e = absurd (cc)
mount_there (Some x) e = tt

mount_goes : (way : Direction) (m : Option Mount) → is_mount_of way m ≡ true → IsMountOf way m
mount_goes way None e = absurd (cc)
mount_goes way (Some x) e = same_way x.direction way e

fault_fits : (f : Fault) (m : Option Mount) → is_fault_of f m ≡ true → IsFaultOf f m
fault_fits fault.Write m e = mount_goes direction.Archive m e
fault_fits fault.Flush m e = mount_goes direction.Archive m e
fault_fits fault.Read m e = mount_goes direction.Retrieve m e
fault_fits (fault.Mismatch found wanted) m e = mount_goes direction.Retrieve m e
fault_fits fault.Load m e = absurd (cc)
fault_fits fault.Unload m e = absurd (cc)

end_fits : (f : Option Fault) → is_end_fault f ≡ true → IsEndFault f
end_fits None e = tt
end_fits (Some fault.Load) e = tt
end_fits (Some fault.Unload) e = tt
end_fits (Some fault.Write) e = absurd (cc)
end_fits (Some fault.Flush) e = absurd (cc)
end_fits (Some fault.Read) e = absurd (cc)
end_fits (Some (fault.Mismatch found wanted)) e = absurd (cc)

ask_fits : (site : Site) (h : History) (k : Ask) → is_fit site h k ≡ true → IsFit site h k
ask_fits site h (ask.Next d) e = grind arith
ask_fits site h (ask.Claim m) e = mount_there (mount_of h m) e
ask_fits site h (ask.Flushed m items) e = mount_goes direction.Archive (mount_of h m) e
ask_fits site h (ask.Recalled m job) e = mount_goes direction.Retrieve (mount_of h m) e
ask_fits site h (ask.Failed m f charged returned) e =
    let parts = both (is_fault_of f (mount_of h m)) (nat_lt 0 (length charged.items + length returned.items)) e in
    (fault_fits f (mount_of h m) parts.0, (let some = parts.1 in grind arith))
ask_fits site h (ask.End m f) e =
    let parts = both (is_some (mount_of h m)) (is_end_fault f) e in
    (mount_there (mount_of h m) parts.0, end_fits f parts.1)
ask_fits site h _ e = tt

bool_cases : (t : Bool) → (t ≡ true) ⊎ (t ≡ false)
bool_cases true = inl refl
bool_cases false = inr refl

low_moment : (t n : ℕ) → nat_le t n ≡ true → t ≤ n
low_moment t n e = grind arith

pub legal_after : (site : Site) (h : History) (t : ℕ) (k : Ask) → IsLegal site h → t ≤ greatest_moment → IsFit site h k → IsLegal site (history_after site h t k)
legal_after site h t k legal low fit = elim (bool_cases (is_accepted (answer_of site h t k))) [
  | inl hit ↦ rw hit (legal, is_next site h t k (answer_of site h t k) legal low fit refl hit)
  | inr miss ↦ rw miss legal
]

run_is_legal : (site : Site) (h : History) (asks : List (ℕ × Ask)) → IsLegal site h → are_fit site h asks ≡ true → IsLegal site (history_of site h asks)
run_is_legal site h [] legal e = legal
run_is_legal site h (x ∷ xs) legal e =
    let one = both (nat_le x.0 greatest_moment) (is_fit site h x.1 && are_fit site (history_after site h x.0 x.1) xs) e in
    let two = both (is_fit site h x.1) (are_fit site (history_after site h x.0 x.1) xs) one.1 in
    run_is_legal site (history_after site h x.0 x.1) xs (legal_after site h x.0 x.1 legal (low_moment x.0 greatest_moment one.0) (ask_fits site h x.1 two.0)) two.1

-- the asks of a history but for its n oldest entries, oldest first, each with its moment
abbrev pub asks_after : ℕ → History → List (ℕ × Ask)
asks_after n [] = []
asks_after n (e ∷ h) = if nat_lt (length h) n then [] else asks_after n h ++ (e.at, e.ask) ∷ []

-- a history that goes on from a legal one is legal where its further asks are fit, and give it once more
pub replay_is_legal : (site : Site) (h g : History) → IsLegal site h → history_of site h (asks_after (length h) g) ≡ g → are_fit site h (asks_after (length h) g) ≡ true → IsLegal site g
replay_is_legal site h g legal same fit = subst (λ (x : History). IsLegal site x) same (run_is_legal site h (asks_after (length h) g) legal fit)
