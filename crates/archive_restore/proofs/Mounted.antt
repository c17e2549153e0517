-- What is told of a mount.
use Rattle.std.proofs.Common.{◌≡◌, ◌∙◌, ℕ, ◌+◌, ◌<◌, inl, inr, Bool, true, false, ◌&&◌, refl, sym, ap, subst, length}
use Rattle.std.specs.Prelude.{Option, Some, None, if◌then◌else◌}
use Rattle.std.specs.Bool.{Decides}
use Rattle.cta_site.specs.Listed.{Listed}
use Rattle.cta_site.specs.declared.site.Site.{Site}
use Rattle.cta_model.specs.declared.asks.Ask.TheVariants as ask
use Rattle.cta_model.specs.declared.asks.Direction.{Direction}
use Rattle.cta_model.specs.declared.asks.Direction.TheVariants as direction
use Rattle.cta_model.specs.declared.asks.Fault.{Fault}
use Rattle.cta_model.specs.declared.asks.Item.{Item}
use Rattle.cta_model.specs.declared.asks.Job.{Job}
use Rattle.cta_model.specs.declared.states.Mount.{Mount}
use Rattle.cta_model.specs.History.{History}
use Rattle.cta_model.specs.Legal.{IsEndFault, IsFaultOf, IsLegal, IsMount, IsMountOf}
use Rattle.cta_model.specs.Mounts.{is_open, mount_of, tape_by, tape_of_mount}
use Rattle.cta_laws.proofs.MountLaw.{open_there}
use Rattle.cta_laws.proofs.Tests.{bool_cases}
use Rattle.archive_restore.specs.Asked.{MayAsk}

-- the mount, where it is open
abbrev pub open_mount : History → ℕ → Option Mount
open_mount h m = if is_open h m then mount_of h m else None

chosen : (b : Bool) (o : Option Mount) (x : Mount) → (if b then o else None) ≡ Some x → (b ≡ true) × (o ≡ Some x)
chosen true o x is = (refl, is)
chosen false o x is = absurd (cc)

not_chosen : (b : Bool) (o : Option Mount) → b ≡ true → (if b then o else None) ≡ None → o ≡ None
not_chosen true o on is = is
not_chosen false o on is = absurd (cc)

pub way_some : (h : History) (m : ℕ) (r : Option Mount) (x : Mount) → r ≡ open_mount h m → r ≡ Some x → (is_open h m ≡ true) × IsMountOf x.direction (mount_of h m)
way_some h m r x is found = (let both = chosen (is_open h m) (mount_of h m) x (sym is ∙ found) in (both.0, subst (λ (o : Option Mount). IsMountOf x.direction o) (sym both.1) refl))

pub way_none : (site : Site) (h : History) (m : ℕ) (r : Option Mount) → IsLegal site h → r ≡ open_mount h m → r ≡ None → is_open h m ≡ false
way_none site h m r legal is none =
    elim (bool_cases (is_open h m)) [
      | inr closed ↦ closed
      | inl on ↦
          (let x : (x : Mount) × (mount_of h m ≡ Some x) = open_there site h legal m on in
          let gone : mount_of h m ≡ None = not_chosen (is_open h m) (mount_of h m) on (sym is ∙ none) in
          absurd (clash (mount_of h m) x.0 x.1 gone))
    ]
  where
    clash : (o : Option Mount) (x : Mount) → o ≡ Some x → o ≡ None → ⊥
    clash None x some none = absurd (cc)
    clash (Some y) x some none = absurd (cc)

pub tape_told : (h : History) (m : ℕ) (r : Option Mount) (x : Mount) → r ≡ open_mount h m → r ≡ Some x → x.tape ≡ tape_of_mount h m
tape_told h m r x is found = sym (ap tape_by (chosen (is_open h m) (mount_of h m) x (sym is ∙ found)).1)

pub mount_told : (h : History) (m : ℕ) (r : Option Mount) → IsMount (mount_of h m) → is_open h m ≡ true → r ≡ open_mount h m → r ≡ None → ⊥
mount_told h m r there on is none = subst (λ (o : Option Mount). IsMount o) (not_chosen (is_open h m) (mount_of h m) on (sym is ∙ none)) there

pub is_mount : (way : Direction) (o : Option Mount) → IsMountOf way o → IsMount o
is_mount way None of = absurd of
is_mount way (Some m) of = tt

pub one_way : (a b : Direction) (o : Option Mount) → IsMountOf a o → IsMountOf b o → a ≡ b
one_way a b None x y = absurd x
one_way a b (Some m) x y = sym x ∙ y

-- ---- asks of an open mount that goes some way

pub flushed_may : (site : Site) (h : History) (m : ℕ) (items : Listed Item) (b : Bool) (way : Direction) → is_open h m ≡ true → IsMountOf way (mount_of h m) → Decides b (way ≡ direction.Archive) → MayAsk b site h (ask.Flushed m items)
flushed_may site h m items true way on of tells = (subst (λ (d : Direction). IsMountOf d (mount_of h m)) (tells.0 refl) of, tt)
flushed_may site h m items false way on of tells = λ fit. (let bad : false ≡ true = tells.1 (one_way way direction.Archive (mount_of h m) of fit) in absurd (cc))

pub recalled_may : (site : Site) (h : History) (m : ℕ) (j : Job) (b : Bool) (way : Direction) → is_open h m ≡ true → IsMountOf way (mount_of h m) → Decides b (way ≡ direction.Retrieve) → MayAsk b site h (ask.Recalled m j)
recalled_may site h m j true way on of tells = (subst (λ (d : Direction). IsMountOf d (mount_of h m)) (tells.0 refl) of, tt)
recalled_may site h m j false way on of tells = λ fit. (let bad : false ≡ true = tells.1 (one_way way direction.Retrieve (mount_of h m) of fit) in absurd (cc))

fault_of : (fault : Fault) (way : Direction) (o : Option Mount) (b : Bool) → IsMountOf way o → ((x : Mount) → x.direction ≡ way → Decides b (IsFaultOf fault (Some x))) → Decides b (IsFaultOf fault o)
fault_of fault way None b of tells = absurd of
fault_of fault way (Some x) b of tells = tells x of

pub failed_may : (site : Site) (h : History) (m : ℕ) (fault : Fault) (charged returned : Listed Job) (named b : Bool) (way : Direction) → is_open h m ≡ true → IsMountOf way (mount_of h m)
    → ((x : Mount) → x.direction ≡ way → Decides b (IsFaultOf fault (Some x))) → Decides named (0 < length charged.items + length returned.items) → MayAsk (named && b) site h (ask.Failed m fault charged returned)
failed_may site h m fault charged returned true true way on of tells names = (((fault_of fault way (mount_of h m) true of tells).0 refl, names.0 refl), tt)
failed_may site h m fault charged returned true false way on of tells names = λ fit. (let bad : false ≡ true = (fault_of fault way (mount_of h m) false of tells).1 fit.0 in absurd (cc))
failed_may site h m fault charged returned false b way on of tells names = λ fit. (let bad : false ≡ true = names.1 fit.1 in absurd (cc))

pub end_may : (site : Site) (h : History) (m : ℕ) (fault : Option Fault) (b : Bool) (way : Direction) → is_open h m ≡ true → IsMountOf way (mount_of h m) → Decides b (IsEndFault fault) → MayAsk b site h (ask.End m fault)
end_may site h m fault true way on of tells = ((is_mount way (mount_of h m) of, tells.0 refl), on)
end_may site h m fault false way on of tells = λ fit. (let bad : false ≡ true = tells.1 fit.1 in absurd (cc))
