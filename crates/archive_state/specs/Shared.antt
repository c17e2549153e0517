-- Media that are given to an archive with a history, and where they are then.
use Rattle.std.specs.Prelude.{ℕ, ◌≡◌, ◌==◌, Bool, List, length, map, Option, Some, None, if◌then◌else◌, option_map, reverse, slice_get}
use Rattle.std.specs.List.{AllByRecursion, list_any}
use Rattle.blob.specs.Records.{MediumView, medium_at}
use Rattle.cta_site.specs.declared.site.Site.{Site}
use Rattle.cta_model.specs.declared.states.Mount.{Mount}
use Rattle.cta_model.specs.History.{History}
use Rattle.cta_model.specs.Media.{IsMediumOf}
use Rattle.cta_model.specs.Mounts.{is_mount, is_mounted, mount_of, open_mounts, tape_of_mount}

-- whether one of these mounts has the tape
abbrev pub is_mounted_by : History → List ℕ → ℕ → Bool
is_mounted_by h mounts v = list_any (λ m. is_mount (λ (x : Mount). x.tape == v) (mount_of h m)) mounts

module _ {M : Type 0} (told : M → MediumView) where
  -- media for a history: the one of each tape of the site, by its number, each true for the history where it tells
  pub record AreMedia (site : Site) (h : History) (media : List M) : Type 0 where
    pub count : length media ≡ length site.tapes.items
    pub each : (v : ℕ) (m : M) → slice_get media v ≡ Some m → IsMediumOf h v (told m)

  -- the medium that was given for a tape
  abbrev pub medium_for : List M → ℕ → Option MediumView
  medium_for media v = option_map told (slice_get media v)

  -- media are shared out: the shelf has those of the tapes that no open mount has, and the open mounts, in order of their numbers, have each that of its tape
  pub record AreShared (h : History) (media : List M) (places : List (Option MediumView)) (mounts : List (ℕ × M)) : Type 0 where
    pub count : length places ≡ length media
    pub shelf : (v : ℕ) → medium_at places v ≡ (if is_mounted h v then None else medium_for media v)
    pub open_ones : map (λ (x : ℕ × M). x.0) mounts ≡ reverse (open_mounts h)
    pub each : AllByRecursion (λ (x : ℕ × M). medium_for media (tape_of_mount h x.0) ≡ Some (told x.1)) mounts
