-- A buffer that reached a moment tells what it told.
use Rattle.std.proofs.Common.{◌≡◌, ◌∙◌, ℕ, ◌-◌, [], ◌∷◌, List, refl, sym, ap, arith}
use Rattle.std.specs.Prelude.{Option, None, if◌then◌else◌}
use Rattle.cta_site.specs.declared.site.Site.{Site}
use Rattle.cta_model.specs.History.{History, has_number}
use Rattle.blob.specs.declared.sum.Sum256.{Sum256}
use Rattle.blob.specs.Records.{MediumView}
use Rattle.part_model.specs.declared.space.HeldPin.{HeldPin}
use Rattle.part_model.specs.declared.space.Resident.{Resident}
use Rattle.part_model.specs.Held.{ArePinsHeld, Held, HeldAgree, evict, evictable_in, evicted_for, free_in, numbers, pins_in, pins_without, prefix_of, without}
use Rattle.part_laws.specs.Held.{IsHeld}
use Rattle.disk_buffer.specs.Stays.{content_in}
use Rattle.disk_buffer.specs.Stored.{Stored}
use Rattle.archive_parts.specs.declared.parts.ArchiveParts.{ArchiveParts}
use Rattle.archive_state.specs.States.{IsState}

nothing_left : (n : ℕ) → 0 - n ≡ 0
nothing_left n = omega arith

none_leave : (v : Held) (t : ℕ) → evicted_for v t 0 ≡ []
none_leave v t = ap (λ (n : ℕ). numbers (prefix_of n (evictable_in v t))) (nothing_left (free_in v))

without_none : (rs : List Resident) → without [] rs ≡ rs
without_none [] = refl
without_none (r ∷ rs) = ap (λ (xs : List Resident). r ∷ xs) (without_none rs)

pins_stay : (ps : List HeldPin) → pins_without [] ps ≡ ps
pins_stay [] = refl
pins_stay (p ∷ ps) = ap (λ (xs : List HeldPin). p ∷ xs) (pins_stay ps)

reached_agrees : (v w : Held) (t : ℕ) → HeldAgree w (evict v t 0) → HeldAgree w v
reached_agrees v w t is = record {
  size = is.size;
  files = is.files ∙ ap (λ (gone : List ℕ). without gone v.files) (none_leave v t) ∙ without_none v.files;
  aside = is.aside;
  pins = λ m f id. is.pins m f id ∙ ap (λ (ps : List HeldPin). pins_in ps m f id) (ap (λ (gone : List ℕ). pins_without gone v.pins) (none_leave v t) ∙ pins_stay v.pins);
}

agreeing_held : (site : Site) (h : History) (v w : Held) → HeldAgree w v → IsHeld site h v → IsHeld site h w
agreeing_held site h v w agree is = record {
  size = agree.size ∙ is.size;
  files = agree.files ∙ is.files;
  aside = agree.aside ∙ is.aside;
  pins = λ t f id here now top. agree.pins t f id ∙ is.pins t f id here now top;
}

agreeing_pins : (v w : Held) → HeldAgree w v → ArePinsHeld v → ArePinsHeld w
agreeing_pins v w agree are t f id on = ap (λ (rs : List Resident). has_number f (numbers rs)) agree.files ∙ are t f id (sym (agree.pins t f id) ∙ on)

same_content : (old new : Option Sum256) (f : ℕ) (gone : List ℕ) → gone ≡ [] → new ≡ (if has_number f gone then None else old) → new ≡ old
same_content old new f gone none is = is ∙ ap (λ (xs : List ℕ). if has_number f xs then None else old) none

-- the state with a buffer that reached a moment
pub state_reached : (site : Site) (h : History) (p : ArchiveParts) (media : List (Option MediumView)) (t : ℕ) (b : Stored) → IsState site h p media → HeldAgree b.held.value (evict p.buffer.held.value t 0)
    → ((f : ℕ) → content_in b.contents f ≡ (if has_number f (evicted_for p.buffer.held.value t 0) then None else content_in p.buffer.contents f)) → IsState site h (record p { buffer = b }) media
state_reached site h p media t b is agrees contents =
    let agree : HeldAgree b.held.value p.buffer.held.value = reached_agrees p.buffer.held.value b.held.value t agrees in
    record {
      legal = is.legal;
      parts = record {
        stand = record {
          space = record {
            names = is.parts.stand.space.names;
            tapes = is.parts.stand.space.tapes;
            buffer = agreeing_held site h p.buffer.held.value b.held.value agree is.parts.stand.space.buffer;
            pins = agreeing_pins p.buffer.held.value b.held.value agree is.parts.stand.space.pins;
            requests = is.parts.stand.space.requests;
            repacks = is.parts.stand.space.repacks;
          };
          jobs = is.parts.stand.jobs;
          mounts = is.parts.stand.mounts;
          downs = is.parts.stand.downs;
          failed = is.parts.stand.failed;
        };
        contents = λ f. same_content _ _ f _ (none_leave p.buffer.held.value t) (contents f) ∙ is.parts.contents f;
        fit = record { tapes = is.parts.fit.tapes; pools = is.parts.fit.pools; recalls = is.parts.fit.recalls; vos = is.parts.fit.vos; drives = is.parts.fit.drives };
        named = is.parts.named;
      };
      shelf = is.shelf;
      places = is.places;
    }
