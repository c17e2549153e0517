-- A file is said to be on tape only where each copy of its class was flushed.
use Rattle.std.proofs.Common.{◌≡◌, ℕ, ◌⊎◌, inl, inr, List, [], ◌∷◌, Bool, true, false, ◌||◌, refl, sym, ap, subst, arith}
use Rattle.std.specs.Prelude.{Option, Some, None, is_some, if◌then◌else◌}
use Rattle.std.specs.List.{list_any, AllByRecursion}
use Rattle.cta_site.specs.declared.site.Site.{Site}
use Rattle.cta_model.specs.declared.asks.Item.{Item}
use Rattle.cta_model.specs.declared.asks.Fate.{Fate}
use Rattle.cta_model.specs.declared.answers.Answer.{Answer}
use Rattle.cta_model.specs.declared.answers.Answer.TheVariants as answer
use Rattle.cta_model.specs.declared.reports.Locality.{Locality}
use Rattle.cta_model.specs.declared.reports.Locality.TheVariants as locality
use Rattle.cta_model.specs.declared.reports.PlaceInfo.{PlaceInfo}
use Rattle.cta_model.specs.declared.states.Place.{Place}
use Rattle.cta_model.specs.History.{History}
use Rattle.cta_model.specs.Files.{live_file, copies_of_file}
use Rattle.cta_model.specs.Mounts.{tape_of_mount, asked_mount}
use Rattle.cta_model.specs.Tapes.{may_be_read, is_disabled}
use Rattle.cta_model.specs.Places.{fseq_after, is_copy_of, place_after, flushed_in, last_flushed, was_flushed, is_taped}
use Rattle.cta_model.specs.Buffer.{is_resident}
use Rattle.cta_model.specs.Localities.{locality_by, locality_of, has_place_where}
use Rattle.cta_model.specs.Reports.{place_info, place_infos}
use Rattle.cta_laws.specs.Localities.{WasFlushed, SaysTape, TapeIsFlushed, IsTrueOfTape, ToldTapeIsFlushed, EachCopyWasFlushed}
use Rattle.cta_laws.proofs.Ranges.{in_range_all}

-- an item that put the copy on tape is among the items
pub fseq_done : (xs : List (Item × Fate)) (f c : ℕ) (before : Option ℕ) → is_some (fseq_after xs f c before) ≡ true → (list_any (is_copy_of f c) xs ≡ true) ⊎ (is_some before ≡ true)
fseq_done [] f c before = λ h. inr h
fseq_done (x ∷ xs) f c before =
    elim (is_copy_of f c x)
    as (λ b. is_some (fseq_after xs f c (if b then Some x.0.fseq else before)) ≡ true → ((b || list_any (is_copy_of f c) xs) ≡ true) ⊎ (is_some before ≡ true))
    [ true ↦ λ h. inl refl | false ↦ λ h. fseq_done xs f c before h ]

pub place_cases : (c v : ℕ) (o : Option ℕ) (before : Option Place) → is_some (place_after c v o before) ≡ true → (is_some o ≡ true) ⊎ (is_some before ≡ true)
place_cases c v None before h = inr h
place_cases c v (Some s) before h = inl refl

pub flushed_done : (xs : List (Item × Fate)) (f c : ℕ) → is_some (fseq_after xs f c None) ≡ true → list_any (is_copy_of f c) xs ≡ true
flushed_done xs f c h = elim (fseq_done xs f c None h) [ inl b ↦ b | inr z ↦ absurd (cc) ]

pub copy_flushed : (h : History) (f c : ℕ) → was_flushed h f c ≡ true → WasFlushed h f c
copy_flushed [] f c s = absurd (cc)
copy_flushed (e ∷ h) f c s =
    elim (place_cases c (tape_of_mount h (asked_mount e.ask)) (fseq_after (flushed_in e.ask e.answer) f c None) (last_flushed h f c) s)
    [ inl a ↦ inl (flushed_done (flushed_in e.ask e.answer) f c a) | inr b ↦ inr (copy_flushed h f c b) ]

pub each_flushed : (site : Site) (h : History) (f : ℕ) → is_taped site h f ≡ true → EachCopyWasFlushed site h f
each_flushed site h f all c low high = copy_flushed h f c (in_range_all (was_flushed h f) 1 (copies_of_file site h f) all c low (omega arith))

pub taped_by : (taped readable resident disabled : Bool) → SaysTape (locality_by taped readable resident disabled) → taped ≡ true
taped_by true readable resident disabled h = refl
taped_by false readable true disabled h = elim h [ inl a ↦ absurd (cc) | inr a ↦ absurd (cc) ]
taped_by false readable false true h = elim h [ inl a ↦ absurd (cc) | inr a ↦ absurd (cc) ]
taped_by false readable false false h = elim h [ inl a ↦ absurd (cc) | inr a ↦ absurd (cc) ]

pub tape_is_flushed : TapeIsFlushed
tape_is_flushed site h f said = each_flushed site h f (taped_by (is_taped site h f) (has_place_where may_be_read site h f) (is_resident h f) (has_place_where is_disabled site h f) said)

-- ---- what is told

pub locality_in : PlaceInfo → Option Locality
locality_in i = i.locality

pub locality_or : Option Locality → Locality
locality_or None = locality.Lost
locality_or (Some l) = l

pub info_true : (site : Site) (h : History) (path : List ℕ) (o : Option ℕ) → live_file h path ≡ o → IsTrueOfTape site h (place_info site h path o)
unfolding locality_or
info_true site h path None is = λ l e says. absurd (cc)
info_true site h path (Some f) is = λ l e says. (let same : locality_of site h f ≡ l = ap locality_or e in (f, is, tape_is_flushed site h f (subst (λ x. SaysTape x) (sym same) says)))

pub infos_true : (site : Site) (h : History) (paths : List (List ℕ)) → AllByRecursion (IsTrueOfTape site h) (place_infos site h paths)
infos_true site h [] = tt
infos_true site h (p ∷ paths) = (info_true site h p (live_file h p) refl, infos_true site h paths)

pub infos_in : Answer → List PlaceInfo
infos_in (answer.Places infos) = infos.items
infos_in _ = []

pub told_tape_is_flushed : ToldTapeIsFlushed
unfolding infos_in
told_tape_is_flushed site h t paths infos told =
    let same : place_infos site h paths.items ≡ infos = ap infos_in told in
    subst (λ (xs : List PlaceInfo). AllByRecursion (IsTrueOfTape site h) xs) same (infos_true site h paths.items)
