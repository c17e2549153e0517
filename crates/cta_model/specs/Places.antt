-- Places: where on tape the copies of files are.
use Rattle.std.specs.Prelude.{ℕ, List, [], ◌∷◌, Option, Some, None, is_some, Bool, true, false, if◌then◌else◌, ◌==◌, ◌&&◌, not, filter, zip}
use Rattle.std.specs.List.{list_any, list_all, filter_map}
use Rattle.cta_site.specs.declared.site.Site.{Site}
use Rattle.cta_model.specs.declared.asks.Ask.{Ask}
use Rattle.cta_model.specs.declared.asks.Ask.TheVariants as ask
use Rattle.cta_model.specs.declared.answers.Answer.{Answer}
use Rattle.cta_model.specs.declared.answers.Answer.TheVariants as answer
use Rattle.cta_model.specs.declared.asks.Fate.{Fate}
use Rattle.cta_model.specs.declared.asks.Fate.TheVariants as fate
use Rattle.cta_model.specs.declared.asks.Item.{Item}
use Rattle.cta_model.specs.declared.states.Place.{Place}
use Rattle.cta_model.specs.History.{History}
use Rattle.cta_model.specs.Files.{is_live, copy_numbers}
use Rattle.cta_model.specs.Mounts.{asked_mount, tape_of_mount}
use Rattle.cta_model.specs.Tapes.{tape_state, is_broken, tape_items}

-- whether a fate is Done: its job had not ended
abbrev pub is_done : Fate → Bool
is_done fate.Done = true
is_done fate.Stale = false

-- the items of a Flushed, each with its fate
abbrev pub flushed_in : Ask → Answer → List (Item × Fate)
flushed_in (ask.Flushed m items) (answer.Told fates) = zip items.items fates.items
flushed_in _ _ = []

-- whether an item put this copy of the file on tape
abbrev pub is_copy_of : ℕ → ℕ → Item × Fate → Bool
is_copy_of f c x = is_done x.1 && ((x.0.job.file == f) && (x.0.job.copy == c))

-- the fSeq of the last item that put this copy of the file on tape
abbrev pub fseq_after : List (Item × Fate) → ℕ → ℕ → Option ℕ → Option ℕ
fseq_after [] f c before = before
fseq_after (x ∷ xs) f c before = fseq_after xs f c (if is_copy_of f c x then Some x.0.fseq else before)

-- the place of a copy after a flush to a tape: that tape and its fSeq there, or as before where it got no fSeq
abbrev pub place_after : ℕ → ℕ → Option ℕ → Option Place → Option Place
place_after c v None before = before
place_after c v (Some s) before = Some (record { copy = c; tape = v; fseq = s })

-- the tape and fSeq of the last flushed item of this copy of the file with fate Done
abbrev pub last_flushed : History → ℕ → ℕ → Option Place
last_flushed [] f c = None
last_flushed (e ∷ h) f c = place_after c (tape_of_mount h (asked_mount e.ask)) (fseq_after (flushed_in e.ask e.answer) f c None) (last_flushed h f c)

-- whether this copy of the file was flushed
abbrev pub was_flushed : History → ℕ → ℕ → Bool
was_flushed h f c = is_some (last_flushed h f c)

-- the place of a copy of a live file
abbrev pub place_of : History → ℕ → ℕ → Option Place
place_of h f c = if is_live h f then last_flushed h f c else None

-- every place of a file, on whatever tapes, by copy
abbrev pub all_places : Site → History → ℕ → List Place
all_places site h f = filter_map (place_of h f) (copy_numbers site h f)

-- the places of a file: those on tapes that are not BROKEN, by copy
abbrev pub places_of : Site → History → ℕ → List Place
places_of site h f = filter (λ (p : Place). not (is_broken (tape_state site h p.tape))) (all_places site h f)

-- whether one of the places is on this tape
abbrev pub has_place_on : ℕ → List Place → Bool
has_place_on v places = list_any (λ (p : Place). p.tape == v) places

-- a file is taped where each copy of its class was flushed
abbrev pub is_taped : Site → History → ℕ → Bool
is_taped site h f = list_all (was_flushed h f) (copy_numbers site h f)

-- whether a copy's place is on this tape, at this fSeq
abbrev pub is_at : ℕ → ℕ → Option Place → Bool
is_at v s None = false
is_at v s (Some p) = p.tape == v && p.fseq == s

-- the items of a tape, in order, that are the places of copies of live files: in order of fSeq, and each such copy once
abbrev pub live_items_on : History → ℕ → List Item
live_items_on h v = filter (λ (i : Item). is_at v i.fseq (place_of h i.job.file i.job.copy)) (tape_items h v)
