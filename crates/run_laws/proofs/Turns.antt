-- In two runs of the same records the same happens, but for what comes from outside.
use Rattle.std.proofs.Common.{◌≡◌, ◌∙◌, ℕ, List, [], ◌∷◌, ◌++◌, refl, sym, ap, map, inl, inr, ◌⊎◌}
use Rattle.std.specs.List.{flat_map}
use Rattle.cta_site.specs.declared.site.Site.{Site}
use Rattle.conn.specs.Cut.{Event}
use Rattle.links.specs.Run.{Feed, Turn, feed_of}
use Rattle.links.specs.Laws.{HasOneRun, MayDiffer}
use Rattle.replay.specs.Script.{HasOneReading, IsScriptCut, OfDrive, OfLink, Record, ScriptCut, cut_bytes, cut_records, feed}
use Rattle.replay.specs.Run.{Exchange, Happening, IsScriptRun, OnDrive, OnLink, ScriptTurn, all_happenings, answered_on, events_of, links_turns, record_of, turn_with}
use Rattle.run_laws.proofs.Twins.{EachTwin}
use Rattle.replay.proofs.OneOutput.{no_drive}

-- ---- lists of what happens

twins_append : (hs ks more others : List Happening) → EachTwin hs ks → EachTwin more others → EachTwin (hs ++ more) (ks ++ others)
twins_append [] [] more others a b = b
twins_append [] (k ∷ ks) more others a b = absurd a
twins_append (h ∷ hs) [] more others a b = absurd a
twins_append (h ∷ hs) (k ∷ ks) more others a b = (a.0, twins_append hs ks more others a.1 b)

twin_answers : (link l moment m : ℕ) (xs ys : List Exchange) → link ≡ l → moment ≡ m → events_of xs ≡ events_of ys → EachTwin (answered_on link moment xs) (answered_on l m ys)
twin_answers link l moment m [] [] a b e = tt
twin_answers link l moment m [] (y ∷ ys) a b e = absurd (no_events y.event (events_of ys) e)
  where
    no_events : (e : Event) (es : List Event) → [] ≡ e ∷ es → ⊥
    no_events e es is = cc
twin_answers link l moment m (x ∷ xs) [] a b e = absurd (no_events x.event (events_of xs) e)
  where
    no_events : (e : Event) (es : List Event) → e ∷ es ≡ [] → ⊥
    no_events e es is = cc
twin_answers link l moment m (x ∷ xs) (y ∷ ys) a b e =
    let event : x.event ≡ y.event = cc in
    let events : events_of xs ≡ events_of ys = cc in
    ((a, b, event), twin_answers link l moment m xs ys a b events)

-- ---- turns

feeds_in : Record → List Feed
feeds_in (OfLink f) = f ∷ []
feeds_in (OfDrive drive moment) = []

feeds_told : (ts : List ScriptTurn) → map feed_of (links_turns ts) ≡ flat_map feeds_in (map record_of ts)
unfolding feeds_in
feeds_told [] = refl
feeds_told (OnLink link moment bytes exchanges ∷ ts) = ap (λ fs. feed link moment bytes ∷ fs) (feeds_told ts)
feeds_told (OnDrive drive moment heard seen left ∷ ts) = feeds_told ts

twin_turns : (xs ys : List ScriptTurn) → map record_of xs ≡ map record_of ys → links_turns xs ≡ links_turns ys → EachTwin (all_happenings xs) (all_happenings ys)
twin_turns [] [] e f = tt
twin_turns [] (y ∷ ys) e f = absurd (no_records (record_of y) (map record_of ys) e)
  where
    no_records : (r : Record) (rs : List Record) → [] ≡ r ∷ rs → ⊥
    no_records r rs is = cc
twin_turns (x ∷ xs) [] e f = absurd (no_records (record_of x) (map record_of xs) e)
  where
    no_records : (r : Record) (rs : List Record) → r ∷ rs ≡ [] → ⊥
    no_records r rs is = cc
twin_turns (OnDrive drive moment heard seen left ∷ xs) (OnLink link at bytes es ∷ ys) e f =
    let head : OfLink (feed link at bytes) ≡ OfDrive drive moment = cc in
    absurd (no_drive (feed link at bytes) drive moment head)
twin_turns (OnDrive drive moment heard seen left ∷ xs) (OnDrive drive' moment' heard' seen' left' ∷ ys) e f =
    let head : OfDrive drive moment ≡ OfDrive drive' moment' = cc in
    let records : map record_of xs ≡ map record_of ys = cc in
    let which : drive ≡ drive' = cc in
    let when : moment ≡ moment' = cc in
    ((which, when), twin_turns xs ys records f)
twin_turns (OnLink link moment bytes es ∷ xs) (OnDrive drive at heard seen left ∷ ys) e f =
    let head : OfLink (feed link moment bytes) ≡ OfDrive drive at = cc in
    absurd (no_drive (feed link moment bytes) drive at head)
twin_turns (OnLink link moment bytes es ∷ xs) (OnLink link' moment' bytes' es' ∷ ys) e f =
    let records : map record_of xs ≡ map record_of ys = cc in
    let turn : turn_with link moment bytes (events_of es) ≡ turn_with link' moment' bytes' (events_of es') = cc in
    let turns : links_turns xs ≡ links_turns ys = cc in
    twins_append (answered_on link moment es) (answered_on link' moment' es') (all_happenings xs) (all_happenings ys)
    (twin_answers link link' moment moment' es es' (ap (λ (t : Turn). t.link) turn) (ap (λ (t : Turn). t.moment) turn) (ap (λ (t : Turn). t.events) turn))
    (twin_turns xs ys records turns)

-- two runs of the same script bytes
pub script_twins : (site : Site) → HasOneReading site → HasOneRun → (c d : ScriptCut) (xs ys : List ScriptTurn) → IsScriptCut site c → IsScriptCut site d → cut_bytes site c ≡ cut_bytes site d
    → IsScriptRun site (cut_records c) xs → IsScriptRun site (cut_records d) ys → EachTwin (all_happenings xs) (all_happenings ys) ⊎ MayDiffer site.limits.file (links_turns xs)
script_twins site reading run c d xs ys is_c is_d bytes of_c of_d =
    let same : cut_records c ≡ cut_records d = ap cut_records (reading c d is_c is_d bytes) in
    let records : map record_of xs ≡ map record_of ys = of_c.0 ∙ same ∙ sym of_d.0 in
    let feeds = feeds_told xs ∙ ap (flat_map feeds_in) records ∙ sym (feeds_told ys) in
    elim (run site.limits.file (map feed_of (links_turns ys)) (links_turns xs) (links_turns ys) (feeds, of_c.1) (refl, of_d.1)) [
      | inl turns ↦ inl (twin_turns xs ys records turns)
      | inr differs ↦ inr differs
    ]
