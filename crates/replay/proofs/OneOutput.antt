-- What a script's output hangs on.
use Rattle.std.proofs.Common.{◌≡◌, ℕ, ◌==◌, true, false, inl, inr, List, [], ◌∷◌, Option, refl, sym, ap, ap₂, ◌∙◌}
use Rattle.std.specs.Prelude.{map}
use Rattle.std.specs.List.{flat_map}
use Rattle.std.proofs.lemmas.Bool.{cases_Bool}
use Rattle.cta_site.specs.declared.site.Site.{Site}
use Rattle.replay.specs.Steps.{RunState, begun_with, kept_in}
use Rattle.conn.specs.Cut.{Event}
use Rattle.links.specs.Run.{Feed, Turn, feed_of}
use Rattle.links.specs.Laws.{HasOneRun}
use Rattle.replay.specs.Script.{feed, Record, OfLink, OfDrive, HasOneReading, cut_records}
use Rattle.replay.specs.Run.{Exchange, ScriptTurn, OnLink, OnDrive, Happening, Answered, Stepped, events_of, record_of, links_turns, Contents, Device, from_outside, turn_with, happenings_on}
use Rattle.replay.specs.Output.{event_text, run_behind}
use Rattle.replay.specs.Laws.{replies_on, HasLinksApart, HasOneOutput}
use Rattle.replay.proofs.Plain.{one_plain_output, plain_turn}

-- ---- replies on a link

-- behind something on the link, and on another
here : (kept : RunState) (l moment link : ℕ) (exchange : Exchange) (hs : List Happening) → l == link ≡ true → replies_on link kept hs ≡ replies_on link kept (happenings_on link hs)
    → run_behind kept (Answered l moment exchange) ≡ kept
    → replies_on link kept (Answered l moment exchange ∷ hs) ≡ replies_on link kept (happenings_on link (Answered l moment exchange ∷ hs))
here kept l moment link exchange hs e later same =
    let text = event_text (kept_in kept) moment exchange.content exchange.event in
    let first : replies_on link kept (Answered l moment exchange ∷ hs) ≡ text ∷ replies_on link kept hs = rw (e, same) refl in
    let on : happenings_on link (Answered l moment exchange ∷ hs) ≡ Answered l moment exchange ∷ happenings_on link hs = rw e refl in
    let last : replies_on link kept (Answered l moment exchange ∷ happenings_on link hs) ≡ text ∷ replies_on link kept (happenings_on link hs) = rw (e, same) refl in
    first ∙ ap (λ ts. text ∷ ts) later ∙ sym last ∙ ap (replies_on link kept) (sym on)

elsewhere : (kept : RunState) (l moment link : ℕ) (exchange : Exchange) (hs : List Happening) → l == link ≡ false → replies_on link kept hs ≡ replies_on link kept (happenings_on link hs)
    → run_behind kept (Answered l moment exchange) ≡ kept
    → replies_on link kept (Answered l moment exchange ∷ hs) ≡ replies_on link kept (happenings_on link (Answered l moment exchange ∷ hs))
elsewhere kept l moment link exchange hs e later same =
    let first : replies_on link kept (Answered l moment exchange ∷ hs) ≡ replies_on link kept hs = rw (e, same) refl in
    let on : happenings_on link (Answered l moment exchange ∷ hs) ≡ happenings_on link hs = rw e refl in
    first ∙ later ∙ ap (replies_on link kept) (sym on)

pub links_apart : HasLinksApart
links_apart kept [] link h = refl
links_apart kept (Answered l moment exchange ∷ hs) link h =
    let later = links_apart kept hs link h.1 in
    elim (cases_Bool (l == link)) [
      | inl e ↦ here kept l moment link exchange hs e later h.0
      | inr e ↦ elsewhere kept l moment link exchange hs e later h.0
    ]
links_apart kept (Stepped drive moment done seen left ∷ hs) link h = ap (λ s. replies_on link s hs) h.0 ∙ links_apart kept hs link h.1

-- ---- turns told by records, events and contents

abbrev exchange_with : Event → Option (List ℕ) → Exchange
exchange_with event content = record { event = event; content = content }

same_exchange : (x y : Exchange) → x.event ≡ y.event → x.content ≡ y.content → x ≡ y
same_exchange x y e f = ap₂ exchange_with e f

same_exchanges : (xs ys : List Exchange) → events_of xs ≡ events_of ys → map (λ (x : Exchange). x.content) xs ≡ map (λ (x : Exchange). x.content) ys → xs ≡ ys
same_exchanges [] [] e f = refl
same_exchanges [] (y ∷ ys) e f = cc
same_exchanges (x ∷ xs) [] e f = cc
same_exchanges (x ∷ xs) (y ∷ ys) e f =
    let event : x.event ≡ y.event = cc in
    let events : events_of xs ≡ events_of ys = cc in
    let content : x.content ≡ y.content = cc in
    let contents : map (λ (z : Exchange). z.content) xs ≡ map (λ (z : Exchange). z.content) ys = cc in
    ap (λ z. z ∷ xs) (same_exchange x y event content) ∙ ap (λ zs. y ∷ zs) (same_exchanges xs ys events contents)

-- the feeds of a record
abbrev feeds_in : Record → List Feed
feeds_in (OfLink f) = f ∷ []
feeds_in (OfDrive drive moment) = []

feeds_told : (ts : List ScriptTurn) → map feed_of (links_turns ts) ≡ flat_map feeds_in (map record_of ts)
feeds_told [] = refl
feeds_told (OnLink link moment bytes exchanges ∷ ts) = ap (λ fs. feed link moment bytes ∷ fs) (feeds_told ts)
feeds_told (OnDrive drive moment done seen left ∷ ts) = feeds_told ts

same_feed : (f g : Feed) → OfLink f ≡ OfLink g → f ≡ g
same_feed f g e = cc

pub no_drive : (f : Feed) (drive moment : ℕ) → OfLink f ≡ OfDrive drive moment → ⊥
no_drive f drive moment e = cc

-- turns that are told alike differ in no more than media, and how drives are seen
same_turns : (xs ys : List ScriptTurn) → map record_of xs ≡ map record_of ys → links_turns xs ≡ links_turns ys → map from_outside xs ≡ map from_outside ys → map plain_turn xs ≡ map plain_turn ys
same_turns [] [] e f g = refl
same_turns [] (y ∷ ys) e f g = cc
same_turns (OnDrive drive moment done seen left ∷ xs) [] e f g = cc
same_turns (OnDrive drive moment done seen left ∷ xs) (OnLink link at bytes es ∷ ys) e f g =
    let head : OfLink (feed link at bytes) ≡ OfDrive drive moment = cc in
    absurd (no_drive (feed link at bytes) drive moment head)
same_turns (OnDrive drive moment done seen left ∷ xs) (OnDrive drive' moment' done' seen' left' ∷ ys) e f g =
    let head : OfDrive drive moment ≡ OfDrive drive' moment' = cc in
    let records : map record_of xs ≡ map record_of ys = cc in
    let outside : Device done ≡ Device done' = cc in
    let more : map from_outside xs ≡ map from_outside ys = cc in
    let which : drive ≡ drive' = cc in
    let when : moment ≡ moment' = cc in
    let answered : done ≡ done' = cc in
    let first : plain_turn (OnDrive drive moment done seen left) ≡ plain_turn (OnDrive drive' moment' done' seen' left') = rw (which, when, answered) refl in
    ap₂ (λ t ts. t ∷ ts) first (same_turns xs ys records f more)
same_turns (OnLink link moment bytes es ∷ xs) [] e f g = cc
same_turns (OnLink link moment bytes es ∷ xs) (OnDrive drive at done seen left ∷ ys) e f g =
    let head : OfLink (feed link moment bytes) ≡ OfDrive drive at = cc in
    absurd (no_drive (feed link moment bytes) drive at head)
same_turns (OnLink link moment bytes es ∷ xs) (OnLink link' moment' bytes' es' ∷ ys) e f g =
    let head : OfLink (feed link moment bytes) ≡ OfLink (feed link' moment' bytes') = cc in
    let records : map record_of xs ≡ map record_of ys = cc in
    let fed = same_feed (feed link moment bytes) (feed link' moment' bytes') head in
    let turn : turn_with link moment bytes (events_of es) ≡ turn_with link' moment' bytes' (events_of es') = cc in
    let turns : links_turns xs ≡ links_turns ys = cc in
    let outside : Contents (map (λ (x : Exchange). x.content) es) ≡ Contents (map (λ (x : Exchange). x.content) es') = cc in
    let content : map (λ (x : Exchange). x.content) es ≡ map (λ (x : Exchange). x.content) es' = cc in
    let more : map from_outside xs ≡ map from_outside ys = cc in
    let exchanges = same_exchanges es es' (ap (λ (t : Turn). t.events) turn) content in
    let first = ap (λ (h : Feed). OnLink h.link h.moment h.bytes es) fed ∙ ap (OnLink link' moment' bytes') exchanges in
    ap₂ (λ t ts. t ∷ ts) first (same_turns xs ys records turns more)

pub one_output : (site : Site) → HasOneReading site → HasOneRun → HasOneOutput site
one_output site reading run made c d xs ys is_c is_d bytes of_c of_d outside =
    let same : cut_records c ≡ cut_records d = ap cut_records (reading c d is_c is_d bytes) in
    let records : map record_of xs ≡ map record_of ys = of_c.0 ∙ same ∙ sym of_d.0 in
    let feeds = feeds_told xs ∙ ap (flat_map feeds_in) records ∙ sym (feeds_told ys) in
    elim (run site.limits.file (map feed_of (links_turns ys)) (links_turns xs) (links_turns ys) (feeds, of_c.1) (refl, of_d.1)) [
      | inl turns ↦ inl (one_plain_output (begun_with site made) xs ys (same_turns xs ys records turns outside))
      | inr differs ↦ inr differs
    ]
