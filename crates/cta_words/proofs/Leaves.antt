-- What the four subcommands make of plain words.
use Rattle.std.proofs.Common.{◌≡◌, ◌∙◌, ◌+◌, ap, refl, sym, false, suc, arith, List, [], ◌∷◌, Some, codes, ℕ}
use Rattle.std.specs.List.{All}
use Rattle.clap.specs.Kinds.{Kinds, or_else}
use Rattle.clap.specs.declared.error.kind.ErrorKind.TheVariants.{MissingRequiredArgument, UnknownArgument}
use Rattle.clap.specs.Walk.{Held, Text, Walk, value, finished, nothing_held, rows_after, settled, walk_from}
use Rattle.clap.specs.Simple.{Shape, built_leaf, inherited}
use Rattle.clap.specs.Faults.{check_fault, defaults_fault, level_fault, settle_fault, step_fault}
use Rattle.clap.proofs.OnLiterals.{clap_on_literals}
use Rattle.cta_words.specs.Words.{IsPlainWord}
use Rattle.cta_words.specs.Commands.{cta_app, durable_app, mill_app, replay_app, serve_app}
use Rattle.cta_words.specs.Found.{durable_words, mill_words, replay_words, serve_words}
use Rattle.cta_words.proofs.Turns.{before, placed, plain_run, run}

-- `replay` as `clap` builds it
abbrev pub replay_leaf : Shape
replay_leaf = built_leaf (inherited cta_app.top replay_app.top)

-- `serve` as `clap` builds it
abbrev pub serve_leaf : Shape
serve_leaf = built_leaf (inherited cta_app.top serve_app.top)

-- `mill` as `clap` builds it
abbrev pub mill_leaf : Shape
mill_leaf = built_leaf (inherited cta_app.top mill_app.top)

-- `durable` as `clap` builds it
abbrev pub durable_leaf : Shape
durable_leaf = built_leaf (inherited cta_app.top durable_app.top)

-- how such a command fails
abbrev pub leaf_fault : Shape → List Text → Kinds
leaf_fault s words = level_fault s [] nothing_held words false []

-- how it fails after its walk
abbrev fault_after : Shape → Walk × Kinds → Kinds
fault_after s end = or_else end.1 (or_else (settle_fault s.rules s.args_override_self end.0.held)
    (or_else (defaults_fault (settled s.rules end.0.held).rows s.rules) (check_fault s (finished s.rules end.0.held) false)))

-- the walk before any word
abbrev start : Walk
start = walk_from nothing_held

-- what is held once words have gone to their places
abbrev held_after : Shape → Held → ℕ → List Text → Held
held_after s h position [] = h
held_after s h position (word ∷ words) = held_after s (placed s word h position).held (position + 1) words

-- what is left of plain words is plain
pub rest_plain : (word : Text) (words : List Text) → All IsPlainWord (word ∷ words) → All IsPlainWord words
rest_plain word words plain k d lt = plain (suc k) d (omega arith)

-- the first of plain words is plain
pub first_plain : (word : Text) (words : List Text) → All IsPlainWord (word ∷ words) → IsPlainWord word
first_plain word words plain = plain 0 [] (omega arith)

-- the first of plain words goes to its place
goes : (s : Shape) (h : Held) (position : ℕ) (word : Text) (words : List Text) → All IsPlainWord (word ∷ words)
    → run s (before h position) (word ∷ words)
    ≡ ((run s (placed s word h position) words).0, or_else (step_fault s position h value) (run s (placed s word h position) words).1)
goes s h position word words plain = plain_run s h position word words (first_plain word words plain)

-- ---- `replay`

-- the walk over its words ends with no fault
replay_done : (site : Text) → All IsPlainWord (site ∷ [])
    → run replay_leaf start (site ∷ []) ≡ (before (held_after replay_leaf nothing_held 1 (site ∷ [])) 2, [])
unfolding clap_on_literals
replay_done site plain =
    goes replay_leaf nothing_held 1 site [] plain

-- its words pass
pub replay_passes : (site : Text) → All IsPlainWord (site ∷ []) → leaf_fault replay_leaf (site ∷ []) ≡ []
unfolding clap_on_literals
replay_passes site plain = ap (fault_after replay_leaf) (replay_done site plain)

-- and are found
pub replay_reads : (site : Text) → All IsPlainWord (site ∷ [])
    → replay_words (rows_after replay_leaf.rules [] (site ∷ [])) ≡ Some (codes "replay" ∷ site ∷ [])
unfolding clap_on_literals
replay_reads site plain = ap (λ (end : Walk × Kinds). replay_words (finished replay_leaf.rules end.0.held)) (replay_done site plain)

-- and no others pass
pub replay_only : (words : List Text) → All IsPlainWord words → leaf_fault replay_leaf words ≡ [] → (site : Text) × (words ≡ site ∷ [])
unfolding clap_on_literals
replay_only [] plain none = cc
replay_only (site ∷ []) plain none = (site, refl)
replay_only (site ∷ extra ∷ more) plain none =
    let p1 = rest_plain site (extra ∷ more) plain in
    let end = goes replay_leaf nothing_held 1 site (extra ∷ more) plain
    ∙ goes replay_leaf (held_after replay_leaf nothing_held 1 (site ∷ [])) 2 extra more p1 in
    let bad : UnknownArgument ∷ [] ≡ [] = sym (ap (fault_after replay_leaf) end) ∙ none in
    cc

-- ---- `serve`

-- the walk over its words ends with no fault
serve_done : (site addr media workers : Text) → All IsPlainWord (site ∷ addr ∷ media ∷ workers ∷ [])
    → run serve_leaf start (site ∷ addr ∷ media ∷ workers ∷ []) ≡ (before (held_after serve_leaf nothing_held 1 (site ∷ addr ∷ media ∷ workers ∷ [])) 5, [])
unfolding clap_on_literals
serve_done site addr media workers plain =
    let p1 = rest_plain site (addr ∷ media ∷ workers ∷ []) plain in
    let p2 = rest_plain addr (media ∷ workers ∷ []) p1 in
    let p3 = rest_plain media (workers ∷ []) p2 in
    goes serve_leaf nothing_held 1 site (addr ∷ media ∷ workers ∷ []) plain
    ∙ goes serve_leaf (held_after serve_leaf nothing_held 1 (site ∷ [])) 2 addr (media ∷ workers ∷ []) p1
    ∙ goes serve_leaf (held_after serve_leaf nothing_held 1 (site ∷ addr ∷ [])) 3 media (workers ∷ []) p2
    ∙ goes serve_leaf (held_after serve_leaf nothing_held 1 (site ∷ addr ∷ media ∷ [])) 4 workers [] p3

-- its words pass
pub serve_passes : (site addr media workers : Text) → All IsPlainWord (site ∷ addr ∷ media ∷ workers ∷ []) → leaf_fault serve_leaf (site ∷ addr ∷ media ∷ workers ∷ []) ≡ []
unfolding clap_on_literals
serve_passes site addr media workers plain = ap (fault_after serve_leaf) (serve_done site addr media workers plain)

-- and are found
pub serve_reads : (site addr media workers : Text) → All IsPlainWord (site ∷ addr ∷ media ∷ workers ∷ [])
    → serve_words (rows_after serve_leaf.rules [] (site ∷ addr ∷ media ∷ workers ∷ [])) ≡ Some (codes "serve" ∷ site ∷ addr ∷ media ∷ workers ∷ [])
unfolding clap_on_literals
serve_reads site addr media workers plain = ap (λ (end : Walk × Kinds). serve_words (finished serve_leaf.rules end.0.held)) (serve_done site addr media workers plain)

-- and no others pass
pub serve_only : (words : List Text) → All IsPlainWord words → leaf_fault serve_leaf words ≡ [] → (site : Text) × (addr : Text) × (media : Text) × (workers : Text) × (words ≡ site ∷ addr ∷ media ∷ workers ∷ [])
unfolding clap_on_literals
serve_only [] plain none = cc
serve_only (site ∷ []) plain none =
    let end = goes serve_leaf nothing_held 1 site [] plain in
    let bad : MissingRequiredArgument ∷ [] ≡ [] = sym (ap (fault_after serve_leaf) end) ∙ none in
    cc
serve_only (site ∷ addr ∷ []) plain none =
    let p1 = rest_plain site (addr ∷ []) plain in
    let end = goes serve_leaf nothing_held 1 site (addr ∷ []) plain
    ∙ goes serve_leaf (held_after serve_leaf nothing_held 1 (site ∷ [])) 2 addr [] p1 in
    let bad : MissingRequiredArgument ∷ [] ≡ [] = sym (ap (fault_after serve_leaf) end) ∙ none in
    cc
serve_only (site ∷ addr ∷ media ∷ []) plain none =
    let p1 = rest_plain site (addr ∷ media ∷ []) plain in
    let p2 = rest_plain addr (media ∷ []) p1 in
    let end = goes serve_leaf nothing_held 1 site (addr ∷ media ∷ []) plain
    ∙ goes serve_leaf (held_after serve_leaf nothing_held 1 (site ∷ [])) 2 addr (media ∷ []) p1
    ∙ goes serve_leaf (held_after serve_leaf nothing_held 1 (site ∷ addr ∷ [])) 3 media [] p2 in
    let bad : MissingRequiredArgument ∷ [] ≡ [] = sym (ap (fault_after serve_leaf) end) ∙ none in
    cc
serve_only (site ∷ addr ∷ media ∷ workers ∷ []) plain none = (site, addr, media, workers, refl)
serve_only (site ∷ addr ∷ media ∷ workers ∷ extra ∷ more) plain none =
    let p1 = rest_plain site (addr ∷ media ∷ workers ∷ extra ∷ more) plain in
    let p2 = rest_plain addr (media ∷ workers ∷ extra ∷ more) p1 in
    let p3 = rest_plain media (workers ∷ extra ∷ more) p2 in
    let p4 = rest_plain workers (extra ∷ more) p3 in
    let end = goes serve_leaf nothing_held 1 site (addr ∷ media ∷ workers ∷ extra ∷ more) plain
    ∙ goes serve_leaf (held_after serve_leaf nothing_held 1 (site ∷ [])) 2 addr (media ∷ workers ∷ extra ∷ more) p1
    ∙ goes serve_leaf (held_after serve_leaf nothing_held 1 (site ∷ addr ∷ [])) 3 media (workers ∷ extra ∷ more) p2
    ∙ goes serve_leaf (held_after serve_leaf nothing_held 1 (site ∷ addr ∷ media ∷ [])) 4 workers (extra ∷ more) p3
    ∙ goes serve_leaf (held_after serve_leaf nothing_held 1 (site ∷ addr ∷ media ∷ workers ∷ [])) 5 extra more p4 in
    let bad : UnknownArgument ∷ [] ≡ [] = sym (ap (fault_after serve_leaf) end) ∙ none in
    cc

-- ---- `mill`

-- the walk over its words ends with no fault
mill_done : (seed files workers : Text) → All IsPlainWord (seed ∷ files ∷ workers ∷ [])
    → run mill_leaf start (seed ∷ files ∷ workers ∷ []) ≡ (before (held_after mill_leaf nothing_held 1 (seed ∷ files ∷ workers ∷ [])) 4, [])
unfolding clap_on_literals
mill_done seed files workers plain =
    let p1 = rest_plain seed (files ∷ workers ∷ []) plain in
    let p2 = rest_plain files (workers ∷ []) p1 in
    goes mill_leaf nothing_held 1 seed (files ∷ workers ∷ []) plain
    ∙ goes mill_leaf (held_after mill_leaf nothing_held 1 (seed ∷ [])) 2 files (workers ∷ []) p1
    ∙ goes mill_leaf (held_after mill_leaf nothing_held 1 (seed ∷ files ∷ [])) 3 workers [] p2

-- its words pass
pub mill_passes : (seed files workers : Text) → All IsPlainWord (seed ∷ files ∷ workers ∷ []) → leaf_fault mill_leaf (seed ∷ files ∷ workers ∷ []) ≡ []
unfolding clap_on_literals
mill_passes seed files workers plain = ap (fault_after mill_leaf) (mill_done seed files workers plain)

-- and are found
pub mill_reads : (seed files workers : Text) → All IsPlainWord (seed ∷ files ∷ workers ∷ [])
    → mill_words (rows_after mill_leaf.rules [] (seed ∷ files ∷ workers ∷ [])) ≡ Some (codes "mill" ∷ seed ∷ files ∷ workers ∷ [])
unfolding clap_on_literals
mill_reads seed files workers plain = ap (λ (end : Walk × Kinds). mill_words (finished mill_leaf.rules end.0.held)) (mill_done seed files workers plain)

-- and no others pass
pub mill_only : (words : List Text) → All IsPlainWord words → leaf_fault mill_leaf words ≡ [] → (seed : Text) × (files : Text) × (workers : Text) × (words ≡ seed ∷ files ∷ workers ∷ [])
unfolding clap_on_literals
mill_only [] plain none = cc
mill_only (seed ∷ []) plain none =
    let end = goes mill_leaf nothing_held 1 seed [] plain in
    let bad : MissingRequiredArgument ∷ [] ≡ [] = sym (ap (fault_after mill_leaf) end) ∙ none in
    cc
mill_only (seed ∷ files ∷ []) plain none =
    let p1 = rest_plain seed (files ∷ []) plain in
    let end = goes mill_leaf nothing_held 1 seed (files ∷ []) plain
    ∙ goes mill_leaf (held_after mill_leaf nothing_held 1 (seed ∷ [])) 2 files [] p1 in
    let bad : MissingRequiredArgument ∷ [] ≡ [] = sym (ap (fault_after mill_leaf) end) ∙ none in
    cc
mill_only (seed ∷ files ∷ workers ∷ []) plain none = (seed, files, workers, refl)
mill_only (seed ∷ files ∷ workers ∷ extra ∷ more) plain none =
    let p1 = rest_plain seed (files ∷ workers ∷ extra ∷ more) plain in
    let p2 = rest_plain files (workers ∷ extra ∷ more) p1 in
    let p3 = rest_plain workers (extra ∷ more) p2 in
    let end = goes mill_leaf nothing_held 1 seed (files ∷ workers ∷ extra ∷ more) plain
    ∙ goes mill_leaf (held_after mill_leaf nothing_held 1 (seed ∷ [])) 2 files (workers ∷ extra ∷ more) p1
    ∙ goes mill_leaf (held_after mill_leaf nothing_held 1 (seed ∷ files ∷ [])) 3 workers (extra ∷ more) p2
    ∙ goes mill_leaf (held_after mill_leaf nothing_held 1 (seed ∷ files ∷ workers ∷ [])) 4 extra more p3 in
    let bad : UnknownArgument ∷ [] ≡ [] = sym (ap (fault_after mill_leaf) end) ∙ none in
    cc

-- ---- `durable`

-- the walk over its words ends with no fault
durable_done : (site addr media workers journal : Text) → All IsPlainWord (site ∷ addr ∷ media ∷ workers ∷ journal ∷ [])
    → run durable_leaf start (site ∷ addr ∷ media ∷ workers ∷ journal ∷ []) ≡ (before (held_after durable_leaf nothing_held 1 (site ∷ addr ∷ media ∷ workers ∷ journal ∷ [])) 6, [])
unfolding clap_on_literals
durable_done site addr media workers journal plain =
    let p1 = rest_plain site (addr ∷ media ∷ workers ∷ journal ∷ []) plain in
    let p2 = rest_plain addr (media ∷ workers ∷ journal ∷ []) p1 in
    let p3 = rest_plain media (workers ∷ journal ∷ []) p2 in
    let p4 = rest_plain workers (journal ∷ []) p3 in
    goes durable_leaf nothing_held 1 site (addr ∷ media ∷ workers ∷ journal ∷ []) plain
    ∙ goes durable_leaf (held_after durable_leaf nothing_held 1 (site ∷ [])) 2 addr (media ∷ workers ∷ journal ∷ []) p1
    ∙ goes durable_leaf (held_after durable_leaf nothing_held 1 (site ∷ addr ∷ [])) 3 media (workers ∷ journal ∷ []) p2
    ∙ goes durable_leaf (held_after durable_leaf nothing_held 1 (site ∷ addr ∷ media ∷ [])) 4 workers (journal ∷ []) p3
    ∙ goes durable_leaf (held_after durable_leaf nothing_held 1 (site ∷ addr ∷ media ∷ workers ∷ [])) 5 journal [] p4

-- its words pass
pub durable_passes : (site addr media workers journal : Text) → All IsPlainWord (site ∷ addr ∷ media ∷ workers ∷ journal ∷ []) → leaf_fault durable_leaf (site ∷ addr ∷ media ∷ workers ∷ journal ∷ []) ≡ []
unfolding clap_on_literals
durable_passes site addr media workers journal plain = ap (fault_after durable_leaf) (durable_done site addr media workers journal plain)

-- and are found
pub durable_reads : (site addr media workers journal : Text) → All IsPlainWord (site ∷ addr ∷ media ∷ workers ∷ journal ∷ [])
    → durable_words (rows_after durable_leaf.rules [] (site ∷ addr ∷ media ∷ workers ∷ journal ∷ [])) ≡ Some (codes "durable" ∷ site ∷ addr ∷ media ∷ workers ∷ journal ∷ [])
unfolding clap_on_literals
durable_reads site addr media workers journal plain = ap (λ (end : Walk × Kinds). durable_words (finished durable_leaf.rules end.0.held)) (durable_done site addr media workers journal plain)

-- and no others pass
pub durable_only : (words : List Text) → All IsPlainWord words → leaf_fault durable_leaf words ≡ [] → (site : Text) × (addr : Text) × (media : Text) × (workers : Text) × (journal : Text) × (words ≡ site ∷ addr ∷ media ∷ workers ∷ journal ∷ [])
unfolding clap_on_literals
durable_only [] plain none = cc
durable_only (site ∷ []) plain none =
    let end = goes durable_leaf nothing_held 1 site [] plain in
    let bad : MissingRequiredArgument ∷ [] ≡ [] = sym (ap (fault_after durable_leaf) end) ∙ none in
    cc
durable_only (site ∷ addr ∷ []) plain none =
    let p1 = rest_plain site (addr ∷ []) plain in
    let end = goes durable_leaf nothing_held 1 site (addr ∷ []) plain
    ∙ goes durable_leaf (held_after durable_leaf nothing_held 1 (site ∷ [])) 2 addr [] p1 in
    let bad : MissingRequiredArgument ∷ [] ≡ [] = sym (ap (fault_after durable_leaf) end) ∙ none in
    cc
durable_only (site ∷ addr ∷ media ∷ []) plain none =
    let p1 = rest_plain site (addr ∷ media ∷ []) plain in
    let p2 = rest_plain addr (media ∷ []) p1 in
    let end = goes durable_leaf nothing_held 1 site (addr ∷ media ∷ []) plain
    ∙ goes durable_leaf (held_after durable_leaf nothing_held 1 (site ∷ [])) 2 addr (media ∷ []) p1
    ∙ goes durable_leaf (held_after durable_leaf nothing_held 1 (site ∷ addr ∷ [])) 3 media [] p2 in
    let bad : MissingRequiredArgument ∷ [] ≡ [] = sym (ap (fault_after durable_leaf) end) ∙ none in
    cc
durable_only (site ∷ addr ∷ media ∷ workers ∷ []) plain none =
    let p1 = rest_plain site (addr ∷ media ∷ workers ∷ []) plain in
    let p2 = rest_plain addr (media ∷ workers ∷ []) p1 in
    let p3 = rest_plain media (workers ∷ []) p2 in
    let end = goes durable_leaf nothing_held 1 site (addr ∷ media ∷ workers ∷ []) plain
    ∙ goes durable_leaf (held_after durable_leaf nothing_held 1 (site ∷ [])) 2 addr (media ∷ workers ∷ []) p1
    ∙ goes durable_leaf (held_after durable_leaf nothing_held 1 (site ∷ addr ∷ [])) 3 media (workers ∷ []) p2
    ∙ goes durable_leaf (held_after durable_leaf nothing_held 1 (site ∷ addr ∷ media ∷ [])) 4 workers [] p3 in
    let bad : MissingRequiredArgument ∷ [] ≡ [] = sym (ap (fault_after durable_leaf) end) ∙ none in
    cc
durable_only (site ∷ addr ∷ media ∷ workers ∷ journal ∷ []) plain none = (site, addr, media, workers, journal, refl)
durable_only (site ∷ addr ∷ media ∷ workers ∷ journal ∷ extra ∷ more) plain none =
    let p1 = rest_plain site (addr ∷ media ∷ workers ∷ journal ∷ extra ∷ more) plain in
    let p2 = rest_plain addr (media ∷ workers ∷ journal ∷ extra ∷ more) p1 in
    let p3 = rest_plain media (workers ∷ journal ∷ extra ∷ more) p2 in
    let p4 = rest_plain workers (journal ∷ extra ∷ more) p3 in
    let p5 = rest_plain journal (extra ∷ more) p4 in
    let end = goes durable_leaf nothing_held 1 site (addr ∷ media ∷ workers ∷ journal ∷ extra ∷ more) plain
    ∙ goes durable_leaf (held_after durable_leaf nothing_held 1 (site ∷ [])) 2 addr (media ∷ workers ∷ journal ∷ extra ∷ more) p1
    ∙ goes durable_leaf (held_after durable_leaf nothing_held 1 (site ∷ addr ∷ [])) 3 media (workers ∷ journal ∷ extra ∷ more) p2
    ∙ goes durable_leaf (held_after durable_leaf nothing_held 1 (site ∷ addr ∷ media ∷ [])) 4 workers (journal ∷ extra ∷ more) p3
    ∙ goes durable_leaf (held_after durable_leaf nothing_held 1 (site ∷ addr ∷ media ∷ workers ∷ [])) 5 journal (extra ∷ more) p4
    ∙ goes durable_leaf (held_after durable_leaf nothing_held 1 (site ∷ addr ∷ media ∷ workers ∷ journal ∷ [])) 6 extra more p5 in
    let bad : UnknownArgument ∷ [] ≡ [] = sym (ap (fault_after durable_leaf) end) ∙ none in
    cc
