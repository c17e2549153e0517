-- What `clap` makes of a command line of plain words.
use Rattle.std.proofs.Common.{◌≡◌, ◌∙◌, ◌⊎◌, inl, inr, ap, ap₂, refl, sym, Bool, true, false, List, [], ◌∷◌, None, Some, codes, is_some}
use Rattle.std.specs.Borrow.{Bor}
use Rattle.std.specs.List.{All}
use Rattle.std.specs.Str.{bytes_eq}
use Rattle.std.proofs.lemmas.Slice.Eq.{bytes_eq-Decides}
use Rattle.clap.specs.declared.error.kind.ErrorKind.TheVariants.{UnknownArgument, InvalidSubcommand}
use Rattle.clap.specs.Kinds.{Kinds, or_else}
use Rattle.clap.specs.Walk.{Names, Text, Walk, finished, idle, nothing_held, rows_after, settled, subcommand_met, walk, walk_from}
use Rattle.clap.specs.Simple.{App, built, entered, is_simple, names_of, subcommand_of}
use Rattle.clap.specs.Faults.{check_fault, defaults_fault, entered_fault, fault_of, is_simple_and_free, settle_fault}
use Rattle.clap.proofs.OnLiterals.{clap_on_literals}
use Rattle.clap.proofs.FaultLemmas.{stopped_fault}
use Rattle.clap.proofs.WalkLemmas.{walk_stopped}
use Rattle.cta_words.specs.Words.{IsPlainWord, form_words}
use Rattle.cta_words.specs.Commands.{cta_app}
use Rattle.cta_words.specs.Found.{words_found}
use Rattle.cta_words.specs.declared.form.Form.{Form}
use Rattle.cta_words.specs.declared.form.Form.TheVariants.{Replay, Serve, Mill, Durable}
use Rattle.cta_words.proofs.Turns.{plain_turn}
use Rattle.cta_words.proofs.Leaves.{durable_leaf, durable_only, durable_passes, durable_reads, first_plain, leaf_fault, mill_leaf, mill_only, mill_passes, mill_reads, replay_leaf, replay_only, replay_passes, replay_reads, rest_plain, serve_leaf, serve_only, serve_passes, serve_reads}

-- `cta` as `clap` builds it
abbrev cta_built : App
cta_built = built cta_app

-- the names of its subcommands
abbrev cta_names : Names
cta_names = names_of cta_built

-- the command is one of which `clap` says exactly when it refuses words, and why
pub cta_simple_and_free : is_simple_and_free cta_app ≡ true
unfolding clap_on_literals
cta_simple_and_free = refl

-- and of which it says what it finds
pub cta_simple : is_simple cta_app ≡ true
unfolding clap_on_literals
cta_simple = refl

-- how `cta` fails after the walk over its words
abbrev top_fault : Walk → Kinds → Kinds
top_fault end walked = or_else walked (or_else (entered_fault cta_built end.stopped)
    (or_else (settle_fault cta_built.top.rules false end.held) (or_else (defaults_fault (settled cta_built.top.rules end.held).rows cta_built.top.rules)
    (check_fault cta_built.top (finished cta_built.top.rules end.held) (is_some (entered cta_built end.stopped))))))

-- a list of kinds, and then none
none_first : (kinds : Kinds) → or_else kinds [] ≡ [] → kinds ≡ []
none_first [] none = refl
none_first (k ∷ ks) none = none

-- ---- words behind the name of a subcommand

-- behind `replay` the fault is that of the subcommand
replay_fault : (words : List Text) → fault_of cta_app (codes "replay" ∷ words) ≡ or_else (leaf_fault replay_leaf words) []
unfolding clap_on_literals
replay_fault words = ap₂ top_fault (sym (walk_stopped cta_built.top.rules cta_names (walk_from nothing_held) (codes "replay") [] words))
    (stopped_fault cta_built.top cta_names (walk_from nothing_held) (codes "replay", []) words)

-- and what is found is what the subcommand finds
replay_found : (words : List Text) → subcommand_of cta_app (codes "replay" ∷ words) ≡ Some (codes "replay", rows_after replay_leaf.rules [] words)
unfolding clap_on_literals
replay_found words = ap (λ (end : Walk). entered cta_built end.stopped)
    (sym (walk_stopped cta_built.top.rules cta_names (walk_from nothing_held) (codes "replay") [] words))

-- behind `serve` the fault is that of the subcommand
serve_fault : (words : List Text) → fault_of cta_app (codes "serve" ∷ words) ≡ or_else (leaf_fault serve_leaf words) []
unfolding clap_on_literals
serve_fault words = ap₂ top_fault (sym (walk_stopped cta_built.top.rules cta_names (walk_from nothing_held) (codes "serve") [] words))
    (stopped_fault cta_built.top cta_names (walk_from nothing_held) (codes "serve", []) words)

-- and what is found is what the subcommand finds
serve_found : (words : List Text) → subcommand_of cta_app (codes "serve" ∷ words) ≡ Some (codes "serve", rows_after serve_leaf.rules [] words)
unfolding clap_on_literals
serve_found words = ap (λ (end : Walk). entered cta_built end.stopped)
    (sym (walk_stopped cta_built.top.rules cta_names (walk_from nothing_held) (codes "serve") [] words))

-- behind `mill` the fault is that of the subcommand
mill_fault : (words : List Text) → fault_of cta_app (codes "mill" ∷ words) ≡ or_else (leaf_fault mill_leaf words) []
unfolding clap_on_literals
mill_fault words = ap₂ top_fault (sym (walk_stopped cta_built.top.rules cta_names (walk_from nothing_held) (codes "mill") [] words))
    (stopped_fault cta_built.top cta_names (walk_from nothing_held) (codes "mill", []) words)

-- and what is found is what the subcommand finds
mill_found : (words : List Text) → subcommand_of cta_app (codes "mill" ∷ words) ≡ Some (codes "mill", rows_after mill_leaf.rules [] words)
unfolding clap_on_literals
mill_found words = ap (λ (end : Walk). entered cta_built end.stopped)
    (sym (walk_stopped cta_built.top.rules cta_names (walk_from nothing_held) (codes "mill") [] words))

-- behind `durable` the fault is that of the subcommand
durable_fault : (words : List Text) → fault_of cta_app (codes "durable" ∷ words) ≡ or_else (leaf_fault durable_leaf words) []
unfolding clap_on_literals
durable_fault words = ap₂ top_fault (sym (walk_stopped cta_built.top.rules cta_names (walk_from nothing_held) (codes "durable") [] words))
    (stopped_fault cta_built.top cta_names (walk_from nothing_held) (codes "durable", []) words)

-- and what is found is what the subcommand finds
durable_found : (words : List Text) → subcommand_of cta_app (codes "durable" ∷ words) ≡ Some (codes "durable", rows_after durable_leaf.rules [] words)
unfolding clap_on_literals
durable_found words = ap (λ (end : Walk). entered cta_built end.stopped)
    (sym (walk_stopped cta_built.top.rules cta_names (walk_from nothing_held) (codes "durable") [] words))

-- ---- the first word

-- the word is the name of a subcommand
abbrev Named : Text → Type 0
Named word = (word ≡ codes "replay") ⊎ ((word ≡ codes "serve") ⊎ ((word ≡ codes "mill") ⊎ (word ≡ codes "durable")))

-- a word is the name of a subcommand, or names none
first_word : (word : Text) → Named word ⊎ (subcommand_met cta_names idle word ≡ None)
first_word word = go (bytes_eq (codes "replay") word) (bytes_eq (codes "serve") word) (bytes_eq (codes "mill") word) (bytes_eq (codes "durable") word) refl refl refl refl
  where
    go : (x y z u : Bool) → bytes_eq (codes "replay") word ≡ x → bytes_eq (codes "serve") word ≡ y → bytes_eq (codes "mill") word ≡ z
        → bytes_eq (codes "durable") word ≡ u → Named word ⊎ (subcommand_met cta_names idle word ≡ None)
    go true y z u is_x is_y is_z is_u = inl (inl (sym ((bytes_eq-Decides (codes "replay") word).0 is_x)))
    go false true z u is_x is_y is_z is_u = inl (inr (inl (sym ((bytes_eq-Decides (codes "serve") word).0 is_y))))
    go false false true u is_x is_y is_z is_u = inl (inr (inr (inl (sym ((bytes_eq-Decides (codes "mill") word).0 is_z)))))
    go false false false true is_x is_y is_z is_u = inl (inr (inr (inr (sym ((bytes_eq-Decides (codes "durable") word).0 is_u)))))
    go false false false false is_x is_y is_z is_u = inr (rw (is_x, is_y, is_z, is_u) refl)

-- a plain word that names no subcommand is refused
stray_word : (word : Text) (words : List Text) → IsPlainWord word → subcommand_met cta_names idle word ≡ None
    → fault_of cta_app (word ∷ words) ≡ UnknownArgument ∷ InvalidSubcommand ∷ []
unfolding clap_on_literals
stray_word [] words plain none = absurd plain
stray_word (b ∷ bs) words plain none =
    ap (top_fault (walk cta_built.top.rules cta_names nothing_held ((b ∷ bs) ∷ words)))
    (plain_turn cta_built.top cta_names nothing_held 1 b bs words plain none)

-- ---- whole lines

-- the words of a form pass
pub form_passes : (form : Form) → All IsPlainWord (form_words form) → fault_of cta_app (form_words form) ≡ []
form_passes (Replay site) plain =
    let words : List Text = site.now ∷ [] in
    replay_fault words ∙ ap (λ k. or_else k []) (replay_passes site.now (rest_plain (codes "replay") words plain))
form_passes (Serve site addr media workers) plain =
    let words : List Text = site.now ∷ addr.now ∷ media.now ∷ workers.now ∷ [] in
    serve_fault words ∙ ap (λ k. or_else k []) (serve_passes site.now addr.now media.now workers.now (rest_plain (codes "serve") words plain))
form_passes (Mill seed files workers) plain =
    let words : List Text = seed.now ∷ files.now ∷ workers.now ∷ [] in
    mill_fault words ∙ ap (λ k. or_else k []) (mill_passes seed.now files.now workers.now (rest_plain (codes "mill") words plain))
form_passes (Durable site addr media workers journal) plain =
    let words : List Text = site.now ∷ addr.now ∷ media.now ∷ workers.now ∷ journal.now ∷ [] in
    durable_fault words ∙ ap (λ k. or_else k []) (durable_passes site.now addr.now media.now workers.now journal.now (rest_plain (codes "durable") words plain))

-- and are found
pub form_found : (form : Form) → All IsPlainWord (form_words form) → words_found (subcommand_of cta_app (form_words form)) ≡ Some (form_words form)
form_found (Replay site) plain =
    let words : List Text = site.now ∷ [] in
    ap words_found (replay_found words) ∙ replay_reads site.now (rest_plain (codes "replay") words plain)
form_found (Serve site addr media workers) plain =
    let words : List Text = site.now ∷ addr.now ∷ media.now ∷ workers.now ∷ [] in
    ap words_found (serve_found words) ∙ serve_reads site.now addr.now media.now workers.now (rest_plain (codes "serve") words plain)
form_found (Mill seed files workers) plain =
    let words : List Text = seed.now ∷ files.now ∷ workers.now ∷ [] in
    ap words_found (mill_found words) ∙ mill_reads seed.now files.now workers.now (rest_plain (codes "mill") words plain)
form_found (Durable site addr media workers journal) plain =
    let words : List Text = site.now ∷ addr.now ∷ media.now ∷ workers.now ∷ journal.now ∷ [] in
    ap words_found (durable_found words) ∙ durable_reads site.now addr.now media.now workers.now journal.now (rest_plain (codes "durable") words plain)

-- a text as a form holds it
lent : Text → Bor Text
lent text = record { ref_ptr = (0, 0); now = text }

-- words that pass are those of a form
pub form_of_passing : (words : List Text) → All IsPlainWord words → fault_of cta_app words ≡ [] → (form : Form) × (words ≡ form_words form)
unfolding clap_on_literals lent
form_of_passing [] plain none = cc
form_of_passing (word ∷ words) plain none = elim (first_word word) [
  | inl (inl is) ↦
      let rest = replay_only words (rest_plain word words plain) (none_first _ (sym (replay_fault words) ∙ (ap (λ w. fault_of cta_app (w ∷ words)) (sym is) ∙ none))) in
      (Replay (lent rest.0), ap₂ (λ w ws. w ∷ ws) is rest.1)
  | inl (inr (inl is)) ↦
      let rest = serve_only words (rest_plain word words plain) (none_first _ (sym (serve_fault words) ∙ (ap (λ w. fault_of cta_app (w ∷ words)) (sym is) ∙ none))) in
      (Serve (lent rest.0) (lent rest.1) (lent rest.2) (lent rest.3), ap₂ (λ w ws. w ∷ ws) is rest.4)
  | inl (inr (inr (inl is))) ↦
      let rest = mill_only words (rest_plain word words plain) (none_first _ (sym (mill_fault words) ∙ (ap (λ w. fault_of cta_app (w ∷ words)) (sym is) ∙ none))) in
      (Mill (lent rest.0) (lent rest.1) (lent rest.2), ap₂ (λ w ws. w ∷ ws) is rest.3)
  | inl (inr (inr (inr is))) ↦
      let rest = durable_only words (rest_plain word words plain) (none_first _ (sym (durable_fault words) ∙ (ap (λ w. fault_of cta_app (w ∷ words)) (sym is) ∙ none))) in
      (Durable (lent rest.0) (lent rest.1) (lent rest.2) (lent rest.3) (lent rest.4), ap₂ (λ w ws. w ∷ ws) is rest.5)
  | inr unnamed ↦
      let bad : UnknownArgument ∷ InvalidSubcommand ∷ [] ≡ [] = sym (stray_word word words (first_plain word words plain) unnamed) ∙ none in
      cc
]
