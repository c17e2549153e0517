-- What is told of tapes and of queues.
use Rattle.std.proofs.Common.{◌≡◌, ◌∙◌, ℕ, zero, suc, ◌+◌, ◌<◌, List, [], ◌∷◌, ◌++◌, false, refl, sym, ap, subst, arith, length, get_or}
use Rattle.std.specs.Prelude.{Option, Some, None, if◌then◌else◌, nat_le, slice_get}
use Rattle.std.specs.List.{flat_map, range_with_len}
use Rattle.std.proofs.lemmas.List.{flat_map_more}
use Rattle.std.proofs.lemmas.Option.{slice_get_read}
use Rattle.cta_site.specs.declared.site.Site.{Site}
use Rattle.cta_site.specs.declared.site.Tape.{Tape}
use Rattle.cta_site.specs.Lookups.{vid_of_tape}
use Rattle.cta_model.specs.declared.asks.Direction.{Direction}
use Rattle.cta_model.specs.declared.asks.Direction.TheVariants as direction
use Rattle.cta_model.specs.declared.reports.QueueInfo.{QueueInfo}
use Rattle.cta_model.specs.declared.reports.TapeInfo.{TapeInfo}
use Rattle.cta_model.specs.declared.states.Sums.{Sums}
use Rattle.cta_model.specs.History.{History}
use Rattle.cta_model.specs.Legal.{IsLegal}
use Rattle.cta_model.specs.Queues.{queue_of, sums_of}
use Rattle.cta_model.specs.Reports.{queue_report, queue_reports_by, tape_report}
use Rattle.part_model.specs.declared.space.TapeRow.{TapeRow}
use Rattle.part_model.specs.Queues.{line_sums, lines_in}
use Rattle.part_model.specs.Tapes.{live_in, row_in}
use Rattle.part_laws.proofs.Together.{parts_tell_tapes}
use Rattle.part_laws.proofs.ChoiceTold.{sums_are}
use Rattle.archive_parts.specs.PartsKept.{ArePartsKept, values_of}
use Rattle.archive_parts.specs.declared.parts.ArchiveParts.{ArchiveParts}
use Rattle.archive_state.specs.Keys.{key_name}

-- ---- tapes

info_of : List ℕ → TapeRow → ℕ → TapeInfo
info_of vid row files = record { vid = vid; state = row.state; used = row.used; files = files; next_fseq = row.next }

-- what is told of a tape that the site has
pub tape_there : (site : Site) (h : History) (p : ArchiveParts) (v : ℕ) (tapes : List Tape) (known : Tape) (vid : List ℕ) (row : TapeRow) (files : ℕ) → IsLegal site h → ArePartsKept site h p → tapes ≡ site.tapes.items → v < length tapes → known ≡ get_or tapes v known
    → vid ≡ known.vid → row ≡ row_in p.tapes.value v → files ≡ live_in p.tapes.value v
    → ◌≡◌ {A = Option TapeInfo} (Some (record { vid = vid; state = row.state; used = row.used; files = files; next_fseq = row.next })) (if nat_le (length site.tapes.items) v then None else Some (tape_report site h v))
unfolding info_of
tape_there site h p v tapes known vid row files legal kept are low read named rowed counted =
    let there : v < length site.tapes.items = subst (λ (ts : List Tape). v < length ts) are low in
    let found : slice_get site.tapes.items v ≡ Some known = subst (λ (ts : List Tape). slice_get ts v ≡ Some known) are (slice_get_read tapes (length tapes) v known refl low read) in
    let within : nat_le (length site.tapes.items) v ≡ false = grind arith in
    rw within
    (ap (λ (o : List ℕ). Some (info_of o row files)) (named ∙ sym (ap vid_of_tape found))
    ∙ ap (λ (r : TapeRow). Some (info_of (vid_of_tape (slice_get site.tapes.items v)) r files)) rowed
    ∙ ap (λ (n : ℕ). Some (info_of (vid_of_tape (slice_get site.tapes.items v)) (row_in p.tapes.value v) n)) counted
    ∙ sym (ap (λ (x : TapeInfo). Some x) (parts_tell_tapes site h (values_of p).space v legal kept.stand.space there)))

-- ---- the sums of queues

pub pool_sums : (site : Site) (h : History) (p : ArchiveParts) (way : Direction) (key : ℕ) (told : Option Sums) → ArePartsKept site h p → way ≡ direction.Archive → told ≡ line_sums (lines_in p.pools.value key) → told ≡ sums_of site h way (queue_of site h way key)
pool_sums site h p way key told kept is sums = sums ∙ sums_are site h (values_of p) kept.stand direction.Archive key ∙ ap (λ (w : Direction). sums_of site h w (queue_of site h w key)) (sym is)

pub recall_sums : (site : Site) (h : History) (p : ArchiveParts) (way : Direction) (key : ℕ) (told : Option Sums) → ArePartsKept site h p → way ≡ direction.Retrieve → told ≡ line_sums (lines_in p.recalls.value key) → told ≡ sums_of site h way (queue_of site h way key)
recall_sums site h p way key told kept is sums = sums ∙ sums_are site h (values_of p) kept.stand direction.Retrieve key ∙ ap (λ (w : Direction). sums_of site h w (queue_of site h w key)) (sym is)

-- ---- keys from 0 on

range_more : (a n : ℕ) → range_with_len a (suc n) ≡ range_with_len a n ++ (a + n) ∷ []
range_more a zero = ap (λ (k : ℕ). k ∷ []) (let e : a ≡ a + 0 = omega arith in e)
range_more a (suc n) =
    ap (λ (ks : List ℕ). a ∷ ks) (range_more (a + 1) n)
    ∙ ap (λ (k : ℕ). a ∷ (range_with_len (a + 1) n ++ k ∷ [])) (let e : (a + 1) + n ≡ a + suc n = omega arith in e)

range_next : (n : ℕ) → range_with_len 0 (n + 1) ≡ range_with_len 0 n ++ n ∷ []
range_next n =
    ap (range_with_len 0) (let e : n + 1 ≡ suc n = omega arith in e)
    ∙ range_more 0 n
    ∙ ap (λ (k : ℕ). range_with_len 0 n ++ k ∷ []) (let e : 0 + n ≡ n = omega arith in e)

-- a list that has what the keys before one give has what they and this one give once that is added
key_added : {A : Type 0} (f : ℕ → List A) (k : ℕ) (first before now : List A) → before ≡ first ++ flat_map f (range_with_len 0 k) → now ≡ before ++ f k → now ≡ first ++ flat_map f (range_with_len 0 (k + 1))
key_added f k first before now was added =
    added
    ∙ ap (λ xs. xs ++ f k) was
    ∙ flat_map_more f first (range_with_len 0 k) k
    ∙ ap (λ (ks : List ℕ). first ++ flat_map f ks) (sym (range_next k))

-- reports with that of one more key
pub report_added : (site : Site) (h : History) (way : Direction) (key : ℕ) (name : List ℕ) (sums : Option Sums) (first before now : List QueueInfo) → before ≡ first ++ queue_reports_by site h way (key_name site way) (range_with_len 0 key) → name ≡ key_name site way key
    → sums ≡ sums_of site h way (queue_of site h way key) → now ≡ before ++ queue_report way name sums → now ≡ first ++ queue_reports_by site h way (key_name site way) (range_with_len 0 (key + 1))
report_added site h way key name sums first before now was named summed added =
    key_added (λ (k : ℕ). queue_report way (key_name site way k) (sums_of site h way (queue_of site h way k))) key first before now was
    (added
    ∙ ap (λ (o : List ℕ). before ++ queue_report way o sums) named
    ∙ ap (λ (s : Option Sums). before ++ queue_report way (key_name site way key) s) summed)
