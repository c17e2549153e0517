-- The numbers that are told are those of the site.
use Rattle.std.proofs.Common.{◌≡◌, ◌∙◌, ℕ, List, Option, Some, None, ap, length, []}
use Rattle.std.specs.Prelude.{option_map, slice_get}
use Rattle.std.proofs.lemmas.Option.{slice_get-map}
use Rattle.cta_site.specs.declared.site.Site.{Site}
use Rattle.cta_site.specs.declared.site.Tape.{Tape}
use Rattle.cta_site.specs.declared.site.TapePool.{TapePool}
use Rattle.cta_site.specs.Lookups.{pool_holding, pool_number, pool_of_tape, vo_name, vo_of_pool}
use Rattle.site_index.specs.Numbers.{HasNumbers, vo_number}

-- the number of a tape's pool, of that tape or none
abbrev pub pool_told : Site → Option Tape → Option ℕ
pool_told site o = option_map (λ (t : Tape). pool_number site t.pool) o

tape_there : (site : Site) (o : Option Tape) (x : ℕ) → Some x ≡ pool_told site o → x ≡ pool_holding site o
tape_there site None x e = absurd (cc)
tape_there site (Some t) x e = cc

tape_missing : (site : Site) (o : Option Tape) → None ≡ pool_told site o → length site.pools.items ≡ pool_holding site o
tape_missing site None e = cc
tape_missing site (Some t) e = absurd (cc)

pub tape_some : (site : Site) (of_tapes of_pools : List ℕ) (tape x : ℕ) → HasNumbers site of_tapes of_pools → Some x ≡ slice_get of_tapes tape → x ≡ pool_of_tape site tape
tape_some site of_tapes of_pools tape x known e =
    tape_there site (slice_get site.tapes.items tape) x (e ∙ ap (λ (l : List ℕ). slice_get l tape) known.tapes ∙ slice_get-map (λ (t : Tape). pool_number site t.pool) site.tapes.items tape)

pub tape_none : (site : Site) (of_tapes of_pools : List ℕ) (tape : ℕ) → HasNumbers site of_tapes of_pools → None ≡ slice_get of_tapes tape → length site.pools.items ≡ pool_of_tape site tape
tape_none site of_tapes of_pools tape known e =
    tape_missing site (slice_get site.tapes.items tape) (e ∙ ap (λ (l : List ℕ). slice_get l tape) known.tapes ∙ slice_get-map (λ (t : Tape). pool_number site t.pool) site.tapes.items tape)

-- the number of a pool's virtual organisation, of that pool or none
abbrev pub vo_told : Site → Option TapePool → Option ℕ
vo_told site o = option_map (λ (p : TapePool). vo_number site p.vo) o

pool_there : (site : Site) (o : Option TapePool) (x : ℕ) → Some x ≡ vo_told site o → x ≡ vo_number site (vo_name o)
pool_there site None x e = absurd (cc)
pool_there site (Some p) x e = cc

pool_missing : (site : Site) (o : Option TapePool) → None ≡ vo_told site o → vo_number site [] ≡ vo_number site (vo_name o)
pool_missing site None e = cc
pool_missing site (Some p) e = absurd (cc)

pub pool_some : (site : Site) (of_tapes of_pools : List ℕ) (pool x : ℕ) → HasNumbers site of_tapes of_pools → Some x ≡ slice_get of_pools pool → x ≡ vo_of_pool site pool
pool_some site of_tapes of_pools pool x known e =
    pool_there site (slice_get site.pools.items pool) x (e ∙ ap (λ (l : List ℕ). slice_get l pool) known.pools ∙ slice_get-map (λ (p : TapePool). vo_number site p.vo) site.pools.items pool)

pub pool_none : (site : Site) (of_tapes of_pools : List ℕ) (pool : ℕ) → HasNumbers site of_tapes of_pools → None ≡ slice_get of_pools pool → vo_number site [] ≡ vo_of_pool site pool
pool_none site of_tapes of_pools pool known e =
    pool_missing site (slice_get site.pools.items pool) (e ∙ ap (λ (l : List ℕ). slice_get l pool) known.pools ∙ slice_get-map (λ (p : TapePool). vo_number site p.vo) site.pools.items pool)
