-- The books of stage requests and of repacks of a history.
use Rattle.std.specs.Prelude.{ℕ, ◌≡◌}
use Rattle.cta_site.specs.declared.site.Site.{Site}
use Rattle.cta_model.specs.History.{History}
use Rattle.cta_model.specs.Stages.{request_of}
use Rattle.cta_model.specs.Repacks.{repack_of}
use Rattle.part_model.specs.Requests.{Requests, request_in}
use Rattle.part_model.specs.Repacks.{Repacks, repack_in}

-- the book of stage requests stands for the history
abbrev pub AreRequests : Site → History → Requests → Type 0
AreRequests site h v = (id : ℕ) → request_in v id ≡ request_of site h id

-- the book of repacks stands for the history
abbrev pub AreRepacks : Site → History → Repacks → Type 0
AreRepacks site h v = (id : ℕ) → repack_in v id ≡ repack_of site h id
