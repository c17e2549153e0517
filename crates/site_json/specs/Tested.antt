-- What a file has that keeps its rules, for private clauses.
use Rattle.std.specs.Prelude.{◌≡◌, ◌≤◌, length, true, None, codes}
use Rattle.serde_json.specs.Data.{Data}
use Rattle.cta_site.specs.Items.{first_failing}
use Rattle.site_json.specs.Members.{list}
use Rattle.site_json.specs.Elements.{tells_vo, tells_class, tells_pool, tells_route, tells_policy, tells_rule, tells_library, tells_tape, tells_drive, tells_directory, tells_failure}
use Rattle.site_json.specs.File.{has_limits, limits_in}

-- no list has more than 4,096 elements
pub record AreShort (file : Data) : Type 0 where
  pub vos : length (list (codes "vos") file) ≤ 4096
  pub classes : length (list (codes "classes") file) ≤ 4096
  pub pools : length (list (codes "pools") file) ≤ 4096
  pub routes : length (list (codes "routes") file) ≤ 4096
  pub policies : length (list (codes "policies") file) ≤ 4096
  pub rules : length (list (codes "rules") file) ≤ 4096
  pub libraries : length (list (codes "libraries") file) ≤ 4096
  pub tapes : length (list (codes "tapes") file) ≤ 4096
  pub drives : length (list (codes "drives") file) ≤ 4096
  pub directories : length (list (codes "directories") file) ≤ 4096
  pub failures : length (list (codes "failures") file) ≤ 4096

-- each limit and each element is as it should be
pub record AreGood (file : Data) : Type 0 where
  pub limits : has_limits (limits_in file) ≡ true
  pub vos : first_failing tells_vo (list (codes "vos") file) ≡ None
  pub classes : first_failing tells_class (list (codes "classes") file) ≡ None
  pub pools : first_failing tells_pool (list (codes "pools") file) ≡ None
  pub routes : first_failing tells_route (list (codes "routes") file) ≡ None
  pub policies : first_failing tells_policy (list (codes "policies") file) ≡ None
  pub rules : first_failing tells_rule (list (codes "rules") file) ≡ None
  pub libraries : first_failing tells_library (list (codes "libraries") file) ≡ None
  pub tapes : first_failing tells_tape (list (codes "tapes") file) ≡ None
  pub drives : first_failing tells_drive (list (codes "drives") file) ≡ None
  pub directories : first_failing tells_directory (list (codes "directories") file) ≡ None
  pub failures : first_failing tells_failure (list (codes "failures") file) ≡ None
