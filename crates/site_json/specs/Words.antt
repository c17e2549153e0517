-- Words of a site file that stand for one of a few things.
use Rattle.std.specs.Prelude.{ℕ, List, Bool, false, if◌then◌else◌, Option, Some, None, option_and_then, bytes_eq, codes}
use Rattle.serde_json.specs.Data.{Data}
use Rattle.serde_json.specs.Find.{get, as_bool}
use Rattle.cta_site.specs.declared.site.RuleKind.{RuleKind}
use Rattle.cta_site.specs.declared.site.RuleKind.TheVariants.{Requester, Group}
use Rattle.cta_site.specs.declared.site.TapeState.{TapeState}
use Rattle.cta_site.specs.declared.site.TapeState.TheVariants.{Active, Disabled, Broken, Repacking}
use Rattle.cta_site.specs.declared.site.CallKind.{CallKind}
use Rattle.cta_site.specs.declared.site.CallKind.TheVariants.{Load, Write, Flush, Read, Unload}
use Rattle.site_json.specs.Members.{text_at}

-- whom a mount rule names
abbrev pub kind_spelled : List ℕ → Option RuleKind
kind_spelled word = if bytes_eq word (codes "requester") then Some Requester else (if bytes_eq word (codes "group") then Some Group else None)

-- the state of a tape
abbrev pub state_spelled : List ℕ → Option TapeState
state_spelled word =
    if bytes_eq word (codes "ACTIVE") then Some Active else
    (if bytes_eq word (codes "DISABLED") then Some Disabled else
    (if bytes_eq word (codes "BROKEN") then Some Broken else
    (if bytes_eq word (codes "REPACKING") then Some Repacking else None)))

-- a call of a tape drive
abbrev pub call_spelled : List ℕ → Option CallKind
call_spelled word =
    if bytes_eq word (codes "load") then Some Load else
    (if bytes_eq word (codes "write") then Some Write else
    (if bytes_eq word (codes "flush") then Some Flush else
    (if bytes_eq word (codes "read") then Some Read else
    (if bytes_eq word (codes "unload") then Some Unload else None))))

-- the kind of a mount rule, where its member is such a word
unfoldable pub kind_at : Data → Option RuleKind
kind_at d = option_and_then kind_spelled (text_at (codes "kind") d)

-- the state of a tape, where its member is such a word
unfoldable pub state_at : Data → Option TapeState
state_at d = option_and_then state_spelled (text_at (codes "state") d)

-- the call of a planned failure, where its member is such a word
unfoldable pub call_at : Data → Option CallKind
call_at d = option_and_then call_spelled (text_at (codes "call") d)

-- what a member says that may be absent, and is then false
abbrev pub truth_or_false : Option Data → Option Bool
truth_or_false None = Some false
truth_or_false (Some d) = as_bool d

-- whether a planned failure alters bytes, where its member is true, false or absent
unfoldable pub alter_at : Data → Option Bool
alter_at d = truth_or_false (get (codes "alter") d)
