-- Sites to try the definitions on, beside those of cta_model.
use Rattle.std.specs.Prelude.{[], ◌∷◌, codes}
use Rattle.cta_site.specs.Listed.{rows}
use Rattle.cta_site.specs.declared.site.Site.{Site}
use Rattle.cta_site.specs.declared.site.RuleKind.TheVariants as rule
use Rattle.cta_site.specs.Sites.{small_limits}
use Rattle.cta_model.specs.Examples.{one_copy_site, two_copy_site, two_tape_site, with_small_buffer, tape, drive, standard_policy, fast_policy}

-- one copy on one tape, and a buffer of 10 bytes
abbrev pub small_buffer_site : Site
small_buffer_site = with_small_buffer one_copy_site

-- two copies on a tape each, and a buffer of 10 bytes
abbrev pub small_two_copy_site : Site
small_two_copy_site = with_small_buffer two_copy_site

-- two copies on a tape each, and two drives, of which one may write at a time
abbrev pub two_drive_site : Site
two_drive_site = record two_copy_site { drives = rows (drive (codes "d1") ∷ drive (codes "d2") ∷ []) }

-- one copy, two tapes in its pool, and two drives that may both write
abbrev pub two_writer_site : Site
two_writer_site = record two_tape_site {
  vos = rows (record { name = codes "atlas"; read_drives = 1; write_drives = 2 } ∷ []);
  drives = rows (drive (codes "d1") ∷ drive (codes "d2") ∷ []);
}

-- the one tape has room for 10 bytes
abbrev pub small_tape_site : Site
small_tape_site = record one_copy_site { tapes = rows (record (tape (codes "V1") (codes "p1")) { capacity = 10 } ∷ []) }

-- a mount is warranted by two files, or by one that is 10 seconds old
abbrev pub two_file_site : Site
two_file_site = record one_copy_site { limits = record small_limits { archive_files = 2 } }

-- the same with a rule that gives the requester `fast` a policy without a least age
abbrev pub fast_requester_site : Site
fast_requester_site = record two_file_site {
  policies = rows (fast_policy ∷ standard_policy ∷ []);
  rules = rows (record { kind = rule.Requester; name = codes "fast"; policy = codes "fast" } ∷ []);
}

-- a job is tried once
abbrev pub one_try_site : Site
one_try_site = record one_copy_site { limits = record small_limits { tries = 1 } }

-- a history weighs at most 2
abbrev pub short_site : Site
short_site = record one_copy_site { limits = record small_limits { history = 2 } }
