-- The rules on the site's own members, on ranges and on names.
use Rattle.std.specs.Prelude.{ℕ, length, Bool, true, false, List, Option, ◌&&◌, ◌||◌, not, nat_le}
use Rattle.std.specs.Option.{option_or}
use Rattle.std.specs.List.{list_all}
use Rattle.cta_site.specs.declared.site.Site.{Site}
use Rattle.cta_site.specs.declared.site.Limits.{Limits}
use Rattle.cta_site.specs.declared.site.Vo.{Vo}
use Rattle.cta_site.specs.declared.site.Class.{Class}
use Rattle.cta_site.specs.declared.site.TapePool.{TapePool}
use Rattle.cta_site.specs.declared.site.Route.{Route}
use Rattle.cta_site.specs.declared.site.Policy.{Policy}
use Rattle.cta_site.specs.declared.site.Rule.{Rule}
use Rattle.cta_site.specs.declared.site.Tape.{Tape}
use Rattle.cta_site.specs.declared.site.Drive.{Drive}
use Rattle.cta_site.specs.declared.site.Failure.{Failure}
use Rattle.cta_site.specs.declared.site.CallKind.{CallKind}
use Rattle.cta_site.specs.declared.site.CallKind.TheVariants.{Load, Write, Flush, Read, Unload}
use Rattle.cta_site.specs.Names.{is_name_byte}
use Rattle.cta_site.specs.Items.{is_within, unless, first_failing, fault}

-- a text has the form of a name: 1 to 64 bytes, each a byte of a name
abbrev pub is_name : List ℕ → Bool
is_name name = is_within 1 64 (length name) && list_all is_name_byte name

-- a byte of an address is ASCII from 0x21 to 0x7E
abbrev pub is_address_byte : ℕ → Bool
is_address_byte b = is_within 33 126 b

-- rule 3: the site's name has 1 to 128 bytes, its address 1 to 512 of printable ASCII, and both policies have the form of a name
abbrev pub are_texts : Site → Bool
are_texts site = is_within 1 128 (length site.sitename) && (is_within 1 512 (length site.endpoint) && (list_all is_address_byte site.endpoint && (is_name site.default_policy && is_name site.repack_policy)))

-- the limits on bytes are in their ranges
abbrev pub are_byte_limits : Limits → Bool
are_byte_limits l = is_within 1 2147483648 l.buffer && (is_within 0 1073741824 l.file && (is_within 1 1125899906842624 l.archive_bytes && is_within 1 1125899906842624 l.retrieve_bytes))

-- the limits on numbers of things and on time are in their ranges
abbrev pub are_number_limits : Limits → Bool
are_number_limits l = is_within 1 1000000 l.archive_files && (is_within 1 1000000 l.retrieve_files && (is_within 1 1000 l.batch_files && (is_within 1 16 l.tries && (is_within 1 1000000 l.history && is_within 0 3153600000 l.lifetime))))

-- rule 4: each limit is in its range
abbrev pub are_limits : Limits → Bool
are_limits l = are_byte_limits l && are_number_limits l

-- rule 5: a file of the greatest size has room in the buffer
abbrev pub fits_buffer : Limits → Bool
fits_buffer l = nat_le l.file l.buffer

-- the lists that say what is stored where are no longer than they may be
abbrev pub are_store_counts : Site → Bool
are_store_counts site = nat_le (length site.vos.items) 64 && (nat_le (length site.classes.items) 256 && (nat_le (length site.pools.items) 256 && nat_le (length site.routes.items) 1024))

-- the lists that say for whom are no longer than they may be
abbrev pub are_caller_counts : Site → Bool
are_caller_counts site = nat_le (length site.policies.items) 64 && (nat_le (length site.rules.items) 1024 && nat_le (length site.directories.items) 1024)

-- the lists that say what there is to store with are no longer than they may be
abbrev pub are_device_counts : Site → Bool
are_device_counts site = nat_le (length site.libraries.items) 32 && (nat_le (length site.tapes.items) 4096 && (nat_le (length site.drives.items) 64 && nat_le (length site.failures.items) 1024))

-- rule 6: no list is longer than it may be
abbrev pub are_counts : Site → Bool
are_counts site = are_store_counts site && (are_caller_counts site && are_device_counts site)

-- a virtual organisation may use 0 to 64 drives in each direction
abbrev pub is_vo : Vo → Bool
is_vo v = nat_le v.read_drives 64 && nat_le v.write_drives 64

-- a storage class has 1 to 4 copies
abbrev pub is_class : Class → Bool
is_class c = is_within 1 4 c.copies

-- a route is for copy 1 to 4
abbrev pub is_route : Route → Bool
is_route r = is_within 1 4 r.copy

-- a policy's priorities are at most 1,000,000 and its ages at most 31,536,000 seconds
abbrev pub is_policy : Policy → Bool
is_policy p = nat_le p.archive_priority 1000000 && (nat_le p.archive_min_age 31536000 && (nat_le p.retrieve_priority 1000000 && nat_le p.retrieve_min_age 31536000))

-- a rule names a caller by 1 to 128 bytes
abbrev pub is_rule : Rule → Bool
is_rule r = is_within 1 128 (length r.name)

-- a tape holds 1 byte to 1 PiB
abbrev pub is_tape : Tape → Bool
is_tape t = is_within 1 1125899906842624 t.capacity

-- a call is a read
abbrev pub is_read : CallKind → Bool
is_read Load = false
is_read Write = false
is_read Flush = false
is_read Read = true
is_read Unload = false

-- a failure is of a call from the first on, and only a read gives altered bytes
abbrev pub is_failure : Failure → Bool
is_failure f = is_within 1 4294967295 f.number && (not f.alter || is_read f.call)

-- rule 7: each element is in its ranges; the lists go in the order of the file's form
abbrev pub out_of_range : Site → Option ℕ
out_of_range site =
    option_or (first_failing is_vo site.vos.items)
    (option_or (first_failing is_class site.classes.items)
    (option_or (first_failing is_route site.routes.items)
    (option_or (first_failing is_policy site.policies.items)
    (option_or (first_failing is_rule site.rules.items)
    (option_or (first_failing is_tape site.tapes.items)
    (first_failing is_failure site.failures.items))))))

-- rule 8: each name and VID that an element defines has the form of a name
abbrev pub misnamed : Site → Option ℕ
misnamed site =
    option_or (first_failing (λ (v : Vo). is_name v.name) site.vos.items)
    (option_or (first_failing (λ (c : Class). is_name c.name) site.classes.items)
    (option_or (first_failing (λ (p : TapePool). is_name p.name) site.pools.items)
    (option_or (first_failing (λ (p : Policy). is_name p.name) site.policies.items)
    (option_or (first_failing is_name site.libraries.items)
    (option_or (first_failing (λ (t : Tape). is_name t.vid) site.tapes.items)
    (first_failing (λ (d : Drive). is_name d.name) site.drives.items))))))

-- the first broken one of rules 3 to 6, which speak of no element
abbrev pub size_fault : Site → Option (ℕ × ℕ)
size_fault site =
    option_or (fault 3 (unless (are_texts site)))
    (option_or (fault 4 (unless (are_limits site.limits)))
    (option_or (fault 5 (unless (fits_buffer site.limits)))
    (fault 6 (unless (are_counts site)))))

-- the first broken one of rules 7 and 8
abbrev pub form_fault : Site → Option (ℕ × ℕ)
form_fault site = option_or (fault 7 (out_of_range site)) (fault 8 (misnamed site))
