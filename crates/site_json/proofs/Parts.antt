-- What is known of the members of an element, and of the limits, that were found to be as they should.
use Rattle.std.proofs.Common.{◌≡◌, true}
use Rattle.std.proofs.lemmas.Bool.{and_parts}
use Rattle.std.specs.Prelude.{is_some, codes, not, ◌||◌}
use Rattle.serde_json.specs.Data.{Data}
use Rattle.cta_site.specs.Forms.{is_read}
use Rattle.site_json.specs.Members.{is_text, has_text, has_number}
use Rattle.site_json.specs.Words.{kind_at, state_at, call_at, alter_at}
use Rattle.site_json.specs.Elements.{tells_vo, tells_class, tells_route, tells_policy, tells_rule, tells_tape, tells_failure, call, alter}
use Rattle.site_json.specs.File.{has_byte_limits, has_number_limits, has_limits}

pub record VoParts (d : Data) : Type 0 where
  pub read_drives : has_number 0 64 (codes "readDrives") d ≡ true
  pub write_drives : has_number 0 64 (codes "writeDrives") d ≡ true

pub vo_parts : (d : Data) → tells_vo d ≡ true → VoParts d
vo_parts d e =
    let a = and_parts (is_text (codes "name") d) _ e in
    let b = and_parts (has_number 0 64 (codes "readDrives") d) (has_number 0 64 (codes "writeDrives") d) a.1 in
    record { read_drives = b.0; write_drives = b.1 }

pub class_copies : (d : Data) → tells_class d ≡ true → has_number 1 4 (codes "copies") d ≡ true
class_copies d e =
    let a = and_parts (is_text (codes "name") d) _ e in
    (and_parts (is_text (codes "vo") d) (has_number 1 4 (codes "copies") d) a.1).1

pub route_copy : (d : Data) → tells_route d ≡ true → has_number 1 4 (codes "copy") d ≡ true
route_copy d e =
    let a = and_parts (is_text (codes "class") d) _ e in
    (and_parts (has_number 1 4 (codes "copy") d) (is_text (codes "pool") d) a.1).0

pub record PolicyParts (d : Data) : Type 0 where
  pub archive_priority : has_number 0 1000000 (codes "archivePriority") d ≡ true
  pub archive_min_age : has_number 0 31536000 (codes "archiveMinAge") d ≡ true
  pub retrieve_priority : has_number 0 1000000 (codes "retrievePriority") d ≡ true
  pub retrieve_min_age : has_number 0 31536000 (codes "retrieveMinAge") d ≡ true

pub policy_parts : (d : Data) → tells_policy d ≡ true → PolicyParts d
policy_parts d e =
    let a = and_parts (is_text (codes "name") d) _ e in
    let b = and_parts (has_number 0 1000000 (codes "archivePriority") d) _ a.1 in
    let f = and_parts (has_number 0 31536000 (codes "archiveMinAge") d) _ b.1 in
    let g = and_parts (has_number 0 1000000 (codes "retrievePriority") d) (has_number 0 31536000 (codes "retrieveMinAge") d) f.1 in
    record { archive_priority = b.0; archive_min_age = f.0; retrieve_priority = g.0; retrieve_min_age = g.1 }

pub rule_name : (d : Data) → tells_rule d ≡ true → has_text 1 128 (codes "name") d ≡ true
rule_name d e =
    let a = and_parts (is_some (kind_at d)) _ e in
    (and_parts (has_text 1 128 (codes "name") d) (is_text (codes "policy") d) a.1).0

pub tape_capacity : (d : Data) → tells_tape d ≡ true → has_number 1 1125899906842624 (codes "capacity") d ≡ true
tape_capacity d e =
    let a = and_parts (is_text (codes "vid") d) _ e in
    let b = and_parts (is_text (codes "pool") d) _ a.1 in
    let f = and_parts (is_text (codes "library") d) _ b.1 in
    (and_parts (has_number 1 1125899906842624 (codes "capacity") d) (is_some (state_at d)) f.1).0

pub record ByteParts (d : Data) : Type 0 where
  pub buffer : has_number 1 2147483648 (codes "buffer") d ≡ true
  pub file : has_number 0 1073741824 (codes "file") d ≡ true
  pub archive_bytes : has_number 1 1125899906842624 (codes "archiveBytes") d ≡ true
  pub retrieve_bytes : has_number 1 1125899906842624 (codes "retrieveBytes") d ≡ true

pub byte_parts : (d : Data) → has_limits d ≡ true → ByteParts d
byte_parts d e =
    let w = and_parts (has_byte_limits d) (has_number_limits d) e in
    let a = and_parts (has_number 1 2147483648 (codes "buffer") d) _ w.0 in
    let b = and_parts (has_number 0 1073741824 (codes "file") d) _ a.1 in
    let f = and_parts (has_number 1 1125899906842624 (codes "archiveBytes") d) (has_number 1 1125899906842624 (codes "retrieveBytes") d) b.1 in
    record { buffer = a.0; file = b.0; archive_bytes = f.0; retrieve_bytes = f.1 }

pub record NumberParts (d : Data) : Type 0 where
  pub archive_files : has_number 1 1000000 (codes "archiveFiles") d ≡ true
  pub retrieve_files : has_number 1 1000000 (codes "retrieveFiles") d ≡ true
  pub batch_files : has_number 1 1000 (codes "batchFiles") d ≡ true
  pub tries : has_number 1 16 (codes "tries") d ≡ true
  pub history : has_number 1 1000000 (codes "history") d ≡ true
  pub lifetime : has_number 0 3153600000 (codes "lifetime") d ≡ true

pub number_parts : (d : Data) → has_limits d ≡ true → NumberParts d
number_parts d e =
    let w = and_parts (has_byte_limits d) (has_number_limits d) e in
    let a = and_parts (has_number 1 1000000 (codes "archiveFiles") d) _ w.1 in
    let b = and_parts (has_number 1 1000000 (codes "retrieveFiles") d) _ a.1 in
    let f = and_parts (has_number 1 1000 (codes "batchFiles") d) _ b.1 in
    let g = and_parts (has_number 1 16 (codes "tries") d) _ f.1 in
    let h = and_parts (has_number 1 1000000 (codes "history") d) (has_number 0 3153600000 (codes "lifetime") d) g.1 in
    record { archive_files = a.0; retrieve_files = b.0; batch_files = f.0; tries = g.0; history = h.0; lifetime = h.1 }

pub record FailureParts (d : Data) : Type 0 where
  pub number : has_number 1 4294967295 (codes "number") d ≡ true
  pub altering : (not (alter d) || is_read (call d)) ≡ true

pub failure_parts : (d : Data) → tells_failure d ≡ true → FailureParts d
failure_parts d e =
    let a = and_parts (is_text (codes "drive") d) _ e in
    let b = and_parts (is_some (call_at d)) _ a.1 in
    let f = and_parts (has_number 1 4294967295 (codes "number") d) _ b.1 in
    let g = and_parts (is_some (alter_at d)) (not (alter d) || is_read (call d)) f.1 in
    record { number = f.0; altering = g.1 }
