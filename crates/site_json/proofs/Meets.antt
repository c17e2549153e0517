-- A site that is told by a file which keeps rules 2 to 7 keeps the rules 3 to 7 of a site.
use Rattle.std.proofs.Common.{◌≡◌, ◌∙◌, ℕ, List, Bool, true, Option, None, length, refl, ap, map, sym, subst}
use Rattle.std.proofs.lemmas.Bool.{and_parts, and_from}
use Rattle.std.proofs.lemmas.List.{length-map}
use Rattle.std.specs.Prelude.{nat_le, codes}
use Rattle.std.specs.List.{list_all}
use Rattle.std.specs.Option.{option_or}
use Rattle.serde_json.specs.Data.{Data}
use Rattle.cta_site.specs.declared.site.Site.{Site}
use Rattle.cta_site.specs.Bare.{bare_site}
use Rattle.cta_site.specs.Items.{unless, fault}
use Rattle.cta_site.specs.Forms as rule
use Rattle.site_json.specs.Members.{has_text, has_name, has_number, text, number}
use Rattle.site_json.specs.Elements.{tells_vo, tells_class, tells_route, tells_policy, tells_rule, tells_tape, tells_failure, vo_told, class_told, pool_told, route_told, policy_told, rule_told, library_told, tape_told, drive_told, directory_told, failure_told}
use Rattle.site_json.specs.File.{has_texts, has_limits, limits_in, limits_of, site_told, object_fault, member_fault, bad_element}
use Rattle.site_json.specs.Tested.{AreGood}
use Rattle.cta_site.proofs.Unbroken.{neither}
use Rattle.site_json.proofs.Tested.{in_range, text_in_range, text_is_name}
use Rattle.site_json.proofs.Parts.{vo_parts, class_copies, route_copy, policy_parts, rule_name, tape_capacity, failure_parts, byte_parts, number_parts}
use Rattle.site_json.proofs.Lists.{none_failing}
use Rattle.site_json.proofs.Kept.{KeepsMembers, keeps_members, AreCounted, are_counted, are_good}

-- a number in a range is at most its end
most : (low high : ℕ) (name : List ℕ) (d : Data) → has_number low high name d ≡ true → nat_le (number name d) high ≡ true
most low high name d e = (and_parts (nat_le low (number name d)) (nat_le (number name d) high) (in_range low high name d e)).1

texts : (file : Data) → has_texts file ≡ true → rule.are_texts (site_told file) ≡ true
texts file e =
    let a = and_parts (has_text 1 128 (codes "sitename") file) _ e in
    let b = and_parts (has_text 1 512 (codes "endpoint") file) _ a.1 in
    let f = and_parts (list_all rule.is_address_byte (text (codes "endpoint") file)) _ b.1 in
    let g = and_parts (has_name (codes "defaultPolicy") file) (has_name (codes "repackPolicy") file) f.1 in
    and_from _ _ (text_in_range 1 128 (codes "sitename") file a.0)
    (and_from _ _ (text_in_range 1 512 (codes "endpoint") file b.0)
    (and_from _ _ f.0
    (and_from _ _ (text_is_name (codes "defaultPolicy") file g.0) (text_is_name (codes "repackPolicy") file g.1))))

limits : (d : Data) → has_limits d ≡ true → rule.are_limits (limits_of d) ≡ true
limits d e =
    let b = byte_parts d e in
    let n = number_parts d e in
    and_from _ _
    (and_from _ _ (in_range _ _ _ d b.buffer) (and_from _ _ (in_range _ _ _ d b.file) (and_from _ _ (in_range _ _ _ d b.archive_bytes) (in_range _ _ _ d b.retrieve_bytes))))
    (and_from _ _ (in_range _ _ _ d n.archive_files) (and_from _ _ (in_range _ _ _ d n.retrieve_files) (and_from _ _ (in_range _ _ _ d n.batch_files)
    (and_from _ _ (in_range _ _ _ d n.tries) (and_from _ _ (in_range _ _ _ d n.history) (in_range _ _ _ d n.lifetime))))))

-- a list of what is made of each element is as long
as_long : {A : Type 0} (f : Data → A) (ds : List Data) (n : ℕ) → nat_le (length ds) n ≡ true → nat_le (length (map f ds)) n ≡ true
as_long f ds n e = ap (λ l. nat_le l n) (length-map ds f) ∙ e

counts : (file : Data) → AreCounted file → rule.are_counts (site_told file) ≡ true
counts file n =
    and_from _ _
    (and_from _ _ (as_long vo_told _ 64 n.vos) (and_from _ _ (as_long class_told _ 256 n.classes) (and_from _ _ (as_long pool_told _ 256 n.pools) (as_long route_told _ 1024 n.routes))))
    (and_from _ _
    (and_from _ _ (as_long policy_told _ 64 n.policies) (and_from _ _ (as_long rule_told _ 1024 n.rules) (as_long directory_told _ 1024 n.directories)))
    (and_from _ _ (as_long library_told _ 32 n.libraries) (and_from _ _ (as_long tape_told _ 4096 n.tapes) (and_from _ _ (as_long drive_told _ 64 n.drives) (as_long failure_told _ 1024 n.failures)))))

none_of_four : (a b d e : Bool) → a ≡ true → b ≡ true → d ≡ true → e ≡ true
    → option_or (fault 3 (unless a)) (option_or (fault 4 (unless b)) (option_or (fault 5 (unless d)) (fault 6 (unless e)))) ≡ None
none_of_four a b d e ea eb ed ee = rw (ea, eb, ed, ee) refl

sizes : (file : Data) → KeepsMembers file → rule.size_fault (site_told file) ≡ None
sizes file m =
    none_of_four (rule.are_texts (site_told file)) (rule.are_limits (limits_of (limits_in file))) (rule.fits_buffer (limits_of (limits_in file))) (rule.are_counts (site_told file))
    (texts file m.texts) (limits (limits_in file) m.limits) m.buffer (counts file (are_counted file m.lists))

vo_kept : (d : Data) → tells_vo d ≡ true → rule.is_vo (vo_told d) ≡ true
vo_kept d e = let p = vo_parts d e in and_from _ _ (most _ _ _ d p.read_drives) (most _ _ _ d p.write_drives)

class_kept : (d : Data) → tells_class d ≡ true → rule.is_class (class_told d) ≡ true
class_kept d e = in_range _ _ _ d (class_copies d e)

route_kept : (d : Data) → tells_route d ≡ true → rule.is_route (route_told d) ≡ true
route_kept d e = in_range _ _ _ d (route_copy d e)

policy_kept : (d : Data) → tells_policy d ≡ true → rule.is_policy (policy_told d) ≡ true
policy_kept d e =
    let p = policy_parts d e in
    and_from _ _ (most _ _ _ d p.archive_priority) (and_from _ _ (most _ _ _ d p.archive_min_age) (and_from _ _ (most _ _ _ d p.retrieve_priority) (most _ _ _ d p.retrieve_min_age)))

rule_kept : (d : Data) → tells_rule d ≡ true → rule.is_rule (rule_told d) ≡ true
rule_kept d e = text_in_range _ _ _ d (rule_name d e)

tape_kept : (d : Data) → tells_tape d ≡ true → rule.is_tape (tape_told d) ≡ true
tape_kept d e = in_range _ _ _ d (tape_capacity d e)

failure_kept : (d : Data) → tells_failure d ≡ true → rule.is_failure (failure_told d) ≡ true
failure_kept d e = let p = failure_parts d e in and_from _ _ (in_range _ _ _ d p.number) p.altering

none_of_seven : (a b d e f g h : Option ℕ) → a ≡ None → b ≡ None → d ≡ None → e ≡ None → f ≡ None → g ≡ None → h ≡ None
    → option_or a (option_or b (option_or d (option_or e (option_or f (option_or g h))))) ≡ None
none_of_seven a b d e f g h ea eb ed ee ef eg eh = rw (ea, eb, ed, ee, ef, eg, eh) refl

ranges : (file : Data) → AreGood file → rule.out_of_range (site_told file) ≡ None
ranges file g =
    none_of_seven _ _ _ _ _ _ _
    (none_failing tells_vo rule.is_vo vo_told _ vo_kept g.vos)
    (none_failing tells_class rule.is_class class_told _ class_kept g.classes)
    (none_failing tells_route rule.is_route route_told _ route_kept g.routes)
    (none_failing tells_policy rule.is_policy policy_told _ policy_kept g.policies)
    (none_failing tells_rule rule.is_rule rule_told _ rule_kept g.rules)
    (none_failing tells_tape rule.is_tape tape_told _ tape_kept g.tapes)
    (none_failing tells_failure rule.is_failure failure_told _ failure_kept g.failures)

-- a site keeps these rules
abbrev pub Keeps : Site → Type 0
Keeps site = (rule.size_fault site ≡ None) × (rule.out_of_range site ≡ None)

pub meets : (file : Data) (site : Site) → object_fault file ≡ None → bare_site site ≡ site_told file → Keeps site
meets file site e is =
    let a = neither (member_fault file) (fault 7 (bad_element file)) e in
    let told : Keeps (site_told file) = (sizes file (keeps_members file a.0), ranges file (are_good file e)) in
    subst Keeps (sym is) told
