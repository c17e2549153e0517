-- What a file has that keeps rules 2 to 7.
use Rattle.std.proofs.Common.{◌≡◌, ◌≤◌, ℕ, List, [], Bool, true, false, Option, Some, None, length, refl, ◌||◌, arith}
use Rattle.std.proofs.lemmas.Bool.{and_parts, leb-true, le-leb}
use Rattle.std.specs.Prelude.{is_some, not, nat_le, codes}
use Rattle.serde_json.specs.Data.{Data}
use Rattle.serde_json.specs.Find.{get}
use Rattle.cta_site.specs.Items.{unless, fault, first_failing}
use Rattle.site_json.specs.Members.{list_at, has_list, is_absent, list}
use Rattle.site_json.specs.Elements.{tells_vo, tells_class, tells_pool, tells_route, tells_policy, tells_rule, tells_library, tells_tape, tells_drive, tells_directory, tells_failure}
use Rattle.site_json.specs.File.{has_version, has_texts, has_limits, limits_in, fits_buffer, has_store_lists, has_caller_lists, has_device_lists, has_lists, bad_store, bad_caller, bad_device, bad_element, member_fault, object_fault}
use Rattle.site_json.specs.Tested.{AreShort, AreGood}
use Rattle.cta_site.proofs.Unbroken.{neither, kept, no_item}
use Rattle.site_json.proofs.Tested.{passed}

-- rules 2 to 6, one by one
pub record KeepsMembers (file : Data) : Type 0 where
  pub texts : has_texts file ≡ true
  pub limits : has_limits (limits_in file) ≡ true
  pub buffer : fits_buffer (limits_in file) ≡ true
  pub lists : has_lists file ≡ true

pub keeps_members : (file : Data) → member_fault file ≡ None → KeepsMembers file
keeps_members file e =
    let a = neither (fault 2 (unless (has_version file))) _ e in
    let b = neither (fault 3 (unless (has_texts file))) _ a.1 in
    let d = neither (fault 4 (unless (has_limits (limits_in file)))) _ b.1 in
    let f = neither (fault 5 (unless (fits_buffer (limits_in file)))) (fault 6 (unless (has_lists file))) d.1 in
    record { texts = kept 3 _ b.0; limits = kept 4 _ d.0; buffer = kept 5 _ f.0; lists = kept 6 _ f.1 }

-- a list that was found to be short is so
pub counted : (most : ℕ) (name : List ℕ) (d : Data) → has_list most name d ≡ true → nat_le (length (list name d)) most ≡ true
unfolding has_list list
counted most name d e = passed (λ l. nat_le (length l) most) (list_at name d) [] e

absent : (name : List ℕ) (d : Data) (o : Option Data) → get name d ≡ o → not (is_some o) ≡ true → list name d ≡ []
unfolding list list_at
absent name d None found e = rw found refl
absent name d (Some x) found e = absurd (cc)

counted_or : (most : ℕ) (name : List ℕ) (d : Data) (a b : Bool) → is_absent name d ≡ a → has_list most name d ≡ b → (a || b) ≡ true → nat_le (length (list name d)) most ≡ true
unfolding is_absent
counted_or most name d true b ea eb e = let none : list name d ≡ [] = absent name d (get name d) refl ea in rw none (le-leb 0 most (omega arith))
counted_or most name d false true ea eb e = counted most name d eb
counted_or most name d false false ea eb e = absurd (cc)

-- a list that was found to be absent or short is short
pub counted_if : (most : ℕ) (name : List ℕ) (d : Data) → (is_absent name d || has_list most name d) ≡ true → nat_le (length (list name d)) most ≡ true
counted_if most name d e = counted_or most name d (is_absent name d) (has_list most name d) refl refl e

-- how long each list is at most
pub record AreCounted (file : Data) : Type 0 where
  pub vos : nat_le (length (list (codes "vos") file)) 64 ≡ true
  pub classes : nat_le (length (list (codes "classes") file)) 256 ≡ true
  pub pools : nat_le (length (list (codes "pools") file)) 256 ≡ true
  pub routes : nat_le (length (list (codes "routes") file)) 1024 ≡ true
  pub policies : nat_le (length (list (codes "policies") file)) 64 ≡ true
  pub rules : nat_le (length (list (codes "rules") file)) 1024 ≡ true
  pub libraries : nat_le (length (list (codes "libraries") file)) 32 ≡ true
  pub tapes : nat_le (length (list (codes "tapes") file)) 4096 ≡ true
  pub drives : nat_le (length (list (codes "drives") file)) 64 ≡ true
  pub directories : nat_le (length (list (codes "directories") file)) 1024 ≡ true
  pub failures : nat_le (length (list (codes "failures") file)) 1024 ≡ true

pub are_counted : (file : Data) → has_lists file ≡ true → AreCounted file
are_counted file e =
    let a = and_parts (has_store_lists file) _ e in
    let b = and_parts (has_caller_lists file) (has_device_lists file) a.1 in
    let s = and_parts (has_list 64 (codes "vos") file) _ a.0 in
    let t = and_parts (has_list 256 (codes "classes") file) _ s.1 in
    let u = and_parts (has_list 256 (codes "pools") file) (has_list 1024 (codes "routes") file) t.1 in
    let f = and_parts (has_list 64 (codes "policies") file) _ b.0 in
    let g = and_parts (is_absent (codes "rules") file || has_list 1024 (codes "rules") file) (has_list 1024 (codes "directories") file) f.1 in
    let d = and_parts (has_list 32 (codes "libraries") file) _ b.1 in
    let h = and_parts (has_list 4096 (codes "tapes") file) _ d.1 in
    let i = and_parts (has_list 64 (codes "drives") file) (is_absent (codes "failures") file || has_list 1024 (codes "failures") file) h.1 in
    record {
      vos = counted 64 (codes "vos") file s.0;
      classes = counted 256 (codes "classes") file t.0;
      pools = counted 256 (codes "pools") file u.0;
      routes = counted 1024 (codes "routes") file u.1;
      policies = counted 64 (codes "policies") file f.0;
      rules = counted_if 1024 (codes "rules") file g.0;
      libraries = counted 32 (codes "libraries") file d.0;
      tapes = counted 4096 (codes "tapes") file h.0;
      drives = counted 64 (codes "drives") file i.0;
      directories = counted 1024 (codes "directories") file g.1;
      failures = counted_if 1024 (codes "failures") file i.1;
    }

short : (n most : ℕ) → most ≤ 4096 → nat_le n most ≡ true → n ≤ 4096
short n most low e = let h = leb-true n most e in omega arith

pub are_short : (file : Data) → member_fault file ≡ None → AreShort file
are_short file e =
    let n = are_counted file (keeps_members file e).lists in
    record {
      vos = short _ 64 (omega arith) n.vos;
      classes = short _ 256 (omega arith) n.classes;
      pools = short _ 256 (omega arith) n.pools;
      routes = short _ 1024 (omega arith) n.routes;
      policies = short _ 64 (omega arith) n.policies;
      rules = short _ 1024 (omega arith) n.rules;
      libraries = short _ 32 (omega arith) n.libraries;
      tapes = short _ 4096 (omega arith) n.tapes;
      drives = short _ 64 (omega arith) n.drives;
      directories = short _ 1024 (omega arith) n.directories;
      failures = short _ 1024 (omega arith) n.failures;
    }

pub are_good : (file : Data) → object_fault file ≡ None → AreGood file
are_good file e =
    let a = neither (member_fault file) (fault 7 (bad_element file)) e in
    let m = keeps_members file a.0 in
    let b = neither (bad_store file) _ (no_item 7 (bad_element file) a.1) in
    let d = neither (bad_caller file) (bad_device file) b.1 in
    let s = neither (first_failing tells_vo (list (codes "vos") file)) _ b.0 in
    let t = neither (first_failing tells_class (list (codes "classes") file)) _ s.1 in
    let u = neither (first_failing tells_pool (list (codes "pools") file)) (first_failing tells_route (list (codes "routes") file)) t.1 in
    let f = neither (first_failing tells_policy (list (codes "policies") file)) (first_failing tells_rule (list (codes "rules") file)) d.0 in
    let g = neither (first_failing tells_library (list (codes "libraries") file)) _ d.1 in
    let h = neither (first_failing tells_tape (list (codes "tapes") file)) _ g.1 in
    let i = neither (first_failing tells_drive (list (codes "drives") file)) _ h.1 in
    let j = neither (first_failing tells_directory (list (codes "directories") file)) (first_failing tells_failure (list (codes "failures") file)) i.1 in
    record {
      limits = m.limits;
      vos = s.0;
      classes = t.0;
      pools = u.0;
      routes = u.1;
      policies = f.0;
      rules = f.1;
      libraries = g.0;
      tapes = h.0;
      drives = i.0;
      directories = j.0;
      failures = j.1;
    }
