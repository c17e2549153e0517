-- What a valid site keeps, part by part.
use Rattle.std.proofs.Common.{◌≡◌, ◌∙◌, ◌≤◌, ◌∷◌, ℕ, List, [], Bool, true, None, length, refl, sym, ap, map, subst}
use Rattle.std.proofs.lemmas.Bool.{and_parts, leb-true}
use Rattle.std.proofs.lemmas.List.Sorted.{IsPermutation-refl, length_permutation}
use Rattle.std.specs.Prelude.{IsTrue, IsSome}
use Rattle.std.specs.List.{AllByRecursion, list_all}
use Rattle.std.specs.List.Sorted.{IsPermutation}
use Rattle.cta_site.specs.declared.site.Site.{Site}
use Rattle.cta_site.specs.declared.site.Limits.{Limits}
use Rattle.cta_site.specs.declared.site.Vo.{Vo}
use Rattle.cta_site.specs.declared.site.Class.{Class}
use Rattle.cta_site.specs.declared.site.TapePool.{TapePool}
use Rattle.cta_site.specs.declared.site.Route.{Route}
use Rattle.cta_site.specs.declared.site.Policy.{Policy}
use Rattle.cta_site.specs.declared.site.Rule.{Rule}
use Rattle.cta_site.specs.declared.site.Tape.{Tape}
use Rattle.cta_site.specs.declared.site.Drive.{Drive}
use Rattle.cta_site.specs.declared.site.Directory.{Directory}
use Rattle.cta_site.specs.Bare.{bare_site}
use Rattle.cta_site.specs.Faults.{first_fault, element_fault}
use Rattle.cta_site.specs.Forms.{size_fault, form_fault, out_of_range, misnamed, is_name, is_vo, is_class, is_route, are_limits, are_byte_limits, are_number_limits, fits_buffer}
use Rattle.cta_site.specs.Items.{is_within, is_among, first_failing, first_repeat, fault, unless}
use Rattle.cta_site.specs.Names.{IsName, is_name_byte, AreAscending}
use Rattle.cta_site.specs.Numbering.{IsNumberedFrom, IsInOrder, Rearranges}
use Rattle.cta_site.specs.Lookups.{place_by}
use Rattle.cta_site.specs.Paths.{is_path}
use Rattle.cta_site.specs.References as said
use Rattle.cta_site.specs.WellFormed as valid
use Rattle.cta_site.specs.WellFormed.{IsWellFormed}
use Rattle.cta_site.specs.ValidSite.{IsValidSite}
use Rattle.cta_site.specs.Names as named
use Rattle.cta_site.proofs.Unbroken.{neither, kept, no_item}
use Rattle.cta_site.proofs.Kept.{keeps_sizes, counts_are}
use Rattle.cta_site.proofs.Ordered.{all_map, all_named, ascending, known_in, passes}
use Rattle.cta_site.proofs.Reordered.{unmoved, rules_still}

within : (low high n : ℕ) → is_within low high n ≡ true → (low ≤ n) × (n ≤ high)
within low high n e = let b = and_parts _ _ e in (leb-true _ _ b.0, leb-true _ _ b.1)

limits_are : (l : Limits) → are_limits l ≡ true → fits_buffer l ≡ true → valid.AreLimits l
limits_are l e fits =
    let parts = and_parts (are_byte_limits l) (are_number_limits l) e in
    let a = and_parts (is_within 1 2147483648 l.buffer) _ parts.0 in
    let b = and_parts (is_within 0 1073741824 l.file) _ a.1 in
    let d = and_parts (is_within 1 1125899906842624 l.archive_bytes) (is_within 1 1125899906842624 l.retrieve_bytes) b.1 in
    let f = and_parts (is_within 1 1000000 l.archive_files) _ parts.1 in
    let g = and_parts (is_within 1 1000000 l.retrieve_files) _ f.1 in
    let h = and_parts (is_within 1 1000 l.batch_files) _ g.1 in
    let i = and_parts (is_within 1 16 l.tries) _ h.1 in
    let j = and_parts (is_within 1 1000000 l.history) (is_within 0 3153600000 l.lifetime) i.1 in
    let buffer = within 1 2147483648 l.buffer a.0 in
    let file = within 0 1073741824 l.file b.0 in
    let archive_bytes = within 1 1125899906842624 l.archive_bytes d.0 in
    let retrieve_bytes = within 1 1125899906842624 l.retrieve_bytes d.1 in
    let archive_files = within 1 1000000 l.archive_files f.0 in
    let retrieve_files = within 1 1000000 l.retrieve_files g.0 in
    let batch_files = within 1 1000 l.batch_files h.0 in
    let tries = within 1 16 l.tries i.0 in
    let history = within 1 1000000 l.history j.0 in
    let lifetime = within 0 3153600000 l.lifetime j.1 in
    record {
      buffer_from = buffer.0;
      buffer_to = buffer.1;
      file_to = file.1;
      file_in_buffer = leb-true l.file l.buffer fits;
      archive_bytes_from = archive_bytes.0;
      archive_bytes_to = archive_bytes.1;
      retrieve_bytes_from = retrieve_bytes.0;
      retrieve_bytes_to = retrieve_bytes.1;
      archive_files_from = archive_files.0;
      archive_files_to = archive_files.1;
      retrieve_files_from = retrieve_files.0;
      retrieve_files_to = retrieve_files.1;
      batch_files_from = batch_files.0;
      batch_files_to = batch_files.1;
      tries_from = tries.0;
      tries_to = tries.1;
      history_from = history.0;
      history_to = history.1;
      lifetime_to = lifetime.1;
    }

no_longer : {A : Type 0} (xs ys : List A) (n : ℕ) → IsPermutation xs ys → length xs ≤ n → length ys ≤ n
no_longer xs ys n moved few = subst (λ k. k ≤ n) (sym (length_permutation xs ys moved)) few

as_long : {A : Type 0} (xs ys : List A) (n : ℕ) → ys ≡ xs → length xs ≤ n → length ys ≤ n
as_long xs ys n same few = subst (λ l. length l ≤ n) (sym same) few

counts_stay : (file site : Site) → Rearranges file site → valid.AreCounts file → valid.AreCounts site
counts_stay file site r counts = record {
  vos = no_longer file.vos.items site.vos.items 64 r.vos counts.vos;
  classes = no_longer file.classes.items site.classes.items 256 r.classes counts.classes;
  pools = no_longer file.pools.items site.pools.items 256 r.pools counts.pools;
  routes = as_long file.routes.items site.routes.items 1024 r.routes counts.routes;
  policies = no_longer file.policies.items site.policies.items 64 r.policies counts.policies;
  rules = as_long file.rules.items site.rules.items 1024 r.rules counts.rules;
  libraries = no_longer file.libraries.items site.libraries.items 32 r.libraries counts.libraries;
  tapes = no_longer file.tapes.items site.tapes.items 4096 r.tapes counts.tapes;
  drives = no_longer file.drives.items site.drives.items 64 r.drives counts.drives;
  directories = as_long file.directories.items site.directories.items 1024 r.directories counts.directories;
  failures = as_long file.failures.items site.failures.items 1024 r.failures counts.failures;
}

all_true : {A : Type 0} (p : A → Bool) (xs : List A) → list_all p xs ≡ true → AllByRecursion (λ x. IsTrue (p x)) xs
all_true p [] e = tt
all_true p (x ∷ xs) e = let b = and_parts (p x) (list_all p xs) e in (b.0, all_true p xs b.1)

name_is : (name : List ℕ) → is_name name ≡ true → IsName name
name_is name e =
    let b = and_parts (is_within 1 64 (length name)) (list_all is_name_byte name) e in
    let long = within 1 64 (length name) b.0 in
    record { some = long.0; at_most = long.1; bytes = all_true is_name_byte name b.1 }

names_are : {A : Type 0} (name : A → List ℕ) (xs ys : List A) → IsPermutation xs ys → first_failing (λ x. is_name (name x)) xs ≡ None → AllByRecursion IsName (map name ys)
names_are name xs ys moved e =
    all_named name IsName ys (all_map (λ x. is_name (name x) ≡ true) (λ x. IsName (name x)) (λ x h. name_is (name x) h) ys (passes (λ x. is_name (name x)) xs ys moved e))

all_libraries : (P : List ℕ → Type 0) (xs : List (List ℕ)) → AllByRecursion P (map (λ l. l) xs) → AllByRecursion P xs
all_libraries P [] all = tt
all_libraries P (x ∷ xs) all = (all.0, all_libraries P xs all.1)

names_stay : (file site : Site) → Rearranges file site → misnamed file ≡ None → valid.AreNames site
names_stay file site r e =
    let a = neither (first_failing (λ (v : Vo). is_name v.name) file.vos.items) _ e in
    let b = neither (first_failing (λ (k : Class). is_name k.name) file.classes.items) _ a.1 in
    let d = neither (first_failing (λ (p : TapePool). is_name p.name) file.pools.items) _ b.1 in
    let f = neither (first_failing (λ (p : Policy). is_name p.name) file.policies.items) _ d.1 in
    let g = neither (first_failing is_name file.libraries.items) _ f.1 in
    let h = neither (first_failing (λ (t : Tape). is_name t.vid) file.tapes.items) (first_failing (λ (k : Drive). is_name k.name) file.drives.items) g.1 in
    record {
      vos = names_are (λ (v : Vo). v.name) file.vos.items site.vos.items r.vos a.0;
      classes = names_are (λ (k : Class). k.name) file.classes.items site.classes.items r.classes b.0;
      pools = names_are (λ (p : TapePool). p.name) file.pools.items site.pools.items r.pools d.0;
      policies = names_are (λ (p : Policy). p.name) file.policies.items site.policies.items r.policies f.0;
      libraries = all_libraries IsName site.libraries.items (names_are (λ (l : List ℕ). l) file.libraries.items site.libraries.items r.libraries g.0);
      tapes = names_are (λ (t : Tape). t.vid) file.tapes.items site.tapes.items r.tapes h.0;
      drives = names_are (λ (k : Drive). k.name) file.drives.items site.drives.items r.drives h.1;
    }

itself : (xs : List (List ℕ)) → map (λ l. l) xs ≡ xs
itself [] = refl
itself (x ∷ xs) = ap (λ l. x ∷ l) (itself xs)

numbers_are : (file site : Site) → Rearranges file site → IsInOrder site → said.store_repeat file ≡ None → said.device_repeat file ≡ None → valid.AreNumbered site
numbers_are file site r order stores devices =
    let a = neither (fault 9 (first_repeat (named.vo_names file))) _ stores in
    let b = neither (fault 10 (first_repeat (named.class_names file))) _ a.1 in
    let d = neither (fault 11 (first_repeat (named.pool_names file))) (fault 12 (first_repeat (named.policy_names file))) b.1 in
    let f = neither (fault 13 (first_repeat file.libraries.items)) _ devices in
    let g = neither (fault 14 (first_repeat (named.vids file))) _ f.1 in
    let h = neither (fault 15 (first_repeat (named.drive_names file))) (fault 16 (first_repeat (named.directory_paths file))) g.1 in
    let libraries : first_repeat (map (λ l. l) file.libraries.items) ≡ None = ap first_repeat (itself file.libraries.items) ∙ no_item 13 _ f.0 in
    record {
      vos = ascending (λ (v : Vo). v.name) file.vos.items site.vos.items r.vos order.vos (no_item 9 _ a.0);
      classes = ascending (λ (k : Class). k.name) file.classes.items site.classes.items r.classes order.classes (no_item 10 _ b.0);
      pools = ascending (λ (p : TapePool). p.name) file.pools.items site.pools.items r.pools order.pools (no_item 11 _ d.0);
      policies = ascending (λ (p : Policy). p.name) file.policies.items site.policies.items r.policies order.policies (no_item 12 _ d.1);
      libraries = subst (λ ns. AreAscending ns) (itself site.libraries.items) (ascending (λ (l : List ℕ). l) file.libraries.items site.libraries.items r.libraries order.libraries libraries);
      tapes = ascending (λ (t : Tape). t.vid) file.tapes.items site.tapes.items r.tapes order.tapes (no_item 14 _ g.0);
      drives = ascending (λ (k : Drive). k.name) file.drives.items site.drives.items r.drives order.drives (no_item 15 _ h.0);
    }

copies_are : (file site : Site) → Rearranges file site → out_of_range file ≡ None → AllByRecursion valid.HasCopies site.classes.items
copies_are file site r e =
    let a = neither (first_failing is_vo file.vos.items) _ e in
    let b = neither (first_failing is_class file.classes.items) _ a.1 in
    all_map (λ k. is_class k ≡ true) valid.HasCopies (λ k h. let w = within 1 4 k.copies h in record { from = w.0; to = w.1 }) site.classes.items (passes is_class file.classes.items site.classes.items r.classes b.0)

routes_are : (file site : Site) → Rearranges file site → out_of_range file ≡ None → AllByRecursion valid.HasCopy site.routes.items
routes_are file site r e =
    let a = neither (first_failing is_vo file.vos.items) _ e in
    let b = neither (first_failing is_class file.classes.items) _ a.1 in
    let d = neither (first_failing is_route file.routes.items) _ b.1 in
    all_map (λ k. is_route k ≡ true) valid.HasCopy (λ k h. let w = within 1 4 k.copy h in record { from = w.0; to = w.1 }) site.routes.items (passes is_route file.routes.items site.routes.items (unmoved _ _ r.routes) d.0)

knows_library : (xs ys : List (List ℕ)) (name : List ℕ) → IsPermutation xs ys → is_among xs name ≡ true → IsSome (place_by (λ (l : List ℕ). l) ys name)
knows_library xs ys name moved e = known_in (λ (l : List ℕ). l) xs ys name moved (ap (λ ns. is_among ns name) (itself xs) ∙ e)

known_are : (file site : Site) → Rearranges file site → said.class_fault file ≡ None → said.route_fault file ≡ None → said.policy_fault file ≡ None → said.device_fault file ≡ None → valid.AreKnown site
known_are file site r classes routes policies devices =
    let vo = λ (name : List ℕ) (h : is_among (named.vo_names file) name ≡ true). known_in (λ (v : Vo). v.name) file.vos.items site.vos.items name r.vos h in
    let class = λ (name : List ℕ) (h : is_among (named.class_names file) name ≡ true). known_in (λ (k : Class). k.name) file.classes.items site.classes.items name r.classes h in
    let pool = λ (name : List ℕ) (h : is_among (named.pool_names file) name ≡ true). known_in (λ (p : TapePool). p.name) file.pools.items site.pools.items name r.pools h in
    let policy = λ (name : List ℕ) (h : is_among (named.policy_names file) name ≡ true). known_in (λ (p : Policy). p.name) file.policies.items site.policies.items name r.policies h in
    let library = λ (name : List ℕ) (h : is_among file.libraries.items name ≡ true). knows_library file.libraries.items site.libraries.items name r.libraries h in
    let a = neither (fault 17 (first_failing (said.class_has_vo file) file.classes.items)) _ classes in
    let b = neither (fault 18 (first_failing (said.pool_has_vo file) file.pools.items)) _ a.1 in
    let d = neither (fault 20 (first_failing (said.route_has_class file) file.routes.items)) _ routes in
    let f = neither (fault 21 (first_failing (said.route_has_pool file) file.routes.items)) _ d.1 in
    let g = neither (fault 24 (unless (is_among (named.policy_names file) file.default_policy))) _ policies in
    let h = neither (fault 25 (unless (is_among (named.policy_names file) file.repack_policy))) _ g.1 in
    let i = neither (fault 26 (first_failing (said.rule_has_policy file) file.rules.items)) _ h.1 in
    let j = neither (fault 28 (first_failing (said.tape_has_home file) file.tapes.items)) _ devices in
    let k = neither (fault 29 (said.drive_item file)) (fault 30 (first_failing (said.directory_has_class file) file.directories.items)) j.1 in
    let l = neither (first_failing (said.drive_has_library file) file.drives.items) _ (no_item 29 _ k.0) in
    let tapes = passes (said.tape_has_home file) file.tapes.items site.tapes.items r.tapes (no_item 28 _ j.0) in
    record {
      class_vos = all_map (λ x. said.class_has_vo file x ≡ true) (λ (x : Class). valid.HasVo site x.vo) (λ x e. vo x.vo e) site.classes.items (passes (said.class_has_vo file) file.classes.items site.classes.items r.classes (no_item 17 _ a.0));
      pool_vos = all_map (λ x. said.pool_has_vo file x ≡ true) (λ (x : TapePool). valid.HasVo site x.vo) (λ x e. vo x.vo e) site.pools.items (passes (said.pool_has_vo file) file.pools.items site.pools.items r.pools (no_item 18 _ b.0));
      route_classes = all_map (λ x. said.route_has_class file x ≡ true) (λ (x : Route). valid.HasClass site x.class) (λ x e. class x.class (and_parts (is_among (named.class_names file) x.class) _ e).0) site.routes.items (passes (said.route_has_class file) file.routes.items site.routes.items (unmoved _ _ r.routes) (no_item 20 _ d.0));
      route_pools = all_map (λ x. said.route_has_pool file x ≡ true) (λ (x : Route). valid.HasPool site x.pool) (λ x e. pool x.pool e) site.routes.items (passes (said.route_has_pool file) file.routes.items site.routes.items (unmoved _ _ r.routes) (no_item 21 _ f.0));
      default_policy = subst (λ n. valid.HasPolicy site n) (sym r.default_policy) (policy file.default_policy (kept 24 _ g.0));
      repack_policy = subst (λ n. valid.HasPolicy site n) (sym r.repack_policy) (policy file.repack_policy (kept 25 _ h.0));
      rule_policies = all_map (λ x. said.rule_has_policy file x ≡ true) (λ (x : Rule). valid.HasPolicy site x.policy) (λ x e. policy x.policy e) site.rules.items (passes (said.rule_has_policy file) file.rules.items site.rules.items (unmoved _ _ r.rules) (no_item 26 _ i.0));
      tape_pools = all_map (λ x. said.tape_has_home file x ≡ true) (λ (x : Tape). valid.HasPool site x.pool) (λ x e. pool x.pool (and_parts (is_among (named.pool_names file) x.pool) _ e).0) site.tapes.items tapes;
      tape_libraries = all_map (λ x. said.tape_has_home file x ≡ true) (λ (x : Tape). valid.HasLibrary site x.library) (λ x e. library x.library (and_parts (is_among (named.pool_names file) x.pool) _ e).1) site.tapes.items tapes;
      drive_libraries = all_map (λ x. said.drive_has_library file x ≡ true) (λ (x : Drive). valid.HasLibrary site x.library) (λ x e. library x.library e) site.drives.items (passes (said.drive_has_library file) file.drives.items site.drives.items r.drives l.0);
      directory_classes = all_map (λ x. said.directory_has_class file x ≡ true) (λ (x : Directory). valid.HasClass site x.class) (λ x e. class x.class (and_parts (is_path x.path) _ e).1) site.directories.items (passes (said.directory_has_class file) file.directories.items site.directories.items (unmoved _ _ r.directories) (no_item 30 _ k.1));
    }

pub rearranged_is_well_formed : (file site : Site) → first_fault file ≡ None → Rearranges file site → IsInOrder site → IsWellFormed site
rearranged_is_well_formed file site e r order =
    let a = neither (size_fault file) (element_fault file) e in
    let sizes = keeps_sizes file a.0 in
    let b = neither (form_fault file) _ a.1 in
    let forms = neither (fault 7 (out_of_range file)) (fault 8 (misnamed file)) b.0 in
    let d = neither (said.store_repeat file) _ b.1 in
    let f = neither (said.device_repeat file) _ d.1 in
    let g = neither (said.class_fault file) _ f.1 in
    let h = neither (said.route_fault file) _ g.1 in
    let i = neither (said.policy_fault file) (said.device_fault file) h.1 in
    record {
      limits = subst valid.AreLimits (sym r.limits) (limits_are file.limits sizes.limits sizes.buffer);
      counts = counts_stay file site r (counts_are file sizes.counts);
      names = names_stay file site r (no_item 8 _ forms.1);
      numbered = numbers_are file site r order d.0 f.0;
      copies = copies_are file site r (no_item 7 _ forms.0);
      routes = routes_are file site r (no_item 7 _ forms.0);
      known = known_are file site r g.0 h.0 i.0 i.1;
    }

rearranges-same : (site : Site) → Rearranges site site
rearranges-same site = record {
  version = refl;
  sitename = refl;
  endpoint = refl;
  default_policy = refl;
  repack_policy = refl;
  limits = refl;
  vos = IsPermutation-refl _;
  classes = IsPermutation-refl _;
  pools = IsPermutation-refl _;
  routes = refl;
  policies = IsPermutation-refl _;
  rules = refl;
  libraries = IsPermutation-refl _;
  tapes = IsPermutation-refl _;
  drives = IsPermutation-refl _;
  directories = refl;
  failures = refl;
}

pub well_formed : (site : Site) → IsValidSite site → IsWellFormed site
well_formed site valid = rearranged_is_well_formed site site valid.rules (rearranges-same site) valid.in_order

pub in_order-bare : (site : Site) → IsInOrder site → IsInOrder (bare_site site)
in_order-bare site o = record {
  vos = o.vos;
  classes = o.classes;
  pools = o.pools;
  policies = o.policies;
  libraries = o.libraries;
  tapes = o.tapes;
  drives = o.drives;
}

-- a site that breaks no rule is valid once its numbered lists are in order
pub numbered_is_valid : (file site : Site) → first_fault file ≡ None → Rearranges file site → IsInOrder site → IsValidSite (bare_site site)
numbered_is_valid file site e r order = record { rules = rules_still file site r e; in_order = in_order-bare site order }

rearranges_bare : (file site : Site) → Rearranges file site → Rearranges (bare_site file) site
rearranges_bare file site r = record {
  version = r.version;
  sitename = r.sitename;
  endpoint = r.endpoint;
  default_policy = r.default_policy;
  repack_policy = r.repack_policy;
  limits = r.limits;
  vos = r.vos;
  classes = r.classes;
  pools = r.pools;
  routes = r.routes;
  policies = r.policies;
  rules = r.rules;
  libraries = r.libraries;
  tapes = r.tapes;
  drives = r.drives;
  directories = r.directories;
  failures = r.failures;
}

-- the room of a file's lists does not count
pub numbered_from_bare : (file site : Site) → IsNumberedFrom file site → IsNumberedFrom (bare_site file) site
numbered_from_bare file site n = record { same = rearranges_bare file site n.same; in_order = n.in_order; bare = n.bare }

pub counts-bare : (site : Site) → valid.AreCounts (bare_site site) → valid.AreCounts site
counts-bare site n = record {
  vos = n.vos;
  classes = n.classes;
  pools = n.pools;
  routes = n.routes;
  policies = n.policies;
  rules = n.rules;
  libraries = n.libraries;
  tapes = n.tapes;
  drives = n.drives;
  directories = n.directories;
  failures = n.failures;
}
