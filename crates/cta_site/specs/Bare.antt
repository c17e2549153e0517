-- A site without the room of its lists, so that two sites are equal where they say the same.
use Rattle.cta_site.specs.declared.site.Site.{Site}
use Rattle.cta_values.specs.Listed.{rows}

-- the site with no room to spare in its lists
abbrev pub bare_site : Site → Site
bare_site site = record site {
  vos = rows site.vos.items;
  classes = rows site.classes.items;
  pools = rows site.pools.items;
  routes = rows site.routes.items;
  policies = rows site.policies.items;
  rules = rows site.rules.items;
  libraries = rows site.libraries.items;
  tapes = rows site.tapes.items;
  drives = rows site.drives.items;
  directories = rows site.directories.items;
  failures = rows site.failures.items;
}
