-- What `clap` reads of the command `cta` and of its subcommands.
use Rattle.std.specs.Prelude.{true, codes}
use Rattle.clap.specs.Words.{App, Rule, Text, new_app, new_rule, with_rule, with_subcommand}

-- a place that has to have its one word
abbrev pub place_rule : Text → Rule
place_rule name = record (new_rule name) { required = true }

-- `replay SITE`
abbrev pub replay_app : App
replay_app = with_rule (new_app (codes "replay")) (place_rule (codes "SITE"))

-- a subcommand of this name with the places of a server: SITE ADDR MEDIA WORKERS
abbrev pub server_app : Text → App
server_app name = with_rule (with_rule (with_rule (with_rule (new_app name)
    (place_rule (codes "SITE"))) (place_rule (codes "ADDR"))) (place_rule (codes "MEDIA")))
    (place_rule (codes "WORKERS"))

-- `serve SITE ADDR MEDIA WORKERS`
abbrev pub serve_app : App
serve_app = server_app (codes "serve")

-- `mill SEED FILES WORKERS`
abbrev pub mill_app : App
mill_app = with_rule (with_rule (with_rule (new_app (codes "mill"))
    (place_rule (codes "SEED"))) (place_rule (codes "FILES"))) (place_rule (codes "WORKERS"))

-- `durable SITE ADDR MEDIA WORKERS JOURNAL`
abbrev pub durable_app : App
durable_app = with_rule (server_app (codes "durable")) (place_rule (codes "JOURNAL"))

-- `cta` alone: it needs a subcommand, its words do not begin with its name, and `clap` adds no help and no version
abbrev pub top_app : App
top_app = record (new_app (codes "cta")) {
  top = record (new_app (codes "cta")).top {
    no_binary_name = true;
    disable_help_flag = true;
    disable_help_subcommand = true;
    disable_version_flag = true;
    subcommand_required = true;
  };
}

-- `cta` with the three subcommands that keep their history in memory alone
abbrev pub memory_app : App
memory_app = with_subcommand (with_subcommand (with_subcommand top_app replay_app.top)
    serve_app.top) mill_app.top

-- `cta` with its four subcommands
abbrev pub cta_app : App
cta_app = with_subcommand memory_app durable_app.top
