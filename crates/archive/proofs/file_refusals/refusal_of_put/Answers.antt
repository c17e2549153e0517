use Rattle.std.proofs.Common.{◌∙◌, ◌+◌, ℕ, not, sym, ap, length}
use Rattle.std.specs.Prelude.{is_some, nat_lt}
use Rattle.cta_site.specs.declared.site.Site.{Site}
use Rattle.cta_site.specs.Lookups.{class_of}
use Rattle.cta_site.specs.Paths.{is_path}
use Rattle.cta_model.specs.Files.{live_file}
use Rattle.cta_model.specs.History.{moment_of, weight_of}
use Rattle.cta_model.specs.Space.{evictable_size, evicted_for, free_space}
use Rattle.archive.proofs.FileRefused.{put_told, twice}
use Rattle.archive.proofs.Refused.{none_is}
use Rattle.archive.proofs.file_refusals.refusal_of_put.Goals as goal

pub returns : goal.returns
returns g c who sum same =
    put_told c.args.state.now.site c.args.state.now.history c.args.at who c.args.path.now sum (not c.is_path-bad.result) (not c.is_some-known.result) c.is_some-taken.result (not c.has_space-full.result) c.would_pass-heavy.result
    (ap not (c.is_path-bad.ensures ∙ ap is_path c.as_str.ensures))
    (ap not (c.is_some-known.ensures ∙ ap is_some (c.class_of.ensures ∙ ap (λ (s : Site). class_of s c.as_bytes.result.now) c.site.ensures ∙ ap (class_of c.args.state.now.site) c.as_bytes.ensures)) ∙ none_is _)
    (c.is_some-taken.ensures ∙ ap is_some (c.live_file.ensures ∙ ap (live_file c.args.state.now.history) c.as_bytes-2.ensures))
    (ap not c.has_space-full.ensures ∙ twice _ ∙ ap (nat_lt (free_space c.args.state.now.site c.args.state.now.history + evictable_size c.args.state.now.site c.args.state.now.history (moment_of c.args.state.now.history c.args.at))) (sym same))
    (c.would_pass-heavy.ensures ∙ ap (λ (n : ℕ). nat_lt c.args.state.now.site.limits.history (weight_of c.args.state.now.history + (1 + n))) (c.from-weight.ensures ∙ c.evicted_count.ensures ∙ ap (λ (n : ℕ). length (evicted_for c.args.state.now.site c.args.state.now.history (moment_of c.args.state.now.history c.args.at) n)) (sym same)))
    ∙ sym c.first_of_put.ensures
