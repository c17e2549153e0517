use Rattle.std.proofs.Common.{◌≡◌, ℕ, List, codes, sym, ◌∙◌, arith}
use Rattle.cta_site.specs.declared.site.Site.{Site}
use Rattle.replay.specs.declared.line.ScriptLine.{ScriptLine}
use Rattle.replay.specs.declared.line.ScriptLine.TheVariants.{Http, Step, End}
use Rattle.cta_site.specs.Bytes.{Without}
use Rattle.replay.specs.Line.{text, http_words, step_words, then_word}
use Rattle.replay.proofs.Parts.{same_words, no_word, differ}
use Rattle.replay.proofs.line.line_of.Goals as goal

http_plain : Without 32 (codes "http")
http_plain = (λ e. omega arith, (λ e. omega arith, (λ e. omega arith, (λ e. omega arith, tt))))

step_plain : Without 32 (codes "step")
step_plain = (λ e. omega arith, (λ e. omega arith, (λ e. omega arith, (λ e. omega arith, tt))))

end_plain : Without 32 (codes "end")
end_plain = (λ e. omega arith, (λ e. omega arith, (λ e. omega arith, tt)))

-- a line whose first word is neither `http` nor `step` is none of a script's
no_line : (site : Site) (word words line : List ℕ) → Without 32 word → line ≡ then_word word words → (codes "http" ≡ word → ⊥) → (codes "step" ≡ word → ⊥) → (l : ScriptLine) → text site l ≡ line → ⊥
no_line site word words line plain split no_http no_step (Http l) e = no_http (same_words 32 (codes "http") word (http_words l.link l.moment l.len) words http_plain plain (e ∙ split)).0
no_line site word words line plain split no_http no_step (Step drive moment) e = no_step (same_words 32 (codes "step") word (step_words site drive moment) words step_plain plain (e ∙ split)).0
no_line site word words line plain split no_http no_step End e = no_word 32 word words (codes "end") (sym (e ∙ split)) end_plain

pub returns : goal.returns
returns c = λ l valid e.
    no_line c.args.site.now _ _ _ c.in-Some.ensures.0 c.in-Some.ensures.1
    (differ _ _ _ c.if-eq-2.ensures c.as_slice-2.ensures)
    (differ _ _ _ c.if-eq-3.ensures c.as_slice-3.ensures) l e
