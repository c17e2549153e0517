-- What the body of a Put leaves, told over plain variables.
use Rattle.std.proofs.Common.{◌≡◌, ◌∙◌, ℕ, List, ◌∷◌, sym, ap, subst, length}
use Rattle.std.specs.Prelude.{Ok, Some, None, ◌==◌, if◌then◌else◌}
use Rattle.blob.specs.declared.sum.Sum256.{Sum256}
use Rattle.cta_site.specs.declared.site.Site.{Site}
use Rattle.cta_site.specs.Listed.{rows}
use Rattle.cta_model.specs.declared.answers.Answer.{Answer}
use Rattle.cta_model.specs.declared.answers.Answer.TheVariants as answer
use Rattle.cta_model.specs.declared.asks.Ask.TheVariants as ask
use Rattle.cta_model.specs.declared.asks.Direction.TheVariants as direction
use Rattle.cta_model.specs.declared.asks.Who.{Who}
use Rattle.cta_model.specs.Bare.{bare_answer}
use Rattle.cta_model.specs.History.{History, has_number, moment_of}
use Rattle.disk_buffer.specs.Stays.{content_in}
use Rattle.disk_buffer.specs.Stored.{Stored}
use Rattle.part_model.specs.Held.{HeldAgree, enter, evict, evicted_for}
use Rattle.part_model.specs.JobBook.{TellSame, bear_jobs}
use Rattle.part_model.specs.JobRows.{JobRows, book_in}
use Rattle.part_model.specs.Names.{Names, NamesAgree, add_name}
use Rattle.part_model.specs.Queues.{Queues, lines_in}
use Rattle.part_model.specs.Room.{Roomed}
use Rattle.part_laws.specs.Queued.{put_jobs}
use Rattle.part_laws.specs.Lines.{add_jobs}
use Rattle.archive_parts.specs.Carrying.{CanCarryOut, IsCarriedOut}
use Rattle.archive_parts.specs.Laws.{KeptPartsMove}
use Rattle.archive_parts.specs.declared.parts.ArchiveParts.{ArchiveParts}
use Rattle.archive_parts.proofs.Behind.{carried_with}
use Rattle.caller_asks.proofs.PutBody.{PutBody}
use Rattle.caller_asks.proofs.PutCalls.{put_called}
use Rattle.caller_asks.proofs.Puts.{put_entry}

pub put_carried : {E : Type 0} (site s : Site) (h now : History) (t : ℕ) (who : Who) (path name : List ℕ) (sum told : Sum256) (gone : List ℕ) (a : Answer) (p : ArchiveParts) (names : Names) (b1 b2 : Stored) (book : Roomed JobRows) (pools : Roomed Queues) (m n copies : ℕ)
    → KeptPartsMove → CanCarryOut site h p t (ask.Put who path sum) → PutBody site h t who path sum p.buffer.held.value m n copies told → gone ≡ evicted_for p.buffer.held.value (moment_of h t) sum.len → name ≡ path → s ≡ site
    → bare_answer a ≡ answer.Stored (rows gone) → now ≡ put_entry h t who path sum gone ∷ h
    → NamesAgree names (add_name name n p.names)
    → HeldAgree b1.held.value (evict p.buffer.held.value m told.len)
    → ((f : ℕ) → content_in b1.contents f ≡ (if has_number f (evicted_for p.buffer.held.value m told.len) then None else content_in p.buffer.contents f))
    → HeldAgree b2.held.value (enter b1.held.value n sum.len)
    → ((f : ℕ) → content_in b2.contents f ≡ (if f == n then Some sum else content_in b1.contents f))
    → TellSame (book_in book.value) (bear_jobs (put_jobs n copies) n (book_in p.book.value))
    → ((k : ℕ) → lines_in pools.value k ≡ add_jobs s now direction.Archive (put_jobs n copies) (lines_in p.pools.value) k)
    → length pools.value ≡ length p.pools.value
    → IsCarriedOut {E = E} site h t (ask.Put who path sum) (Ok a) now (record p { names = names; buffer = b2; book = book; pools = pools })
put_carried site s h now t who path name sum told gone a p names b1 b2 book pools m n copies move can body is_gone same_name same_site stored is named evicted out entered content born lines keys =
    let p' : ArchiveParts = record p { names = names; buffer = b2; book = book; pools = pools } in
    let all : evicted_for p.buffer.held.value m told.len ≡ gone = (λ i. evicted_for p.buffer.held.value (body.moment i) (Sum256.len (body.same i))) ∙ sym is_gone in
    let held : HeldAgree b1.held.value (evict p.buffer.held.value (moment_of h t) sum.len) =
    subst (λ (x : Sum256). HeldAgree b1.held.value (evict p.buffer.held.value (moment_of h t) x.len)) body.same (subst (λ (at : ℕ). HeldAgree b1.held.value (evict p.buffer.held.value at told.len)) body.moment evicted) in
    let called = put_called site h t who path sum gone p names b1 b2 book pools n copies can.kept body.number body.count
    (subst (λ (b : List ℕ). NamesAgree names (add_name b n p.names)) same_name named) held
    (λ f. out f ∙ ap (λ (fs : List ℕ). if has_number f fs then None else content_in p.buffer.contents f) all) entered content born
    (λ k. lines k ∙ ap (λ (x : Site). add_jobs x now direction.Archive (put_jobs n copies) (lines_in p.pools.value) k) same_site ∙ ap (λ (x : History). add_jobs site x direction.Archive (put_jobs n copies) (lines_in p.pools.value) k) is) keys in
    carried_with site h now t (ask.Put who path sum) a (answer.Stored (rows gone)) p p' move can stored (ap (λ (fs : List ℕ). answer.Stored (rows fs)) is_gone ∙ body.holds.answered) called is
