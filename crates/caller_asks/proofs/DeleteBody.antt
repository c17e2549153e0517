-- What the body of a Delete leaves, told over plain variables.
use Rattle.std.proofs.Common.{◌≡◌, ◌∙◌, ℕ, List, ◌∷◌, refl, ap, subst, length}
use Rattle.std.specs.Prelude.{Ok, Some, None, ◌==◌, ◌&&◌, if◌then◌else◌, codes}
use Rattle.cta_site.specs.declared.site.Site.{Site}
use Rattle.cta_model.specs.declared.asks.Ask.TheVariants as ask
use Rattle.cta_model.specs.declared.asks.Job.{Job}
use Rattle.cta_model.specs.declared.asks.Who.{Who}
use Rattle.cta_model.specs.declared.answers.Answer.TheVariants as answer
use Rattle.cta_model.specs.declared.entries.Actor.TheVariants as actor
use Rattle.cta_model.specs.Files.{copies_of_file, live_file}
use Rattle.cta_model.specs.History.{History, has_number, moment_of}
use Rattle.cta_model.specs.Recalls.{live_recall}
use Rattle.cta_model.specs.RepackItems.{waiting_for}
use Rattle.disk_buffer.specs.Stays.{content_in}
use Rattle.disk_buffer.specs.Stored.{Stored}
use Rattle.part_model.specs.declared.space.FileEnd.TheVariants as ends
use Rattle.part_model.specs.Failed.{removed_file}
use Rattle.part_model.specs.Held.{HeldAgree, remove}
use Rattle.part_model.specs.JobBook.{TellSame, end_jobs}
use Rattle.part_model.specs.JobRows.{JobRows, book_in}
use Rattle.part_model.specs.Names.{Names, NamesAgree, remove_name}
use Rattle.part_model.specs.Queues.{Queues, drop_jobs, lines_in}
use Rattle.part_model.specs.Repacks.{repack_in}
use Rattle.part_model.specs.Requests.{Requests, RequestsAgree, finish_all}
use Rattle.part_model.specs.Room.{Roomed}
use Rattle.part_model.specs.Tapes.{HasDropped, Table}
use Rattle.part_laws.specs.QueueBooks.{jobs_of_file}
use Rattle.repack_book.specs.NamedRepacks as kept_book
use Rattle.repack_book.specs.NamedRepacks.{NamedRepacks, repacks_of}
use Rattle.archive_parts.specs.Carrying.{CanCarryOut, IsCarriedOut}
use Rattle.archive_parts.specs.Laws.{KeptPartsMove}
use Rattle.archive_parts.specs.declared.parts.ArchiveParts.{ArchiveParts}
use Rattle.archive_parts.proofs.Behind.{carried_behind}
use Rattle.caller_asks.specs.Gone.{AreGone, is_copy_to, writes_copy}
use Rattle.part_moves.specs.Waiting.{with_file}
use Rattle.caller_asks.proofs.DeleteCalls.{delete_called, delete_holds}
use Rattle.caller_asks.proofs.Told.{delete_history}

pub delete_carried : {E : Type 0} (site : Site) (h k now : History) (t m : ℕ) (who caller : Who) (path bytes : List ℕ) (g n : ℕ) (failing reading : List ℕ) (leaving ending : List Job) (p : ArchiveParts) (names : Names) (tapes : Roomed Table) (buffer : Stored) (requests : Requests)
    (between repacks : NamedRepacks) (book : Roomed JobRows) (pools recalls : Roomed Queues) (failed : Roomed (List Job))
    → KeptPartsMove → CanCarryOut site h p t (ask.Delete who path) → live_file h path ≡ Some g → n ≡ copies_of_file site h g
    → m ≡ moment_of h t → bytes ≡ path → failing ≡ waiting_for (live_recall site h g) → reading ≡ waiting_for (live_recall site h g) → leaving ≡ jobs_of_file site h g → ending ≡ jobs_of_file site h g
    → NamesAgree names (remove_name bytes p.names)
    → HasDropped g p.tapes.value tapes.value → length tapes.value.rows ≡ length p.tapes.value.rows
    → HeldAgree buffer.held.value (remove p.buffer.held.value g) → ((f : ℕ) → content_in buffer.contents f ≡ (if f == g then None else content_in p.buffer.contents f))
    → RequestsAgree requests (finish_all m (λ f. ends.Failed (codes "deleted")) (with_file g failing) p.requests)
    → AreGone (λ k f c. is_copy_to g n f c && writes_copy g c (repack_in (repacks_of p.repacks) k)) (repacks_of p.repacks) (repacks_of between) → kept_book.NamesAgree between p.repacks
    → AreGone (λ k f c. has_number k reading && is_copy_to g n f c) (repacks_of between) (repacks_of repacks) → kept_book.NamesAgree repacks between
    → TellSame (book_in book.value) (end_jobs ending (book_in p.book.value))
    → ((q : ℕ) → lines_in pools.value q ≡ drop_jobs leaving (lines_in p.pools.value) q) → length pools.value ≡ length p.pools.value
    → ((q : ℕ) → lines_in recalls.value q ≡ drop_jobs leaving (lines_in p.recalls.value) q) → length recalls.value ≡ length p.recalls.value
    → failed.value ≡ removed_file (Some g) p.failed.value
    → now ≡ record { at = m; actor = actor.Caller caller; ask = ask.Delete who path; answer = answer.Done } ∷ k → caller ≡ who → k ≡ h
    → IsCarriedOut {E = E} site h t (ask.Delete who path) (Ok answer.Done) now (record p { names = names; tapes = tapes; buffer = buffer; requests = requests; repacks = repacks; book = book; pools = pools; recalls = recalls; failed = failed })
delete_carried site h k now t m who caller path bytes g n failing reading leaving ending p names tapes buffer requests between repacks book pools recalls failed move can live count moment same_path fails reads leaves over named dropped rows removed content ended written first_names read last_names stopped out_pools pool_keys out_tapes tape_keys lost pushed same_who same =
    let p' : ArchiveParts = record p { names = names; tapes = tapes; buffer = buffer; requests = requests; repacks = repacks; book = book; pools = pools; recalls = recalls; failed = failed } in
    let called = delete_called site h t who path g n (waiting_for (live_recall site h g)) (jobs_of_file site h g) p names tapes buffer requests between repacks book pools recalls failed can.legal can.kept live count refl refl
    (subst (λ (b : List ℕ). NamesAgree names (remove_name b p.names)) same_path named) dropped rows removed content
    (subst (λ (at : ℕ). RequestsAgree requests (finish_all at (λ f. ends.Failed (codes "deleted")) (with_file g (waiting_for (live_recall site h g))) p.requests)) moment
    (subst (λ (ids : List ℕ). RequestsAgree requests (finish_all m (λ f. ends.Failed (codes "deleted")) (with_file g ids) p.requests)) fails ended))
    written first_names
    (subst (λ (ids : List ℕ). AreGone (λ k f c. has_number k ids && is_copy_to g n f c) (repacks_of between) (repacks_of repacks)) reads read) last_names
    (subst (λ (js : List Job). TellSame (book_in book.value) (end_jobs js (book_in p.book.value))) over stopped)
    (λ q. out_pools q ∙ ap (λ (js : List Job). drop_jobs js (lines_in p.pools.value) q) leaves) pool_keys
    (λ q. out_tapes q ∙ ap (λ (js : List Job). drop_jobs js (lines_in p.recalls.value) q) leaves) tape_keys lost in
    let holds = delete_holds site h t who path can.at can.legal can.accepted in
    carried_behind site h now t (ask.Delete who path) answer.Done p p' move can holds.answered called (delete_history h k now t m who caller path pushed moment same_who same)
