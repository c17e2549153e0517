-- An accepted Delete, and the calls for it.
use Rattle.std.proofs.Common.{◌≡◌, ◌∙◌, ℕ, ◌≤◌, List, [], ◌∷◌, Bool, true, false, ◌||◌, refl, sym, ap, subst, length, append-nil}
use Rattle.std.specs.Prelude.{Option, Some, None, is_some, option_to_list, ◌==◌, ◌&&◌, if◌then◌else◌, filter, codes}
use Rattle.blob.specs.declared.sum.Sum256.{Sum256}
use Rattle.cta_site.specs.declared.site.Site.{Site}
use Rattle.cta_site.specs.Lookups.{copies_of}
use Rattle.cta_model.specs.declared.asks.Ask.TheVariants as ask
use Rattle.cta_model.specs.declared.asks.Job.{Job}
use Rattle.cta_model.specs.declared.asks.Who.{Who}
use Rattle.cta_model.specs.declared.answers.Answer.TheVariants as answer
use Rattle.cta_model.specs.declared.entries.Entry.{Entry}
use Rattle.cta_model.specs.declared.reports.ItemState.TheVariants as item
use Rattle.cta_model.specs.Answers.{answer_of, is_accepted}
use Rattle.cta_model.specs.Files.{copies_of_file, live_file}
use Rattle.cta_model.specs.History.{History, has_number, moment_of}
use Rattle.cta_model.specs.Legal.{IsLegal, IsNext, greatest_moment, new_entry}
use Rattle.cta_model.specs.Recalls.{live_recall}
use Rattle.cta_model.specs.RepackItems.{waiting_for}
use Rattle.cta_model.proofs.Appends.{is_next}
use Rattle.cta_laws.specs.Asks.{AnswerIs}
use Rattle.cta_laws.proofs.Accepted.{answer_is}
use Rattle.cta_laws.proofs.Paths.{known_path}
use Rattle.disk_buffer.specs.Stays.{content_in}
use Rattle.disk_buffer.specs.Stored.{Stored}
use Rattle.part_model.specs.declared.space.FileEnd.TheVariants as ends
use Rattle.part_model.specs.Failed.{removed_file}
use Rattle.part_model.specs.Held.{HeldAgree, remove}
use Rattle.part_model.specs.JobBook.{TellSame, end_jobs}
use Rattle.part_model.specs.JobRows.{JobRows, book_in}
use Rattle.part_model.specs.Names.{Names, NamesAgree, remove_name}
use Rattle.part_model.specs.Queues.{Queues, drop_jobs, lines_in}
use Rattle.part_model.specs.Repacks.{RepacksAgree, repack_in, set_states}
use Rattle.part_model.specs.Requests.{Requests, RequestsAgree, finish_all, request_in}
use Rattle.part_model.specs.Room.{Roomed}
use Rattle.part_model.specs.Tapes.{HasDropped, Table}
use Rattle.part_laws.specs.QueueBooks.{jobs_of_file}
use Rattle.part_laws.specs.BookCalls.{copies_named, readers, waiters, writers}
use Rattle.repack_book.specs.NamedRepacks as kept_book
use Rattle.repack_book.specs.NamedRepacks.{NamedRepacks, repacks_of}
use Rattle.part_laws.specs.AllAsks.{delete_named}
use Rattle.part_laws.specs.AllParts.{TellSameJobs, jobs_in}
use Rattle.archive_parts.specs.Called.{AreKeptCalled}
use Rattle.archive_parts.specs.PartsKept.{ArePartsKept, values_of}
use Rattle.archive_parts.specs.declared.parts.ArchiveParts.{ArchiveParts}
use Rattle.caller_asks.specs.Gone.{AreGone, is_copy_to, writes_copy}
use Rattle.part_moves.specs.Waiting.{with_file}
use Rattle.caller_asks.proofs.Deletes.{delete_gone}
use Rattle.caller_asks.proofs.Requests.{known_alone}

-- ---- the entry

abbrev pub delete_entry : History → ℕ → Who → List ℕ → Entry
delete_entry h t who path = new_entry h t (ask.Delete who path) answer.Done

pub record DeleteHolds (site : Site) (h : History) (t : ℕ) (who : Who) (path : List ℕ) : Type 0 where
  pub answered : answer.Done ≡ answer_of site h t (ask.Delete who path)
  pub next : IsNext site h (delete_entry h t who path)

pub delete_holds : (site : Site) (h : History) (t : ℕ) (who : Who) (path : List ℕ) → t ≤ greatest_moment → IsLegal site h → is_accepted (answer_of site h t (ask.Delete who path)) ≡ true → DeleteHolds site h t who path
delete_holds site h t who path low legal accepted =
    let told : AnswerIs site h (moment_of h t) (ask.Delete who path) (answer_of site h t (ask.Delete who path)) = answer_is site h t (ask.Delete who path) (answer_of site h t (ask.Delete who path)) refl accepted in
    record { answered = sym told.0; next = is_next site h t (ask.Delete who path) answer.Done legal low tt (sym told.0) refl }

-- the path has as many copies as the file that it names
pub copies_are : (site : Site) (h : History) (path : List ℕ) (g n : ℕ) → live_file h path ≡ Some g → n ≡ copies_of site path → n ≡ copies_of_file site h g
copies_are site h path g n live is = is ∙ ap (copies_of site) (sym (known_path h path g live).1)

-- ---- the parts

same_file : (a b : ℕ) (o : Option ℕ) → o ≡ Some a → o ≡ Some b → a ≡ b
same_file a b o x y = (let is : Some a ≡ Some b = sym x ∙ y in cc)

requests_end : (site : Site) (h : History) (t g : ℕ) (ids : List ℕ) (v w : Requests) → ids ≡ waiting_for (live_recall site h g) → RequestsAgree w (finish_all t (λ f. ends.Failed (codes "deleted")) (with_file g ids) v)
    → RequestsAgree w (finish_all t (λ f. ends.Failed (codes "deleted")) (waiters site h v (g ∷ [])) v)
requests_end site h t g ids v w is agree id =
    agree id
    ∙ known_alone t g (λ f. ends.Failed (codes "deleted")) ids v id
    ∙ ap (λ (ns : List ℕ). request_in (finish_all t (λ f. ends.Failed (codes "deleted")) (with_file g (filter (λ i. is_some (request_in v i)) ns)) v) id) is
    ∙ ap (λ (xs : List (ℕ × ℕ)). request_in (finish_all t (λ f. ends.Failed (codes "deleted")) xs v) id) (sym (append-nil (with_file g (filter (λ i. is_some (request_in v i)) (waiting_for (live_recall site h g))))))

content_gone : (g f : ℕ) (was now : Option Sum256) (o : Option ℕ) → o ≡ Some g → now ≡ (if f == g then None else was) → now ≡ (if has_number f (option_to_list o) then None else was)
content_gone g f was now o is gone = gone ∙ ap (λ (b : Bool). if b then None else was) (sym (or_off (f == g))) ∙ ap (λ (p : Option ℕ). if has_number f (option_to_list p) then None else was) (sym is)
  where
    or_off : (b : Bool) → (b || false) ≡ b
    or_off true = refl
    or_off false = refl

pub delete_called : (site : Site) (h : History) (t : ℕ) (who : Who) (path : List ℕ) (g n : ℕ) (ids : List ℕ) (jobs : List Job) (p : ArchiveParts) (names : Names) (tapes : Roomed Table) (buffer : Stored) (requests : Requests) (between repacks : NamedRepacks) (book : Roomed JobRows)
    (pools recalls : Roomed Queues) (failed : Roomed (List Job))
    → IsLegal site h → ArePartsKept site h p → live_file h path ≡ Some g → n ≡ copies_of_file site h g → ids ≡ waiting_for (live_recall site h g) → jobs ≡ jobs_of_file site h g
    → NamesAgree names (remove_name path p.names)
    → HasDropped g p.tapes.value tapes.value → length tapes.value.rows ≡ length p.tapes.value.rows
    → HeldAgree buffer.held.value (remove p.buffer.held.value g) → ((f : ℕ) → content_in buffer.contents f ≡ (if f == g then None else content_in p.buffer.contents f))
    → RequestsAgree requests (finish_all (moment_of h t) (λ f. ends.Failed (codes "deleted")) (with_file g ids) p.requests)
    → AreGone (λ k f c. is_copy_to g n f c && writes_copy g c (repack_in (repacks_of p.repacks) k)) (repacks_of p.repacks) (repacks_of between) → kept_book.NamesAgree between p.repacks
    → AreGone (λ k f c. has_number k ids && is_copy_to g n f c) (repacks_of between) (repacks_of repacks) → kept_book.NamesAgree repacks between
    → TellSame (book_in book.value) (end_jobs jobs (book_in p.book.value))
    → ((k : ℕ) → lines_in pools.value k ≡ drop_jobs jobs (lines_in p.pools.value) k) → length pools.value ≡ length p.pools.value
    → ((k : ℕ) → lines_in recalls.value k ≡ drop_jobs jobs (lines_in p.recalls.value) k) → length recalls.value ≡ length p.recalls.value
    → failed.value ≡ removed_file (Some g) p.failed.value
    → AreKeptCalled site h (delete_entry h t who path) p (record p { names = names; tapes = tapes; buffer = buffer; requests = requests; repacks = repacks; book = book; pools = pools; recalls = recalls; failed = failed })
delete_called site h t who path g n ids jobs p names tapes buffer requests between repacks book pools recalls failed legal kept live count waits listed named dropped rows removed content ended written first_names read last_names over out_pools pool_keys out_tapes tape_keys lost = record {
  parts = record {
    space = record {
      names = named;
      tapes = λ x is. subst (λ (f : ℕ). HasDropped f p.tapes.value tapes.value) (same_file g x (live_file h path) live is) dropped;
      buffer = λ x is. subst (λ (f : ℕ). HeldAgree buffer.held.value (remove p.buffer.held.value f)) (same_file g x (live_file h path) live is) removed;
      requests = subst (λ (o : Option ℕ). RequestsAgree requests (finish_all (moment_of h t) (λ f. ends.Failed (codes "deleted")) (waiters site h p.requests (option_to_list o)) p.requests)) (sym live)
          (requests_end site h (moment_of h t) g ids p.requests requests waits ended);
      repacks = subst (λ (o : Option ℕ). RepacksAgree (repacks_of repacks) (set_states item.Gone (writers (repacks_of p.repacks) (copies_named site h o)) (set_states item.Gone (readers site h (repacks_of p.repacks) (option_to_list o)) (repacks_of p.repacks)))) (sym live)
          (delete_gone site h legal (repacks_of p.repacks) g n ids waits count (repacks_of between) (repacks_of repacks) kept.stand.space.repacks written read);
    };
    jobs = subst (λ (o : Option ℕ). TellSameJobs (jobs_in (values_of (record p { names = names; tapes = tapes; buffer = buffer; requests = requests; repacks = repacks; book = book; pools = pools; recalls = recalls; failed = failed }))) (delete_named site h o (jobs_in (values_of p)))) (sym live)
        (record {
          book = subst (λ (js : List Job). TellSame (book_in book.value) (end_jobs js (book_in p.book.value))) listed over;
          pools = λ k. out_pools k ∙ ap (λ (js : List Job). drop_jobs js (lines_in p.pools.value) k) listed;
          recalls = λ k. out_tapes k ∙ ap (λ (js : List Job). drop_jobs js (lines_in p.recalls.value) k) listed;
          counts = λ way vo. refl;
        });
    mounts = refl;
    downs = λ d. refl;
    failed = lost ∙ ap (λ (o : Option ℕ). removed_file o p.failed.value) (sym live);
  };
  contents = λ f. content_gone g f (content_in p.buffer.contents f) (content_in buffer.contents f) (live_file h path) live (content f);
  fit = record { tapes = rows ∙ kept.fit.tapes; pools = pool_keys ∙ kept.fit.pools; recalls = tape_keys ∙ kept.fit.recalls; vos = kept.fit.vos; drives = kept.fit.drives };
  named = λ id. last_names id ∙ first_names id;
}
