-- What accepted asks were answered.
use Rattle.std.specs.Prelude.{ℕ, ◌≡◌, ◌+◌, ◌∷◌, List, [], length, Some, is_some, is_none, true, false, map, nat_lt}
use Rattle.cta_site.specs.declared.site.Site.{Site}
use Rattle.cta_site.specs.Listed.{rows}
use Rattle.cta_model.specs.declared.entries.Entry.{Entry}
use Rattle.cta_model.specs.declared.asks.Ask.{Ask}
use Rattle.cta_model.specs.declared.asks.Ask.TheVariants as ask
use Rattle.cta_model.specs.declared.asks.Item.{Item}
use Rattle.cta_model.specs.declared.answers.Answer.{Answer}
use Rattle.cta_model.specs.declared.answers.Answer.TheVariants as answer
use Rattle.cta_model.specs.declared.states.Mount.{Mount}
use Rattle.cta_model.specs.declared.states.Candidate.{Candidate}
use Rattle.cta_model.specs.History.{History, is_empty}
use Rattle.cta_model.specs.Files.{live_file}
use Rattle.cta_model.specs.Mounts.{mount_of, is_mounted}
use Rattle.cta_model.specs.Tapes.{tape_state, is_broken, may_be_repacked}
use Rattle.cta_model.specs.Places.{live_items_on}
use Rattle.cta_model.specs.RepackItems.{repack_items}
use Rattle.cta_model.specs.Repacks.{is_repack_live}
use Rattle.cta_model.specs.Stages.{request_of}
use Rattle.cta_model.specs.Space.{free_space, evictable_size, evicted_for}
use Rattle.cta_model.specs.Choice.{mount_choice}
use Rattle.cta_model.specs.Batches.{batch_of}
use Rattle.cta_model.specs.Answers.{batch_answer, fate_of, retried_jobs}
use Rattle.cta_model.specs.Legal.{IsLegal}

-- what an accepted ask is answered at the moment t, and what it found
abbrev pub AnswerIs : Site → History → ℕ → Ask → Answer → Type 0
AnswerIs site h t (ask.Put who path sum) a = (a ≡ answer.Stored (rows (evicted_for site h t sum.len))) × (is_some (live_file h path) ≡ false) × (nat_lt (free_space site h + evictable_size site h t) sum.len ≡ false)
AnswerIs site h t (ask.Delete who path) a = (a ≡ answer.Done) × (is_none (live_file h path) ≡ false)
AnswerIs site h t (ask.Stage who files) a = a ≡ answer.Staged (length h + 1)
AnswerIs site h t (ask.Cancel who id paths) a = (a ≡ answer.Done) × (is_some (request_of site h id) ≡ true)
AnswerIs site h t (ask.DropStage who id) a = (a ≡ answer.Done) × (is_none (request_of site h id) ≡ false)
AnswerIs site h t (ask.Release who id paths) a = (a ≡ answer.Done) × (is_some (request_of site h id) ≡ true)
AnswerIs site h t (ask.Next d) a = (c : Candidate) × (mount_choice site h t d ≡ Some c) × (a ≡ answer.Mounted (length h + 1) c.direction c.tape)
AnswerIs site h t (ask.Claim m) a = (x : Mount) × (mount_of h m ≡ Some x) × (a ≡ batch_answer site h t x.direction (batch_of site h t x))
AnswerIs site h t (ask.Flushed m items) a = a ≡ answer.Told (rows (map (λ (i : Item). fate_of site h i.job) items.items))
AnswerIs site h t (ask.Recalled m job) a = a ≡ answer.Arrived (fate_of site h job)
AnswerIs site h t (ask.Failed m fault charged returned) a = a ≡ answer.Done
AnswerIs site h t (ask.End m fault) a = a ≡ answer.Done
AnswerIs site h t (ask.DriveUp who d) a = a ≡ answer.Done
AnswerIs site h t (ask.DriveDown who d) a = a ≡ answer.Done
AnswerIs site h t (ask.TapeState who v s) a = (a ≡ answer.Done) × (is_mounted h v ≡ false) × (is_broken (tape_state site h v) ≡ false)
AnswerIs site h t (ask.Reclaim who v) a = (a ≡ answer.Done) × (is_mounted h v ≡ false) × (is_empty (live_items_on h v) ≡ true)
AnswerIs site h t (ask.Repack who v) a = (a ≡ answer.Repacking (length h + 1) (rows (repack_items h v))) × (may_be_repacked (tape_state site h v) ≡ true) × (is_repack_live site h v ≡ false)
AnswerIs site h t (ask.Retry who paths) a = a ≡ answer.Retried (rows (retried_jobs site h [] paths.items))

-- each entry of a legal history has the answer to its ask
abbrev pub AsksAreAnswered : Type 0
AsksAreAnswered = (site : Site) (h : History) (e : Entry) → IsLegal site (e ∷ h) → AnswerIs site h e.at e.ask e.answer
