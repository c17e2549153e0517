-- The parts together.
use Rattle.std.proofs.Common.{◌≡◌, ℕ, List, [], ◌∷◌, Bool, ◌||◌, not, refl, sym, ◌∙◌, ap}
use Rattle.std.specs.Prelude.{Option, Some, None, is_none, is_some, option_map, map, bytes_eq, slice_get, nat_lt, ◌+◌}
use Rattle.std.specs.List.{list_all, list_any}
use Rattle.std.proofs.lemmas.Option.{slice_get-map}
use Rattle.cta_site.specs.declared.site.Site.{Site}
use Rattle.cta_site.specs.declared.site.Tape.{Tape}
use Rattle.cta_site.specs.declared.site.TapeState.{TapeState}
use Rattle.cta_site.specs.Listed.{rows}
use Rattle.cta_site.specs.Lookups.{class_of, first_state, given_state}
use Rattle.cta_site.specs.Paths.{is_path}
use Rattle.cta_model.specs.declared.answers.Answer.{Answer}
use Rattle.cta_model.specs.declared.answers.Answer.TheVariants as answer
use Rattle.cta_model.specs.declared.answers.Refusal.TheVariants as refusal
use Rattle.cta_model.specs.declared.reports.StageFileInfo.{StageFileInfo}
use Rattle.cta_model.specs.declared.states.RequestFile.{RequestFile}
use Rattle.cta_model.specs.History.{History, has_text}
use Rattle.cta_model.specs.Answers.{refuse, request_answer}
use Rattle.cta_model.specs.Looks.{repack_info_by, stage_info_by}
use Rattle.cta_model.specs.Reports.{greatest_finish, is_on_disk, least_start, stage_file_info}
use Rattle.cta_model.specs.Files.{path_of}
use Rattle.cta_model.specs.Repacks.{Repack}
use Rattle.cta_model.specs.Stages.{StageRequest, request_of}
use Rattle.part_model.specs.declared.space.TapeRow.{TapeRow}
use Rattle.cta_model.specs.Space.{evictable_size, evicted_for, free_space}
use Rattle.part_model.specs.Names.{file_in}
use Rattle.part_model.specs.Held.{Held, bytes_of, evictable_in, free_in}
use Rattle.part_model.specs.Requests.{has_path_by}
use Rattle.part_model.specs.Tapes.{AreDistinct, row_or}
use Rattle.part_laws.specs.Tapes.{row_of}
use Rattle.part_laws.specs.Held.{IsHeld}
use Rattle.part_laws.specs.SpaceLaws.{Tells}
use Rattle.part_laws.proofs.Told.{buffer_tells, held_is}
use Rattle.part_laws.proofs.Count.{live_is}
use Rattle.part_laws.proofs.StageCalls.{calls_move_requests}
use Rattle.part_laws.proofs.RepackCalls.{calls_move_repacks}
use Rattle.part_laws.proofs.TableMoves.{calls_move_names, calls_move_table}
use Rattle.part_laws.proofs.BufferLaw.{calls_keep_pins_held, calls_move_buffer}
use Rattle.part_laws.specs.SpaceParts.{first_row}
use Rattle.part_laws.specs.Told.{file_told, is_held_by, repack_told, stage_told}
use Rattle.part_laws.specs.PartLaws.{CallsMoveParts, FirstPartsStand, PartsTellFiles, PartsTellRepacks, PartsTellRequests, PartsTellTapes}

-- ---- at the start

state_row : TapeState → TapeRow
state_row s = record { used = 0; next = 1; state = s }

row_at : (o : Option Tape) → row_or (option_map first_row o) ≡ state_row (given_state o)
unfolding state_row
row_at None = refl
row_at (Some x) = refl

first_is : (site : Site) (t : ℕ) → state_row (first_state site t) ≡ row_of site [] t
unfolding state_row
first_is site t = refl

pub first_parts_stand : FirstPartsStand
unfolding AreDistinct
first_parts_stand site =
    record {
      names = λ path. refl;
      tapes = record { rows = λ t low. ap row_or (slice_get-map first_row site.tapes.items t) ∙ row_at (slice_get site.tapes.items t) ∙ first_is site t; places = λ f c. refl; distinct = tt };
      buffer = record { size = refl; files = refl; aside = refl; pins = λ t f id here now top. absurd (cc) };
      pins = λ t f id e. absurd (cc);
      requests = λ id. refl;
      repacks = λ id. refl;
    }

-- ---- whatever the ask is

pub calls_move_parts : CallsMoveParts
calls_move_parts site h e v v' legal is c =
    record {
      names = calls_move_names h e v.names v'.names is.names c.names;
      tapes = calls_move_table site h e v.tapes v'.tapes legal is.tapes c.tapes;
      buffer = calls_move_buffer site h e v.buffer v'.buffer legal is.buffer is.pins c.buffer;
      pins = calls_keep_pins_held site h e v.buffer v'.buffer legal is.buffer is.pins c.buffer;
      requests = calls_move_requests site h e v.requests v'.requests legal is.requests c.requests;
      repacks = calls_move_repacks site h e v.repacks v'.repacks legal is.repacks c.repacks;
    }

-- ---- what the parts answer

-- what a Put is answered, by the file of its path, the free and the evictable bytes, and what is evicted
put_by : Site → List ℕ → ℕ → Option ℕ → ℕ → ℕ → List ℕ → Answer
put_by site path size o free more out =
    refuse refusal.BadPath (not (is_path path))
    (refuse refusal.NoDirectory (is_none (class_of site path))
    (refuse refusal.PathTaken (is_some o)
    (refuse refusal.NoSpace (nat_lt (free + more) size)
    (answer.Stored (rows out)))))

pub parts_tell_files : PartsTellFiles
unfolding put_by
parts_tell_files site h v t is now top =
    (let tells : Tells site h v.buffer t = buffer_tells site h v.buffer t is.buffer now top in
    record {
      put = λ path size.
          ap (λ (o : Option ℕ). put_by site path size o (free_space site h) (evictable_size site h t) (evicted_for site h t size)) (sym (is.names path))
          ∙ ap (λ (n : ℕ). put_by site path size (file_in v.names path) n (evictable_size site h t) (evicted_for site h t size)) (sym tells.free)
          ∙ ap (λ (n : ℕ). put_by site path size (file_in v.names path) (free_in v.buffer) n (evicted_for site h t size)) (sym tells.evictable)
          ∙ ap (put_by site path size (file_in v.names path) (free_in v.buffer) (bytes_of (evictable_in v.buffer t))) (sym (tells.evicted size));
      delete = λ path. ap (λ (o : Option ℕ). refuse refusal.NoFile (is_none o) answer.Done) (sym (is.names path));
    })

on_disk_is : (site : Site) (h : History) (b : Held) → IsHeld site h b → (o : Option ℕ) → is_on_disk h o ≡ is_held_by b o
on_disk_is site h b is None = refl
on_disk_is site h b is (Some f) = sym (held_is site h b f is)

files_told : (site : Site) (h : History) (b : Held) → IsHeld site h b → (ss : List RequestFile) → map (stage_file_info h) ss ≡ map (file_told b) ss
files_told site h b is [] = refl
files_told site h b is (s ∷ ss) = rw (on_disk_is site h b is s.file, files_told site h b is ss) refl

stage_is : (site : Site) (h : History) (b : Held) (id : ℕ) → IsHeld site h b → (o : Option StageRequest) → stage_info_by h id o ≡ stage_told b id o
stage_is site h b id is None = refl
stage_is site h b id is (Some r) =
    ap (λ (xs : List StageFileInfo). answer.Stage (record { id = id; created_at = r.at; started_at = least_start r.files; completed_at = greatest_finish r.files; files = rows xs })) (files_told site h b is r.files)

has_path : (p : List ℕ) (ss : List RequestFile) → has_text p (map (λ (s : RequestFile). s.path) ss) ≡ list_any (λ (s : RequestFile). bytes_eq p s.path) ss
has_path p [] = refl
has_path p (s ∷ ss) = ap (λ (b : Bool). bytes_eq p s.path || b) (has_path p ss)

pub all_same : (p q : List ℕ → Bool) (xs : List (List ℕ)) → ((x : List ℕ) → p x ≡ q x) → list_all p xs ≡ list_all q xs
all_same p q [] same = refl
all_same p q (x ∷ xs) same = rw (same x, all_same p q xs same) refl

-- what a request says of paths
said : Option StageRequest → List (List ℕ) → Answer
said o paths = refuse refusal.NoRequest (is_none o) (refuse refusal.ForeignPath (not (list_all (λ p. has_path_by p o) paths)) answer.Done)

paths_are : (o : Option StageRequest) (paths : List (List ℕ)) → request_answer o paths ≡ said o paths
unfolding said
paths_are None paths = refl
paths_are (Some r) paths = ap (λ (b : Bool). refuse refusal.ForeignPath (not b) answer.Done) (all_same _ _ paths (λ p. has_path p r.files))

pub parts_tell_requests : PartsTellRequests
unfolding said
parts_tell_requests site h v t id is =
    record {
      look = stage_is site h v.buffer id is.buffer (request_of site h id) ∙ ap (stage_told v.buffer id) (sym (is.requests id));
      paths = λ paths. paths_are (request_of site h id) paths ∙ ap (λ (o : Option StageRequest). said o paths) (sym (is.requests id));
      drop = ap (λ (o : Option StageRequest). refuse refusal.NoRequest (is_none o) answer.Done) (sym (is.requests id));
    }

repack_is : (site : Site) (h : History) (id : ℕ) (o : Option Repack) → repack_info_by site h id o ≡ repack_told site (path_of h) id o
repack_is site h id None = refl
repack_is site h id (Some r) = refl

pub parts_tell_repacks : PartsTellRepacks
parts_tell_repacks site h v t id is = repack_is site h id _ ∙ ap (repack_told site (path_of h) id) (sym (is.repacks id))

pub parts_tell_tapes : PartsTellTapes
parts_tell_tapes site h v t legal is low = rw (is.tapes.rows t low, live_is site h v.tapes t legal is.tapes) refl
