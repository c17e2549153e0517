-- What a reading of a record makes of its line.
use Rattle.std.proofs.Common.{◌≡◌, ◌≢◌, ℕ, ◌≤◌, inl, inr, List, [], ◌∷◌, ◌++◌, length, codes, Option, None, Some, refl, sym, ap, ◌∙◌, subst, arith, append-nil}
use Rattle.std.specs.Prelude.{slice_get, false, true}
use Rattle.std.proofs.lemmas.Option.{none-some}
use Rattle.blob.specs.Records.{MediumView}
use Rattle.std.specs.Io.KnownBytes.{Appends}
use Rattle.outside.specs.Causes.{Rose}
use Rattle.outside.specs.Streams.{AppendsFront}
use Rattle.cta_model.specs.declared.asks.Item.{Item}
use Rattle.media.specs.Counted.{no_counts}
use Rattle.media.specs.Drives.{DriveView}
use Rattle.drive_session.specs.declared.reports.Call.TheVariants as call
use Rattle.drive_session.specs.declared.reports.Done.{Done}
use Rattle.drive_session.specs.declared.reports.Done.TheVariants as done
use Rattle.drive_session.specs.Table.{Phase, Free, Held, HeldMount, Leaving, Reading, Ready, Writing, reading_row, row_of, writing_row}
use Rattle.archive_opening.specs.declared.status.Status.{Status}
use Rattle.archive_opening.specs.declared.status.Status.TheVariants.{Ok, Script, WriteFault, NoMemory}
use Rattle.replay.specs.Steps.{DriveState, IsRowFit, IsStepOf, RunState, kept_in, line_by_row, row_at, row_in}
use Rattle.links.specs.Run.{Turn}
use Rattle.links.specs.declared.links.Links.{Links}
use Rattle.replay.specs.Seen.{SinkView, ScriptView, World, world, begun}
use Rattle.cta_site.specs.Bytes.{Without}
use Rattle.replay.specs.Line.{text, IsDriveStep, IsLine}
use Rattle.links.specs.Standing.{StandFor}
use Rattle.replay.specs.Script.{OfDrive, ScriptCut, spelling, cut_bytes, cut_records, IsScriptCut, Ended, InLine, BadLine, LongLine}
use Rattle.replay.specs.Run.{OnDrive, Stepped, all_happenings}
use Rattle.replay.specs.Output.{run_behind, written_for}
use Rattle.replay.specs.Intake.{Took, HasStopped}
use Rattle.drive_session.specs.Steps.{HasGiven}
use Rattle.replay.specs.Promises.{HasGivenNext, HaveMediaBehind, IsSoundStep, item_in}
use Rattle.replay.specs.Outcome.{EndsScript, Finishes}
use Rattle.replay.specs.RecordTurns.{AnswersRecord, Turns, TurnsAfter, stop_status}
use Rattle.replay.specs.StepRecords.{EndsInStep, HasStepped}
use Rattle.replay.specs.declared.line.ScriptLine.{ScriptLine}
use Rattle.replay.specs.declared.line.ScriptLine.TheVariants.{Step}
use Rattle.replay.specs.declared.intake.Stop.{Stop}
use Rattle.replay.proofs.Taking.{Took-trans}
use Rattle.replay.proofs.Writing.{first_none, wrote_none}
use Rattle.replay.proofs.Ending.{EndsScript-stopped}
use Rattle.replay.proofs.Behind.{EndsScript-behind, IsBefore}

-- ---- an answer that no row of a table has

abbrev unheard : Option Done
unheard = Some (done.NoMemory call.Load)

abbrev unseen : DriveView
unseen = record { loaded = false; honest = true; calls = 0; faults = no_counts; plan = None }

no_writing : (x : HeldMount) (items : List Item) (at : ℕ) (o : Option Item) → writing_row x items at o unheard ≡ None
no_writing x items at None = refl
no_writing x items at (Some i) = refl

no_reading : (x : HeldMount) (items : List Item) (at : ℕ) (o : Option Item) → reading_row x items at o unheard ≡ None
no_reading x items at None = refl
no_reading x items at (Some i) = refl

none_of : (d : ℕ) (p : Phase) → row_of d p unheard ≡ None
none_of d Free = refl
none_of d (Held x) = refl
none_of d (Ready x) = refl
none_of d (Writing x items at) = no_writing x items at (slice_get items at)
none_of d (Reading x items at) = no_reading x items at (slice_get items at)
none_of d (Leaving x) = refl

none_in : (d : ℕ) (o : Option DriveState) → row_in d unheard o ≡ None
none_in d None = refl
none_in d (Some x) = none_of d x.phase

nothing_given : (d : DriveState) (o : Option MediumView) (i : Option Item) → item_in d.phase ≡ i → HasGivenNext d o unheard
nothing_given d None i is = tt
nothing_given d (Some m) None is = subst (λ j. HasGiven m d.seen j unheard) (sym is) tt
nothing_given d (Some m) (Some i) is = subst (λ j. HasGiven m d.seen j unheard) (sym is) tt

no_row : (k : RunState) (d : ℕ) → IsRowFit (kept_in k) (row_at k d unheard)
no_row k d = subst (IsRowFit (kept_in k)) (sym (none_in d (slice_get k.drives d))) tt

-- ---- a line that ends the reading

module _ (k : RunState) (before : List Turn) (s s' : ScriptView) (out : SinkView) where
  -- nothing was fed
  ends_there : (c : ScriptCut) (status : Status) → Took s s' (cut_bytes k.site c) → IsScriptCut k.site c → cut_records c ≡ [] → EndsScript status k (world s out) (world s' out) c []
      → Finishes k before (world s out) (world s' out) status
  ends_there c status took is_cut nothing ends = record { cut = c; is_cut = is_cut; took = took; turns = []; brought = sym nothing; run = tt; sound = tt; ends = ends }

  pub line_stopped : (part : List ℕ) (why : Stop) → Without 10 part → length part ≤ 256 → Took s s' part → HasStopped why s s'
      → Finishes k before (world s out) (world s' out) (stop_status why s'.taken)
  line_stopped part why plain fits took stop =
      let c : ScriptCut = record { whole = []; tail = InLine part } in
      ends_there c (stop_status why s'.taken) took (tt, (plain, fits)) refl (EndsScript-stopped why k (world s out) (world s' out) c [] tt stop (wrote_none k out))

  pub line_long : (part : List ℕ) → Without 10 part → length part ≡ 257 → Took s s' part
      → Finishes k before (world s out) (world s' out) (Script s.taken)
  line_long part plain long took =
      ends_there (record { whole = []; tail = LongLine part }) (Script s.taken) took (tt, (plain, long)) refl (inl (0, refl, omega arith), wrote_none k out)

  pub line_bad : (line : List ℕ) → Without 10 line → length line ≤ 256 → ((x : ScriptLine) → IsLine k.site x → text k.site x ≢ line) → Took s s' (line ++ 10 ∷ [])
      → Finishes k before (world s out) (world s' out) (Script s.taken)
  line_bad line plain fits none took =
      ends_there (record { whole = []; tail = BadLine line }) (Script s.taken) took (tt, (plain, fits, none)) refl (inl (0, refl, omega arith), wrote_none k out)

  pub line_end : (line : List ℕ) → codes "end" ≡ line → Took s s' (line ++ 10 ∷ [])
      → Finishes k before (world s out) (world s' out) Ok
  line_end line e took =
      ends_there (record { whole = []; tail = Ended }) Ok (rw (sym e) at took) (tt, tt) refl (refl, wrote_none k out)

-- ---- a step

module _ (k : RunState) (before : List Turn) (s s' : ScriptView) (line : List ℕ) (drive moment : ℕ) (step : IsDriveStep k.site drive moment) (said : text k.site (Step drive moment) ≡ line)
    (took : Took s s' (line ++ 10 ∷ [])) where
  abbrev whole_line : List ℕ
  whole_line = spelling k.site (OfDrive drive moment)

  took_line : Took s s' whole_line
  took_line = subst (λ x. Took s s' (x ++ 10 ∷ [])) (sym said) took

  took_cut : Took s s' ((whole_line ++ []) ++ [])
  took_cut = subst (Took s s') (sym (append-nil (whole_line ++ []) ∙ append-nil whole_line)) took_line

  -- it was carried out, and its line was written
  pub step_done : (links : Links) (now : RunState) (done : Option Done) (seen : DriveView) (left : Option MediumView) (out out' : SinkView) → StandFor links k.site.limits.file before → IsStepOf k drive moment done seen left → IsSoundStep k drive moment done seen left
      → now ≡ run_behind k (Stepped drive moment done seen left) → Appends out.written out'.written (written_for k (Stepped drive moment done seen left)) → AnswersRecord links k now before (world s out) (world s' out')
  step_done links now done seen left out out' stands is sound keeps wrote = record {
    turn = OnDrive drive moment done seen left;
    is_record = step;
    took = took_line;
    stands = subst (StandFor links k.site.limits.file) (sym (append-nil before)) stands;
    sound = (sound, tt);
    wrote = record { contents = (is, tt); bytes = subst (Appends out.written out'.written) (sym (append-nil (written_for k (Stepped drive moment done seen left)))) wrote };
    keeps = keeps;
  }

  -- the script ends in it
  ends_in_step : (done : Option Done) (seen : DriveView) (left : Option MediumView) (out out' : SinkView) (status : Status) → IsSoundStep k drive moment done seen left
      → EndsScript status k (world s out) (world s' out') (record { whole = OfDrive drive moment ∷ []; tail = InLine [] }) (Stepped drive moment done seen left ∷ []) → Finishes k before (world s out) (world s' out') status
  ends_in_step done seen left out out' status sound ends = record {
    cut = record { whole = OfDrive drive moment ∷ []; tail = InLine [] };
    is_cut = ((step, tt), (tt, omega arith));
    took = took_cut;
    turns = OnDrive drive moment done seen left ∷ [];
    brought = refl;
    run = tt;
    sound = (sound, tt);
    ends = ends;
  }

  -- it was carried out, and the sink failed before its line was written
  pub step_broken : (done : Option Done) (seen : DriveView) (left : Option MediumView) (out out' : SinkView) → IsStepOf k drive moment done seen left → IsSoundStep k drive moment done seen left → AppendsFront out.written out'.written (written_for k (Stepped drive moment done seen left)) → Rose out.faults out'.faults
      → Finishes k before (world s out) (world s' out') WriteFault
  step_broken done seen left out out' is sound wrote rose =
      ends_in_step done seen left out out' WriteFault sound (
        tt,
        rose,
        record {
          first = Stepped drive moment done seen left ∷ [];
          later = [];
          parts = refl;
          contents = (is, tt);
          bytes = subst (AppendsFront out.written out'.written) (sym (append-nil (written_for k (Stepped drive moment done seen left)))) wrote;
        },
      )

  -- it was carried out, and memory was wanted for its line
  pub step_unwritten : (done : Option Done) (seen : DriveView) (left : Option MediumView) (out out' : SinkView) → IsStepOf k drive moment done seen left → IsSoundStep k drive moment done seen left → Appends out.written out'.written [] → Finishes k before (world s out) (world s' out') NoMemory
  step_unwritten done seen left out out' is sound wrote =
      ends_in_step done seen left out out' NoMemory sound
      (tt, record { first = []; later = Stepped drive moment done seen left ∷ []; parts = refl; wrote = record { contents = tt; bytes = wrote } })

  -- a step that was not made is sound
  wanted_sound : IsSoundStep k drive moment unheard unseen None
  wanted_sound = record {
    fit = no_row k drive;
    said = λ l is. absurd (none-some l (sym (ap (line_by_row (kept_in k) moment) (none_in drive (slice_get k.drives drive))) ∙ is));
    media = subst (HaveMediaBehind k drive moment unseen None) (sym (none_in drive (slice_get k.drives drive))) tt;
    given = λ d at. nothing_given d d.medium (item_in d.phase) refl;
    tells = λ d at tells. tt;
    honest = λ d at tells honest. (refl, tt);
  }

  -- memory was wanted for it
  pub step_wanting : (out : SinkView) → Finishes k before (world s out) (world s' out) NoMemory
  step_wanting out =
      ends_in_step unheard unseen None out out NoMemory wanted_sound (tt, first_none k out (Stepped drive moment unheard unseen None ∷ []))

  -- the sink as it was has nothing more
  same_sink : (a b : SinkView) → b ≡ a → Appends a.written b.written []
  same_sink a b same = subst (λ (v : SinkView). Appends a.written v.written []) (sym same) (wrote_none k a).bytes

  ended_in_step : (status : Status) (out out' : SinkView) → EndsInStep status k drive moment out out' → Finishes k before (world s out) (world s' out') status
  ended_in_step status out out' (inl (is, same)) =
      subst (λ (v : SinkView). Finishes k before (world s out) (world s' v) status) (sym same)
      (subst (Finishes k before (world s out) (world s' out)) (sym is) (step_wanting out))
  ended_in_step status out out' (inr (inl (is, x))) =
      subst (Finishes k before (world s out) (world s' out')) (sym is) (step_broken x.done x.seen x.left out out' x.is x.sound x.not_put.0 x.not_put.1)
  ended_in_step status out out' (inr (inr (is, x))) =
      subst (Finishes k before (world s out) (world s' out')) (sym is) (step_unwritten x.done x.seen x.left out out' x.is x.sound (same_sink out out' x.not_put))

  -- what a step's record makes of its line
  pub line_step : (r : Option Status) (links : Links) (now : RunState) (out out' : SinkView) → StandFor links k.site.limits.file before → HasStepped r k now drive moment out out'
      → Turns r links k now before (world s out) (world s' out')
  line_step None links now out out' stands x = step_done links now x.done x.seen x.left out out' stands x.is x.sound x.keeps x.wrote
  line_step (Some status) links now out out' stands x = ended_in_step status out out' x

-- ---- a line that begins a record

pub line_http : (r : Option Status) (links' : Links) (k now : RunState) (before : List Turn) (s m : ScriptView) (out : SinkView) (b : World) (front line : List ℕ) → front ≡ line ++ 10 ∷ [] → Took s m (line ++ 10 ∷ [])
    → s.faults ≤ m.faults → TurnsAfter r links' k now before front (world m out) b → Turns r links' k now before (world s out) b
line_http None links' k now before s m out b front line e took later h =
    record {
      turn = h.turn;
      is_record = h.is_record;
      took = subst (Took s b.script) (sym (h.spelled ∙ ap (λ x. x ++ h.rest) e)) (Took-trans took h.took);
      stands = h.stands;
      sound = h.sound;
      wrote = h.wrote;
      keeps = h.keeps;
    }
line_http (Some status) links' k now before s m out b front line e took later h =
    let length_front : length front ≡ length (line ++ 10 ∷ []) = ap length e in
    let nothing : IsBefore k k [] [] (world s out) (begun (world m out) front) = record {
      keeps = refl;
      same = refl;
      taken = omega (arith, took.count);
      read_later = later;
      write_later = omega arith;
      wrote = wrote_none k out;
    } in
    record {
      cut = h.cut;
      is_cut = h.is_cut;
      took = subst (Took s b.script) (sym (h.spelled ∙ ap (λ x. x ++ h.rest) e)) (Took-trans took h.took);
      turns = h.turns;
      brought = h.brought;
      run = h.run;
      sound = h.sound;
      ends = EndsScript-behind k k [] [] (all_happenings h.turns) (world s out) (begun (world m out) front) b h.cut nothing status h.ends;
    }
