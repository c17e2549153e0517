use Rattle.std.proofs.Common.{◌≡◌, ◌∙◌, ◌+◌, ◌∷◌, ℕ, false, length, ap, subst, sym, refl}
use Rattle.cta_site.specs.Lookups.{pool_of_tape, vo_of_pool}
use Rattle.cta_site.specs.WellFormed.{IsWellFormed}
use Rattle.cta_model.specs.declared.answers.Answer.{Answer}
use Rattle.cta_model.specs.declared.answers.Answer.TheVariants as answer
use Rattle.cta_model.specs.declared.asks.Ask.TheVariants as ask
use Rattle.cta_model.specs.Answers.{answer_of}
use Rattle.cta_model.specs.Bare.{bare_answer}
use Rattle.cta_model.specs.History.{History, moment_of, next_number}
use Rattle.cta_model.specs.Legal.{new_entry}
use Rattle.part_model.specs.Mounts.{has_mount}
use Rattle.archive_parts.specs.PartsKept.{ArePartsKept}
use Rattle.archive_parts.proofs.Behind.{can_over, carried_with}
use Rattle.drive_asks.proofs.OpenedMounts.{choice_is_known, count_is_few, next_answered, next_not_there}
use Rattle.drive_asks.proofs.opening.open_mount.Goals as goal

pub add_mount-requires-clause-new : goal.add_mount-requires-clause-new
add_mount-requires-clause-new c =
    let h : History = c.args.history.now.value in
    let kept : ArePartsKept c.args.site.now h c.make_room.new.self = c.in_ok-make_room.ensures.kept c.args.site.now h c.requires.carrying.kept in
    let number : c.next_number-mount.result ≡ length h + 1 = c.next_number-mount.ensures.number ∙ ap next_number c.in_ok-make_room.ensures.entries in
    subst (λ (n : ℕ). has_mount n c.make_room.new.self.mounts.value.rows ≡ false) (sym number) (next_not_there c.args.site.now h c.make_room.new.self.mounts.value.rows kept.stand.mounts)

pub add_mount-requires-clause-vo : goal.add_mount-requires-clause-vo
add_mount-requires-clause-vo c =
    choice_is_known c.args.site.now c.args.history.now.value (moment_of c.args.history.now.value c.args.at) c.args.drive c.args.choice c.make_room.new.self
    (c.in_ok-make_room.ensures.kept c.args.site.now c.args.history.now.value c.requires.carrying.kept) c.requires.choice

pub add_mount-requires-clause-few : goal.add_mount-requires-clause-few
add_mount-requires-clause-few c =
    count_is_few c.args.site.now c.args.history.now.value c.args.choice.direction (vo_of_pool c.args.site.now (pool_of_tape c.args.site.now c.args.choice.tape)) c.make_room.new.self c.stays_short.ensures
    (subst IsWellFormed c.site.ensures c.keeps_rules.ensures.parts) c.requires.carrying.legal (c.in_ok-make_room.ensures.kept c.args.site.now c.args.history.now.value c.requires.carrying.kept)

pub returns : goal.returns
returns c =
    let h : History = c.args.history.now.value in
    let kept : ArePartsKept c.args.site.now h c.make_room.new.self = c.in_ok-make_room.ensures.kept c.args.site.now h c.requires.carrying.kept in
    let number : c.next_number-mount.result ≡ length h + 1 = c.next_number-mount.ensures.number ∙ ap next_number c.in_ok-make_room.ensures.entries in
    let told : Answer = answer.Mounted c.next_number-mount.result c.args.choice.direction c.args.choice.tape in
    let answered : told ≡ answer_of c.args.site.now h c.args.at (ask.Next c.args.drive) =
    ap (λ (n : ℕ). answer.Mounted n c.args.choice.direction c.args.choice.tape) number ∙ next_answered c.args.site.now h c.args.at c.args.drive c.args.choice c.requires.carrying.accepted c.requires.choice in
    record {
      carried =
          carried_with c.args.site.now h c.append.new.self.value c.args.at (ask.Next c.args.drive) c.mounted-2.result told c.make_room.new.self c.add_mount.new.parts c.kept_parts_move.ensures
          (can_over c.args.site.now h h c.args.parts.now c.make_room.new.self c.args.at (ask.Next c.args.drive) c.requires.carrying kept refl) (ap bare_answer c.mounted-2.ensures)
          answered
          (c.add_mount.ensures h (moment_of h c.args.at) kept)
          (subst (λ (a : Answer). c.append.new.self.value ≡ new_entry h c.args.at (ask.Next c.args.drive) (bare_answer a) ∷ h) c.mounted.ensures
          (subst (λ (g : History). c.append.new.self.value ≡ new_entry g c.args.at (ask.Next c.args.drive) (bare_answer c.mounted.result) ∷ g) c.in_ok-make_room.ensures.entries c.append.ensures));
    }
