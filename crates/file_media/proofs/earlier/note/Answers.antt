use Rattle.std.proofs.Common.{◌∙◌, sym, take}
use Rattle.file_media.proofs.Noted.{noted_none, noted_other, noted_yes}
use Rattle.file_media.proofs.earlier.note.Goals as goal

pub returns-in-Some-tape_of-clause-noted : goal.returns-in-Some-tape_of-clause-noted
returns-in-Some-tape_of-clause-noted c =
    noted_yes c.args.site.now (take c.in-Some.len c.args.name.now) c.args.name.now c.in-Some.fseq c.in-Some-tape_of.tape c.index-known.result.now c.max.result c.args.last.now.items c.names_differ.ensures.tapes_named
    c.names_differ.ensures.tapes_found c.in-Some.ensures.1 c.in-Some.ensures.2 (sym c.tape_of.ensures ∙ c.in-Some-tape_of.is) c.requires c.index-known.ensures c.max.ensures

pub returns-in_default-tape_of-clause-noted : goal.returns-in_default-tape_of-clause-noted
returns-in_default-tape_of-clause-noted c =
    noted_none c.args.site.now (take c.in-Some.len c.args.name.now) c.args.name.now c.in-Some.fseq c.args.last.now.items c.names_differ.ensures.tapes_named c.in-Some.ensures.1 c.in-Some.ensures.2
    (sym c.tape_of.ensures ∙ c.in_default-tape_of.is)

pub returns-in_default-clause-noted : goal.returns-in_default-clause-noted
returns-in_default-clause-noted c = noted_other c.args.site.now c.args.name.now c.args.last.now.items c.in_default.ensures
