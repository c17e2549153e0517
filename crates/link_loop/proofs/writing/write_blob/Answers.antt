use Rattle.std.proofs.Common.{◌≡◌, ◌≤◌, ◌∙◌, arith, drop, length, refl, subst, take}
use Rattle.std.proofs.lemmas.List.{length-drop, take_all}
use Rattle.outside.specs.Streams.{StillAppends, StillAppendsFront}
use Rattle.link_loop.proofs.Lists.{rose_later, still_none}
use Rattle.link_loop.proofs.Parts.{front_is, piece_breaks, piece_written}
use Rattle.link_loop.proofs.writing.write_blob.Goals as goal

pub pieces-init : goal.pieces-init
pieces-init g c = record {
  buffer = c.requires.buffer;
  within = omega arith;
  written = still_none (g.L.Link.written c.args.link.now);
  writes = omega arith;
  left = refl;
  reads = refl;
  firm = refl;
}

pub returns-then-from-len-clause-bytes : goal.returns-then-from-len-clause-bytes
returns-then-from-len-clause-bytes g c =
    let all : length c.args.blob.now ≤ c.pieces.from = omega (arith, c.requires.len, c.if-from-len.true) in
    subst (StillAppends (g.L.Link.written c.args.link.now) (g.L.Link.written c.pieces.link)) (take_all c.pieces.from c.args.blob.now all) c.pieces.invariant.written

pub returns-then-from-len-clause-cause : goal.returns-then-from-len-clause-cause
returns-then-from-len-clause-cause g c = record { later = c.pieces.invariant.writes; failed = tt }

pub pieces-preserved : goal.pieces-preserved
pieces-preserved g c =
    let i = c.pieces.invariant in
    let e = c.in-Ok.ensures in
    let p = c.piece-count.ensures in
    let n = c.piece-count.result in
    let blob = c.args.blob.now in
    let few : n ≤ length (drop c.pieces.from blob) = omega (arith, p.count, length-drop c.pieces.from blob) in
    let front : take n c.piece-count.new.to ≡ take n (drop c.pieces.from blob) = front_is n (drop c.pieces.from blob) (drop n c.pieces.buffer) c.piece-count.new.to p.bytes few in
    record {
      buffer = omega (arith, c.piece-count.auto.to, i.buffer);
      within = omega (arith, p.count, i.within, c.requires.len);
      written = piece_written (g.L.Link.written c.args.link.now) (g.L.Link.written c.pieces.link) (g.L.Link.written c.write_all_of.new.self) c.pieces.from n blob i.written
          (subst (StillAppends (g.L.Link.written c.pieces.link) (g.L.Link.written c.write_all_of.new.self)) front e.bytes);
      writes = omega (arith, i.writes, e.cause.later);
      left = e.other.0 ∙ i.left;
      reads = e.other.1 ∙ i.reads;
      firm = e.firm.0 ∙ i.firm;
    }

pub returns-in-Err-clause-bytes : goal.returns-in-Err-clause-bytes
returns-in-Err-clause-bytes g c =
    let i = c.pieces.invariant in
    let e = c.in-Err.ensures in
    let p = c.piece-count.ensures in
    let n = c.piece-count.result in
    let blob = c.args.blob.now in
    let few : n ≤ length (drop c.pieces.from blob) = omega (arith, p.count, length-drop c.pieces.from blob) in
    let front : take n c.piece-count.new.to ≡ take n (drop c.pieces.from blob) = front_is n (drop c.pieces.from blob) (drop n c.pieces.buffer) c.piece-count.new.to p.bytes few in
    piece_breaks (g.L.Link.written c.args.link.now) (g.L.Link.written c.pieces.link) (g.L.Link.written c.write_all_of.new.self) c.pieces.from n blob i.written
    (subst (StillAppendsFront (g.L.Link.written c.pieces.link) (g.L.Link.written c.write_all_of.new.self)) front e.bytes)

pub returns-in-Err-clause-cause : goal.returns-in-Err-clause-cause
returns-in-Err-clause-cause g c =
    let i = c.pieces.invariant in
    let e = c.in-Err.ensures in
    record {
      later = omega (arith, i.writes, e.cause.later);
      failed = rose_later (g.L.Link.write_faults c.args.link.now) (g.L.Link.write_faults c.pieces.link) (g.L.Link.write_faults c.write_all_of.new.self) i.writes e.cause.failed;
    }

pub returns-in-Err-clause-other : goal.returns-in-Err-clause-other
returns-in-Err-clause-other g c = (c.in-Err.ensures.other.0 ∙ c.pieces.invariant.left, c.in-Err.ensures.other.1 ∙ c.pieces.invariant.reads)

pub returns-in-Err-clause-firm : goal.returns-in-Err-clause-firm
returns-in-Err-clause-firm g c = (c.in-Err.ensures.firm.0 ∙ c.pieces.invariant.firm, λ f. c.in-Err.ensures.firm.1 (c.pieces.invariant.firm ∙ f))
