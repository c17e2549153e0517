-- What was written is a front of the piece, and a part that was taken makes it longer.
use Rattle.std.proofs.Common.{◌≡◌, ℕ, List, [], ◌-◌, ◌++◌, length, take, drop, sym, ap, subst, ◌∙◌, arith, length-take, append-nil, take-append-drop}
use Rattle.std.proofs.Math.Seq.{take-add, take-take}
use Rattle.std.specs.declared.option.Option.{Option}
use Rattle.std.specs.Io.KnownBytes.{Appends, Keeps}
use Rattle.std.proofs.KnownBytes.{Appends-trans, Appends-kept}
use Rattle.outside.specs.Streams.{AppendsFront}
use Rattle.outside.proofs.writing.write_whole.Goals as goal

-- a write that left the writer as it was leaves the front that was written before it
front_kept : (a b c : Option (List ℕ)) (n : ℕ) (piece : List ℕ) → Appends a b (take n piece) → Keeps b c → AppendsFront a c piece
front_kept a b c n piece before kept = (take n piece, Appends-kept a b c _ before kept, (drop n piece, sym (take-append-drop n piece)))

-- and so does one that took nothing
front_stays : (a b c : Option (List ℕ)) (n k : ℕ) (piece part : List ℕ) → Appends a b (take n piece) → Appends b c (take k part) → k ≡ 0 → AppendsFront a c piece
front_stays a b c n k piece part before none zero =
    let nothing : Appends b c [] = subst (λ i. Appends b c (take i part)) zero none in
    (take n piece, subst (Appends a c) (append-nil (take n piece)) (Appends-trans a b c _ _ before nothing), (drop n piece, sym (take-append-drop n piece)))

pub loop-written-preserved : goal.loop-written-preserved
loop-written-preserved g c =
    let done = c.loop-written.written in
    let n = c.in-Ok.count in
    let xs = c.args.piece.now in
    let before = c.loop-written.invariant in
    let fits = c.in-Ok.ensures.bound in
    let most = length-take (length xs - done) (drop done xs) in
    let joined = ap (λ l. take done xs ++ l) (take-take n (length xs - done) (drop done xs) (omega arith)) ∙ sym (take-add done n xs) in
    (omega arith, subst (Appends _ _) joined (Appends-trans _ _ _ _ _ before.1 c.in-Ok.ensures.bytes))

pub returns-in_default : goal.returns-in_default
returns-in_default g c = front_kept _ _ _ c.loop-written.written c.args.piece.now c.loop-written.invariant.1 c.in_default.ensures.bytes

pub returns-then-count-eq0 : goal.returns-then-count-eq0
returns-then-count-eq0 g c = front_stays _ _ _ c.loop-written.written c.in-Ok.count c.args.piece.now _ c.loop-written.invariant.1 c.in-Ok.ensures.bytes c.if-count-eq0.true
