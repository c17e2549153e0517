-- What each read dropped follows on what the ones before it dropped.
use Rattle.std.proofs.Common.{◌≡◌, ℕ, List, ◌+◌, ◌++◌, length-append, refl, ◌∙◌, subst, arith, length-take}
use Rattle.std.specs.declared.option.Option.{Option}
use Rattle.std.proofs.KnownBytes.{Consumes-trans}
use Rattle.outside.specs.Closing.{Drops}
use Rattle.outside.proofs.drain.drain.Goals as goal

-- m bytes and then n are m + n
drops_both : (a b c : Option (List ℕ)) (m n : ℕ) → Drops a b m → Drops b c n → Drops a c (m + n)
drops_both a b c m n (xs, first, long) (ys, second, more) = (xs ++ ys, Consumes-trans a b c xs ys first second, length-append xs ys ∙ cc)

drops_none : (a b c : Option (List ℕ)) (m n : ℕ) → Drops a b m → Drops b c n → n ≡ 0 → Drops a c m
drops_none a b c m n first second zero = let same : m + n ≡ m = omega arith in subst (Drops a c) same (drops_both a b c m n first second)

pub returns-in_default-read_within : goal.returns-in_default-read_within
returns-in_default-read_within g c = (c.loop-dropped.dropped, c.loop-dropped.invariant.0, drops_none _ _ _ c.loop-dropped.dropped 0 c.loop-dropped.invariant.1 c.in_default-read_within.ensures.bytes refl)

pub returns-then-count-eq0 : goal.returns-then-count-eq0
returns-then-count-eq0 g c =
    let read = c.in-Some-read_within.ensures.bytes in
    (c.loop-dropped.dropped, c.loop-dropped.invariant.0, drops_none _ _ _ c.loop-dropped.dropped c.in-Some-read_within.count c.loop-dropped.invariant.1 read.0 c.if-count-eq0.true, read.1 c.if-count-eq0.true)

pub loop-dropped-preserved : goal.loop-dropped-preserved
loop-dropped-preserved g c =
    let fits = c.in-Some-read_within.ensures.bound in
    let room = length-take c.min-room.result c.loop-dropped.to in
    (omega arith, drops_both _ _ _ c.loop-dropped.dropped c.in-Some-read_within.count c.loop-dropped.invariant.1 c.in-Some-read_within.ensures.bytes.0)
