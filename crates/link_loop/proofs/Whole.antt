-- Links that were served to an end were asked all that their bytes ask.
use Rattle.std.proofs.Common.{◌≡◌, ℕ, ◌+◌, List, [], ◌++◌, length, length-append, append-nil, Bool, Option, Some, None, refl, sym, ap, ◌∙◌, subst, arith}
use Rattle.std.specs.Prelude.{flat_map}
use Rattle.std.specs.Io.KnownBytes.{Consumes, IsAtEnd}
use Rattle.outside.specs.declared.link.LinkEnd.TheVariants.{Ended, Closed, Spent}
use Rattle.conn.specs.Cut.{IsLinkCut, messages_events}
use Rattle.conn.specs.Unique.{EndsStay}
use Rattle.wire_http.specs.declared.request.Request.{Request}
use Rattle.link_loop.specs.declared.front.Routed.{Routed}
use Rattle.link_loop.specs.declared.front.Said.{Said}
use Rattle.link_loop.specs.Exchanges.{calls_of}
use Rattle.link_loop.specs.Served.{WholeLinksAreAsked, asked_by}
use Rattle.link_loop.proofs.Asking.{asks_in_order}

taken_of : (all left : Option (List ℕ)) (xs bytes : List ℕ) → all ≡ Some xs → Consumes all left bytes → (rest : List ℕ) × (left ≡ Some rest) × (xs ≡ bytes ++ rest)
taken_of None left xs bytes is h = absurd (let no : None ≡ Some xs = is in cc)
taken_of (Some ys) None xs bytes is h = absurd h
taken_of (Some ys) (Some rest) xs bytes is h = (rest, refl, (let same : ys ≡ xs = cc in sym same ∙ h))

module _ {W E C B K S : Type 0} (question : C → K) (needs : Request → Routed K) (says : B → Bool → Said S) (legal : List E → Type 0) (plays : List E → C → B → List E → Type 0) where
  pub whole_links : EndsStay → WholeLinksAreAsked W question needs says legal plays
  whole_links stay Ended limit xs v w a b s is few =
      let t = taken_of a.left b.left xs s.bytes is s.took in
      let none : t.0 ≡ [] = subst IsAtEnd t.1 s.ends.1 in
      let all : xs ≡ s.bytes = t.2 ∙ ap (λ l. s.bytes ++ l) none ∙ append-nil s.bytes in
      let u = s.ends.0 in
      record {
        cut = u.cut;
        is_cut = subst (λ l. IsLinkCut limit l u.cut) (sym all) u.link;
        more = calls_of s.told;
        added = s.calls;
        asked = asks_in_order {B = B} question needs s.told s.suits ∙ ap (flat_map (asked_by needs)) u.events;
      }
  whole_links stay Closed limit xs v w a b s is few =
      let t = taken_of a.left b.left xs s.bytes is s.took in
      let u = s.ends.0 in
      let e = stay limit s.bytes t.0 u.cut u.link u.final in
      record {
        cut = record { whole = u.cut.whole; tail = e.0 };
        is_cut = subst (λ l. IsLinkCut limit l (record { whole = u.cut.whole; tail = e.0 })) (sym t.2) e.1.1;
        more = calls_of s.told;
        added = s.calls;
        asked = asks_in_order {B = B} question needs s.told s.suits ∙ ap (flat_map (asked_by needs)) (u.events ∙ ap (λ l. messages_events u.cut.whole ++ l) e.1.0);
      }
  whole_links stay Spent limit xs v w a b s is few =
      let t = taken_of a.left b.left xs s.bytes is s.took in
      let n : length xs ≡ length s.bytes + length t.0 = ap length t.2 ∙ length-append s.bytes t.0 in
      let full = s.ends.1 in
      absurd (omega arith)
