-- The account of links: nothing at the start, one more link, and two workers together.
use Rattle.std.proofs.Common.{◌≡◌, ℕ, ◌+◌, Bool, true, false, List, [], ◌∷◌, ◌++◌, refl, sym, ap, subst, ◌∙◌, arith, map}
use Rattle.std.specs.Prelude.{Option, Result, Ok, Err, cond, count_by, filter, flat_map}
use Rattle.std.specs.List.{AllByRecursion}
use Rattle.std.proofs.lemmas.List.{append-nil, append_cancel_left, map-append}
use Rattle.std.proofs.lemmas.List.Concat.{flat_map-append}
use Rattle.std.proofs.lemmas.List.Elements.{filter-append}
use Rattle.outside.specs.declared.link.LinkEnd.{LinkEnd}
use Rattle.conn.specs.Cut.{Event, Continues, Requests, Refuses}
use Rattle.wire_http.specs.declared.request.Request.{Request}
use Rattle.turn_hall.specs.declared.view.Made.{Made}
use Rattle.turn_hall.specs.declared.view.View.{View}
use Rattle.turn_hall.specs.Calls as calls
use Rattle.link_pool.specs.declared.views.Passed.{Passed}
use Rattle.link_pool.specs.Entries.{links_of}
use Rattle.link_pool.specs.Entries as entries
use Rattle.link_loop.specs.declared.front.Routed.{Routed}
use Rattle.link_loop.specs.declared.front.Routed.TheVariants as routed
use Rattle.link_loop.specs.declared.front.Said.{Said}
use Rattle.link_loop.specs.declared.sending.Unserved.{Unserved}
use Rattle.link_loop.specs.declared.sending.Unserved.TheVariants as unserved
use Rattle.link_loop.specs.Exchanges.{calls_of, events_of}
use Rattle.link_loop.specs.Served.{AskInOrder, LinkView, Served, IsFirmEnd, WholeLinksAreAsked, asked_by, asked_in}
use Rattle.link_crew.specs.Accounts.{Accounted, AsksAll, CallersAsk, asks_in, asks_of, is_served, link_in}
use Rattle.link_crew.proofs.Counts.{count-append, count-left, count-map, sum-merged, sum-merged_links, weight}

module _ {X : Type 0} (P : X → Type 0) where
  pub all-append : (xs ys : List X) → AllByRecursion P xs → AllByRecursion P ys → AllByRecursion P (xs ++ ys)
  all-append [] ys a b = b
  all-append (x ∷ xs) ys a b = (a.0, all-append xs ys a.1 b)

-- ---- what a link asks is what callers ask

module _ {K : Type 0} (is_callers : K → Bool) (needs : Request → Routed K) where
  left_by : (ask : CallersAsk is_callers needs) (r : Routed K) (q : Request) → needs q ≡ r → filter is_callers (asked_in r) ≡ asked_in r
  left_by ask (routed.Call k) q e = ap (λ b. cond b (k ∷ []) []) (ask q k e)
  left_by ask (routed.Reply reply) q e = refl

  left_of : CallersAsk is_callers needs → (e : Event) → filter is_callers (asked_by needs e) ≡ asked_by needs e
  left_of ask Continues = refl
  left_of ask (Requests q) = left_by ask (needs q) q refl
  left_of ask (Refuses r) = refl

  pub all_left : CallersAsk is_callers needs → (es : List Event) → filter is_callers (flat_map (asked_by needs) es) ≡ flat_map (asked_by needs) es
  all_left ask [] = refl
  all_left ask (e ∷ es) = filter-append is_callers (asked_by needs e) (flat_map (asked_by needs) es) ∙ ap (λ l. l ++ filter is_callers (flat_map (asked_by needs) es)) (left_of ask e) ∙ ap (λ l. asked_by needs e ++ l) (all_left ask es)

links-merged : {L : Type 0} (p : L → Bool) (xs ys : List (Passed L)) → count_by p (links_of (entries.merged xs ys)) ≡ count_by p (links_of xs) + count_by p (links_of ys)
links-merged {L} p xs ys =
    let g = λ (e : Passed L). e.link in
    let a = count-map g p (entries.merged xs ys) in
    let b = count-map g p xs in
    let c = count-map g p ys in
    let d = sum-merged_links (λ e. cond (p (g e)) 1 0) xs ys in
    omega (arith, a, b, c, d)

module _ {L C B K : Type 0} (question : C → K) (is_callers : K → Bool) (left : L → Option (List ℕ)) (firm : L → Bool) (limit : ℕ) (needs : Request → Routed K) where
  asks-append : (ms ns : List (Made C B)) → asks_of question is_callers (ms ++ ns) ≡ asks_of question is_callers ms ++ asks_of question is_callers ns
  asks-append ms ns = ap (filter is_callers) (map-append (λ (m : Made C B). question m.call) ms ns) ∙ filter-append is_callers (map (λ (m : Made C B). question m.call) ms) (map (λ (m : Made C B). question m.call) ns)

  -- no call was made and no link taken
  pub nothing_asked : Accounted {B = B} question is_callers left firm limit needs [] [] 0
  nothing_asked = record { asked = []; taken = λ p. refl; calls = λ p. refl; whole = λ z. tt }

  pub none_asked : (mine : List (Made C B)) (got : List (Passed L)) → mine ≡ [] → got ≡ [] → Accounted question is_callers left firm limit needs mine (links_of got) 0
  none_asked mine got m g =
      subst (λ (xs : List (Made C B)). Accounted question is_callers left firm limit needs xs (links_of got) 0) (sym m)
      (subst (λ (ys : List (Passed L)). Accounted {B = B} question is_callers left firm limit needs [] (links_of ys) 0) (sym g) nothing_asked)

  -- one more link
  pub one_more : (mine ns : List (Made C B)) (links : List L) (n n' : ℕ) (l : L) (ks : List K) → Accounted question is_callers left firm limit needs mine links n
      → asks_of question is_callers ns ≡ ks → (n' ≡ 0 → n ≡ 0) → (n' ≡ 0 → AsksAll left firm limit needs (l, ks)) → Accounted question is_callers left firm limit needs (mine ++ ns) (links ++ l ∷ []) n'
  one_more mine ns links n n' l ks a asks later whole = record {
    asked = a.asked ++ (l, ks) ∷ [];
    taken = λ p.
        let u = ap (count_by p) (map-append link_in a.asked ((l, ks) ∷ [])) ∙ count-append p (map link_in a.asked) (l ∷ []) in
        let v = count-append p links (l ∷ []) in
        let w = a.taken p in
        omega (arith, u, v, w);
    calls = λ p.
        let u = ap (count_by p) (flat_map-append asks_in a.asked ((l, ks) ∷ [])) ∙ count-append p (flat_map asks_in a.asked) (ks ++ []) in
        let x = ap (count_by p) (append-nil ks) in
        let v = ap (count_by p) (asks-append mine ns) ∙ count-append p (asks_of question is_callers mine) (asks_of question is_callers ns) in
        let y = ap (count_by p) asks in
        let w = a.calls p in
        omega (arith, u, x, v, y, w);
    whole = λ z. all-append (AsksAll left firm limit needs) a.asked ((l, ks) ∷ []) (a.whole (later z)) (whole z, tt);
  }

  asks-merged : (p : K → Bool) (ms ns : List (Made C B)) → count_by p (asks_of question is_callers (calls.merged ms ns)) ≡ count_by p (asks_of question is_callers ms) + count_by p (asks_of question is_callers ns)
  asks-merged p ms ns =
      let g = λ (m : Made C B). question m.call in
      let a = count-left g is_callers p (calls.merged ms ns) in
      let b = count-left g is_callers p ms in
      let c = count-left g is_callers p ns in
      let d = sum-merged (weight g is_callers p) ms ns in
      omega (arith, a, b, c, d)

  -- two workers together
  pub both : (ms ns : List (Made C B)) (xs ys : List (Passed L)) (m n k : ℕ) → Accounted question is_callers left firm limit needs ms (links_of xs) m → Accounted question is_callers left firm limit needs ns (links_of ys) n
      → (k ≡ 0 → (m ≡ 0) × (n ≡ 0)) → Accounted question is_callers left firm limit needs (calls.merged ms ns) (links_of (entries.merged xs ys)) k
  both ms ns xs ys m n k a b later = record {
    asked = a.asked ++ b.asked;
    taken = λ p.
        let u = ap (count_by p) (map-append link_in a.asked b.asked) ∙ count-append p (map link_in a.asked) (map link_in b.asked) in
        let v = links-merged p xs ys in
        let s = a.taken p in
        let t = b.taken p in
        omega (arith, u, v, s, t);
    calls = λ p.
        let u = ap (count_by p) (flat_map-append asks_in a.asked b.asked) ∙ count-append p (flat_map asks_in a.asked) (flat_map asks_in b.asked) in
        let v = asks-merged p ms ns in
        let s = a.calls p in
        let t = b.calls p in
        omega (arith, u, v, s, t);
    whole = λ z. let l = later z in all-append (AsksAll left firm limit needs) a.asked b.asked (a.whole l.0) (b.whole l.1);
  }

-- ---- a link that was served

module _ {W E L C B K S : Type 0} (question : C → K) (is_callers : K → Bool) (left : L → Option (List ℕ)) (firm : L → Bool) (limit : ℕ) (needs : Request → Routed K) (says : B → Bool → Said S) (legal : List E → Type 0) (plays : List E → C → B → List E → Type 0) where
  whole_by : (result : Result LinkEnd (Unserved S)) (v w : View W E C B) (a b : LinkView) (l : L) (s : Served question needs says legal plays result limit v w a b) → WholeLinksAreAsked W question needs says legal plays
      → a.left ≡ left l → (firm l ≡ true → IsFirmEnd result) → is_served result ≡ true → AsksAll left firm limit needs (l, map (λ (m : Made C B). question m.call) (calls_of s.told))
  whole_by (Ok end) v w a b l s law at can served bytes told few holds =
      let all = law end limit bytes v w a b s (at ∙ told) few in
      (all.cut, all.is_cut, ap (map (λ (m : Made C B). question m.call)) (append_cancel_left v.mine (calls_of s.told) all.more (sym s.calls ∙ all.added)) ∙ all.asked)
  whole_by (Err unserved.Read) v w a b l s law at can served bytes told few holds = absurd (can holds)
  whole_by (Err unserved.Write) v w a b l s law at can served bytes told few holds = absurd (can holds)
  whole_by (Err unserved.NoMemory) v w a b l s law at can served bytes told few holds = absurd (let no : false ≡ true = served in cc)
  whole_by (Err (unserved.Stopped why)) v w a b l s law at can served bytes told few holds = absurd (let no : false ≡ true = served in cc)

  pub link_accounted : (result : Result LinkEnd (Unserved S)) (v w : View W E C B) (a b : LinkView) (l : L) (links : List L) (n n' : ℕ) → Served question needs says legal plays result limit v w a b
      → AskInOrder B question needs → WholeLinksAreAsked W question needs says legal plays → CallersAsk is_callers needs → a.left ≡ left l → (firm l ≡ true → IsFirmEnd result)
      → (n' ≡ 0 → (n ≡ 0) × (is_served result ≡ true)) → Accounted question is_callers left firm limit needs v.mine links n → Accounted question is_callers left firm limit needs w.mine (links ++ l ∷ []) n'
  link_accounted result v w a b l links n n' s order law ask at can later acc =
      let g = λ (m : Made C B). question m.call in
      let asked = order s.told s.suits in
      let only : asks_of question is_callers (calls_of s.told) ≡ map g (calls_of s.told) = ap (filter is_callers) asked ∙ all_left is_callers needs ask (events_of s.told) ∙ sym asked in
      subst (λ ms. Accounted question is_callers left firm limit needs ms (links ++ l ∷ []) n') (sym s.calls)
      (one_more question is_callers left firm limit needs v.mine (calls_of s.told) links n n' l (map g (calls_of s.told)) acc only (λ z. (later z).0) (λ z. whole_by result v w a b l s law at can (later z).1))
