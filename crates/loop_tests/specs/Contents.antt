-- What is answered to contents that are put, and what requests ask.
use Rattle.std.specs.Prelude.{◌≡◌, ℕ, ◌==◌, Bool, true, false, List, [], ◌∷◌, ◌++◌, length, codes, None, if◌then◌else◌}
use Rattle.std.specs.Arc.{arc_value}
use Rattle.wire_http.specs.declared.request.Request.{Request}
use Rattle.wire_http.specs.declared.reply.Kind.TheVariants.{Bytes}
use Rattle.wire_http.specs.Reply.{error_reply}
use Rattle.link_loop.specs.declared.front.Routed.{Routed}
use Rattle.link_loop.specs.declared.front.Routed.TheVariants as routed
use Rattle.link_loop.specs.declared.front.Said.{Said}
use Rattle.link_loop.specs.declared.front.Said.TheVariants as told
use Rattle.loop_tests.specs.declared.contents.Put.{Put}
use Rattle.loop_tests.specs.declared.contents.Back.{Back}
use Rattle.loop_tests.specs.declared.contents.Back.TheVariants.{Counted, Full, NoMemory}

-- the length of the content that is put
abbrev pub length_in : Put → ℕ
length_in c = length (arc_value c.blob)

-- what a call is answered on these lengths, and the lengths behind it
abbrev pub Plays : List ℕ → Put → Back → List ℕ → Type 0
Plays h call (Counted blob) h' = (h' ≡ h ++ length_in call ∷ []) × (blob ≡ call.blob)
Plays h call (Full n) h' = (h' ≡ h) × (n ≡ length h)
Plays h call NoMemory h' = h' ≡ h

-- whether a call adds a length
abbrev pub adds : Put → Back → Bool
adds c (Counted blob) = true
adds c _ = false

-- a request with a body puts it
abbrev pub needed : Request → Routed ℕ
needed q = if length q.body == 0 then routed.Reply (error_reply 404 (codes "nothing") q.close) else routed.Call (length q.body)

-- it gets its body back, until there are as many as there may be
abbrev pub said : Back → Bool → Said ℕ
said (Counted blob) close = told.Reply (record { code = 200; kind = Bytes blob; location = None; allow = None; close = close })
said (Full n) close = told.Stop n
said NoMemory close = told.Reply (error_reply 500 (codes "no memory") close)
