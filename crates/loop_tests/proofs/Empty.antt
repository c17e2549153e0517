-- A request with no body needs no call.
use Rattle.std.proofs.Common.{◌≡◌, length, refl}
use Rattle.std.specs.Prelude.{codes}
use Rattle.wire_http.specs.declared.request.Request.{Request}
use Rattle.wire_http.specs.declared.reply.Reply.{Reply}
use Rattle.wire_http.specs.Reply.{error_reply}
use Rattle.link_loop.specs.declared.front.Routed.TheVariants as routed
use Rattle.loop_tests.specs.Contents.{needed}

pub nothing_needed : (q : Request) (reply : Reply) → length q.body ≡ 0 → reply ≡ error_reply 404 (codes "nothing") q.close → routed.Reply reply ≡ needed q
nothing_needed q reply empty is = rw (empty, is) refl
