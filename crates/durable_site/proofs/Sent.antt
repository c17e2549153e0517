-- What the threads of a server are sent and share: an archive with its journal, and its front.
use Rattle.durable_server.specs.contracts.front.LoggedFront as front
use Rattle.durable_server.specs.contracts.front.LoggedFront.TheInside as front_inside
use Rattle.cta_site.proofs.valid_site.ValidSite.TheSendSync as site
use denote.RattleType.{RattleType}
use denote.Struct.Declared.{shape}
use denote.Ref.{NamedLft}
use denote.Param.Send.{AllSend, AllSync, IsSend, IsSync, recorded_send, recorded_sync, sendable, shr_sync, struct_send, struct_sync, view_send, view_sync}
use Rattle.std.proofs.Crossing.{crosses}
use Rattle.blob.specs.declared.told.Told as told
use Rattle.cta_journal.specs.declared.disk.Disk as disk
use Rattle.durable_archive.specs.contracts.logged.Logged.{the_row}
use Rattle.durable_archive.specs.contracts.logged.Logged.TheInside as inside
use Rattle.archive.proofs.archive.Archive.TheSendSync as archive
use Rattle.cta_journal.proofs.journal.Journal.TheSendSync as journal
use Rattle.durable_archive.proofs.back.CloseCause.TheSendSync as cause

-- an archive with its journal may be sent to a thread where its media and its disk may
pub logged_send : (M K : RattleType) (t : told.Ghosts M.Denot) (d : disk.Ghosts K.Denot) → IsSend M → IsSend K → IsSend (the_row M K t d)
logged_send M K t d m k =
    let O = inside.the_type M K t d in
    let fields : AllSend (shape O).fields = (search (sendable, crosses), (archive.the_send M t m, (journal.the_field_send K k, (search (sendable, crosses, cause.the_send), (search (sendable, crosses), tt))))) in
    let held = recorded_send (inside.the_field M K t d).row _ _ O.to_one (struct_send (shape O) fields) in
    view_send (inside.the_row M K t d) _ _ _ _ held

-- its front may be shared by threads where its alarm may
pub front_sync : (κ : NamedLft) (M K A : RattleType) (t : told.Ghosts M.Denot) (d : disk.Ghosts K.Denot) → IsSync A → IsSync (front.the_row κ M K A t d)
front_sync κ M K A t d a =
    let O = front_inside.the_type κ M K A t d in
    let fields : AllSync (shape O).fields = (shr_sync _ _ _ site.the_sync, (shr_sync _ _ _ a, (search (sendable, crosses), tt))) in
    let held = recorded_sync (front_inside.the_field κ M K A t d).row _ _ O.to_one (struct_sync (shape O) fields) in
    view_sync (front_inside.the_row κ M K A t d) _ _ _ _ held
