use Rattle.std.proofs.Common.{◌∙◌}
use Rattle.crossbeam_queue.specs.Passes.{view as pool_view}
use Rattle.turn_hall.specs.Handles.{first_of, view}
use Rattle.server_crew.proofs.Doors.{all_put}
use Rattle.server_crew.proofs.serving.run_workers.Goals as goal

pub gather_crew-unserved-requires-clause-accounted : goal.gather_crew-unserved-requires-clause-accounted
gather_crew-unserved-requires-clause-accounted g c =
    c.no_links_are_asked.ensures c.args.at.now.file_limit (g.F.Front.needs (g.T.Keeps.site (first_of c.args.hall.now))) (view c.args.pass.now).mine (pool_view c.run_place-accepted.new.door).got c.requires.own.1
    (c.run_place-accepted.ensures.door.1.got ∙ c.in_ok-jobs_of.ensures.muster.door.got)

pub returns-clause-put : goal.returns-clause-put
returns-clause-put g c =
    λ links told few. all_put c.run_place-accepted.result.0 c.args.pool.now.queue.cap links (pool_view c.jobs_of.new.muster.door) (pool_view c.run_place-accepted.new.door) (pool_view c.gather_crew-unserved.new.seat) c.in_ok-jobs_of.ensures.muster.door.put c.gather_crew-unserved.ensures.seat.2 few (c.run_place-accepted.ensures.put links told)
