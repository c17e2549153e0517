use Rattle.std.proofs.lemmas.Result.{on_ok_weaker}
use Rattle.tape_json.proofs.Objects.{place-reads}
use Rattle.tape_json.proofs.places.PlaceInfoReported.write.Goals as goal

pub returns-clause-reads : goal.returns-clause-reads
returns-clause-reads c =
    let it = c.args.self.now in
    on_ok_weaker c.end_object.result (λ e. place-reads it.error it.locality it.path) c.end_object.ensures.ok
