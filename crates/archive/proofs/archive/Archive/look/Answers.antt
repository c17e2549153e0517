use Rattle.std.proofs.lemmas.Result.{IfOk-weaker}
use Rattle.archive.proofs.archive.Archive.look.Goals as goal

pub returns-in-Fetch-clause-answer : goal.returns-in-Fetch-clause-answer
returns-in-Fetch-clause-answer g c = rw (c.in-Fetch.is, ← c.self.view_is) (IfOk-weaker c.fetch.result _ _ (λ r f. f c.args.at) c.fetch.ensures.answer)

pub returns-in-ArchiveInfo-clause-answer : goal.returns-in-ArchiveInfo-clause-answer
returns-in-ArchiveInfo-clause-answer g c = rw (c.in-ArchiveInfo.is, ← c.self.view_is) (IfOk-weaker c.archive_info.result _ _ (λ r f. f c.args.at) c.archive_info.ensures.answer)

pub returns-in-StageInfo-clause-answer : goal.returns-in-StageInfo-clause-answer
returns-in-StageInfo-clause-answer g c = rw (c.in-StageInfo.is, ← c.self.view_is) (IfOk-weaker c.stage_info.result _ _ (λ r f. f c.args.at) c.stage_info.ensures.answer)

pub returns-in-TapeInfo-clause-answer : goal.returns-in-TapeInfo-clause-answer
returns-in-TapeInfo-clause-answer g c = rw (c.in-TapeInfo.is, ← c.self.view_is) (IfOk-weaker c.tape_info.result _ _ (λ r f. f c.args.at) c.tape_info.ensures.answer)

pub returns-in-Queues-clause-answer : goal.returns-in-Queues-clause-answer
returns-in-Queues-clause-answer g c = rw (c.in-Queues.is, ← c.self.view_is) (IfOk-weaker c.queues.result _ _ (λ r f. f c.args.at) c.queues.ensures.answer)

pub returns-in-RepackInfo-clause-answer : goal.returns-in-RepackInfo-clause-answer
returns-in-RepackInfo-clause-answer g c = rw (c.in-RepackInfo.is, ← c.self.view_is) (IfOk-weaker c.repack_info.result _ _ (λ r f. f c.args.at) c.repack_info.ensures.answer)

pub returns-in-FailedList-clause-answer : goal.returns-in-FailedList-clause-answer
returns-in-FailedList-clause-answer g c = rw (c.in-FailedList.is, ← c.self.view_is) (IfOk-weaker c.failed_list.result _ _ (λ r f. f c.args.at) c.failed_list.ensures.answer)
