use Rattle.archive_front.proofs.backs.reply_to_back.Goals as goal

pub returns-in-Ask-Err : goal.returns-in-Ask-Err
returns-in-Ask-Err g c = rw c.in-Ask-Err.is (rw c.in-Ask-Err.field-0-is c.no_memory_reply.ensures)
