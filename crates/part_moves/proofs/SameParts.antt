-- Parts that a call leaves as they are.
use Rattle.std.proofs.Common.{refl}
use Rattle.part_model.specs.JobBook.{Book, TellSame}
use Rattle.part_model.specs.Held.{Held, HeldAgree}
use Rattle.part_model.specs.Tapes.{AreDistinct, Table, TablesAgree}

pub same_table : (v : Table) → AreDistinct v.places → TablesAgree v v
same_table v distinct = record { rows = λ t. refl; places = λ f c. refl; distinct = distinct }

pub same_buffer : (v : Held) → HeldAgree v v
same_buffer v = record { size = refl; files = refl; aside = refl; pins = λ t f id. refl }

pub same_book : (b : Book) → TellSame b b
same_book b = record { recall = λ f. refl; archive = λ f c. refl; claimer = λ j. refl; charges = λ j. refl; last_birth = λ f c. refl; named = λ j. refl }
