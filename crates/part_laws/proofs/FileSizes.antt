-- A file has room in the buffer.
use Rattle.std.proofs.Common.{◌≡◌, ℕ, ◌+◌, ◌-◌, ◌≤◌, List, [], ◌∷◌, true, false, arith, refl, ap}
use Rattle.std.specs.Prelude.{if◌then◌else◌, ◌==◌, Option, Some, None}
use Rattle.cta_site.specs.declared.site.Site.{Site}
use Rattle.cta_site.specs.Laws.{ClassesAreKnown}
use Rattle.cta_site.specs.Lookups.{class_of, copies_of, copies_of_class}
use Rattle.cta_model.specs.declared.asks.Ask.{Ask}
use Rattle.cta_model.specs.declared.asks.Ask.TheVariants as ask
use Rattle.cta_model.specs.declared.answers.Answer.{Answer}
use Rattle.cta_model.specs.History.{History, entry_of, next_number}
use Rattle.cta_model.specs.Files.{entry_sum, size_of, sum_in}
use Rattle.cta_model.specs.Space.{bytes_to_read, evictable_files, evictable_size, may_be_evicted, resident_files, size_of_files}
use Rattle.cta_model.specs.Legal.{IsLegal}
use Rattle.cta_laws.specs.Asks.{AnswerIs}
use Rattle.cta_laws.proofs.Accepted.{asks_are_answered}
use Rattle.cta_laws.proofs.BufferLaw.{buffer_has_room}
use Rattle.cta_laws.proofs.LengthLaw.{ltb_false}
use Rattle.cta_laws.proofs.Sums.{total, total_is, total_less}
use Rattle.part_laws.specs.Laws.{FilesFitBuffer}

evictable_less : (site : Site) (h : History) (t : ℕ) → evictable_size site h t ≤ size_of_files h (resident_files h)
evictable_less site h t =
    let a : evictable_size site h t ≡ total (size_of h) (evictable_files site h t) = total_is (size_of h) (evictable_files site h t) in
    let b : size_of_files h (resident_files h) ≡ total (size_of h) (resident_files h) = total_is (size_of h) (resident_files h) in
    let c : total (size_of h) (evictable_files site h t) ≤ total (size_of h) (resident_files h) = total_less (size_of h) (may_be_evicted site h t) (resident_files h) in
    omega arith

within : (buffer resident reads evictable len : ℕ) → resident + reads ≤ buffer → evictable ≤ resident → len ≤ (buffer - (resident + reads)) + evictable → len ≤ buffer
within buffer resident reads evictable len a b c = omega arith

put_fits : (site : Site) (h : History) (t : ℕ) (k : Ask) (a : Answer) → IsLegal site h → AnswerIs site h t k a → (sum_in k).len ≤ site.limits.buffer
put_fits site h t (ask.Put who path sum) a legal is =
    within site.limits.buffer (size_of_files h (resident_files h)) (bytes_to_read h) (evictable_size site h t) sum.len (buffer_has_room site h legal) (evictable_less site h t) (ltb_false _ _ is.2)
put_fits site h t _ a legal is = omega arith

pub files_fit_buffer : FilesFitBuffer
files_fit_buffer site [] legal f = omega arith
files_fit_buffer site (e ∷ h) legal f =
    elim (f == next_number h) as (λ b. (entry_sum (if b then Some e else entry_of h f)).len ≤ site.limits.buffer) [
      | true ↦ put_fits site h e.at e.ask e.answer legal.0 (asks_are_answered site h e legal)
      | false ↦ files_fit_buffer site h legal.0 f
    ]

pub few_copies : (site : Site) → ClassesAreKnown site → (path : List ℕ) → copies_of site path ≤ 4
few_copies site known path = by (class_of site path) refl
  where
    by : (o : Option ℕ) → class_of site path ≡ o → copies_of site path ≤ 4
    by None is = (let none : copies_of site path ≡ 0 = ap (copies_of_class site) is in omega arith)
    by (Some class) is = (known path class is).2
