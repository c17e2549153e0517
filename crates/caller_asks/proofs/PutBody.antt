-- What the body of a Put learns, told over plain variables.
use Rattle.std.proofs.Common.{◌≡◌, ◌∙◌, ℕ, ◌+◌, ◌≤◌, List, [], ◌∷◌, ◌++◌, true, sym, ap, subst, arith, length}
use Rattle.blob.specs.declared.sum.Sum256.{Sum256}
use Rattle.cta_site.specs.declared.site.Site.{Site}
use Rattle.cta_site.specs.Listed.{rows}
use Rattle.cta_site.specs.Lookups.{copies_of}
use Rattle.cta_site.specs.WellFormed.{IsWellFormed}
use Rattle.cta_model.specs.declared.asks.Ask.TheVariants as ask
use Rattle.cta_model.specs.declared.asks.Who.{Who}
use Rattle.cta_model.specs.declared.answers.Answer.TheVariants as answer
use Rattle.cta_model.specs.declared.entries.Actor.TheVariants as actor
use Rattle.cta_model.specs.declared.entries.Entry.{Entry}
use Rattle.cta_model.specs.Answers.{answer_of, is_accepted}
use Rattle.cta_model.specs.Files.{copies_of_file, path_in, size_of}
use Rattle.cta_model.specs.History.{History, entry_of, moment_of, next_number}
use Rattle.cta_model.specs.Legal.{IsLegal, greatest_moment}
use Rattle.part_model.specs.Held.{Held, evicted_for}
use Rattle.part_laws.specs.Held.{IsHeld}
use Rattle.kept_history.specs.Puts.{is_put, puts_file}
use Rattle.part_laws.specs.Laws.{FilesFitBuffer}
use Rattle.caller_asks.proofs.Puts.{PutHolds, new_size, put_copies, put_entry, put_holds, put_is_there}

-- what the body of a Put knows once the parts have room: the moment, the sum, the number and the copies of the file, and what is evicted
pub record PutBody (site : Site) (h : History) (t : ℕ) (who : Who) (path : List ℕ) (sum : Sum256) (v : Held) (m n copies : ℕ) (s : Sum256) : Type 0 where
  pub holds : PutHolds site h t who path sum (evicted_for v (moment_of h t) sum.len)
  pub moment : m ≡ moment_of h t
  pub same : s ≡ sum
  pub number : n ≡ length h + 1
  pub count : copies ≡ copies_of site path

pub body_of : (site : Site) (h k : History) (t : ℕ) (who : Who) (path : List ℕ) (sum : Sum256) (v : Held) (m n copies : ℕ) (s : Sum256) → t ≤ greatest_moment → IsLegal site h → IsHeld site h v → is_accepted (answer_of site h t (ask.Put who path sum)) ≡ true
    → m ≡ moment_of h t → s ≡ sum → n ≡ next_number k → k ≡ h → copies ≡ copies_of site path → PutBody site h t who path sum v m n copies s
body_of site h k t who path sum v m n copies s low legal held accepted moment same number older count =
    record { holds = put_holds site h t who path sum v low legal held accepted; moment = moment; same = same; number = number ∙ ap next_number older; count = count }

-- what is evicted, as the body tells it
pub gone_is : (site : Site) (h : History) (t : ℕ) (who : Who) (path : List ℕ) (sum : Sum256) (v : Held) (m n copies : ℕ) (s : Sum256) (before out : List ℕ) → PutBody site h t who path sum v m n copies s → before ≡ [] → out ≡ before ++ evicted_for v m s.len
    → out ≡ evicted_for v (moment_of h t) sum.len
gone_is site h t who path sum v m n copies s before out body none is =
    is ∙ ap (λ (xs : List ℕ). xs ++ evicted_for v m s.len) none ∙ (λ i. evicted_for v (body.moment i) (Sum256.len (body.same i)))

pub put_pushed : (site : Site) (h k now : History) (t : ℕ) (who caller : Who) (path : List ℕ) (sum : Sum256) (v : Held) (m n copies : ℕ) (s : Sum256) (told gone : List ℕ) → PutBody site h t who path sum v m n copies s
    → now ≡ record { at = m; actor = actor.Caller caller; ask = ask.Put who path s; answer = answer.Stored (rows told) } ∷ k → caller ≡ who → told ≡ gone → k ≡ h → now ≡ put_entry h t who path sum gone ∷ h
put_pushed site h k now t who caller path sum v m n copies s told gone body pushed same_who same_list same =
    pushed ∙ (λ i. record { at = body.moment i; actor = actor.Caller (same_who i); ask = ask.Put who path (body.same i); answer = answer.Stored (rows (same_list i)) } ∷ same i)

-- ---- what the calls require

pub body_puts : (h now : History) (e : Entry) (n : ℕ) → now ≡ e ∷ h → n ≡ length h + 1 → puts_file e.ask ≡ true → is_put (entry_of now n) ≡ true
body_puts h now e n is number puts = ap (λ (x : History). is_put (entry_of x n)) is ∙ ap (λ (m : ℕ). is_put (entry_of (e ∷ h) m)) number ∙ put_is_there e h puts

pub body_copies : (site s : Site) (h now : History) (e : Entry) (path : List ℕ) (n copies : ℕ) → s ≡ site → now ≡ e ∷ h → n ≡ length h + 1 → path_in e.ask ≡ path → copies ≡ copies_of site path → copies ≤ copies_of_file s now n
body_copies site s h now e path n copies same is number named count =
    let all : copies_of_file s now n ≡ copies =
    ap (λ (x : Site). copies_of_file x now n) same ∙ ap (λ (x : History). copies_of_file site x n) is ∙ ap (copies_of_file site (e ∷ h)) number ∙ put_copies site e h ∙ ap (copies_of site) named ∙ sym count in
    omega arith

pub body_size : (site : Site) (h now : History) (t : ℕ) (who : Who) (path : List ℕ) (sum : Sum256) (gone : List ℕ) (n : ℕ) → FilesFitBuffer → IsWellFormed site → IsLegal site (put_entry h t who path sum gone ∷ h) → now ≡ put_entry h t who path sum gone ∷ h → n ≡ length h + 1
    → size_of now n ≤ 2147483648
body_size site h now t who path sum gone n fits formed legal is number = subst (λ (x : History). size_of x n ≤ 2147483648) (sym is) (new_size site h t who path sum gone n fits formed legal number)
