-- Claims and jobs that end, one by one.
use Rattle.std.proofs.Common.{◌∙◌, ◌+◌, ◌<◌, ℕ, List, [], ◌∷◌, ◌++◌, length, refl, sym, ap, subst, take}
use Rattle.std.specs.Prelude.{get_or}
use Rattle.std.proofs.lemmas.List.{map-append, take_more}
use Rattle.cta_model.specs.declared.asks.Item.{Item}
use Rattle.cta_model.specs.declared.asks.Job.{Job}
use Rattle.cta_model.specs.Mounts.{item_jobs}
use Rattle.part_model.specs.JobBook.{Book, TellSame, end_jobs, give_back_jobs}
use Rattle.part_laws.proofs.BookSteps.{end_same, give_back_same, tell_chain}
use Rattle.part_laws.proofs.TurnLaws.{book_calls_in_turn}
use Rattle.part_moves.proofs.ItemsLeft.{none_ended, none_given}

give_more : (js : List Job) (k : Job) (a b c : Book) → TellSame b (give_back_jobs js a) → TellSame c (give_back_jobs (k ∷ []) b) → TellSame c (give_back_jobs (js ++ k ∷ []) a)
give_more js k a b c before call =
    tell_chain c (give_back_jobs (k ∷ []) b) _ call
    (tell_chain (give_back_jobs (k ∷ []) b) (give_back_jobs (k ∷ []) (give_back_jobs js a)) _ (give_back_same (k ∷ []) b (give_back_jobs js a) before) (book_calls_in_turn js k a).returns)

end_more : (js : List Job) (k : Job) (a b c : Book) → TellSame b (end_jobs js a) → TellSame c (end_jobs (k ∷ []) b) → TellSame c (end_jobs (js ++ k ∷ []) a)
end_more js k a b c before call =
    tell_chain c (end_jobs (k ∷ []) b) _ call
    (tell_chain (end_jobs (k ∷ []) b) (end_jobs (k ∷ []) (end_jobs js a)) _ (end_same (k ∷ []) b (end_jobs js a) before) (book_calls_in_turn js k a).ends)

-- one claim more has ended
pub given_more : (items : List Item) (k : ℕ) (d : Item) (a b c : Book) → k < length items → TellSame b (give_back_jobs (item_jobs (take k items)) a)
    → TellSame c (give_back_jobs ((get_or items k d).job ∷ []) b) → TellSame c (give_back_jobs (item_jobs (take (k + 1) items)) a)
given_more items k d a b c low before call =
    subst (λ (js : List Job). TellSame c (give_back_jobs js a)) (sym (ap item_jobs (take_more items k d low) ∙ map-append (λ (i : Item). i.job) (take k items) (get_or items k d ∷ [])))
    (give_more (item_jobs (take k items)) (get_or items k d).job a b c before call)

-- one job more has ended
pub ended_more : (jobs : List Job) (k : ℕ) (d : Job) (a b c : Book) → k < length jobs → TellSame b (end_jobs (take k jobs) a)
    → TellSame c (end_jobs (get_or jobs k d ∷ []) b) → TellSame c (end_jobs (take (k + 1) jobs) a)
ended_more jobs k d a b c low before call =
    subst (λ (js : List Job). TellSame c (end_jobs js a)) (sym (take_more jobs k d low)) (end_more (take k jobs) (get_or jobs k d) a b c before call)
