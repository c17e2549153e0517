-- How the calls of a core move the books of stage requests and of repacks.
use Rattle.std.specs.Prelude.{ℕ, suc, ◌≡◌, List, ◌∷◌, Some, is_none, is_some, true, false}
use Rattle.cta_site.specs.declared.site.Site.{Site}
use Rattle.cta_model.specs.declared.entries.Entry.{Entry}
use Rattle.cta_model.specs.declared.asks.Job.{Job}
use Rattle.cta_model.specs.declared.reports.ItemState.{ItemState}
use Rattle.cta_model.specs.declared.states.RequestFile.{RequestFile}
use Rattle.cta_model.specs.declared.states.StageFile.{StageFile}
use Rattle.cta_model.specs.History.{History, has_number}
use Rattle.cta_model.specs.Files.{path_of}
use Rattle.cta_model.specs.Mounts.{has_copy}
use Rattle.cta_model.specs.Recalls.{Recall, live_recall}
use Rattle.cta_model.specs.Jobs.{archive_birth}
use Rattle.cta_model.specs.Repacks.{is_repack_live}
use Rattle.cta_model.specs.Legal.{IsLegal}
use Rattle.cta_laws.specs.Stages.{takes_path}
use Rattle.part_model.specs.Requests.{Requests, RequestsAgree, add_request, remove_request, turn_request}
use Rattle.part_model.specs.Repacks.{Repacks, RepacksAgree, add_repack, is_live_in, set_state}
use Rattle.part_laws.specs.Books.{AreRepacks, AreRequests}
use Rattle.part_laws.specs.BookCalls.{RepacksCalled, RequestsCalled, copies_ended, recalls_ended}

-- in a legal history a live recall for which somebody still waits ends exactly where its file is among those of the recalls that the entry
-- ends
abbrev pub RecallsEndAsTold : Type 0
RecallsEndAsTold =
    (site : Site) (h : History) (e : Entry) (f id : ℕ) (r : Recall) → IsLegal site (e ∷ h) → live_recall site h f ≡ Some r → has_number id r.waiting ≡ true
    → takes_path e.ask id (path_of h f) ≡ false → has_number f (recalls_ended site h e e.ask e.answer) ≡ is_none (live_recall site (e ∷ h) f)

-- in a legal history a live archive job ends exactly where its copy is among those whose archive jobs the entry ends
abbrev pub CopiesEndAsTold : Type 0
CopiesEndAsTold =
    (site : Site) (h : History) (e : Entry) (f c : ℕ) → IsLegal site (e ∷ h) → is_some (archive_birth site h f (suc c)) ≡ true
    → has_copy f (suc c) (copies_ended site h e.ask e.answer) ≡ is_none (archive_birth site (e ∷ h) f (suc c))

-- a book of stage requests that stands for a legal history stands for it with one entry more once the calls for the entry are made
abbrev pub CallsMoveRequests : Type 0
CallsMoveRequests =
    (site : Site) (h : History) (e : Entry) (v v' : Requests) → IsLegal site (e ∷ h) → AreRequests site h v → RequestsCalled site h e e.ask e.answer v v'
    → AreRequests site (e ∷ h) v'

-- a book of repacks that stands for a legal history stands for it with one entry more once the calls for the entry are made
abbrev pub CallsMoveRepacks : Type 0
CallsMoveRepacks =
    (site : Site) (h : History) (e : Entry) (v v' : Repacks) → IsLegal site (e ∷ h) → AreRepacks site h v → RepacksCalled site h e e.ask e.answer v v'
    → AreRepacks site (e ∷ h) v'

-- a book of repacks that stands for a history tells whether a repack of the tape is live
abbrev pub RepacksTellLive : Type 0
RepacksTellLive = (site : Site) (h : History) (v : Repacks) (t : ℕ) → AreRepacks site h v → is_live_in v t ≡ is_repack_live site h t

-- what calls of two books of stage requests leave: the books tell the same again. `start`, `finish` and `release` turn the files of a request
pub record AreRequestCallsSame (v w : Requests) : Type 0 where
  pub added : (id at : ℕ) (files : List StageFile) → RequestsAgree (add_request id at files v) (add_request id at files w)
  pub turned : (id : ℕ) (turn : RequestFile → RequestFile) → RequestsAgree (turn_request id turn v) (turn_request id turn w)
  pub removed : (id : ℕ) → RequestsAgree (remove_request id v) (remove_request id w)

-- the same call leaves two books of stage requests that tell the same so that they do again
abbrev pub RequestCallsAgree : Type 0
RequestCallsAgree = (v w : Requests) → RequestsAgree v w → AreRequestCallsSame v w

-- what calls of two books of repacks leave: the books tell the same again
pub record AreRepackCallsSame (v w : Repacks) : Type 0 where
  pub added : (id tape : ℕ) (jobs : List Job) → RepacksAgree (add_repack id tape jobs v) (add_repack id tape jobs w)
  pub set : (id f c : ℕ) (s : ItemState) → RepacksAgree (set_state id f c s v) (set_state id f c s w)

-- the same call leaves two books of repacks that tell the same so that they do again
abbrev pub RepackCallsAgree : Type 0
RepackCallsAgree = (v w : Repacks) → RepacksAgree v w → AreRepackCallsSame v w
