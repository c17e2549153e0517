-- Stage requests are the same without what mismatches have found.
use Rattle.std.proofs.Common.{refl, ap, ◌∙◌, ◌≡◌, ◌∷◌, [], List, map, ℕ}
use Rattle.std.specs.Prelude.{◌++◌, Option, Some, None, if◌then◌else◌, ◌==◌, codes, unwrap_or}
use Rattle.cta_site.specs.declared.site.Site.{Site}
use Rattle.cta_site.specs.Lookups.{drive_name, vid_of}
use Rattle.cta_model.specs.declared.entries.Entry.{Entry}
use Rattle.cta_model.specs.declared.asks.Ask.{Ask}
use Rattle.cta_model.specs.declared.asks.Ask.TheVariants as ask
use Rattle.cta_model.specs.declared.asks.Fault.{Fault}
use Rattle.cta_model.specs.declared.asks.Fault.TheVariants as fault
use Rattle.cta_model.specs.declared.asks.Wanted.{Wanted}
use Rattle.cta_model.specs.declared.reports.FileState.{FileState}
use Rattle.cta_model.specs.declared.reports.FileState.TheVariants as file
use Rattle.cta_model.specs.declared.states.Charge.{Charge}
use Rattle.cta_model.specs.declared.states.StageFile.{StageFile}
use Rattle.cta_model.specs.declared.states.RequestFile.{RequestFile}
use Rattle.cta_model.specs.History.{History, is_empty}
use Rattle.cta_model.specs.Charges.{charges_of}
use Rattle.cta_model.specs.Recalls.{Recall, recall_job}
use Rattle.cta_model.specs.declared.asks.Job.{Job}
use Rattle.mismatch_laws.proofs.Charges.{charge_without_found}
use Rattle.cta_model.specs.Stages.{StageRequest, after_recall, cancels, charge_text, drops, fault_text, file_after, file_asked_for, finished, first_named, is_claimed_before, joined_texts, makes_request, moved_by, new_file, recall_error, released_if, releases, request_after, request_by, request_of, requests_made, stage_files, started, submitted, waiting_after, with_recall}
use Rattle.mismatch_laws.specs.Alike.{without_found, ask_without_found, entry_without_found, history_without_found}
use Rattle.mismatch_laws.proofs.History.{next_number_same}
use Rattle.mismatch_laws.proofs.Files.{live_file_same}
use Rattle.mismatch_laws.proofs.Mounts.{claim_names_same, was_claimed_same}
use Rattle.mismatch_laws.proofs.Places.{places_of_same}
use Rattle.mismatch_laws.proofs.Buffer.{is_resident_same}
use Rattle.mismatch_laws.proofs.Charges.{charges_of_same}
use Rattle.mismatch_laws.proofs.Recalls.{live_recall_same}

pub fault_text_same : (f : Fault) → fault_text (without_found f) ≡ fault_text f
fault_text_same fault.Write = refl
fault_text_same fault.Flush = refl
fault_text_same fault.Read = refl
fault_text_same (fault.Mismatch found wanted) = refl
fault_text_same fault.Load = refl
fault_text_same fault.Unload = refl

charge_text_same : (site : Site) (c : Charge) → charge_text site (charge_without_found c) ≡ charge_text site c
charge_text_same site c = λ i. fault_text_same c.fault i ++ (codes " on " ++ (drive_name site c.drive ++ (codes " " ++ vid_of site c.tape)))

texts_same : (site : Site) (cs : List Charge) → map (charge_text site) (map charge_without_found cs) ≡ map (charge_text site) cs
texts_same site [] = refl
texts_same site (c ∷ cs) = λ i. charge_text_same site c i ∷ texts_same site cs i

pub charge_texts_same : (site : Site) (h : History) (j : Job) → map (charge_text site) (charges_of (history_without_found h) j) ≡ map (charge_text site) (charges_of h j)
charge_texts_same site h j = ap (map (charge_text site)) (charges_of_same h j) ∙ texts_same site (charges_of h j)

pub recall_error_same : (site : Site) (h : History) (f : ℕ) (o : Option Recall) → recall_error site (history_without_found h) f o ≡ recall_error site h f o
recall_error_same site h f None = refl
recall_error_same site h f (Some r) = λ i. joined_texts (charge_texts_same site h (recall_job r.birth f) i)

pub stage_files_same : (site : Site) (h : History) (wanted : List Wanted) → stage_files site (history_without_found h) wanted ≡ stage_files site h wanted
stage_files_same site h wanted = λ z. map (λ (w : Wanted). record { path = w.path; file = (live_file_same h w.path z); lifetime = unwrap_or w.lifetime site.limits.lifetime }) (first_named [] wanted)

pub is_claimed_before_same : (h : History) (f : ℕ) (r : Option Recall) → is_claimed_before (history_without_found h) f r ≡ is_claimed_before h f r
is_claimed_before_same h f None = refl
is_claimed_before_same h f (Some r) = λ z. was_claimed_same h (recall_job r.birth f) z

pub file_asked_for_same : (site : Site) (h : History) (e : Entry) (s : RequestFile) (f : Option ℕ) → file_asked_for site (history_without_found h) (entry_without_found e) s f ≡ file_asked_for site h e s f
file_asked_for_same site h e s None = refl
file_asked_for_same site h e s (Some f) = λ z. if (is_resident_same h f z) then finished (started s e.at) file.Completed e.at None
    else if is_empty (places_of_same site h f z) then finished s file.Failed e.at (Some (codes "no tape is left"))
    else if (is_claimed_before_same h f (live_recall_same site (e ∷ h) f z) z) then started s e.at
    else s

pub new_file_same : (site : Site) (h : History) (e : Entry) (s : StageFile) → new_file site (history_without_found h) (entry_without_found e) s ≡ new_file site h e s
new_file_same site h e s = λ z. file_asked_for_same site h e (submitted s) s.file z

pub cancels_same : (k : Ask) (id : ℕ) (path : List ℕ) → cancels (ask_without_found k) id path ≡ cancels k id path
cancels_same (ask.Cancel who k paths) id path = refl
cancels_same _ id path = refl

pub releases_same : (k : Ask) (id : ℕ) (path : List ℕ) → releases (ask_without_found k) id path ≡ releases k id path
releases_same (ask.Release who k paths) id path = refl
releases_same _ id path = refl

pub after_recall_same : (site : Site) (h : History) (e : Entry) (k : Ask) (f : ℕ) (s : RequestFile) → after_recall site (history_without_found h) (entry_without_found e) (ask_without_found k) f s ≡ after_recall site h e k f s
after_recall_same site h e (ask.Recalled m job) f s = refl
after_recall_same site h e (ask.Failed m fault charged returned) f s = λ z. finished s file.Failed e.at (Some (recall_error_same site (e ∷ h) f (live_recall_same site h f z) z))
after_recall_same site h e (ask.Delete who path) f s = refl
after_recall_same site h e _ f s = refl

pub with_recall_same : (site : Site) (h : History) (e : Entry) (f : ℕ) (s : RequestFile) (r : Option Recall) → with_recall site (history_without_found h) (entry_without_found e) f s r ≡ with_recall site h e f s r
with_recall_same site h e f s None = λ z. after_recall_same site h e e.ask f s z
with_recall_same site h e f s (Some r) = λ z. if (claim_names_same e.ask e.answer (recall_job r.birth f) z) then started s e.at else s

pub waiting_after_same : (site : Site) (h : History) (e : Entry) (id : ℕ) (s : RequestFile) (f : Option ℕ) → waiting_after site (history_without_found h) (entry_without_found e) id s f ≡ waiting_after site h e id s f
waiting_after_same site h e id s None = refl
waiting_after_same site h e id s (Some f) = λ z. if (cancels_same e.ask id s.path z) then finished s file.Cancelled e.at None else (with_recall_same site h e f s (live_recall_same site (e ∷ h) f z) z)

pub moved_by_same : (site : Site) (h : History) (e : Entry) (id : ℕ) (s : RequestFile) (state : FileState) → moved_by site (history_without_found h) (entry_without_found e) id s state ≡ moved_by site h e id s state
moved_by_same site h e id s file.Submitted = λ z. waiting_after_same site h e id s s.file z
moved_by_same site h e id s file.Started = λ z. waiting_after_same site h e id s s.file z
moved_by_same site h e id s _ = refl

pub file_after_same : (site : Site) (h : History) (e : Entry) (id : ℕ) (s : RequestFile) → file_after site (history_without_found h) (entry_without_found e) id s ≡ file_after site h e id s
file_after_same site h e id s = λ z. released_if (releases_same e.ask id s.path z) (moved_by_same site h e id s s.state z)

pub request_by_same : (site : Site) (h : History) (e : Entry) (k : Ask) → request_by site (history_without_found h) (entry_without_found e) (ask_without_found k) ≡ request_by site h e k
request_by_same site h e (ask.Stage who files) = λ z. Some (record { at = e.at; files = map (λ z1. new_file_same site h e z1 z) (stage_files_same site h files.items z) })
request_by_same site h e _ = refl

pub drops_same : (id : ℕ) (k : Ask) → drops id (ask_without_found k) ≡ drops id k
drops_same id (ask.DropStage who k) = refl
drops_same id _ = refl

pub request_after_same : (site : Site) (h : History) (e : Entry) (id : ℕ) (r : Option StageRequest) → request_after site (history_without_found h) (entry_without_found e) id r ≡ request_after site h e id r
request_after_same site h e id None = refl
request_after_same site h e id (Some r) = λ z. if (drops_same id e.ask z) then None else Some (record r { files = map (λ z1. file_after_same site h e id z1 z) r.files })

pub request_of_same : (site : Site) (h : History) (id : ℕ) → request_of site (history_without_found h) id ≡ request_of site h id
request_of_same site [] id = refl
request_of_same site (e ∷ h) id = λ z. if (next_number_same h z) == id then (request_by_same site h e e.ask z) else (request_after_same site h e id (request_of_same site h id z) z)

pub makes_request_same : (k : Ask) → makes_request (ask_without_found k) ≡ makes_request k
makes_request_same (ask.Stage who files) = refl
makes_request_same _ = refl

pub requests_made_same : (h : History) → requests_made (history_without_found h) ≡ requests_made h
requests_made_same [] = refl
requests_made_same (e ∷ h) = λ z. if (makes_request_same e.ask z) then (next_number_same h z) ∷ (requests_made_same h z) else (requests_made_same h z)
