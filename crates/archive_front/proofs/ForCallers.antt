-- The answers that the archive gives callers, and the replies to them.
use Rattle.std.proofs.Common.{◌≡◌, ℕ, Bool, true, false, List, [], ◌∷◌, None, Option, not, refl, sym, ap, ◌∙◌, subst}
use Rattle.std.specs.Prelude.{◌+◌, Some, length, map, nat_le, nat_lt, is_some, is_none, option_map}
use Rattle.std.specs.Arc.{arc_value}
use Rattle.blob.specs.declared.sum.Sum256.{Sum256}
use Rattle.cta_site.specs.declared.site.Site.{Site}
use Rattle.cta_site.specs.Lookups.{class_of}
use Rattle.cta_site.specs.Paths.{is_path}
use Rattle.cta_site.specs.Listed.{Listed, rows}
use Rattle.std.specs.List.{list_all, list_any}
use Rattle.cta_model.specs.History.{History, has_text, is_empty, moment_of, next_number}
use Rattle.cta_model.specs.Buffer.{is_resident}
use Rattle.cta_model.specs.Files.{live_file, sum_of as sum_of_file}
use Rattle.cta_model.specs.Space.{free_space, evictable_size, evicted_for}
use Rattle.cta_model.specs.Answers.{answer_of, drive_answer, is_too_heavy, light_answer, on_free_tape, put_answer, reclaim_answer, refuse, repack_answer, request_answer, retried_jobs}
use Rattle.cta_model.specs.Bare.{bare_answer, bare_copy}
use Rattle.cta_model.specs.Hands.{LookHand}
use Rattle.cta_model.specs.Looks.{fetch_by, look_answer_of, repack_info_by, stage_info_by}
use Rattle.cta_model.specs.Mounts.{is_mounted}
use Rattle.cta_model.specs.Places.{live_items_on}
use Rattle.cta_model.specs.RepackItems.{repack_items}
use Rattle.cta_model.specs.Repacks.{Repack, is_repack_live, repack_of}
use Rattle.cta_model.specs.Reports.{repack_report, stage_report, tape_report}
use Rattle.cta_model.specs.Stages.{StageRequest, request_of}
use Rattle.cta_model.specs.Tapes.{is_broken, may_be_repacked, tape_state}
use Rattle.cta_model.specs.declared.asks.Ask.{Ask}
use Rattle.cta_model.specs.declared.asks.Ask.TheVariants as ask
use Rattle.cta_model.specs.declared.asks.Look.{Look}
use Rattle.cta_model.specs.declared.asks.Look.TheVariants as look
use Rattle.cta_model.specs.declared.answers.Answer.{Answer}
use Rattle.cta_model.specs.declared.answers.Answer.TheVariants as answer
use Rattle.cta_model.specs.declared.answers.Refusal.{Refusal}
use Rattle.cta_model.specs.declared.answers.Refusal.TheVariants as refusal
use Rattle.cta_model.specs.declared.hands.Hand.{Hand}
use Rattle.cta_model.specs.declared.hands.Hand.TheVariants as hand
use Rattle.cta_model.specs.declared.reports.FailedCopy.{FailedCopy}
use Rattle.cta_model.specs.declared.reports.PlaceInfo.{PlaceInfo}
use Rattle.cta_model.specs.declared.reports.QueueInfo.{QueueInfo}
use Rattle.cta_model.specs.declared.reports.RepackInfo.{RepackInfo}
use Rattle.cta_model.specs.declared.reports.StageInfo.{StageInfo}
use Rattle.cta_model.specs.declared.reports.TapeInfo.{TapeInfo}
use Rattle.cta_model.specs.declared.states.RequestFile.{RequestFile}
use Rattle.wire_http.specs.declared.reply.Reply.{Reply}
use Rattle.wire_http.specs.Reply.{reply_view}
use Rattle.tape_json.specs.Reports.{failed_report}
use Rattle.tape_routes.specs.Asked.{Asks}
use Rattle.tape_routes.specs.Callers.{IsCallers}
use Rattle.tape_routes.specs.Replies.{is_for_callers, Content, HasContent, reply_for}
use Rattle.archive_front.specs.Hands.{content_in}
use Rattle.tape_routes.specs.Answering.{FitsAnswer, answer_view}

-- an answer that a caller gets and that comes with no content
pub is_plain : Answer → Bool
is_plain (answer.Bytes sum) = false
is_plain a = is_for_callers a

abbrev IsPlain : Answer → Type 0
IsPlain a = is_plain a ≡ true

plain_refused : (r : Refusal) (b : Bool) (a : Answer) → IsPlain (answer.Refused r) → IsPlain a → IsPlain (refuse r b a)
plain_refused r true a p q = p
plain_refused r false a p q = q

plain_put : (site : Site) (h : History) (t : ℕ) (path : List ℕ) (size : ℕ) → IsPlain (put_answer site h t path size)
unfolding is_plain
plain_put site h t path size =
    let stored = answer.Stored (rows (evicted_for site h t size)) in
    let no_space = nat_lt (free_space site h + evictable_size site h t) size in
    let spaced = refuse refusal.NoSpace no_space stored in
    let named = refuse refusal.PathTaken (is_some (live_file h path)) spaced in
    let placed = refuse refusal.NoDirectory (is_none (class_of site path)) named in
    plain_refused refusal.BadPath (not (is_path path)) placed refl
    (plain_refused refusal.NoDirectory (is_none (class_of site path)) named refl
    (plain_refused refusal.PathTaken (is_some (live_file h path)) spaced refl
    (plain_refused refusal.NoSpace no_space stored refl refl)))

plain_request : (o : Option StageRequest) (paths : List (List ℕ)) → IsPlain (request_answer o paths)
unfolding is_plain
plain_request None paths = refl
plain_request (Some r) paths = plain_refused refusal.ForeignPath (not (list_all (λ p. has_text p (map (λ (s : RequestFile). s.path) r.files)) paths)) answer.Done refl refl

plain_drive : (site : Site) (d : ℕ) → IsPlain (drive_answer site d)
unfolding is_plain
plain_drive site d = plain_refused refusal.NoDrive (nat_le (length site.drives.items) d) answer.Done refl refl

plain_free : (site : Site) (h : History) (v : ℕ) (a : Answer) → IsPlain a → IsPlain (on_free_tape site h v a)
unfolding is_plain
plain_free site h v a plain =
    let whole = refuse refusal.TapeBroken (is_broken (tape_state site h v)) a in
    let free = refuse refusal.TapeMounted (is_mounted h v) whole in
    plain_refused refusal.NoTape (nat_le (length site.tapes.items) v) free refl
    (plain_refused refusal.TapeMounted (is_mounted h v) whole refl
    (plain_refused refusal.TapeBroken (is_broken (tape_state site h v)) a refl plain))

plain_reclaim : (site : Site) (h : History) (v : ℕ) → IsPlain (reclaim_answer site h v)
unfolding is_plain
plain_reclaim site h v =
    let used = not (is_empty (live_items_on h v)) in
    plain_free site h v (refuse refusal.LiveFiles used answer.Done) (plain_refused refusal.LiveFiles used answer.Done refl refl)

plain_repack : (site : Site) (h : History) (v : ℕ) → IsPlain (repack_answer site h v)
unfolding is_plain
plain_repack site h v =
    let repacking = answer.Repacking (next_number h) (rows (repack_items h v)) in
    let alone = refuse refusal.RepackLive (is_repack_live site h v) repacking in
    let other = not (may_be_repacked (tape_state site h v)) in
    let marked = refuse refusal.NotRepacking other alone in
    plain_refused refusal.NoTape (nat_le (length site.tapes.items) v) marked refl
    (plain_refused refusal.NotRepacking other alone refl
    (plain_refused refusal.RepackLive (is_repack_live site h v) repacking refl refl))

-- what a caller asks has such an answer, but for the history's weight
plain_light : (site : Site) (h : History) (t : ℕ) (k : Ask) (content : Option (List ℕ)) → IsCallers (Asks k content) → IsPlain (light_answer site h t k)
unfolding is_plain
plain_light site h t (ask.Put who path sum) content fit = plain_put site h t path sum.len
plain_light site h t (ask.Delete who path) content fit = plain_refused refusal.NoFile (is_none (live_file h path)) answer.Done refl refl
plain_light site h t (ask.Stage who files) content fit = refl
plain_light site h t (ask.Cancel who id paths) content fit = plain_request (request_of site h id) paths.items
plain_light site h t (ask.DropStage who id) content fit = plain_refused refusal.NoRequest (is_none (request_of site h id)) answer.Done refl refl
plain_light site h t (ask.Release who id paths) content fit = plain_request (request_of site h id) paths.items
plain_light site h t (ask.Next d) content fit = absurd fit
plain_light site h t (ask.Claim m) content fit = absurd fit
plain_light site h t (ask.Flushed m items) content fit = absurd fit
plain_light site h t (ask.Recalled m job) content fit = absurd fit
plain_light site h t (ask.Failed m fault charged returned) content fit = absurd fit
plain_light site h t (ask.End m fault) content fit = absurd fit
plain_light site h t (ask.DriveUp who d) content fit = plain_drive site d
plain_light site h t (ask.DriveDown who d) content fit = plain_drive site d
plain_light site h t (ask.TapeState who v s) content fit = plain_free site h v answer.Done refl
plain_light site h t (ask.Reclaim who v) content fit = plain_reclaim site h v
plain_light site h t (ask.Repack who v) content fit = plain_repack site h v
plain_light site h t (ask.Retry who paths) content fit =
    plain_refused refusal.NoFile (list_any (λ p. is_none (live_file h p)) paths.items) (answer.Retried (rows (retried_jobs site h [] paths.items))) refl refl

plain_ask : (site : Site) (h : History) (t : ℕ) (k : Ask) (content : Option (List ℕ)) → IsCallers (Asks k content) → IsPlain (answer_of site h t k)
unfolding is_plain
plain_ask site h t k content fit =
    let light = light_answer site h (moment_of h t) k in
    plain_refused refusal.HistoryFull (is_too_heavy site h k light) light refl (plain_light site h (moment_of h t) k content fit)

-- a caller gets the answer, and the hand that goes out with it has the content that it says
record IsSeen {M : Type 0} (told : Answer) (out : Hand M) : Type 0 where
  callers : is_for_callers told ≡ true
  fits : LookHand told out → FitsAnswer told (option_map arc_value (content_in out))

sees_bytes : {M : Type 0} (sum : Sum256) (out : Hand M) → IsSeen (answer.Bytes sum) out
sees_bytes sum hand.Nothing = record { callers = refl; fits = λ no. no }
sees_bytes sum (hand.Blob blob) = record { callers = refl; fits = λ is. is }
sees_bytes sum (hand.Blobs blobs) = record { callers = refl; fits = λ no. no }
sees_bytes sum (hand.Medium x) = record { callers = refl; fits = λ no. no }

sees_places : {M : Type 0} (infos : Listed PlaceInfo) (out : Hand M) → IsSeen (answer.Places infos) out
sees_places infos hand.Nothing = record { callers = refl; fits = λ is. refl }
sees_places infos (hand.Blob blob) = record { callers = refl; fits = λ no. absurd no }
sees_places infos (hand.Blobs blobs) = record { callers = refl; fits = λ no. absurd no }
sees_places infos (hand.Medium x) = record { callers = refl; fits = λ no. absurd no }

sees_stage : {M : Type 0} (info : StageInfo) (out : Hand M) → IsSeen (answer.Stage info) out
sees_stage info hand.Nothing = record { callers = refl; fits = λ is. refl }
sees_stage info (hand.Blob blob) = record { callers = refl; fits = λ no. absurd no }
sees_stage info (hand.Blobs blobs) = record { callers = refl; fits = λ no. absurd no }
sees_stage info (hand.Medium x) = record { callers = refl; fits = λ no. absurd no }

sees_tape : {M : Type 0} (info : TapeInfo) (out : Hand M) → IsSeen (answer.TapeSeen info) out
sees_tape info hand.Nothing = record { callers = refl; fits = λ is. refl }
sees_tape info (hand.Blob blob) = record { callers = refl; fits = λ no. absurd no }
sees_tape info (hand.Blobs blobs) = record { callers = refl; fits = λ no. absurd no }
sees_tape info (hand.Medium x) = record { callers = refl; fits = λ no. absurd no }

sees_queues : {M : Type 0} (infos : Listed QueueInfo) (out : Hand M) → IsSeen (answer.QueuesSeen infos) out
sees_queues infos hand.Nothing = record { callers = refl; fits = λ is. refl }
sees_queues infos (hand.Blob blob) = record { callers = refl; fits = λ no. absurd no }
sees_queues infos (hand.Blobs blobs) = record { callers = refl; fits = λ no. absurd no }
sees_queues infos (hand.Medium x) = record { callers = refl; fits = λ no. absurd no }

sees_repacked : {M : Type 0} (info : RepackInfo) (out : Hand M) → IsSeen (answer.RepackSeen info) out
sees_repacked info hand.Nothing = record { callers = refl; fits = λ is. refl }
sees_repacked info (hand.Blob blob) = record { callers = refl; fits = λ no. absurd no }
sees_repacked info (hand.Blobs blobs) = record { callers = refl; fits = λ no. absurd no }
sees_repacked info (hand.Medium x) = record { callers = refl; fits = λ no. absurd no }

sees_copies : {M : Type 0} (copies : Listed FailedCopy) (out : Hand M) → IsSeen (answer.FailedSeen copies) out
sees_copies copies hand.Nothing = record { callers = refl; fits = λ is. refl }
sees_copies copies (hand.Blob blob) = record { callers = refl; fits = λ no. absurd no }
sees_copies copies (hand.Blobs blobs) = record { callers = refl; fits = λ no. absurd no }
sees_copies copies (hand.Medium x) = record { callers = refl; fits = λ no. absurd no }

sees_refused : {M : Type 0} (r : Refusal) (out : Hand M) → is_for_callers (answer.Refused r) ≡ true → IsSeen (answer.Refused r) out
sees_refused r hand.Nothing e = record { callers = e; fits = λ is. refl }
sees_refused r (hand.Blob blob) e = record { callers = e; fits = λ no. absurd no }
sees_refused r (hand.Blobs blobs) e = record { callers = e; fits = λ no. absurd no }
sees_refused r (hand.Medium x) e = record { callers = e; fits = λ no. absurd no }

sees_either : {M : Type 0} (r : Refusal) (b : Bool) (a : Answer) (out : Hand M) → is_for_callers (answer.Refused r) ≡ true → IsSeen a out → IsSeen (refuse r b a) out
sees_either r true a out e s = sees_refused r out e
sees_either r false a out e s = s

sees_file : {M : Type 0} (h : History) (o : Option ℕ) (out : Hand M) → IsSeen (fetch_by h o) out
sees_file h None out = sees_refused refusal.NoFile out refl
sees_file h (Some f) out = sees_either refusal.NotResident (not (is_resident h f)) (answer.Bytes (sum_of_file h f)) out refl (sees_bytes (sum_of_file h f) out)

sees_request : {M : Type 0} (h : History) (id : ℕ) (o : Option StageRequest) (out : Hand M) → IsSeen (stage_info_by h id o) out
sees_request h id None out = sees_refused refusal.NoRequest out refl
sees_request h id (Some r) out = sees_stage (stage_report h id r) out

sees_repack : {M : Type 0} (site : Site) (h : History) (id : ℕ) (o : Option Repack) (out : Hand M) → IsSeen (repack_info_by site h id o) out
sees_repack site h id None out = sees_refused refusal.NoRepack out refl
sees_repack site h id (Some r) out = sees_repacked (repack_report site h id r) out

sees_look : {M : Type 0} (site : Site) (h : History) (t : ℕ) (k : Look) (out : Hand M) → IsSeen (look_answer_of site h t k) out
sees_look site h t (look.Fetch path) out = sees_file h (live_file h path) out
sees_look site h t (look.StageInfo id) out = sees_request h id (request_of site h id) out
sees_look site h t (look.ArchiveInfo paths) out = sees_places _ out
sees_look site h t (look.RepackInfo id) out = sees_repack site h id (repack_of site h id) out
sees_look site h t look.FailedList out = sees_copies _ out
sees_look site h t (look.TapeInfo v) out = sees_either refusal.NoTape (nat_le (length site.tapes.items) v) (answer.TapeSeen (tape_report site h v)) out refl (sees_tape (tape_report site h v) out)
sees_look site h t look.Queues out = sees_queues _ out

-- ---- the room in lists

failed_bare : (copies : List FailedCopy) → map failed_report (map bare_copy copies) ≡ map failed_report copies
failed_bare [] = refl
failed_bare (f ∷ fs) = ap (λ xs. failed_report f ∷ xs) (failed_bare fs)

-- an answer with no room to spare is told as the one with it
record IsToldAlike (a : Answer) : Type 0 where
  plain : is_plain (bare_answer a) ≡ is_plain a
  callers : is_for_callers (bare_answer a) ≡ is_for_callers a
  view : (site : Site) (content : Option (List ℕ)) (close : Bool) → answer_view site (bare_answer a) content close ≡ answer_view site a content close

told_alike : (a : Answer) → IsToldAlike a
unfolding is_plain
told_alike (answer.Stored evicted) = record { plain = refl; callers = refl; view = λ site content close. refl }
told_alike answer.Done = record { plain = refl; callers = refl; view = λ site content close. refl }
told_alike (answer.Staged id) = record { plain = refl; callers = refl; view = λ site content close. refl }
told_alike (answer.Mounted mount direction tape) = record { plain = refl; callers = refl; view = λ site content close. refl }
told_alike answer.Idle = record { plain = refl; callers = refl; view = λ site content close. refl }
told_alike answer.DriveDown = record { plain = refl; callers = refl; view = λ site content close. refl }
told_alike answer.DriveBusy = record { plain = refl; callers = refl; view = λ site content close. refl }
told_alike (answer.Batch items evicted) = record { plain = refl; callers = refl; view = λ site content close. refl }
told_alike answer.Nothing = record { plain = refl; callers = refl; view = λ site content close. refl }
told_alike (answer.Told fates) = record { plain = refl; callers = refl; view = λ site content close. refl }
told_alike (answer.Arrived fate) = record { plain = refl; callers = refl; view = λ site content close. refl }
told_alike (answer.Repacking id items) = record { plain = refl; callers = refl; view = λ site content close. refl }
told_alike (answer.Retried jobs) = record { plain = refl; callers = refl; view = λ site content close. refl }
told_alike (answer.Bytes sum) = record { plain = refl; callers = refl; view = λ site content close. refl }
told_alike (answer.Stage info) = record { plain = refl; callers = refl; view = λ site content close. refl }
told_alike (answer.Places infos) = record { plain = refl; callers = refl; view = λ site content close. refl }
told_alike (answer.RepackSeen info) = record { plain = refl; callers = refl; view = λ site content close. refl }
told_alike (answer.FailedSeen copies) = record { plain = refl; callers = refl; view = λ site content close. rw (failed_bare copies.items) refl }
told_alike (answer.TapeSeen info) = record { plain = refl; callers = refl; view = λ site content close. refl }
told_alike (answer.QueuesSeen infos) = record { plain = refl; callers = refl; view = λ site content close. refl }
told_alike (answer.Refused refused) = record { plain = refl; callers = refl; view = λ site content close. refl }

-- with the content that an answer says comes the content that its reply needs
fits_content : (a : Answer) (content : Content) → FitsAnswer (bare_answer a) (option_map arc_value content) → HasContent a content
fits_content (answer.Bytes sum) None fits = fits
fits_content (answer.Bytes sum) (Some blob) fits = fits
fits_content _ content fits = tt

-- ---- what a reply needs of an answer, and what it is

plain_is_callers : (a : Answer) → is_plain a ≡ true → is_for_callers a ≡ true
unfolding is_plain
plain_is_callers (answer.Bytes sum) e = refl
plain_is_callers _ e = e

plain_fits : (a : Answer) → is_plain a ≡ true → FitsAnswer a None
unfolding is_plain
plain_fits (answer.Bytes sum) e = absurd (let no : false ≡ true = e in cc)
plain_fits _ e = refl

-- what a reply to an answer with this content needs, and what it is
pub record HasReply (a told : Answer) (out : Content) : Type 0 where
  pub callers : is_for_callers a ≡ true
  pub content : HasContent a out
  pub fits : FitsAnswer told (option_map arc_value out)

has_reply : (a told : Answer) (content : Content) → bare_answer a ≡ told → is_for_callers told ≡ true → FitsAnswer told (option_map arc_value content) → HasReply a told content
has_reply a told content e callers fits = record {
  callers = sym (told_alike a).callers ∙ ap is_for_callers e ∙ callers;
  content = fits_content a content (subst (λ x. FitsAnswer x (option_map arc_value content)) (sym e) fits);
  fits = fits;
}

pub ask_has_reply : (site : Site) (h : History) (t : ℕ) (k : Ask) (sent : Option (List ℕ)) (a : Answer) → IsCallers (Asks k sent) → bare_answer a ≡ answer_of site h t k → HasReply a (answer_of site h t k) None
ask_has_reply site h t k sent a fit e =
    let plain = plain_ask site h t k sent fit in
    has_reply a (answer_of site h t k) None e (plain_is_callers (answer_of site h t k) plain) (plain_fits (answer_of site h t k) plain)

pub look_has_reply : {M : Type 0} (site : Site) (h : History) (t : ℕ) (k : Look) (a : Answer) (out : Hand M) → bare_answer a ≡ look_answer_of site h t k → LookHand (bare_answer a) out → HasReply a (look_answer_of site h t k) (content_in out)
look_has_reply site h t k a out e goes =
    let seen = sees_look site h t k out in
    has_reply a (look_answer_of site h t k) (content_in out) e seen.callers (seen.fits (subst (λ x. LookHand x out) e goes))

-- the reply to an answer says nothing of its content but its bytes
abbrev pub CarryContent : Type 0
CarryContent = (site : Site) (a : Answer) (content : Content) (close : Bool) → HasContent a content → reply_view (reply_for site a content close) ≡ answer_view site a (option_map arc_value content) close

-- the reply to an answer is told by the answer and its content
pub reply_told : (site : Site) (a told : Answer) (content : Content) (close : Bool) (reply : Reply) → CarryContent → bare_answer a ≡ told → HasContent a content → reply ≡ reply_for site a content close
    → reply_view reply ≡ answer_view site told (option_map arc_value content) close
reply_told site a told content close reply carry e has is =
    ap reply_view is ∙ carry site a content close has ∙ sym ((told_alike a).view site (option_map arc_value content) close) ∙ ap (λ x. answer_view site x (option_map arc_value content) close) e
