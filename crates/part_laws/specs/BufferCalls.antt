-- What the calls of a core do to the buffer, ask by ask.
use Rattle.std.specs.Prelude.{ℕ, ◌≡◌, ◌-◌, List, [], ◌∷◌, ◌++◌, Option, Some, None, Bool, true, ◌==◌, ◌&&◌, if◌then◌else◌, map, filter}
use Rattle.std.specs.List.{list_any, filter_map, flat_map}
use Rattle.cta_site.specs.declared.site.Site.{Site}
use Rattle.cta_model.specs.declared.entries.Entry.{Entry}
use Rattle.cta_model.specs.declared.asks.Ask.{Ask}
use Rattle.cta_model.specs.declared.asks.Ask.TheVariants as ask
use Rattle.cta_model.specs.declared.answers.Answer.{Answer}
use Rattle.cta_model.specs.declared.answers.Answer.TheVariants as answer
use Rattle.cta_model.specs.declared.asks.Direction.{Direction}
use Rattle.cta_model.specs.declared.asks.Direction.TheVariants as direction
use Rattle.cta_model.specs.declared.asks.Fate.TheVariants as fate
use Rattle.cta_model.specs.declared.asks.Job.{Job}
use Rattle.cta_model.specs.declared.states.Mount.{Mount}
use Rattle.cta_model.specs.declared.states.RequestFile.{RequestFile}
use Rattle.cta_model.specs.History.{History, next_number, has_number, has_text}
use Rattle.cta_model.specs.Files.{live_file, size_of}
use Rattle.cta_model.specs.Mounts.{mount_of}
use Rattle.cta_model.specs.Tapes.{size_of_items}
use Rattle.cta_model.specs.Buffer.{is_resident}
use Rattle.cta_model.specs.Recalls.{live_recall}
use Rattle.cta_model.specs.RepackItems.{items_named, waiting_for}
use Rattle.cta_model.specs.Stages.{StageRequest, request_of}
use Rattle.cta_model.specs.Repacks.{repack_of}
use Rattle.cta_model.specs.Pins.{stage_pins, repack_pins}
use Rattle.cta_model.specs.Space.{is_safe}
use Rattle.cta_laws.specs.Stages.{files_staged}
use Rattle.cta_laws.specs.Claims.{claimed_by, size_of_jobs}
use Rattle.part_model.specs.declared.space.HeldPin.{HeldPin}
use Rattle.part_model.specs.Held.{Held, HeldAgree, enter, evict, held_pins, hold, pin_all, remove, set_all, set_safe, unhold, unpin_all}
use Rattle.part_laws.specs.Buffer.{touches}
use Rattle.part_laws.specs.Held.{is_unpinned}

-- ---- pins that are set and taken off

-- the pins of a file by this owner, as the books of requests and of repacks tell them, and as the buffer keeps them
abbrev pub pins_told : Site → History → ℕ → ℕ → List HeldPin
pins_told site h id f = held_pins f (stage_pins f id (request_of site h id) ++ repack_pins f id (repack_of site h id))

-- the file of a path of a request where the path passes the test
abbrev pub file_where : (List ℕ → Bool) → RequestFile → Option ℕ
file_where test s = if test s.path then s.file else None

-- the files of a request whose paths pass the test, none where there is no request
abbrev pub files_where : (List ℕ → Bool) → Option StageRequest → List ℕ
files_where test None = []
files_where test (Some r) = filter_map (file_where test) r.files

-- these files, each with this owner
abbrev pub owned_by : ℕ → List ℕ → List (ℕ × ℕ)
owned_by id fs = map (λ (f : ℕ). (f, id)) fs

-- whether the file is listed with this owner
abbrev pub has_pair : ℕ → ℕ → List (ℕ × ℕ) → Bool
has_pair f id xs = list_any (λ (x : ℕ × ℕ). x.0 == f && x.1 == id) xs

-- the resident ones of the files that a Repack names
abbrev pub files_repacked : History → List Job → List ℕ
files_repacked h jobs = filter (is_resident h) (map (λ (j : Job). j.file) jobs)

-- ---- flags that are set

-- these are the files whose flags are set anew
abbrev pub AreTouched : Site → History → Entry → List ℕ → Type 0
AreTouched site h e fs = (f : ℕ) → has_number f fs ≡ touches site h e.ask e.answer f

-- these are the resident files, each with the repack that pinned it and pins it no more
abbrev pub AreUnpinned : Site → History → Entry → List (ℕ × ℕ) → Type 0
AreUnpinned site h e xs = (f id : ℕ) → is_resident h f ≡ true → has_pair f id xs ≡ is_unpinned site h e f id

-- flags are set
abbrev pub FlagsCalled : Site → History → Entry → Held → Held → Type 0
FlagsCalled site h e v v' = (fs : List ℕ) × AreTouched site h e fs × HeldAgree v' (set_all (is_safe site (e ∷ h)) fs v)

-- archive jobs end: flags are set, pins of repacks are taken off, and this many bytes are left aside
abbrev pub JobsCalled : Site → History → Entry → ℕ → Held → Held → Type 0
JobsCalled site h e aside v v' =
    (fs : List ℕ) × (outs : List (ℕ × ℕ)) × AreTouched site h e fs × AreUnpinned site h e outs
    × HeldAgree v' (record (unpin_all outs (set_all (is_safe site (e ∷ h)) fs v)) { aside = aside })

-- what a mount of this direction leaves aside, where claims of this many bytes end
abbrev pub left_aside : Direction → ℕ → ℕ → ℕ
left_aside direction.Archive before n = before
left_aside direction.Retrieve before n = before - n

-- ---- asks

-- a Claim of a writing mount calls nothing; that of a reading mount evicts for its batch, and holds the bytes of the batch
abbrev pub after_claim : Entry → Direction → Held → Held
after_claim e direction.Archive v = v
after_claim e direction.Retrieve v = hold (evict v e.at (size_of_items (claimed_by e.ask e.answer))) (size_of_items (claimed_by e.ask e.answer))

-- a file that was read enters with its flag, and is pinned by those that waited for its recall
abbrev pub after_read : Site → History → Entry → ℕ → Held → Held
after_read site h e f v =
    pin_all (flat_map (λ id. pins_told site (e ∷ h) id f) (waiting_for (live_recall site h f)))
    (set_safe (enter (unhold v (size_of h f)) f (size_of h f)) f (is_safe site (e ∷ h) f))

-- what the calls for the entry e, with this ask and answer, do to the buffer; the books of requests and repacks, and the table, are
-- those behind the entry
abbrev pub BufferCalled : Site → History → Entry → Ask → Answer → Held → Held → Type 0
BufferCalled site h e (ask.Put who path sum) a v v' = HeldAgree v' (enter (evict v e.at sum.len) (next_number h) sum.len)
BufferCalled site h e (ask.Delete who path) a v v' = (g : ℕ) → live_file h path ≡ Some g → HeldAgree v' (remove v g)
BufferCalled site h e (ask.Stage who files) a v v' = HeldAgree v' (pin_all (flat_map (pins_told site (e ∷ h) (next_number h)) (files_staged site h files.items)) v)
BufferCalled site h e (ask.DropStage who id) a v v' = HeldAgree v' (unpin_all (owned_by id (files_where (λ p. true) (request_of site h id))) v)
BufferCalled site h e (ask.Release who id paths) a v v' = HeldAgree v' (unpin_all (owned_by id (files_where (λ p. has_text p paths.items) (request_of site h id))) v)
BufferCalled site h e (ask.Claim m) a v v' = (x : Mount) → mount_of h m ≡ Some x → HeldAgree v' (after_claim e x.direction v)
BufferCalled site h e (ask.Flushed m items) a v v' = JobsCalled site h e v.aside v v'
BufferCalled site h e (ask.Recalled m job) (answer.Arrived fate.Done) v v' = HeldAgree v' (after_read site h e job.file v)
BufferCalled site h e (ask.Recalled m job) (answer.Arrived fate.Stale) v v' = HeldAgree v' (unhold v (size_of h job.file))
BufferCalled site h e (ask.Failed m fault charged returned) a v v' =
    (x : Mount) → mount_of h m ≡ Some x → JobsCalled site h e (left_aside x.direction v.aside (size_of_jobs h (charged.items ++ returned.items))) v v'
BufferCalled site h e (ask.TapeState who tape s) a v v' = FlagsCalled site h e v v'
BufferCalled site h e (ask.Retry who paths) a v v' = FlagsCalled site h e v v'
BufferCalled site h e (ask.Repack who tape) a v v' =
    (fs : List ℕ) × AreTouched site h e fs
    × HeldAgree v' (pin_all (flat_map (pins_told site (e ∷ h) (next_number h)) (files_repacked h (items_named (ask.Repack who tape) a))) (set_all (is_safe site (e ∷ h)) fs v))
BufferCalled site h e _ a v v' = HeldAgree v' v
