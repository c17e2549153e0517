-- The sums of a queue's lines are those of the queue.
use Rattle.std.proofs.Common.{◌≡◌, ◌∙◌, ℕ, List, [], ◌∷◌, Bool, true, false, ◌||◌, refl, sym, ap, arith, length, Some, Option}
use Rattle.std.specs.Prelude.{map, sum_by, nat_le, min}
use Rattle.cta_site.specs.declared.site.Site.{Site}
use Rattle.cta_model.specs.declared.asks.Direction.{Direction}
use Rattle.cta_model.specs.declared.asks.Job.{Job}
use Rattle.cta_model.specs.History.{History}
use Rattle.cta_model.specs.Files.{size_of}
use Rattle.cta_model.specs.Queues.{queue_of, sums_of, queue_bytes, queue_priority, queue_age, highest, least, born_at}
use Rattle.cta_model.specs.Choice.{some_job_fits}
use Rattle.cta_laws.proofs.Sums.{total, total_is}
use Rattle.part_laws.specs.Lines.{line_of}
use Rattle.part_laws.specs.QueueLaws.{FitsTell, SumsTell}
use Rattle.cta_laws.proofs.Bools.{same_bool}
use Rattle.cta_model.specs.declared.states.Sums.{Sums}
use Rattle.part_model.specs.Queues.{fits_in, line_sums}
use Rattle.part_model.specs.declared.jobs.Line.{Line}

map_twice : (site : Site) (h : History) (way : Direction) (g : Line → ℕ) (q : List Job) → map g (map (line_of site h way) q) ≡ map (λ j. g (line_of site h way j)) q
map_twice site h way g [] = refl
map_twice site h way g (j ∷ q) = ap (λ (ns : List ℕ). g (line_of site h way j) ∷ ns) (map_twice site h way g q)

pub files_are : (site : Site) (h : History) (way : Direction) (q : List Job) → length (map (line_of site h way) q) ≡ length q
files_are site h way [] = refl
files_are site h way (j ∷ q) = omega (arith, files_are site h way q)

total_map : (site : Site) (h : History) (way : Direction) (q : List Job) → total (λ (l : Line). l.len) (map (line_of site h way) q) ≡ total (λ (j : Job). size_of h j.file) q
unfolding total
total_map site h way [] = refl
total_map site h way (j ∷ q) = omega (arith, total_map site h way q)

pub bytes_are : (site : Site) (h : History) (way : Direction) (q : List Job) → sum_by (λ (l : Line). l.len) (map (line_of site h way) q) ≡ queue_bytes h q
bytes_are site h way q = total_is (λ (l : Line). l.len) (map (line_of site h way) q) ∙ total_map site h way q ∙ sym (total_is (λ (j : Job). size_of h j.file) q)

pub priority_is : (site : Site) (h : History) (way : Direction) (q : List Job) → highest (map (λ (l : Line). l.priority) (map (line_of site h way) q)) ≡ queue_priority site h way q
priority_is site h way q = ap highest (map_twice site h way (λ (l : Line). l.priority) q)

pub age_is : (site : Site) (h : History) (way : Direction) (q : List Job) → least (map (λ (l : Line). l.age) (map (line_of site h way) q)) ≡ queue_age site h way q
age_is site h way q = ap least (map_twice site h way (λ (l : Line). l.age) q)

either_low : (a n room : ℕ) → nat_le (min a n) room ≡ (nat_le a room || nat_le n room)
either_low a n room = same_bool (nat_le (min a n) room) (nat_le a room || nat_le n room) (λ e. grind arith) (λ e. grind arith)

-- some job fits where the smallest does
pub fits_is : (h : History) (j : Job) (q : List Job) (room : ℕ) → some_job_fits h (j ∷ q) room ≡ nat_le (least (map (λ (k : Job). size_of h k.file) (j ∷ q))) room
fits_is h j [] room = or_false (nat_le (size_of h j.file) room)
  where
    or_false : (b : Bool) → (b || false) ≡ b
    or_false true = refl
    or_false false = refl
fits_is h j (k ∷ q) room = ap (λ (b : Bool). nat_le (size_of h j.file) room || b) (fits_is h k q room) ∙ sym (either_low (size_of h j.file) (least (map (λ (i : Job). size_of h i.file) (k ∷ q))) room)

lens_are : (site : Site) (h : History) (way : Direction) (q : List Job) → map (λ (l : Line). l.len) (map (line_of site h way) q) ≡ map (λ (j : Job). size_of h j.file) q
lens_are site h way q = map_twice site h way (λ (l : Line). l.len) q

some_sums : ℕ → ℕ → ℕ → Job → ℕ → ℕ → ℕ → Option Sums
some_sums files bytes small oldest born priority age = Some (record { files = files; bytes = bytes; least = small; oldest = oldest; born = born; priority = priority; age = age })

same_sums : (f g b c l m : ℕ) (j : Job) (n p q a d : ℕ) → f ≡ g → b ≡ c → l ≡ m → p ≡ q → a ≡ d → some_sums f b l j n p a ≡ some_sums g c m j n q d
same_sums f g b c l m j n p q a d files bytes small priority age = cc

sums_are : (site : Site) (h : History) (way : Direction) (q : List Job) → line_sums (map (line_of site h way) q) ≡ sums_of site h way q
unfolding some_sums
sums_are site h way [] = refl
sums_are site h way (j ∷ q) =
    same_sums _ _ _ _ _ _ j (born_at h j) _ _ _ _ (files_are site h way (j ∷ q)) (bytes_are site h way (j ∷ q)) (ap least (lens_are site h way (j ∷ q))) (priority_is site h way (j ∷ q)) (age_is site h way (j ∷ q))

-- the sums of the lines of a queue are those of the queue
pub sums_tell : SumsTell
sums_tell site h way lines are key = ap line_sums (are key) ∙ sums_are site h way (queue_of site h way key)

-- and they tell whether some job of the queue fits
pub fits_tell : FitsTell
fits_tell site h way lines are key room = ap (fits_in room) (sums_tell site h way lines are key) ∙ by (queue_of site h way key)
  where
    by : (q : List Job) → fits_in room (sums_of site h way q) ≡ some_job_fits h q room
    by [] = refl
    by (j ∷ q) = sym (fits_is h j q room)
