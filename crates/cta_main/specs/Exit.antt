-- How the program ends, and which file it reads.
use Rattle.std.specs.Prelude.{◌≡◌, ℕ, List, [], ◌∷◌}
use Rattle.archive_opening.specs.declared.status.Status.{Status}
use Rattle.archive_opening.specs.declared.status.Status.TheVariants.{Ok, Usage, Site, Script, ReadFault, WriteFault, NoMemory, TooLong, ListenFault, JournalFault, JournalDamaged, JournalDiffers}

-- the number that the process ends with; 1, 10 and 11 are not used
abbrev pub exit_number : Status → ℕ
exit_number Ok = 0
exit_number Usage = 2
exit_number (Site rule item) = 3
exit_number (Script offset) = 4
exit_number ReadFault = 5
exit_number WriteFault = 6
exit_number NoMemory = 7
exit_number TooLong = 8
exit_number ListenFault = 9
exit_number JournalFault = 12
exit_number (JournalDamaged offset) = 13
exit_number (JournalDiffers entry) = 14

-- the number is that of a status of which this holds
abbrev pub IsNumberOf : (Status → Type 0) → ℕ → Type 0
IsNumberOf holds number = (status : Status) × holds status × (number ≡ exit_number status)

-- the word that names the site file where the words are `replay SITE`, and an empty one of other words
abbrev pub site_word : List (List ℕ) → List ℕ
site_word (word ∷ site ∷ []) = site
site_word _ = []
