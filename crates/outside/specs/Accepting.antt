-- What a door does where the machine gives it no connection.
use Rattle.std.specs.Prelude.{ℤ, pos, Bool, ◌||◌, if◌then◌else◌, Some, None}
use Rattle.std.specs.Ordering.{int_eq}
use Rattle.std.specs.declared.option.Option.{Option}
use Rattle.outside.specs.declared.accepting.AfterFault.{AfterFault}
use Rattle.outside.specs.declared.accepting.AfterFault.TheVariants as after

-- a caller is gone, or a signal came: EINTR, EPROTO and ECONNABORTED of Linux
abbrev pub is_passing : ℤ → Bool
is_passing code = int_eq code (pos 4) || (int_eq code (pos 71) || int_eq code (pos 103))

-- too many files are open: ENFILE and EMFILE of Linux
abbrev pub is_crowded : ℤ → Bool
is_crowded code = int_eq code (pos 23) || int_eq code (pos 24)

-- by the number of the machine's error
abbrev pub after_number : ℤ → AfterFault
after_number code = if is_passing code then after.Again else if is_crowded code then after.Pause else after.Tell

-- an error without a number is none of the machine's
abbrev pub after_of : Option ℤ → AfterFault
after_of None = after.Tell
after_of (Some code) = after_number code
