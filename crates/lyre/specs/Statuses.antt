-- How a call ended, as the exit status of the program.
use Rattle.std.specs.Prelude.{ℕ}
use Rattle.lyre.specs.declared.plain.Ended.{Ended}
use Rattle.lyre.specs.declared.plain.Ended.TheVariants.{Done, Refused, Wrong}

abbrev pub status_of : Ended → ℕ
status_of Done = 0
status_of Refused = 1
status_of Wrong = 2
