-- Document 01, "Numbers returned": the number of each refusal of the code; and the length that it says (document 02, M-103).
use Rattle.std.specs.Prelude.{ℕ}
use Rattle.rules.specs.Outcome as rules
use Rattle.rules.specs.declared.Refusal.{Refusal}
use Rattle.rules.specs.declared.Refusal.TheVariants.{BadTable, BadRecord, BadSyntax, UnknownName, UseRule, NamedTwice, BeyondBuffer, BadValue, OutOfRange, NoRoom}

-- "1 table not as above" to "10 new record over 4,096 bytes or over the lent room".
abbrev pub refusal_number : Refusal → ℕ
refusal_number BadTable = 1
refusal_number BadRecord = 2
refusal_number BadSyntax = 3
refusal_number UnknownName = 4
refusal_number UseRule = 5
refusal_number NamedTwice = 6
refusal_number BeyondBuffer = 7
refusal_number BadValue = 8
refusal_number (OutOfRange n) = 9
refusal_number NoRoom = 10

-- "With 9, a read shall also return the smallest length .. All other answers carry 0 there."
abbrev pub refusal_length : Refusal → ℕ
refusal_length BadTable = 0
refusal_length BadRecord = 0
refusal_length BadSyntax = 0
refusal_length UnknownName = 0
refusal_length UseRule = 0
refusal_length NamedTwice = 0
refusal_length BeyondBuffer = 0
refusal_length BadValue = 0
refusal_length (OutOfRange n) = n
refusal_length NoRoom = 0

abbrev pub refusal : Refusal → rules.Refusal
refusal x = record { number = refusal_number x; length = refusal_length x }
