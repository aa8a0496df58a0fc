-- What an answer says, by document 01, "Numbers returned", and what a service leaves in the slice that was lent to it.
use Rattle.std.specs.Prelude.{◌≡◌, ◌++◌, ℕ, length, drop, Err, Ok, Result}
use Rattle.rules.specs.declared.Refusal.{Refusal}
use Rattle.rules.specs.Outcome.{Outcome, done, refused}
use Rattle.rules.specs.Lists.{Bytes, bytes_of}
use Rattle.rules.specs.Numbers.{refusal_number, refusal_length}

-- "0: done; the length used is returned"; "A refusal returns length 0".
abbrev pub answer_number : Result ℕ Refusal → ℕ
answer_number (Ok n) = 0
answer_number (Err x) = refusal_number x

abbrev pub answer_length : Result ℕ Refusal → ℕ
answer_length (Ok n) = n
answer_length (Err x) = 0

-- "With 9, a read shall also return the smallest length .. All other answers carry 0 there."
abbrev pub answer_needed : Result ℕ Refusal → ℕ
answer_needed (Ok n) = 0
answer_needed (Err x) = refusal_length x

-- The number of an outcome of the rules, and its length of that kind.
abbrev pub outcome_number : {A : Type 0} → Outcome A → ℕ
outcome_number (done a) = 0
outcome_number (refused x) = x.number

abbrev pub outcome_needed : {A : Type 0} → Outcome A → ℕ
outcome_needed (done a) = 0
outcome_needed (refused x) = x.length

-- What a service returns, and the lent slice after it, are an outcome's: its number, its lengths, and every byte. "A refusal .. changes no
-- byte. Success writes the returned length from the start and no byte after."
pub record Returns (o : Outcome Bytes) (entry exit : Bytes) (number size needed : ℕ) : Type 0 where
  pub number_is : number ≡ outcome_number o
  pub size_is : size ≡ length (bytes_of o)
  pub bytes_are : exit ≡ bytes_of o ++ drop (length (bytes_of o)) entry
  pub needed_is : needed ≡ outcome_needed o

-- The same of an answer.
abbrev pub Settled : Outcome Bytes → Bytes → Bytes → Result ℕ Refusal → Type 0
Settled o entry exit r = Returns o entry exit (answer_number r) (answer_length r) (answer_needed r)

-- The same as C has it: the length used is written, and the number returned; and with the length that is needed.
abbrev pub Exported : Outcome Bytes → Bytes → Bytes → ℕ → ℕ → Type 0
Exported o entry exit used number = Returns o entry exit number used (outcome_needed o)

abbrev pub ExportedNeeding : Outcome Bytes → Bytes → Bytes → ℕ → ℕ → ℕ → Type 0
ExportedNeeding o entry exit used needed number = Returns o entry exit number used needed

-- The length of a record after an update in place: that of the new record, or where the update is refused the one that it had.
abbrev pub length_left : Outcome Bytes → ℕ → ℕ
length_left (done b) used = length b
length_left (refused n) used = used

-- An update in place as C has it: the number is returned, and the slice and the length of the record in it are the outcome's.
pub record Applied (o : Outcome Bytes) (entry exit : Bytes) (used used' number : ℕ) : Type 0 where
  pub number_is : number ≡ outcome_number o
  pub used_is : used' ≡ length_left o used
  pub bytes_are : exit ≡ bytes_of o ++ drop (length (bytes_of o)) entry
