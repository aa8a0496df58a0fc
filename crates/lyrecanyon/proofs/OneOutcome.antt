-- Any two outcomes that a contract allows are equal: number, lengths and bytes are those of the rules, and a number and lengths have one answer.
use Rattle.std.specs.Prelude.{Err, Ok, Result}
use Rattle.rules.specs.declared.Refusal.{Refusal}
use mathlib.Core.Path.{◌≡◌, refl, sym, ◌∙◌}
use mathlib.Core.List.{[], ◌∷◌}
use Prim.Native.Nat.{ℕ}
use lib.ListN.{get_or}
use Rattle.rules.specs.Outcome.{Outcome}
use Rattle.rules.specs.Lists.{Bytes}
use Rattle.rules.specs.declared.Refusal.TheVariants.{BadTable, BadRecord, BadSyntax, UnknownName, UseRule, NamedTwice, BeyondBuffer, BadValue, OutOfRange, NoRoom}
use Rattle.lyrecanyon.specs.Answers.{answer_number, answer_length, answer_needed, Returns, Settled, Exported, ExportedNeeding, Applied}

-- What a contract settles: the number, the length, every byte of the lent slice, and the length that is needed.
one_outcome : {o : Outcome Bytes} {entry a b : Bytes} {n m k l i j : ℕ} → Returns o entry a n k i → Returns o entry b m l j → (n ≡ m) × (k ≡ l) × (a ≡ b) × (i ≡ j)
one_outcome x y = (x.number_is ∙ sym y.number_is, x.size_is ∙ sym y.size_is, x.bytes_are ∙ sym y.bytes_are, x.needed_is ∙ sym y.needed_is)

-- The answer with a number, a length and one that is needed.
by_numbers : ℕ → ℕ → ℕ → Result ℕ Refusal
by_numbers n l i =
    get_or (Ok l ∷ Err BadTable ∷ Err BadRecord ∷ Err BadSyntax ∷ Err UnknownName ∷ Err UseRule ∷ Err NamedTwice
    ∷ Err BeyondBuffer ∷ Err BadValue ∷ Err (OutOfRange i) ∷ Err NoRoom ∷ []) n (Ok l)

back : (r : Result ℕ Refusal) → by_numbers (answer_number r) (answer_length r) (answer_needed r) ≡ r
unfolding by_numbers
back (Ok n) = refl
back (Err BadTable) = refl
back (Err BadRecord) = refl
back (Err BadSyntax) = refl
back (Err UnknownName) = refl
back (Err UseRule) = refl
back (Err NamedTwice) = refl
back (Err BeyondBuffer) = refl
back (Err BadValue) = refl
back (Err (OutOfRange n)) = refl
back (Err NoRoom) = refl

-- Of a service: one answer, and one slice.
pub one_answer : {o : Outcome Bytes} {entry a b : Bytes} {r s : (Result ℕ Refusal)} → Settled o entry a r → Settled o entry b s → (r ≡ s) × (a ≡ b)
one_answer {r = r} {s} x y =
    let (n, l, e, i) = one_outcome x y in
    (sym (back r) ∙ rw (n, l, i) (back s), e)

-- Of its export to C: one number, one length used, and one slice.
pub one_export : {o : Outcome Bytes} {entry a b : Bytes} {used also n m : ℕ} → Exported o entry a used n → Exported o entry b also m → (n ≡ m) × (used ≡ also) × (a ≡ b)
one_export x y = let (n, l, e, i) = one_outcome x y in (n, l, e)

-- The same with the length that is needed.
pub one_needing : {o : Outcome Bytes} {entry a b : Bytes} {used also k l n m : ℕ} → ExportedNeeding o entry a used k n → ExportedNeeding o entry b also l m → (n ≡ m) × (used ≡ also) × (a ≡ b) × (k ≡ l)
one_needing x y = one_outcome x y

-- Of the update in place as C has it: one number, one length of the record, and one slice.
pub one_applied : {o : Outcome Bytes} {entry a b : Bytes} {used k l n m : ℕ} → Applied o entry a used k n → Applied o entry b used l m → (n ≡ m) × (k ≡ l) × (a ≡ b)
one_applied x y = (x.number_is ∙ sym y.number_is, x.used_is ∙ sym y.used_is, x.bytes_are ∙ sym y.bytes_are)
