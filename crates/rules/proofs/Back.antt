-- A record as it should be, written, is read back as that record: what a writer wrote the reader takes, whatever stands after it.
use mathlib.Core.Path.{◌≡◌, refl}
use mathlib.Core.Bool.{Bool, true, false}
use mathlib.Core.List.{List, [], ◌∷◌, ◌++◌, map, append_assoc, append-nil}
use Prim.Native.Nat.{ℕ, ◌≤◌}
use lib.Dec.{le→leb}
use lib.ListN.{length}
use Rattle.rules.specs.Outcome.{done}
use Rattle.rules.specs.Limits.{greatest_count, longest_record}
use Rattle.rules.specs.Lists.{Bytes, nothing, same, join}
use Rattle.rules.specs.Table.{Field, Part}
use Rattle.rules.specs.Record.{Cell, Occurrence, Record, Reader, times, stored_count, counted, each, count_bytes, counted_bytes, each_bytes, stored_value, stored_cell, stored_part, stored, record_head, cell_bytes, part_bytes, body_bytes, record_bytes}
use Rattle.rules.proofs.Steps.{need_true}

-- every element of a list; two lists side by side
abbrev pub All : {X : Type 0} → (X → Type 0) → List X → Type 0
All P [] = Unit {0}
All P (x ∷ xs) = P x × All P xs

abbrev pub Beside : {Y X : Type 0} → (Y → X → Type 0) → List Y → List X → Type 0
Beside P [] [] = Unit {0}
Beside P [] (x ∷ xs) = ⊥
Beside P (y ∷ ys) [] = ⊥
Beside P (y ∷ ys) (x ∷ xs) = P y x × Beside P ys xs

abbrev pub Sized : Bool → ℕ → Type 0
Sized true n = n ≤ greatest_count
Sized false n = n ≡ 1

-- what a writer wrote, the reader takes
abbrev pub Back : {X : Type 0} → Reader X → (X → Bytes) → X → Type 0
Back one w x = (rest : Bytes) → one (w x ++ rest) ≡ done (x, rest)

pub times_back : {X : Type 0} (one : Reader X) (w : X → Bytes) (xs : List X) → All (Back one w) xs → (rest : Bytes) → times (length xs) one (join (map w xs) ++ rest) ≡ done (xs, rest)
unfolding times join
times_back one w [] a rest = refl
times_back one w (x ∷ xs) a rest = rw (append_assoc, a.0 (join (map w xs) ++ rest), times_back one w xs a.1 rest) refl

pub count_back : (n : ℕ) → n ≤ greatest_count → Back stored_count count_bytes n
unfolding stored_count count_bytes
count_back n h rest = rw (need_true _ 2 (le→leb n greatest_count h)) refl

pub counted_back : {X : Type 0} (one : Reader X) (w : X → Bytes) (c : Bool) (xs : List X) → Sized c (length xs) → All (Back one w) xs → Back (counted c one) (counted_bytes c w) xs
unfolding counted counted_bytes
counted_back one w true xs s a rest = rw (append_assoc, count_back (length xs) s (join (map w xs) ++ rest)) (times_back one w xs a rest)
counted_back one w false xs s a rest = rw (← s) (times_back one w xs a rest)

pub each_back : {X Y : Type 0} (one : Y → Reader X) (w : Y → X → Bytes) (ys : List Y) (xs : List X) → Beside (λ y x. Back (one y) (w y) x) ys xs → Back (each one ys) (each_bytes w ys) xs
unfolding each each_bytes
each_back one w [] [] a rest = refl
each_back one w [] (x ∷ xs) a rest = absurd a
each_back one w (y ∷ ys) [] a rest = absurd a
each_back one w (y ∷ ys) (x ∷ xs) a rest = rw (append_assoc, a.0 (each_bytes w ys xs ++ rest), each_back one w ys xs a.1 rest) refl

-- a record as it should be: counts in range, and every value in normal form, said by the reader of values
abbrev pub Stored : Field → Bytes → Type 0
Stored f v = Back (stored_value f.format f.size) (λ b. b) v

abbrev pub CellOk : Field → Cell → Type 0
CellOk f c = Sized f.multiple (length c) × All (Stored f) c

abbrev pub PartOk : Part → List Occurrence → Type 0
PartOk p os = Sized p.periodic (length os) × All (Beside CellOk p.members) os

abbrev pub RecordOk : List Part → Record → Type 0
RecordOk = Beside PartOk

pub all_map : {X : Type 0} (P Q : X → Type 0) → ((x : X) → P x → Q x) → (xs : List X) → All P xs → All Q xs
all_map P Q f [] a = tt
all_map P Q f (x ∷ xs) a = (f x a.0, all_map P Q f xs a.1)

pub beside_map : {Y X : Type 0} (P Q : Y → X → Type 0) → ((y : Y) (x : X) → P y x → Q y x) → (ys : List Y) (xs : List X) → Beside P ys xs → Beside Q ys xs
beside_map P Q f [] [] a = tt
beside_map P Q f [] (x ∷ xs) a = absurd a
beside_map P Q f (y ∷ ys) [] a = absurd a
beside_map P Q f (y ∷ ys) (x ∷ xs) a = (f y x a.0, beside_map P Q f ys xs a.1)

cell_back : (f : Field) (c : Cell) → CellOk f c → Back (stored_cell f) (cell_bytes f) c
unfolding stored_cell cell_bytes
cell_back f c a = counted_back (stored_value f.format f.size) (λ b. b) f.multiple c a.0 a.1

part_back : (p : Part) (os : List Occurrence) → PartOk p os → Back (stored_part p) (part_bytes p) os
unfolding stored_part part_bytes
part_back p os a = counted_back (each stored_cell p.members) (each_bytes cell_bytes p.members) p.periodic os a.0
    (all_map _ _ (λ o b. each_back stored_cell cell_bytes p.members o (beside_map _ _ cell_back p.members o b)) os a.1)

pub stored_back : (ps : List Part) (r : Record) → RecordOk ps r → length (record_bytes ps r) ≤ longest_record → stored ps (record_bytes ps r) ≡ done r
unfolding stored record_bytes body_bytes record_head nothing same
stored_back ps r a l =
    let q = rw append-nil at (each_back stored_part part_bytes ps r (beside_map _ _ part_back ps r a) []) in
    rw (need_true _ 2 (le→leb (length (record_bytes ps r)) longest_record l), q) refl
