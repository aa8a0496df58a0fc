-- What is read from bytes is a record as it should be: counts in range, every value stored as its reader takes it.
use mathlib.Core.Path.{◌≡◌, refl, ap}
use mathlib.Core.Bool.{Bool, true, false, ◌&&◌}
use mathlib.Core.List.{List, [], ◌∷◌, ◌++◌}
use Prim.Native.Nat.{ℕ, zero, suc, ◌-◌}
use native.Mathlib.Omega.{arith}
use lib.Dec.{leb, leb→le}
use lib.ListN.{length, take, drop}
use Rattle.rules.specs.Outcome.{done}
use Rattle.rules.specs.Limits.{longest_record, longest_alpha}
use Rattle.rules.specs.Lists.{Bytes, nothing, same, cut}
use Rattle.rules.specs.Values.{first_value, with_length_byte, in_normal_form}
use Rattle.rules.specs.Table.{Field, Part}
use Rattle.rules.specs.Record.{Record, Reader, times, stored_count, counted, each, stored_value, stored_cell, stored_part, stored, record_head}
use Rattle.rules.proofs.Steps.{from_bind, from_need, from_as, from_done, done_inj, not_done, and_left, need_true}
use Rattle.rules.proofs.Readers.{count_sound, cut_sound}
use Rattle.rules.proofs.Back.{All, Beside, Sized, Stored, CellOk, PartOk, RecordOk}

-- whatever a reader takes has the property
abbrev Keeps : {X : Type 0} → (X → Type 0) → Reader X → Type 0
Keeps {X} P one = (bs : Bytes) (x : X) (rest : Bytes) → one bs ≡ done (x, rest) → P x

times_keeps : {X : Type 0} (P : X → Type 0) (one : Reader X) → Keeps P one → (n : ℕ) (bs : Bytes) (xs : List X) (rest : Bytes) →
    times n one bs ≡ done (xs, rest) → (length xs ≡ n) × All P xs
unfolding times
times_keeps P one s zero bs xs rest p = from_done p λ e f. rw (← e) (refl, tt)
times_keeps P one s (suc n) bs xs rest p =
    from_bind (one bs) _ p λ x h k.
    from_bind (times n one x.1) _ k λ ys h₂ k₂.
    from_done k₂ λ e f.
    let (l, a) = times_keeps P one s n x.1 ys.0 ys.1 h₂ in
    rw (← e) (ap suc l, (s bs x.0 x.1 h, a))

counted_keeps : {X : Type 0} (P : X → Type 0) (one : Reader X) (c : Bool) → Keeps P one → Keeps (λ xs. Sized c (length xs) × All P xs) (counted c one)
unfolding counted
counted_keeps P one false s bs xs rest p = times_keeps P one s 1 bs xs rest p
counted_keeps P one true s bs xs rest p =
    from_bind (stored_count bs) _ p λ n h k.
    let (l, a) = times_keeps P one s n.0 n.1 xs rest k in
    (let m = (count_sound bs n.0 n.1 h).0 in omega arith, a)

each_keeps : {X Y : Type 0} (P : Y → X → Type 0) (one : Y → Reader X) → ((y : Y) → Keeps (P y) (one y)) → (ys : List Y) → Keeps (Beside P ys) (each one ys)
unfolding each
each_keeps P one s [] bs xs rest p = from_done p λ e f. rw (← e) tt
each_keeps P one s (y ∷ ys) bs xs rest p =
    from_bind (one y bs) _ p λ x h k.
    from_bind (each one ys x.1) _ k λ zs h₂ k₂.
    from_done k₂ λ e f.
    rw (← e) (s y bs x.0 x.1 h, each_keeps P one s ys x.1 zs.0 zs.1 h₂)

pub cut_back : (k : ℕ) (xs rest : Bytes) → cut k (length xs) (xs ++ rest) ≡ done (xs, rest)
unfolding cut
cut_back k [] rest = refl
cut_back k (x ∷ xs) rest = rw (cut_back k xs rest) refl

-- a value that was read once is read again before any bytes
first_back : (n : ℕ) (bs c rest : Bytes) → first_value n bs ≡ done (c, rest) → (more : Bytes) → first_value n (with_length_byte n c ++ more) ≡ done (c, more)
unfolding first_value with_length_byte
first_back zero [] c rest p more = absurd (not_done p)
first_back zero (n ∷ bs) c rest p more =
    from_need (leb 1 n && leb n (suc longest_alpha)) 8 _ p λ t k.
    let (l, g) = cut_sound 7 (n - 1) bs c rest k in
    let h = leb→le 1 n (and_left (leb 1 n) (leb n (suc longest_alpha)) t) in
    let m : n ≡ suc (length c) = omega arith in
    let e : suc (length c) - 1 ≡ length c = omega arith in
    rw (← m, need_true (leb 1 n && leb n (suc longest_alpha)) 8 t, m, e) (cut_back 7 c more)
first_back (suc n) bs c rest p more = let (l, g) = cut_sound 7 (suc n) bs c rest p in rw (← l) (cut_back 7 c more)

value_keeps : (f : Field) → Keeps (Stored f) (stored_value f.format f.size)
unfolding stored_value
value_keeps f bs v rest p more =
    from_as 2 (first_value f.size bs) _ p λ r h k.
    from_need (in_normal_form f.format f.size r.0) 2 _ k λ t k₂.
    from_done k₂ λ e g.
    rw (← e, first_back f.size bs r.0 r.1 h more, need_true (in_normal_form f.format f.size r.0) 2 t) refl

pub stored_ok : (ps : List Part) (bs : Bytes) (r : Record) → stored ps bs ≡ done r → RecordOk ps r
unfolding stored stored_part stored_cell
stored_ok ps bs r p =
    from_need (leb (length bs) longest_record) 2 _ p λ t₀ k.
    from_need (same (take 5 bs) record_head) 2 _ k λ t k₂.
    from_bind (each stored_part ps (drop 5 bs)) _ k₂ λ x h k₃.
    from_need (nothing x.1) 2 _ k₃ λ t₂ k₄.
    rw (← done_inj k₄) (each_keeps PartOk stored_part
    (λ y. counted_keeps (Beside CellOk y.members) _ y.periodic (each_keeps CellOk stored_cell (λ f. counted_keeps (Stored f) _ f.multiple (value_keeps f)) y.members))
    ps (drop 5 bs) x.0 x.1 h)
