-- What was read from bytes, written again, is those bytes: each reader is sound, and so are readers one after the other.
use mathlib.Core.Path.{◌≡◌, refl, sym, ◌∙◌, ap}
use mathlib.Core.Bool.{Bool, true, false, ◌&&◌}
use mathlib.Core.List.{List, [], ◌∷◌, ◌++◌, map, append_assoc, append-nil}
use Prim.Native.Nat.{ℕ, zero, suc, ◌-◌, ◌≤◌}
use native.Mathlib.Omega.{arith}
use lib.Dec.{leb, leb→le}
use lib.ListN.{length, take, drop, take-append-drop}
use Rattle.rules.specs.Outcome.{done}
use Rattle.rules.specs.Limits.{greatest_count, longest_record, longest_alpha}
use Rattle.rules.specs.Lists.{Bytes, nothing, same, cut, join}
use Rattle.rules.specs.Values.{Format, first_value, with_length_byte, in_normal_form}
use Rattle.rules.specs.Table.{Part}
use Rattle.rules.specs.Record.{Record, Reader, times, stored_count, counted, each, count_bytes, counted_bytes, each_bytes, stored_value, stored_cell, stored_part, stored, record_head, cell_bytes, part_bytes, body_bytes, record_bytes}
use Rattle.rules.proofs.Steps.{nothing_eq, done_inj, not_done, from_need, from_as, from_bind, from_done, and_left, same_eq}

-- what a reader took is what the writer writes
abbrev pub Sound : {X : Type 0} → Reader X → (X → Bytes) → Type 0
Sound {X} one w = (bs : Bytes) (x : X) (rest : Bytes) → one bs ≡ done (x, rest) → bs ≡ w x ++ rest

pub times_sound : {X : Type 0} (one : Reader X) (w : X → Bytes) → Sound one w →
    (n : ℕ) (bs : Bytes) (xs : List X) (rest : Bytes) → times n one bs ≡ done (xs, rest) → (length xs ≡ n) × (bs ≡ join (map w xs) ++ rest)
unfolding times join
times_sound one w s zero bs xs rest p = from_done p λ e f. rw (← e, f) (refl, refl)
times_sound one w s (suc n) bs xs rest p =
    from_bind (one bs) _ p λ x h k.
    from_bind (times n one x.1) _ k λ ys h₂ k₂.
    from_done k₂ λ e f.
    let (l, g) = times_sound one w s n x.1 ys.0 ys.1 h₂ in
    let g₂ = s bs x.0 x.1 h in
    rw (← e, ← f) (ap suc l, g₂ ∙ rw (g, append_assoc) refl)

-- A count that was read is not over its limit, and its bytes stand before the rest.
pub count_sound : (bs : Bytes) (n : ℕ) (rest : Bytes) → stored_count bs ≡ done (n, rest) → (n ≤ greatest_count) × (bs ≡ count_bytes n ++ rest)
unfolding stored_count count_bytes
count_sound [] n rest p = absurd (not_done p)
count_sound (m ∷ bs) n rest p =
    from_need (leb m greatest_count) 2 _ p λ t k.
    from_done k λ e f.
    rw (← e, f) (leb→le m greatest_count t, refl)

pub counted_sound : {X : Type 0} (one : Reader X) (w : X → Bytes) (c : Bool) → Sound one w → Sound (counted c one) (counted_bytes c w)
unfolding counted counted_bytes
counted_sound one w false s bs xs rest p = (times_sound one w s 1 bs xs rest p).1
counted_sound one w true s bs xs rest p =
    from_bind (stored_count bs) _ p λ n h k.
    let (l, g) = times_sound one w s n.0 n.1 xs rest k in
    (count_sound bs n.0 n.1 h).1 ∙ rw (l, g, append_assoc) refl

pub each_sound : {X Y : Type 0} (one : Y → Reader X) (w : Y → X → Bytes) → ((y : Y) → Sound (one y) (w y)) →
    (ys : List Y) → Sound (each one ys) (each_bytes w ys)
unfolding each each_bytes
each_sound one w s [] bs xs rest p = from_done p λ e f. f
each_sound one w s (y ∷ ys) bs xs rest p =
    from_bind (one y bs) _ p λ x h k.
    from_bind (each one ys x.1) _ k λ zs h₂ k₂.
    from_done k₂ λ e f.
    let g = each_sound one w s ys x.1 zs.0 zs.1 h₂ in
    let g₂ = s y bs x.0 x.1 h in
    rw (← e, ← f) (g₂ ∙ rw (g, append_assoc) refl)

pub cut_sound : (k n : ℕ) (bs xs rest : Bytes) → cut k n bs ≡ done (xs, rest) → (length xs ≡ n) × (bs ≡ xs ++ rest)
unfolding cut
cut_sound k zero bs xs rest p = from_done p λ e f. rw (← e, f) (refl, refl)
cut_sound k (suc n) [] xs rest p = absurd (not_done p)
cut_sound k (suc n) (b ∷ bs) xs rest p =
    from_bind (cut k n bs) _ p λ r h j.
    from_done j λ e f.
    let (l, g) = cut_sound k n bs r.0 r.1 h in
    rw (← e, ← f, g) (ap suc l, refl)

pub first_sound : (n : ℕ) (bs c rest : Bytes) → first_value n bs ≡ done (c, rest) → bs ≡ with_length_byte n c ++ rest
unfolding first_value with_length_byte
first_sound zero [] c rest p = absurd (not_done p)
first_sound zero (n ∷ bs) c rest p =
    from_need (leb 1 n && leb n (suc longest_alpha)) 8 _ p λ t k.
    let (l, g) = cut_sound 7 (n - 1) bs c rest k in
    let o = leb→le 1 n (and_left (leb 1 n) (leb n (suc longest_alpha)) t) in
    let m : n ≡ suc (length c) = omega arith in
    rw (m, g) refl
first_sound (suc n) bs c rest p = (cut_sound 7 (suc n) bs c rest p).1

pub value_sound : (f : Format) (n : ℕ) → Sound (stored_value f n) (λ v. v)
unfolding stored_value
value_sound f n bs v rest p =
    from_as 2 (first_value n bs) _ p λ r h k.
    from_need (in_normal_form f n r.0) 2 _ k λ t k₂.
    from_done k₂ λ e g.
    let o = first_sound n bs r.0 r.1 h in
    cc

-- the bytes of a record that was read are the bytes that it was read from
pub stored_sound : (ps : List Part) (bs : Bytes) (r : Record) → stored ps bs ≡ done r → bs ≡ record_bytes ps r
unfolding stored record_bytes body_bytes part_bytes cell_bytes stored_part stored_cell
stored_sound ps bs r p =
    from_need (leb (length bs) longest_record) 2 _ p λ t₀ k.
    from_need (same (take 5 bs) record_head) 2 _ k λ t k₂.
    from_bind (each stored_part ps (drop 5 bs)) _ k₂ λ x h k₃.
    let q = each_sound stored_part part_bytes
    (λ y. counted_sound _ _ y.periodic (each_sound stored_cell cell_bytes (λ f. counted_sound _ _ f.multiple (value_sound f.format f.size)) y.members))
    ps (drop 5 bs) x.0 x.1 h in
    let e = same_eq (take 5 bs) record_head t in
    from_need (nothing x.1) 2 _ k₃ λ t₂ k₄.
    let z = nothing_eq x.1 t₂ in
    let d = done_inj k₄ in
    sym (take-append-drop 5 bs) ∙ rw (e, q, z, d, append-nil) refl
