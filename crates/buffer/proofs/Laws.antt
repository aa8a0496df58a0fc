-- The laws of `splice`. A place stands as a number of its own with an equation, so that a caller closes it by `omega arith`.
use mathlib.Core.Path.{◌≡◌, refl, sym, ap, ◌∙◌}
use Prim.Native.Nat.{ℕ, zero, suc, ◌+◌, ◌-◌, ◌≤◌, ◌<◌}
use native.Mathlib.Nat.{le_of_suc-le-suc, not-suc-le-zero, suc-add, zero-add, add-zero}
use native.Mathlib.Numerals.{add-one}
use native.Mathlib.Omega.{arith}
use mathlib.Core.List.{List, [], ◌∷◌, ◌++◌}
use lib.ListN.{length, take, drop, get_or, set, length-append, length-take, length-drop, take-append-drop, drop_of_length-le}
use lib.Seq.{take_at, drop-cons, take-suc, take_all, length-take-le}
use Rattle.buffer.specs.Splice.{splice}

-- nothing written
pub splice_nil : (at : ℕ) (out : List ℕ) → splice at [] out ≡ out
unfolding splice
splice_nil at out = take-append-drop at out

-- a write that fits keeps the length
pub length_splice : (at : ℕ) (bs out : List ℕ) → at + length bs ≤ length out → length (splice at bs out) ≡ length out
unfolding splice
length_splice at bs out h = simp (length-append, length-take, length-drop) (omega arith)

-- one store is a write of one
pub set_splice : (out : List ℕ) (p v : ℕ) → p < length out → set out p v ≡ splice p (v ∷ []) out
unfolding splice
set_splice [] p v h = absurd (not-suc-le-zero h)
set_splice (x ∷ out) zero v h = refl
set_splice (x ∷ out) (suc p) v h = ap (λ (l : List ℕ). x ∷ l) (set_splice out p v (le_of_suc-le-suc h))

front : (a b out : List ℕ) → length a ≤ length out → splice (length a) b (splice 0 a out) ≡ splice 0 (a ++ b) out
unfolding splice
front [] b out h = refl
front (x ∷ a) b [] h = absurd (not-suc-le-zero h)
front (x ∷ a) b (y ∷ out) h = ap (λ (l : List ℕ). x ∷ l) (front a b out (le_of_suc-le-suc h))

later : (at : ℕ) (a b out : List ℕ) → at + length a ≤ length out → splice (at + length a) b (splice at a out) ≡ splice at (a ++ b) out
unfolding splice
later zero a b out h = rw zero-add (front a b out (omega arith))
later (suc at) a b [] h = absurd (not-suc-le-zero (rw suc-add at h))
later (suc at) a b (x ∷ out) h = rw suc-add (ap (λ (l : List ℕ). x ∷ l) (later at a b out (omega arith)))

-- two writes, the second where the first ends, are one write of both
pub splice_then : (at : ℕ) (a b out : List ℕ) (q : ℕ) → q ≡ at + length a → at + length a ≤ length out
    → splice q b (splice at a out) ≡ splice at (a ++ b) out
splice_then at a b out q e h = rw e (later at a b out h)

-- the same, as a caller of two functions that write has it
pub splice_chain : (at : ℕ) (a b out₀ out₁ out₂ : List ℕ) (q : ℕ) → out₁ ≡ splice at a out₀ → out₂ ≡ splice q b out₁
    → q ≡ at + length a → at + length a ≤ length out₀ → out₂ ≡ splice at (a ++ b) out₀
splice_chain at a b out₀ out₁ out₂ q e1 e2 e h = e2 ∙ rw e1 (splice_then at a b out₀ q e h)

-- a turn of a loop that writes piece after piece: what was still to write at the start is a, written now, and then b
pub splice_rest : (at : ℕ) (a b out out' whole : List ℕ) (q : ℕ) → splice at (a ++ b) out ≡ whole → out' ≡ splice at a out
    → q ≡ at + length a → at + length a ≤ length out → splice q b out' ≡ whole
splice_rest at a b out out' whole q e e' eq h = rw e' (splice_then at a b out q eq h ∙ e)

-- a store where a write ends: a loop that goes up
pub splice_push : (at : ℕ) (a out : List ℕ) (q v : ℕ) → q ≡ at + length a → q < length out
    → set (splice at a out) q v ≡ splice at (a ++ (v ∷ [])) out
splice_push at a out q v e h =
    set_splice (splice at a out) q v (rw (length_splice at a out (omega arith)) h) ∙ splice_then at a (v ∷ []) out q e (omega arith)

down : (p : ℕ) (bs out : List ℕ) (v : ℕ) → p < length out → set (splice (suc p) bs out) p v ≡ splice p (v ∷ bs) out
unfolding splice
down p bs [] v h = absurd (not-suc-le-zero h)
down zero bs (x ∷ out) v h = refl
down (suc p) bs (x ∷ out) v h = ap (λ (l : List ℕ). x ∷ l) (down p bs out v (le_of_suc-le-suc h))

-- a store just before a write: a loop that goes down
pub splice_down : (p : ℕ) (bs out : List ℕ) (q v : ℕ) → q ≡ p + 1 → p < length out
    → set (splice q bs out) p v ≡ splice p (v ∷ bs) out
splice_down p bs out q v e h = rw (e, add-one) (down p bs out v h)

-- ---- a turn of a loop that writes the list t from `at`, and its end

-- going up: the turn that stores t's byte i
pub turn_up : (at : ℕ) (t out₀ out : List ℕ) (i q v : ℕ) → out ≡ splice at (take i t) out₀
    → i < length t → at + length t ≤ length out₀ → q ≡ at + i → v ≡ get_or t i 0
    → set out q v ≡ splice at (take (i + 1) t) out₀
turn_up at t out₀ out i q v e h k eq ev =
    let l : length (take i t) ≡ i = length-take-le i t (omega arith) in
    rw (e, ev, splice_push at (take i t) out₀ q (get_or t i 0) (omega arith) (omega arith), add-one, take-suc t i 0 h)

pub done_up : (at : ℕ) (t out₀ out : List ℕ) (i : ℕ) → out ≡ splice at (take i t) out₀ → length t ≤ i → out ≡ splice at t out₀
done_up at t out₀ out i e h = rw (← take_all i t h) e

-- going down: the turn that stores t's byte j, those after it being written
pub turn_down : (at : ℕ) (t out₀ out : List ℕ) (j m q v : ℕ) → out ≡ splice (at + m) (drop m t) out₀
    → m ≡ j + 1 → j < length t → at + length t ≤ length out₀ → q ≡ at + j → v ≡ get_or t j 0
    → set out q v ≡ splice (at + j) (drop j t) out₀
turn_down at t out₀ out j m q v e em h k eq ev =
    rw (e, ev, eq, splice_down (at + j) (drop m t) out₀ (at + m) (get_or t j 0) (omega arith) (omega arith), em, add-one, ← drop-cons t j 0 h)

pub start_down : (at : ℕ) (t out : List ℕ) (m : ℕ) → length t ≤ m → out ≡ splice (at + m) (drop m t) out
start_down at t out m h = rw (drop_of_length-le t h) (sym (splice_nil (at + m) out))

pub done_down : (at : ℕ) (t out₀ out : List ℕ) (j : ℕ) → j ≤ 0 → out ≡ splice (at + j) (drop j t) out₀ → out ≡ splice at t out₀
done_down at t out₀ out zero h e = rw add-zero at e
done_down at t out₀ out (suc j) h e = absurd (not-suc-le-zero h)

-- ---- a part

-- how many elements a part `&s[from..to]` has
pub length_part : (s : List ℕ) (from to : ℕ) → from ≤ to → to ≤ length s → length (take (to - from) (drop from s)) ≡ to - from
length_part s from to h k = simp (length-take, length-drop) (omega arith)

-- what was written is read back
pub take_splice : (bs out : List ℕ) (n : ℕ) → n ≡ length bs → take n (splice 0 bs out) ≡ bs
unfolding splice
take_splice bs out n e = take_at bs _ n (sym e)
