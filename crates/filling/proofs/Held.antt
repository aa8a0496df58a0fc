-- Whether a length holds a value, by how the value was put where there is room for it; and what a read says of a value: what the conversion says, but
-- that a 9 has a length, since room takes a refusal as it is.
use Rattle.std.specs.Prelude.{Err, Ok, Result, is_ok}
use mathlib.Core.Path.{◌≡◌, refl, sym, ◌∙◌, ap, subst}
use mathlib.Core.Bool.{Bool, true, false}
use Prim.Native.Nat.{ℕ, zero, suc, ◌≤◌}
use native.Mathlib.Omega.{arith}
use borrow.Author.Tests.{le-leb}
use lib.Dec.{leb}
use lib.ListN.{length}
use Rattle.rules.specs.Outcome.{Outcome, done, refused, need, with_needed, needing, is_done, ◌>>=◌}
use Rattle.rules.specs.Outcome as outcome
use Rattle.rules.specs.Limits.{longest_alpha}
use Rattle.rules.specs.Lists.{Bytes, bytes_of}
use Rattle.rules.specs.Values.{Format as Meant, allowed, would_hold, converted_bytes, smallest_length, read_value}
use Rattle.rules.specs.Numbers.{refusal}
use Rattle.rules.specs.declared.Refusal.{Refusal}
use Rattle.rules.proofs.Steps.{not_done, not_both}
use Rattle.rules.proofs.Lengths.{strip_length}
use Rattle.value_formats.specs.Formats.{format_at}
use Rattle.value_formats.specs.declared.Format.{Format}
use Rattle.values.specs.Fits.{Converts, Convertible, converted_length}
use Rattle.values.proofs.Numbered.{longest_size}
use Rattle.values.proofs.Chosen.{asked_bytes}
use Rattle.filling.specs.Filling.{in_room, ended, placed, left_as, Matters, Filling}

-- ---- a value in room for every value

size_most : (n : ℕ) (s : Bytes) → n ≤ longest_alpha → length s ≤ longest_alpha → converted_length n s ≤ suc longest_alpha
unfolding converted_length
size_most zero s h k = omega (arith, strip_length s, k)
size_most (suc n) s h k = omega (arith, h)

in_most : {from to : Format} {n : ℕ} {s : Bytes} → Convertible from to n s → is_done (converted_bytes (format_at from) (format_at to) n s) ≡ true
    → length (bytes_of (converted_bytes (format_at from) (format_at to) n s)) ≤ suc longest_alpha
in_most {from} {to} {n} {s} a d =
    rw (← (asked_bytes a d).1) (size_most n s (longest_size to n a.length_there) (longest_size from (length s) a.size))

pub placed_done : (room at p : ℕ) (o : Outcome Bytes) → done p ≡ placed at (in_room room o) → is_done o ≡ true
unfolding in_room
placed_done room at p (done b) e = refl
placed_done room at p (refused k) e = absurd (not_done (sym e))

placed_refused : (room at : ℕ) (k : outcome.Refusal) (o : Outcome Bytes) → (is_done o ≡ true → length (bytes_of o) ≤ room) → refused k ≡ placed at (in_room room o) → is_done o ≡ false
unfolding in_room bytes_of
placed_refused room at k (done b) h e = absurd (tested (leb (length b) room) (le-leb (length b) room (h refl)) e)
  where
    tested : (t : Bool) → t ≡ true → refused k ≡ placed at (need t 7 >>= λ _. done b) → ⊥
    tested true w q = not_done q
    tested false w q = not_both w
placed_refused room at k (refused x) h e = refl

pub most_refused : {from to : Format} {n : ℕ} {s : Bytes} → Convertible from to n s → (at : ℕ) (k : outcome.Refusal)
    → refused k ≡ placed at (in_room (suc longest_alpha) (converted_bytes (format_at from) (format_at to) n s)) → is_done (converted_bytes (format_at from) (format_at to) n s) ≡ false
most_refused {from} {to} {n} {s} a at k e = placed_refused (suc longest_alpha) at k (converted_bytes (format_at from) (format_at to) n s) (in_most a) e

-- A length that is allowed holds what ends there.
pub held_is : {from to : Format} (n : ℕ) {s : Bytes} → Converts from to s → allowed (format_at to) n ≡ true → (at : ℕ) (r : Result ℕ Refusal)
    → ended r ≡ placed at (in_room (suc longest_alpha) (converted_bytes (format_at from) (format_at to) n s)) → is_ok r ≡ would_hold (format_at from) (format_at to) s n
unfolding would_hold
held_is {from} {to} n {s} g a at (Ok p) e = sym (rw (a, placed_done (suc longest_alpha) at p (converted_bytes (format_at from) (format_at to) n s) e))
held_is {from} {to} n {s} g a at (Err x) e =
    let c = g.0.1 in
    sym (rw (a, most_refused (record { size = c.size; length_there = a; value = c.value }) at (refusal x) e))

-- ---- a value that is read

needing_room : (n room : ℕ) (o : Outcome Bytes) → needing n (in_room room o) ≡ in_room room (needing n o)
unfolding in_room
needing_room n room (done b) = tested (leb (length b) room)
  where
    tested : (t : Bool) → needing n (need t 7 >>= λ _. done b) ≡ (need t 7 >>= λ _. done b)
    tested true = refl
    tested false = refl
needing_room n room (refused k) = refl

needing_placed : (n at : ℕ) (o : Outcome Bytes) → needing n (placed at o) ≡ placed at (needing n o)
needing_placed n at (done b) = refl
needing_placed n at (refused k) = refl

needing_left : (n at : ℕ) (write : Bool) (o : Outcome Bytes) (out : Bytes) → left_as write at (needing n o) out ≡ left_as write at o out
unfolding bytes_of
needing_left n at false o out = refl
needing_left n at true (done b) out = refl
needing_left n at true (refused k) out = refl

needing_matters : (n : ℕ) (write : Bool) (o : Outcome Bytes) → Matters write (needing n o) → Matters write o
needing_matters n write (done b) m = m
needing_matters n write (refused k) m = m

said : (n room at : ℕ) {write : Bool} {entry exit : Bytes} (o : Outcome Bytes) {r : (Result ℕ Refusal)} (s : Result ℕ Refusal) → ended s ≡ needing n (ended r)
    → Filling (in_room room o) at write entry exit r → Filling (in_room room (needing n o)) at write entry exit s
said n room at {write} {entry} {exit} o {r} s e f = subst (λ (p : Outcome Bytes). Filling p at write entry exit s) (needing_room n room o)
    (record {
      answer = e ∙ ap (λ (p : Outcome ℕ). needing n p) f.answer ∙ needing_placed n at (in_room room o);
      same = f.same;
      bytes = λ m. f.bytes (needing_matters n write (in_room room o) m) ∙ sym (needing_left n at write (in_room room o) entry);
    })

module _ (f g : Meant) (n : ℕ) (v : Bytes) (room at : ℕ) {write : Bool} {entry exit : Bytes} {r : (Result ℕ Refusal)} (q : Filling (in_room room (converted_bytes f g n v)) at write entry exit r) where
  pub read_at : {p : ℕ} → r ≡ Ok p → Filling (in_room room (read_value f g n v)) at write entry exit (Ok p)
  unfolding read_value
  read_at {p} e = said (smallest_length f g v) room at (converted_bytes f g n v) (Ok p) (ap (λ (x : Result ℕ Refusal). needing (smallest_length f g v) (ended x)) (sym e)) q

  pub read_refused : {k : Refusal} → r ≡ Err k → (x : Refusal) → refusal x ≡ with_needed (smallest_length f g v) (refusal k)
      → Filling (in_room room (read_value f g n v)) at write entry exit (Err x)
  unfolding read_value
  read_refused {k} e x h = said (smallest_length f g v) room at (converted_bytes f g n v) (Err x)
      (ap (λ (y : outcome.Refusal). refused y) h ∙ ap (λ (y : Result ℕ Refusal). needing (smallest_length f g v) (ended y)) (sym e)) q
