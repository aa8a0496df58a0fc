-- A loop over outcomes: what is left of them, from where it stands, ends and writes as the whole does from its start. A turn takes some
-- off the front, a stop is their refusal, and the end is that none is left.
use Rattle.std.specs.Prelude.{Err, Ok, Result}
use mathlib.Core.Path.{◌≡◌, refl, sym, ◌∙◌, ap}
use mathlib.Core.Bool.{Bool, true, false}
use mathlib.Core.List.{List, [], ◌∷◌, ◌++◌, append_assoc}
use Prim.Native.Nat.{ℕ, ◌+◌, ◌-◌, ◌≤◌}
use native.Mathlib.Nat.{sub-zero, add-zero}
use native.Mathlib.Omega.{arith}
use lib.Dec.{leb, leb→le}
use lib.ListN.{length, length-append}
use Rattle.rules.specs.Outcome.{Outcome, done, refused, ◌>>=◌, is_done}
use Rattle.rules.specs.Outcome as outcome
use Rattle.rules.specs.Lists.{Bytes, bytes_of}
use Rattle.rules.specs.Numbers.{refusal}
use Rattle.rules.specs.declared.Refusal.{Refusal}
use Rattle.rules.proofs.Steps.{from_bind, from_need, need_true, done_inj, refused_inj, not_done, by_test, by_outcome, not_both}
use Rattle.buffer.specs.Splice.{splice}
use Rattle.buffer.proofs.Laws.{splice_nil, splice_then}
use Rattle.filling.specs.Filling.{ended, placed, left_as, Matters, together, Filling, Continues}

-- Bytes put before an outcome's bytes.
abbrev pub outcome_before : Bytes → Outcome Bytes → Outcome Bytes
outcome_before a o = o >>= λ b. done (a ++ b)

before_none : (o : Outcome Bytes) → outcome_before [] o ≡ o
before_none (done b) = refl
before_none (refused k) = refl

before_both : (a b : Bytes) (o : Outcome Bytes) → outcome_before a (outcome_before b o) ≡ outcome_before (a ++ b) o
before_both a b (done c) = ap done (sym (append_assoc a b c))
before_both a b (refused k) = refl

-- Outcomes in two runs.
pub together_length : (room : ℕ) (os : List (Outcome Bytes)) (bs : Bytes) → together room os ≡ done bs → length bs ≤ room
unfolding together
together_length room [] bs p = let e = done_inj p in rw (← e) (omega arith)
together_length room (done b ∷ os) bs p =
    from_need (leb (length b) room) 7 _ p λ t k.
    from_bind (together (room - length b) os) _ k λ cs h k₂.
    let l = together_length (room - length b) os cs h in
    let m = leb→le (length b) room t in
    let e = done_inj k₂ in
    rw (← e, length-append) (omega arith)
together_length room (refused n ∷ os) bs p = absurd (not_done p)

pub append_on : (room : ℕ) (xs ys : List (Outcome Bytes)) (a : Bytes) → together room xs ≡ done a → together room (xs ++ ys) ≡ outcome_before a (together (room - length a) ys)
unfolding together
append_on room [] ys a p = rw (← done_inj p, sub-zero) (sym (before_none (together room ys)))
append_on room (done b ∷ xs) ys a p =
    from_need (leb (length b) room) 7 _ p λ t k.
    from_bind (together (room - length b) xs) _ k λ cs h k₂.
    let e = done_inj k₂ in
    let m : room - length (b ++ cs) ≡ room - length b - length cs = rw length-append (omega arith) in
    rw (need_true (leb (length b) room) 7 t, append_on (room - length b) xs ys cs h, ← e, m) (before_both b cs (together (room - length b - length cs) ys))
append_on room (refused n ∷ xs) ys a p = absurd (not_done p)

pub append_off : (room : ℕ) (xs ys : List (Outcome Bytes)) (k : outcome.Refusal) → together room xs ≡ refused k → together room (xs ++ ys) ≡ refused k
unfolding together
append_off room [] ys k p = absurd (not_done (sym p))
append_off room (done b ∷ xs) ys k p = by_test (leb (length b) room)
    (λ t. by_outcome (together (room - length b) xs)
    (λ cs h. absurd (not_done (sym (rw (t, h) at p))))
    (λ n h. rw (t, append_off (room - length b) xs ys n h) (rw (t, h) at p)))
    (λ t. rw t (rw t at p))
append_off room (refused n ∷ xs) ys k p = p

pub room_left : (end at at' n : ℕ) → at + n ≡ at' → at' ≤ end → end - at - n ≡ end - at'
room_left end at at' n e l = omega arith

pub continues_start : (whole : Outcome Bytes) (at : ℕ) (write : Bool) (out : Bytes) → Continues whole whole at at write out out
continues_start whole at write out = record { answer = refl; alike = refl; same = refl; bytes = λ h. refl }

placed_before : (at : ℕ) (a : Bytes) (o : Outcome Bytes) → placed at (outcome_before a o) ≡ placed (at + length a) o
placed_before at a (done b) = ap done (rw length-append (omega arith))
placed_before at a (refused k) = refl

done_before : (a : Bytes) (o : Outcome Bytes) → is_done (outcome_before a o) ≡ is_done o
done_before a (done b) = refl
done_before a (refused k) = refl

left_before : (write : Bool) (at : ℕ) (a : Bytes) (o : Outcome Bytes) (out : Bytes) → at + length a ≤ length out → Matters write o
    → left_as write (at + length a) o (left_as write at (done a) out) ≡ left_as write at (outcome_before a o) out
unfolding bytes_of
left_before false at a o out h s = refl
left_before true at a (done b) out h s = splice_then at a b out (at + length a) refl h
left_before true at a (refused k) out h s = absurd (not_both (s refl))

-- Of an outcome without bytes nothing is written.
pub left_empty : (write : Bool) (at : ℕ) (o : Outcome Bytes) (out : Bytes) → bytes_of o ≡ [] → left_as write at o out ≡ out
left_empty false at o out e = refl
left_empty true at o out e = ap (λ bs. splice at bs out) e ∙ splice_nil at out

-- Both are refused alike, and nothing is written where nothing is to be.
pub continues_both_off : {whole rest : Outcome Bytes} {start at : ℕ} {write : Bool} {out₀ out : Bytes} (k : outcome.Refusal) → whole ≡ refused k → rest ≡ refused k → length out ≡ length out₀
    → (write ≡ false → out ≡ out₀) → Continues whole rest start at write out₀ out
continues_both_off {start = start} {at} {write} {out₀} {out} k w r l u = record {
  answer = ap (placed at) r ∙ sym (ap (placed start) w);
  alike = ap is_done r ∙ sym (ap is_done w);
  same = l;
  bytes = λ c. by_test write
      (λ t. absurd (not_both (sym (ap is_done r) ∙ c t)))
      (λ t. rw t (u t));
}

-- A walk that goes on from where another stands.
pub continues_then : {whole rest left : Outcome Bytes} {start at at' : ℕ} {write : Bool} {out₀ out out' : Bytes} → Continues whole rest start at write out₀ out → Continues rest left at at' write out out'
    → Continues whole left start at' write out₀ out'
continues_then g h = record {
  answer = h.answer ∙ g.answer;
  alike = h.alike ∙ g.alike;
  same = h.same ∙ g.same;
  bytes = λ c. h.bytes c ∙ g.bytes (λ w. sym h.alike ∙ c w);
}

module _ {whole rest : Outcome Bytes} {start at : ℕ} {write : Bool} {out₀ out out' : Bytes} (g : Continues whole rest start at write out₀ out) (same : length out' ≡ length out) where
  -- A turn: some bytes come off the front of what is left.
  pub continues_on : (a : Bytes) (left : Outcome Bytes) (at' : ℕ) → rest ≡ outcome_before a left → at + length a ≡ at' → at' ≤ length out → out' ≡ left_as write at (done a) out
      → Continues whole left start at' write out₀ out'
  continues_on a left at' o e l b =
      let d : is_done rest ≡ is_done left = ap is_done o ∙ done_before a left in
      record {
        answer = ap (λ n. placed n left) (sym e) ∙ sym (placed_before at a left) ∙ ap (placed at) (sym o) ∙ g.answer;
        alike = sym d ∙ g.alike;
        same = same ∙ g.same;
        bytes = λ k.
            ap (λ n. left_as write n left out') (sym e) ∙ ap (left_as write (at + length a) left) b ∙ left_before write at a left out (omega arith) k
            ∙ ap (λ x. left_as write at x out) (sym o) ∙ g.bytes (λ w. d ∙ k w);
      }

  -- A stop: what is left is refused, and so is the whole; its bytes count only where nothing was written.
  pub continues_off : (x : Refusal) → rest ≡ refused (refusal x) → (write ≡ false → out' ≡ out) → Filling whole start write out₀ out' (Err x)
  continues_off x o u = record {
    answer = ap (placed at) (sym o) ∙ g.answer;
    same = same ∙ g.same;
    bytes = unwritten write (sym g.alike ∙ ap is_done o) g.bytes u;
  }
    where
      unwritten : (w : Bool) → is_done whole ≡ false → (Matters w rest → left_as w at rest out ≡ left_as w start whole out₀) → (w ≡ false → out' ≡ out)
          → Matters w whole → out' ≡ left_as w start whole out₀
      unwritten false d b c s = c refl ∙ b (λ w. absurd (not_both w))
      unwritten true d b c s = absurd (not_both (sym d ∙ s refl))

-- What a callee says of an outcome: it ends at a place with its bytes put, or it is refused.
module _ {o : Outcome Bytes} {at : ℕ} {write : Bool} {out out' : Bytes} {n : (Result ℕ Refusal)} (f : Filling o at write out out' n) where
  pub put_on : {C : Type 0} → (at' : ℕ) → n ≡ Ok at' → ((a : Bytes) → o ≡ done a → at + length a ≡ at' → out' ≡ left_as write at (done a) out → C) → C
  put_on at' q k = by_outcome o
      (λ a h. k a h (done_inj (sym (f.answer ∙ ap (placed at) h) ∙ ap ended q)) (f.bytes (λ w. ap is_done h) ∙ ap (λ x. left_as write at x out) h))
      (λ j h. absurd (not_done (sym (f.answer ∙ ap (placed at) h) ∙ ap ended q)))

  pub put_off : (x : Refusal) → n ≡ Err x → o ≡ refused (refusal x)
  put_off x q = by_outcome o
      (λ a h. absurd (not_done (sym (ap ended q) ∙ f.answer ∙ ap (placed at) h)))
      (λ j h. h ∙ ap refused (refused_inj (sym (f.answer ∙ ap (placed at) h) ∙ ap ended q)))

  pub put_unwritten : write ≡ false → out' ≡ out
  put_unwritten e = f.bytes (λ w. absurd (not_both (sym e ∙ w))) ∙ ap (λ w. left_as w at o out) e

-- A turn that takes the outcomes xs, of which a callee says where they end and what it left in the buffer; and a stop at them.
module _ (end : ℕ) (xs ys : List (Outcome Bytes)) {whole : Outcome Bytes} {start at : ℕ} {write : Bool} {out₀ out out' : Bytes} {n : (Result ℕ Refusal)}
    (g : Continues whole (together (end - at) (xs ++ ys)) start at write out₀ out) (f : Filling (together (end - at) xs) at write out out' n) (fits : at ≤ end) (room : end ≤ length out) where
  pub turn_within : (at' : ℕ) → n ≡ Ok at' → (at ≤ at') × (at' ≤ end)
  turn_within at' q = put_on f at' q λ a h e b. let l = together_length (end - at) xs a h in omega arith

  pub turn : (at' : ℕ) → n ≡ Ok at' → Continues whole (together (end - at') ys) start at' write out₀ out'
  turn at' q = put_on f at' q λ a h e b.
      let l = together_length (end - at) xs a h in
      let o = append_on (end - at) xs ys a h ∙ ap (λ m. outcome_before a (together m ys)) (room_left end at at' (length a) e (omega arith)) in
      continues_on g f.same a (together (end - at') ys) at' o e (omega arith) b

  pub stop : (x : Refusal) → n ≡ Err x → Filling whole start write out₀ out' (Err x)
  stop x q = continues_off g f.same x (append_off (end - at) xs ys (refusal x) (put_off f x q)) (put_unwritten f)

-- The end: nothing is left.
pub continues_end : (room : ℕ) {whole : Outcome Bytes} {start at : ℕ} {write : Bool} {out₀ out : Bytes}
    → Continues whole (together room []) start at write out₀ out → Filling whole start write out₀ out (Ok at)
unfolding together bytes_of
continues_end room {at = at} {write} {out = out} g = record {
  answer = ap done (sym (add-zero at)) ∙ g.answer;
  same = g.same;
  bytes = λ s. sym (left_empty write at (done []) out refl) ∙ g.bytes (λ w. refl);
}

-- The end by a callee that takes all that is left.
pub continues_last : {whole rest : Outcome Bytes} {start at : ℕ} {write : Bool} {out₀ out out' : Bytes} {n : (Result ℕ Refusal)}
    → Continues whole rest start at write out₀ out → Filling rest at write out out' n → Filling whole start write out₀ out' n
continues_last g f = record {
  answer = f.answer ∙ g.answer;
  same = f.same ∙ g.same;
  bytes = λ s. f.bytes (λ w. g.alike ∙ s w) ∙ g.bytes (λ w. g.alike ∙ s w);
}
