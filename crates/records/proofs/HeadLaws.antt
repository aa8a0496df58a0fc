-- A record by its three tests: its length and head, what its body's parts leave, and that nothing is left.
use mathlib.Core.Path.{◌≡◌, refl, sym, ◌∙◌, ap}
use mathlib.Core.Bool.{Bool, true, false, ◌&&◌}
use mathlib.Core.List.{List}
use Prim.Native.Nat.{ℕ, ◌≤◌, ◌<◌}
use native.Mathlib.Omega.{arith}
use borrow.Author.Tests.{le-leb, lt-leb, ne_eqb}
use lib.Dec.{leb, eqb}
use lib.ListN.{length, take, drop, length-take, drop_of_length-le}
use lib.Seq.{drop-cons}
use Rattle.rules.specs.Outcome.{Refusal, Outcome, done, refused, ◌>>=◌, need, is_done}
use Rattle.rules.specs.Limits.{longest_record, record_head_size}
use Rattle.rules.specs.Lists.{Bytes, same, nothing}
use Rattle.rules.specs.Table.{Part}
use Rattle.rules.specs.Record.{Record, record_head, each, stored_part, stored}
use Rattle.rules.proofs.Steps.{done_inj, not_done, eqb_same, by_test, same_eq, and_right, true_T}
use Rattle.buffer.proofs.Cases.{by_order}
use Rattle.records.specs.Walk.{rest_of, is_headed}
use Rattle.records.proofs.Entries.{never}

-- The head as the code tests it.
module _ (b : Bytes) where
  pub head_long : longest_record < length b → is_headed b ≡ false
  unfolding is_headed
  head_long h = rw (lt-leb (length b) longest_record h) refl

  pub head_by : length b ≤ longest_record → is_headed b ≡ same (take record_head_size b) record_head
  unfolding is_headed
  head_by h = rw (le-leb (length b) longest_record h) refl

  pub head_short : length b < record_head_size → same (take record_head_size b) record_head ≡ false
  unfolding record_head
  head_short h = by_test (same (take record_head_size b) record_head)
      (λ t. absurd (omega (arith, ap length (same_eq (take record_head_size b) record_head (true_T t)), length-take record_head_size b)))
      (λ t. t)

  pub headed_most : is_headed b ≡ true → length b ≤ longest_record
  headed_most h = by_order longest_record (length b) (λ l. absurd (never (head_long l) h)) (λ l. l)

  pub headed_long : is_headed b ≡ true → record_head_size ≤ length b
  unfolding is_headed
  headed_long h = by_order (length b) record_head_size
      (λ l. absurd (rw (head_short l) at (and_right (leb (length b) longest_record) (same (take record_head_size b) record_head) (true_T h))))
      (λ l. l)

-- The answer, by the head and by what the body's parts leave.
module _ {A : Type 0} (m : Outcome A) where
  two_needs_on : (x y : Bool) → (x && y) ≡ true → is_done (need x 2 >>= λ (_ : Unit {0}). need y 2 >>= λ (_ : Unit {0}). m) ≡ is_done m
  two_needs_on true true h = refl
  two_needs_on true false h = absurd (never refl h)
  two_needs_on false y h = absurd (never refl h)

  two_needs_off : (x y : Bool) → (x && y) ≡ false → is_done (need x 2 >>= λ (_ : Unit {0}). need y 2 >>= λ (_ : Unit {0}). m) ≡ false
  two_needs_off true true h = absurd (never h refl)
  two_needs_off true false h = refl
  two_needs_off false y h = refl

abbrev to_the_end : Record × Bytes → Outcome Record
to_the_end r = need (nothing r.1) 2 >>= λ (_ : Unit {0}). done r.0

ends_on : (o : Outcome (Record × Bytes)) (cs : Bytes) → rest_of o ≡ done cs → is_done (o >>= to_the_end) ≡ nothing cs
ends_on (done r) cs h = rw (done_inj h) (need_is (nothing cs))
  where
    need_is : (t : Bool) → is_done (need t 2 >>= λ (_ : Unit {0}). done r.0) ≡ t
    need_is true = refl
    need_is false = refl
ends_on (refused n) cs h = absurd (not_done h)

ends_off : (o : Outcome (Record × Bytes)) (k : Refusal) → rest_of o ≡ refused k → is_done (o >>= to_the_end) ≡ false
ends_off (done r) k h = absurd (not_done (sym h))
ends_off (refused n) k h = refl

module _ (ps : List Part) (b : Bytes) where
  pub stored_headless : is_headed b ≡ false → is_done (stored ps b) ≡ false
  unfolding stored is_headed
  stored_headless h = two_needs_off (each stored_part ps (drop record_head_size b) >>= to_the_end) (leb (length b) longest_record) (same (take record_head_size b) record_head) h

  by_body : is_headed b ≡ true → is_done (stored ps b) ≡ is_done (each stored_part ps (drop record_head_size b) >>= to_the_end)
  unfolding stored is_headed
  by_body h = two_needs_on (each stored_part ps (drop record_head_size b) >>= to_the_end) (leb (length b) longest_record) (same (take record_head_size b) record_head) h

  pub stored_bad : is_headed b ≡ true → {k : Refusal} → rest_of (each stored_part ps (drop record_head_size b)) ≡ refused k → is_done (stored ps b) ≡ false
  stored_bad h {k} q = by_body h ∙ ends_off (each stored_part ps (drop record_head_size b)) k q

  pub stored_over : is_headed b ≡ true → (p : ℕ) → p ≤ length b → rest_of (each stored_part ps (drop record_head_size b)) ≡ done (drop p b) → is_done (stored ps b) ≡ eqb p (length b)
  unfolding nothing
  stored_over h p l q = by_body h ∙ ends_on (each stored_part ps (drop record_head_size b)) (drop p b) q ∙ by_order p (length b)
      (λ o. rw (drop-cons b p 0 o) (sym (ne_eqb p (length b) (λ e. below e o))))
      (λ o. let e : p ≡ length b = omega arith in rw (drop_of_length-le b o, e) (sym (eqb_same (length b))))
    where
      below : p ≡ length b → p < length b → ⊥
      below e o = omega arith
