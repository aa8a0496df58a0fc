-- Three words, taken one after the other: each begins where the one before it ends, and so do their bytes.
use mathlib.Core.Path.{◌≡◌, ◌∙◌, ap}
use mathlib.Core.List.{◌++◌}
use Prim.Native.Nat.{◌+◌, ◌*◌, ◌≤◌}
use native.Mathlib.Nat.{zero-add}
use native.Mathlib.Omega.{arith}
use lib.ListN.{length, length-append}
use Rattle.rules.specs.Lists.{Bytes}
use Rattle.buffer.specs.Splice.{splice}
use Rattle.buffer.proofs.Laws.{splice_chain}
use Rattle.hexadecimal.specs.Lines.{word_bytes, next_at}
use Rattle.hexadecimal.specs.Answers.{written_bytes, TakesWord}
use Rattle.hexadecimal.specs.declared.TakenWord.{TakenWord}
use Rattle.protocol.specs.Calls.{TakesThree, first_bytes, second_bytes, third_bytes}

pub takes_three : (line out out₁ out₂ out₃ : Bytes) (a b c : TakenWord) → length line ≤ 2 * length out
    → TakesWord line 2 0 out out₁ a → TakesWord line a.next a.end out₁ out₂ b → TakesWord line b.next b.end out₂ out₃ c
    → TakesThree line out out₃ (record { table = a.end; «record» = b.end; format = c.end; next = c.next })
unfolding first_bytes second_bytes third_bytes
takes_three line out out₁ out₂ out₃ a b c h s t u =
    let p = s.next in
    let q : b.next ≡ next_at (next_at 2 line) line = t.next ∙ ap (λ n. next_at n line) p in
    let bs₁ = written_bytes (word_bytes 2 line) in
    let bs₂ = written_bytes (word_bytes (next_at 2 line) line) in
    let bs₃ = written_bytes (word_bytes (next_at (next_at 2 line) line) line) in
    let e₁ : a.end ≡ length bs₁ = s.end ∙ zero-add (length bs₁) in
    let e₂ : b.end ≡ a.end + length bs₂ = rw p at t.end in
    let e₃ : c.end ≡ b.end + length bs₃ = rw q at u.end in
    let w₂ : out₂ ≡ splice a.end bs₂ out₁ = rw p at t.after in
    let w₃ : out₃ ≡ splice b.end bs₃ out₂ = rw q at u.after in
    let m = t.upto in
    let n = u.upto in
    let l = length-append bs₁ bs₂ in
    let two = splice_chain 0 bs₁ bs₂ out out₁ out₂ a.end s.after w₂ (omega arith) (omega (arith, s.upto, s.within)) in
    record {
      table = e₁;
      record_end = e₂;
      format = e₃;
      next = u.next ∙ ap (λ n. next_at n line) q;
      after = splice_chain 0 (bs₁ ++ bs₂) bs₃ out out₂ out₃ b.end two w₃ (omega arith) (omega (arith, t.upto, t.within));
      upto = u.upto;
      within = u.within;
    }
