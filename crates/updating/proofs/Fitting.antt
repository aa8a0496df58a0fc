-- Refusal 10 in two tests: the bytes do not fit in 4,096, else not in the room.
use mathlib.Core.Path.{◌≡◌}
use mathlib.Core.Bool.{false}
use Prim.Native.Nat.{ℕ, ◌≤◌, ◌<◌, min}
use native.Mathlib.Omega.{arith}
use borrow.Author.Tests.{leb-false}
use lib.Dec.{leb, leb→le, le→leb}
use lib.ListN.{length}
use Rattle.rules.specs.Outcome.{done, refused, by, need, ◌>>=◌}
use Rattle.rules.specs.Limits.{longest_new_record}
use Rattle.rules.specs.Lists.{Bytes}
use Rattle.rules.specs.Services.{fitting}
use Rattle.rules.proofs.Steps.{need_true, by_test, true_T}

not_leb : (m n : ℕ) → n < m → leb m n ≡ false
not_leb m n h = by_test (leb m n) (λ t. absurd (let l = leb→le m n (true_T t) in omega arith)) (λ t. t)

module _ (room : ℕ) (b : Bytes) where
  pub fits : length b ≤ longest_new_record → length b ≤ room → fitting room b ≡ done b
  unfolding fitting
  fits l r = rw (need_true (leb (length b) (min room longest_new_record)) 10 (le→leb (length b) (min room longest_new_record) (omega arith)))

  pub too_long : longest_new_record < length b → fitting room b ≡ refused (by 10)
  unfolding fitting
  too_long l = rw (not_leb (length b) (min room longest_new_record) (omega arith))

  pub over_room : room < length b → fitting room b ≡ refused (by 10)
  unfolding fitting
  over_room l = rw (not_leb (length b) (min room longest_new_record) (omega arith))

  -- As one test after the other.
  pub fitting_twice : fitting room b ≡ (do
    _ ← need (leb (length b) longest_new_record) 10
    _ ← need (leb (length b) room) 10
    done b)
  fitting_twice = by_test (leb (length b) longest_new_record)
      (λ t. by_test (leb (length b) room)
      (λ u. rw (t, u) (fits (leb→le (length b) longest_new_record (true_T t)) (leb→le (length b) room (true_T u))))
      (λ u. rw (t, u) (over_room (leb-false (length b) room u))))
      (λ t. rw t (too_long (leb-false (length b) longest_new_record t)))
