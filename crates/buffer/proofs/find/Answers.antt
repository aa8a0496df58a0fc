-- `buffer::find` meets its contract: the first place that `position` finds is as far as `upto_first` goes.
use Rattle.std.proofs.Common.{rules, tests, ◌≡◌, ◌≢◌, refl, arith, length, drop, length-drop, ◌-◌}
use lib.Seq.{take_all}
use Rattle.std.proofs.lemmas.Iterator.{YieldsList-from_slice, IsFirst-from_position, index_from_first}
use Rattle.buffer.specs.Search.{upto_first}
use Rattle.buffer.proofs.Finding.{first_here, first_later, first_within}
use Rattle.buffer.proofs.find.Goals as goal

pub returns : goal.returns
unfolding upto_first
returns c =
    let b = c.args.b in
    let rest = drop c.args.at c.args.s.now in
    let whole = take_all (length c.args.s.now - c.args.at) rest (simp length-drop (omega arith)) in
    let first = IsFirst-from_position _ _ c.position.result (λ x. x ≡ b) (λ x. x ≢ b) c.position.ensures.ran (YieldsList-from_slice rest cc) (λ x q k. search (rules, tests)) (λ x q k. search (rules, tests)) in
    let e = index_from_first (upto_first b) (λ x. x ≡ b) (λ x. x ≢ b) refl (first_here b) (first_later b) rest c.position.result first in
    let n = length-drop c.args.at c.args.s.now in
    let w = first_within b rest in
    let r = rw whole at c.unwrap_or.ensures in
    (cc, omega arith, omega arith)
