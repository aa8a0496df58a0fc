-- `decimals::digits::leading_zeros` meets its contract: by the bytes of zeros, and of P by the half byte after them.
use Rattle.std.proofs.Common.{rules, tests, ◌∙◌, ◌≡◌, ◌/◌, ◌%◌, eqb, take, sym, arith}
use Rattle.std.specs.List.{list_all}
use Rattle.std.proofs.lemmas.Iterator.{YieldsList-from_slice}
use Rattle.std.proofs.lemmas.Iterator.Search.{all_from_yields_List}
use Rattle.decimals.specs.Decimals.{places}
use Rattle.decimals.proofs.Spelling.{spelling_fits, packed_half}
use Rattle.decimals.proofs.Zeros.{packed_pass, packed_fail, unpacked_test}
use Rattle.decimals.proofs.digits.leading_zeros.Goals as goal
use Rattle.decimals.proofs.digits.leading_zeros.Goals.{After-all}

tested : (c : After-all) → c.all.result ≡ list_all (λ b. eqb b 0) (take (c.args.k / 2) c.args.s.now)
tested c = all_from_yields_List (λ b. eqb b 0) _ _ _ c.all.ensures.ran (YieldsList-from_slice (take (c.args.k / 2) c.args.s.now) cc) (λ x b q k. search (rules, tests))

pub returns-then-k-eq0 : goal.returns-then-k-eq0
unfolding places
returns-then-k-eq0 c =
    let a = c.args in
    let r = rw c.if-packed.true at c.requires in
    let w = packed_pass r.0 a.k r.1 (tested (goal.at.returns-then-k-eq0 c).After-all) c.if-all.true in
    rw (c.if-packed.true, c.if-k-eq0.true) (sym (spelling_fits w _ r.0.nines (omega arith)))

pub returns-else-k-eq0 : goal.returns-else-k-eq0
unfolding places
returns-else-k-eq0 c =
    let a = c.args in
    let r = rw c.if-packed.true at c.requires in
    let w = packed_pass r.0 a.k r.1 (tested (goal.at.returns-else-k-eq0 c).After-all) c.if-all.true in
    rw c.if-packed.true (packed_half (a.k / 2) w _ r.0.nines (omega arith))

pub returns-else-all : goal.returns-else-all
returns-else-all c =
    let a = c.args in
    let r = rw c.if-packed.true at c.requires in
    rw c.if-packed.true (c.if-all.false ∙ sym (packed_fail r.0 a.k r.1 (tested (goal.at.returns-else-all c).After-all) c.if-all.false))

pub returns-else-packed : goal.returns-else-packed
returns-else-packed c =
    let a = c.args in
    let r = rw c.if-packed.false at c.requires in
    rw c.if-packed.false
    (unpacked_test r.0 a.k r.1 _
    (all_from_yields_List (λ b. eqb (b % 16) 0) _ _ _ c.all-else-packed.ensures.ran (YieldsList-from_slice (take a.k a.s.now) cc) (λ x b q k. search (rules, tests))))
