use mathlib.Core.Path.{◌∙◌, refl}
use Prim.Native.Nat.{◌+◌}
use native.Mathlib.Omega.{arith}
use denote.Param.{number}
use Rattle.decimals.specs.contracts.numbers.magnitude.{PACKED-type}
use Rattle.decimals.proofs.Flags.{is_packed, is_unpacked}
use Rattle.decimals.proofs.Spelling.{Spelling}
use Rattle.decimals.proofs.Reckoning.{spot, reading_start, packed_more, unpacked_more, reading_end, reckoned_over}
use Rattle.decimals.proofs.numbers.magnitude.Goals as goal
use Rattle.decimals.proofs.numbers.magnitude.Goals.{After-from-in-loop-b, then-this-ne0, else-this-ne0}
use Rattle.decimals.proofs.numbers.magnitude.Given.{Over}

turned : (g : Over) (c : After-from-in-loop-b g) → Spelling (PACKED-type (number g.row.PACKED)) c.args.s.now (spot (PACKED-type (number g.row.PACKED)) (c.loop-b.b-index + 1)) c.if-this-ne0.x
turned g c =
    let w = c.loop-b.invariant in
    elim c.if-this-ne0.branch [
      | then-this-ne0 k ↦ rw (k.x-is, k.from.ensures) (packed_more w c.loop-b-test.true refl (is_packed g.row.PACKED k.if-this-ne0.true))
      | else-this-ne0 k ↦ rw (k.x-is, k.from-else-this-ne0.ensures) (unpacked_more w c.loop-b-test.true refl (is_unpacked g.row.PACKED k.if-this-ne0.false))
    ]

pub loop-b-init : goal.loop-b-init
loop-b-init g c = reading_start _ _

pub returns-then-from-x : goal.returns-then-from-x
returns-then-from-x g c = reckoned_over (turned g (goal.at.returns-then-from-x g c).After-from-in-loop-b) (omega arith)

pub loop-b-preserved : goal.loop-b-preserved
loop-b-preserved g c = record { spelt = turned g (goal.at.loop-b-preserved g c).After-from-in-loop-b; small = omega arith }

pub returns : goal.returns
returns g c = reading_end c.requires c.loop-b.invariant c.loop-b-test.false (omega arith) (c.from-2.ensures ∙ c.last_digit.ensures)
