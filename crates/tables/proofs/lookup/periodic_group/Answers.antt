use mathlib.Core.Path.{◌∙◌}
use native.Mathlib.Omega.{arith}
use Prim.Native.Nat.{◌<◌, ◌≤◌}
use lib.ListN.{length}
use Rattle.tables.specs.Entries.{entries_of}
use Rattle.tables.proofs.LevelSteps.{level_range}
use Rattle.tables.proofs.Climbs.{climb_up, not_first}
use Rattle.tables.proofs.Tables.{valid_levels, valid_sound}
use Rattle.tables.proofs.lookup.periodic_group.Goals as goal

pub loop-j-preserved : goal.loop-j-preserved
loop-j-preserved c =
    let v = valid_levels c.args.t.now c.requires.0 in
    let h : c.loop-j.j < length (entries_of c.args.t.now) = omega (arith, c.requires.1, c.loop-j.invariant.upto) in
    let some : 1 ≤ c.loop-j.j = not_first _ v _ (λ q. c.loop-j-test.true (c.level_at.ensures ∙ q)) in
    climb_up _ _ _ some h (omega (arith, (level_range _ v c.loop-j.j h).0, c.level_at.ensures, c.loop-j-test.true)) (valid_sound c.args.t.now c.requires.0 c.loop-j.j h) c.loop-j.invariant
