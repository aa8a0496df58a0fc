use mathlib.Core.Path.{◌≡◌, refl, sym, ◌∙◌}
use mathlib.Core.Bool.{true}
use Prim.Native.Nat.{◌<◌}
use native.Mathlib.Omega.{arith}
use Rattle.rules.specs.Limits.{most_entries}
use Rattle.tables.specs.Entries.{entries_of, blank}
use Rattle.tables.proofs.Tables.{valid_most}
use Rattle.records.specs.Walk.{is_headed}
use Rattle.records.proofs.Checking.{start}
use Rattle.records.proofs.HeadLaws.{headed_long}
use Rattle.records.proofs.Directories.{rowing, old, new, rowed, no_head, passed, no_part, at_the_end}
use Rattle.records.proofs.walk.check.Goals as goal
use Rattle.records.proofs.walk.check.Goals.{At-loop-i}

-- The loop is reached only where a head stands.
head_there : (c : At-loop-i) → is_headed c.args.b.now ≡ true
head_there c = sym c.has_head.ensures ∙ c.if-not-has_head.false

pub returns-then-not-has_head : goal.returns-then-not-has_head
returns-then-not-has_head c = let a = c.args in no_head (entries_of a.t.now) a.b.now _ _ (sym c.has_head.ensures ∙ c.if-not-has_head.true) refl

pub loop-i-init : goal.loop-i-init
loop-i-init c =
    let a = c.args in
    let es = entries_of a.t.now in
    (start es a.b.now _ (headed_long a.b.now (sym c.has_head.ensures ∙ c.if-not-has_head.false)), rowing es a.b.now _ c.requires.1)

pub returns-in_default : goal.returns-in_default
returns-in_default c =
    no_part c.loop-i.invariant.0 (omega arith) blank c.inside_next-inside.ensures c.entry_end.ensures.0 _ _ c.in_default.is
    (head_there (goal.at.returns-in_default c).At-loop-i) refl

pub loop-i-preserved : goal.loop-i-preserved
loop-i-preserved c =
    let small : c.loop-i.i < most_entries = omega (arith, valid_most c.args.t.now c.requires.0) in
    let kept = rw (c.keep-in-loop-i.ensures, c.keep.ensures) at (c.entry_end.ensures.1 _ c.in-Some.is) in (
      passed c.loop-i.invariant.0 (omega arith) blank c.inside_next-inside.ensures c.entry_end.ensures.0 c.in-Some.is _ (new c.loop-i.invariant.1 small c.loop-i.p kept) (old c.loop-i.invariant.1 small c.loop-i.p kept),
      rowed c.loop-i.invariant.1 small c.loop-i.p kept c.kept_after-kept.ensures.0 c.kept_after-kept.ensures.1,
    )

pub returns : goal.returns
returns c = at_the_end c.loop-i.invariant.0 c.loop-i.invariant.1 _ (omega arith) (head_there (goal.at.returns c).At-loop-i) refl
