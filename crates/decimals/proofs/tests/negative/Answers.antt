-- `decimals::tests::negative` meets its contract: the sign is minus, and the last digit or one before it is not zero.
use mathlib.Core.Bool.{not}
use mathlib.Core.Path.{ap}
use borrow.Author.Tests.{not-true}
use Rattle.decimals.specs.Decimals.{is_negative}
use Rattle.decimals.proofs.Sound.{sound, readable}
use Rattle.decimals.proofs.tests.negative.Goals as goal

pub sign-requires : goal.sign-requires
sign-requires c = (sound c.args.packed c.args.s.now c.requires.0).some

pub returns-then-not-is_minus : goal.returns-then-not-is_minus
unfolding is_negative
returns-then-not-is_minus c = rw (← c.sign.ensures, ← c.is_minus.ensures, not-true c.is_minus.result (ap not c.if-not-is_minus.true))

pub last_digit-requires : goal.last_digit-requires
last_digit-requires c = readable (sound c.args.packed c.args.s.now c.requires.0) c.requires.1

pub overflow_sub-s : goal.overflow_sub-s
overflow_sub-s c = (sound c.args.packed c.args.s.now c.requires.0).some
