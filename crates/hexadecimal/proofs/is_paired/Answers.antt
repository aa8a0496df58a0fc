-- `hexadecimal::is_paired` meets its contract: the tests are the definition's.
use Rattle.std.proofs.Common.{rules, arith}
use Rattle.std.proofs.lemmas.Iterator.{YieldsList-from_slice}
use Rattle.std.proofs.lemmas.Iterator.Search.{all_from_yields_List}
use Rattle.std.proofs.lemmas.Bool.Decides.{nat_tests}
use mathlib.Core.Path.{◌≡◌, ◌∙◌}
use Prim.Native.Nat.{ℕ}
use Rattle.rules.specs.Lists.{all}
use lib.Dec.{ltb}
use Rattle.hexadecimal.specs.Text.{value, is_paired}
use Rattle.hexadecimal.proofs.Scanning.{all_is}
use Rattle.hexadecimal.proofs.is_paired.Goals as goal

pub returns-then-w-eq0 : goal.returns-then-w-eq0
unfolding is_paired
returns-then-w-eq0 c =
    let test = λ (c : ℕ). ltb (value c) 16 in
    let digits : c.all.result ≡ all test c.args.w.now =
    all_from_yields_List test _ _ _ c.all.ensures.ran (YieldsList-from_slice c.args.w.now cc) (λ x b q k. search rules) ∙ all_is test c.args.w.now in
    grind (arith, nat_tests, digits)
