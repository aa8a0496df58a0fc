-- `format_buffer::following::completed` meets its contract: a name may have a length and a format, any other element neither.
use mathlib.Core.Path.{◌≡◌, refl}
use native.Mathlib.Omega.{arith}
use Rattle.format_buffer.specs.declared.Named.{Named}
use Rattle.format_buffer.specs.declared.Element.{Element}
use Rattle.format_buffer.specs.declared.Element.TheVariants as code
use Rattle.format_buffer.proofs.StepLaws.{nameless, stepped_at, only_settled}
use Rattle.format_buffer.proofs.following.completed.Goals as goal

no_name : (e : Element) → ((n : Named) → e ≡ code.Named n → ⊥) → nameless e
no_name (code.Blanks n) h = record {}
no_name (code.Text from upto) h = record {}
no_name (code.Named n) h = h n refl
no_name (code.Count c) h = record {}
no_name (code.Series first last) h = record {}

pub length_after-requires : goal.length_after-requires
length_after-requires c =
    let u = rw c.in-Named.is at c.requires.2 in
    (c.requires.0, rw c.in-Named.is at c.requires.1, u.0, u.1)

pub returns-in-Named : goal.returns-in-Named
returns-in-Named c = rw c.in-Named.is c.length_after.ensures

pub returns-in_default : goal.returns-in_default
returns-in_default c from h =
    let a = c.args in
    stepped_at (only_settled a.f.now a.end a.e (no_name a.e c.in_default.not-Named)) refl (omega arith) c.requires.0 c.requires.1
