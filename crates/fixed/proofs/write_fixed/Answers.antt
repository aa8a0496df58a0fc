-- `fixed::write_fixed` meets its contract: the bits of an i32 are the bytes of format F.
use mathlib.Core.Path.{◌≡◌, ap, ◌∙◌}
use mir.Facts.{to_z-of_z}
use mir.Syntax.{w32}
use mir.Val.{to_z, of_z}
use Rattle.fixed.specs.Signs.{with_sign}
use Rattle.rules.specs.Lists.{digits}
use Rattle.buffer.specs.Splice.{splice}
use Rattle.fixed.proofs.Fixed.{fixed_room, fixed_bytes}
use Rattle.fixed.proofs.write_fixed.Goals as goal

pub join-x-requires : goal.join-x-requires
join-x-requires c = fixed_room c.args.n c.requires.0 c.args.v.negative c.args.v.magnitude c.requires.1

pub returns : goal.returns
returns c =
    let j = c.join-x in
    let x : to_z w32 (of_z w32 j.result) ≡ with_sign c.args.v.negative c.args.v.magnitude = to_z-of_z {w = w32} {z = j.result} (record { sfits = j.type_inv }) ∙ j.ensures in
    c.put_number.ensures
    ∙ ap (λ b. splice c.args.at b c.args.out.now)
    (ap (digits 256 c.args.n) (c.to_bits.ensures ∙ ap (of_z w32) x)
    ∙ fixed_bytes c.args.n c.requires.0 c.args.v.negative c.args.v.magnitude c.requires.1)
