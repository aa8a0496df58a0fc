-- `values::conversion::convert_every` meets its contract: what the functions of a format ask is so.
use mathlib.Core.Path.{◌≡◌, refl, sym, ◌∙◌}
use denote.Enum.Bare.{same_false}
use Rattle.value_formats.specs.contracts.Format.{the_type}
use Rattle.value_formats.specs.declared.Format.TheVariants.{Alpha, Binary, Fixed}
use Rattle.values.proofs.Chosen.{as_binary, as_fixed, as_decimal, fixed_there, number_there, decimal_sizes, converting_room}
use Rattle.values.proofs.conversion.convert_every.Goals as goal

binary_not : Alpha ≡ Binary → ⊥
binary_not = same_false the_type Alpha Binary refl

fixed_not : Alpha ≡ Fixed → ⊥
fixed_not = same_false the_type Alpha Fixed refl

pub convert_binary-requires : goal.convert_binary-requires
convert_binary-requires c =
    let g = c.requires.0 in
    (rw (as_binary g.asked c.requires.1 c.in-Binary.is) g.fits, converting_room g (number_there g.asked c.requires.1 (λ e. binary_not (sym e ∙ c.in-Binary.is))))

pub write_fixed-requires : goal.write_fixed-requires
write_fixed-requires c =
    let g = c.requires.0 in (
      fixed_there g.asked c.requires.1 c.in-Fixed.is,
      rw (as_fixed g.asked c.requires.1 c.fixed_word.result c.in-Fixed.is c.fixed_word.ensures) g.fits,
      converting_room g (number_there g.asked c.requires.1 (λ e. fixed_not (sym e ∙ c.in-Fixed.is))),
    )

pub convert-requires : goal.convert-requires
convert-requires c =
    let g = c.requires.0 in
    let d = c.in_default in
    let sizes = decimal_sizes g.asked c.requires.1 d.not-Alpha d.not-Binary d.not-Fixed in (
      rw (c.eq.ensures, c.eq-in_default.ensures, as_decimal g.asked c.requires.1 d.not-Alpha d.not-Binary d.not-Fixed) g.fits,
      sizes.0,
      sizes.1,
      sizes.2,
      converting_room g (number_there g.asked c.requires.1 d.not-Alpha),
    )
