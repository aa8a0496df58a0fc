-- `decimals::fits` meets its contract: a value fits where its magnitude has no more digits than the bytes hold.
use Rattle.decimals.specs.Decimals.{magnitude_of, is_negative}
use Rattle.decimals.proofs.Sound.{sound, readable}
use Rattle.decimals.proofs.Normal.{normal_fits, converted_is}
use Rattle.decimals.proofs.fits.Goals as goal

pub within-requires : goal.within-requires
within-requires c =
    let v = sound c.args.packed c.args.s.now c.requires.0 in
    readable v c.requires.1

pub returns : goal.returns
returns c =
    let v = sound c.args.packed c.args.s.now c.requires.0 in
    rw (converted_is v c.args.target c.args.n, normal_fits c.args.target c.args.n (is_negative c.args.packed c.args.s.now) (magnitude_of c.args.packed c.args.s.now), ← c.digit_count.ensures) c.within.ensures
