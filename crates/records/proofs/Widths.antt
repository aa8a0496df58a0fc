-- The width of fields one after the other: plain fields are as long as their standard lengths together.
use Rattle.std.specs.Prelude.{None, Option, Some}
use Rattle.std.specs.Option.{is_some, unwrap_or}
use mathlib.Core.Path.{◌≡◌, refl, sym, ◌∙◌, ap}
use mathlib.Core.Bool.{Bool, true, false, ◌&&◌}
use mathlib.Core.List.{List, [], ◌∷◌, ◌++◌}
use Prim.Native.Nat.{ℕ, ◌+◌, ◌*◌, ◌≤◌, ◌<◌}
use native.Mathlib.Nat.{zero-add}
use native.Mathlib.Numerals.{add-one}
use native.Mathlib.Omega.{arith}
use borrow.Author.Tests.{le-leb}
use lib.ListN.{length, get_or}
use lib.Seq.{slice, slice_empty}
use Rattle.rules.specs.Lists.{all}
use Rattle.rules.specs.Table.{What, field, group, Entry, Field}
use Rattle.rules.specs.Use.{plain}
use Rattle.tables.specs.Entries.{size_of, is_group, is_multiple}
use Rattle.records.specs.Where.{field_of}
use Rattle.tables.specs.Groups.{fields_in}
use Rattle.records.specs.Paths.{lengths, Width, Wide}
use Rattle.records.proofs.Entries.{never}
use Rattle.rules.specs.Limits.{most_entries}
use Rattle.records.specs.Counts.{greatest_byte}
use Rattle.records.proofs.Groups.{fields_first}

-- One entry.
pub width_group : (n : ℕ) (w : What) → is_group w ≡ true → Width (field_of n w) greatest_byte (Some 0)
unfolding field_of all lengths
width_group n (field f s mu) h = absurd (never refl h)
width_group n (group p) h = (record { plains = refl; width = refl }, omega arith)

pub width_multiple : (n : ℕ) (w : What) → is_multiple w ≡ true → all plain (field_of n w) ≡ false
unfolding field_of all plain
width_multiple n (field f s mu) h = rw h refl
width_multiple n (group p) h = absurd (never refl h)

pub width_none : (n : ℕ) (w : What) → is_group w ≡ false → is_multiple w ≡ false → size_of w ≡ 0 → all plain (field_of n w) ≡ false
unfolding field_of all plain
width_none n (field f s mu) g h z = rw (h, z) refl
width_none n (group p) g h z = absurd (never g refl)

pub width_plain : (n : ℕ) (w : What) → is_group w ≡ false → is_multiple w ≡ false → 0 < size_of w → size_of w ≤ greatest_byte → Width (field_of n w) greatest_byte (Some (size_of w))
unfolding field_of all plain lengths
width_plain n (field f s mu) g h z m = (record { plains = rw (h, le-leb 1 s z) refl; width = omega arith }, m)
width_plain n (group p) g h z m = absurd (never g refl)

-- Fields and others after them.
and_more : (t x y z : Bool) → x ≡ (y && z) → (t && x) ≡ ((t && y) && z)
and_more true x y z h = h
and_more false x y z h = refl

pub plains_append : (xs ys : List Field) → all plain (xs ++ ys) ≡ (all plain xs && all plain ys)
unfolding all
plains_append [] ys = refl
plains_append (x ∷ xs) ys = and_more (plain x) (all plain (xs ++ ys)) (all plain xs) (all plain ys) (plains_append xs ys)

pub lengths_append : (xs ys : List Field) → lengths (xs ++ ys) ≡ lengths xs + lengths ys
unfolding lengths
lengths_append [] ys = sym (zero-add (lengths ys))
lengths_append (x ∷ xs) ys = rw (lengths_append xs ys) (omega arith)

-- The widths of the entries from first to i are added up, with those to end still to come.
pub record Adding (es : List Entry) (first end i w : ℕ) : Type 0 where
  pub upto : i ≤ end
  pub plains : all plain (fields_in (slice i end es)) ≡ all plain (fields_in (slice first end es))
  pub width : w + lengths (fields_in (slice i end es)) ≡ lengths (fields_in (slice first end es))
  pub most : w ≤ i * greatest_byte

pub adding : (es : List Entry) (first end : ℕ) → first ≤ end → Adding es first end first 0
adding es first end h = record { upto = h; plains = refl; width = zero-add _; most = omega arith }

module _ {es : List Entry} {first end i w : ℕ} (l : Adding es first end i w) where
  module _ (d : Entry) (less : i < end) (most : end ≤ length es) where
    here : fields_in (slice i end es) ≡ field_of (get_or es i d).name (get_or es i d).what ++ fields_in (slice (i + 1) end es)
    here = rw (add-one i) (fields_first es d i end less most)

    pub add_on : (r : Option ℕ) → Width (field_of (get_or es i d).name (get_or es i d).what) greatest_byte r → {n : ℕ} → r ≡ Some n → Adding es first end (i + 1) (w + n)
    add_on r one {n} q =
        let x = rw q at one in
        let own = field_of (get_or es i d).name (get_or es i d).what in
        let rest = fields_in (slice (i + 1) end es) in
        record {
          upto = omega arith;
          plains = sym (ap (all plain) here ∙ plains_append own rest ∙ ap (λ (t : Bool). t && all plain rest) x.0.plains) ∙ l.plains;
          width = omega (arith, l.width, ap lengths here, lengths_append own rest, x.0.width);
          most = omega (arith, l.most, x.1);
        }

    pub add_off : (r : Option ℕ) → Width (field_of (get_or es i d).name (get_or es i d).what) greatest_byte r → r ≡ None → all plain (fields_in (slice first end es)) ≡ false
    add_off r one q =
        let own = field_of (get_or es i d).name (get_or es i d).what in
        let rest = fields_in (slice (i + 1) end es) in
        sym l.plains ∙ ap (all plain) here ∙ plains_append own rest ∙ ap (λ (t : Bool). t && all plain rest) (rw q at one)

  pub added : end ≤ i → end ≤ most_entries → Width (fields_in (slice first end es)) (most_entries * greatest_byte) (Some w)
  unfolding fields_in all lengths
  added h k =
      let z : i ≡ end = omega (arith, l.upto) in
      let e : fields_in (slice i end es) ≡ [] = rw (z, slice_empty end es) refl in
      (record { plains = sym l.plains ∙ ap (all plain) e; width = omega (arith, l.width, ap lengths e) }, omega (arith, l.most))

-- a width that there is
pub wide_some : (fs : List Field) (most : ℕ) (r : Option ℕ) → Width fs most r → is_some r ≡ true → Wide fs (unwrap_or r 0)
wide_some fs most (Some w) x e = x.0
wide_some fs most None x e = absurd (never refl e)

-- what the width of an entry that has none cites
pub ruleset width_steps = (width_multiple, width_none)
