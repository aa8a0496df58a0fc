-- Whether the fields of a group are plain, an entry at a time.
use mathlib.Core.Path.{◌≡◌, refl, sym, ◌∙◌}
use mathlib.Core.Bool.{true, false, ◌&&◌}
use mathlib.Core.List.{List, []}
use Prim.Native.Nat.{ℕ, suc, ◌+◌, ◌≤◌, ◌<◌}
use native.Mathlib.Numerals.{add-one}
use lib.ListN.{length, get_or, drop, drop_of_length-le}
use lib.Seq.{drop-cons}
use Rattle.rules.specs.Lists.{all}
use Rattle.rules.specs.Values.{alpha, binary, fixed, packed, unpacked}
use Rattle.rules.specs.Table.{What, field, group, Field, Entry, fields_below}
use Rattle.rules.specs.Use.{plain}
use Rattle.tables.specs.Entries.{blank, decoded}
use Rattle.tables.specs.Groups.{with_field, plain_entry}
use Rattle.tables.proofs.Nesting.{below_deeper, below_ends, below_nil}

all_none : all plain [] ≡ true
unfolding all
all_none = refl

plain_with : (n k : ℕ) (w : What) (fs : List Field)
    → all plain (with_field n w fs) ≡ (plain_entry (decoded (record { name = n; level = k; what = w })) && all plain fs)
unfolding all plain plain_entry
plain_with n k (field alpha s m) fs = refl
plain_with n k (field binary s m) fs = refl
plain_with n k (field fixed s m) fs = refl
plain_with n k (field packed s m) fs = refl
plain_with n k (field unpacked s m) fs = refl
plain_with n k (group p) fs = refl

module _ (es : List Entry) (l i : ℕ) where
  plain_at : i < length es → l < (get_or es i blank).level
      → all plain (fields_below l (drop i es)) ≡ (plain_entry (decoded (get_or es i blank)) && all plain (fields_below l (drop (i + 1) es)))
  plain_at h k =
      let e = get_or es i blank in
      rw (drop-cons es i blank h, below_deeper l e (drop (suc i) es) k, add-one) (plain_with e.name e.level e.what (fields_below l (drop (suc i) es)))

  pub plain_turn : i < length es → l < (get_or es i blank).level → plain_entry (decoded (get_or es i blank)) ≡ true
      → all plain (fields_below l (drop (i + 1) es)) ≡ all plain (fields_below l (drop i es))
  plain_turn h k e = sym (plain_at h k ∙ rw e)

  pub plain_fails : i < length es → l < (get_or es i blank).level → plain_entry (decoded (get_or es i blank)) ≡ false
      → false ≡ all plain (fields_below l (drop i es))
  plain_fails h k e = sym (plain_at h k ∙ rw e)

  pub plain_stop : i < length es → (get_or es i blank).level ≤ l → true ≡ all plain (fields_below l (drop i es))
  plain_stop h k = rw (drop-cons es i blank h, below_ends l (get_or es i blank) (drop (suc i) es) k) (sym all_none)

  pub plain_none : length es ≤ i → true ≡ all plain (fields_below l (drop i es))
  plain_none h = rw (drop_of_length-le es h, below_nil l) (sym all_none)

-- what a loop over a group's entries cites
pub ruleset plain_steps = (plain_turn, plain_fails, plain_stop, plain_none)
