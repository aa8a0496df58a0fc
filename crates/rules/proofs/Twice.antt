-- Refusal 6, said of elements, holds exactly where a place repeats among all the places that they stand for.
use mathlib.Core.Path.{◌≡◌, refl, sym}
use mathlib.Core.Bool.{false}
use mathlib.Core.List.{List, [], ◌∷◌}
use Rattle.rules.specs.Outcome.{done}
use Rattle.rules.specs.Lists.{Bytes, any, join}
use Rattle.rules.specs.Table.{Entry, table}
use Rattle.rules.specs.Format.{Element}
use Rattle.rules.specs.Use.{Use, one, values, value_items, items_of, items, uses}
use Rattle.rules.specs.Update.{share, name_alike, named_twice}
use Rattle.rules.proofs.Places.{places_of, places_append, places_grid, repeats, clash, clash_none, clash_append, repeats_append, clash_grid, grid_once, range_length, ranges_meet}
use Rattle.rules.proofs.Uses.{Once, Apart, in_order_le, table_differ, uses_apart}

use_once : (u : Use) → Once u → repeats (places_of (items_of u)) ≡ false
unfolding items_of repeats
use_once (one x) h = rw h
use_once (values fs os vs bare) h = rw (places_grid fs os vs bare) (grid_once fs os.from (range_length os) vs.from (range_length vs) h.0)

use_alike : (u v : Use) → Once u → Once v → clash (places_of (items_of u)) (places_of (items_of v)) ≡ name_alike u v
unfolding items_of name_alike clash any share
use_alike (one x) (one y) h g = rw h
use_alike (one x) (values gs ps ws c) h g = rw h
use_alike (values fs os vs b) (one y) h g = rw g (clash_none (places_of (value_items fs os vs b)))
use_alike (values fs os vs b) (values gs ps ws c) h g =
    rw (
      places_grid fs os vs b,
      places_grid gs ps ws c,
      clash_grid fs gs os.from (range_length os) vs.from (range_length vs) ps.from (range_length ps) ws.from (range_length ws),
      ranges_meet os ps (in_order_le os h.1) (in_order_le ps g.1),
      ranges_meet vs ws (in_order_le vs h.2) (in_order_le ws g.2),
    )

uses_alike : (u : Use) (us : List Use) → Once u → Apart us → clash (places_of (items_of u)) (places_of (items us)) ≡ any (name_alike u) us
unfolding items join any places_of
uses_alike u [] h a = clash_none (places_of (items_of u))
uses_alike u (v ∷ us) h a =
    rw (
      places_append (items_of v) (items us),
      clash_append (places_of (items_of u)) (places_of (items_of v)) (places_of (items us)),
      use_alike u v h a.0,
      uses_alike u us h a.1,
    )

-- Elements that each name their occurrences once name one twice where a place repeats.
pub named_twice_repeats : (us : List Use) → Apart us → named_twice us ≡ repeats (places_of (items us))
unfolding named_twice items join places_of repeats
named_twice_repeats [] a = refl
named_twice_repeats (u ∷ us) a =
    sym (rw (
      places_append (items_of u) (items us),
      repeats_append (places_of (items_of u)) (places_of (items us)),
      use_once u a.0,
      uses_alike u us a.0 a.1,
      named_twice_repeats us a.1,
    ))

-- So it is for the format of any call with a valid table.
pub format_named_twice : (t : Bytes) (es : List Entry) (xs : List Element) (us : List Use) → table t ≡ done es → uses es [] xs ≡ done us
    → named_twice us ≡ repeats (places_of (items us))
format_named_twice t es xs us p q = named_twice_repeats us (uses_apart es (table_differ t es p) [] xs us q)
