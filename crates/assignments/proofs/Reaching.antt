-- The highest occurrence that is noted of some fields is the highest that is named of them.
use mathlib.Core.Path.{◌≡◌, sym, ap, ◌∙◌}
use mathlib.Core.Bool.{false}
use mathlib.Core.List.{List, []}
use Prim.Native.Nat.{ℕ, zero, suc, ◌+◌, ◌-◌, ◌≤◌, ◌<◌, max}
use native.Mathlib.Omega.{arith}
use lib.ListN.{length, get_or, take, drop_of_length-le}
use lib.Seq.{slice, slice-cons, length-take-le}
use Rattle.rules.specs.Limits.{highest_index}
use Rattle.rules.specs.Lists.{Bytes, maximum, run}
use Rattle.rules.specs.Table.{Entry, Part}
use Rattle.rules.specs.Update.{Assignment, highest_occurrence}
use Rattle.rules.proofs.Steps.{by_test}
use Rattle.buffer.proofs.Cases.{by_order}
use Rattle.tables.specs.Entries.{blank, is_group}
use Rattle.tables.specs.Groups.{fields_in}
use Rattle.uses.specs.Kept.{use_at}
use Rattle.assignments.specs.Notes.{highest_noted, use_reach, Indexed}
use Rattle.assignments.proofs.Heights.{maximum_within, maximum_met, height, to_name, height_within, height_above, among, fields_height, no_height, first_field_height, first_group_height, part_height}
use Rattle.assignments.proofs.UseNames.{use_small, use_met}
use Rattle.assignments.proofs.Cells.{none_given, none_above, given_some}

-- The highest occurrence that is noted of a field is the highest that is named of it.
noted_height : {es : List Entry} {f : Bytes} {kept : List ℕ} {count : ℕ} {list : List ℕ} {stage : Bytes} {ws : List Assignment}
    → Indexed es f kept count list stage ws → (i : ℕ) → i < length es → is_group (get_or es i blank).what ≡ false
    → height (to_name (get_or es i blank).name) ws ≡ highest_noted list i
noted_height {es} {f} {kept} {count} {list} {stage} {ws} x i h g =
    let n = (get_or es i blank).name in
    let reach : ℕ → ℕ = λ m. use_reach (use_at kept m) i in
    let most : height (to_name n) ws ≤ highest_noted list i = height_within n (highest_noted list i) ws (λ o l. none_given x i o h g (none_above x i o h g l)) in
    let least : highest_noted list i ≤ height (to_name n) ws =
    maximum_met reach 0 (count - 0)
    (λ z. omega (arith, x.chains.highest i h g))
    (λ m a b e. by_order 0 (reach m)
    (λ q.
    let t = use_met es f (use_at kept m) (x.listed.uses m (omega arith)) i q in
    let r : reach m ≤ height (to_name n) ws = height_above n (reach m) ws (given_some x i (reach m) h g m (omega arith) t) in
    omega (arith, x.chains.highest i h g))
    (λ q. omega (arith, x.chains.highest i h g))) in
    omega arith

-- That of some entries, from the last on.
climb : {es : List Entry} {f : Bytes} {kept : List ℕ} {count : ℕ} {list : List ℕ} {stage : Bytes} {ws : List Assignment}
    → Indexed es f kept count list stage ws → (c first end : ℕ) → end ≡ first + c → end ≤ length es
    → maximum (run (highest_noted list) first c) ≡ fields_height (slice first end es) ws
unfolding run maximum
climb {es} {ws = ws} x zero first end s l =
    let none : slice first end es ≡ [] = drop_of_length-le (take end es) {i = first} (rw (length-take-le end es l) (omega arith)) in
    sym (ap (λ vs. fields_height vs ws) none ∙ no_height ws)
climb {es} {list = list} {ws = ws} x (suc c) first end s l =
    let rest = climb x c (suc first) end (omega arith) l in
    let next = slice-cons first end es blank (omega arith) l in
    let below = slice (suc first) end es in
    by_test (is_group (get_or es first blank).what)
    (λ g.
    let q : fields_height (slice first end es) ws ≡ fields_height below ws = ap (λ vs. fields_height vs ws) next ∙ first_group_height (get_or es first blank) below ws g in
    omega (arith, x.chains.groups first (omega arith) g))
    (λ g.
    let q : fields_height (slice first end es) ws ≡ max (height (to_name (get_or es first blank).name) ws) (fields_height below ws) =
    ap (λ vs. fields_height vs ws) next ∙ first_field_height (get_or es first blank) below ws g in
    omega (arith, noted_height x first (omega arith) g))

-- The highest of the occurrences that are noted of some entries is the highest named of their fields.
pub highest_named : {es : List Entry} {f : Bytes} {kept : List ℕ} {count : ℕ} {list : List ℕ} {stage : Bytes} {ws : List Assignment}
    → Indexed es f kept count list stage ws → (first end : ℕ) → first ≤ end → end ≤ length es → (p : Part) → p.members ≡ fields_in (slice first end es)
    → maximum (run (highest_noted list) first (end - first)) ≡ highest_occurrence ws p
highest_named {list = list} {ws = ws} x first end h l p e =
    climb x (end - first) first end (omega arith) l ∙ ap (λ fs. height (among fs) ws) (sym e) ∙ part_height ws p

pub highest_small : {es : List Entry} {f : Bytes} {kept : List ℕ} {count : ℕ} {list : List ℕ} {stage : Bytes} {ws : List Assignment}
    → Indexed es f kept count list stage ws → (i : ℕ) → i < length es → highest_noted list i ≤ highest_index
highest_small {es} {f} {kept} {count} x i h =
    by_test (is_group (get_or es i blank).what)
    (λ g. omega (arith, x.chains.groups i h g))
    (λ g.
    let m = maximum_within (λ n. use_reach (use_at kept n) i) highest_index 0 (count - 0) (λ n a b. use_small es f (use_at kept n) (x.listed.uses n (omega arith)) i) in
    omega (arith, x.chains.highest i h g))
