-- Levels and names, an entry at a time: what `levels` and `differ` answer of the first entry and the rest.
use mathlib.Core.Path.{◌≡◌, refl, sym, ◌∙◌}
use mathlib.Core.Bool.{Bool, true, false, not, ◌&&◌}
use mathlib.Core.List.{List, [], ◌∷◌}
use Prim.Native.Nat.{ℕ, ◌+◌, ◌≤◌, ◌<◌}
use lib.Dec.{eqb}
use lib.ListN.{length, get_or, drop, drop_of_length-le}
use Rattle.rules.specs.Lists.{all}
use Rattle.rules.specs.Values.{alpha}
use Rattle.rules.specs.Table.{What, field, group, Entry, levels, differ, names}
use Rattle.tables.specs.Entries.{is_group, blank}
use Rattle.tables.specs.Validity.{follows, unused}
use Rattle.tables.proofs.EntryFields.{rest_at}

-- all that `levels` asks of the entry before is whether it is a group
abbrev pub mark : Bool → What
mark true = group false
mark false = field alpha 0 false

levels_mark : (w : What) (l : ℕ) (es : List Entry) → levels w l es ≡ levels (mark (is_group w)) l es
unfolding levels
levels_mark (field f n m) l [] = refl
levels_mark (group p) l [] = refl
levels_mark (field f n m) l (e ∷ es) = refl
levels_mark (group p) l (e ∷ es) = refl

pub levels_nil : (g : Bool) (l : ℕ) → levels (mark g) l [] ≡ not g
unfolding levels
levels_nil true l = refl
levels_nil false l = refl

pub levels_cons : (g : Bool) (l : ℕ) (e : Entry) (es : List Entry)
    → levels (mark g) l (e ∷ es) ≡ (follows g l e.level && levels (mark (is_group e.what)) e.level es)
unfolding levels follows
levels_cons true l e es = rw (← levels_mark e.what e.level es)
levels_cons false l e es = rw (← levels_mark e.what e.level es)

pub unused_nil : (n : ℕ) → unused n [] ≡ true
unfolding unused names all
unused_nil n = refl

pub unused_cons : (n : ℕ) (e : Entry) (es : List Entry) → unused n (e ∷ es) ≡ (not (eqb e.name n) && unused n es)
unfolding unused names all
unused_cons n e es = refl

pub differ_nil : differ (names []) ≡ true
unfolding differ names
differ_nil = refl

pub differ_cons : (e : Entry) (es : List Entry) → differ (names (e ∷ es)) ≡ (unused e.name es && differ (names es))
unfolding differ unused names
differ_cons e es = refl

-- ---- a turn at entry i, and the end
module _ (es : List Entry) (i : ℕ) where
  levels_at : i < length es → (g : Bool) (l : ℕ)
      → levels (mark g) l (drop i es)
      ≡ (follows g l (get_or es i blank).level && levels (mark (is_group (get_or es i blank).what)) (get_or es i blank).level (drop (i + 1) es))
  levels_at h g l = rw (rest_at es i h) (levels_cons g l (get_or es i blank) (drop (i + 1) es))

  pub levels_turn : i < length es → (g h : Bool) (l k : ℕ) → k ≡ (get_or es i blank).level → h ≡ is_group (get_or es i blank).what → follows g l k ≡ true
      → levels (mark h) k (drop (i + 1) es) ≡ levels (mark g) l (drop i es)
  levels_turn q g h l k e e' f = sym (levels_at q g l ∙ rw (← e, ← e', f))

  pub levels_stop : i < length es → (g : Bool) (l k : ℕ) → k ≡ (get_or es i blank).level → follows g l k ≡ false → false ≡ levels (mark g) l (drop i es)
  levels_stop q g l k e f = sym (levels_at q g l ∙ rw (← e, f))

  pub levels_end : length es ≤ i → (g : Bool) (l : ℕ) → not g ≡ levels (mark g) l (drop i es)
  levels_end q g l = rw (drop_of_length-le es q) (sym (levels_nil g l))

-- what a loop over levels cites
pub ruleset level_steps = (levels_turn, levels_stop, levels_end)
