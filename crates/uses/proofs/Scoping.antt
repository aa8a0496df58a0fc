-- How far indexes reach: each law is one of the three cases of a scope.
use Rattle.std.specs.Prelude.{None, Some, Option as Optional}
use mathlib.Core.Path.{◌≡◌, refl, ap, ◌∙◌}
use mathlib.Core.Bool.{Bool, true, false, not, ◌&&◌, ◌||◌, false≢true}
use mathlib.Core.Option.{some}
use Prim.Native.Nat.{ℕ}
use Rattle.rules.specs.Use.{range_of, ranges_of}
use Rattle.rules.specs.Last.{as_written, last_alone, up_to_last, scope_of, is_last}
use Rattle.rules.proofs.Bools.{and_both}
use Rattle.format_buffer.specs.Elements.{range, reaching, indexing_given, small_indexing}
use Rattle.format_buffer.specs.declared.Scope.{Scope}
use Rattle.format_buffer.specs.declared.Scope.TheVariants.{AsWritten, LastAlone, UpToLast}
use Rattle.format_buffer.specs.declared.Indexing.{Indexing}
use Rattle.uses.specs.Spread.{range_given}
use Rattle.uses.specs.Scopes.{scope_at, as_written as is_as_written, is_written, scope_given}
use Rattle.uses.specs.declared.scopes.Scopes.{Scopes}

pub written_at : (s : Scope) → s ≡ AsWritten → scope_at s ≡ as_written
written_at s e = rw e refl

pub last_at : (s : Scope) → s ≡ LastAlone → scope_at s ≡ last_alone
last_at s e = rw e refl

pub all_at : (s : Scope) → (s ≡ AsWritten → ⊥) → (s ≡ LastAlone → ⊥) → scope_at s ≡ up_to_last
all_at AsWritten e q = absurd (e refl)
all_at LastAlone e q = absurd (q refl)
all_at UpToLast e q = refl

-- With N indexes are not as they are written.
pub last_unwritten : LastAlone ≡ AsWritten → ⊥
last_unwritten e = false≢true (ap is_as_written e)

pub all_unwritten : UpToLast ≡ AsWritten → ⊥
all_unwritten e = false≢true (ap is_as_written e)

-- The use rules take indexes by their numbers, which are 1 with N.
range_told : (s : Scope) (i j : ℕ) → ((s ≡ AsWritten → ⊥) → (i ≡ 1) × (j ≡ 1)) → range_of (reaching s (range i j)) ≡ range i j
range_told AsWritten i j h = refl
range_told LastAlone i j h = let o = h last_unwritten in rw (o.0, o.1) refl
range_told UpToLast i j h = let o = h all_unwritten in rw (o.0, o.1) refl

pub ranges_told : (x : Optional Indexing) → small_indexing x → ranges_of (indexing_given x) ≡ range_given x
ranges_told None h = refl
ranges_told (Some x) h = rw (range_told x.scope x.from x.upto h.one) refl

-- The scope of indexes, where they are given.
scope_reached : (s : Scope) (i j : ℕ) → scope_of (some (reaching s (range i j))) ≡ scope_at s
scope_reached AsWritten i j = refl
scope_reached LastAlone i j = refl
scope_reached UpToLast i j = refl

pub scope_told : (x : Optional Indexing) → scope_of (indexing_given x) ≡ scope_at (scope_given x)
scope_told None = refl
scope_told (Some x) = scope_reached x.scope x.from x.upto

-- Whether it is N.
last_told : (s : Scope) → is_last (scope_at s) ≡ not (is_as_written s)
last_told AsWritten = refl
last_told LastAlone = refl
last_told UpToLast = refl

pub unwritten_last : (s : Scope) → (s ≡ AsWritten → ⊥) → is_last (scope_at s) ≡ true
unwritten_last AsWritten e = absurd (e refl)
unwritten_last LastAlone e = refl
unwritten_last UpToLast e = refl

either_not : (a b : Bool) → (not a || not b) ≡ not (a && b)
either_not true b = refl
either_not false b = refl

pub written_told : (s : Scopes) → (is_last (scope_at s.occurrences) || is_last (scope_at s.values)) ≡ not (is_written s)
written_told s = rw (last_told s.occurrences, last_told s.values) (either_not (is_as_written s.occurrences) (is_as_written s.values))

pub values_written : (s : Scopes) → is_written s ≡ true → is_last (scope_at s.values) ≡ false
values_written s e = last_told s.values ∙ ap not (and_both (is_as_written s.occurrences) (is_as_written s.values) e).1
