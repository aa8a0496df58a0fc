-- The parts of a table from a periodic group on: its own, and those that start after its members.
use mathlib.Core.Path.{◌≡◌, refl, sym, ap, subst, ◌∙◌}
use mathlib.Core.Bool.{Bool, true, false}
use mathlib.Core.List.{List, [], ◌∷◌}
use Prim.Native.Nat.{ℕ, suc, ◌+◌, ◌≤◌, ◌<◌}
use native.Mathlib.Numerals.{add-one}
use native.Mathlib.Omega.{arith}
use borrow.Author.Tests.{lt-ltb, le-ltb}
use lib.ListN.{length, get_or, drop, length-drop}
use lib.Seq.{drop-cons, drop-drop, get_or-drop}
use Rattle.rules.specs.Table.{What, field, group, Entry, inside_of, fields_below, part_of, parts_from}
use Rattle.buffer.proofs.Cases.{by_order}
use Rattle.tables.specs.Entries.{blank}
use Rattle.tables.specs.Groups.{run_below, group_end}
use Rattle.tables.proofs.EntryBytes.{Sound}
use Rattle.tables.proofs.Nesting.{end_start, run_nil, run_deeper, run_ends}

parts_nil : (b : Bool) → parts_from b [] ≡ []
unfolding parts_from
parts_nil b = refl

first_periodic : (b : Bool) (n l : ℕ) (es : List Entry)
    → parts_from b (record { name = n; level = l; what = group true } ∷ es)
    ≡ record { name = n; periodic = true; members = fields_below 1 es } ∷ parts_from true es
unfolding parts_from part_of inside_of
first_periodic b n l es = refl

-- a member of a periodic group starts no part
member_of : (n l : ℕ) (w : What) (es : List Entry) → 1 < l → Sound l w
    → parts_from true (record { name = n; level = l; what = w } ∷ es) ≡ parts_from true es
unfolding parts_from part_of inside_of
member_of n l (field f s m) es h k = rw (lt-ltb 1 l h)
member_of n l (group true) es h k = absurd (omega (arith, k refl))
member_of n l (group false) es h k = rw (lt-ltb 1 l h)

-- level 1 leaves a periodic group
leaves : (n l : ℕ) (w : What) (es : List Entry) → l ≤ 1
    → parts_from true (record { name = n; level = l; what = w } ∷ es) ≡ parts_from false (record { name = n; level = l; what = w } ∷ es)
unfolding parts_from part_of inside_of
leaves n l (field f s m) es h = rw (le-ltb 1 l h)
leaves n l (group true) es h = refl
leaves n l (group false) es h = rw (le-ltb 1 l h)

members_pass : (es : List Entry) → ((k : ℕ) → k < length es → Sound (get_or es k blank).level (get_or es k blank).what)
    → parts_from true es ≡ parts_from false (drop (run_below 1 es) es)
members_pass [] s = rw (run_nil 1, parts_nil true) (sym (parts_nil false))
members_pass (e ∷ es) s = by_order 1 e.level
    (λ h. rw (run_deeper 1 e es h) (member_of e.name e.level e.what es h (s 0 (omega arith)) ∙ members_pass es (λ k q. s (suc k) (omega arith))))
    (λ h. rw (run_ends 1 e es h) (leaves e.name e.level e.what es h))

module _ (es : List Entry) (i : ℕ) (h : i < length es) where
  -- a periodic group: its part, with its members
  pub parts_periodic : (b : Bool) → (get_or es i blank).what ≡ group true
      → parts_from b (drop i es)
      ≡ record { name = (get_or es i blank).name; periodic = true; members = fields_below 1 (drop (i + 1) es) } ∷ parts_from true (drop (i + 1) es)
  parts_periodic b e =
      rw (add-one, drop-cons es i blank h)
      (ap (λ (v : What). parts_from b (record { name = (get_or es i blank).name; level = (get_or es i blank).level; what = v } ∷ drop (suc i) es)) e
      ∙ first_periodic b (get_or es i blank).name (get_or es i blank).level (drop (suc i) es))

  -- nothing inside it starts a part
  pub parts_members : ((k : ℕ) → k < length es → Sound (get_or es k blank).level (get_or es k blank).what) → (get_or es i blank).level ≡ 1
      → parts_from true (drop (i + 1) es) ≡ parts_from false (drop (group_end es i) es)
  parts_members s l =
      let rest = drop (i + 1) es in
      members_pass rest
      (λ k q. subst (λ (e : Entry). Sound e.level e.what) (sym (get_or-drop (i + 1) es k blank)) (s (i + 1 + k) (omega (arith, q, length-drop (i + 1) es))))
      ∙ ap (parts_from false) (drop-drop (run_below 1 rest) (i + 1) es ∙ ap (λ (n : ℕ). drop n es) (end_start es 1 i (sym l)))
