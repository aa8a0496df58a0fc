-- An occurrence of a periodic group is laid member by member, up to the entry after the last: the run of entries deeper than level 1. A field
-- by itself is laid as the only member.
use Rattle.std.specs.Prelude.{Option}
use mathlib.Core.Path.{◌≡◌, refl, ◌∙◌, ap}
use mathlib.Core.List.{List, [], ◌∷◌, ◌++◌, append-nil}
use mathlib.Core.Logic.{inl, inr}
use Prim.Native.Nat.{ℕ, zero, suc, ◌+◌, ◌-◌, ◌≤◌, ◌<◌}
use native.Mathlib.Numerals.{add-one}
use native.Mathlib.Omega.{arith}
use borrow.Author.Tests.{ltb-true, lt-ltb}
use lib.Dec.{ltb}
use lib.ListN.{length, drop, get_or}
use Rattle.rules.specs.Table.{Entry}
use Rattle.rules.specs.Lists.{Bytes}
use Rattle.rules.specs.Record.{Record, Plan}
use Rattle.rules.proofs.Steps.{by_test}
use Rattle.buffer.proofs.Cases.{by_order}
use Rattle.tables.specs.Entries.{Valid, entries_of, blank}
use Rattle.tables.specs.Groups.{run_below, group_end}
use Rattle.tables.proofs.Nesting.{run_deeper, run_stop, end_turn}
use Rattle.records.specs.Places.{Entered, MemberEntered}
use Rattle.records.proofs.Members.{member_cell}
use Rattle.updating.specs.Laid.{member_laid, occurrence_laid}
use Rattle.updating.specs.Member.{CelledMember, CellsFrom, members_laid}
use Rattle.updating.proofs.Turns.{member_turn}

-- Where the run has no more entries, the occurrence has no more members.
members_over : (w : Plan) (o : ℕ) (es : List Entry) → run_below 1 es ≡ 0 → occurrence_laid w o es ≡ []
unfolding occurrence_laid
members_over w o [] e = refl
members_over w o (x ∷ es) e = by_test (ltb 1 x.level)
    (λ t. absurd (let h = run_deeper 1 x es (ltb-true 1 x.level t) in omega arith))
    (λ t. rw (t, occurrence_laid))

module _ (es : List Entry) (i last : ℕ) (e : i + run_below 1 (drop i es) ≡ last) (less : i < last) (upto : last ≤ length es) where
  deeper : 1 < (get_or es i blank).level
  deeper = by_order 1 (get_or es i blank).level (λ d. d) (λ d. absurd (let h = run_stop es 1 i (omega arith) d in omega arith))

  run_on : i + 1 + run_below 1 (drop (i + 1) es) ≡ last
  run_on = end_turn es 1 i (omega arith) deeper ∙ e

  member_first : (w : Plan) (o : ℕ)
      → occurrence_laid w o (drop i es) ≡ member_laid w o (get_or es i blank).name (get_or es i blank).what ++ occurrence_laid w o (drop (i + 1) es)
  member_first w o = member_turn w o es i blank (omega arith) (lt-ltb 1 (get_or es i blank).level deeper)

-- The members from entry i on, in number: the first, and then the rest.
module _ (w : Plan) (o : ℕ) (es : List Entry) where
  pub members_turn : (i last : ℕ) → i < last
      → members_laid w o es i (last - i) ≡ member_laid w o (get_or es i blank).name (get_or es i blank).what ++ members_laid w o es (i + 1) (last - (i + 1))
  unfolding members_laid
  members_turn i last h = let e : last - i ≡ suc (last - (i + 1)) = omega arith in rw (e, add-one)

  pub members_none : (i last : ℕ) → last ≤ i → members_laid w o es i (last - i) ≡ []
  unfolding members_laid
  members_none i last h = let e : last - i ≡ 0 = omega arith in rw e

  pub member_alone : (i : ℕ) → members_laid w o es i (i + 1 - i) ≡ member_laid w o (get_or es i blank).name (get_or es i blank).what
  member_alone i = members_turn i (i + 1) (omega arith) ∙ rw (members_none (i + 1) (i + 1) (omega arith)) (append-nil _)

  pub occurrence_members : (n i : ℕ) → i + run_below 1 (drop i es) ≡ i + n → i + n ≤ length es → occurrence_laid w o (drop i es) ≡ members_laid w o es i n
  unfolding members_laid
  occurrence_members zero i e h = members_over w o (drop i es) (omega arith)
  occurrence_members (suc n) i e h =
      let next = run_on es i (i + suc n) e (omega arith) h in
      member_first es i (i + suc n) e (omega arith) h w o
      ∙ ap (λ z. member_laid w o (get_or es i blank).name (get_or es i blank).what ++ z) (occurrence_members n (i + 1) (omega (arith, next)) (omega arith) ∙ rw (add-one i))

-- Entry i has its cell; and where it is not the last, it is a member, and the next cell is that of the next.
module _ (t : Bytes) (valid : Valid t) {b : Bytes} {places : List ℕ} {i last o : ℕ} {r : Record} where
  pub cells_here : (c : Option ℕ) → i < length (entries_of t) → CellsFrom (entries_of t) b places i last o r c → CelledMember (entries_of t) b i o r c
  cells_here c less (inl x) what = member_cell t valid c less what x.2
  cells_here c less (inr x) what = x.1

  pub cells_member : (c : Option ℕ) → i + 1 < last → CellsFrom (entries_of t) b places i last o r c → (g : ℕ) × (last ≡ group_end (entries_of t) g) × MemberEntered (entries_of t) b places g i o r c
  cells_member c h (inl x) = x
  cells_member c h (inr x) = absurd (omega (arith, h, x.0))

  pub cells_next : (c d : Option ℕ) → i + 1 < last → CellsFrom (entries_of t) b places i last o r c
      → ((g : ℕ) → MemberEntered (entries_of t) b places g i o r c → Entered (entries_of t) b places g (i + 1) o r d) → CellsFrom (entries_of t) b places (i + 1) last o r d
  cells_next c d h f on =
      let (g, e, m) = cells_member c h f in
      let after = m.after in
      inl (g, e, record { held = m.held; periodic = m.periodic; after = omega arith; within = omega (arith, h, e); some = m.some; entered = on g m })
