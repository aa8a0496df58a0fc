-- The uses kept in an area: one that is kept after others leaves those as they are, and is the use that it was, since each number tells what was packed into it.
use mathlib.Core.Path.{◌≡◌, refl, sym, ap, subst, ◌∙◌}
use mathlib.Core.Bool.{Bool, true, false}
use mathlib.Core.List.{List, [], ◌∷◌, ◌++◌}
use Prim.Native.Nat.{ℕ, zero, suc, ◌+◌, ◌*◌, ◌/◌, ◌%◌, ◌<◌, ◌≤◌}
use native.Mathlib.Omega.{arith}
use native.Mathlib.Numerals.{add-one}
use borrow.Author.Tests.{ne_eqb}
use lib.Dec.{eqb, leb, leb→le, eqb→eq}
use lib.ListN.{length, get_or, set, length-set}
use lib.Seq.{sets, get_or-set_same, get_or-set_other}
use Rattle.rules.specs.Limits.{most_entries, highest_index, longest_format, longest_alpha, longest_binary, longest_packed, longest_unpacked}
use Rattle.rules.specs.Values as Rules
use Rattle.rules.specs.Values.{alpha, binary, fixed, packed, unpacked, allowed}
use Rattle.rules.specs.Lists.{Bytes, run}
use Rattle.rules.specs.Table.{Entry}
use Rattle.rules.proofs.Steps.{true_T, and_right, by_test}
use Rattle.buffer.proofs.Cases.{by_order}
use Rattle.value_formats.specs.declared.Format.{Format}
use Rattle.value_formats.specs.declared.Format.TheVariants.{Alpha, Binary, Fixed, Packed, Unpacked}
use Rattle.format_buffer.specs.Elements.{range}
use Rattle.uses.specs.Meant.{use_meant, GoodSpan, GoodUse}
use Rattle.uses.specs.Kept.{numbers_kept, blanks_kept, text_kept, group_count_kept, value_count_kept, stored_kept, pair_base, pair, bare_weight, format_weight, size_weight, formats_kept, format_number, format_kept, kind_at, span_at, use_of_kind, use_at, span_kind, flag, span_what, span_numbers, numbers, SmallSpan, small, uses_kept, GoodUses}
use Rattle.uses.specs.declared.Span.{Span}
use Rattle.uses.specs.declared.Use.{Use}
use Rattle.uses.specs.declared.Use.TheVariants as code
use Rattle.uses.proofs.Spreading.{ordered_within}
use Rattle.uses.proofs.Sharing.{from_or}

-- Numbers set from a place on: those before it, those set, and those after them.
pub sets_below : (vs l : List ℕ) (at k : ℕ) → k < at → get_or (sets l at vs) k 0 ≡ get_or l k 0
sets_below [] l at k h = refl
sets_below (v ∷ vs) l at k h = sets_below vs (set l at v) (suc at) k (omega arith) ∙ get_or-set_other l at k v 0 (λ e. absurd (omega arith))

pub sets_at : (vs l : List ℕ) (at j k : ℕ) → k ≡ at + j → at + length vs ≤ length l → j < length vs → get_or (sets l at vs) k 0 ≡ get_or vs j 0
sets_at [] l at j k e h i = absurd (omega arith)
sets_at (v ∷ vs) l at zero k e h i =
    let q : k ≡ at = omega arith in
    ap (λ n. get_or (sets l at (v ∷ vs)) n 0) q ∙ sets_below vs (set l at v) (suc at) at (omega arith) ∙ get_or-set_same l at v 0 (omega arith)
sets_at (v ∷ vs) l at (suc j) k e h i = sets_at vs (set l at v) (suc at) j k (omega arith) (rw (length-set l at v) (omega arith)) (omega arith)

pub sets_above : (vs l : List ℕ) (at k : ℕ) → at + length vs ≤ k → get_or (sets l at vs) k 0 ≡ get_or l k 0
sets_above [] l at k h = refl
sets_above (v ∷ vs) l at k h = sets_above vs (set l at v) (suc at) k (omega arith) ∙ get_or-set_other l at k v 0 (λ e. absurd (omega arith))

-- The uses before the place stay.
module _ (l vs : List ℕ) (at : ℕ) where
  use_again : (i : ℕ) → numbers_kept * i + numbers_kept ≤ at → use_at (sets l at vs) i ≡ use_at l i
  unfolding use_at
  use_again i h = rw (
    sets_below vs l at (numbers_kept * i) (omega arith),
    sets_below vs l at (numbers_kept * i + 1) (omega arith),
    sets_below vs l at (numbers_kept * i + 2) (omega arith),
    sets_below vs l at (numbers_kept * i + 3) (omega arith),
  )

-- What was kept of a Boolean tells it, and is small.
kind_told : (b : Bool) → eqb (span_kind b) stored_kept ≡ b
kind_told true = refl
kind_told false = refl

flag_told : (b : Bool) → eqb (flag b) 1 ≡ b
flag_told true = refl
flag_told false = refl

kind_small : (b : Bool) → span_kind b < bare_weight
kind_small true = omega arith
kind_small false = omega arith

flag_small : (b : Bool) → flag b < 2
flag_small true = omega arith
flag_small false = omega arith

-- So was what was kept of a format.
format_told : (f : Format) → format_kept (format_number f) ≡ f
unfolding format_kept
format_told Alpha = refl
format_told Binary = refl
format_told Fixed = refl
format_told Packed = refl
format_told Unpacked = refl

format_small : (f : Format) → format_number f < formats_kept
format_small Alpha = omega arith
format_small Binary = omega arith
format_small Fixed = omega arith
format_small Packed = omega arith
format_small Unpacked = omega arith

kind_spans : (b : Bool) (m n : ℕ) (s : Span) → use_of_kind (span_kind b) m n s ≡ code.Values s
unfolding use_of_kind
kind_spans true m n s = refl
kind_spans false m n s = refl

-- What was packed into one number is told by it again.
module _ (a b : ℕ) (h : b < pair_base) where
  pair_first : pair a b / pair_base ≡ a
  pair_first = omega arith

  pair_second : pair a b % pair_base ≡ b
  pair_second = omega arith

module _ (s : Span) (t : SmallSpan s) where
  what_kind : span_what s % bare_weight ≡ span_kind s.standard
  what_kind = omega (arith, kind_small s.standard, flag_small s.bare)

  what_bare : span_what s / bare_weight % 2 ≡ flag s.bare
  what_bare = omega (arith, kind_small s.standard, flag_small s.bare)

  what_format : span_what s / format_weight % formats_kept ≡ format_number s.format
  what_format = omega (arith, kind_small s.standard, flag_small s.bare, format_small s.format)

  what_size : span_what s / size_weight ≡ s.size
  what_size = omega (arith, kind_small s.standard, flag_small s.bare, format_small s.format)

module _ (l : List ℕ) (at : ℕ) (h : at + numbers_kept ≤ length l) where
  module _ (s : Span) (t : SmallSpan s) where
    what_here : get_or (sets l at (span_numbers s)) at 0 ≡ span_what s
    what_here = sets_at (span_numbers s) l at 0 at (omega arith) h (omega arith)

    kind_here : kind_at (sets l at (span_numbers s)) at ≡ span_kind s.standard
    kind_here = rw what_here (what_kind s t)

    span_here : span_at (sets l at (span_numbers s)) at ≡ s
    span_here = rw (
      what_here,
      what_kind s t,
      kind_told s.standard,
      what_bare s t,
      flag_told s.bare,
      what_format s t,
      format_told s.format,
      what_size s t,
      sets_at (span_numbers s) l at 1 (at + 1) refl h (omega arith),
      pair_first s.first s.end t.1,
      pair_second s.first s.end t.1,
      sets_at (span_numbers s) l at 2 (at + 2) refl h (omega arith),
      pair_first s.from s.upto t.3,
      pair_second s.from s.upto t.3,
      sets_at (span_numbers s) l at 3 (at + 3) refl h (omega arith),
      pair_first s.value_from s.value_upto t.5,
      pair_second s.value_from s.value_upto t.5,
    )

  three_here : (k a b : ℕ) (s : Span)
      → (let l' = sets l at (k ∷ a ∷ b ∷ []) in use_of_kind (kind_at l' at) (get_or l' (at + 1) 0) (get_or l' (at + 2) 0) s ≡ use_of_kind (k % bare_weight) a b s)
  three_here k a b s = rw (
    sets_at (k ∷ a ∷ b ∷ []) l at 0 at (omega arith) (omega arith) (omega arith),
    sets_at (k ∷ a ∷ b ∷ []) l at 1 (at + 1) refl (omega arith) (omega arith),
    sets_at (k ∷ a ∷ b ∷ []) l at 2 (at + 2) refl (omega arith) (omega arith),
  )

-- The use at the place is the one that was set.
use_here : (u : Use) (l : List ℕ) (n : ℕ) → numbers_kept * n + numbers_kept ≤ length l → small u → use_at (sets l (numbers_kept * n) (numbers u)) n ≡ u
unfolding use_at use_of_kind
use_here (code.Blanks m) l n h t = three_here l (numbers_kept * n) h blanks_kept m 0 _
use_here (code.Text from upto) l n h t = three_here l (numbers_kept * n) h text_kept from upto _
use_here (code.GroupCount i) l n h t = three_here l (numbers_kept * n) h group_count_kept i 0 _
use_here (code.ValueCount i k) l n h t = three_here l (numbers_kept * n) h value_count_kept i k _
use_here (code.Values s) l n h t =
    let at = numbers_kept * n in
    let l' = sets l at (span_numbers s) in
    ap (λ k. use_of_kind k (get_or l' (at + 1) 0) (get_or l' (at + 2) 0) (span_at l' at)) (kind_here l at h s t)
    ∙ kind_spans s.standard _ _ _
    ∙ ap code.Values (span_here l at h s t)

-- The use at a place, by its kind.
module _ (l : List ℕ) (n : ℕ) where
  pub use_blanks : kind_at l (numbers_kept * n) ≡ 0 → code.Blanks (get_or l (numbers_kept * n + 1) 0) ≡ use_at l n
  unfolding use_at use_of_kind
  use_blanks e = rw e

  pub use_text : kind_at l (numbers_kept * n) ≡ 1 → code.Text (get_or l (numbers_kept * n + 1) 0) (get_or l (numbers_kept * n + 2) 0) ≡ use_at l n
  unfolding use_at use_of_kind
  use_text e = rw e

  pub use_group_count : kind_at l (numbers_kept * n) ≡ 2 → code.GroupCount (get_or l (numbers_kept * n + 1) 0) ≡ use_at l n
  unfolding use_at use_of_kind
  use_group_count e = rw e

  pub use_value_count : kind_at l (numbers_kept * n) ≡ 3 → code.ValueCount (get_or l (numbers_kept * n + 1) 0) (get_or l (numbers_kept * n + 2) 0) ≡ use_at l n
  unfolding use_at use_of_kind
  use_value_count e = rw e

  pub use_values : (kind_at l (numbers_kept * n) ≡ 0 → ⊥) → (kind_at l (numbers_kept * n) ≡ 1 → ⊥) → (kind_at l (numbers_kept * n) ≡ 2 → ⊥) → (kind_at l (numbers_kept * n) ≡ 3 → ⊥)
      → code.Values (span_at l (numbers_kept * n)) ≡ use_at l n
  unfolding use_at use_of_kind
  use_values a b c d = rw (ne_eqb _ 0 a, ne_eqb _ 1 b, ne_eqb _ 2 c, ne_eqb _ 3 d)

-- A run by its last, and runs that are the same at each number.
module _ {A : Type 0} where
  run_last : (g : ℕ → A) (i n j : ℕ) → j ≡ i + n → run g i (suc n) ≡ run g i n ++ (g j ∷ [])
  unfolding run
  run_last g i zero j e = let q : j ≡ i = omega arith in rw q
  run_last g i (suc n) j e = ap (λ xs. g i ∷ xs) (run_last g (suc i) n j (omega arith))

  run_as : (g h : ℕ → A) (i n : ℕ) → ((k : ℕ) → k < i + n → g k ≡ h k) → run g i n ≡ run h i n
  unfolding run
  run_as g h i zero e = refl
  run_as g h i (suc n) e = let q = run_as g h (suc i) n (λ k l. e k (omega arith)) in rw (e i (omega arith), q)

-- The uses kept, by the last.
pub uses_last : (es : List Entry) (f : Bytes) (l : List ℕ) (n : ℕ) → uses_kept es f l (suc n) ≡ uses_kept es f l n ++ (use_meant es f (use_at l n) ∷ [])
unfolding uses_kept
uses_last es f l n = run_last _ 0 n n (omega arith)

pub uses_none : (es : List Entry) (f : Bytes) (l : List ℕ) → uses_kept es f l 0 ≡ []
unfolding uses_kept run
uses_none es f l = refl

module _ (es : List Entry) (f : Bytes) (l : List ℕ) (n : ℕ) (u : Use) (h : numbers_kept * n + numbers_kept ≤ length l) (t : small u) where
  -- The uses kept, with one more.
  pub uses_more : uses_kept es f (sets l (numbers_kept * n) (numbers u)) (n + 1) ≡ uses_kept es f l n ++ (use_meant es f u ∷ [])
  unfolding uses_kept
  uses_more =
      let l' = sets l (numbers_kept * n) (numbers u) in
      ap (uses_kept es f l') (add-one n)
      ∙ uses_last es f l' n
      ∙ ap (λ v. uses_kept es f l' n ++ (use_meant es f v ∷ [])) (use_here u l n h t)
      ∙ ap (λ us. us ++ (use_meant es f u ∷ [])) (run_as _ _ 0 n (λ k i. ap (use_meant es f) (use_again l (numbers u) (numbers_kept * n) k (omega arith))))

  pub good_more : GoodUse es f u → GoodUses es f l n → GoodUses es f (sets l (numbers_kept * n) (numbers u)) (n + 1)
  good_more g k i q =
      by_order i n
      (λ below. subst (GoodUse es f) (sym (use_again l (numbers u) (numbers_kept * n) i (omega arith))) (k i below))
      (λ here. let e : i ≡ n = omega arith in subst (λ j. GoodUse es f (use_at (sets l (numbers_kept * n) (numbers u)) j)) (sym e) (subst (GoodUse es f) (sym (use_here u l n h t)) g))

-- The numbers of a use are small: an index, a number of entries and a size are each one of a pair.
index_paired : {n : ℕ} → n ≤ highest_index → n < pair_base
index_paired h = omega arith

entry_paired : {n : ℕ} → n ≤ most_entries → n < pair_base
entry_paired h = omega arith

size_paired : (t : Rules.Format) (n : ℕ) → allowed t n ≡ true → n < pair_base
unfolding allowed
size_paired alpha n e = let q = leb→le n longest_alpha (true_T e) in omega arith
size_paired binary n e = let q = leb→le n longest_binary (and_right (leb 1 n) (leb n longest_binary) (true_T e)) in omega arith
size_paired fixed n e = from_or (eqb n 2) (eqb n 4) e (λ k. let q = eqb→eq n 2 (true_T k) in omega arith) (λ k. let q = eqb→eq n 4 (true_T k) in omega arith)
size_paired packed n e = let q = leb→le n longest_packed (and_right (leb 1 n) (leb n longest_packed) (true_T e)) in omega arith
size_paired unpacked n e = let q = leb→le n longest_unpacked (and_right (leb 1 n) (leb n longest_unpacked) (true_T e)) in omega arith

module _ (es : List Entry) (l : length es ≤ most_entries) where
  pub span_small : {s : Span} → GoodSpan es s → SmallSpan s
  span_small {s} h =
      let o = ordered_within (range s.from s.upto) h.occurrences in
      let v = ordered_within (range s.value_from s.value_upto) h.values in
      let end : s.end ≤ most_entries = omega (arith, h.upto) in
      let size : s.size < pair_base = by_test s.standard
      (λ e. let z = h.unasked e in omega (arith, z.1))
      (λ e. size_paired _ _ (h.alone e).allowed) in (
        entry_paired (omega (arith, h.ordered)),
        entry_paired end,
        index_paired (omega (arith, o.1, o.2)),
        index_paired o.2,
        index_paired (omega (arith, v.1, v.2)),
        index_paired v.2,
        size,
      )

  pub use_small : (f : Bytes) → length f ≤ longest_format → (u : Use) → GoodUse es f u → small u
  use_small f m (code.Blanks n) h = omega arith
  use_small f m (code.Text from upto) h = (omega arith, omega arith)
  use_small f m (code.GroupCount i) h = omega arith
  use_small f m (code.ValueCount i k) h = (omega arith, omega arith)
  use_small f m (code.Values s) h = span_small h
