-- What a check of a record answers at each of its ends, and how its walk goes on after an entry.
use Rattle.std.specs.Prelude.{None, Option, Some}
use mathlib.Core.Path.{◌≡◌, sym, ◌∙◌}
use mathlib.Core.Bool.{Bool, true, false}
use mathlib.Core.List.{List}
use Prim.Native.Nat.{ℕ, suc, ◌+◌, ◌*◌, ◌≤◌, ◌<◌}
use native.Mathlib.Nat.{not-suc-le-zero}
use native.Mathlib.Omega.{arith}
use lib.Dec.{eqb}
use lib.ListN.{length, drop, get_or, set, length-set}
use lib.Seq.{get_or-set_same, get_or-set_other}
use Rattle.rules.specs.Outcome.{is_done}
use Rattle.rules.specs.Lists.{Bytes}
use Rattle.rules.specs.Table.{Entry, is_inside, parts}
use Rattle.rules.specs.Record.{stored}
use Rattle.buffer.proofs.Cases.{by_order}
use Rattle.tables.specs.Entries.{blank}
use Rattle.rules.specs.Limits.{most_entries}
use Rattle.records.specs.Counts.{greatest_byte}
use Rattle.records.specs.Walk.{Walked, after_entry, is_headed, firsts, kept_from, directory, occurrence, occurrences_counted, Kept, OccurrencesKept, Checked}
use Rattle.records.proofs.Entries.{never}
use Rattle.records.proofs.Walks.{walked_at, walked_bad}
use Rattle.records.proofs.Checking.{Checking, turn, bad, over}
use Rattle.tables.proofs.Tables.{valid_most}
use Rattle.records.proofs.HeadLaws.{headed_long, headed_most, stored_headless, stored_bad, stored_over}

refuses : (es : List Entry) (b : Bytes) (places : List ℕ) (ok : Bool) → is_done (stored (parts es) b) ≡ false → ok ≡ false → Checked es b places ok
refuses es b places ok h k = record { answer = k ∙ sym h; starts = λ e j l. absurd (never k e); occurrences = λ e j l. absurd (never k e) }

pub no_head : (es : List Entry) (b : Bytes) (places : List ℕ) (ok : Bool) → is_headed b ≡ false → ok ≡ false → Checked es b places ok
no_head es b places ok h k = refuses es b places ok (stored_headless (parts es) b h) k

-- The occurrences of the entries before entry i are kept, each entry's before the next one's, and all before the number `kept`.
pub record Rowing (es : List Entry) (b : Bytes) (places : List ℕ) (i kept : ℕ) : Type 0 where
  pub long : length places ≡ directory
  pub least : kept_from ≤ kept
  pub most : kept ≤ kept_from + i * greatest_byte
  pub low : (g : ℕ) → g < i → kept_from ≤ get_or places (firsts + g) 0
  pub high : (g : ℕ) → g < i → get_or places (firsts + g) 0 + occurrences_counted (get_or es g blank).what (get_or b (get_or places g 0) 0) ≤ kept
  pub occurrences : (g : ℕ) → g < i → OccurrencesKept es b places g

pub rowing : (es : List Entry) (b : Bytes) (places : List ℕ) → length places ≡ directory → Rowing es b places 0 kept_from
rowing es b places h = record {
  long = h;
  least = omega arith;
  most = omega arith;
  low = λ g l. absurd (not-suc-le-zero l);
  high = λ g l. absurd (not-suc-le-zero l);
  occurrences = λ g l. absurd (not-suc-le-zero l);
}

pub long_set : (l : List ℕ) (i v j w : ℕ) → length (set (set l i v) j w) ≡ length l
long_set l i v j w = length-set (set l i v) j w ∙ length-set l i v

-- Entry i adds its place, the number of its first occurrence, and the places of its occurrences.
module _ {es : List Entry} {b : Bytes} {places : List ℕ} {i kept : ℕ} (l : Rowing es b places i kept) (small : i < most_entries) (p : ℕ) {after : List ℕ}
    (k : Kept (occurrence es i) b (p + 1) (occurrences_counted (get_or es i blank).what (get_or b p 0)) kept (set (set places i p) (firsts + i) kept) after) where
  others : (j : ℕ) → j < kept → (j ≡ i → ⊥) → (j ≡ firsts + i → ⊥) → get_or after j 0 ≡ get_or places j 0
  others j h a c = k.others j h ∙ get_or-set_other (set places i p) (firsts + i) j kept 0 c ∙ get_or-set_other places i j p 0 a

  pub old : (j : ℕ) → j < i → get_or after j 0 ≡ get_or places j 0
  old j h = others j (omega (arith, l.least)) (λ z. omega arith) (λ z. omega arith)

  pub new : get_or after i 0 ≡ p
  new = k.others i (omega (arith, l.least)) ∙ get_or-set_other (set places i p) (firsts + i) i kept 0 (λ z. omega arith) ∙ get_or-set_same places i p 0 (omega (arith, l.long))

  old_first : (j : ℕ) → j < i → get_or after (firsts + j) 0 ≡ get_or places (firsts + j) 0
  old_first j h = others (firsts + j) (omega (arith, l.least)) (λ z. omega arith) (λ z. omega arith)

  new_first : get_or after (firsts + i) 0 ≡ kept
  new_first = k.others (firsts + i) (omega (arith, l.least)) ∙ get_or-set_same (set places i p) (firsts + i) kept 0 (omega (arith, length-set places i p, l.long))

  old_rows : (g : ℕ) → g < i → OccurrencesKept es b after g
  old_rows g h = rw (old g h, old_first g h) λ n less room.
      rw (others (get_or places (firsts + g) 0 + n) (omega (arith, less, l.high g h)) (λ z. omega (arith, l.low g h)) (λ z. omega (arith, l.low g h))) (l.occurrences g h n less room)

  new_rows : OccurrencesKept es b after i
  new_rows = rw (new, new_first) k.occurrences

  pub rowed : {next : ℕ} → next ≡ kept + occurrences_counted (get_or es i blank).what (get_or b p 0) → next ≤ kept + greatest_byte → Rowing es b after (i + 1) next
  rowed q h = record {
    long = k.long ∙ long_set places i p (firsts + i) kept ∙ l.long;
    least = omega (arith, l.least, q);
    most = omega (arith, l.most);
    low = λ g m. by_order g i (λ o. rw (old_first g o) (l.low g o)) (λ o. let z : g ≡ i = omega arith in rw (z, new_first) l.least);
    high = λ g m. by_order g i
        (λ o. rw (old g o, old_first g o) (omega (arith, l.high g o, q)))
        (λ o. let z : g ≡ i = omega arith in rw (z, new, new_first) (omega (arith, q)));
    occurrences = λ g m. by_order g i (old_rows g) (λ o. let z : g ≡ i = omega arith in rw z new_rows);
  }

module _ {es : List Entry} {b : Bytes} {places : List ℕ} {before : Bool} {i p : ℕ} (c : Checking es b places before i p) where
  -- After entry i, or at something that is not its part.
  module _ (less : i < length es) (d : Entry) {inside : Bool} (q : inside ≡ is_inside before (get_or es i d))
      {s : (Option ℕ)} (w : Walked b (after_entry inside (get_or es i d) (drop (suc i) es) (drop p b)) s) where
    pub passed : {next : ℕ} → s ≡ Some next → (after : List ℕ) → get_or after i 0 ≡ p → ((j : ℕ) → j < i → get_or after j 0 ≡ get_or places j 0) → Checking es b after inside (i + 1) next
    passed {next} e after n o = let h = walked_at w e in rw q (turn c less d next after n o h.1 (rw q at h.0))

    pub no_part : (after : List ℕ) (ok : Bool) → s ≡ None → is_headed b ≡ true → ok ≡ false → Checked es b after ok
    unfolding parts
    no_part after ok e h k = refuses es b after ok (stored_bad (parts es) b h (bad c less d (rw q at (walked_bad w e)))) k

  -- After the last entry.
  pub at_the_end : {kept : ℕ} → Rowing es b places i kept → (ok : Bool) → length es ≤ i → is_headed b ≡ true → ok ≡ eqb p (length b) → Checked es b places ok
  unfolding parts
  at_the_end l ok h t k = record {
    answer = k ∙ sym (stored_over (parts es) b t p c.inside (over c h));
    starts = λ e j m. c.kept j (omega arith);
    occurrences = λ e j m. l.occurrences j (omega arith);
  }

-- what bounds the numbers of a walk over a record
pub ruleset check_bounds = (valid_most, headed_most, headed_long, length-set)
