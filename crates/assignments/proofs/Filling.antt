-- The values of a block, noted one after the other: each is read back from where it stands on the stage, so that the next begins where it ends.
use mathlib.Core.Path.{◌≡◌, refl, sym, ap, subst, ◌∙◌}
use mathlib.Core.List.{List, [], ◌∷◌, ◌++◌, map, append_assoc, append-nil}
use Prim.Native.Nat.{ℕ, suc, ◌+◌, ◌-◌, ◌≤◌, ◌<◌}
use native.Mathlib.Omega.{arith}
use native.Mathlib.Numerals.{add-one}
use lib.Dec.{ltb, eqb}
use lib.ListN.{length, get_or, set, drop, length-append, length-drop}
use lib.Seq.{get_or-set_same, get_or-set_other}
use Rattle.rules.specs.Outcome.{done}
use Rattle.rules.specs.Lists.{Bytes, join, run}
use Rattle.rules.specs.Values.{Format}
use Rattle.rules.specs.Table.{Entry}
use Rattle.rules.specs.Record.{times, stored_value}
use Rattle.rules.specs.Use.{Place}
use Rattle.rules.specs.Update.{Assignment}
use Rattle.rules.proofs.Steps.{by_test, done_inj}
use Rattle.rules.proofs.Back.{All}
use Rattle.rules.proofs.Readers.{value_sound}
use Rattle.tables.specs.Groups.{field_at}
use Rattle.records.specs.Walk.{rest_of, Ends, EndsAt}
use Rattle.uses.specs.declared.Span.{Span}
use borrow.Author.Tests.{eqb-true, eqb-false, ltb-true, ltb-false}
use Rattle.assignments.specs.Notes.{place_at, bytes_given, StandsIn, OnStage}
use Rattle.assignments.specs.Answers.{ReadsBack, Block, NotedAt, CanFill, Filled}
use Rattle.assignments.proofs.Giving.{read_there}
use Rattle.assignments.proofs.Given.{given_append}

bytes_one : (v : Assignment) → bytes_given (v ∷ []) ≡ v.bytes
unfolding join
bytes_one v = append-nil v.bytes

-- The values from k on stand after p bytes.
pub record ValuesLeft (es : List Entry) (ws : List Assignment) (i o upto k p : ℕ) : Type 0 where
  pub before : List Assignment
  pub block : List Assignment
  pub after : List Assignment
  pub is : ws ≡ before ++ (block ++ after)
  pub bytes : p ≡ length (bytes_given before)
  pub places : map (λ a. a.place) block ≡ run (place_at es i o) k (suc upto - k)
  pub reads : All ReadsBack block

-- Value k, and those after it.
pub record ValueNext (es : List Entry) (ws : List Assignment) (i o upto k p : ℕ) : Type 0 where
  pub value : Assignment
  pub stands : StandsIn ws p value
  pub place : value.place ≡ place_at es i o k
  pub back : ReadsBack value
  pub rest : ValuesLeft es ws i o upto (k + 1) (p + length value.bytes)

first_place : (es : List Entry) (i o upto k : ℕ) → k ≤ upto → run (place_at es i o) k (suc upto - k) ≡ place_at es i o k ∷ run (place_at es i o) (k + 1) (suc upto - (k + 1))
unfolding run
first_place es i o upto k h = let e : suc upto - k ≡ suc (suc upto - (k + 1)) = omega arith in rw (e, add-one k)

module _ {es : List Entry} {ws : List Assignment} {i o upto k p : ℕ} where
  next_of : (before block after : List Assignment) → ws ≡ before ++ (block ++ after) → p ≡ length (bytes_given before)
      → map (λ a. a.place) block ≡ place_at es i o k ∷ run (place_at es i o) (k + 1) (suc upto - (k + 1)) → All ReadsBack block → ValueNext es ws i o upto k p
  next_of before [] after is bytes places reads = absurd (let z = ap length places in omega (arith, z))
  next_of before (a ∷ block) after is bytes places reads = record {
    value = a;
    stands = record { before = before; after = block ++ after; is = is; bytes = bytes };
    place = let e : a.place ≡ place_at es i o k = cc in e;
    back = reads.0;
    rest = record {
      before = before ++ (a ∷ []);
      block = block;
      after = after;
      is = is ∙ sym (append_assoc before (a ∷ []) (block ++ after));
      bytes = ap (λ n. n + length a.bytes) bytes ∙ sym (length-append (bytes_given before) a.bytes)
          ∙ ap length (sym (given_append before (a ∷ []) ∙ ap (λ (b : Bytes). bytes_given before ++ b) (bytes_one a)));
      places = let e : map (λ b. b.place) block ≡ run (place_at es i o) (k + 1) (suc upto - (k + 1)) = cc in e;
      reads = reads.1;
    };
  }

  pub value_next : k ≤ upto → ValuesLeft es ws i o upto k p → ValueNext es ws i o upto k p
  value_next h l = next_of l.before l.block l.after l.is l.bytes (l.places ∙ first_place es i o upto k h) l.reads

pub block_left : {es : List Entry} {ws : List Assignment} {i o : ℕ} {s : Span} {p : ℕ} → Block es ws i o s p → ValuesLeft es ws i o s.value_upto s.value_from p
block_left b = record { before = b.before; block = b.block; after = b.after; is = b.is; bytes = b.bytes; places = b.places; reads = b.reads }

-- A value by itself is a run of one.
value_alone : (f : Format) (n : ℕ) (bs v rest : Bytes) → stored_value f n bs ≡ done (v, rest) → rest_of (times 1 (stored_value f n) bs) ≡ done rest
unfolding times
value_alone f n bs v rest e = rw e refl

ends_at : (p q v l : ℕ) → p ≤ l → q ≤ l → l - p ≡ v + (l - q) → q ≡ p + v
ends_at p q v l h k e = omega arith

-- It is read back from the stage, so that it ends, and the next begins there.
module _ {stage : Bytes} {es : List Entry} {ws : List Assignment} {i o upto k p size : ℕ} (g : OnStage stage ws) (n : ValueNext es ws i o upto k p) (e : size ≡ (field_at es i).size) where
  there : (p ≤ length stage) × (rest : Bytes) × (stored_value (field_at es i).format size (drop p stage) ≡ done (n.value.bytes, rest))
  there =
      let r = read_there g n.stands n.back in (
        r.0,
        r.1,
        subst (λ (z : ℕ). stored_value (field_at es i).format z (drop p stage) ≡ done (n.value.bytes, r.1)) (sym e)
            (subst (λ (q : Place). stored_value q.field.format q.field.size (drop p stage) ≡ done (n.value.bytes, r.1)) n.place r.2),
      )

  pub next_within : p ≤ length stage
  next_within = there.0

  pub next_ends : Ends (rest_of (times 1 (stored_value (field_at es i).format size) (drop p stage)))
  next_ends = (there.1, value_alone (field_at es i).format size (drop p stage) n.value.bytes there.1 there.2)

  pub next_left : (q : ℕ) → EndsAt stage (rest_of (times 1 (stored_value (field_at es i).format size) (drop p stage))) q → ValuesLeft es ws i o upto (k + 1) q
  unfolding there next_ends
  next_left q b =
      let w = b next_ends in
      let v : Bytes = n.value.bytes in
      let after : there.1 ≡ drop q stage = done_inj (sym next_ends.1 ∙ sym w.answer) in
      let parted : drop p stage ≡ v ++ drop q stage = value_sound (field_at es i).format size (drop p stage) v there.1 there.2 ∙ ap (λ (r : Bytes). v ++ r) after in
      let long : length stage - p ≡ length v + (length stage - q) =
      sym (length-drop p stage) ∙ ap length parted ∙ length-append v (drop q stage) ∙ ap (λ (m : ℕ). length v + m) (length-drop q stage) in
      subst (λ (m : ℕ). ValuesLeft es ws i o upto (k + 1) m) (sym (ends_at p q (length v) (length stage) next_within w.place long)) n.rest

-- The values below k are noted, and nothing else has changed.
pub record Partly (es : List Entry) (ws : List Assignment) (i o : ℕ) (s : Span) (k : ℕ) (by by' : List ℕ) : Type 0 where
  pub inside : (j : ℕ) → s.value_from ≤ j → j < k → NotedAt es ws i o j (get_or by' j 0)
  pub below : (j : ℕ) → j < s.value_from → get_or by' j 0 ≡ get_or by j 0
  pub above : (j : ℕ) → s.value_upto < j → get_or by' j 0 ≡ get_or by j 0

abbrev pub Fills : Bytes → ℕ → Span → ℕ → List ℕ → List ℕ → ℕ → ℕ → Type 0
Fills stage at s size by by' p k = (es : List Entry) (ws : List Assignment) (i o : ℕ) → CanFill es ws stage i o s at size
    → ValuesLeft es ws i o s.value_upto k p × Partly es ws i o s k by by'

module _ (stage : Bytes) (at : ℕ) (s : Span) (size : ℕ) (by : List ℕ) where
  module _ (by' : List ℕ) (p k : ℕ) (f : Fills stage at s size by by' p k) where
    pub fills_next : {es : List Entry} {ws : List Assignment} {i o : ℕ} → CanFill es ws stage i o s at size → k ≤ s.value_upto → ValueNext es ws i o s.value_upto k p
    fills_next {es} {ws} {i} {o} c h = value_next h (f es ws i o c).0

    pub fills_on : k ≤ s.value_upto → s.value_from ≤ k → k < length by' → (q : ℕ)
        → ((g : Format) → EndsAt stage (rest_of (times 1 (stored_value g size) (drop p stage))) q) → Fills stage at s size by (set by' k (p + 1)) q (k + 1)
    fills_on h h' l q b es ws i o c =
        let n = fills_next c h in
        let y = (f es ws i o c).1 in (
          next_left c.stands n c.size_is q (b (field_at es i).format),
          record {
            inside = λ j m m'. by_test (eqb j k)
                (λ t.
                let d : j ≡ k = eqb-true j k t in
                subst (λ (z : ℕ). NotedAt es ws i o z (get_or (set by' k (p + 1)) z 0)) (sym d)
                (subst (λ (z : ℕ). NotedAt es ws i o k z) (sym (get_or-set_same by' k (p + 1) 0 l ∙ add-one p)) (n.value, n.stands, n.place)))
                (λ t.
                let d = eqb-false j k t in
                subst (λ (z : ℕ). NotedAt es ws i o j z) (sym (get_or-set_other by' k j (p + 1) 0 d)) (y.inside j m (before j k d m')));
            below = λ j m. get_or-set_other by' k j (p + 1) 0 (λ d. omega (arith, d)) ∙ y.below j m;
            above = λ j m. get_or-set_other by' k j (p + 1) 0 (λ d. omega (arith, d)) ∙ y.above j m;
          },
        )
      where
        before : (j k : ℕ) → (j ≡ k → ⊥) → j < k + 1 → j < k
        before j k d h = by_test (ltb j k) (λ e. ltb-true j k e) (λ e. let m = ltb-false j k e in absurd (d (omega arith)))

    pub fills_end : s.value_upto < k → length by' ≡ length by → {es : List Entry} {ws : List Assignment} {i o : ℕ} → CanFill es ws stage i o s at size → Filled es ws i o s by by'
    fills_end h l {es} {ws} {i} {o} c =
        let y = (f es ws i o c).1 in
        record { same = l; inside = λ j m m'. y.inside j m (omega arith); below = y.below; above = y.above }
