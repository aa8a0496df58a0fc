-- Items that are passed over: they give nothing, and the buffer has their bytes or is too short for them. So each kind of use has its own
-- items.
use Rattle.std.specs.Prelude.{Err, Ok, Result}
use Rattle.rules.specs.declared.Refusal.{Refusal}
use mathlib.Core.Path.{◌≡◌, refl, sym, ◌∙◌, subst}
use mathlib.Core.List.{List, [], ◌∷◌, ◌++◌, append-nil}
use Prim.Native.Nat.{ℕ, ◌+◌, ◌-◌, ◌≤◌}
use native.Mathlib.Omega.{arith}
use lib.ListN.{length, drop, length-drop}
use lib.Seq.{drop-drop}
use Rattle.rules.specs.Outcome.{done, ◌>>=◌}
use Rattle.rules.specs.Lists.{Bytes, cut}
use Rattle.rules.specs.Table.{Entry}
use Rattle.rules.specs.Use.{Item, blanks_item, text_item, group_count, value_count, items_of}
use Rattle.rules.specs.Update.{Assignment}
use Rattle.rules.proofs.Ranges.{taking}
use Rattle.values.proofs.Cuts.{cut_enough, cut_short}
use Rattle.format_buffer.specs.Part.{part}
use Rattle.format_buffer.proofs.Parts.{length_part}
use Rattle.uses.specs.Meant.{use_meant, GoodUse}
use Rattle.uses.specs.declared.Use.{Use}
use Rattle.uses.specs.declared.Use.TheVariants as code
use Rattle.taking.specs.Taking.{Holds, Takes, Passed}
use Rattle.taking.specs.declared.Taking.{Taking}

-- Items of n bytes that give nothing.
abbrev Skips : List Item → ℕ → Type 0
Skips xs n = (bs : Bytes) → taking xs bs ≡ (cut 7 n bs >>= λ r. done ([], r.1))

skips_blanks : (n : ℕ) → Skips (blanks_item n ∷ []) n
unfolding taking
skips_blanks n bs = refl

skips_text : (t : Bytes) → Skips (text_item t ∷ []) (length t)
unfolding taking
skips_text t bs = refl

skips_groups : (n : ℕ) → Skips (group_count n ∷ []) 1
unfolding taking
skips_groups n bs = refl

skips_values : (n i : ℕ) → Skips (value_count n i ∷ []) 1
unfolding taking
skips_values n i bs = refl

module _ (es : List Entry) (buffer : Bytes) (n : ℕ) (s : Taking) (list : List ℕ) (stage : Bytes) where
  passed_on : {ws : List Assignment} → s.at + n ≤ length buffer → Holds es buffer list stage s ws
      → Holds es buffer list stage (record { at = s.at + n; staged = s.staged; full = s.full }) ws
  passed_on l h = record {
    entries = h.entries;
    apart = h.apart;
    place = l;
    within = h.within;
    unindexed = h.unindexed;
    full = h.full;
    staged = h.staged;
    bytes = h.bytes;
    firsts = h.firsts;
  }

  passes : (xs : List Item) → Skips xs n → (r : Result Taking Refusal) → Passed buffer n s r → Takes es buffer xs s list list stage stage r
  passes xs k (Ok t) p = record {
    same_list = refl;
    same_stage = refl;
    same_uses = λ j h. refl;
    moved = λ ws h. subst (λ t. (own : List Assignment) × (taking xs (drop s.at buffer) ≡ done (own, drop t.at buffer)) × Holds es buffer list stage t (ws ++ own)) (sym p.1)
        ([], k (drop s.at buffer) ∙ rw (cut_enough 7 n (drop s.at buffer) (rw length-drop (omega (arith, p.0)))) (rw drop-drop), rw append-nil (passed_on p.0 h));
  }
  passes xs k (Err x) p = record {
    same_list = refl;
    same_stage = refl;
    same_uses = λ j h. refl;
    moved = λ ws h. rw p.1 (k (drop s.at buffer) ∙ rw (cut_short 7 n (drop s.at buffer) (rw length-drop (omega (arith, p.0)))));
  }

  module _ (f : Bytes) {u : Use} {r : (Result Taking Refusal)} (p : Passed buffer n s r) where
    as_kind : (v : Use) → u ≡ v → Takes es buffer (items_of (use_meant es f v)) s list list stage stage r → Takes es buffer (items_of (use_meant es f u)) s list list stage stage r
    as_kind v e k = rw e k

    pub use_blanks : u ≡ code.Blanks n → Takes es buffer (items_of (use_meant es f u)) s list list stage stage r
    unfolding items_of
    use_blanks e = as_kind (code.Blanks n) e (passes _ (skips_blanks n) r p)

    pub use_text : (from upto : ℕ) → n ≡ upto - from → u ≡ code.Text from upto → GoodUse es f u → Takes es buffer (items_of (use_meant es f u)) s list list stage stage r
    unfolding items_of
    use_text from upto m e good =
        let g = subst (GoodUse es f) e good in
        let l : length (part f from upto) ≡ n = length_part f from upto (omega (arith, g.0)) g.1 ∙ sym m in
        as_kind (code.Text from upto) e (passes _ (λ bs. skips_text (part f from upto) bs ∙ rw l) r p)

    pub use_group_count : (i : ℕ) → n ≡ 1 → u ≡ code.GroupCount i → Takes es buffer (items_of (use_meant es f u)) s list list stage stage r
    unfolding items_of
    use_group_count i m e = as_kind (code.GroupCount i) e (passes _ (λ bs. skips_groups _ bs ∙ rw m) r p)

    pub use_value_count : (i k : ℕ) → n ≡ 1 → u ≡ code.ValueCount i k → Takes es buffer (items_of (use_meant es f u)) s list list stage stage r
    unfolding items_of
    use_value_count i k m e = as_kind (code.ValueCount i k) e (passes _ (λ bs. skips_values _ k bs ∙ rw m) r p)
