-- The empty record is as it should be, every value of it is null and every count 0.
use mathlib.Core.Path.{◌≡◌, refl, ◌∙◌}
use mathlib.Core.Bool.{Bool, true, false}
use mathlib.Core.Option.{some}
use mathlib.Core.List.{List, []}
use Prim.Native.Nat.{ℕ}
use native.Mathlib.Omega.{arith}
use Rattle.rules.specs.Values.{null}
use Rattle.rules.specs.Table.{Field, Part, Entry, parts, part_named}
use Rattle.rules.specs.Record.{Plan, laid_cell, count_or_one, value_at, value_count_at, group_count_at, empty_record}
use Rattle.rules.proofs.Back.{RecordOk, all_map}
use Rattle.rules.proofs.Home.{home, Occurs}
use Rattle.rules.proofs.Runs.{run_length}
use Rattle.rules.proofs.Laid.{occurrences_at, laid_values, laid_values_past, laid_value, laid_value_past, laid_occurrence_past}
use Rattle.buffer.proofs.Cases.{by_order}
use Rattle.histories.proofs.Counts.{laid_group}
use Rattle.histories.proofs.Keep.{laid_ok, sized_one_or, FieldKnown, PartsKnown}

abbrev nothing_yet : Plan
nothing_yet = record {
  occurrences = λ p old. count_or_one p.periodic 0;
  values = λ f i. count_or_one f.multiple 0;
  value = λ f i k. null f.format f.size;
}

pub empty_ok : (es : List Entry) → PartsKnown es → RecordOk (parts es) (empty_record (parts es))
unfolding empty_record
empty_ok es known = laid_ok nothing_yet (parts es) [] tt
    (all_map _ _ (λ p n. ((λ old h. sized_one_or p.periodic (omega arith)), all_map (FieldKnown es p) _ (λ f m i. (sized_one_or f.multiple (omega arith), λ k. m.2)) p.members n)) (parts es) known)

none_counted : (c : Bool) → c ≡ true → count_or_one c 0 ≡ 0
unfolding count_or_one
none_counted true e = refl
none_counted false e = absurd (let z : ◌≡◌ {A = ℕ} 0 1 = cc in omega arith)

module _ (ps : List Part) (p : Part) (f : Field) (i k : ℕ) (at : home f.name ps ≡ some (p, f)) (g : Occurs p f i k) where
  pub empty_value : value_at ps (empty_record ps) f i k ≡ null f.format f.size
  unfolding empty_record
  empty_value = by_order (nothing_yet.occurrences p (occurrences_at ps [] f.name)) i
      (λ h. laid_occurrence_past nothing_yet ps [] p f at i k h)
      (λ h. by_order (nothing_yet.values f i) k
      (λ h₂. laid_value_past nothing_yet ps [] p f at i k g.occurrence h h₂)
      (λ h₂. laid_value nothing_yet ps [] p f at i k g.occurrence h g.value h₂))

  pub empty_count : f.multiple ≡ true → value_count_at ps (empty_record ps) f.name i ≡ 0
  unfolding empty_record value_count_at laid_cell
  empty_count m = by_order (nothing_yet.occurrences p (occurrences_at ps [] f.name)) i
      (λ h. rw (laid_values_past nothing_yet ps [] p f at i h))
      (λ h. rw (laid_values nothing_yet f.name ps [] p f at i g.occurrence h) (run_length _ 1 _ ∙ none_counted f.multiple m))

pub empty_group : (ps : List Part) (n : ℕ) (p : Part) → part_named n ps ≡ some p → p.periodic ≡ true → group_count_at ps (empty_record ps) n ≡ 0
unfolding empty_record
empty_group ps n p e c = laid_group nothing_yet ps [] n p e ∙ none_counted p.periodic c
