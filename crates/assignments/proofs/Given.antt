-- What the record buffer gives to items: it goes to the places that they name, each value is in normal form and as long as its field, and
-- the bytes of what is given stand on the stage one part after the other.
use mathlib.Core.Path.{◌≡◌, refl, sym, ◌∙◌, ap}
use mathlib.Core.Bool.{Bool, true, false}
use mathlib.Core.List.{List, [], ◌∷◌, ◌++◌, map, append_assoc}
use Prim.Native.Nat.{ℕ, zero, suc, ◌+◌, ◌-◌, ◌≤◌, ◌<◌}
use native.Mathlib.Omega.{arith}
use lib.ListN.{length, get_or, drop, take-append-drop, length-append}
use lib.Seq.{drop-append_seam}
use Rattle.rules.specs.Outcome.{done, ◌>>=◌, is_done}
use Rattle.rules.specs.Lists.{Bytes, bytes_of, run, join, cut}
use Rattle.rules.specs.Values.{Format, allowed, first_value, converted_bytes}
use Rattle.rules.specs.Table.{Field, Entry}
use Rattle.rules.specs.Use.{Item, blanks_item, text_item, group_count, value_count, value_item, Asked, as_stored, items_of, items, value_items}
use Rattle.rules.specs.Update.{Assignment}
use Rattle.rules.proofs.Steps.{from_bind, from_done, by_test}
use Rattle.rules.proofs.Back.{All, all_map}
use Rattle.rules.proofs.Alls.{all_join, all_run, all_of_map}
use Rattle.rules.proofs.Digits.{Below}
use Rattle.rules.proofs.Places.{places_of}
use Rattle.rules.proofs.Assigned.{assigned_places}
use Rattle.rules.proofs.Ranges.{taking, taking_append, assignments_taking}
use Rattle.values.proofs.Converted.{converted_size}
use Rattle.values.proofs.Stored.{converted_stored, first_below, first_allowed, cut_below}
use Rattle.tables.specs.Entries.{blank, is_group}
use Rattle.tables.specs.Groups.{field_at}
use Rattle.uses.specs.Meant.{fields_from, asked_by, asked_of, use_meant, GoodSpan, GoodUse}
use Rattle.uses.specs.Kept.{use_at, uses_kept, GoodUses}
use Rattle.uses.specs.declared.Span.{Span}
use Rattle.uses.specs.declared.Use.{Use}
use Rattle.uses.specs.declared.Use.TheVariants as code
use Rattle.uses.proofs.SpanFields.{no_entry, field_entry, group_entry}
use Rattle.assignments.specs.Notes.{bytes_given, OnStage}
use Rattle.assignments.specs.Answers.{ReadsBack}

-- The formats and lengths of a value's item are allowed.
abbrev pub ItemAllowed : Item → Type 0
ItemAllowed (value_item p g n bare) = (allowed g n ≡ true) × (allowed p.field.format p.field.size ≡ true)
ItemAllowed (blanks_item n) = Unit {0}
ItemAllowed (text_item t) = Unit {0}
ItemAllowed (group_count n) = Unit {0}
ItemAllowed (value_count n i) = Unit {0}

pub taking_reads : (xs : List Item) (bs : Bytes) (ws : List Assignment) (rest : Bytes) → All ItemAllowed xs → Below 256 bs → taking xs bs ≡ done (ws, rest) → All ReadsBack ws
unfolding taking
taking_reads [] bs ws rest a b p = from_done p λ e g. rw (← e) tt
taking_reads (blanks_item n ∷ xs) bs ws rest a b p = from_bind (cut 7 n bs) _ p λ r h k. taking_reads xs r.1 ws rest a.1 (cut_below 7 n bs r.0 r.1 h b) k
taking_reads (text_item t ∷ xs) bs ws rest a b p = from_bind (cut 7 (length t) bs) _ p λ r h k. taking_reads xs r.1 ws rest a.1 (cut_below 7 (length t) bs r.0 r.1 h b) k
taking_reads (group_count n ∷ xs) bs ws rest a b p = from_bind (cut 7 1 bs) _ p λ r h k. taking_reads xs r.1 ws rest a.1 (cut_below 7 1 bs r.0 r.1 h b) k
taking_reads (value_count n i ∷ xs) bs ws rest a b p = from_bind (cut 7 1 bs) _ p λ r h k. taking_reads xs r.1 ws rest a.1 (cut_below 7 1 bs r.0 r.1 h b) k
taking_reads (value_item q g n bare ∷ xs) bs ws rest a b p =
    from_bind (first_value n bs) _ p λ r h k.
    from_bind (converted_bytes g q.field.format q.field.size r.0) _ k λ w h₂ k₂.
    from_bind (taking xs r.1) _ k₂ λ vs h₃ k₃.
    from_done k₃ λ e z.
    let (c, d) = first_below n bs r.0 r.1 h b in
    rw (← e) (converted_stored g q.field r.0 (first_allowed g n bs r.0 r.1 h a.0.0) c a.0.1 h₂, taking_reads xs r.1 vs.0 vs.1 a.1 d h₃)

-- A value of a field of fixed length has that length.
abbrev pub AsLong : Assignment → Type 0
AsLong a = 0 < a.place.field.size → length a.bytes ≡ a.place.field.size

long_as : (f g : Format) (n : ℕ) (bs w : Bytes) → converted_bytes f g n bs ≡ done w → 0 < n → length w ≡ n
unfolding bytes_of
long_as f g n bs w e h = rw e at (converted_size f g n bs (ap is_done e) h)

pub taking_long : (xs : List Item) (bs : Bytes) (ws : List Assignment) (rest : Bytes) → taking xs bs ≡ done (ws, rest) → All AsLong ws
unfolding taking
taking_long [] bs ws rest p = from_done p λ e g. rw (← e) tt
taking_long (blanks_item n ∷ xs) bs ws rest p = from_bind (cut 7 n bs) _ p λ r h k. taking_long xs r.1 ws rest k
taking_long (text_item t ∷ xs) bs ws rest p = from_bind (cut 7 (length t) bs) _ p λ r h k. taking_long xs r.1 ws rest k
taking_long (group_count n ∷ xs) bs ws rest p = from_bind (cut 7 1 bs) _ p λ r h k. taking_long xs r.1 ws rest k
taking_long (value_count n i ∷ xs) bs ws rest p = from_bind (cut 7 1 bs) _ p λ r h k. taking_long xs r.1 ws rest k
taking_long (value_item q g n bare ∷ xs) bs ws rest p =
    from_bind (first_value n bs) _ p λ r h k.
    from_bind (converted_bytes g q.field.format q.field.size r.0) _ k λ w h₂ k₂.
    from_bind (taking xs r.1) _ k₂ λ vs h₃ k₃.
    from_done k₃ λ e z.
    rw (← e) (long_as g q.field.format q.field.size r.0 w h₂, taking_long xs r.1 vs.0 vs.1 h₃)

pub taking_places : (xs : List Item) (bs : Bytes) (ws : List Assignment) (rest : Bytes) → taking xs bs ≡ done (ws, rest) → map (λ a. a.place) ws ≡ places_of xs
taking_places xs bs ws rest p = assigned_places xs bs ws (assignments_taking xs bs ∙ ap (λ o. o >>= λ r. done r.0) p)

-- One part of the items after the other.
pub from_taking : {C : Type 0} (xs ys : List Item) (bs : Bytes) (ws : List Assignment) (rest : Bytes) → taking (xs ++ ys) bs ≡ done (ws, rest)
    → ((us vs : List Assignment) (mid : Bytes) → taking xs bs ≡ done (us, mid) → taking ys mid ≡ done (vs, rest) → ws ≡ us ++ vs → C) → C
from_taking xs ys bs ws rest p c =
    from_bind (taking xs bs) _ (sym (taking_append xs ys bs) ∙ p) λ a h k.
    from_bind (taking ys a.1) _ k λ b h₂ k₂.
    from_done k₂ λ e g.
    c a.0 b.0 a.1 h (h₂ ∙ ap (λ r. done (b.0, r)) g) (sym e)

-- ---- the items of uses

-- What holds of the fields among entries holds of those of a span.
fields_each : (P : Field → Type 0) (es : List Entry) (n k end : ℕ) → end ≡ k + n → end ≤ length es
    → ((i : ℕ) → k ≤ i → i < end → is_group (get_or es i blank).what ≡ false → P (field_at es i)) → All P (fields_from es k end)
fields_each P es zero k end e l h = rw (no_entry es k end (omega arith)) tt
fields_each P es (suc n) k end e l h =
    let more = fields_each P es n (k + 1) end (omega arith) l (λ i a b. h i (omega arith) b) in
    by_test (is_group (get_or es k blank).what)
    (λ g. rw (group_entry es k end (omega arith) l g) more)
    (λ g. rw (field_entry es k end (omega arith) l g) (h k (omega arith) (omega arith) g, more))

pub span_fields : (P : Field → Type 0) (es : List Entry) (k end : ℕ) → k ≤ end → end ≤ length es
    → ((i : ℕ) → k ≤ i → i < end → is_group (get_or es i blank).what ≡ false → P (field_at es i)) → All P (fields_from es k end)
span_fields P es k end h l each = fields_each P es (end - k) k end (omega arith) l each

-- Each field of the entries has a length that its format allows.
abbrev pub AllowedFields : List Entry → Type 0
AllowedFields es = (i : ℕ) → i < length es → is_group (get_or es i blank).what ≡ false → allowed (field_at es i).format (field_at es i).size ≡ true

abbrev AskedAllowed : Asked → Type 0
AskedAllowed a = (allowed a.format a.size ≡ true) × (allowed a.field.format a.field.size ≡ true)

module _ (es : List Entry) (allowed-fields : AllowedFields es) where
  asked_allowed : (s : Span) (b : Bool) → s.standard ≡ b → GoodSpan es s → All AskedAllowed (asked_by es b s)
  unfolding as_stored
  asked_allowed s true q g =
      all_of_map AskedAllowed as_stored (fields_from es s.first s.end)
      (span_fields (λ f. AskedAllowed (as_stored f)) es s.first s.end (omega (arith, g.ordered)) g.upto
      (λ i a b f. let h = allowed-fields i (omega (arith, g.upto)) f in (h, h)))
  asked_allowed s false q g = let o = g.alone q in ((o.allowed, allowed-fields s.first (omega (arith, g.ordered, g.upto)) o.field), tt)

  use_allowed : (f : Bytes) (u : Use) → GoodUse es f u → All ItemAllowed (items_of (use_meant es f u))
  unfolding items_of value_items
  use_allowed f (code.Blanks n) g = (tt, tt)
  use_allowed f (code.Text from upto) g = (tt, tt)
  use_allowed f (code.GroupCount i) g = (tt, tt)
  use_allowed f (code.ValueCount i k) g = (tt, tt)
  use_allowed f (code.Values s) g =
      all_join _ _ (all_run _ _ _ _ (λ i a b. all_join _ _ (all_of_map _ _ (asked_of es s) (all_map AskedAllowed _
      (λ x y. all_run _ _ _ _ (λ k c d. y)) (asked_of es s) (asked_allowed s s.standard refl g)))))

  pub uses_allowed : (f : Bytes) (kept : List ℕ) (count : ℕ) → GoodUses es f kept count → All ItemAllowed (items (uses_kept es f kept count))
  unfolding items uses_kept
  uses_allowed f kept count g =
      all_join ItemAllowed _ (all_of_map (All ItemAllowed) items_of (run (λ i. use_meant es f (use_at kept i)) 0 count)
      (all_run (λ u. All ItemAllowed (items_of u)) _ 0 count (λ i a b. use_allowed f (use_at kept i) (g i (omega arith)))))

pub given_append : (xs ys : List Assignment) → bytes_given (xs ++ ys) ≡ bytes_given xs ++ bytes_given ys
unfolding join
given_append [] ys = refl
given_append (x ∷ xs) ys = ap (λ (l : Bytes). x.bytes ++ l) (given_append xs ys) ∙ sym (append_assoc x.bytes (bytes_given xs) (bytes_given ys))

pub given_length : (xs ys : List Assignment) → length (bytes_given (xs ++ ys)) ≡ length (bytes_given xs) + length (bytes_given ys)
given_length xs ys = ap length (given_append xs ys) ∙ length-append (bytes_given xs) (bytes_given ys)

-- What stands after the first of them.
module _ {stage : Bytes} {ws : List Assignment} (o : OnStage stage ws) (xs ys : List Assignment) (e : ws ≡ xs ++ ys) where
  whole : stage ≡ bytes_given xs ++ (bytes_given ys ++ drop o.staged stage)
  whole =
      sym (take-append-drop o.staged stage)
      ∙ ap (λ (l : Bytes). l ++ drop o.staged stage) (sym o.bytes ∙ ap bytes_given e ∙ given_append xs ys)
      ∙ append_assoc (bytes_given xs) (bytes_given ys) (drop o.staged stage)

  pub stage_after : drop (length (bytes_given xs)) stage ≡ bytes_given ys ++ drop o.staged stage
  stage_after = ap (drop (length (bytes_given xs))) whole ∙ drop-append_seam (bytes_given xs) (bytes_given ys ++ drop o.staged stage)

  pub stage_length : length stage ≡ length (bytes_given xs) + length (bytes_given ys ++ drop o.staged stage)
  stage_length = ap length whole ∙ length-append (bytes_given xs) (bytes_given ys ++ drop o.staged stage)
