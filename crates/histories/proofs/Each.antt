-- Demand 3 for each occurrence and each count of the table, by its plain spelling: `AA.`, `MF3.`, `BA2.`, `CB2(5).`, `MFC.`, `CB2C.`, `GBC.`
use mathlib.Core.Path.{◌≡◌, refl, sym, subst}
use mathlib.Core.Bool.{Bool, true, false}
use mathlib.Core.List.{List, [], ◌∷◌}
use mathlib.Core.Logic.{inl, ⊎_elim}
use Prim.Native.Nat.{ℕ, ◌/◌, ◌%◌}
use native.Mathlib.Omega.{arith}
use Rattle.rules.specs.Outcome.{done}
use Rattle.rules.specs.Limits.{longest_new_record}
use Rattle.rules.specs.Characters.{letter_C}
use Rattle.rules.specs.Lists.{Bytes, spelled}
use Rattle.rules.specs.Values.{Format, allowed}
use Rattle.rules.specs.Table.{Field, field, group, Entry, is_name, name_of, table}
use Rattle.rules.specs.Use.{Place, Found, find}
use Rattle.rules.specs.Services.{empty}
use Rattle.rules.proofs.Back.{All}
use Rattle.rules.proofs.Uses.{table_differ, Index}
use Rattle.rules.proofs.Entries.{Among, TwoBytes, table_sound, table_named, find_among, field_allowed}
use Rattle.rules.proofs.FieldHomes.{named_field, among_find}
use Rattle.histories.specs.History.{History, ByteBuffers, record_after, accepted, last_written_value, value_count_of, group_count_of, items_by, Reads}
use Rattle.histories.specs.Spelled.{indexed, valued, count_spelled, element_alone}
use Rattle.histories.proofs.Spelled.{Spells}
use Rattle.histories.proofs.Formats.{standard, group_C, field_C, index_C, plain_alone, value_alone, occurrence_alone, both_alone}
use Rattle.histories.proofs.Demand.{demand_3}

-- ---- a name is two bytes, and an index three digits

pub field_named : (es : List Entry) → All (λ e. TwoBytes e.name) es → (f : Field) → Among es f → TwoBytes f.name
field_named [] a f m = absurd m
field_named (e ∷ es) a f m = ⊎_elim (λ i. subst TwoBytes i.0 a.0) (λ i. field_named es a.1 f i) m

unfoldable pub three : ℕ → List ℕ
three i = i / 100 ∷ i / 10 % 10 ∷ i % 10 ∷ []

pub three_spell : (i : ℕ) → Index i → Spells (three i) i
unfolding three spelled
three_spell i h =
    let u = h.1 in
    record {
      digits = (omega arith, (omega arith, (omega arith, tt)));
      some_digits = omega arith;
      few_digits = omega arith;
      number = omega arith;
    }

-- ---- each occurrence

abbrev place_at : Field → ℕ → ℕ → Place
place_at f i k = record { field = f; occurrence = i; value = k }

-- A format for an occurrence of a field, which lies in a periodic group or not.
unfoldable pub spelling : ℕ → ℕ → Bool → Bool → ℕ → ℕ → Bytes
spelling a b false false i k = element_alone a b []
spelling a b false true i k = element_alone a b (indexed (three k))
spelling a b true false i k = element_alone a b (indexed (three i))
spelling a b true true i k = element_alone a b (valued (three i) (three k))

module _ (es : List Entry) (a b : ℕ) (name : is_name a b ≡ true) (x : Found) (found : find (name_of a b) es ≡ done x)
    (f : Format) (s : ℕ) (known : allowed f s ≡ true) (i k : ℕ) (oi : Index i) (ok : Index k) where
  pub spelling_item : (inside m : Bool) → x.inside ≡ inside → x.entry.what ≡ field f s m → (inside ≡ false → i ≡ 1) → (m ≡ false → k ≡ 1)
      → items_by es (spelling a b inside m i k) ≡ done (standard (named_field (name_of a b) f s m) i k ∷ [])
  unfolding spelling
  spelling_item false false o w p q = rw (p refl, q refl) (plain_alone es a b name x found f s false w known refl o)
  spelling_item false true o w p q = rw (p refl) (value_alone es a b name x found f s true w known (three k) k (three_spell k ok) ok refl o)
  spelling_item true false o w p q = rw (q refl) (occurrence_alone es a b name x found f s false w known (three i) i (three_spell i oi) oi o)
  spelling_item true true o w p q = both_alone es a b name x found f s true w known (three i) i (three_spell i oi) oi (three k) k (three_spell k ok) ok refl o

module _ (t : Bytes) (es : List Entry) (is-table : table t ≡ done es) (start : Bytes) (is-start : empty t longest_new_record ≡ done start) (h : History) (sent : ByteBuffers h) where
  -- Each occurrence of each field of the table has a format that reads it alone, and that reads it as it was last written.
  pub each_occurrence : (f : Field) → Among es f → (i k : ℕ) → Index i → Index k
      → ((x : Found) → find f.name es ≡ done x → x.inside ≡ false → i ≡ 1) → (f.multiple ≡ false → k ≡ 1)
      → (format : Bytes) × (items_by es format ≡ done (standard f i k ∷ [])) × Reads t (record_after t start h) format (last_written_value (accepted t start h) (place_at f i k))
  unfolding find
  each_occurrence f m i k oi ok p q =
      let sound = table_sound t es is-table in
      let (x, found, what) = among_find false es (table_differ t es is-table) f m in
      let (a, b, n, name) = field_named es (table_named t es is-table) f m in
      let e = spelling_item es a b name x (subst (λ n. find n es ≡ done x) n found) f.format f.size (field_allowed es sound f m) i k oi ok x.inside f.multiple refl what (p x found) q in
      let e' : items_by es (spelling a b x.inside f.multiple i k) ≡ done (standard f i k ∷ []) = subst (λ n. items_by es (spelling a b x.inside f.multiple i k) ≡ done (standard (named_field n f.format f.size f.multiple) i k ∷ [])) (sym n) e in
      (spelling a b x.inside f.multiple i k, e', (demand_3 t es is-table start is-start h sent).occurrences _ (place_at f i k) false e')

  -- The plain spellings of a name, by its two bytes: what the table finds under it, and what the spelling reads.
  module _ (a b : ℕ) (name : is_name a b ≡ true) (x : Found) (found : find (name_of a b) es ≡ done x) where
    found_allowed : (f : Format) (s : ℕ) (m : Bool) → x.entry.what ≡ field f s m → allowed f s ≡ true
    unfolding find
    found_allowed f s m w = let r = find_among false (name_of a b) es x found in field_allowed es (table_sound t es is-table) (named_field (name_of a b) f s m) (r.1 _ (inl (r.0, w)))

    -- `GBC.`
    pub reads_group_count : x.entry.what ≡ group true
        → Reads t (record_after t start h) (element_alone a b (letter_C ∷ [])) (group_count_of es (accepted t start h) (name_of a b) ∷ [])
    reads_group_count w = (demand_3 t es is-table start is-start h sent).group_counts _ (name_of a b) (group_C es a b name x found w)

    module _ (f : Format) (s : ℕ) where
      -- `AA.`
      pub reads_plain : x.entry.what ≡ field f s false → x.inside ≡ false
          → Reads t (record_after t start h) (element_alone a b []) (last_written_value (accepted t start h) (place_at (named_field (name_of a b) f s false) 1 1))
      reads_plain w o = (demand_3 t es is-table start is-start h sent).occurrences _ (place_at (named_field (name_of a b) f s false) 1 1) false
          (plain_alone es a b name x found f s false w (found_allowed f s false w) refl o)

      -- `MFC.`
      pub reads_value_count : x.entry.what ≡ field f s true → x.inside ≡ false
          → Reads t (record_after t start h) (element_alone a b (letter_C ∷ [])) (value_count_of (accepted t start h) (name_of a b) 1 ∷ [])
      reads_value_count w o = (demand_3 t es is-table start is-start h sent).value_counts _ (name_of a b) 1 (field_C es a b name x found f s w o)

      module _ (ds : List ℕ) (i : ℕ) (z : Spells ds i) (r : Index i) where
        -- `MF3.`
        pub reads_value : x.entry.what ≡ field f s true → x.inside ≡ false
            → Reads t (record_after t start h) (element_alone a b (indexed ds)) (last_written_value (accepted t start h) (place_at (named_field (name_of a b) f s true) 1 i))
        reads_value w o = (demand_3 t es is-table start is-start h sent).occurrences _ (place_at (named_field (name_of a b) f s true) 1 i) false
            (value_alone es a b name x found f s true w (found_allowed f s true w) ds i z r refl o)

        -- `BA2.`, and `CB2.` for value 1
        pub reads_occurrence : (m : Bool) → x.entry.what ≡ field f s m → x.inside ≡ true
            → Reads t (record_after t start h) (element_alone a b (indexed ds)) (last_written_value (accepted t start h) (place_at (named_field (name_of a b) f s m) i 1))
        reads_occurrence m w o = (demand_3 t es is-table start is-start h sent).occurrences _ (place_at (named_field (name_of a b) f s m) i 1) false
            (occurrence_alone es a b name x found f s m w (found_allowed f s m w) ds i z r o)

        -- `CB2C.`
        pub reads_count_in : x.entry.what ≡ field f s true → x.inside ≡ true
            → Reads t (record_after t start h) (element_alone a b (count_spelled ds)) (value_count_of (accepted t start h) (name_of a b) i ∷ [])
        reads_count_in w o = (demand_3 t es is-table start is-start h sent).value_counts _ (name_of a b) i (index_C es a b name x found f s w o ds i z r)

        -- `CB2(5).`
        pub reads_value_in : (vs : List ℕ) (k : ℕ) → Spells vs k → Index k → x.entry.what ≡ field f s true → x.inside ≡ true
            → Reads t (record_after t start h) (element_alone a b (valued ds vs)) (last_written_value (accepted t start h) (place_at (named_field (name_of a b) f s true) i k))
        reads_value_in vs k y q w o = (demand_3 t es is-table start is-start h sent).occurrences _ (place_at (named_field (name_of a b) f s true) i k) false
            (both_alone es a b name x found f s true w (found_allowed f s true w) ds i z r vs k y q refl o)
