-- Demand 3 settles the record: whatever record meets it after a history is the one that the rules leave.
use mathlib.Core.Path.{◌≡◌, refl, sym, ◌∙◌, ap, subst}
use mathlib.Core.Bool.{true, false}
use mathlib.Core.List.{List, [], ◌∷◌}
use mathlib.Core.Option.{some}
use Prim.Native.Nat.{ℕ, suc, ◌≤◌}
use native.Mathlib.Omega.{arith}
use lib.Dec.{T}
use lib.ListN.{get_or}
use Rattle.rules.specs.Outcome.{Outcome, done}
use Rattle.rules.specs.Limits.{longest_items, longest_new_record}
use Rattle.rules.specs.Characters.{letter_C}
use Rattle.rules.specs.Lists.{Bytes}
use Rattle.rules.specs.Values.{null}
use Rattle.rules.proofs.Lengths.{read_done}
use Rattle.rules.specs.Table.{Field, field, Entry, Part, differ, names, name_of, table, parts, part_named}
use Rattle.rules.specs.Record.{Record, stored, record_bytes, values_at, value_at, value_count_at, group_count_at}
use Rattle.rules.specs.Use.{value_count, group_count, Found, find}
use Rattle.rules.specs.Services.{item_bytes, empty}
use Rattle.rules.proofs.Steps.{done_inj, by_test, from_some_pair}
use Rattle.rules.proofs.Back.{All, Stored}
use Rattle.rules.proofs.Kept.{stored_ok}
use Rattle.rules.proofs.Readers.{stored_sound}
use Rattle.rules.proofs.Uses.{picked_differ, table_differ, Index}
use Rattle.rules.proofs.Home.{home, Occurs}
use Rattle.rules.proofs.Laid.{occurrences_at}
use Rattle.rules.proofs.Entries.{Among, Sound, parts_among, table_sound, table_named, field_allowed}
use Rattle.rules.proofs.Names.{home_all, parts_picked, parts_parted}
use Rattle.rules.proofs.FieldHomes.{field_home, among_find}
use Rattle.histories.specs.History.{History, ByteBuffers, record_after, accepted, last_written_value, value_count_of, group_count_of, items_by, OverAHistory}
use Rattle.histories.specs.Spelled.{count_spelled, element_alone}
use Rattle.values.proofs.Stored.{null_stored}
use Rattle.histories.proofs.Keep.{value_ok, sized_bound}
use Rattle.histories.proofs.Reading.{reads_item, stored_itself}
use Rattle.histories.proofs.Demand.{Holds, history_holds, demand_3}
use Rattle.histories.proofs.Formats.{standard, group_C, field_C, index_C}
use Rattle.histories.proofs.Each.{field_named, three, three_spell, each_occurrence}
use Rattle.rules.proofs.SameRecords.{list_ext, record_ext}
use Rattle.histories.proofs.Sizes.{stored_short, occurrences_sized, values_sized, sized_one, GroupAmong, parts_groups, group_find, group_bytes, named_all}

head_same : (m n : ℕ) → ◌≡◌ {A = Outcome Bytes} (done (m ∷ [])) (done (n ∷ [])) → m ≡ n
head_same m n e = ap (λ bs. get_or bs 0 0) (done_inj e)

module _ (t : Bytes) (es : List Entry) (is-table : table t ≡ done es) (start : Bytes) (is-start : empty t longest_new_record ≡ done start) (h : History) (sent : ByteBuffers h)
    (b : Bytes) (over : OverAHistory t es start h b) (r : Record) (held : stored (parts es) b ≡ done r) where
  abbrev sound : All (λ e. Sound e.level e.what) es
  sound = table_sound t es is-table

  abbrev apart : T (differ (names es))
  apart = table_differ t es is-table

  module _ (p : Part) (f : Field) (at : home f.name (parts es) ≡ some (p, f)) where
    among : Among es f
    unfolding parts
    among = home_all (Among es) f.name (parts es) p f at (parts_among false es)

    null_known : Stored f (null f.format f.size)
    null_known = null_stored f (field_allowed es sound f among)

    -- A field outside periodic groups has a part that is none.
    one_occurrence : (i : ℕ) → (p.periodic ≡ false → i ≡ 1) → (x : Found) → find f.name es ≡ done x → x.inside ≡ false → i ≡ 1
    unfolding find
    one_occurrence i s x found o =
        let (y, found', what) = among_find false es apart f among in
        let (q, at', z) = field_home es sound f.name y f.format f.size f.multiple found' what in
        let same : y ≡ x = done_inj (sym found' ∙ found) in
        from_some_pair (sym at ∙ at') λ u v. s (ap (λ w. w.periodic) u ∙ z ∙ ap (λ w. w.inside) same ∙ o)

    value_told : (i k : ℕ) → Index i → Index k → Occurs p f i k → Stored f (last_written_value (accepted t start h) (record { field = f; occurrence = i; value = k }))
        → value_at (parts es) r f i k ≡ last_written_value (accepted t start h) (record { field = f; occurrence = i; value = k })
    unfolding item_bytes
    value_told i k oi ok g s =
        let (format, e, _) = each_occurrence t es is-table start is-start h sent f among i k oi ok (one_occurrence i g.single) g.plain in
        let own = value_ok (parts es) r p f i k (stored_ok (parts es) b r held) at null_known in
        let asked = over.occurrences format (record { field = f; occurrence = i; value = k }) false e longest_items (stored_short f _ (field_allowed es sound f among) s) in
        let there = reads_item t b es r format (standard f i k) (value_at (parts es) r f i k) is-table held e (read_done f.format f.format f.size _ (stored_itself f _ own)) longest_items (stored_short f _ (field_allowed es sound f among) own) in
        done_inj (sym there ∙ asked)

    count_format : (i : ℕ) → Index i → (p.periodic ≡ false → i ≡ 1) → f.multiple ≡ true → (format : Bytes) × (items_by es format ≡ done (value_count f.name i ∷ []))
    unfolding find
    count_format i oi s m =
        let (x, found, what) = among_find false es apart f among in
        let (a, c, n, name) = field_named es (table_named t es is-table) f among in
        let found' : find (name_of a c) es ≡ done x = subst (λ n. find n es ≡ done x) n found in
        let what' : x.entry.what ≡ field f.format f.size true = what ∙ ap (field f.format f.size) m in
        by_test x.inside
        (λ o. (
          element_alone a c (count_spelled (three i)),
          subst (λ n. items_by es (element_alone a c (count_spelled (three i))) ≡ done (value_count n i ∷ [])) (sym n)
              (index_C es a c name x found' f.format f.size what' o (three i) i (three_spell i oi) oi),
        ))
        (λ o. (
          element_alone a c (letter_C ∷ []),
          subst (λ k. items_by es (element_alone a c (letter_C ∷ [])) ≡ done (value_count f.name k ∷ [])) (sym (one_occurrence i s x found o))
              (subst (λ n. items_by es (element_alone a c (letter_C ∷ [])) ≡ done (value_count n 1 ∷ [])) (sym n) (field_C es a c name x found' f.format f.size what' o)),
        ))

    count_told : (i : ℕ) → Index i → (p.periodic ≡ false → i ≡ 1) → f.multiple ≡ true → value_count_at (parts es) r f.name i ≡ value_count_of (accepted t start h) f.name i
    unfolding item_bytes
    count_told i oi s m =
        let (format, e) = count_format i oi s m in
        let asked = over.value_counts format f.name i e longest_items (omega arith) in
        let there = reads_item t b es r format (value_count f.name i) (value_count_at (parts es) r f.name i ∷ []) is-table held e refl longest_items (omega arith) in
        head_same _ _ (sym there ∙ asked)

  group_told : (p : Part) → part_named p.name (parts es) ≡ some p → p.periodic ≡ true → group_count_at (parts es) r p.name ≡ group_count_of es (accepted t start h) p.name
  unfolding item_bytes find parts
  group_told p at c =
      let m = named_all (λ q. q.periodic ≡ true → GroupAmong es q.name) p.name (parts es) p at (parts_groups false es) c in
      let (x, found, what) = group_find false es apart p.name m in
      let (a, d, n, name) = group_bytes es (table_named t es is-table) p.name m in
      let e : items_by es (element_alone a d (letter_C ∷ [])) ≡ done (group_count p.name ∷ []) =
      subst (λ n. items_by es (element_alone a d (letter_C ∷ [])) ≡ done (group_count n ∷ [])) (sym n) (group_C es a d name x (subst (λ n. find n es ≡ done x) n found) what) in
      let asked = over.group_counts (element_alone a d (letter_C ∷ [])) p.name e longest_items (omega arith) in
      let there = reads_item t b es r (element_alone a d (letter_C ∷ [])) (group_count p.name) (group_count_at (parts es) r p.name ∷ []) is-table held e refl longest_items (omega arith) in
      head_same _ _ (sym there ∙ asked)

module _ (t : Bytes) (es : List Entry) (is-table : table t ≡ done es) (start : Bytes) (is-start : empty t longest_new_record ≡ done start) (h : History) (sent : ByteBuffers h) where
  -- Two records that both meet it. The second's values are known to be as they are stored.
  module _ (b c : Bytes) (over : OverAHistory t es start h b) (over' : OverAHistory t es start h c) (r s : Record) (held : stored (parts es) b ≡ done r) (held' : stored (parts es) c ≡ done s)
      (holds : Holds es c (accepted t start h) s) where
    same_values : (p : Part) (f : Field) → home f.name (parts es) ≡ some (p, f) → (i : ℕ) → 1 ≤ i → i ≤ occurrences_at (parts es) r f.name → i ≤ occurrences_at (parts es) s f.name
        → values_at (parts es) r f.name i ≡ values_at (parts es) s f.name i
    unfolding value_at value_count_at
    same_values p f at i o l m =
        let ok = stored_ok (parts es) b r held in
        let ok' = stored_ok (parts es) c s held' in
        let z = occurrences_sized (parts es) r f.name p f ok at in
        let oi : Index i = (o, let y = sized_bound p.periodic z in omega arith) in
        let single : p.periodic ≡ false → i ≡ 1 = λ e. let y = sized_one p.periodic z e in omega arith in
        let u = values_sized (parts es) r f.name p f ok at i o l in
        let w = values_sized (parts es) s f.name p f ok' at i o m in
        list_ext (values_at (parts es) r f.name i) (values_at (parts es) s f.name i) (null f.format f.size)
        (by_test f.multiple
        (λ e. count_told t es is-table start is-start h sent b over r held p f at i oi single e ∙ sym (count_told t es is-table start is-start h sent c over' s held' p f at i oi single e))
        (λ e. sized_one f.multiple u e ∙ sym (sized_one f.multiple w e)))
        (λ j q.
        let g : Occurs p f i (suc j) = record { occurrence = o; value = omega arith; single = single; plain = λ e. let y = sized_one f.multiple u e in omega arith } in
        let ok-k : Index (suc j) = (omega arith, let y = sized_bound f.multiple u in omega arith) in
        let v = holds.values p f i (suc j) at g in
        value_told t es is-table start is-start h sent b over r held p f at i (suc j) oi ok-k g
        (subst (Stored f) v (value_ok (parts es) s p f i (suc j) ok' at (null_known t es is-table start is-start h sent c over' s held' p f at)))
        ∙ sym v)

    same_record : r ≡ s
    unfolding parts
    same_record = record_ext (parts es) r s (stored_ok (parts es) b r held) (stored_ok (parts es) c s held')
        (picked_differ (parts_picked es (table_sound t es is-table)).0 (table_differ t es is-table)) (picked_differ (parts_parted false es) (table_differ t es is-table)) same_values
        (λ p at k. group_told t es is-table start is-start h sent b over r held p at k ∙ sym (group_told t es is-table start is-start h sent c over' s held' p at k))

    same_bytes : b ≡ c
    same_bytes = stored_sound (parts es) b r held ∙ ap (record_bytes (parts es)) same_record ∙ sym (stored_sound (parts es) c s held')

  pub settled : (b : Bytes) → OverAHistory t es start h b → b ≡ record_after t start h
  settled b over = history_holds t es is-table start is-start h sent λ s x.
      same_bytes b (record_after t start h) over (demand_3 t es is-table start is-start h sent) over.valid.0 s over.valid.1 x.held x

  -- "Any two outcomes allowed by it are proved equal": so any service with another record breaks it.
  pub one_record : (b c : Bytes) → OverAHistory t es start h b → OverAHistory t es start h c → b ≡ c
  one_record b c over over' = settled b over ∙ sym (settled c over')
