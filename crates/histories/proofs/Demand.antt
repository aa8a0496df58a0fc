-- Demand 3 is met: after any history the record is valid, and its occurrences and counts read as that history alone says.
use mathlib.Core.Path.{◌≡◌, refl, sym, ◌∙◌, ap, subst}
use mathlib.Core.Bool.{Bool, true, false}
use mathlib.Core.Option.{none, some}
use mathlib.Core.List.{List, [], ◌∷◌, ◌++◌}
use Prim.Native.Nat.{ℕ, ◌-◌, ◌≤◌, ◌<◌, min}
use native.Mathlib.Omega.{arith}
use lib.Dec.{leb, leb→le}
use lib.ListN.{length, get_or}
use Rattle.rules.specs.Outcome.{Refusal, Outcome, done, refused, ◌>>=◌, need}
use Rattle.rules.specs.Limits.{longest_items, longest_record, longest_new_record}
use Rattle.rules.specs.Lists.{Bytes}
use Rattle.rules.specs.Values.{null, read_value, content}
use Rattle.rules.proofs.Lengths.{read_done}
use Rattle.rules.specs.Table.{Field, Part, Entry, table, parts, part_named}
use Rattle.rules.specs.Record.{Record, stored, record_bytes, value_at, value_count_at, group_count_at, empty_record}
use Rattle.rules.specs.Format.{Element, elements}
use Rattle.rules.specs.Use.{Place, Item, blanks_item, text_item, value_item, value_count, group_count, uses}
use Rattle.rules.specs.Last.{counts_in, meanings, items_read}
use Rattle.rules.specs.Update.{assigned, to_field, bare_only, new_value_count, new_group_count, after_update}
use Rattle.rules.specs.Services.{item_bytes, filled, read, assignments_of, fitting, update, empty}
use Rattle.rules.proofs.Steps.{from_bind, from_need, done_inj, by_outcome}
use Rattle.rules.proofs.Back.{All, Stored, RecordOk, stored_back}
use Rattle.rules.proofs.Kept.{stored_ok}
use Rattle.rules.proofs.Uses.{table_differ}
use Rattle.rules.proofs.Home.{home, Occurs}
use Rattle.rules.proofs.Entries.{Sound, Among, parts_among, table_sound, field_allowed}
use Rattle.rules.proofs.Names.{parts_found, home_all}
use Rattle.rules.proofs.Alls.{all_both}
use Rattle.rules.proofs.Stands.{Stands, uses_stand}
use Rattle.rules.proofs.Lasts.{Agree, meanings_stand, counts_agree}
use Rattle.histories.specs.History.{Call, History, ByteBuffers, answer, left_by, record_after, Writes, writes_of, writes, accepted, last_written_value, value_count_of, occurrences_of, group_count_of, items_by, OverAHistory}
use Rattle.histories.specs.Told.{told_item, told_items, counts_told, told}
use Rattle.histories.proofs.OneUpdate.{update_moves}
use Rattle.histories.proofs.Counts.{group_moves, count_moves}
use Rattle.values.proofs.Stored.{null_stored}
use Rattle.histories.proofs.Assigned.{update_ok, update_orderly}
use Rattle.histories.proofs.Keep.{FieldKnown, PartsKnown, value_ok, update_keeps}
use Rattle.histories.proofs.Empty.{empty_ok, empty_value, empty_count, empty_group}
use Rattle.histories.proofs.Reading.{reads_item, stored_itself}

same_steps : {A B : Type 0} (m : Outcome A) {f g : A → Outcome B} → ((a : A) → m ≡ done a → f a ≡ g a) → (m >>= f) ≡ (m >>= g)
same_steps (done a) h = h a refl
same_steps (refused n) h = refl

-- Some bytes hold a record whose occurrences and counts are those that some writes leave.
pub record Holds (es : List Entry) (b : Bytes) (us : List Writes) (r : Record) : Type 0 where
  pub held : stored (parts es) b ≡ done r
  pub short : length b ≤ longest_record
  pub values : (p : Part) (f : Field) (i k : ℕ) → home f.name (parts es) ≡ some (p, f) → Occurs p f i k
      → value_at (parts es) r f i k ≡ last_written_value us (record { field = f; occurrence = i; value = k })
  pub value_counts : (p : Part) (f : Field) (i : ℕ) → home f.name (parts es) ≡ some (p, f) → Occurs p f i 1 → f.multiple ≡ true
      → value_count_at (parts es) r f.name i ≡ value_count_of us f.name i
  pub group_counts : (n : ℕ) (p : Part) → part_named n (parts es) ≡ some p → p.periodic ≡ true → group_count_at (parts es) r n ≡ occurrences_of us p

from_fitting : {C : Type 0} (room : ℕ) (b new : Bytes) → fitting room b ≡ done new → (length b ≤ longest_record → b ≡ new → C) → C
unfolding fitting
from_fitting room b new p k = from_need (leb (length b) (min room longest_new_record)) 10 _ p λ t q. k (let h = leb→le (length b) (min room longest_new_record) t in omega arith) (done_inj q)

-- The counts and the items of such a record are as the history tells them.
group_told : (es : List Entry) (us : List Writes) (n : ℕ) (q : Part) → part_named n (parts es) ≡ some q → group_count_of es us n ≡ occurrences_of us q
unfolding group_count_of
group_told es us n q e = rw (e, group_count_of)

counts_held : (es : List Entry) (b : Bytes) (us : List Writes) (r : Record) → Holds es b us r → Agree es (counts_in (parts es) r) (counts_told es us)
unfolding counts_in counts_told
counts_held es b us r h = record { group = λ n p at m. h.group_counts n p at m ∙ sym (group_told es us n p at); values = λ p f i at o m. h.value_counts p f i at o m }

item_told : (es : List Entry) (b : Bytes) (us : List Writes) (r : Record) → Holds es b us r → (x : Item) → Stands es x → item_bytes (parts es) r x ≡ told_item es us x
unfolding item_bytes told_item counts_in counts_told
item_told es b us r h (blanks_item n) s = refl
item_told es b us r h (text_item t) s = refl
item_told es b us r h (group_count n) s = let (q, at, m) = s in ap (λ k. done (k ∷ [])) ((counts_held es b us r h).group n q at m)
item_told es b us r h (value_count n i) s = let (q, g, z, at, o, m) = s in
    ap (λ k. done (k ∷ [])) (subst (λ k. value_count_at (parts es) r k i ≡ value_count_of us k i) z (h.value_counts q g i (subst (λ k. home k (parts es) ≡ some (q, g)) (sym z) at) o m))
item_told es b us r h (value_item p g n bare) s = let (q, at, o) = s in
    ap (λ v. read_value p.field.format g n (content p.field.size v)) (h.values q p.field p.occurrence p.value at o)

items_told : (es : List Entry) (b : Bytes) (us : List Writes) (r : Record) → Holds es b us r → (xs : List Item) → All (Stands es) xs → (room : ℕ) → filled (parts es) r room xs ≡ told_items es us room xs
unfolding filled told_items
items_told es b us r h [] a room = refl
items_told es b us r h (x ∷ xs) a room =
    rw (item_told es b us r h x a.0) (same_steps (told_item es us x) λ v e. same_steps (need (leb (length v) room) 7) λ _ _. ap (λ o. o >>= (λ bs. done (v ++ bs))) (items_told es b us r h xs a.1 (room - length v)))

module _ (t start : Bytes) (c : Call) (earlier : History) where
  after_done : (new : Bytes) → answer t (record_after t start earlier) c ≡ done new → record_after t start (c ∷ earlier) ≡ new
  unfolding record_after left_by
  after_done new e = rw e

  after_refused : (n : Refusal) → answer t (record_after t start earlier) c ≡ refused n → record_after t start (c ∷ earlier) ≡ record_after t start earlier
  unfolding record_after left_by
  after_refused n e = rw e

  accepted_done : (new : Bytes) → answer t (record_after t start earlier) c ≡ done new → accepted t start (c ∷ earlier) ≡ writes t c ∷ accepted t start earlier
  unfolding accepted
  accepted_done new e = rw (e, accepted)

  accepted_refused : (n : Refusal) → answer t (record_after t start earlier) c ≡ refused n → accepted t start (c ∷ earlier) ≡ accepted t start earlier
  unfolding accepted
  accepted_refused n e = rw (e, accepted)

-- What one update leaves of an occurrence.
left : Writes → Field → ℕ → ℕ → Bytes → Bytes
left ws f i k old = elim (assigned ws (record { field = f; occurrence = i; value = k })) [
  | some b ↦ b
  | none ↦ elim (bare_only (to_field ws f.name i)) [ true ↦ null f.format f.size | false ↦ old ]
]

module _ (t : Bytes) (es : List Entry) (is-table : table t ≡ done es) where
  abbrev sound : All (λ e. Sound e.level e.what) es
  sound = table_sound t es is-table

  known : PartsKnown es
  unfolding parts
  known = all_both (λ p. All (λ f. home f.name (parts es) ≡ some (p, f)) p.members) (λ p. All (Among es) p.members) (λ p. All (FieldKnown es p) p.members)
      (λ p a b. all_both (λ f. home f.name (parts es) ≡ some (p, f)) (Among es) (FieldKnown es p) (λ f x y. (x, y, null_stored f (field_allowed es sound f y))) p.members a b)
      (parts es) (parts_found es sound (table_differ t es is-table)) (parts_among false es)

  null_known : (p : Part) (f : Field) → home f.name (parts es) ≡ some (p, f) → Stored f (null f.format f.size)
  unfolding parts
  null_known p f at = null_stored f (field_allowed es sound f (home_all (Among es) f.name (parts es) p f at (parts_among false es)))

  -- The empty record is what no writes leave.
  start_holds : (start : Bytes) → empty t longest_new_record ≡ done start → Holds es start [] (empty_record (parts es))
  unfolding empty last_written_value value_count_of occurrences_of
  start_holds start e =
      from_fitting longest_new_record (record_bytes (parts es) (empty_record (parts es))) start (rw is-table at e) λ l q.
      record {
        held = rw (← q) (stored_back (parts es) (empty_record (parts es)) (empty_ok es known) l);
        short = rw (← q) l;
        values = λ p f i k at g. empty_value (parts es) p f i k at g;
        value_counts = λ p f i at g m. empty_count (parts es) p f i 1 at g m;
        group_counts = λ n p at c. empty_group (parts es) n p at c;
      }

  -- An accepted update's record is what its writes leave of the one before.
  update_holds : {C : Type 0} (b : Bytes) (us : List Writes) (r : Record) (c : Call) (new : Bytes) → ((i : ℕ) → get_or c.buffer i 0 < 256) → Holds es b us r → answer t b c ≡ done new
      → ((ws : Writes) → writes t c ≡ ws → Holds es new (ws ∷ us) (after_update (parts es) r ws) → C) → C
  unfolding answer update writes writes_of last_written_value value_count_of occurrences_of left
  update_holds b us r c new bytes h e then =
      from_bind (assignments_of es c.format c.buffer) _ (rw (is-table, h.held) at e) λ ws a k.
      from_fitting c.room (record_bytes (parts es) (after_update (parts es) r ws)) new k λ l q.
      let ok = update_keeps es (table_differ t es is-table) r ws (stored_ok (parts es) b r h.held) (update_orderly es c.format c.buffer ws a) (update_ok es sound c.format c.buffer ws bytes a) known in
      then ws (rw (is-table, a)) (record {
        held = rw (← q) (stored_back (parts es) (after_update (parts es) r ws) ok l);
        short = rw (← q) l;
        values = λ p f i k at g. update_moves (parts es) r ws (update_orderly es c.format c.buffer ws a) p f i k at g ∙ ap (left ws f i k) (h.values p f i k at g);
        value_counts = λ p f i at g m. count_moves (parts es) r ws p f i at g.occurrence g.single m ∙ ap (new_value_count ws f.name i) (h.value_counts p f i at g m);
        group_counts = λ n p at m. group_moves (parts es) r ws n p at m ∙ ap (new_group_count ws p) (h.group_counts n p at m);
      })

  -- At its standard length and format an occurrence is told as it was written.
  standard_told : (p : Place) (bare : Bool) → Stands es (value_item p p.field.format p.field.size bare) → {b : Bytes} {us : List Writes} (r : Record) → Holds es b us r → RecordOk (parts es) r
      → read_value p.field.format p.field.format p.field.size (content p.field.size (last_written_value us p)) ≡ done (last_written_value us p)
  standard_told p bare s r h ok = let (q, at, g) = s in
      read_done p.field.format p.field.format p.field.size _ (stored_itself p.field _ (subst (Stored p.field) (h.values q p.field p.occurrence p.value at g)
      (value_ok (parts es) r q p.field p.occurrence p.value ok at (null_known q p.field at))))

  same_meanings : (xs : List Element) (b : Bytes) (us : List Writes) (r : Record) → Holds es b us r → (room : ℕ)
      → (meanings es [] [] xs >>= (λ ms. filled (parts es) r room (items_read (parts es) (counts_in (parts es) r) ms)))
      ≡ (meanings es [] [] xs >>= (λ ms. told_items es us room (items_read (parts es) (counts_told es us) ms)))
  same_meanings xs b us r h room = same_steps (meanings es [] [] xs) λ ms e.
      let differs = table_differ t es is-table in
      items_told es b us r h _ (meanings_stand es sound differs [] [] xs ms e (counts_in (parts es) r)) room
      ∙ ap (told_items es us room) (counts_agree es sound differs _ _ (counts_held es b us r h) [] [] xs ms e)

  module _ (start : Bytes) (is-start : empty t longest_new_record ≡ done start) where
    -- The record after a history is what its accepted writes leave.
    pub history_holds : {C : Type 0} (h : History) → ByteBuffers h → ((r : Record) → Holds es (record_after t start h) (accepted t start h) r → C) → C
    unfolding record_after accepted
    history_holds [] s then = then (empty_record (parts es)) (start_holds start is-start)
    history_holds (c ∷ earlier) s then =
        history_holds earlier s.1 λ r x.
        by_outcome (answer t (record_after t start earlier) c)
        (λ new e. update_holds (record_after t start earlier) (accepted t start earlier) r c new s.0 x e λ ws w y.
        then (after_update (parts es) r ws) (rw (after_done t start c earlier new e, accepted_done t start c earlier new e, w) y))
        (λ n e. then r (rw (after_refused t start c earlier n e, accepted_refused t start c earlier n e) x))

    item_stands : (f : Bytes) (x : Item) → items_by es f ≡ done (x ∷ []) → Stands es x
    unfolding items_by
    item_stands f x e =
        from_bind (elements f) _ e λ xs h k.
        from_bind (uses es [] xs) _ k λ us h₂ k₂.
        (rw (done_inj k₂) at (uses_stand es sound (table_differ t es is-table) [] xs us h₂)).0

    pub demand_3 : (h : History) → ByteBuffers h → OverAHistory t es start h (record_after t start h)
    unfolding told_item
    demand_3 h s = history_holds h s λ r x.
        let b = record_after t start h in
        let ok = stored_ok (parts es) b r x.held in
        record {
          valid = (r, x.held);
          short = x.short;
          occurrences = λ f p bare e. let g = item_stands f _ e in
              reads_item t b es r f _ _ is-table x.held e (item_told es b (accepted t start h) r x _ g ∙ standard_told p bare g r x ok);
          value_counts = λ f n i e. reads_item t b es r f _ _ is-table x.held e (item_told es b (accepted t start h) r x _ (item_stands f _ e));
          group_counts = λ f n e. reads_item t b es r f _ _ is-table x.held e (item_told es b (accepted t start h) r x _ (item_stands f _ e));
        }

    -- Every read, of whatever format and room, done or refused, is the one that the history tells.
    pub every_read : (h : History) → ByteBuffers h → (f : Bytes) (room : ℕ) → read t (record_after t start h) f room ≡ told t (accepted t start h) f room
    unfolding read told
    every_read h s f room = history_holds h s λ r x.
        rw (is-table, x.held) (same_steps (elements f) λ xs e. same_meanings xs _ _ r x (min room longest_items))
