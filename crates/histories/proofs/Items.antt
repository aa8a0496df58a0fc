-- The items of a format name fields of the table, at indexes from 1 to 191, and at lengths that their formats allow.
use mathlib.Core.Path.{◌≡◌}
use mathlib.Core.Bool.{Bool, true, false, not, ◌&&◌}
use mathlib.Core.List.{List, [], ◌∷◌, map}
use mathlib.Core.Logic.{inl, inr}
use mathlib.Core.Option.{Option, none, some}
use Prim.Native.Nat.{ℕ}
use lib.Dec.{T}
use Rattle.rules.specs.Outcome.{done}
use Rattle.rules.specs.Lists.{all, join, absent}
use Rattle.rules.specs.Values.{allowed, converts}
use Rattle.rules.specs.Table.{What, field, group, Entry, Field, fields_below}
use Rattle.rules.specs.Format.{Range, Element, blanks, quoted, named, count, count_in_last, series}
use Rattle.rules.specs.Use.{Item, blanks_item, text_item, group_count, value_count, value_item, Asked, Use, one, values, value_items, items_of, items, Found, find, format_in_effect, length_in_effect, asked, as_stored, in_order, just, spread, Indexes, indexes_after, last_index, plain, use_of_group, use_of_field, use_of_count, fields_to, use_of_series, use_of, ranges_of, uses}
use Rattle.rules.proofs.Steps.{from_bind, from_need, done_inj, not_done, and_left, by_option, T_true}
use Rattle.rules.proofs.Back.{All, all_map}
use Rattle.rules.proofs.Named.{asked_field}
use Rattle.rules.proofs.Uses.{by_what, spread_in_order, not_group, from_uses, Index, range_index}
use Rattle.rules.proofs.Entries.{Sound, Among, below_among, to_among, find_among, field_allowed}
use Rattle.rules.proofs.Alls.{all_append, all_join, all_run, all_of_map}

abbrev pub ItemOk : List Entry → Item → Type 0
ItemOk es (value_item p g n bare) = Among es p.field × Index p.occurrence × Index p.value × (allowed g n ≡ true)
ItemOk es (blanks_item n) = Unit {0}
ItemOk es (text_item t) = Unit {0}
ItemOk es (group_count n) = Unit {0}
ItemOk es (value_count n i) = Unit {0}

abbrev AskedOk : List Entry → Asked → Type 0
AskedOk es a = Among es a.field × (allowed a.format a.size ≡ true)

abbrev UseOk : List Entry → Use → Type 0
UseOk es (one x) = ItemOk es x
UseOk es (values fs os vs bare) = All (AskedOk es) fs × T (in_order os) × T (in_order vs)

-- ---- the items of an element

use_items : (es : List Entry) (u : Use) → UseOk es u → All (ItemOk es) (items_of u)
unfolding items_of value_items
use_items es (one x) h = (h, tt)
use_items es (values fs os vs bare) h =
    all_join _ _ (all_run _ _ _ _ (λ i a b. all_join _ _ (all_of_map _ _ fs (all_map (AskedOk es) _
    (λ x y. all_run _ _ _ _ (λ k c d. (y.0, range_index os h.1 i a b, range_index vs h.2 k c d, y.1))) fs h.0))))

-- ---- the elements of a format

asked_allowed : (f : Field) (l g : Option ℕ) (a : Asked) → asked f l g ≡ done a → allowed a.format a.size ≡ true
unfolding asked
asked_allowed f l g a p = by_option (format_in_effect f g)
    (λ h e. from_need (allowed h (length_in_effect f l) && converts f.format h) 5 _ (rw (e, asked) at p) λ t k.
    rw (← done_inj k) (T_true (allowed h (length_in_effect f l)) (and_left (allowed h (length_in_effect f l)) (converts f.format h) t)))
    (λ e. absurd (not_done (rw (e, asked) at p)))

module _ (es : List Entry) (sound : All (λ e. Sound e.level e.what) es) where
  stored_asked : (fs : List Field) → All (Among es) fs → All (AskedOk es) (map as_stored fs)
  unfolding as_stored
  stored_asked fs a = all_of_map _ _ fs (all_map (Among es) _ (λ f i. (i, field_allowed es sound f i)) fs a)

  count_ok : (n : ℕ) (w : What) (inside : Bool) (i : Option ℕ) (u : Use) → use_of_count n w inside i ≡ done u → UseOk es u
  unfolding use_of_count
  count_ok n (group p) inside i u q = from_need (p && absent i) 5 _ q λ t k. rw (← done_inj k) tt
  count_ok n (field f s mu) inside none u q = from_need (mu && not inside) 5 _ q λ t k. rw (← done_inj k) tt
  count_ok n (field f s mu) inside (some i) u q = from_need (mu && inside && in_order (just i)) 5 _ q λ t k. rw (← done_inj k) tt

  field_ok : (f : Field) (inside : Bool) (last : ℕ) (os vs : Option Range) (l g : Option ℕ) (u : Use) → Among es f → use_of_field f inside last os vs l g ≡ done u → UseOk es u
  unfolding use_of_field
  field_ok f inside last os vs l g u m q =
      from_bind (spread inside f.multiple last os vs) _ q λ s h k.
      from_bind (asked f l g) _ k λ a h₂ k₂.
      let o = spread_in_order inside f.multiple last os vs s h in
      rw (← done_inj k₂) (((rw (asked_field f l g a h₂) m, asked_allowed f l g a h₂), tt), o.0, o.1)

  group_ok : (x : Found) (os vs : Option Range) (l g : Option ℕ) (u : Use) → ((f : Field) → Among (x.entry ∷ x.after) f → Among es f) → use_of_group x os vs l g ≡ done u → UseOk es u
  unfolding use_of_group
  group_ok x os vs l g u m q =
      let fs = fields_below x.entry.level x.after in
      from_need (absent l && absent g && all plain fs) 5 _ q λ t k.
      from_bind (spread x.inside false 0 os vs) _ k λ s h k₂.
      let o = spread_in_order x.inside false 0 os vs s h in
      rw (← done_inj k₂) (stored_asked fs (all_map (Among x.after) _ (λ f i. m f (inr i)) fs (below_among x.entry.level x.after)), o.0, o.1)

  series_ok : (x : Found) (n : ℕ) (u : Use) → ((f : Field) → Among (x.entry ∷ x.after) f → Among es f) → use_of_series x n ≡ done u → UseOk es u
  unfolding use_of_series in_order
  series_ok x n u m q =
      from_need (not x.inside) 5 _ (not_group x.entry.what _ q) λ t k.
      from_bind (fields_to n (x.entry ∷ x.after)) _ k λ fs g k₂.
      rw (← done_inj k₂) (stored_asked fs (all_map (Among (x.entry ∷ x.after)) _ m fs (to_among n (x.entry ∷ x.after) fs g)), tt, tt)

  use_ok : (ls : Indexes) (x : Element) (u : Use) → use_of es ls x ≡ done u → UseOk es u
  unfolding use_of find
  use_ok ls (blanks n) u p = rw (← done_inj p) tt
  use_ok ls (quoted t) u p = rw (← done_inj p) tt
  use_ok ls (count n i) u p = from_bind (find n es) _ p λ x h k. count_ok n x.entry.what x.inside i u k
  use_ok ls (count_in_last n) u p = from_bind (find n es) _ p λ x h k. count_ok n x.entry.what x.inside (some 1) u k
  use_ok ls (series n m) u p =
      from_bind (find n es) _ p λ x h k.
      from_bind (find m es) _ k λ y h₂ k₂.
      series_ok x m u (find_among false n es x h).1 k₂
  use_ok ls (named n os vs l g) u p =
      from_bind (find n es) _ p λ x h k.
      let r = find_among false n es x h in
      by_what x.entry.what
      (λ f s mu e. field_ok (record { name = n; format = f; size = s; multiple = mu }) x.inside (last_index n ls) (ranges_of os) (ranges_of vs) l g u (r.1 _ (inl (r.0, e))) (rw e at k))
      (λ b e. group_ok x (ranges_of os) (ranges_of vs) l g u r.1 (rw e at k))

  pub uses_ok : (ls : Indexes) (xs : List Element) (us : List Use) → uses es ls xs ≡ done us → All (ItemOk es) (items us)
  unfolding uses items join
  uses_ok ls [] us p = rw (← done_inj p) tt
  uses_ok ls (x ∷ xs) us p =
      from_uses es ls x xs us p λ u h z vs h₂ e.
      rw (← e) (all_append _ (items_of u) (items vs) (use_items es u (use_ok ls x u h)) (uses_ok (indexes_after u ls) xs vs h₂))
