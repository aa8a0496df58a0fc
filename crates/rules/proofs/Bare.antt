-- The bare names of a field stand for its values 1, 2, .. in order, so their number is the highest index that they stand for: the last
-- index so far counts them, as long as nothing else names that field.
use mathlib.Core.Path.{◌≡◌, refl, sym, ◌∙◌, ap}
use mathlib.Core.Bool.{Bool, true, false, not, ◌&&◌}
use mathlib.Core.List.{List, [], ◌∷◌, ◌++◌, map, map-map}
use mathlib.Core.Option.{Option, none, some}
use Prim.Native.Nat.{ℕ, zero, suc, ◌+◌, ◌≤◌}
use native.Mathlib.Omega.{arith}
use borrow.Author.Tests.{eqb-true, eqb-false}
use lib.Dec.{T, eqb}
use lib.ListN.{length, length-map}
use Rattle.rules.specs.Outcome.{Outcome, done, refused}
use Rattle.rules.specs.Lists.{Bytes, all, filter, maximum, run, join, look_up}
use Rattle.rules.specs.Values.{Format}
use Rattle.rules.specs.Table.{Field, What, field, group, Entry}
use Rattle.rules.specs.Format.{Range, Element}
use Rattle.rules.specs.Use.{Asked, Use, values, items_of, items, Found, find, asked, in_order, just, Spread, spread, Indexes, last_index, indexes_after, use_of_field, use_of, uses}
use Rattle.rules.specs.Update.{Assignment, assignments, to_field, highest_value, bare_only, new_value_count}
use Rattle.rules.proofs.Steps.{from_bind, from_need, done_inj, not_done, and_left, and_right, by_test, eqb_same, true_T, T_true}
use Rattle.rules.proofs.Alls.{all_parts}
use Rattle.rules.proofs.Places.{counting}
use Rattle.rules.proofs.Uses.{in_order_le, not_T_false, from_uses}
use Rattle.rules.proofs.Ranges.{first_value_item}
use Rattle.rules.proofs.Named.{values_named, named_append, value_and_bare, assigned_named, BareAll, BareNone, true_not_false, nothing_there, none_append, last_kept, last_now, asked_field, one_item, field_none, by_use}

-- Whether what is found is an MU field outside periodic groups.
multiple_what : What → Bool
multiple_what (field f s mu) = mu
multiple_what (group p) = false

mu_outside : Outcome Found → Bool
mu_outside (done x) = not x.inside && multiple_what x.entry.what
mu_outside (refused k) = false

mu_yes : (es : List Entry) (n : ℕ) (x : Found) (f : Format) (s : ℕ) (mu : Bool) → find n es ≡ done x → x.entry.what ≡ field f s mu → x.inside ≡ false → mu ≡ true
    → mu_outside (find n es) ≡ true
unfolding mu_outside multiple_what
mu_yes es n x f s mu h w o m = rw (h, o, w, m)

from_mu : {C : Type 0} (es : List Entry) (n : ℕ) (x : Found) (f : Format) (s : ℕ) (mu : Bool) → find n es ≡ done x → x.entry.what ≡ field f s mu
    → mu_outside (find n es) ≡ true → (x.inside ≡ false → mu ≡ true → C) → C
unfolding mu_outside multiple_what
from_mu es n x f s mu h w o c =
    let t : T (not x.inside && mu) = true_T (rw (h, w) at o) in
    c (not_T_false x.inside (and_left (not x.inside) mu t)) (T_true mu (and_right (not x.inside) mu t))

-- Of any other field, and in any occurrence but 1, no name is bare.
module _ (es : List Entry) (n i : ℕ) (d : mu_outside (find n es) ≡ true → i ≡ 1 → ⊥) where
  use_none : (ls : Indexes) (e : Element) (u : Use) → use_of es ls e ≡ done u → BareNone (values_named n i (items_of u))
  use_none ls e u p =
      by_use n i es ls e u p (λ q. q.0)
      (λ m os vs l g x f s mu h w k. field_none n i _ x.inside _ os vs l g u k (λ o t e. d (mu_yes es n x f s mu (rw e at h) w o t)))

  uses_none : (ls : Indexes) (xs : List Element) (us : List Use) → uses es ls xs ≡ done us → BareNone (values_named n i (items us))
  unfolding uses items join values_named
  uses_none ls [] us p = rw (← done_inj p) tt
  uses_none ls (x ∷ xs) us p =
      from_uses es ls x xs us p λ u h z vs h₂ e.
      rw (← e) (none_append n i (items_of u) (items vs) (use_none ls x u h) (uses_none (indexes_after u ls) xs vs h₂))

-- What an element says of an MU field outside periodic groups: nothing bare, and its last index stays; one value above that index, by
-- its bare name; or some value by an index.
data Says (n : ℕ) (ls : Indexes) (u : Use) : Type 0 where
  quiet : BareNone (values_named n 1 (items_of u)) → last_index n (indexes_after u ls) ≡ last_index n ls → Says n ls u
  by_bare : values_named n 1 (items_of u) ≡ (suc (last_index n ls), true) ∷ [] → last_index n (indexes_after u ls) ≡ suc (last_index n ls) → Says n ls u
  by_index : (BareAll (values_named n 1 (items_of u)) → ⊥) → Says n ls u

-- Another field's name.
other_kept : (n : ℕ) (ls : Indexes) (f : Field) (inside : Bool) (last : ℕ) (os vs : Option Range) (l g : Option ℕ) (u : Use) → (f.name ≡ n → ⊥)
    → use_of_field f inside last os vs l g ≡ done u → last_index n (indexes_after u ls) ≡ last_index n ls
unfolding use_of_field indexes_after filter
other_kept n ls f inside last os vs l g u d q =
    from_bind (spread inside f.multiple last os vs) _ q λ s h k.
    from_bind (asked f l g) _ k λ a h₂ k₂.
    rw (← done_inj k₂) (by_test a.field.multiple
    (λ b. rw (b, filter) (last_kept n a.field.name s.values.upto ls (λ w. d (sym (ap (λ x. x.name) (asked_field f l g a h₂)) ∙ w))))
    (λ b. rw (b, filter) refl))

-- The field's own name, bare or with an index.
own_bare : (n : ℕ) (ls : Indexes) (a : Asked) → a.field.name ≡ n → a.field.multiple ≡ true → Says n ls (values (a ∷ []) (just 1) (just (suc (last_index n ls))) true)
unfolding items_of values_named indexes_after filter
own_bare n ls a e m = by_bare (rw (one_item a (suc (last_index n ls)) true, e, eqb_same n, values_named)) (rw (m, filter, e) (last_now n (suc (last_index n ls)) ls))

own_index : (n : ℕ) (ls : Indexes) (a : Asked) (vs : Range) → a.field.name ≡ n → T (in_order vs) → Says n ls (values (a ∷ []) (just 1) vs false)
unfolding items_of values_named
own_index n ls a vs e o = by_index (λ b. true_not_false (rw (first_value_item a 1 false vs.from vs.upto (in_order_le vs o), e, eqb_same n, values_named) at b).0 refl)

spread_says : (n : ℕ) (ls : Indexes) (a : Asked) (os vs : Option Range) (s : Spread) → a.field.name ≡ n → a.field.multiple ≡ true
    → spread false true (last_index n ls) os vs ≡ done s → Says n ls (values (a ∷ []) s.occurrences s.values s.bare)
unfolding spread
spread_says n ls a none none s e m h = from_need (in_order (just (suc (last_index n ls)))) 5 _ h λ t k. rw (← done_inj k) (own_bare n ls a e m)
spread_says n ls a (some vs) none s e m h = from_need (in_order vs) 5 _ h λ t k. rw (← done_inj k) (own_index n ls a vs e t)
spread_says n ls a none (some vs) s e m h = absurd (not_done h)
spread_says n ls a (some os) (some vs) s e m h = absurd (not_done h)

own_says : (n : ℕ) (ls : Indexes) (f : Field) (os vs : Option Range) (l g : Option ℕ) (u : Use) → f.name ≡ n → f.multiple ≡ true
    → use_of_field f false (last_index n ls) os vs l g ≡ done u → Says n ls u
unfolding use_of_field spread
own_says n ls f os vs l g u e m q =
    from_bind (spread false f.multiple (last_index n ls) os vs) _ q λ s h k.
    from_bind (asked f l g) _ k λ a h₂ k₂.
    let w = asked_field f l g a h₂ in
    let i : a.field.name ≡ n = ap (λ x. x.name) w ∙ e in
    let t : a.field.multiple ≡ true = ap (λ x. x.multiple) w ∙ m in
    rw (← done_inj k₂) (spread_says n ls a os vs s i t (rw m at h))

-- Bare names alone stand for the values above the last index, in order.
abbrev Onward : ℕ → List (ℕ × Bool) → Type 0
Onward last cs = BareAll cs → map (λ c. c.0) cs ≡ counting (suc last) (length cs)

onward_more : (n : ℕ) (ls : Indexes) (u : Use) (cs : List (ℕ × Bool)) → Says n ls u
    → Onward (last_index n (indexes_after u ls)) cs → Onward (last_index n ls) (values_named n 1 (items_of u) ++ cs)
unfolding run
onward_more n ls u cs (quiet q r) c a =
    let p = all_parts _ (values_named n 1 (items_of u)) cs a in
    rw (nothing_there (values_named n 1 (items_of u)) p.0 q, ← r) (c p.1)
onward_more n ls u cs (by_bare q r) c a =
    let p = all_parts _ (values_named n 1 (items_of u)) cs a in
    rw q (ap (◌∷◌ (suc (last_index n ls))) (rw r at (c p.1)))
onward_more n ls u cs (by_index d) c a = absurd (d (all_parts _ (values_named n 1 (items_of u)) cs a).0)

module _ (es : List Entry) (n : ℕ) (o : mu_outside (find n es) ≡ true) where
  use_says : (ls : Indexes) (e : Element) (u : Use) → use_of es ls e ≡ done u → Says n ls u
  use_says ls e u p =
      by_use n 1 es ls e u p (λ q. quiet q.0 (ap (last_index n) q.1))
      (λ m os vs l g x f s mu h w k. by_test (eqb m n)
      (λ b. let d = eqb-true m n b in from_mu es n x f s mu (rw d at h) w o λ r t. own_says n ls _ os vs l g u refl t (rw (d, r) at k))
      (λ b. quiet (field_none n 1 _ x.inside _ os vs l g u k (λ _ _ d _. eqb-false m n b d)) (other_kept n ls _ x.inside _ os vs l g u (eqb-false m n b) k)))

  bare_onward : (ls : Indexes) (xs : List Element) (us : List Use) → uses es ls xs ≡ done us → Onward (last_index n ls) (values_named n 1 (items us))
  unfolding uses items join values_named run
  bare_onward ls [] us p = rw (← done_inj p) (λ a. refl)
  bare_onward ls (x ∷ xs) us p =
      from_uses es ls x xs us p λ u h z vs h₂ e.
      rw (← e, named_append n 1 (items_of u) (items vs))
      (onward_more n ls u (values_named n 1 (items vs)) (use_says ls x u h) (bare_onward (indexes_after u ls) xs vs h₂))

unbared : (cs : List (ℕ × Bool)) → BareNone cs → Onward 0 cs
unfolding run
unbared cs b a = rw (nothing_there cs a b)

-- Whatever the field and the occurrence: if all names are bare they stand for 1, 2, .. in order.
values_onward : (es : List Entry) (xs : List Element) (us : List Use) → uses es [] xs ≡ done us → (n i : ℕ) → Onward 0 (values_named n i (items us))
unfolding last_index look_up
values_onward es xs us p n i =
    by_test (mu_outside (find n es))
    (λ o. by_test (eqb i 1)
    (λ e. rw (eqb-true i 1 e) (bare_onward es n o [] xs us p))
    (λ e. unbared (values_named n i (items us)) (uses_none es n i (λ _. eqb-false i 1 e) [] xs us p)))
    (λ o. unbared (values_named n i (items us)) (uses_none es n i (λ o' _. true_not_false o' o) [] xs us p))

all_bare : (ws : List Assignment) → T (all (λ a. a.bare) ws) → BareAll (map value_and_bare ws)
unfolding all
all_bare [] t = tt
all_bare (a ∷ ws) t = (T_true a.bare (and_left a.bare (all (λ b. b.bare) ws) t), all_bare ws (and_right a.bare (all (λ b. b.bare) ws) t))

only_bare : (ws : List Assignment) → bare_only ws ≡ true → BareAll (map value_and_bare ws)
unfolding bare_only all
only_bare [] h = tt
only_bare (a ∷ ws) h = all_bare (a ∷ ws) (true_T h)

maximum_from : (i n : ℕ) → maximum (counting i (suc n)) ≡ i + n
unfolding maximum run
maximum_from i zero = omega arith
maximum_from i (suc n) = let h = maximum_from (suc i) n in omega arith

maximum_counting : (n : ℕ) → maximum (counting 1 n) ≡ n
unfolding maximum run
maximum_counting zero = refl
maximum_counting (suc n) = maximum_from 1 n ∙ omega arith

-- What a format's bare names stand for in an update. The occurrence is 1 then, and the field an MU field outside periodic groups.
module _ (es : List Entry) (xs : List Element) (us : List Use) (p : uses es [] xs ≡ done us) (bs : Bytes) (ws : List Assignment) (q : assignments (items us) bs ≡ done ws)
    (n i : ℕ) where
  pub bare_indexes : bare_only (to_field ws n i) ≡ true → map (λ a. a.place.value) (to_field ws n i) ≡ counting 1 (length (to_field ws n i))
  bare_indexes b =
      let h = rw (← assigned_named n i (items us) bs ws q) at (values_onward es xs us p n i) in
      rw (map-map, length-map) at (h (only_bare (to_field ws n i) b))

  pub bare_count : bare_only (to_field ws n i) ≡ true → length (to_field ws n i) ≡ highest_value ws n i
  unfolding highest_value
  bare_count b = sym (ap maximum (bare_indexes b) ∙ maximum_counting (length (to_field ws n i)))

  -- So every value that is named exists in the new record.
  pub named_counted : (old : ℕ) → highest_value ws n i ≤ new_value_count ws n i old
  unfolding new_value_count
  named_counted old =
      by_test (bare_only (to_field ws n i))
      (λ b. rw (b, new_value_count) (let h = bare_count b in omega arith))
      (λ b. rw (b, new_value_count) (omega arith))
