-- What the use rules give: the fields of an element differ, since the names of a table do, and its ranges lie in order.
use mathlib.Core.Path.{◌≡◌, refl}
use mathlib.Core.Bool.{Bool, true, false, not, ◌&&◌}
use mathlib.Core.List.{List, [], ◌∷◌, map, map-map}
use mathlib.Core.Option.{Option, none, some}
use Prim.Native.Nat.{ℕ, suc, ◌+◌, ◌-◌, ◌≤◌, ◌<◌}
use native.Mathlib.Omega.{arith}
use lib.Dec.{T, eqb, leb, leb→le, ltb}
use lib.ListN.{get_or, take, drop}
use Rattle.rules.specs.Outcome.{Outcome, done, refused, by}
use Rattle.rules.specs.Limits.{highest_index, most_entries}
use Rattle.rules.specs.Lists.{Bytes, same, all, absent}
use Rattle.rules.specs.Values.{Format}
use Rattle.rules.specs.Table.{Field, What, field, group, Entry, differ, names, table_head, levels, entries, table, is_inside, fields_below}
use Rattle.rules.specs.Format.{Range, Element, blanks, quoted, named, count, count_in_last, series}
use Rattle.rules.specs.Use.{Use, one, values, Found, find_from, find, asked, as_stored, in_order, just, Spread, spread, Indexes, indexes_after, plain, use_of_group, use_of_field, use_of_count, fields_to, use_of_series, use_of, ranges_of, has_N, uses}
use Rattle.rules.proofs.Steps.{from_bind, from_need, done_inj, not_done, and_left, and_right, by_test}
use Rattle.rules.proofs.Back.{All}
use Rattle.rules.proofs.Places.{places_of, names_asked, Avoids, from_avoids, avoids_more, from_differ, differ_more}

-- The one list has some of the other's names, in their order.
pub data Picked : List ℕ → List ℕ → Type 0 where
  nothing_left : {ns : List ℕ} → Picked [] ns
  taken : {n : ℕ} {ms ns : List ℕ} → Picked ms ns → Picked (n ∷ ms) (n ∷ ns)
  left_out : {n : ℕ} {ms ns : List ℕ} → Picked ms ns → Picked ms (n ∷ ns)

picked_all : (ns : List ℕ) → Picked ns ns
picked_all [] = nothing_left
picked_all (n ∷ ns) = taken (picked_all ns)

picked_avoids : (k : ℕ) {ms ns : List ℕ} → Picked ms ns → Avoids k ns → Avoids k ms
unfolding all
picked_avoids k nothing_left a = tt
picked_avoids k (taken {n} {ms} {ns} p) a = from_avoids k n ns a λ e b. avoids_more k n ms e (picked_avoids k p b)
picked_avoids k (left_out {n} {ms} {ns} p) a = from_avoids k n ns a λ e b. picked_avoids k p b

pub picked_differ : {ms ns : List ℕ} → Picked ms ns → T (differ ns) → T (differ ms)
unfolding differ
picked_differ nothing_left d = tt
picked_differ (taken {n} {ms} {ns} p) d = from_differ n ns d λ a r. differ_more n ms (picked_avoids n p a) (picked_differ p r)
picked_differ (left_out {n} {ms} {ns} p) d = from_differ n ns d λ a r. picked_differ p r

-- By cases of what an entry is.
pub by_what : {C : Type 0} (w : What) → ((f : Format) (s : ℕ) (m : Bool) → w ≡ field f s m → C) → ((p : Bool) → w ≡ group p → C) → C
by_what (field f s m) h g = h f s m refl
by_what (group p) h g = g p refl

-- No field is MU.
abbrev pub Single : List Field → Type 0
Single = All (λ f. f.multiple ≡ false)

pub not_T_false : (b : Bool) → T (not b) → b ≡ false
not_T_false true t = absurd t
not_T_false false t = refl

pub plain_single : (fs : List Field) → T (all plain fs) → Single fs
unfolding all plain
plain_single [] t = tt
plain_single (f ∷ fs) t =
    (not_T_false f.multiple (and_left (not f.multiple) (leb 1 f.size) (and_left (plain f) (all plain fs) t)), plain_single fs (and_right (plain f) (all plain fs) t))

abbrev pub field_names : List Field → List ℕ
field_names fs = map (λ f. f.name) fs

-- The fields of a group, and of a series, have names of different entries; what is found, and all after it, are entries.
pub below_picked : (level : ℕ) (es : List Entry) → Picked (field_names (fields_below level es)) (names es)
unfolding fields_below names
below_picked level [] = nothing_left
below_picked level (e ∷ es) =
    by_test (ltb level e.level)
    (λ t. by_what e.what (λ f s m q. rw (t, fields_below, q) (taken (below_picked level es))) (λ p q. rw (t, fields_below, q) (left_out (below_picked level es))))
    (λ t. rw (t, fields_below) nothing_left)

pub to_picked : (n : ℕ) (es : List Entry) (fs : List Field) → fields_to n es ≡ done fs → Picked (field_names fs) (names es) × Single fs
unfolding fields_to names
to_picked n [] fs p = absurd (not_done p)
to_picked n (e ∷ es) fs p =
    by_what e.what
    (λ f s m q.
    from_need (not m) 5 _ (rw q at p) λ t k.
    by_test (eqb e.name n)
    (λ h. rw (← done_inj (rw h at k)) (taken nothing_left, (not_T_false m t, tt)))
    (λ h. from_bind (fields_to n es) _ (rw h at k) λ gs g k₂.
    let (a, b) = to_picked n es gs g in
    rw (← done_inj k₂) (taken a, (not_T_false m t, b))))
    (λ b q. from_need (not b && not (eqb e.name n)) 5 _ (rw q at p) λ t k. let (a, b) = to_picked n es fs k in (left_out a, b))

pub find_picked : (before : Bool) (n : ℕ) (es : List Entry) (x : Found) → find_from before n es ≡ done x → Picked (names (x.entry ∷ x.after)) (names es)
unfolding find_from names
find_picked before n [] x p = absurd (not_done p)
find_picked before n (e ∷ es) x p =
    by_test (eqb e.name n)
    (λ t. rw (← done_inj (rw (t, find_from) at p)) (picked_all (names (e ∷ es))))
    (λ t. left_out (find_picked (is_inside before e) n es x (rw (t, find_from) at p)))

-- By the first element of an update: it has no N.
pub from_uses : {C : Type 0} (es : List Entry) (ls : Indexes) (x : Element) (xs : List Element) (us : List Use) → uses es ls (x ∷ xs) ≡ done us
    → ((u : Use) → use_of es ls x ≡ done u → has_N x ≡ false → (vs : List Use) → uses es (indexes_after u ls) xs ≡ done vs → u ∷ vs ≡ us → C) → C
unfolding uses
from_uses es ls x xs us p c =
    from_bind (use_of es ls x) _ p λ u h k.
    from_need (not (has_N x)) 5 _ k λ t k₂.
    from_bind (uses es (indexes_after u ls) xs) _ k₂ λ vs h₂ k₃.
    c u h (not_T_false (has_N x) t) vs h₂ (done_inj k₃)

-- An element names each of its occurrences once, and some for each of its fields; or it names none.
abbrev pub Once : Use → Type 0
Once (one x) = places_of (x ∷ []) ≡ []
Once (values fs os vs bare) = T (differ (names_asked fs)) × T (in_order os) × T (in_order vs)

abbrev pub Apart : List Use → Type 0
Apart = All Once

pub in_order_le : (r : Range) → T (in_order r) → r.from ≤ r.upto
unfolding in_order
in_order_le r t =
    leb→le r.from r.upto
    (and_right (leb 1 r.from) (leb r.from r.upto) (and_left (leb 1 r.from && leb r.from r.upto) (leb r.upto highest_index) t))

-- An index that a format can have: each of a range is one.
abbrev pub Index : ℕ → Type 0
Index i = (1 ≤ i) × (i ≤ highest_index)

pub range_index : (r : Range) → T (in_order r) → (k : ℕ) → r.from ≤ k → k < r.from + (suc r.upto - r.from) → Index k
unfolding in_order
range_index r t k a b =
    let x = leb→le 1 r.from (and_left (leb 1 r.from) (leb r.from r.upto) (and_left (leb 1 r.from && leb r.from r.upto) (leb r.upto highest_index) t)) in
    let y = leb→le r.upto highest_index (and_right (leb 1 r.from && leb r.from r.upto) (leb r.upto highest_index) t) in
    (omega arith, omega arith)

abbrev InOrder : Spread → Type 0
InOrder s = T (in_order s.occurrences) × T (in_order s.values)

pub spread_in_order : (inside mu : Bool) (last : ℕ) (os vs : Option Range) (s : Spread) → spread inside mu last os vs ≡ done s → InOrder s
unfolding spread in_order
spread_in_order true mu last none vs s p = absurd (not_done p)
spread_in_order true mu last (some os) none s p = from_need (in_order os) 5 _ p λ t k. rw (← done_inj k) (t, tt)
spread_in_order true mu last (some os) (some vs) s p =
    from_need (mu && in_order os && in_order vs) 5 _ p λ t k.
    rw (← done_inj k) (and_right mu (in_order os) (and_left (mu && in_order os) (in_order vs) t), and_right (mu && in_order os) (in_order vs) t)
spread_in_order false mu last os (some vs) s p = absurd (not_done p)
spread_in_order false true last none none s p = from_need (in_order (just (suc last))) 5 _ p λ t k. rw (← done_inj k) (tt, t)
spread_in_order false true last (some vs) none s p = from_need (in_order vs) 5 _ p λ t k. rw (← done_inj k) (tt, t)
spread_in_order false false last none none s p = rw (← done_inj p) (tt, tt)
spread_in_order false false last (some os) none s p = absurd (not_done p)

-- "names differ"
pub table_differ : (t : Bytes) (es : List Entry) → table t ≡ done es → T (differ (names es))
unfolding table
table_differ t es p =
    from_need (same (take 5 t) table_head) 1 _ p λ a k.
    from_need (leb 1 (get_or t 5 0) && leb (get_or t 5 0) most_entries) 1 _ k λ b k₂.
    from_bind (entries (get_or t 5 0) (drop 6 t)) _ k₂ λ fs h k₃.
    from_need (levels (group false) 0 fs && differ (names fs)) 1 _ k₃ λ d k₄.
    rw (← done_inj k₄) (and_right (levels (group false) 0 fs) (differ (names fs)) d)

as_stored_once : (fs : List Field) → T (differ (field_names fs)) → T (differ (names_asked (map as_stored fs)))
unfolding as_stored
as_stored_once fs d = rw (map-map {A = Field} (λ a. a.field.name) as_stored fs) d

count_once : (n : ℕ) (w : What) (inside : Bool) (i : Option ℕ) (u : Use) → use_of_count n w inside i ≡ done u → Once u
unfolding use_of_count places_of
count_once n (group p) inside i u q = from_need (p && absent i) 5 _ q λ t k. rw (← done_inj k) refl
count_once n (field f s mu) inside none u q = from_need (mu && not inside) 5 _ q λ t k. rw (← done_inj k) refl
count_once n (field f s mu) inside (some i) u q = from_need (mu && inside && in_order (just i)) 5 _ q λ t k. rw (← done_inj k) refl

field_once : (f : Field) (inside : Bool) (last : ℕ) (os vs : Option Range) (l g : Option ℕ) (u : Use) → use_of_field f inside last os vs l g ≡ done u → Once u
unfolding use_of_field differ all
field_once f inside last os vs l g u q =
    from_bind (spread inside f.multiple last os vs) _ q λ s h k.
    from_bind (asked f l g) _ k λ a h₂ k₂.
    let o = spread_in_order inside f.multiple last os vs s h in
    rw (← done_inj k₂) (tt, o.0, o.1)

group_once : (x : Found) (os vs : Option Range) (l g : Option ℕ) (u : Use) → T (differ (names (x.entry ∷ x.after))) → use_of_group x os vs l g ≡ done u → Once u
unfolding use_of_group names
group_once x os vs l g u d q =
    let fs = fields_below x.entry.level x.after in
    from_need (absent l && absent g && all plain fs) 5 _ q λ t k.
    from_bind (spread x.inside false 0 os vs) _ k λ s h k₂.
    let o = spread_in_order x.inside false 0 os vs s h in
    rw (← done_inj k₂) (as_stored_once fs (picked_differ (left_out (below_picked x.entry.level x.after)) d), o.0, o.1)

pub not_group : {A : Type 0} (w : What) (m : Outcome A) {a : A} → elim w [ group p ↦ refused (by 5) | field f s mu ↦ m ] ≡ done a → m ≡ done a
not_group (field f s mu) m p = p
not_group (group q) m p = absurd (not_done p)

series_once : (x : Found) (n : ℕ) (u : Use) → T (differ (names (x.entry ∷ x.after))) → use_of_series x n ≡ done u → Once u
unfolding use_of_series in_order
series_once x n u d q =
    from_need (not x.inside) 5 _ (not_group x.entry.what _ q) λ t k.
    from_bind (fields_to n (x.entry ∷ x.after)) _ k λ fs g k₂.
    rw (← done_inj k₂) (as_stored_once fs (picked_differ (to_picked n (x.entry ∷ x.after) fs g).0 d), tt, tt)

module _ (es : List Entry) (d : T (differ (names es))) where
  use_once : (ls : Indexes) (x : Element) (u : Use) → use_of es ls x ≡ done u → Once u
  unfolding use_of find places_of
  use_once ls (blanks n) u p = rw (← done_inj p) refl
  use_once ls (quoted t) u p = rw (← done_inj p) refl
  use_once ls (count n i) u p = from_bind (find n es) _ p λ x h k. count_once n x.entry.what x.inside i u k
  use_once ls (count_in_last n) u p = from_bind (find n es) _ p λ x h k. count_once n x.entry.what x.inside (some 1) u k
  use_once ls (series n m) u p =
      from_bind (find n es) _ p λ x h k.
      from_bind (find m es) _ k λ y h₂ k₂.
      series_once x m u (picked_differ (find_picked false n es x h) d) k₂
  use_once ls (named n os vs l g) u p =
      from_bind (find n es) _ p λ x h k.
      by_what x.entry.what
      (λ f s m e. field_once _ x.inside _ (ranges_of os) (ranges_of vs) l g u (rw e at k))
      (λ b e. group_once x (ranges_of os) (ranges_of vs) l g u (picked_differ (find_picked false n es x h) d) (rw e at k))

  -- What each element of a format means names each of its occurrences once.
  pub uses_apart : (ls : Indexes) (xs : List Element) (us : List Use) → uses es ls xs ≡ done us → Apart us
  unfolding uses
  uses_apart ls [] us p = rw (← done_inj p) tt
  uses_apart ls (x ∷ xs) us p =
      from_uses es ls x xs us p λ u h z vs h₂ e.
      rw (← e) (use_once ls x u h, uses_apart (indexes_after u ls) xs vs h₂)
