-- The fields of a table: what is found by a name, listed in a group or a series, or stands in a part of the record is one of its entries;
-- fields of one name are one; each has a length that its format allows, and a name of two bytes.
use mathlib.Core.Path.{◌≡◌, refl, sym, ◌∙◌, ap}
use mathlib.Core.Bool.{Bool, true, false, not, ◌&&◌, ◌||◌}
use mathlib.Core.List.{List, [], ◌∷◌}
use mathlib.Core.Logic.{◌⊎◌, inl, inr, ⊎_elim}
use Prim.Native.Nat.{ℕ, zero, suc}
use borrow.Author.Tests.{eqb-true}
use lib.Dec.{T, eqb, leb, ltb, eqb→eq}
use lib.ListN.{get_or, take, drop}
use Rattle.rules.specs.Outcome.{done}
use Rattle.rules.specs.Limits.{most_entries}
use Rattle.rules.specs.Characters.{space}
use Rattle.rules.specs.Lists.{Bytes, same}
use Rattle.rules.specs.Values.{Format, allowed}
use Rattle.rules.specs.Table.{What, field, group, Entry, Field, Part, is_name, name_of, format_of, what_of, entries, levels, differ, names, table_head, table, is_inside, fields_below, alone, part_of, parts_from}
use Rattle.rules.specs.Use.{Found, find_from, fields_to}
use Rattle.rules.proofs.Steps.{from_bind, from_need, done_inj, not_done, and_left, and_right, by_test, by_option, T_true}
use Rattle.rules.proofs.Back.{All, all_map}
use Rattle.rules.proofs.Places.{Avoids, from_avoids, from_differ}
use Rattle.rules.proofs.Uses.{by_what}

-- The entry is the field; one of the entries is.
abbrev pub Is : Field → Entry → Type 0
Is f e = (e.name ≡ f.name) × (e.what ≡ field f.format f.size f.multiple)

abbrev pub Among : List Entry → Field → Type 0
Among [] f = ⊥
Among (e ∷ es) f = Is f e ⊎ Among es f

pub field_same : (f g : Field) → f.name ≡ g.name → f.format ≡ g.format → f.size ≡ g.size → f.multiple ≡ g.multiple → f ≡ g
field_same f g a b c d =
    ap (λ n. record { name = n; format = f.format; size = f.size; multiple = f.multiple }) a
    ∙ ap (λ n. record { name = g.name; format = n; size = f.size; multiple = f.multiple }) b
    ∙ ap (λ n. record { name = g.name; format = g.format; size = n; multiple = f.multiple }) c
    ∙ ap (λ n. record { name = g.name; format = g.format; size = g.size; multiple = n }) d

pub what_format : {f g : Format} {s r : ℕ} {m n : Bool} → field f s m ≡ field g r n → f ≡ g
what_format e = cc

pub what_size : {f g : Format} {s r : ℕ} {m n : Bool} → field f s m ≡ field g r n → s ≡ r
what_size e = cc

pub what_multiple : {f g : Format} {s r : ℕ} {m n : Bool} → field f s m ≡ field g r n → m ≡ n
what_multiple e = cc

pub among_avoids : (n : ℕ) (es : List Entry) (f : Field) → Avoids n (names es) → Among es f → n ≡ f.name → ⊥
unfolding names
among_avoids n [] f a m q = m
among_avoids n (e ∷ es) f a m q = from_avoids n e.name (names es) a λ d b.
    ⊎_elim (λ i. d (q ∙ sym i.0)) (λ i. among_avoids n es f b i q) m

-- "names differ"
pub one_field : (es : List Entry) → T (differ (names es)) → (f g : Field) → Among es f → Among es g → f.name ≡ g.name → f ≡ g
unfolding names
one_field [] d f g a b q = absurd a
one_field (e ∷ es) d f g a b q = from_differ e.name (names es) d λ v r.
    ⊎_elim
    (λ i. ⊎_elim
    (λ j. let w = sym i.1 ∙ j.1 in field_same f g q (what_format w) (what_size w) (what_multiple w))
    (λ j. absurd (among_avoids e.name es g v j (i.0 ∙ q))) b)
    (λ i. ⊎_elim
    (λ j. absurd (among_avoids e.name es f v i (j.0 ∙ sym q)))
    (λ j. one_field es r f g i j q) b)
    a

-- ---- where fields come from

among_more : (e : Entry) (es : List Entry) (fs : List Field) → All (Among es) fs → All (Among (e ∷ es)) fs
among_more e es fs a = all_map (Among es) (Among (e ∷ es)) (λ f i. inr i) fs a

pub below_among : (level : ℕ) (es : List Entry) → All (Among es) (fields_below level es)
unfolding fields_below
below_among level [] = tt
below_among level (e ∷ es) = by_test (ltb level e.level)
    (λ t. by_what e.what
    (λ f s m q. rw (t, fields_below, q) (inl (refl, refl), among_more (record { name = e.name; level = e.level; what = field f s m }) es (fields_below level es) (below_among level es)))
    (λ p q. rw (t, fields_below, q) (among_more (record { name = e.name; level = e.level; what = group p }) es (fields_below level es) (below_among level es))))
    (λ t. rw (t, fields_below) tt)

pub to_among : (n : ℕ) (es : List Entry) (fs : List Field) → fields_to n es ≡ done fs → All (Among es) fs
unfolding fields_to
to_among n [] fs p = absurd (not_done p)
to_among n (e ∷ es) fs p =
    by_what e.what
    (λ f s m q.
    from_need (not m) 5 _ (rw q at p) λ t k.
    by_test (eqb e.name n)
    (λ h. rw (← done_inj (rw h at k)) (inl (refl, q), tt))
    (λ h. from_bind (fields_to n es) _ (rw h at k) λ gs g k₂.
    rw (← done_inj k₂) (inl (refl, q), among_more e es gs (to_among n es gs g))))
    (λ b q. from_need (not b && not (eqb e.name n)) 5 _ (rw q at p) λ t k. among_more e es fs (to_among n es fs k))

pub find_among : (before : Bool) (n : ℕ) (es : List Entry) (x : Found) → find_from before n es ≡ done x
    → (x.entry.name ≡ n) × ((f : Field) → Among (x.entry ∷ x.after) f → Among es f)
unfolding find_from
find_among before n [] x p = absurd (not_done p)
find_among before n (e ∷ es) x p =
    by_test (eqb e.name n)
    (λ t. rw (← done_inj (rw (t, find_from) at p)) (eqb-true e.name n t, λ f i. i))
    (λ t. let (a, b) = find_among (is_inside before e) n es x (rw (t, find_from) at p) in (a, λ f i. inr (b f i)))

part_among : (inside : Bool) (e : Entry) (w : What) (es : List Entry) (ps : List Part) → e.what ≡ w → All (λ p. All (Among es) p.members) ps
    → All (λ p. All (Among (e ∷ es)) p.members) (part_of inside e.name w es ps)
unfolding part_of alone
part_among inside e (group true) es ps q a = (among_more e es (fields_below 1 es) (below_among 1 es), all_map _ _ (λ p b. among_more e es p.members b) ps a)
part_among inside e (group false) es ps q a = all_map _ _ (λ p b. among_more e es p.members b) ps a
part_among true e (field f s m) es ps q a = all_map _ _ (λ p b. among_more e es p.members b) ps a
part_among false e (field f s m) es ps q a = ((inl (refl, q), tt), all_map _ _ (λ p b. among_more e es p.members b) ps a)

pub parts_among : (before : Bool) (es : List Entry) → All (λ p. All (Among es) p.members) (parts_from before es)
unfolding parts_from
parts_among before [] = tt
parts_among before (e ∷ es) = part_among (is_inside before e) e e.what es (parts_from (is_inside before e) es) refl (parts_among (is_inside before e) es)

-- ---- what an entry may be

-- A field has an allowed length, a periodic group has level 1.
abbrev pub Sound : ℕ → What → Type 0
Sound level (field f s m) = allowed f s ≡ true
Sound level (group true) = level ≡ 1
Sound level (group false) = Unit {0}

periodic_top : (option level : ℕ) → T (eqb option 0 || (eqb option 2 && eqb level 1)) → Sound level (group (eqb option 2))
periodic_top option level t = by_test (eqb option 2)
    (λ e. rw e (eqb→eq level 1 (rw (eqb-true option 2 e) at t)))
    (λ e. rw e tt)

what_sound : (level format length option : ℕ) (w : What) → what_of level format length option ≡ done w → Sound level w
unfolding what_of
what_sound level format length option w p = by_option (format_of format)
    (λ f e. from_need (allowed f length && leb option 1) 1 _ (rw (e, what_of) at p) λ t k. rw (← done_inj k) (T_true (allowed f length) (and_left (allowed f length) (leb option 1) t)))
    (λ e. from_need (eqb format space && eqb length 0 && (eqb option 0 || (eqb option 2 && eqb level 1))) 1 _ (rw (e, what_of) at p) λ t k.
    rw (← done_inj k) (periodic_top option level (and_right (eqb format space && eqb length 0) (eqb option 0 || (eqb option 2 && eqb level 1)) t)))

-- A name is two bytes.
abbrev pub TwoBytes : ℕ → Type 0
TwoBytes n = (a : ℕ) × (b : ℕ) × (n ≡ name_of a b) × (is_name a b ≡ true)

abbrev Made : Entry → Type 0
Made e = Sound e.level e.what × TwoBytes e.name

entries_made : (n : ℕ) (bs : Bytes) (es : List Entry) → entries n bs ≡ done es → All Made es
unfolding entries
entries_made zero [] es p = rw (← done_inj p) tt
entries_made zero (b ∷ bs) es p = absurd (not_done p)
entries_made (suc n) [] es p = absurd (not_done p)
entries_made (suc n) (a ∷ []) es p = absurd (not_done p)
entries_made (suc n) (a ∷ b ∷ []) es p = absurd (not_done p)
entries_made (suc n) (a ∷ b ∷ l ∷ []) es p = absurd (not_done p)
entries_made (suc n) (a ∷ b ∷ l ∷ f ∷ []) es p = absurd (not_done p)
entries_made (suc n) (a ∷ b ∷ l ∷ f ∷ s ∷ []) es p = absurd (not_done p)
entries_made (suc n) (a ∷ b ∷ l ∷ f ∷ s ∷ o ∷ bs) es p =
    from_need (is_name a b) 1 _ p λ t k.
    from_bind (what_of l f s o) _ k λ w h k₂.
    from_bind (entries n bs) _ k₂ λ xs h₂ k₃.
    rw (← done_inj k₃) ((what_sound l f s o w h, (a, b, refl, T_true (is_name a b) t)), entries_made n bs xs h₂)

module _ (t : Bytes) (es : List Entry) (p : table t ≡ done es) where
  table_made : All Made es
  unfolding table
  table_made =
      from_need (same (take 5 t) table_head) 1 _ p λ a k.
      from_need (leb 1 (get_or t 5 0) && leb (get_or t 5 0) most_entries) 1 _ k λ b k₂.
      from_bind (entries (get_or t 5 0) (drop 6 t)) _ k₂ λ fs h k₃.
      from_need (levels (group false) 0 fs && differ (names fs)) 1 _ k₃ λ d k₄.
      rw (← done_inj k₄) (entries_made (get_or t 5 0) (drop 6 t) fs h)

  pub table_sound : All (λ e. Sound e.level e.what) es
  table_sound = all_map Made (λ e. Sound e.level e.what) (λ e m. m.0) es table_made

  pub table_named : All (λ e. TwoBytes e.name) es
  table_named = all_map Made (λ e. TwoBytes e.name) (λ e m. m.1) es table_made

sound_field : (l : ℕ) (w : What) {f : Format} {s : ℕ} {m : Bool} → w ≡ field f s m → Sound l w → allowed f s ≡ true
sound_field l w e h = rw e at h

pub field_allowed : (es : List Entry) → All (λ e. Sound e.level e.what) es → (f : Field) → Among es f → allowed f.format f.size ≡ true
field_allowed [] a f m = absurd m
field_allowed (e ∷ es) a f m = ⊎_elim (λ i. sound_field e.level e.what i.1 a.0) (λ i. field_allowed es a.1 f i) m
