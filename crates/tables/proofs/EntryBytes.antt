-- A table's entries six bytes at a time: what `entries` answers of the first six, and what a done one says of entry i.
use Rattle.std.specs.Prelude.{Some, Option as Optional, is_some}
use mathlib.Core.Path.{◌≡◌, refl, sym, ap, subst, ◌∙◌}
use mathlib.Core.Bool.{Bool, true, false, true≢false, ◌&&◌, ◌||◌}
use mathlib.Core.List.{List, [], ◌∷◌}
use mathlib.Core.Option.{none, some}
use Prim.Native.Nat.{ℕ, zero, suc, ◌+◌, ◌*◌, ◌-◌, ◌≤◌, ◌<◌}
use native.Mathlib.Omega.{arith}
use native.Mathlib.Nat.{sub-zero, le_of_suc-le-suc, not-suc-le-zero}
use borrow.Author.Tests.{leb-true, eqb-true, ne_eqb}
use lib.Dec.{T, eqb, leb}
use lib.ListN.{length, get_or, drop, length-drop, drop_of_length-le}
use lib.Seq.{drop-drop}
use Rattle.rules.specs.Outcome.{Outcome, done, refused, ◌>>=◌, need, is_done}
use Rattle.rules.specs.Limits.{entry_size}
use Rattle.rules.specs.Lists.{Bytes, look_up}
use Rattle.rules.specs.Characters.{space}
use Rattle.rules.specs.Values.{Format, allowed}
use Rattle.rules.specs.Table.{What, field, group, Entry, format_of, format_letters, is_name, name_of, what_of, entries}
use Rattle.rules.proofs.Steps.{from_bind, from_need, done_inj, not_done, by_option, T_true, and_left, and_right}
use Rattle.rules.proofs.Done.{is_done_then}
use Rattle.tables.specs.Entries.{blank, entry_place, format_at, format_given, letter_coded, decoded, entry_of_bytes, group_letter, is_group, format_coded, size_of, is_multiple, is_periodic, bytes_at}
use Rattle.tables.specs.Validity.{right_of}
use Rattle.std.proofs.lemmas.Bool.Decides.{nat_tests}
use Rattle.value_formats.specs.declared.Format.{Format as Coded}

-- ---- what an entry is

need_is : {A : Type 0} (b : Bool) (n : ℕ) (a : A) → is_done (need b n >>= λ (_ : Unit {0}). done a) ≡ b
need_is true n a = refl
need_is false n a = refl

module _ (level letter size option : ℕ) where
  pub what_field : (f : Format) → format_of letter ≡ some f
      → is_done (what_of level letter size option) ≡ (allowed f size && leb option 1)
  unfolding what_of
  what_field f e = rw (e, what_of) (need_is _ 1 _)

  pub what_group : format_of letter ≡ none
      → is_done (what_of level letter size option)
      ≡ (eqb letter space && eqb size 0 && (eqb option 0 || (eqb option 2 && eqb level 1)))
  unfolding what_of
  what_group e = rw (e, what_of) (need_is _ 1 _)

  pub what_given : (r : Optional Coded) (f : Coded) → r ≡ Some f → format_given r ≡ format_of letter
      → is_done (what_of level letter size option) ≡ (allowed (format_at f) size && leb option 1)
  what_given r f q e = what_field (format_at f) (sym e ∙ ap format_given q)

-- what the tests of an entry cite
pub ruleset what_tests = (nat_tests, what_given, what_group)

-- ---- six bytes

pub six : (bs : Bytes) → entry_size ≤ length bs
    → bs ≡ get_or bs 0 0 ∷ get_or bs 1 0 ∷ get_or bs 2 0 ∷ get_or bs 3 0 ∷ get_or bs 4 0 ∷ get_or bs 5 0 ∷ drop entry_size bs
six [] h = absurd (omega arith)
six (a ∷ []) h = absurd (omega arith)
six (a ∷ b ∷ []) h = absurd (omega arith)
six (a ∷ b ∷ l ∷ []) h = absurd (omega arith)
six (a ∷ b ∷ l ∷ f ∷ []) h = absurd (omega arith)
six (a ∷ b ∷ l ∷ f ∷ s ∷ []) h = absurd (omega arith)
six (a ∷ b ∷ l ∷ f ∷ s ∷ o ∷ bs) h = refl

space_none : format_of space ≡ none
unfolding format_of format_letters look_up
space_none = refl

-- what an entry's level, length and option say of a field, and of a group
abbrev pub Sound : ℕ → What → Type 0
Sound l (field g n m) = allowed g n ≡ true
Sound l (group p) = p ≡ true → l ≡ 1

-- what the code reads of an entry, from its bytes
pub record Read (l f s o : ℕ) (w : What) : Type 0 where
  pub format : letter_coded (format_of f) ≡ format_coded w
  pub size : s ≡ size_of w
  pub multiple : eqb o 1 ≡ is_multiple w
  pub periodic : eqb o 2 ≡ is_periodic w
  pub grouped : eqb f space ≡ is_group w
  pub sound : Sound l w

module _ (l f s o : ℕ) where
  field_done : (g : Format) → format_of f ≡ some g
      → what_of l f s o ≡ (need (allowed g s && leb o 1) 1 >>= λ (_ : Unit {0}). done (field g s (eqb o 1)))
  unfolding what_of
  field_done g e = rw (e, what_of)

  group_done : format_of f ≡ none
      → what_of l f s o
      ≡ (need (eqb f space && eqb s 0 && (eqb o 0 || (eqb o 2 && eqb l 1))) 1 >>= λ (_ : Unit {0}). done (group (eqb o 2)))
  unfolding what_of
  group_done e = rw (e, what_of)

  read_field : (g : Format) → format_of f ≡ some g → T (allowed g s && leb o 1) → Read l f s o (field g s (eqb o 1))
  read_field g e t =
      let h : o ≤ 1 = leb-true o 1 (T_true (leb o 1) (and_right (allowed g s) (leb o 1) t)) in
      record {
        format = ap letter_coded e;
        size = refl;
        multiple = refl;
        periodic = ne_eqb o 2 (λ q. omega arith);
        grouped = ne_eqb f space (λ q. true≢false (ap (λ o. is_some (letter_coded o)) (sym e ∙ ap format_of q ∙ space_none)));
        sound = T_true (allowed g s) (and_left (allowed g s) (leb o 1) t);
      }

  not_one : T (eqb o 0 || (eqb o 2 && eqb l 1)) → o ≡ 1 → ⊥
  not_one t e = subst (λ (k : ℕ). T (eqb k 0 || (eqb k 2 && eqb l 1))) e t

  level_one : T (eqb o 0 || (eqb o 2 && eqb l 1)) → eqb o 2 ≡ true → l ≡ 1
  level_one t e =
      let q : o ≡ 2 = eqb-true o 2 e in
      eqb-true l 1 (T_true (eqb l 1) (subst (λ (k : ℕ). T (eqb k 0 || (eqb k 2 && eqb l 1))) q t))

  read_group : format_of f ≡ none → T (eqb f space && eqb s 0 && (eqb o 0 || (eqb o 2 && eqb l 1))) → Read l f s o (group (eqb o 2))
  read_group e t =
      let u = and_right (eqb f space && eqb s 0) (eqb o 0 || (eqb o 2 && eqb l 1)) t in
      let v = and_right (eqb f space) (eqb s 0) (and_left (eqb f space && eqb s 0) (eqb o 0 || (eqb o 2 && eqb l 1)) t) in
      record {
        format = ap letter_coded e;
        size = eqb-true s 0 (T_true (eqb s 0) v);
        multiple = ne_eqb o 1 (not_one u);
        periodic = refl;
        grouped = T_true (eqb f space) (and_left (eqb f space) (eqb s 0) (and_left (eqb f space && eqb s 0) (eqb o 0 || (eqb o 2 && eqb l 1)) t));
        sound = level_one u;
      }

  pub what_read : (w : What) → what_of l f s o ≡ done w → Read l f s o w
  what_read w p = by_option (format_of f)
      (λ g e. from_need (allowed g s && leb o 1) 1 _ (sym (field_done g e) ∙ p) λ t q. subst (Read l f s o) (done_inj q) (read_field g e t))
      (λ e. from_need (eqb f space && eqb s 0 && (eqb o 0 || (eqb o 2 && eqb l 1))) 1 _ (sym (group_done e) ∙ p) λ t q. subst (Read l f s o) (done_inj q) (read_group e t))

-- ---- entries

-- an entry and the six bytes that it was read from
pub record Made (bs : Bytes) (e : Entry) : Type 0 where
  pub read : entry_of_bytes bs ≡ decoded e
  pub grouped : group_letter bs ≡ is_group e.what
  pub sound : Sound e.level e.what

-- a done list of entries: its first, from the first six bytes, and the rest
pub record First (n : ℕ) (bs : Bytes) (es : List Entry) : Type 0 where
  pub first : Entry
  pub rest : List Entry
  pub is : es ≡ first ∷ rest
  pub long : entry_size ≤ length bs
  pub made : Made bs first
  pub after : entries n (drop entry_size bs) ≡ done rest

pub entries_first : (n : ℕ) (bs : Bytes) (es : List Entry) → entries (suc n) bs ≡ done es → First n bs es
unfolding entries entry_of_bytes group_letter
entries_first n [] es p = absurd (not_done p)
entries_first n (a ∷ []) es p = absurd (not_done p)
entries_first n (a ∷ b ∷ []) es p = absurd (not_done p)
entries_first n (a ∷ b ∷ l ∷ []) es p = absurd (not_done p)
entries_first n (a ∷ b ∷ l ∷ f ∷ []) es p = absurd (not_done p)
entries_first n (a ∷ b ∷ l ∷ f ∷ s ∷ []) es p = absurd (not_done p)
entries_first n (a ∷ b ∷ l ∷ f ∷ s ∷ o ∷ bs) es p =
    from_need (is_name a b) 1 _ p λ t p₁.
    from_bind (what_of l f s o) _ p₁ λ w h p₂.
    from_bind (entries n bs) _ p₂ λ rest k p₃.
    let r = what_read l f s o w h in
    let e : Entry = record { name = name_of a b; level = l; what = w } in
    record {
      first = e;
      rest = rest;
      is = sym (done_inj p₃);
      long = omega arith;
      made = record {
        read = rw (r.format, r.size, r.multiple, r.periodic);
        grouped = r.grouped;
        sound = r.sound;
      };
      after = k;
    }

pub entries_length : (n : ℕ) (bs : Bytes) (es : List Entry) → entries n bs ≡ done es → (length es ≡ n) × (length bs ≡ n * entry_size)
unfolding entries
entries_length zero [] es p = (ap length (sym (done_inj p)), refl)
entries_length zero (b ∷ bs) es p = absurd (not_done p)
entries_length (suc n) bs es p =
    let x = entries_first n bs es p in
    let h = entries_length n (drop entry_size bs) x.rest x.after in
    (ap length x.is ∙ ap suc h.0, omega (arith, h.1, length-drop entry_size bs, x.long))

pub entry_made : (n : ℕ) (bs : Bytes) (es : List Entry) (i : ℕ) → entries n bs ≡ done es → i < n → Made (drop (i * entry_size) bs) (get_or es i blank)
entry_made zero bs es i p h = absurd (not-suc-le-zero h)
entry_made (suc n) bs es zero p h = let x = entries_first n bs es p in rw x.is x.made
entry_made (suc n) bs es (suc i) p h =
    let x = entries_first n bs es p in
    let e : suc i * entry_size ≡ entry_size + i * entry_size = omega arith in
    rw (x.is, e, ← drop-drop (i * entry_size) entry_size bs) (entry_made n (drop entry_size bs) x.rest i x.after (le_of_suc-le-suc h))

-- ---- a turn of the loop over the entries

is_done_both : {A B : Type 0} (t : Bool) (n : ℕ) (m : Outcome A) (k : A → Outcome B) (d : Bool)
    → ((a : A) → is_done (k a) ≡ d)
    → is_done (need t n >>= λ (_ : Unit {0}). m >>= k) ≡ (t && is_done m && d)
is_done_both true n (done a) k d h = h a
is_done_both true n (refused j) k d h = refl
is_done_both false n m k d h = refl

entries_six : (m a b l f s o : ℕ) (bs : Bytes)
    → is_done (entries (suc m) (a ∷ b ∷ l ∷ f ∷ s ∷ o ∷ bs)) ≡ (is_name a b && is_done (what_of l f s o) && is_done (entries m bs))
unfolding entries
entries_six m a b l f s o bs =
    is_done_both (is_name a b) 1 (what_of l f s o) _ (is_done (entries m bs)) (λ w. is_done_then (entries m bs) _)

pub entries_turn : (m : ℕ) (bs : Bytes) → entry_size ≤ length bs → is_done (entries (suc m) bs) ≡ (right_of bs && is_done (entries m (drop entry_size bs)))
unfolding right_of
entries_turn m bs h = ap (λ l. is_done (entries (suc m) l)) (six bs h) ∙ entries_six m _ _ _ _ _ _ (drop entry_size bs)

entries_end : is_done (entries 0 []) ≡ true
unfolding entries
entries_end = refl

module _ (t : Bytes) (n i : ℕ) (size : entry_place n ≡ length t) where
  entries_at : i < n → is_done (entries (n - i) (bytes_at t i)) ≡ (right_of (bytes_at t i) && is_done (entries (n - (i + 1)) (bytes_at t (i + 1))))
  entries_at h =
      let e : n - i ≡ suc (n - (i + 1)) = omega arith in
      let q : entry_place (i + 1) ≡ entry_place i + entry_size = omega arith in
      rw (e, q, ← drop-drop entry_size (entry_place i) t) (entries_turn (n - (i + 1)) (bytes_at t i) (rw length-drop (omega arith)))

  pub right_turn : i < n → right_of (bytes_at t i) ≡ true
      → is_done (entries (n - (i + 1)) (bytes_at t (i + 1))) ≡ is_done (entries (n - i) (bytes_at t i))
  right_turn h e = sym (entries_at h ∙ rw e)

  pub wrong_turn : i < n → right_of (bytes_at t i) ≡ false → false ≡ is_done (entries (n - i) (bytes_at t i))
  wrong_turn h e = sym (entries_at h ∙ rw e)

  pub last_turn : i ≤ n → n ≤ i → true ≡ is_done (entries (n - i) (bytes_at t i))
  last_turn h k =
      let e : n - i ≡ 0 = omega arith in
      rw (e, drop_of_length-le t {i = entry_place i} (omega arith)) (sym entries_end)

-- what a loop over entries cites
pub ruleset right_steps = (right_turn, wrong_turn, last_turn, sub-zero)
