-- What a record has: values of at most 254 bytes, counts to 191, one where nothing is counted; and periodic groups that are entries of its table.
use mathlib.Core.Path.{◌≡◌, refl, sym, ◌∙◌, ap, subst}
use mathlib.Core.Bool.{Bool, true, false, ◌&&◌, ◌||◌}
use mathlib.Core.List.{List, [], ◌∷◌, ◌++◌}
use mathlib.Core.Logic.{◌⊎◌, inl, inr, ⊎_elim}
use mathlib.Core.Option.{some}
use Prim.Native.Nat.{ℕ, zero, suc, pred, ◌≤◌, min}
use native.Mathlib.Nat.{not-suc-le-zero}
use native.Mathlib.Omega.{arith}
use borrow.Author.Tests.{ne_eqb, leb-true, eqb-true}
use lib.Dec.{T, eqb, leb}
use lib.ListN.{length, get_or}
use Rattle.rules.specs.Outcome.{done}
use Rattle.rules.specs.Limits.{longest_items, longest_alpha, longest_binary, longest_packed, longest_unpacked}
use Rattle.rules.specs.Lists.{Bytes}
use Rattle.rules.specs.Values.{Format, alpha, binary, fixed, packed, unpacked, allowed, first_value, with_length_byte, in_normal_form}
use Rattle.rules.specs.Table.{Field, What, field, group, Entry, Part, differ, names, is_inside, alone, part_of, parts_from, member, part_named}
use Rattle.rules.specs.Record.{Occurrence, Record, stored_value, cell_of, values_at}
use Rattle.rules.specs.Use.{Found, find_from}
use Rattle.rules.proofs.Steps.{from_as, from_need, from_done, some_inj, not_some, not_both, by_test, by_option, from_some_pair, eqb_same}
use Rattle.rules.proofs.Back.{All, Beside, Sized, Stored, CellOk, RecordOk, all_map}
use Rattle.rules.proofs.Places.{Avoids, from_avoids, from_differ}
use Rattle.rules.proofs.Home.{home}
use Rattle.rules.proofs.Laid.{occurrences_at}
use Rattle.rules.proofs.Entries.{TwoBytes}
use Rattle.rules.proofs.FieldHomes.{find_here, find_skip}
use Rattle.values.proofs.Stored.{first_allowed}

-- ---- values are short

either_most : (a b : Bool) {n : ℕ} → (a || b) ≡ true → (a ≡ true → n ≤ longest_alpha) → (b ≡ true → n ≤ longest_alpha) → n ≤ longest_alpha
either_most true b e f g = f refl
either_most false b e f g = g e

second_of : (a b : Bool) → (a && b) ≡ true → b ≡ true
second_of true b e = e
second_of false b e = absurd (not_both e)

allowed_most : (f : Format) (n : ℕ) → allowed f n ≡ true → n ≤ longest_alpha
unfolding allowed
allowed_most alpha n h = leb-true n longest_alpha h
allowed_most binary n h = let l = leb-true n longest_binary (second_of (leb 1 n) (leb n longest_binary) h) in omega arith
allowed_most fixed n h = either_most (eqb n 2) (eqb n 4) h (λ e. let q = eqb-true n 2 e in omega arith) (λ e. let q = eqb-true n 4 e in omega arith)
allowed_most packed n h = let l = leb-true n longest_packed (second_of (leb 1 n) (leb n longest_packed) h) in omega arith
allowed_most unpacked n h = let l = leb-true n longest_unpacked (second_of (leb 1 n) (leb n longest_unpacked) h) in omega arith

with_byte_most : (n : ℕ) (c : Bytes) → length c ≤ longest_alpha → length (with_length_byte n c) ≤ suc longest_alpha
unfolding with_length_byte
with_byte_most zero c h = omega arith
with_byte_most (suc n) c h = omega arith

pub stored_short : (f : Field) (v : Bytes) → allowed f.format f.size ≡ true → Stored f v → length v ≤ min longest_items longest_items
unfolding stored_value
stored_short f v a s =
    from_as 2 (first_value f.size (v ++ [])) _ (s []) λ r h k.
    from_need (in_normal_form f.format f.size r.0) 2 _ k λ t k₂.
    from_done k₂ λ e g.
    let m = with_byte_most f.size r.0 (allowed_most f.format (length r.0) (first_allowed f.format f.size (v ++ []) r.0 r.1 h a)) in
    let z = ap length e in
    omega arith

-- ---- how many occurrences and values a record has

pub occurrences_sized : (ps : List Part) (r : Record) (n : ℕ) (p : Part) (f : Field) → RecordOk ps r → home n ps ≡ some (p, f) → Sized p.periodic (occurrences_at ps r n)
unfolding home occurrences_at
occurrences_sized [] r n p f a e = absurd (not_some e)
occurrences_sized (q ∷ ps) [] n p f a e = absurd a
occurrences_sized (q ∷ ps) (os ∷ r) n p f a e = by_option (member n q.members)
    (λ g t. from_some_pair (rw (t, home) at e) λ x y. rw (t, occurrences_at) (subst (λ z. Sized z.periodic (length os)) x a.0.0))
    (λ t. rw (t, occurrences_at) (occurrences_sized ps r n p f a.1 (rw (t, home) at e)))

cell_sized : (n : ℕ) (fs : List Field) (cs : Occurrence) (f : Field) → Beside CellOk fs cs → member n fs ≡ some f → Sized f.multiple (length (cell_of n fs cs))
unfolding member cell_of
cell_sized n [] cs f a e = absurd (not_some e)
cell_sized n (g ∷ fs) [] f a e = absurd a
cell_sized n (g ∷ fs) (c ∷ cs) f a e = by_test (eqb g.name n)
    (λ t. let q : g ≡ f = some_inj (rw (t, member) at e) in rw (t, cell_of) (subst (λ z. Sized z.multiple (length c)) q a.0.0))
    (λ t. rw (t, cell_of) (cell_sized n fs cs f a.1 (rw (t, member) at e)))

all_pred : {X : Type 0} (P : X → Type 0) (xs : List X) (i : ℕ) (d : X) → All P xs → 1 ≤ i → i ≤ length xs → P (get_or xs (pred i) d)
all_pred P xs zero d a o l = absurd (not-suc-le-zero o)
all_pred P [] (suc i) d a o l = absurd (not-suc-le-zero l)
all_pred P (x ∷ xs) (suc zero) d a o l = a.0
all_pred P (x ∷ xs) (suc (suc i)) d a o l = all_pred P xs (suc i) d a.1 (omega arith) (omega arith)

pub values_sized : (ps : List Part) (r : Record) (n : ℕ) (p : Part) (f : Field) → RecordOk ps r → home n ps ≡ some (p, f) → (i : ℕ) → 1 ≤ i → i ≤ occurrences_at ps r n
    → Sized f.multiple (length (values_at ps r n i))
unfolding home occurrences_at values_at
values_sized [] r n p f a e i o l = absurd (not_some e)
values_sized (q ∷ ps) [] n p f a e i o l = absurd a
values_sized (q ∷ ps) (os ∷ r) n p f a e i o l = by_option (member n q.members)
    (λ g t. from_some_pair (rw (t, home) at e) λ x y. rw (t, values_at)
    (cell_sized n q.members (get_or os (pred i) []) f (all_pred _ os i [] a.0.1 o (rw (t, occurrences_at) at l)) (rw y at t)))
    (λ t. rw (t, values_at) (values_sized ps r n p f a.1 (rw (t, home) at e) i o (rw (t, occurrences_at) at l)))

pub sized_one : (c : Bool) {n : ℕ} → Sized c n → c ≡ false → n ≡ 1
sized_one true h e = absurd (not_both (sym e))
sized_one false h e = h

-- ---- periodic groups are entries

abbrev pub GroupAmong : List Entry → ℕ → Type 0
GroupAmong [] n = ⊥
GroupAmong (e ∷ es) n = ((e.name ≡ n) × (e.what ≡ group true)) ⊎ GroupAmong es n

part_groups : (inside : Bool) (e : Entry) (w : What) (es : List Entry) (ps : List Part) → e.what ≡ w → All (λ p. p.periodic ≡ true → GroupAmong es p.name) ps
    → All (λ p. p.periodic ≡ true → GroupAmong (e ∷ es) p.name) (part_of inside e.name w es ps)
unfolding part_of alone
part_groups inside e (group true) es ps q a = ((λ z. inl (refl, q)), all_map _ _ (λ p b z. inr (b z)) ps a)
part_groups inside e (group false) es ps q a = all_map _ _ (λ p b z. inr (b z)) ps a
part_groups true e (field f s m) es ps q a = all_map _ _ (λ p b z. inr (b z)) ps a
part_groups false e (field f s m) es ps q a = ((λ z. absurd (not_both z)), all_map _ _ (λ p b z. inr (b z)) ps a)

pub parts_groups : (before : Bool) (es : List Entry) → All (λ p. p.periodic ≡ true → GroupAmong es p.name) (parts_from before es)
unfolding parts_from
parts_groups before [] = tt
parts_groups before (e ∷ es) = part_groups (is_inside before e) e e.what es (parts_from (is_inside before e) es) refl (parts_groups (is_inside before e) es)

group_avoids : (k : ℕ) (es : List Entry) (n : ℕ) → Avoids k (names es) → GroupAmong es n → k ≡ n → ⊥
unfolding names
group_avoids k [] n a m q = m
group_avoids k (e ∷ es) n a m q = from_avoids k e.name (names es) a λ d b. ⊎_elim (λ i. d (q ∙ sym i.0)) (λ i. group_avoids k es n b i q) m

pub group_find : (before : Bool) (es : List Entry) → T (differ (names es)) → (n : ℕ) → GroupAmong es n → (x : Found) × (find_from before n es ≡ done x) × (x.entry.what ≡ group true)
unfolding names
group_find before [] d n m = absurd m
group_find before (e ∷ es) d n m = from_differ e.name (names es) d λ v r.
    ⊎_elim
    (λ i. (record { entry = e; inside = is_inside before e; after = es }, find_here before n e es (ap (λ k. eqb k n) i.0 ∙ eqb_same n), i.1))
    (λ i.
    let (x, h, q) = group_find (is_inside before e) es r n i in
    (x, find_skip before n e es (ne_eqb e.name n (group_avoids e.name es n v i)) ∙ h, q))
    m

pub group_bytes : (es : List Entry) → All (λ e. TwoBytes e.name) es → (n : ℕ) → GroupAmong es n → TwoBytes n
group_bytes [] a n m = absurd m
group_bytes (e ∷ es) a n m = ⊎_elim (λ i. subst TwoBytes i.0 a.0) (λ i. group_bytes es a.1 n i) m

pub named_all : (Q : Part → Type 0) (n : ℕ) (ps : List Part) (p : Part) → part_named n ps ≡ some p → All Q ps → Q p
unfolding part_named
named_all Q n [] p e a = absurd (not_some e)
named_all Q n (q ∷ ps) p e a = by_test (eqb q.name n) (λ t. subst Q (some_inj (rw (t, part_named) at e)) a.0) (λ t. named_all Q n ps p (rw (t, part_named) at e) a.1)
