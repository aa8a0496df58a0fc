-- Where values end that are known to stand at a place: a value is as long as its standard length, or as its length byte says.
use Rattle.std.specs.Prelude.{Some}
use mathlib.Core.Path.{◌≡◌, refl, sym, ◌∙◌, ap}
use mathlib.Core.Bool.{Bool, true, false, not, ◌&&◌}
use mathlib.Core.List.{List, [], ◌∷◌, ◌++◌}
use Prim.Native.Nat.{ℕ, zero, suc, ◌+◌, ◌*◌, ◌≤◌, ◌<◌}
use native.Mathlib.Nat.{not-suc-le-zero, zero-mul, suc-mul, add-zero}
use native.Mathlib.Omega.{arith}
use borrow.Author.Tests.{leb-true}
use lib.Dec.{leb}
use lib.ListN.{length, drop, get_or, length-append, length-drop}
use lib.Seq.{drop_at, drop-drop}
use Rattle.rules.specs.Outcome.{Outcome, done, refused}
use Rattle.rules.specs.Lists.{Bytes, all}
use Rattle.rules.specs.Values.{Format, with_length_byte}
use Rattle.rules.specs.Table.{Field}
use Rattle.rules.specs.Use.{plain}
use Rattle.rules.specs.Record.{Reader, times, each, counted, stored_value, stored_cell}
use Rattle.rules.proofs.Steps.{done_inj, not_done, by_test, by_outcome}
use Rattle.records.specs.Counts.{has_count}
use Rattle.records.specs.Walk.{rest_of, Walked, Ends}
use Rattle.records.specs.Paths.{lengths}
use Rattle.records.proofs.Entries.{never}
use Rattle.records.proofs.Walks.{walked_as, times_turn, times_stop, each_turn, each_stop, not_counted}
use Rattle.records.proofs.Ends.{count_some, count_there, count_none}
use Rattle.records.proofs.Cells.{byte_there, value_first, value_length}

pub from_rest : {X C : Type 0} (o : Outcome (X × Bytes)) {rest : Bytes} → rest_of o ≡ done rest → ((x : X) → o ≡ done (x, rest) → C) → C
from_rest (done x) q k = k x.0 (ap (λ (r : Bytes). done (x.0, r)) (done_inj q))
from_rest (refused n) q k = absurd (not_done q)

-- The first of several readers comes to an end where all do.
times_ends : {X : Type 0} (one : Reader X) (n : ℕ) (bs : Bytes) → Ends (rest_of (times (suc n) one bs)) → Ends (rest_of (one bs))
times_ends one n bs e = by_outcome (rest_of (one bs)) (λ cs h. (cs, h)) (λ k h. absurd (not_done (sym (times_stop one n bs h) ∙ e.1)))

each_ends : {X Y : Type 0} (one : Y → Reader X) (y : Y) (ys : List Y) (bs : Bytes) → Ends (rest_of (each one (y ∷ ys) bs)) → Ends (rest_of (one y bs))
each_ends one y ys bs e = by_outcome (rest_of (one y bs)) (λ cs h. (cs, h)) (λ k h. absurd (not_done (sym (each_stop one y ys bs h) ∙ e.1)))

-- What is counted stands after its count; what is not counted stands there once.
module _ {X : Type 0} (one : Reader X) where
  pub counted_ends : (b : Bytes) (at : ℕ) → Ends (rest_of (counted true one (drop at b)))
      → (at < length b) × (rest_of (counted true one (drop at b)) ≡ rest_of (times (get_or b at 0) one (drop (at + 1) b)))
  counted_ends b at e = by_test (has_count b at)
      (λ t. ((count_some b at t).0, count_there one b at t))
      (λ t. absurd (not_done (sym (count_none one b at t) ∙ e.1)))

  pub counted_one : (bs : Bytes) → counted false one bs ≡ times 1 one bs
  unfolding counted
  counted_one bs = refl

-- A value of w bytes.
value_walked : (f : Format) (size : ℕ) (b : Bytes) (p w : ℕ) → p ≤ length b → Ends (rest_of (stored_value f size (drop p b)))
    → ((v rest : Bytes) → stored_value f size (drop p b) ≡ done (v, rest) → length v ≡ w) → Walked b (rest_of (stored_value f size (drop p b))) (Some (p + w))
value_walked f size b p w h e long = from_rest (stored_value f size (drop p b)) e.1 λ v q.
    value_first f size (drop p b) q λ c h₁ t e₁ i s.
    let l = long v e.0 q in
    record {
      answer = ap done (sym (drop-drop w p b) ∙ ap (drop w) s ∙ drop_at v e.0 w l) ∙ sym e.1;
      place = omega (arith, ap length s, length-append v e.0, length-drop p b);
    }

-- A value with a length byte.
counted_byte : {C : Type 0} (f : Format) (b : Bytes) (p : ℕ) (v rest : Bytes) → stored_value f 0 (drop p b) ≡ done (v, rest) → (p < length b → length v ≡ get_or b p 0 → C) → C
unfolding with_length_byte
counted_byte f b p v rest q k = value_first f 0 (drop p b) q λ c h t e i s.
    let x = byte_there b p (s ∙ ap (λ (u : Bytes). u ++ rest) e) in k x.0 (ap length e ∙ sym x.1)

pub value_skipped : (f : Format) (size : ℕ) → size ≤ 0 → (b : Bytes) (p : ℕ) → p ≤ length b → Ends (rest_of (stored_value f size (drop p b)))
    → (p < length b) × Walked b (rest_of (stored_value f size (drop p b))) (Some (p + get_or b p 0))
value_skipped f zero none b p h e = (
  from_rest (stored_value f 0 (drop p b)) e.1 λ v q. counted_byte f b p v e.0 q λ i l. i,
  value_walked f 0 b p (get_or b p 0) h e (λ v rest q. counted_byte f b p v rest q λ i l. l),
)
value_skipped f (suc m) none b p h e = absurd (not-suc-le-zero none)

-- So many values of a standard length.
pub values_skipped : (f : Format) (size : ℕ) → 0 < size → (n : ℕ) (b : Bytes) (p : ℕ) → p ≤ length b → Ends (rest_of (times n (stored_value f size) (drop p b)))
    → Walked b (rest_of (times n (stored_value f size) (drop p b))) (Some (p + n * size))
unfolding times
values_skipped f zero less n b p h e = absurd (not-suc-le-zero less)
values_skipped f (suc m) less zero b p h e = rw (zero-mul (suc m), add-zero p) (record { answer = refl; place = h })
values_skipped f (suc m) less (suc n) b p h e =
    let one = times_ends (stored_value f (suc m)) n (drop p b) e in
    let w = value_walked f (suc m) b p (suc m) h one (λ v rest q. value_length f m (drop p b) q) in
    let t = times_turn (stored_value f (suc m)) n (drop p b) (sym w.answer) in
    let z : p + suc n * suc m ≡ p + suc m + n * suc m = rw (suc-mul n (suc m)) (omega arith) in
    rw z (walked_as t (values_skipped f (suc m) less n b (p + suc m) w.place (e.0, sym t ∙ e.1)))

sized_walked : (f : Format) (size : ℕ) → 1 ≤ size → (b : Bytes) (p : ℕ) → p ≤ length b → Ends (rest_of (stored_value f size (drop p b)))
    → Walked b (rest_of (stored_value f size (drop p b))) (Some (p + size))
sized_walked f zero some b p h e = absurd (not-suc-le-zero some)
sized_walked f (suc m) some b p h e = value_walked f (suc m) b p (suc m) h e (λ v rest q. value_length f m (drop p b) q)

-- The cells of plain fields.
pub plain_both : {C : Type 0} (mu : Bool) (size : ℕ) (more : Bool) → ((not mu && leb 1 size) && more) ≡ true → (mu ≡ false → 1 ≤ size → more ≡ true → C) → C
plain_both true size more h k = absurd (never refl h)
plain_both false size more h k = by_test (leb 1 size) (λ t. k refl (leb-true 1 size t) (rw t at h)) (λ t. absurd (never (ap (λ u. u && more) t) h))

cell_once : {X : Type 0} (mu : Bool) (one : Reader X) (b : Bytes) (p : ℕ) → mu ≡ false → rest_of (counted mu one (drop p b)) ≡ rest_of (one (drop p b))
cell_once true one b p h = absurd (never h refl)
cell_once false one b p h = not_counted one b p

pub fields_skipped : (fs : List Field) → all plain fs ≡ true → (b : Bytes) (p : ℕ) → p ≤ length b → Ends (rest_of (each stored_cell fs (drop p b)))
    → Walked b (rest_of (each stored_cell fs (drop p b))) (Some (p + lengths fs))
unfolding each all plain lengths stored_cell
fields_skipped [] t b p h e = rw (add-zero p) (record { answer = refl; place = h })
fields_skipped (f ∷ fs) t b p h e = plain_both f.multiple f.size (all plain fs) t λ mu size more.
    let c = cell_once f.multiple (stored_value f.format f.size) b p mu in
    let one = each_ends stored_cell f fs (drop p b) e in
    let w = sized_walked f.format f.size size b p h (one.0, sym c ∙ one.1) in
    let r = each_turn stored_cell f fs (drop p b) (c ∙ sym w.answer) in
    let z : p + (f.size + lengths fs) ≡ p + f.size + lengths fs = omega arith in
    rw z (walked_as r (fields_skipped fs more b (p + f.size) w.place (e.0, sym r ∙ e.1)))
