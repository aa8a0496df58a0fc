-- What readers one after the other took, each at its place: an occurrence of a part, a member of an occurrence, a value of a cell.
use mathlib.Core.Path.{◌≡◌, refl, sym, ◌∙◌, ap}
use mathlib.Core.Bool.{true, false}
use mathlib.Core.List.{List, [], ◌∷◌, ◌++◌}
use mathlib.Core.Option.{none}
use Prim.Native.Nat.{ℕ, zero, suc, ◌≤◌, ◌<◌}
use native.Mathlib.Nat.{not-suc-le-zero, le_of_suc-le-suc}
use native.Mathlib.Omega.{arith}
use lib.Dec.{eqb}
use lib.ListN.{length, take, drop, get_or}
use Rattle.rules.specs.Outcome.{Outcome, done, ◌>>=◌}
use Rattle.rules.specs.Limits.{greatest_count}
use Rattle.rules.specs.Lists.{Bytes}
use Rattle.rules.specs.Values.{Format, first_value, content, with_length_byte, in_normal_form}
use Rattle.rules.specs.Table.{Field, member}
use Rattle.rules.specs.Record.{Cell, Occurrence, Reader, times, stored_count, count_bytes, counted, each, stored_value, stored_cell, cell_of}
use Rattle.rules.proofs.Steps.{from_bind, from_need, from_as, from_done, not_some, by_test, T_true}
use Rattle.rules.proofs.Readers.{count_sound, cut_sound, value_sound}

-- The first of several, and the others after it.
abbrev first_and : {X : Type 0} → Outcome (X × Bytes) → Reader (List X) → Outcome (List X × Bytes)
first_and first others = do
  x ← first
  xs ← others x.1
  done (x.0 ∷ xs.0, xs.1)

from_both : {X C : Type 0} (first : Outcome (X × Bytes)) (others : Reader (List X)) {rest : Bytes} {xs : List X} → first_and first others ≡ done (xs, rest)
    → ((x : X) (ys : List X) (mid : Bytes) → xs ≡ x ∷ ys → first ≡ done (x, mid) → others mid ≡ done (ys, rest) → C) → C
from_both first others p k =
    from_bind first _ p λ x h k₁.
    from_bind (others x.1) _ k₁ λ ys h₂ k₂.
    from_done k₂ λ e f. k x.0 ys.0 x.1 (sym e) h (rw f at h₂)

pub times_first : {X C : Type 0} (one : Reader X) (n : ℕ) (bs : Bytes) {rest : Bytes} {xs : List X} → times (suc n) one bs ≡ done (xs, rest)
    → ((x : X) (ys : List X) (mid : Bytes) → xs ≡ x ∷ ys → one bs ≡ done (x, mid) → times n one mid ≡ done (ys, rest) → C) → C
unfolding times
times_first one n bs p k = from_both (one bs) (times n one) p k

pub each_first : {X Y C : Type 0} (one : Y → Reader X) (y : Y) (ys : List Y) (bs : Bytes) {rest : Bytes} {xs : List X} → each one (y ∷ ys) bs ≡ done (xs, rest)
    → ((x : X) (zs : List X) (mid : Bytes) → xs ≡ x ∷ zs → one y bs ≡ done (x, mid) → each one ys mid ≡ done (zs, rest) → C) → C
unfolding each
each_first one y ys bs p k = from_both (one y bs) (each one ys) p k

pub times_none : {X : Type 0} (one : Reader X) (bs : Bytes) {rest : Bytes} {xs : List X} → times 0 one bs ≡ done (xs, rest) → (xs ≡ []) × (bs ≡ rest)
unfolding times
times_none one bs p = from_done p λ e f. (sym e, f)

pub times_length : {X : Type 0} (one : Reader X) (n : ℕ) (bs : Bytes) {rest : Bytes} {xs : List X} → times n one bs ≡ done (xs, rest) → length xs ≡ n
times_length one zero bs p = ap length (times_none one bs p).0
times_length one (suc n) bs p = times_first one n bs p λ x ys mid e h t. rw e (ap suc (times_length one n mid t))

-- Number k of n: it stands after the k before it.
pub times_at : {X C : Type 0} (one : Reader X) (d : X) (n k : ℕ) (bs : Bytes) {rest : Bytes} {xs : List X} → k < n → times n one bs ≡ done (xs, rest)
    → ((mid next : Bytes) → times k one bs ≡ done (take k xs, mid) → one mid ≡ done (get_or xs k d, next) → C) → C
unfolding times
times_at one d zero k bs l p c = absurd (not-suc-le-zero l)
times_at one d (suc n) zero bs l p c = times_first one n bs p λ x ys mid e h t. c bs mid refl (rw e h)
times_at one d (suc n) (suc k) bs l p c = times_first one n bs p λ x ys mid e h t.
    times_at one d n k mid (le_of_suc-le-suc l) t λ m next h₁ h₂. c m next (rw (e, h, h₁) refl) (rw e h₂)

-- What is counted stands after its count; what is not counted stands there once.
pub counted_many : {X C : Type 0} (one : Reader X) (bs : Bytes) {rest : Bytes} {xs : List X} → counted true one bs ≡ done (xs, rest)
    → ((tail : Bytes) → bs ≡ length xs ∷ tail → length xs ≤ greatest_count → times (length xs) one tail ≡ done (xs, rest) → C) → C
unfolding counted count_bytes
counted_many one bs p c =
    from_bind (stored_count bs) _ p λ n h k.
    let (m, s) = count_sound bs n.0 n.1 h in
    let l = times_length one n.0 n.1 k in
    c n.1 (rw l s) (rw l m) (rw l k)

pub counted_once : {X C : Type 0} (one : Reader X) (bs : Bytes) {rest : Bytes} {xs : List X} → counted false one bs ≡ done (xs, rest)
    → ((x : X) → xs ≡ x ∷ [] → one bs ≡ done (x, rest) → C) → C
unfolding counted
counted_once one bs p c = times_first one 0 bs p λ x ys mid e h t.
    let (z, s) = times_none one mid t in c x (e ∙ rw z refl) (h ∙ rw s refl)

-- The first member with the name n: it stands after the members before it, and the cell of n is what it took.
pub members_at : {C : Type 0} (n : ℕ) (ms₁ : List Field) (f : Field) (ms₂ : List Field) (bs : Bytes) {rest : Bytes} {cs : Occurrence}
    → member n ms₁ ≡ none → eqb f.name n ≡ true → each stored_cell (ms₁ ++ f ∷ ms₂) bs ≡ done (cs, rest)
    → ((cs₁ : Occurrence) (mid next : Bytes) → each stored_cell ms₁ bs ≡ done (cs₁, mid) → stored_cell f mid ≡ done (cell_of n (ms₁ ++ f ∷ ms₂) cs, next) → C) → C
unfolding each member cell_of
members_at n [] f ms₂ bs m q p c = each_first stored_cell f ms₂ bs p λ x zs mid e h t. c [] bs mid refl (rw (e, q) h)
members_at n (g ∷ ms₁) f ms₂ bs m q p c = each_first stored_cell g (ms₁ ++ f ∷ ms₂) bs p λ x zs mid e h t.
    by_test (eqb g.name n) (λ y. absurd (not_some (sym (rw (y, member) at m)))) λ y.
    members_at n ms₁ f ms₂ mid (rw (y, member) at m) q t λ cs₁ mid₁ next h₁ h₂. c (x ∷ cs₁) mid₁ next (rw (h, h₁) refl) (rw (e, y, cell_of) h₂)

-- A cell of an MU field stands after its count; another is its one value.
module _ {C : Type 0} (n : ℕ) (f : Format) (s : ℕ) (bs : Bytes) {rest : Bytes} {vs : Cell} where
  pub cell_many : stored_cell (record { name = n; format = f; size = s; multiple = true }) bs ≡ done (vs, rest)
      → ((tail : Bytes) → bs ≡ length vs ∷ tail → length vs ≤ greatest_count → times (length vs) (stored_value f s) tail ≡ done (vs, rest) → C) → C
  unfolding stored_cell
  cell_many p = counted_many (stored_value f s) bs p

  pub cell_once : stored_cell (record { name = n; format = f; size = s; multiple = false }) bs ≡ done (vs, rest)
      → ((v : Bytes) → vs ≡ v ∷ [] → stored_value f s bs ≡ done (v, rest) → C) → C
  unfolding stored_cell
  cell_once p = counted_once (stored_value f s) bs p

not_nil : {x : ℕ} {xs : Bytes} → ◌≡◌ {A = Bytes} [] (x ∷ xs) → ⊥
not_nil p = let z : ◌≡◌ {A = ℕ} 0 1 = cc in omega arith

-- The byte at a place, where the bytes from there on are known.
pub byte_there : (b : Bytes) (at : ℕ) {x : ℕ} {tail : Bytes} → drop at b ≡ x ∷ tail → (at < length b) × (get_or b at 0 ≡ x) × (tail ≡ drop (suc at) b)
byte_there [] zero p = absurd (not_nil p)
byte_there [] (suc at) p = absurd (not_nil p)
byte_there (y ∷ b) zero p = (omega arith, cc, cc)
byte_there (y ∷ b) (suc at) p = let (l, g, t) = byte_there b at p in (omega arith, g, t)

content_back : (n : ℕ) (c : Bytes) → content n (with_length_byte n c) ≡ c
unfolding content with_length_byte
content_back zero c = refl
content_back (suc n) c = refl

-- A value: its bytes in normal form, with their length byte where it has one.
pub value_first : {C : Type 0} (f : Format) (n : ℕ) (bs : Bytes) {v rest : Bytes} → stored_value f n bs ≡ done (v, rest)
    → ((c : Bytes) → first_value n bs ≡ done (c, rest) → in_normal_form f n c ≡ true → v ≡ with_length_byte n c → content n v ≡ c → bs ≡ v ++ rest → C) → C
unfolding stored_value
value_first f n bs {v} {rest} p c =
    from_as 2 (first_value n bs) _ p λ r h k.
    from_need (in_normal_form f n r.0) 2 _ k λ t k₂.
    from_done k₂ λ e g.
    c r.0 (h ∙ rw g refl) (T_true (in_normal_form f n r.0) t) (sym e) (ap (content n) (sym e) ∙ content_back n r.0) (value_sound f n bs v rest p)

-- A value of a fixed length is as long.
module _ (f : Format) (m : ℕ) where
  pub value_length : (bs : Bytes) {v rest : Bytes} → stored_value f (suc m) bs ≡ done (v, rest) → length v ≡ suc m
  unfolding first_value with_length_byte
  value_length bs {v} {rest} p = value_first f (suc m) bs p λ c h t e b s. rw e (cut_sound 7 (suc m) bs c rest h).0
