-- What is left of a format after its first element, by what the element means: a refusal stands unless what is left is refused before it, and items come off the front.
use Rattle.std.specs.Prelude.{Err, Ok, Result}
use mathlib.Core.Path.{◌≡◌, refl, ap, ◌∙◌}
use mathlib.Core.Bool.{Bool}
use mathlib.Core.List.{List, [], ◌∷◌, ◌++◌}
use Prim.Native.Nat.{ℕ, ◌-◌, ◌≤◌}
use native.Mathlib.Omega.{arith}
use lib.ListN.{length}
use Rattle.rules.specs.Outcome.{Outcome, done, refused, ◌>>=◌}
use Rattle.rules.specs.Outcome as outcome
use Rattle.rules.specs.Lists.{Bytes, join}
use Rattle.rules.specs.Table.{Part, Entry, parts}
use Rattle.rules.specs.Record.{Record}
use Rattle.rules.specs.Format as rules
use Rattle.rules.specs.Use.{Indexes, indexes_after, Item}
use Rattle.rules.specs.Last.{Meaning, Counts, Lasts, lasts_after, meaning_of, meanings, counts_in, use_resolved, items_read}
use Rattle.rules.specs.Services.{filled}
use Rattle.rules.specs.declared.Refusal.{Refusal}
use Rattle.rules.specs.Numbers.{refusal}
use Rattle.format_buffer.specs.Syntax.{element_before}
use Rattle.filling.specs.Filling.{Filling, Continues}
use Rattle.reading.specs.Scan.{Progress, filled_upto, left_of}
use Rattle.filling.proofs.Continues.{outcome_before, continues_start, continues_on, continues_both_off, put_off, put_unwritten, room_left}
use Rattle.reading.proofs.Items.{items_on, filled_on, filled_off}

-- The items of one meaning, and of none or of some more after it.
abbrev items_of : List Part → Counts → Meaning → List Item
items_of ps c m = use_resolved ps c m.occurrences m.values m.meant

pub no_items : (ps : List Part) (c : Counts) → items_read ps c [] ≡ []
unfolding items_read join
no_items ps c = refl

first_items : (ps : List Part) (c : Counts) (m : Meaning) (ms : List Meaning) → items_read ps c (m ∷ ms) ≡ items_of ps c m ++ items_read ps c ms
unfolding items_read join
first_items ps c m ms = refl

pub no_meanings : (es : List Entry) (ls : Indexes) (ns : Lasts) → meanings es ls ns [] ≡ done []
unfolding meanings
no_meanings es ls ns = refl

-- A refusal n stands, unless there is one before it; what is done to what is not refused does not change that.
abbrev unless : {A : Type 0} → Outcome A → outcome.Refusal → outcome.Refusal
unless (done a) n = n
unless (refused k) n = k

unless_then : {A B : Type 0} (o : Outcome A) (g : A → B) (n : outcome.Refusal) → unless (o >>= λ a. done (g a)) n ≡ unless o n
unless_then (done a) g n = refl
unless_then (refused k) g n = refl

refused_then : {A B : Type 0} (o : Outcome A) (n : outcome.Refusal) → ◌≡◌ {A = Outcome B} (o >>= λ a. refused n) (refused (unless o n))
refused_then (done a) n = refl
refused_then (refused k) n = refl

-- The meaning of an element before some more.
module _ (es : List Entry) (ls : Indexes) (ns : Lasts) (x : rules.Element) where
  before_refused : (o : Outcome (List rules.Element)) (n : outcome.Refusal) → refused n ≡ meaning_of es ls ns x → (element_before x o >>= meanings es ls ns) ≡ refused (unless o n)
  unfolding meanings
  before_refused (done xs) n e = rw (← e) refl
  before_refused (refused k) n e = refl

  before_done : (o : Outcome (List rules.Element)) (m : Meaning) → done m ≡ meaning_of es ls ns x
      → (element_before x o >>= meanings es ls ns) ≡ (o >>= meanings es (indexes_after m.meant ls) (lasts_after m ns) >>= λ ms. done (m ∷ ms))
  unfolding meanings
  before_done (done xs) m e = rw (← e) refl
  before_done (refused k) m e = refl

-- The items of a meaning before those of some more.
module _ (ps : List Part) (r : Record) (room : ℕ) (m : Meaning) where
  abbrev counts : Counts
  counts = counts_in ps r

  used_on : (o : Outcome (List Meaning)) (a : Bytes) → filled ps r room (items_of ps counts m) ≡ done a
      → (o >>= (λ ms. done (m ∷ ms)) >>= λ ms. filled ps r room (items_read ps counts ms)) ≡ outcome_before a (o >>= λ ms. filled ps r (room - length a) (items_read ps counts ms))
  used_on (done ms) a h = ap (filled ps r room) (first_items ps counts m ms) ∙ filled_on ps r room (items_of ps counts m) (items_read ps counts ms) a h
  used_on (refused k) a h = refl

  used_off : (o : Outcome (List Meaning)) (k : outcome.Refusal) → filled ps r room (items_of ps counts m) ≡ refused k
      → (o >>= (λ ms. done (m ∷ ms)) >>= λ ms. filled ps r room (items_read ps counts ms)) ≡ refused (unless o k)
  used_off (done ms) k h = ap (filled ps r room) (first_items ps counts m ms) ∙ filled_off ps r room (items_of ps counts m) (items_read ps counts ms) k h
  used_off (refused j) k h = refl

-- What is left, where something is refused.
module _ (es : List Entry) (r : Record) (end : ℕ) (ls : Indexes) (ns : Lasts) where
  -- What is filled in the room that is left.
  abbrev filling : ℕ → List Meaning → Outcome Bytes
  filling room ms = filled (parts es) r room (items_read (parts es) (counts_in (parts es) r) ms)

  left_refused : (xs : Outcome (List rules.Element)) (n : Refusal) → left_of es r end ls ns xs (Err n) ≡ refused (unless xs (refusal n))
  unfolding left_of
  left_refused xs n = refused_then xs (refusal n)

  pub left_bad : (s : Progress) (n : outcome.Refusal) → left_of es r end ls ns (refused n) s ≡ refused n
  unfolding left_of
  left_bad (Ok (Ok p)) n = refl
  left_bad (Ok (Err k)) n = refl
  left_bad (Err k) n = refl

  -- The element x comes first, and the elements xs after it.
  module _ (x : rules.Element) (xs : Outcome (List rules.Element)) where
    -- One that is not looked at, since one before it is refused.
    pub passed : (n : Refusal) {write : Bool} {out : Bytes} → Continues (left_of es r end ls ns (element_before x xs) (Err n)) (left_of es r end ls ns xs (Err n)) 0 0 write out out
    passed n = continues_both_off (unless xs (refusal n)) (left_refused (element_before x xs) n ∙ ap refused (unless_then xs (λ ys. x ∷ ys) (refusal n))) (left_refused xs n) refl (λ e. refl)

    -- One that is refused.
    module _ (n : Refusal) (h : refused (refusal n) ≡ meaning_of es ls ns x) where
      before_off : (items : Result ℕ Refusal) → left_of es r end ls ns (element_before x xs) (Ok items) ≡ refused (unless xs (refusal n))
      unfolding left_of
      before_off (Ok p) = ap (λ o. o >>= filling (end - p)) (before_refused es ls ns x xs (refusal n) h)
      before_off (Err m) = ap (λ (o : Outcome (List Meaning)). o >>= λ ms. refused (refusal m)) (before_refused es ls ns x xs (refusal n) h)

      pub refused_use : (items : Result ℕ Refusal) (ls' : Indexes) (ns' : Lasts) {write : Bool} {out : Bytes}
          → Continues (left_of es r end ls ns (element_before x xs) (Ok items)) (left_of es r end ls' ns' xs (Err n)) (filled_upto (Ok items)) 0 write out out
      unfolding left_of
      refused_use items ls' ns' = continues_both_off (unless xs (refusal n)) (before_off items) (refused_then xs (refusal n)) refl (λ e. refl)

    -- One that means m.
    module _ (m : Meaning) (h : done m ≡ meaning_of es ls ns x) where
      abbrev more : Outcome (List Meaning)
      more = xs >>= meanings es (indexes_after m.meant ls) (lasts_after m ns)

      -- After an item that is refused.
      pub used_after : (n : Refusal) {write : Bool} {out : Bytes} → Continues (left_of es r end ls ns (element_before x xs) (Ok (Err n))) (left_of es r end (indexes_after m.meant ls) (lasts_after m ns) xs (Ok (Err n))) 0 0 write out out
      unfolding left_of
      used_after k =
          let n = refusal k in
          continues_both_off (unless more n)
          (refused_then (element_before x xs >>= meanings es ls ns) n ∙ ap (λ o. refused (unless o n)) (before_done es ls ns x xs m h) ∙ ap refused (unless_then more (λ ms. m ∷ ms) n))
          (refused_then more n) refl (λ e. refl)

      before_used : (p : ℕ) → left_of es r end ls ns (element_before x xs) (Ok (Ok p)) ≡ (more >>= (λ ms. done (m ∷ ms)) >>= filling (end - p))
      unfolding left_of
      before_used p = ap (λ o. o >>= filling (end - p)) (before_done es ls ns x xs m h)

      module _ {p : ℕ} {write : Bool} {out out' : Bytes} {z : (Result ℕ Refusal)} (g : Filling (filled (parts es) r (end - p) (items_of (parts es) (counts_in (parts es) r) m)) p write out out' z) (fits : p ≤ end) (room : end ≤ length out) where
        pub used_at : (p' : ℕ) → z ≡ Ok p' → Continues (left_of es r end ls ns (element_before x xs) (Ok (Ok p))) (left_of es r end (indexes_after m.meant ls) (lasts_after m ns) xs (Ok (Ok p'))) p p' write out out'
        unfolding left_of
        used_at p' q = items_on (parts es) r end (items_of (parts es) (counts_in (parts es) r) m) g fits p' q λ a k n l c.
            let o = before_used p ∙ used_on (parts es) r (end - p) m more a k ∙ ap (λ w. outcome_before a (more >>= filling w)) (room_left end p p' (length a) n l) in
            continues_on (continues_start (left_of es r end ls ns (element_before x xs) (Ok (Ok p))) p write out) g.same a (left_of es r end (indexes_after m.meant ls) (lasts_after m ns) xs (Ok (Ok p'))) p' o n (omega arith) c

        pub used_refused : (k : Refusal) → z ≡ Err k → Continues (left_of es r end ls ns (element_before x xs) (Ok (Ok p))) (left_of es r end (indexes_after m.meant ls) (lasts_after m ns) xs (Ok (Err k))) p 0 write out out'
        unfolding left_of
        used_refused k q =
            let n = refusal k in
            continues_both_off (unless more n) (before_used p ∙ used_off (parts es) r (end - p) m more n (put_off g k q)) (refused_then more n) g.same (put_unwritten g)

-- Items end within their room.
pub used_within : (es : List Entry) (r : Record) (end : ℕ) (xs : List Item) {p : ℕ} {write : Bool} {out out' : Bytes} {m : (Result ℕ Refusal)} → Filling (filled (parts es) r (end - p) xs) p write out out' m
    → p ≤ end → (p' : ℕ) → m ≡ Ok p' → p' ≤ end
used_within es r end xs g fits p' q = items_on (parts es) r end xs g fits p' q λ a k n l c. l
