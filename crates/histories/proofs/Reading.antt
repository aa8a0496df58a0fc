-- A read of one item: a value at its standard length and format reads as it is stored, and a count as a byte.
use mathlib.Core.Path.{◌≡◌, refl}
use mathlib.Core.List.{List, [], ◌∷◌, ◌++◌, append-nil}
use Prim.Native.Nat.{ℕ, zero, suc, ◌≤◌, min}
use lib.Dec.{leb, le→leb}
use lib.ListN.{length}
use Rattle.rules.specs.Outcome.{done}
use Rattle.rules.specs.Limits.{longest_items}
use Rattle.rules.specs.Lists.{Bytes}
use Rattle.rules.specs.Values.{first_value, content, with_length_byte, in_normal_form, converted_bytes}
use Rattle.rules.specs.Table.{Field, Entry, table, parts}
use Rattle.rules.specs.Record.{Record, stored, stored_value}
use Rattle.rules.specs.Format.{elements}
use Rattle.rules.specs.Use.{Item, uses}
use Rattle.rules.specs.Last.{counts_in}
use Rattle.rules.specs.Services.{item_bytes, filled, read}
use Rattle.rules.proofs.Steps.{from_bind, from_need, from_as, from_done, done_inj, need_true, T_true}
use Rattle.rules.proofs.Back.{Stored}
use Rattle.rules.proofs.Lasts.{no_N_yet, plain_meanings, written_items}
use Rattle.values.proofs.Meant.{converted_itself}
use Rattle.histories.specs.History.{items_by, Reads}

filled_one : (es : List Entry) (r : Record) (x : Item) (v : Bytes) (room : ℕ) → item_bytes (parts es) r x ≡ done v → length v ≤ room → filled (parts es) r room (x ∷ []) ≡ done v
unfolding filled
filled_one es r x v room e l = rw (e, need_true (leb (length v) room) 7 (le→leb (length v) room l), append-nil) refl

pub reads_item : (t b : Bytes) (es : List Entry) (r : Record) (f : Bytes) (x : Item) (v : Bytes) → table t ≡ done es → stored (parts es) b ≡ done r
    → items_by es f ≡ done (x ∷ []) → item_bytes (parts es) r x ≡ done v → Reads t b f v
unfolding items_by read
reads_item t b es r f x v is-table is-stored is-item e room l =
    from_bind (elements f) _ is-item λ xs h k.
    from_bind (uses es [] xs) _ k λ us h₂ k₂.
    rw (is-table, is-stored, h, plain_meanings es [] [] no_N_yet xs us h₂, written_items (parts es) (counts_in (parts es) r) us, done_inj k₂) (filled_one es r x v (min room longest_items) e l)

content_back : (n : ℕ) (c : Bytes) → content n (with_length_byte n c) ≡ c
unfolding content with_length_byte
content_back zero c = refl
content_back (suc n) c = refl

-- A value as it is stored, converted to its own format and length, is itself.
pub stored_itself : (f : Field) (v : Bytes) → Stored f v → converted_bytes f.format f.format f.size (content f.size v) ≡ done v
unfolding stored_value
stored_itself f v s =
    from_as 2 (first_value f.size (v ++ [])) _ (s []) λ r h k.
    from_need (in_normal_form f.format f.size r.0) 2 _ k λ t k₂.
    from_done k₂ λ e g.
    rw (← e, content_back f.size r.0) (converted_itself f.format f.size r.0 (T_true _ t))
