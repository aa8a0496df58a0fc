-- One value of the record buffer: it is not there, or it means nothing, or it is as its field stores it, or it is taken as its content is converted.
use Rattle.std.specs.Prelude.{Err, Ok, Result}
use mathlib.Core.Path.{◌≡◌, refl, sym, ◌∙◌, ap}
use mathlib.Core.Bool.{Bool, true, false}
use mathlib.Core.Logic.{◌⊎◌, ⊎_elim}
use mathlib.Core.List.{List, [], ◌∷◌}
use Prim.Native.Nat.{ℕ, zero, suc, ◌-◌, ◌≤◌, ◌<◌}
use native.Mathlib.Omega.{arith}
use lib.ListN.{length, take, drop, length-append, length-drop}
use lib.Seq.{take_at}
use Rattle.rules.specs.Outcome.{done, refused, by, ◌>>=◌, is_done}
use Rattle.rules.specs.Limits.{longest_alpha}
use Rattle.rules.specs.Lists.{Bytes}
use Rattle.rules.specs.Values.{meaning, first_value, with_length_byte, in_normal_form, converted_bytes}
use Rattle.rules.specs.Table.{Entry}
use Rattle.rules.specs.Use.{Asked}
use Rattle.rules.specs.Update.{Assignment}
use Rattle.rules.specs.declared.Refusal.{Refusal}
use Rattle.rules.proofs.Places.{spot}
use Rattle.rules.proofs.Ranges.{taking, item_at}
use Rattle.rules.proofs.Readers.{first_sound}
use Rattle.value_formats.specs.Formats.{format_at}
use Rattle.values.specs.Fits.{Convertible}
use Rattle.values.specs.Places.{Located}
use Rattle.values.proofs.Cuts.{first_content, found_content}
use Rattle.values.proofs.Converted.{bad_value, content_allowed}
use Rattle.values.proofs.Meant.{converted_itself}
use Rattle.taking.specs.Taking.{Gives, asked_given, given_bytes, Moved, Takes, Stages, StagedValue}
use Rattle.taking.specs.declared.value.Given.{Given}
use Rattle.taking.specs.declared.Taking.{Taking}

taking_one : (bare : Bool) (a : Asked) (o k : ℕ) (bs : Bytes) → taking (item_at bare a o k ∷ []) bs ≡ (do
  r ← first_value a.size bs
  w ← converted_bytes a.format a.field.format a.field.size r.0
  done (record { place = spot a o k; bare = bare; bytes = w } ∷ [], r.1))
unfolding taking
taking_one bare a o k bs = refl

-- A value takes a byte at least.
some_bytes : (n : ℕ) (bs c rest : Bytes) → first_value n bs ≡ done (c, rest) → 1 ≤ length (with_length_byte n c)
unfolding with_length_byte
some_bytes zero bs c rest e = omega arith
some_bytes (suc n) bs c rest e = ⊎_elim (λ z. absurd (omega (arith, z.0))) (λ q. omega (arith, q)) (first_content (suc n) bs c rest e)

shorter : (n : ℕ) (bs c rest : Bytes) → first_value n bs ≡ done (c, rest) → length rest < length bs
shorter n bs c rest e =
    omega (arith, some_bytes n bs c rest e, ap length (first_sound n bs c rest e), length-append (with_length_byte n c) rest)

-- What means nothing is refused.
pub value_bad : (g : Given) (content : Bytes) → is_done (meaning (format_at g.format) content) ≡ false → given_bytes g content ≡ refused (by 8)
value_bad g content m = bad_value (format_at g.format) (format_at g.own) g.standard content m

-- What is in normal form at its field's own format and length is given as it is.
pub value_normal : (g : Given) (content : Bytes) → g.format ≡ g.own → g.size ≡ g.standard
    → in_normal_form (format_at g.own) g.standard content ≡ true → given_bytes g content ≡ done (with_length_byte g.size content)
value_normal g content e z n =
    ap (λ f. converted_bytes (format_at f) (format_at g.own) g.standard content) e
    ∙ converted_itself (format_at g.own) g.standard content n
    ∙ ap (λ m. done (with_length_byte m content)) (sym z)

-- A value that was found from a place on.
module _ (buffer : Bytes) (g : Given) (at from next : ℕ)
    (l : Located buffer at (first_value g.size (drop at buffer)) (Ok (from, next))) where
  abbrev content : Bytes
  content = take (next - from) (drop from buffer)

  value_here : first_value g.size (drop at buffer) ≡ done (content, drop next buffer)
  value_here = sym l.answer

  pub value_place : (from ≤ next) × (next ≤ length buffer) × (at < next)
  value_place =
      let p = l.place in
      let n = shorter g.size (drop at buffer) content (drop next buffer) value_here in
      (p.1, p.2, omega (arith, p.2, n, length-drop at buffer, length-drop next buffer))

  -- It stands there with its length byte.
  pub value_bytes : take (next - at) (drop at buffer) ≡ with_length_byte g.size content
  value_bytes =
      let e = first_sound g.size (drop at buffer) content (drop next buffer) value_here in
      let w = with_length_byte g.size content in
      let n : length w ≡ next - at =
      omega (arith, value_place.1, value_place.2, ap length e, length-append w (drop next buffer), length-drop at buffer, length-drop next buffer) in
      ap (take (next - at)) e ∙ take_at w (drop next buffer) (next - at) n

  pub value_long : ((g.size ≡ 0) × (length content ≤ longest_alpha)) ⊎ (g.size ≡ length content)
  value_long = found_content buffer at g.size from next l

  pub value_asked : {es : List Entry} → Gives es g → is_done (meaning (format_at g.format) content) ≡ true → Convertible g.format g.own g.standard content
  value_asked gives m = record {
    size = content_allowed (format_at g.format) g.size (length content) gives.size value_long;
    length_there = gives.own_allowed;
    value = m;
  }

module _ (es : List Entry) (buffer : Bytes) (g : Given) (o k : ℕ) (s : Taking) where
  pub value_unfound : {v : (Result (ℕ × ℕ) Refusal)} → Located buffer s.at (first_value g.size (drop s.at buffer)) v
      → (list : List ℕ) (stage : Bytes) (x : Refusal) → v ≡ Err x
      → Takes es buffer (item_at g.bare (asked_given es g) o k ∷ []) s list list stage stage (Err x)
  value_unfound l list stage x q = record {
    same_list = refl;
    same_stage = refl;
    same_uses = λ j h. refl;
    moved = λ ws h. taking_one g.bare (asked_given es g) o k (drop s.at buffer) ∙ rw (← l.answer, q);
  }

  module _ (from next : ℕ) (l : Located buffer s.at (first_value g.size (drop s.at buffer)) (Ok (from, next))) (gives : Gives es g) where
    abbrev there : Bytes
    there = take (next - from) (drop from buffer)

    -- What the value gives, by its content.
    given_here : taking (item_at g.bare (asked_given es g) o k ∷ []) (drop s.at buffer)
        ≡ (given_bytes g there >>= λ w. done (record { place = spot (asked_given es g) o k; bare = g.bare; bytes = w } ∷ [], drop next buffer))
    given_here = taking_one g.bare (asked_given es g) o k (drop s.at buffer) ∙ rw (← l.answer, gives.own, gives.standard)

    pub value_staged : {list list' : List ℕ} {stage stage' : Bytes} {r : (Result Taking Refusal)} → Stages es buffer g o k there next s list list' stage stage' r
        → Takes es buffer (item_at g.bare (asked_given es g) o k ∷ []) s list list' stage stage' r
    value_staged {list' = list'} {stage' = stage'} {r = r} t = record { same_list = t.same_list; same_stage = t.same_stage; same_uses = t.same_uses; moved = λ ws h. moved r ws (t.moved ws h) }
      where
        moved : (r : Result Taking Refusal) (ws : List Assignment) → StagedValue es buffer g o k there next list' stage' ws r
            → Moved es buffer (item_at g.bare (asked_given es g) o k ∷ []) s.at list' stage' ws r
        moved (Ok u) ws x = (record { place = spot (asked_given es g) o k; bare = g.bare; bytes = x.0 } ∷ [], given_here ∙ rw (x.1, x.2), x.3)
        moved (Err y) ws x = given_here ∙ rw x
