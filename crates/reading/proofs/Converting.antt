-- A loop over values that stand in the bytes, each converted: what is left of them, from where it stands, ends and writes as all of them do.
use Rattle.std.specs.Prelude.{Err, Ok, Result}
use mathlib.Core.Path.{◌≡◌, refl, sym, ◌∙◌, ap, subst}
use mathlib.Core.Bool.{Bool, true}
use mathlib.Core.List.{List, [], ◌∷◌, map}
use Prim.Native.Nat.{ℕ, suc, ◌+◌, ◌-◌, ◌≤◌, ◌<◌}
use native.Mathlib.Omega.{arith}
use lib.ListN.{length, take, drop, length-take, length-drop}
use Rattle.rules.specs.Outcome.{Outcome, done, with_needed, is_done}
use Rattle.rules.specs.Lists.{Bytes}
use Rattle.rules.specs.Values.{allowed, meaning, converted_bytes, smallest_length, read_value, first_value}
use Rattle.rules.specs.Record.{times, stored_value}
use Rattle.rules.specs.Numbers.{refusal}
use Rattle.rules.specs.declared.Refusal.{Refusal}
use Rattle.rules.proofs.Steps.{from_done}
use Rattle.value_formats.specs.Formats.{format_at}
use Rattle.values.specs.Places.{Located}
use Rattle.values.specs.Fits.{Convertible}
use Rattle.values.proofs.Meant.{form_means}
use Rattle.records.specs.Places.{ContentOf}
use Rattle.records.proofs.Cells.{times_first, times_none, value_first}
use Rattle.records.proofs.Contents.{content_found, content_none}
use Rattle.records.proofs.Normals.{first_at}
use Rattle.filling.specs.Filling.{in_room, Filling, Continues, together}
use Rattle.reading.specs.Cells.{Wants, converted_to, Stand}
use Rattle.reading.specs.declared.cells.Wanted.{Wanted}
use Rattle.filling.proofs.Continues.{continues_end, turn, turn_within, stop}
use Rattle.filling.proofs.Together.{together_one}
use Rattle.filling.proofs.Held.{read_at, read_refused}

pub record Converting (w : Wanted) (b : Bytes) (end n : ℕ) (us : List Bytes) (i q start at : ℕ) (write : Bool) (out₀ out : Bytes) : Type 0 where
  pub left : List Bytes
  pub stand : Stand w b q (n - i) left
  pub place : q ≤ length b
  pub fits : at ≤ end
  pub room : end ≤ length out
  pub continues : Continues (together (end - start) (map (converted_to w) us)) (together (end - at) (map (converted_to w) left)) start at write out₀ out

-- The value that stands first of those that are left, between two places, and those after it.
pub record Ahead (w : Wanted) (b : Bytes) (us : List Bytes) (n from next : ℕ) : Type 0 where
  pub value : Bytes
  pub others : List Bytes
  pub is : us ≡ value ∷ others
  pub content : ContentOf (format_at w.own) w.standard b value from next
  pub means : is_done (meaning (format_at w.own) (take (next - from) (drop from b))) ≡ true
  pub stand : Stand w b next n others

module _ {w : Wanted} (h : Wants w) {b : Bytes} {end n : ℕ} {us : List Bytes} {i q start at : ℕ} {write : Bool} {out₀ out : Bytes}
    (g : Converting w b end n us i q start at write out₀ out) where
  module _ (more : i < n) {first : (Result (ℕ × ℕ) Refusal)} (f : Located b q (first_value w.standard (drop q b)) first) where
    next_there : {C : Type 0} → ((v mid : Bytes) (vs : List Bytes) → g.left ≡ v ∷ vs → stored_value (format_at w.own) w.standard (drop q b) ≡ done (v, mid)
        → times (n - (i + 1)) (stored_value (format_at w.own) w.standard) mid ≡ done (vs, g.stand.0) → C) → C
    next_there k =
        let e : n - i ≡ suc (n - (i + 1)) = omega arith in
        times_first (stored_value (format_at w.own) w.standard) (n - (i + 1)) (drop q b) (rw e at g.stand.1) λ v vs mid l p t. k v mid vs l p t

    pub convert_ahead : {from next : ℕ} → first ≡ Ok (from, next) → Ahead w b g.left (n - (i + 1)) from next
    convert_ahead {from} {next} e = next_there λ v mid vs l p t.
        value_first (format_at w.own) w.standard (drop q b) p λ c c₂ c₃ c₄ c₅ c₆.
        from_done (sym c₂ ∙ (first_at f e).0) λ same after. record {
          value = v;
          others = vs;
          is = l;
          content = content_found b q w.standard f (format_at w.own) v mid h.standard p e;
          means = rw (← same) (form_means (format_at w.own) w.standard c c₃);
          stand = (g.stand.0, rw (← after) t);
        }

    pub convert_none : {k : Refusal} → first ≡ Err k → ⊥
    convert_none e = next_there λ v mid vs l p t. content_none b q w.standard f (format_at w.own) v mid h.standard p e

  module _ {from next : ℕ} (x : Ahead w b g.left (n - (i + 1)) from next) where
    value_long : allowed (format_at w.own) (length (take (next - from) (drop from b))) ≡ true
    value_long =
        let y = x.content in
        let e : length (take (next - from) (drop from b)) ≡ next - from = simp (length-take, length-drop) (omega (arith, y.ordered, y.inside)) in
        ap (allowed (format_at w.own)) e ∙ y.long

    pub value_asked : Convertible w.own w.format w.size (take (next - from) (drop from b))
    value_asked = record { size = value_long; length_there = h.size; value = x.means }

    module _ {out' : Bytes} {m : (Result ℕ Refusal)} (f : Filling (in_room (end - at) (converted_bytes (format_at w.own) (format_at w.format) w.size (take (next - from) (drop from b)))) at write out out' m) where
      put : {s : (Result ℕ Refusal)} → Filling (in_room (end - at) (read_value (format_at w.own) (format_at w.format) w.size (take (next - from) (drop from b)))) at write out out' s
          → Filling (together (end - at) (converted_to w x.value ∷ [])) at write out out' s
      put {s} q = subst (λ (o : Outcome Bytes). Filling o at write out out' s)
          (ap (λ (v : Bytes). in_room (end - at) (read_value (format_at w.own) (format_at w.format) w.size v)) (sym x.content.is) ∙ sym (together_one (end - at) (converted_to w x.value))) q

      parted : Continues (together (end - start) (map (converted_to w) us)) (together (end - at) (converted_to w x.value ∷ map (converted_to w) x.others)) start at write out₀ out
      parted = subst (λ (vs : List Bytes). Continues (together (end - start) (map (converted_to w) us)) (together (end - at) (map (converted_to w) vs)) start at write out₀ out) x.is g.continues

      pub convert_on : (at' : ℕ) → m ≡ Ok at' → Converting w b end n us (i + 1) next start at' write out₀ out'
      convert_on at' e =
          let q = put (read_at (format_at w.own) (format_at w.format) w.size _ (end - at) at f e) in
          let t = turn end (converted_to w x.value ∷ []) (map (converted_to w) x.others) parted q g.fits g.room at' refl in
          record {
            left = x.others;
            stand = x.stand;
            place = x.content.inside;
            fits = (turn_within end (converted_to w x.value ∷ []) (map (converted_to w) x.others) parted q g.fits g.room at' refl).1;
            room = omega (arith, t.same, g.continues.same, g.room);
            continues = t;
          }

      pub convert_off : {k : Refusal} → m ≡ Err k → (y : Refusal) → refusal y ≡ with_needed (smallest_length (format_at w.own) (format_at w.format) (take (next - from) (drop from b))) (refusal k)
          → Filling (together (end - start) (map (converted_to w) us)) start write out₀ out' (Err y)
      convert_off e y h =
          let q = put (read_refused (format_at w.own) (format_at w.format) w.size _ (end - at) at f e y h) in
          stop end (converted_to w x.value ∷ []) (map (converted_to w) x.others) parted q g.fits g.room y refl

  pub convert_end : n ≤ i → Filling (together (end - start) (map (converted_to w) us)) start write out₀ out (Ok at)
  convert_end over =
      let z : n - i ≡ 0 = omega arith in
      let e = (times_none (stored_value (format_at w.own) w.standard) (drop q b) (rw z at g.stand.1)).0 in
      continues_end (end - at) (subst (λ (vs : List Bytes). Continues (together (end - start) (map (converted_to w) us)) (together (end - at) (map (converted_to w) vs)) start at write out₀ out) e g.continues)
