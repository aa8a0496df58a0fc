-- A loop over items for whatever record the bytes hold, on which they may depend: its start, a turn that takes some items off the front, a stop and its end.
use Rattle.std.specs.Prelude.{Err, Ok, Result}
use mathlib.Core.Path.{◌≡◌, sym, ◌∙◌, ap, subst}
use mathlib.Core.Bool.{Bool}
use mathlib.Core.List.{List, [], ◌∷◌, ◌++◌, map, map-append}
use Prim.Native.Nat.{ℕ, ◌-◌, ◌≤◌}
use native.Mathlib.Omega.{arith}
use lib.ListN.{length}
use Rattle.rules.specs.Outcome.{Outcome}
use Rattle.rules.specs.Lists.{Bytes}
use Rattle.rules.specs.Table.{Part, Entry, parts}
use Rattle.rules.specs.Record.{Record}
use Rattle.rules.specs.Use.{Item}
use Rattle.rules.specs.Services.{item_bytes, filled}
use Rattle.rules.specs.declared.Refusal.{Refusal}
use Rattle.records.specs.Places.{IsRecord, HasRecord}
use Rattle.filling.specs.Filling.{Filling, in_room, Continues, together}
use Rattle.reading.specs.Spans.{Fills, FillsBy}
use Rattle.filling.proofs.Continues.{continues_start, continues_end, turn, turn_within, stop}
use Rattle.reading.proofs.Items.{filled_together}
use Rattle.filling.proofs.Together.{together_one}

pub record Running (es : List Entry) (b : Bytes) (places : List ℕ) (end : ℕ) (whole rest : Record → List Item) (start at : ℕ) (write : Bool) (out₀ out : Bytes) : Type 0 where
  pub holds : HasRecord es b places
  pub fits : at ≤ end
  pub room : end ≤ length out
  pub continues : (r : Record) → IsRecord es b places r → Continues (filled (parts es) r (end - start) (whole r)) (filled (parts es) r (end - at) (rest r)) start at write out₀ out

pub run_start : (es : List Entry) (b : Bytes) (places : List ℕ) (end : ℕ) (xs : Record → List Item) (at : ℕ) (write : Bool) (out : Bytes)
    → HasRecord es b places → at ≤ end → end ≤ length out → Running es b places end xs xs at at write out out
run_start es b places end xs at write out k h l = record {
  holds = k;
  fits = h;
  room = l;
  continues = λ r p. continues_start (filled (parts es) r (end - at) (xs r)) at write out;
}

-- Items one after the other, by their bytes.
filled_both : (es : List Entry) (r : Record) (room : ℕ) (xs ys : List Item)
    → filled (parts es) r room (xs ++ ys) ≡ together room (map (item_bytes (parts es) r) xs ++ map (item_bytes (parts es) r) ys)
filled_both es r room xs ys = filled_together (parts es) r (xs ++ ys) room ∙ ap (together room) (map-append (item_bytes (parts es) r) xs ys)

module _ {es : List Entry} {b : Bytes} {places : List ℕ} {end : ℕ} {whole rest : Record → List Item} {start at : ℕ} {write : Bool} {out₀ out : Bytes}
    (g : Running es b places end whole rest start at write out₀ out) where
  abbrev Left : Record → Outcome Bytes → Type 0
  Left r o = Continues (filled (parts es) r (end - start) (whole r)) o start at write out₀ out

  module _ (xs ys : Record → List Item) (e : (r : Record) → rest r ≡ xs r ++ ys r) where
    abbrev Parted : Record → Type 0
    Parted r = Left r (together (end - at) (map (item_bytes (parts es) r) (xs r) ++ map (item_bytes (parts es) r) (ys r)))

    parted : (r : Record) → IsRecord es b places r → Parted r
    parted r p = subst (Left r) (ap (filled (parts es) r (end - at)) (e r) ∙ filled_both es r (end - at) (xs r) (ys r)) (g.continues r p)

    module _ {out' : Bytes} {n : (Result ℕ Refusal)} (f : FillsBy es b places xs at end write out out' n) where
      put : (r : Record) → IsRecord es b places r → Filling (together (end - at) (map (item_bytes (parts es) r) (xs r))) at write out out' n
      put r p = subst (λ (o : Outcome Bytes). Filling o at write out out' n) (filled_together (parts es) r (xs r) (end - at)) (f r p)

      pub run_on : (at' : ℕ) → n ≡ Ok at' → Running es b places end whole ys start at' write out₀ out'
      run_on at' q =
          let r = g.holds.0 in
          let p = g.holds.1 in
          let t = turn end _ _ (parted r p) (put r p) g.fits g.room at' q in
          record {
            holds = g.holds;
            fits = (turn_within end _ _ (parted r p) (put r p) g.fits g.room at' q).1;
            room = omega (arith, t.same, (g.continues r p).same, g.room);
            continues = λ r p. subst (λ (o : Outcome Bytes). Continues (filled (parts es) r (end - start) (whole r)) o start at' write out₀ out')
                (sym (filled_together (parts es) r (ys r) (end - at'))) (turn end _ _ (parted r p) (put r p) g.fits g.room at' q);
          }

      pub run_off : (k : Refusal) → n ≡ Err k → FillsBy es b places whole start end write out₀ out' (Err k)
      run_off k q r p = stop end _ _ (parted r p) (put r p) g.fits g.room k q

  pub run_end : ((r : Record) → rest r ≡ []) → FillsBy es b places whole start end write out₀ out (Ok at)
  run_end e r p = continues_end (end - at) (subst (Left r) (ap (filled (parts es) r (end - at)) (e r) ∙ filled_together (parts es) r [] (end - at)) (g.continues r p))

-- One item in its room.
pub filled_one : (ps : List Part) (r : Record) (room : ℕ) (x : Item) → filled ps r room (x ∷ []) ≡ in_room room (item_bytes ps r x)
filled_one ps r room x = filled_together ps r (x ∷ []) room ∙ together_one room (item_bytes ps r x)

pub run_same : {es : List Entry} {b : Bytes} {places : List ℕ} {end : ℕ} {whole rest : Record → List Item} {start at : ℕ} {write : Bool} {out₀ out : Bytes}
    → Running es b places end whole rest start at write out₀ out → length out ≡ length out₀
run_same g = (g.continues g.holds.0 g.holds.1).same

-- No item: nothing changes.
pub fills_none : (es : List Entry) (b : Bytes) (places : List ℕ) {xs : List Item} → xs ≡ [] → (at end : ℕ) (write : Bool) {out : Bytes} → HasRecord es b places → at ≤ end → end ≤ length out
    → Fills es b places xs at end write out out (Ok at)
fills_none es b places {xs} none at end write {out} k h l = run_end (run_start es b places end (λ r. xs) at write out k h l) (λ r. none)
