-- A loop that lays bytes into room for whatever record and assignments there are: its start, a turn that takes some bytes off the front of
-- what is left, a stop where there is no room for them, and its end.
use Rattle.std.specs.Prelude.{Err, Ok, Result}
use mathlib.Core.Path.{◌≡◌, sym, ◌∙◌, ap, subst}
use mathlib.Core.Bool.{true}
use mathlib.Core.List.{List, [], ◌∷◌, ◌++◌, append-nil}
use Prim.Native.Nat.{ℕ, ◌-◌, ◌≤◌}
use native.Mathlib.Omega.{arith}
use lib.ListN.{length}
use Rattle.rules.specs.Outcome.{Outcome, done}
use Rattle.rules.specs.Lists.{Bytes, join}
use Rattle.rules.specs.Table.{Entry, parts}
use Rattle.rules.specs.Record.{Record, Plan}
use Rattle.rules.specs.Update.{Assignment, update_plan}
use Rattle.rules.specs.declared.Refusal.{Refusal}
use Rattle.records.specs.Places.{IsRecord}
use Rattle.filling.specs.Filling.{in_room, together, Filling, Continues}
use Rattle.filling.proofs.Continues.{continues_start, continues_end, continues_last, turn, turn_within, stop}
use Rattle.filling.proofs.Together.{together_one, together_done}
use Rattle.updating.specs.New.{Assigns, HasBoth, Puts}

-- The same bytes, otherwise said.
pub puts_as : (room : ℕ) {at : ℕ} {bs cs out out' : Bytes} {n : (Result ℕ Refusal)} → bs ≡ cs → Filling (in_room room (done bs)) at true out out' n → Filling (in_room room (done cs)) at true out out' n
puts_as room {at} {out = out} {out'} {n} e f = subst (λ (z : Bytes). Filling (in_room room (done z)) at true out out' n) e f

pub record Laying (es : List Entry) (b : Bytes) (places kept list : List ℕ) (stage : Bytes) (whole rest : Plan → Record → Bytes) (start at end : ℕ) (out₀ out : Bytes) : Type 0 where
  pub both : HasBoth es b places kept list stage
  pub fits : at ≤ end
  pub room : end ≤ length out
  pub continues : (r : Record) (ws : List Assignment) → IsRecord es b places r → Assigns es kept list stage ws
      → Continues (in_room (end - start) (done (whole (update_plan (parts es) r ws) r))) (in_room (end - at) (done (rest (update_plan (parts es) r ws) r))) start at true out₀ out

pub lay_start : {es : List Entry} {b : Bytes} {places kept list : List ℕ} {stage : Bytes} (whole : Plan → Record → Bytes) {at end : ℕ} {out : Bytes}
    → HasBoth es b places kept list stage → at ≤ end → end ≤ length out → Laying es b places kept list stage whole whole at at end out out
lay_start {es} whole {at} {end} {out} k h l = record {
  both = k;
  fits = h;
  room = l;
  continues = λ r ws p a. continues_start (in_room (end - at) (done (whole (update_plan (parts es) r ws) r))) at true out;
}

-- Two runs of bytes in room.
two_runs : (room : ℕ) (x y : Bytes) → in_room room (done (x ++ y)) ≡ together room ((done x ∷ []) ++ (done y ∷ []))
unfolding join
two_runs room x y = sym (together_done (x ∷ y ∷ []) room ∙ ap (λ (z : Bytes). in_room room (done (x ++ z))) (append-nil y))

module _ {es : List Entry} {b : Bytes} {places kept list : List ℕ} {stage : Bytes} {whole rest : Plan → Record → Bytes} {start at end : ℕ} {out₀ out : Bytes}
    (g : Laying es b places kept list stage whole rest start at end out₀ out) where
  abbrev plan : Record → List Assignment → Plan
  plan r ws = update_plan (parts es) r ws

  abbrev Left : Record → List Assignment → Outcome Bytes → Type 0
  Left r ws o = Continues (in_room (end - start) (done (whole (plan r ws) r))) o start at true out₀ out

  module _ (x y : Plan → Record → Bytes) (e : (w : Plan) (r : Record) → rest w r ≡ x w r ++ y w r) {out' : Bytes} {n : (Result ℕ Refusal)} (f : Puts es b places kept list stage x at end out out' n) where
    module _ (r : Record) (ws : List Assignment) (p : IsRecord es b places r) (a : Assigns es kept list stage ws) where
      parted : Left r ws (together (end - at) ((done (x (plan r ws) r) ∷ []) ++ (done (y (plan r ws) r) ∷ [])))
      parted = subst (Left r ws) (ap (λ (z : Bytes). in_room (end - at) (done z)) (e (plan r ws) r) ∙ two_runs (end - at) (x (plan r ws) r) (y (plan r ws) r)) (g.continues r ws p a)

      put : Filling (together (end - at) (done (x (plan r ws) r) ∷ [])) at true out out' n
      put = subst (λ (o : Outcome Bytes). Filling o at true out out' n) (sym (together_one (end - at) (done (x (plan r ws) r)))) (f r ws p a)

    pub lay_on : (at' : ℕ) → n ≡ Ok at' → Laying es b places kept list stage whole y start at' end out₀ out'
    lay_on at' q =
        let (r, p) = g.both.0 in
        let (ws, a) = g.both.1 in
        let t = turn end _ _ (parted r ws p a) (put r ws p a) g.fits g.room at' q in
        record {
          both = g.both;
          fits = (turn_within end _ _ (parted r ws p a) (put r ws p a) g.fits g.room at' q).1;
          room = omega (arith, t.same, (g.continues r ws p a).same, g.room);
          continues = λ r ws p a. subst (λ (o : Outcome Bytes). Continues (in_room (end - start) (done (whole (plan r ws) r))) o start at' true out₀ out')
              (together_one (end - at') (done (y (plan r ws) r))) (turn end _ _ (parted r ws p a) (put r ws p a) g.fits g.room at' q);
        }

    pub lay_off : (k : Refusal) → n ≡ Err k → Puts es b places kept list stage whole start end out₀ out' (Err k)
    lay_off k q r ws p a = stop end _ _ (parted r ws p a) (put r ws p a) g.fits g.room k q

  -- What adds nothing is passed over.
  pub lay_past : (y : Plan → Record → Bytes) → ((w : Plan) (r : Record) → rest w r ≡ y w r) → Laying es b places kept list stage whole y start at end out₀ out
  lay_past y e = record {
    both = g.both;
    fits = g.fits;
    room = g.room;
    continues = λ r ws p a. subst (Left r ws) (ap (λ (z : Bytes). in_room (end - at) (done z)) (e (plan r ws) r)) (g.continues r ws p a);
  }

  pub lay_end : ((w : Plan) (r : Record) → rest w r ≡ []) → Puts es b places kept list stage whole start end out₀ out (Ok at)
  unfolding join
  lay_end e r ws p a = continues_end (end - at) (subst (Left r ws) (ap (λ (z : Bytes). in_room (end - at) (done z)) (e (plan r ws) r) ∙ sym (together_done [] (end - at))) (g.continues r ws p a))

  -- The end by what lays all that is left.
  pub lay_last : {out' : Bytes} {n : (Result ℕ Refusal)} → Puts es b places kept list stage rest at end out out' n → Puts es b places kept list stage whole start end out₀ out' n
  lay_last f r ws p a = continues_last (g.continues r ws p a) (f r ws p a)

  -- The same, where the room's end is otherwise said.
  pub lay_upto : {end' : ℕ} → end ≡ end' → {out' : Bytes} {n : (Result ℕ Refusal)} → Puts es b places kept list stage rest at end out out' n → Puts es b places kept list stage whole start end' out₀ out' n
  lay_upto e {out'} {n} f = subst (λ z. Puts es b places kept list stage whole start z out₀ out' n) e (lay_last f)
