-- Bytes that are put run by run into room: what is left of them, from where it stands, ends and writes as the whole does from its start.
use Rattle.std.specs.Prelude.{Err, Ok, Result}
use mathlib.Core.Path.{◌≡◌, sym, ◌∙◌, ap, subst}
use mathlib.Core.Bool.{true}
use mathlib.Core.List.{[], ◌∷◌, ◌++◌, append-nil}
use Prim.Native.Nat.{ℕ, ◌-◌, ◌≤◌}
use lib.ListN.{length}
use Rattle.rules.specs.Outcome.{Outcome, done}
use Rattle.rules.specs.Lists.{Bytes, join}
use Rattle.rules.specs.declared.Refusal.{Refusal}
use Rattle.filling.specs.Filling.{in_room, together, Filling, Continues}
use Rattle.filling.proofs.Continues.{continues_start, continues_last, turn, turn_within, stop}
use Rattle.filling.proofs.Singles.{nothing_put}
use Rattle.filling.proofs.Together.{together_one, together_done}

two_joined : (a l : Bytes) → join (a ∷ l ∷ []) ≡ a ++ l
unfolding join
two_joined a l = ap (λ (b : Bytes). a ++ b) (append-nil l)

two_runs : (room : ℕ) (a l : Bytes) → in_room room (done (a ++ l)) ≡ together room (done a ∷ done l ∷ [])
two_runs room a l = ap (λ (b : Bytes). in_room room (done b)) (sym (two_joined a l)) ∙ sym (together_done (a ∷ l ∷ []) room)

-- A turn that takes the run a, of which a callee says where it ends and what it left in the buffer; and a stop at it.
module _ (end : ℕ) (a l : Bytes) {whole : Outcome Bytes} {start at : ℕ} {out₀ out out' : Bytes} {n : (Result ℕ Refusal)}
    (g : Continues whole (in_room (end - at) (done (a ++ l))) start at true out₀ out) (f : Filling (in_room (end - at) (done a)) at true out out' n) (fits : at ≤ end) (room : end ≤ length out) where
  parted : Continues whole (together (end - at) (done a ∷ done l ∷ [])) start at true out₀ out
  parted = subst (λ (o : Outcome Bytes). Continues whole o start at true out₀ out) (two_runs (end - at) a l) g

  put : Filling (together (end - at) (done a ∷ [])) at true out out' n
  put = subst (λ (o : Outcome Bytes). Filling o at true out out' n) (sym (together_one (end - at) (done a))) f

  pub run_within : (at' : ℕ) → n ≡ Ok at' → (at ≤ at') × (at' ≤ end)
  run_within = turn_within end (done a ∷ []) (done l ∷ []) parted put fits room

  pub run_on : (at' : ℕ) → n ≡ Ok at' → Continues whole (in_room (end - at') (done l)) start at' true out₀ out'
  run_on at' e = subst (λ (o : Outcome Bytes). Continues whole o start at' true out₀ out') (together_one (end - at') (done l)) (turn end (done a ∷ []) (done l ∷ []) parted put fits room at' e)

  pub run_off : (x : Refusal) → n ≡ Err x → Filling whole start true out₀ out' (Err x)
  run_off = stop end (done a ∷ []) (done l ∷ []) parted put fits room

-- The end: no bytes are left.
pub runs_end : (room : ℕ) {whole : Outcome Bytes} {start at : ℕ} {out₀ out left : Bytes} → Continues whole (in_room room (done left)) start at true out₀ out → left ≡ []
    → Filling whole start true out₀ out (Ok at)
runs_end room {at = at} {out = out} {left} g e = continues_last g (nothing_put room at out true left e)

-- Two runs, one after the other.
module _ (end : ℕ) (a l : Bytes) {at : ℕ} {out out' : Bytes} {n : (Result ℕ Refusal)} (f : Filling (in_room (end - at) (done a)) at true out out' n) (fits : at ≤ end) (room : end ≤ length out) where
  whole : Continues (in_room (end - at) (done (a ++ l))) (in_room (end - at) (done (a ++ l))) at at true out out
  whole = continues_start (in_room (end - at) (done (a ++ l))) at true out

  pub both_within : (at' : ℕ) → n ≡ Ok at' → at' ≤ end
  both_within at' e = (run_within end a l whole f fits room at' e).1

  pub both_on : (at' : ℕ) → n ≡ Ok at' → {out'' : Bytes} {m : (Result ℕ Refusal)} → Filling (in_room (end - at') (done l)) at' true out' out'' m → Filling (in_room (end - at) (done (a ++ l))) at true out out'' m
  both_on at' e = continues_last (run_on end a l whole f fits room at' e)

  pub both_off : (x : Refusal) → n ≡ Err x → Filling (in_room (end - at) (done (a ++ l))) at true out out' (Err x)
  both_off = run_off end a l whole f fits room
