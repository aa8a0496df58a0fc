-- A loop over items: what is left of them, from where the loop stands, gives what the whole gives from its start, with the assignments so
-- far before it. A turn takes some items off the front, a stop is their refusal.
use Rattle.std.specs.Prelude.{Err, Ok, Result}
use mathlib.Core.Path.{◌≡◌, refl, sym, ◌∙◌}
use mathlib.Core.List.{List, [], ◌++◌, append_assoc, append-nil}
use Prim.Native.Nat.{ℕ, ◌≤◌}
use lib.ListN.{length, drop, get_or}
use Rattle.rules.specs.Outcome.{Outcome, done, refused, ◌>>=◌}
use Rattle.rules.specs.Outcome as outcome
use Rattle.rules.specs.Lists.{Bytes}
use Rattle.rules.specs.Numbers.{refusal}
use Rattle.rules.specs.Table.{Entry}
use Rattle.rules.specs.Use.{Item}
use Rattle.rules.specs.Update.{Assignment}
use Rattle.rules.specs.declared.Refusal.{Refusal}
use Rattle.rules.proofs.Ranges.{taking, taking_append}
use Rattle.assignments.specs.Notes.{uses_from}
use Rattle.taking.specs.Taking.{RoomEnough, Ready, Holds, Takes}
use Rattle.taking.specs.declared.Taking.{Taking}

-- Assignments that stand before those that are still to come.
abbrev before : List Assignment → Outcome (List Assignment × Bytes) → Outcome (List Assignment × Bytes)
before own o = o >>= λ r. done (own ++ r.0, r.1)

before_none : (o : Outcome (List Assignment × Bytes)) → before [] o ≡ o
before_none (done r) = refl
before_none (refused n) = refl

before_both : (a b : List Assignment) (o : Outcome (List Assignment × Bytes)) → before a (before b o) ≡ before (a ++ b) o
before_both a b (done r) = rw append_assoc
before_both a b (refused n) = refl

taking_none : (bs : Bytes) → taking [] bs ≡ done ([], bs)
unfolding taking
taking_none bs = refl

-- What some items give, where the first of them were taken.
taking_rest : (xs ys : List Item) (bs cs : Bytes) (own : List Assignment) → taking xs bs ≡ done (own, cs) → taking (xs ++ ys) bs ≡ before own (taking ys cs)
taking_rest xs ys bs cs own e = taking_append xs ys bs ∙ rw e

taking_stop : (xs ys : List Item) (bs : Bytes) (n : outcome.Refusal) → taking xs bs ≡ refused n → taking (xs ++ ys) bs ≡ refused n
taking_stop xs ys bs n e = taking_append xs ys bs ∙ rw e

pub record TakenOn (es : List Entry) (buffer : Bytes) (whole rest : List Item) (s t : Taking) (list₀ list : List ℕ) (stage₀ stage : Bytes) : Type 0 where
  pub same_list : length list ≡ length list₀
  pub same_stage : length stage ≡ length stage₀
  pub same_uses : (j : ℕ) → uses_from ≤ j → get_or list j 0 ≡ get_or list₀ j 0
  pub left : (ws : List Assignment) → Holds es buffer list₀ stage₀ s ws
      → (own : List Assignment) × (taking whole (drop s.at buffer) ≡ before own (taking rest (drop t.at buffer))) × Holds es buffer list stage t (ws ++ own)

pub turn_start : (es : List Entry) (buffer : Bytes) (xs : List Item) (s : Taking) (list : List ℕ) (stage : Bytes) → TakenOn es buffer xs xs s s list list stage stage
turn_start es buffer xs s list stage = record {
  same_list = refl;
  same_stage = refl;
  same_uses = λ j h. refl;
  left = λ ws h. ([], sym (before_none (taking xs (drop s.at buffer))), rw append-nil h);
}

module _ {es : List Entry} {buffer : Bytes} {whole rest : List Item} {s t : Taking} {list₀ list : List ℕ} {stage₀ stage : Bytes}
    (d : TakenOn es buffer whole rest s t list₀ list stage₀ stage) where
  pub turn_roomy : RoomEnough list₀ stage₀ → RoomEnough list stage
  turn_roomy r = (rw d.same_list r.0, d.same_stage ∙ r.1)

  pub turn_ready : Ready es buffer list₀ stage₀ s → Ready es buffer list stage t
  turn_ready r = (turn_roomy r.0, let x = d.left r.1.0 r.1.1 in (r.1.0 ++ x.0, x.2))

  pub turn_on : {list' : List ℕ} {stage' : Bytes} (xs ys : List Item) (a : Result Taking Refusal) (t' : Taking) → rest ≡ xs ++ ys → a ≡ Ok t'
      → Takes es buffer xs t list list' stage stage' a → TakenOn es buffer whole ys s t' list₀ list' stage₀ stage'
  turn_on xs ys a t' e p k =
      let m = rw p at k in
      record {
        same_list = m.same_list ∙ d.same_list;
        same_stage = m.same_stage ∙ d.same_stage;
        same_uses = λ j h. m.same_uses j h ∙ d.same_uses j h;
        left = λ ws h.
            let x = d.left ws h in
            let y = m.moved (ws ++ x.0) x.2 in (
              x.0 ++ y.0,
              x.1 ∙ rw (e, taking_rest xs ys (drop t.at buffer) (drop t'.at buffer) y.0 y.1) (before_both x.0 y.0 (taking ys (drop t'.at buffer))),
              rw append_assoc at y.2,
            );
      }

  pub turn_off : {list' : List ℕ} {stage' : Bytes} (xs ys : List Item) (a : Result Taking Refusal) (x : Refusal) → rest ≡ xs ++ ys → a ≡ Err x
      → Takes es buffer xs t list list' stage stage' a → Takes es buffer whole s list₀ list' stage₀ stage' (Err x)
  turn_off xs ys a n e p k =
      let m = rw p at k in
      record {
        same_list = m.same_list ∙ d.same_list;
        same_stage = m.same_stage ∙ d.same_stage;
        same_uses = λ j h. m.same_uses j h ∙ d.same_uses j h;
        moved = λ ws h.
            let x = d.left ws h in
            x.1 ∙ rw (e, taking_stop xs ys (drop t.at buffer) (refusal n) (m.moved (ws ++ x.0) x.2));
      }

  pub turn_end : rest ≡ [] → Takes es buffer whole s list₀ list stage₀ stage (Ok t)
  turn_end e = record {
    same_list = d.same_list;
    same_stage = d.same_stage;
    same_uses = d.same_uses;
    moved = λ ws h. let x = d.left ws h in (x.0, x.1 ∙ rw (e, taking_none (drop t.at buffer), append-nil), x.2);
  }

-- No items, and nothing done.
pub nothing_taken : (es : List Entry) (buffer : Bytes) (xs : List Item) (s : Taking) (list : List ℕ) (stage : Bytes) → xs ≡ [] → Takes es buffer xs s list list stage stage (Ok s)
nothing_taken es buffer xs s list stage e = turn_end (turn_start es buffer xs s list stage) e
