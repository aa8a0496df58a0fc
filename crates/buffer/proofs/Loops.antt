-- Two kinds of loop, a byte a turn: the invariant as a record, its start, its turn and its end.
-- A write of the n bytes of t to out from `at`: `Up` goes from the left, `Down` from the right; the byte that a turn stores is t's
-- at that place. A test of the first n bytes of s: `Scan` goes from the left, and what is left answers as the whole.
use mathlib.Core.Path.{◌≡◌, refl, sym, ◌∙◌}
use mathlib.Core.Bool.{Bool, true, false, ◌&&◌}
use Prim.Native.Nat.{ℕ, suc, ◌+◌, ◌-◌, ◌≤◌, ◌<◌}
use native.Mathlib.Numerals.{add-one}
use native.Mathlib.Omega.{arith}
use mathlib.Core.List.{List}
use lib.ListN.{length, take, drop, get_or, set, length-set}
use lib.Seq.{drop-cons}
use Rattle.rules.specs.Lists.{all}
use Rattle.rules.proofs.Digits.{all_none, all_first}
use Rattle.buffer.specs.Splice.{splice}
use Rattle.buffer.proofs.Laws.{splice_nil, turn_up, done_up, start_down, turn_down, done_down}

pub record Up (at n : ℕ) (t out₀ out : List ℕ) (i : ℕ) : Type 0 where
  pub size : length t ≡ n
  pub fits : at + n ≤ length out₀
  pub upto : i ≤ n
  pub same : length out ≡ length out₀
  pub done : out ≡ splice at (take i t) out₀

pub up_start : {at n : ℕ} {t out : List ℕ} → length t ≡ n → at + n ≤ length out → Up at n t out out 0
up_start {at} {n} {t} {out} e h = record { size = e; fits = h; upto = omega arith; same = refl; done = sym (splice_nil at out) }

pub up_turn : {at n : ℕ} {t out₀ out : List ℕ} {i q v : ℕ} → Up at n t out₀ out i → i < n → q ≡ at + i → v ≡ get_or t i 0
    → Up at n t out₀ (set out q v) (i + 1)
up_turn {at} {n} {t} {out₀} {out} {i} {q} {v} w h eq ev = record {
  size = w.size;
  fits = w.fits;
  upto = omega arith;
  same = simp length-set w.same;
  done = turn_up at t out₀ out i q v w.done (omega arith) (omega arith) eq ev;
}

pub up_end : {at n : ℕ} {t out₀ out : List ℕ} {i : ℕ} → Up at n t out₀ out i → n ≤ i → out ≡ splice at t out₀
up_end {at} {n} {t} {out₀} {out} {i} w h = done_up at t out₀ out i w.done (omega arith)

pub record Down (at n : ℕ) (t out₀ out : List ℕ) (j : ℕ) : Type 0 where
  pub size : length t ≡ n
  pub fits : at + n ≤ length out₀
  pub upto : j ≤ n
  pub same : length out ≡ length out₀
  pub done : out ≡ splice (at + j) (drop j t) out₀

pub down_start : {at n : ℕ} {t out : List ℕ} → length t ≡ n → at + n ≤ length out → Down at n t out out n
down_start {at} {n} {t} {out} e h =
    record { size = e; fits = h; upto = omega arith; same = refl; done = start_down at t out n (omega arith) }

pub down_turn : {at n : ℕ} {t out₀ out : List ℕ} {j q v : ℕ} → Down at n t out₀ out j → 0 < j → q ≡ at + (j - 1) → v ≡ get_or t (j - 1) 0
    → Down at n t out₀ (set out q v) (j - 1)
down_turn {at} {n} {t} {out₀} {out} {j} {q} {v} w h eq ev = record {
  size = w.size;
  fits = w.fits;
  upto = omega arith;
  same = simp length-set w.same;
  done = turn_down at t out₀ out (j - 1) j q v w.done (omega arith) (omega arith) (omega arith) eq ev;
}

pub down_end : {at n : ℕ} {t out₀ out : List ℕ} {j : ℕ} → Down at n t out₀ out j → j ≤ 0 → out ≡ splice at t out₀
down_end {at} {n} {t} {out₀} {out} {j} w h = done_down at t out₀ out j h w.done

pub record Scan (f : ℕ → Bool) (n : ℕ) (s : List ℕ) (i : ℕ) : Type 0 where
  pub within : n ≤ length s
  pub upto : i ≤ n
  pub left : all f (take (n - i) (drop i s)) ≡ all f (take n s)

pub scan_start : {f : ℕ → Bool} {n : ℕ} {s : List ℕ} → n ≤ length s → Scan f n s 0
scan_start {f} {n} {s} h =
    let e : n - 0 ≡ n = omega arith in
    record { within = h; upto = omega arith; left = rw e }

module _ {f : ℕ → Bool} {n : ℕ} {s : List ℕ} {i : ℕ} (w : Scan f n s i) where
  first : i < n → all f (take (n - i) (drop i s)) ≡ (f (get_or s i 0) && all f (take (n - (i + 1)) (drop (i + 1) s)))
  first h =
      let e : n - i ≡ suc (n - (i + 1)) = omega arith in
      let k = w.within in
      rw (e, drop-cons s i 0 (omega arith), ← add-one i) (all_first f (get_or s i 0) (take (n - (i + 1)) (drop (i + 1) s)))

  pub scan_turn : i < n → f (get_or s i 0) ≡ true → Scan f n s (i + 1)
  scan_turn h e = record { within = w.within; upto = omega arith; left = sym (first h ∙ rw e) ∙ w.left }

  pub scan_stop : i < n → f (get_or s i 0) ≡ false → false ≡ all f (take n s)
  scan_stop h e = sym (first h ∙ rw e) ∙ w.left

  pub scan_end : n ≤ i → true ≡ all f (take n s)
  scan_end h =
      let e : n - i ≡ 0 = omega arith in
      sym (rw e (all_none f)) ∙ w.left
