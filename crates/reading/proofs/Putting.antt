-- An element is put, by where the scan stands and what the element means.
use Rattle.std.specs.Prelude.{Err, Ok, Result}
use mathlib.Core.Path.{◌≡◌, refl, sym, ap, subst, ◌∙◌}
use mathlib.Core.Bool.{Bool}
use mathlib.Core.List.{List}
use Prim.Native.Nat.{ℕ, ◌≤◌}
use native.Mathlib.Omega.{arith}
use lib.ListN.{length}
use Rattle.rules.specs.Lists.{Bytes}
use Rattle.rules.specs.Table.{Entry}
use Rattle.rules.specs.Use.{Indexes}
use Rattle.rules.specs.Last.{Lasts, meaning_of}
use Rattle.rules.specs.declared.Refusal.{Refusal}
use Rattle.format_buffer.specs.Elements.{element_of, sound}
use Rattle.format_buffer.specs.declared.Element.{Element}
use Rattle.records.specs.Places.{HasRecord}
use Rattle.uses.specs.Meanings.{meaning_meant, scoped_outcome, Remembers, Means, Remembered}
use Rattle.uses.specs.declared.scopes.Meaning.{Meaning}
use Rattle.uses.specs.declared.Use.{Use}
use Rattle.reading.specs.Spans.{FillsBy}
use Rattle.reading.specs.Scan.{Progress, meaning_items, filled_upto, PutsElement}
use Rattle.reading.proofs.Turns.{passed, refused_use, used_after, used_at, used_within, used_refused}

pub at_fits : {s : Progress} {p end : ℕ} → s ≡ Ok (Ok p) → filled_upto s ≤ end → p ≤ end
at_fits {end = end} e l = subst (λ (s : Progress). filled_upto s ≤ end) e l

-- What the code's meaning of an element says, where it is known what is meant.
module _ {es : List Entry} {last : List ℕ} {e : Element} {w : Meaning} (f : Bytes) (ok : sound f e) (m : Means es last e w) (ls : Indexes) (ns : Lasts) (k : Remembers es last ls ns) where
  as_meant : {x : (Result Use Refusal)} → w.meant ≡ x → scoped_outcome es f x w.scopes ≡ meaning_of es ls ns (element_of f e)
  as_meant q = ap (λ (x : Result Use Refusal). scoped_outcome es f x w.scopes) (sym q) ∙ m.answer f ls ns ok k

module _ {es : List Entry} {b : Bytes} {places : List ℕ} {f : Bytes} {end : ℕ} {write : Bool} {e : Element} {last : List ℕ} where
  -- Standings that are known by equations.
  pub puts_as : {last' : List ℕ} {s s₁ s' s'₁ : Progress} {out out' : Bytes} → s ≡ s₁ → s' ≡ s'₁ → PutsElement es b places f end write e last last' s₁ out out' s'₁
      → PutsElement es b places f end write e last last' s out out' s'
  puts_as {last'} {s} {s₁} {s'} {s'₁} {out} {out'} q q' p =
      subst (λ (x : Progress). PutsElement es b places f end write e last last' x out out' s') (sym q)
      (subst (λ (x : Progress). PutsElement es b places f end write e last last' s₁ out out' x) (sym q') p)

  -- After an element that is refused.
  pub puts_nothing : (n : Refusal) {out : Bytes} → PutsElement es b places f end write e last last (Err n) out out (Err n)
  puts_nothing n = record { fits = omega arith; same = refl; kept = refl; continues = λ ls ns q. (ls, ns, q, λ r k xs. passed es r end ls ns (element_of f e) xs n) }

  -- What the code's meaning of the element is, where it is known whether it is refused.
  module _ (ok : sound f e) {w : Meaning} (m : Means es last e w) where
    pub puts_refused : (items : Result ℕ Refusal) {out : Bytes} (n : Refusal) → w.meant ≡ Err n → PutsElement es b places f end write e last last (Ok items) out out (Err n)
    puts_refused items n q = record {
      fits = omega arith;
      same = refl;
      kept = refl;
      continues = λ ls ns k. (ls, ns, k, λ r i xs. refused_use es r end ls ns (element_of f e) xs n (as_meant f ok m ls ns k q) items ls ns);
    }

    module _ {last' : List ℕ} {u : Use} (q : w.meant ≡ Ok u) (k : Remembered es u w.scopes.values last last') where
      pub puts_after : {out : Bytes} (n : Refusal) → PutsElement es b places f end write e last last' (Ok (Err n)) out out (Ok (Err n))
      puts_after n = record {
        fits = omega arith;
        same = k.same;
        kept = refl;
        continues = λ ls ns i. (_, _, k.indexes f ls ns i, λ r h xs. used_after es r end ls ns (element_of f e) xs (meaning_meant es f u w.scopes) (as_meant f ok m ls ns i q) n);
      }

      pub puts_items : (p : ℕ) {out out' : Bytes} (x : Result ℕ Refusal) → FillsBy es b places (meaning_items es f u w.scopes) p end write out out' x → HasRecord es b places → p ≤ end → end ≤ length out
          → PutsElement es b places f end write e last last' (Ok (Ok p)) out out' (Ok x)
      puts_items p (Ok p') g h l o = record {
        fits = used_within es h.0 end (meaning_items es f u w.scopes h.0) (g h.0 h.1) l p' refl;
        same = k.same;
        kept = (g h.0 h.1).same;
        continues = λ ls ns i. (_, _, k.indexes f ls ns i, λ r j xs. used_at es r end ls ns (element_of f e) xs (meaning_meant es f u w.scopes) (as_meant f ok m ls ns i q) (g r j) l o p' refl);
      }
      puts_items p (Err n) g h l o = record {
        fits = omega arith;
        same = k.same;
        kept = (g h.0 h.1).same;
        continues = λ ls ns i. (_, _, k.indexes f ls ns i, λ r j xs. used_refused es r end ls ns (element_of f e) xs (meaning_meant es f u w.scopes) (as_meant f ok m ls ns i q) (g r j) l o n refl);
      }
