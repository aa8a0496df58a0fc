-- The elements of a format, one at a time: what is left of them, from where the scan stands, ends and writes as the whole format does from the front.
use Rattle.std.specs.Prelude.{Err, Ok, Result, Some}
use Rattle.rules.specs.declared.Refusal.{Refusal}
use mathlib.Core.Path.{◌≡◌, refl, sym, ap, subst, ◌∙◌}
use mathlib.Core.Bool.{Bool, true, false}
use mathlib.Core.List.{List, []}
use Prim.Native.Nat.{ℕ, ◌+◌, ◌-◌, ◌≤◌, ◌<◌}
use native.Mathlib.Nat.{sub-zero}
use native.Mathlib.Omega.{arith}
use lib.Dec.{eqb}
use lib.ListN.{length, get_or, drop, replicate}
use Rattle.rules.specs.Outcome.{Outcome, done, refused, by, ◌>>=◌}
use Rattle.rules.specs.Limits.{longest_format}
use Rattle.rules.specs.Characters.{period}
use Rattle.rules.specs.Lists.{Bytes}
use Rattle.rules.specs.Table.{Entry, parts}
use Rattle.rules.specs.Record.{Record}
use Rattle.rules.specs.Format as rules
use Rattle.rules.specs.Use.{Indexes}
use Rattle.rules.specs.Last.{Meaning, Lasts, meanings, counts_in, items_read}
use Rattle.rules.specs.Services.{filled}
use Rattle.rules.specs.Numbers.{refusal}
use Rattle.rules.specs.declared.Refusal.TheVariants.{BadSyntax}
use Rattle.format_buffer.specs.Syntax.{parsed, elements_after, element_before, Stepped}
use Rattle.format_buffer.specs.Elements.{element_of}
use Rattle.format_buffer.specs.declared.Element.{Element}
use Rattle.format_buffer.proofs.StepLaws.{elements_parsed, elements_long, after_last, after_more}
use Rattle.records.specs.Places.{IsRecord}
use Rattle.uses.specs.Meanings.{indexes_kept, Remembers, meanings_of}
use Rattle.uses.proofs.Remembering.{none_remembered}
use Rattle.filling.specs.Filling.{Continues}
use Rattle.reading.specs.Scan.{Progress, filled_upto, answer_of, left_of, PutsElement, Scans}
use Rattle.filling.proofs.Continues.{continues_start, continues_then, continues_off, continues_end}
use Rattle.reading.proofs.Items.{filled_together}
use Rattle.reading.proofs.Turns.{no_items, no_meanings, left_bad}

-- All that a format asks for, in limited room.
abbrev items_in : List Entry → Record → ℕ → List Meaning → Outcome Bytes
items_in es r room ms = filled (parts es) r room (items_read (parts es) (counts_in (parts es) r) ms)

abbrev whole : List Entry → Bytes → Record → ℕ → Outcome Bytes
whole es f r end = meanings_of es f >>= items_in es r end

whole_left : (es : List Entry) (f : Bytes) (r : Record) (end : ℕ) → length f ≤ longest_format → whole es f r end ≡ left_of es r end [] [] (parsed (drop 0 f)) (Ok (Ok 0))
unfolding meanings_of left_of
whole_left es f r end h = ap (λ o. o >>= meanings es [] [] >>= items_in es r end) (elements_parsed f h)
    ∙ ap (λ n. parsed f >>= meanings es [] [] >>= items_in es r n) (sym (sub-zero end))

pub scan_long : (es : List Entry) (b : Bytes) (places : List ℕ) (f : Bytes) (end : ℕ) (write : Bool) (out : Bytes) → longest_format < length f → Scans es b places f end write out out (Err BadSyntax)
unfolding meanings_of
scan_long es b places f end write out h r p = continues_off (continues_start (whole es f r end) 0 write out) refl BadSyntax (ap (λ o. o >>= meanings es [] [] >>= items_in es r end) (elements_long f h)) (λ w. refl)

-- The scan stands somewhere, with some elements left.
pub record Scanning (es : List Entry) (b : Bytes) (places : List ℕ) (f : Bytes) (end : ℕ) (write : Bool) (out₀ : Bytes) (last : List ℕ) (xs : Outcome (List rules.Element)) (s : Progress) (out : Bytes) : Type 0 where
  pub indexes : Indexes
  pub lasts : Lasts
  pub remembers : Remembers es last indexes lasts
  pub fits : filled_upto s ≤ end
  pub same : length out ≡ length out₀
  pub continues : (r : Record) → IsRecord es b places r → Continues (whole es f r end) (left_of es r end indexes lasts xs s) 0 (filled_upto s) write out₀ out

-- An answer that is known by an equation.
pub scan_as_answer : {es : List Entry} {b : Bytes} {places : List ℕ} (f : Bytes) (end : ℕ) {write : Bool} {out₀ out : Bytes} {n m : (Result ℕ Refusal)} → n ≡ m
    → Scans es b places f end write out₀ out m → Scans es b places f end write out₀ out n
scan_as_answer {es} {b} {places} f end {write} {out₀} {out} e h = subst (λ (k : Result ℕ Refusal). Scans es b places f end write out₀ out k) (sym e) h

module _ {es : List Entry} {b : Bytes} {places : List ℕ} {f : Bytes} {end : ℕ} {write : Bool} {out₀ : Bytes} where
  pub scan_start : length f ≤ longest_format → Scanning es b places f end write out₀ (replicate indexes_kept 0) (parsed (drop 0 f)) (Ok (Ok 0)) out₀
  scan_start s = record {
    indexes = [];
    lasts = [];
    remembers = none_remembered es;
    fits = omega arith;
    same = refl;
    continues = λ r p. subst (λ (o : Outcome Bytes). Continues (whole es f r end) o 0 0 write out₀ out₀) (whole_left es f r end s) (continues_start (whole es f r end) 0 write out₀);
  }

  module _ {last : List ℕ} {xs : Outcome (List rules.Element)} {s : Progress} {out : Bytes} (w : Scanning es b places f end write out₀ last xs s out) where
    -- The same elements in other words.
    pub scan_as : (ys : Outcome (List rules.Element)) → xs ≡ ys → Scanning es b places f end write out₀ last ys s out
    scan_as ys e = subst (λ (o : Outcome (List rules.Element)). Scanning es b places f end write out₀ last o s out) e w

    pub scan_bad : xs ≡ refused (by 3) → Scans es b places f end write out₀ out (Err BadSyntax)
    scan_bad e r p = continues_off (w.continues r p) refl BadSyntax (ap (λ o. left_of es r end w.indexes w.lasts o s) e ∙ left_bad es r end w.indexes w.lasts s (by 3)) (λ k. refl)

  scan_on : {last last' : List ℕ} {s s' : Progress} {out out' : Bytes} (e : Element) (xs : Outcome (List rules.Element))
      → Scanning es b places f end write out₀ last (element_before (element_of f e) xs) s out → PutsElement es b places f end write e last last' s out out' s' → Scanning es b places f end write out₀ last' xs s' out'
  scan_on e xs w p = let n = p.continues w.indexes w.lasts w.remembers in record {
    indexes = n.0;
    lasts = n.1;
    remembers = n.2;
    fits = p.fits;
    same = p.kept ∙ w.same;
    continues = λ r h. continues_then (w.continues r h) (n.3 r h xs);
  }

  -- Nothing is left.
  scan_end : {last : List ℕ} (s : Progress) {out : Bytes} → Scanning es b places f end write out₀ last (done []) s out → Scans es b places f end write out₀ out (answer_of s)
  unfolding left_of
  scan_end (Ok (Ok p)) {out} w r h = continues_end (end - p)
      (subst (λ (o : Outcome Bytes). Continues (whole es f r end) o 0 p write out₀ out)
      (ap (λ o. o >>= items_in es r (end - p)) (no_meanings es w.indexes w.lasts) ∙ ap (filled (parts es) r (end - p)) (no_items (parts es) (counts_in (parts es) r)) ∙ filled_together (parts es) r [] (end - p))
      (w.continues r h))
  scan_end (Ok (Err n)) w r h = continues_off (w.continues r h) refl n (ap (λ (o : Outcome (List Meaning)). o >>= λ ms. refused (refusal n)) (no_meanings es w.indexes w.lasts)) (λ k. refl)
  scan_end (Err n) w r h = continues_off (w.continues r h) refl n refl (λ k. refl)

  -- The element at a place is put.
  module _ {at : ℕ} {e : Element} {stop : ℕ} (t : Stepped f at (parsed (drop at f)) (Some (e, stop))) {last last' : List ℕ} {s s' : Progress} {out out' : Bytes}
      (w : Scanning es b places f end write out₀ last (parsed (drop at f)) s out) (p : PutsElement es b places f end write e last last' s out out' s') where
    after_element : Scanning es b places f end write out₀ last' (elements_after f stop) s' out'
    after_element = scan_on e (elements_after f stop) (scan_as w (element_before (element_of f e) (elements_after f stop)) t.answer) p

    pub scan_last : eqb (get_or f stop 0) period ≡ true → Scans es b places f end write out₀ out' (answer_of s')
    scan_last q = scan_end s' (scan_as after_element (done []) (after_last f stop q))

    pub scan_more : eqb (get_or f stop 0) period ≡ false → Scanning es b places f end write out₀ last' (parsed (drop (stop + 1) f)) s' out'
    scan_more q = scan_as after_element (parsed (drop (stop + 1) f)) (after_more f stop q)
