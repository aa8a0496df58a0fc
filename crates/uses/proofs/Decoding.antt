-- A format decoded one element at a time: what is left of it, from where it stands, says what the whole format does.
use Rattle.std.specs.Prelude.{Err, Ok, Option, Result, Some}
use mathlib.Core.Path.{◌≡◌, refl, sym, ap, subst, ◌∙◌}
use mathlib.Core.Bool.{true, false, not, ◌||◌}
use mathlib.Core.List.{List, [], ◌∷◌, ◌++◌}
use Prim.Native.Nat.{ℕ, ◌+◌, ◌*◌, ◌≤◌, ◌<◌}
use native.Mathlib.Omega.{arith}
use lib.Dec.{eqb}
use lib.ListN.{length, get_or, drop, replicate}
use lib.Seq.{sets, length-sets}
use Rattle.rules.specs.Outcome.{Outcome, done, refused, by, ◌>>=◌}
use Rattle.rules.specs.Outcome as outcome
use Rattle.rules.specs.Limits.{most_entries, longest_format}
use Rattle.rules.specs.Characters.{period}
use Rattle.rules.specs.Lists.{Bytes, run}
use Rattle.rules.specs.Numbers.{refusal}
use Rattle.rules.specs.Table.{Entry}
use Rattle.rules.specs.Format as rules
use Rattle.rules.specs.Use.{Use as Used, Indexes, indexes_after, use_of, uses, has_N}
use Rattle.rules.specs.Last.{Meaning as Told, scoped, is_last, meaning_of}
use Rattle.rules.specs.declared.Refusal.{Refusal}
use Rattle.rules.specs.declared.Refusal.TheVariants.{BadSyntax, UseRule}
use Rattle.rules.proofs.Steps.{from_bind, by_outcome, done_inj, refused_inj, not_done}
use Rattle.rules.proofs.Lasts.{no_N_yet, lasts_plain, in_full_plain, scoped_meant, scopes_told}
use Rattle.format_buffer.specs.Elements.{element_of, sound}
use Rattle.format_buffer.specs.Syntax.{parsed, elements_after, element_before, Stepped}
use Rattle.format_buffer.specs.declared.Element.{Element}
use Rattle.format_buffer.proofs.StepLaws.{elements_parsed, elements_long, after_last, after_more}
use Rattle.uses.specs.Meant.{use_meant, GoodUse, GoodSpanOf, uses_of}
use Rattle.uses.specs.Scopes.{scope_at, is_written}
use Rattle.uses.specs.Meanings.{meaning_meant, Means, indexes_kept, Remembers, Remembered}
use Rattle.uses.specs.Kept.{numbers_kept, numbers, small, uses_kept, GoodUses, Decodes}
use Rattle.uses.specs.Decoding.{uses_so_far, uses_left, KeepsElement}
use Rattle.uses.specs.declared.Use.{Use}
use Rattle.uses.specs.declared.scopes.Meaning.{Meaning}
use Rattle.uses.proofs.Scoping.{written_told, values_written}
use Rattle.uses.proofs.Remembering.{none_remembered, plain_remembered, span_known}
use Rattle.uses.proofs.Numbers.{uses_more, good_more, use_small}

-- An answer that is matched is one of its variants.
pub step_as : {f : Bytes} {at : ℕ} {o : Outcome (List rules.Element)} {r s : (Option (Element × ℕ))} → r ≡ s → Stepped f at o r → Stepped f at o s
step_as {f} {at} {o} e h = subst (Stepped f at o) e h

-- Lists joined: after one more, and with none.
snoc_joined : {A : Type 0} (ks : List A) (u : A) (us : List A) → (ks ++ (u ∷ [])) ++ us ≡ ks ++ (u ∷ us)
snoc_joined [] u us = refl
snoc_joined (k ∷ ks) u us = ap (λ ys. k ∷ ys) (snoc_joined ks u us)

none_joined : {A : Type 0} (ks : List A) → ks ++ [] ≡ ks
none_joined [] = refl
none_joined (k ∷ ks) = ap (λ ys. k ∷ ys) (none_joined ks)

joined : (u : Used) (ks : List Used) {ks' : List Used} → ks' ≡ ks ++ (u ∷ []) → (o : Outcome (List Used))
    → (o >>= (λ us. done (u ∷ us)) >>= λ us. done (ks ++ us)) ≡ (o >>= λ us. done (ks' ++ us))
joined u ks e (done us) = ap done (sym (ap (λ ys. ys ++ us) e ∙ snoc_joined ks u us))
joined u ks e (refused k) = refl

-- The uses of an element before some more.
module _ (es : List Entry) (ls : Indexes) (x : rules.Element) where
  first_done : (xs : List rules.Element) (u : Used) → use_of es ls x ≡ done u → has_N x ≡ false
      → uses es ls (x ∷ xs) ≡ (uses es (indexes_after u ls) xs >>= λ us. done (u ∷ us))
  unfolding uses
  first_done xs u e q = rw (e, q) refl

  first_refused : (xs : List rules.Element) (n : outcome.Refusal) → use_of es ls x ≡ refused n → uses es ls (x ∷ xs) ≡ refused n
  unfolding uses
  first_refused xs n e = rw e refl

  first_last : (xs : List rules.Element) (u : Used) → use_of es ls x ≡ done u → has_N x ≡ true → uses es ls (x ∷ xs) ≡ refused (refusal UseRule)
  unfolding uses
  first_last xs u e q = rw (e, q) refl

  before_done : (o : Outcome (List rules.Element)) (u : Used) → use_of es ls x ≡ done u → has_N x ≡ false
      → (element_before x o >>= uses es ls) ≡ (o >>= uses es (indexes_after u ls) >>= λ us. done (u ∷ us))
  before_done (done xs) u e q = first_done xs u e q
  before_done (refused k) u e q = refl

  -- What an element means in a read that has no N before it, seen as its use in an update.
  meaning_plain : meaning_of es ls [] x ≡ (use_of es ls x >>= λ u. done (scoped es x u))
  unfolding meaning_of
  meaning_plain = rw (in_full_plain es [] no_N_yet x) refl

  use_done : (m : Told) → done m ≡ meaning_of es ls [] x → (use_of es ls x ≡ done m.meant) × (has_N x ≡ (is_last m.occurrences || is_last m.values))
  use_done m p =
      from_bind (use_of es ls x) _ (sym (p ∙ meaning_plain)) λ u h k.
      let q : scoped es x u ≡ m = done_inj k in (
        h ∙ ap done (sym (scoped_meant es x u) ∙ ap (λ (y : Told). y.meant) q),
        sym (scopes_told es ls x u h) ∙ ap (λ (y : Told). is_last y.occurrences || is_last y.values) q,
      )

  use_refused : (n : outcome.Refusal) → refused n ≡ meaning_of es ls [] x → use_of es ls x ≡ refused n
  use_refused n p =
      by_outcome (use_of es ls x)
      (λ u h. absurd (not_done (p ∙ meaning_plain ∙ ap (λ o. o >>= λ u. done (scoped es x u)) h)))
      (λ k h. let q : ◌≡◌ {A = Outcome Told} (refused n) (refused k) = p ∙ meaning_plain ∙ ap (λ o. o >>= λ u. done (scoped es x u)) h in h ∙ ap refused (refused_inj (sym q)))

no_uses : (es : List Entry) (ls : Indexes) → uses es ls [] ≡ done []
unfolding uses
no_uses es ls = refl

-- What is left, with the element x first and without it.
module _ (es : List Entry) (f : Bytes) (ls : Indexes) (x : rules.Element) (kept : List ℕ) where
  left_passed : (n : Refusal) (xs : Outcome (List rules.Element)) → uses_left es f ls (element_before x xs) kept (Err n) ≡ uses_left es f ls xs kept (Err n)
  unfolding uses_left
  left_passed n (done xs) = refl
  left_passed n (refused k) = refl

  left_refused : (n : ℕ) (y : Refusal) → ((ys : List rules.Element) → uses es ls (x ∷ ys) ≡ refused (refusal y)) → (xs : Outcome (List rules.Element))
      → uses_left es f ls (element_before x xs) kept (Ok n) ≡ uses_left es f ls xs kept (Err y)
  unfolding uses_left
  left_refused n y e (done xs) = ap (λ o. o >>= λ us. done (uses_kept es f kept n ++ us)) (e xs)
  left_refused n y e (refused k) = refl

  left_used : (n m : ℕ) (u : Used) (kept' : List ℕ) → use_of es ls x ≡ done u → has_N x ≡ false → uses_kept es f kept' m ≡ uses_kept es f kept n ++ (u ∷ [])
      → (xs : Outcome (List rules.Element)) → uses_left es f ls (element_before x xs) kept (Ok n) ≡ uses_left es f (indexes_after u ls) xs kept' (Ok m)
  unfolding uses_left
  left_used n m u kept' e q k xs =
      ap (λ o. o >>= λ us. done (uses_kept es f kept n ++ us)) (before_done es ls x xs u e q) ∙ joined u (uses_kept es f kept n) k (xs >>= uses es (indexes_after u ls))

-- One element more, by where the decoding stands and what the element means.
module _ {es : List Entry} {e : Element} {last : List ℕ} where
  pub keeps_passed : (kept : List ℕ) (d : Result ℕ Refusal) (x : Refusal) → d ≡ Err x → KeepsElement es e last last kept kept d (Err x)
  keeps_passed kept d x p = rw p (record {
    same = refl;
    room = refl;
    more = omega arith;
    good = λ f s g. g;
    left = λ f s ls q. (ls, q, left_passed es f ls (element_of f e) kept x);
  })

  -- What the element means, after n uses.
  module _ (m : Meaning) (w : Means es last e m) (d : Result ℕ Refusal) (n : ℕ) (p : d ≡ Ok n) where
    pub keeps_refused : (kept : List ℕ) (x : Refusal) → m.meant ≡ Err x → KeepsElement es e last last kept kept d (Err x)
    keeps_refused kept x h = rw p (record {
      same = refl;
      room = refl;
      more = omega arith;
      good = λ f s g i h. absurd (omega arith);
      left = λ f s ls q. (
        ls,
        q,
        left_refused es f ls (element_of f e) kept n x (λ ys. first_refused es ls (element_of f e) ys _
            (use_refused es ls (element_of f e) _ (rw h at (w.answer f ls [] s q)))),
      );
    })

    module _ (u : Use) (h : m.meant ≡ Ok u) where
      use_held : (f : Bytes) → sound f e → GoodUse es f u
      use_held f s = rw h at (w.held f s)

      pub span_held : (f : Bytes) → sound f e → GoodSpanOf es u
      span_held f s = span_known es f u (use_held f s)

      pub small_held : (f : Bytes) → sound f e → length f ≤ longest_format → length es ≤ most_entries → small u
      small_held f s l k = use_small es k f l u (use_held f s)

      pub room_for : (kept : List ℕ) → numbers_kept * uses_so_far d + numbers_kept ≤ length kept → numbers_kept * n + numbers_kept ≤ length kept
      room_for kept l = rw p at l

      told : (f : Bytes) (ls : Indexes) → sound f e → Remembers es last ls [] → (use_of es ls (element_of f e) ≡ done (use_meant es f u)) × (has_N (element_of f e) ≡ not (is_written m.scopes))
      told f ls s q =
          let d = use_done es ls (element_of f e) (meaning_meant es f u m.scopes) (rw h at (w.answer f ls [] s q)) in
          (d.0, d.1 ∙ written_told m.scopes)

      pub keeps_last : (kept : List ℕ) → is_written m.scopes ≡ false → KeepsElement es e last last kept kept d (Err UseRule)
      keeps_last kept z = rw p (record {
        same = refl;
        room = refl;
        more = omega arith;
        good = λ f s g i h. absurd (omega arith);
        left = λ f s ls q. let t = told f ls s q in
            (ls, q, left_refused es f ls (element_of f e) kept n UseRule (λ ys. first_last es ls (element_of f e) ys _ t.0 (t.1 ∙ ap not z)));
      })

      pub keeps_use : (kept : List ℕ) {last' kept' : List ℕ} → numbers_kept * n + numbers_kept ≤ length kept → small u → is_written m.scopes ≡ true
          → Remembered es u m.scopes.values last last' → kept' ≡ sets kept (numbers_kept * n) (numbers u) → KeepsElement es e last last' kept kept' d (Ok (n + 1))
      keeps_use kept {last'} l t z k q = rw (p, q) (record {
        same = k.same;
        room = length-sets kept (numbers_kept * n) (numbers u);
        more = omega arith;
        good = λ f s g. good_more es f kept n u l t (use_held f s) g;
        left = λ f s ls r. let i = told f ls s r in (
          indexes_after (use_meant es f u) ls,
          plain_remembered es last' _ _ (lasts_plain (use_meant es f u) (scope_at m.scopes.values) [] (values_written m.scopes z) no_N_yet) (k.indexes f ls [] r),
          left_used es f ls (element_of f e) kept n (n + 1) (use_meant es f u) _ i.0 (i.1 ∙ ap not z) (uses_more es f kept n u l t),
        );
      })

-- The decoding stands somewhere, with some elements left.
pub record Decoding (es : List Entry) (f : Bytes) (last : List ℕ) (xs : Outcome (List rules.Element)) (kept : List ℕ) (d : Result ℕ Refusal) : Type 0 where
  pub indexes : Indexes
  pub remembers : Remembers es last indexes []
  pub good : GoodUses es f kept (uses_so_far d)
  pub left : uses_of es f ≡ uses_left es f indexes xs kept d

pub decode_long : (es : List Entry) (f : Bytes) (kept : List ℕ) → longest_format < length f → Decodes es f kept (Err BadSyntax)
unfolding uses_of
decode_long es f kept h = ap (λ o. o >>= uses es []) (elements_long f h)

after_none : (o : Outcome (List Used)) → o ≡ (o >>= λ us. done ([] ++ us))
after_none (done us) = refl
after_none (refused k) = refl

module _ (es : List Entry) (f : Bytes) (kept : List ℕ) where
  pub decode_start : length f ≤ longest_format → Decoding es f (replicate indexes_kept 0) (parsed (drop 0 f)) kept (Ok 0)
  unfolding uses_of uses_left uses_kept run
  decode_start h = record {
    indexes = [];
    remembers = none_remembered es;
    good = λ i k. absurd (omega arith);
    left = ap (λ o. o >>= uses es []) (elements_parsed f h) ∙ after_none (parsed f >>= uses es []);
  }

module _ {es : List Entry} {f : Bytes} where
  module _ {last : List ℕ} {kept : List ℕ} where
    pub decode_bad : (d : Result ℕ Refusal) → Decoding es f last (refused (by 3)) kept d → Decodes es f kept (Err BadSyntax)
    unfolding uses_left
    decode_bad (Ok n) w = w.left
    decode_bad (Err x) w = w.left

    -- Nothing is left.
    decode_end : (d : Result ℕ Refusal) → numbers_kept * uses_so_far d ≤ length kept → Decoding es f last (done []) kept d → Decodes es f kept d
    unfolding uses_left
    decode_end (Ok n) h w =
        (w.left ∙ ap (λ o. o >>= λ us. done (uses_kept es f kept n ++ us)) (no_uses es w.indexes) ∙ ap done (none_joined (uses_kept es f kept n)), w.good, h)
    decode_end (Err x) h w = w.left

    -- The same elements in other words.
    pub decode_as : {d : (Result ℕ Refusal)} {xs ys : Outcome (List rules.Element)} → xs ≡ ys → Decoding es f last xs kept d → Decoding es f last ys kept d
    decode_as {d} e w = subst (λ (o : Outcome (List rules.Element)). Decoding es f last o kept d) e w

  -- The element at a place is decoded.
  module _ {at : ℕ} {e : Element} {stop : ℕ} (t : Stepped f at (parsed (drop at f)) (Some (e, stop))) {last last' kept kept' : List ℕ} {d d' : (Result ℕ Refusal)}
      (w : Decoding es f last (parsed (drop at f)) kept d) (k : KeepsElement es e last last' kept kept' d d') where
    after_element : Decoding es f last' (elements_after f stop) kept' d'
    after_element = let v = decode_as t.answer w in let n = k.left f t.place.2 v.indexes v.remembers in record {
      indexes = n.0;
      remembers = n.1;
      good = k.good f t.place.2 v.good;
      left = v.left ∙ n.2 (elements_after f stop);
    }

    pub decode_last : eqb (get_or f stop 0) period ≡ true → numbers_kept * uses_so_far d' ≤ length kept' → Decodes es f kept' d'
    decode_last q h = decode_end d' h (decode_as (after_last f stop q) after_element)

    pub decode_more : eqb (get_or f stop 0) period ≡ false → Decoding es f last' (parsed (drop (stop + 1) f)) kept' d'
    decode_more q = decode_as (after_more f stop q) after_element
