-- What the functions that put a value cite: of a text, of a word, and of the kind of a conversion.
use mathlib.Core.Path.{◌≡◌, refl, sym, ◌∙◌, ap}
use mathlib.Core.Bool.{Bool, true, false≢true}
use Prim.Native.Nat.{ℕ, ◌≤◌}
use denote.Enum.Bare.{sameb}
use lib.ListN.{length, take}
use Rattle.rules.specs.Outcome.{is_done}
use Rattle.rules.specs.Lists.{Bytes, bytes_of}
use Rattle.rules.specs.Values.{Format, text, alpha, strip, normal, conversion, converts, converted_bytes}
use Rattle.value_formats.specs.contracts.Kind.{the_type}
use Rattle.value_formats.specs.Formats.{kind_of}
use Rattle.value_formats.specs.declared.Kind.{Kind}
use Rattle.value_formats.specs.declared.Kind.TheVariants.{Never, Every, Word, Natural}
use Rattle.values.specs.Formats.{range_kind}
use Rattle.values.proofs.Numbered.{at_alpha, is_alpha, not_alpha, alpha_alone}
use Rattle.values.proofs.Strip.{cut_size, converted_text, text_refused}
use Rattle.values.proofs.Chosen.{word_source, word_asked, word_done, word_written, word_beyond}
use Rattle.filling.proofs.Singles.{by_value}

-- What the functions of texts say of every text of a length, of the one that is put.
module _ (s : Bytes) (r : ℕ) (k : r ≤ length s) (e : strip s ≡ take r s) (n : ℕ) where
  pub text_fits : {b : Bool} → ((t : Bytes) → length t ≡ r → b ≡ is_done (normal alpha n (text t))) → b ≡ is_done (converted_bytes alpha alpha n s)
  text_fits f = f (take r s) (cut_size s r k e) ∙ ap is_done (sym (converted_text s r k e n))

  pub text_long : {m : ℕ} → ((t : Bytes) → length t ≡ r → is_done (normal alpha n (text t)) ≡ true → m ≡ length (bytes_of (normal alpha n (text t))))
      → is_done (converted_bytes alpha alpha n s) ≡ true → m ≡ length (bytes_of (converted_bytes alpha alpha n s))
  text_long f d = rw (converted_text s r k e n) (f (take r s) (cut_size s r k e) (rw (converted_text s r k e n) at d))

-- Formats that convert, but not every value, convert a range of words.
pub ranged_kind : (f g : Format) (k : Kind) → kind_of k ≡ conversion f g → converts f g ≡ true → (k ≡ Every → ⊥) → conversion f g ≡ range_kind (sameb the_type k Natural)
unfolding converts
ranged_kind f g Never e c n = absurd (false≢true (sym (rw (sym e, converts)) ∙ c))
ranged_kind f g Every e c n = absurd (n refl)
ranged_kind f g Word e c n = sym e
ranged_kind f g Natural e c n = sym e

pub ruleset by_text = (by_value, cut_size, converted_text, text_refused)

pub ruleset by_word = (by_value, word_source, word_asked, word_done, word_written, word_beyond)

pub ruleset by_kind = (at_alpha, is_alpha, not_alpha, alpha_alone, ranged_kind)
