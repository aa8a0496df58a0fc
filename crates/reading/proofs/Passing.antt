-- What a `?` hands on is the error that it met, which `map_err` may have made of another.
use Rattle.std.specs.Prelude.{Err, Ok, Result}
use Rattle.std.specs.Result.{IsErrAnd, MatchResult}
use Rattle.std.proofs.lemmas.Result.{err_from_is_err_and}
use mathlib.Core.Path.{◌≡◌, refl, ◌∙◌, ap, subst}

pub handed_on : {T E : Type 0} {x : E} (r : Result T E) → IsErrAnd r (λ y. y ≡ x) → r ≡ Err x
handed_on {T} r h = let p = err_from_is_err_and r h in p.1 ∙ ap Err p.2

pub err_made : {T E D : Type 0} (P : E → D → Type 0) (r : Result T E) {m : Result T D} → MatchResult r (λ x. m ≡ Ok x) (λ e. IsErrAnd m (P e)) → (y : D) → m ≡ Err y
    → (e : E) × (r ≡ Err e) × P e y
err_made P (Ok x) h y q = absurd (cc)
err_made P (Err e) {m} h y q = let p = err_from_is_err_and m h in let z : p.0 ≡ y = cc in (e, refl, subst (P e) z p.2)

pub ok_kept : {T E D : Type 0} (P : E → D → Type 0) (r : Result T E) {m : Result T D} → MatchResult r (λ x. m ≡ Ok x) (λ e. IsErrAnd m (P e)) → (x : T) → m ≡ Ok x → r ≡ Ok x
ok_kept P (Ok x) h y q = cc
ok_kept P (Err e) {m} h y q = let p = err_from_is_err_and m h in absurd (cc)
