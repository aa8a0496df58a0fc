-- What two uses name in common.
use Rattle.std.specs.Prelude.{◌≡◌, Bool, List, map, ℕ, ◌<◌}
use Rattle.rules.specs.Lists.{Bytes, any}
use Rattle.rules.specs.Table.{Entry}
use Rattle.rules.specs.Use as rules_use
use Rattle.rules.specs.Use.{Asked, as_stored}
use Rattle.rules.specs.Update.{name_alike, named_twice}
use Rattle.uses.specs.Meant.{fields_from, use_meant, GoodSpanOf}
use Rattle.uses.specs.Kept.{use_at, uses_kept, GoodUses}
use Rattle.uses.specs.declared.Use.{Use}

-- The fields among the entries from one number up to another, each as it is stored.
abbrev pub stored_fields : List Entry → ℕ → ℕ → List Asked
stored_fields es first end = map as_stored (fields_from es first end)

-- The spans of the uses kept are well formed.
abbrev pub GoodSpans : List Entry → List ℕ → ℕ → Type 0
GoodSpans es kept count = (i : ℕ) → i < count → GoodSpanOf es (use_at kept i)

-- Whether one of some uses names an occurrence that a use after them names.
unfoldable pub met_by : List rules_use.Use → rules_use.Use → Bool
met_by us u = any (λ v. name_alike v u) us

-- The answers of the code, whatever the format.
abbrev pub Alike : List Entry → Use → Use → Bool → Type 0
Alike es u v r = (f : Bytes) → r ≡ name_alike (use_meant es f u) (use_meant es f v)

abbrev pub Met : List Entry → List ℕ → ℕ → Use → Bool → Type 0
Met es kept count u r = (f : Bytes) → r ≡ met_by (uses_kept es f kept count) (use_meant es f u)

abbrev pub NamedTwice : List Entry → List ℕ → ℕ → Bool → Type 0
NamedTwice es kept count r = (f : Bytes) → GoodUses es f kept count → r ≡ named_twice (uses_kept es f kept count)
