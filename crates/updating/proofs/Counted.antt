-- The body of a new record goes by its entries and the counts that the old record has of its groups by name, since names differ.
use mathlib.Core.Path.{◌≡◌, refl, sym, ◌∙◌, ap}
use mathlib.Core.Bool.{Bool, false}
use mathlib.Core.List.{List, [], ◌∷◌, ◌++◌}
use Prim.Native.Nat.{ℕ}
use borrow.Author.Tests.{ne_eqb}
use lib.Dec.{T}
use Rattle.rules.specs.Outcome.{done}
use Rattle.rules.specs.Lists.{Bytes}
use Rattle.rules.specs.Table.{Entry, Part, differ, names, parts, table}
use Rattle.rules.specs.Record.{Plan, Record, body_bytes, record_bytes, record_head, laid_out, group_count_at, count_or_one}
use Rattle.rules.specs.Update.{Assignment, update_plan, after_update}
use Rattle.rules.proofs.Steps.{eqb_same}
use Rattle.rules.proofs.Places.{Avoids, from_avoids, from_differ}
use Rattle.rules.proofs.Uses.{picked_differ, table_differ}
use Rattle.rules.proofs.Laid.{group_none}
use Rattle.rules.proofs.Names.{part_names, parts_parted}
use Rattle.updating.specs.Laid.{laid_from}
use Rattle.updating.proofs.Body.{first_count, after_first, Counts, OnceLaid, body_from}

count_here : (p : Part) (ps : List Part) (r : Record) → group_count_at (p ∷ ps) r p.name ≡ first_count r
unfolding group_count_at
count_here p ps [] = refl
count_here p ps (os ∷ r) = rw (eqb_same p.name, group_count_at)

count_later : (p : Part) (ps : List Part) (r : Record) (n : ℕ) → (p.name ≡ n → ⊥) → group_count_at (p ∷ ps) r n ≡ group_count_at ps (after_first r) n
unfolding group_count_at
count_later p ps [] n d = sym (group_none ps n)
count_later p ps (os ∷ r) n d = rw (ne_eqb p.name n d, group_count_at)

counts_later : (p : Part) (ps : List Part) (r : Record) (qs : List Part) (s : Record) → Avoids p.name (part_names qs)
    → Counts (group_count_at ps (after_first r)) qs s → Counts (group_count_at (p ∷ ps) r) qs s
counts_later p ps r [] s a c = tt
counts_later p ps r (q ∷ qs) s a c = from_avoids p.name q.name (part_names qs) a λ d b.
    (count_later p ps r q.name d ∙ c.0, counts_later p ps r qs (after_first s) b c.1)

pub counts_of : (ps : List Part) (r : Record) → T (differ (part_names ps)) → Counts (group_count_at ps r) ps r
counts_of [] r d = tt
counts_of (p ∷ ps) r d = from_differ p.name (part_names ps) d λ a e.
    (count_here p ps r, counts_later p ps r ps (after_first r) a (counts_of ps (after_first r) e))

-- Any plan that lays out each part once that is no periodic group.
pub body_laid : (w : Plan) → OnceLaid w → (es : List Entry) (r : Record) → T (differ (names es))
    → body_bytes (parts es) (laid_out w (parts es) r) ≡ laid_from w (group_count_at (parts es) r) false es
unfolding parts
body_laid w once es r d = body_from w once (group_count_at (parts es) r) false es r (counts_of (parts es) r (picked_differ (parts_parted false es) d))

single : (c : Bool) (n : ℕ) → c ≡ false → count_or_one c n ≡ 1
unfolding count_or_one
single c n e = rw e

pub update_once : (ps : List Part) (r : Record) (ws : List Assignment) → OnceLaid (update_plan ps r ws)
unfolding update_plan
update_once ps r ws p n e = single p.periodic _ e

-- The new record of an update.
pub update_laid : (t : Bytes) (es : List Entry) (r : Record) (ws : List Assignment) → table t ≡ done es
    → record_bytes (parts es) (after_update (parts es) r ws) ≡ record_head ++ laid_from (update_plan (parts es) r ws) (group_count_at (parts es) r) false es
unfolding record_bytes after_update
update_laid t es r ws h = ap (λ (l : Bytes). record_head ++ l) (body_laid (update_plan (parts es) r ws) (update_once (parts es) r ws) es r (table_differ t es h))
