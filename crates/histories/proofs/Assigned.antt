-- What an update assigns: to fields of the table, at indexes from 1 to 191, values as the record stores them; bare names in turn.
use mathlib.Core.Path.{◌≡◌}
use mathlib.Core.Bool.{not}
use mathlib.Core.List.{List, [], ◌∷◌}
use lib.ListN.{length, take, drop, take-append-drop}
use Rattle.rules.specs.Outcome.{done}
use Rattle.rules.specs.Limits.{longest_items}
use Rattle.rules.specs.Lists.{Bytes, cut}
use Rattle.rules.specs.Values.{converted_bytes, first_value}
use Rattle.rules.specs.Table.{Entry}
use Rattle.rules.specs.Format.{elements}
use Rattle.rules.specs.Use.{Item, blanks_item, text_item, group_count, value_count, value_item, items, uses}
use Rattle.rules.specs.Update.{Assignment, named_twice, assignments}
use Rattle.rules.specs.Services.{assignments_of}
use Rattle.rules.proofs.Steps.{from_bind, from_need, done_inj}
use Rattle.rules.proofs.Back.{All, Stored}
use Rattle.rules.proofs.Bare.{bare_indexes, bare_count, named_counted}
use Rattle.rules.proofs.Digits.{Below}
use Rattle.rules.proofs.Entries.{Sound, Among, field_allowed}
use Rattle.rules.proofs.Uses.{Index}
use Rattle.histories.specs.History.{Writes}
use Rattle.histories.proofs.OneUpdate.{Orderly}
use Rattle.values.proofs.Stored.{converted_stored, below_left, first_below, first_allowed, cut_below}
use Rattle.histories.proofs.Items.{ItemOk, uses_ok}

abbrev pub AssignmentOk : List Entry → Assignment → Type 0
AssignmentOk es a = Among es a.place.field × Index a.place.occurrence × Index a.place.value × Stored a.place.field a.bytes

module _ (es : List Entry) (sound : All (λ e. Sound e.level e.what) es) where
  assignments_ok : (xs : List Item) (bs : Bytes) (ws : Writes) → All (ItemOk es) xs → Below 256 bs → assignments xs bs ≡ done ws → All (AssignmentOk es) ws
  unfolding assignments
  assignments_ok [] bs ws a b p = rw (← done_inj p) tt
  assignments_ok (blanks_item n ∷ xs) bs ws a b p = from_bind (cut 7 n bs) _ p λ r h k. assignments_ok xs r.1 ws a.1 (cut_below 7 n bs r.0 r.1 h b) k
  assignments_ok (text_item t ∷ xs) bs ws a b p = from_bind (cut 7 (length t) bs) _ p λ r h k. assignments_ok xs r.1 ws a.1 (cut_below 7 (length t) bs r.0 r.1 h b) k
  assignments_ok (group_count n ∷ xs) bs ws a b p = from_bind (cut 7 1 bs) _ p λ r h k. assignments_ok xs r.1 ws a.1 (cut_below 7 1 bs r.0 r.1 h b) k
  assignments_ok (value_count n i ∷ xs) bs ws a b p = from_bind (cut 7 1 bs) _ p λ r h k. assignments_ok xs r.1 ws a.1 (cut_below 7 1 bs r.0 r.1 h b) k
  assignments_ok (value_item q g n bare ∷ xs) bs ws a b p =
      from_bind (first_value n bs) _ p λ r h k.
      from_bind (converted_bytes g q.field.format q.field.size r.0) _ k λ w h₂ k₂.
      from_bind (assignments xs r.1) _ k₂ λ vs h₃ k₃.
      let (f, o, v, l) = a.0 in
      let (c, d) = first_below n bs r.0 r.1 h b in
      rw (← done_inj k₃) ((f, o, v, converted_stored g q.field r.0 (first_allowed g n bs r.0 r.1 h l) c (field_allowed es sound q.field f) h₂), assignments_ok xs r.1 vs a.1 d h₃)

  pub update_ok : (f buffer : Bytes) (ws : Writes) → Below 256 buffer → assignments_of es f buffer ≡ done ws → All (AssignmentOk es) ws
  unfolding assignments_of
  update_ok f buffer ws b p =
      from_bind (elements f) _ p λ xs h k.
      from_bind (uses es [] xs) _ k λ us h₂ k₂.
      from_need (not (named_twice us)) 6 _ k₂ λ t k₃.
      assignments_ok (items us) (take longest_items buffer) ws (uses_ok es sound [] xs us h₂) (below_left (take longest_items buffer) (drop longest_items buffer) (rw (← take-append-drop longest_items buffer) at b)) k₃

pub update_orderly : (es : List Entry) (f buffer : Bytes) (ws : Writes) → assignments_of es f buffer ≡ done ws → Orderly ws
unfolding assignments_of
update_orderly es f buffer ws p =
    from_bind (elements f) _ p λ xs h k.
    from_bind (uses es [] xs) _ k λ us h₂ k₂.
    from_need (not (named_twice us)) 6 _ k₂ λ t k₃.
    record {
      in_turn = λ n i. bare_indexes es xs us h₂ (take longest_items buffer) ws k₃ n i;
      number = λ n i. bare_count es xs us h₂ (take longest_items buffer) ws k₃ n i;
      counted = λ n i. named_counted es xs us h₂ (take longest_items buffer) ws k₃ n i;
    }
