-- Document 01, "Use rules": what each element means by the table, and the items that it stands for. A name not in the table is 4, a
-- use rule broken is 5.
use Rattle.std.specs.Prelude.{Bool, true, false, not, ◌&&◌, ◌||◌, List, [], ◌∷◌, ◌++◌, map, ℕ, suc, ◌-◌, eqb, leb}
use Rattle.std.proofs.Math.Option.{Option, none, some}
use Rattle.rules.specs.Outcome.{Outcome, done, refused, by, ◌>>=◌, need}
use Rattle.rules.specs.Limits.{highest_index}
use Rattle.rules.specs.Lists.{Bytes, absent, all, filter, run, join, look_up}
use Rattle.rules.specs.Values.{Format, allowed, converts}
use Rattle.rules.specs.Table.{Field, What, field, group, Entry, format_of, is_inside, fields_below}
use Rattle.rules.specs.Format.{Range, Indexing, these, the_last, up_to_the_last, Element, blanks, quoted, named, count, count_in_last, series}

-- "An occurrence .. is one value of one field": value `value` of `field` in occurrence `occurrence` of its periodic group, else 1.
pub record Place : Type 0 where
  pub field : Field
  pub occurrence : ℕ
  pub value : ℕ

-- "An item is one occurrence, one count, one run of blanks or one text." An occurrence has the format and the length in effect, and
-- whether the bare name of an MU field stood for it. The count of a group goes by its name, that of an MU field by its name and occurrence.
pub data Item : Type 0 where
  blanks_item : ℕ → Item
  text_item : Bytes → Item
  group_count : ℕ → Item
  value_count : ℕ → ℕ → Item
  value_item : Place → Format → ℕ → Bool → Item

-- A field with the format and the length in effect.
pub record Asked : Type 0 where
  pub field : Field
  pub format : Format
  pub size : ℕ

-- What an element means: one item; or occurrences, being some fields in a range of occurrences and a range of values.
pub data Use : Type 0 where
  one : Item → Use
  values : List Asked → Range → Range → Bool → Use

abbrev pub over : {X : Type 0} → Range → (ℕ → X) → List X
over r f = run f r.from (suc r.upto - r.from)

-- "Range order: occurrences outermost, then the group's fields in table order, then values." The values may differ by field and occurrence.
abbrev pub items_over : List Asked → Range → (Field → ℕ → Range) → Bool → List Item
items_over fs os vs bare = join (over os (λ i. join (map (λ a. over (vs a.field i) (λ k.
    value_item (record { field = a.field; occurrence = i; value = k }) a.format a.size bare)) fs)))

unfoldable pub value_items : List Asked → Range → Range → Bool → List Item
value_items fs os vs bare = items_over fs os (λ f i. vs) bare

unfoldable pub items_of : Use → List Item
items_of (one x) = x ∷ []
items_of (values fs os vs bare) = value_items fs os vs bare

unfoldable pub items : List Use → List Item
items us = join (map items_of us)

-- An entry by its name: whether it is a periodic group or in one, and the entries after it. 4 where there is none.
pub record Found : Type 0 where
  pub entry : Entry
  pub inside : Bool
  pub after : List Entry

unfoldable pub find_from : Bool → ℕ → List Entry → Outcome Found
find_from before n [] = refused (by 4)
find_from before n (e ∷ es) = elim (eqb e.name n) [
  | true ↦ done (record { entry = e; inside = is_inside before e; after = es })
  | false ↦ find_from (is_inside before e) n es
]

unfoldable pub find : ℕ → List Entry → Outcome Found
find n es = find_from false n es

-- "Omitted ones are the field's standard." There is no format in effect for G and W: they "convert with nothing".
unfoldable pub format_in_effect : Field → Option ℕ → Option Format
format_in_effect f none = some f.format
format_in_effect f (some letter) = format_of letter

unfoldable pub length_in_effect : Field → Option ℕ → ℕ
length_in_effect f none = f.size
length_in_effect f (some n) = n

-- "The length in effect must be allowed for the format in effect, and the formats convert."
unfoldable pub asked : Field → Option ℕ → Option ℕ → Outcome Asked
asked f l g = elim (format_in_effect f g) [
  | none ↦ refused (by 5)
  | some h ↦ do
    _ ← need (allowed h (length_in_effect f l) && converts f.format h) 5
    done (record { field = f; format = h; size = length_in_effect f l })
]

unfoldable pub as_stored : Field → Asked
as_stored f = record { field = f; format = f.format; size = f.size }

-- "Indexes lie in 1 to 191, implied ones too; ranges don't descend."
unfoldable pub in_order : Range → Bool
in_order r = leb 1 r.from && leb r.from r.upto && leb r.upto highest_index

abbrev pub just : ℕ → Range
just i = record { from = i; upto = i }

-- The use rules take N, and `1-N`, as they take 1.
abbrev pub range_of : Indexing → Range
range_of (these r) = r
range_of the_last = just 1
range_of up_to_the_last = just 1

abbrev pub ranges_of : Option Indexing → Option Range
ranges_of none = none
ranges_of (some x) = some (range_of x)

-- The occurrences and the values that an element means, and whether the bare name of an MU field means them.
pub record Spread : Type 0 where
  pub occurrences : Range
  pub values : Range
  pub bare : Bool

-- By whether the entry is a periodic group or in one, whether it is an MU field, and that field's last index so far.
-- "A periodic group, and anything in one, takes `i` or `i-j`. An MU field there may add parentheses; without them value 1 is meant."
-- "An MU field outside takes none, `i` or `i-j`. A bare name means one above the last index of this field so far".
-- "A plain field or group outside periodic groups takes no index."
unfoldable pub spread : Bool → Bool → ℕ → Option Range → Option Range → Outcome Spread
spread true mu last none vs = refused (by 5)
spread true mu last (some os) none = do
  _ ← need (in_order os) 5
  done (record { occurrences = os; values = just 1; bare = false })
spread true mu last (some os) (some vs) = do
  _ ← need (mu && in_order os && in_order vs) 5
  done (record { occurrences = os; values = vs; bare = false })
spread false mu last os (some vs) = refused (by 5)
spread false true last none none = do
  _ ← need (in_order (just (suc last))) 5
  done (record { occurrences = just 1; values = just (suc last); bare = true })
spread false true last (some vs) none = do
  _ ← need (in_order vs) 5
  done (record { occurrences = just 1; values = vs; bare = false })
spread false false last none none = done (record { occurrences = just 1; values = just 1; bare = false })
spread false false last (some os) none = refused (by 5)

-- The last index so far of each MU field, the latest first: "the end of a range included; the first is 1".
abbrev pub Indexes : Type 0
Indexes = List (ℕ × ℕ)

unfoldable pub last_index : ℕ → Indexes → ℕ
last_index n ls = elim (look_up n ls) [ some i ↦ i | none ↦ 0 ]

unfoldable pub indexes_after : Use → Indexes → Indexes
indexes_after (one x) ls = ls
indexes_after (values fs os vs bare) ls =
    map (λ a. (a.field.name, vs.upto)) (filter (λ a. a.field.multiple) fs) ++ ls

-- "A group that contains an MU or variable-length field can't be named".
unfoldable pub plain : Field → Bool
plain f = not f.multiple && leb 1 f.size

-- A name: "a group takes no length or format".
unfoldable pub use_of_group : Found → Option Range → Option Range → Option ℕ → Option ℕ → Outcome Use
use_of_group x os vs l g = let fs = fields_below x.entry.level x.after in do
  _ ← need (absent l && absent g && all plain fs) 5
  s ← spread x.inside false 0 os vs
  done (values (map as_stored fs) s.occurrences s.values s.bare)

unfoldable pub use_of_field : Field → Bool → ℕ → Option Range → Option Range → Option ℕ → Option ℕ → Outcome Use
use_of_field f inside last os vs l g = do
  s ← spread inside f.multiple last os vs
  a ← asked f l g
  done (values (a ∷ []) s.occurrences s.values s.bare)

-- "`C` goes with an MU field outside or a periodic group, `iC` with an MU field inside one."
unfoldable pub use_of_count : ℕ → What → Bool → Option ℕ → Outcome Use
use_of_count n (group p) inside i = do
  _ ← need (p && absent i) 5
  done (one (group_count n))
use_of_count n (field f s mu) inside none = do
  _ ← need (mu && not inside) 5
  done (one (value_count n 1))
use_of_count n (field f s mu) inside (some i) = do
  _ ← need (mu && inside && in_order (just i)) 5
  done (one (value_count n i))

-- "A series starts and ends at plain fields outside periodic groups, first not after last, with no MU and no periodic group between."
-- The fields from the first entry on, to the one named.
unfoldable pub fields_to : ℕ → List Entry → Outcome (List Field)
fields_to n [] = refused (by 5)
fields_to n (e ∷ es) = elim e.what [
  | field f s mu ↦ do
    _ ← need (not mu) 5
    fs ← elim (eqb e.name n) [ true ↦ done [] | false ↦ fields_to n es ]
    done (record { name = e.name; format = f; size = s; multiple = mu } ∷ fs)
  | group p ↦ do
    _ ← need (not p && not (eqb e.name n)) 5
    fields_to n es
]

unfoldable pub use_of_series : Found → ℕ → Outcome Use
use_of_series x n = elim x.entry.what [
  | group p ↦ refused (by 5)
  | field f s mu ↦ do
    _ ← need (not x.inside) 5
    fs ← fields_to n (x.entry ∷ x.after)
    done (values (map as_stored fs) (just 1) (just 1) false)
]

-- What an element means, after the indexes so far.
unfoldable pub use_of : List Entry → Indexes → Element → Outcome Use
use_of es ls (blanks n) = done (one (blanks_item n))
use_of es ls (quoted t) = done (one (text_item t))
use_of es ls (count n i) = do
  x ← find n es
  use_of_count n x.entry.what x.inside i
use_of es ls (count_in_last n) = do
  x ← find n es
  use_of_count n x.entry.what x.inside (some 1)
use_of es ls (series n m) = do
  x ← find n es
  _ ← find m es
  use_of_series x m
use_of es ls (named n os vs l g) = do
  x ← find n es
  elim x.entry.what [
    | group p ↦ use_of_group x (ranges_of os) (ranges_of vs) l g
    | field f s mu ↦
        use_of_field (record { name = n; format = f; size = s; multiple = mu }) x.inside (last_index n ls) (ranges_of os) (ranges_of vs) l g
  ]

-- Whether an element has N in it.
abbrev pub is_N : Option Indexing → Bool
is_N none = false
is_N (some (these r)) = false
is_N (some the_last) = true
is_N (some up_to_the_last) = true

abbrev pub has_N : Element → Bool
has_N (blanks n) = false
has_N (quoted t) = false
has_N (named n os vs l g) = is_N os || is_N vs
has_N (count n i) = false
has_N (count_in_last n) = true
has_N (series n m) = false

-- What the elements of an update mean: "elements left to right, 4 before 5". "N in an update is 5"; reads go by `Last`.
unfoldable pub uses : List Entry → Indexes → List Element → Outcome (List Use)
uses es ls [] = done []
uses es ls (x ∷ xs) = do
  u ← use_of es ls x
  _ ← need (not (has_N x)) 5
  us ← uses es (indexes_after u ls) xs
  done (u ∷ us)
