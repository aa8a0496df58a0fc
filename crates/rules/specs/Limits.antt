-- The bounds of document 01 and the sizes of what it lays out, each under what it bounds. Nothing else writes these numbers.
use Rattle.std.specs.Prelude.{ℕ}

-- "64 table entries; level 7"
abbrev pub most_entries : ℕ
most_entries = 64

abbrev pub deepest_level : ℕ
deepest_level = 7

-- "occurrence and value indexes 1 to 191"
abbrev pub highest_index : ℕ
highest_index = 191

-- "a count byte 0 to 191": what a stored count says at most.
abbrev pub greatest_count : ℕ
greatest_count = 191

-- "format buffer 2,048 bytes"
abbrev pub longest_format : ℕ
longest_format = 2048

-- "all items of one call together 32,767 bytes"
abbrev pub longest_items : ℕ
longest_items = 32767

-- "A record holds at most 4,096 bytes.": the longest that is taken (refusal 2), and the longest that is made (refusal 10).
abbrev pub longest_record : ℕ
longest_record = 4096

abbrev pub longest_new_record : ℕ
longest_new_record = 4096

-- The greatest standard lengths of A, B, P and U.
abbrev pub longest_alpha : ℕ
longest_alpha = 253

abbrev pub longest_binary : ℕ
longest_binary = 126

abbrev pub longest_packed : ℕ
longest_packed = 15

abbrev pub longest_unpacked : ℕ
longest_unpacked = 29

-- "−2,147,483,648 to 2,147,483,647": the magnitudes of the lowest and the greatest number of the conversion ranges.
abbrev pub lowest_word : ℕ
lowest_word = 2147483648

abbrev pub greatest_word : ℕ
greatest_word = 2147483647

-- In a format: `nX` and text go to 255, a length too; "numbers have one to three digits".
abbrev pub longest_blanks : ℕ
longest_blanks = 255

abbrev pub longest_text : ℕ
longest_text = 255

abbrev pub greatest_length : ℕ
greatest_length = 255

abbrev pub most_digits : ℕ
most_digits = 3

-- How many formats there are: "Formats A, B, F, P, U".
abbrev pub formats : ℕ
formats = 5

-- "The whole slice is 6 + 6n bytes": the bytes of a table's head, with its number of entries, and of an entry.
abbrev pub table_head_size : ℕ
table_head_size = 6

abbrev pub entry_size : ℕ
entry_size = 6

-- The bytes of a record's head, and of a stored count.
abbrev pub record_head_size : ℕ
record_head_size = 5

abbrev pub count_size : ℕ
count_size = 1
