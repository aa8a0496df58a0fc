-- Document 01, "The specimen job record": the starred cases are one table, proved by one statement, by computing the definitions.
-- Beside it stand the other cases of that section, and those of "Errors that look reasonable".
use mathlib.Core.Bool.{Bool, false, ◌&&◌}
use mathlib.Core.List.{List, [], ◌∷◌}
use Prim.Native.Nat.{ℕ}
use lib.Dec.{T, eqb}
use Rattle.rules.specs.Outcome.{Outcome, done, refused, by, needing}
use Rattle.rules.specs.Limits.{longest_items, longest_new_record}
use Rattle.rules.specs.Lists.{Bytes, same, all}
use Rattle.rules.specs.Services.{read, update}
use Rattle.rules.specs.Characters as CharactersS
use Rattle.rules.specs.Format as FormatS
use Rattle.rules.specs.Last as LastS
use Rattle.rules.specs.Lists as ListsS
use Rattle.rules.specs.Record as RecordS
use Rattle.rules.specs.Services as ServicesS
use Rattle.rules.specs.Table as TableS
use Rattle.rules.specs.Update as UpdateS
use Rattle.rules.specs.Use as UseS
use Rattle.rules.specs.Values as ValuesS

-- A read by its format and room, or by another record and its format; an update by its format and record buffer; and what each gives.
pub data Case : Type 0 where
  reads : Bytes → ℕ → Outcome Bytes → Case
  reads_from : Bytes → Bytes → Outcome Bytes → Case
  updates : Bytes → Bytes → Outcome Bytes → Case

-- 1 AA A5; 1 AB P3; 1 MF U2 MU; 1 GB PE; 2 BA B1; 2 CB U1 MU; 1 HB PE; 2 BB B1; 2 BD A2; 1 ZV A0
unfoldable pub job_table : Bytes
job_table = 0xE5 ∷ 0xC6 ∷ 0xE3 ∷ 0x00 ∷ 0x01 ∷ 0x0A ∷ 0xC1 ∷ 0xC1 ∷ 0x01 ∷ 0xC1 ∷ 0x05 ∷ 0x00 ∷ 0xC1 ∷ 0xC2 ∷ 0x01 ∷ 0xD7 ∷ 0x03 ∷ 0x00 ∷ 0xD4 ∷ 0xC6 ∷ 0x01 ∷ 0xE4 ∷ 0x02 ∷ 0x01 ∷ 0xC7 ∷ 0xC2 ∷ 0x01 ∷ 0x40 ∷ 0x00 ∷ 0x02 ∷ 0xC2 ∷ 0xC1 ∷ 0x02 ∷ 0xC2 ∷ 0x01 ∷ 0x00 ∷ 0xC3 ∷ 0xC2 ∷ 0x02 ∷ 0xE4 ∷ 0x01 ∷ 0x01 ∷ 0xC8 ∷ 0xC2 ∷ 0x01 ∷ 0x40 ∷ 0x00 ∷ 0x02 ∷ 0xC2 ∷ 0xC2 ∷ 0x02 ∷ 0xC2 ∷ 0x01 ∷ 0x00 ∷ 0xC2 ∷ 0xC4 ∷ 0x02 ∷ 0xC1 ∷ 0x02 ∷ 0x00 ∷ 0xE9 ∷ 0xE5 ∷ 0x01 ∷ 0xC1 ∷ 0x00 ∷ 0x00 ∷ []

unfoldable pub job_record : Bytes
job_record = 0xE5 ∷ 0xD9 ∷ 0xC3 ∷ 0x00 ∷ 0x01 ∷ 0xC3 ∷ 0xC1 ∷ 0xC2 ∷ 0x40 ∷ 0x40 ∷ 0x00 ∷ 0x15 ∷ 0x0F ∷ 0x02 ∷ 0xF1 ∷ 0xF5 ∷ 0xF5 ∷ 0xF0 ∷ 0x01 ∷ 0x07 ∷ 0x01 ∷ 0xF3 ∷ 0x00 ∷ 0x01 ∷ []

unfoldable pub starred : List Case
starred =
    -- read AA,AB.
    reads (0xC1 ∷ 0xC1 ∷ 0x6B ∷ 0xC1 ∷ 0xC2 ∷ 0x4B ∷ []) longest_items (done (0xC3 ∷ 0xC1 ∷ 0xC2 ∷ 0x40 ∷ 0x40 ∷ 0x00 ∷ 0x15 ∷ 0x0F ∷ [])) ∷
    -- read AB,2.
    reads (0xC1 ∷ 0xC2 ∷ 0x6B ∷ 0xF2 ∷ 0x4B ∷ []) longest_items (done (0x15 ∷ 0x0F ∷ [])) ∷
    -- read AB,1.
    reads (0xC1 ∷ 0xC2 ∷ 0x6B ∷ 0xF1 ∷ 0x4B ∷ []) longest_items (needing 2 (refused (by 9))) ∷
    -- read AB,5,U.
    reads (0xC1 ∷ 0xC2 ∷ 0x6B ∷ 0xF5 ∷ 0x6B ∷ 0xE4 ∷ 0x4B ∷ []) longest_items (done (0xF0 ∷ 0xF0 ∷ 0xF1 ∷ 0xF5 ∷ 0xF0 ∷ [])) ∷
    -- read AB,2,B.
    reads (0xC1 ∷ 0xC2 ∷ 0x6B ∷ 0xF2 ∷ 0x6B ∷ 0xC2 ∷ 0x4B ∷ []) longest_items (done (0x00 ∷ 0x96 ∷ [])) ∷
    -- read MF,MF,MF.
    reads (0xD4 ∷ 0xC6 ∷ 0x6B ∷ 0xD4 ∷ 0xC6 ∷ 0x6B ∷ 0xD4 ∷ 0xC6 ∷ 0x4B ∷ []) longest_items (done (0xF1 ∷ 0xF5 ∷ 0xF5 ∷ 0xF0 ∷ 0xF0 ∷ 0xF0 ∷ [])) ∷
    -- read MFC,3X,MF2.
    reads (0xD4 ∷ 0xC6 ∷ 0xC3 ∷ 0x6B ∷ 0xF3 ∷ 0xE7 ∷ 0x6B ∷ 0xD4 ∷ 0xC6 ∷ 0xF2 ∷ 0x4B ∷ []) longest_items (done (0x02 ∷ 0x40 ∷ 0x40 ∷ 0x40 ∷ 0xF5 ∷ 0xF0 ∷ [])) ∷
    -- read CB1(1-2),CB2C.
    reads (0xC3 ∷ 0xC2 ∷ 0xF1 ∷ 0x4D ∷ 0xF1 ∷ 0x60 ∷ 0xF2 ∷ 0x5D ∷ 0x6B ∷ 0xC3 ∷ 0xC2 ∷ 0xF2 ∷ 0xC3 ∷ 0x4B ∷ []) longest_items (done (0xF3 ∷ 0xF0 ∷ 0x00 ∷ [])) ∷
    -- read HB2.
    reads (0xC8 ∷ 0xC2 ∷ 0xF2 ∷ 0x4B ∷ []) longest_items (done (0x00 ∷ 0x40 ∷ 0x40 ∷ [])) ∷
    -- update MF. F5F0
    updates (0xD4 ∷ 0xC6 ∷ 0x4B ∷ []) (0xF5 ∷ 0xF0 ∷ []) (done (0xE5 ∷ 0xD9 ∷ 0xC3 ∷ 0x00 ∷ 0x01 ∷ 0xC3 ∷ 0xC1 ∷ 0xC2 ∷ 0x40 ∷ 0x40 ∷ 0x00 ∷ 0x15 ∷ 0x0F ∷ 0x01 ∷ 0xF5 ∷ 0xF0 ∷ 0x01 ∷ 0x07 ∷ 0x01 ∷ 0xF3 ∷ 0x00 ∷ 0x01 ∷ [])) ∷
    -- update MF1. F5F0
    updates (0xD4 ∷ 0xC6 ∷ 0xF1 ∷ 0x4B ∷ []) (0xF5 ∷ 0xF0 ∷ []) (done (0xE5 ∷ 0xD9 ∷ 0xC3 ∷ 0x00 ∷ 0x01 ∷ 0xC3 ∷ 0xC1 ∷ 0xC2 ∷ 0x40 ∷ 0x40 ∷ 0x00 ∷ 0x15 ∷ 0x0F ∷ 0x02 ∷ 0xF5 ∷ 0xF0 ∷ 0xF5 ∷ 0xF0 ∷ 0x01 ∷ 0x07 ∷ 0x01 ∷ 0xF3 ∷ 0x00 ∷ 0x01 ∷ [])) ∷
    -- update MF4. F1F0
    updates (0xD4 ∷ 0xC6 ∷ 0xF4 ∷ 0x4B ∷ []) (0xF1 ∷ 0xF0 ∷ []) (done (0xE5 ∷ 0xD9 ∷ 0xC3 ∷ 0x00 ∷ 0x01 ∷ 0xC3 ∷ 0xC1 ∷ 0xC2 ∷ 0x40 ∷ 0x40 ∷ 0x00 ∷ 0x15 ∷ 0x0F ∷ 0x04 ∷ 0xF1 ∷ 0xF5 ∷ 0xF5 ∷ 0xF0 ∷ 0xF0 ∷ 0xF0 ∷ 0xF1 ∷ 0xF0 ∷ 0x01 ∷ 0x07 ∷ 0x01 ∷ 0xF3 ∷ 0x00 ∷ 0x01 ∷ [])) ∷
    -- update HB2. 05C1C2
    updates (0xC8 ∷ 0xC2 ∷ 0xF2 ∷ 0x4B ∷ []) (0x05 ∷ 0xC1 ∷ 0xC2 ∷ []) (done (0xE5 ∷ 0xD9 ∷ 0xC3 ∷ 0x00 ∷ 0x01 ∷ 0xC3 ∷ 0xC1 ∷ 0xC2 ∷ 0x40 ∷ 0x40 ∷ 0x00 ∷ 0x15 ∷ 0x0F ∷ 0x02 ∷ 0xF1 ∷ 0xF5 ∷ 0xF5 ∷ 0xF0 ∷ 0x01 ∷ 0x07 ∷ 0x01 ∷ 0xF3 ∷ 0x02 ∷ 0x00 ∷ 0x40 ∷ 0x40 ∷ 0x05 ∷ 0xC1 ∷ 0xC2 ∷ 0x01 ∷ [])) ∷
    []

unfoldable pub others : List Case
others =
    -- read ZV.
    reads (0xE9 ∷ 0xE5 ∷ 0x4B ∷ []) longest_items (done (0x01 ∷ [])) ∷
    -- read ZV,3.
    reads (0xE9 ∷ 0xE5 ∷ 0x6B ∷ 0xF3 ∷ 0x4B ∷ []) longest_items (done (0x40 ∷ 0x40 ∷ 0x40 ∷ [])) ∷
    -- read .
    reads (0x4B ∷ []) longest_items (refused (by 3)) ∷
    -- read QQ.
    reads (0xD8 ∷ 0xD8 ∷ 0x4B ∷ []) longest_items (refused (by 4)) ∷
    -- read GB1.
    reads (0xC7 ∷ 0xC2 ∷ 0xF1 ∷ 0x4B ∷ []) longest_items (refused (by 5)) ∷
    -- read MF2-1.
    reads (0xD4 ∷ 0xC6 ∷ 0xF2 ∷ 0x60 ∷ 0xF1 ∷ 0x4B ∷ []) longest_items (refused (by 5)) ∷
    -- read AA. into 4 bytes
    reads (0xC1 ∷ 0xC1 ∷ 0x4B ∷ []) 4 (refused (by 7)) ∷
    -- read AA. into 5 bytes
    reads (0xC1 ∷ 0xC1 ∷ 0x4B ∷ []) 5 (done (0xC3 ∷ 0xC1 ∷ 0xC2 ∷ 0x40 ∷ 0x40 ∷ [])) ∷
    -- update AB. 00150C
    updates (0xC1 ∷ 0xC2 ∷ 0x4B ∷ []) (0x00 ∷ 0x15 ∷ 0x0C ∷ []) (done (0xE5 ∷ 0xD9 ∷ 0xC3 ∷ 0x00 ∷ 0x01 ∷ 0xC3 ∷ 0xC1 ∷ 0xC2 ∷ 0x40 ∷ 0x40 ∷ 0x00 ∷ 0x15 ∷ 0x0F ∷ 0x02 ∷ 0xF1 ∷ 0xF5 ∷ 0xF5 ∷ 0xF0 ∷ 0x01 ∷ 0x07 ∷ 0x01 ∷ 0xF3 ∷ 0x00 ∷ 0x01 ∷ [])) ∷
    -- update AB,2,B. FFFF
    updates (0xC1 ∷ 0xC2 ∷ 0x6B ∷ 0xF2 ∷ 0x6B ∷ 0xC2 ∷ 0x4B ∷ []) (0xFF ∷ 0xFF ∷ []) (done (0xE5 ∷ 0xD9 ∷ 0xC3 ∷ 0x00 ∷ 0x01 ∷ 0xC3 ∷ 0xC1 ∷ 0xC2 ∷ 0x40 ∷ 0x40 ∷ 0x65 ∷ 0x53 ∷ 0x5F ∷ 0x02 ∷ 0xF1 ∷ 0xF5 ∷ 0xF5 ∷ 0xF0 ∷ 0x01 ∷ 0x07 ∷ 0x01 ∷ 0xF3 ∷ 0x00 ∷ 0x01 ∷ [])) ∷
    -- update AB,3,B. 0186A0
    updates (0xC1 ∷ 0xC2 ∷ 0x6B ∷ 0xF3 ∷ 0x6B ∷ 0xC2 ∷ 0x4B ∷ []) (0x01 ∷ 0x86 ∷ 0xA0 ∷ []) (refused (by 9)) ∷
    -- update AB. 001A5F
    updates (0xC1 ∷ 0xC2 ∷ 0x4B ∷ []) (0x00 ∷ 0x1A ∷ 0x5F ∷ []) (refused (by 8)) ∷
    -- update MF2,MF1,MF. F0F0F0F0F0F0
    updates (0xD4 ∷ 0xC6 ∷ 0xF2 ∷ 0x6B ∷ 0xD4 ∷ 0xC6 ∷ 0xF1 ∷ 0x6B ∷ 0xD4 ∷ 0xC6 ∷ 0x4B ∷ []) (0xF0 ∷ 0xF0 ∷ 0xF0 ∷ 0xF0 ∷ 0xF0 ∷ 0xF0 ∷ []) (refused (by 6)) ∷
    -- update MF2,MF1,MF. without a byte: 6 comes before 7
    updates (0xD4 ∷ 0xC6 ∷ 0xF2 ∷ 0x6B ∷ 0xD4 ∷ 0xC6 ∷ 0xF1 ∷ 0x6B ∷ 0xD4 ∷ 0xC6 ∷ 0x4B ∷ []) [] (refused (by 6)) ∷
    []

-- The other values stay on `MF1.`; `MF` after `MF5` is 6; a refused read gives no bytes; what doesn't exist reads as null; a period in text.
unfoldable pub reasonable_errors : List Case
reasonable_errors =
    -- update MF1. F5F0
    updates (0xD4 ∷ 0xC6 ∷ 0xF1 ∷ 0x4B ∷ []) (0xF5 ∷ 0xF0 ∷ []) (done (0xE5 ∷ 0xD9 ∷ 0xC3 ∷ 0x00 ∷ 0x01 ∷ 0xC3 ∷ 0xC1 ∷ 0xC2 ∷ 0x40 ∷ 0x40 ∷ 0x00 ∷ 0x15 ∷ 0x0F ∷ 0x02 ∷ 0xF5 ∷ 0xF0 ∷ 0xF5 ∷ 0xF0 ∷ 0x01 ∷ 0x07 ∷ 0x01 ∷ 0xF3 ∷ 0x00 ∷ 0x01 ∷ [])) ∷
    -- update MF5,MF. F1F0 F2F0
    updates (0xD4 ∷ 0xC6 ∷ 0xF5 ∷ 0x6B ∷ 0xD4 ∷ 0xC6 ∷ 0x4B ∷ []) (0xF1 ∷ 0xF0 ∷ 0xF2 ∷ 0xF0 ∷ []) (done (0xE5 ∷ 0xD9 ∷ 0xC3 ∷ 0x00 ∷ 0x01 ∷ 0xC3 ∷ 0xC1 ∷ 0xC2 ∷ 0x40 ∷ 0x40 ∷ 0x00 ∷ 0x15 ∷ 0x0F ∷ 0x06 ∷ 0xF1 ∷ 0xF5 ∷ 0xF5 ∷ 0xF0 ∷ 0xF0 ∷ 0xF0 ∷ 0xF0 ∷ 0xF0 ∷ 0xF1 ∷ 0xF0 ∷ 0xF2 ∷ 0xF0 ∷ 0x01 ∷ 0x07 ∷ 0x01 ∷ 0xF3 ∷ 0x00 ∷ 0x01 ∷ [])) ∷
    -- read 3X,'A',AB,1.
    reads (0xF3 ∷ 0xE7 ∷ 0x6B ∷ 0x7D ∷ 0xC1 ∷ 0x7D ∷ 0x6B ∷ 0xC1 ∷ 0xC2 ∷ 0x6B ∷ 0xF1 ∷ 0x4B ∷ []) longest_items (needing 2 (refused (by 9))) ∷
    -- read HB9.
    reads (0xC8 ∷ 0xC2 ∷ 0xF9 ∷ 0x4B ∷ []) longest_items (done (0x00 ∷ 0x40 ∷ 0x40 ∷ [])) ∷
    -- read 'A.B'.
    reads (0x7D ∷ 0xC1 ∷ 0x4B ∷ 0xC2 ∷ 0x7D ∷ 0x4B ∷ []) longest_items (done (0xC1 ∷ 0x4B ∷ 0xC2 ∷ [])) ∷
    []

unfoldable pub same_answer : Outcome Bytes → Outcome Bytes → Bool
same_answer (done a) (done b) = same a b
same_answer (done a) (refused m) = false
same_answer (refused n) (done b) = false
same_answer (refused n) (refused m) = eqb n.number m.number && eqb n.length m.length

-- Every definition of the rules is opened here, and with `passes` wherever that is.
unfoldable pub passes : Case → Bool
unfolding job_table job_record same_answer CharactersS.letter CharactersS.digit FormatS.onto FormatS.texts FormatS.skip_spaces FormatS.trim FormatS.leading_digits FormatS.number_first FormatS.index_first FormatS.range_to FormatS.range_end FormatS.closing FormatS.parenthesis FormatS.after_range FormatS.after_index FormatS.series_to FormatS.after_name FormatS.override_letters FormatS.is_override FormatS.after_number FormatS.text_piece FormatS.piece FormatS.settled FormatS.completed FormatS.put_before FormatS.assembled FormatS.elements ListsS.bytes_of ListsS.nothing ListsS.absent ListsS.same ListsS.all ListsS.any ListsS.filter ListsS.look_up ListsS.maximum ListsS.run ListsS.join ListsS.cut ListsS.spelled ListsS.digits ListsS.but_last ListsS.last RecordS.record_head RecordS.times RecordS.stored_count RecordS.counted RecordS.each RecordS.stored_value RecordS.stored_cell RecordS.stored_part RecordS.stored RecordS.count_bytes RecordS.counted_bytes RecordS.each_bytes RecordS.cell_bytes RecordS.part_bytes RecordS.body_bytes RecordS.record_bytes RecordS.cell_of RecordS.values_at RecordS.value_at RecordS.value_count_at RecordS.group_count_at RecordS.laid_cell RecordS.laid_part RecordS.laid_out RecordS.count_or_one RecordS.empty_record LastS.lies_inside LastS.scoped LastS.after_N LastS.lasts_by LastS.in_full LastS.meaning_of LastS.meanings LastS.counts_in LastS.occurrences_stored LastS.item_resolved LastS.use_resolved LastS.items_read ServicesS.item_bytes ServicesS.filled ServicesS.read ServicesS.assignments_of ServicesS.fitting ServicesS.update ServicesS.empty TableS.table_head TableS.is_name TableS.name_of TableS.format_letters TableS.format_of TableS.what_of TableS.entries TableS.levels TableS.differ TableS.names TableS.table TableS.inside_of TableS.fields_below TableS.alone TableS.part_of TableS.parts_from TableS.parts TableS.member TableS.part_holding UpdateS.meet UpdateS.share UpdateS.name_alike UpdateS.named_twice UpdateS.assignments UpdateS.same_place UpdateS.assigned UpdateS.to_field UpdateS.to_part UpdateS.highest_occurrence UpdateS.highest_value UpdateS.bare_only UpdateS.new_value_count UpdateS.new_group_count UpdateS.new_value UpdateS.update_plan UpdateS.after_update UseS.value_items UseS.items_of UseS.items UseS.find_from UseS.find UseS.format_in_effect UseS.length_in_effect UseS.asked UseS.as_stored UseS.in_order UseS.spread UseS.last_index UseS.indexes_after UseS.plain UseS.use_of_group UseS.use_of_field UseS.use_of_count UseS.fields_to UseS.use_of_series UseS.use_of UseS.uses ValuesS.allowed ValuesS.signed ValuesS.strip ValuesS.halves ValuesS.pairs ValuesS.accepted_plus ValuesS.accepted_minus ValuesS.sign_means ValuesS.decimal ValuesS.twos_complement ValuesS.meaning ValuesS.sign_written ValuesS.zoned ValuesS.normal ValuesS.null_value ValuesS.null ValuesS.first_value ValuesS.content ValuesS.with_length_byte ValuesS.in_normal_form ValuesS.conversion ValuesS.converts ValuesS.in_range ValuesS.converted ValuesS.converted_bytes ValuesS.would_hold ValuesS.first_up ValuesS.smallest_length ValuesS.read_value
passes (reads f room a) = same_answer (read job_table job_record f room) a
passes (reads_from b f a) = same_answer (read job_table b f longest_items) a
passes (updates f buffer a) = same_answer (update job_table job_record f buffer longest_new_record) a

pub starred_pass : T (all passes starred)
unfolding passes starred
starred_pass = tt

pub others_pass : T (all passes others)
unfolding passes others
others_pass = tt

pub reasonable_errors_pass : T (all passes reasonable_errors)
unfolding passes reasonable_errors
reasonable_errors_pass = tt
