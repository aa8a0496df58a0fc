-- Document 02, M-101, "Old host signs": every half byte as the sign of an incoming value, and which signs a record keeps, on the specimen's
-- table, proved by computing the definitions.
use mathlib.Core.List.{List, [], ◌∷◌, ◌++◌}
use lib.Dec.{T}
use Rattle.rules.specs.Outcome.{done, refused, by}
use Rattle.rules.specs.Lists.{Bytes, all}
use Rattle.rules.proofs.Specimen.{Case, updates, reads_from, passes}

-- The specimen's record by the values of AB, MF1 and BA1, and with one of them changed.
unfoldable pub record_with : Bytes → Bytes → Bytes → Bytes
record_with ab mf ba = (0xE5 ∷ 0xD9 ∷ 0xC3 ∷ 0x00 ∷ 0x01 ∷ 0xC3 ∷ 0xC1 ∷ 0xC2 ∷ 0x40 ∷ 0x40 ∷ []) ++ ab ++ (0x02 ∷ []) ++ mf ++ (0xF5 ∷ 0xF0 ∷ 0x01 ∷ []) ++ ba ++ (0x01 ∷ 0xF3 ∷ 0x00 ∷ 0x01 ∷ [])

unfoldable pub with_AB : Bytes → Bytes
with_AB v = record_with v (0xF1 ∷ 0xF5 ∷ []) (0x07 ∷ [])

unfoldable pub with_MF1 : Bytes → Bytes
with_MF1 v = record_with (0x00 ∷ 0x15 ∷ 0x0F ∷ []) v (0x07 ∷ [])

unfoldable pub with_BA1 : Bytes → Bytes
with_BA1 v = record_with (0x00 ∷ 0x15 ∷ 0x0F ∷ []) (0xF1 ∷ 0xF5 ∷ []) v

-- The formats `AB.`, `AB,3,U.`, `MF1.` and `BA1,2,P.`
unfoldable pub AB : Bytes
AB = 0xC1 ∷ 0xC2 ∷ 0x4B ∷ []

unfoldable pub AB_3_U : Bytes
AB_3_U = 0xC1 ∷ 0xC2 ∷ 0x6B ∷ 0xF3 ∷ 0x6B ∷ 0xE4 ∷ 0x4B ∷ []

unfoldable pub MF1 : Bytes
MF1 = 0xD4 ∷ 0xC6 ∷ 0xF1 ∷ 0x4B ∷ []

unfoldable pub BA1_2_P : Bytes
BA1_2_P = 0xC2 ∷ 0xC1 ∷ 0xF1 ∷ 0x6B ∷ 0xF2 ∷ 0x6B ∷ 0xD7 ∷ 0x4B ∷ []

unfoldable pub host_signs : List Case
host_signs =
    -- "A, C, E and F as plus, B and D as minus"
    updates AB (0x00 ∷ 0x16 ∷ 0x0A ∷ []) (done (with_AB (0x00 ∷ 0x16 ∷ 0x0F ∷ []))) ∷
    updates AB (0x00 ∷ 0x16 ∷ 0x0B ∷ []) (done (with_AB (0x00 ∷ 0x16 ∷ 0x0D ∷ []))) ∷
    updates AB (0x00 ∷ 0x16 ∷ 0x0C ∷ []) (done (with_AB (0x00 ∷ 0x16 ∷ 0x0F ∷ []))) ∷
    updates AB (0x00 ∷ 0x16 ∷ 0x0D ∷ []) (done (with_AB (0x00 ∷ 0x16 ∷ 0x0D ∷ []))) ∷
    updates AB (0x00 ∷ 0x16 ∷ 0x0E ∷ []) (done (with_AB (0x00 ∷ 0x16 ∷ 0x0F ∷ []))) ∷
    updates AB (0x00 ∷ 0x16 ∷ 0x0F ∷ []) (done (with_AB (0x00 ∷ 0x16 ∷ 0x0F ∷ []))) ∷
    -- "8 for a sign half is given for 0 to 9 only"
    updates AB (0x00 ∷ 0x16 ∷ 0x00 ∷ []) (refused (by 8)) ∷
    updates AB (0x00 ∷ 0x16 ∷ 0x01 ∷ []) (refused (by 8)) ∷
    updates AB (0x00 ∷ 0x16 ∷ 0x02 ∷ []) (refused (by 8)) ∷
    updates AB (0x00 ∷ 0x16 ∷ 0x03 ∷ []) (refused (by 8)) ∷
    updates AB (0x00 ∷ 0x16 ∷ 0x04 ∷ []) (refused (by 8)) ∷
    updates AB (0x00 ∷ 0x16 ∷ 0x05 ∷ []) (refused (by 8)) ∷
    updates AB (0x00 ∷ 0x16 ∷ 0x06 ∷ []) (refused (by 8)) ∷
    updates AB (0x00 ∷ 0x16 ∷ 0x07 ∷ []) (refused (by 8)) ∷
    updates AB (0x00 ∷ 0x16 ∷ 0x08 ∷ []) (refused (by 8)) ∷
    updates AB (0x00 ∷ 0x16 ∷ 0x09 ∷ []) (refused (by 8)) ∷
    -- Zero with B means zero, as it does with D.
    updates AB (0x00 ∷ 0x00 ∷ 0x0B ∷ []) (done (with_AB (0x00 ∷ 0x00 ∷ 0x0F ∷ []))) ∷
    updates AB (0x00 ∷ 0x00 ∷ 0x0D ∷ []) (done (with_AB (0x00 ∷ 0x00 ∷ 0x0F ∷ []))) ∷
    -- Whatever the length and the format in effect.
    updates AB_3_U (0xF1 ∷ 0xF6 ∷ 0xA0 ∷ []) (done (with_AB (0x00 ∷ 0x16 ∷ 0x0F ∷ []))) ∷
    updates AB_3_U (0xF1 ∷ 0xF6 ∷ 0xB0 ∷ []) (done (with_AB (0x00 ∷ 0x16 ∷ 0x0D ∷ []))) ∷
    updates AB_3_U (0xF1 ∷ 0xF6 ∷ 0xC0 ∷ []) (done (with_AB (0x00 ∷ 0x16 ∷ 0x0F ∷ []))) ∷
    updates AB_3_U (0xF1 ∷ 0xF6 ∷ 0xD0 ∷ []) (done (with_AB (0x00 ∷ 0x16 ∷ 0x0D ∷ []))) ∷
    updates AB_3_U (0xF1 ∷ 0xF6 ∷ 0xE0 ∷ []) (done (with_AB (0x00 ∷ 0x16 ∷ 0x0F ∷ []))) ∷
    updates AB_3_U (0xF1 ∷ 0xF6 ∷ 0xF0 ∷ []) (done (with_AB (0x00 ∷ 0x16 ∷ 0x0F ∷ []))) ∷
    updates AB_3_U (0xF1 ∷ 0xF6 ∷ 0x00 ∷ []) (refused (by 8)) ∷
    updates AB_3_U (0xF1 ∷ 0xF6 ∷ 0x90 ∷ []) (refused (by 8)) ∷
    updates MF1 (0xF1 ∷ 0xA6 ∷ []) (done (with_MF1 (0xF1 ∷ 0xF6 ∷ []))) ∷
    updates MF1 (0xF1 ∷ 0xB6 ∷ []) (done (with_MF1 (0xF1 ∷ 0xD6 ∷ []))) ∷
    updates MF1 (0xF1 ∷ 0x96 ∷ []) (refused (by 8)) ∷
    updates BA1_2_P (0x00 ∷ 0x8E ∷ []) (done (with_BA1 (0x08 ∷ []))) ∷
    updates BA1_2_P (0x00 ∷ 0x0B ∷ []) (done (with_BA1 (0x00 ∷ []))) ∷
    updates BA1_2_P (0x00 ∷ 0x8B ∷ []) (refused (by 9)) ∷
    -- A high half other than F before the last byte of U, and a digit above 9, stay bad values.
    updates AB_3_U (0xA1 ∷ 0xF6 ∷ 0xA0 ∷ []) (refused (by 8)) ∷
    updates AB (0x00 ∷ 0x16 ∷ 0xAA ∷ []) (refused (by 8)) ∷
    updates AB (0x00 ∷ 0xA6 ∷ 0x0E ∷ []) (refused (by 8)) ∷
    -- "stored records keep F and D only"
    reads_from (with_AB (0x00 ∷ 0x15 ∷ 0x0A ∷ [])) AB (refused (by 2)) ∷
    reads_from (with_AB (0x00 ∷ 0x15 ∷ 0x0B ∷ [])) AB (refused (by 2)) ∷
    reads_from (with_AB (0x00 ∷ 0x15 ∷ 0x0C ∷ [])) AB (refused (by 2)) ∷
    reads_from (with_AB (0x00 ∷ 0x15 ∷ 0x0D ∷ [])) AB (done (0x00 ∷ 0x15 ∷ 0x0D ∷ [])) ∷
    reads_from (with_AB (0x00 ∷ 0x15 ∷ 0x0E ∷ [])) AB (refused (by 2)) ∷
    reads_from (with_AB (0x00 ∷ 0x15 ∷ 0x00 ∷ [])) AB (refused (by 2)) ∷
    reads_from (with_AB (0x00 ∷ 0x15 ∷ 0x09 ∷ [])) AB (refused (by 2)) ∷
    reads_from (with_MF1 (0xF1 ∷ 0xA5 ∷ [])) MF1 (refused (by 2)) ∷
    reads_from (with_MF1 (0xF1 ∷ 0xB5 ∷ [])) MF1 (refused (by 2)) ∷
    reads_from (with_MF1 (0xF1 ∷ 0xC5 ∷ [])) MF1 (refused (by 2)) ∷
    reads_from (with_MF1 (0xF1 ∷ 0xE5 ∷ [])) MF1 (refused (by 2)) ∷
    []

pub host_signs_pass : T (all passes host_signs)
unfolding passes host_signs record_with with_AB with_MF1 with_BA1 AB AB_3_U MF1 BA1_2_P
host_signs_pass = tt
