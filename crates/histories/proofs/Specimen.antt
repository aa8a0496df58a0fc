-- Three histories of document 01's specimen table, computed: each read of the record that they leave, and the same told from the history
-- alone, give the bytes written here. And a service that carries out the first update of a sequence and only reports the rest breaks demand 3.
use mathlib.Core.Path.{◌≡◌, refl, ap}
use mathlib.Core.Bool.{Bool, true, false, ◌&&◌}
use mathlib.Core.List.{List, [], ◌∷◌}
use Prim.Native.Nat.{ℕ, zero, suc, ◌<◌}
use native.Mathlib.Omega.{arith}
use lib.Dec.{T}
use lib.ListN.{get_or}
use Rattle.rules.specs.Outcome.{Outcome, done, refused, by}
use Rattle.rules.specs.Limits.{longest_items, longest_new_record}
use Rattle.rules.specs.Lists.{Bytes, bytes_of, all}
use Rattle.rules.specs.Values.{unpacked}
use Rattle.rules.specs.Table.{Entry, table, part_named}
use Rattle.rules.specs.Use.{Place}
use Rattle.rules.specs.Services.{read, empty}
use Rattle.rules.proofs.Specimen.{job_table, same_answer, passes}
use Rattle.rules.proofs.Steps.{done_inj}
use Rattle.histories.specs.History.{Call, History, ByteBuffers, answer, left_by, record_after, writes_of, writes, accepted, last_written_value, value_count_of, occurrences_of, group_count_of, items_by, OverAHistory}
use Rattle.histories.specs.Told.{told_item, told_items, counts_told, told}

unfoldable pub job_start : Bytes
job_start = bytes_of (empty job_table longest_new_record)

abbrev pub call : Bytes → Bytes → Call
call f buffer = record { format = f; buffer = buffer; room = longest_new_record }

-- Formats, and what each reads.
abbrev pub Answers : Type 0
Answers = List (Bytes × Bytes)

unfoldable pub agrees : History → Bytes × Bytes → Bool
unfolding passes job_start answer left_by record_after writes_of writes accepted last_written_value value_count_of occurrences_of part_named group_count_of told_item told_items counts_told told
agrees h x =
    same_answer (read job_table (record_after job_table job_start h) x.0 longest_items) (done x.1)
    && same_answer (told job_table (accepted job_table job_start h) x.0 longest_items) (done x.1)

-- Bare names after indexes, and a refused call, the latest call first: MF1. F6F0 | AB. 001A5F | MF,MF. F5F1F5F2 | AA,MF1-3. C3C1C24040F1F0F2F0F3F0
unfoldable pub listed : History
listed =
    call (0xD4 ∷ 0xC6 ∷ 0xF1 ∷ 0x4B ∷ []) (0xF6 ∷ 0xF0 ∷ []) ∷
    call (0xC1 ∷ 0xC2 ∷ 0x4B ∷ []) (0x00 ∷ 0x1A ∷ 0x5F ∷ []) ∷
    call (0xD4 ∷ 0xC6 ∷ 0x6B ∷ 0xD4 ∷ 0xC6 ∷ 0x4B ∷ []) (0xF5 ∷ 0xF1 ∷ 0xF5 ∷ 0xF2 ∷ []) ∷
    call (0xC1 ∷ 0xC1 ∷ 0x6B ∷ 0xD4 ∷ 0xC6 ∷ 0xF1 ∷ 0x60 ∷ 0xF3 ∷ 0x4B ∷ []) (0xC3 ∷ 0xC1 ∷ 0xC2 ∷ 0x40 ∷ 0x40 ∷ 0xF1 ∷ 0xF0 ∷ 0xF2 ∷ 0xF0 ∷ 0xF3 ∷ 0xF0 ∷ []) ∷
    []

unfoldable pub listed_reads : Answers
listed_reads =
    -- AA.
    ((0xC1 ∷ 0xC1 ∷ 0x4B ∷ []), (0xC3 ∷ 0xC1 ∷ 0xC2 ∷ 0x40 ∷ 0x40 ∷ [])) ∷
    -- AB.
    ((0xC1 ∷ 0xC2 ∷ 0x4B ∷ []), (0x00 ∷ 0x00 ∷ 0x0F ∷ [])) ∷
    -- MF1.
    ((0xD4 ∷ 0xC6 ∷ 0xF1 ∷ 0x4B ∷ []), (0xF6 ∷ 0xF0 ∷ [])) ∷
    -- MF.
    ((0xD4 ∷ 0xC6 ∷ 0x4B ∷ []), (0xF6 ∷ 0xF0 ∷ [])) ∷
    -- MF2.
    ((0xD4 ∷ 0xC6 ∷ 0xF2 ∷ 0x4B ∷ []), (0xF5 ∷ 0xF2 ∷ [])) ∷
    -- MF3.
    ((0xD4 ∷ 0xC6 ∷ 0xF3 ∷ 0x4B ∷ []), (0xF0 ∷ 0xF0 ∷ [])) ∷
    -- MFC.
    ((0xD4 ∷ 0xC6 ∷ 0xC3 ∷ 0x4B ∷ []), (0x02 ∷ [])) ∷
    -- MF1-3,MFC.
    ((0xD4 ∷ 0xC6 ∷ 0xF1 ∷ 0x60 ∷ 0xF3 ∷ 0x6B ∷ 0xD4 ∷ 0xC6 ∷ 0xC3 ∷ 0x4B ∷ []), (0xF6 ∷ 0xF0 ∷ 0xF5 ∷ 0xF2 ∷ 0xF0 ∷ 0xF0 ∷ 0x02 ∷ [])) ∷
    -- MF1-N.
    ((0xD4 ∷ 0xC6 ∷ 0xF1 ∷ 0x60 ∷ 0xD5 ∷ 0x4B ∷ []), (0xF6 ∷ 0xF0 ∷ 0xF5 ∷ 0xF2 ∷ [])) ∷
    -- MFN,MF.
    ((0xD4 ∷ 0xC6 ∷ 0xD5 ∷ 0x6B ∷ 0xD4 ∷ 0xC6 ∷ 0x4B ∷ []), (0xF5 ∷ 0xF2 ∷ 0xF5 ∷ 0xF2 ∷ [])) ∷
    []

pub listed_agrees : T (all (agrees listed) listed_reads)
unfolding agrees listed listed_reads
listed_agrees = tt

-- Periodic groups, and an MU field in one, the latest call first: HB2. 05C1C2 | CB1. F4 | QQ. 00 | BA3. 09 | CB2(5). F7
unfoldable pub periodic : History
periodic =
    call (0xC8 ∷ 0xC2 ∷ 0xF2 ∷ 0x4B ∷ []) (0x05 ∷ 0xC1 ∷ 0xC2 ∷ []) ∷
    call (0xC3 ∷ 0xC2 ∷ 0xF1 ∷ 0x4B ∷ []) (0xF4 ∷ []) ∷
    call (0xD8 ∷ 0xD8 ∷ 0x4B ∷ []) (0x00 ∷ []) ∷
    call (0xC2 ∷ 0xC1 ∷ 0xF3 ∷ 0x4B ∷ []) (0x09 ∷ []) ∷
    call (0xC3 ∷ 0xC2 ∷ 0xF2 ∷ 0x4D ∷ 0xF5 ∷ 0x5D ∷ 0x4B ∷ []) (0xF7 ∷ []) ∷
    []

unfoldable pub periodic_reads : Answers
periodic_reads =
    -- CB2(5).
    ((0xC3 ∷ 0xC2 ∷ 0xF2 ∷ 0x4D ∷ 0xF5 ∷ 0x5D ∷ 0x4B ∷ []), (0xF7 ∷ [])) ∷
    -- CB2(4).
    ((0xC3 ∷ 0xC2 ∷ 0xF2 ∷ 0x4D ∷ 0xF4 ∷ 0x5D ∷ 0x4B ∷ []), (0xF0 ∷ [])) ∷
    -- CB1.
    ((0xC3 ∷ 0xC2 ∷ 0xF1 ∷ 0x4B ∷ []), (0xF4 ∷ [])) ∷
    -- CB1(1).
    ((0xC3 ∷ 0xC2 ∷ 0xF1 ∷ 0x4D ∷ 0xF1 ∷ 0x5D ∷ 0x4B ∷ []), (0xF4 ∷ [])) ∷
    -- CB2C.
    ((0xC3 ∷ 0xC2 ∷ 0xF2 ∷ 0xC3 ∷ 0x4B ∷ []), (0x05 ∷ [])) ∷
    -- CB1C.
    ((0xC3 ∷ 0xC2 ∷ 0xF1 ∷ 0xC3 ∷ 0x4B ∷ []), (0x01 ∷ [])) ∷
    -- CB3C.
    ((0xC3 ∷ 0xC2 ∷ 0xF3 ∷ 0xC3 ∷ 0x4B ∷ []), (0x00 ∷ [])) ∷
    -- CB4C.
    ((0xC3 ∷ 0xC2 ∷ 0xF4 ∷ 0xC3 ∷ 0x4B ∷ []), (0x00 ∷ [])) ∷
    -- GBC.
    ((0xC7 ∷ 0xC2 ∷ 0xC3 ∷ 0x4B ∷ []), (0x03 ∷ [])) ∷
    -- BA3.
    ((0xC2 ∷ 0xC1 ∷ 0xF3 ∷ 0x4B ∷ []), (0x09 ∷ [])) ∷
    -- BA1.
    ((0xC2 ∷ 0xC1 ∷ 0xF1 ∷ 0x4B ∷ []), (0x00 ∷ [])) ∷
    -- HBC.
    ((0xC8 ∷ 0xC2 ∷ 0xC3 ∷ 0x4B ∷ []), (0x02 ∷ [])) ∷
    -- BD2.
    ((0xC2 ∷ 0xC4 ∷ 0xF2 ∷ 0x4B ∷ []), (0xC1 ∷ 0xC2 ∷ [])) ∷
    -- BD1.
    ((0xC2 ∷ 0xC4 ∷ 0xF1 ∷ 0x4B ∷ []), (0x40 ∷ 0x40 ∷ [])) ∷
    -- HB2.
    ((0xC8 ∷ 0xC2 ∷ 0xF2 ∷ 0x4B ∷ []), (0x05 ∷ 0xC1 ∷ 0xC2 ∷ [])) ∷
    -- HB1-N.
    ((0xC8 ∷ 0xC2 ∷ 0xF1 ∷ 0x60 ∷ 0xD5 ∷ 0x4B ∷ []), (0x00 ∷ 0x40 ∷ 0x40 ∷ 0x05 ∷ 0xC1 ∷ 0xC2 ∷ [])) ∷
    -- BAN.
    ((0xC2 ∷ 0xC1 ∷ 0xD5 ∷ 0x4B ∷ []), (0x09 ∷ [])) ∷
    -- CBNC.
    ((0xC3 ∷ 0xC2 ∷ 0xD5 ∷ 0xC3 ∷ 0x4B ∷ []), (0x00 ∷ [])) ∷
    -- CB2(1-N).
    ((0xC3 ∷ 0xC2 ∷ 0xF2 ∷ 0x4D ∷ 0xF1 ∷ 0x60 ∷ 0xD5 ∷ 0x5D ∷ 0x4B ∷ []), (0xF0 ∷ 0xF0 ∷ 0xF0 ∷ 0xF0 ∷ 0xF7 ∷ [])) ∷
    -- CB1-3(N).
    ((0xC3 ∷ 0xC2 ∷ 0xF1 ∷ 0x60 ∷ 0xF3 ∷ 0x4D ∷ 0xD5 ∷ 0x5D ∷ 0x4B ∷ []), (0xF4 ∷ 0xF7 ∷ 0xF0 ∷ [])) ∷
    []

pub periodic_agrees : T (all (agrees periodic) periodic_reads)
unfolding agrees periodic periodic_reads
periodic_agrees = tt

-- Values of other formats and lengths, and one update too long for its room, the latest call first: MF5. F1F1 | ZV,3. C14040 | ZV. 04C1C2C3 | AB,2,B. FFFF
unfoldable pub conversions : History
conversions =
    record { format = (0xD4 ∷ 0xC6 ∷ 0xF5 ∷ 0x4B ∷ []); buffer = (0xF1 ∷ 0xF1 ∷ []); room = 20 } ∷
    call (0xE9 ∷ 0xE5 ∷ 0x6B ∷ 0xF3 ∷ 0x4B ∷ []) (0xC1 ∷ 0x40 ∷ 0x40 ∷ []) ∷
    call (0xE9 ∷ 0xE5 ∷ 0x4B ∷ []) (0x04 ∷ 0xC1 ∷ 0xC2 ∷ 0xC3 ∷ []) ∷
    call (0xC1 ∷ 0xC2 ∷ 0x6B ∷ 0xF2 ∷ 0x6B ∷ 0xC2 ∷ 0x4B ∷ []) (0xFF ∷ 0xFF ∷ []) ∷
    []

unfoldable pub conversions_reads : Answers
conversions_reads =
    -- AB.
    ((0xC1 ∷ 0xC2 ∷ 0x4B ∷ []), (0x65 ∷ 0x53 ∷ 0x5F ∷ [])) ∷
    -- ZV.
    ((0xE9 ∷ 0xE5 ∷ 0x4B ∷ []), (0x02 ∷ 0xC1 ∷ [])) ∷
    -- MF5.
    ((0xD4 ∷ 0xC6 ∷ 0xF5 ∷ 0x4B ∷ []), (0xF0 ∷ 0xF0 ∷ [])) ∷
    -- MFC.
    ((0xD4 ∷ 0xC6 ∷ 0xC3 ∷ 0x4B ∷ []), (0x00 ∷ [])) ∷
    -- MFN.
    ((0xD4 ∷ 0xC6 ∷ 0xD5 ∷ 0x4B ∷ []), (0xF0 ∷ 0xF0 ∷ [])) ∷
    -- MF1-N.
    ((0xD4 ∷ 0xC6 ∷ 0xF1 ∷ 0x60 ∷ 0xD5 ∷ 0x4B ∷ []), []) ∷
    -- AB,5,U.
    ((0xC1 ∷ 0xC2 ∷ 0x6B ∷ 0xF5 ∷ 0x6B ∷ 0xE4 ∷ 0x4B ∷ []), (0xF6 ∷ 0xF5 ∷ 0xF5 ∷ 0xF3 ∷ 0xF5 ∷ [])) ∷
    []

pub conversions_agrees : T (all (agrees conversions) conversions_reads)
unfolding agrees conversions conversions_reads
conversions_agrees = tt

-- Record buffers have to hold bytes: `AB,2,F.` with a number above 255 would leave a record that is none (P's zero with sign D).
unfoldable pub no_bytes : History
no_bytes = call (0xC1 ∷ 0xC2 ∷ 0x6B ∷ 0xF2 ∷ 0x6B ∷ 0xC6 ∷ 0x4B ∷ []) (300 ∷ 0 ∷ []) ∷ []

pub bytes_needed : read job_table (record_after job_table job_start no_bytes) (0xC1 ∷ 0xC2 ∷ 0x4B ∷ []) longest_items ≡ refused (by 2)
unfolding agrees no_bytes
bytes_needed = refl

-- ---- the fourth of the services that the contracts are tried against

-- It carries out the first update of a sequence and only reports the rest.
unfoldable pub first_only : Bytes → Bytes → History → Bytes
first_only t start [] = start
first_only t start (c ∷ []) = record_after t start (c ∷ [])
first_only t start (c ∷ d ∷ earlier) = first_only t start (d ∷ earlier)

abbrev pub entries_in : Outcome (List Entry) → List Entry
entries_in (done es) = es
entries_in (refused n) = []

-- MF1. F1F5, then MF1. F5F0
unfoldable pub mf1 : Bytes
mf1 = 0xD4 ∷ 0xC6 ∷ 0xF1 ∷ 0x4B ∷ []

unfoldable pub twice : History
twice = call mf1 (0xF5 ∷ 0xF0 ∷ []) ∷ call mf1 (0xF1 ∷ 0xF5 ∷ []) ∷ []

two_bytes : (a b : ℕ) → a < 256 → b < 256 → (i : ℕ) → get_or (a ∷ b ∷ []) i 0 < 256
two_bytes a b h k zero = h
two_bytes a b h k (suc zero) = k
two_bytes a b h k (suc (suc i)) = omega arith

twice_sent : ByteBuffers twice
unfolding twice
twice_sent = (two_bytes 0xF5 0xF0 (omega arith) (omega arith), (two_bytes 0xF1 0xF5 (omega arith) (omega arith), tt))

first_value : Place
first_value = record { field = record { name = 0xD4C6; format = unpacked; size = 2; multiple = true }; occurrence = 1; value = 1 }

apart : {xs ys : Bytes} → ◌≡◌ {A = Outcome Bytes} (done (0xF1 ∷ xs)) (done (0xF5 ∷ ys)) → ⊥
apart e = let z : ◌≡◌ {A = ℕ} 0xF1 0xF5 = ap (λ bs. get_or bs 0 0) (done_inj e) in omega arith

pub first_only_breaks : ((h : History) → ByteBuffers h → OverAHistory job_table (entries_in (table job_table)) job_start h (first_only job_table job_start h)) → ⊥
unfolding agrees first_only twice mf1 items_by first_value
first_only_breaks law = apart ((law twice twice_sent).occurrences mf1 first_value false refl longest_items (omega arith))
