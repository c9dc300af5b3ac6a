-- Lines computed by the definition: nothing is claimed here beyond these cases. Assumes nothing.
use mathlib.Core.List.{List, [], ◌∷◌, ◌++◌}
use mathlib.Core.Path.{◌≡◌, refl}
use Prim.Native.Char.{code}
use Prim.Native.Nat.{ℕ}
use Prim.Native.String.{String, [] as nothing, ◌∷◌ as ◌then◌}
use lib.ListN.{replicate}
use Rattle.std.specs.Prelude.{Option, None, Some}
use Rattle.calls.specs.declared.Call.{Call}
use Rattle.calls.specs.declared.Bound.TheVariants.{Weak, Strong}
use Rattle.calls.specs.declared.Call.TheVariants.{By, Sweep}
use Rattle.calls.specs.declared.Deed.TheVariants.{Channel, NewThread, AttachInput, AttachOutput, Detach, End, Set, Put, Get, Consume, ConsumeUntil}
use Rattle.calls.specs.declared.Which.TheVariants.{Earliest, Latest, Named}
use Rattle.lines.specs.Lines.{fields_of, all_digits, decimal, numbers_of, form_among, line_of, read_line}
use Rattle.lines.specs.Faults.{count_of, begins_with_byte_order_mark, is_letter, begins_with_letter, all_numbers, has_right_count, fault_number, fault_of_fields, fault_of}

-- the bytes of a text of characters of one byte each
abbrev pub bytes : String → List ℕ
bytes nothing = []
bytes (character then text) = code character ∷ bytes text

abbrev Reads : String → Option Call → Type 0
Reads text line = read_line (bytes text) ≡ line

every_letter : Reads "c 0" (Some (By 0 Channel))
    × Reads "n 0 7" (Some (By 0 (NewThread 7)))
    × Reads "i 1 2" (Some (By 1 (AttachInput 2)))
    × Reads "o 1 2" (Some (By 1 (AttachOutput 2)))
    × Reads "d 0 3" (Some (By 0 (Detach 3)))
    × Reads "e 15" (Some (By 15 End))
    × Reads "s 0 9" (Some (By 0 (Set 9)))
    × Reads "p 0 1 5 500" (Some (By 0 (Put 1 5 500)))
    × Reads "g 0 4" (Some (By 0 (Get 4 Earliest)))
    × Reads "G 0 4" (Some (By 0 (Get 4 Latest)))
    × Reads "x 0 4 5" (Some (By 0 (Get 4 (Named 5))))
    × Reads "f 0 4 5" (Some (By 0 (Consume 4 5)))
    × Reads "u 0 4 5" (Some (By 0 (ConsumeUntil 4 5)))
    × Reads "w" (Some (Sweep Weak))
    × Reads "W" (Some (Sweep Strong))
unfolding fields_of all_digits decimal numbers_of form_among line_of read_line
every_letter = (refl, refl, refl, refl, refl, refl, refl, refl, refl, refl, refl, refl, refl, refl, refl)

-- each letter takes so many numbers, no more and no fewer, and no other letter is read
counts : Reads "c" None
    × Reads "c 0 0" None
    × Reads "p 0 1 5" None
    × Reads "p 0 1 5 500 0" None
    × Reads "w 0" None
    × Reads "z 0" None
    × Reads "C 0" None
    × Reads "cc 0" None
    × Reads "c0" None
    × Reads "0" None
    × Reads "" None
unfolding fields_of all_digits decimal numbers_of form_among line_of read_line
counts = (refl, refl, refl, refl, refl, refl, refl, refl, refl, refl, refl)

-- the largest number of each width is read, the next one is not
widths : Reads "c 4294967295" (Some (By 4294967295 Channel))
    × Reads "c 4294967296" None
    × Reads "p 0 1 4294967295 18446744073709551615" (Some (By 0 (Put 1 4294967295 18446744073709551615)))
    × Reads "p 0 1 4294967296 18446744073709551615" None
    × Reads "p 0 1 5 18446744073709551616" None
    × Reads "p 0 1 5 99999999999999999999999999999999" None
unfolding fields_of all_digits decimal numbers_of form_among line_of read_line
widths = (refl, refl, refl, refl, refl, refl)

-- leading zeros are read; 80 bytes are a line, 81 are not
zeros : Reads "c 007" (Some (By 7 Channel))
    × Reads "p 00 01 00004294967295 00018446744073709551615" (Some (By 0 (Put 1 4294967295 18446744073709551615)))
    × (read_line (bytes "c " ++ replicate 78 48) ≡ Some (By 0 Channel))
    × (read_line (bytes "c " ++ replicate 79 48) ≡ None)
    × (read_line (replicate 80 119) ≡ None)
    × (read_line (replicate 81 119) ≡ None)
unfolding fields_of all_digits decimal numbers_of form_among line_of read_line
zeros = (refl, refl, refl, refl, refl, refl)

-- one space before each number, and nothing else besides digits
spaces : Reads "c  0" None
    × Reads "c 0 " None
    × Reads "n 0 " None
    × Reads " c 0" None
    × Reads "w " None
    × Reads " " None
    × Reads "c\t0" None
    × Reads "c 0\r" None
    × Reads "c 0\0" None
    × Reads "w\r" None
    × Reads "c +1" None
    × Reads "c -1" None
    × Reads "c 1a" None
    × Reads "c /" None
    × Reads "c :" None
unfolding fields_of all_digits decimal numbers_of form_among line_of read_line
spaces = (refl, refl, refl, refl, refl, refl, refl, refl, refl, refl, refl, refl, refl, refl, refl)

abbrev Told : String → ℕ → Type 0
Told text number = fault_number (fault_of (bytes text)) ≡ number

-- each reason by its number, and in which order a line is tried for them
reasons : Told "" 1
    × (fault_number (fault_of (bytes "c " ++ replicate 79 48)) ≡ 2)
    × (fault_number (fault_of (239 ∷ 187 ∷ 191 ∷ bytes "c 0")) ≡ 3)
    × Told "p 0 1 5 500\r" 4
    × Told "c\t0" 5
    × Told "c 0 " 6
    × Told "q 1" 7
    × Told "p 0 1 5" 8
    × Told "c -1" 9
    × Told "c 4294967296" 10
unfolding fields_of all_digits form_among count_of begins_with_byte_order_mark is_letter begins_with_letter all_numbers has_right_count fault_of_fields fault_of
reasons = (refl, refl, refl, refl, refl, refl, refl, refl, refl, refl)

orders : Told "c\t0\r" 4
    × Told " " 6
    × Told " c 0" 7
    × Told "cc 0" 7
    × Told "c0" 7
    × Told "c" 8
    × Told "w 0" 8
    × Told "c  0" 9
    × Told "p 0 1 5 99999999999999999999" 10
unfolding fields_of all_digits form_among count_of begins_with_byte_order_mark is_letter begins_with_letter all_numbers has_right_count fault_of_fields fault_of
orders = (refl, refl, refl, refl, refl, refl, refl, refl, refl)
