-- Numbers and answers whose text is computed from the definitions. Assumes nothing.
use mathlib.Core.Path.{◌≡◌, refl}
use mathlib.Core.List.{[], ◌∷◌}
use mathlib.Core.Bool.{true, false}
use lib.ListN.{length, replicate}
use Rattle.text.specs.Text.{digits, decimal_text, field_text, fields_text, answer_text, has_room, written}

-- `0`, `9`, `10` and `100`: no leading zero, and zeros inside stay
zero_text : decimal_text 0 ≡ 48 ∷ []
unfolding decimal_text digits
zero_text = refl

nine_text : decimal_text 9 ≡ 57 ∷ []
unfolding decimal_text digits
nine_text = refl

ten_text : decimal_text 10 ≡ 49 ∷ 48 ∷ []
unfolding decimal_text digits
ten_text = refl

hundred_text : decimal_text 100 ≡ 49 ∷ 48 ∷ 48 ∷ []
unfolding decimal_text digits
hundred_text = refl

-- `4294967295`, the largest number of 32 bits, has 10 digits
largest_time_text : decimal_text 4294967295 ≡ 52 ∷ 50 ∷ 57 ∷ 52 ∷ 57 ∷ 54 ∷ 55 ∷ 50 ∷ 57 ∷ 53 ∷ []
unfolding decimal_text digits
largest_time_text = refl

-- `18446744073709551615`, the largest number of 64 bits, has 20
largest_ticket_text :
    decimal_text 18446744073709551615
    ≡ 49 ∷ 56 ∷ 52 ∷ 52 ∷ 54 ∷ 55 ∷ 52 ∷ 52 ∷ 48 ∷ 55 ∷ 51 ∷ 55 ∷ 48 ∷ 57 ∷ 53 ∷ 53 ∷ 49 ∷ 54 ∷ 49 ∷ 53 ∷ []
unfolding decimal_text digits
largest_ticket_text = refl

-- document 01's session: `0 500 5` for the get
get_line : answer_text 0 500 5 [] ≡ 48 ∷ 32 ∷ 53 ∷ 48 ∷ 48 ∷ 32 ∷ 53 ∷ 10 ∷ []
unfolding answer_text fields_text field_text decimal_text digits
get_line = refl

-- `0 1 6 500` for the strong sweep that hands one ticket back
sweep_line : answer_text 0 1 6 (500 ∷ []) ≡ 48 ∷ 32 ∷ 49 ∷ 32 ∷ 54 ∷ 32 ∷ 53 ∷ 48 ∷ 48 ∷ 10 ∷ []
unfolding answer_text fields_text field_text decimal_text digits
sweep_line = refl

-- `99 0 0` for a line that is not readable
unreadable_line : answer_text 99 0 0 [] ≡ 57 ∷ 57 ∷ 32 ∷ 48 ∷ 32 ∷ 48 ∷ 10 ∷ []
unfolding answer_text fields_text field_text decimal_text digits
unreadable_line = refl

-- two tickets, `0 2 7 70 8`, in their order
two_tickets_line : answer_text 0 2 7 (70 ∷ 8 ∷ []) ≡ 48 ∷ 32 ∷ 50 ∷ 32 ∷ 55 ∷ 32 ∷ 55 ∷ 48 ∷ 32 ∷ 56 ∷ 10 ∷ []
unfolding answer_text fields_text field_text decimal_text digits
two_tickets_line = refl

-- the longest line: the bound of `answer-length` is reached
longest_line_lem : length (answer_text 4294967295 18446744073709551615 4294967295 (replicate 64 18446744073709551615)) ≡ 1387
unfolding answer_text fields_text field_text decimal_text digits
longest_line_lem = refl

-- the last place from which a line is written, and the first from which it is not
room_at_the_end : has_room 593 2000 64 64 ≡ true
unfolding has_room
room_at_the_end = refl

one_place_short : has_room 594 2000 64 64 ≡ false
unfolding has_room
one_place_short = refl

one_ticket_too_many : has_room 0 2000 65 65 ≡ false
unfolding has_room
one_ticket_too_many = refl

one_ticket_missing : has_room 0 2000 2 1 ≡ false
unfolding has_room
one_ticket_missing = refl

-- what stands before and behind the text stays
text_in_the_middle : written (1 ∷ 2 ∷ 3 ∷ 4 ∷ 5 ∷ []) 1 (48 ∷ 10 ∷ []) ≡ 1 ∷ 48 ∷ 10 ∷ 4 ∷ 5 ∷ []
unfolding written
text_in_the_middle = refl
