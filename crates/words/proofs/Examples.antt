-- Words computed: the definitions give the numbers that a reader expects. Assumes nothing.
use mathlib.Core.Path.{◌≡◌, refl}
use mathlib.Core.Bool.{true, false}
use Prim.Native.Nat.{◌+◌, ◌*◌}
use Rattle.words.specs.Places.{fold_to, count_of, lowest_of, word_of}
use Rattle.words.specs.Words.{has, with, without, both, either, except, lowest, lowest_free, count}

-- the steps at 0, 1, 2 and 3, each written behind the one before
fold_in_line : fold_to (λ p x. x * 10 + p) 7 4 ≡ 70123
unfolding fold_to
fold_in_line = refl

has_last : has 18446744073709551615 63 ≡ true
unfolding has
has_last = refl

has-not-past : has 18446744073709551615 64 ≡ false
unfolding has
has-not-past = refl

has_second : has 5 1 ≡ false
unfolding has
has_second = refl

with_last : with 5 63 ≡ 9223372036854775813
unfolding has word_of with
with_last = refl

with-again : with 5 2 ≡ 5
unfolding has word_of with
with-again = refl

with_just_past : with 5 64 ≡ 5
unfolding has word_of with
with_just_past = refl

with_far : with 5 4294967295 ≡ 5
unfolding has word_of with
with_far = refl

without_last : without 9223372036854775813 63 ≡ 5
unfolding has word_of without
without_last = refl

without_lacking : without 5 1 ≡ 5
unfolding has word_of without
without_lacking = refl

without_far : without 18446744073709551615 4294967295 ≡ 18446744073709551615
unfolding has word_of without
without_far = refl

both_some : both 12 10 ≡ 8
unfolding has word_of both
both_some = refl

either_some : either 12 10 ≡ 14
unfolding has word_of either
either_some = refl

except_some : except 12 10 ≡ 4
unfolding has word_of except
except_some = refl

except_all : except 18446744073709551615 1 ≡ 18446744073709551614
unfolding has word_of except
except_all = refl

lowest_some : lowest 12 ≡ 2
unfolding has lowest_of lowest
lowest_some = refl

lowest_last : lowest 9223372036854775808 ≡ 63
unfolding has lowest_of lowest
lowest_last = refl

lowest_nowhere : lowest 0 ≡ 64
unfolding has lowest_of lowest
lowest_nowhere = refl

free_first : lowest_free 0 ≡ 0
unfolding has lowest_of lowest_free
free_first = refl

free_some : lowest_free 11 ≡ 2
unfolding has lowest_of lowest_free
free_some = refl

free_nowhere : lowest_free 18446744073709551615 ≡ 64
unfolding has lowest_of lowest_free
free_nowhere = refl

count_all : count 18446744073709551615 ≡ 64
unfolding has count_of count
count_all = refl

count_some : count 0xdeadbeefcafebabe ≡ 46
unfolding has count_of count
count_some = refl
