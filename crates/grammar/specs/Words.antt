-- The words and signs of a text (document 02, item 12), by their codes: the bytes of each, put together in base 256.
use Rattle.std.specs.Prelude.{ℕ, ◌+◌, ◌*◌}
use Rattle.base.specs.Cases.{◌∣◌, ◌is◌⇒◌}

-- one letter more
infixl 60 ◌·◌
abbrev pub ◌·◌ : ℕ → ℕ → ℕ
c · b = 256 * c + b

abbrev pub null_word : ℕ
null_word = 110 · 117 · 108 · 108

abbrev pub wait_word : ℕ
wait_word = 119 · 97 · 105 · 116

abbrev pub on_word : ℕ
on_word = 111 · 110

abbrev pub until_word : ℕ
until_word = 117 · 110 · 116 · 105 · 108

abbrev pub for_word : ℕ
for_word = 102 · 111 · 114

abbrev pub after_word : ℕ
after_word = 97 · 102 · 116 · 101 · 114

abbrev pub if_word : ℕ
if_word = 105 · 102

abbrev pub then_word : ℕ
then_word = 116 · 104 · 101 · 110

abbrev pub else_word : ℕ
else_word = 101 · 108 · 115 · 101

abbrev pub end_word : ℕ
end_word = 101 · 110 · 100

abbrev pub while_word : ℕ
while_word = 119 · 104 · 105 · 108 · 101

abbrev pub loop_word : ℕ
loop_word = 108 · 111 · 111 · 112

abbrev pub delayed_word : ℕ
delayed_word = 100 · 101 · 108 · 97 · 121 · 101 · 100

abbrev pub not_word : ℕ
not_word = 110 · 111 · 116

abbrev pub and_word : ℕ
and_word = 97 · 110 · 100

abbrev pub or_word : ℕ
or_word = 111 · 114

abbrev pub xor_word : ℕ
xor_word = 120 · 111 · 114

abbrev pub mod_word : ℕ
mod_word = 109 · 111 · 100

abbrev pub rem_word : ℕ
rem_word = 114 · 101 · 109

-- ( ) ; , = < + - * /
abbrev pub opening : ℕ
opening = 40

abbrev pub closing : ℕ
closing = 41

abbrev pub semicolon : ℕ
semicolon = 59

abbrev pub comma : ℕ
comma = 44

abbrev pub equals : ℕ
equals = 61

abbrev pub less : ℕ
less = 60

abbrev pub plus : ℕ
plus = 43

abbrev pub minus : ℕ
minus = 45

abbrev pub times : ℕ
times = 42

abbrev pub over : ℕ
over = 47

-- := and <=
abbrev pub becomes : ℕ
becomes = 58 · 61

abbrev pub drives : ℕ
drives = 60 · 61

-- "op being and or xor = < + - * / mod rem": the node kind of an operator between two expressions, or 0
unfoldable pub operator_of : ℕ → ℕ
operator_of c =
    c is and_word ⇒ 7
    ∣ c is or_word ⇒ 8
    ∣ c is xor_word ⇒ 9
    ∣ c is plus ⇒ 11
    ∣ c is minus ⇒ 12
    ∣ c is equals ⇒ 13
    ∣ c is less ⇒ 14
    ∣ c is times ⇒ 15
    ∣ c is over ⇒ 16
    ∣ c is mod_word ⇒ 17
    ∣ c is rem_word ⇒ 18
    ∣ 0
