-- The bytes that have a meaning in an expression.
use Rattle.std.specs.Prelude.{ℕ}

-- `!`
abbrev pub exclamation : ℕ
exclamation = 33

-- `"`
abbrev pub quote : ℕ
quote = 34

-- `%`
abbrev pub percent : ℕ
percent = 37

-- `&`
abbrev pub ampersand : ℕ
ampersand = 38

-- `(`
abbrev pub opening_parenthesis : ℕ
opening_parenthesis = 40

-- `)`
abbrev pub closing_parenthesis : ℕ
closing_parenthesis = 41

-- `*`
abbrev pub asterisk : ℕ
asterisk = 42

-- `+`
abbrev pub plus_sign : ℕ
plus_sign = 43

-- `-`
abbrev pub minus_sign : ℕ
minus_sign = 45

-- `.`
abbrev pub point : ℕ
point = 46

-- `/`
abbrev pub slash : ℕ
slash = 47

-- `:`
abbrev pub colon : ℕ
colon = 58

-- `<`
abbrev pub less_sign : ℕ
less_sign = 60

-- `=`
abbrev pub equals_sign : ℕ
equals_sign = 61

-- `>`
abbrev pub more_sign : ℕ
more_sign = 62

-- `?`
abbrev pub question_mark : ℕ
question_mark = 63

-- `|`
abbrev pub bar : ℕ
bar = 124

-- `~`
abbrev pub tilde : ℕ
tilde = 126
