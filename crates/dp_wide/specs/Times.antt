-- Moments, and ranges of times, weekdays, days and months.
use Rattle.std.specs.Prelude.{ℕ, ◌+◌, ◌*◌, Bool, false, ◌&&◌, ◌||◌, ◌==◌, nat_le, List, [], ◌∷◌, length, position, Option, Some, None, codes, if◌then◌else◌}
use Rattle.std.specs.List.{slice_split, list_any}
use Rattle.std.specs.Option.{option_map, option_map_or, option_and_then, option_or, option_zip}
use Rattle.dp_conf.specs.Blanks.{trim}
use Rattle.dp_conf.specs.Cut.{cut_once}
use Rattle.dp_conf.specs.Numbers.{number_of}
use Rattle.dp_conf.specs.Words.{same_word, same_text}
use Rattle.dp_wide.specs.declared.times.Clock.{Clock}
use Rattle.dp_wide.specs.declared.times.Date.{Date}
use Rattle.dp_wide.specs.declared.times.Measure.{Measure}
use Rattle.dp_wide.specs.declared.times.Measure.TheVariants.{Time, Weekday, Day, Month}
use Rattle.dp_wide.specs.declared.times.Moment.{Moment}
use Rattle.dp_wide.specs.declared.times.RoundRange.{RoundRange}

-- the names of the weekdays, in the order of a week
abbrev pub weekday_names : List (List ℕ)
weekday_names = codes "sun" ∷ codes "mon" ∷ codes "tue" ∷ codes "wed" ∷ codes "thu" ∷ codes "fri" ∷ codes "sat" ∷ []

-- the names of the months, in the order of a year
abbrev pub month_names : List (List ℕ)
month_names =
    codes "jan" ∷ codes "feb" ∷ codes "mar" ∷ codes "apr" ∷ codes "may" ∷ codes "jun"
    ∷ codes "jul" ∷ codes "aug" ∷ codes "sep" ∷ codes "oct" ∷ codes "nov" ∷ codes "dec" ∷ []

-- the weekday that a text names, in any case
unfoldable pub weekday_named : List ℕ → Option ℕ
weekday_named text = position (λ name. same_word name text) weekday_names

-- the month that a text names, in any case; the first month is 1
unfoldable pub month_named : List ℕ → Option ℕ
month_named text = option_map (λ place. place + 1) (position (λ name. same_word name text) month_names)

-- a number if it is between two others
abbrev pub between : ℕ → ℕ → ℕ → Option ℕ
between least most number = if nat_le least number && nat_le number most then Some number else None

-- the number that a text writes, if it is between two others
abbrev pub number_between : ℕ → ℕ → List ℕ → Option ℕ
number_between least most text = option_and_then (between least most) (number_of text)

-- the number that a text with so many digits writes, if it is between two others
abbrev pub fixed_number : ℕ → ℕ → ℕ → List ℕ → Option ℕ
fixed_number digits least most text = if length text == digits then number_between least most text else None

-- the hour that one or two digits write
abbrev pub hour_of : List ℕ → Option ℕ
hour_of text = if nat_le (length text) 2 then number_between 0 23 text else None

-- the time with an hour and a minute, if both are valid
abbrev pub clock_from : Option ℕ → Option ℕ → Option Clock
clock_from hour minute = option_map (λ parts. record { hour = parts.0; minute = parts.1 }) (option_zip hour minute)

-- the time that `HH:MM` or `H:MM` writes
abbrev pub clock_of : List ℕ → Option Clock
clock_of text = option_and_then (λ cut. clock_from (hour_of cut.0) (fixed_number 2 0 59 cut.1)) (cut_once 58 text)

-- the time that `HH:MM` writes; no other form counts
abbrev pub full_clock_of : List ℕ → Option Clock
full_clock_of text = if length text == 5 then clock_of text else None

-- the date with a year, a month and a day, if all are valid
abbrev pub date_from : Option ℕ → Option ℕ → Option ℕ → Option Date
date_from year month day =
    option_map (λ parts. record { year = parts.0; month = parts.1.0; day = parts.1.1 }) (option_zip year (option_zip month day))

-- a date, given its year, and its month and day
abbrev pub date_of_year : List ℕ → Option (List ℕ × List ℕ) → Option Date
date_of_year year None = None
date_of_year year (Some cut) = date_from (fixed_number 4 0 9999 year) (fixed_number 2 1 12 cut.0) (fixed_number 2 1 31 cut.1)

-- the date that `YYYY-MM-DD` writes
abbrev pub date_of : List ℕ → Option Date
date_of text = option_and_then (λ cut. date_of_year cut.0 (cut_once 45 cut.1)) (cut_once 45 text)

-- the moment with a weekday, a date and a time, if all are valid
abbrev pub moment_from : Option ℕ → Option Date → Option Clock → Option Moment
moment_from weekday date clock =
    option_map (λ parts. record { weekday = parts.0; year = parts.1.0.year; month = parts.1.0.month; day = parts.1.0.day; hour = parts.1.1.hour; minute = parts.1.1.minute })
    (option_zip weekday (option_zip date clock))

-- a moment, given its weekday, and its date and time
abbrev pub moment_of_weekday : List ℕ → Option (List ℕ × List ℕ) → Option Moment
moment_of_weekday weekday None = None
moment_of_weekday weekday (Some cut) = moment_from (weekday_named weekday) (date_of cut.0) (full_clock_of cut.1)

-- the moment that `WEEKDAY YYYY-MM-DD HH:MM` writes
unfoldable pub moment_of : List ℕ → Option Moment
moment_of text = option_and_then (λ cut. moment_of_weekday cut.0 (cut_once 32 cut.1)) (cut_once 32 text)

-- the number of minutes from the start of the day to a minute of an hour
abbrev pub minutes_at : ℕ → ℕ → ℕ
minutes_at hour minute = hour * 60 + minute

-- the weekday with a number; Sunday is 0 and 7
abbrev pub weekday_numbered : List ℕ → Option ℕ
weekday_numbered text = option_map (λ day. if day == 7 then 0 else day) (number_between 0 7 text)

-- the number for a time, a weekday, a day or a month that a text writes
abbrev pub value_of : Measure → List ℕ → Option ℕ
value_of Time text = option_map (λ clock. minutes_at clock.hour clock.minute) (clock_of text)
value_of Weekday text = option_or (weekday_named text) (weekday_numbered text)
value_of Day text = number_between 1 31 text
value_of Month text = option_or (month_named text) (number_between 1 12 text)

-- the range from a first value to a last one, if both are valid
abbrev pub range_from : Option ℕ → Option ℕ → Option RoundRange
range_from first last = option_map (λ ends. record { first = ends.0; last = ends.1 }) (option_zip first last)

-- one value alone, or the values between two
abbrev pub range_of_cut : Measure → List ℕ → Option (List ℕ × List ℕ) → Option RoundRange
range_of_cut measure text None = range_from (value_of measure (trim text)) (value_of measure (trim text))
range_of_cut measure text (Some cut) = range_from (value_of measure (trim cut.0)) (value_of measure (trim cut.1))

-- the range that a text writes: one value, or two with `-` between them
unfoldable pub range_of : Measure → List ℕ → Option RoundRange
range_of measure text = range_of_cut measure text (cut_once 45 text)

-- whether a range has a value: it includes both ends, and wraps around if the last is before the first
abbrev pub has_value : ℕ → RoundRange → Bool
has_value value range =
    if nat_le range.first range.last then nat_le range.first value && nat_le value range.last
    else nat_le range.first value || nat_le value range.last

-- whether a text names a range that has the value
abbrev pub writes_value : Measure → ℕ → List ℕ → Bool
writes_value measure value text = option_map_or (has_value value) (range_of measure text) false

-- whether a text means all values: it is empty or `*`
abbrev pub says_all : List ℕ → Bool
says_all text = length text == 0 || same_text text (codes "*")

-- whether a value is in a text: the text means all, or one of its ranges between `&` has the value
abbrev pub lies_in_ranges : Measure → List ℕ → ℕ → Bool
lies_in_ranges measure text value = says_all (trim text) || list_any (writes_value measure value) (slice_split (λ byte. byte == 38) text)

-- the time, weekday, day or month of a moment, as a number
abbrev pub value_in : Measure → Moment → ℕ
value_in Time moment = minutes_at moment.hour moment.minute
value_in Weekday moment = moment.weekday
value_in Day moment = moment.day
value_in Month moment = moment.month

-- whether a moment is in four texts, for its time, weekday, day and month
abbrev pub lies_in : Moment → List ℕ → List ℕ → List ℕ → List ℕ → Bool
lies_in moment times weekdays days months =
    lies_in_ranges Time times (value_in Time moment) && lies_in_ranges Weekday weekdays (value_in Weekday moment)
    && lies_in_ranges Day days (value_in Day moment) && lies_in_ranges Month months (value_in Month moment)
