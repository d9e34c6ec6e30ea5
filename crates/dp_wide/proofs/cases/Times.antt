-- Moments that are read, and ranges in which they lie, computed from the definitions themselves.
use Rattle.std.proofs.Common.{◌≡◌, [], Some, None, true, false, refl, codes}
use Rattle.dp_wide.specs.Times.{weekday_named, month_named, moment_of, range_of, lies_in}
use Rattle.dp_wide.specs.declared.times.Moment.{Moment}

-- a Saturday, a minute before midnight
late : Moment
late = record { weekday = 6; year = 2026; month = 11; day = 28; hour = 23; minute = 59 }

moment-read : moment_of (codes "sAt 2026-11-28 23:59") ≡ Some late
unfolding moment_of weekday_named late
moment-read = refl

moment-month : moment_of (codes "Sat 2026-13-28 23:59") ≡ None
unfolding moment_of weekday_named
moment-month = refl

moment-day : moment_of (codes "Sat 2026-11-00 23:59") ≡ None
unfolding moment_of weekday_named
moment-day = refl

-- the hour of a moment has two digits
moment-hour : moment_of (codes "Sat 2026-11-28 3:59") ≡ None
unfolding moment_of weekday_named
moment-hour = refl

lies-everywhere : lies_in late (codes "*") [] (codes " * ") [] ≡ true
unfolding late
lies-everywhere = refl

-- the minute at which a range ends belongs to it
lies-end : lies_in late (codes "9:00-23:59") [] [] [] ≡ true
unfolding late range_of
lies-end = refl

-- ranges wrap around
lies-round : lies_in late (codes "22:00-06:00") (codes "fri-mon") (codes "28-3") (codes "nov-feb") ≡ true
unfolding late range_of weekday_named month_named
lies-round = refl

lies-outside : lies_in late [] (codes "1-5") [] [] ≡ false
unfolding late range_of weekday_named
lies-outside = refl

-- anything that is not a range is skipped
lies-passed : lies_in late [] (codes "x & SAT") [] (codes "13&11") ≡ true
unfolding late range_of weekday_named month_named
lies-passed = refl

lies-faulty : lies_in late (codes "24:00") [] [] [] ≡ false
unfolding late range_of
lies-faulty = refl
