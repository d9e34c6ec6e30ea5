mod Expressions
mod AsteriskReadings
