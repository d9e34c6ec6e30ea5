-- Worked cases, computed on the definitions themselves.
mod Tap
mod Traces
mod Verdicts
