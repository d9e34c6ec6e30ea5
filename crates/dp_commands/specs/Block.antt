-- The bytes that are waiting to be written.
use Rattle.std.specs.Prelude.{ℕ, List}

-- bytes that wait to be written: whole lines, then the start of the next line
pub record WaitingBytes : Type 0 where
  pub whole : List ℕ
  pub begun : List ℕ

-- a text as waiting bytes
abbrev pub waiting : List ℕ → List ℕ → WaitingBytes
waiting whole begun = record { whole = whole; begun = begun }
