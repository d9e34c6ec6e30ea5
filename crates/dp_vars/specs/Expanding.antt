-- A text during its expansion: what is written so far, and the openings in it that wait for their ends.
use Rattle.std.specs.Prelude.{ℕ, ◌+◌, List, [], ◌∷◌, ◌++◌, drop, length, take}
use Rattle.dp_conf.specs.declared.groups.Mark.{Mark}
use Rattle.dp_conf.specs.declared.groups.Mark.TheVariants.{End, Opening, Byte}
use Rattle.dp_conf.specs.Groups.{opener}
use Rattle.dp_vars.specs.Functions.{FunctionTable}
use Rattle.dp_vars.specs.Sights.{Sight}
use Rattle.dp_vars.specs.Unknown.{earlier, unknown_group}
use Rattle.dp_vars.specs.Values.{group_value_with}
use Rattle.dp_vars.specs.declared.expanding.WaitingOpening.{WaitingOpening}

-- what is written, the waiting openings, the innermost first, each with the place of its `$`, and the first name, call or expression so far
-- that is not known
pub record WrittenSoFar : Type 0 where
  pub bytes : List ℕ
  pub waiting : List WaitingOpening
  pub unknown : List ℕ

-- the written text with the value of a group in place of its opening and its body
abbrev pub with_value : FunctionTable → Sight → WaitingOpening → List ℕ → List ℕ
with_value functions sight w bytes = take w.start bytes ++ group_value_with functions sight w.kind (drop (w.start + 2) bytes)

-- the body of such a group
abbrev pub body_in : WaitingOpening → List ℕ → List ℕ
body_in w bytes = drop (w.start + 2) bytes

-- after the end of the innermost group
abbrev pub after_group : FunctionTable → Sight → List WaitingOpening → List ℕ → List ℕ → WrittenSoFar
after_group functions sight [] bytes unknown = record { bytes = bytes; waiting = []; unknown = unknown }
after_group functions sight (w ∷ waiting) bytes unknown = record {
  bytes = with_value functions sight w bytes;
  waiting = waiting;
  unknown = earlier unknown (unknown_group functions sight w.kind (body_in w bytes));
}

-- after a mark
abbrev pub after : FunctionTable → Sight → Mark → WrittenSoFar → WrittenSoFar
after functions sight End written = after_group functions sight written.waiting written.bytes written.unknown
after functions sight (Opening kind) written = record {
  bytes = written.bytes ++ 36 ∷ opener kind ∷ [];
  waiting = record { kind = kind; start = length written.bytes } ∷ written.waiting;
  unknown = written.unknown;
}
after functions sight (Byte byte) written = record written { bytes = written.bytes ++ byte ∷ [] }
