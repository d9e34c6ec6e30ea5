use Rattle.std.proofs.Common.{◌≡◌, drop}
use Rattle.dp_files.specs.Reading.{after_lines}
use Rattle.dp_files.specs.Sources.{Files, Telling}
use Rattle.dp_files.proofs.including.read_lines.Given as goal

abbrev pub invariant-loop-at : goal.invariant-loop-at
invariant-loop-at g l = record {
  read : (has : Files) → g.S.Source.agrees l.source has
      → after_lines (g.I.Including.after has) l.file l.lines.open_comment l.at (drop l.at l.lines.texts.items) l.reading
      ≡ after_lines (g.I.Including.after has) l.file l.lines.open_comment 0 l.lines.texts.items l.fn.reading;
  kept : (has : Files) → g.S.Source.agrees l.source has → g.S.Source.agrees l.fn.source has;
  same : (told : Telling) → g.S.Source.may_tell l.source told → g.S.Source.may_tell l.fn.source told;
}
