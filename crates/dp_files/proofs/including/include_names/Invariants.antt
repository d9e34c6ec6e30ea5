use Rattle.std.proofs.Common.{◌≡◌, fold, drop}
use Rattle.dp_files.specs.Reading.{after_name, request_now}
use Rattle.dp_files.specs.Sources.{Files, Telling}
use Rattle.dp_files.proofs.including.include_names.Given as goal

abbrev pub invariant-loop-name : goal.invariant-loop-name
invariant-loop-name g l = record {
  read : (has : Files) → g.S.Source.agrees l.source has
      → fold (after_name (g.I.Including.after has) has (request_now l.request)) l.reading (drop l.name-index l.names)
      ≡ fold (after_name (g.I.Including.after has) has (request_now l.request)) l.fn.reading l.names;
  kept : (has : Files) → g.S.Source.agrees l.source has → g.S.Source.agrees l.fn.source has;
  same : (told : Telling) → g.S.Source.may_tell l.source told → g.S.Source.may_tell l.fn.source told;
}
