use Rattle.std.proofs.Common.{◌≡◌, ◌+◌, ◌≤◌, length}
use Rattle.std.specs.Io.KnownBytes.{Consumes}
use Rattle.dp_conf.proofs.whole.read_whole.Given as goal

abbrev pub invariant-loop-turn : goal.invariant-loop-turn
invariant-loop-turn g l = record {
  came : l._turn ≤ length l.bytes.items;
  bounded : length l.bytes.items ≤ 16777216;
  read : Consumes (g.R.ReadTold.remaining l.fn.reader) (g.R.ReadTold.remaining l.reader) l.bytes.items;
  told : g.R.ReadTold.has_failed l.reader ≡ g.R.ReadTold.has_failed l.fn.reader;
  counted : g.R.ReadTold.reads l.reader ≤ g.R.ReadTold.reads l.fn.reader + l._turn;
}
