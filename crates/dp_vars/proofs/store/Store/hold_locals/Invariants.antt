use Rattle.std.proofs.Common.{◌≡◌, ◌<◌, ◌++◌, [], length}
use Rattle.std.specs.Vec.Iter.{into_iter_items, into_iter_len}
use Rattle.dp_vars.specs.Stores.{StoreOf, with_frame}
use Rattle.dp_vars.proofs.store.Store.hold_locals.Given as goal

abbrev pub invariant-loop-local : goal.invariant-loop-local
invariant-loop-local g l = record {
  some : 0 < length l.self.frames;
  held : (store : StoreOf g.row.B.Denot) (back : g.row.B.Denot) → l.fn.self ≡ with_frame store back []
      → l.self ≡ with_frame store back l.yielded;
  taken : l.yielded ++ into_iter_items l.local-iterator ≡ l.fn.locals.items;
  many : into_iter_len l.local-iterator ≡ length (into_iter_items l.local-iterator);
}
