use Rattle.std.proofs.Common.{◌≡◌, ◌<◌, ℕ, List, length, replicate, sym, ap, subst, ◌∙◌, All}
use Rattle.std.proofs.lemmas.List.{length-replicate}
use Rattle.dp_board.specs.Settled.{Agrees, IsLeastDifference}
use Rattle.dp_board.specs.Sittings.{SeatSitting}
use Rattle.dp_board.specs.declared.entry.Entry.{Entry}
use Rattle.dp_board.proofs.settle.close.Goals as goal

-- there is a count for each seat of the board
counts-size : (counts : List ℕ) (board : ℕ) → counts ≡ replicate board 0 → board ≡ length counts
counts-size counts board fresh = sym (ap length fresh ∙ length-replicate {A = ℕ} board 0)

pub least_difference-requires-clause-fresh : goal.least_difference-requires-clause-fresh
least_difference-requires-clause-fresh g c =
    c.requires.counts ∙ ap (λ (size : ℕ). replicate size 0) (counts-size c.args.room.counts.items c.args.board c.requires.counts)

pub least_difference-requires-clause-seated : goal.least_difference-requires-clause-seated
least_difference-requires-clause-seated g c =
    subst (λ (size : ℕ). All (λ (entry : Entry). entry.seat < size) c.entries.result.now)
    (counts-size c.args.room.counts.items c.args.board c.requires.counts)
    (subst (λ (es : List Entry). All (λ (entry : Entry). entry.seat < c.args.board) es) (sym c.entries.ensures)
    c.history_of-history.ensures.whole.seated)

pub returns-in-None-clause-ok : goal.returns-in-None-clause-ok
returns-in-None-clause-ok g c =
    let seats : c.deref.result.now ≡ c.args.seats.items = c.deref.ensures.value ∙ c.history_of-history.ensures.same in
    record {
      whole = c.history_of-history.ensures.whole;
      records =
          subst (λ (ss : List SeatSitting). All (Agrees c.history_of-history.result.entries) ss) seats
          (subst (λ (es : List Entry). All (Agrees es) c.deref.result.now) c.entries.ensures c.in-None.ensures);
    }

pub returns-in-Some-clause-err : goal.returns-in-Some-clause-err
returns-in-Some-clause-err g c =
    let seats : c.deref.result.now ≡ c.args.seats.items = c.deref.ensures.value ∙ c.history_of-history.ensures.same in
    let least : IsLeastDifference c.history_of-history.result.entries c.args.seats.items c.in-Some.found =
    subst (λ (ss : List SeatSitting). IsLeastDifference c.history_of-history.result.entries ss c.in-Some.found) seats
    (subst (λ (es : List Entry). IsLeastDifference es c.deref.result.now c.in-Some.found) c.entries.ensures c.in-Some.ensures) in
    ((c.history_of-history.ensures.whole, least), c.history_of-history.ensures.same)
