use Rattle.std.proofs.Common.{◌≡◌, ◌∷◌, Some, rules, sym, subst}
use Rattle.dp_conf.specs.GroupsRead.{outer_of}
use Rattle.dp_conf.specs.declared.groups.Mark.TheVariants.{End}
use Rattle.dp_vars.specs.declared.text_piece.TextPiece.TheVariants.{Ends}
use Rattle.dp_vars.specs.steps.Pieces.{ReadSoFar, GoesAfter, opening_last, without_last, with_run}
use Rattle.dp_vars.specs.steps.Spans.{span_at}
use Rattle.dp_vars.proofs.PiecesLemmas.{goes-leaf, goes-end}
use Rattle.dp_vars.proofs.parsing.Parsing.end.Goals as goal
use Rattle.dp_vars.proofs.parsing.Parsing.end.Goals.{in-Some+in_ok-piece-in-Some+in_ok-put_group-in-Some, in-None+in_ok-put_end-in-None}

pub returns : goal.returns
returns c = elim c.match-last_opening.branch [
  | in-Some+in_ok-piece-in-Some+in_ok-put_group-in-Some w ↦
      let new : ReadSoFar = record {
        pieces = w.in_ok-piece-in-Some.piece ∷ without_last c.args.self.now.pieces;
        waiting = outer_of c.args.self.now.waiting;
        run = span_at c.args.place;
      } in
      let is : c.go_out.new.self ≡ new = search rules in
      let opening : Some w.in-Some.kind ≡ opening_last c.args.self.now.pieces = search rules in
      subst (GoesAfter c.args.text.now End c.args.place c.args.self.now) (sym is)
      (goes-leaf c.args.text.now c.args.place c.args.self.now w.in-Some.kind w.in_ok-piece-in-Some.piece opening (search rules))
  | in-None+in_ok-put_end-in-None w ↦
      let new : ReadSoFar = record {
        pieces = Ends ∷ with_run c.args.self.now.run c.args.self.now.pieces;
        waiting = outer_of c.args.self.now.waiting;
        run = span_at c.args.place;
      } in
      let is : c.go_out.new.self ≡ new = search rules in
      subst (GoesAfter c.args.text.now End c.args.place c.args.self.now) (sym is) (goes-end c.args.text.now c.args.place c.args.self.now)
]
