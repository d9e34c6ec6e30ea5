use Rattle.std.proofs.Common.{inl, inr, refl, ◌≡◌, ◌∷◌, ◌++◌, ◌+◌, ap, drop, subst, arith}
use Rattle.std.proofs.lemmas.List.{drop_all}
use Rattle.dp_pieces.specs.Met.{met_classes, met_tail}
use Rattle.dp_pieces.specs.Pieces.{any_bytes_of}
use Rattle.dp_pieces.specs.Sets.{set_by}
use Rattle.dp_pieces.specs.ShapeSteps.{AreAllBytes}
use Rattle.dp_pieces.specs.Shown.{shown_all}
use Rattle.dp_pieces.proofs.ShapeLemmas.{any-end, any-step, next-dropped}
use Rattle.dp_pieces.proofs.shapes.meeting.push_any.Goals as goal

pub loop-class-preserved : goal.loop-class-preserved
loop-class-preserved c =
    let is : drop c.loop-class.class-index c.args.classes.now ≡ c.class-item.result ∷ drop (c.loop-class.class-index + 1) c.args.classes.now =
    next-dropped c.args.classes.now c.loop-class.class-index c.class-item.result (omega arith) c.class-item.is in
    record {
      bytes = (subst AreAllBytes is c.loop-class.invariant.bytes).1;
      met = any-step c.loop-class.pieces.items c.push.new.self.items (set_by c.args.set.now) c.meet.result c.class-item.result _ _ c.args.tail
          (shown_all c.args.pieces.now.items ++ met_classes (any_bytes_of (set_by c.args.set.now)) c.args.classes.now c.args.tail) is c.meet.ensures c.in_ok-push.ensures.items c.loop-class.invariant.met;
    }

pub returns-in_ok-push-in-Dot : goal.returns-in_ok-push-in-Dot
returns-in_ok-push-in-Dot c =
    any-end c.loop-class.pieces.items c.push-in-Dot.new.self.items (set_by c.args.set.now) c.args.set.now _ c.args.tail
    (shown_all c.args.pieces.now.items ++ met_classes (any_bytes_of (set_by c.args.set.now)) c.args.classes.now c.args.tail)
    (drop_all c.loop-class.class-index c.args.classes.now (omega arith)) (elim c.in-Dot.is [ inl is ↦ ap (met_tail (any_bytes_of (set_by c.args.set.now))) is | inr is ↦ ap (met_tail (any_bytes_of (set_by c.args.set.now))) is ]) (λ b. refl) c.in_ok-push-in-Dot.ensures.items c.loop-class.invariant.met
