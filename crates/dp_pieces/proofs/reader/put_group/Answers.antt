use Rattle.std.proofs.Common.{◌+◌, ◌++◌, ◌∙◌, ap, drop}
use Rattle.dp_pieces.proofs.ShownLemmas.{put-shown_piece}
use Rattle.dp_pieces.proofs.reader.put_group.Goals as goal

pub returns : goal.returns
returns g c =
    put-shown_piece (g.G.GroupPieces.groups c.args.groups.now) c.args.kind c.args.start c.args.pieces.now.items c.push_all.new.pieces.items c.truncate.new.self.items c.split_at.result.1.now
    c.in_ok-value.value.items c.truncate.ensures.items (c.in_ok-push_all.ensures ∙ ap (λ more. c.truncate.new.self.items ++ more) c.deref-2.ensures.value) (c.split_at.ensures.back ∙ ap (drop (c.args.start + 2)) c.deref.ensures.value) c.in_ok-value.ensures
