use Rattle.std.proofs.Common.{ℕ, List, [], Bor, get_or, map, refl, subst, sym}
use Rattle.std.specs.List.{AllByRecursion}
use Rattle.std.proofs.lemmas.List.{drop_more}
use Rattle.dp_pieces.specs.Bytes.{Within}
use Rattle.dp_pieces.specs.Pieces.{bytes_in}
use Rattle.dp_pieces.specs.Sets.{set_by}
use Rattle.dp_pieces.specs.Tables.{names_in}
use Rattle.dp_pieces.proofs.WithinLemmas.{within-more, within-own}
use Rattle.dp_closed.proofs.ClosedLemmas.{part-by}
use Rattle.dp_closed.proofs.claim.KeptClaim.tells.Goals as goal

pub loop-text-preserved : goal.loop-text-preserved
loop-text-preserved c = λ rest.
    let bytes = (names_in c.args.self.names.now).bytes c.args.name.now in
    let none : Bor (List ℕ) = record { ref_ptr = (0, 0); now = [] } in
    let text = (get_or c.args.texts.now c.loop-text.text-index none).now in
    c.loop-text.invariant
    (subst (λ (ts : List (Bor (List ℕ))). AllByRecursion (Within bytes) (map (λ t. t.now) ts)) (sym (drop_more c.args.texts.now c.loop-text.text-index none c.loop-text-test.true))
    (within-more (bytes_in text) bytes (part-by (set_by c.bytes_in.result) bytes (bytes_in text) bytes c.bytes_in.ensures refl (c.has.ensures c.if-not-has.false)) text (within-own text), rest))
