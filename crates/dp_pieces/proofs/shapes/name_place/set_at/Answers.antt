use Rattle.std.proofs.Common.{◌≡◌, ap, length, subst, sym, ◌∙◌, rules}
use Rattle.dp_pieces.specs.Pieces.{bytes_in}
use Rattle.dp_pieces.specs.Sets.{set_by}
use Rattle.dp_pieces.specs.ShapeSteps.{AreBytes, class_at}
use Rattle.dp_pieces.specs.declared.shapes.name_place.NamePlace.{NamePlace}
use Rattle.dp_pieces.proofs.WordLemmas.{class-set}
use Rattle.dp_pieces.proofs.shapes.name_place.set_at.Goals as goal

pub returns-in-Class : goal.returns-in-Class
returns-in-Class c =
    let long : length c.words.result ≡ 4 = search rules in
    let bytes : AreBytes c.in-Class.class.now = subst (λ (place : NamePlace). AreBytes (class_at place)) c.in-Class.is c.requires in
    λ b. ap (λ s. set_by s b) c.of_words.ensures
    ∙ (class-set c.words.result c.in-Class.class.now long c.words.ensures bytes b ∙ ap (λ (place : NamePlace). bytes_in (class_at place) b) (sym c.in-Class.is))
