use Rattle.std.proofs.Common.{◌≡◌, List, ◌++◌, ◌∷◌, [], ap, ◌∙◌, sym, subst, arith, if◌then◌else◌}
use Rattle.std.proofs.lemmas.List.{length-map, map-append}
use Rattle.std.specs.Result.{is_ok}
use Rattle.dp_queue.specs.steps.Places.{hashes_of, AreLasts, AreChained}
use Rattle.dp_queue.specs.declared.places.Link.{Link}
use Rattle.dp_queue.proofs.PlacesLemmas.{lasts-push, chained-push}
use Rattle.dp_queue.proofs.places.Places.push.Goals as goal

pub invariant_of-self-2 : goal.invariant_of-self-2
invariant_of-self-2 c =
    let links = c.self.inside.links.items in
    let link : Link = record { hash = c.args.hash; before = c.copied-before.result } in
    let more : c.push.new.self.items ≡ links ++ link ∷ [] =
    c.push.ensures.items ∙ ap (λ r. if is_ok r then c.reserve.new.self.items ++ link ∷ [] else c.reserve.new.self.items) c.unwrap.ensures
    ∙ ap (λ (ls : List Link). ls ++ link ∷ []) c.reserve.ensures.items in
    let P : List Link → Type 0 = λ ls. AreLasts c.insert.new.self (hashes_of ls) × AreChained ls in
    let lasts : AreLasts c.insert.new.self (hashes_of links ++ c.args.hash ∷ []) =
    lasts-push c.self.inside.lasts c.insert.new.self (hashes_of links) c.args.hash c.len-place.result
    (omega (arith, c.len-place.ensures, c.self.inside.links.ok, length-map links (λ (l : Link). l.hash))) c.self.invariant.0 c.in_ok-insert.ensures.updates.0 in
    subst P (sym more) (
      subst (AreLasts c.insert.new.self) (sym (map-append (λ (l : Link). l.hash) links (link ∷ []))) lasts,
      chained-push links link c.self.invariant.1 (c.copied-before.ensures ∙ c.get.ensures.value ∙ c.self.invariant.0 c.args.hash),
    )
