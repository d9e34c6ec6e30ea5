use Rattle.std.proofs.Common.{◌+◌, ◌++◌, List, ℕ, map, drop, ap, sym, ◌∙◌}
use Rattle.std.specs.Option.{option_map}
use Rattle.std.proofs.lemmas.List.{at_drop_more}
use Rattle.dp_files.specs.Sections.{places_of}
use Rattle.dp_files.proofs.SectionLemmas.{places_of-found, places_of-missing}
use Rattle.dp_files.proofs.sections.places_of.Goals as goal

pub returns-in-None : goal.returns-in-None
returns-in-None c =
    let l = c.loop-name in
    places_of-missing c.args.sections.now l.places.items _ (map (λ name. name.now) (drop (l.name-index + 1) c.args.names.now)) c.in-None.ensures
    ∙ sym (at_drop_more (λ names. option_map (λ places. l.places.items ++ places) (places_of c.args.sections.now (map (λ name. name.now) names))) c.args.names.now l.name-index _ c.loop-name-test.true)
    ∙ l.invariant

pub loop-name-preserved : goal.loop-name-preserved
loop-name-preserved c =
    let l = c.loop-name in
    ap (λ (found : List ℕ). option_map (λ places. found ++ places) (places_of c.args.sections.now (map (λ name. name.now) (drop (l.name-index + 1) c.args.names.now)))) c.in_ok-push-in-Some.ensures.items
    ∙ places_of-found c.args.sections.now l.places.items _ (map (λ name. name.now) (drop (l.name-index + 1) c.args.names.now)) c.in-Some.place c.in-Some.ensures
    ∙ sym (at_drop_more (λ names. option_map (λ places. l.places.items ++ places) (places_of c.args.sections.now (map (λ name. name.now) names))) c.args.names.now l.name-index _ c.loop-name-test.true)
    ∙ l.invariant
