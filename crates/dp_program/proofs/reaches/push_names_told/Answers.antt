use Rattle.std.proofs.Common.{◌≡◌, ◌+◌, ◌∷◌, ◌++◌, ℕ, List, [], Bor, drop, get_or, map, append_assoc, sym, ap, ◌∙◌}
use Rattle.std.proofs.lemmas.List.{drop_more}
use Rattle.std.specs.List.{flat_map}
use Rattle.dp_program.specs.Reaches.{told_of_name}
use Rattle.dp_program.proofs.reaches.push_names_told.Goals as goal

pub loop-name-preserved : goal.loop-name-preserved
loop-name-preserved c =
    let told : List ℕ → List ℕ = told_of_name c.args.told.file.now c.args.told.explains c.args.told.plan.now in
    let now : List (Bor (List ℕ)) → List (List ℕ) = map (λ name. name.now) in
    let none : Bor (List ℕ) = record { ref_ptr = (0, 0); now = [] } in
    let name : List ℕ = (get_or c.args.names.now c.loop-name.name-index none).now in
    let rest : List (List ℕ) = now (drop (c.loop-name.name-index + 1) c.args.names.now) in
    let split : now (drop c.loop-name.name-index c.args.names.now) ≡ name ∷ rest = ap now (drop_more c.args.names.now c.loop-name.name-index none c.loop-name-test.true) in
    ap (λ (hint : List ℕ). hint ++ flat_map told rest) c.in_ok-push_told.ensures
    ∙ (append_assoc c.loop-name.hint.items (told name) (flat_map told rest)
    ∙ (ap (λ names. c.loop-name.hint.items ++ flat_map told names) (sym split) ∙ c.loop-name.invariant))
