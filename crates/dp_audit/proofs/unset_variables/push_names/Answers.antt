use Rattle.std.proofs.Common.{◌≡◌, ℕ, List, [], ◌∷◌, ◌++◌, length, filter, map, ap, refl, sym, ◌∙◌}
use Rattle.std.specs.Option.{option_to_list}
use Rattle.std.proofs.lemmas.List.{append-nil}
use Rattle.dp_audit.specs.Unset.{lacks, names_read}
use Rattle.dp_audit.specs.declared.finding.Finding.TheVariants.{Unset}
use Rattle.dp_audit.proofs.UnsetLemmas.{names_next}
use Rattle.dp_audit.proofs.unset_variables.push_names.Goals as goal

-- an empty text
nothing : (text : List ℕ) → 0 ≡ length text → [] ≡ text
nothing [] none = refl
nothing (byte ∷ text) none = absurd cc

pub loop-byte-preserved : goal.loop-byte-preserved
loop-byte-preserved c =
    let items = c.loop-byte.findings.items in
    let noted = c.args.noted.now in
    let after = c.in-Some.after.now in
    ap (λ items. items ++ map (Unset c.args.id) (filter (lacks noted) (names_read after)))
    (c.in_ok-push_name.ensures ∙ ap (λ name. items ++ map (Unset c.args.id) (filter (lacks noted) (option_to_list name))) c.name_after.ensures)
    ∙ names_next noted (Unset c.args.id) items c.in-Some.byte.now after
    ∙ ap (λ text. items ++ map (Unset c.args.id) (filter (lacks noted) (names_read text))) (sym c.in-Some.ensures.cases.0)
    ∙ c.loop-byte.invariant

pub returns : goal.returns
unfolding names_read
returns c =
    let items = c.loop-byte.findings.items in
    sym (append-nil items)
    ∙ ap (λ text. items ++ map (Unset c.args.id) (filter (lacks c.args.noted.now) (names_read text))) (nothing c.loop-byte.left.now (sym c.in_default.ensures.cases))
    ∙ c.loop-byte.invariant
