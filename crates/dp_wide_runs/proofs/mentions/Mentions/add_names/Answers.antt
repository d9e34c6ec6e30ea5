use Rattle.std.proofs.Common.{◌≡◌, ℕ, List, [], ◌∷◌, length, refl, sym, subst}
use Rattle.std.specs.Option.{option_to_list}
use Rattle.dp_wide_runs.specs.Mentions.{Adds, name_at, names_after}
use Rattle.dp_wide_runs.proofs.MentionsLemmas.{names_end, names_next}
use Rattle.dp_wide_runs.proofs.mentions.Mentions.add_names.Goals as goal

-- an empty text
nothing : (text : List ℕ) → 0 ≡ length text → [] ≡ text
nothing [] none = refl
nothing (byte ∷ text) none = absurd cc

pub loop-byte-preserved : goal.loop-byte-preserved
loop-byte-preserved c last rest =
    let before = c.loop-byte.before in
    let now = c.loop-byte.self in
    let new = c.add_name.new.self in
    let named = subst (λ name. Adds now new (option_to_list name)) c.name_at.ensures c.in_ok-add_name.ensures in
    let begun = subst (λ text. Adds now new (option_to_list (name_at before text))) c.in-Some.ensures.cases.0 named in
    c.loop-byte.invariant last
    (subst (λ text. Adds now last (names_after before text)) (sym c.in-Some.ensures.cases.0)
    (names_next now new last before c.in-Some.byte.now c.in-Some.after.now begun rest))

pub returns : goal.returns
returns c =
    c.loop-byte.invariant c.loop-byte.self
    (subst (λ text. Adds c.loop-byte.self c.loop-byte.self (names_after c.loop-byte.before text)) (nothing c.loop-byte.left.now (sym c.in_default.ensures.cases))
    (names_end c.loop-byte.self c.loop-byte.before))
