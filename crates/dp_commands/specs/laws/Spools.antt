-- Pieces that are written one after another are written as a whole.
use Rattle.std.specs.Prelude.{◌≡◌, ℕ, ◌++◌, ◌||◌, Bool, true, false, List, [], Option, refl}
use Rattle.std.proofs.Common.{sym, subst, ap, ◌∙◌, append_assoc}
use Rattle.dp_conf.specs.Fronts.{AppendsFront}
use Rattle.dp_conf.proofs.ToldLemmas.{AppendsFront-more}
use Rattle.dp_lister.specs.Sinks.{SinkLaws}
use Rattle.dp_commands.specs.steps.Spools.{Spooled, Passes, Spools}
use Rattle.dp_commands.specs.laws.Flows.{Flows-stay, Flows-trans, Flows-fails}

or_false : (b : Bool) → b ≡ (b || false)
or_false true = refl
or_false false = refl

nothing : (failed : Bool) (s : Spooled) → Passes failed failed s s []
nothing false s = (Flows-stay s.contents s.waits, or_false s.told)
nothing true s = (refl, refl)

-- one text after another
pub Spools_both : (a b c : Bool) (r s t : Spooled) (first second : List ℕ) → Passes a b r s first → Passes b c s t second → Passes a c r t (first ++ second)
Spools_both false false false r s t first second p q = (
  Flows-trans r.contents s.contents t.contents r.waits s.waits t.waits first second p.0 q.0,
  q.1 ∙ (sym (or_false s.told) ∙ p.1),
)
Spools_both false false true r s t first second p q = (
  Flows-fails r.contents s.contents t.contents r.waits s.waits first second p.0 q.0,
  q.1 ∙ ap (λ b. b || true) (p.1 ∙ sym (or_false r.told)),
)
Spools_both false true false r s t first second p q = absurd q
Spools_both false true true r s t first second p q =
    let P : Option (List ℕ) → Type 0 = λ contents. AppendsFront r.contents contents (r.waits ++ (first ++ second)) in
    let Q : List ℕ → Type 0 = λ bytes. AppendsFront r.contents s.contents bytes in
    (subst P (sym q.0) (subst Q (append_assoc r.waits first second) (AppendsFront-more r.contents s.contents (r.waits ++ first) second p.0)), q.1 ∙ p.1)
Spools_both true false c r s t first second p q = absurd p
Spools_both true true false r s t first second p q = absurd q
Spools_both true true true r s t first second p q = (q.0 ∙ p.0, q.1 ∙ p.1)

-- the same of what has a name that stays, and this state
pub spool_laws : {S N : Type 0} (name : S → N) (state : S → Spooled) → SinkLaws (λ (s t : S) (bytes : List ℕ). (name t ≡ name s) × Spools (state s) (state t) bytes)
spool_laws name state = record {
  nothing = λ s. (refl, nothing (state s).failed (state s));
  both = λ r s t first second p q. (q.0 ∙ p.0, Spools_both (state r).failed (state s).failed (state t).failed (state r) (state s) (state t) first second p.1 q.1);
}
