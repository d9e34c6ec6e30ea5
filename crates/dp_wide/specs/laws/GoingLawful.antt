-- A table in which the applications that go on come first keeps the laws.
use Rattle.std.specs.Prelude.{ℕ, false, List, refl}
use Rattle.dp_app.specs.Knowledge.{Knowledge, Overlooks}
use Rattle.dp_app.specs.Lawful.{IsBlind, IsLawful}
use Rattle.dp_app.specs.Rows.{Rows}
use Rattle.dp_app.specs.declared.touch.Touch.{Touch}
use Rattle.dp_flow.specs.laws.Lawful.{next_lawful}
use Rattle.dp_flow.specs.Plain.{next_row}
use Rattle.dp_flow.specs.Touches.{nothing}
use Rattle.dp_wide.specs.Going.{going_names, goes_on, with_going, with_going_knowledge, with_going_touch}
use Rattle.dp_wide.specs.laws.NamesLawful.{is_word_of-spelled, with_named_blind, with_named_lawful, with_named_overlooks}

-- a lawful table is lawful with the applications that go on before it
pub with_going_lawful : (touches : List ℕ → Touch) (rows : Rows) → IsLawful touches rows → IsLawful (with_going_touch touches) (with_going rows)
with_going_lawful touches rows lawful = with_named_lawful goes_on nothing (λ name. next_row) touches rows (λ name. next_lawful) lawful

-- a blind table is blind with the applications that go on before it
pub with_going_blind : (touches : List ℕ → Touch) (rows : Rows) → IsBlind touches rows → IsBlind (with_going_touch touches) (with_going rows)
with_going_blind touches rows blind =
    with_named_blind goes_on nothing (λ name. next_row) touches rows (is_word_of-spelled going_names) (λ name spelling same. refl) blind

-- the applications that go on do the same with any arguments
pub with_going_overlooks : (knowledge : Knowledge) (rows : Rows) → Overlooks knowledge.looks rows
    → Overlooks (with_going_knowledge knowledge).looks (with_going rows)
with_going_overlooks knowledge rows overlooks =
    with_named_overlooks goes_on (λ name. false) (λ name. next_row) knowledge rows (λ name looks first second cell. refl) overlooks
