-- The meanings of the lines of a script with facts.
use Rattle.std.proofs.Common.{◌≡◌, [], ◌∷◌, None, Some, refl}
use Rattle.std.specs.Prelude.{codes}
use Rattle.dp_machine.specs.declared.event.Event.TheVariants.{Step, Timeout, DialResult, Assign, Redirect}
use Rattle.dp_machine.specs.declared.dial_status.DialStatus.TheVariants.{Busy, Torture}
use Rattle.dp_commands.specs.Script.{once}
use Rattle.dp_commands.specs.declared.script.Turn.TheVariants.{Event, Show}
use Rattle.dp_wide_runs.specs.Lines.{gives, place_by, priority_in, stands_for}
use Rattle.dp_wide_runs.specs.declared.wide_turn.WideTurn.TheVariants.{Plain, Further, Pass}

let_takes_the_rest : stands_for None (codes " let 1 A b =  x=y z ") ≡ Some (gives (Assign (Some 1) (codes "A b") (codes "x=y z")) ∷ [])
unfolding stands_for
let_takes_the_rest = refl

let_of_nothing : stands_for None (codes "let 2 DB(k)=") ≡ Some (gives (Assign (Some 2) (codes "DB(k)") []) ∷ [])
unfolding stands_for
let_of_nothing = refl

let_without_name : stands_for None (codes "let 1 =5") ≡ None
unfolding stands_for
let_without_name = refl

let_without_channel : stands_for None (codes "let A=5") ≡ None
unfolding stands_for
let_without_channel = refl

global_takes_the_rest : stands_for None (codes "global A = 5 6") ≡ Some (gives (Assign None (codes "A") (codes "5 6")) ∷ [])
unfolding stands_for
global_takes_the_rest = refl

go_ends_what_is_waited_for : stands_for None (codes "go 3") ≡ Some (gives (Timeout 3) ∷ [])
unfolding stands_for
go_ends_what_is_waited_for = refl

redirect_to_the_first : stands_for None (codes "redirect 1 main s") ≡ Some (gives (Redirect 1 (place_by (codes "main") (codes "s") 1)) ∷ [])
unfolding stands_for
redirect_to_the_first = refl

redirect_to_none : stands_for None (codes "redirect 1 main s 0") ≡ None
unfolding stands_for priority_in
redirect_to_none = refl

assume_of_two_functions : stands_for None (codes "assume DB  CDR") ≡ Some (gives (Assign None (codes "ASSUMED(DB)") (codes "1")) ∷ gives (Assign None (codes "ASSUMED(CDR)") (codes "1")) ∷ [])
unfolding stands_for
assume_of_two_functions = refl

assume_of_nothing : stands_for None (codes " assume ") ≡ None
unfolding stands_for
assume_of_nothing = refl

pass_of_a_channel : stands_for None (codes "pass 1") ≡ Some (once (Pass 1) ∷ [])
unfolding stands_for
pass_of_a_channel = refl

steps_after_the_first : stands_for None (codes "step 1 3")
    ≡ Some ((record { turn = Plain (Event (Step 1)); count = 1 }) ∷ (record { turn = Further 1; count = 2 }) ∷ [])
unfolding stands_for
steps_after_the_first = refl

no_step : stands_for None (codes "step 1 0")
    ≡ Some ((record { turn = Plain (Event (Step 1)); count = 0 }) ∷ (record { turn = Further 1; count = 0 }) ∷ [])
unfolding stands_for
no_step = refl

show_is_plain : stands_for None (codes "show 1 DB(k)") ≡ Some (once (Plain (Show 1 (codes "DB(k)"))) ∷ [])
unfolding stands_for
show_is_plain = refl

comment_is_passed_over : stands_for None (codes "; let 1 A=5") ≡ Some []
unfolding stands_for
comment_is_passed_over = refl

result_of_a_plain_script : stands_for None (codes "result 1 BUSY") ≡ Some (gives (DialResult 1 Busy) ∷ [])
unfolding stands_for
result_of_a_plain_script = refl

further_result : stands_for None (codes " result 2  TORTURE") ≡ Some (gives (DialResult 2 Torture) ∷ [])
unfolding stands_for
further_result = refl

no_such_result : stands_for None (codes "result 1 torture") ≡ None
unfolding stands_for
no_such_result = refl

result_of_two_words : stands_for None (codes "result 1 TORTURE DONTCALL") ≡ None
unfolding stands_for
result_of_two_words = refl

no_such_line : stands_for None (codes "walk 1") ≡ None
unfolding stands_for
no_such_line = refl
