-- The calls that turns show.
use Rattle.std.proofs.Common.{◌≡◌, true, false, [], None, Some, refl}
use Rattle.std.specs.Prelude.{codes}
use Rattle.dp_machine.specs.declared.event.Event.TheVariants.{Step}
use Rattle.dp_commands.specs.declared.script.Turn.TheVariants.{Event, Show}
use Rattle.dp_wide_runs.specs.Shows.{call_in, group_of, is_call, value_line}

function_is_a_call : is_call (codes "CUT(X,-,1)") ≡ true
function_is_a_call = refl

variable_is_no_call : is_call (codes "CALLERID") ≡ false
variable_is_no_call = refl

part_of_a_call_is_none : is_call (codes "DB(k):1") ≡ false
part_of_a_call_is_none = refl

closed_name_is_no_call : is_call (codes "A)") ≡ false
closed_name_is_no_call = refl

no_name_is_no_call : is_call [] ≡ false
no_name_is_no_call = refl

show_of_a_call : call_in (Show 2 (codes "DB(k)")) ≡ Some (2, codes "DB(k)")
show_of_a_call = refl

show_of_the_channel : call_in (Show 2 (codes "CHANNEL")) ≡ Some (2, codes "CHANNEL")
show_of_the_channel = refl

show_of_a_name : call_in (Show 2 (codes "A")) ≡ None
show_of_a_name = refl

step_shows_nothing : call_in (Event (Step 1)) ≡ None
step_shows_nothing = refl

group_of_a_call : group_of (codes "DB(k)") ≡ codes "${DB(k)}"
group_of_a_call = refl

line_of_a_call : value_line (codes "DB(k)") (codes "a b") ≡ codes "DB(k)=a b\n"
line_of_a_call = refl
