-- With the standard functions no name and no call is unknown.
use Rattle.std.proofs.Common.{◌≡◌, ℕ, Bool, true, false, ◌&&◌, if◌then◌else◌, List, [], Option, Some, None, refl, ap}
use Rattle.std.specs.Option.{option_or}
use Rattle.dp_conf.specs.Cut.{before_last, cut_once}
use Rattle.dp_conf.specs.Groups.{Reading, Over, Plain, Group}
use Rattle.dp_conf.specs.GroupsRead.{reading_of}
use Rattle.dp_conf.specs.Levels.{cut_outside}
use Rattle.dp_conf.specs.declared.groups.GroupKind.{GroupKind}
use Rattle.dp_conf.specs.declared.groups.GroupKind.TheVariants.{Braces, Brackets}
use Rattle.dp_vars.specs.Openings.{has_opening}
use Rattle.dp_vars.specs.Sights.{Sight}
use Rattle.dp_vars.specs.Unknown.{any_text, earlier, first_unknown, unknown_in_groups, unknown_body, unknown_calls, unknown_group, unknown_head, unknown_of}
use Rattle.dp_vars.specs.Values.{call_argument_with, expansion_of_with, head_by_with, head_value_with, standard_functions}

-- every head is known to the standard functions
standard-head : (sight : Sight) (head : List ℕ) → unknown_head standard_functions sight head ≡ []
unfolding head_value_with
standard-head sight head = by (cut_once 40 head)
  where
    called : (name : List ℕ) (argument : Option (List ℕ)) → call_argument_with (unknown_calls standard_functions sight) sight name argument ≡ []
    called name None = refl
    called name (Some argument) = refl

    by : (cut : Option (List ℕ × List ℕ)) → head_by_with (unknown_calls standard_functions sight) sight head cut ≡ []
    by None = refl
    by (Some cut) = called cut.0 (before_last 41 cut.1)

standard-group : (sight : Sight) (kind : GroupKind) (body : List ℕ) → unknown_group standard_functions sight kind body ≡ []
unfolding unknown_group
standard-group sight Brackets body = refl
standard-group sight Braces body = by (cut_outside 58 body)
  where
    by : (cut : Option (List ℕ × List ℕ)) → unknown_body standard_functions sight body cut ≡ []
    by None = standard-head sight body
    by (Some cut) = standard-head sight cut.0

standard-of : (sight : Sight) (reading : Reading) → unknown_of standard_functions sight reading ≡ []
unfolding unknown_of
standard-of sight Over = refl
standard-of sight (Plain byte rest) = standard-of sight rest
standard-of sight (Group kind inside rest) =
    λ i. earlier (standard-of sight inside i)
    (earlier (standard-group sight kind (expansion_of_with standard_functions sight inside) i) (standard-of sight rest i))

pub standard-known : (sight : Sight) (text : List ℕ) → first_unknown standard_functions sight text ≡ None
standard-known sight text = by (has_opening text)
  where
    by : (opens : Bool) → option_or (if opens && false then Some text else None) (unknown_in_groups standard_functions sight text) ≡ None
    by true = ap any_text (standard-of sight (reading_of text))
    by false = ap any_text (standard-of sight (reading_of text))
