-- Directives, computed from the definition itself.
use Rattle.std.proofs.Common.{◌≡◌, [], ◌∷◌, ◌++◌, Some, None, refl}
use Rattle.std.specs.Prelude.{codes}
use Rattle.dp_files.specs.Directives.{Include, TryInclude, Exec, Unknown, directive_of}

directive-quotes : directive_of (codes "#Include  " ++ 34 ∷ codes "a b.conf" ++ 34 ∷ []) ≡ Some (Include (codes "a b.conf"))
unfolding directive_of
directive-quotes = refl

directive-angles : directive_of (codes "#tryinclude <a.conf>") ≡ Some (TryInclude (codes "a.conf"))
unfolding directive_of
directive-angles = refl

-- a bare name goes to the end, and a quote that is not closed belongs to it
directive-bare : directive_of (codes "#include 'a b.conf") ≡ Some (Include (codes "'a b.conf"))
unfolding directive_of
directive-bare = refl

directive-no_name : directive_of (codes "#include ''") ≡ Some Unknown
unfolding directive_of
directive-no_name = refl

directive-exec : directive_of (codes "#exec date") ≡ Some Exec
unfolding directive_of
directive-exec = refl

directive-joined : directive_of (codes "#include<a>") ≡ Some Unknown
unfolding directive_of
directive-joined = refl

directive-none : directive_of (codes "exten => 1,1,NoOp") ≡ None
unfolding directive_of
directive-none = refl
