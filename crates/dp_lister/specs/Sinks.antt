-- What takes a text piece by piece.
use Rattle.std.specs.Prelude.{ℕ, List, [], ◌++◌}

-- what each sink promises: it may take nothing, and takes two texts as it takes the one after the other
pub record SinkLaws {S : Type 0} (takes : S → S → List ℕ → Type 0) : Type 0 where
  pub nothing : (s : S) → takes s s []
  pub both : (r s t : S) (first second : List ℕ) → takes r s first → takes s t second → takes r t (first ++ second)
