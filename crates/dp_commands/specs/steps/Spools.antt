-- How a text is written piece by piece, a block at a time.
use Rattle.std.specs.Prelude.{◌≡◌, ℕ, ◌++◌, ◌||◌, Bool, true, false, List, Option, Result}
use Rattle.std.specs.Result.{is_err}
use Rattle.dp_conf.specs.Fronts.{AppendsFront}
use Rattle.dp_commands.specs.Block.{WaitingBytes}
use Rattle.dp_commands.specs.steps.Streams.{Flows}

-- how far a text is written: what the writer contains, what waits, whether a write has failed, and whether one had failed at any time
pub record Spooled : Type 0 where
  pub contents : Option (List ℕ)
  pub waits : List ℕ
  pub failed : Bool
  pub told : Bool

abbrev pub spooled : {W T E : Type 0} → (W → Option (List ℕ)) → (W → Bool) → W → WaitingBytes → Result T E → Spooled
spooled contents told writer block sent = record { contents = contents writer; waits = block.whole ++ block.begun; failed = is_err sent; told = told writer }

-- the bytes wait or are written after those before them; if a write fails a prefix of all of them is written, and no write follows
abbrev pub Passes : Bool → Bool → Spooled → Spooled → List ℕ → Type 0
Passes false false old new bytes = Flows old.contents old.waits new.contents new.waits bytes × (new.told ≡ (old.told || false))
Passes false true old new bytes = AppendsFront old.contents new.contents (old.waits ++ bytes) × (new.told ≡ (old.told || true))
Passes true false old new bytes = ⊥
Passes true true old new bytes = (new.contents ≡ old.contents) × (new.told ≡ old.told)

abbrev pub Spools : Spooled → Spooled → List ℕ → Type 0
Spools old new bytes = Passes old.failed new.failed old new bytes
