-- A text that was given to a spool piece by piece is written at its end.
use Rattle.std.proofs.Common.{◌≡◌, ℕ, Bool, false, ◌||◌, List, [], ◌++◌, Option, Some, None, Result, Ok, Err, OnOk, OnErr, ap, subst, ◌∙◌, sym, append-nil}
use Rattle.std.specs.Io.KnownBytes.{Appends}
use Rattle.std.specs.Result.{is_err}
use Rattle.dp_conf.specs.Fronts.{AppendsFront}
use Rattle.dp_commands.specs.Block.{WaitingBytes, waiting}
use Rattle.dp_commands.specs.steps.Spools.{Passes, Spooled, Spools, spooled}
use Rattle.dp_commands.specs.steps.Streams.{Flows}

-- the whole text was written or, if a write failed, a prefix of it
pub record Written {T E : Type 0} (old new : Option (List ℕ)) (was now : Bool) (result : Result T E) (bytes : List ℕ) : Type 0 where
  pub whole : OnOk result (Appends old new bytes)
  pub front : OnErr result (AppendsFront old new bytes)
  pub told : now ≡ (was || is_err result)

-- nothing waits before or afterwards
Flows-whole : (old new : Option (List ℕ)) (bytes : List ℕ) → Flows old [] new [] bytes → Appends old new bytes
Flows-whole None new bytes p = tt
Flows-whole (Some xs) None bytes p = p
Flows-whole (Some xs) (Some ys) bytes p = sym (append-nil ys) ∙ p.0

written_by : {T E : Type 0} (old new : Spooled) (result : Result T E) (bytes : List ℕ) → old.waits ≡ [] → new.waits ≡ [] → Passes false (is_err result) old new bytes → Written old.contents new.contents old.told new.told result bytes
written_by old new (Ok x) bytes before beyond p =
    let P : List ℕ → Type 0 = λ waited. Flows old.contents waited new.contents new.waits bytes in
    let Q : List ℕ → Type 0 = λ waits. Flows old.contents [] new.contents waits bytes in
    record { whole = Flows-whole old.contents new.contents bytes (subst Q beyond (subst P before p.0)); front = tt; told = p.1 }
written_by old new (Err fault) bytes before beyond p =
    let P : List ℕ → Type 0 = λ waited. AppendsFront old.contents new.contents (waited ++ bytes) in
    record { whole = tt; front = subst P before p.0; told = p.1 }

-- a text was given to a spool in which nothing waited before, and nothing waits afterwards
pub spooled_whole : {W T E : Type 0} (contents : W → Option (List ℕ)) (told : W → Bool) (start end final : W) (block emptied : WaitingBytes) (sent result : Result T E) (bytes : List ℕ)
    → block ≡ waiting [] [] → emptied ≡ waiting [] [] → is_err sent ≡ false → final ≡ end
    → Spools (spooled contents told start block sent) (spooled contents told end emptied result) bytes
    → Written (contents start) (contents final) (told start) (told final) result bytes
spooled_whole {W} contents told start end final block emptied sent result bytes none sends fresh same given =
    let old = spooled contents told start block sent in
    let new = spooled contents told end emptied result in
    let P : Bool → Type 0 = λ failed. Passes failed (is_err result) old new bytes in
    let R : W → Type 0 = λ writer. Written (contents start) (contents writer) (told start) (told writer) result bytes in
    subst R (sym same) (written_by old new result bytes (ap (λ (b : WaitingBytes). b.whole ++ b.begun) none) (ap (λ (b : WaitingBytes). b.whole ++ b.begun) sends) (subst P fresh given))
