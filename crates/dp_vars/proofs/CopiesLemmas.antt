-- Copies of frames. Each copy has the numbers of its original.
use Rattle.std.proofs.Common.{◌≡◌, ℕ, zero, suc, List, [], ◌∷◌, refl, sym, subst}
use Rattle.std.specs.List.{AllZip}
use Rattle.std.proofs.lemmas.List.Elements.{length_all_zip, same_from_all_zip}
use Rattle.dp_vars.specs.steps.Bindings.{Falls}
use Rattle.dp_vars.specs.steps.Tables.{AreHeld, Entries, IsAmong, IsBound, IsHeld, numbers_at, stack_at}
use Rattle.dp_vars.specs.declared.binding_stack.Binding.{Binding}
use Rattle.dp_vars.specs.declared.frame.HeldFrame.{HeldFrame}

module _ {B : Type 0} (IsSame : B → B → Type 0) where
  -- a frame and its copy
  abbrev pub IsCopy : HeldFrame B → HeldFrame B → Type 0
  IsCopy frame copy = IsSame frame.back copy.back × (copy.numbers ≡ frame.numbers)

  -- the numbers at a place
  pub numbers_at-copies : (frames copies : List (HeldFrame B)) → AllZip IsCopy frames copies → (place : ℕ) → numbers_at copies place ≡ numbers_at frames place
  numbers_at-copies [] [] all place = refl
  numbers_at-copies [] (k ∷ ks) all place = absurd all
  numbers_at-copies (h ∷ hs) [] all place = absurd all
  numbers_at-copies (h ∷ hs) (k ∷ ks) all zero = all.0.1
  numbers_at-copies (h ∷ hs) (k ∷ ks) all (suc place) = numbers_at-copies hs ks all.1 place

  module _ (frames copies : List (HeldFrame B)) (all : AllZip IsCopy frames copies) (number : ℕ) where
    held_one : (depth : ℕ) → IsHeld frames number depth → IsHeld copies number depth
    held_one zero held = tt
    held_one (suc place) held = subst (IsAmong number) (sym (numbers_at-copies frames copies all place)) held

    held_each : (bs : List Binding) → AreHeld frames number bs → AreHeld copies number bs
    held_each [] held = tt
    held_each (b ∷ bs) held = (held_one b.depth held.0, held_each bs held.1)

  -- copies have the numbers of the names that are bound in them
  pub IsBound-copies : (entries : Entries) (frames copies : List (HeldFrame B)) → AllZip IsCopy frames copies → IsBound entries frames → IsBound entries copies
  IsBound-copies entries frames copies all bound = record {
    falls = λ number. subst (λ n. Falls (suc n) (stack_at entries number)) (length_all_zip IsCopy frames copies all) (bound.falls number);
    held = λ number. held_each frames copies all number (stack_at entries number) (bound.held number);
  }

  -- if a copy of a place to return to equals that place, copies of frames equal the frames
  pub same_copies : (frames copies : List (HeldFrame B)) → ((back same : B) → IsSame back same → same ≡ back) → AllZip IsCopy frames copies → copies ≡ frames
  same_copies frames copies exact all =
      same_from_all_zip IsCopy frames copies all (λ h k copied i. record { back = exact h.back k.back copied.0 i; numbers = copied.1 i })
