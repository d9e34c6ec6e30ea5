-- The digits of a text match a name if each class takes one and the tail allows the rest.
use Rattle.std.proofs.Common.{◌≡◌, ℕ, ◌+◌, Bool, true, false, true≢false, List, length, take, Some, arith, refl, sym, ap, ◌∙◌, ◌==◌, add-one}
use Rattle.std.specs.Prelude.{slice_get}
use Rattle.std.proofs.lemmas.List.{length-take}
use Rattle.std.proofs.lemmas.Option.{slice_get_within}
use Rattle.dp_pattern.specs.Name.{Meaning, Plain, Pattern}
use Rattle.dp_pattern.specs.declared.tail.Tail.{Tail}
use Rattle.dp_trie.specs.steps.Labels.{is_matched}
use Rattle.dp_trie.specs.Names.{rank, side_of}
use Rattle.dp_trie.specs.Tree.{alive, takes, allows}
use Rattle.dp_trie.specs.declared.plain.Side.{Side}
use Rattle.dp_trie.specs.declared.plain.Side.TheVariants.{Before, Same, Longer, After}
use Rattle.dp_trie.proofs.BuildLemmas.{take-get}
use Rattle.dp_trie.proofs.PlainLemmas.{fits-side}
use Rattle.dp_trie.proofs.WalkLemmas.{alive-push, alive-take, fits-allows}

-- one more class takes a digit exactly if the test says so
pub one-more : (classes : List (List ℕ)) (digits : List ℕ) (n : ℕ) (class : List ℕ) → slice_get classes n ≡ Some class → alive false (take n classes) digits ≡ true → alive false (take (n + 1) classes) digits ≡ takes false digits class n
one-more classes digits n class here on =
    ap (λ p. alive false p digits) (ap (λ k. take k classes) (add-one n) ∙ take-get classes n class here)
    ∙ (alive-push false (take n classes) class digits on
    ∙ ap (takes false digits class) (let size = length-take n classes in let inside = slice_get_within classes n class here in let e : length (take n classes) ≡ n = omega (arith, size, inside) in e))

-- if the first classes do not take the digits, all of them do not
pub dead-whole : (classes : List (List ℕ)) (digits : List ℕ) (n : ℕ) → alive false (take n classes) digits ≡ false → alive false classes digits ≡ false
dead-whole classes digits n dead = by (alive false classes digits) refl
  where
    by : (b : Bool) → alive false classes digits ≡ b → alive false classes digits ≡ false
    by true on = absurd (true≢false (sym (alive-take false n classes digits on) ∙ dead))
    by false off = off

-- a plain name matches if it is the digits
pub plain-side : (digits text : List ℕ) (m : Meaning) (s : Side) → Plain text ≡ m → s ≡ side_of text digits → is_matched digits m ≡ (rank s == 1)
plain-side digits text m s named is = ap (is_matched digits) (sym named) ∙ (fits-side false text digits ∙ ap (λ t. rank t == 1) (sym is))

pub other-side : (s : Side) → (s ≡ Same → ⊥) → (rank s == 1) ≡ false
other-side Before other = refl
other-side Same other = absurd (other refl)
other-side Longer other = refl
other-side After other = refl

-- a pattern matches if its classes take the digits and its tail allows the rest
pub pattern-taken : (digits : List ℕ) (classes : List (List ℕ)) (tail : Tail) (m : Meaning) → Pattern classes tail ≡ m → alive false classes digits ≡ true → is_matched digits m ≡ allows false tail (length classes) (length digits)
pattern-taken digits classes tail m named on = ap (is_matched digits) (sym named) ∙ fits-allows false tail classes digits on
