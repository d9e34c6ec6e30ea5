-- Bytes flow one after another.
use Rattle.std.proofs.Common.{ℕ, List, [], ◌++◌, Option, Some, None, length, take, ap, subst, ◌∙◌, sym}
use Rattle.std.proofs.lemmas.List.{append_assoc, append-nil}
use Rattle.dp_conf.specs.Fronts.{IsFront, AppendsFront}
use Rattle.dp_conf.proofs.ToldLemmas.{IsFront-append, IsFront-trans}
use Rattle.dp_commands.specs.steps.Streams.{Flows}

-- a text is a prefix of itself
pub IsFront-refl : (xs : List ℕ) → IsFront xs xs
IsFront-refl xs = ap (λ (t : List ℕ). take (length xs) t) (sym (append-nil xs)) ∙ IsFront-append xs []

-- nothing happens, and nothing is written
pub Flows-stay : (old : Option (List ℕ)) (waited : List ℕ) → Flows old waited old waited []
Flows-stay None waited = tt
Flows-stay (Some xs) waited = (ap (λ (t : List ℕ). xs ++ t) (sym (append-nil waited)), IsFront-refl xs)

-- more bytes after the others
pub Flows-trans : (c d e : Option (List ℕ)) (a b f first second : List ℕ) → Flows c a d b first → Flows d b e f second → Flows c a e f (first ++ second)
Flows-trans None d e a b f first second p q = tt
Flows-trans (Some xs) None e a b f first second p q = absurd p
Flows-trans (Some xs) (Some ys) None a b f first second p q = q
Flows-trans (Some xs) (Some ys) (Some zs) a b f first second p q = (
  q.0 ∙ (sym (append_assoc ys b second) ∙ (ap (λ (t : List ℕ). t ++ second) p.0
      ∙ (append_assoc xs (a ++ first) second ∙ ap (λ (t : List ℕ). xs ++ t) (append_assoc a first second)))),
  IsFront-trans xs ys zs p.1 q.1,
)

-- a failed write after other bytes
pub Flows-fails : (c d e : Option (List ℕ)) (a b first second : List ℕ) → Flows c a d b first → AppendsFront d e (b ++ second) → AppendsFront c e (a ++ (first ++ second))
Flows-fails None d e a b first second p q = tt
Flows-fails (Some xs) None e a b first second p q = absurd p
Flows-fails (Some xs) (Some ys) None a b first second p q = q
Flows-fails (Some xs) (Some ys) (Some zs) a b first second p q =
    let Q : List ℕ → Type 0 = λ t. IsFront zs t in (
      IsFront-trans xs ys zs p.1 q.0,
      subst Q (sym (append_assoc ys b second) ∙ (ap (λ (t : List ℕ). t ++ second) p.0
          ∙ (append_assoc xs (a ++ first) second ∙ ap (λ (t : List ℕ). xs ++ t) (append_assoc a first second)))) q.1,
    )
