-- Bytes that are written now or wait, and what is written if a write fails.
use Rattle.std.proofs.Common.{◌≡◌, ℕ, List, [], ◌++◌, Option, Some, None, length, take, ap, subst, ◌∙◌, sym}
use Rattle.std.specs.Io.KnownBytes.{Appends}
use Rattle.std.proofs.lemmas.List.{append_assoc, append-nil}
use Rattle.dp_conf.specs.Fronts.{IsFront, AppendsFront}
use Rattle.dp_conf.proofs.ToldLemmas.{IsFront-append, IsFront-trans}
use Rattle.dp_diff.specs.steps.Telling.{Flows}

-- a text is a prefix of itself
IsFront-refl : (xs : List ℕ) → IsFront xs xs
IsFront-refl xs = ap (λ (t : List ℕ). take (length xs) t) (sym (append-nil xs)) ∙ IsFront-append xs []

-- bytes are added to those that wait
pub Flows-waits : (old : Option (List ℕ)) (waited waits bytes : List ℕ) → waits ≡ waited ++ bytes → Flows old waited old waits bytes
Flows-waits None waited waits bytes e = tt
Flows-waits (Some xs) waited waits bytes e = (ap (λ (t : List ℕ). xs ++ t) e, IsFront-refl xs)

-- everything that waits is written
pub Flows-sent : (old new : Option (List ℕ)) (waited : List ℕ) → Appends old new waited → Flows old waited new [] []
Flows-sent None new waited wrote = tt
Flows-sent (Some xs) None waited wrote = wrote
Flows-sent (Some xs) (Some ys) waited wrote =
    let Q : List ℕ → Type 0 = λ t. IsFront xs t in (
      append-nil ys ∙ (wrote ∙ ap (λ (t : List ℕ). xs ++ t) (sym (append-nil waited))),
      subst Q (sym wrote) (IsFront-append xs waited),
    )

-- more bytes after the others
pub Flows-trans : (c d e : Option (List ℕ)) (a b f first second : List ℕ) → Flows c a d b first → Flows d b e f second → Flows c a e f (first ++ second)
Flows-trans None d e a b f first second p q = tt
Flows-trans (Some xs) None e a b f first second p q = absurd p
Flows-trans (Some xs) (Some ys) None a b f first second p q = q
Flows-trans (Some xs) (Some ys) (Some zs) a b f first second p q = (
  q.0 ∙ (sym (append_assoc ys b second) ∙ (ap (λ (t : List ℕ). t ++ second) p.0
      ∙ (append_assoc xs (a ++ first) second ∙ ap (λ (t : List ℕ). xs ++ t) (append_assoc a first second)))),
  IsFront-trans xs ys zs p.1 q.1,
)

-- a failed write after other bytes
pub Flows-fails : (c d e : Option (List ℕ)) (a b first second : List ℕ) → Flows c a d b first → AppendsFront d e (b ++ second) → AppendsFront c e (a ++ (first ++ second))
Flows-fails None d e a b first second p q = tt
Flows-fails (Some xs) None e a b first second p q = absurd p
Flows-fails (Some xs) (Some ys) None a b first second p q = q
Flows-fails (Some xs) (Some ys) (Some zs) a b first second p q =
    let Q : List ℕ → Type 0 = λ t. IsFront zs t in (
      IsFront-trans xs ys zs p.1 q.0,
      subst Q (sym (append_assoc ys b second) ∙ (ap (λ (t : List ℕ). t ++ second) p.0
          ∙ (append_assoc xs (a ++ first) second ∙ ap (λ (t : List ℕ). xs ++ t) (append_assoc a first second)))) q.1,
    )

-- nothing waits at the beginning and at the end
pub Flows-whole : (c d : Option (List ℕ)) (bytes : List ℕ) → Flows c [] d [] bytes → Appends c d bytes
Flows-whole None d bytes p = tt
Flows-whole (Some xs) None bytes p = p
Flows-whole (Some xs) (Some ys) bytes p = sym (append-nil ys) ∙ p.0

-- nothing was written
pub AppendsFront-nothing : (c : Option (List ℕ)) (bytes : List ℕ) → AppendsFront c c bytes
AppendsFront-nothing None bytes = tt
AppendsFront-nothing (Some xs) bytes = (IsFront-refl xs, IsFront-append xs bytes)
