-- Consequences of a result and a reading, for loops that read one value after another.
use Rattle.std.proofs.Common.{◌≡◌, List, [], ◌∷◌, ◌++◌, Option, Some, None, Result, Ok, Err, refl, ap, ◌∙◌, sym, subst}
use Rattle.std.proofs.Math.Seq.{append_snoc}
use Rattle.std.proofs.lemmas.List.{append_assoc, append-nil}
use Rattle.dp_conf.specs.Answers.{Refuses, ◌>>=◌, with_front, all_of, each_after}

-- a part that fails for a reason that is passed on makes the whole fail
pub Refuses-passed_on : {Y Z D : Type 0} (reason : Option D) (part : Result Y D) (whole : Result Z D) → ((fault : D) → part ≡ Err fault → whole ≡ Err fault) → Refuses reason part → Refuses reason whole
Refuses-passed_on None part whole pass refused = tt
Refuses-passed_on (Some fault) part whole pass refused = pass fault refused

-- a front before a front
pub with_front-with_front : {X E : Type 0} (xs ys : List X) (rest : Result (List X) E) → with_front xs (with_front ys rest) ≡ with_front (xs ++ ys) rest
with_front-with_front xs ys (Ok zs) = ap (λ (all : List _). Ok all) (sym (append_assoc xs ys zs))
with_front-with_front xs ys (Err fault) = refl

-- an empty front
pub with_front-nil : {X E : Type 0} (rest : Result (List X) E) → with_front [] rest ≡ rest
with_front-nil (Ok zs) = refl
with_front-nil (Err fault) = refl

-- a reading with values is added to the front of the rest
pub all_of-Ok : {X E : Type 0} (front xs : List X) (reading : Result (List X) E) (readings : List (Result (List X) E)) → reading ≡ Ok xs → with_front front (all_of (reading ∷ readings)) ≡ with_front (front ++ xs) (all_of readings)
all_of-Ok front xs reading readings e =
    ap (λ (r : Result (List _) _). with_front front (r >>= λ ys. with_front ys (all_of readings))) e ∙ with_front-with_front front xs (all_of readings)

-- one more element is read with all the others before it
pub each_after-push : {X Y : Type 0} (f : List X → X → Y) (before xs : List X) (x : X) → each_after f before (xs ++ x ∷ []) ≡ each_after f before xs ++ f (before ++ xs) x ∷ []
each_after-push f before [] x = ap (λ (b : List _). f b x ∷ []) (sym (append-nil before))
each_after-push f before (y ∷ ys) x =
    ap (λ (later : List _). f before y ∷ later) (each_after-push f (before ++ y ∷ []) ys x)
    ∙ ap (λ (b : List _). f before y ∷ (each_after f (before ++ y ∷ []) ys ++ f b x ∷ [])) (append_snoc before y ys)

-- what holds of no elements, and of one more whenever it holds of some, holds of all
pub snoc_from : {X : Type 0} (P : List X → Type 0) → ((xs : List X) (x : X) → P xs → P (xs ++ x ∷ [])) → (before xs : List X) → P before → P (before ++ xs)
snoc_from P push before [] h = subst P (sym (append-nil before)) h
snoc_from P push before (x ∷ xs) h = subst P (append_snoc before x xs) (snoc_from P push (before ++ x ∷ []) xs (push before x h))
