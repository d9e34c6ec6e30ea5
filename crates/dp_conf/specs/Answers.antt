-- The result of a call compared with its definition, the first fault of a sequence, and lists read with the elements before each place.
use Rattle.std.specs.Prelude.{◌≡◌, List, [], ◌∷◌, ◌++◌, Option, Some, None, Result, Ok, Err}

-- if a call failed for this reason its definition failed too; out-of-memory has no reason, and says nothing
abbrev pub Refuses : {Y D : Type 0} → Option D → Result Y D → Type 0
Refuses None given = Unit {0}
Refuses (Some reason) given = given ≡ Err reason

-- the result of the call, as contracts see it, is that of the definition, or out-of-memory
abbrev pub Answers : {X Y E D : Type 0} → (X → Y) → (E → Option D) → Result X E → Result Y D → Type 0
Answers view reason (Ok x) given = given ≡ Ok (view x)
Answers view reason (Err e) given = Refuses (reason e) given

-- the result of `next` for the value, or the fault
infixl 10 ◌>>=◌
abbrev pub ◌>>=◌ : {X Y E : Type 0} → Result X E → (X → Result Y E) → Result Y E
Ok x >>= next = next x
Err e >>= next = Err e

-- the list with these values before it, or the fault
abbrev pub with_front : {X E : Type 0} → List X → Result (List X) E → Result (List X) E
with_front front rest = rest >>= λ xs. Ok (front ++ xs)

-- the values of all readings, one after another, or the first fault
abbrev pub all_of : {X E : Type 0} → List (Result (List X) E) → Result (List X) E
all_of [] = Ok []
all_of (reading ∷ readings) = reading >>= λ xs. with_front xs (all_of readings)

-- the values of the readings before the first fault
abbrev pub before_fault : {X E : Type 0} → List (Result (List X) E) → List X
before_fault [] = []
before_fault (Ok xs ∷ readings) = xs ++ before_fault readings
before_fault (Err fault ∷ readings) = []

-- the values of `f` for each element and those before it, with `before` at the front
abbrev pub each_after : {X Y : Type 0} → (List X → X → Y) → List X → List X → List Y
each_after f before [] = []
each_after f before (x ∷ xs) = f before x ∷ each_after f (before ++ x ∷ []) xs
