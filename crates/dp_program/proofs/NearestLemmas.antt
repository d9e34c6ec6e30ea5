-- How a name is inserted among the nearest ones.
use Rattle.std.proofs.Common.{◌≡◌, ℕ, zero, suc, Bool, true, false, cond, List, [], ◌∷◌, ◌++◌, map, take, drop, nat_lt, refl, ap, ◌∙◌}
use Rattle.dp_program.specs.Nearest.{NearName, near_of, place_of, with_near}
use Rattle.dp_program.specs.declared.nearest.Near.{Near}

-- the first elements of a list of names
map_take : (n : ℕ) (kept : List Near) → map near_of (take n kept) ≡ take n (map near_of kept)
map_take zero kept = refl
map_take (suc n) [] = refl
map_take (suc n) (next ∷ later) = ap (λ (t : List NearName). near_of next ∷ t) (map_take n later)

-- a name is inserted at its place
insert_by : (near next : Near) (later : List Near) (b : Bool)
    → map near_of (take (place_of later near.distance) later ++ near ∷ drop (place_of later near.distance) later) ≡ with_near (near_of near) (map near_of later)
    → map near_of (take (cond b 0 (suc (place_of later near.distance))) (next ∷ later) ++ near ∷ drop (cond b 0 (suc (place_of later near.distance))) (next ∷ later))
    ≡ cond b (near_of near ∷ near_of next ∷ map near_of later) (near_of next ∷ with_near (near_of near) (map near_of later))
insert_by near next later true before = refl
insert_by near next later false before = ap (λ (t : List NearName). near_of next ∷ t) before

pub insert_near : (near : Near) (kept : List Near) → map near_of (take (place_of kept near.distance) kept ++ near ∷ drop (place_of kept near.distance) kept) ≡ with_near (near_of near) (map near_of kept)
insert_near near [] = refl
insert_near near (next ∷ later) = insert_by near next later (nat_lt near.distance next.distance) (insert_near near later)

-- the nearest names so far, with one more
pub kept_more : (place : ℕ) (near : Near) (old new : List Near) → new ≡ take 3 (take place old ++ near ∷ drop place old) → place ≡ place_of old near.distance
    → map near_of new ≡ take 3 (with_near (near_of near) (map near_of old))
kept_more place near old new is at =
    ap (map near_of) is ∙ (map_take 3 (take place old ++ near ∷ drop place old)
    ∙ (ap (λ place. take 3 (map near_of (take place old ++ near ∷ drop place old))) at ∙ ap (take 3) (insert_near near old)))
