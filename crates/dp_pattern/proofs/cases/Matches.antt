-- Matches, texts that go on, the order and the spelling, computed from the definitions themselves.
use Rattle.std.proofs.Common.{◌≡◌, ℕ, zero, suc, ◌<◌, slice_index, [], ◌∷◌, Less, Greater, codes, true≢false, refl, sym, arith}
use Rattle.dp_pattern.specs.Name.{Plain, Pattern}
use Rattle.dp_pattern.specs.Matches.{Matches}
use Rattle.dp_pattern.specs.GoesOn.{GoesOn}
use Rattle.dp_pattern.specs.Order.{name_cmp}
use Rattle.dp_pattern.specs.Spelling.{spelling}
use Rattle.dp_pattern.specs.declared.tail.Tail.TheVariants.{End, Dot, Bang}
use Rattle.dp_pattern.proofs.WalkLemmas.{walk_decides_match}

-- `_1.` matches `1-2`, but not `1`
takes_more : Matches (Pattern (codes "1" ∷ []) Dot) (codes "1-2")
unfolding Matches
takes_more = record {
  begin = codes "1";
  rest = codes "2";
  whole = refl;
  members = ((0, omega arith, refl), tt);
  ending = omega arith;
}

wants_more : Matches (Pattern (codes "1" ∷ []) Dot) (codes "1") → ⊥
wants_more found = true≢false (sym ((walk_decides_match (Pattern (codes "1" ∷ []) Dot) (codes "1")).1 found))

-- `_1!` matches `1`
bang_takes_nothing : Matches (Pattern (codes "1" ∷ []) Bang) (codes "1")
unfolding Matches
bang_takes_nothing = record {
  begin = codes "1";
  rest = [];
  whole = refl;
  members = ((0, omega arith, refl), tt);
  ending = tt;
}

plain_matches : Matches (Plain (codes "100")) (codes "1-0-0")
unfolding Matches
plain_matches = refl

-- `_1.` goes on from `1`, and `_1!` does not
dot_goes_on : GoesOn (Pattern (codes "1" ∷ []) Dot) (codes "1")
unfolding Matches
dot_goes_on = record {
  ending = codes "2";
  some = omega arith;
  bytes = each_byte;
  dashless = no_dash;
  matching = record { begin = codes "1"; rest = codes "2"; whole = refl; members = ((0, omega arith, refl), tt); ending = omega arith };
  no_bang = tt;
}
  where
    each_byte : (k : ℕ) → k < 1 → slice_index (codes "2") k < 256
    each_byte zero _ = omega arith
    each_byte (suc k) h = absurd (omega arith)

    no_dash : (k : ℕ) → k < 1 → slice_index (codes "2") k ≡ 45 → ⊥
    no_dash zero _ e = omega arith
    no_dash (suc k) h e = absurd (omega arith)

bang_never_goes_on : GoesOn (Pattern (codes "1" ∷ []) Bang) (codes "1") → ⊥
bang_never_goes_on found = found.no_bang

-- the order
plain_first : name_cmp (Plain (codes "999")) (Pattern [] Bang) ≡ Less
unfolding name_cmp
plain_first = refl

end_first : name_cmp (Pattern (codes "1" ∷ []) End) (Pattern (codes "1" ∷ codes "2" ∷ []) End) ≡ Less
unfolding name_cmp
end_first = refl

fewer_first : name_cmp (Pattern (codes "45678" ∷ []) End) (Pattern (codes "23456789" ∷ []) End) ≡ Less
unfolding name_cmp
fewer_first = refl

least_first : name_cmp (Pattern (codes "01234" ∷ []) End) (Pattern (codes "45678" ∷ []) End) ≡ Less
unfolding name_cmp
least_first = refl

class_before_dot : name_cmp (Pattern [] Dot) (Pattern (codes "0123456789" ∷ []) Dot) ≡ Greater
unfolding name_cmp
class_before_dot = refl

dot_before_bang : name_cmp (Pattern [] Dot) (Pattern [] Bang) ≡ Less
unfolding name_cmp
dot_before_bang = refl

-- the spelling
letters : spelling (Pattern (codes "0123456789" ∷ codes "123456789" ∷ codes "23456789" ∷ []) Dot) ≡ codes "_XZN."
unfolding spelling
letters = refl

sets : spelling (Pattern (codes "X" ∷ codes "[" ∷ codes "]" ∷ codes "_" ∷ codes "01234" ∷ []) End) ≡ codes "_[X][[]]_[01234]"
unfolding spelling
sets = refl
