-- A text without the blanks at its ends is cut at the same parentheses as with them.
use Rattle.std.proofs.Common.{◌≡◌, ℕ, ◌==◌, Bool, true, false, List, [], ◌∷◌, ◌++◌, Option, Some, None, refl, sym, ap, ◌∙◌, if◌then◌else◌}
use borrow.Author.Tests.{eqb-true}
use Rattle.std.specs.Option.{option_map_or}
use Rattle.dp_conf.proofs.TextLemmas.{Avoids, IsCut, cut_once-here, cut_once-is, cut_once-none, cut_once-nowhere, each-trim}
use Rattle.dp_conf.specs.Blanks.{before_kept, is_blank, trim, trim_end, trim_start}
use Rattle.dp_conf.specs.Cut.{before_last, cut_once}

-- blanks at the ends do not affect a cut at a byte that is not a blank
start-cut : (front rest : List ℕ) → trim_start (front ++ 40 ∷ rest) ≡ trim_start front ++ 40 ∷ rest
start-cut [] rest = refl
start-cut (b ∷ bs) rest = by (is_blank b) (start-cut bs rest)
  where
    by : (blank : Bool) → trim_start (bs ++ 40 ∷ rest) ≡ trim_start bs ++ 40 ∷ rest
        → (if blank then trim_start (bs ++ 40 ∷ rest) else b ∷ (bs ++ 40 ∷ rest)) ≡ (if blank then trim_start bs else b ∷ bs) ++ 40 ∷ rest
    by true is = is
    by false is = refl

kept-opening : (rest : List ℕ) → before_kept 40 rest ≡ 40 ∷ rest
kept-opening [] = refl
kept-opening (b ∷ bs) = refl

kept-before : (b : ℕ) (front rest : List ℕ) → before_kept b (front ++ 40 ∷ rest) ≡ b ∷ (front ++ 40 ∷ rest)
kept-before b [] rest = refl
kept-before b (c ∷ cs) rest = refl

end-cut : (front rest : List ℕ) → trim_end (front ++ 40 ∷ rest) ≡ front ++ 40 ∷ trim_end rest
end-cut [] rest = kept-opening (trim_end rest)
end-cut (b ∷ bs) rest = ap (before_kept b) (end-cut bs rest) ∙ kept-before b bs (trim_end rest)

trim-start-avoids : (byte : ℕ) (text : List ℕ) → Avoids byte text → Avoids byte (trim_start text)
trim-start-avoids byte [] is = tt
trim-start-avoids byte (b ∷ bs) is = by (is_blank b) (trim-start-avoids byte bs is.1)
  where
    by : (blank : Bool) → Avoids byte (trim_start bs) → Avoids byte (if blank then trim_start bs else b ∷ bs)
    by true rest = rest
    by false rest = is

pub cut-trimmed : (text front rest : List ℕ) → cut_once 40 text ≡ Some (front, rest) → cut_once 40 (trim text) ≡ Some (trim_start front, trim_end rest)
cut-trimmed text front rest cut =
    let is : IsCut 40 text front rest = cut_once-is 40 text front rest cut in
    ap (λ t. cut_once 40 (trim t)) is.whole ∙ (ap (λ t. cut_once 40 (trim_end t)) (start-cut front rest)
    ∙ (ap (cut_once 40) (end-cut (trim_start front) rest) ∙ cut_once-here 40 (trim_start front) (trim_end rest) (trim-start-avoids 40 front is.avoids)))

pub none-trimmed : (text : List ℕ) → cut_once 40 text ≡ None → cut_once 40 (trim text) ≡ None
none-trimmed text none = cut_once-nowhere 40 (trim text) (each-trim (λ b. (b == 40) ≡ false) text (cut_once-none 40 text none))

blank-closing : (b : ℕ) → is_blank b ≡ true → (b == 41) ≡ false
blank-closing b is = by (b == 41) refl
  where
    by : (t : Bool) → (b == 41) ≡ t → t ≡ false
    by true same = let e : b ≡ 41 = eqb-true b 41 same in let no : true ≡ false = sym is ∙ ap is_blank e in absurd (let n : ⊥ = cc in n)
    by false differs = refl

pub last-trimmed : (text : List ℕ) → before_last 41 (trim_end text) ≡ before_last 41 text
last-trimmed [] = refl
last-trimmed (b ∷ bs) = by (trim_end bs) (last-trimmed bs)
  where
    Last : Option (List ℕ) → Option (List ℕ)
    Last o = option_map_or (λ front. Some (b ∷ front)) o (if b == 41 then Some [] else None)

    blank : (t : Bool) → is_blank b ≡ t → before_last 41 (if t then [] else b ∷ []) ≡ Last None
    blank true is = sym (ap (λ c. if c then Some [] else None) (blank-closing b is))
    blank false is = refl

    by : (kept : List ℕ) → before_last 41 kept ≡ before_last 41 bs → before_last 41 (before_kept b kept) ≡ Last (before_last 41 bs)
    by [] same = blank (is_blank b) refl ∙ ap Last same
    by (k ∷ kept) same = ap Last same
