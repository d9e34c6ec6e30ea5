-- Names that are their own spelling.
use Rattle.std.proofs.Common.{◌≡◌, ℕ, Bool, true, false, not, ◌&&◌, ◌||◌, cond, eqb, List, [], ◌∷◌, Option, Some, None, Result, Ok, Err, length, refl, ap, ◌∙◌, arith}
use Rattle.std.proofs.lemmas.Bool.Decides.{nat_tests}
use Rattle.std.specs.List.{list_all, list_any}
use Rattle.std.specs.Option.{is_some}
use Rattle.dp_conf.specs.Groups.{kind_of, opening}
use Rattle.dp_conf.specs.declared.groups.GroupKind.{GroupKind}
use Rattle.dp_pattern.specs.Dashes.{from_first, without_dashes}
use Rattle.dp_pattern.specs.Name.{Meaning, Plain, is_bad, meaning_of, pattern_reading, plain_of, reading_of}
use Rattle.dp_pattern.specs.Spelling.{spelling}
use Rattle.dp_pattern.specs.declared.fault.NameFault.{NameFault}
use Rattle.dp_pattern.specs.declared.fault.NameFault.TheVariants.{BadByte}
use Rattle.dp_files.specs.ContextHistory.{extension_of, has_caller, has_group, has_slash, is_known_by_text, spelled_extension}
use Rattle.dp_files.specs.NameSteps.{is_simple}
use Rattle.dp_files.specs.declared.extension.WrittenExtension.{WrittenExtension}

-- what a simple byte is not
record IsSimple (b : ℕ) : Type 0 where
  no_dollar : eqb b 36 ≡ false
  no_slash : eqb b 47 ≡ false
  no_dash : eqb b 45 ≡ false
  no_pattern : eqb b 95 ≡ false
  fine : is_bad b ≡ false

simple_byte : (b : ℕ) → is_simple b ≡ true → IsSimple b
simple_byte b simple = record {
  no_dollar = grind (arith, nat_tests);
  no_slash = grind (arith, nat_tests);
  no_dash = grind (arith, nat_tests);
  no_pattern = grind (arith, nat_tests);
  fine = grind (arith, nat_tests);
}

both : (a b : Bool) → (a && b) ≡ true → (a ≡ true) × (b ≡ true)
both true b e = (refl, e)
both false b e = absurd cc

-- the first byte and the rest of a simple text
first_simple : (b : ℕ) (bs : List ℕ) → list_all is_simple (b ∷ bs) ≡ true → IsSimple b
first_simple b bs all = simple_byte b (both (is_simple b) (list_all is_simple bs) all).0

rest_simple : (b : ℕ) (bs : List ℕ) → list_all is_simple (b ∷ bs) ≡ true → list_all is_simple bs ≡ true
rest_simple b bs all = (both (is_simple b) (list_all is_simple bs) all).1

-- no group opens in it
opens_none : (b : ℕ) (bs : List ℕ) → eqb b 36 ≡ false → is_some (opening b bs) ≡ false
opens_none b [] other = refl
opens_none b (next ∷ bs) other = ap (λ t. is_some (cond {A = Option GroupKind} t (kind_of next) None)) other

no_group : (text : List ℕ) → list_all is_simple text ≡ true → has_group text ≡ false
no_group [] all = refl
no_group (b ∷ bs) all = ap (λ t. t || has_group bs) (opens_none b bs (first_simple b bs all).no_dollar) ∙ no_group bs (rest_simple b bs all)

-- it has no `/`
no_slash_in : (text : List ℕ) → list_all is_simple text ≡ true → has_slash text ≡ false
no_slash_in [] all = refl
no_slash_in (b ∷ bs) all = ap (λ t. t || has_slash bs) (first_simple b bs all).no_slash ∙ no_slash_in bs (rest_simple b bs all)

-- names may contain each of its bytes
none_bad : (text : List ℕ) → list_all is_simple text ≡ true → list_any is_bad text ≡ false
none_bad [] all = refl
none_bad (b ∷ bs) all = ap (λ t. t || list_any is_bad bs) (first_simple b bs all).fine ∙ none_bad bs (rest_simple b bs all)

-- it has no dashes
without_dashes-simple : (text : List ℕ) → list_all is_simple text ≡ true → without_dashes text ≡ text
without_dashes-simple [] all = refl
without_dashes-simple (b ∷ bs) all =
    ap (λ t. cond (not t) (b ∷ without_dashes bs) (without_dashes bs)) (first_simple b bs all).no_dash
    ∙ ap (λ (rest : List ℕ). b ∷ rest) (without_dashes-simple bs (rest_simple b bs all))

-- so it means itself
meaning_of-simple : (b : ℕ) (bs : List ℕ) → list_all is_simple (b ∷ bs) ≡ true → meaning_of (b ∷ bs) ≡ Ok (Plain (b ∷ bs))
unfolding meaning_of
meaning_of-simple b bs all =
    ap (λ t. reading_of (cond t (from_first bs) (b ∷ bs))) (first_simple b bs all).no_dash
    ∙ ap (λ t. cond t (pattern_reading bs) (plain_of (b ∷ bs))) (first_simple b bs all).no_pattern
    ∙ ap (λ t. cond {A = Result Meaning NameFault} t (Err BadByte) (Ok (Plain (without_dashes (b ∷ bs))))) (none_bad (b ∷ bs) all)
    ∙ ap (λ (text : List ℕ). let read : Result Meaning NameFault = Ok (Plain text) in read) (without_dashes-simple (b ∷ bs) all)

-- it is known by more than its text
known_by_name : (text : List ℕ) → list_all is_simple text ≡ true → is_known_by_text text ≡ false
known_by_name text all =
    ap (λ t. t || (not t && has_slash text)) (no_group text all) ∙ no_slash_in text all

-- it has no caller's number
pub no_caller : (text : List ℕ) → list_all is_simple text ≡ true → has_caller text ≡ false
no_caller text all = ap (λ t. not t && has_slash text) (no_group text all) ∙ no_slash_in text all

-- and its extension is spelled as it is written
pub simple_extension : (b : ℕ) (bs : List ℕ) → list_all is_simple (b ∷ bs) ≡ true
    → extension_of (b ∷ bs) ≡ Some (record { name = b ∷ bs; spelling = b ∷ bs })
unfolding extension_of spelling
simple_extension b bs all =
    ap (λ t. cond {A = Option WrittenExtension} t (Some (record { name = b ∷ bs; spelling = b ∷ bs })) (spelled_extension (b ∷ bs) (meaning_of (b ∷ bs)))) (known_by_name (b ∷ bs) all)
    ∙ ap (spelled_extension (b ∷ bs)) (meaning_of-simple b bs all)

-- the same for a text that is not empty
pub simple_name : (text : List ℕ) → (eqb (length text) 0) ≡ false → list_all is_simple text ≡ true
    → extension_of text ≡ Some (record { name = text; spelling = text })
simple_name [] some all = absurd cc
simple_name (b ∷ bs) some all = simple_extension b bs all
