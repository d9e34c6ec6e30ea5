-- The table of extensions and their numbers.
use Rattle.std.proofs.Common.{◌≡◌, ℕ, suc, Bool, true, false, cond, not, ◌+◌, ◌<◌, ◌||◌, ◌==◌, List, [], ◌∷◌, ◌++◌, length, Option, Some, slice_get, refl, ap, subst, ◌∙◌, sym, arith}
use Rattle.std.specs.List.{list_any, position, position_or_len}
use Rattle.std.specs.Option.{option_map}
use Rattle.std.specs.Map.{lookup, keys_of}
use Rattle.std.specs.Cmp.Lexicographic.{bytes_decides}
use Rattle.std.proofs.lemmas.List.Folds.{list_any-append, list_any_at}
use Rattle.std.proofs.lemmas.List.Quantifiers.{position-Some}
use Rattle.std.proofs.lemmas.List.Sums.{position_or_len_is}
use Rattle.std.proofs.lemmas.Map.Entries.{length-keys_of}
use Rattle.indexmap.specs.IndexMap.{insert_entry, set_value_at}
use Rattle.indexmap.proofs.SetLemmas.{keys_insert_entry}
use Rattle.dp_conf.specs.Words.{same_text}
use Rattle.dp_pattern.specs.Name.{Meaning}
use Rattle.dp_pattern.specs.Spelling.{spelling}
use Rattle.dp_plan.specs.Extensions.{extension_of, same_extension}
use Rattle.dp_plan.specs.steps.Reader.{with_priority}
use Rattle.dp_plan.specs.steps.Table.{IsFirstAt, Table, HasNumber, number_in}
use Rattle.dp_plan.specs.declared.extension.Extension.{Extension}
use Rattle.dp_plan.proofs.HistoryLemmas.{same_extension_equiv}
use Rattle.dp_plan.proofs.PositionLemmas.{or_right, or_true, position-more, position-new, same_position}

-- an element at a place is within the list
pub stands_within : {X : Type 0} (test : X → Bool) (xs : List X) (place : ℕ) → IsFirstAt test xs place → place < length xs
stands_within {X} test xs place stands = subst (λ n. n < length xs) (sym stands.at) (within xs stands.there) where
  within : (ys : List X) → list_any test ys ≡ true → position_or_len test ys < length ys
  within [] there = absurd cc
  within (y ∷ ys) there = by (within ys) (test y) there where
    by : (list_any test ys ≡ true → position_or_len test ys < length ys) → (t : Bool) → (t || list_any test ys) ≡ true → cond (not t) (1 + position_or_len test ys) 0 < length (y ∷ ys)
    by later true there = omega arith
    by later false there = omega (arith, later there)

-- so a number is within the table
pub number_within : (table : Table) (extension : Extension) (number : ℕ) → HasNumber table extension number → number < length table
number_within table extension number has =
    subst (λ n. number < n) (length-keys_of table) (stands_within (same_extension extension) (keys_of table) number has)

-- what is found is at its place
pub stands_found : {X : Type 0} (test : X → Bool) (xs : List X) (place : ℕ) (d : X) → position test xs ≡ Some place → IsFirstAt test xs place
stands_found test xs place d found =
    let at = position-Some test xs place d found in
    record {
      there = list_any_at test xs place d at.0 at.1;
      at = sym (position_or_len_is test xs place d (omega (arith, at.0)) at.2 (λ within. at.1));
    }

-- the value at the place of a key is the one found for the key
value_found : {K V : Type 0} (eq : K → K → Bool) (es : List (K × V)) (q : K) → option_map (λ (e : K × V). e.1) (slice_get es (position_or_len (eq q) (keys_of es))) ≡ lookup (eq q) es
value_found eq [] q = refl
value_found {K} {V} eq (e ∷ es) q = by (value_found eq es q) (eq q e.0) where
  value : ℕ → Option V
  value n = option_map (λ (x : K × V). x.1) (slice_get (e ∷ es) n)

  by : option_map (λ (x : K × V). x.1) (slice_get es (position_or_len (eq q) (keys_of es))) ≡ lookup (eq q) es → (t : Bool)
      → value (cond (not t) (1 + position_or_len (eq q) (keys_of es)) 0) ≡ cond t (Some e.1) (lookup (eq q) es)
  by later true = refl
  by later false =
      let next : 1 + position_or_len (eq q) (keys_of es) ≡ suc (position_or_len (eq q) (keys_of es)) = omega arith in
      ap value next ∙ later

-- the last priority of an extension is found by its number
pub priority_found : (table : Table) (extension : Extension) (number : ℕ) → HasNumber table extension number → option_map (λ entry. entry.1) (slice_get table number) ≡ lookup (same_extension extension) table
priority_found table extension number has =
    ap (λ n. option_map (λ (entry : Extension × ℕ). entry.1) (slice_get table n)) has.at ∙ value_found same_extension table extension

-- a value for an existing key is written at the place of the key
value_written : {K V : Type 0} (eq : K → K → Bool) (es : List (K × V)) (q : K) (v : V) → list_any (eq q) (keys_of es) ≡ true → set_value_at es (position_or_len (eq q) (keys_of es)) v ≡ insert_entry eq es q v
value_written eq [] q v there = absurd cc
value_written {K} {V} eq (e ∷ es) q v there = by (value_written eq es q v) (eq q e.0) there where
  by : (list_any (eq q) (keys_of es) ≡ true → set_value_at es (position_or_len (eq q) (keys_of es)) v ≡ insert_entry eq es q v) → (t : Bool) → (t || list_any (eq q) (keys_of es)) ≡ true
      → set_value_at (e ∷ es) (cond (not t) (1 + position_or_len (eq q) (keys_of es)) 0) v ≡ cond t ((e.0, v) ∷ es) (e ∷ insert_entry eq es q v)
  by later true there = refl
  by later false there =
      let next : 1 + position_or_len (eq q) (keys_of es) ≡ suc (position_or_len (eq q) (keys_of es)) = omega arith in
      ap (λ n. set_value_at (e ∷ es) n v) next ∙ ap (λ (rest : List (K × V)). e ∷ rest) (later there)

-- a priority of an extension is written at its number
pub written_at : (table : Table) (context : List ℕ) (name : Meaning) (number priority : ℕ) → HasNumber table (extension_of context name) number → set_value_at table number priority ≡ with_priority table context name priority
written_at table context name number priority has =
    ap (λ n. set_value_at table n priority) has.at ∙ value_written same_extension table (extension_of context name) priority has.there

-- names with the same spelling have one number
pub number_same : (table : Table) (context : List ℕ) (name other : Meaning) (number : ℕ) → same_text (spelling other) (spelling name) ≡ true → HasNumber table (extension_of context other) number → HasNumber table (extension_of context name) number
number_same table context name other number same has =
    subst (λ (text : List ℕ). HasNumber table (record { context = context; spelling = text }) number) ((bytes_decides (spelling other) (spelling name)).0 same) has

-- ---- the numbers of extensions

-- the extension is in the table
abbrev pub is_known : Table → Extension → Bool
is_known table extension = list_any (same_extension extension) (keys_of table)

module _ (es : List (Extension × ℕ)) (e : Extension) (v : ℕ) where
  -- the keys after a line of the extension
  abbrev keys_by : Bool → List Extension
  keys_by t = cond t (keys_of es) (keys_of es ++ e ∷ [])

  keys_after : keys_of (insert_entry same_extension es e v) ≡ keys_by (is_known es e)
  keys_after = keys_insert_entry same_extension es e v

  -- what is known stays known
  pub known-kept : (q : Extension) → is_known es q ≡ true → is_known (insert_entry same_extension es e v) q ≡ true
  known-kept q known = ap (list_any (same_extension q)) keys_after ∙ by (is_known es e) where
    by : (t : Bool) → list_any (same_extension q) (keys_by t) ≡ true
    by true = known
    by false = list_any-append (same_extension q) (keys_of es) (e ∷ []) ∙ or_true (is_known es q) (list_any (same_extension q) (e ∷ [])) known

  -- the extension of the line is known
  pub known-with_priority : is_known (insert_entry same_extension es e v) e ≡ true
  known-with_priority = ap (list_any (same_extension e)) keys_after ∙ by (is_known es e) refl where
    by : (t : Bool) → is_known es e ≡ t → list_any (same_extension e) (keys_by t) ≡ true
    by true known = known
    by false other =
        list_any-append (same_extension e) (keys_of es) (e ∷ [])
        ∙ or_right (is_known es e) (list_any (same_extension e) (e ∷ [])) (or_true (same_extension e e) false (same_extension_equiv.refl e))

  -- what is known keeps its number
  pub number-kept : (q : Extension) → is_known es q ≡ true → number_in (insert_entry same_extension es e v) q ≡ number_in es q
  number-kept q known = ap (position_or_len (same_extension q)) keys_after ∙ by (is_known es e) where
    by : (t : Bool) → position_or_len (same_extension q) (keys_by t) ≡ number_in es q
    by true = refl
    by false = position-more (same_extension q) (keys_of es) (e ∷ []) known

  -- the extension of the line has the number that it was given
  pub number-with_priority : number_in (insert_entry same_extension es e v) e ≡ number_in es e
  number-with_priority = ap (position_or_len (same_extension e)) keys_after ∙ by (is_known es e) refl where
    by : (t : Bool) → is_known es e ≡ t → position_or_len (same_extension e) (keys_by t) ≡ number_in es e
    by true known = refl
    by false other = position-new (same_extension e) (keys_of es) e other (same_extension_equiv.refl e)

-- the extension of a line has its number after the line
pub number_after_written : (table : Table) (context : List ℕ) (name : Meaning) (number priority : ℕ) → number ≡ number_in table (extension_of context name) → HasNumber (with_priority table context name priority) (extension_of context name) number
number_after_written table context name number priority is = record {
  there = known-with_priority table (extension_of context name) priority;
  at = is ∙ sym (number-with_priority table (extension_of context name) priority);
}

-- two extensions of a table have one number exactly if they are the same
pub same_number : (es : List (Extension × ℕ)) (a b : Extension) → is_known es a ≡ true → is_known es b ≡ true → (number_in es a == number_in es b) ≡ same_extension a b
same_number es a b known other = same_position same_extension same_extension_equiv (keys_of es) a b known other
