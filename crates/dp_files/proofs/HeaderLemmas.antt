-- The line of a header without parentheses says the header's name.
use Rattle.std.proofs.Common.{◌≡◌, ℕ, Bool, true, false, cond, eqb, List, [], ◌∷◌, ◌++◌, length, Option, Some, None, Result, Ok, Err, refl, ap, sym, ◌∙◌, subst}
use Rattle.std.specs.Prelude.{is_ok}
use Rattle.std.proofs.lemmas.Bool.{false≢true}
use Rattle.std.proofs.lemmas.Grind.{flat_map-append}
use Rattle.dp_conf.specs.Blanks.{trim, trim_start}
use Rattle.dp_conf.specs.Cut.{cut_once}
use Rattle.dp_conf.specs.Escape.{escaped_byte}
use Rattle.dp_conf.specs.Lines.{Header, content_of, item_of, header_of as item_of_cut, header_by as item_by}
use Rattle.dp_conf.specs.declared.fault.LineKind.{LineKind}
use Rattle.dp_conf.specs.declared.fault.LineKind.TheVariants.{BadHeader, Template}
use Rattle.dp_conf.proofs.EscapeLemmas.{content_of-escape_text}
use Rattle.dp_conf.proofs.TextLemmas.{Avoids, IsTrimmed, cut_once-here, cut_once-is, each-trim, trim-trimmed, trimmed-between, trimmed-trim}
use Rattle.dp_files.specs.Headers.{HeaderOf, header_by, header_cut, header_of, plain_header, with_options}

-- whether a text contains a byte
abbrev has_byte : List ℕ → Bool
has_byte [] = false
has_byte (b ∷ bs) = true

-- the name of a header that was read
abbrev name_in : Result HeaderOf LineKind → List ℕ
name_in (Ok header) = header.name
name_in (Err kind) = []

-- a name that is allowed in a header
record IsName (name : List ℕ) : Type 0 where
  some : has_byte name ≡ true
  trimmed : IsTrimmed name
  no_end : Avoids 93 name

-- a refused header is not a header
refusal_is_no_header : {X : Type 0} (kind : LineKind) (header : HeaderOf) → (let read : Result HeaderOf LineKind = Err kind in read ≡ Ok header) → X
refusal_is_no_header kind header e = absurd (false≢true (ap (λ (read : Result HeaderOf LineKind). is_ok read) e))

-- a header with parentheses has the name before them
options_name : (name : List ℕ) (header : HeaderOf) (cut : Option (List ℕ × List ℕ)) → with_options name cut ≡ Ok header → name ≡ header.name
options_name name header None e = refusal_is_no_header Template header e
options_name name header (Some cut) e = by (eqb (length (trim_start cut.1)) 0) e
  where
    by : (t : Bool) → cond {A = Result HeaderOf LineKind} t (Ok (record { name = name; options = Some cut.0 })) (Err Template) ≡ Ok header → name ≡ header.name
    by true e = ap name_in e
    by false e = refusal_is_no_header Template header e

-- a header has its trimmed name
name_by : (name after : List ℕ) (header : HeaderOf) → header_by name after ≡ Ok header → (name ≡ header.name) × (has_byte name ≡ true)
name_by [] after header e = refusal_is_no_header BadHeader header e
name_by (n ∷ name) [] header e = (ap name_in e, refl)
name_by (n ∷ name) (b ∷ after) header e = (by (eqb b 40) e, refl)
  where
    by : (t : Bool) → cond t (with_options (n ∷ name) (cut_once 41 after)) (Err BadHeader) ≡ Ok header → n ∷ name ≡ header.name
    by true e = options_name (n ∷ name) header (cut_once 41 after) e
    by false e = refusal_is_no_header BadHeader header e

is_name : (inside : List ℕ) (header : HeaderOf) (cut : Option (List ℕ × List ℕ)) → cut_once 93 inside ≡ cut → header_cut cut ≡ Ok header → IsName header.name
is_name inside header None cuts e = refusal_is_no_header BadHeader header e
is_name inside header (Some cut) cuts e =
    let found = name_by (trim cut.0) (trim_start cut.1) header e in
    let is = cut_once-is 93 inside cut.0 cut.1 cuts in
    subst IsName found.0 (record { some = found.1; trimmed = trimmed-trim cut.0; no_end = each-trim (λ b. eqb b 93 ≡ false) cut.0 is.avoids })

-- the line with a name says the name
says_name : (in_section : Bool) (line : ℕ) (name : List ℕ) → IsName name → item_of in_section line (content_of (plain_header name)) ≡ Ok (Header line name ∷ [])
says_name in_section line [] known = absurd (false≢true known.some)
says_name in_section line (n ∷ name) known =
    let whole = (91 ∷ n ∷ name) ++ 93 ∷ [] in
    ap (λ (text : List ℕ). item_of in_section line (content_of text)) (sym (flat_map-append escaped_byte (91 ∷ n ∷ name) (93 ∷ [])))
    ∙ ap (item_of in_section line) (content_of-escape_text whole ∙ trim-trimmed whole (trimmed-between 91 (n ∷ name) 93 refl refl))
    ∙ ap (item_of_cut line) (cut_once-here 93 (n ∷ name) [] known.no_end)
    ∙ ap (λ (text : List ℕ). item_by line text []) (trim-trimmed (n ∷ name) known.trimmed)

-- the line made from a header says the header's name
pub made_header-says : (in_section : Bool) (line : ℕ) (inside : List ℕ) (header : HeaderOf) → header_of inside ≡ Ok header
    → item_of in_section line (content_of (plain_header header.name)) ≡ Ok (Header line header.name ∷ [])
made_header-says in_section line inside header e = says_name in_section line header.name (is_name inside header (cut_once 93 inside) refl e)
