-- Tables of names: an empty one, and one in which a name gets more bytes.
use Rattle.std.proofs.Common.{◌≡◌, ℕ, suc, Bool, true, false, cond, ◌&&◌, ◌||◌, if◌then◌else◌, List, [], ◌∷◌, Option, Some, length, unwrap_or, refl, sym, ap, ◌∙◌, arith}
use Rattle.indexmap.specs.IndexMap.{insert_entry}
use Rattle.std.specs.Cmp.Lexicographic.{bytes_decides}
use Rattle.std.specs.Global.{Vec}
use Rattle.std.specs.Map.{lookup}
use Rattle.dp_conf.specs.Words.{same_text}
use Rattle.dp_pieces.specs.Bytes.{Bytes, IsPart, digits, either}
use Rattle.std.specs.Prelude.{replicate, slice_get}
use Rattle.dp_pieces.specs.Sets.{set_by}
use Rattle.dp_pieces.specs.Names.{IsWhole}
use Rattle.dp_pieces.specs.Pieces.{pieces_set}
use Rattle.dp_pieces.specs.Tables.{Entries, Table, name_set, names_in, own_set}
use Rattle.dp_pieces.proofs.BlankLemmas.{no_bytes, none-has}

pub none-named : (entries : Entries) (shared : List ℕ) → entries ≡ [] → shared ≡ replicate 4 0 → (name : List ℕ) (b : ℕ) → name_set entries shared name b ≡ false
none-named entries shared none is name b =
    (λ i. name_set (none i) (is i) name b) ∙ (λ i. none-has 4 b i || no_bytes b i)

pub no-entries : (entries : Entries) → length entries ≡ 0 → entries ≡ []
no-entries [] is = refl
no-entries (entry ∷ entries) is = absurd (omega (arith, is))

-- two keys are the same if their texts are
abbrev pub same-key : Vec ℕ → Vec ℕ → Bool
same-key x y = same_text x.items y.items

is-same : (x y : List ℕ) → same_text x y ≡ true → x ≡ y
is-same x y is = (bytes_decides x y).0 is

-- the result of a look-up after an insertion
abbrev look-up : List ℕ → Entries → Option (List ℕ)
look-up name entries = lookup (λ key. same_text name key.items) entries

after-insert : (entries : Entries) (key : Vec ℕ) (value : List ℕ) (other : List ℕ)
    → look-up other (insert_entry same-key entries key value) ≡ (if same_text other key.items then Some value else look-up other entries)
after-insert [] key value other = refl
after-insert (entry ∷ entries) key value other = by (same_text key.items entry.0.items) refl (after-insert entries key value other)
  where
    Rest : Option (List ℕ)
    Rest = look-up other (insert_entry same-key entries key value)

    -- the same key
    here : same_text key.items entry.0.items ≡ true → cond (same_text other entry.0.items) (Some value) (look-up other entries)
        ≡ (if same_text other key.items then Some value else cond (same_text other entry.0.items) (Some entry.1) (look-up other entries))
    here same = ap (λ t. cond (same_text other t) (Some value) (look-up other entries)) (sym (is-same key.items entry.0.items same))
        ∙ (both (same_text other key.items)
        ∙ ap (λ t. if same_text other key.items then Some value else cond (same_text other t) (Some entry.1) (look-up other entries)) (is-same key.items entry.0.items same))
      where
        both : (t : Bool) → cond t (Some value) (look-up other entries) ≡ (if t then Some value else cond t (Some entry.1) (look-up other entries))
        both true = refl
        both false = refl

    -- another key
    there : same_text key.items entry.0.items ≡ false → Rest ≡ (if same_text other key.items then Some value else look-up other entries)
        → cond (same_text other entry.0.items) (Some entry.1) Rest
        ≡ (if same_text other key.items then Some value else cond (same_text other entry.0.items) (Some entry.1) (look-up other entries))
    there differs rest = cases (same_text other entry.0.items) (same_text other key.items) refl refl
      where
        cases : (a b : Bool) → same_text other entry.0.items ≡ a → same_text other key.items ≡ b
            → cond (same_text other entry.0.items) (Some entry.1) Rest
            ≡ (if same_text other key.items then Some value else cond (same_text other entry.0.items) (Some entry.1) (look-up other entries))
        cases true true x y =
            let one : key.items ≡ entry.0.items = sym (is-same other key.items y) ∙ is-same other entry.0.items x in
            let yes : same_text key.items entry.0.items ≡ true = (bytes_decides key.items entry.0.items).1 one in
            absurd (let no : true ≡ false = sym yes ∙ differs in let bottom : ⊥ = cc in bottom)
        cases true false x y = (λ i. cond (x i) (Some entry.1) Rest) ∙ sym (λ i. if y i then Some value else cond (x i) (Some entry.1) (look-up other entries))
        cases false b x y = (λ i. cond (x i) (Some entry.1) Rest) ∙ (rest ∙ sym (λ i. if same_text other key.items then Some value else cond (x i) (Some entry.1) (look-up other entries)))

    by : (same : Bool) → same_text key.items entry.0.items ≡ same → Rest ≡ (if same_text other key.items then Some value else look-up other entries)
        → look-up other (if same then (entry.0, value) ∷ entries else entry ∷ insert_entry same-key entries key value)
        ≡ (if same_text other key.items then Some value else cond (same_text other entry.0.items) (Some entry.1) (look-up other entries))
    by true same rest = here same
    by false differs rest = there differs rest

-- a name that gets more bytes
pub more-held : (old new : Entries) (shared wider set : List ℕ) (key : Vec ℕ) (name : List ℕ) → new ≡ insert_entry same-key old key wider → key.items ≡ name
    → ((b : ℕ) → set_by wider b ≡ either (own_set old name) (set_by set) b)
    → (other : List ℕ) (b : ℕ) → name_set new shared other b ≡ (name_set old shared other b || (same_text other name && set_by set b))
more-held old new shared wider set key name inserted is grown other b =
    ap (λ entries. set_by shared b || own_set entries other b) inserted
    ∙ (ap (λ (o : Option (List ℕ)). set_by shared b || set_by (unwrap_or o []) b) (after-insert old key wider other ∙ ap (λ t. if same_text other t then Some wider else look-up other old) is)
    ∙ by (same_text other name) refl)
  where
    or-assoc : (x y z : Bool) → (x || (y || z)) ≡ ((x || y) || z)
    or-assoc true y z = refl
    or-assoc false y z = refl

    or-false : (x : Bool) → x ≡ (x || false)
    or-false true = refl
    or-false false = refl

    by : (same : Bool) → same_text other name ≡ same → (set_by shared b || set_by (unwrap_or (if same then Some wider else look-up other old) []) b)
        ≡ ((set_by shared b || own_set old other b) || (same && set_by set b))
    by true same =
        ap (λ t. set_by shared b || t) (grown b ∙ ap (λ t. own_set old t b || set_by set b) (sym (is-same other name same)))
        ∙ or-assoc (set_by shared b) (own_set old other b) (set_by set b)
    by false differs = or-false (set_by shared b || own_set old other b)

-- the own sets of all names, given those of the entries
pub own-part : (entries : Entries) (all : Bytes) → ((k : ℕ) (entry : Vec ℕ × List ℕ) → slice_get entries k ≡ Some entry → IsPart (set_by entry.1) all)
    → (name : List ℕ) → IsPart (own_set entries name) all
own-part [] all each name b has = absurd (let no : false ≡ true = sym (no_bytes b) ∙ has in let bottom : ⊥ = cc in bottom)
own-part (entry ∷ entries) all each name b has = by (same_text name entry.0.items) refl (own-part entries all (λ k. each (suc k)) name b)
  where
    by : (same : Bool) → same_text name entry.0.items ≡ same → (own_set entries name b ≡ true → all b ≡ true) → all b ≡ true
    by true is later = each 0 entry refl b (sym (ap (λ t. set_by (unwrap_or (if t then Some entry.1 else look-up name entries) []) b) is) ∙ has)
    by false is later = later (sym (ap (λ t. set_by (unwrap_or (if t then Some entry.1 else look-up name entries) []) b) is) ∙ has)

-- the bytes of each name are among those of all
pub name-part : (entries : Entries) (shared : List ℕ) (all : Bytes) → IsPart (set_by shared) all → ((name : List ℕ) → IsPart (own_set entries name) all)
    → (name : List ℕ) → IsPart (name_set entries shared name) all
name-part entries shared all common each name b has = by (set_by shared b) refl
  where
    by : (here : Bool) → set_by shared b ≡ here → all b ≡ true
    by true is = common b is
    by false is = each name b (sym (ap (λ t. t || own_set entries name b) is) ∙ has)

-- a table is whole if all its sets and the digits are part of the set of all bytes
pub whole : (table : Table) → ((name : List ℕ) → IsPart (name_set table.own table.shared name) (set_by table.all)) → IsPart (set_by table.caller) (set_by table.all)
    → IsPart digits (set_by table.all) → IsWhole (names_in table)
unfolding pieces_set
whole table named called counted = record {
  bytes = named;
  exten = λ b has. absurd (let no : false ≡ true = has in let bottom : ⊥ = cc in bottom);
  context = λ b has. absurd (let no : false ≡ true = has in let bottom : ⊥ = cc in bottom);
  caller = called;
  digits = counted;
}
