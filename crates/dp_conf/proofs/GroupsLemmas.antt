-- A text reads as groups and bytes in exactly one way.
use Rattle.std.proofs.Common.{◌≡◌, ◌≢◌, ◌≤◌, ℕ, zero, suc, Bool, true, false, cond, eqb, List, [], ◌∷◌, ◌++◌, Option, Some, None, length, drop, refl, sym, ap, subst, ◌∙◌, arith, append_assoc, true≢false, ◌⊎◌, ⊎_elim}
use Rattle.std.proofs.lemmas.Bool.Decides.{eqb_tells}
use Rattle.dp_conf.specs.declared.groups.GroupKind.{GroupKind}
use Rattle.dp_conf.specs.declared.groups.GroupKind.TheVariants.{Braces, Brackets}
use Rattle.dp_conf.specs.declared.groups.Mark.{Mark}
use Rattle.dp_conf.specs.declared.groups.Mark.TheVariants.{End, Opening, Byte}
use Rattle.dp_conf.specs.Groups.{Reading, Over, Plain, Group, opener, closer, kind_of, opening, text_of_reading, IsBody, BeginsGroup, IsWhole, IsReading}
use Rattle.dp_conf.specs.GroupsRead.{is_end, mark_of, mark_at, is_end_of, first_of, IsMarked, Levels, Last, Within, with_byte, with_opening, with_mark, levels, first_level, reading_of}

-- ---- marks

by_test : {A B C : Type 0} → A ⊎ B → (A → C) → (B → C) → C
by_test o f g = ⊎_elim f g o

neither : {A : Type 0} (b : Bool) (x : A) → cond b x x ≡ x
neither true x = refl
neither false x = refl

-- the end of a group after a text opens nothing with it
pub opening-closer : (kind : GroupKind) (byte : ℕ) (bytes after : List ℕ) → opening byte (bytes ++ closer kind ∷ after) ≡ opening byte bytes
opening-closer Braces byte [] after = neither (eqb byte 36) None
opening-closer Brackets byte [] after = neither (eqb byte 36) None
opening-closer kind byte (b ∷ bytes) after = refl

opening-opener : (kind : GroupKind) (after : List ℕ) → opening 36 (opener kind ∷ after) ≡ Some kind
opening-opener Braces after = refl
opening-opener Brackets after = refl

-- the second byte of an opening opens nothing
opener-opens_nothing : (kind : GroupKind) (after : List ℕ) → opening (opener kind) after ≡ None
opener-opens_nothing Braces [] = refl
opener-opens_nothing Braces (b ∷ after) = refl
opener-opens_nothing Brackets [] = refl
opener-opens_nothing Brackets (b ∷ after) = refl

opener-injective : (a b : GroupKind) → opener a ≡ opener b → a ≡ b
opener-injective Braces Braces e = refl
opener-injective Braces Brackets e = absurd (omega arith)
opener-injective Brackets Braces e = absurd (omega arith)
opener-injective Brackets Brackets e = refl

opener-not_36 : (kind : GroupKind) → opener kind ≢ 36
opener-not_36 Braces e = omega arith
opener-not_36 Brackets e = omega arith

-- what a mark says of its place
abbrev pub MarkSays : List GroupKind → ℕ → List ℕ → Mark → Type 0
MarkSays [] byte after End = ⊥
MarkSays (kind ∷ kinds) byte after End = byte ≡ closer kind
MarkSays kinds byte after (Opening kind) = (byte ≡ 36) × ((rest : List ℕ) × (after ≡ opener kind ∷ rest))
MarkSays kinds byte after (Byte b) = (b ≡ byte) × (is_end kinds byte ≡ false) × (opening byte after ≡ None)

kind_of-says : (byte : ℕ) (kind : GroupKind) → kind_of byte ≡ Some kind → byte ≡ opener kind
kind_of-says byte kind is =
    by_test (eqb_tells byte 123)
    (λ same. let braces : Some Braces ≡ Some kind = ap (λ b. cond b (Some Braces) (cond (eqb byte 91) (Some Brackets) None)) (sym same.0) ∙ is in
    let e : Braces ≡ kind = cc in same.1 ∙ ap opener e)
    (λ other. by_test (eqb_tells byte 91)
    (λ same. let brackets : Some Brackets ≡ Some kind =
    ap (λ b. cond b (Some Brackets) None) (sym same.0) ∙ ap (λ b. cond b (Some Braces) (cond (eqb byte 91) (Some Brackets) None)) (sym other.0) ∙ is in
    let e : Brackets ≡ kind = cc in same.1 ∙ ap opener e)
    (λ neither. let none : None ≡ Some kind =
    ap (λ b. cond b (Some Brackets) None) (sym neither.0) ∙ ap (λ b. cond b (Some Braces) (cond (eqb byte 91) (Some Brackets) None)) (sym other.0) ∙ is in
    cc))

opening-says : (byte : ℕ) (after : List ℕ) (kind : GroupKind) → opening byte after ≡ Some kind
    → (byte ≡ 36) × ((rest : List ℕ) × (after ≡ opener kind ∷ rest))
opening-says byte [] kind is = cc
opening-says byte (next ∷ after) kind is =
    by_test (eqb_tells byte 36)
    (λ same. (same.1, (after, ap (λ b. b ∷ after) (kind_of-says next kind (ap (λ b. cond b (kind_of next) None) (sym same.0) ∙ is)))))
    (λ other. let none : None ≡ Some kind = ap (λ b. cond b (kind_of next) None) (sym other.0) ∙ is in cc)

mark_of-says : (kinds : List GroupKind) (byte : ℕ) (after : List ℕ) (o : Option GroupKind) → opening byte after ≡ o → is_end kinds byte ≡ false
    → MarkSays kinds byte after (mark_of o byte)
mark_of-says kinds byte after None none other = (refl, other, none)
mark_of-says kinds byte after (Some kind) is other = opening-says byte after kind is

pub mark_says : (kinds : List GroupKind) (byte : ℕ) (after : List ℕ) → MarkSays kinds byte after (mark_at kinds byte after)
mark_says [] byte after = mark_of-says [] byte after (opening byte after) refl refl
mark_says (kind ∷ kinds) byte after =
    by_test (eqb_tells byte (closer kind))
    (λ same. subst (λ b. MarkSays (kind ∷ kinds) byte after (cond b End (mark_of (opening byte after) byte))) (sym same.0) same.1)
    (λ other. subst (λ b. MarkSays (kind ∷ kinds) byte after (cond b End (mark_of (opening byte after) byte))) (sym other.0)
    (mark_of-says (kind ∷ kinds) byte after (opening byte after) refl other.0))

-- ---- the text of the levels

-- the text of levels inside these groups
abbrev pub printed_levels : List GroupKind → Levels → List ℕ
printed_levels kinds (Last rest) = text_of_reading rest
printed_levels [] (Within rest outer) = text_of_reading rest
printed_levels (kind ∷ kinds) (Within rest outer) = text_of_reading rest ++ closer kind ∷ printed_levels kinds outer

with_byte-text_of_reading : (kinds : List GroupKind) (byte : ℕ) (l : Levels) → printed_levels kinds (with_byte byte l) ≡ byte ∷ printed_levels kinds l
unfolding text_of_reading
with_byte-text_of_reading kinds byte (Last rest) = refl
with_byte-text_of_reading [] byte (Within rest outer) = refl
with_byte-text_of_reading (kind ∷ kinds) byte (Within rest outer) = refl

with_opening-text_of_reading : (kinds : List GroupKind) (kind : GroupKind) (l : Levels)
    → printed_levels kinds (with_opening kind l) ≡ 36 ∷ opener kind ∷ printed_levels (kind ∷ kinds) l
unfolding text_of_reading
with_opening-text_of_reading kinds kind (Last rest) = refl
with_opening-text_of_reading kinds kind (Within inside (Last rest)) = refl
with_opening-text_of_reading [] kind (Within inside (Within rest outer)) = refl
with_opening-text_of_reading (k ∷ kinds) kind (Within inside (Within rest outer)) =
    ap (λ bytes. 36 ∷ opener kind ∷ bytes) (append_assoc (text_of_reading inside) (closer kind ∷ text_of_reading rest) (closer k ∷ printed_levels kinds outer))

-- the levels of a text give the rest of it that is not read yet
pub levels-text_of_reading : (bytes : List ℕ) (kinds : List GroupKind) (skipped : ℕ) → printed_levels kinds (levels bytes kinds skipped) ≡ drop skipped bytes
unfolding levels text_of_reading
levels-text_of_reading [] kinds zero = refl
levels-text_of_reading [] kinds (suc skipped) = refl
levels-text_of_reading (byte ∷ after) kinds (suc skipped) = levels-text_of_reading after kinds skipped
levels-text_of_reading (byte ∷ after) kinds zero = by kinds (mark_at kinds byte after) (mark_says kinds byte after) (levels-text_of_reading after)
  where
    by : (kinds : List GroupKind) (m : Mark) → MarkSays kinds byte after m
        → ((ks : List GroupKind) (n : ℕ) → printed_levels ks (levels after ks n) ≡ drop n after)
        → printed_levels kinds (with_mark m (levels after) 1 kinds) ≡ byte ∷ after
    by [] End says rest = absurd says
    by (kind ∷ kinds) End says rest = λ i. sym says i ∷ rest kinds 0 i
    by kinds (Opening kind) says rest =
        with_opening-text_of_reading kinds kind (levels after (kind ∷ kinds) 1)
        ∙ ap (λ bytes. 36 ∷ opener kind ∷ bytes) (rest (kind ∷ kinds) 1 ∙ ap (drop 1) says.1.1)
        ∙ (λ i. sym says.0 i ∷ sym says.1.1 i)
    by kinds (Byte b) says rest = with_byte-text_of_reading kinds b (levels after kinds 0) ∙ (λ i. says.0 i ∷ rest kinds 0 i)

-- ---- the text before an end is read as it is printed

mark_at-end : (kind : GroupKind) (kinds : List GroupKind) (after : List ℕ) → mark_at (kind ∷ kinds) (closer kind) after ≡ End
mark_at-end Braces kinds after = refl
mark_at-end Brackets kinds after = refl

mark_at-opening : (kind : GroupKind) (kinds : List GroupKind) (after : List ℕ) → mark_at kinds 36 (opener kind ∷ after) ≡ Opening kind
mark_at-opening kind [] after = ap (λ o. mark_of o 36) (opening-opener kind after)
mark_at-opening kind (Braces ∷ kinds) after = ap (λ o. mark_of o 36) (opening-opener kind after)
mark_at-opening kind (Brackets ∷ kinds) after = ap (λ o. mark_of o 36) (opening-opener kind after)

mark_at-byte : (kind : GroupKind) (kinds : List GroupKind) (byte : ℕ) (after : List ℕ) → byte ≢ closer kind → opening byte after ≡ None
    → mark_at (kind ∷ kinds) byte after ≡ Byte byte
mark_at-byte kind kinds byte after other none =
    by_test (eqb_tells byte (closer kind)) (λ same. absurd (other same.1))
    (λ apart. ap (λ b. cond b End (mark_of (opening byte after) byte)) apart.0 ∙ ap (λ o. mark_of o byte) none)

-- a body and the end of its group
pub levels-body : (kind : GroupKind) (inside : Reading) → IsBody kind inside → (kinds : List GroupKind) (after : List ℕ)
    → levels (text_of_reading inside ++ closer kind ∷ after) (kind ∷ kinds) 0 ≡ Within inside (levels after kinds 0)
unfolding levels text_of_reading IsBody
levels-body kind Over body kinds after =
    ap (λ m. with_mark m (levels after) 1 (kind ∷ kinds)) (mark_at-end kind kinds after)
levels-body kind (Plain byte rest) body kinds after =
    ap (λ m. with_mark m (levels (text_of_reading rest ++ closer kind ∷ after)) 1 (kind ∷ kinds))
    (mark_at-byte kind kinds byte (text_of_reading rest ++ closer kind ∷ after) body.0 (opening-closer kind byte (text_of_reading rest) after ∙ body.1))
    ∙ ap (with_byte byte) (levels-body kind rest body.2 kinds after)
levels-body kind (Group inner inside rest) body kinds after =
    ap (λ m. with_mark m (levels (opener inner ∷ ((text_of_reading inside ++ closer inner ∷ text_of_reading rest) ++ closer kind ∷ after))) 1 (kind ∷ kinds))
    (mark_at-opening inner (kind ∷ kinds) ((text_of_reading inside ++ closer inner ∷ text_of_reading rest) ++ closer kind ∷ after))
    ∙ ap (λ bytes. with_opening inner (levels bytes (inner ∷ kind ∷ kinds) 0)) (append_assoc (text_of_reading inside) (closer inner ∷ text_of_reading rest) (closer kind ∷ after))
    ∙ ap (with_opening inner) (levels-body inner inside body.0 (kind ∷ kinds) (text_of_reading rest ++ closer kind ∷ after))
    ∙ ap (λ l. with_opening inner (Within inside l)) (levels-body kind rest body.1 kinds after)

-- a group
pub levels-group : (kind : GroupKind) (inside : Reading) → IsBody kind inside → (kinds : List GroupKind) (after : List ℕ)
    → levels (36 ∷ opener kind ∷ (text_of_reading inside ++ closer kind ∷ after)) kinds 0 ≡ with_opening kind (Within inside (levels after kinds 0))
unfolding levels
levels-group kind inside body kinds after =
    ap (λ m. with_mark m (levels (opener kind ∷ (text_of_reading inside ++ closer kind ∷ after))) 1 kinds)
    (mark_at-opening kind kinds (text_of_reading inside ++ closer kind ∷ after))
    ∙ ap (with_opening kind) (levels-body kind inside body kinds after)

-- ---- the levels of a text are read as groups and bytes

-- levels inside these groups are bodies, except for the outermost
abbrev pub AreValid : List GroupKind → Levels → Type 0
AreValid kinds (Last rest) = IsWhole rest
AreValid [] (Within rest outer) = IsWhole rest
AreValid (kind ∷ kinds) (Within rest outer) = IsBody kind rest × AreValid kinds outer

begins_none : (byte : ℕ) (bytes : List ℕ) → opening byte bytes ≡ None → ¬ (BeginsGroup (byte ∷ bytes))
begins_none byte bytes none group =
    let same : (byte ≡ 36) × (bytes ≡ opener group.kind ∷ (text_of_reading group.inside ++ closer group.kind ∷ group.after)) =
    let is = group.text_is in (cc, cc) in
    let opens : None ≡ Some group.kind = sym none ∙ (λ i. opening (same.0 i) (same.1 i)) ∙ opening-opener group.kind (text_of_reading group.inside ++ closer group.kind ∷ group.after) in
    cc

with_byte-valid : (kinds : List GroupKind) (byte : ℕ) (l : Levels) → is_end kinds byte ≡ false → opening byte (printed_levels kinds l) ≡ None
    → AreValid kinds l → AreValid kinds (with_byte byte l)
unfolding IsBody IsWhole
with_byte-valid kinds byte (Last rest) plain none valid = (begins_none byte (text_of_reading rest) none, valid)
with_byte-valid [] byte (Within rest outer) plain none valid = (begins_none byte (text_of_reading rest) none, valid)
with_byte-valid (kind ∷ kinds) byte (Within rest outer) plain none valid = (
  (
    (λ same. by_test (eqb_tells byte (closer kind)) (λ t. true≢false (sym t.0 ∙ plain)) (λ f. f.1 same)),
    sym (opening-closer kind byte (text_of_reading rest) (printed_levels kinds outer)) ∙ none,
    valid.0,
  ),
  valid.1,
)

-- an opening without an end begins no group
begins_no_group : (kinds : List GroupKind) (kind : GroupKind) (rest : Reading) → levels (text_of_reading rest) (kind ∷ kinds) 0 ≡ Last rest
    → ¬ (BeginsGroup (36 ∷ opener kind ∷ text_of_reading rest))
begins_no_group kinds kind rest open_end group =
    let is = group.text_is in
    let kind_is : opener kind ≡ opener group.kind = cc in
    let rest_is : text_of_reading rest ≡ text_of_reading group.inside ++ closer group.kind ∷ group.after = cc in
    let same : group.kind ≡ kind = sym (opener-injective kind group.kind kind_is) in
    let closed : levels (text_of_reading rest) (kind ∷ kinds) 0 ≡ Within group.inside (levels group.after kinds 0) =
    ap (λ k. levels (text_of_reading rest) (k ∷ kinds) 0) (sym same) ∙ ap (λ bytes. levels bytes (group.kind ∷ kinds) 0) rest_is
    ∙ levels-body group.kind group.inside group.body kinds group.after in
    let both : Last rest ≡ Within group.inside (levels group.after kinds 0) = sym open_end ∙ closed in
    cc

with_opening-valid : (kinds : List GroupKind) (kind : GroupKind) (rest : List ℕ) (l : Levels) → levels rest (kind ∷ kinds) 0 ≡ l
    → AreValid (kind ∷ kinds) l → AreValid kinds (with_opening kind l)
unfolding IsBody IsWhole text_of_reading
with_opening-valid kinds kind rest (Last reading) is valid =
    let text : text_of_reading reading ≡ rest = ap (printed_levels (kind ∷ kinds)) (sym is) ∙ levels-text_of_reading rest (kind ∷ kinds) 0 in (
      begins_no_group kinds kind reading (ap (λ bytes. levels bytes (kind ∷ kinds) 0) text ∙ is),
      (begins_none (opener kind) (text_of_reading reading) (opener-opens_nothing kind (text_of_reading reading)), valid),
    )
with_opening-valid kinds kind rest (Within inside (Last reading)) is valid = valid
with_opening-valid [] kind rest (Within inside (Within reading outer)) is valid = valid
with_opening-valid (k ∷ kinds) kind rest (Within inside (Within reading outer)) is valid = ((valid.0, valid.1.0), valid.1.1)

pub levels-valid : (bytes : List ℕ) (kinds : List GroupKind) (skipped : ℕ) → AreValid kinds (levels bytes kinds skipped)
unfolding levels IsWhole IsBody
levels-valid [] kinds skipped = tt
levels-valid (byte ∷ after) kinds (suc skipped) = levels-valid after kinds skipped
levels-valid (byte ∷ after) kinds zero = by kinds (mark_at kinds byte after) (mark_says kinds byte after) (levels-valid after)
  where
    by : (kinds : List GroupKind) (m : Mark) → MarkSays kinds byte after m
        → ((ks : List GroupKind) (n : ℕ) → AreValid ks (levels after ks n)) → AreValid kinds (with_mark m (levels after) 1 kinds)
    by [] End says rest = absurd says
    by (kind ∷ kinds) End says rest = (tt, rest kinds 0)
    by kinds (Opening kind) says rest =
        with_opening-valid kinds kind says.1.0 (levels after (kind ∷ kinds) 1) (ap (λ bytes. levels bytes (kind ∷ kinds) 1) (sym says.1.1)) (rest (kind ∷ kinds) 1)
    by kinds (Byte b) says rest =
        with_byte-valid kinds b (levels after kinds 0) (ap (is_end kinds) says.0 ∙ says.1)
        ((λ i. opening (says.0 i) (levels-text_of_reading after kinds 0 i)) ∙ says.2) (rest kinds 0)

-- ---- a text has no other reading

-- the reading is what the levels of its text end in, if none of them ends before
abbrev pub IsOnly : Reading → Type 0
IsOnly reading = (kinds : List GroupKind) (last : Reading) → levels (text_of_reading reading) kinds 0 ≡ Last last → last ≡ reading

only-Group : (kind : GroupKind) (inside rest : Reading) → IsBody kind inside → IsOnly rest → IsOnly (Group kind inside rest)
unfolding text_of_reading
only-Group kind inside rest body only kinds last is =
    by (levels (text_of_reading rest) kinds 0) refl (sym (levels-group kind inside body kinds (text_of_reading rest)) ∙ is)
  where
    by : (l : Levels) → levels (text_of_reading rest) kinds 0 ≡ l → with_opening kind (Within inside l) ≡ Last last → last ≡ Group kind inside rest
    by (Last reading) e same =
        let inner : Group kind inside reading ≡ last = cc in sym inner ∙ ap (Group kind inside) (only kinds reading e)
    by (Within reading outer) e same = cc

-- the rest after the first byte, if the second byte opens a group with it
NextOnly : Reading → Type 0
NextOnly Over = Unit {0}
NextOnly (Plain byte rest) = IsOnly rest
NextOnly (Group kind inside rest) = Unit {0}

second-Plain : (r : Reading) (kind : GroupKind) (kinds : List GroupKind) (after : List ℕ) (last : Reading) → text_of_reading r ≡ opener kind ∷ after
    → NextOnly r → levels (text_of_reading r) (kind ∷ kinds) 1 ≡ Last last → Plain (opener kind) last ≡ r
unfolding text_of_reading levels NextOnly
second-Plain Over kind kinds after last text next is = cc
second-Plain (Plain byte rest) kind kinds after last text next is =
    let same : opener kind ≡ byte = cc in λ i. Plain (same i) (next (kind ∷ kinds) last is i)
second-Plain (Group k inside rest) kind kinds after last text next is =
    let same : 36 ≡ opener kind = cc in absurd (opener-not_36 kind (sym same))

only-Plain : (byte : ℕ) (rest : Reading) → ¬ (BeginsGroup (byte ∷ text_of_reading rest)) → IsOnly rest → NextOnly rest → IsOnly (Plain byte rest)
unfolding text_of_reading levels
only-Plain byte rest plain only next kinds last is =
    by kinds (mark_at kinds byte (text_of_reading rest)) (mark_says kinds byte (text_of_reading rest)) is
  where
    same_byte : (kinds : List GroupKind) (b : ℕ) (l : Levels) → b ≡ byte → levels (text_of_reading rest) kinds 0 ≡ l → with_byte b l ≡ Last last → last ≡ Plain byte rest
    same_byte kinds b (Last reading) same e is =
        let inner : Plain b reading ≡ last = cc in sym inner ∙ (λ i. Plain (same i) (only kinds reading e i))
    same_byte kinds b (Within reading outer) same e is = cc

    opened : (kinds : List GroupKind) (kind : GroupKind) (after : List ℕ) (l : Levels) → byte ≡ 36 → text_of_reading rest ≡ opener kind ∷ after
        → levels (text_of_reading rest) (kind ∷ kinds) 1 ≡ l → with_opening kind l ≡ Last last → last ≡ Plain byte rest
    opened kinds kind after (Last reading) first text e is =
        let inner : Plain 36 (Plain (opener kind) reading) ≡ last = cc in
        sym inner ∙ (λ i. Plain (sym first i) (second-Plain rest kind kinds after reading text next e i))
    opened kinds kind after (Within inside outer) first text e is =
        let valid : AreValid (kind ∷ kinds) (Within inside outer) = subst (AreValid (kind ∷ kinds)) e (levels-valid (text_of_reading rest) (kind ∷ kinds) 1) in
        let shown : text_of_reading inside ++ closer kind ∷ printed_levels kinds outer ≡ after =
        ap (printed_levels (kind ∷ kinds)) (sym e) ∙ levels-text_of_reading (text_of_reading rest) (kind ∷ kinds) 1 ∙ ap (drop 1) text in
        absurd (plain (record {
          kind = kind;
          inside = inside;
          after = printed_levels kinds outer;
          body = valid.0;
          text_is = (λ i. first i ∷ text i) ∙ ap (λ bytes. 36 ∷ opener kind ∷ bytes) (sym shown);
        }))

    by : (kinds : List GroupKind) (m : Mark) → MarkSays kinds byte (text_of_reading rest) m
        → with_mark m (levels (text_of_reading rest)) 1 kinds ≡ Last last → last ≡ Plain byte rest
    by [] End says is = absurd says
    by (kind ∷ kinds) End says is = cc
    by kinds (Opening kind) says is = opened kinds kind says.1.0 (levels (text_of_reading rest) (kind ∷ kinds) 1) says.0 says.1.1 refl is
    by kinds (Byte b) says is = same_byte kinds b (levels (text_of_reading rest) kinds 0) says.0 refl is

only_reading : (reading : Reading) → IsWhole reading → IsOnly reading × NextOnly reading
unfolding IsWhole text_of_reading levels NextOnly
only_reading Over whole = ((λ kinds last is. cc), tt)
only_reading (Plain byte rest) whole =
    let inner = only_reading rest whole.1 in (only-Plain byte rest whole.0 inner.0 inner.1, inner.0)
only_reading (Group kind inside rest) whole = (only-Group kind inside rest whole.0 (only_reading rest whole.1).0, tt)

-- the number of levels that end in the text
closings : Levels → ℕ
closings (Last rest) = 0
closings (Within rest outer) = suc (closings outer)

with_byte-closings : (byte : ℕ) (l : Levels) → closings (with_byte byte l) ≡ closings l
unfolding closings
with_byte-closings byte (Last rest) = refl
with_byte-closings byte (Within rest outer) = refl

with_opening-closings : (kind : GroupKind) (l : Levels) (n : ℕ) → closings l ≤ suc n → closings (with_opening kind l) ≤ n
unfolding closings
with_opening-closings kind (Last rest) n few = omega arith
with_opening-closings kind (Within inside (Last rest)) n few = omega arith
with_opening-closings kind (Within inside (Within rest outer)) n few = omega arith

-- no more levels end than there are open groups
levels-closings : (bytes : List ℕ) (kinds : List GroupKind) (skipped : ℕ) → closings (levels bytes kinds skipped) ≤ length kinds
unfolding levels closings
levels-closings [] kinds skipped = omega arith
levels-closings (byte ∷ after) kinds (suc skipped) = levels-closings after kinds skipped
levels-closings (byte ∷ after) kinds zero = by kinds (mark_at kinds byte after) (mark_says kinds byte after) (levels-closings after)
  where
    by : (kinds : List GroupKind) (m : Mark) → MarkSays kinds byte after m
        → ((ks : List GroupKind) (n : ℕ) → closings (levels after ks n) ≤ length ks) → closings (with_mark m (levels after) 1 kinds) ≤ length kinds
    by [] End says rest = absurd says
    by (kind ∷ kinds) End says rest = omega (arith, rest kinds 0)
    by kinds (Opening kind) says rest = with_opening-closings kind (levels after (kind ∷ kinds) 1) (length kinds) (rest (kind ∷ kinds) 1)
    by kinds (Byte b) says rest = omega (arith, with_byte-closings b (levels after kinds 0), rest kinds 0)

-- outside groups nothing ends
pub levels-last : (bytes : List ℕ) → levels bytes [] 0 ≡ Last (reading_of bytes)
unfolding closings reading_of
levels-last bytes = by (levels bytes [] 0) (levels-closings bytes [] 0)
  where
    by : (l : Levels) → closings l ≤ 0 → l ≡ Last (first_level l)
    by (Last rest) few = refl
    by (Within rest outer) few = absurd (omega arith)

-- every text reads in exactly one way
pub one_reading : (text : List ℕ) (reading : Reading)
    → (IsReading text reading → reading ≡ reading_of text) × (reading ≡ reading_of text → IsReading text reading)
one_reading text reading = (
  (λ reads. sym ((only_reading reading reads.whole).0 [] (reading_of text) (ap (λ bytes. levels bytes [] 0) reads.text_is ∙ levels-last text))),
  (λ is. subst (IsReading text) (sym is) (reads text)),
)
  where
    reads : (text : List ℕ) → IsReading text (reading_of text)
    reads text = record {
      text_is = ap (printed_levels []) (sym (levels-last text)) ∙ levels-text_of_reading text [] 0;
      whole = subst (AreValid []) (levels-last text) (levels-valid text [] 0);
    }

-- ---- the first mark of a text

mark_at-innermost : (kinds : List GroupKind) (innermost : Option GroupKind) (byte : ℕ) (after : List ℕ) → first_of kinds ≡ innermost
    → mark_at kinds byte after ≡ cond (is_end_of innermost byte) End (mark_of (opening byte after) byte)
mark_at-innermost [] innermost byte after first = ap (λ o. cond (is_end_of o byte) End (mark_of (opening byte after) byte)) first
mark_at-innermost (kind ∷ kinds) innermost byte after first = ap (λ o. cond (is_end_of o byte) End (mark_of (opening byte after) byte)) first

module _ (innermost : Option GroupKind) (text : List ℕ) (byte : ℕ) (after : List ℕ) (text_is : text ≡ byte ∷ after) where
  levels-mark : (kinds : List GroupKind) (m : Mark) → first_of kinds ≡ innermost
      → cond (is_end_of innermost byte) End (mark_of (opening byte after) byte) ≡ m → levels text kinds 0 ≡ with_mark m (levels after) 1 kinds
  unfolding levels
  levels-mark kinds m first is =
      ap (λ bytes. levels bytes kinds 0) text_is
      ∙ ap (λ mark. with_mark mark (levels after) 1 kinds) (mark_at-innermost kinds innermost byte after first ∙ is)

  pub marked_end : true ≡ is_end_of innermost byte → IsMarked innermost text End after
  marked_end ends kinds first =
      levels-mark kinds End first (ap (λ b. cond b End (mark_of (opening byte after) byte)) (sym ends))

  pub marked_byte : false ≡ is_end_of innermost byte → None ≡ opening byte after → IsMarked innermost text (Byte byte) after
  marked_byte plain none kinds first =
      levels-mark kinds (Byte byte) first
      (ap (λ b. cond b End (mark_of (opening byte after) byte)) (sym plain) ∙ ap (λ o. mark_of o byte) (sym none))

  skipped_one : (bytes : List ℕ) (kinds : List GroupKind) → levels bytes kinds 1 ≡ levels (drop 1 bytes) kinds 0
  unfolding levels
  skipped_one [] kinds = refl
  skipped_one (b ∷ bytes) kinds = refl

  pub marked_opening : (kind : GroupKind) (rest : List ℕ) → false ≡ is_end_of innermost byte → Some kind ≡ opening byte after → rest ≡ drop 1 after
      → IsMarked innermost text (Opening kind) rest
  marked_opening kind rest plain some rest_is kinds first =
      levels-mark kinds (Opening kind) first
      (ap (λ b. cond b End (mark_of (opening byte after) byte)) (sym plain) ∙ ap (λ o. mark_of o byte) (sym some))
      ∙ ap (with_opening kind) (skipped_one after (kind ∷ kinds) ∙ ap (λ bytes. levels bytes (kind ∷ kinds) 0) (sym rest_is))
