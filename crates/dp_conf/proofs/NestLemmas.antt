-- The nesting that follows from the waiting openings and the text still to be read.
use Rattle.std.proofs.Common.{◌≡◌, ◌≤◌, ◌*◌, ℕ, suc, List, [], ◌∷◌, length, length-append, refl, sym, ap, ◌∙◌, arith, max}
use Rattle.dp_conf.specs.declared.groups.GroupKind.{GroupKind}
use Rattle.dp_conf.specs.declared.groups.Mark.{Mark}
use Rattle.dp_conf.specs.declared.groups.Mark.TheVariants.{End, Opening, Byte}
use Rattle.dp_conf.specs.declared.nest.WaitingGroup.{WaitingGroup}
use Rattle.dp_conf.specs.Groups.{Reading, Over, Plain, Group, closer, text_of_reading, depth_of}
use Rattle.dp_conf.specs.GroupsRead.{Levels, Last, Within, with_byte, with_opening, with_mark, levels, reading_of, nesting_of, outer_of}
use Rattle.dp_conf.specs.steps.Nest.{NestOf, kinds_of, after_group, nest_after, deepest_in}
use Rattle.dp_conf.proofs.GroupsLemmas.{levels-last, one_reading}

-- the nesting of the whole, given the waiting openings, that of the innermost level so far, and the levels after
abbrev pub nesting_to_come : List WaitingGroup → ℕ → Levels → ℕ
nesting_to_come waiting deepest (Last rest) = deepest_in waiting (max deepest (depth_of rest))
nesting_to_come [] deepest (Within rest outer) = nesting_to_come [] (max deepest (depth_of rest)) outer
nesting_to_come (w ∷ waiting) deepest (Within rest outer) = nesting_to_come waiting (max w.deepest (suc (max deepest (depth_of rest)))) outer

come-with_byte : (waiting : List WaitingGroup) (deepest byte : ℕ) (l : Levels) → nesting_to_come waiting deepest (with_byte byte l) ≡ nesting_to_come waiting deepest l
unfolding depth_of
come-with_byte waiting deepest byte (Last rest) = refl
come-with_byte [] deepest byte (Within rest outer) = refl
come-with_byte (w ∷ waiting) deepest byte (Within rest outer) = refl

come-with_opening : (waiting : List WaitingGroup) (deepest : ℕ) (kind : GroupKind) (l : Levels)
    → nesting_to_come (record { kind = kind; deepest = deepest } ∷ waiting) 0 l ≡ nesting_to_come waiting deepest (with_opening kind l)
unfolding depth_of
come-with_opening waiting deepest kind (Last rest) = ap (deepest_in waiting) (omega arith)
come-with_opening waiting deepest kind (Within inside (Last rest)) = ap (deepest_in waiting) (omega arith)
come-with_opening [] deepest kind (Within inside (Within rest outer)) = ap (λ d. nesting_to_come [] d outer) (omega arith)
come-with_opening (w ∷ waiting) deepest kind (Within inside (Within rest outer)) =
    ap (λ d. nesting_to_come waiting (max w.deepest (suc d)) outer) (omega arith)

-- a mark does not change the nesting of the whole
pub come-mark : (m : Mark) (nest : NestOf) (after : List GroupKind → ℕ → Levels)
    → nesting_to_come (nest_after m nest).waiting (nest_after m nest).deepest (after (kinds_of (nest_after m nest).waiting) 0)
    ≡ nesting_to_come nest.waiting nest.deepest (with_mark m after 0 (kinds_of nest.waiting))
unfolding depth_of
come-mark End nest after = by nest.waiting
  where
    by : (ws : List WaitingGroup)
        → nesting_to_come (after_group ws nest.deepest).waiting (after_group ws nest.deepest).deepest (after (kinds_of (after_group ws nest.deepest).waiting) 0)
        ≡ nesting_to_come ws nest.deepest (Within Over (after (outer_of (kinds_of ws)) 0))
    by [] = ap (λ d. nesting_to_come [] d (after [] 0)) (omega arith)
    by (w ∷ ws) = ap (λ d. nesting_to_come ws (max w.deepest (suc d)) (after (kinds_of ws) 0)) (omega arith)
come-mark (Opening kind) nest after = come-with_opening nest.waiting nest.deepest kind (after (kind ∷ kinds_of nest.waiting) 0)
come-mark (Byte byte) nest after = sym (come-with_byte nest.waiting nest.deepest byte (after (kinds_of nest.waiting) 0))

-- nothing is left
pub come-over : (waiting : List WaitingGroup) (deepest : ℕ) → nesting_to_come waiting deepest (levels [] (kinds_of waiting) 0) ≡ deepest_in waiting deepest
unfolding levels depth_of
come-over waiting deepest = ap (deepest_in waiting) (omega arith)

-- nothing has been read yet
pub come-text : (text : List ℕ) → nesting_to_come [] 0 (levels text [] 0) ≡ nesting_of text
unfolding nesting_of
come-text text = ap (nesting_to_come [] 0) (levels-last text) ∙ omega arith

deepest_in-above : (waiting : List WaitingGroup) (deepest : ℕ) → deepest ≤ deepest_in waiting deepest
deepest_in-above [] deepest = omega arith
deepest_in-above (w ∷ waiting) deepest = omega (arith, deepest_in-above waiting (max w.deepest deepest))

-- the nesting of the innermost level so far is at most that of the whole
pub come-above : (waiting : List WaitingGroup) (deepest : ℕ) (l : Levels) → deepest ≤ nesting_to_come waiting deepest l
come-above waiting deepest (Last rest) = omega (arith, deepest_in-above waiting (max deepest (depth_of rest)))
come-above [] deepest (Within rest outer) = omega (arith, come-above [] (max deepest (depth_of rest)) outer)
come-above (w ∷ waiting) deepest (Within rest outer) =
    omega (arith, come-above waiting (max w.deepest (suc (max deepest (depth_of rest)))) outer)

-- a group has three bytes of its own
depth_of-length : (reading : Reading) → 3 * depth_of reading ≤ length (text_of_reading reading)
unfolding depth_of text_of_reading
depth_of-length Over = omega arith
depth_of-length (Plain byte rest) = omega (arith, depth_of-length rest)
depth_of-length (Group kind inside rest) =
    omega (arith, depth_of-length inside, depth_of-length rest, length-append (text_of_reading inside) (closer kind ∷ text_of_reading rest))

pub nesting_of-length : (text : List ℕ) → 3 * nesting_of text ≤ length text
unfolding nesting_of
nesting_of-length text = omega (arith, depth_of-length (reading_of text), ap length ((one_reading text (reading_of text)).1 refl).text_is)
