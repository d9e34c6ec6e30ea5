-- The openings of a text that wait for their ends, each with the nesting of its level so far.
use Rattle.std.specs.Prelude.{ℕ, suc, List, [], ◌∷◌, map, max}
use Rattle.dp_conf.specs.declared.groups.GroupKind.{GroupKind}
use Rattle.dp_conf.specs.declared.groups.Mark.{Mark}
use Rattle.dp_conf.specs.declared.groups.Mark.TheVariants.{End, Opening, Byte}
use Rattle.dp_conf.specs.declared.nest.WaitingGroup.{WaitingGroup}

-- the waiting openings, the innermost first, and the nesting of the text after the innermost
pub record NestOf : Type 0 where
  pub waiting : List WaitingGroup
  pub deepest : ℕ

-- the kinds of the waiting openings
abbrev pub kinds_of : List WaitingGroup → List GroupKind
kinds_of waiting = map (λ w. w.kind) waiting

-- a group that ends counts for the level around it
abbrev pub after_group : List WaitingGroup → ℕ → NestOf
after_group [] deepest = record { waiting = []; deepest = deepest }
after_group (w ∷ waiting) deepest = record { waiting = waiting; deepest = max w.deepest (suc deepest) }

-- the openings after a mark
abbrev pub nest_after : Mark → NestOf → NestOf
nest_after End nest = after_group nest.waiting nest.deepest
nest_after (Opening kind) nest =
    record { waiting = record { kind = kind; deepest = nest.deepest } ∷ nest.waiting; deepest = 0 }
nest_after (Byte byte) nest = nest

-- the nesting of a text that ends here: waiting openings have no end, so they are not groups
abbrev pub deepest_in : List WaitingGroup → ℕ → ℕ
deepest_in [] deepest = deepest
deepest_in (w ∷ waiting) deepest = deepest_in waiting (max w.deepest deepest)
