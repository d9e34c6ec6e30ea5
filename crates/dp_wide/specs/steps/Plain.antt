-- Applications of the wide table that look at their arguments, and never ask for anything.
use Rattle.std.specs.Prelude.{ℕ, Bool, List, [], ◌∷◌, codes}
use Rattle.dp_wide.specs.Names.{is_word_of}

-- the names of these applications
unfoldable pub plain_names : List (List ℕ)
plain_names =
    codes "Goto" ∷ codes "GotoIf" ∷ codes "Gosub" ∷ codes "GosubIf" ∷ codes "Return" ∷ codes "Playback" ∷ codes "Background"
    ∷ codes "Wait" ∷ codes "WaitExten" ∷ codes "Queue" ∷ codes "Macro" ∷ codes "MacroExit" ∷ codes "DBdel" ∷ codes "DBdeltree"
    ∷ codes "StackPop" ∷ codes "AddQueueMember" ∷ codes "RemoveQueueMember" ∷ codes "PauseQueueMember" ∷ codes "UnpauseQueueMember" ∷ []

-- whether a name is one of these
abbrev pub is_plain : List ℕ → Bool
is_plain name = is_word_of plain_names name
