-- Names of applications and of variables, computed from the definitions themselves.
use Rattle.std.proofs.Common.{◌≡◌, ℕ, Bool, true, false, not, ◌&&◌, List, [], ◌∷◌, ◌++◌, Some, None, length, map, refl, codes}
use Rattle.std.specs.List.{list_all, list_any}
use Rattle.dp_wide.specs.Going.{going_names, goes_on}
use Rattle.dp_wide.specs.Names.{given_names, is_given_by_asterisk, is_status, is_word_of, status_names}
use Rattle.dp_wide.specs.Outside.{outside_applications, outside_statuses}

-- the names of all applications that go on or that run outside
abbrev listed_names : List (List ℕ)
listed_names = going_names ++ map (λ a. a.0) outside_applications

-- no name occurs twice, in any case
abbrev stand_once : List (List ℕ) → Bool
stand_once [] = true
stand_once (name ∷ names) = not (is_word_of names name) && stand_once names

listed-once : stand_once listed_names ≡ true
unfolding going_names outside_applications
listed-once = refl

listed-going : length going_names ≡ 44
unfolding going_names
listed-going = refl

listed-outside : length outside_applications ≡ 55
unfolding outside_applications
listed-outside = refl

-- names that have rows of their own
abbrev other_names : List (List ℕ)
other_names =
    codes "NoOp" ∷ codes "Goto" ∷ codes "Set" ∷ codes "GotoIf" ∷ codes "Gosub" ∷ codes "GosubIf" ∷ codes "Return" ∷ codes "StackPop"
    ∷ codes "Answer" ∷ codes "Hangup" ∷ codes "Verbose" ∷ codes "Playback" ∷ codes "Wait" ∷ codes "WaitExten" ∷ codes "Background"
    ∷ codes "Dial" ∷ codes "Queue" ∷ codes "AddQueueMember" ∷ codes "RemoveQueueMember" ∷ codes "PauseQueueMember"
    ∷ codes "UnpauseQueueMember" ∷ codes "MSet" ∷ codes "ExecIf" ∷ codes "GotoIfTime" ∷ codes "Busy" ∷ codes "Congestion"
    ∷ codes "DBdel" ∷ codes "DBdeltree" ∷ codes "Macro" ∷ codes "MacroExit" ∷ []

-- none of them is listed
listed-no_other : list_any (is_word_of listed_names) other_names ≡ false
unfolding going_names outside_applications
listed-no_other = refl

-- in any case
goes-spelled : goes_on (codes "mIXmONITOR") ≡ true
unfolding going_names
goes-spelled = refl

goes-longer : goes_on (codes "Logs") ≡ false
unfolding going_names
goes-longer = refl

outside-spelled : outside_statuses (codes "voicemail") ≡ Some (codes "VMSTATUS" ∷ [])
unfolding outside_applications
outside-spelled = refl

outside-two : outside_statuses (codes "SendFAX") ≡ Some (codes "FAXSTATUS" ∷ codes "FAXERROR" ∷ [])
unfolding outside_applications
outside-two = refl

outside-none : outside_statuses (codes "VoiceMailMain") ≡ Some []
unfolding outside_applications
outside-none = refl

outside-absent : outside_statuses (codes "While") ≡ None
unfolding outside_applications
outside-absent = refl

-- each status of an application is one of the names of statuses, and Asterisk gives none of these as well
outside-statuses : list_all (λ a. list_all is_status a.1) outside_applications ≡ true
unfolding outside_applications status_names
outside-statuses = refl

status-given : list_any is_given_by_asterisk status_names ≡ false
unfolding status_names given_names
status-given = refl

-- names of variables are case sensitive
status-spelled : is_status (codes "vmstatus") ≡ false
unfolding status_names
status-spelled = refl
