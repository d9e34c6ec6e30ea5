-- The applications that run outside this program while a channel waits.
use Rattle.std.specs.Prelude.{ℕ, ◌||◌, Bool, true, false, List, [], ◌∷◌, Option, codes, fold, is_some}
use Rattle.std.specs.List.{find}
use Rattle.std.specs.Option.{option_map, unwrap_or}
use Rattle.dp_conf.specs.Levels.{arguments_of}
use Rattle.dp_conf.specs.Words.{same_word}
use Rattle.dp_vars.specs.Stores.{StoreOf, set, unset, value_in}
use Rattle.dp_app.specs.Cells.{CellOf}
use Rattle.dp_app.specs.Knowledge.{Knowledge}
use Rattle.dp_app.specs.Parts.{part}
use Rattle.dp_app.specs.Rows.{Outcome, Row, Rows}
use Rattle.dp_app.specs.declared.moves.Move.TheVariants.{Hang, Park}
use Rattle.dp_app.specs.declared.phase.Phase.TheVariants.{Pause}
use Rattle.dp_app.specs.declared.place.Place.{Place}
use Rattle.dp_app.specs.declared.touch.Touch.{Touch}
use Rattle.dp_flow.specs.Jumps.{stays}
use Rattle.dp_flow.specs.Touches.{the_variables}
use Rattle.dp_wide.specs.Names.{with_named, with_named_knowledge, with_named_touch}
use Rattle.dp_wide.specs.ReadNames.{read_names, with_listed}
use Rattle.dp_wide.specs.Settings.{bare_name}

-- an application that reports in no variable how it ended
abbrev pub without_status : List ℕ → List ℕ × List (List ℕ)
without_status name = (name, [])

-- an application that reports in one variable how it ended
abbrev pub with_status : List ℕ → List ℕ → List ℕ × List (List ℕ)
with_status name status = (name, status ∷ [])

-- the applications that run outside, each with the variables in which it reports how it ended
unfoldable pub outside_applications : List (List ℕ × List (List ℕ))
outside_applications =
    with_status (codes "VoiceMail") (codes "VMSTATUS") ∷ without_status (codes "VoiceMailMain")
    ∷ (codes "VMAuthenticate", codes "AUTH_MAILBOX" ∷ codes "AUTH_CONTEXT" ∷ [])
    ∷ with_status (codes "Directory") (codes "DIRECTORY_RESULT") ∷ with_status (codes "Read") (codes "READSTATUS")
    ∷ with_status (codes "ReadExten") (codes "READEXTENSTATUS") ∷ with_status (codes "Record") (codes "RECORD_STATUS")
    ∷ (codes "ControlPlayback", codes "CPLAYBACKSTATUS" ∷ codes "CPLAYBACKOFFSET" ∷ []) ∷ without_status (codes "BackgroundDetect")
    ∷ with_status (codes "AGI") (codes "AGISTATUS") ∷ with_status (codes "DeadAGI") (codes "AGISTATUS")
    ∷ with_status (codes "EAGI") (codes "AGISTATUS") ∷ without_status (codes "ExternalIVR")
    ∷ with_status (codes "ConfBridge") (codes "CONFBRIDGE_RESULT") ∷ without_status (codes "MeetMe")
    ∷ with_status (codes "Page") (codes "PAGESTATUS") ∷ without_status (codes "Pickup") ∷ without_status (codes "PickupChan")
    ∷ with_status (codes "Park") (codes "PARKEDAT") ∷ without_status (codes "ParkedCall")
    ∷ with_status (codes "ParkAndAnnounce") (codes "PARKEDAT") ∷ without_status (codes "Authenticate")
    ∷ without_status (codes "FollowMe") ∷ without_status (codes "ChanSpy") ∷ without_status (codes "ExtenSpy")
    ∷ (codes "SendFAX", codes "FAXSTATUS" ∷ codes "FAXERROR" ∷ []) ∷ (codes "ReceiveFAX", codes "FAXSTATUS" ∷ codes "FAXERROR" ∷ [])
    ∷ without_status (codes "Echo") ∷ without_status (codes "Milliwatt") ∷ without_status (codes "MP3Player")
    ∷ without_status (codes "Festival") ∷ without_status (codes "MusicOnHold") ∷ without_status (codes "WaitMusicOnHold")
    ∷ with_status (codes "WaitForSilence") (codes "WAITSTATUS") ∷ with_status (codes "WaitForNoise") (codes "WAITSTATUS")
    ∷ without_status (codes "WaitForRing") ∷ without_status (codes "WaitUntil")
    ∷ with_status (codes "Transfer") (codes "TRANSFERSTATUS") ∷ with_status (codes "Bridge") (codes "BRIDGERESULT")
    ∷ without_status (codes "BridgeWait") ∷ without_status (codes "Stasis") ∷ without_status (codes "DISA")
    ∷ with_status (codes "PrivacyManager") (codes "PRIVACYMGRSTATUS") ∷ without_status (codes "Zapateller")
    ∷ without_status (codes "Flash") ∷ (codes "AMD", codes "AMDSTATUS" ∷ codes "AMDCAUSE" ∷ [])
    ∷ without_status (codes "NVFaxDetect") ∷ without_status (codes "Dictate") ∷ without_status (codes "TestClient")
    ∷ without_status (codes "TestServer") ∷ without_status (codes "AgentLogin")
    ∷ with_status (codes "AgentRequest") (codes "AGENT_STATUS") ∷ without_status (codes "Morsecode") ∷ without_status (codes "SMS")
    ∷ without_status (codes "Curl") ∷ []

-- the variables in which the application with a name, one of a list, reports how it ended
abbrev pub statuses_among : List (List ℕ × List (List ℕ)) → List ℕ → Option (List (List ℕ))
statuses_among applications name = option_map (λ a. a.1) (find (λ a. same_word name a.0) applications)

-- the same for all applications that run outside, if the name is one of theirs
abbrev pub outside_statuses : List ℕ → Option (List (List ℕ))
outside_statuses name = statuses_among outside_applications name

-- whether the application with a name runs outside
abbrev pub is_outside : List ℕ → Bool
is_outside name = is_some (outside_statuses name)

-- whether the first argument of an application names a variable for the input
abbrev pub is_read : List ℕ → Bool
is_read name = same_word name (codes "Read") || same_word name (codes "ReadExten")

-- the store after names have lost their values
abbrev pub without_values : List (List ℕ) → StoreOf Place → StoreOf Place
without_values names store = fold unset store names

-- the name of the variable for the input: the first argument, read like a name in `Set`
abbrev pub name_to_read : List ℕ → List ℕ
name_to_read arguments = bare_name (part 0 (arguments_of arguments))

-- the store after a name was added to the names for input, and has lost its value
abbrev pub after_reading : List ℕ → StoreOf Place → StoreOf Place
after_reading name store = unset (set store read_names (with_listed (value_in store read_names) name)) name

-- the same for the name in the first argument, if it names a variable
abbrev pub after_arguments : Bool → List ℕ → StoreOf Place → StoreOf Place
after_arguments false arguments store = store
after_arguments true arguments store = after_reading (name_to_read arguments) store

-- the values of an earlier run become unknown, and the channel waits; a channel that is closing does not wait, and its call ends
abbrev pub outside_outcome : List (List ℕ) → Bool → List ℕ → CellOf → Bool → Outcome
outside_outcome statuses reads arguments cell true = stays cell Hang
outside_outcome statuses reads arguments cell false =
    record { cell = record cell { store = without_values statuses (after_arguments reads arguments cell.store) }; next = Park Pause }

-- the row of an application that runs outside, given its statuses and whether its first argument names a variable
unfoldable pub outside_row : List (List ℕ) → Bool → Row
outside_row statuses reads arguments cell = outside_outcome statuses reads arguments cell cell.is_closing

-- the row of the application with a name
abbrev pub row_outside : List ℕ → Row
row_outside name = outside_row (unwrap_or (outside_statuses name) []) (is_read name)

-- a table in which they come first
abbrev pub with_outside : Rows → Rows
with_outside rows = with_named is_outside row_outside rows

-- the touches of such a table
abbrev pub with_outside_touch : (List ℕ → Touch) → List ℕ → Touch
with_outside_touch touches = with_named_touch is_outside the_variables touches

-- the knowledge of such a table: of these applications only `Read` looks at its arguments
abbrev pub with_outside_knowledge : Knowledge → Knowledge
with_outside_knowledge knowledge = with_named_knowledge is_outside is_read knowledge
