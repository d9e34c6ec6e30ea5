-- The applications that only go on here, and change nothing.
use Rattle.std.specs.Prelude.{ℕ, Bool, false, List, [], ◌∷◌, codes}
use Rattle.dp_app.specs.Knowledge.{Knowledge}
use Rattle.dp_app.specs.Rows.{Rows}
use Rattle.dp_app.specs.declared.touch.Touch.{Touch}
use Rattle.dp_flow.specs.Plain.{next_row}
use Rattle.dp_flow.specs.Touches.{nothing}
use Rattle.dp_wide.specs.Names.{is_word_of, with_named, with_named_knowledge, with_named_touch}

-- the names of the applications that go on
unfoldable pub going_names : List (List ℕ)
going_names =
    codes "Ringing" ∷ codes "Progress" ∷ codes "Proceeding" ∷ codes "SayDigits" ∷ codes "SayNumber" ∷ codes "SayAlpha"
    ∷ codes "SayPhonetic" ∷ codes "SayUnixTime" ∷ codes "Playtones" ∷ codes "StopPlaytones" ∷ codes "StartMusicOnHold"
    ∷ codes "StopMusicOnHold" ∷ codes "SetMusicOnHold" ∷ codes "MixMonitor" ∷ codes "StopMixMonitor" ∷ codes "Monitor"
    ∷ codes "StopMonitor" ∷ codes "PauseMonitor" ∷ codes "UnpauseMonitor" ∷ codes "UserEvent" ∷ codes "SendDTMF" ∷ codes "SendText"
    ∷ codes "SetAMAFlags" ∷ codes "Log" ∷ codes "DumpChan" ∷ codes "ResetCDR" ∷ codes "NoCDR" ∷ codes "ForkCDR"
    ∷ codes "CELGenUserEvent" ∷ codes "QueueLog" ∷ codes "UpdateConfig" ∷ codes "ChannelRedirect" ∷ codes "SoftHangup"
    ∷ codes "Originate" ∷ codes "System" ∷ codes "TrySystem" ∷ codes "SIPAddHeader" ∷ codes "SIPRemoveHeader"
    ∷ codes "HangupCauseClear" ∷ codes "LookupCIDName" ∷ codes "LookupBlacklist" ∷ codes "SetCallerPres" ∷ codes "JabberSend"
    ∷ codes "MessageSend" ∷ []

-- whether the application with a name goes on
abbrev pub goes_on : List ℕ → Bool
goes_on name = is_word_of going_names name

-- a table in which they come first, each with the row that goes on
abbrev pub with_going : Rows → Rows
with_going rows = with_named goes_on (λ name. next_row) rows

-- the touches of such a table
abbrev pub with_going_touch : (List ℕ → Touch) → List ℕ → Touch
with_going_touch touches = with_named_touch goes_on nothing touches

-- the knowledge of such a table: none of these applications looks at its arguments
abbrev pub with_going_knowledge : Knowledge → Knowledge
with_going_knowledge knowledge = with_named_knowledge goes_on (λ name. false) knowledge
