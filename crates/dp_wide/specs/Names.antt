-- Names of applications and of variables, in lists, and tables with rows for further names.
use Rattle.std.specs.Prelude.{ℕ, Bool, List, [], ◌∷◌, Some, codes, if◌then◌else◌}
use Rattle.std.specs.List.{list_any}
use Rattle.dp_conf.specs.Words.{same_text, same_word}
use Rattle.dp_app.specs.Knowledge.{Knowledge}
use Rattle.dp_app.specs.Rows.{Row, Rows}
use Rattle.dp_app.specs.declared.touch.Touch.{Touch}

-- whether a name is one of some words, in any case
abbrev pub is_word_of : List (List ℕ) → List ℕ → Bool
is_word_of words name = list_any (same_word name) words

-- whether a name is one of some texts, byte by byte
abbrev pub is_text_of : List (List ℕ) → List ℕ → Bool
is_text_of texts name = list_any (same_text name) texts

-- the variables in which applications that run outside, and applications that only go on here, report how they ended
unfoldable pub status_names : List (List ℕ)
status_names =
    codes "VMSTATUS" ∷ codes "READSTATUS" ∷ codes "AGISTATUS" ∷ codes "SYSTEMSTATUS" ∷ codes "PAGESTATUS" ∷ codes "RECORD_STATUS"
    ∷ codes "FAXSTATUS" ∷ codes "AMDSTATUS" ∷ codes "TRANSFERSTATUS" ∷ codes "PARKEDAT" ∷ codes "PRIVACYMGRSTATUS"
    ∷ codes "ORIGINATE_STATUS" ∷ codes "CONFBRIDGE_RESULT" ∷ codes "LOOKUPSTATUS" ∷ codes "FAXERROR"
    ∷ codes "AMDCAUSE" ∷ codes "AUTH_MAILBOX" ∷ codes "AUTH_CONTEXT" ∷ codes "DIRECTORY_RESULT" ∷ codes "READEXTENSTATUS"
    ∷ codes "CPLAYBACKSTATUS" ∷ codes "CPLAYBACKOFFSET" ∷ codes "WAITSTATUS" ∷ codes "BRIDGERESULT" ∷ codes "AGENT_STATUS"
    ∷ codes "SENDTEXTSTATUS" ∷ codes "CHANNELREDIRECT_STATUS" ∷ codes "MESSAGE_SEND_STATUS" ∷ codes "MIXMONITOR_FILENAME"
    ∷ codes "LOOKUPBLSTATUS" ∷ []

-- whether a name is one of these variables
abbrev pub is_status : List ℕ → Bool
is_status name = is_text_of status_names name

-- the names to which Asterisk gives a value, but this program does not
unfoldable pub given_names : List (List ℕ)
given_names =
    codes "UNIQUEID" ∷ codes "LINKEDID" ∷ codes "EPOCH" ∷ codes "DATETIME" ∷ codes "TIMESTAMP" ∷ codes "HANGUPCAUSE"
    ∷ codes "ANSWEREDTIME" ∷ codes "DIALEDTIME" ∷ codes "DIALEDPEERNAME" ∷ codes "DIALEDPEERNUMBER" ∷ codes "CALLINGPRES"
    ∷ codes "SYSTEMNAME" ∷ codes "ENTITYID" ∷ codes "CHANNEL" ∷ codes "DB_RESULT" ∷ codes "MEMBERINTERFACE" ∷ codes "MEMBERNAME"
    ∷ codes "QEHOLDTIME" ∷ codes "PLAYBACKSTATUS" ∷ codes "BACKGROUNDSTATUS" ∷ codes "BRIDGEPEER" ∷ codes "GOSUB_RESULT"
    ∷ codes "HASHRESULT" ∷ codes "SIPCALLID" ∷ codes "SIPDOMAIN" ∷ codes "RECORDED_FILE" ∷ []

-- whether a name is one of these names
abbrev pub is_given_by_asterisk : List ℕ → Bool
is_given_by_asterisk name = is_text_of given_names name

-- a table with a row for each name of a kind, before its other rows
abbrev pub with_named : (List ℕ → Bool) → (List ℕ → Row) → Rows → Rows
with_named is_named row_of rows name = if is_named name then Some (row_of name) else rows name

-- the touches of such a table
abbrev pub with_named_touch : (List ℕ → Bool) → Touch → (List ℕ → Touch) → List ℕ → Touch
with_named_touch is_named touch touches name = if is_named name then touch else touches name

-- the knowledge of such a table if applications of these names ask nothing more: which of them look at their arguments, and the knowledge
-- of the others
abbrev pub with_named_knowledge : (List ℕ → Bool) → (List ℕ → Bool) → Knowledge → Knowledge
with_named_knowledge is_named looks knowledge = record {
  looks = λ name. if is_named name then looks name else knowledge.looks name;
  asks = λ sight name arguments. if is_named name then [] else knowledge.asks sight name arguments;
}
