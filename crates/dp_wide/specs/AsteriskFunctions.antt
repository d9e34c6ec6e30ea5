-- The names of the functions that Asterisk has.
use Rattle.std.specs.Prelude.{ℕ, Bool, ◌||◌, List, [], ◌∷◌, codes}
use Rattle.dp_wide.specs.Names.{is_text_of}

-- the names that begin with A to C
unfoldable pub functions_a_to_c : List (List ℕ)
functions_a_to_c =
    codes "AES_DECRYPT" ∷ codes "AES_ENCRYPT" ∷ codes "AGC" ∷ codes "AGENT" ∷ codes "AMI_CLIENT" ∷ codes "ARRAY" ∷ codes "AST_CONFIG"
    ∷ codes "AST_SORCERY" ∷ codes "AUDIOHOOK_INHERIT" ∷ codes "BASE64_DECODE" ∷ codes "BASE64_ENCODE" ∷ codes "BASENAME"
    ∷ codes "BLACKLIST" ∷ codes "CALENDAR_BUSY" ∷ codes "CALENDAR_EVENT" ∷ codes "CALENDAR_QUERY" ∷ codes "CALENDAR_QUERY_RESULT"
    ∷ codes "CALENDAR_WRITE" ∷ codes "CALLCOMPLETION" ∷ codes "CALLERID" ∷ codes "CALLERPRES" ∷ codes "CDR" ∷ codes "CDR_PROP"
    ∷ codes "CHANNEL" ∷ codes "CHANNELS" ∷ codes "CHANNEL_EXISTS" ∷ codes "CHECKSIPDOMAIN" ∷ codes "CONFBRIDGE"
    ∷ codes "CONFBRIDGE_CHANNELS" ∷ codes "CONFBRIDGE_INFO" ∷ codes "CONNECTEDLINE" ∷ codes "CSV_QUOTE" ∷ codes "CURL"
    ∷ codes "CURLOPT" ∷ codes "CUT" ∷ []

-- the names that begin with D to E
unfoldable pub functions_d_to_e : List (List ℕ)
functions_d_to_e =
    codes "DB" ∷ codes "DB_DELETE" ∷ codes "DB_EXISTS" ∷ codes "DB_KEYCOUNT" ∷ codes "DB_KEYS" ∷ codes "DEC" ∷ codes "DENOISE"
    ∷ codes "DEVICE_STATE" ∷ codes "DIALGROUP" ∷ codes "DIALPLAN_EXISTS" ∷ codes "DIRNAME" ∷ codes "DUNDILOOKUP" ∷ codes "DUNDIQUERY"
    ∷ codes "DUNDIRESULT" ∷ codes "ENUMLOOKUP" ∷ codes "ENUMQUERY" ∷ codes "ENUMRESULT" ∷ codes "ENV" ∷ codes "EVAL"
    ∷ codes "EVAL_EXTEN" ∷ codes "EXCEPTION" ∷ codes "EXISTS" ∷ codes "EXPORT" ∷ codes "EXTENSION_STATE" ∷ []

-- the names that begin with F to I
unfoldable pub functions_f_to_i : List (List ℕ)
functions_f_to_i =
    codes "FAXOPT" ∷ codes "FEATURE" ∷ codes "FEATUREMAP" ∷ codes "FIELDNUM" ∷ codes "FIELDQTY" ∷ codes "FILE"
    ∷ codes "FILE_COUNT_LINE" ∷ codes "FILE_FORMAT" ∷ codes "FILTER" ∷ codes "FRAME_DROP" ∷ codes "FRAME_TRACE" ∷ codes "GLOBAL"
    ∷ codes "GROUP" ∷ codes "GROUP_COUNT" ∷ codes "GROUP_LIST" ∷ codes "GROUP_MATCH_COUNT" ∷ codes "HANGUPCAUSE"
    ∷ codes "HANGUPCAUSE_KEYS" ∷ codes "HASH" ∷ codes "HASHKEYS" ∷ codes "HINT" ∷ codes "HOLD_INTERCEPT" ∷ codes "IAXPEER"
    ∷ codes "IAXVAR" ∷ codes "ICONV" ∷ codes "IF" ∷ codes "IFMODULE" ∷ codes "IFTIME" ∷ codes "IMPORT" ∷ codes "INC" ∷ codes "ISNULL"
    ∷ []

-- the names that begin with J to O
unfoldable pub functions_j_to_o : List (List ℕ)
functions_j_to_o =
    codes "JABBER_RECEIVE" ∷ codes "JABBER_STATUS" ∷ codes "JITTERBUFFER" ∷ codes "JSON_DECODE" ∷ codes "KEYPADHASH" ∷ codes "LEN"
    ∷ codes "LISTFILTER" ∷ codes "LOCAL" ∷ codes "LOCAL_PEEK" ∷ codes "LOCK" ∷ codes "LTRIM" ∷ codes "MAILBOX_EXISTS"
    ∷ codes "MASTER_CHANNEL" ∷ codes "MATH" ∷ codes "MD5" ∷ codes "MEETME_INFO" ∷ codes "MESSAGE" ∷ codes "MESSAGE_DATA"
    ∷ codes "MINIVMACCOUNT" ∷ codes "MINIVMCOUNTER" ∷ codes "MIXMONITOR" ∷ codes "MUTEAUDIO" ∷ codes "ODBC" ∷ codes "ODBC_FETCH" ∷ []

-- the names that begin with P to Q
unfoldable pub functions_p_to_q : List (List ℕ)
functions_p_to_q =
    codes "PASSTHRU" ∷ codes "PERIODIC_HOOK" ∷ codes "PITCH_SHIFT" ∷ codes "PJSIP_AOR" ∷ codes "PJSIP_CONTACT"
    ∷ codes "PJSIP_DIAL_CONTACTS" ∷ codes "PJSIP_DTMF_MODE" ∷ codes "PJSIP_ENDPOINT" ∷ codes "PJSIP_HEADER" ∷ codes "PJSIP_HEADERS"
    ∷ codes "PJSIP_MEDIA_OFFER" ∷ codes "PJSIP_MOH_PASSTHROUGH" ∷ codes "PJSIP_PARSE_URI" ∷ codes "PJSIP_SEND_SESSION_REFRESH"
    ∷ codes "POP" ∷ codes "PP_EACH_EXTENSION" ∷ codes "PP_EACH_USER" ∷ codes "PRESENCE_STATE" ∷ codes "PUSH" ∷ codes "QUEUE_EXISTS"
    ∷ codes "QUEUE_GET_CHANNEL" ∷ codes "QUEUE_MEMBER" ∷ codes "QUEUE_MEMBER_COUNT" ∷ codes "QUEUE_MEMBER_LIST"
    ∷ codes "QUEUE_MEMBER_PENALTY" ∷ codes "QUEUE_VARIABLES" ∷ codes "QUEUE_WAITING_COUNT" ∷ codes "QUOTE" ∷ []

-- the names that begin with R to S
unfoldable pub functions_r_to_s : List (List ℕ)
functions_r_to_s =
    codes "RAND" ∷ codes "REALTIME" ∷ codes "REALTIME_DESTROY" ∷ codes "REALTIME_FIELD" ∷ codes "REALTIME_HASH"
    ∷ codes "REALTIME_STORE" ∷ codes "REDIRECTING" ∷ codes "REGEX" ∷ codes "REPLACE" ∷ codes "RTRIM" ∷ codes "SAYFILES"
    ∷ codes "SCRAMBLE" ∷ codes "SET" ∷ codes "SHA1" ∷ codes "SHARED" ∷ codes "SHELL" ∷ codes "SHIFT" ∷ codes "SIPCHANINFO"
    ∷ codes "SIPPEER" ∷ codes "SIP_HEADER" ∷ codes "SIP_HEADERS" ∷ codes "SMDI_MSG" ∷ codes "SMDI_MSG_RETRIEVE" ∷ codes "SORT"
    ∷ codes "SPEECH" ∷ codes "SPEECH_ENGINE" ∷ codes "SPEECH_GRAMMAR" ∷ codes "SPEECH_RESULTS_TYPE" ∷ codes "SPEECH_SCORE"
    ∷ codes "SPEECH_TEXT" ∷ codes "SPRINTF" ∷ codes "SQL_ESC" ∷ codes "SQL_ESC_BACKSLASHES" ∷ codes "SRVQUERY" ∷ codes "SRVRESULT"
    ∷ codes "STACK_PEEK" ∷ codes "STAT" ∷ codes "STRBETWEEN" ∷ codes "STRFTIME" ∷ codes "STRPTIME" ∷ codes "STRREPLACE"
    ∷ codes "SYSINFO" ∷ []

-- the names that begin with T to Z
unfoldable pub functions_t_to_z : List (List ℕ)
functions_t_to_z =
    codes "TALK_DETECT" ∷ codes "TESTTIME" ∷ codes "TIMEOUT" ∷ codes "TOLOWER" ∷ codes "TOUPPER" ∷ codes "TRIM" ∷ codes "TRYLOCK"
    ∷ codes "TXTCIDNAME" ∷ codes "UNLOCK" ∷ codes "UNSHIFT" ∷ codes "URIDECODE" ∷ codes "URIENCODE" ∷ codes "VALID_EXTEN"
    ∷ codes "VERSION" ∷ codes "VMCOUNT" ∷ codes "VM_INFO" ∷ codes "VOLUME" ∷ []

-- whether a name is one of these
abbrev pub is_asterisk_function : List ℕ → Bool
is_asterisk_function name =
    is_text_of functions_a_to_c name || is_text_of functions_d_to_e name || is_text_of functions_f_to_i name || is_text_of functions_j_to_o name
    || is_text_of functions_p_to_q name || is_text_of functions_r_to_s name || is_text_of functions_t_to_z name
