-- The duties of the applications of the wide table, and where a real exchange may lead a call besides.
use Rattle.std.specs.Prelude.{ℕ, List, ◌++◌, codes}
use Rattle.dp_wide.specs.Choices.{exec_if_title}
use Rattle.dp_reach.specs.Bounds.{Duties}
use Rattle.dp_reach.specs.Standard.{no_names, with_duties}
use Rattle.dp_wide_reach.specs.Choices.{anything_owed, exec_if_duties}
use Rattle.dp_wide_reach.specs.Wide.{inner_duties}
use Rattle.dp_wide_duties.specs.Calling.{dial_leads, member_leads, originate_leads, page_leads, queue_leads}
use Rattle.dp_wide_duties.specs.Naming.{naming_leads}
use Rattle.dp_wide_duties.specs.Places.{directory_leads, disa_leads, mail_leads}

-- where a real exchange may lead a call that runs the application with a name, if it calls no devices
abbrev pub listed_besides : List ℕ → Duties
listed_besides =
    with_duties (codes "DISA") disa_leads
    (with_duties (codes "Directory") directory_leads
    (with_duties (codes "VoiceMail") mail_leads
    (with_duties (codes "VoiceMailMain") mail_leads
    (with_duties (codes "VMAuthenticate") mail_leads no_names))))

-- where a real exchange may lead a call that runs the application with a name, besides where this program's machine does
unfoldable pub besides : List ℕ → Duties
besides =
    with_duties (codes "Set") naming_leads
    (with_duties (codes "Dial") dial_leads
    (with_duties (codes "Queue") queue_leads
    (with_duties (codes "Page") page_leads
    (with_duties (codes "Originate") originate_leads
    (with_duties (codes "AddQueueMember") member_leads listed_besides)))))

-- the duties of each name but `ExecIf`, with those
abbrev pub met_duties : List ℕ → Duties
met_duties name area pieces = inner_duties name area pieces ++ besides name area pieces

-- the same, where nothing is known of an `ExecIf`
abbrev pub plain_duties : List ℕ → Duties
plain_duties = with_duties exec_if_title anything_owed met_duties

-- the duties of each name
unfoldable pub exchange_duties : List ℕ → Duties
exchange_duties = with_duties exec_if_title (exec_if_duties 8 plain_duties) plain_duties
