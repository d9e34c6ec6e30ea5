-- The kinds of applications that lead a call elsewhere in a real exchange. No public clause depends on them.
use Rattle.dp_reach.specs.Bounds.{Duties, nothing_owed}
use Rattle.dp_wide_duties.specs.Calling.{dial_leads, member_leads, originate_leads, page_leads, queue_leads}
use Rattle.dp_wide_duties.specs.Naming.{naming_leads}
use Rattle.dp_wide_duties.specs.Places.{directory_leads, disa_leads, mail_leads}
use Rattle.dp_wide_duties.specs.declared.besides.Beside.{Beside}
use Rattle.dp_wide_duties.specs.declared.besides.Beside.TheVariants.{Nothing, Naming, Dial, Queue, Page, Originate, Member, Disa, Directory, Mail}

-- the duties of a kind
abbrev pub shown_beside : Beside → Duties
shown_beside Nothing = nothing_owed
shown_beside Naming = naming_leads
shown_beside Dial = dial_leads
shown_beside Queue = queue_leads
shown_beside Page = page_leads
shown_beside Originate = originate_leads
shown_beside Member = member_leads
shown_beside Disa = disa_leads
shown_beside Directory = directory_leads
shown_beside Mail = mail_leads
