-- A caller, as the bytes of its texts.
use Rattle.dp_wide.specs.Settings.{CallerTextOf as CallerBytes}
use Rattle.dp_wide.specs.declared.settings.callers.CallerText.{CallerText}

-- its name and its number
abbrev pub caller_seen : CallerText → CallerBytes
caller_seen caller = record { name = caller.name.now; number = caller.number.now }
