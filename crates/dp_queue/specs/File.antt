-- The queues of a file: each line changes the result of the lines before it.
use Rattle.std.specs.Prelude.{ℕ, Bool, false, ◌||◌, ◌==◌, List, [], ◌∷◌, ◌++◌, length, Option, Some, None, Result, Ok, Err, codes, slice_get, if◌then◌else◌}
use Rattle.std.specs.Option.{unwrap_or}
use Rattle.dp_conf.specs.Answers.{◌>>=◌}
use Rattle.dp_conf.specs.Levels.{arguments_of}
use Rattle.dp_conf.specs.Lines.{LineOf, Header, Pair, lines_of}
use Rattle.dp_conf.specs.Words.{same_word}
use Rattle.dp_queue.specs.Agents.{agent_number}
use Rattle.dp_conf.specs.Changes.{changed_at}
use Rattle.dp_queue.specs.Faults.{text_fault, at_line}
use Rattle.dp_queue.specs.Keys.{number_in, setting_of, usual, with_setting}
use Rattle.dp_queue.specs.Members.{is_member_at, with_member_at}
use Rattle.dp_queue.specs.Queues.{QueueOf, QueuesOf, queue_number}
use Rattle.dp_queue.specs.declared.fault.QueueFault.{QueueFault}
use Rattle.dp_queue.specs.declared.fault.QueueKind.{QueueKind}
use Rattle.dp_queue.specs.declared.fault.QueueKind.TheVariants.{DoubleQueue}
use Rattle.dp_queue.specs.declared.setting.Setting.{Setting}

-- the result of some lines, and the number of the queue whose section they end in; none in `[general]`
pub record FileOf : Type 0 where
  pub section : Option ℕ
  pub made : QueuesOf

-- before the first line
abbrev pub nothing_read : FileOf
nothing_read = record { section = None; made = record { queues = []; agents = []; finished = 0 } }

-- a queue with the default settings
abbrev pub queue_named : List ℕ → QueueOf
queue_named name = record { name = name; settings = usual; members = []; waiting = []; last = None }

-- the section of a new queue begins
abbrev pub with_queue : FileOf → List ℕ → FileOf
with_queue file name = record {
  section = Some (length file.made.queues);
  made = record file.made { queues = file.made.queues ++ queue_named name ∷ [] };
}

-- the header of a queue, given the number of the queue that already has its name
abbrev pub begun_by : FileOf → List ℕ → Option ℕ → Result FileOf QueueKind
begun_by file name None = Ok (with_queue file name)
begun_by file name (Some number) = Err DoubleQueue

-- after a header; `[general]` in any case is not a queue
abbrev pub after_header : FileOf → List ℕ → Result FileOf QueueKind
after_header file name =
    if same_word name (codes "general") then Ok (record file { section = None })
    else begun_by file name (queue_number file.made.queues name)

-- an argument; a missing one is empty
abbrev pub argument_at : List (List ℕ) → ℕ → List ℕ
argument_at arguments place = unwrap_or (slice_get arguments place) []

-- the penalty of a member; an empty one is 0
abbrev pub penalty_in : List ℕ → Result ℕ QueueKind
penalty_in [] = Ok 0
penalty_in (b ∷ bs) = number_in (b ∷ bs)

-- the penalty of a member, given the arguments of its line
abbrev pub penalty_of : List (List ℕ) → Result ℕ QueueKind
penalty_of arguments = penalty_in (argument_at arguments 1)

-- a member in the file is skipped if its name is empty, or if it is already a member of the queue
abbrev pub is_passed_over : QueuesOf → ℕ → List ℕ → Bool
is_passed_over q number name = length name == 0 || is_member_at q.queues number (agent_number q.agents name)

-- the queues with a member of the file
abbrev pub with_named : QueuesOf → ℕ → List ℕ → ℕ → QueuesOf
with_named q number name penalty =
    if is_passed_over q number name then q else with_member_at q number name penalty false

-- the queues after a member's line, given its arguments: the name, and the penalty
abbrev pub with_member_line : QueuesOf → ℕ → List (List ℕ) → Result QueuesOf QueueKind
with_member_line q number arguments =
    penalty_of arguments >>= λ penalty. Ok (with_named q number (argument_at arguments 0) penalty)

-- the queue with one of its settings changed
abbrev pub with_queue_setting : Setting → QueueOf → QueueOf
with_queue_setting setting queue = record queue { settings = with_setting setting queue.settings }

-- the queues with a setting of the queue with a number changed
abbrev pub with_setting_at : QueuesOf → ℕ → Setting → QueuesOf
with_setting_at q number setting = record q { queues = changed_at (with_queue_setting setting) number q.queues }

-- the queues after a line of another key
abbrev pub with_key : QueuesOf → ℕ → List ℕ → List ℕ → Result QueuesOf QueueKind
with_key q number key value = setting_of key value >>= λ setting. Ok (with_setting_at q number setting)

-- the queues after a pair in the section of the queue with a number
abbrev pub with_pair : QueuesOf → ℕ → List ℕ → List ℕ → Result QueuesOf QueueKind
with_pair q number key value =
    if same_word key (codes "member") then with_member_line q number (arguments_of value) else with_key q number key value

-- the same section with other queues
abbrev pub with_made : FileOf → QueuesOf → FileOf
with_made file made = record file { made = made }

abbrev pub made_in : FileOf → Result QueuesOf QueueKind → Result FileOf QueueKind
made_in file made = made >>= λ q. Ok (with_made file q)

-- after a pair, given its section; the pairs in `[general]` are not read
abbrev pub after_pair : FileOf → Option ℕ → List ℕ → List ℕ → Result FileOf QueueKind
after_pair file None key value = Ok file
after_pair file (Some number) key value = made_in file (with_pair file.made number key value)

-- after one more line, or the line's fault
abbrev pub after_line : FileOf → LineOf → Result FileOf QueueFault
after_line file (Header line name) = at_line line (after_header file name)
after_line file (Pair line key value) = at_line line (after_pair file file.section key value)

-- after some lines, or the fault of the first faulty one
abbrev pub after_lines : FileOf → List LineOf → Result FileOf QueueFault
after_lines file [] = Ok file
after_lines file (line ∷ lines) = after_line file line >>= λ next. after_lines next lines

-- the queues of a file: the faults of its text come before those of queues
unfoldable pub queues_in : List ℕ → Result QueuesOf QueueFault
queues_in text = text_fault (lines_of text) >>= λ lines. after_lines nothing_read lines >>= λ file. Ok file.made
