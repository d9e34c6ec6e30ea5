-- The settings in a queue's section, given its keys, and why a value is refused.
use Rattle.std.specs.Prelude.{ℕ, Bool, ◌||◌, nat_le, List, [], Option, Some, None, Result, Ok, Err, codes, if◌then◌else◌}
use Rattle.dp_conf.specs.Answers.{◌>>=◌}
use Rattle.dp_conf.specs.Numbers.{number_of}
use Rattle.dp_conf.specs.Words.{same_word}
use Rattle.dp_queue.specs.declared.fault.QueueKind.{QueueKind}
use Rattle.dp_queue.specs.declared.fault.QueueKind.TheVariants.{BadStrategy, BadNumber, LeftOut}
use Rattle.dp_queue.specs.declared.setting.Setting.{Setting}
use Rattle.dp_queue.specs.declared.setting.Setting.TheVariants.{ChoosesBy, HoldsAtMost, JoinsBy, LeavesBy, DigitsIn, Ignored}
use Rattle.dp_queue.specs.declared.settings.EmptyRule.{EmptyRule}
use Rattle.dp_queue.specs.declared.settings.EmptyRule.TheVariants.{Yes, No, Strict, Loose}
use Rattle.dp_queue.specs.declared.settings.Settings.{Settings}
use Rattle.dp_queue.specs.declared.settings.Strategy.{Strategy}
use Rattle.dp_queue.specs.declared.settings.Strategy.TheVariants.{RingAll, Linear, LeastRecent, FewestCalls, RrMemory}

-- the greatest number in a file of queues
abbrev pub most_number : ℕ
most_number = 2147483647

-- a number up to the greatest
abbrev pub within_most : Option ℕ → Result ℕ QueueKind
within_most None = Err BadNumber
within_most (Some number) = if nat_le number most_number then Ok number else Err BadNumber

-- the number that a text writes, up to the greatest
abbrev pub number_in : List ℕ → Result ℕ QueueKind
number_in text = within_most (number_of text)

-- a strategy that is not supported
abbrev pub is_left_out : List ℕ → Bool
is_left_out value = same_word value (codes "random") || same_word value (codes "wrandom") || same_word value (codes "rrordered")

-- the strategy with a name
abbrev pub strategy_of : List ℕ → Result Strategy QueueKind
strategy_of value =
    if same_word value (codes "ringall") then Ok RingAll
    else if same_word value (codes "linear") then Ok Linear
    else if same_word value (codes "leastrecent") then Ok LeastRecent
    else if same_word value (codes "fewestcalls") then Ok FewestCalls
    else if same_word value (codes "rrmemory") then Ok RrMemory
    else if is_left_out value then Err LeftOut
    else Err BadStrategy

-- the rule that says when a queue is too empty, given a word
abbrev pub rule_of : List ℕ → Result EmptyRule QueueKind
rule_of value =
    if same_word value (codes "yes") then Ok Yes
    else if same_word value (codes "no") then Ok No
    else if same_word value (codes "strict") then Ok Strict
    else if same_word value (codes "loose") then Ok Loose
    else Err LeftOut

-- the setting of a pair in a queue's section; other keys have no effect
unfoldable pub setting_of : List ℕ → List ℕ → Result Setting QueueKind
setting_of key value =
    if same_word key (codes "strategy") then (strategy_of value >>= λ strategy. Ok (ChoosesBy strategy))
    else if same_word key (codes "maxlen") then (number_in value >>= λ number. Ok (HoldsAtMost number))
    else if same_word key (codes "joinempty") then (rule_of value >>= λ rule. Ok (JoinsBy rule))
    else if same_word key (codes "leavewhenempty") then (rule_of value >>= λ rule. Ok (LeavesBy rule))
    else if same_word key (codes "context") then Ok (DigitsIn value)
    else Ok Ignored

-- the default settings of a queue
abbrev pub usual : Settings
usual = record { strategy = RingAll; maxlen = 0; joinempty = Yes; leavewhenempty = No; context = [] }

-- the settings with one of them changed
abbrev pub with_setting : Setting → Settings → Settings
with_setting (ChoosesBy strategy) settings = record settings { strategy = strategy }
with_setting (HoldsAtMost number) settings = record settings { maxlen = number }
with_setting (JoinsBy rule) settings = record settings { joinempty = rule }
with_setting (LeavesBy rule) settings = record settings { leavewhenempty = rule }
with_setting (DigitsIn context) settings = record settings { context = context }
with_setting Ignored settings = settings
