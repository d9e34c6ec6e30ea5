-- What a group sees: the variables, the globals, the locals of the innermost frame, the caller and the queues.
use Rattle.std.specs.Prelude.{ℕ, Bool, is_some, List, [], ◌∷◌, ◌++◌, Option, Some, None, map, unwrap_or, codes}
use Rattle.std.specs.Borrow.{Bor}
use Rattle.std.specs.Fmt.{decimal}
use Rattle.std.specs.Option.{option_map, option_map_or}
use Rattle.std.specs.Ordering.{nat_cmp}
use Rattle.std.specs.Cmp.Lexicographic.{slice_cmp}
use Rattle.std.specs.FinMap.{from_entries}
use Rattle.dp_vars.specs.Variables.{Named, first_value, value_or_empty}
use Rattle.dp_vars.specs.Stores.{StoreOf, searched_maps, local_in}
use Rattle.dp_vars.specs.declared.scope.ChannelSeen.{ChannelSeen}
use Rattle.dp_vars.specs.declared.scope.Scope.{Scope}
use Rattle.dp_vars.specs.declared.value.GivenName.{GivenName}
use Rattle.dp_vars.specs.declared.value.GivenName.TheVariants.{Exten, Context, Priority, Channel}

-- the value of each name and whether it has one, the value that something has set for each name, whatever the channel gives, the value of
-- each global and whether there is one, the value of each local of the innermost frame alone, the caller's number, the number of calls that
-- wait in each queue, and the number of its members, if it exists
pub record Sight : Type 0 where
  pub variable : List ℕ → List ℕ
  pub is_set : List ℕ → Bool
  pub held : List ℕ → Option (List ℕ)
  pub global : List ℕ → List ℕ
  pub has_global : List ℕ → Bool
  pub local : List ℕ → List ℕ
  pub caller : List ℕ
  pub waiting : List ℕ → ℕ
  pub members : List ℕ → Option ℕ

-- the counts of the queues by name: the number of calls that wait in each, and the number of its members, if it exists
pub record QueueCounts : Type 0 where
  pub waiting : List ℕ → ℕ
  pub members : List ℕ → Option ℕ

-- what a text sees of a channel: its number and place, and the caller's number
pub record ChannelView : Type 0 where
  pub number : ℕ
  pub context : List ℕ
  pub extension : List ℕ
  pub priority : ℕ
  pub caller : List ℕ

-- the view of a channel, as values
abbrev pub view_of : ChannelSeen → ChannelView
view_of seen = record {
  number = seen.number;
  context = seen.context.now;
  extension = seen.extension.now;
  priority = seen.priority;
  caller = seen.caller.now;
}

-- the name of a channel
abbrev pub channel_name : ℕ → List ℕ
channel_name number = codes "Channel/" ++ decimal number

-- the names that a channel gives
abbrev pub given_names : List (List ℕ × GivenName)
given_names = (codes "EXTEN", Exten) ∷ (codes "CONTEXT", Context) ∷ (codes "PRIORITY", Priority) ∷ (codes "CHANNEL", Channel) ∷ []

-- their values; without a channel each of them is empty, and so no variable with that name is seen
abbrev pub given_value : Option ChannelView → GivenName → List ℕ
given_value None given = []
given_value (Some channel) Exten = channel.extension
given_value (Some channel) Context = channel.context
given_value (Some channel) Priority = decimal channel.priority
given_value (Some channel) Channel = channel_name channel.number

-- the names with their values
abbrev pub given_by : Option ChannelView → List (List ℕ × List ℕ)
given_by channel = map (λ e. (e.0, given_value channel e.1)) given_names

-- the map of those names
abbrev pub channel_map : Option ChannelView → Named
channel_map channel = from_entries {R = slice_cmp nat_cmp} (given_by channel)

-- the number of the caller
abbrev pub caller_of : Option ChannelView → List ℕ
caller_of channel = option_map_or (λ seen. seen.caller) channel []

-- the value behind a reference, if there is one
abbrev pub after : {X : Type 0} → Option (Bor X) → Option X
after reference = option_map (λ r. r.now) reference

module _ {B : Type 0} where
  -- the maps of a store, if there is one: the locals from the innermost frame outwards, and the channel's variables
  abbrev pub stored_maps : Option (StoreOf B) → List Named
  stored_maps None = []
  stored_maps (Some store) = searched_maps store

  -- the local of the innermost frame alone
  abbrev pub local_seen : Option (StoreOf B) → List ℕ → List ℕ
  local_seen None name = []
  local_seen (Some store) name = unwrap_or (local_in store name) []

  -- the maps in which a name is looked up if the channel does not give it: those of the store, and the globals
  abbrev pub held_by : Option (StoreOf B) → Named → List Named
  held_by store globals = stored_maps store ++ globals ∷ []

  -- the maps in which a name is looked up: what the channel gives, and those
  abbrev pub maps_by : Option ChannelView → Option (StoreOf B) → Named → List Named
  maps_by channel store globals = channel_map channel ∷ held_by store globals

  -- what is seen of a channel, a store and the globals, with the counts of the queues
  abbrev pub sight_by : QueueCounts → Option ChannelView → Option (StoreOf B) → Named → Sight
  sight_by counts channel store globals = record {
    variable = value_or_empty (maps_by channel store globals);
    is_set = λ name. is_some (first_value (maps_by channel store globals) name);
    held = first_value (held_by store globals);
    global = value_or_empty (globals ∷ []);
    has_global = λ name. is_some (first_value (globals ∷ []) name);
    local = local_seen store;
    caller = caller_of channel;
    waiting = counts.waiting;
    members = counts.members;
  }

module _ {B C : Type 0} where
  -- the maps in which a scope looks up a name
  abbrev pub maps_of : Scope B C → List Named
  maps_of scope = maps_by (option_map view_of scope.channel) (after scope.store) scope.globals.now

  -- the maps in which a scope looks up a name that the channel does not give
  abbrev pub held_maps : Scope B C → List Named
  held_maps scope = held_by (after scope.store) scope.globals.now

  -- what is seen in a scope, where `count` gives the counts of the queues
  abbrev pub sight_of : (C → QueueCounts) → Scope B C → Sight
  sight_of count scope =
      sight_by (count scope.counts.now) (option_map view_of scope.channel) (after scope.store) scope.globals.now
