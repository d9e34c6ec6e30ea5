-- The parts of a machine that an application sees and may change, behind the references of a cell.
use Rattle.std.specs.Prelude.{◌≡◌, ℕ, Bool, List}
use Rattle.dp_queue.specs.Queues.{QueuesOf}
use Rattle.dp_vars.specs.Stores.{StoreOf}
use Rattle.dp_vars.specs.Variables.{Named}
use Rattle.dp_app.specs.declared.cell.Cell.{Cell}
use Rattle.dp_app.specs.declared.place.Place.{Place}

-- a channel and what all channels share, as an application sees them
pub record CellOf : Type 0 where
  pub number : ℕ
  pub place : Place
  pub is_closing : Bool
  pub caller : List ℕ
  pub store : StoreOf Place
  pub globals : Named
  pub queues : QueuesOf

-- the values behind the references of a cell
abbrev pub cell_now : Cell → CellOf
cell_now cell = record {
  number = cell.number;
  place = cell.place.now;
  is_closing = cell.is_closing;
  caller = cell.caller.now;
  store = cell.store.now;
  globals = cell.globals.now;
  queues = cell.queues.now;
}

-- the references that may be written through still refer to what was borrowed, and to nothing else
pub record KeepsLoans (before after : Cell) : Type 0 where
  pub caller : after.caller.ghost_name ≡ before.caller.ghost_name
  pub store : after.store.ghost_name ≡ before.store.ghost_name
  pub globals : after.globals.ghost_name ≡ before.globals.ghost_name
  pub queues : after.queues.ghost_name ≡ before.queues.ghost_name
