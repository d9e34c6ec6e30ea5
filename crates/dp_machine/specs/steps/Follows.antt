-- The result of an event: the case that it is answered, and the case that memory runs out.
use Rattle.std.specs.Prelude.{◌≡◌, false, Option, Result, IfOk, OnErr}
use Rattle.std.specs.declared.alloc.AllocError.{AllocError as NoMemory}
use Rattle.dp_app.specs.Cells.{CellOf}
use Rattle.dp_app.specs.declared.moves.Move.{Move}
use Rattle.dp_machine.specs.Events.{Own, application_outcome, is_refused_at_once}
use Rattle.dp_machine.specs.World.{World}
use Rattle.dp_machine.specs.declared.channel.Channel.{Channel}
use Rattle.dp_machine.specs.declared.exchange.Exchange.{Exchange}
use Rattle.dp_machine.specs.declared.reply.Reply.{Reply}
use Rattle.dp_machine.specs.declared.shared_state.SharedState.{SharedState}

-- an exchange and a channel after an event with a known outcome: if it was answered they have it; if memory ran out they are as before, and
-- the event is not one that is refused at once; the dialplan stays
pub record Follows (own : Own) (before after : Exchange) (c d : Channel) (result : Result Reply NoMemory) : Type 0 where
  pub ok : IfOk result (λ reply. own ≡ record { channel = d; shared = after.shared; reply = reply })
  pub plan : after.plan ≡ before.plan
  pub channel : OnErr result (d ≡ c)
  pub shared : OnErr result (after.shared ≡ before.shared)
  pub refused : OnErr result (is_refused_at_once own.reply ≡ false)

-- what all channels share and a channel after an application with a known outcome: they have it; if memory ran out they are as before
pub record Runs (beyond : CellOf × Option Move) (before after : SharedState) (c d : Channel) (result : Result (Option Move) NoMemory) : Type 0 where
  pub ok : IfOk result (λ going. application_outcome c beyond ≡ record { channel = d; shared = after; going = going })
  pub channel : OnErr result (d ≡ c)
  pub shared : OnErr result (after ≡ before)

-- a world after an event with a known outcome: if it was answered it has that outcome; if memory ran out it is as before, and the event is
-- not one that is refused at once
pub record Makes (made : World × Reply) (before after : World) (result : Result Reply NoMemory) : Type 0 where
  pub ok : IfOk result (λ reply. made ≡ (after, reply))
  pub err : OnErr result (after ≡ before)
  pub refused : OnErr result (is_refused_at_once made.1 ≡ false)
