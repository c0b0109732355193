-- What a host is answered that lends a fresh exchange to two calls and then to a line: "A host keeps one house and lends it to the call that takes a line".
use Rattle.std.specs.Prelude.{ℕ, List}
use Rattle.model.specs.declared.state.Exchange.{Exchange}
use Rattle.model.specs.declared.call.Call.{Call}
use Rattle.model.specs.State.{fresh_exchange}
use Rattle.model.specs.Run.{step_of}
use Rattle.replay.specs.declared.line.Taken.{Taken}
use Rattle.replay.specs.Lines.{taken_of}
use Rattle.host.specs.declared.Served.{Served}

abbrev pub state_after_call : Call → Exchange
state_after_call a = (step_of fresh_exchange a).exchange

-- the state that the line gets
abbrev pub state_after_calls : Call → Call → Exchange
state_after_calls a b = (step_of (state_after_call a) b).exchange

-- each call and the line in the state that the one before it left; room is the bytes lent for the answer line
unfoldable pub served_of : Call → Call → List ℕ → ℕ → Served
served_of a b line room =
    let t : Taken = taken_of (state_after_calls a b) 1 line room in
    record {
      first = (step_of fresh_exchange a).answer;
      second = (step_of (state_after_call a) b).answer;
      third = t.answered;
      exchange = t.exchange;
    }
