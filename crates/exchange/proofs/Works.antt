-- A call's work is its step: what the calls by their work go by.
use Rattle.std.proofs.Common.{◌≡◌, ℕ, ◌<◌, sym, ap, subst, ◌∙◌, Ok, Err, Result, IfOk}
use Rattle.model.specs.declared.state.Exchange.{Exchange}
use Rattle.model.specs.declared.call.Call.{Call}
use Rattle.model.specs.declared.answer.Outcome.{Outcome}
use Rattle.model.specs.declared.answer.Refusal.{Refusal}
use Rattle.model.specs.Calls.{refuse}
use Rattle.model.specs.Run.{Reachable, step_of}
use Rattle.model.specs.State.{ticket}
use Rattle.model.proofs.ReachBounds.{reachable_bounded}
use Rattle.parts.specs.Parts.{ticket_market, ticket_member}
use Rattle.parts.proofs.PartBounds.{ticket_places}
use Rattle.work.specs.declared.Work.{Work}
use Rattle.work.specs.Work.{work_of, work_done, PlacesExist}
use Rattle.work.proofs.Laws.{step_work, places_exist}

-- the places that a call's work names
pub work_places : (c : Call) (r : Result Work Refusal) → r ≡ work_of c → (v : Work) → r ≡ Ok v → (w : Work) → v ≡ w → PlacesExist w
work_places c r e v ok w is = subst (λ (s : Result Work Refusal). IfOk s PlacesExist) (sym e ∙ ok ∙ ap Ok is) (places_exist c)

-- its work done
pub work_step : (x : Exchange) → Reachable x → (c : Call) (r : Result Work Refusal) → r ≡ work_of c → (v : Work) → r ≡ Ok v → (w : Work) → v ≡ w
    → (out : Outcome) → out ≡ work_done x (Ok w) → out ≡ step_of x c
work_step x h c r e v ok w is out done = done ∙ ap (work_done x) (sym (sym e ∙ ok ∙ ap Ok is)) ∙ sym (step_work x h c)

-- a bad form
pub no_work_step : (x : Exchange) → Reachable x → (c : Call) (why : Refusal) → work_of c ≡ Err why → refuse x why ≡ step_of x c
no_work_step x h c why e = ap (work_done x) (sym e) ∙ sym (step_work x h c)

-- the market and the member that a ticket names
pub ticket_in : (x : Exchange) → Reachable x → (k : ℕ) → k < 64
    → (0 < ticket_market (ticket x k)) × (ticket_market (ticket x k) < 4) × (ticket_member (ticket x k) < 16)
ticket_in x h k inside = ticket_places x (reachable_bounded x h) k inside
