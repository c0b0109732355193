-- Lists of calls from the fresh state, and what the definitions give for them: the answers, readings of the state, and the numbers of a whole
-- run. The computed examples are written with these.
use Rattle.std.specs.Prelude.{ℕ, suc, ◌+◌, Bool, List, [], ◌∷◌, Ok, Err}
use Rattle.units.specs.Sums.{sum_over}
use Rattle.pricing.specs.declared.Side.{Side}
use Rattle.pricing.specs.Prices.{share_paid, share_got}
use Rattle.model.specs.declared.state.Exchange.{Exchange}
use Rattle.model.specs.declared.call.Call.{Call}
use Rattle.model.specs.State.{balance, supply, residue, phase, is_closed, fresh_exchange}
use Rattle.model.specs.Answers.{Answer, refusal_code}
use Rattle.model.specs.Run.{step_of}
use Rattle.model.specs.Submissions.{Submission, single, model_engine, events_of, state_after}
use Rattle.model.specs.History.{RoundLog, log_of, T, P, G, History, history_of}
use Rattle.model.specs.WholeRun.{balances, resting, in_rounds, put_by}

-- ---- answers and readings

-- a line of a script: a call with its answer, or a number read off the state between two calls
pub data Line : Type 0 where
  accepted : (call : Call) (first second : ℕ) → Line
  refused : (call : Call) (code : ℕ) → Line
  balance_is : (member token n : ℕ) → Line
  supply_is : (token n : ℕ) → Line
  residue_is : (token n : ℕ) → Line
  closed_is : (market : ℕ) (closed : Bool) → Line

abbrev pub line_of : Call → Answer → Line
line_of c (Ok (a, b)) = accepted c a b
line_of c (Err r) = refused c (refusal_code r)

-- the same calls and readings, with the numbers that the definitions give, from a state on
unfoldable pub worked : Exchange → List Line → List Line
worked x [] = []
worked x (accepted c a b ∷ ls) = line_of c (step_of x c).answer ∷ worked (step_of x c).exchange ls
worked x (refused c n ∷ ls) = line_of c (step_of x c).answer ∷ worked (step_of x c).exchange ls
worked x (balance_is m t n ∷ ls) = balance_is m t (balance x m t) ∷ worked x ls
worked x (supply_is t n ∷ ls) = supply_is t (supply x t) ∷ worked x ls
worked x (residue_is t n ∷ ls) = residue_is t (residue x t) ∷ worked x ls
worked x (closed_is m b ∷ ls) = closed_is m (is_closed (phase x m)) ∷ worked x ls

unfoldable pub calls_of : List Line → List Call
calls_of [] = []
calls_of (accepted c a b ∷ ls) = c ∷ calls_of ls
calls_of (refused c n ∷ ls) = c ∷ calls_of ls
calls_of (balance_is m t n ∷ ls) = calls_of ls
calls_of (supply_is t n ∷ ls) = calls_of ls
calls_of (residue_is t n ∷ ls) = calls_of ls
calls_of (closed_is m b ∷ ls) = calls_of ls

-- ---- requests

-- calls as requests on lines n, n + 1, .., each with the same room
unfoldable pub requests_from : ℕ → ℕ → List Call → List Submission
requests_from n room [] = []
requests_from n room (c ∷ cs) = single (record { line = n; room = room; call = c }) ∷ requests_from (suc n) room cs

-- from line 1 on, with room for every answer line
abbrev pub requests : List Call → List Submission
requests cs = requests_from 1 80 cs

abbrev pub history_after : List Call → History
history_after cs = history_of (events_of model_engine fresh_exchange (requests cs))

-- a market's round worked from history, and what a ticket with offer o on a side of it pays and gets
abbrev pub log_after : List Call → ℕ → RoundLog
log_after cs market = log_of ((history_after cs).rounds market)

abbrev pub share_from : RoundLog → Side → ℕ → ℕ × ℕ
share_from b side o = (share_paid o (P b side) (T b side), share_got o (G b side) (T b side))

-- ---- the numbers of a whole run

-- of one token after a list of calls: balances, resting offers, what rounds hold, residue, withdrawals and deposits; and what the rounds that
-- ended put into the residue
pub record Accounts : Type 0 where
  pub calls : List Call
  pub token : ℕ
  pub balances : ℕ
  pub resting : ℕ
  pub rounds : ℕ
  pub residue : ℕ
  pub withdrawn : ℕ
  pub deposited : ℕ
  pub put : ℕ

abbrev pub accounts : List Call → (token balances resting rounds residue withdrawn deposited : ℕ) → Accounts
accounts cs t b o r n w d =
    record { calls = cs; token = t; balances = b; resting = o; rounds = r; residue = n; withdrawn = w; deposited = d; put = n }

abbrev pub accounts_as : List Call → ℕ → Exchange → History → Accounts
accounts_as cs t x y =
    record {
      calls = cs;
      token = t;
      balances = balances x t;
      resting = resting x t;
      rounds = in_rounds y t;
      residue = residue x t;
      withdrawn = y.withdrawn t;
      deposited = y.deposited t;
      put = sum_over (put_by t) y.ended;
    }

unfoldable pub worked_accounts : Accounts → Accounts
worked_accounts a = accounts_as a.calls a.token (state_after model_engine fresh_exchange (requests a.calls)) (history_after a.calls)

-- the two sides of the whole run's sum
unfoldable pub summed : Accounts → ℕ
summed a = a.balances + a.resting + a.rounds + a.residue + a.withdrawn

unfoldable pub deposits_in : Accounts → ℕ
deposits_in a = a.deposited

-- of one member and token after a list of calls: the balance, what calls brought to it and what they took from it
pub record MemberAccount : Type 0 where
  pub calls : List Call
  pub member : ℕ
  pub token : ℕ
  pub balance : ℕ
  pub credits : ℕ
  pub debits : ℕ

abbrev pub member_account : List Call → (member token balance credits debits : ℕ) → MemberAccount
member_account cs m t b c d = record { calls = cs; member = m; token = t; balance = b; credits = c; debits = d }

abbrev pub member_account_as : List Call → ℕ → ℕ → Exchange → History → MemberAccount
member_account_as cs m t x y = member_account cs m t (balance x m t) (y.credits m t) (y.debits m t)

unfoldable pub worked_member : MemberAccount → MemberAccount
worked_member a =
    member_account_as a.calls a.member a.token (state_after model_engine fresh_exchange (requests a.calls))
    (history_after a.calls)
