-- What a call that feeds bytes to a run, and one that ends it, gives back. Rests on Tryout.antt, `pattern`, `listing`, `text`,
-- `register`, `replies` and `turns`.
use Rattle.std.specs.Prelude.{false, List, ◌≡◌, ℕ, ◌+◌, ◌≤◌, ◌<◌, length, take}
use Rattle.pattern.specs.Ladder.{Unless}
use Rattle.listing.specs.Held.{over}
use Rattle.listing.specs.Limits.{max_size, max_total}
use Rattle.text.specs.Text.{max_line, max_numbers, max_count}
use Rattle.register.specs.Takes.{Takes}
use Rattle.replies.specs.Replies.{max_reply}
use Rattle.turns.specs.Turns.{Lent, Run, After}
use Rattle.turns.specs.declared.State.{State}
use Rattle.turns.specs.declared.Turn.{Turn}
use Rattle.turns.specs.declared.Turn.TheVariants as turn
use Rattle.script.specs.Tryout.{has_ended, Fed, closing}

-- ---- Before a call

-- The wanted column is one of the register's, which is in the limits.
abbrev pub TurnRight : Turn → Type 0
TurnRight (turn.Column m c fits) = (c < m) × (m ≤ max_size)
TurnRight turn.Order = Unit {0}
TurnRight (turn.Put m) = Unit {0}
TurnRight turn.Ended = Unit {0}

-- Lists in which every tryout has room.
pub record Roomy (l : Lent) : Type 0 where
  pub register : Takes max_size max_total l.lists
  pub eta : max_size ≤ length l.eta
  pub numbers : max_numbers ≤ length l.numbers
  pub line : max_line ≤ length l.line

-- A run that can take so many bytes: its lists have room, no more than a line has been read, and the lines can be counted.
pub record Ready (r : Run) (n : ℕ) : Type 0 where
  pub roomy : Roomy r.lent
  pub turn_right : TurnRight r.state.turn
  pub line_short : r.state.used ≤ max_line
  pub countable : r.state.number + n ≤ max_count

-- ---- Bytes fed

-- The run has not ended, and there is room for a reply line behind what has been printed.
pub record GoesOn (room : ℕ) (a : After) : Type 0 where
  pub runs : has_ended a.run.state ≡ false
  pub fits : length a.said + max_reply ≤ room

-- So many bytes of the chunk were taken, with what came of them: each while the run went on, and no more where it did not.
pub record TakesBytes (r : Run) (chunk : List ℕ) (room taken : ℕ) (a : After) : Type 0 where
  pub within : taken ≤ length chunk
  pub fed : Fed r (take taken chunk) a
  pub on : (t : ℕ) → t < taken → (x : After) → Fed r (take t chunk) x → GoesOn room x
  pub stops : taken < length chunk → ¬ GoesOn room a

-- What comes back: how the run stands, how many bytes of the chunk were taken, and how many are at the head of the output list.
pub record FedOut : Type 0 where
  pub run : Run
  pub taken : ℕ
  pub written : ℕ
  pub out : List ℕ

abbrev pub fed_out : Run → (taken written : ℕ) (out : List ℕ) → FedOut
fed_out r t w out = record { run = r; taken = t; written = w; out = out }

-- A run that is not ready takes nothing, and nothing changes. Else what was printed stands at the head of the output list, which
-- beyond keeps what it held.
abbrev pub Feeds : Run → (chunk out : List ℕ) → FedOut → Type 0
Feeds r chunk out =
    Unless (Ready r (length chunk)) (fed_out r 0 0 out)
    (λ o. (a : After) × TakesBytes r chunk (length out) o.taken a × (o ≡ fed_out a.run o.taken (length a.said) (over a.said out)))

-- ---- The end of the input

-- The count of bytes, and the output list.
abbrev pub Finishes : State → (out : List ℕ) → ℕ × List ℕ → Type 0
Finishes s out =
    Unless (max_reply ≤ length out) (0, out)
    (λ o. o ≡ (length (closing s), over (closing s) out))
