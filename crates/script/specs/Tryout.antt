-- The tryout, from the bytes read to the bytes written. Rests on `turns`, `replies` and `text`.
use Rattle.std.specs.Prelude.{Bool, true, false, List, [], ◌∷◌, ◌++◌, ◌≡◌, ℕ, zero, suc, ◌+◌, eqb, set}
use Rattle.text.specs.Text.{LF, max_line}
use Rattle.replies.specs.Replies.{bad_line}
use Rattle.turns.specs.declared.State.{State}
use Rattle.turns.specs.declared.Turn.{Turn}
use Rattle.turns.specs.declared.Turn.TheVariants as turn
use Rattle.turns.specs.Turns.{Lent, lent, Run, state, run, After, after, begun, bad, LineDoes}

-- ---- Bytes

-- The run has ended: nothing more is read.
abbrev pub is_last : Turn → Bool
is_last turn.Order = false
is_last (turn.Column m c fits) = false
is_last (turn.Put m) = false
is_last turn.Ended = true

abbrev pub has_ended : State → Bool
has_ended s = is_last s.turn

-- One byte more of the line.
abbrev pub longer : Run → ℕ → Run
longer r b =
    run (state r.state.turn r.state.number (r.state.used + 1))
    (lent r.lent.lists r.lent.eta r.lent.numbers (set r.lent.line r.state.used b))

-- A byte: an LF ends the line, and any other joins it, where there are no 8,000 yet.
abbrev pub ByteDoes : (ended lf full : Bool) → Run → ℕ → After → Type 0
ByteDoes true lf full r b a = a ≡ after r []
ByteDoes false true full r b a = LineDoes r.state.turn r a
ByteDoes false false true r b a = a ≡ bad r
ByteDoes false false false r b a = a ≡ after (longer r b) []

abbrev pub Byte : Run → ℕ → After → Type 0
Byte r b = ByteDoes (has_ended r.state) (eqb b LF) (eqb r.state.used max_line) r b

-- Bytes, one after another.
unfoldable pub Fed : Run → List ℕ → After → Type 0
Fed r [] a = a ≡ after r []
Fed r (b ∷ bytes) a = (x : After) × Byte r b x × (y : After) × Fed x.run bytes y × (a ≡ after y.run (x.said ++ y.said))

-- ---- The whole

-- The end of the input is a bad line, but where 'put' is wanted and nothing of it has been read, and where the run has ended.
abbrev pub closing_at : Turn → (number used : ℕ) → List ℕ
closing_at turn.Order k n = bad_line k
closing_at (turn.Column m c fits) k n = bad_line k
closing_at (turn.Put m) k zero = []
closing_at (turn.Put m) k (suc n) = bad_line k
closing_at turn.Ended k n = []

abbrev pub closing : State → List ℕ
closing s = closing_at s.turn s.number s.used

-- From the bytes read to the bytes written, in these lists.
abbrev pub Tryout : Lent → (input output : List ℕ) → Type 0
Tryout l input output = (a : After) × Fed (run begun l) input a × (output ≡ a.said ++ closing a.run.state)
