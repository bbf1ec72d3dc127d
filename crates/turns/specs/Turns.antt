-- A run of the tryout, and what each line does to it in its turn. Rests on `pattern`, `listing`, `text`, `register`, `judge`,
-- `replace` and `replies`.
use Rattle.std.specs.Prelude.{Bool, true, false, cond, ◌&&◌, List, [], ◌∷◌, ◌≡◌, ℕ, ◌+◌, eqb, leb, length, take, set}
use Rattle.pattern.specs.Ladder.{Unless}
use Rattle.pattern.specs.Places.{at}
use Rattle.listing.specs.Held.{over, put}
use Rattle.listing.specs.Limits.{Sized, max_total}
use Rattle.text.specs.Text.{Speaks}
use Rattle.register.specs.Lent.{Lists, lists}
use Rattle.register.specs.Start.{Started, StartsWith}
use Rattle.judge.specs.Call.{call}
use Rattle.replace.specs.Replace.{Outcome, Replaces}
use Rattle.replies.specs.Replies.{bad_line, start_refused, put_reply, put_word}
use Rattle.turns.specs.declared.State.{State}
use Rattle.turns.specs.declared.Turn.{Turn}
use Rattle.turns.specs.declared.Turn.TheVariants as turn

-- ---- Words: 'order', 'col'

unfoldable pub order_word : List ℕ
order_word = 111 ∷ 114 ∷ 100 ∷ 101 ∷ 114 ∷ []

unfoldable pub col_word : List ℕ
col_word = 99 ∷ 111 ∷ 108 ∷ []

-- ---- How a run stands

-- The lists that a run works in: the register's six, the eta list, the numbers of the last line that was taken, and the bytes
-- of the line that is being read.
pub record Lent : Type 0 where
  pub lists : Lists
  pub eta : List ℕ
  pub numbers : List ℕ
  pub line : List ℕ

abbrev pub lent : (lists : Lists) (eta numbers line : List ℕ) → Lent
lent l e n b = record { lists = l; eta = e; numbers = n; line = b }

-- A run: which line is wanted, the number of the line that is being read and how many bytes of it there are; and the lists.
pub record Run : Type 0 where
  pub state : State
  pub lent : Lent

abbrev pub state : Turn → (number used : ℕ) → State
state t k n = record { turn = t; number = k; used = n }

abbrev pub run : State → Lent → Run
run s l = record { state = s; lent = l }

-- What comes of bytes: the run as it stands then, and what was printed.
pub record After : Type 0 where
  pub run : Run
  pub said : List ℕ

abbrev pub after : Run → List ℕ → After
after r said = record { run = r; said = said }

-- At the beginning 'order m' is wanted, as line 1.
abbrev pub begun : State
begun = state turn.Order 1 0

module _ (r : Run) where
  -- The bytes of the line so far.
  abbrev pub line_so_far : List ℕ
  line_so_far = take r.state.used r.lent.line

  -- The next line begins, in another turn and with the lists changed.
  abbrev pub next_line : Turn → Lent → List ℕ → After
  next_line t l said = after (run (state t (r.state.number + 1) 0) l) said

  -- The run ends, with a reply line.
  abbrev pub ends : Lent → List ℕ → After
  ends l said = after (run (state turn.Ended r.state.number r.state.used) l) said

  -- 'bad line k' ends it.
  abbrev pub bad : After
  bad = ends r.lent (bad_line r.state.number)

-- ---- Lines in their turn

-- The line that was read is the word with the numbers of some `x`, and what it then does; any other line is bad.
pub data InTurn {A : Type 0} (word : List ℕ) (numbers : A → List ℕ) (Does : A → After → Type 0) (r : Run) (a : After) : Type 0 where
  taken : (x : A) → Speaks (line_so_far r) word (numbers x) → Does x a → InTurn word numbers Does r a
  other : ((x : A) → ¬ Speaks (line_so_far r) word (numbers x)) → a ≡ bad r → InTurn word numbers Does r a

-- 'order m': a size out of limits is refused with 1. The first start is 0, and 'col 0' is wanted.
abbrev pub OrderDoes : Run → ℕ → After → Type 0
OrderDoes r m =
    let l = r.lent.lists in
    Unless (Sized m) (ends r r.lent (start_refused 1))
    (λ a. a ≡ next_line r (turn.Column m 0 true)
    (lent (lists (set l.col_starts 0 0) l.col_rows l.row_starts l.row_cols l.order_rows l.order_cols) r.lent.eta r.lent.numbers r.lent.line) [])

-- Whether the rows of column `c` still fit: all before them did, and with them there are at most 12,000.
abbrev pub still_fits : Lists → (c : ℕ) (rows : List ℕ) → Bool → Bool
still_fits l c rows fits = fits && leb (at l.col_starts c + length rows) max_total

-- Column `c` goes behind those before it, where it fits.
abbrev pub with_column : Lists → (c : ℕ) (rows : List ℕ) (fits : Bool) → Lists
with_column l c rows true =
    lists (set l.col_starts (c + 1) (at l.col_starts c + length rows)) (put (at l.col_starts c) rows l.col_rows) l.row_starts l.row_cols
    l.order_rows l.order_cols
with_column l c rows false = l

-- The lists with the numbers of the line, and the register's changed.
abbrev pub with_numbers : Lent → List ℕ → Lists → (eta : List ℕ) → Lent
with_numbers l new lists eta = lent lists eta (over new l.numbers) l.line

-- After the last 'col': the start is refused with 3 where the columns did not fit, else by the register; where it is not refused,
-- 'put' is wanted.
abbrev pub started_run : Run → (m : ℕ) (numbers : List ℕ) → Started → After
started_run r m numbers o =
    let new = with_numbers r.lent numbers o.lists r.lent.eta in
    cond (eqb o.fault 0) (next_line r (turn.Put m) new []) (ends r new (start_refused o.fault))

abbrev pub StartDoes : Run → (m : ℕ) (numbers : List ℕ) → Lists → (fits : Bool) → After → Type 0
StartDoes r m numbers l false a = a ≡ ends r (with_numbers r.lent numbers l r.lent.eta) (start_refused 3)
StartDoes r m numbers l true a = (o : Started) × StartsWith m l o × (a ≡ started_run r m numbers o)

-- 'col c rows' in its turn, at the last column or before it.
abbrev pub ColEnds : (last : Bool) → Run → (m c : ℕ) (rows : List ℕ) → Lists → (fits : Bool) → After → Type 0
ColEnds true r m c rows l fits a = StartDoes r m (c ∷ rows) l fits a
ColEnds false r m c rows l fits a = a ≡ next_line r (turn.Column m (c + 1) fits) (with_numbers r.lent (c ∷ rows) l r.lent.eta) []

abbrev pub ColDoes : Run → (m c : ℕ) (fits : Bool) (rows : List ℕ) → After → Type 0
ColDoes r m c fits rows =
    let now_fits = still_fits r.lent.lists c rows fits in
    ColEnds (leb m (c + 1)) r m c rows (with_column r.lent.lists c rows now_fits) now_fits

-- 'put c rows': the replacement is made, and its reply printed.
abbrev pub PutDoes : Run → (m : ℕ) → ℕ × List ℕ → After → Type 0
PutDoes r m x a =
    (o : Outcome)
    × Replaces (call m r.lent.lists x.0 x.1 r.lent.eta) o
    × (a ≡ next_line r (turn.Put m) (with_numbers r.lent (x.0 ∷ x.1) o.lists o.eta) (put_reply m x.0 o))

-- A whole line, by what is wanted.
abbrev pub LineDoes : Turn → Run → After → Type 0
LineDoes turn.Order r a = InTurn order_word (λ m. m ∷ []) (OrderDoes r) r a
LineDoes (turn.Column m c fits) r a = InTurn col_word (λ rows. c ∷ rows) (ColDoes r m c fits) r a
LineDoes (turn.Put m) r a = InTurn {A = ℕ × List ℕ} put_word (λ x. x.0 ∷ x.1) (PutDoes r m) r a
LineDoes turn.Ended r a = a ≡ after r []
