-- What may be printed of a reply, for the contracts of the steps of `replies`. Rests on `listing` and `replace`.
use Rattle.std.specs.Prelude.{List, ℕ, ◌≤◌, length}
use Rattle.listing.specs.Limits.{max_size}
use Rattle.replace.specs.Reply.{Answer, REFUSED, SINGULAR, PERMUTED, ELIMINATION, Reply}

-- A verdict's word, and all that follows 'put' and the column, have no more bytes.
abbrev pub max_word : ℕ
max_word = 12

abbrev pub max_answer : ℕ
max_answer = 19000

-- The order of a size in the limits stands in its lists, and so do the eta rows, of which there are no more.
pub record Stands (m eta_count : ℕ) (rows cols eta : List ℕ) : Type 0 where
  pub small : m ≤ max_size
  pub in_rows : m ≤ length rows
  pub in_cols : m ≤ length cols
  pub few : eta_count ≤ max_size
  pub in_eta : eta_count ≤ length eta

-- A refusal shows nothing of the lists.
abbrev pub Shown : Answer → (m eta_count : ℕ) (rows cols eta : List ℕ) → Type 0
Shown (REFUSED n) m k rows cols eta = Unit {0}
Shown SINGULAR m k rows cols eta = Stands m k rows cols eta
Shown PERMUTED m k rows cols eta = Stands m k rows cols eta
Shown ELIMINATION m k rows cols eta = Stands m k rows cols eta

abbrev pub Printable : (m : ℕ) → Reply → (rows cols eta : List ℕ) → Type 0
Printable m r = Shown r.answer m r.eta_count
