-- Replacement of a column: what comes back, for every call. Rests on Reply.antt, `pattern`, `listing`, `register` and `judge`.
use Rattle.std.specs.Prelude.{List, ◌≡◌, ℕ, length}
use Rattle.pattern.specs.Verdict.{spiked_columns, cleared_columns, Verdict, Singular, Permuted, Elimination, Judged}
use Rattle.listing.specs.Held.{over}
use Rattle.register.specs.Takes.{holding}
use Rattle.register.specs.Lent.{Lists}
use Rattle.judge.specs.Call.{Call, asked}
use Rattle.replace.specs.ReplaceChecks.{CallChecks}
use Rattle.replace.specs.Reply.{Reply, refused, singular, permuted, elimination}

-- What comes back: the reply, and the lent lists as they are then.
pub record Outcome : Type 0 where
  pub reply : Reply
  pub lists : Lists
  pub eta : List ℕ

abbrev pub outcome : Reply → Lists → List ℕ → Outcome
outcome r l eta = record { reply = r; lists = l; eta = eta }

module _ (a : Call) where
  -- The lists hold the columns `P` in both listings, and the order.
  abbrev pub stored : (P : List (List ℕ)) (rows cols : List ℕ) → Lists
  stored P rows cols = holding a.size P rows cols a.lists

  -- A refusal by its number changes nothing.
  abbrev pub refusal : ℕ → Outcome
  refusal n = outcome (refused n) a.lists a.eta

  -- What a verdict leaves. SINGULAR: nothing changes. PERMUTED: the spiked pattern in the verdict's order. ELIMINATION: the
  -- cleared pattern in the verdict's order, and the eta rows at the head of the eta list.
  abbrev pub after : Verdict → Outcome
  after Singular = outcome singular a.lists a.eta
  after (Permuted rows cols) = outcome permuted (stored (spiked_columns (asked a)) rows cols) a.eta
  after (Elimination rows cols bump eta) = outcome (elimination bump (length eta)) (stored (cleared_columns (asked a)) rows cols) (over eta a.eta)

  -- The right verdict is given, and its outcome.
  abbrev pub Answered : Outcome → Type 0
  Answered o = (v : Verdict) × Judged (asked a) v × (o ≡ after v)

  -- The outcome is right: the refusal of the first check that fails, else that of the right verdict.
  abbrev pub Replaces : Outcome → Type 0
  Replaces = CallChecks a refusal Answered
