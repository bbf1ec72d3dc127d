-- What a replacement is to be replied, the refusals 6 and 7 included: the one statement of the table. Rests on `pattern`.
use Rattle.std.specs.Prelude.{◌≡◌, ℕ, ◌<◌}
use Rattle.pattern.specs.Ladder.{Unless}
use Rattle.pattern.specs.Rising.{Rising}
use Rattle.pattern.specs.Verdict.{Replacement, size, Verdict, Judged}

-- A refusal by its number, or a verdict.
pub data Reply : Type 0 where
  Refused : (number : ℕ) → Reply
  Given : (verdict : Verdict) → Reply

-- The reply is right: 6 where the column number is the size or more, else 7 where a new row is or the new rows do not strictly
-- rise, else the verdict.
abbrev pub Replied : Replacement → Reply → Type 0
Replied a =
    Unless (a.replaced < size a) (Refused 6)
    (Unless (Rising (size a) a.new_rows) (Refused 7)
    (λ r. (v : Verdict) × (r ≡ Given v) × Judged a v))
