-- `hear`: the bytes before this one are read; the first number that has begun is known.
use mathlib.Core.List.{◌++◌}
use mathlib.Core.Path.{◌≡◌, ap}
use native.Mathlib.Omega.{arith}
use Rattle.std.proofs.lemmas.Bool.Decides.{Decides-eqb}
use Rattle.std.proofs.lemmas.Slice.Eq.{strip_prefix_is}
use Rattle.std.specs.Prelude.{Some, None}
use Rattle.text.specs.Spelling.{passed}
use Rattle.text.specs.Text.{spaced}
use Rattle.text.proofs.Hearing.{hearing_none, hearing_few, hearing_more, hearing_stops, heard_word, heard_gap, heard_inside}
use Rattle.text.proofs.lines.hear.Goals as goal
use Rattle.text.proofs.lines.hear.Goals.{In_ok-rest}

-- The line is the word and the rest.
split : (c : In_ok-rest) → c.args.line.now ≡ c.args.word.now ++ c.in_ok-rest.rest.now
split c =
    strip_prefix_is Decides-eqb c.args.line.now c.args.word.now (Some c.in_ok-rest.rest) c.in_ok-rest.ensures.cases

pub returns-in_err-rest : goal.returns-in_err-rest
returns-in_err-rest c =
    rw c.from_residual.ensures
    (λ p. strip_prefix_is Decides-eqb c.args.line.now c.args.word.now None c.in_err-rest.ensures.cases (spaced p.0) p.1.is)

pub loop-byte-init : goal.loop-byte-init
loop-byte-init c = hearing_none

pub read_byte-requires : goal.read_byte-requires
read_byte-requires c = omega (arith, hearing_few c.loop-byte.invariant (omega arith))

pub returns-in_err-at : goal.returns-in_err-at
returns-in_err-at c =
    rw c.from_residual-in_err-at.ensures
    (hearing_stops c.loop-byte.invariant (split (goal.at.returns-in_err-at c).In_ok-rest) c.loop-byte-test.true c.in_err-at.ensures)

pub loop-byte-preserved : goal.loop-byte-preserved
loop-byte-preserved c = hearing_more c.loop-byte.invariant c.loop-byte-test.true c.in_ok-at.ensures c.lead-first.ensures

pub overflow_add-result : goal.overflow_add-result
overflow_add-result c = omega (arith, hearing_few c.loop-byte.invariant (omega arith), ap passed c.in-Inside.is)

pub returns-in-Word : goal.returns-in-Word
returns-in-Word c =
    heard_word c.loop-byte.invariant (split (goal.at.returns-in-Word c).In_ok-rest) c.loop-byte-test.false c.in-Word.is

pub returns-in-Gap : goal.returns-in-Gap
returns-in-Gap c =
    heard_gap c.loop-byte.invariant (split (goal.at.returns-in-Gap c).In_ok-rest) c.loop-byte-test.false c.in-Gap.is

pub returns-in-Inside : goal.returns-in-Inside
returns-in-Inside c =
    heard_inside c.loop-byte.invariant (split (goal.at.returns-in-Inside c).In_ok-rest) c.loop-byte-test.false c.in-Inside.is
