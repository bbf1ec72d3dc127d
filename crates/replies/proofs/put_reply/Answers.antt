-- `put_reply`: 'put', the column, and the answer in its two cases.
use mathlib.Core.List.{List, [], ◌∷◌, ◌++◌}
use mathlib.Core.Path.{subst}
use Prim.Native.Nat.{ℕ, ◌≤◌}
use native.Mathlib.Omega.{arith}
use lib.ListN.{length}
use Rattle.text.specs.Prints.{HasRoom, Prints}
use Rattle.text.specs.Text.{spaced}
use Rattle.text.proofs.Printing.{prints_both}
use Rattle.replace.specs.Reply.{reply}
use Rattle.replies.specs.Replies.{refused_word, put_word}
use Rattle.replies.specs.Shown.{max_answer, Printable}
use Rattle.replies.proofs.Lengths.{numbered_few, opening_few}
use Rattle.replies.proofs.put_reply.Goals as goal
use Rattle.replies.proofs.put_reply.Goals.{After-spaced}

-- 'put' and the column are printed.
module _ (p : After-spaced) where
  abbrev opening : List ℕ
  opening = put_word ++ spaced (p.args.column ∷ [])

  opened : Prints opening p.args.out.now p.spaced.new.self
  unfolding put_word
  opened = prints_both (omega (arith, p.requires.2)) p.word.ensures p.spaced.ensures

  room : HasRoom max_answer p.spaced.new.self
  room =
      let few : length opening ≤ 9 = opening_few p.args.column p.requires.0 in
      omega (arith, few, p.requires.2, opened.puts.after, opened.as_long)

pub spaced-requires : goal.spaced-requires
unfolding put_word
spaced-requires c =
    omega
    (arith, c.requires.2, opening_few c.args.column c.requires.0, c.word.ensures.puts.after, c.word.ensures.as_long)

pub put_numbered-requires : goal.put_numbered-requires
unfolding refused_word
put_numbered-requires c =
    let n = c.number in
    omega (arith, room (goal.at.put_numbered-requires c).After-spaced, numbered_few refused_word n.result (omega (arith, n.type_inv)))

pub put_judgment-requires : goal.put_judgment-requires
put_judgment-requires c =
    (subst (λ x. Printable c.args.m (reply x) c.args.rows.now c.args.cols.now c.args.eta.now) c.in-Ok.is c.requires.1, room (goal.at.put_judgment-requires c).After-spaced)

pub returns-in-Err : goal.returns-in-Err
unfolding put_word refused_word
returns-in-Err c =
    rw c.in-Err.is (prints_both (omega (arith, c.requires.2)) (opened (goal.at.returns-in-Err c).After-spaced) (rw c.number.ensures at c.put_numbered.ensures))

pub returns-in-Ok : goal.returns-in-Ok
unfolding put_word
returns-in-Ok c =
    rw c.in-Ok.is (prints_both (omega (arith, c.requires.2)) (opened (goal.at.returns-in-Ok c).After-spaced) c.put_judgment.ensures)
