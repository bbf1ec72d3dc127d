-- `put_judgment`: the verdict's word and fields, in each of the three cases.
use Rattle.replies.specs.Replies.{singular_word, permuted_word, elimination_word}
use Rattle.replies.proofs.put_judgment.Goals as goal

pub returns-in-Singular : goal.returns-in-Singular
unfolding singular_word
returns-in-Singular c =
    rw c.in-Singular.is c.put_verdict.ensures

pub returns-in-Permuted : goal.returns-in-Permuted
unfolding permuted_word
returns-in-Permuted c =
    rw c.in-Permuted.is c.put_verdict-in-Permuted.ensures

pub returns-in-Elimination : goal.returns-in-Elimination
unfolding elimination_word
returns-in-Elimination c =
    rw c.in-Elimination.is c.put_verdict-in-Elimination.ensures
