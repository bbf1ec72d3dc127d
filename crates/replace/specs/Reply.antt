-- What a replacement replies, in the paper's words. Rests on `register` and `judge`.
use Rattle.std.specs.Prelude.{ℕ, Result, Ok, Err}
use Rattle.register.specs.declared.Refusal.{Refusal}
use Rattle.register.specs.Reply.{number}
use Rattle.judge.specs.declared.Judgment.{Judgment}
use Rattle.judge.specs.declared.Judgment.TheVariants.{Singular, Permuted, Elimination}

-- The answer in the paper's words: a refusal by its number, or one of the three verdicts.
pub data Answer : Type 0 where
  REFUSED : (number : ℕ) → Answer
  SINGULAR : Answer
  PERMUTED : Answer
  ELIMINATION : Answer

-- The answer, the bump and the eta count.
pub record Reply : Type 0 where
  pub answer : Answer
  pub bump : ℕ
  pub eta_count : ℕ

-- Bump and eta count are 0 but in ELIMINATION.
abbrev pub refused : ℕ → Reply
refused n = record { answer = REFUSED n; bump = 0; eta_count = 0 }

abbrev pub singular : Reply
singular = record { answer = SINGULAR; bump = 0; eta_count = 0 }

abbrev pub permuted : Reply
permuted = record { answer = PERMUTED; bump = 0; eta_count = 0 }

abbrev pub elimination : (bump eta_count : ℕ) → Reply
elimination bump eta_count = record { answer = ELIMINATION; bump = bump; eta_count = eta_count }

-- What each case of a judgment, and of a replacement's reply, says.
abbrev pub said : Judgment → Reply
said Singular = singular
said Permuted = permuted
said (Elimination bump eta_count) = elimination bump eta_count

abbrev pub reply : Result Judgment Refusal → Reply
reply (Err r) = refused (number r)
reply (Ok j) = said j
