-- The build paper's specimen replacements s1 to s12, as one table. Rests on Reply.antt.
use Rattle.std.specs.Prelude.{List, [], ◌∷◌, ℕ, length}
use Rattle.pattern.specs.Series.{each}
use Rattle.pattern.specs.Verdict.{Replacement, Singular, Permuted, Elimination}
use Rattle.specimens.specs.Reply.{Reply, Refused, Given, Replied}

-- 0, 1 .. n - 1.
abbrev pub upto : ℕ → List ℕ
upto n = each (λ i. i) n

-- A specimen: what is asked, and the reply.
pub record Specimen : Type 0 where
  pub asked : Replacement
  pub reply : Reply

-- The new rows as column `c` of a pattern in the order t:t, and the reply.
abbrev pub specimen : List (List ℕ) → ℕ → List ℕ → Reply → Specimen
specimen P c new reply =
    record {
      asked = record { columns = P; order_rows = upto (length P); order_cols = upto (length P); replaced = c; new_rows = new };
      reply = reply;
    }

-- The rows of each column.
abbrev pub A : List (List ℕ)
A = (0 ∷ []) ∷ (0 ∷ 1 ∷ []) ∷ (2 ∷ []) ∷ []

abbrev pub B : List (List ℕ)
B = (0 ∷ []) ∷ (0 ∷ 1 ∷ []) ∷ (0 ∷ 2 ∷ []) ∷ []

abbrev pub C : List (List ℕ)
C = (0 ∷ []) ∷ (0 ∷ 1 ∷ []) ∷ (0 ∷ 1 ∷ 2 ∷ []) ∷ []

abbrev pub D : List (List ℕ)
D = (0 ∷ []) ∷ (0 ∷ 1 ∷ []) ∷ (1 ∷ 2 ∷ []) ∷ []

abbrev pub E : List (List ℕ)
E = (0 ∷ []) ∷ []

-- The replacements by the paper's names: the pattern, the column, its new rows, and the reply.
abbrev pub s1 : Specimen
s1 = specimen E 0 (0 ∷ []) (Given (Permuted (0 ∷ []) (0 ∷ [])))

abbrev pub s2 : Specimen
s2 = specimen E 0 [] (Given Singular)

abbrev pub s3 : Specimen
s3 = specimen A 0 (0 ∷ []) (Given (Permuted (0 ∷ 1 ∷ 2 ∷ []) (0 ∷ 1 ∷ 2 ∷ [])))

abbrev pub s4 : Specimen
s4 = specimen A 0 (0 ∷ 2 ∷ []) (Given (Permuted (2 ∷ 0 ∷ 1 ∷ []) (2 ∷ 0 ∷ 1 ∷ [])))

abbrev pub s5 : Specimen
s5 = specimen A 0 (0 ∷ 1 ∷ []) (Given (Elimination (1 ∷ 2 ∷ 0 ∷ []) (1 ∷ 2 ∷ 0 ∷ []) 2 (1 ∷ [])))

abbrev pub s6 : Specimen
s6 = specimen A 0 (1 ∷ []) (Given (Permuted (1 ∷ 0 ∷ 2 ∷ []) (0 ∷ 1 ∷ 2 ∷ [])))

abbrev pub s7 : Specimen
s7 = specimen A 0 (2 ∷ []) (Given Singular)

abbrev pub s8 : Specimen
s8 = specimen B 0 (1 ∷ 2 ∷ []) (Given (Elimination (1 ∷ 2 ∷ 0 ∷ []) (1 ∷ 2 ∷ 0 ∷ []) 3 (1 ∷ 2 ∷ [])))

abbrev pub s9 : Specimen
s9 = specimen C 0 (2 ∷ []) (Given (Elimination (1 ∷ 2 ∷ 0 ∷ []) (1 ∷ 2 ∷ 0 ∷ []) 3 (1 ∷ 2 ∷ [])))

abbrev pub s10 : Specimen
s10 = specimen D 0 (2 ∷ []) (Given (Permuted (2 ∷ 1 ∷ 0 ∷ []) (0 ∷ 2 ∷ 1 ∷ [])))

abbrev pub s11 : Specimen
s11 = specimen A 0 (2 ∷ 0 ∷ []) (Refused 7)

abbrev pub s12 : Specimen
s12 = specimen A 3 (2 ∷ 0 ∷ []) (Refused 6)

abbrev pub table : List Specimen
table = s1 ∷ s2 ∷ s3 ∷ s4 ∷ s5 ∷ s6 ∷ s7 ∷ s8 ∷ s9 ∷ s10 ∷ s11 ∷ s12 ∷ []

-- The specimen's reply is right.
abbrev pub Right : Specimen → Type 0
Right s = Replied s.asked s.reply

-- What holds of each row of a table.
abbrev pub Each : {A : Type 0} → (A → Type 0) → List A → Type 0
Each Holds [] = Unit {0}
Each Holds (s ∷ l) = Holds s × Each Holds l
