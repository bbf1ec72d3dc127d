-- The build paper's specimen replacements s1 to s12 as whole calls: the lists as they are lent and as they come back, number by
-- number. Each list is longer than needed, and holds 9s past what the register uses. Rests on `register`, `judge` and `replace`.
use Rattle.std.specs.Prelude.{List, [], ◌∷◌, ℕ}
use Rattle.register.specs.Lent.{Lists, lists}
use Rattle.judge.specs.Call.{Call, call}
use Rattle.replace.specs.Replace.{Outcome, outcome}
use Rattle.replace.specs.Reply.{Reply, refused, singular, permuted, elimination}

-- A call, and what comes back.
pub record Case : Type 0 where
  pub call : Call
  pub outcome : Outcome

-- The eta list before each call.
abbrev pub nines : List ℕ
nines = 9 ∷ 9 ∷ 9 ∷ 9 ∷ []

-- New rows for column `c` of a register of size `m` in the lists `l`; the reply, and the lists and the eta list that come back.
abbrev pub turns : (m : ℕ) (l : Lists) (c : ℕ) (new : List ℕ) → Reply → Lists → List ℕ → Case
turns m l c new r l' eta = record { call = call m l c new nines; outcome = outcome r l' eta }

-- Nothing changes.
abbrev pub stays : (m : ℕ) (l : Lists) (c : ℕ) (new : List ℕ) → Reply → Case
stays m l c new r = turns m l c new r l nines

-- ---- The patterns in the order t:t

abbrev pub A : Lists
A =
    lists (0 ∷ 1 ∷ 3 ∷ 4 ∷ 9 ∷ []) (0 ∷ 0 ∷ 1 ∷ 2 ∷ 9 ∷ 9 ∷ [])
    (0 ∷ 2 ∷ 3 ∷ 4 ∷ 9 ∷ []) (0 ∷ 1 ∷ 1 ∷ 2 ∷ 9 ∷ 9 ∷ [])
    (0 ∷ 1 ∷ 2 ∷ 9 ∷ []) (0 ∷ 1 ∷ 2 ∷ 9 ∷ [])

abbrev pub B : Lists
B =
    lists (0 ∷ 1 ∷ 3 ∷ 5 ∷ 9 ∷ []) (0 ∷ 0 ∷ 1 ∷ 0 ∷ 2 ∷ 9 ∷ 9 ∷ [])
    (0 ∷ 3 ∷ 4 ∷ 5 ∷ 9 ∷ []) (0 ∷ 1 ∷ 2 ∷ 1 ∷ 2 ∷ 9 ∷ 9 ∷ [])
    (0 ∷ 1 ∷ 2 ∷ 9 ∷ []) (0 ∷ 1 ∷ 2 ∷ 9 ∷ [])

abbrev pub C : Lists
C =
    lists (0 ∷ 1 ∷ 3 ∷ 6 ∷ 9 ∷ []) (0 ∷ 0 ∷ 1 ∷ 0 ∷ 1 ∷ 2 ∷ 9 ∷ 9 ∷ [])
    (0 ∷ 3 ∷ 5 ∷ 6 ∷ 9 ∷ []) (0 ∷ 1 ∷ 2 ∷ 1 ∷ 2 ∷ 2 ∷ 9 ∷ 9 ∷ [])
    (0 ∷ 1 ∷ 2 ∷ 9 ∷ []) (0 ∷ 1 ∷ 2 ∷ 9 ∷ [])

abbrev pub D : Lists
D =
    lists (0 ∷ 1 ∷ 3 ∷ 5 ∷ 9 ∷ []) (0 ∷ 0 ∷ 1 ∷ 1 ∷ 2 ∷ 9 ∷ 9 ∷ [])
    (0 ∷ 2 ∷ 4 ∷ 5 ∷ 9 ∷ []) (0 ∷ 1 ∷ 1 ∷ 2 ∷ 2 ∷ 9 ∷ 9 ∷ [])
    (0 ∷ 1 ∷ 2 ∷ 9 ∷ []) (0 ∷ 1 ∷ 2 ∷ 9 ∷ [])

abbrev pub E : Lists
E =
    lists (0 ∷ 1 ∷ 9 ∷ []) (0 ∷ 9 ∷ 9 ∷ [])
    (0 ∷ 1 ∷ 9 ∷ []) (0 ∷ 9 ∷ 9 ∷ [])
    (0 ∷ 9 ∷ []) (0 ∷ 9 ∷ [])

-- ---- The replacements by the paper's names

abbrev pub s1 : Case
s1 = stays 1 E 0 (0 ∷ []) permuted

abbrev pub s2 : Case
s2 = stays 1 E 0 [] singular

abbrev pub s3 : Case
s3 = stays 3 A 0 (0 ∷ []) permuted

abbrev pub s4 : Case
s4 =
    turns 3 A 0 (0 ∷ 2 ∷ []) permuted
    (lists (0 ∷ 2 ∷ 4 ∷ 5 ∷ 9 ∷ []) (0 ∷ 2 ∷ 0 ∷ 1 ∷ 2 ∷ 9 ∷ [])
    (0 ∷ 2 ∷ 3 ∷ 5 ∷ 9 ∷ []) (0 ∷ 1 ∷ 1 ∷ 0 ∷ 2 ∷ 9 ∷ [])
    (2 ∷ 0 ∷ 1 ∷ 9 ∷ []) (2 ∷ 0 ∷ 1 ∷ 9 ∷ []))
    nines

abbrev pub s5 : Case
s5 =
    turns 3 A 0 (0 ∷ 1 ∷ []) (elimination 2 1)
    (lists (0 ∷ 2 ∷ 3 ∷ 4 ∷ 9 ∷ []) (0 ∷ 1 ∷ 1 ∷ 2 ∷ 9 ∷ 9 ∷ [])
    (0 ∷ 1 ∷ 3 ∷ 4 ∷ 9 ∷ []) (0 ∷ 0 ∷ 1 ∷ 2 ∷ 9 ∷ 9 ∷ [])
    (1 ∷ 2 ∷ 0 ∷ 9 ∷ []) (1 ∷ 2 ∷ 0 ∷ 9 ∷ []))
    (1 ∷ 9 ∷ 9 ∷ 9 ∷ [])

abbrev pub s6 : Case
s6 =
    turns 3 A 0 (1 ∷ []) permuted
    (lists (0 ∷ 1 ∷ 3 ∷ 4 ∷ 9 ∷ []) (1 ∷ 0 ∷ 1 ∷ 2 ∷ 9 ∷ 9 ∷ [])
    (0 ∷ 1 ∷ 3 ∷ 4 ∷ 9 ∷ []) (1 ∷ 0 ∷ 1 ∷ 2 ∷ 9 ∷ 9 ∷ [])
    (1 ∷ 0 ∷ 2 ∷ 9 ∷ []) (0 ∷ 1 ∷ 2 ∷ 9 ∷ []))
    nines

abbrev pub s7 : Case
s7 = stays 3 A 0 (2 ∷ []) singular

abbrev pub s8 : Case
s8 =
    turns 3 B 0 (1 ∷ 2 ∷ []) (elimination 3 2)
    (lists (0 ∷ 3 ∷ 4 ∷ 5 ∷ 9 ∷ []) (0 ∷ 1 ∷ 2 ∷ 1 ∷ 2 ∷ 9 ∷ 9 ∷ [])
    (0 ∷ 1 ∷ 3 ∷ 5 ∷ 9 ∷ []) (0 ∷ 0 ∷ 1 ∷ 0 ∷ 2 ∷ 9 ∷ 9 ∷ [])
    (1 ∷ 2 ∷ 0 ∷ 9 ∷ []) (1 ∷ 2 ∷ 0 ∷ 9 ∷ []))
    (1 ∷ 2 ∷ 9 ∷ 9 ∷ [])

abbrev pub s9 : Case
s9 =
    turns 3 C 0 (2 ∷ []) (elimination 3 2)
    (lists (0 ∷ 2 ∷ 3 ∷ 5 ∷ 9 ∷ []) (0 ∷ 2 ∷ 1 ∷ 1 ∷ 2 ∷ 2 ∷ 9 ∷ 9 ∷ [])
    (0 ∷ 1 ∷ 3 ∷ 5 ∷ 9 ∷ []) (0 ∷ 1 ∷ 2 ∷ 0 ∷ 2 ∷ 2 ∷ 9 ∷ 9 ∷ [])
    (1 ∷ 2 ∷ 0 ∷ 9 ∷ []) (1 ∷ 2 ∷ 0 ∷ 9 ∷ []))
    (1 ∷ 2 ∷ 9 ∷ 9 ∷ [])

abbrev pub s10 : Case
s10 =
    turns 3 D 0 (2 ∷ []) permuted
    (lists (0 ∷ 1 ∷ 3 ∷ 5 ∷ 9 ∷ []) (2 ∷ 0 ∷ 1 ∷ 1 ∷ 2 ∷ 9 ∷ 9 ∷ [])
    (0 ∷ 1 ∷ 3 ∷ 5 ∷ 9 ∷ []) (1 ∷ 1 ∷ 2 ∷ 0 ∷ 2 ∷ 9 ∷ 9 ∷ [])
    (2 ∷ 1 ∷ 0 ∷ 9 ∷ []) (0 ∷ 2 ∷ 1 ∷ 9 ∷ []))
    nines

abbrev pub s11 : Case
s11 = stays 3 A 0 (2 ∷ 0 ∷ []) (refused 7)

abbrev pub s12 : Case
s12 = stays 3 A 3 (2 ∷ 0 ∷ []) (refused 6)

abbrev pub table : List Case
table = s1 ∷ s2 ∷ s3 ∷ s4 ∷ s5 ∷ s6 ∷ s7 ∷ s8 ∷ s9 ∷ s10 ∷ s11 ∷ s12 ∷ []

-- ---- A second call

-- After s4, on the lists as they came back: column 1 loses row 0, and the order stays.
abbrev pub second : Case
second =
    turns 3 s4.outcome.lists 1 (1 ∷ []) permuted
    (lists (0 ∷ 2 ∷ 3 ∷ 4 ∷ 9 ∷ []) (0 ∷ 2 ∷ 1 ∷ 2 ∷ 2 ∷ 9 ∷ [])
    (0 ∷ 1 ∷ 2 ∷ 4 ∷ 9 ∷ []) (0 ∷ 1 ∷ 0 ∷ 2 ∷ 2 ∷ 9 ∷ [])
    (2 ∷ 0 ∷ 1 ∷ 9 ∷ []) (2 ∷ 0 ∷ 1 ∷ 9 ∷ []))
    nines
