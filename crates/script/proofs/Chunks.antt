-- It does not matter in what chunks the bytes of a text come, nor how much room there is for what they print. Rests on Feeding.antt.
use mathlib.Core.Bool.{true}
use mathlib.Core.List.{List, [], ◌++◌, append-nil}
use mathlib.Core.Path.{◌≡◌, refl, sym, ap, ◌∙◌}
use Prim.Native.Nat.{ℕ}
use lib.ListN.{take}
use Rattle.turns.specs.Turns.{Lent, Run, run, begun, After, after}
use Rattle.script.specs.Feed.{TakesBytes}
use Rattle.script.specs.Tryout.{has_ended, Fed, closing, Tryout}
use Rattle.script.proofs.Feeding.{fed_none, fed_both, fed_one, fed_ended}

-- Calls one after another, each with any chunk and any room: the bytes that were taken, and what was printed.
pub data Calls : Run → (bytes : List ℕ) → After → Type 0 where
  none : {r : Run} → Calls r [] (after r [])
  call : {r : Run} {bytes : List ℕ} {b : After} (chunk : List ℕ) (room taken : ℕ) (a : After) → TakesBytes r chunk room taken a → Calls a.run bytes b
      → Calls r (take taken chunk ++ bytes) (after b.run (a.said ++ b.said))

-- They make of a run what the bytes make of it, fed one after another.
pub calls_fed : {r : Run} {bytes : List ℕ} {a : After} → Calls r bytes a → Fed r bytes a
calls_fed {r} none = fed_none r
calls_fed {r} (call {bytes = bytes} {b = b} chunk room taken a t c) = fed_both (take taken chunk) bytes r a b t.fed (calls_fed c)

-- So two ways to cut the same bytes come to the same.
pub chunks_alike : {r : Run} {bytes : List ℕ} {a b : After} → Calls r bytes a → Calls r bytes b → a ≡ b
chunks_alike {r} {bytes} {a} {b} c d = fed_one bytes r a b (calls_fed c) (calls_fed d)

-- What the calls print, and the end of the input, is the tryout of the bytes.
pub calls_tryout : {l : Lent} {bytes : List ℕ} {a : After} → Calls (run begun l) bytes a → Tryout l bytes (a.said ++ closing a.run.state)
calls_tryout {a = a} c = (a, calls_fed c, refl)

-- Also where the run has ended before the last byte.
pub calls_ended : {l : Lent} {bytes : List ℕ} {a : After} (rest : List ℕ) → Calls (run begun l) bytes a → has_ended a.run.state ≡ true
    → Tryout l (bytes ++ rest) (a.said ++ closing a.run.state)
calls_ended {l} {bytes} {a} rest c e =
    (after a.run (a.said ++ []), fed_both bytes rest (run begun l) a (after a.run []) (calls_fed c) (fed_ended rest a.run e), ap (λ (s : List ℕ). s ++ closing a.run.state) (sym (append-nil a.said)))

-- A text has one tryout in given lists.
pub tryout_one : (l : Lent) (input a b : List ℕ) → Tryout l input a → Tryout l input b → a ≡ b
tryout_one l input a b (x, f, e) (y, g, h) = e ∙ ap (λ (z : After). z.said ++ closing z.run.state) (fed_one input (run begun l) x y f g) ∙ sym h
